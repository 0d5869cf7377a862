-- What the call for a mark's reason answers: with a fault of its own, refused, and told. And the name of a field.
-- Assumes nothing.
use Prim.Native.Nat.{ℕ, ◌≤◌, ◌<◌}
use mathlib.Core.Path.{◌≡◌, refl, sym, ap, ◌∙◌}
use mathlib.Core.Bool.{Bool, true}
use mathlib.Core.List.{List, []}
use borrow.Author.Tests.{eq-eqb, ne_eqb, lt-ltb, le-ltb, leb-true}
use lib.ListN.{length, get_or}
use lib.Dec.{leb}
use Rattle.reason_answer.specs.declared.Reason.{Reason}
use Rattle.reason_numbers.specs.Numbers.{told_numbers, told_over}
use Rattle.parts.specs.Part.{part_of}
use Rattle.json_bytes.specs.Ascii.{codes}
use Rattle.table_rows.specs.Rows.{Field}
use Rattle.table_rows.proofs.Laws.{all, all-total}
use Rattle.table_fields.specs.Fields.{tables, fields_of}
use Rattle.contract_fields.specs.Fields.{contract_tables, contract_fields_of}
use Rattle.output.specs.Output.{output_at, put}
use Rattle.gate_calls.specs.Lent.{work_left}
use Rattle.gate_calls.specs.Reasons.{reason_asked, refusal_of, reason_left}
use Rattle.gate_lists.specs.declared.Which.{Which}
use Rattle.gate_lists.specs.declared.Which.TheVariants.{Schedule, Baseline, Contract}
use Rattle.gate_lists.specs.Which.{gate_called}
use Rattle.gate_names.specs.Names.{no_field, name_among, table_fields, field_name_of}
use Rattle.gate_c.specs.Calls.{unless_refused, which_of, gate_numbered}
use Rattle.gate_c.specs.Reasons.{reason_called, field_named}
use Rattle.gate_c.proofs.Laws.{kept, replaced}
use Rattle.gate_c.proofs.Files.{room, name-read}

-- ---- the reason of a mark
module _ (gate : ℕ) (s : List ℕ) (mark : ℕ) (told work : List ℕ) where
  abbrev asked : Reason
  asked = reason_called gate s mark told (length work)

  abbrev Told : ℕ → List ℕ → List ℕ → Type 0
  Told r last left =
      (r ≡ refusal_of asked) × ((last ≡ unless_refused r (told_numbers asked) told) × (left ≡ reason_left (gate_numbered gate) s mark asked work))

  pub told-unknown : 2 < gate → Told 103 told work
  unfolding reason_called refusal_of unless_refused reason_left work_left
  told-unknown l = rw (lt-ltb 2 gate l) (refl, (refl, refl))

  module _ (known : gate ≤ 2) where
    pub told-ill : (length told ≡ 9 → ⊥) → Told 100 told work
    unfolding reason_called refusal_of unless_refused reason_left work_left
    told-ill n = rw (le-ltb 2 gate known, ne_eqb (length told) 9 n) (refl, (refl, refl))

    -- with a list of nine the call is the gate's own
    module _ (nine : length told ≡ 9) {w : Which} (w-is : w ≡ which_of gate) {x : Reason} {left : List ℕ}
        (is : (x ≡ reason_asked (gate_called w) s (length work) mark) × (left ≡ reason_left (gate_called w) s mark x work)) {f : ℕ} (f-is : f ≡ refusal_of x) where
      called-well : x ≡ asked
      unfolding reason_called
      called-well = rw (le-ltb 2 gate known, eq-eqb (length told) 9 nine, ← w-is) is.0

      left-well : left ≡ reason_left (gate_numbered gate) s mark asked work
      left-well = is.1 ∙ ap (λ v. reason_left (gate_called v) s mark x work) w-is ∙ ap (λ y. reason_left (gate_numbered gate) s mark y work) called-well

      pub told-refused : (f ≡ 0 → ⊥) → Told f told left
      told-refused some = (f-is ∙ ap refusal_of called-well, (sym (kept (told_numbers asked) told f some), left-well))

      pub told-well : f ≡ 0 → {last : List ℕ} → last ≡ told_over x told → Told 0 last left
      unfolding told_over
      told-well none e =
          (sym none ∙ f-is ∙ ap refusal_of called-well, (rw (eq-eqb _ 9 nine) at e ∙ ap told_numbers called-well ∙ sym (replaced (told_numbers asked) told 0 refl), left-well))

-- ---- the name of a field: computed over all of them
abbrev short : Field → Bool
short f = leb (length f.name) 36

fields-short : all (all short) tables ≡ true
unfolding all tables codes
fields-short = refl

contract-fields-short : all (all short) contract_tables ≡ true
unfolding all contract_tables codes
contract-fields-short = refl

name-short : (given : List (List Field)) → all (all short) given ≡ true → (file field : ℕ) → length (name_among (get_or given file []) field) ≤ 36
unfolding name_among all
name-short given e file field =
    leb-true _ 36 (all-total short no_field (get_or given file []) (all-total (all short) [] given e refl file) refl field)

field-short : (which : Which) (file field : ℕ) → length (field_name_of which file field) ≤ 36
unfolding field_name_of table_fields fields_of contract_fields_of
field-short Schedule file field = name-short tables fields-short file field
field-short Baseline file field = name-short tables fields-short file field
field-short Contract file field = name-short contract_tables contract-fields-short file field

pub field-unknown : (gate file field : ℕ) → 2 < gate → [] ≡ field_named gate file field
unfolding field_named
field-unknown gate file field l = rw (lt-ltb 2 gate l)

pub field-named : (gate file field : ℕ) → gate ≤ 2 → {w : Which} → w ≡ which_of gate → {d r : List ℕ} {end : ℕ} → output_at d end ≡ put (output_at room 0) (field_name_of w file field) → r ≡ part_of d 0 end → r ≡ field_named gate file field
unfolding field_named
field-named gate file field known {w} e h q = name-read (field-short w file field) h q ∙ rw (le-ltb 2 gate known, ← e)
