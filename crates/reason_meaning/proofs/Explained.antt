-- Of every broken rule, the record shown breaks it and no earlier one does, the field shown decides it, and the value shown is
-- that field's in that record.
-- Assumes nothing.
use Prim.Native.Nat.{ℕ, ◌+◌, ◌-◌, ◌*◌, ◌≤◌, ◌<◌}
use mathlib.Core.Path.{◌≡◌, refl, sym, ap, ◌∙◌}
use mathlib.Core.Bool.{Bool, true, false, cond, ◌&&◌}
use mathlib.Core.List.{List}
use native.Mathlib.Omega.{arith}
use borrow.Author.Tests.{lt-ltb, eqb-true, ltb-true}
use lib.ListN.{length}
use lib.Dec.{eqb}
use Rattle.json_bytes.proofs.Laws.{either}
use Rattle.parts.specs.Files.{File, Left, Given, bytes_of}
use Rattle.mark_numbers.specs.declared.Mark.{Mark}
use Rattle.mark_numbers.specs.Marks.{holds, not_judged}
use Rattle.table_rows.specs.Rows.{Field}
use Rattle.json_same.specs.Same.{same_list}
use Rattle.table_file.specs.declared.FileRead.{FileRead}
use Rattle.table_file.specs.File.{Form, Fixed, Single, Records, Expected, omitted, fixed_read, read_as, file_of}
use Rattle.table_file.proofs.Kept.{file-records}
use Rattle.rule_cells.specs.Cells.{Table, cell_of, start_of, is_given}
use Rattle.rule_when.specs.declared.When.{When}
use Rattle.rule_key.specs.declared.Key.{Key}
use Rattle.rule_key.proofs.Laws.{Repeat}
use Rattle.rule_shape.specs.declared.Rule.{Rule}
use Rattle.rule_shape.specs.declared.Rule.TheVariants.{KeyOf, OneOf, NullUnless, GivenIf, GivenUnless, NoneBelow, SomeAbove, Together, LevelRun, ParentGiven, AllGiven, NoneGiven, InOrder, TreeLevels, TreeParent, TargetIn, ParentIs, LeafIn, EachHas}
use Rattle.rule_shape.specs.Rule.{first_file_of, second_file_of}
use Rattle.rules.specs.declared.Break.{Break}
use Rattle.rules.specs.Judge.{rule_break, is_judged, mark_of}
use Rattle.rules.proofs.Companion.{companion-of-key}
use Rattle.rule_reason.specs.Reason.{deciding_field, searched_in}
use Rattle.rule_meaning.specs.Decides.{IsMissing, Decides, Shows}
use Rattle.rule_meaning.proofs.Rules.{mark-shows}
use Rattle.table_meaning.specs.Meaning.{◌∈◌, Member, member, Says, IsValue as valued, IsNull as nulled, IsAbsent, Means}
use Rattle.table_meaning.proofs.Table.{table-cells}
use Rattle.table_meaning.proofs.Cells.{says, held-value, null-cell}
use Rattle.reason_answer.specs.declared.Shown.{Shown}
use Rattle.reason_answer.specs.declared.Reason.TheVariants.{Missing}
use Rattle.reason_answer.specs.Reason.{shown_at}
use Rattle.gate_marks.specs.Gate.{Gate, rule_of_mark}
use Rattle.gate_marks.specs.Work.{zeros, width_of, room_of, read_of}
use Rattle.gate_marks.specs.Marks.{table_of, rule_mark, rule_mark_at, mark_at}
use Rattle.reason.specs.Reason.{value_start, value_length, shown_of, broken_by, reason_at}
use Rattle.reason.proofs.Told.{rule-files}
use Rattle.reason.proofs.Laws.{rule-mark-is, shown, reason-broken}
use Rattle.reason_meaning.specs.Explains.{form_fields, is_single, ValueOf, IsValue, IsNull, table_judged, Reads, Explains, fields_end}

-- ---- a file that is readable and has a record means what its bytes say
text-records : (text s cells : List ℕ) → (read_as (Fixed text) s cells).read.records ≡ 0
unfolding read_as fixed_read
text-records text s cells = either (λ (r : FileRead). r.records ≡ 0) (same_list s text) _ _ refl refl

omitted-records : (required : Bool) → (omitted required).records ≡ 0
unfolding omitted
omitted-records required = either (λ (r : FileRead). r.records ≡ 0) required _ _ refl refl

form-means : (form : Form) (s cells : List ℕ) → (read_as form s cells).read.kind ≡ 0 → 0 < (read_as form s cells).read.records → Means (is_single form) (form_fields form) s (read_as form s cells).cells (read_as form s cells).read.records
unfolding is_single form_fields read_as
form-means (Fixed text) s cells e l = absurd (omega (arith, text-records text s cells))
form-means (Single fields) s cells e l = table-cells fields s cells true e
form-means (Records fields) s cells e l = table-cells fields s cells false e

file-means : (e : Expected) (f : File) → (read_of e f).read.kind ≡ 0 → 0 < (read_of e f).read.records → Means (is_single e.form) (form_fields e.form) (bytes_of f) (read_of e f).cells (read_of e f).read.records
unfolding read_of file_of bytes_of
file-means e Left z l = absurd (omega (arith, omitted-records e.required))
file-means e (Given s) z l = form-means e.form s (zeros (room_of e.form)) z l

form-width : (form : Form) → width_of form ≡ 2 * length (form_fields form)
unfolding width_of form_fields
form-width (Fixed text) = refl
form-width (Single fields) = refl
form-width (Records fields) = refl

-- ---- the deciding field is one that the rule's row names
decides_below : (places texts : List ℕ) (rule : Rule) (t u : Table) (r k : ℕ) → Decides places texts rule t u r k → k < fields_end rule
unfolding fields_end
decides_below places texts (KeyOf file key) t u r k d = omega arith
decides_below places texts (OneOf file field first count) t u r k d = omega (arith, d.0)
decides_below places texts (NullUnless file field when) t u r k d = omega (arith, d.0)
decides_below places texts (GivenIf file field when) t u r k d = omega (arith, d.0)
decides_below places texts (GivenUnless file field when) t u r k d = omega (arith, d.0)
decides_below places texts (NoneBelow file from to) t u r k d = d.inside
decides_below places texts (SomeAbove file from to) t u r k d = omega arith
decides_below places texts (Together file from to) t u r k d = d.inside
decides_below places texts (LevelRun file level) t u r k d = omega arith
decides_below places texts (ParentGiven file parent level id) t u r k d = omega arith
decides_below places texts (AllGiven file from to) t u r k d = d.inside
decides_below places texts (NoneGiven file from to) t u r k d = d.inside
decides_below places texts (InOrder file first second) t u r k d = omega (arith, d.0)
decides_below places texts (TreeLevels file level) t u r k d = omega arith
decides_below places texts (TreeParent file parent level id) t u r k d = omega arith
decides_below places texts (TargetIn file field when other id) t u r k d = omega (arith, d.0)
decides_below places texts (ParentIs file parent level id other other_id other_type value) t u r k d = omega arith
decides_below places texts (LeafIn file field other id level) t u r k d = omega (arith, d.0)
decides_below places texts (EachHas file field when other id) t u r k d = omega (arith, d.0)

-- ---- the value by its two cells
says-value : (members : List Member) (k : ℕ) {start end : ℕ} → Says members k start end → 0 < end → (name : ℕ) × (member name k start end false ∈ members)
says-value members k (valued {name} i) l = (name, i)
says-value members k (nulled i) l = absurd (omega arith)
says-value members k (IsAbsent out) l = absurd (omega arith)

module _ (single : Bool) (fields : List Field) (s cells : List ℕ) (n : ℕ) (means : Means single fields s cells n) (r : ℕ) (l : r < n) (k : ℕ) (m : k < length fields) (offset : ℕ) where
  abbrev width : ℕ
  width = 2 * length fields

  given-end : is_given cells width r k ≡ true → 0 < cell_of cells width r (2 * k + 1)
  unfolding is_given
  given-end e = ltb-true 0 _ e

  value-given : is_given cells width r k ≡ true → ValueOf (means.gives r l).members offset k (offset + start_of cells width r k) (cell_of cells width r (2 * k + 1) - start_of cells width r k)
  value-given e =
      let h = says-value (means.gives r l).members k (says single fields s cells n means r l k m) (given-end e) in
      IsValue h.1 (held-value single fields s cells n means r l k m e).some

  value-shown : ValueOf (means.gives r l).members offset k (value_start offset cells width r k) (value_length cells width r k)
  unfolding value_start value_length
  value-shown = go (is_given cells width r k) refl
    where
      go : (t : Bool) → is_given cells width r k ≡ t → ValueOf (means.gives r l).members offset k (cond t (offset + start_of cells width r k) 0) (cond t (cell_of cells width r (2 * k + 1) - start_of cells width r k) 0)
      go true e = value-given e
      go false e = IsNull ((null-cell single fields s cells n means r l k m).0 e)

-- ---- what is shown of a broken rule
judged-first : (first second : ℕ) (b : Break) → (mark_of (is_judged first second) b).kind ≡ 1 → first ≡ 0
unfolding mark_of is_judged
judged-first first second b =
    go (eqb first 0) refl (cond (eqb b.«record» 0) holds (record { kind = 1; place = b.«record»; companion = b.other }))
  where
    go : (t : Bool) → eqb first 0 ≡ t → (x : Mark) → (cond (t && eqb second 0) x not_judged).kind ≡ 1 → first ≡ 0
    go true e x k = eqb-true first 0 e
    go false e x k = absurd (omega arith)

repeat-of : (judged : Bool) (places texts : List ℕ) (rule : Rule) (t u : Table) (file : ℕ) (key : Key) → rule ≡ KeyOf file key → (x : Mark) → x ≡ mark_of judged (rule_break places texts rule t u) → x.kind ≡ 1
    → (i : ℕ) × ((q : ℕ) × ((x.place ≡ i + 1) × ((x.companion ≡ q + 1) × Repeat t key i q)))
repeat-of judged places texts rule t u file key is x x-is k =
    let as-key : x ≡ mark_of judged (rule_break places texts (KeyOf file key) t u) = rw is at x-is in
    rw as-key (companion-of-key judged places texts t u file key (rw as-key at k))

missing-of : (places texts : List ℕ) (rule : Rule) (t u : Table) (r k : ℕ) → Decides places texts rule t u r k → (file field : ℕ) (when : When) (other id : ℕ) → rule ≡ TargetIn file field when other id → IsMissing t k when u id places texts r
missing-of places texts rule t u r k d file field when other id is = (rw is at d).1

module _ (g : Gate) (offset : ℕ → ℕ) (files : ℕ → File) (m : ℕ) (l : g.files ≤ m) (e : (mark_at g m files).kind ≡ 1) (fits : fields_end (rule_of_mark g m) ≤ length (form_fields (g.expected (first_file_of (rule_of_mark g m))).form)) where
  abbrev rule : Rule
  rule = rule_of_mark g m

  abbrev first : ℕ
  first = first_file_of rule

  abbrev second : ℕ
  second = second_file_of rule

  both-there : (first < g.files) × (second < g.files)
  both-there = rule-files g m files l (λ z. omega arith)

  -- the mark is the rule's over its two tables
  mark-is : mark_at g m files ≡ mark_of (is_judged (read_of (g.expected first) (files first)).read.kind (read_of (g.expected second) (files second)).read.kind) (rule_break g.values g.texts rule (table_judged g files first) (table_judged g files second))
  unfolding rule_mark_at rule_mark
  mark-is = rule-mark-is g files m l ∙ rw (lt-ltb first g.files both-there.0, lt-ltb second g.files both-there.1)

  first-readable : (read_of (g.expected first) (files first)).read.kind ≡ 0
  first-readable = judged-first _ _ _ (rw mark-is at e)

  few : (table_judged g files first).records ≤ 4096
  unfolding table_of read_of
  few = file-records (g.expected first) (files first) (zeros (room_of (g.expected first).form))

  found : (r : ℕ) × (((mark_at g m files).place ≡ r + 1) × Shows g.values g.texts rule (table_judged g files first) (table_judged g files second) r (deciding_field rule (table_judged g files first) r))
  found = rw (sym mark-is) at (mark-shows g.values g.texts (table_judged g files first) (table_judged g files second) few rule _ (rw mark-is at e))

  abbrev at : ℕ
  at = found.0

  abbrev field : ℕ
  field = deciding_field rule (table_judged g files first) at

  abbrev here : Shows g.values g.texts rule (table_judged g files first) (table_judged g files second) at field
  here = found.1.1

  first-means : Reads g files first
  unfolding table_of
  first-means = file-means (g.expected first) (files first) first-readable (omega (arith, here.inside))

  field_fits : field < length (form_fields (g.expected first).form)
  field_fits = omega (arith, decides_below g.values g.texts rule (table_judged g files first) (table_judged g files second) at field here.field)

  value-is : ValueOf (first-means.gives at here.inside).members (offset first) field (value_start (offset first) (table_judged g files first).cells (2 * length (form_fields (g.expected first).form)) at field) (value_length (table_judged g files first).cells (2 * length (form_fields (g.expected first).form)) at field)
  value-is =
      value-shown (is_single (g.expected first).form) (form_fields (g.expected first).form) _ _ _ first-means at here.inside field field_fits (offset first)

  width_is : (table_judged g files first).width ≡ 2 * length (form_fields (g.expected first).form)
  unfolding table_of
  width_is = form-width (g.expected first).form

  abbrev seen : Shown
  seen =
      shown_at first (mark_at g m files).place (mark_at g m files).companion field (value_start (offset first) (table_judged g files first).cells (2 * length (form_fields (g.expected first).form)) at field) (value_length (table_judged g files first).cells (2 * length (form_fields (g.expected first).form)) at field)

  shown-is : shown g offset files m ≡ seen
  unfolding shown_of
  shown-is =
      let before : (mark_at g m files).place - 1 ≡ at = omega (arith, found.1.0) in
      rw (before, width_is)

  pub explained : Explains g offset files m (shown g offset files m)
  explained =
      rw shown-is (record {
        file-is = refl;
        r = at;
        record_is = found.1.0;
        shows = here;
        means = first-means;
        value = value-is;
      })

  -- ---- "a repeated key shows both records": the companion is the earliest record that has the key
  pub key-repeated : (file : ℕ) (key : Key) → rule ≡ KeyOf file key → (i : ℕ) × ((q : ℕ) × (((shown g offset files m).«record» ≡ i + 1) × (((shown g offset files m).companion ≡ q + 1) × Repeat (table_judged g files first) key i q)))
  unfolding shown_of
  key-repeated file key is = repeat-of _ g.values g.texts rule (table_judged g files first) (table_judged g files second) file key is (mark_at g m files) mark-is e

  -- ---- "A missing target names the table searched": no record of that table has the value
  module _ (file field : ℕ) (when : When) (other id : ℕ) (is : rule ≡ TargetIn file field when other id) where
    pub target-searched : reason_at g offset files m ≡ Missing (shown g offset files m) other
    unfolding searched_in broken_by
    target-searched = reason-broken g offset files m l e ∙ ap (λ (r : Rule). broken_by (searched_in r) (shown g offset files m)) is

    pub target-missing : (y : Shown) (x : Explains g offset files m y) → IsMissing (table_judged g files first) y.field when (table_judged g files other) id g.values g.texts x.r
    unfolding second_file_of
    target-missing y x =
        let there : second ≡ other = ap second_file_of is in
        rw there at (missing-of g.values g.texts rule (table_judged g files first) (table_judged g files second) x.r y.field x.shows.field file field when other id is)
