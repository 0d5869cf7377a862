-- What the small calls need: a file asked for by number, a text at the front of an output, the name of a file. And where a
-- file stands that was asked for.
-- Assumes nothing.
use Prim.Native.Nat.{ℕ, ◌+◌, ◌-◌, ◌≤◌, ◌<◌}
use mathlib.Core.Path.{◌≡◌, refl, sym, ap, ◌∙◌}
use mathlib.Core.Bool.{Bool, true, false, cond, ◌&&◌}
use mathlib.Core.List.{List, [], ◌++◌}
use native.Mathlib.Omega.{arith}
use borrow.Author.Tests.{eq-eqb, ne_eqb, eqb-true, lt-ltb, le-ltb, le-leb, lt-leb, leb-true}
use lib.ListN.{length, set, take, drop, replicate, length-append}
use lib.Seq.{take-append_seam}
use lib.Dec.{eqb, ltb, leb}
use Rattle.json_bytes.specs.Ascii.{codes}
use Rattle.table_rows.proofs.Laws.{all, all-total}
use Rattle.parts.specs.Part.{part_of}
use Rattle.parts.specs.Files.{bytes_of}
use Rattle.parts.proofs.Laws.{part-is}
use Rattle.bundle_bytes.specs.Pieces.{written}
use Rattle.bundle_bytes.proofs.Laws.{written_none, written-fits}
use Rattle.bundle_layout.specs.Bundle.{offset_at, length_at, is_omitted, part_at, file_at, lookup_fault, part_asked}
use Rattle.bundle_layout.proofs.Laws.{omitted-file, present-file, omitted-offset, omitted-length}
use Rattle.bundle_layout.specs.Put.{empty_bundle}
use Rattle.file_names.specs.Names.{file_names, file_name}
use Rattle.output.specs.Output.{output_at, put}
use Rattle.output.proofs.Puts.{put_front}
use Rattle.gate_lists.specs.declared.Which.{Which}
use Rattle.gate_lists.specs.declared.Which.TheVariants.{Schedule, Baseline, Contract}
use Rattle.gate_lists.specs.Which.{gate_called}
use Rattle.schedule.proofs.Laws.{files-are}
use Rattle.baseline.proofs.Laws.{files-are as baseline-files}
use Rattle.contract.proofs.Laws.{files-are as contract-files}
use Rattle.gate_names.specs.Names.{contract_file_names, contract_file, file_name_of}
use Rattle.gate_c.specs.Calls.{which_of, gate_numbered, file_fault, unless_refused, present_number, file_place, empty_of, name_of, length_in}

-- ---- a file asked for: refused, and not
module _ (gate : ℕ) (s : List ℕ) (file : ℕ) (present place : List ℕ) where
  pub gate-unknown : 2 < gate → 103 ≡ file_fault gate s file present place
  unfolding file_fault
  gate-unknown l = rw (lt-ltb 2 gate l)

  pub present-ill : gate ≤ 2 → (length present ≡ 1 → ⊥) → 100 ≡ file_fault gate s file present place
  unfolding file_fault
  present-ill known n = rw (le-ltb 2 gate known, ne_eqb (length present) 1 n)

  pub place-ill : gate ≤ 2 → length present ≡ 1 → (length place ≡ 2 → ⊥) → 100 ≡ file_fault gate s file present place
  unfolding file_fault
  place-ill known l n = rw (le-ltb 2 gate known, eq-eqb (length present) 1 l, ne_eqb (length place) 2 n)

  pub lists-well : gate ≤ 2 → length present ≡ 1 → length place ≡ 2 → {w : Which} {n r : ℕ} → w ≡ which_of gate → n ≡ (gate_called w).files → r ≡ lookup_fault n s file → r ≡ file_fault gate s file present place
  unfolding file_fault
  lists-well known l m w-is n-is e =
      rw (le-ltb 2 gate known, eq-eqb (length present) 1 l, eq-eqb (length place) 2 m, ← w-is, ← n-is) e

  -- a question that is not refused came with lists of the right length
  pub lists-fit : file_fault gate s file present place ≡ 0 → (length present ≡ 1) × (length place ≡ 2)
  unfolding file_fault
  lists-fit = go (ltb 2 gate) (eqb (length present) 1) (eqb (length place) 2) refl refl
    where
      go : (k t u : Bool) → eqb (length present) 1 ≡ t → eqb (length place) 2 ≡ u → cond k 103 (cond (t && u) (lookup_fault (gate_numbered gate).files s file) 100) ≡ 0 → (length present ≡ 1) × (length place ≡ 2)
      go true t u e f z = absurd (omega arith)
      go false true true e f z = (eqb-true _ 1 e, eqb-true _ 2 f)
      go false true false e f z = absurd (omega arith)
      go false false u e f z = absurd (omega arith)

  abbrev Asked : ℕ → List ℕ → List ℕ → Type 0
  Asked r last last' = (r ≡ file_fault gate s file present place) × ((last ≡ unless_refused r (set present 0 (present_number s file)) present) × (last' ≡ unless_refused r (file_place s file place) place))

  pub asked-ill : {f : ℕ} → f ≡ file_fault gate s file present place → (f ≡ 0 → ⊥) → Asked f present place
  unfolding unless_refused
  asked-ill e some = (e, (rw (ne_eqb _ 0 some), rw (ne_eqb _ 0 some)))

  pub asked-well : {f n from size : ℕ} → f ≡ file_fault gate s file present place → f ≡ 0 → n ≡ present_number s file → from ≡ offset_at s file → size ≡ length_at s file → Asked 0 (set present 0 n) (set (set place 0 from) 1 size)
  unfolding unless_refused file_place
  asked-well e none p q r = (sym none ∙ e, (rw p, rw (q, r)))

-- what stands there is the file, of a bundle of n
pub stands-there : (n : ℕ) (s : List ℕ) (file : ℕ) → lookup_fault n s file ≡ 0 → part_of s (offset_at s file) (offset_at s file + length_at s file) ≡ part_asked n s file
unfolding part_asked part_at bytes_of
stands-there n s file none = rw (eq-eqb _ 0 none) (go (is_omitted s file) refl)
  where
    go : (t : Bool) → is_omitted s file ≡ t → part_at s file ≡ bytes_of (file_at s file)
    go true e = rw (omitted-file s file e, omitted-offset s file e, omitted-length s file e) (part-is s 0 0 (omega arith) (omega arith))
    go false e = rw (present-file s file e)

-- ---- a text at the front of an output
module _ (out text : List ℕ) where
  abbrev Front : ℕ → List ℕ → Type 0
  Front r last = (r ≡ length_in out text) × (last ≡ written out 0 text)

  pub front-none : length out < length text → Front 0 out
  unfolding length_in
  front-none l = (rw (lt-leb _ _ l), written_none out 0 text (omega arith))

  pub front-well : length text ≤ length out → {last : List ℕ} → last ≡ written out 0 text → Front (length text) last
  unfolding length_in
  front-well l e = (rw (le-leb _ _ l), e)

pub front_of : (out : List ℕ) {text others : List ℕ} {r : ℕ} {last : List ℕ} → text ≡ others → Front out text r last → Front out others r last
front_of out {text} {others} e f = rw (← e) f

-- nothing at all
pub front-empty : (out : List ℕ) {text : List ℕ} → [] ≡ text → Front out text 0 out
front-empty out e = rw (← e) (front-well out [] (omega arith) (sym (written-fits out 0 [] (omega arith))))

-- ---- the bundle with no files: of a number that is a gate's and of any other
pub empty-unknown : (gate : ℕ) → 2 < gate → [] ≡ empty_of gate
unfolding empty_of
empty-unknown gate l = rw (lt-ltb 2 gate l)

-- the contract side has four files, each other gate twenty
four-files : (gate : ℕ) → gate ≡ 2 → 4 ≡ (gate_numbered gate).files
unfolding which_of gate_called
four-files gate two = rw (eq-eqb gate 2 two) (sym contract-files)

twenty-files : (gate : ℕ) → (gate ≡ 2 → ⊥) → 20 ≡ (gate_numbered gate).files
unfolding which_of gate_called
twenty-files gate other = rw (ne_eqb gate 2 other) (go (eqb gate 1))
  where
    go : (t : Bool) → 20 ≡ (gate_called (cond t Baseline Schedule)).files
    go true = sym baseline-files
    go false = sym files-are

pub empty-of-four : (gate : ℕ) → gate ≤ 2 → gate ≡ 2 → {bundle : List ℕ} → bundle ≡ empty_bundle 4 → bundle ≡ empty_of gate
unfolding empty_of
empty-of-four gate known two e = rw (le-ltb 2 gate known, ← four-files gate two) e

pub empty-of-twenty : (gate : ℕ) → gate ≤ 2 → (gate ≡ 2 → ⊥) → {bundle : List ℕ} → bundle ≡ empty_bundle 20 → bundle ≡ empty_of gate
unfolding empty_of
empty-of-twenty gate known other e = rw (le-ltb 2 gate known, ← twenty-files gate other) e

-- ---- a name that was put into 36 bytes, for it is never longer
abbrev pub room : List ℕ
room = replicate 36 0

pub name-read : {name : List ℕ} → length name ≤ 36 → {d r : List ℕ} {end : ℕ} → output_at d end ≡ put (output_at room 0) name → r ≡ part_of d 0 end → r ≡ name
name-read {name} short h q =
    let both = h ∙ put_front room name short in
    let rest = drop (length name) room in
    let off : length name - 0 ≡ length name = omega arith in
    q
    ∙ rw (ap (λ o. o.place) both, ap (λ o. o.bytes) both) (part-is (name ++ rest) 0 (length name) (omega arith) (omega (arith, length-append name rest)) ∙ ap (λ n. take n (name ++ rest)) off ∙ take-append_seam name rest)

-- ---- the name of a file: computed over all of them
abbrev short : List ℕ → Bool
short name = leb (length name) 36

files-short : all short file_names ≡ true
unfolding all file_names codes
files-short = refl

contract-short : all short contract_file_names ≡ true
unfolding all contract_file_names codes
contract-short = refl

file-short : (which : Which) (file : ℕ) → length (file_name_of which file) ≤ 36
unfolding file_name_of file_name contract_file
file-short Schedule file = leb-true _ 36 (all-total short [] file_names files-short refl file)
file-short Baseline file = leb-true _ 36 (all-total short [] file_names files-short refl file)
file-short Contract file = leb-true _ 36 (all-total short [] contract_file_names contract-short refl file)

pub file-unknown : (gate file : ℕ) → 2 < gate → [] ≡ name_of gate file
unfolding name_of
file-unknown gate file l = rw (lt-ltb 2 gate l)

pub file-named : (gate file : ℕ) → gate ≤ 2 → {w : Which} → w ≡ which_of gate → {d r : List ℕ} {end : ℕ} → output_at d end ≡ put (output_at room 0) (file_name_of w file) → r ≡ part_of d 0 end → r ≡ name_of gate file
unfolding name_of
file-named gate file known {w} e h q = name-read (file-short w file) h q ∙ rw (le-ltb 2 gate known, ← e)
