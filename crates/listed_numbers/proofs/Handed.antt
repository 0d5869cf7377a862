-- The list after a call: the entries' numbers that the call left in the workspace.
-- Assumes nothing.
use Prim.Native.Nat.{ℕ, zero, suc, ◌+◌, ◌-◌, ◌*◌, ◌≤◌, ◌<◌}
use mathlib.Core.Path.{◌≡◌, refl, sym, ap, subst, ◌∙◌}
use mathlib.Core.Bool.{Bool, true, false, cond}
use mathlib.Core.List.{List, []}
use native.Mathlib.Nat.{zero-add}
use native.Mathlib.Omega.{arith}
use borrow.Author.Tests.{eqb-true, eqb-false}
use lib.ListN.{length, take, drop, get_or, set}
use lib.Seq.{paste}
use lib.Dec.{eqb}
use Rattle.parts.specs.Files.{File}
use Rattle.mark_numbers.specs.Marks.{Marks, fresh_marks}
use Rattle.bundle_bytes.specs.Pieces.{written}
use Rattle.bundle_bytes.proofs.Laws.{pasted-more}
use Rattle.bundle_layout.specs.Bundle.{file_at}
use Rattle.bundle_layout.specs.Change.{files_after}
use Rattle.entries.specs.declared.Entry.{Entry}
use Rattle.entries.specs.Flat.{flat_of}
use Rattle.entries.proofs.Flat.{written-nothing, flat-long}
use Rattle.gate_marks.specs.declared.Scope.{Scope}
use Rattle.gate_marks.specs.declared.Scope.TheVariants.{Full, Change}
use Rattle.gate_marks.specs.Gate.{marks_of}
use Rattle.gate_calls.specs.Calls.{Answer, judgement, tried, change_made}
use Rattle.schedule.specs.Schedule.{schedule}
use Rattle.set_entries.specs.Entries.{set_entries}
use Rattle.set_entries.specs.Work.{list_space_of}
use Rattle.gate_flat.specs.declared.Listed.{Listed}
use Rattle.gate_flat.specs.Listed.{judge_listed, try_listed, make_listed, listed_of, list_left}
use Rattle.gate_flat.proofs.Left.{none, many, there, within, room-there}
use Rattle.listed_numbers.specs.Numbers.{places_in, numbers_after, numbers_from}

-- ---- numbers written over the start of a list, one more
pub put-more : (d v : List ℕ) (i : ℕ) → length v ≤ length d → i < length v → {e : List ℕ} → e ≡ paste d 0 v i → set e i (get_or v i 0) ≡ paste d 0 v (i + 1)
put-more d v i l h {e} q = subst (λ (n : ℕ). set e n (get_or v i 0) ≡ paste d 0 v (i + 1)) (zero-add i) (pasted-more d 0 v i (omega arith) h q)

-- ---- what is handed over: nothing, or some
pub none-handed : (list work : List ℕ) (from n : ℕ) → n ≡ 0 → list ≡ written list 0 (numbers_from work from n)
unfolding numbers_from
none-handed list work from n z = rw z (sym (written-nothing list 0))

pub some-within : (from n l : ℕ) → (0 < n → from + 4 * n ≤ l) → (n ≡ 0 → ⊥) → from + 4 * n ≤ l
some-within from zero l f p = absurd (p refl)
some-within from (suc n) l f p = f (omega arith)

pub some-handed : (list work : List ℕ) (from n : ℕ) {last : List ℕ} → last ≡ written list 0 (take (from + 4 * n - from) (drop from work)) → last ≡ written list 0 (numbers_from work from n)
unfolding numbers_from
some-handed list work from n e =
    let same : from + 4 * n - from ≡ 4 * n = omega arith in
    e ∙ ap (λ m. written list 0 (take m (drop from work))) same

module _ (scope : Scope) (files : ℕ → File) (work list : List ℕ) (x : Answer) where
  abbrev es : List Entry
  es = set_entries schedule scope files

  module _ (room : x.refusal ≡ 0 → (list_space_of schedule ≤ length work) × (length es ≤ places_in list)) {r : Listed} (r-is : r ≡ listed_of es x) {left : List ℕ} (left_is : left ≡ list_left schedule scope files r.refusal work) where
    enough : 0 < r.entries → 794702 + 4 * r.entries ≤ length left
    enough = (within scope files work (places_in list) x room r-is left_is).1

    handed-over : {last : List ℕ} → last ≡ written list 0 (numbers_from left 794702 r.entries) → last ≡ numbers_after r.refusal es list
    unfolding numbers_after numbers_from
    handed-over {last} e = go (eqb r.refusal 0) refl
      where
        go : (t : Bool) → eqb r.refusal 0 ≡ t → last ≡ cond t (written list 0 (flat_of es)) list
        go true q =
            let z = eqb-true r.refusal 0 q in
            let long : 4 * r.entries ≡ length (flat_of es) = ap (λ n. 4 * n) (many scope files work (places_in list) x room r-is left_is z) ∙ sym (flat-long es) in
            e ∙ ap (λ v. written list 0 v) (ap (λ n. take n (drop 794702 left)) long ∙ (there scope files work (places_in list) x room r-is left_is z).1)
        go false q = e ∙ sym (none-handed list left 794702 r.entries (none scope files work (places_in list) x room r-is left_is (eqb-false r.refusal 0 q)))

-- ---- of each call
module _ (s : List ℕ) (handed : Marks) (work list : List ℕ) {r : Listed} (r-is : r ≡ listed_of (set_entries schedule Full (file_at s)) (judge_listed schedule s (length work) (places_in list) handed)) {left : List ℕ} (left_is : left ≡ list_left schedule Full (file_at s) r.refusal work) where
  judge-room : (judge_listed schedule s (length work) (places_in list) handed).refusal ≡ 0 → (list_space_of schedule ≤ length work) × (length (set_entries schedule Full (file_at s)) ≤ places_in list)
  unfolding judge_listed
  judge-room = room-there schedule (length work) handed (fresh_marks (marks_of schedule)) (set_entries schedule Full (file_at s)) (places_in list) (judgement schedule s)

  pub judge-enough : 0 < r.entries → 794702 + 4 * r.entries ≤ length left
  judge-enough = enough Full (file_at s) work list (judge_listed schedule s (length work) (places_in list) handed) judge-room r-is left_is

  pub judge-handed : {last : List ℕ} → last ≡ written list 0 (numbers_from left 794702 r.entries) → last ≡ numbers_after r.refusal (set_entries schedule Full (file_at s)) list
  judge-handed = handed-over Full (file_at s) work list (judge_listed schedule s (length work) (places_in list) handed) judge-room r-is left_is

module _ (s : List ℕ) (k : ℕ) (f : File) (handed : Marks) (work list : List ℕ) where
  abbrev changed : List Entry
  changed = set_entries schedule (Change k) (files_after s k f)

  module _ {r : Listed} (r-is : r ≡ listed_of changed (try_listed schedule s k f (length work) (places_in list) handed)) {left : List ℕ} (left_is : left ≡ list_left schedule (Change k) (files_after s k f) r.refusal work) where
    try-room : (try_listed schedule s k f (length work) (places_in list) handed).refusal ≡ 0 → (list_space_of schedule ≤ length work) × (length changed ≤ places_in list)
    unfolding try_listed
    try-room = room-there schedule (length work) handed handed changed (places_in list) (tried schedule s k f handed)

    pub try-enough : 0 < r.entries → 794702 + 4 * r.entries ≤ length left
    try-enough = enough (Change k) (files_after s k f) work list (try_listed schedule s k f (length work) (places_in list) handed) try-room r-is left_is

    pub try-handed : {last : List ℕ} → last ≡ written list 0 (numbers_from left 794702 r.entries) → last ≡ numbers_after r.refusal changed list
    try-handed = handed-over (Change k) (files_after s k f) work list (try_listed schedule s k f (length work) (places_in list) handed) try-room r-is left_is

  module _ (room : ℕ) {r : Listed} (r-is : r ≡ listed_of changed (make_listed schedule s k f room (length work) (places_in list) handed)) {left : List ℕ} (left_is : left ≡ list_left schedule (Change k) (files_after s k f) r.refusal work) where
    make-room : (make_listed schedule s k f room (length work) (places_in list) handed).refusal ≡ 0 → (list_space_of schedule ≤ length work) × (length changed ≤ places_in list)
    unfolding make_listed
    make-room = room-there schedule (length work) handed handed changed (places_in list) (change_made schedule s k f handed room)

    pub make-enough : 0 < r.entries → 794702 + 4 * r.entries ≤ length left
    make-enough = enough (Change k) (files_after s k f) work list (make_listed schedule s k f room (length work) (places_in list) handed) make-room r-is left_is

    pub make-handed : {last : List ℕ} → last ≡ written list 0 (numbers_from left 794702 r.entries) → last ≡ numbers_after r.refusal changed list
    make-handed = handed-over (Change k) (files_after s k f) work list (make_listed schedule s k f room (length work) (places_in list) handed) make-room r-is left_is
