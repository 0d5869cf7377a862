-- What a call with a list leaves: where it is not refused there was room, and the entries' numbers stand in the workspace.
-- Assumes nothing.
use Prim.Native.Nat.{ℕ, ◌+◌, ◌*◌, ◌≤◌, ◌<◌}
use mathlib.Core.Path.{◌≡◌, refl, sym, ap, ◌∙◌}
use mathlib.Core.Bool.{Bool, true, false, cond, ◌&&◌, true≢false}
use mathlib.Core.List.{List}
use native.Mathlib.Omega.{arith}
use borrow.Author.Tests.{eq-eqb, ne_eqb, eqb-true, eqb-false, leb-true}
use lib.ListN.{length}
use lib.Dec.{leb, eqb}
use Rattle.json_bytes.proofs.Laws.{both_right}
use Rattle.parts.specs.Files.{File}
use Rattle.mark_numbers.specs.Marks.{Marks}
use Rattle.entries.specs.declared.Entry.{Entry}
use Rattle.entries.specs.Flat.{flat_of}
use Rattle.entries.proofs.Flat.{flat-long}
use Rattle.gate_marks.specs.declared.Scope.{Scope}
use Rattle.gate_marks.specs.Gate.{Gate}
use Rattle.gate_marks.specs.Work.{room_start}
use Rattle.gate_marks.specs.Again.{is_needed, workspace_of, has_lists, work_judged}
use Rattle.gate_calls.specs.Calls.{Answer, answer}
use Rattle.schedule.specs.Schedule.{schedule}
use Rattle.schedule.proofs.Laws.{workspace-is}
use Rattle.set_entries.specs.Entries.{set_entries}
use Rattle.set_entries.specs.Work.{list_space_of, set_listed}
use Rattle.set_entries.proofs.There.{Stands, stand-listed, stand_read}
use Rattle.gate_flat.specs.declared.Listed.{Listed}
use Rattle.gate_flat.specs.Listed.{has_list_space, over_list, unless_short, listed_of, list_left}

-- ---- where a call is not refused there was room, in the workspace and in the list
module _ (g : Gate) (lent : ℕ) (handed back : Marks) (entries : List Entry) (places : ℕ) (whole : Answer) where
  short-enough : (unless_short entries places back whole).refusal ≡ 0 → length entries ≤ places
  unfolding unless_short
  short-enough e = go (eqb whole.refusal 0) refl (leb (length entries) places) refl e
    where
      go : (t : Bool) → eqb whole.refusal 0 ≡ t → (r : Bool) → leb (length entries) places ≡ r → (cond t (cond r whole (answer 8 0 back)) whole).refusal ≡ 0 → length entries ≤ places
      go true q true l z = leb-true (length entries) places l
      go true q false l z = absurd (true≢false (sym (eq-eqb 8 0 z)))
      go false q r l z = absurd (eqb-false whole.refusal 0 q z)

  pub room-there : (over_list g lent handed back (unless_short entries places back whole)).refusal ≡ 0 → (list_space_of g ≤ lent) × (length entries ≤ places)
  unfolding over_list has_list_space
  room-there e = go (has_lists g handed) (has_list_space g lent) refl e
    where
      go : (l r : Bool) → (leb g.files 32 && leb (list_space_of g) lent) ≡ r → (cond l (cond r (unless_short entries places back whole) (answer 14 0 back)) (answer 100 0 handed)).refusal ≡ 0 → (list_space_of g ≤ lent) × (length entries ≤ places)
      go true true q z = (leb-true (list_space_of g) lent (both_right (leb g.files 32) (leb (list_space_of g) lent) q), short-enough z)
      go true false q z = absurd (true≢false (sym (eq-eqb 14 0 z)))
      go false r q z = absurd (true≢false (sym (eq-eqb 100 0 z)))

-- ---- the entries
room-before : room_start schedule.expected schedule.files ≤ 794702
unfolding workspace_of
room-before =
    let e : room_start schedule.expected schedule.files ≡ 794702 = workspace-is in omega (arith, e)

module _ (scope : Scope) (files : ℕ → File) (work : List ℕ) (places : ℕ) (x : Answer) where
  abbrev es : List Entry
  es = set_entries schedule scope files

  module _ (room : x.refusal ≡ 0 → (list_space_of schedule ≤ length work) × (length es ≤ places)) {r : Listed} (r-is : r ≡ listed_of es x) {left : List ℕ} (left_is : left ≡ list_left schedule scope files r.refusal work) where
    same-refusal : r.refusal ≡ x.refusal
    unfolding listed_of
    same-refusal = ap (λ (y : Listed). y.refusal) r-is

    -- refused: none
    pub none : (r.refusal ≡ 0 → ⊥) → r.entries ≡ 0
    unfolding listed_of
    none n = ap (λ (y : Listed). y.entries) r-is ∙ rw (ne_eqb x.refusal 0 (λ z. n (same-refusal ∙ z)))

    -- not refused: all, and their numbers are there
    module _ (z : r.refusal ≡ 0) where
      pub many : r.entries ≡ length es
      unfolding listed_of
      many = ap (λ (y : Listed). y.entries) r-is ∙ rw (eq-eqb x.refusal 0 (sym same-refusal ∙ z))

      pub there : Stands left 794702 (flat_of es)
      unfolding list_left set_listed set_entries work_judged list_space_of
      there =
          let space : 794702 + 16384 * 16 ≤ length work = omega (arith, (room (sym same-refusal ∙ z)).0, workspace-is) in
          let listed : Stands (set_listed schedule scope files work) 794702 (flat_of es) = rw workspace-is (stand-listed schedule.expected (is_needed schedule scope) files 794702 work (omega arith) 16 space) in
          rw (left_is, eq-eqb r.refusal 0 z) (stand_read _ schedule.expected (is_needed schedule scope) files 794702 (flat_of es) (set_listed schedule scope files work) schedule.files room-before listed)

    pub within : (r.entries ≤ places) × (0 < r.entries → 794702 + 4 * r.entries ≤ length left)
    within = go (eqb r.refusal 0) refl
      where
        go : (t : Bool) → eqb r.refusal 0 ≡ t → (r.entries ≤ places) × (0 < r.entries → 794702 + 4 * r.entries ≤ length left)
        go true q =
            let z = eqb-true r.refusal 0 q in
            (omega (arith, many z, (room (sym same-refusal ∙ z)).1), λ _. omega (arith, many z, (there z).0, flat-long es))
        go false q =
            let e = none (eqb-false r.refusal 0 q) in
            (omega (arith, e), λ l. absurd (omega (arith, e, l)))
