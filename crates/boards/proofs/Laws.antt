-- What is written of so many marks, and what an accepted board says of each mark.
-- Assumes nothing.
use Prim.Native.Nat.{ℕ, ◌≤◌, ◌<◌}
use mathlib.Core.Path.{◌≡◌, refl, ◌∙◌}
use mathlib.Core.Bool.{Bool, true, false, cond}
use mathlib.Core.List.{List, [], ◌++◌}
use native.Mathlib.Omega.{arith}
use borrow.Author.Tests.{eq-eqb, eqb-true, leb-true, leb-false}
use lib.ListN.{length, get_or, drop}
use lib.Dec.{leb}
use Rattle.mark_numbers.specs.Marks.{Marks, have_length, faults_in}
use Rattle.mark_numbers.proofs.Laws.{Long, long-lists, none-says, none-if}
use Rattle.report.specs.Report.{report_of, text_room, text_in}
use Rattle.report.proofs.Written.{text-whole, text-short}
use Rattle.boards.specs.Board.{faults_of, accepted_board}
use Rattle.boards.specs.declared.Board.{Board}

module _ (n : ℕ) (few : n ≤ 999) (refusal : ℕ) (marks : Marks) (out : List ℕ) (long : Long n marks) where
  -- the text of n marks is written exactly where there is room for it
  text-is : text_in refusal marks (length out) ≡ cond (leb (text_room n) (length out)) (report_of refusal marks) []
  text-is = go (leb (text_room n) (length out)) refl
    where
      many : length marks.kinds ≡ n
      many = long.kinds-long

      same : have_length (length marks.kinds) marks ≡ true
      same = rw many (long-lists n marks long)

      go : (t : Bool) → leb (text_room n) (length out) ≡ t → text_in refusal marks (length out) ≡ cond t (report_of refusal marks) []
      go true e = text-whole refusal marks (length out) same (omega (arith, many)) (omega (arith, many, leb-true (text_room n) (length out) e))
      go false e = text-short refusal marks (length out) same (omega (arith, many)) (omega (arith, many, leb-false (text_room n) (length out) e))

  pub marks-written : {r : ℕ} {exit : List ℕ} → (r ≡ length (text_in refusal marks (length out))) × ((exit ≡ text_in refusal marks (length out) ++ drop (length (text_in refusal marks (length out))) out) × (r ≤ length out))
      → (r ≡ cond (leb (text_room n) (length out)) (length (report_of refusal marks)) 0) × ((exit ≡ cond (leb (text_room n) (length out)) (report_of refusal marks ++ drop (length (report_of refusal marks)) out) out) × (r ≤ length out))
  marks-written {r} {exit} (a, (b, c)) = go (leb (text_room n) (length out)) text-is
    where
      go : (t : Bool) → text_in refusal marks (length out) ≡ cond t (report_of refusal marks) [] → (r ≡ cond t (length (report_of refusal marks)) 0) × ((exit ≡ cond t (report_of refusal marks ++ drop (length (report_of refusal marks)) out) out) × (r ≤ length out))
      go true e = (a ∙ rw e, (b ∙ rw e, c))
      go false e = (a ∙ rw e, (b ∙ rw e, c))

-- ---- accepted exactly if every kind is 0
pub accepted-says : {N : ℕ} (board : Board N) → accepted_board board ≡ true → (m : ℕ) → m < length board.kinds → get_or board.kinds m 0 ≡ 0
unfolding accepted_board faults_of faults_in
accepted-says board e = none-says board.kinds (length board.kinds) (eqb-true _ 0 e)

pub accepted-if : {N : ℕ} (board : Board N) → ((m : ℕ) → m < length board.kinds → get_or board.kinds m 0 ≡ 0) → accepted_board board ≡ true
unfolding accepted_board faults_of faults_in
accepted-if board h = eq-eqb _ 0 (none-if board.kinds (length board.kinds) h)
