-- What `report` writes, by its tests, and that a text for which there is room goes whole to the front of the output.
-- Assumes nothing.
use Prim.Native.Nat.{ℕ, ◌≤◌, ◌<◌}
use mathlib.Core.Path.{◌≡◌, refl, ap, ◌∙◌}
use mathlib.Core.Bool.{true, false}
use mathlib.Core.List.{List, [], ◌++◌}
use native.Mathlib.Omega.{arith}
use borrow.Author.Tests.{le-leb, lt-leb, eq-eqb, ne_eqb}
use lib.ListN.{length, drop}
use Rattle.json_bytes.specs.Ascii.{codes}
use Rattle.mark_numbers.specs.Marks.{Marks, have_length}
use Rattle.report.specs.Report.{counted, board_text, refusal_text, report_of, text_room, is_printed, text_in}
use Rattle.output.specs.Output.{output_at, put}
use Rattle.output.proofs.Puts.{put_front}

-- ---- what is written, by the tests for it
module _ (refusal : ℕ) (marks : Marks) (room : ℕ) where
  pub text-unequal : have_length (length marks.kinds) marks ≡ false → text_in refusal marks room ≡ []
  unfolding text_in is_printed
  text-unequal n = rw n

  module _ (same : have_length (length marks.kinds) marks ≡ true) where
    pub text-many : 999 < length marks.kinds → text_in refusal marks room ≡ []
    unfolding text_in is_printed
    text-many l = rw (same, lt-leb _ 999 l)

    module _ (few : length marks.kinds ≤ 999) where
      pub text-short : room < text_room (length marks.kinds) → text_in refusal marks room ≡ []
      unfolding text_in is_printed
      text-short l = rw (same, le-leb _ 999 few, lt-leb _ room l)

      pub text-whole : text_room (length marks.kinds) ≤ room → text_in refusal marks room ≡ report_of refusal marks
      unfolding text_in is_printed
      text-whole l = rw (same, le-leb _ 999 few, le-leb _ room l)

-- ---- the answers of `report`
module _ (refusal : ℕ) (marks : Marks) (d : List ℕ) where
  -- the text is to be written, and there is room for it
  abbrev pub Due : Type 0
  Due = (text_in refusal marks (length d) ≡ report_of refusal marks) × (length (report_of refusal marks) ≤ length d)

  abbrev Answer : List ℕ → ℕ → Type 0
  Answer out end =
      (end ≡ length (text_in refusal marks (length d))) × ((out ≡ text_in refusal marks (length d) ++ drop (length (text_in refusal marks (length d))) d) × (end ≤ length d))

  pub nothing : text_in refusal marks (length d) ≡ [] → Answer d 0
  nothing e = rw e (refl, (refl, omega arith))

  module _ (due : Due) {out : List ℕ} {end : ℕ} where
    whole : output_at out end ≡ put (output_at d 0) (report_of refusal marks) → Answer out end
    whole q =
        let both : output_at out end ≡ output_at (report_of refusal marks ++ drop (length (report_of refusal marks)) d) (length (report_of refusal marks)) = q ∙ put_front d (report_of refusal marks) due.1 in
        rw due.0 (ap (λ o. o.place) both, (ap (λ o. o.bytes) both, rw (ap (λ o. o.place) both) due.1))

    pub board-whole : refusal ≡ 0 → output_at out end ≡ put (output_at d 0) (board_text marks) → Answer out end
    unfolding report_of
    board-whole z q = whole (rw (eq-eqb refusal 0 z) q)

    pub refusal-whole : (refusal ≡ 0 → ⊥) → output_at out end ≡ put (output_at d 0) (counted (codes "bundle ") refusal) → Answer out end
    unfolding report_of refusal_text
    refusal-whole z q = whole (rw (ne_eqb refusal 0 z) q)
