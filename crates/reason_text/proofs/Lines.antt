-- The sentence and the line of a mark put into an output, and the lines one behind the other.
-- Assumes nothing.
use Prim.Native.Nat.{ℕ, ◌+◌}
use mathlib.Core.Path.{◌≡◌, refl, ap, ◌∙◌}
use mathlib.Core.Bool.{Bool, true, false}
use mathlib.Core.List.{List, [], ◌∷◌}
use borrow.Author.Tests.{eq-eqb, ne_eqb}
use lib.Dec.{eqb}
use Rattle.json_bytes.specs.Ascii.{codes}
use Rattle.text_place.specs.declared.Spot.{Spot}
use Rattle.text_place.specs.Place.{spot_at}
use Rattle.bundle_bytes.specs.Pieces.{joined}
use Rattle.bundle_bytes.proofs.Laws.{joined-next}
use Rattle.output.specs.Output.{Output, put}
use Rattle.output.proofs.Puts.{put_then}
use Rattle.mark_numbers.specs.Marks.{Marks, mark_in}
use Rattle.mark_numbers.specs.declared.Mark.{Mark}
use Rattle.reason_answer.specs.declared.Reason.{Reason}
use Rattle.report.specs.Report.{line_numbers}
use Rattle.gate_lists.specs.declared.Which.{Which}
use Rattle.gate_lists.specs.Which.{gate_called}
use Rattle.gate_calls.specs.Reasons.{reason_of, value_shown}
use Rattle.wording.specs.declared.Slots.{Slots}
use Rattle.wording.specs.Sentences.{sentence_at}
use Rattle.wording.specs.Wording.{filled}
use Rattle.reason_text.specs.Sentence.{own_slots, sentence_number, slots_of, sentence_of}
use Rattle.reason_text.specs.Text.{is_silent, line_with, reason_line, reason_lines}

-- ---- what stands in the slots of a file's own mark
pub own_is : (file companion place : ℕ) {bytes v : List ℕ} {spot : Spot} → v ≡ bytes → spot ≡ spot_at v place → own_slots file companion spot ≡ own_slots file companion (spot_at bytes place)
own_is file companion place f e = ap (own_slots file companion) (e ∙ ap (λ v. spot_at v place) f)

-- ---- which marks are silent
module _ (grouped : Bool) (kind : ℕ) where
  pub silent-holds : kind ≡ 0 → true ≡ is_silent grouped kind
  unfolding is_silent
  silent-holds z = rw (eq-eqb kind 0 z)

  module _ (n : kind ≡ 0 → ⊥) where
    pub silent-grouped : grouped ≡ true → eqb kind 2 ≡ is_silent grouped kind
    unfolding is_silent
    silent-grouped e = rw (ne_eqb kind 0 n, e)

    pub silent-alone : grouped ≡ false → false ≡ is_silent grouped kind
    unfolding is_silent
    silent-alone e = rw (ne_eqb kind 0 n, e)

-- ---- a mark's sentence, and its line
module _ (which : Which) (s : List ℕ) (m : ℕ) (told : Reason) (o : Output) where
  pub sentence-put : {slots : Slots} {value : List ℕ} {n : ℕ} → slots ≡ slots_of s m told → value ≡ value_shown s told → n ≡ sentence_number which m told → {p : Output} → p ≡ put o (filled which slots value (sentence_at n)) → p ≡ put o (sentence_of which s m told)
  unfolding sentence_of
  sentence-put e f g h = h ∙ rw (e, f, g)

  pub line-put : (mark : Mark) {p q r t : Output} → p ≡ put o (line_numbers m mark) → q ≡ put p (32 ∷ []) → r ≡ put q (sentence_of which s m told) → t ≡ put r (10 ∷ []) → t ≡ put o (line_with which s m mark told)
  unfolding line_with codes
  line-put mark e f g h =
      put_then o _ (10 ∷ []) (put_then o _ (sentence_of which s m told) (put_then o (line_numbers m mark) (32 ∷ []) e f) g) h

-- ---- none for a silent mark, else with what is told of it
module _ (which : Which) (grouped : Bool) (s : List ℕ) (m : ℕ) (mark : Mark) (o : Output) {t : Bool} (t-is : t ≡ is_silent grouped mark.kind) where
  pub mark-none : t ≡ true → o ≡ put o (reason_line which grouped s m mark)
  unfolding reason_line put
  mark-none e = rw (← t-is, e)

  pub mark-put : t ≡ false → {told : Reason} → told ≡ reason_of (gate_called which) s m → {p : Output} → p ≡ put o (line_with which s m mark told) → p ≡ put o (reason_line which grouped s m mark)
  unfolding reason_line
  mark-put e f h = rw (← t-is, e, ← f) h

-- ---- the lines, one after the other
module _ (which : Which) (grouped : Bool) (s : List ℕ) (marks : Marks) (o : Output) where
  pub lines_start : o ≡ put o (reason_lines which grouped s marks 0)
  unfolding reason_lines joined put
  lines_start = refl

  pub lines_next : (m : ℕ) {x : Mark} {p q : Output} → x ≡ mark_in marks m → p ≡ put o (reason_lines which grouped s marks m) → q ≡ put p (reason_line which grouped s m x) → q ≡ put o (reason_lines which grouped s marks (m + 1))
  unfolding reason_lines
  lines_next m is e h =
      rw (joined-next (λ m. reason_line which grouped s m (mark_in marks m)) m)
      (put_then o (reason_lines which grouped s marks m) (reason_line which grouped s m (mark_in marks m)) e (rw is at h))

  pub lines_end : (m n : ℕ) {p : Output} → m ≡ n → p ≡ put o (reason_lines which grouped s marks m) → p ≡ put o (reason_lines which grouped s marks n)
  lines_end m n e h = h ∙ ap (λ k. put o (reason_lines which grouped s marks k)) e
