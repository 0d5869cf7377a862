-- Going along words with single spaces between them: what is passed so far, and how it ends.
-- Assumes nothing.
use Rattle.std.proofs.Common.{◌≡◌, ℕ, ◌+◌, ◌<◌, ◌≤◌, Bool, true, false, ltb, List, length, refl, arith, ltb-false, ltb-true}
use lib.Count.{count_trailing_zeros}
use Rattle.json_bytes.specs.Reads.{byte_at, within}
use Rattle.json_bytes.specs.Eight.{eight_at}
use Rattle.json_bytes.proofs.Eight.{Bytes}
use Rattle.json_text.specs.Run.{is_graphic, run_end, in_words, Words}
use Rattle.json_text.specs.Eight.{stop_bytes, first_byte}
use Rattle.json_text.proofs.Laws.{run_of, run-over, graphic-in, word_in}
use Rattle.json_text.proofs.Stops.{Stop, eight-stop}

-- from i up to j
abbrev InWords : List ℕ → ℕ → ℕ → Type 0
InWords s i j = (k : ℕ) → i ≤ k → k < j → in_words s k ≡ true

joined : (s : List ℕ) (i j r : ℕ) → InWords s i j → InWords s j r → InWords s i r
joined s i j r p q k a b = go (ltb k j) refl
  where
    go : (t : Bool) → ltb k j ≡ t → in_words s k ≡ true
    go true e = p k a (ltb-true k j e)
    go false e = q k (ltb-false k j e) b

pub record Passed (s : List ℕ) (i j : ℕ) : Type 0 where
  pub onwards : i ≤ j
  pub inside : j ≤ length s
  pub words : InWords s i j

module _ (s : List ℕ) (i : ℕ) where
  pub passed_none : i ≤ length s → Passed s i i
  passed_none l = record { onwards = omega arith; inside = l; words = λ k a b. absurd (omega arith) }

  -- a space at the start
  pub words-none : byte_at s i ≡ 32 → Words s i i
  unfolding is_graphic within
  words-none e = record { onwards = omega arith; each = λ k a b. absurd (omega arith); begins = λ l. absurd (omega arith); ends = rw e }

  module _ (j : ℕ) (past : Passed s i j) where
    -- all but the last of eight bytes that have no flag
    pub passed-seven : Bytes s → j + 8 ≤ length s → (stop : ℕ) → stop ≡ stop_bytes (eight_at s j) → stop ≡ 0 → Passed s i (j + 7)
    unfolding first_byte count_trailing_zeros
    passed-seven fs has stop are clear =
        let eight : Stop s 8 j 0 8 = rw clear at (eight-stop s fs j stop (first_byte stop) are refl) in
        record {
          onwards = omega (arith, past.onwards);
          inside = omega arith;
          words = joined s i j (j + 7) past.words (λ k a b. eight.before k a (omega arith) (omega arith));
        }

    module _ (begun : byte_at s i ≡ 32 → ⊥) where
      ended : (r : ℕ) → j ≤ r → InWords s j r → is_graphic (byte_at s r) ≡ false → Words s i r
      ended r l more ends =
          let all = joined s i j r past.words more in
          record {
            onwards = omega (arith, past.onwards);
            each = all;
            begins = λ m. word_in s i begun (all i (omega arith) m);
            ends = ends;
          }

      -- the first flag
      pub words-stop : Bytes s → (stop r : ℕ) → stop ≡ stop_bytes (eight_at s j) → (stop ≡ 0 → ⊥) → r ≡ first_byte stop → Words s i (j + r)
      words-stop fs stop r are some is =
          let eight = eight-stop s fs j stop r are is in
          ended (j + r) (omega arith) (λ k a b. eight.before k a b (omega (arith, (eight.at some).0))) (eight.at some).1

      -- the end of a last word
      pub words-over : (r : ℕ) → r ≡ run_end s j → Words s i r
      words-over r is =
          let run = run_of s j r is in
          ended r run.onwards (λ k a b. graphic-in s k (run.graphic k a b)) (rw is (run-over s j))
