-- A value that two tables have byte for byte: where it begins with a string of bytes that are characters by themselves, these are
-- its characters in both, so one is a target of the other.
-- Assumes nothing.
use Rattle.std.proofs.Common.{◌≡◌, ℕ, ◌+◌, ◌-◌, ◌<◌, ◌≤◌, Bool, true, false, eqb, ltb, List, ◌++◌, length, take, drop, sym, refl, ap, ◌∙◌, arith, lit<, length-drop, take-append-drop, get_or-drop, drop-drop, ltb-false, ltb-true, eqb-true}
use borrow.Author.Tests.{eqb-false}
use lib.ListN.{get_or-append}
use lib.Seq.{take-append-le, drop-append-le}
use Rattle.json_bytes.specs.Reads.{byte_at}
use Rattle.json_bytes.proofs.Laws.{inside}
use Rattle.json_chars.specs.Chars.{chars_at}
use Rattle.json_chars.specs.Step.{step_at}
use Rattle.json_chars.specs.declared.Step.TheVariants.{Char}
use Rattle.json_chars.proofs.Plain.{chars-plain}
use Rattle.json_text.specs.Run.{run_end, plain_end}
use Rattle.json_text.proofs.Laws.{run_of, graphic-step}
use Rattle.json_text.proofs.Plain.{plain-unopened, plain-empty, plain-goes-on}
use Rattle.json_same.specs.Same.{same_list}
use Rattle.json_same.specs.declared.Case.TheVariants.{Folded}
use Rattle.json_same.proofs.Laws.{same-equal, same_refl}
use Rattle.rule_cells.specs.Cells.{table, start_of}
use Rattle.rule_target.specs.Target.{target_of}
use Rattle.ordered_target.proofs.Laws.{seen}

-- ---- bytes that begin with such a string
module _ (a : List ℕ) (some : 0 < plain_end a 0) where
  -- a test without which there is none
  asks : (t : Bool) → (t ≡ false → plain_end a 0 ≡ 0) → t ≡ true
  asks true none = refl
  asks false none = absurd (omega (arith, none refl))

  abbrev close : ℕ
  close = run_end a 1

  opens : byte_at a 0 ≡ 34
  opens = eqb-true (byte_at a 0) 34 (asks (eqb (byte_at a 0) 34) (λ e. plain-unopened a 0 (eqb-false (byte_at a 0) 34 e)))

  goes_on : 1 < close
  goes_on = ltb-true 1 close (asks (ltb 1 close) (λ e. plain-empty a 0 close opens refl (ltb-false 1 close e)))

  closes : byte_at a close ≡ 34
  closes = eqb-true (byte_at a close) 34 (asks (eqb (byte_at a close) 34) (λ e. plain-goes-on a 0 close opens refl goes_on (eqb-false (byte_at a close) 34 e)))

  within-bytes : close < length a
  within-bytes = inside a close 34 closes (lit< tt)

  -- wherever these bytes stand, what is between the quotes is the text there
  module _ (s rest : List ℕ) (at : ℕ) (there : drop at s ≡ a ++ rest) where
    byte-there : (k : ℕ) → k < length a → byte_at s (at + k) ≡ byte_at a k
    byte-there k l = sym (get_or-drop at s k 0) ∙ ap (λ (x : List ℕ). byte_at x k) there ∙ get_or-append a rest 0 k l

    own-there : (k : ℕ) → at + 1 ≤ k → k < at + close → step_at s k ≡ Char (byte_at s k) (k + 1)
    own-there k l m =
        let is : at + (k - at) ≡ k = omega arith in
        let byte : byte_at s k ≡ byte_at a (k - at) = rw is at (byte-there (k - at) (omega (arith, within-bytes))) in
        (graphic-step s k (rw byte ((run_of a 1 close refl).graphic (k - at) (omega arith) (omega arith)))).0

    text-there : chars_at s at ≡ take (close - 1) (drop 1 a)
    text-there =
        let first : byte_at s at ≡ 34 = ap (byte_at s) (omega arith) ∙ byte-there 0 (omega (arith, within-bytes)) ∙ opens in
        let last : byte_at s (at + close) ≡ 34 = byte-there close within-bytes ∙ closes in
        let long : at + close - (at + 1) ≡ close - 1 = omega arith in
        let behind : drop (at + 1) s ≡ drop 1 a ++ rest = sym (drop-drop 1 at s) ∙ ap (drop 1) there ∙ drop-append-le 1 a rest (omega (arith, within-bytes)) in
        chars-plain s at (at + close) first (omega (arith, goes_on)) own-there last ∙ rw (long, behind) (take-append-le (close - 1) (drop 1 a) rest (omega (arith, within-bytes, length-drop 1 a)))

-- ---- the bytes that a list has from a place on
text-of-bytes : (a s : List ℕ) (from k : ℕ) (some : 0 < plain_end a 0) → a ≡ take k (drop from s) → chars_at s from ≡ take (close a some - 1) (drop 1 a)
text-of-bytes a s from k some is = text-there a some s (drop k (drop from s)) from (rw is (sym (take-append-drop k (drop from s))))

-- the same bytes in two tables, with such a string in them
pub copy_seen : (s : List ℕ) (at k : ℕ) (u cells : List ℕ) (width n m q start l j : ℕ) (a b : List ℕ) → q < n → start ≡ start_of cells width q m → a ≡ take k (drop at s) → b ≡ take l (drop start u) → same_list a b ≡ true → j ≡ plain_end a 0 → 0 < j → eqb (target_of (chars_at s at) (table u cells width n) m) 0 ≡ false
copy_seen s at k u cells width n m q start l j a b in_table is_start is_a is_b same is_end h =
    let some : 0 < plain_end a 0 = rw is_end at h in
    let texts : chars_at s at ≡ chars_at u start = text-of-bytes a s at k some is_a ∙ sym (text-of-bytes a u start l some (same-equal a b same ∙ is_b)) in
    seen (chars_at s at) u cells width n m q start in_table is_start (rw texts (same_refl Folded (chars_at u start)))
