-- What a caller needs of a string: read whole, it ends within the file and after it began; a fault's place lies within
-- the file or at its length, and so does the first wrong character's.
-- Assumes nothing.
use Rattle.std.specs.Prelude.{Ok, Err}
use Rattle.std.proofs.Common.{ℕ, zero, suc, ◌+◌, ◌≤◌, Bool, true, ◌||◌, eqb, ltb, List, length, arith, eqb-true}
use Rattle.json_bytes.specs.Reads.{byte_at, Reading, fault_at}
use Rattle.json_bytes.proofs.Laws.{inside, by-test, either}
use Rattle.json_bytes.proofs.Bounds.{Within}
use Rattle.json_chars.specs.Step.{step_at}
use Rattle.json_chars.specs.declared.Step.{Step}
use Rattle.json_chars.specs.declared.Step.TheVariants.{Char, Close, Bad}
use Rattle.json_chars.proofs.Bounds.{step-good, Good}
use Rattle.json_text.specs.Text.{text_from, text_read_at, rule_broken, none, wrong_here, first_wrong, closes_at, wrong_from, wrong_at}
use Rattle.json_text.specs.declared.TextType.{TextType}
use Rattle.json_text.specs.declared.Wrong.{Wrong}

-- a reading from a later place is one from an earlier place
pub earlier : (s : List ℕ) (i j : ℕ) → i ≤ j → (r : Reading) → Within s j r → Within s i r
earlier s i j l (Ok end) q = (omega (arith, q.0), q.1)
earlier s i j l (Err e) q = q

from_step : (f : ℕ) (s : List ℕ) (i : ℕ) → ((next : ℕ) → next ≤ length s → Within s next (text_from f s next)) → (t : Step) → Good s i t → Within s i (elim t [ Char code next ↦ text_from f s next | Close ↦ Ok (i + 1) | Bad kind place ↦ fault_at kind place ])
from_step f s i rest (Char code next) g = earlier s i next (omega (arith, g.0)) (text_from f s next) (rest next g.1)
from_step f s i rest Close g = (omega arith, omega (arith, g))
from_step f s i rest (Bad kind place) g = g

from-within : (f : ℕ) (s : List ℕ) (i : ℕ) → i ≤ length s → Within s i (text_from f s i)
unfolding text_from
from-within zero s i l = l
from-within (suc f) s i l = from_step f s i (λ next. from-within f s next) (step_at s i) (step-good s i l)

pub text-within : (s : List ℕ) (at : ℕ) → at ≤ length s → Within s at (text_read_at s at)
unfolding text_read_at
text-within s at l =
    by-test (Within s at) (eqb (byte_at s at) 34) _ _
    (λ e. earlier s at (at + 1) (omega arith) (text_from (length s) s (at + 1))
    (from-within (length s) s (at + 1) (omega (arith, inside s at 34 (eqb-true (byte_at s at) 34 e) (omega arith)))))
    (λ _. l)

-- ---- the first wrong character
-- what holds of none, and of every wrong character within the file, holds of the first
module _ (P : Wrong → Type 0) (ty : TextType) (s : List ℕ) (of_none : P none) (of_char : (i code : ℕ) (edge : Bool) → i ≤ length s → P (record { rule = rule_broken ty code edge; place = i })) where
  of-here : (i code : ℕ) (edge : Bool) → i ≤ length s → P (wrong_here (rule_broken ty code edge) i)
  unfolding wrong_here
  of-here i code edge l = either P (ltb 0 (rule_broken ty code edge)) _ _ (of_char i code edge l) of_none

  of-first : (w v : Wrong) → P w → P v → P (first_wrong w v)
  unfolding first_wrong
  of-first w v p q = either P (ltb 0 w.rule) _ _ p q

  of-step : (f i : ℕ) (edge : Bool) → i ≤ length s → ((next : ℕ) (after : Bool) → next ≤ length s → P (wrong_from f ty s next after)) → (t : Step) → Good s i t → P (elim t [
    | Char code next ↦ first_wrong (wrong_here (rule_broken ty code (edge || closes_at s next)) i) (wrong_from f ty s next (eqb code 32))
    | Close ↦ none
    | Bad kind place ↦ none
  ])
  of-step f i edge l rest (Char code next) g =
      of-first _ _ (of-here i code (edge || closes_at s next) l) (rest next (eqb code 32) g.1)
  of-step f i edge l rest Close g = of_none
  of-step f i edge l rest (Bad kind place) g = of_none

  of-from : (f i : ℕ) (edge : Bool) → i ≤ length s → P (wrong_from f ty s i edge)
  unfolding wrong_from
  of-from zero i edge l = of_none
  of-from (suc f) i edge l = of-step f i edge l (of-from f) (step_at s i) (step-good s i l)

  pub of-wrong : (at : ℕ) → P (wrong_at ty s at)
  unfolding wrong_at
  of-wrong at =
      by-test P (eqb (byte_at s at) 34) _ _
      (λ e. of-from (length s) (at + 1) true (omega (arith, inside s at 34 (eqb-true (byte_at s at) 34 e) (omega arith))))
      (λ _. of_none)

pub wrong-within : (ty : TextType) (s : List ℕ) (at : ℕ) → (wrong_at ty s at).place ≤ length s
unfolding none
wrong-within ty s = of-wrong (λ (w : Wrong). w.place ≤ length s) ty s (omega arith) (λ i code edge l. l)
