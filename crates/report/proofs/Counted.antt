-- The count on the last line is that of the lines before it: a line has one line feed, at its end, and a number has none.
-- Assumes nothing.
use Prim.Native.Nat.{ℕ, zero, suc, ◌+◌, ◌/◌, ◌%◌}
use mathlib.Core.Path.{◌≡◌, refl, ap, ◌∙◌}
use mathlib.Core.Bool.{Bool, true, false, cond}
use mathlib.Core.List.{List, [], ◌∷◌, ◌++◌}
use native.Mathlib.Omega.{arith}
use borrow.Author.Tests.{ne_eqb, ltb-true, ltb-false}
use lib.ListN.{length, get_or}
use lib.Dec.{ltb, eqb}
use Rattle.json_bytes.specs.Ascii.{codes}
use Rattle.bundle_bytes.specs.Pieces.{joined}
use Rattle.mark_numbers.specs.Marks.{Marks, mark_in, faults_up_to, faults_in}
use Rattle.mark_numbers.specs.declared.Mark.{Mark}
use Rattle.output.specs.Decimal.{digits_in, decimal}
use Rattle.report.specs.Report.{line_numbers, line_of, line_in, lines_up_to}
use Rattle.output.proofs.Digits.{digits_last, digits_more}

unfoldable pub feeds_in : List ℕ → ℕ
feeds_in [] = 0
feeds_in (b ∷ s) = feeds_in s + cond (eqb b 10) 1 0

feeds-append : (s t : List ℕ) → feeds_in (s ++ t) ≡ feeds_in s + feeds_in t
unfolding feeds_in
feeds-append [] t = omega arith
feeds-append (b ∷ s) t = omega (arith, feeds-append s t)

other_byte : (b : ℕ) → (b ≡ 10 → ⊥) → feeds_in (b ∷ []) ≡ 0
unfolding feeds_in
other_byte b n = rw (ne_eqb b 10 n)

digits-feeds : (f x : ℕ) → feeds_in (digits_in f x) ≡ 0
unfolding feeds_in digits_in
digits-feeds zero x = refl
digits-feeds (suc f) x = go (digits-feeds f (x / 10)) (ltb x 10) refl
  where
    go : feeds_in (digits_in f (x / 10)) ≡ 0 → (t : Bool) → ltb x 10 ≡ t → feeds_in (digits_in (suc f) x) ≡ 0
    go h true e = ap feeds_in (digits_last f x (ltb-true x 10 e)) ∙ other_byte (48 + x) (omega arith)
    go h false e =
        ap feeds_in (digits_more f x (ltb-false x 10 e)) ∙ omega (arith, feeds-append (digits_in f (x / 10)) ((48 + x % 10) ∷ []), h, other_byte (48 + x % 10) (omega arith))

decimal-feeds : (x : ℕ) → feeds_in (decimal x) ≡ 0
unfolding decimal
decimal-feeds x = digits-feeds (suc x) x

line-feeds : (m : ℕ) (mark : Mark) → feeds_in (line_of m mark) ≡ cond (eqb mark.kind 0) 0 1
unfolding line_of line_numbers codes feeds_in
line-feeds m mark = go (eqb mark.kind 0)
  where
    go : (t : Bool) → feeds_in (cond t [] (decimal m ++ codes " " ++ decimal mark.kind ++ codes " " ++ decimal mark.place ++ codes " " ++ decimal mark.companion ++ codes "\n")) ≡ cond t 0 1
    go true = refl
    go false = simp (feeds-append, decimal-feeds)

-- the lines of the marks below n are as many as the faults among them
lines-counted : (marks : Marks) (n : ℕ) → feeds_in (lines_up_to marks n) ≡ faults_up_to marks.kinds n
unfolding lines_up_to joined line_in mark_in faults_up_to feeds_in
lines-counted marks zero = refl
lines-counted marks (suc n) =
    feeds-append (joined (line_in marks) n) (line_in marks n) ∙ rw (line-feeds n (mark_in marks n), lines-counted marks n) (go (eqb (get_or marks.kinds n 0) 0) (faults_up_to marks.kinds n))
  where
    go : (t : Bool) (found : ℕ) → found + cond t 0 1 ≡ cond t found (found + 1)
    go true found = omega arith
    go false found = refl

pub last-count : (marks : Marks) → feeds_in (lines_up_to marks (length marks.kinds)) ≡ faults_in marks.kinds
unfolding faults_in
last-count marks = lines-counted marks (length marks.kinds)
