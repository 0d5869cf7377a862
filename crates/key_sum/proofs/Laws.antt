-- Two strings that are the same text have one sum; and one turn of the walk along a string.
-- Assumes nothing.
use Rattle.std.proofs.Common.{◌≡◌, ℕ, ◌+◌, ◌*◌, ◌^◌, ◌<◌, true, List, [], ◌∷◌, map, sym, refl, ap, ◌∙◌, mod-lt, arith}
use Rattle.json_chars.specs.Step.{step_at}
use Rattle.json_chars.specs.Chars.{chars_at}
use Rattle.json_chars.specs.declared.Step.{Step}
use Rattle.json_chars.specs.declared.Step.TheVariants.{Char, Close, Bad}
use Rattle.json_chars.proofs.Walk.{Left, Taken, take-char, take-close, take-bad}
use Rattle.json_same.specs.Same.{cased_as, same_as}
use Rattle.json_same.specs.Walk.{beginning, is_end}
use Rattle.json_same.specs.declared.Case.TheVariants.{Folded}
use Rattle.json_same.proofs.Laws.{same-cased}
use Rattle.json_same.proofs.Walk.{begins}
use Rattle.key_sum.specs.Sum.{sum_with, sum_on, sum_of, key_sum}

-- ---- what the lookup rests on
pub same-text-same-sum : (a : List ℕ) (i : ℕ) (b : List ℕ) (j : ℕ) → same_as Folded (chars_at a i) (chars_at b j) ≡ true → key_sum a i ≡ key_sum b j
unfolding key_sum
same-text-same-sum a i b j e = ap sum_of (same-cased Folded (chars_at a i) (chars_at b j) e)

-- a sum has 32 bits
with-below : (sum c : ℕ) → sum_with sum c < 2 ^ 32
unfolding sum_with
with-below sum c = mod-lt (31 * sum + c) {m = 2 ^ 32} (omega arith)

on_below : (cs : List ℕ) (sum : ℕ) → sum < 2 ^ 32 → sum_on sum cs < 2 ^ 32
unfolding sum_on
on_below [] sum l = l
on_below (c ∷ cs) sum l = on_below cs (sum_with sum c) (with-below sum c)

pub sum_below : (s : List ℕ) (at : ℕ) → key_sum s at < 2 ^ 32
unfolding key_sum sum_of
sum_below s at = on_below (map (cased_as Folded) (chars_at s at)) 0 (omega arith)

-- at a place with a sum: what is left, summed from here on, gives the whole
pub record Summed (s : List ℕ) (at i sum : ℕ) : Type 0 where
  pub cs : List ℕ
  pub left : Left s i cs
  pub rest : key_sum s at ≡ sum_on sum (map (cased_as Folded) cs)

on-more : (sum code c r : ℕ) (cs others : List ℕ) → cs ≡ code ∷ others → c ≡ cased_as Folded code → r ≡ sum_with sum c → sum_on sum (map (cased_as Folded) cs) ≡ sum_on r (map (cased_as Folded) others)
unfolding sum_on
on-more sum code c r cs others e f g = rw (e, g, f)

pub sum-starts : (s : List ℕ) (at i : ℕ) → i ≡ beginning s at → Summed s at i 0
unfolding key_sum sum_of
sum-starts s at i e = record { cs = chars_at s at; left = begins s at i e; rest = refl }

module _ (s : List ℕ) (at i sum : ℕ) (w : Summed s at i sum) where
  none_left : (e : Step) → e ≡ step_at s i → is_end e ≡ true → w.cs ≡ []
  unfolding is_end
  none_left (Char code next) q t = cc
  none_left Close q t = take-close s i w.cs w.left (sym q)
  none_left (Bad kind place) q t = take-bad s i w.cs w.left kind place (sym q)

  pub sum-ends : (e : Step) → e ≡ step_at s i → is_end e ≡ true → sum ≡ key_sum s at
  unfolding sum_on
  sum-ends e q t = sym (w.rest ∙ rw (none_left e q t))

  pub sum_more : (code next c r : ℕ) → step_at s i ≡ Char code next → c ≡ cased_as Folded code → r ≡ sum_with sum c → Summed s at next r
  sum_more code next c r e f g =
      let t : Taken s code next w.cs = take-char s i w.cs w.left code next e in
      record { cs = t.others; left = t.left; rest = w.rest ∙ on-more sum code c r w.cs t.others t.first f g }
