-- Collecting a string's characters into an array of ten: those collected and those left are the whole.
-- Assumes nothing.
use Prim.Native.Nat.{ℕ, ◌+◌, ◌≤◌, ◌<◌}
use mathlib.Core.Path.{◌≡◌, refl, sym, ap, ◌∙◌}
use mathlib.Core.List.{List, [], ◌∷◌, ◌++◌, append_assoc, append-nil}
use native.Mathlib.Numerals.{add-one}
use native.Mathlib.Omega.{arith}
use lib.ListN.{length, take, set, length-append, length-set}
use lib.Seq.{take-suc-set, length-take-le}
use lib.Dec.{lit<}
use Rattle.json_bytes.specs.Reads.{byte_at}
use Rattle.json_bytes.proofs.Laws.{inside}
use Rattle.json_chars.specs.Step.{step_at}
use Rattle.json_chars.specs.Chars.{chars_at}
use Rattle.json_chars.specs.declared.Step.TheVariants.{Char, Close, Bad}
use Rattle.json_chars.proofs.Bounds.{step-good, Good}
use Rattle.json_chars.proofs.Walk.{Left, Taken, take-char, take-close, take-bad, opened, unopened}
use Rattle.std.specs.Prelude.{None}
use Rattle.json_date.specs.Date.{date_of}
use Rattle.json_date.proofs.Laws.{not-ten}

pub none-there : (s : List ℕ) (at : ℕ) → (byte_at s at ≡ 34 → ⊥) → date_of (chars_at s at) ≡ None
none-there s at n = not-ten (chars_at s at) (λ q. omega (arith, q, ap length (unopened s at n)))

pub record Collected (s : List ℕ) (i : ℕ) (c : List ℕ) (n : ℕ) (whole : List ℕ) : Type 0 where
  pub cs : List ℕ
  pub left : Left s i cs
  pub size : length c ≡ 10
  pub fits : n ≤ 10
  pub split : whole ≡ take n c ++ cs

pub collect-start : (s : List ℕ) (at : ℕ) (c : List ℕ) → length c ≡ 10 → byte_at s at ≡ 34 → Collected s (at + 1) c 0 (chars_at s at)
collect-start s at c l e =
    record { cs = chars_at s at; left = opened s at (inside s at 34 e (lit< tt)) e; size = l; fits = omega arith; split = refl }

one_more : (c : List ℕ) (n code : ℕ) (whole cs others : List ℕ) → n < length c → whole ≡ take n c ++ cs → cs ≡ code ∷ others → whole ≡ take (n + 1) (set c n code) ++ others
one_more c n code whole cs others l p q = p ∙ rw (q, add-one n, take-suc-set c n code l, append_assoc)

one-over : (c : List ℕ) (n code : ℕ) (whole cs others : List ℕ) → n ≤ length c → whole ≡ take n c ++ cs → cs ≡ code ∷ others → n < length whole
one-over c n code whole cs others l p q = rw (p, q, length-append, length-take-le n c l) (omega arith)

module _ (s : List ℕ) (i : ℕ) (c : List ℕ) (n : ℕ) (whole : List ℕ) (w : Collected s i c n whole) where
  module _ (code next : ℕ) (e : step_at s i ≡ Char code next) where
    pub collect-goes-on : Good s i (Char code next)
    collect-goes-on = rw e at (step-good s i w.left.inside)

    pub collect-more : n < 10 → Collected s next (set c n code) (n + 1) whole
    collect-more l =
        let t : Taken s code next w.cs = take-char s i w.cs w.left code next e in
        record {
          cs = t.others;
          left = t.left;
          size = length-set c n code ∙ w.size;
          fits = omega arith;
          split = one_more c n code whole w.cs t.others (omega (arith, w.size)) w.split t.first;
        }

    -- an eleventh character
    pub collect-over : 10 ≤ n → date_of whole ≡ None
    collect-over l =
        let t : Taken s code next w.cs = take-char s i w.cs w.left code next e in
        not-ten whole (λ q. omega (arith, one-over c n code whole w.cs t.others (omega (arith, w.size, w.fits)) w.split t.first))

  -- at the end the collected are the whole
  all-collected : w.cs ≡ [] → take n c ≡ whole
  all-collected q = sym (w.split ∙ ap (λ (l : List ℕ). take n c ++ l) q ∙ append-nil (take n c))

  pub collect-close : step_at s i ≡ Close → take n c ≡ whole
  collect-close e = all-collected (take-close s i w.cs w.left e)

  pub collect-bad : (kind place : ℕ) → step_at s i ≡ Bad kind place → take n c ≡ whole
  collect-bad kind place e = all-collected (take-bad s i w.cs w.left kind place e)
