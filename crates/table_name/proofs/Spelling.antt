-- Putting a name's characters down one behind the other: those put down and those left are the whole, and what is left to
-- read ends where the whole does.
-- Assumes nothing.
use Rattle.std.specs.Prelude.{Ok}
use Prim.Native.Nat.{ℕ, ◌+◌, ◌≤◌, ◌<◌}
use mathlib.Core.Path.{◌≡◌, refl, sym, ap, ◌∙◌}
use mathlib.Core.Bool.{Bool, true, ◌||◌}
use mathlib.Core.List.{List, ◌∷◌, ◌++◌, append_assoc, append-nil}
use native.Mathlib.Numerals.{add-one}
use native.Mathlib.Omega.{arith}
use lib.ListN.{length, take, set, length-set}
use lib.Seq.{take-suc-set, length-take-le}
use lib.Dec.{lit<}
use Rattle.json_bytes.specs.Reads.{byte_at}
use Rattle.json_bytes.proofs.Laws.{inside}
use Rattle.json_chars.specs.Step.{step_at}
use Rattle.json_chars.specs.Chars.{chars_at}
use Rattle.json_chars.specs.declared.Step.TheVariants.{Char, Close}
use Rattle.json_chars.proofs.Bounds.{step-good, Good}
use Rattle.json_chars.proofs.Walk.{Left, Taken, take-char, take-close, opened}
use Rattle.json_text.specs.Text.{text_read_at, text_read, rule_broken, wrong_here, first_wrong, closes_at}
use Rattle.json_text.specs.declared.TextRead.{TextRead}
use Rattle.json_text.specs.declared.TextType.TheVariants.{Text}
use Rattle.json_text.specs.declared.Wrong.{Wrong}
use Rattle.json_text.proofs.Laws.{Left as LeftText, opened as text-opened, take-char as text-char, take-close as text-close}

pub record Spelled (s : List ℕ) (at : ℕ) (word : List ℕ) (n i : ℕ) : Type 0 where
  pub cs : List ℕ
  pub left : Left s i cs
  pub wrong : Wrong
  pub edge : Bool
  pub text : LeftText Text s at wrong i edge
  pub size : length word ≡ 32
  pub fits : n ≤ 32
  pub split : chars_at s at ≡ take n word ++ cs

pub spell-start : (s : List ℕ) (at : ℕ) (word : List ℕ) → length word ≡ 32 → byte_at s at ≡ 34 → Spelled s at word 0 (at + 1)
spell-start s at word size e =
    record {
      cs = chars_at s at;
      left = opened s at (inside s at 34 e (lit< tt)) e;
      wrong = record { rule = 0; place = 0 };
      edge = true;
      text = text-opened Text s at (inside s at 34 e (lit< tt)) e;
      size = size;
      fits = omega arith;
      split = refl;
    }

one_more : (word : List ℕ) (n code : ℕ) (whole cs others : List ℕ) → n < length word → whole ≡ take n word ++ cs → cs ≡ code ∷ others → whole ≡ take (n + 1) (set word n code) ++ others
one_more word n code whole cs others l p q = p ∙ rw (q, add-one n, take-suc-set word n code l, append_assoc)

module _ (s : List ℕ) (at : ℕ) (word : List ℕ) (n i : ℕ) (w : Spelled s at word n i) where
  module _ (code next : ℕ) (e : step_at s i ≡ Char code next) where
    pub spell-goes-on : Good s i (Char code next)
    spell-goes-on = rw e at (step-good s i w.left.inside)

    pub spell-more : n < 32 → Spelled s at (set word n code) (n + 1) next
    spell-more l =
        let t : Taken s code next w.cs = take-char s i w.cs w.left code next e in
        let near = w.edge || closes_at s next in
        record {
          cs = t.others;
          left = t.left;
          wrong = first_wrong w.wrong (wrong_here (rule_broken Text code near) i);
          edge = _;
          text = text-char Text s at w.wrong i w.edge w.text code next (rule_broken Text code near) near (first_wrong w.wrong (wrong_here (rule_broken Text code near) i)) e refl refl refl;
          size = length-set word n code ∙ w.size;
          fits = omega arith;
          split = one_more word n code (chars_at s at) w.cs t.others (omega (arith, w.size)) w.split t.first;
        }

  pub spell-inside : step_at s i ≡ Close → i < length s
  spell-inside e = rw e at (step-good s i w.left.inside)

  pub spell-whole : step_at s i ≡ Close → text_read_at s at ≡ Ok (i + 1)
  unfolding text_read
  spell-whole e = ap (λ (x : TextRead). x.reading) (text-close Text s at w.wrong i w.edge w.text e)

  pub spell-chars : step_at s i ≡ Close → take n word ≡ chars_at s at
  spell-chars e =
      sym (w.split ∙ ap (λ (l : List ℕ). take n word ++ l) (take-close s i w.cs w.left e) ∙ append-nil (take n word))

  pub spell-length : length (take n word) ≡ n
  spell-length = length-take-le n word (omega (arith, w.size, w.fits))
