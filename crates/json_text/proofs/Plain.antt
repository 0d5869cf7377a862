-- A string that has only bytes which are characters by themselves and break no rule: these are its characters, and it is
-- read whole.
-- Assumes nothing.
use Rattle.std.specs.Prelude.{Ok}
use Rattle.std.proofs.Common.{◌≡◌, ℕ, ◌+◌, ◌-◌, ◌<◌, ◌≤◌, Bool, true, false, cond, eqb, ltb, List, length, take, drop, refl, arith, lit<, ltb-true, le-ltb, lt-ltb, eq-eqb, ne_eqb, eqb-true}
use Rattle.json_bytes.specs.Reads.{byte_at}
use Rattle.json_bytes.proofs.Laws.{inside}
use Rattle.json_chars.specs.Chars.{chars_at}
use Rattle.json_chars.proofs.Plain.{closing-step, chars-plain}
use Rattle.json_text.specs.Run.{Run, run_end, plain_end}
use Rattle.json_text.specs.Text.{text_read}
use Rattle.json_text.specs.declared.TextType.{TextType}
use Rattle.json_text.specs.declared.TextType.TheVariants.{Text}
use Rattle.json_text.proofs.Laws.{run_of, graphic-step, opened, along-end, take-close}

module _ (s : List ℕ) (at : ℕ) where
  -- ---- what decides it
  pub plain-unopened : (byte_at s at ≡ 34 → ⊥) → plain_end s at ≡ 0
  unfolding plain_end
  plain-unopened n = rw (ne_eqb (byte_at s at) 34 n)

  module _ (j : ℕ) (quote : byte_at s at ≡ 34) (is : j ≡ run_end s (at + 1)) where
    pub plain-empty : j ≤ at + 1 → plain_end s at ≡ 0
    unfolding plain_end
    plain-empty l = rw (eq-eqb (byte_at s at) 34 quote, ← is, le-ltb (at + 1) j l)

    module _ (l : at + 1 < j) where
      pub plain_closed : byte_at s j ≡ 34 → plain_end s at ≡ j
      unfolding plain_end
      plain_closed e = rw (eq-eqb (byte_at s at) 34 quote, ← is, lt-ltb (at + 1) j l, eq-eqb (byte_at s j) 34 e)

      pub plain-goes-on : (byte_at s j ≡ 34 → ⊥) → plain_end s at ≡ 0
      unfolding plain_end
      plain-goes-on n = rw (eq-eqb (byte_at s at) 34 quote, ← is, lt-ltb (at + 1) j l, ne_eqb (byte_at s j) 34 n)

  -- ---- what it says
  pub record Plain (j : ℕ) : Type 0 where
    pub quote : byte_at s at ≡ 34
    pub end : j ≡ run_end s (at + 1)
    pub some : at + 1 < j
    pub run : Run s (at + 1) j
    pub close : byte_at s j ≡ 34

  plain : (j : ℕ) → j ≡ plain_end s at → 0 < j → Plain j
  unfolding plain_end
  plain j is h = go (eqb (byte_at s at) 34) (ltb (at + 1) (run_end s (at + 1))) (eqb (byte_at s (run_end s (at + 1))) 34) refl refl refl is
    where
      go : (t u v : Bool) → eqb (byte_at s at) 34 ≡ t → ltb (at + 1) (run_end s (at + 1)) ≡ u → eqb (byte_at s (run_end s (at + 1))) 34 ≡ v → j ≡ cond t (cond u (cond v (run_end s (at + 1)) 0) 0) 0 → Plain j
      go true true true p q r e =
          record {
            quote = eqb-true (byte_at s at) 34 p;
            end = e;
            some = rw (← e) at (ltb-true (at + 1) (run_end s (at + 1)) q);
            run = run_of s (at + 1) j e;
            close = rw (← e) at (eqb-true (byte_at s (run_end s (at + 1))) 34 r);
          }
      go true true false p q r e = absurd (omega (arith, e))
      go true false v p q r e = absurd (omega (arith, e))
      go false u v p q r e = absurd (omega (arith, e))

  module _ (j : ℕ) (is : j ≡ plain_end s at) (h : 0 < j) where
    pub plain-inside : (at + 1 < j) × (j < length s)
    plain-inside =
        let p = plain j is h in
        (p.some, inside s j 34 p.close (lit< tt))

    -- it breaks no rule, whatever its type
    pub plain-read : (ty : TextType) → text_read ty s at ≡ record { reading = Ok (j + 1); wrong = record { rule = 0; place = 0 } }
    plain-read ty =
        let p = plain j is h in
        take-close ty s at (record { rule = 0; place = 0 }) j _ (along-end ty s at (record { rule = 0; place = 0 }) (at + 1) j true (opened ty s at (omega (arith, plain-inside.0, plain-inside.1)) p.quote) p.end) (closing-step s j p.close)

    pub plain-text : text_read Text s at ≡ record { reading = Ok (j + 1); wrong = record { rule = 0; place = 0 } }
    plain-text = plain-read Text

    pub plain-chars : chars_at s at ≡ take (j - (at + 1)) (drop (at + 1) s)
    plain-chars =
        let p = plain j is h in
        chars-plain s at j p.quote (omega (arith, p.some)) (λ k a b. (graphic-step s k (p.run.graphic k a b)).0) p.close
