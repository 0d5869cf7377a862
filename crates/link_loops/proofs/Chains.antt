-- The links of each class as a chain, made from the last link to the first.
-- Assumes nothing.
use Prim.Native.Nat.{ℕ, ◌+◌, ◌-◌, ◌≤◌, ◌<◌}
use mathlib.Core.Path.{◌≡◌, refl, sym, ap, ◌∙◌}
use mathlib.Core.List.{List}
use native.Mathlib.Omega.{arith}
use lib.ListN.{length, get_or, set, length-set}
use lib.Seq.{get_or-set_same, get_or-set_other}
use Rattle.link_loops.specs.Walk.{Least, Unchained, Chained}
use Rattle.link_loops.proofs.Turns.{same_or_not, above}
use Rattle.link_loops.proofs.Lists.{at}

module _ (from : List ℕ) where
  -- the links from i on are chained
  pub record Chaining (heads nexts : List ℕ) (i : ℕ) : Type 0 where
    pub heads-long : length heads ≡ length from
    pub nexts-long : length nexts ≡ length from
    pub below : (p : ℕ) → p < length from → get_or from p 0 < length from
    pub heads-are : (c : ℕ) → c < length from → Least (length from) (at from) i c (get_or heads c 0)
    pub nexts-are : (p : ℕ) → i ≤ p → p < length from → Least (length from) (at from) (p + 1) (get_or from p 0) (get_or nexts p 0)
    pub inside : i ≤ length from

  pub chain-starts : {heads nexts : List ℕ} → Unchained from heads nexts → Chaining heads nexts (length from)
  chain-starts u =
      record {
        heads-long = u.heads-long;
        nexts-long = u.nexts-long;
        below = u.below;
        heads-are = λ c h. record { is = λ l. absurd (omega (arith, u.empty c h)); first = λ p a b e. absurd (omega arith) };
        nexts-are = λ p a b. absurd (omega arith);
        inside = omega arith;
      }

  pub chain-ends : {heads nexts : List ℕ} {i : ℕ} → Chaining heads nexts i → i ≡ 0 → Chained from heads nexts
  chain-ends w z =
      record {
        heads-long = w.heads-long;
        nexts-long = w.nexts-long;
        heads-are = λ c h. rw z at (w.heads-are c h);
        nexts-are = λ p h. w.nexts-are p (omega arith) h;
      }

  module _ {heads nexts : List ℕ} {i : ℕ} (w : Chaining heads nexts i) (j : ℕ) (next : j + 1 ≡ i) where
    pub class-below : get_or from j 0 < length from
    class-below = w.below j (omega (arith, w.inside))

    module _ {heads' nexts' : List ℕ} (nexts-is : nexts' ≡ set nexts j (get_or heads (get_or from j 0) 0)) (heads-is : heads' ≡ set heads (get_or from j 0) j) where
      head-there : get_or heads' (get_or from j 0) 0 ≡ j
      head-there = rw heads-is (get_or-set_same heads (get_or from j 0) j 0 (omega (arith, w.heads-long, class-below)))

      head-is : (c : ℕ) → c < length from → Least (length from) (at from) j c (get_or heads' c 0)
      head-is c h = same_or_not c (get_or from j 0) here there
        where
          here : c ≡ get_or from j 0 → Least (length from) (at from) j c (get_or heads' c 0)
          here e =
              rw (e, head-there) (record { is = λ l. (omega arith, refl); first = λ p a b f. a })

          there : (c ≡ get_or from j 0 → ⊥) → Least (length from) (at from) j c (get_or heads' c 0)
          there d =
              let z : get_or heads' c 0 ≡ get_or heads c 0 = rw heads-is (get_or-set_other heads (get_or from j 0) c j 0 d) in
              let old = w.heads-are c h in
              rw z (record { is = λ l. (omega (arith, (old.is l).0), (old.is l).1); first = λ p a b e. old.first p (later p a e) b e })
            where
              later : (p : ℕ) → j ≤ p → get_or from p 0 ≡ c → i ≤ p
              later p a e = omega (arith, above j p a (λ f. d (sym e ∙ ap (at from) f)))

      next-is : (p : ℕ) → j ≤ p → p < length from → Least (length from) (at from) (p + 1) (get_or from p 0) (get_or nexts' p 0)
      next-is p a b = same_or_not p j here there
        where
          here : p ≡ j → Least (length from) (at from) (p + 1) (get_or from p 0) (get_or nexts' p 0)
          here e =
              let z : get_or nexts' j 0 ≡ get_or heads (get_or from j 0) 0 = rw nexts-is (get_or-set_same nexts j (get_or heads (get_or from j 0) 0) 0 (omega (arith, w.nexts-long, w.inside))) in
              rw (e, z, next) (w.heads-are (get_or from j 0) class-below)

          there : (p ≡ j → ⊥) → Least (length from) (at from) (p + 1) (get_or from p 0) (get_or nexts' p 0)
          there d =
              let z : get_or nexts' p 0 ≡ get_or nexts p 0 = rw nexts-is (get_or-set_other nexts j p (get_or heads (get_or from j 0) 0) 0 d) in
              rw z (w.nexts-are p (omega (arith, above j p a d)) b)

      pub chain-again : Chaining heads' nexts' j
      chain-again =
          record {
            heads-long = rw heads-is (length-set heads (get_or from j 0) j) ∙ w.heads-long;
            nexts-long = rw nexts-is (length-set nexts j (get_or heads (get_or from j 0) 0)) ∙ w.nexts-long;
            below = w.below;
            heads-are = head-is;
            nexts-are = next-is;
            inside = omega (arith, w.inside);
          }
