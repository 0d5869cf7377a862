-- What comparisons tell is what the definitions ask. Assumes nothing.
use Prim.Native.Nat.{ℕ}
use mathlib.Core.Path.{◌≡◌, ◌∙◌}
use mathlib.Core.Bool.{Bool, true, false}
use mathlib.Core.List.{List}
use borrow.Author.Tests.{eq-eqb, ne_eqb}
use Rattle.json_same.specs.Same.{same_list}
use Rattle.json_same.proofs.Laws.{same-equal, equal-same}
use Rattle.json_bytes.specs.Ascii.{codes}
use Rattle.rule_key.proofs.Laws.{both_ways}
use Rattle.gate_lists.specs.declared.Which.{Which}
use Rattle.gate_lists.specs.declared.Which.TheVariants.{Schedule, Baseline, Contract}
use Rattle.gate_option.specs.declared.Named.TheVariants.{Gate, Nothing}
use Rattle.gate_option.specs.declared.Asked.TheVariants.{Of, Unclear}
use Rattle.gate_option.specs.Option.{gate_named, asked_of, asked_by}

-- a comparison told whether two texts are the same
abbrev pub Tells : Bool → List ℕ → List ℕ → Type 0
Tells r a b = (r ≡ true → a ≡ b) × (a ≡ b → r ≡ true)

same-told : (a b : List ℕ) {r t : Bool} → Tells r a b → r ≡ t → same_list a b ≡ t
same-told a b {r} e h = both_ways (same_list a b) r (λ q. e.1 (same-equal a b q)) (λ q. equal-same a b (e.0 q)) ∙ h

module _ (word : List ℕ) {r : Bool} (first : Tells r word (codes "--baseline")) where
  pub names-baseline : r ≡ true → Gate Baseline ≡ gate_named word
  unfolding gate_named
  names-baseline h = rw (same-told word (codes "--baseline") first h)

  module _ {q : Bool} (second : Tells q word (codes "--contract")) (no : r ≡ false) where
    pub names-contract : q ≡ true → Gate Contract ≡ gate_named word
    unfolding gate_named
    names-contract h = rw (same-told word (codes "--baseline") first no, same-told word (codes "--contract") second h)

    pub names-nothing : q ≡ false → Nothing ≡ gate_named word
    unfolding gate_named
    names-nothing h = rw (same-told word (codes "--baseline") first no, same-told word (codes "--contract") second h)

-- what is asked, by the count of the arguments
module _ (count : ℕ) (first : List ℕ) where
  pub asked-alone : count ≡ 2 → Of Schedule 1 ≡ asked_by count first
  unfolding asked_by
  asked-alone h = rw (eq-eqb count 2 h)

  module _ (more : count ≡ 2 → ⊥) where
    pub asked-otherwise : (count ≡ 3 → ⊥) → Unclear ≡ asked_by count first
    unfolding asked_by
    asked-otherwise other = rw (ne_eqb count 2 more, ne_eqb count 3 other)

    module _ (three : count ≡ 3) where
      pub asked-gate : {which : Which} → gate_named first ≡ Gate which → Of which 2 ≡ asked_by count first
      unfolding asked_by asked_of
      asked-gate named = rw (ne_eqb count 2 more, eq-eqb count 3 three, named)

      pub asked-nothing : gate_named first ≡ Nothing → Unclear ≡ asked_by count first
      unfolding asked_by asked_of
      asked-nothing named = rw (ne_eqb count 2 more, eq-eqb count 3 three, named)
