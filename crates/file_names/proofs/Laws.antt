-- A name up to its dot is the bytes before the first one.
-- Assumes nothing.
use Rattle.std.proofs.Common.{◌≡◌, ℕ, ◌+◌, Bool, true, false, cond, not, List, [], ◌∷◌, take, refl, ap, eqb, suc, arith}
use Rattle.std.specs.List.{prefix_len}
use Rattle.file_names.specs.Names.{up_to_dot}

one_more : (b : ℕ) (name r : List ℕ) (n : ℕ) (t : Bool) → take n name ≡ r → take (cond (not t) (1 + n) 0) (b ∷ name) ≡ cond t [] (b ∷ r)
one_more b name r n true e = refl
one_more b name r n false e = let next : 1 + n ≡ suc n = omega arith in rw next (ap (λ l. b ∷ l) e)

pub up_to_dot_taken : (name : List ℕ) → take (prefix_len (λ b. not (eqb b 46)) name) name ≡ up_to_dot name
unfolding up_to_dot
up_to_dot_taken [] = refl
up_to_dot_taken (b ∷ name) = one_more b name (up_to_dot name) (prefix_len (λ x. not (eqb x 46)) name) (eqb b 46) (up_to_dot_taken name)
