-- For the code's sake alone: links as two columns of numbers, the class of each record's predecessor and that of its
-- successor. IDs that are the same are of one class.
use Rattle.std.specs.Prelude.{ℕ, ◌+◌, ◌-◌, ◌≡◌, Bool, true, false, cond, ◌&&◌, List, [], ◌∷◌, length, get_or, ltb, leb, eqb}
use Rattle.link_loops.specs.Loop.{ShowsRing}

-- record x leads to record y, both numbered from 1
unfoldable pub link_leads : List ℕ → List ℕ → ℕ → ℕ → Bool
link_leads from to x y = eqb (get_or to (x - 1) 0) (get_or from (y - 1) 0)

-- the classes of predecessors are numbered below n
unfoldable pub all_below : ℕ → List ℕ → Bool
all_below n [] = true
all_below n (x ∷ xs) = ltb x n && all_below n xs

-- columns of one length, of no more records than a table has, and a list that takes as many
unfoldable pub are_links : List ℕ → List ℕ → ℕ → Bool
are_links from to room =
    leb (length from) 4096 && (eqb (length to) (length from) && (leb (length from) room && all_below (length from) from))

-- what is shown of such columns; of any others nothing
pub record ShowsLinks (from to : List ℕ) (m : ℕ) (before after : List ℕ) : Type 0 where
  pub right : are_links from to (length before) ≡ true → ShowsRing (link_leads from to) (length from) m before after
  pub wrong : are_links from to (length before) ≡ false → (m ≡ 0) × (after ≡ before)

-- what is seen of a class: 0 it is new; up to n its place on the way; above, there is nothing left to go through, be it that
-- no link leaves it
unfoldable pub seen_of : List ℕ → List ℕ → ℕ → ℕ
seen_of heads mark c =
    cond (ltb c (length mark)) (cond (ltb (get_or heads c 0) (length mark)) (get_or mark c 0) (length mark + 1)) (length mark + 1)
