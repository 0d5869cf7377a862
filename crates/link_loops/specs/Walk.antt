-- For the code's sake alone: the links that leave a class as a chain, and the ring at the end of a way.
use Rattle.std.specs.Prelude.{ℕ, ◌+◌, ◌≤◌, ◌<◌, ◌≡◌, List, length, get_or}
use Rattle.link_loops.specs.Loop.{IsLoop}
use Rattle.link_loops.specs.Links.{link_leads}

-- h is the first of n links from link `low` on that leaves class c; n or more where there is none
pub record Least (n : ℕ) (from : ℕ → ℕ) (low c h : ℕ) : Type 0 where
  pub is : h < n → (low ≤ h) × (from h ≡ c)
  pub first : (p : ℕ) → low ≤ p → p < n → from p ≡ c → h ≤ p

-- what the chains are made of
pub record Unchained (from heads nexts : List ℕ) : Type 0 where
  pub heads-long : length heads ≡ length from
  pub nexts-long : length nexts ≡ length from
  pub below : (p : ℕ) → p < length from → get_or from p 0 < length from
  pub empty : (c : ℕ) → c < length from → length from ≤ get_or heads c 0

-- each class has its first link, and each link the next one of its class
pub record Chained (from heads nexts : List ℕ) : Type 0 where
  pub heads-long : length heads ≡ length from
  pub nexts-long : length nexts ≡ length from
  pub heads-are : (c : ℕ) → c < length from → Least (length from) (λ (p : ℕ). get_or from p 0) 0 c (get_or heads c 0)
  pub nexts-are : (p : ℕ) → p < length from → Least (length from) (λ (p : ℕ). get_or from p 0) (p + 1) (get_or from p 0) (get_or nexts p 0)

-- a walk's lists at its start: no class has been seen
pub record Unwalked (from to heads nexts way mark : List ℕ) : Type 0 where
  pub chained : Chained from heads nexts
  pub below : (p : ℕ) → p < length from → get_or from p 0 < length from
  pub few : length from ≤ 4096
  pub to-long : length to ≡ length from
  pub way_long : length way ≡ length from
  pub mark-long : length mark ≡ length from
  pub unseen : (c : ℕ) → c < length from → get_or mark c 0 ≡ 0

-- all lists at the start
pub record BlankColumns (from to heads nexts way mark list : List ℕ) : Type 0 where
  pub unchained : Unchained from heads nexts
  pub few : length from ≤ 4096
  pub to-long : length to ≡ length from
  pub way_long : length way ≡ length from
  pub mark-long : length mark ≡ length from
  pub unseen : (c : ℕ) → c < length from → get_or mark c 0 ≡ 0
  pub room : length from ≤ length list

-- the links on the way from place `start` up to `end` are a loop
pub record RingAt (n : ℕ) (from to way : ℕ → ℕ) (start end : ℕ) : Type 0 where
  pub some : start < end
  pub inside : end ≤ n
  pub records : (j : ℕ) → j < end → way j < n
  pub once : (i j : ℕ) → i < end → j < end → way i ≡ way j → i ≡ j
  pub next : (j : ℕ) → j + 1 < end → to (way j) ≡ from (way (j + 1))
  pub round : (j : ℕ) → j + 1 ≡ end → to (way j) ≡ from (way start)

-- how a walk ends: with a ring, or where start and end are the same, with the knowledge that there is none
pub record WalkEnded (from to way : List ℕ) (start end : ℕ) : Type 0 where
  pub long : length way ≡ length from
  pub ordered : start ≤ end
  pub inside : end ≤ length from
  pub links : (j : ℕ) → j < end → get_or way j 0 < length from
  pub ring : start < end → RingAt (length from) (λ (p : ℕ). get_or from p 0) (λ (p : ℕ). get_or to p 0) (λ (j : ℕ). get_or way j 0) start end
  pub none : start ≡ end → (ring : List ℕ) → IsLoop (link_leads from to) (length from) ring → ⊥
