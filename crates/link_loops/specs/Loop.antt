-- A loop of links. Document 02, order 14: "shows a loop as record numbers, each once, each successor the next one's
-- predecessor and the last leading to the first". Records are numbered from 1, as they are shown.
use Rattle.std.specs.Prelude.{ℕ, suc, ◌-◌, ◌≤◌, ◌<◌, ◌≡◌, Bool, true, List, length, take, drop, get_or}

-- among n records, of which `leads` tells whether the first one's successor is the second one's predecessor
pub record IsLoop (leads : ℕ → ℕ → Bool) (n : ℕ) (ring : List ℕ) : Type 0 where
  pub some : 0 < length ring
  pub records : (i : ℕ) → i < length ring → (0 < get_or ring i 0) × (get_or ring i 0 ≤ n)
  pub once : (i j : ℕ) → i < length ring → j < length ring → get_or ring i 0 ≡ get_or ring j 0 → i ≡ j
  pub next : (i : ℕ) → suc i < length ring → leads (get_or ring i 0) (get_or ring (suc i) 0) ≡ true
  pub round : leads (get_or ring (length ring - 1) 0) (get_or ring 0 0) ≡ true

-- "It says 'none' exactly if no loop exists", which is m = 0 here; "the list is untouched unless a loop is written to its
-- start": else a loop of m records stands there, and all behind it is as before. Which loop it is, is left open.
pub record ShowsRing (leads : ℕ → ℕ → Bool) (n m : ℕ) (before after : List ℕ) : Type 0 where
  pub loop : 0 < m → IsLoop leads n (take m after)
  pub none : m ≡ 0 → (ring : List ℕ) → IsLoop leads n ring → ⊥
  pub room : m ≤ length before
  pub rest : drop m after ≡ drop m before
  pub long : length after ≡ length before
