-- What is known of bytes with pieces written over them.
-- Assumes nothing.
use Prim.Native.Nat.{ℕ, zero, suc, ◌+◌, ◌-◌, ◌≤◌, ◌<◌}
use mathlib.Core.Path.{◌≡◌, refl, sym, ap, ◌∙◌}
use mathlib.Core.Logic.{◌⊎◌, inl, inr, ⊎_elim}
use mathlib.Core.List.{List, [], append-nil}
use native.Mathlib.Nat.{add-zero}
use native.Mathlib.Omega.{arith}
use lib.ListN.{length, get_or, take, drop, take-append-drop}
use lib.Seq.{get_or-take, get_or-drop, ext_get_or}
use Rattle.bundle_bytes.specs.Pieces.{written}
use Rattle.bundle_bytes.proofs.Laws.{written_none, written-fits, written-length, written-part, written-front, written_back, written-part-before, written-part-behind}
use Rattle.drawer_layout.proofs.Laws.{last-or-before, under-or-not}
use Rattle.drawer_moves.specs.Painted.{painted}

-- ---- single bytes
module _ (d : List ℕ) (at : ℕ) (v : List ℕ) (j : ℕ) where
  pub byte-before : j < at → get_or (written d at v) j 0 ≡ get_or d j 0
  byte-before l = sym (get_or-take (suc j) (written d at v) j 0 (omega arith)) ∙ ap (λ r. get_or r j 0) (written-front d at v (suc j) (omega arith)) ∙ get_or-take (suc j) d j 0 (omega arith)

  pub byte-behind : at + length v ≤ j → get_or (written d at v) j 0 ≡ get_or d j 0
  byte-behind l = shifted (written d at v) ∙ ap (λ r. get_or r 0 0) (written_back d at v j l) ∙ sym (shifted d)
    where
      shifted : (r : List ℕ) → get_or r j 0 ≡ get_or (drop j r) 0 0
      shifted r = sym (get_or-drop j r 0 0 ∙ ap (λ k. get_or r k 0) (add-zero j))

  pub byte-in : at + length v ≤ length d → at ≤ j → j < at + length v → get_or (written d at v) j 0 ≡ get_or v (j - at) 0
  byte-in f a b =
      let e : at + (j - at) ≡ j = omega arith in
      sym (ap (λ r. get_or r (j - at) 0) (sym (written-part d at v f)) ∙ get_or-take (length v) (drop at (written d at v)) (j - at) 0 (omega arith) ∙ get_or-drop at (written d at v) (j - at) 0 ∙ ap (λ k. get_or (written d at v) k 0) e)

-- nothing written
pub written-nothing : (d : List ℕ) (at : ℕ) → written d at [] ≡ d
written-nothing d at =
    ⊎_elim (λ l. sym (written_none d at [] (omega arith))) (λ l. written-fits d at [] (omega arith) ∙ rw (add-zero at, append-nil (take at d)) (take-append-drop at d)) (under-or-not (length d) at)

-- two pieces that have no byte in common, the first before the second, in either order
ordered : (d : List ℕ) (a : ℕ) (u : List ℕ) (b : ℕ) (v : List ℕ) → a + length u ≤ b → b + length v ≤ length d → written (written d a u) b v ≡ written (written d b v) a u
ordered d a u b v l f =
    ext_get_or 0 (written (written d a u) b v) (written (written d b v) a u)
    (written-length (written d a u) b v ∙ written-length d a u ∙ sym (written-length (written d b v) a u ∙ written-length d b v))
    (λ j _. ⊎_elim (λ p. ⊎_elim (λ q. low j p q) (λ q. first j p q) (under-or-not j a)) (λ p. ⊎_elim (λ q. ⊎_elim (λ r. mid j p r) (λ r. second j r q) (under-or-not j b)) (λ q. high j p q) (under-or-not j (b + length v))) (under-or-not j (a + length u)))
  where
    low : (j : ℕ) → j < a + length u → j < a → get_or (written (written d a u) b v) j 0 ≡ get_or (written (written d b v) a u) j 0
    low j p q = byte-before (written d a u) b v j (omega arith) ∙ byte-before d a u j q ∙ sym (byte-before (written d b v) a u j q ∙ byte-before d b v j (omega arith))

    first : (j : ℕ) → j < a + length u → a ≤ j → get_or (written (written d a u) b v) j 0 ≡ get_or (written (written d b v) a u) j 0
    first j p q = byte-before (written d a u) b v j (omega arith) ∙ byte-in d a u j (omega arith) q p ∙ sym (byte-in (written d b v) a u j (omega (arith, written-length d b v)) q p)

    mid : (j : ℕ) → a + length u ≤ j → j < b → get_or (written (written d a u) b v) j 0 ≡ get_or (written (written d b v) a u) j 0
    mid j p q = byte-before (written d a u) b v j q ∙ byte-behind d a u j p ∙ sym (byte-behind (written d b v) a u j p ∙ byte-before d b v j q)

    second : (j : ℕ) → b ≤ j → j < b + length v → get_or (written (written d a u) b v) j 0 ≡ get_or (written (written d b v) a u) j 0
    second j p q = byte-in (written d a u) b v j (omega (arith, written-length d a u)) p q ∙ sym (byte-behind (written d b v) a u j (omega arith) ∙ byte-in d b v j f p q)

    high : (j : ℕ) → a + length u ≤ j → b + length v ≤ j → get_or (written (written d a u) b v) j 0 ≡ get_or (written (written d b v) a u) j 0
    high j p q = byte-behind (written d a u) b v j q ∙ byte-behind d a u j p ∙ sym (byte-behind (written d b v) a u j p ∙ byte-behind d b v j q)

pub written-swap : (d : List ℕ) (a : ℕ) (u : List ℕ) (b : ℕ) (v : List ℕ) → a + length u ≤ length d → b + length v ≤ length d → (a + length u ≤ b) ⊎ (b + length v ≤ a) → written (written d a u) b v ≡ written (written d b v) a u
written-swap d a u b v f g (inl l) = ordered d a u b v l g
written-swap d a u b v f g (inr l) = sym (ordered d b v a u l f)

-- ---- pieces
module _ (g : ℕ → List ℕ) (places d : List ℕ) where
  pub painted-length : (n : ℕ) → length (painted g places n d) ≡ length d
  unfolding painted
  painted-length zero = refl
  painted-length (suc n) = written-length (painted g places n d) (get_or places n 0) (g n) ∙ painted-length n

  -- no piece
  pub painted-none : (n : ℕ) → ((i : ℕ) → i < n → g i ≡ []) → painted g places n d ≡ d
  unfolding painted
  painted-none zero f = refl
  painted-none (suc n) f = rw (f n (omega arith)) (written-nothing (painted g places n d) (get_or places n 0) ∙ painted-none n (λ i l. f i (omega arith)))

  -- none that ends behind a
  pub painted-back : (a n : ℕ) → ((i : ℕ) → i < n → (g i ≡ []) ⊎ (get_or places i 0 + length (g i) ≤ a)) → drop a (painted g places n d) ≡ drop a d
  unfolding painted
  painted-back a zero f = refl
  painted-back a (suc n) f =
      ⊎_elim (λ e. rw e (ap (drop a) (written-nothing (painted g places n d) (get_or places n 0)))) (λ l. written_back (painted g places n d) (get_or places n 0) (g n) a l) (f n (omega arith)) ∙ painted-back a n (λ i l. f i (omega arith))

  -- a byte in no piece
  pub painted-byte : (j n : ℕ) → ((i : ℕ) → i < n → (g i ≡ []) ⊎ ((j < get_or places i 0) ⊎ (get_or places i 0 + length (g i) ≤ j))) → get_or (painted g places n d) j 0 ≡ get_or d j 0
  unfolding painted
  painted-byte j zero f = refl
  painted-byte j (suc n) f =
      ⊎_elim (λ e. rw e (ap (λ r. get_or r j 0) (written-nothing (painted g places n d) (get_or places n 0))))
      (λ s. ⊎_elim (λ l. byte-before (painted g places n d) (get_or places n 0) (g n) j l) (λ l. byte-behind (painted g places n d) (get_or places n 0) (g n) j l) s)
      (f n (omega arith)) ∙ painted-byte j n (λ i l. f i (omega arith))

-- pieces and places that agree
pub painted_same : (g h : ℕ → List ℕ) (places others d : List ℕ) (n : ℕ) → ((i : ℕ) → i < n → (g i ≡ h i) × (get_or places i 0 ≡ get_or others i 0)) → painted g places n d ≡ painted h others n d
unfolding painted
painted_same g h places others d zero f = refl
painted_same g h places others d (suc n) f = rw (painted_same g h places others d n (λ i l. f i (omega arith)), (f n (omega arith)).0, (f n (omega arith)).1)

-- one piece more, which has no byte in common with the others
module _ (g h : ℕ → List ℕ) (places others d : List ℕ) (k : ℕ) (before : g k ≡ []) (fits : get_or others k 0 + length (h k) ≤ length d) where
  pub painted-put : (n : ℕ) → k < n
      → ((i : ℕ) → i < n → (i ≡ k → ⊥) → (g i ≡ h i) × (get_or places i 0 ≡ get_or others i 0))
      → ((i : ℕ) → i < n → (i ≡ k → ⊥) → (g i ≡ []) ⊎ ((get_or places i 0 + length (g i) ≤ length d) × ((get_or places i 0 + length (g i) ≤ get_or others k 0) ⊎ (get_or others k 0 + length (h k) ≤ get_or places i 0))))
      → painted h others n d ≡ written (painted g places n d) (get_or others k 0) (h k)
  unfolding painted
  painted-put zero l same clear = absurd (omega arith)
  painted-put (suc n) l same clear = ⊎_elim last (λ m. earlier (painted-put n m (λ i a b. same i (omega arith) b) (λ i a b. clear i (omega arith) b)) m) (last-or-before k n l)
    where
      last : k ≡ n → written (painted h others n d) (get_or others n 0) (h n) ≡ written (written (painted g places n d) (get_or places n 0) (g n)) (get_or others k 0) (h k)
      last e =
          let none : g n ≡ [] = rw e at before in
          rw (none, written-nothing (painted g places n d) (get_or places n 0), e, painted_same g h places others d n (λ i m. same i (omega arith) (λ q. omega arith)))

      earlier : painted h others n d ≡ written (painted g places n d) (get_or others k 0) (h k) → k < n → written (painted h others n d) (get_or others n 0) (h n) ≡ written (written (painted g places n d) (get_or places n 0) (g n)) (get_or others k 0) (h k)
      earlier more m =
          let s = same n (omega arith) (λ q. omega arith) in
          rw (more, ← s.0, ← s.1)
          (⊎_elim (λ e. ap (written (written (painted g places n d) (get_or others k 0) (h k)) (get_or places n 0)) e ∙ written-nothing (written (painted g places n d) (get_or others k 0) (h k)) (get_or places n 0) ∙ sym (ap (λ r. written r (get_or others k 0) (h k)) (ap (written (painted g places n d) (get_or places n 0)) e ∙ written-nothing (painted g places n d) (get_or places n 0))))
          (λ c. sym (written-swap (painted g places n d) (get_or places n 0) (g n) (get_or others k 0) (h k) (omega (arith, c.0, painted-length g places d n)) (omega (arith, fits, painted-length g places d n)) c.1)) (clear n (omega arith) (λ q. omega arith)))

-- a piece where it was written
pub painted-part : (g : ℕ → List ℕ) (places d : List ℕ) (k n : ℕ) → k < n → get_or places k 0 + length (g k) ≤ length d
    → ((i : ℕ) → i < n → (i ≡ k → ⊥) → (g i ≡ []) ⊎ ((get_or places i 0 + length (g i) ≤ get_or places k 0) ⊎ (get_or places k 0 + length (g k) ≤ get_or places i 0)))
    → take (length (g k)) (drop (get_or places k 0) (painted g places n d)) ≡ g k
unfolding painted
painted-part g places d k zero l fits clear = absurd (omega arith)
painted-part g places d k (suc n) l fits clear = ⊎_elim last (λ m. earlier m ∙ painted-part g places d k n m fits (λ i a b. clear i (omega arith) b)) (last-or-before k n l)
  where
    last : k ≡ n → take (length (g k)) (drop (get_or places k 0) (written (painted g places n d) (get_or places n 0) (g n))) ≡ g k
    last e =
        let f : get_or places n 0 + length (g n) ≤ length d = rw e at fits in
        rw e (written-part (painted g places n d) (get_or places n 0) (g n) (omega (arith, f, painted-length g places d n)))

    earlier : k < n → take (length (g k)) (drop (get_or places k 0) (written (painted g places n d) (get_or places n 0) (g n))) ≡ take (length (g k)) (drop (get_or places k 0) (painted g places n d))
    earlier m =
        ⊎_elim (λ e. rw e (ap (λ r. take (length (g k)) (drop (get_or places k 0) r)) (written-nothing (painted g places n d) (get_or places n 0))))
        (λ s. ⊎_elim (λ q. written-part-behind (painted g places n d) (get_or places n 0) (g n) (get_or places k 0) (length (g k)) q) (λ q. written-part-before (painted g places n d) (get_or places n 0) (g n) (get_or places k 0) (length (g k)) q) s)
        (clear n (omega arith) (λ q. omega arith))
