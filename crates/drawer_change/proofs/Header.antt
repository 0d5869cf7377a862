-- The header written number by number.
-- Assumes nothing.
use Prim.Native.Nat.{ℕ, zero, suc, ◌+◌, ◌*◌, ◌≤◌}
use mathlib.Core.Path.{◌≡◌, refl, sym, ap, ◌∙◌}
use mathlib.Core.List.{List, [], ◌++◌, append_assoc}
use native.Mathlib.Omega.{arith}
use lib.ListN.{length, get_or, drop, length-append}
use Rattle.bundle_bytes.specs.Words.{word_of}
use Rattle.bundle_bytes.specs.Pieces.{joined, written, piece_start}
use Rattle.bundle_bytes.proofs.Laws.{word-length, joined_length, joined-next, written_behind, written_back}
use Rattle.bundle_layout.specs.Bundle.{header_size}
use Rattle.drawer_held.specs.Drawer.{entry_at, header_at}

-- v written behind a front p of d
behind : (p d v : List ℕ) (at after : ℕ) → length p ≡ at → at + length v ≡ after → after ≤ length d → written (p ++ drop at d) at v ≡ (p ++ v) ++ drop after d
behind p d v at after e f l =
    let q : length (p ++ v) ≡ after = omega (arith, length-append p v) in
    rw (← e) (rw (← q) (written_behind p d v (omega arith)))

module _ (offs lens : List ℕ) where
  pub entry-long : (i : ℕ) → length (entry_at offs lens i) ≡ 8
  unfolding entry_at word_of
  entry-long i = refl

  pub entries-start : (i : ℕ) → piece_start (entry_at offs lens) i ≡ 8 * i
  unfolding piece_start
  entries-start zero = refl
  entries-start (suc i) = omega (arith, entries-start i, entry-long i)

  module _ (n : ℕ) where
    abbrev pub front : ℕ → List ℕ
    front i = word_of n ++ joined (entry_at offs lens) i

    front_length : (i : ℕ) → length (front i) ≡ 4 + 8 * i
    front_length i = omega (arith, length-append (word_of n) (joined (entry_at offs lens) i), word-length n, joined_length (entry_at offs lens) i, entries-start i)

    pub header-long : length (header_at n offs lens) ≡ header_size n
    unfolding header_at header_size
    header-long = front_length n

    module _ (d : List ℕ) where
      pub header-begins : {e : List ℕ} → 4 ≤ length d → e ≡ written d 0 (word_of n) → e ≡ front 0 ++ drop 4 e
      unfolding joined word_of
      header-begins l q = q ∙ behind [] d (word_of n) 0 4 refl refl l ∙ ap (λ r. word_of n ++ r) (sym (ap (drop 4) q ∙ written_back d 0 (word_of n) 4 (omega (arith, word-length n))))

      pub header-turn : (i : ℕ) {o l : ℕ} {out next : List ℕ} → 4 + 8 * (i + 1) ≤ length d → out ≡ front i ++ drop (4 + 8 * i) d → o ≡ get_or offs i 0 → l ≡ get_or lens i 0 → next ≡ written (written out (4 + 8 * i) (word_of o)) (8 + 8 * i) (word_of l) → next ≡ front (i + 1) ++ drop (4 + 8 * (i + 1)) d
      unfolding entry_at
      header-turn i {o} {l} {out} {next} h q a b w =
          w ∙ rw (q, behind (front i) d (word_of o) (4 + 8 * i) (8 + 8 * i) (front_length i) (omega (arith, word-length o)) (omega arith), behind (front i ++ word_of o) d (word_of l) (8 + 8 * i) (4 + 8 * (i + 1)) (omega (arith, length-append (front i) (word_of o), front_length i, word-length o)) (omega (arith, word-length l)) h)
          (ap (λ r. r ++ drop (4 + 8 * (i + 1)) d) (regroup (word_of n) (joined (entry_at offs lens) i) (word_of o) (word_of l) ∙ ap (λ r. word_of n ++ r) (sym (joined-next (entry_at offs lens) i ∙ rw (← a, ← b)))))
        where
          regroup : (p q r s : List ℕ) → ((p ++ q) ++ r) ++ s ≡ p ++ (q ++ (r ++ s))
          regroup p q r s = simp append_assoc

      pub header-ends : (i : ℕ) {e out : List ℕ} → i ≡ n → e ≡ written d 0 (word_of n) → out ≡ front i ++ drop (4 + 8 * i) e → out ≡ header_at n offs lens ++ drop (header_size n) d
      unfolding header_at header_size
      header-ends i h q w = w ∙ rw h (ap (λ r. front n ++ r) (ap (drop (4 + 8 * n)) q ∙ written_back d 0 (word_of n) (4 + 8 * n) (omega (arith, word-length n))))
