-- A sentence read back from the sentences laid out flat.
-- Assumes nothing.
use Prim.Native.Nat.{ℕ, zero, suc, ◌+◌, ◌-◌, ◌≤◌, ◌<◌}
use mathlib.Core.Path.{◌≡◌, refl, ap, ◌∙◌}
use mathlib.Core.List.{List, [], ◌∷◌, flatten}
use native.Mathlib.Nat.{not-suc-le-zero}
use native.Mathlib.Numerals.{add-one}
use native.Mathlib.Omega.{arith}
use borrow.Author.Tests.{lt-ltb, le-ltb}
use lib.ListN.{length, get_or, take, drop, length-append, get_or-eq_default}
use lib.Seq.{take-append_seam, drop-append-add}
use Rattle.parts.specs.Part.{part_of}
use Rattle.parts.proofs.Laws.{part-is}
use Rattle.json_bytes.specs.Ascii.{codes}
use Rattle.table_rows.specs.Rows.{count_before}
use Rattle.table_rows.proofs.Laws.{count_next, count_past, count-within}
use Rattle.output.specs.Output.{Output, put}
use Rattle.gate_lists.specs.declared.Which.{Which}
use Rattle.wording.specs.declared.Slots.{Slots}
use Rattle.wording.specs.Sentences.{sentences, contract_sentences, sentence_at}
use Rattle.wording.specs.Wording.{filled}
use Rattle.wording.specs.Flat.{all_sentences, sentence_start, all_contract, contract_start}

-- ---- any groups laid out flat: a group stands from the count of what is before it on
group-stands : (groups : List (List ℕ)) (n : ℕ) → n < length groups → take (length (get_or groups n [])) (drop (count_before groups n) (flatten groups)) ≡ get_or groups n []
unfolding count_before flatten
group-stands [] n l = absurd (not-suc-le-zero l)
group-stands (g ∷ gs) zero l = take-append_seam g (flatten gs)
group-stands (g ∷ gs) (suc n) l =
    rw (length-append g (flatten (take n gs)), drop-append-add g (flatten gs) (length (flatten (take n gs)))) (group-stands gs n (omega arith))

group-part : (groups : List (List ℕ)) (n : ℕ) → n < length groups → part_of (flatten groups) (count_before groups n) (count_before groups (n + 1)) ≡ get_or groups n []
group-part groups n l =
    let next : count_before groups (n + 1) ≡ count_before groups n + length (get_or groups n []) = rw (add-one n) (count_next groups n) in
    let wide : count_before groups n + length (get_or groups n []) - count_before groups n ≡ length (get_or groups n []) = omega arith in
    rw next
    (part-is (flatten groups) (count_before groups n) (count_before groups n + length (get_or groups n [])) (omega arith) (count-within groups n)
    ∙ rw wide (group-stands groups n l))

-- ---- such a group, or none, put as a sentence
module _ (which : Which) (n : ℕ) (slots : Slots) (value : List ℕ) (o : Output) (groups : List (List ℕ)) where
  -- as the calls give them
  group-put : n < length groups → {t r : List ℕ} {a b : ℕ} → t ≡ flatten groups → a ≡ count_before groups n → b ≡ count_before groups (n + 1) → r ≡ part_of t a b → {p : Output} → p ≡ put o (filled which slots value r) → p ≡ put o (filled which slots value (get_or groups n []))
  group-put l e f g q h = h ∙ ap (λ r. put o (filled which slots value r)) (q ∙ rw (e, f, g) (group-part groups n l))

  none-put : length groups ≤ n → o ≡ put o (filled which slots value (get_or groups n []))
  unfolding filled flatten put
  none-put h = rw (get_or-eq_default groups [] h)

-- ---- the two lists of sentences
count-all : length sentences ≡ 86
unfolding sentences
count-all = refl

count-contract : length contract_sentences ≡ 16
unfolding contract_sentences
count-contract = refl

-- past the last one stands their length, and nothing
pub start-past : (n : ℕ) → 86 ≤ n → sentence_start n ≡ 9368
unfolding sentence_start sentences codes flatten
start-past n h = count_past sentences n h

pub contract-past : (n : ℕ) → 16 ≤ n → contract_start n ≡ 1853
unfolding contract_start contract_sentences codes flatten
contract-past n h = count_past contract_sentences n h

module _ (which : Which) (n : ℕ) (slots : Slots) (value : List ℕ) (o : Output) where
  pub sentence-put : n < 86 → {t r : List ℕ} {a b : ℕ} → t ≡ all_sentences → a ≡ sentence_start n → b ≡ sentence_start (n + 1) → r ≡ part_of t a b → {p : Output} → p ≡ put o (filled which slots value r) → p ≡ put o (filled which slots value (get_or sentences n []))
  unfolding all_sentences sentence_start
  sentence-put l = group-put which n slots value o sentences (rw count-all l)

  pub sentence-none : 86 ≤ n → o ≡ put o (filled which slots value (get_or sentences n []))
  sentence-none h = none-put which n slots value o sentences (rw count-all h)

  pub contract-put : n < 16 → {t r : List ℕ} {a b : ℕ} → t ≡ all_contract → a ≡ contract_start n → b ≡ contract_start (n + 1) → r ≡ part_of t a b → {p : Output} → p ≡ put o (filled which slots value r) → p ≡ put o (filled which slots value (get_or contract_sentences n []))
  unfolding all_contract contract_start
  contract-put l = group-put which n slots value o contract_sentences (rw count-contract l)

  pub contract-none : 16 ≤ n → o ≡ put o (filled which slots value (get_or contract_sentences n []))
  contract-none h = none-put which n slots value o contract_sentences (rw count-contract h)

  -- ---- a sentence is one of the first list below 100, and one of the contract side's from there on
  pub first-put : n < 100 → {p : Output} → p ≡ put o (filled which slots value (get_or sentences n [])) → p ≡ put o (filled which slots value (sentence_at n))
  unfolding sentence_at
  first-put l h = rw (lt-ltb n 100 l) h

  pub further-put : 100 ≤ n → {p : Output} → p ≡ put o (filled which slots value (get_or contract_sentences (n - 100) [])) → p ≡ put o (filled which slots value (sentence_at n))
  unfolding sentence_at
  further-put l h = rw (le-ltb n 100 l) h
