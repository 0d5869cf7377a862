-- The calls over what is lent: with room they answer what the calls of document 01 answer, and 14 and 100 are given exactly
-- where there is none.
-- Assumes nothing.
use Prim.Native.Nat.{ℕ}
use mathlib.Core.Path.{◌≡◌, refl, sym, ◌∙◌}
use mathlib.Core.Bool.{Bool, true, false, cond, true≢false}
use mathlib.Core.List.{List}
use borrow.Author.Tests.{eq-eqb, ne_eqb, eqb-true}
use lib.Dec.{eqb}
use Rattle.json_bytes.proofs.Laws.{by-test}
use Rattle.parts.specs.Files.{File}
use Rattle.mark_numbers.specs.Marks.{Marks, fresh_marks}
use Rattle.bundle_layout.specs.Bundle.{bundle_fault}
use Rattle.bundle_layout.specs.Change.{try_fault, make_fault, output}
use Rattle.gate_marks.specs.Gate.{Gate, marks_of}
use Rattle.gate_marks.specs.Again.{room_is_there, has_lists}
use Rattle.gate_calls.specs.Calls.{Answer, answer, judgement, accepted, answered, tried, change_made}
use Rattle.gate_calls.specs.Lent.{lent_fault, over, judged_in, tried_in, made_in, output_in}
use Rattle.gate_calls.proofs.Refusals.{in-case, is_case, bundle_rows, lookup_rows, try_rows, make_rows, bundle-refusals, try-refusals, make-refusals}

-- ---- what the test of the lent things says
module _ (g : Gate) (lent : ℕ) (handed : Marks) where
  by-lent : (P : ℕ → Type 0) → (has_lists g handed ≡ true → room_is_there g lent ≡ true → P 0) → (has_lists g handed ≡ true → room_is_there g lent ≡ false → P 14) → (has_lists g handed ≡ false → P 100) → P (lent_fault g lent handed)
  unfolding lent_fault
  by-lent P whole short wrong =
      by-test P (has_lists g handed) _ _ (λ l. by-test P (room_is_there g lent) _ _ (λ r. whole l r) (λ r. short l r)) (λ l. wrong l)

  none : (n : ℕ) → eqb n 0 ≡ false → n ≡ 0 → ⊥
  none n f q = true≢false (sym (eq-eqb n 0 q) ∙ f)

  -- it is 0 exactly where there is room
  pub lent-lists : lent_fault g lent handed ≡ 0 → has_lists g handed ≡ true
  lent-lists = by-lent (λ n. n ≡ 0 → has_lists g handed ≡ true) (λ l r q. l) (λ l r q. l) (λ l q. absurd (none 100 refl q))

  pub lent-room : lent_fault g lent handed ≡ 0 → room_is_there g lent ≡ true
  lent-room = by-lent (λ n. n ≡ 0 → room_is_there g lent ≡ true) (λ l r q. r) (λ l r q. absurd (none 14 refl q)) (λ l q. absurd (none 100 refl q))

  -- ---- with room a call answers what the call of document 01 answers
  module _ (room : lent_fault g lent handed ≡ 0) where
    lent-whole : (back : Marks) (whole : Answer) → over g lent handed back whole ≡ whole
    unfolding over
    lent-whole back whole = rw (lent-lists room, lent-room room)

    pub lent-judge : (s : List ℕ) → judged_in g s lent handed ≡ judgement g s
    unfolding judged_in
    lent-judge s = lent-whole (fresh_marks (marks_of g)) (judgement g s)

    pub lent-try : (s : List ℕ) (k : ℕ) (f : File) → tried_in g s k f lent handed ≡ tried g s k f handed
    unfolding tried_in
    lent-try s k f = lent-whole handed (tried g s k f handed)

    pub lent-make : (s : List ℕ) (k : ℕ) (f : File) (out : ℕ) → made_in g s k f out lent handed ≡ change_made g s k f handed out
    unfolding made_in
    lent-make s k f out = lent-whole handed (change_made g s k f handed out)

    pub lent-output : (s : List ℕ) (k : ℕ) (f : File) (out : List ℕ) → output_in g s k f lent handed out ≡ output g.files s k f out
    unfolding output_in
    lent-output s k f out = rw (eq-eqb (lent_fault g lent handed) 0 room)

  -- ---- without room the number says what is missing
  pub lent-short : (back : Marks) (whole : Answer) → lent_fault g lent handed ≡ 14 → over g lent handed back whole ≡ answer 14 0 back
  unfolding over
  lent-short back whole =
      by-lent (λ n. n ≡ 14 → over g lent handed back whole ≡ answer 14 0 back) (λ l r q. absurd (other 0 refl q)) (λ l r q. rw (l, r)) (λ l q. absurd (other 100 refl q))
    where
      other : (n : ℕ) → eqb n 14 ≡ false → n ≡ 14 → ⊥
      other n f q = true≢false (sym (eq-eqb n 14 q) ∙ f)

  pub lent-wrong : (back : Marks) (whole : Answer) → lent_fault g lent handed ≡ 100 → over g lent handed back whole ≡ answer 100 0 handed
  unfolding over
  lent-wrong back whole =
      by-lent (λ n. n ≡ 100 → over g lent handed back whole ≡ answer 100 0 handed) (λ l r q. absurd (other 0 refl q)) (λ l r q. absurd (other 14 refl q)) (λ l q. rw l)
    where
      other : (n : ℕ) → eqb n 100 ≡ false → n ≡ 100 → ⊥
      other n f q = true≢false (sym (eq-eqb n 100 q) ∙ f)

  -- of a change either way: the handed marks come back with the number
  pub lent-refused : (whole : Answer) → (lent_fault g lent handed ≡ 0 → ⊥) → over g lent handed handed whole ≡ answer (lent_fault g lent handed) 0 handed
  unfolding over
  lent-refused whole =
      by-lent (λ n. (n ≡ 0 → ⊥) → over g lent handed handed whole ≡ answer n 0 handed) (λ l r q. absurd (q refl)) (λ l r q. rw (l, r)) (λ l q. rw l)

  pub lent-untouched : (s : List ℕ) (k : ℕ) (f : File) (out : List ℕ) → (lent_fault g lent handed ≡ 0 → ⊥) → output_in g s k f lent handed out ≡ out
  unfolding output_in
  lent-untouched s k f out n = rw (ne_eqb (lent_fault g lent handed) 0 n)

  -- 14 is given for a workspace that is too short, and for nothing else
  only-short : (back : Marks) (whole : Answer) → (whole.refusal ≡ 14 → ⊥) → (over g lent handed back whole).refusal ≡ 14 → room_is_there g lent ≡ false
  unfolding over
  only-short back whole never e = go (has_lists g handed) (room_is_there g lent) refl e
    where
      go : (l r : Bool) → room_is_there g lent ≡ r → (cond l (cond r whole (answer 14 0 back)) (answer 100 0 handed)).refusal ≡ 14 → room_is_there g lent ≡ false
      go true true h q = absurd (never q)
      go true false h q = h
      go false r h q = absurd (true≢false (sym (eq-eqb 100 14 q)))

refusal_is : (refusal : ℕ) (whole : Answer) (marks : Marks) → whole.refusal ≡ 0 → (cond (eqb refusal 0) whole (answer refusal 0 marks)).refusal ≡ refusal
refusal_is refusal whole marks z =
    by-test (λ v. v.refusal ≡ refusal) (eqb refusal 0) whole (answer refusal 0 marks) (λ e. z ∙ sym (eqb-true refusal 0 e)) (λ e. refl)

module _ (g : Gate) (s : List ℕ) where
  pub judge-never-14 : (judgement g s).refusal ≡ 14 → ⊥
  unfolding judgement is_case bundle_rows
  judge-never-14 e = true≢false (sym (in-case (bundle_rows g.files s) 13 (sym (bundle-refusals g.files s) ∙ sym (refusal_is (bundle_fault g.files s) _ (fresh_marks (marks_of g)) refl) ∙ e)))

  pub judge-14 : (lent : ℕ) (handed : Marks) → (judged_in g s lent handed).refusal ≡ 14 → room_is_there g lent ≡ false
  unfolding judged_in
  judge-14 lent handed e = only-short g lent handed (fresh_marks (marks_of g)) (judgement g s) judge-never-14 e

  module _ (k : ℕ) (f : File) (handed : Marks) where
    pub try-never-14 : (tried g s k f handed).refusal ≡ 14 → ⊥
    unfolding tried answered accepted is_case try_rows lookup_rows bundle_rows
    try-never-14 e = true≢false (sym (in-case (try_rows g.files s k f) 13 (sym (try-refusals g.files s k f) ∙ sym (refusal_is (try_fault g.files s k f) (accepted g s k f handed) handed refl) ∙ e)))

    pub try-14 : (lent : ℕ) → (tried_in g s k f lent handed).refusal ≡ 14 → room_is_there g lent ≡ false
    unfolding tried_in
    try-14 lent e = only-short g lent handed handed (tried g s k f handed) try-never-14 e

    module _ (room : ℕ) where
      pub make-never-14 : (change_made g s k f handed room).refusal ≡ 14 → ⊥
      unfolding change_made answered accepted is_case make_rows try_rows lookup_rows bundle_rows
      make-never-14 e = true≢false (sym (in-case (make_rows g.files s k f room) 13 (sym (make-refusals g.files s k f room) ∙ sym (refusal_is (make_fault g.files s k f room) (accepted g s k f handed) handed refl) ∙ e)))

      pub make-14 : (lent : ℕ) → (made_in g s k f room lent handed).refusal ≡ 14 → room_is_there g lent ≡ false
      unfolding made_in
      make-14 lent e = only-short g lent handed handed (change_made g s k f handed room) make-never-14 e
