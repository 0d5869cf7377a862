-- A record names an element that has a child exactly if it names one of those that were picked out; so the rule on leaves can be
-- judged through an order of these. Assumes nothing.
use Prim.Native.Nat.{ℕ, zero, suc, ◌+◌, ◌*◌, ◌≤◌, ◌<◌}
use mathlib.Core.Path.{◌≡◌, refl, sym, ap, ◌∙◌, fun_ext}
use mathlib.Core.Bool.{Bool, true, false, ◌&&◌, true≢false}
use mathlib.Core.List.{List, [], ◌∷◌, ◌++◌}
use mathlib.Core.Logic.{⊎_elim}
use native.Mathlib.Decide.{ℕ_discrete}
use native.Mathlib.Numerals.{add-one}
use native.Mathlib.Omega.{arith}
use borrow.Author.Tests.{le-leb, eq-eqb}
use lib.ListN.{length, get_or, set, take, drop, length-append, get_or-append}
use lib.Dec.{ltb}
use lib.Seq.{drop-cons, append_snoc, length-take-le, take-append_seam, get_or-append_seam, set-append_seam}
use Rattle.json_bytes.proofs.Laws.{both_left, both_right}
use Rattle.json_same.specs.Same.{same_as}
use Rattle.json_same.specs.declared.Case.TheVariants.{Folded}
use Rattle.json_chars.specs.Chars.{chars_at}
use Rattle.rule_cells.specs.Cells.{Table, table, start_of, is_given, integer_in, text_of, same_text, first_that}
use Rattle.rule_cells.proofs.Laws.{cell-is}
use Rattle.rule_key.specs.declared.Key.{Key}
use Rattle.rule_key.proofs.Laws.{both_ways}
use Rattle.rule_outline.specs.Outline.{level_of, some_of}
use Rattle.rule_outline.proofs.Parents.{lower-or-not}
use Rattle.rule_outline.proofs.Rules.{first-same, some-there, some-is-there}
use Rattle.rule_tree.specs.Tree.{has_child, names_a_parent, leaf_breaks, leaf_rule}
use Rattle.key_order.specs.Order.{sums_of, in_key_order, are_fit, sums_after, order_after}
use Rattle.key_order.proofs.Lists.{fit-sums, fit-order}
use Rattle.key_lookup.specs.Lookup.{key_of}
use Rattle.key_lookup.proofs.Laws.{found-exactly}
use Rattle.ordered_target.specs.Found.{one_text}
use Rattle.ordered_target.proofs.Laws.{one-text-has}
use Rattle.ordered_leaf.specs.Parents.{picked, parent_starts, names_one, leaf_breaks_lookup}

-- ---- what is picked out
module _ (passes : ℕ → Bool) (told : ℕ → ℕ) where
  pub picked_next : (q : ℕ) → passes q ≡ true → picked passes told (suc q) ≡ picked passes told q ++ (told q ∷ [])
  unfolding picked
  picked_next q e = rw e

  pub picked_same : (q : ℕ) → passes q ≡ false → picked passes told (suc q) ≡ picked passes told q
  unfolding picked
  picked_same q e = rw e

  picked_none : picked passes told 0 ≡ []
  unfolding picked
  picked_none = refl

  -- each that passes is there
  pub picked-has : (n q : ℕ) → q < n → passes q ≡ true → (j : ℕ) × (j < length (picked passes told n)) × (get_or (picked passes told n) j 0 ≡ told q)
  picked-has zero q l e = absurd (omega arith)
  picked-has (suc n) q l e = at (picked-has n q) (ℕ_discrete q n) (passes n) refl
    where
      at : (q < n → passes q ≡ true → (j : ℕ) × (j < length (picked passes told n)) × (get_or (picked passes told n) j 0 ≡ told q)) → Dec (q ≡ n) → (b : Bool) → passes n ≡ b → (j : ℕ) × (j < length (picked passes told (suc n))) × (get_or (picked passes told (suc n)) j 0 ≡ told q)
      at before (yes z) true p =
          rw (picked_next n p) (length (picked passes told n), omega (arith, length-append (picked passes told n) (told n ∷ [])), get_or-append_seam (picked passes told n) (told n) [] 0 ∙ ap told (sym z))
      at before (yes z) false p = absurd (true≢false (sym (rw z at e) ∙ p))
      at before (no z) true p =
          let w = before (omega arith) e in
          rw (picked_next n p) (w.0, omega (arith, w.1, length-append (picked passes told n) (told n ∷ [])), get_or-append (picked passes told n) (told n ∷ []) 0 w.0 w.1 ∙ w.2)
      at before (no z) false p = rw (picked_same n p) (before (omega arith) e)

  -- and no other
  pub picked-is : (n j : ℕ) → j < length (picked passes told n) → (q : ℕ) × (q < n) × (passes q ≡ true) × (get_or (picked passes told n) j 0 ≡ told q)
  picked-is zero j l = absurd (omega (arith, rw picked_none at l))
  picked-is (suc n) j l = at (picked-is n j) (passes n) refl
    where
      earlier : (j < length (picked passes told n)) → ((q : ℕ) × (q < n) × (passes q ≡ true) × (get_or (picked passes told n) j 0 ≡ told q)) → (xs : List ℕ) → (q : ℕ) × (q < suc n) × (passes q ≡ true) × (get_or (picked passes told n ++ xs) j 0 ≡ told q)
      earlier h w xs = (w.0, omega (arith, w.1), w.2, get_or-append (picked passes told n) xs 0 j h ∙ w.3)

      last : passes n ≡ true → j < length (picked passes told n ++ (told n ∷ [])) → length (picked passes told n) ≤ j → (q : ℕ) × (q < suc n) × (passes q ≡ true) × (get_or (picked passes told n ++ (told n ∷ [])) j 0 ≡ told q)
      last p h g =
          let z : j ≡ length (picked passes told n) = omega (arith, length-append (picked passes told n) (told n ∷ [])) in
          (n, omega arith, p, rw z (get_or-append_seam (picked passes told n) (told n) [] 0))

      at : (j < length (picked passes told n) → (q : ℕ) × (q < n) × (passes q ≡ true) × (get_or (picked passes told n) j 0 ≡ told q)) → (b : Bool) → passes n ≡ b → (q : ℕ) × (q < suc n) × (passes q ≡ true) × (get_or (picked passes told (suc n)) j 0 ≡ told q)
      at before true p =
          rw (picked_next n p)
          (⊎_elim (λ h. earlier h (before h) (told n ∷ [])) (λ h. last p (rw (picked_next n p) at l) h) (lower-or-not j (length (picked passes told n))))
      at before false p =
          let w = before (rw (picked_same n p) at l) in
          rw (picked_same n p) (w.0, omega (arith, w.1), w.2, w.3)

  -- so some that passes does what is asked exactly if some that was picked out does
  pub some-picked : (f : ℕ → Bool) (n : ℕ) → some_of (λ (j : ℕ). f (get_or (picked passes told n) j 0)) (length (picked passes told n)) ≡ some_of (λ (q : ℕ). f (told q) && passes q) n
  some-picked f n = both_ways _ _ there here
    where
      there : some_of (λ (j : ℕ). f (get_or (picked passes told n) j 0)) (length (picked passes told n)) ≡ true → some_of (λ (q : ℕ). f (told q) && passes q) n ≡ true
      there e =
          let w = some-is-there (λ (j : ℕ). f (get_or (picked passes told n) j 0)) (length (picked passes told n)) e in
          let v = picked-is n w.0 w.1 in
          let g : f (told v.0) ≡ true = rw v.3 at w.2 in
          some-there (λ (q : ℕ). f (told q) && passes q) n v.0 v.1 (rw g v.2)

      here : some_of (λ (q : ℕ). f (told q) && passes q) n ≡ true → some_of (λ (j : ℕ). f (get_or (picked passes told n) j 0)) (length (picked passes told n)) ≡ true
      here e =
          let w = some-is-there (λ (q : ℕ). f (told q) && passes q) n e in
          let v = picked-has n w.0 w.1 (both_right (f (told w.0)) (passes w.0) w.2) in
          some-there (λ (j : ℕ). f (get_or (picked passes told n) j 0)) (length (picked passes told n)) v.0 v.1 (rw v.2 (both_left (f (told w.0)) (passes w.0) w.2))

  -- ---- the loop that picks them out: what it has put to the front of a list
  module _ (old list : List ℕ) (n q : ℕ) (is_list : list ≡ picked passes told q ++ drop n old) (is_count : n ≡ length (picked passes told q)) where
    pub pick_next : {x : ℕ} → n < length old → passes q ≡ true → x ≡ told q → (set list n x ≡ picked passes told (q + 1) ++ drop (n + 1) old) × (n + 1 ≡ length (picked passes told (q + 1)))
    pick_next {x} l e h =
        rw (add-one q, add-one n, picked_next q e) (
          ap (λ (s : List ℕ). set s n x) (is_list ∙ ap (λ (s : List ℕ). picked passes told q ++ s) (drop-cons old n 0 l)) ∙ rw is_count (set-append_seam (picked passes told q) (get_or old (length (picked passes told q)) 0) (drop (suc (length (picked passes told q))) old) x ∙ rw h (sym (append_snoc (picked passes told q) (told q) (drop (suc (length (picked passes told q))) old)))),
          omega (arith, is_count, length-append (picked passes told q) (told q ∷ [])),
        )

    pub pick-passes : passes q ≡ false → (list ≡ picked passes told (q + 1) ++ drop n old) × (n ≡ length (picked passes told (q + 1)))
    pick-passes e = rw (add-one q, picked_same q e) (is_list, is_count)

    pub all-picked : {m : ℕ} → m ≤ q → q ≤ m → n ≤ q → (n ≡ length (picked passes told m)) × (n ≤ m)
    all-picked {m} g h few =
        let z : q ≡ m = omega arith in
        (is_count ∙ ap (λ (k : ℕ). length (picked passes told k)) z, omega arith)

    pub picked-listed : {m : ℕ} → m ≤ q → q ≤ m → list ≡ picked passes told m ++ drop n old
    picked-listed {m} g h =
        let z : q ≡ m = omega arith in
        is_list ∙ ap (λ (k : ℕ). picked passes told k ++ drop n old) z

-- ---- a record names a text of a list exactly if it is found in an order of these
module _ (s cells : List ℕ) (width n k : ℕ) (bytes starts : List ℕ) where
  abbrev t : Table
  t = table s cells width 0

  abbrev listed : Table
  listed = table bytes starts 1 0

  found-same : (r : ℕ) → leaf_breaks_lookup t k listed (one_text 0) (sums_of listed 0 (length starts)) (in_key_order listed (key_of (one_text 0)) (length starts)) r ≡ names_one t k bytes starts r
  unfolding leaf_breaks_lookup names_one some_of same_text
  found-same r =
      ap (λ (b : Bool). is_given cells width r k && b)
      (found-exactly listed (one_text 0) (length starts) (text_of t r k)
      ∙ ap (λ (f : ℕ → Bool). ltb 0 (first_that f (length starts))) (fun_ext (one-text-has listed 0 (text_of t r k))))

  fit : (sums order scratch : List ℕ) → length starts ≤ 4096 → length sums ≡ length starts → length order ≡ length starts → length scratch ≡ length starts → are_fit sums order scratch ≡ true
  unfolding are_fit
  fit sums order scratch l a o c =
      rw (le-leb (length order) 4096 (omega arith), eq-eqb (length sums) (length order) (omega arith), eq-eqb (length scratch) (length order) (omega arith))

  -- what the lent lists say, once they are filled
  pub filled-names : (key : Key) (sums order scratch sums' order' : List ℕ) (x : ℕ) → (length starts ≤ 4096) × (length sums ≡ length starts) × (length order ≡ length starts) × (length scratch ≡ length starts) → key ≡ key_of (one_text 0) → sums' ≡ sums_after listed key sums order scratch → order' ≡ order_after listed key sums order scratch → x ≡ first_that (leaf_breaks_lookup t k listed (one_text 0) sums' order') n → x ≡ first_that (names_one t k bytes starts) n
  filled-names key sums order scratch sums' order' x long c g i j =
      let f : are_fit sums order scratch ≡ true = fit sums order scratch long.0 long.1 long.2 long.3 in
      let a : sums' ≡ sums_of listed 0 (length starts) = g ∙ fit-sums sums order scratch listed key f ∙ rw (c, long.2) in
      let o : order' ≡ in_key_order listed (key_of (one_text 0)) (length starts) = i ∙ fit-order sums order scratch listed key f ∙ rw (c, long.2) in
      j ∙ rw (a, o) (ap (λ (f : ℕ → Bool). first_that f n) (fun_ext found-same))

-- ---- the fronts of four lists of 4,096
pub fronts-fit : (n m : ℕ) (starts sums order scratch : List ℕ) → n ≤ m → m ≤ 4096 → length starts ≡ 4096 → length sums ≡ 4096 → length order ≡ 4096 → length scratch ≡ 4096 → (length (take n starts) ≤ 4096) × (length (take n sums) ≡ length (take n starts)) × (length (take n order) ≡ length (take n starts)) × (length (take n scratch) ≡ length (take n starts))
fronts-fit n m starts sums order scratch l few a b c d =
    let e : length (take n starts) ≡ n = length-take-le n starts (omega arith) in
    (omega arith, length-take-le n sums (omega arith) ∙ sym e, length-take-le n order (omega arith) ∙ sym e, length-take-le n scratch (omega arith) ∙ sym e)

-- ---- with the list of those that have a child, that is the rule
module _ (s cells : List ℕ) (width n k : ℕ) (bytes u-cells : List ℕ) (u-width u-n id level : ℕ) where
  abbrev theirs : List ℕ
  theirs = parent_starts (table bytes u-cells u-width 0) id level u-n u-n

  -- field 0 of a table of one cell a record is its cell
  start_is : (starts : List ℕ) (j : ℕ) → j ≤ 4096 → start_of starts 1 j 0 ≡ get_or starts j 0
  unfolding start_of
  start_is starts j l =
      let z : j * 1 + 0 ≡ j = omega arith in
      cell-is starts 1 j 0 l (omega arith) (omega arith) ∙ ap (λ (i : ℕ). get_or starts i 0) z

  names_parent : length theirs ≤ 4096 → (r : ℕ) → names_one (table s cells width 0) k bytes theirs r ≡ leaf_breaks (table s cells width n) k (table bytes u-cells u-width u-n) id level r
  unfolding names_one leaf_breaks some_of names_a_parent same_text text_of level_of integer_in
  names_parent l r =
      ap (λ (b : Bool). is_given cells width r k && b)
      (ap (λ (i : ℕ). ltb 0 i)
      (first-same (λ (j : ℕ). same_as Folded (chars_at s (start_of cells width r k)) (chars_at bytes (start_of theirs 1 j 0))) (λ (j : ℕ). same_as Folded (chars_at s (start_of cells width r k)) (chars_at bytes (get_or theirs j 0))) (length theirs) (λ j h. rw (start_is theirs j (omega arith))))
      ∙ some-picked (has_child (level_of (table bytes u-cells u-width 0) level) u-n) (λ (q : ℕ). start_of u-cells u-width q id) (λ (a : ℕ). same_as Folded (chars_at s (start_of cells width r k)) (chars_at bytes a)) u-n)

  pub picked-gives-rule : (list old : List ℕ) (m x : ℕ) → (m ≡ length theirs) × (m ≤ u-n) → u-n ≤ 4096 → list ≡ theirs ++ drop m old → x ≡ first_that (names_one (table s cells width 0) k bytes (take m list)) n → x ≡ leaf_rule (table s cells width n) k (table bytes u-cells u-width u-n) id level
  unfolding leaf_rule
  picked-gives-rule list old m x long few e h =
      let f : take m list ≡ theirs = rw (e, long.0) (take-append_seam theirs (drop (length theirs) old)) in
      h ∙ rw f (ap (λ (f : ℕ → Bool). first_that f n) (fun_ext (names_parent (omega (arith, long.0, long.1)))))
