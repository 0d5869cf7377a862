-- The turns of the outline's loops, and that the rules over a filled list of parents are document 01's.
-- Assumes nothing.
use Prim.Native.Nat.{ℕ, zero, suc, ◌+◌, ◌-◌, ◌/◌, ◌%◌, ◌^◌, ◌≤◌, ◌<◌}
use mathlib.Core.Path.{◌≡◌, refl, sym, ap, ◌∙◌}
use mathlib.Core.Bool.{Bool, true, false, not}
use mathlib.Core.Logic.{⊎_elim}
use mathlib.Core.List.{List, ◌++◌}
use native.Mathlib.Nat.{sub-zero}
use native.Mathlib.Numerals.{add-one}
use native.Mathlib.Omega.{arith}
use borrow.Author.Tests.{eq-eqb, ne_eqb, lt-ltb, le-ltb, le-leb, lt-leb, leb-true}
use lib.ListN.{length, get_or, take, drop, set}
use lib.Seq.{drop-cons, set_at, append_snoc, take_at}
use lib.Dec.{ltb, leb, eqb}
use Rattle.json_bytes.proofs.Laws.{by-test}
use Rattle.json_number.specs.Number.{largest, magnitude, within_limits, whole_of, integer_of, number_at}
use Rattle.json_number.specs.Alone.{one_digit}
use Rattle.json_number.specs.declared.Value.{Value}
use Rattle.json_number.specs.declared.Value.TheVariants.{Fits, Beyond}
use Rattle.json_number.specs.declared.Integer.{Integer}
use Rattle.json_number.specs.declared.Integer.TheVariants.{Is, TooLarge}
use Rattle.json_number.proofs.Alone.{digit-integer}
use Rattle.rule_cells.specs.Cells.{Table, table, is_given, start_of, integer_in, text_of, same_text, first_from, first_that}
use Rattle.rule_cells.proofs.Laws.{search-hits, search-goes-on, search-ends}
use Rattle.rule_outline.specs.Outline.{level_zero, level_one, raised, level_of, lower_before, parent_by, parents_up_to, run_breaks, level_breaks, parent_shown, outline_at, some_of, is_typed, parent_type_breaks, parent_type_rule}
use Rattle.rule_outline.proofs.Parents.{lower-or-not, lower-hit, lower-miss, lower-through, parent-within, parents-length, parents-at}

-- ---- A Level
whole-small : (negative : Bool) (c p : ℕ) {n : Bool} {m : ℕ} → whole_of negative c p ≡ Is n m → m ≤ largest
unfolding whole_of
whole-small negative c p {n} {m} h =
    by-test Then (within_limits c p) _ _
    (λ w.
    by-test Then (eqb (magnitude c p % 10 ^ 15) 0) _ _
    (λ r. by-test Then (leb (magnitude c p / 10 ^ 15) largest) _ _ (λ l q. within (leb-true (magnitude c p / 10 ^ 15) largest l) (cc)) (λ l. too_large))
    (λ r q.
    let z : ◌≡◌ {A = ℕ} 0 1 = cc in
    absurd (omega arith)))
    (λ w. too_large)
    h
  where
    Then : Integer → Type 0
    Then r = r ≡ Is n m → m ≤ largest

    within : magnitude c p / 10 ^ 15 ≤ largest → magnitude c p / 10 ^ 15 ≡ m → m ≤ largest
    within l e = rw e at l

    too_large : Then TooLarge
    too_large q =
        let z : ◌≡◌ {A = ℕ} 0 1 = cc in
        absurd (omega arith)

value-small : (v : Value) {n : Bool} {m : ℕ} → integer_of v ≡ Is n m → m ≤ largest
unfolding integer_of
value-small (Fits negative c p) h = whole-small negative c p h
value-small Beyond h =
    let z : ◌≡◌ {A = ℕ} 0 1 = cc in
    absurd (omega arith)

module _ (t : Table) (r k : ℕ) where
  -- an Integer of a table is within its limits
  pub integer-small : {n : Bool} {m : ℕ} → integer_in t r k ≡ Is n m → m ≤ largest
  unfolding integer_in
  integer-small {n} {m} h =
      by-test (λ (x : Integer). x ≡ Is n m → m ≤ largest) (is_given t.cells t.width r k) _ _
      (λ g. value-small (number_at t.bytes (start_of t.cells t.width r k)).value)
      (λ g q.
      let z : 0 ≡ m = cc in
      omega arith)
      h

  module _ {x : Integer} (is_integer : x ≡ integer_in t r k) where
    pub level-below : {n : Bool} {m : ℕ} → x ≡ Is n m → n ≡ true → level_zero - m ≡ level_of t k r
    unfolding level_of raised
    level-below e s = rw (← is_integer, e, s)

    pub level-above : {n : Bool} {m : ℕ} → x ≡ Is n m → n ≡ false → level_zero + m ≡ level_of t k r
    unfolding level_of raised
    level-above e s = rw (← is_integer, e, s)

  -- a Level that is one digit
  pub level-digit : is_given t.cells t.width r k ≡ true → {at x : ℕ} → at ≡ start_of t.cells t.width r k → x ≡ one_digit t.bytes at → x < 10 → level_zero + x ≡ level_of t k r
  unfolding integer_in
  level-digit g {at} {x} place digit small =
      let integer : Is false x ≡ integer_in t r k = rw (g, ← place) (digit-integer t.bytes at digit small) in
      level-above integer refl refl

-- ---- Mark 78
module _ (before at : ℕ) where
  pub run-low : at < level_one → true ≡ run_breaks before at
  unfolding run_breaks
  run-low h = rw (lt-leb level_one at h)

  pub run-high : level_one ≤ at → ltb before (at - 1) ≡ run_breaks before at
  unfolding run_breaks
  run-high h =
      ⊎_elim
      (λ p. rw (le-leb level_one at h, lt-ltb before (at - 1) p, lt-leb at (before + 1) (omega arith)))
      (λ p. rw (le-leb level_one at h, le-ltb before (at - 1) p, le-leb at (before + 1) (omega arith)))
      (lower-or-not before (at - 1))

-- the Level above record r; above the first as if it were 0
unfoldable pub level_above : (ℕ → ℕ) → ℕ → ℕ
level_above levels zero = level_zero
level_above levels (suc r) = levels r

module _ (levels : ℕ → ℕ) where
  first-level : (x : ℕ) → not (eqb x level_one) ≡ run_breaks level_zero x
  unfolding run_breaks
  first-level x =
      ⊎_elim
      (λ p. rw (lt-leb level_one x p, ne_eqb x level_one (λ e. omega arith)))
      (λ p.
      ⊎_elim
      (λ q. rw (le-leb level_one x p, lt-leb x level_one q, ne_eqb x level_one (λ e. omega arith)))
      (λ q. rw (le-leb level_one x p, le-leb x level_one q, eq-eqb x level_one (omega arith)))
      (lower-or-not level_one x))
      (lower-or-not x level_one)

  pub run-told : (r : ℕ) {before at : ℕ} {b : Bool} → before ≡ level_above levels r → at ≡ levels r → b ≡ run_breaks before at → level_breaks levels r ≡ b
  unfolding level_breaks level_above
  run-told zero e a q = first-level (levels 0) ∙ sym (q ∙ rw (e, a))
  run-told (suc r) e a q = sym (q ∙ rw (e, a))

  pub above-next : (r : ℕ) {at : ℕ} → at ≡ levels r → at ≡ level_above levels (r + 1)
  unfolding level_above
  above-next r e = rw (add-one r) e

-- ---- The way from parent to parent
module _ (levels : ℕ → ℕ) (p : ℕ) (some : 0 < p) where
  module _ (list : List ℕ) (fits : p ≤ length list) (is_list : list ≡ parents_up_to levels (length list)) where
    held-is : get_or list (p - 1) 0 ≡ parent_by levels (p - 1)
    held-is = ap (λ (l : List ℕ). get_or l (p - 1) 0) is_list ∙ parents-at levels (length list) (p - 1) (omega arith)

    pub held-earlier : get_or list (p - 1) 0 < p
    held-earlier = omega (arith, held-is, parent-within levels (p - 1))

    pub climb-goes-on : {low at : ℕ} → at ≡ levels (p - 1) → low ≤ at → lower_before levels low p ≡ lower_before levels low (get_or list (p - 1) 0)
    unfolding parent_by
    climb-goes-on {low} is_level h =
        let z : p ≡ suc (p - 1) = omega arith in
        let i : low ≤ levels (p - 1) = rw is_level at h in
        ap (lower_before levels low) z
        ∙ (lower-miss levels low (p - 1) i
        ∙ (lower-through levels low (levels (p - 1)) (p - 1) i ∙ ap (lower_before levels low) (sym held-is)))

  pub climb-ends-at : {low at : ℕ} → at ≡ levels (p - 1) → at < low → lower_before levels low p ≡ p
  climb-ends-at {low} is_level h =
      let z : p ≡ suc (p - 1) = omega arith in
      let i : levels (p - 1) < low = rw is_level at h in
      ap (lower_before levels low) z ∙ (lower-hit levels low (p - 1) i ∙ sym z)

pub climb-finds-none : (levels : ℕ → ℕ) (low p : ℕ) → p ≤ 0 → lower_before levels low p ≡ 0
unfolding lower_before
climb-finds-none levels low p h =
    let z : p ≡ 0 = omega arith in
    rw z

-- ---- Filling a list with parents
module _ (levels : ℕ → ℕ) (old list : List ℕ) (r : ℕ) (is_list : list ≡ parents_up_to levels r ++ drop r old) where
  front-is : take r list ≡ parents_up_to levels r
  front-is = ap (take r) is_list ∙ take_at (parents_up_to levels r) (drop r old) r (parents-length levels r)

  front_length : length (take r list) ≡ r
  front_length = ap length front-is ∙ parents-length levels r

  pub front-holds : take r list ≡ parents_up_to levels (length (take r list))
  front-holds = front-is ∙ ap (parents_up_to levels) (sym front_length)

  pub climbed : {low p : ℕ} → low ≡ levels r → p ≡ lower_before levels low (length (take r list)) → p ≡ parent_by levels r
  unfolding parent_by
  climbed e q = q ∙ rw (e, front_length)

  pub climbed-within : {low p : ℕ} → low ≡ levels r → p ≡ lower_before levels low (length (take r list)) → p ≤ r
  climbed-within e q = omega (arith, climbed e q, parent-within levels r)

  pub fill-next : {p : ℕ} → r < length old → p ≡ parent_by levels r → set list r p ≡ parents_up_to levels (r + 1) ++ drop (r + 1) old
  unfolding parents_up_to
  fill-next {p} h e =
      ap (λ (l : List ℕ). set l r p) (is_list ∙ ap (λ (l : List ℕ). parents_up_to levels r ++ l) (drop-cons old r 0 h))
      ∙ (set_at (parents_up_to levels r) (get_or old r 0) (drop (suc r) old) p r (parents-length levels r)
      ∙ rw (add-one r, e) (sym (append_snoc (parents_up_to levels r) (parent_by levels r) (drop (suc r) old))))

-- ---- Marks 79 and 80
module _ (t : Table) (level : ℕ) (parents : ℕ → ℕ) (breaks : ℕ → Bool) (n r : ℕ) where
  pub outline-hits : {b : Bool} {p : ℕ} → r < n → b ≡ breaks r → b ≡ true → p ≡ parent_shown t level parents r → outline_at t level parents (first_from breaks (n - r) r) ≡ record { «record» = r + 1; parent = p }
  unfolding outline_at
  outline-hits l e h q = rw (search-hits breaks n r l (sym e ∙ h), add-one r, q)

  pub outline-goes-on : {b : Bool} → r < n → b ≡ breaks r → b ≡ false → outline_at t level parents (first_from breaks (n - r) r) ≡ outline_at t level parents (first_from breaks (n - (r + 1)) (r + 1))
  outline-goes-on l e h = ap (outline_at t level parents) (search-goes-on breaks n r l (sym e ∙ h))

  pub outline-ends : n ≤ r → outline_at t level parents (first_from breaks (n - r) r) ≡ record { «record» = 0; parent = 0 }
  unfolding outline_at
  outline-ends l = rw (search-ends breaks n r l)

module _ (s cells : List ℕ) (width n level task : ℕ) (parents : ℕ → ℕ) where
  -- how many records there are plays no part in what is shown of one
  outline-records : (k : ℕ) → outline_at (table s cells width n) level parents k ≡ outline_at (table s cells width 0) level parents k
  unfolding outline_at parent_shown level_of integer_in
  outline-records zero = refl
  outline-records (suc r) = refl

  pub parent-type-rule-starts : (u : Table) (id type : ℕ) (word : List ℕ) → parent_type_rule (table s cells width n) level task parents u id type word ≡ outline_at (table s cells width 0) level parents (first_from (parent_type_breaks (table s cells width 0) level task parents u id type word) (n - 0) 0)
  unfolding parent_type_rule first_that parent_type_breaks is_typed same_text text_of level_of integer_in
  parent-type-rule-starts u id type word = outline-records _ ∙ rw (sub-zero n)

-- ---- Some record of a table
-- where a record does, some record does
module _ (holds : ℕ → Bool) (n q : ℕ) where
  pub some-hits : q < n → first_from holds (n - q) q ≡ first_that holds n → holds q ≡ true → some_of holds n ≡ true
  unfolding some_of
  some-hits l v h = rw (sym v, search-hits holds n q l h) (lt-ltb 0 (q + 1) (omega arith))

  pub some-ends : n ≤ q → first_from holds (n - q) q ≡ first_that holds n → some_of holds n ≡ false
  unfolding some_of
  some-ends l v = rw (sym v, search-ends holds n q l)

pub ruleset outlining = (some-hits, some-ends)
