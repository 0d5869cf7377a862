-- What holds of the rows of any rules: which files a row names, and that the rows of a list of rules are read back as that
-- list. Assumes nothing.
use Prim.Native.Nat.{ℕ, zero, suc, ◌+◌, ◌*◌, ◌/◌, ◌≤◌, ◌<◌}
use mathlib.Core.Path.{◌≡◌, refl, sym, ap, ◌∙◌}
use mathlib.Core.List.{List, [], ◌∷◌, ◌++◌, map, flatten, append-nil}
use native.Mathlib.Nat.{not-suc-le-zero, mul-div_cancel, add-zero, add-suc, suc-add, zero-add}
use native.Mathlib.Omega.{arith}
use lib.ListN.{length, get_or, replicate, length-append, get_or-eq_default, get_or-map}
use lib.Seq.{get_or-append-add}
use Rattle.table_rows.specs.Rows.{cell_at}
use Rattle.rule_shape.specs.declared.Rule.{Rule}
use Rattle.rule_shape.specs.declared.Rule.TheVariants.{KeyOf, OneOf, NullUnless, GivenIf, GivenUnless, NoneBelow, SomeAbove, Together, LevelRun, ParentGiven, AllGiven, NoneGiven, InOrder, TreeLevels, TreeParent, TargetIn, ParentIs, LeafIn, EachHas}
use Rattle.rule_shape.specs.Rule.{condition, first_file_of, second_file_of, row_of, shapes_of, rule_of, rule_from, rules_from, rules_in}

-- ---- The files of a row. In a list that holds one number and that number past its end:
alike : (m n a : ℕ) → get_or (replicate m a) n a ≡ a
alike zero n a = refl
alike (suc m) zero a = refl
alike (suc m) (suc n) a = alike m n a

-- in one that holds a number m times, then another k times, and that other past its end:
front : (m k n a b : ℕ) → n < m → get_or (replicate m a ++ replicate k b) n b ≡ a
front zero k n a b h = absurd (not-suc-le-zero h)
front (suc m) k zero a b h = refl
front (suc m) k (suc n) a b h = front m k n a b (omega arith)

behind : (m k n a b : ℕ) → m ≤ n → get_or (replicate m a ++ replicate k b) n b ≡ b
behind zero k n a b h = alike k n b
behind (suc m) k zero a b h = absurd (not-suc-le-zero h)
behind (suc m) k (suc n) a b h = behind m k n a b (omega arith)

-- the first file is the row's second number; a shape from 15 on looks into the file that is its third
module _ (shape file other field a b c d e : ℕ) where
  first_of : first_file_of (rule_of shape file other field a b c d e) ≡ file
  unfolding rule_of shapes_of first_file_of
  first_of = sym (get_or-map first_file_of (shapes_of file other field a b c d e) shape (EachHas file field (condition a b c d) other e)) ∙ alike 18 shape file

  second-of : second_file_of (rule_of shape file other field a b c d e) ≡ get_or (replicate 15 file ++ replicate 3 other) shape other
  unfolding rule_of shapes_of second_file_of
  second-of = sym (get_or-map second_file_of (shapes_of file other field a b c d e) shape (EachHas file field (condition a b c d) other e))

  -- and any shape past the others is the last
  pub last-shape : 18 ≤ shape → rule_of shape file other field a b c d e ≡ EachHas file field (condition a b c d) other e
  unfolding rule_of shapes_of
  last-shape h = get_or-eq_default (shapes_of file other field a b c d e) (EachHas file field (condition a b c d) other e) h

module _ (rows : List ℕ) (i : ℕ) where
  pub first-is : first_file_of (rule_from rows i) ≡ cell_at rows 9 i 1
  unfolding rule_from
  first-is = first_of _ _ _ _ _ _ _ _ _

  pub second-own : cell_at rows 9 i 0 < 15 → second_file_of (rule_from rows i) ≡ cell_at rows 9 i 1
  unfolding rule_from
  second-own h = second-of _ _ _ _ _ _ _ _ _ ∙ front 15 3 _ _ _ h

  pub second-other : 15 ≤ cell_at rows 9 i 0 → second_file_of (rule_from rows i) ≡ cell_at rows 9 i 2
  unfolding rule_from
  second-other h = second-of _ _ _ _ _ _ _ _ _ ∙ behind 15 3 _ _ _ h

-- ---- The rules of any rows: as many as there are rows, each the rule of its row
module _ (rows : List ℕ) where
  count-from : (n i : ℕ) → length (rules_from rows n i) ≡ n
  unfolding rules_from
  count-from zero i = refl
  count-from (suc n) i = ap suc (count-from n (suc i))

  at_from : (d : Rule) (n i k : ℕ) → k < n → get_or (rules_from rows n i) k d ≡ rule_from rows (i + k)
  unfolding rules_from
  at_from d zero i k h = absurd (not-suc-le-zero h)
  at_from d (suc n) i zero h = rw add-zero
  at_from d (suc n) i (suc k) h = rw (add-suc, ← suc-add) (at_from d n (suc i) k (omega arith))

  pub rules-count : length (rules_in rows) ≡ length rows / 9
  unfolding rules_in
  rules-count = count-from (length rows / 9) 0

  pub rule-at : (d : Rule) (i : ℕ) → i < length rows / 9 → get_or (rules_in rows) i d ≡ rule_from rows i
  unfolding rules_in
  rule-at d i h = rw zero-add at (at_from d (length rows / 9) 0 i h)

-- ---- A rule's row is read back as the rule, also before other rows
row-length : (r : Rule) → length (row_of r) ≡ 9
unfolding row_of
row-length (KeyOf file key) = refl
row-length (OneOf file field first count) = refl
row-length (NullUnless file field when) = refl
row-length (GivenIf file field when) = refl
row-length (GivenUnless file field when) = refl
row-length (NoneBelow file from to) = refl
row-length (SomeAbove file from to) = refl
row-length (Together file from to) = refl
row-length (LevelRun file level) = refl
row-length (ParentGiven file parent level id) = refl
row-length (AllGiven file from to) = refl
row-length (NoneGiven file from to) = refl
row-length (InOrder file first second) = refl
row-length (TreeLevels file level) = refl
row-length (TreeParent file parent level id) = refl
row-length (TargetIn file field when other id) = refl
row-length (ParentIs file parent level id other other_id other_type value) = refl
row-length (LeafIn file field other id level) = refl
row-length (EachHas file field when other id) = refl

row_first : (r : Rule) (rest : List ℕ) → rule_from (row_of r ++ rest) 0 ≡ r
unfolding rule_from rule_of shapes_of row_of cell_at
row_first (KeyOf file key) rest = refl
row_first (OneOf file field first count) rest = refl
row_first (NullUnless file field when) rest = refl
row_first (GivenIf file field when) rest = refl
row_first (GivenUnless file field when) rest = refl
row_first (NoneBelow file from to) rest = refl
row_first (SomeAbove file from to) rest = refl
row_first (Together file from to) rest = refl
row_first (LevelRun file level) rest = refl
row_first (ParentGiven file parent level id) rest = refl
row_first (AllGiven file from to) rest = refl
row_first (NoneGiven file from to) rest = refl
row_first (InOrder file first second) rest = refl
row_first (TreeLevels file level) rest = refl
row_first (TreeParent file parent level id) rest = refl
row_first (TargetIn file field when other id) rest = refl
row_first (ParentIs file parent level id other other_id other_type value) rest = refl
row_first (LeafIn file field other id level) rest = refl
row_first (EachHas file field when other id) rest = refl

pub row_back : (r : Rule) → rule_from (row_of r) 0 ≡ r
row_back r = rw append-nil at (row_first r [])

-- ---- The rows of any list of rules are read back as that list
module _ (r : Rule) (rest : List ℕ) where
  cell-next : (i j : ℕ) → cell_at (row_of r ++ rest) 9 (suc i) j ≡ cell_at rest 9 i j
  unfolding cell_at
  cell-next i j =
      ap (λ n. get_or (row_of r ++ rest) n 0) (omega (arith, row-length r)) ∙ get_or-append-add (row_of r) rest (i * 9 + j) 0

  rule-next : (i : ℕ) → rule_from (row_of r ++ rest) (suc i) ≡ rule_from rest i
  unfolding rule_from
  rule-next i =
      rw (cell-next i 0, cell-next i 1, cell-next i 2, cell-next i 3, cell-next i 4, cell-next i 5, cell-next i 6, cell-next i 7, cell-next i 8)

  rules-next : (n i : ℕ) → rules_from (row_of r ++ rest) n (suc i) ≡ rules_from rest n i
  unfolding rules_from
  rules-next zero i = refl
  rules-next (suc n) i = rw (rule-next i, rules-next n (suc i))

rows-length : (rs : List Rule) → length (flatten (map row_of rs)) ≡ length rs * 9
unfolding flatten
rows-length [] = refl
rows-length (r ∷ rs) = rw length-append (omega (arith, row-length r, rows-length rs))

rows-from : (rs : List Rule) → rules_from (flatten (map row_of rs)) (length rs) 0 ≡ rs
unfolding flatten rules_from
rows-from [] = refl
rows-from (r ∷ rs) = rw (row_first r (flatten (map row_of rs)), rules-next r (flatten (map row_of rs)) (length rs) 0, rows-from rs)

pub rows_back : (rs : List Rule) → rules_in (flatten (map row_of rs)) ≡ rs
unfolding rules_in
rows_back rs = rw (rows-length rs, mul-div_cancel (length rs) {n = 9} (omega arith)) (rows-from rs)
