-- What holds of any groups of entries and of any lent rows.
-- Assumes nothing.
use Prim.Native.Nat.{ℕ, zero, suc, ◌+◌, ◌-◌, ◌*◌, ◌/◌, ◌≤◌, ◌<◌}
use mathlib.Core.Path.{◌≡◌, refl, sym, ap, ◌∙◌}
use mathlib.Core.Bool.{Bool, true, false, not, ◌&&◌, ◌||◌}
use mathlib.Core.List.{List, [], ◌∷◌, map, flatten}
use native.Mathlib.Nat.{add-zero, add-suc, suc-add, zero-add, not-suc-le-zero}
use native.Mathlib.Omega.{arith}
use lib.ListN.{length, get_or, take, drop, length-append, length-drop, drop_of_length-le}
use lib.Seq.{take_all, get_or-drop, take-nil, drop-length}
use borrow.Author.Tests.{ne_eqb, ltb-true, not-true}
use lib.Dec.{eqb, ltb}
use Rattle.json_bytes.specs.Reads.{leading}
use Rattle.json_bytes.proofs.Laws.{both_left, both_right, run_more, run-stops, run_ends}
use Rattle.json_same.specs.Same.{same_list}
use Rattle.json_same.proofs.Laws.{equal-same}
use Rattle.table_rows.specs.Rows.{listed, count_before, cell_at, Field, table_at, field_name_at, field_at, fields_from, rows_after, tables_in, first_field, field_count, fields_in, value_text_at, values_from}

-- ---- entries by their numbers
module _ {A : Type 0} (at : ℕ → A) where
  pub listed-length : (n f : ℕ) → length (listed at n f) ≡ n
  unfolding listed
  listed-length zero f = refl
  listed-length (suc n) f = ap suc (listed-length n (suc f))

  pub listed_at : (d : A) (n f k : ℕ) → k < n → get_or (listed at n f) k d ≡ at (f + k)
  unfolding listed
  listed_at d zero f k h = absurd (not-suc-le-zero h)
  listed_at d (suc n) f zero h = rw add-zero
  listed_at d (suc n) f (suc k) h = rw (add-suc, ← suc-add) (listed_at d n (suc f) k (omega arith))

-- entries that stand g further on in another list of them
pub listed_same : {A : Type 0} (at there : ℕ → A) (g : ℕ) → ((i : ℕ) → at i ≡ there (g + i)) → (n i : ℕ) → listed at n i ≡ listed there n (g + i)
unfolding listed
listed_same at there g e zero i = refl
listed_same at there g e (suc n) i = rw (e i, listed_same at there g e n (suc i), add-suc g i)

-- ---- a rule at each number below n, from one equation that computes
unfoldable pub up_from : ℕ → ℕ → List ℕ
up_from i zero = []
up_from i (suc n) = i ∷ up_from (suc i) n

module _ {A : Type 0} (at : ℕ → A) where
  numbers-listed : (n f : ℕ) → map at (up_from f n) ≡ listed at n f
  unfolding up_from listed
  numbers-listed zero f = refl
  numbers-listed (suc n) f = ap (λ l. at f ∷ l) (numbers-listed n (suc f))

  pub below_at : (d : A) (n k : ℕ) → k < n → get_or (map at (up_from 0 n)) k d ≡ at k
  below_at d n k h = ap (λ l. get_or l k d) (numbers-listed n 0) ∙ listed_at at d n 0 k h ∙ ap at (zero-add k)

pub each : {A : Type 0} (f g : ℕ → A) (n : ℕ) → map f (up_from 0 n) ≡ map g (up_from 0 n) → (k : ℕ) → k < n → f k ≡ g k
each f g n e k h = sym (below_at f (f k) n k h) ∙ ap (λ l. get_or l k (f k)) e ∙ below_at g (f k) n k h

-- ---- a test that every entry of a list passes
unfoldable pub all : {A : Type 0} → (A → Bool) → List A → Bool
all test [] = true
all test (x ∷ xs) = test x && all test xs

module _ {A : Type 0} (test : A → Bool) (d : A) where
  pub all-at : (l : List A) → all test l ≡ true → (k : ℕ) → k < length l → test (get_or l k d) ≡ true
  unfolding all
  all-at [] e k h = absurd (not-suc-le-zero h)
  all-at (x ∷ xs) e zero h = both_left (test x) (all test xs) e
  all-at (x ∷ xs) e (suc k) h = all-at xs (both_right (test x) (all test xs) e) k (omega arith)

  -- where what stands past the end passes too, every number does
  pub all-total : (l : List A) → all test l ≡ true → test d ≡ true → (k : ℕ) → test (get_or l k d) ≡ true
  unfolding all
  all-total [] e p k = p
  all-total (x ∷ xs) e p zero = both_left (test x) (all test xs) e
  all-total (x ∷ xs) e p (suc k) = all-total xs (both_right (test x) (all test xs) e) p k

-- ---- no text twice in a list
unfoldable pub among : List ℕ → List (List ℕ) → Bool
among x [] = false
among x (y ∷ ys) = same_list x y || among x ys

unfoldable pub distinct : List (List ℕ) → Bool
distinct [] = true
distinct (x ∷ xs) = not (among x xs) && distinct xs

module _ (z : List ℕ) where
  is_among : (x : List ℕ) (l : List (List ℕ)) (k : ℕ) → k < length l → get_or l k z ≡ x → among x l ≡ true
  unfolding among
  is_among x [] k h e = absurd (not-suc-le-zero h)
  is_among x (y ∷ ys) zero h e = rw (e, equal-same x x refl)
  is_among x (y ∷ ys) (suc k) h e = either (same_list x y) (among x ys) (is_among x ys k (omega arith) e)
    where
      either : (a b : Bool) → b ≡ true → (a || b) ≡ true
      either true b e = refl
      either false b e = e

  head-alone : (x : List ℕ) (l : List (List ℕ)) → distinct (x ∷ l) ≡ true → (k : ℕ) → k < length l → get_or l k z ≡ x → ⊥
  unfolding distinct
  head-alone x l d k h e =
      let p : true ≡ false = sym (is_among x l k h e) ∙ not-true (among x l) (both_left (not (among x l)) (distinct l) d) in
      let q : ◌≡◌ {A = ℕ} 0 1 = cc in
      omega arith

  pub distinct-at : (l : List (List ℕ)) → distinct l ≡ true → (i j : ℕ) → i < length l → j < length l → get_or l i z ≡ get_or l j z → i ≡ j
  unfolding distinct
  distinct-at [] d i j hi hj e = absurd (not-suc-le-zero hi)
  distinct-at (x ∷ xs) d zero zero hi hj e = refl
  distinct-at (x ∷ xs) d zero (suc j) hi hj e = absurd (head-alone x xs d j (omega arith) (sym e))
  distinct-at (x ∷ xs) d (suc i) zero hi hj e = absurd (head-alone x xs d i (omega arith) e)
  distinct-at (x ∷ xs) d (suc i) (suc j) hi hj e =
      ap suc (distinct-at xs (both_right (not (among x xs)) (distinct xs) d) i j (omega arith) (omega arith) e)

-- ---- groups: where the next one starts, and that nothing stands past the last
module _ {A : Type 0} where
  pub count_next : (groups : List (List A)) (t : ℕ) → count_before groups (suc t) ≡ count_before groups t + length (get_or groups t [])
  unfolding count_before flatten
  count_next [] t = rw take-nil
  count_next (g ∷ gs) zero = rw length-append (omega arith)
  count_next (g ∷ gs) (suc t) = rw (length-append, length-append) (omega (arith, count_next gs t))

  pub count_past : (groups : List (List A)) (t : ℕ) → length groups ≤ t → count_before groups t ≡ length (flatten groups)
  unfolding count_before
  count_past groups t h = rw (take_all t groups h)

  pub count-within : (groups : List (List A)) (t : ℕ) → count_before groups t + length (get_or groups t []) ≤ length (flatten groups)
  unfolding count_before flatten
  count-within [] t = rw take-nil (omega arith)
  count-within (g ∷ gs) zero = rw length-append (omega arith)
  count-within (g ∷ gs) (suc t) = rw (length-append, length-append) (omega (arith, count-within gs t))

-- ---- fields and values read back, one after the other
module _ (rows names : List ℕ) where
  pub fields-length : (n f : ℕ) → length (fields_from rows names n f) ≡ n
  unfolding fields_from
  fields-length = listed-length (field_at rows names)

  pub fields_at : (d : Field) (n f k : ℕ) → k < n → get_or (fields_from rows names n f) k d ≡ field_at rows names (f + k)
  unfolding fields_from
  fields_at = listed_at (field_at rows names)

module _ (places texts : List ℕ) where
  pub values-at : (n v k : ℕ) → k < n → get_or (values_from places texts n v) k [] ≡ value_text_at places texts (v + k)
  unfolding values_from
  values-at = listed_at (value_text_at places texts) []

-- ---- the rows behind the first f of them
module _ (rows : List ℕ) (f : ℕ) where
  pub rows-past : length rows / 5 < f → rows_after rows f ≡ []
  rows-past h = drop_of_length-le rows {i = f * 5} (omega arith)

  pub rows-rest : take (length rows - f * 5) (rows_after rows f) ≡ rows_after rows f
  rows-rest = take_all (length rows - f * 5) (rows_after rows f) (omega (arith, length-drop (f * 5) rows))

-- ---- a table whose first f fields are passed over reads as the whole table does from field f on
module _ (rows names : List ℕ) (f : ℕ) where
  cell-later : (i k : ℕ) → cell_at (rows_after rows f) 5 i k ≡ cell_at rows 5 (f + i) k
  unfolding cell_at
  cell-later i k = get_or-drop (f * 5) rows (i * 5 + k) 0 ∙ ap (λ n. get_or rows n 0) (omega arith)

  field-later : (i : ℕ) → field_at (rows_after rows f) names i ≡ field_at rows names (f + i)
  unfolding field_at field_name_at
  field-later i = rw (cell-later i 1, cell-later i 2, cell-later i 3, cell-later i 4)

  pub fields-later : (n : ℕ) → fields_from (rows_after rows f) names n 0 ≡ fields_from rows names n f
  unfolding fields_from
  fields-later n = listed_same (field_at (rows_after rows f) names) (field_at rows names) f field-later n 0 ∙ rw add-zero

-- ---- the run of rows that name a table
module _ (rows : List ℕ) where
  pub tables-length : length (tables_in rows) ≡ length rows / 5
  unfolding tables_in
  tables-length = listed-length (table_at rows) (length rows / 5) 0

  pub table-at : (f : ℕ) → f < length rows / 5 → get_or (tables_in rows) f 0 ≡ get_or rows (f * 5) 0
  unfolding tables_in cell_at
  table-at f l = listed_at (table_at rows) 0 (length rows / 5) 0 f l ∙ rw (zero-add, add-zero)

  -- one turn of the walk along a run of rows that pass a test
  module _ (test : ℕ → Bool) (f : ℕ) where
    pub row_counts : f < length rows / 5 → test (get_or rows (f * 5) 0) ≡ true → f + leading test (drop f (tables_in rows)) ≡ (f + 1) + leading test (drop (f + 1) (tables_in rows))
    row_counts l e = run_more test (tables_in rows) f (rw tables-length l) (ap test (table-at f l) ∙ e)

    pub row-stops : f < length rows / 5 → test (get_or rows (f * 5) 0) ≡ false → f + leading test (drop f (tables_in rows)) ≡ f
    row-stops l e = run-stops test (tables_in rows) f (rw tables-length l) (ap test (table-at f l) ∙ e)

    pub rows_end : length rows / 5 ≤ f → f + leading test (drop f (tables_in rows)) ≡ f
    rows_end l = run_ends test (tables_in rows) f (rw tables-length l)

  -- a table beyond every table that the rows name has no fields
  module _ (names : List ℕ) (n : ℕ) (below : all (λ t. ltb t n) (tables_in rows) ≡ true) where
    others : (k : ℕ) → n ≤ k → (l : List ℕ) → all (λ t. ltb t n) l ≡ true → leading (λ t. not (eqb t k)) l ≡ length l
    unfolding all leading
    others k m [] e = refl
    others k m (t ∷ ts) e =
        let l : t < n = ltb-true t n (both_left (ltb t n) (all (λ t. ltb t n) ts) e) in
        rw (ne_eqb t k (omega arith), leading) (ap suc (others k m ts (both_right (ltb t n) (all (λ t. ltb t n) ts) e)))

    pub fields-past : (k : ℕ) → n ≤ k → fields_in rows names k ≡ []
    unfolding fields_in field_count first_field leading fields_from listed
    fields-past k m = rw (others k m (tables_in rows) below, drop-length (tables_in rows))

  module _ (names : List ℕ) (k : ℕ) where
    pub fields-of-run : fields_from (rows_after rows (first_field rows k)) names (field_count rows k) 0 ≡ fields_in rows names k
    unfolding fields_in
    fields-of-run = fields-later rows names (first_field rows k) (field_count rows k)

    pub fields-in-length : length (fields_in rows names k) ≡ field_count rows k
    unfolding fields_in
    fields-in-length = fields-length rows names (field_count rows k) (first_field rows k)

-- what a walk along such a run needs, and what takes the rows behind the first of them
pub ruleset walking = (row_counts, row-stops, rows_end)

pub ruleset parting = (rows-past, rows-rest)
