-- The entries of a table's records.
-- Assumes nothing.
use Rattle.std.proofs.Common.{◌≡◌, ℕ, ◌+◌, ◌-◌, ◌*◌, ◌<◌, ◌≤◌, true, false, List, [], map, length, take, drop, sym, refl, ap, ◌∙◌, arith, length-take-le, le-ltb, lt-ltb, eq-eqb, le-leb}
use borrow.Author.Tests.{lt-leb}
use lib.ListN.{length-map}
use Rattle.parts.specs.Part.{part_of}
use Rattle.parts.proofs.Laws.{part-is}
use Rattle.bundle_bytes.specs.Pieces.{written}
use Rattle.key_sum.specs.Sum.{key_sum}
use Rattle.sorted_numbers.proofs.Laws.{ordered-length}
use Rattle.mark_numbers.proofs.Laws.{list_length}
use Rattle.rule_cells.specs.Cells.{Table, table, cell_of, start_of}
use Rattle.rule_key.specs.declared.Key.{Key}
use Rattle.key_order.specs.Order.{field_sum, precedes, sums_of, records_of, in_key_order, are_fit, order_after}
use Rattle.key_order.proofs.Lists.{order-any}
use Rattle.entries.specs.declared.Entry.{Entry}
use Rattle.entries.specs.Entries.{wrapped, entry_of, sum_alone, entries_of}
use Rattle.entries.specs.Flat.{flat_of, fits_at, listed_in}
use Rattle.entries.proofs.Flat.{written-nothing, taken-before}

-- ---- an entry from its numbers
module _ (s cells : List ℕ) (width k r : ℕ) where
  pub entry-is : {start end sum first whole text number : ℕ} → start ≡ cell_of cells width r (2 * k) → end ≡ cell_of cells width r (2 * k + 1) → sum ≡ key_sum s start → first ≡ wrapped (start + 1) → whole ≡ end - start → text ≡ whole - 2 → number ≡ wrapped (r + 1)
      → record { start = first; length = text; sum = sum; «record» = number } ≡ entry_of (table s cells width 0) k r
  unfolding entry_of field_sum start_of
  entry-is start_is end_is sum_is_lem first-is whole_is text-is number_is = rw (first-is, text-is, whole_is, sum_is_lem, number_is, start_is, end_is)

  -- from cells that stand in a list, before what was written
  pub entry-there : (d : List ℕ) (at from to : ℕ) (v : List ℕ) → from ≤ to → to ≤ at → at ≤ length d → cells ≡ take (to - from) (drop from (written d at v)) → {e : Entry} → e ≡ entry_of (table s cells width 0) k r → e ≡ entry_of (table s (part_of d from to) width 0) k r
  entry-there d at from to v l m n is e-is = e-is ∙ ap (λ (c : List ℕ). entry_of (table s c width 0) k r) (is ∙ taken-before d at v from to l m n)

-- ---- the entries of records in order
-- as many as there are records
order-long : (t : Table) (key : Key) (n : ℕ) → length (in_key_order t key n) ≡ n
unfolding in_key_order
order-long t key n = ordered-length (precedes t key (sums_of t key.a n)) (records_of n) ∙ list_length (λ i. i) n

pub entries-long : (t : Table) (k n : ℕ) → length (entries_of t k n) ≡ n
unfolding entries_of
entries-long t k n = length-map (in_key_order t (sum_alone k) n) (entry_of t k) ∙ order-long t (sum_alone k) n

module _ (s work : List ℕ) (from to width k at : ℕ) (l : from ≤ to) (m : to ≤ length work) where
  abbrev there : Table
  there = table s (part_of work from to) width 0

  pub ordered-listed : (sums order scratch : List ℕ) {key : Key} {cells last work' : List ℕ} → key ≡ sum_alone k → cells ≡ take (to - from) (drop from work) → last ≡ order_after (table s cells width 0) key sums order scratch → are_fit sums order scratch ≡ true
      → work' ≡ written work at (flat_of (map (entry_of there k) last)) → work' ≡ written work at (flat_of (entries_of there k (length order)))
  unfolding order_after entries_of
  ordered-listed sums order scratch key-is cells_are last-is fit is = is ∙ rw (last-is, fit, key-is, cells_are, part-is work from to l m)

-- how many records the table is said to have makes no difference
pub entries-any : (s cells : List ℕ) (width records k n : ℕ) → entries_of (table s cells width 0) k n ≡ entries_of (table s cells width records) k n
unfolding entries_of entry_of field_sum
entries-any s cells width records k n = rw (order-any s cells width records (sum_alone k) n)

-- ---- the table whose cells stand in a list
module _ (s work : List ℕ) (from to width k n at : ℕ) where
  abbrev listed : List Entry
  listed = listed_in s work from to width k n at

  -- nothing is written where it does not fit
  pub not_listed : fits_at work from to k n at ≡ false → (0 ≡ length listed) × (work ≡ written work at (flat_of listed))
  unfolding listed_in flat_of
  not_listed e = rw e (refl, sym (written-nothing work at))

  pub turned : to < from → fits_at work from to k n at ≡ false
  unfolding fits_at
  turned h = rw (lt-leb from to h)

  module _ (l : from ≤ to) where
    pub before-cells : at < to → fits_at work from to k n at ≡ false
    unfolding fits_at
    before-cells h = rw (le-leb from to l, lt-leb to at h)

    module _ (m : to ≤ at) where
      pub too_short : length work < at + 16384 → fits_at work from to k n at ≡ false
      unfolding fits_at
      too_short h = rw (le-leb from to l, le-leb to at m, lt-leb (at + 16384) (length work) h)

      module _ (room : at + 16384 ≤ length work) where
        pub no_field : 64 ≤ k → fits_at work from to k n at ≡ false
        unfolding fits_at
        no_field h = rw (le-leb from to l, le-leb to at m, le-leb (at + 16384) (length work) room, le-ltb k 64 h)

        module _ (few : k < 64) where
          pub too_many : 4096 < n → fits_at work from to k n at ≡ false
          unfolding fits_at
          too_many h = rw (le-leb from to l, le-leb to at m, le-leb (at + 16384) (length work) room, lt-ltb k 64 few, lt-leb n 4096 h)

          module _ (most : n ≤ 4096) where
            pub fits : listed ≡ entries_of (table s (part_of work from to) width 0) k n
            unfolding listed_in fits_at
            fits = rw (le-leb from to l, le-leb to at m, le-leb (at + 16384) (length work) room, lt-ltb k 64 few, le-leb n 4096 most)

            pub all_listed : {work' : List ℕ} → work' ≡ written work at (flat_of (entries_of (table s (part_of work from to) width 0) k n)) → (n ≡ length listed) × (work' ≡ written work at (flat_of listed))
            all_listed is =
                let t = table s (part_of work from to) width 0 in
                (sym (ap length fits ∙ entries-long t k n), is ∙ ap (λ es. written work at (flat_of es)) (sym fits))

-- ---- the front of a list of 4,096
pub front : (n : ℕ) (l : List ℕ) → length l ≡ 4096 → n ≤ 4096 → n ≡ length (take n l)
front n l e h = sym (length-take-le n l (omega arith))

pub fronts-fit : (n : ℕ) (a b c : List ℕ) → length a ≡ 4096 → length b ≡ 4096 → length c ≡ 4096 → n ≤ 4096 → are_fit (take n a) (take n b) (take n c) ≡ true
unfolding are_fit
fronts-fit n a b c p q r h =
    rw (← front n a p h, ← front n b q h, ← front n c r h, le-leb n 4096 h, eq-eqb n n refl)
