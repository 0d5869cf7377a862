-- The rules over a list that was filled with the parents are document 01's, which are over the parents themselves.
-- Assumes nothing.
use Prim.Native.Nat.{ℕ, zero, suc, ◌<◌}
use mathlib.Core.Path.{◌≡◌, refl, sym, ap, ◌∙◌}
use mathlib.Core.Bool.{Bool, true, false}
use mathlib.Core.List.{List}
use native.Mathlib.Omega.{arith}
use borrow.Author.Tests.{lt-ltb}
use lib.Dec.{ltb}
use lib.ListN.{drop, get_or-append}
use Rattle.rule_cells.specs.Cells.{Table, first_that}
use Rattle.rule_cells.proofs.First.{First, first_found, found_first, first-none, none_first}
use Rattle.rule_outline.specs.Outline.{
  level_of,
  parent_of,
  parents_up_to,
  parents_have_room,
  with_parents,
  held_in,
  parent_shown,
  outline_at,
  parent_breaks,
  parent_rule,
  some_of,
  parent_type_breaks,
  parent_type_rule,
}
use Rattle.rule_outline.proofs.Parents.{parents-length, parents-at}

-- ---- The first breaking record depends on what each of the records does, and on nothing else
pub first-same : (f g : ℕ → Bool) (n : ℕ) → ((r : ℕ) → r < n → f r ≡ g r) → first_that f n ≡ first_that g n
first-same f g n h = told (first_that f n) refl
  where
    told : (k : ℕ) → first_that f n ≡ k → first_that f n ≡ first_that g n
    told zero e = e ∙ sym (none_first g n (λ r l. sym (h r l) ∙ first-none f n e r l))
    told (suc r) e =
        let w : First f n 0 r = first_found f n r e in
        e
        ∙ sym
        (found_first g n r
        (record {
          from = w.from;
          inside = w.inside;
          here = sym (h r (omega arith)) ∙ w.here;
          before = λ k l u. sym (h k (omega arith)) ∙ w.before k l u;
        }))

-- some record holds exactly if there is one that does
module _ (holds : ℕ → Bool) (n : ℕ) where
  pub some-there : (q : ℕ) → q < n → holds q ≡ true → some_of holds n ≡ true
  unfolding some_of
  some-there q l e = told (first_that holds n) refl
    where
      told : (k : ℕ) → first_that holds n ≡ k → ltb 0 (first_that holds n) ≡ true
      told zero z =
          let b : holds q ≡ false = first-none holds n z q l in
          let s : ◌≡◌ {A = ℕ} 0 1 = cc in
          absurd (omega arith)
      told (suc k) z = rw z (lt-ltb 0 (suc k) (omega arith))

  pub some-is-there : some_of holds n ≡ true → (q : ℕ) × (q < n) × (holds q ≡ true)
  unfolding some_of
  some-is-there e = told (first_that holds n) refl
    where
      told : (k : ℕ) → first_that holds n ≡ k → (q : ℕ) × (q < n) × (holds q ≡ true)
      told zero z =
          let b : false ≡ true = rw z at e in
          let s : ◌≡◌ {A = ℕ} 0 1 = cc in
          absurd (omega arith)
      told (suc q) z =
          let w : First holds n 0 q = first_found holds n q z in
          (q, omega arith, w.here)

-- ---- Two accounts of the parents that agree on the table's records give one rule
module _ (t : Table) (level : ℕ) (p q : ℕ → ℕ) where
  outline-same : (k : ℕ) → ((r : ℕ) → k ≡ suc r → p r ≡ q r) → outline_at t level p k ≡ outline_at t level q k
  unfolding outline_at parent_shown
  outline-same zero h = refl
  outline-same (suc r) h = rw (h r refl)

  first-outline-same : (f g : ℕ → Bool) → ((r : ℕ) → r < t.records → p r ≡ q r) → ((r : ℕ) → p r ≡ q r → f r ≡ g r) → outline_at t level p (first_that f t.records) ≡ outline_at t level q (first_that g t.records)
  first-outline-same f g agree alike =
      outline-same (first_that f t.records) (λ r e. agree r (omega (arith, (first_found f t.records r e).inside)))
      ∙ ap (outline_at t level q) (first-same f g t.records (λ r l. alike r (agree r l)))

  module _ (agree : (r : ℕ) → r < t.records → p r ≡ q r) (task : ℕ) where
    pub parent-rule-same : (parent : ℕ) → parent_rule t level task parent p ≡ parent_rule t level task parent q
    unfolding parent_rule parent_breaks
    parent-rule-same parent =
        first-outline-same (parent_breaks t level task parent p) (parent_breaks t level task parent q) agree alike
      where
        alike : (r : ℕ) → p r ≡ q r → parent_breaks t level task parent p r ≡ parent_breaks t level task parent q r
        alike r e = rw e

    pub parent-type-rule-same : (u : Table) (id type : ℕ) (word : List ℕ) → parent_type_rule t level task p u id type word ≡ parent_type_rule t level task q u id type word
    unfolding parent_type_rule parent_type_breaks
    parent-type-rule-same u id type word =
        first-outline-same (parent_type_breaks t level task p u id type word) (parent_type_breaks t level task q u id type word) agree alike
      where
        alike : (r : ℕ) → p r ≡ q r → parent_type_breaks t level task p u id type word r ≡ parent_type_breaks t level task q u id type word r
        alike r e = rw e

-- ---- A filled list has the parents
module _ (t : Table) (level : ℕ) (list : List ℕ) (room : parents_have_room t.records list ≡ true) where
  pub filled-holds : (r : ℕ) → r < t.records → held_in (with_parents t level list) r ≡ parent_of t level r
  unfolding held_in with_parents
  filled-holds r l =
      rw room
      (get_or-append (parents_up_to (level_of t level) t.records) (drop t.records list) 0 r (omega (arith, parents-length (level_of t level) t.records))
      ∙ parents-at (level_of t level) t.records r l)

  -- so that marks 79 and 80 over it are those of document 01
  pub filled-parent-rule : (task parent : ℕ) → parent_rule t level task parent (held_in (with_parents t level list)) ≡ parent_rule t level task parent (parent_of t level)
  filled-parent-rule task parent = parent-rule-same t level (held_in (with_parents t level list)) (parent_of t level) filled-holds task parent

  pub filled-parent-type-rule : (task : ℕ) (u : Table) (id type : ℕ) (word : List ℕ) → parent_type_rule t level task (held_in (with_parents t level list)) u id type word ≡ parent_type_rule t level task (parent_of t level) u id type word
  filled-parent-type-rule task u id type word =
      parent-type-rule-same t level (held_in (with_parents t level list)) (parent_of t level) filled-holds task u id type word
