-- What the deciding field of a broken rule has to do with the break, by the rule's shape. Document 02, order 6, names the field;
-- this says what a reader sees in it.
use Rattle.std.specs.Prelude.{ℕ, ◌+◌, ◌≤◌, ◌<◌, ◌≡◌, true, List}
use Rattle.json_number.specs.declared.Sign.TheVariants.{Below}
use Rattle.rule_cells.specs.Cells.{Table, same_text, sign_in}
use Rattle.rule_when.specs.When.{is_value}
use Rattle.rule_when.specs.declared.When.{When}
use Rattle.rule_shape.specs.declared.Rule.{Rule}
use Rattle.rule_shape.specs.declared.Rule.TheVariants.{KeyOf, OneOf, NullUnless, GivenIf, GivenUnless, NoneBelow, SomeAbove, Together, LevelRun, ParentGiven, AllGiven, NoneGiven, InOrder, TreeLevels, TreeParent, TargetIn, ParentIs, LeafIn, EachHas}
use Rattle.rule_meaning.specs.Keeps.{Given, Meets, NamesParentOf, Keeps}

-- field k of record r is null
abbrev pub IsNull : Table → ℕ → ℕ → Type 0
IsNull t k r = Given t k r → ⊥

-- field k is the first of a run that is as asked
pub record FirstOfRun (Asked : ℕ → Type 0) (from to k : ℕ) : Type 0 where
  pub starts : from ≤ k
  pub inside : k < to
  pub here : Asked k
  pub before : (j : ℕ) → from ≤ j → j < k → Asked j → ⊥

-- a value is given and stands in none of the records that were searched
pub record IsMissing (t : Table) (k : ℕ) (when : When) (u : Table) (m : ℕ) (places texts : List ℕ) (r : ℕ) : Type 0 where
  pub given : Given t k r
  pub meets : Meets t when places texts r
  pub nowhere : (q : ℕ) → q < u.records → same_text t r k u q m ≡ true → ⊥

-- ---- Field k of record r, which breaks the rule
abbrev pub Decides : List ℕ → List ℕ → Rule → Table → Table → ℕ → ℕ → Type 0
-- the first field of the key; that an earlier record has the key, the rule itself says
Decides places texts (KeyOf file key) t u r k = k ≡ key.a
-- a value that is none of the enumeration's
Decides places texts (OneOf file field first count) t u r k =
    (k ≡ field) × Given t k r × ((j : ℕ) → j < count → is_value t r k places texts (first + j) ≡ true → ⊥)
-- a value that ought to be null, and a null that ought to be given
Decides places texts (NullUnless file field when) t u r k = (k ≡ field) × Given t k r
Decides places texts (GivenIf file field when) t u r k = (k ≡ field) × IsNull t k r
Decides places texts (GivenUnless file field when) t u r k = (k ≡ field) × IsNull t k r
-- the first hours below zero
Decides places texts (NoneBelow file from to) t u r k = FirstOfRun (λ j. sign_in t r j ≡ Below) from to k
-- the first hours of the run
Decides places texts (SomeAbove file from to) t u r k = k ≡ from
-- the first null of the run
Decides places texts (Together file from to) t u r k = FirstOfRun (λ j. IsNull t j r) from to k
-- of order 8 the first null of the run, the first that is given, and the first of two Dates
Decides places texts (AllGiven file from to) t u r k = FirstOfRun (λ j. IsNull t j r) from to k
Decides places texts (NoneGiven file from to) t u r k = FirstOfRun (λ j. Given t j r) from to k
Decides places texts (InOrder file first second) t u r k = (k ≡ first) × Given t k r
-- the Level, and the parent's ID as the record has it
Decides places texts (LevelRun file level) t u r k = k ≡ level
Decides places texts (ParentGiven file parent level id) t u r k = k ≡ parent
Decides places texts (ParentIs file parent level id other other_id other_type value) t u r k = k ≡ parent
-- of order 9 the Level, the parent's ID as the record has it, and the ID of an element that has a child
Decides places texts (TreeLevels file level) t u r k = k ≡ level
Decides places texts (TreeParent file parent level id) t u r k = k ≡ parent
Decides places texts (LeafIn file field other id level) t u r k =
    (k ≡ field) × Given t k r × ((q : ℕ) × (c : ℕ) × NamesParentOf t k u id level r q c)
-- a value that no record of the table searched has
Decides places texts (TargetIn file field when other id) t u r k = (k ≡ field) × IsMissing t k when u id places texts r
Decides places texts (EachHas file field when other id) t u r k = (k ≡ field) × IsMissing t k when u id places texts r

-- ---- What is shown of a broken rule: record r, counted from 0, breaks it, no earlier one does, and field k decides it
pub record Shows (places texts : List ℕ) (rule : Rule) (t u : Table) (r k : ℕ) : Type 0 where
  pub inside : r < t.records
  pub breaks : Keeps places texts rule t u r → ⊥
  pub first : (j : ℕ) → j < r → Keeps places texts rule t u j
  pub field : Decides places texts rule t u r k
