-- What each shape of rule asks of one record, in document 01's words, and what a rule's answer says of all of them.
-- Records are counted from 0 here; an answer counts them from 1, and is 0 where no record breaks the rule.
use Rattle.std.specs.Prelude.{ℕ, ◌+◌, ◌≤◌, ◌<◌, ◌≡◌, true, false, ◌↔◌, ◌⊎◌, List, Some}
use Rattle.json_number.specs.declared.Integer.TheVariants.{Is}
use Rattle.json_number.specs.declared.Sign.TheVariants.{Above, Below}
use Rattle.table_rows.specs.Rows.{value_text_at}
use Rattle.json_date.specs.Date.{Date, day_in}
use Rattle.rule_cells.specs.Cells.{Table, is_given, same_text, is_word, integer_in, date_in, sign_in}
use Rattle.rule_when.specs.When.{is_value, holds_when}
use Rattle.rule_when.specs.declared.When.{When}
use Rattle.rule_key.specs.Key.{same_key}
use Rattle.rule_key.specs.declared.Key.{Key}
use Rattle.rule_outline.specs.Outline.{parent_of}
use Rattle.rule_shape.specs.declared.Rule.{Rule}
use Rattle.rule_shape.specs.declared.Rule.TheVariants.{KeyOf, OneOf, NullUnless, GivenIf, GivenUnless, NoneBelow, SomeAbove, Together, LevelRun, ParentGiven, AllGiven, NoneGiven, InOrder, TreeLevels, TreeParent, TargetIn, ParentIs, LeafIn, EachHas}

-- ---- "Kind 1: broken, place the first breaking record", of n records
pub record Answers (Keeps : ℕ → Type 0) (n answer : ℕ) : Type 0 where
  pub holds : (answer ≡ 0) ↔ ((r : ℕ) → r < n → Keeps r)
  pub breaks : (r : ℕ) → (answer ≡ r + 1) ↔ ((r < n) × (Keeps r → ⊥) × ((j : ℕ) → j < r → Keeps j))

-- ---- The key of a record: marks 20 to 35, "Broken at a record whose key equals an earlier one's."
abbrev pub HasItsOwnKey : Table → Key → ℕ → Type 0
HasItsOwnKey t key r = (j : ℕ) → j < r → same_key t key j r ≡ true → ⊥

-- ---- One field of a record
-- field k holds a value: it is not absent, null or empty
abbrev pub Given : Table → ℕ → ℕ → Type 0
Given t k r = is_given t.cells t.width r k ≡ true

-- the record meets the condition of a rule: always, a field given, a field true, or a field that is one of two values
abbrev pub Meets : Table → When → List ℕ → List ℕ → ℕ → Type 0
Meets t w places texts r = holds_when t r w places texts ≡ true

-- marks 36 to 47: a value is one of the n values of its enumeration, of which v is the first; "Null holds."
abbrev pub HasItsValue : Table → ℕ → ℕ → ℕ → List ℕ → List ℕ → ℕ → Type 0
HasItsValue t k v n places texts r = Given t k r → (j : ℕ) × (j < n) × (is_value t r k places texts (v + j) ≡ true)

-- marks 65, 66, 72 and 76: the field is null unless the condition holds
abbrev pub IsNullUnless : Table → ℕ → When → List ℕ → List ℕ → ℕ → Type 0
IsNullUnless t k w places texts r = (Meets t w places texts r → ⊥) → Given t k r → ⊥

-- mark 71: the field is given if the condition holds
abbrev pub IsGivenIf : Table → ℕ → When → List ℕ → List ℕ → ℕ → Type 0
IsGivenIf t k w places texts r = Meets t w places texts r → Given t k r

-- mark 77: the field is given unless the condition holds
abbrev pub IsGivenUnless : Table → ℕ → When → List ℕ → List ℕ → ℕ → Type 0
IsGivenUnless t k w places texts r = (Meets t w places texts r → ⊥) → Given t k r

-- marks 48 to 64, and 67, 73 and 74: some record of the target table has the record's value; "Null holds."
abbrev pub HasItsTarget : Table → ℕ → When → Table → ℕ → List ℕ → List ℕ → ℕ → Type 0
HasItsTarget t k w u m places texts r =
    Given t k r → Meets t w places texts r → (q : ℕ) × (q < u.records) × (same_text t r k u q m ≡ true)

-- ---- The fields of a run, from one on and up to another, which is no part of it
-- marks 68 and 70: "no hours below zero"
abbrev pub NoneIsBelow : Table → ℕ → ℕ → ℕ → Type 0
NoneIsBelow t from to r = (k : ℕ) → from ≤ k → k < to → sign_in t r k ≡ Below → ⊥

-- mark 69: "some hours above zero; null is 0"
abbrev pub SomeIsAbove : Table → ℕ → ℕ → ℕ → Type 0
SomeIsAbove t from to r = (k : ℕ) × (from ≤ k) × (k < to) × (sign_in t r k ≡ Above)

-- document 02, order 8, marks 82 and 84: no field of the run is given
abbrev pub NoneIsGiven : Table → ℕ → ℕ → ℕ → Type 0
NoneIsGiven t from to r = (k : ℕ) → from ≤ k → k < to → Given t k r → ⊥

-- mark 81: all of them are
abbrev pub AllAreGiven : Table → ℕ → ℕ → ℕ → Type 0
AllAreGiven t from to r = (k : ℕ) → from ≤ k → k < to → Given t k r

-- document 01, mark 75: "all null or none"
abbrev pub AllNullOrNone : Table → ℕ → ℕ → ℕ → Type 0
AllNullOrNone t from to r = NoneIsGiven t from to r ⊎ AllAreGiven t from to r

-- ---- Two Dates
-- one Date is after another: in a later year, in a later month of one year, or on a later day of one month
pub data After : Date → Date → Type 0 where
  LaterYear : {y m d z n e : ℕ} → z < y → After (Some (day_in y m d)) (Some (day_in z n e))
  LaterMonth : {y m d n e : ℕ} → n < m → After (Some (day_in y m d)) (Some (day_in y n e))
  LaterDay : {y m d e : ℕ} → e < d → After (Some (day_in y m d)) (Some (day_in y m e))

-- document 02, order 8, mark 83: the first "not after" the second "where both are given"
abbrev pub DatesInOrder : Table → ℕ → ℕ → ℕ → Type 0
DatesInOrder t first second r = Given t first r → Given t second r → After (date_in t r first) (date_in t r second) → ⊥

-- ---- The outline
-- the Level of record r is the whole number l
abbrev pub HasLevel : Table → ℕ → ℕ → ℕ → Type 0
HasLevel t level r l = integer_in t r level ≡ Is false l

-- mark 78: "first Level 1, every Level at least 1, each at most one more than the one before". A Level that is at least 1 is at
-- most one more than the one before only where that one is not below zero, and so a whole number itself.
pub record KeepsRun (t : Table) (level r : ℕ) : Type 0 where
  pub l : ℕ
  pub here : HasLevel t level r l
  pub least : 1 ≤ l
  pub first : r ≡ 0 → l ≡ 1
  pub later : (q : ℕ) → r ≡ q + 1 → (b : ℕ) × HasLevel t level q b × (l ≤ b + 1)

-- mark 79: "Level 1 has null ParentTaskID; any other has the TaskID of its parent ..; broken if there is no such record". What a
-- parent is, rule_outline says: the nearest earlier record of lower Level.
pub record HasItsParent (t : Table) (level task parent r : ℕ) : Type 0 where
  pub top : HasLevel t level r 1 → Given t parent r → ⊥
  pub other : (HasLevel t level r 1 → ⊥) → (q : ℕ) × (parent_of t level r ≡ q + 1) × Given t parent r × (same_text t r parent t q task ≡ true)

-- mark 80: "for each record with Level other than 1 and a parent, some task with the parent's TaskID is SUMMARY", which the word is
abbrev pub ParentIsTyped : Table → ℕ → ℕ → Table → ℕ → ℕ → List ℕ → ℕ → Type 0
ParentIsTyped t level task u id type word r =
    (HasLevel t level r 1 → ⊥) → (q : ℕ) → parent_of t level r ≡ q + 1 → (x : ℕ) × (x < u.records) × (same_text t q task u x id ≡ true) × (is_word u x type word ≡ true)

-- ---- The tree of document 02, order 9
-- "Only the first .. record may have Level 1": the first has it, any other at least 2, and at most one more than the one before
pub record KeepsTree (t : Table) (level r : ℕ) : Type 0 where
  pub l : ℕ
  pub here : HasLevel t level r l
  pub first : r ≡ 0 → l ≡ 1
  pub later : (q : ℕ) → r ≡ q + 1 → (2 ≤ l) × ((b : ℕ) × HasLevel t level q b × (l ≤ b + 1))

-- "and only it has no parent": the first has a null ParentID, any other the ID of its parent
pub record HasTreeParent (t : Table) (level id parent r : ℕ) : Type 0 where
  pub first : r ≡ 0 → Given t parent r → ⊥
  pub other : (r ≡ 0 → ⊥) → (q : ℕ) × (parent_of t level r ≡ q + 1) × Given t parent r × (same_text t r parent t q id ≡ true)

-- element q is named in field k of record r, and is the parent of element c
pub record NamesParentOf (t : Table) (k : ℕ) (u : Table) (id level r q c : ℕ) : Type 0 where
  pub inside : q < u.records
  pub same : same_text t r k u q id ≡ true
  pub child-inside : c < u.records
  pub child : parent_of u level c ≡ q + 1

-- no element that a record names is the parent of any; "with no match it holds"
abbrev pub NamesLeaf : Table → ℕ → Table → ℕ → ℕ → ℕ → Type 0
NamesLeaf t k u id level r = Given t k r → (q c : ℕ) → NamesParentOf t k u id level r q c → ⊥

-- ---- Any rule, by its shape: what it asks of record r of the table t that it judges, beside the table u that it looks into, with
-- the places and the texts of the enumeration values
abbrev pub Keeps : List ℕ → List ℕ → Rule → Table → Table → ℕ → Type 0
Keeps places texts (KeyOf file key) t u r = HasItsOwnKey t key r
Keeps places texts (OneOf file field first count) t u r = HasItsValue t field first count places texts r
Keeps places texts (NullUnless file field when) t u r = IsNullUnless t field when places texts r
Keeps places texts (GivenIf file field when) t u r = IsGivenIf t field when places texts r
Keeps places texts (GivenUnless file field when) t u r = IsGivenUnless t field when places texts r
Keeps places texts (NoneBelow file from to) t u r = NoneIsBelow t from to r
Keeps places texts (SomeAbove file from to) t u r = SomeIsAbove t from to r
Keeps places texts (Together file from to) t u r = AllNullOrNone t from to r
Keeps places texts (LevelRun file level) t u r = KeepsRun t level r
Keeps places texts (ParentGiven file parent level id) t u r = HasItsParent t level id parent r
Keeps places texts (AllGiven file from to) t u r = AllAreGiven t from to r
Keeps places texts (NoneGiven file from to) t u r = NoneIsGiven t from to r
Keeps places texts (InOrder file first second) t u r = DatesInOrder t first second r
Keeps places texts (TreeLevels file level) t u r = KeepsTree t level r
Keeps places texts (TreeParent file parent level id) t u r = HasTreeParent t level id parent r
Keeps places texts (TargetIn file field when other id) t u r = HasItsTarget t field when u id places texts r
Keeps places texts (ParentIs file parent level id other other_id other_type value) t u r =
    ParentIsTyped t level id u other_id other_type (value_text_at places texts value) r
Keeps places texts (LeafIn file field other id level) t u r = NamesLeaf t field u id level r
Keeps places texts (EachHas file field when other id) t u r = HasItsTarget t field when u id places texts r
