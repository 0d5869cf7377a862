-- What is shown of a broken rule beside its record. Document 02, order 6: the "deciding field .. is, for a key, its first; 36 to
-- 64 the one compared; 65, 66, 71, 72, 76 and 77 the one whose null is asked about; 69 SundayWorkHours; 67, 73 and 74 ID; 75 the
-- first null; 78 Level; 79 and 80 ParentTaskID; else the first in table order to break it".
use Rattle.std.specs.Prelude.{ℕ}
use Rattle.rule_cells.specs.Cells.{Table, is_given}
use Rattle.rule_hours.specs.Hours.{first_field_that, lies_below, is_null}
use Rattle.rule_shape.specs.declared.Rule.{Rule}
use Rattle.rule_shape.specs.declared.Rule.TheVariants.{KeyOf, OneOf, NullUnless, GivenIf, GivenUnless, NoneBelow, SomeAbove, Together, LevelRun, ParentGiven, AllGiven, NoneGiven, InOrder, TreeLevels, TreeParent, TargetIn, ParentIs, LeafIn, EachHas}
use Rattle.rule_reason.specs.declared.Searched.{Searched}
use Rattle.rule_reason.specs.declared.Searched.TheVariants.{In, Nowhere}

-- ---- The deciding field, counted within the table t that the rule judges, where record r of it, counted from 0, breaks the rule
unfoldable pub deciding_field : Rule → Table → ℕ → ℕ
-- "for a key, its first"
deciding_field (KeyOf file key) t r = key.a
-- "36 to 64 the one compared"
deciding_field (OneOf file field first count) t r = field
deciding_field (TargetIn file field when other id) t r = field
-- "65, 66, 71, 72, 76 and 77 the one whose null is asked about"
deciding_field (NullUnless file field when) t r = field
deciding_field (GivenIf file field when) t r = field
deciding_field (GivenUnless file field when) t r = field
-- "69 SundayWorkHours", with which its run starts
deciding_field (SomeAbove file from to) t r = from
-- "67, 73 and 74 ID", which is what they look for
deciding_field (EachHas file field when other id) t r = field
-- "75 the first null"
deciding_field (Together file from to) t r = first_field_that (is_null t.cells t.width r) from to
-- "78 Level; 79 and 80 ParentTaskID"
deciding_field (LevelRun file level) t r = level
deciding_field (ParentGiven file parent level id) t r = parent
deciding_field (ParentIs file parent level id other other_id other_type value) t r = parent
-- "else the first in table order to break it", which leaves 68 and 70
deciding_field (NoneBelow file from to) t r = first_field_that (lies_below t r) from to
-- and of order 8's marks 81 by its first null, 82 and 84 by the first that is given: "order 6 explains these too (83 by
-- BaselineStartDate)"
deciding_field (AllGiven file from to) t r = first_field_that (is_null t.cells t.width r) from to
deciding_field (NoneGiven file from to) t r = first_field_that (is_given t.cells t.width r) from to
deciding_field (InOrder file first second) t r = first
-- of order 9's marks levels by Level, parents by ParentID, leaves by the element that is named
deciding_field (TreeLevels file level) t r = level
deciding_field (TreeParent file parent level id) t r = parent
deciding_field (LeafIn file field other id level) t r = field

-- ---- "A missing target names the table searched": document 01 heads 48–64 alone with "targets"
unfoldable pub searched_in : Rule → Searched
searched_in (TargetIn file field when other id) = In other
searched_in (KeyOf file key) = Nowhere
searched_in (OneOf file field first count) = Nowhere
searched_in (NullUnless file field when) = Nowhere
searched_in (GivenIf file field when) = Nowhere
searched_in (GivenUnless file field when) = Nowhere
searched_in (NoneBelow file from to) = Nowhere
searched_in (SomeAbove file from to) = Nowhere
searched_in (Together file from to) = Nowhere
searched_in (LevelRun file level) = Nowhere
searched_in (ParentGiven file parent level id) = Nowhere
searched_in (AllGiven file from to) = Nowhere
searched_in (NoneGiven file from to) = Nowhere
searched_in (InOrder file first second) = Nowhere
searched_in (TreeLevels file level) = Nowhere
searched_in (TreeParent file parent level id) = Nowhere
searched_in (LeafIn file field other id level) = Nowhere
searched_in (ParentIs file parent level id other other_id other_type value) = Nowhere
searched_in (EachHas file field when other id) = Nowhere
