-- What a rule finds over the table that it judges and the table that it looks into, and the mark that this gives.
-- Document 01: "Kind 1: broken, place the first breaking record of the table named first, counted from 1. Kind 2 place 0:
-- not judged, exactly if some file it reads has a mark other than 0."
use Rattle.std.specs.Prelude.{ℕ, Bool, true, false, cond, ◌&&◌, List, leb, eqb}
use Rattle.table_rows.specs.Rows.{value_text_at}
use Rattle.rule_cells.specs.Cells.{Table}
use Rattle.rule_key.specs.Key.{key_rule}
use Rattle.rule_key.specs.declared.KeyBreak.{KeyBreak}
use Rattle.rule_value.specs.Value.{field_rule}
use Rattle.rule_value.specs.declared.FieldRule.{FieldRule}
use Rattle.rule_target.specs.Target.{target_rule}
use Rattle.rule_dates.specs.Dates.{dates_in_order_rule}
use Rattle.rule_hours.specs.Hours.{none_below_rule, some_above_rule, together_rule, all_given_rule, none_given_rule}
use Rattle.rule_outline.specs.Outline.{level_rule, parent_rule, parent_type_rule, parent_of}
use Rattle.rule_outline.specs.declared.Outline.{Outline}
use Rattle.rule_tree.specs.Tree.{tree_level_rule, tree_parent_rule, leaf_rule}
use Rattle.rule_shape.specs.declared.Rule.{Rule}
use Rattle.rule_shape.specs.declared.Rule.TheVariants.{KeyOf, OneOf, NullUnless, GivenIf, GivenUnless, NoneBelow, SomeAbove, Together, LevelRun, ParentGiven, AllGiven, NoneGiven, InOrder, TreeLevels, TreeParent, TargetIn, ParentIs, LeafIn, EachHas}
use Rattle.rules.specs.declared.Break.{Break}
use Rattle.mark_numbers.specs.declared.Mark.{Mark}
use Rattle.mark_numbers.specs.Marks.{holds, not_judged}

-- ---- The first breaking record, from 1, and the record that goes with it; 0 for none
abbrev pub alone : ℕ → Break
alone r = record { «record» = r; other = 0 }

abbrev pub of_key : KeyBreak → Break
of_key k = record { «record» = k.«record»; other = k.same }

abbrev pub of_outline : Outline → Break
of_outline o = record { «record» = o.«record»; other = o.parent }

-- no table has over 4,096 records, so the parents of all of them fit a list of that length
unfoldable pub parent_break : Table → Outline → Break
parent_break t found = cond (leb t.records 4096) (of_outline found) (alone 0)

-- ---- What a rule finds, with the places and the texts of the enumeration values, over the table t that it judges and the
-- table u that it looks into
unfoldable pub rule_break : List ℕ → List ℕ → Rule → Table → Table → Break
-- 20–35: "a record whose key equals an earlier one's"
rule_break places texts (KeyOf file key) t u = of_key (key_rule t key)
-- 36–47, 65, 66, 72, 76, 71 and 77: a field by itself or by another
rule_break places texts (OneOf file field first count) t u = alone (field_rule t field (FieldRule.OneOf first count) places texts)
rule_break places texts (NullUnless file field when) t u = alone (field_rule t field (FieldRule.NullUnless when) places texts)
rule_break places texts (GivenIf file field when) t u = alone (field_rule t field (FieldRule.GivenIf when true) places texts)
rule_break places texts (GivenUnless file field when) t u = alone (field_rule t field (FieldRule.GivenIf when false) places texts)
-- 68, 70, 69 and 75: a run of fields
rule_break places texts (NoneBelow file from to) t u = alone (none_below_rule t from to)
rule_break places texts (SomeAbove file from to) t u = alone (some_above_rule t from to)
rule_break places texts (Together file from to) t u = alone (together_rule t.cells t.width t.records from to)
-- 78: the run of Levels
rule_break places texts (LevelRun file level) t u = alone (level_rule t level)
-- 79: "the TaskID of its parent, the nearest earlier record of lower Level"
rule_break places texts (ParentGiven file parent level id) t u = parent_break t (parent_rule t level id parent (parent_of t level))
-- document 02, order 8, 81, 82, 84 and 83: the fields of a run, and two Dates
rule_break places texts (AllGiven file from to) t u = alone (all_given_rule t.cells t.width t.records from to)
rule_break places texts (NoneGiven file from to) t u = alone (none_given_rule t.cells t.width t.records from to)
rule_break places texts (InOrder file first second) t u = alone (dates_in_order_rule t first second)
-- order 9, the Levels and the parents of a tree
rule_break places texts (TreeLevels file level) t u = alone (tree_level_rule t level)
rule_break places texts (TreeParent file parent level id) t u = parent_break t (tree_parent_rule t id parent (parent_of t level))
-- document 01, 48–64: "Broken at a record exactly if no target record has that ID."; 67, 73 and 74 ask the same
rule_break places texts (TargetIn file field when other id) t u = alone (target_rule t field when u id places texts)
rule_break places texts (EachHas file field when other id) t u = alone (target_rule t field when u id places texts)
-- 80: "some task with the parent's TaskID is SUMMARY"
rule_break places texts (ParentIs file parent level id other other_id other_type value) t u =
    parent_break t (parent_type_rule t level id (parent_of t level) u other_id other_type (value_text_at places texts value))
-- document 02, order 9: "broken if a matching element has a child"
rule_break places texts (LeafIn file field other id level) t u = alone (leaf_rule t field u id level)

-- ---- The mark of a rule, from the kinds of the marks of its two files
unfoldable pub is_judged : ℕ → ℕ → Bool
is_judged first second = eqb first 0 && eqb second 0

-- document 02, order 5: the companion of a broken rule is the record that goes with it
unfoldable pub mark_of : Bool → Break → Mark
mark_of judged b =
    cond judged (cond (eqb b.«record» 0) holds (record { kind = 1; place = b.«record»; companion = b.other })) not_judged
