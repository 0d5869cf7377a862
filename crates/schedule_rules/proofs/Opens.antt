-- One name opens every definition of this crate and of those below it, for tests that compute: a definition that is
-- added here asks nothing of those above.
use mathlib.Core.Bool.{Bool, true}
use mathlib.Core.List.{flatten}
use Rattle.table_fields.proofs.Opens.{open-fields}
use Rattle.table_name.proofs.Opens.{open-names}
use Rattle.rule_shape.proofs.Opens.{open-shapes}
use Rattle.schedule_rules.specs.Rules.{no, value_from, value, ids, integers, dates, key1, key2, key3, always, when_given, when_true, is_either, is, enumeration, null_unless, given_if, given_unless, target, each_has, none_below, some_above, together, levels, parents, parent_types, rules, rule_rows}

unfoldable pub open-rows : Bool
unfolding flatten open-fields open-names open-shapes no value_from value ids integers dates key1 key2 key3 always when_given when_true is_either is enumeration null_unless given_if given_unless target each_has none_below some_above together levels parents parent_types rules rule_rows
open-rows = true
