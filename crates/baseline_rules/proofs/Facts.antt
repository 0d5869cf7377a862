-- What holds of the profile's rules, computed once over all of them.
-- Assumes nothing.
use Prim.Native.Nat.{ℕ, ◌<◌}
use mathlib.Core.Path.{◌≡◌, refl}
use mathlib.Core.Bool.{true}
use mathlib.Core.List.{List, [], ◌∷◌, ◌++◌, map, flatten, append_assoc, map-append}
use lib.ListN.{length, get_or, get_or-append}
use Rattle.table_rows.proofs.Laws.{all}
use Rattle.rule_shape.specs.declared.Rule.{Rule}
use Rattle.rule_shape.specs.Rule.{row_of, rules_in}
use Rattle.rule_shape.proofs.Laws.{rows_back}
use Rattle.schedule_rules.specs.Rules.{rules, rule_rows}
use Rattle.schedule_rules.proofs.Facts.{is_within, is_named}
use Rattle.baseline_rules.specs.Rules.{further_rules, baseline_rules, further_rows, baseline_rows}
use Rattle.baseline_rules.proofs.Opens.{open-baseline-rows}

-- ---- The rows are document 01's and behind them the further ones, and decode to the rules
flatten-append : (xs ys : List (List ℕ)) → flatten (xs ++ ys) ≡ flatten xs ++ flatten ys
unfolding flatten
flatten-append [] ys = refl
flatten-append (x ∷ xs) ys = rw (flatten-append xs ys, append_assoc)

pub rows_join : rule_rows ++ further_rows ≡ baseline_rows
unfolding rule_rows further_rows baseline_rows baseline_rules
rows_join = rw (map-append row_of rules further_rules, flatten-append (map row_of rules) (map row_of further_rules))

pub rows-decode : rules_in baseline_rows ≡ baseline_rules
unfolding baseline_rows
rows-decode = rows_back baseline_rules

pub rows-count : length baseline_rows ≡ 585
unfolding open-baseline-rows flatten
rows-count = refl

pub rules-count : length baseline_rules ≡ 65
unfolding open-baseline-rows
rules-count = refl

-- ---- Every rule reads files from 1 to 19, and every name is one of document 002's
pub rules-within : all is_within baseline_rules ≡ true
unfolding open-baseline-rows all is_within
rules-within = refl

pub all_named : all is_named baseline_rules ≡ true
unfolding open-baseline-rows all is_named
all_named = refl

-- ---- The rules of marks 20 to 80 are document 01's
rules-long : length rules ≡ 61
unfolding open-baseline-rows
rules-long = refl

pub rule-kept : (d : Rule) (i : ℕ) → i < 61 → get_or baseline_rules i d ≡ get_or rules i d
unfolding baseline_rules
rule-kept d i l = get_or-append rules further_rules d i (rw rules-long l)
