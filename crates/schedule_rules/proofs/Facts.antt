-- What holds of the schedule gate's rules, computed once over all of them.
-- Assumes nothing.
use Prim.Native.Nat.{ℕ}
use mathlib.Core.Path.{◌≡◌, refl}
use mathlib.Core.Bool.{Bool, true, ◌&&◌, ◌||◌}
use mathlib.Core.List.{List, [], ◌∷◌}
use lib.ListN.{length}
use lib.Dec.{ltb, leb, eqb}
use Rattle.table_fields.specs.Fields.{fields_of}
use Rattle.table_fields.specs.Flat.{first_value}
use Rattle.table_rows.proofs.Laws.{all}
use Rattle.rule_when.specs.declared.When.{When}
use Rattle.rule_shape.specs.declared.Rule.{Rule}
use Rattle.rule_shape.specs.declared.Rule.TheVariants.{KeyOf, OneOf, NullUnless, GivenIf, GivenUnless, NoneBelow, SomeAbove, Together, LevelRun, ParentGiven, AllGiven, NoneGiven, InOrder, TreeLevels, TreeParent, TargetIn, ParentIs, LeafIn, EachHas}
use Rattle.rule_shape.specs.Rule.{first_file_of, second_file_of, rules_in}
use Rattle.rule_shape.proofs.Laws.{rows_back}
use Rattle.schedule_rules.specs.Rules.{rules, rule_rows}
use Rattle.schedule_rules.proofs.Opens.{open-rows}

-- ---- The rows decode to the rules
pub rows-decode : rules_in rule_rows ≡ rules
unfolding rule_rows
rows-decode = rows_back rules

-- ---- Every rule reads files from 1 to 19
is_table : ℕ → Bool
is_table file = leb 1 file && leb file 19

unfoldable pub is_within : Rule → Bool
unfolding is_table
is_within rule = is_table (first_file_of rule) && is_table (second_file_of rule)

pub rules-within : all is_within rules ≡ true
unfolding open-rows all is_within
rules-within = refl

-- ---- Every name is one of the document's. A field's name that is misspelt stands for the count of its table's fields, which is the
-- number of none of them, and an enumeration value's for the count of all values, which is the number of none. Of tables with so
-- many fields each, and so many values together:
module _ (fields : ℕ → ℕ) (values : ℕ) where
  are_fields : ℕ → List ℕ → Bool
  are_fields file = all (λ field. ltb field (fields file))

  are_values : List ℕ → Bool
  are_values = all (λ v. ltb v values)

  -- a condition that always holds names nothing; one that names no field, or no values, has 0 there
  is_condition : ℕ → When → Bool
  is_condition file when = eqb when.kind 0 || (are_fields file (when.field ∷ []) && are_values (when.first ∷ when.second ∷ []))

  -- a run ends behind the field that is named last
  is_run : ℕ → ℕ → ℕ → Bool
  is_run file from to = ltb from to && leb to (fields file)

  unfoldable pub is_named_in : Rule → Bool
  unfolding are_fields are_values is_condition is_run
  is_named_in (KeyOf file key) = are_fields file (key.a ∷ key.b ∷ key.c ∷ [])
  is_named_in (OneOf file field first count) = are_fields file (field ∷ []) && ltb 0 count
  is_named_in (NullUnless file field when) = are_fields file (field ∷ []) && is_condition file when
  is_named_in (GivenIf file field when) = are_fields file (field ∷ []) && is_condition file when
  is_named_in (GivenUnless file field when) = are_fields file (field ∷ []) && is_condition file when
  is_named_in (NoneBelow file from to) = is_run file from to
  is_named_in (SomeAbove file from to) = is_run file from to
  is_named_in (Together file from to) = is_run file from to
  is_named_in (LevelRun file level) = are_fields file (level ∷ [])
  is_named_in (ParentGiven file parent level id) = are_fields file (parent ∷ level ∷ id ∷ [])
  is_named_in (AllGiven file from to) = is_run file from to
  is_named_in (NoneGiven file from to) = is_run file from to
  is_named_in (InOrder file first second) = are_fields file (first ∷ second ∷ [])
  is_named_in (TreeLevels file level) = are_fields file (level ∷ [])
  is_named_in (TreeParent file parent level id) = are_fields file (parent ∷ level ∷ id ∷ [])
  is_named_in (TargetIn file field when other id) = are_fields file (field ∷ []) && (is_condition file when && are_fields other (id ∷ []))
  is_named_in (ParentIs file parent level id other other_id other_type value) =
      are_fields file (parent ∷ level ∷ id ∷ []) && (are_fields other (other_id ∷ other_type ∷ []) && are_values (value ∷ []))
  is_named_in (LeafIn file field other id level) = are_fields file (field ∷ []) && are_fields other (id ∷ level ∷ [])
  is_named_in (EachHas file field when other id) = are_fields file (field ∷ []) && (is_condition file when && are_fields other (id ∷ []))

-- document 002's fields and values
unfoldable pub is_named : Rule → Bool
unfolding is_named_in
is_named = is_named_in (λ file. length (fields_of file)) (first_value 11)

pub all_named : all is_named rules ≡ true
unfolding open-rows all is_named
all_named = refl
