-- What the deciding field does not depend on, and the code's test on a rule's shape.
-- Assumes nothing.
use Prim.Native.Nat.{ℕ}
use mathlib.Core.Path.{◌≡◌, refl}
use mathlib.Core.List.{List, []}
use Rattle.rule_when.specs.declared.When.{When}
use Rattle.rule_cells.specs.Cells.{table, sign_in}
use Rattle.rule_hours.specs.Hours.{lies_below}
use Rattle.rule_shape.specs.declared.Rule.{Rule}
use Rattle.rule_shape.specs.declared.Rule.TheVariants.{KeyOf, OneOf as one_of, NullUnless, GivenIf, GivenUnless, NoneBelow, SomeAbove, Together, LevelRun, ParentGiven, AllGiven, NoneGiven, InOrder, TreeLevels, TreeParent, TargetIn, ParentIs, LeafIn, EachHas}
use Rattle.rule_reason.specs.declared.Searched.TheVariants.{Nowhere}
use Rattle.rule_reason.specs.Reason.{deciding_field, searched_in}

-- ---- A rule of any shape but "targets", told by its number among the variants, searches no table
pub no_target : (rule : Rule) → ((file field : ℕ) (when : When) (other id : ℕ) → rule ≡ TargetIn file field when other id → ⊥) → Nowhere ≡ searched_in rule
unfolding searched_in
no_target (TargetIn file field when other id) k = absurd (k file field when other id refl)
no_target (KeyOf file key) k = refl
no_target (one_of file field first count) k = refl
no_target (NullUnless file field when) k = refl
no_target (GivenIf file field when) k = refl
no_target (GivenUnless file field when) k = refl
no_target (NoneBelow file from to) k = refl
no_target (SomeAbove file from to) k = refl
no_target (Together file from to) k = refl
no_target (LevelRun file level) k = refl
no_target (ParentGiven file parent level id) k = refl
no_target (AllGiven file from to) k = refl
no_target (NoneGiven file from to) k = refl
no_target (InOrder file first second) k = refl
no_target (TreeLevels file level) k = refl
no_target (TreeParent file parent level id) k = refl
no_target (LeafIn file field other id level) k = refl
no_target (ParentIs file parent level id other other_id other_type value) k = refl
no_target (EachHas file field when other id) k = refl

-- ---- The deciding field is the same however many records the table has
module _ (bytes cells : List ℕ) (width n m r : ℕ) where
  pub deciding-any-count : (rule : Rule) → deciding_field rule (table bytes cells width n) r ≡ deciding_field rule (table bytes cells width m) r
  unfolding deciding_field lies_below sign_in
  deciding-any-count (KeyOf file key) = refl
  deciding-any-count (one_of file field first count) = refl
  deciding-any-count (NullUnless file field when) = refl
  deciding-any-count (GivenIf file field when) = refl
  deciding-any-count (GivenUnless file field when) = refl
  deciding-any-count (NoneBelow file from to) = refl
  deciding-any-count (SomeAbove file from to) = refl
  deciding-any-count (Together file from to) = refl
  deciding-any-count (LevelRun file level) = refl
  deciding-any-count (ParentGiven file parent level id) = refl
  deciding-any-count (AllGiven file from to) = refl
  deciding-any-count (NoneGiven file from to) = refl
  deciding-any-count (InOrder file first second) = refl
  deciding-any-count (TreeLevels file level) = refl
  deciding-any-count (TreeParent file parent level id) = refl
  deciding-any-count (LeafIn file field other id level) = refl
  deciding-any-count (TargetIn file field when other id) = refl
  deciding-any-count (ParentIs file parent level id other other_id other_type value) = refl
  deciding-any-count (EachHas file field when other id) = refl
