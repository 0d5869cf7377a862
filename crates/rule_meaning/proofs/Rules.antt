-- What the answer of any rule says, and what is shown of a broken one, once for all shapes: the record named breaks the rule, no
-- earlier one does, and the deciding field is the one that document 02, order 6, asks for.
-- Assumes nothing.
use Prim.Native.Nat.{ℕ, zero, suc, ◌+◌, ◌≤◌, ◌<◌}
use mathlib.Core.Path.{◌≡◌, refl, sym, ap, ◌∙◌}
use mathlib.Core.Bool.{Bool, true, false, not}
use mathlib.Core.Logic.{◌↔◌, inr}
use mathlib.Core.List.{List}
use native.Mathlib.Numerals.{add-one}
use borrow.Author.Tests.{not-false, le-leb, ltb-true}
use Rattle.json_number.specs.declared.Sign.{Sign}
use Rattle.json_number.specs.declared.Sign.TheVariants.{Zero, Above, Below}
use Rattle.table_rows.specs.Rows.{value_text_at}
use Rattle.rule_cells.specs.Cells.{Table, is_given, sign_in}
use Rattle.rule_when.specs.When.{holds_when}
use Rattle.rule_when.specs.declared.When.{When}
use Rattle.rule_hours.specs.Hours.{first_field_that, any_field, below_zero, lies_below, is_null}
use Rattle.rule_hours.proofs.Laws.{before-first, first_passes, none-shows}
use Rattle.rule_outline.specs.declared.Outline.{Outline}
use Rattle.rule_shape.specs.declared.Rule.{Rule}
use Rattle.rule_shape.specs.declared.Rule.TheVariants.{KeyOf, OneOf, NullUnless, GivenIf, GivenUnless, NoneBelow, SomeAbove, Together, LevelRun, ParentGiven, AllGiven, NoneGiven, InOrder, TreeLevels, TreeParent, TargetIn, ParentIs, LeafIn, EachHas}
use Rattle.rules.specs.Judge.{parent_break, rule_break, mark_of}
use Rattle.rules.proofs.Companion.{Broken, broken}
use Rattle.rule_reason.specs.Reason.{deciding_field}
use Rattle.rule_meaning.specs.Keeps.{Answers, Given, HasItsTarget, AllAreGiven, Keeps}
use Rattle.rule_meaning.specs.Decides.{IsNull, FirstOfRun, IsMissing, Decides, Shows}
use Rattle.rule_meaning.proofs.Answers.{not-false-true, never_both}
use Rattle.rule_meaning.proofs.Runs.{key-means, none-below-means, some-above-means, together-means, all-given-means, none-given-means}
use Rattle.rule_meaning.proofs.Values.{enumeration-means, null-unless-means, given-if-means, given-unless-means, target-means}
use Rattle.rule_meaning.proofs.Dates.{in-order-means}
use Rattle.rule_meaning.proofs.Levels.{level-run-means}
use Rattle.rule_meaning.proofs.Parents.{parent-means, parent-type-means}
use Rattle.rule_meaning.proofs.Trees.{tree-levels-mean, tree-parents-mean, leaves-mean, no-leaf}

-- ---- The first field of a run that passes a test, where some field does
first-of-run : (test : ℕ → Bool) (Asked : ℕ → Type 0) (from to : ℕ) → ((k : ℕ) → (test k ≡ true) ↔ Asked k) → any_field test from to ≡ true → FirstOfRun Asked from to (first_field_that test from to)
unfolding any_field
first-of-run test Asked from to tells e =
    let m : first_field_that test from to < to = ltb-true (first_field_that test from to) to e in
    let q = first_passes test from to m in
    record {
      starts = q.0;
      inside = m;
      here = (tells (first_field_that test from to)).0 q.1;
      before = λ j l u asked. never_both ((tells j).1 asked) (before-first test from to j l u);
    }

is_below : (g : Sign) → below_zero g ≡ true → g ≡ Below
is_below Below e = refl
is_below Zero e = absurd (never_both e refl)
is_below Above e = absurd (never_both e refl)

null-told : (b : Bool) → (not b ≡ true) ↔ (b ≡ true → ⊥)
null-told true = (λ e g. never_both e refl, λ n. absurd (n refl))
null-told false = (λ e g. never_both g refl, λ n. refl)

-- ---- A value that has no target
module _ (t : Table) (k : ℕ) (when : When) (u : Table) (m : ℕ) (places texts : List ℕ) (r : ℕ) where
  is-missing : (HasItsTarget t k when u m places texts r → ⊥) → IsMissing t k when u m places texts r
  is-missing broken = record {
    given = not-false-true (is_given t.cells t.width r k) (λ e. broken (λ g _. absurd (never_both g e)));
    meets = not-false-true (holds_when t r when places texts) (λ e. broken (λ _ h. absurd (never_both h e)));
    nowhere = λ q l same. broken (λ _ _. (q, l, same));
  }

-- ---- Any rule over a table of 4,096 records or fewer, as every readable one is
module _ (places texts : List ℕ) (t u : Table) (few : t.records ≤ 4096) where
  outline-found : (found : Outline) → (parent_break t found).«record» ≡ found.«record»
  unfolding parent_break
  outline-found found = rw (le-leb t.records 4096 few)

  -- every rule holds exactly if every record keeps it, and else names the first record that does not
  pub rule-means : (rule : Rule) → Answers (Keeps places texts rule t u) t.records (rule_break places texts rule t u).«record»
  unfolding rule_break
  rule-means (KeyOf file key) = key-means t key
  rule-means (OneOf file field first count) = enumeration-means t field places texts first count
  rule-means (NullUnless file field when) = null-unless-means t field places texts when
  rule-means (GivenIf file field when) = given-if-means t field places texts when
  rule-means (GivenUnless file field when) = given-unless-means t field places texts when
  rule-means (NoneBelow file from to) = none-below-means t from to
  rule-means (SomeAbove file from to) = some-above-means t from to
  rule-means (Together file from to) = together-means t from to
  rule-means (LevelRun file level) = level-run-means t level
  rule-means (ParentGiven file parent level id) = rw outline-found (parent-means t level id parent)
  rule-means (AllGiven file from to) = all-given-means t from to
  rule-means (NoneGiven file from to) = none-given-means t from to
  rule-means (InOrder file first second) = in-order-means t first second
  rule-means (TreeLevels file level) = tree-levels-mean t level
  rule-means (TreeParent file parent level id) = rw outline-found (tree-parents-mean t level id parent)
  rule-means (TargetIn file field when other id) = target-means t field places texts when u id
  rule-means (ParentIs file parent level id other other_id other_type value) =
      rw outline-found (parent-type-means t level id u other_id other_type (value_text_at places texts value))
  rule-means (LeafIn file field other id level) = leaves-mean t field u id level
  rule-means (EachHas file field when other id) = target-means t field places texts when u id

  -- the deciding field of a broken rule
  module _ (r : ℕ) where
    -- where not all fields of a run are given, some is null
    first-null : (from to : ℕ) → (AllAreGiven t from to r → ⊥) → FirstOfRun (λ (j : ℕ). IsNull t j r) from to (first_field_that (is_null t.cells t.width r) from to)
    unfolding is_null
    first-null from to broken =
        first-of-run (is_null t.cells t.width r) (λ (j : ℕ). IsNull t j r) from to (λ k. null-told (is_given t.cells t.width r k))
        (not-false-true (any_field (is_null t.cells t.width r) from to) (λ e. broken (λ k a b. not-false (is_given t.cells t.width r k) (none-shows (is_null t.cells t.width r) from to e k a b))))

    decides : (rule : Rule) → (Keeps places texts rule t u r → ⊥) → Decides places texts rule t u r (deciding_field rule t r)
    unfolding deciding_field lies_below is_null
    decides (KeyOf file key) broken = refl
    decides (OneOf file field first count) broken = (
      refl,
      not-false-true (is_given t.cells t.width r field) (λ e. broken (λ g. absurd (never_both g e))),
      λ j l v. broken (λ _. (j, l, v)),
    )
    decides (NullUnless file field when) broken =
        (refl, not-false-true (is_given t.cells t.width r field) (λ e. broken (λ _ g. never_both g e)))
    decides (GivenIf file field when) broken = (refl, λ g. broken (λ _. g))
    decides (GivenUnless file field when) broken = (refl, λ g. broken (λ _. g))
    decides (NoneBelow file from to) broken =
        first-of-run (lies_below t r) (λ (j : ℕ). sign_in t r j ≡ Below) from to (λ k. (is_below (sign_in t r k), λ e. ap below_zero e))
        (not-false-true (any_field (lies_below t r) from to) (λ e. broken (λ k a b below. never_both (ap below_zero below) (none-shows (lies_below t r) from to e k a b))))
    decides (SomeAbove file from to) broken = refl
    decides (Together file from to) broken = first-null from to (λ all. broken (inr all))
    decides (LevelRun file level) broken = refl
    decides (ParentGiven file parent level id) broken = refl
    decides (AllGiven file from to) broken = first-null from to broken
    decides (NoneGiven file from to) broken =
        first-of-run (is_given t.cells t.width r) (λ (j : ℕ). Given t j r) from to (λ k. (λ g. g, λ g. g))
        (not-false-true (any_field (is_given t.cells t.width r) from to) (λ e. broken (λ k a b g. never_both g (none-shows (is_given t.cells t.width r) from to e k a b))))
    decides (InOrder file first second) broken =
        (refl, not-false-true (is_given t.cells t.width r first) (λ e. broken (λ g _ _. never_both g e)))
    decides (TreeLevels file level) broken = refl
    decides (TreeParent file parent level id) broken = refl
    decides (TargetIn file field when other id) broken = (refl, is-missing t field when u id places texts r broken)
    decides (ParentIs file parent level id other other_id other_type value) broken = refl
    decides (LeafIn file field other id level) broken =
        (let w = no-leaf t field u id level r broken in
        (refl, w.0, w.1))
    decides (EachHas file field when other id) broken = (refl, is-missing t field when u id places texts r broken)

    pub field-decides : (rule : Rule) → (rule_break places texts rule t u).«record» ≡ r + 1 → Decides places texts rule t u r (deciding_field rule t r)
    field-decides rule h = decides rule (((rule-means rule).breaks r).0 h).1

  -- a mark of kind 1 shows the first record that breaks its rule
  pub mark-shows : (rule : Rule) (judged : Bool) → (mark_of judged (rule_break places texts rule t u)).kind ≡ 1
      → (r : ℕ) × (((mark_of judged (rule_break places texts rule t u)).place ≡ r + 1) × Shows places texts rule t u r (deciding_field rule t r))
  mark-shows rule judged k = go (rule_break places texts rule t u).«record» refl
    where
      w : Broken (mark_of judged (rule_break places texts rule t u)) (rule_break places texts rule t u)
      w = broken judged (rule_break places texts rule t u) k

      go : (x : ℕ) → (rule_break places texts rule t u).«record» ≡ x → (r : ℕ) × (((mark_of judged (rule_break places texts rule t u)).place ≡ r + 1) × Shows places texts rule t u r (deciding_field rule t r))
      go zero e = absurd (w.some e)
      go (suc r) e =
          let at : (rule_break places texts rule t u).«record» ≡ r + 1 = e ∙ sym (add-one r) in
          let q = ((rule-means rule).breaks r).0 at in
          (r, (w.place_is ∙ at, record { inside = q.0; breaks = q.1; first = q.2; field = field-decides r rule at }))
