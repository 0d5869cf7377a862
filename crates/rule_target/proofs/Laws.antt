-- What a target rule says: it holds exactly if each value that is given, in a record that meets the condition, is the value
-- of some target record; and each turn of its search.
-- Assumes nothing.
use Prim.Native.Nat.{ℕ, suc, ◌<◌}
use mathlib.Core.Path.{◌≡◌, refl, sym, ap, ◌∙◌}
use mathlib.Core.Bool.{Bool, true, false, true≢false}
use mathlib.Core.List.{List}
use mathlib.Core.Logic.{◌↔◌}
use Rattle.json_chars.specs.Chars.{chars_at}
use Rattle.json_same.specs.Same.{same_as}
use Rattle.json_same.specs.declared.Case.TheVariants.{Folded}
use Rattle.rule_cells.specs.Cells.{Table, table, start_of, text_of, first_that}
use Rattle.rule_cells.proofs.First.{First, first_found, first-none, first-is-none}
use Rattle.rule_when.specs.declared.When.{When}
use Rattle.rule_target.specs.Target.{target_of, breaks_target, target_rule}

-- record q has this text in field m
unfoldable pub has_text : List ℕ → Table → ℕ → ℕ → Bool
has_text text u m q = same_as Folded text (text_of u q m)

-- the comparison with the text that stands where the target's cell says
pub text_told : (text : List ℕ) (u : Table) (m q start : ℕ) → start ≡ start_of u.cells u.width q m → has_text text u m q ≡ same_as Folded text (chars_at u.bytes start)
unfolding has_text text_of
text_told text u m q start is_start = ap (λ (n : ℕ). same_as Folded text (chars_at u.bytes n)) (sym is_start)

-- the same of the parts of a table
pub target_told : (text s cells : List ℕ) (width q m start : ℕ) (t : Bool) → start ≡ start_of cells width q m → t ≡ same_as Folded text (chars_at s start) → same_as Folded text (text_of (table s cells width 0) q m) ≡ t
unfolding text_of
target_told text s cells width q m start t is_start is_same =
    sym (is_same ∙ ap (λ (n : ℕ). same_as Folded text (chars_at s n)) is_start)

-- and the search for it is the one that the definition makes
pub target_first : (text : List ℕ) (u : Table) (m : ℕ) → target_of text u m ≡ first_that (has_text text (table u.bytes u.cells u.width 0) m) u.records
unfolding target_of has_text
target_first text u m = refl

pub ruleset seeking = (text_told, target_first)

-- some target record has the text, exactly if the first that does is one
module _ (text : List ℕ) (u : Table) (m : ℕ) where
  pub has-target : (q : ℕ) → q < u.records → same_as Folded text (text_of (table u.bytes u.cells u.width 0) q m) ≡ true → target_of text u m ≡ 0 → ⊥
  unfolding target_of
  has-target q l e z =
      let f : same_as Folded text (text_of (table u.bytes u.cells u.width 0) q m) ≡ false = first-none _ u.records z q l in
      let c : true ≡ false = sym e ∙ f in
      true≢false c

  pub is-target : (q : ℕ) → target_of text u m ≡ suc q → First (λ (x : ℕ). same_as Folded text (text_of (table u.bytes u.cells u.width 0) x m)) u.records 0 q
  unfolding target_of
  is-target q e = first_found _ u.records q e

-- the rule holds exactly if no record breaks it, and else the record that it names is the first that does
module _ (t : Table) (k : ℕ) (w : When) (u : Table) (m : ℕ) (places texts : List ℕ) where
  pub target-holds : (target_rule t k w u m places texts ≡ 0) ↔ ((r : ℕ) → r < t.records → breaks_target (table t.bytes t.cells t.width 0) k w u m places texts r ≡ false)
  unfolding target_rule
  target-holds = first-is-none _ t.records

  pub target-breaks : (r : ℕ) → target_rule t k w u m places texts ≡ suc r → First (breaks_target (table t.bytes t.cells t.width 0) k w u m places texts) t.records 0 r
  unfolding target_rule
  target-breaks r e = first_found _ t.records r e
