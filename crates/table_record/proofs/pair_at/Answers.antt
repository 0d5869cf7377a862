-- `table_record::pair_at` meets its contract: behind a name and its colon the value is stored in the field named.
use mathlib.Core.Path.{sym, ap, ◌∙◌}
use Rattle.table_record.specs.Record.{cells_filled}
use Rattle.table_record.proofs.Laws.{pair_stored, known_field, type-told}
use Rattle.table_record.proofs.pair_at.Goals as goal

pub returns-in-Ok : goal.returns-in-Ok
returns-in-Ok c =
    let known = sym c.named_at.ensures ∙ c.in_ok-index.was in
    ap (cells_filled _) (sym c.in-Ok.is) ∙ pair_stored _ _ _ _ _ _ known c.if-cells-base-gt0.false _ (sym c.colon_at.ensures ∙ c.in_ok-start.was) _ (c.field_type.ensures ∙ sym (type-told _ _ _ _ (known_field _ _ _ _ _ _ c.requires.all_inside.1.0 known))) _ c.store_value.ensures

pub returns-in-Err : goal.returns-in-Err
returns-in-Err c =
    let known = sym c.named_at.ensures ∙ c.in_ok-index.was in
    ap (cells_filled _) (sym c.in-Err.is) ∙ pair_stored _ _ _ _ _ _ known c.if-cells-base-gt0.false _ (sym c.colon_at.ensures ∙ c.in_ok-start.was) _ (c.field_type.ensures ∙ sym (type-told _ _ _ _ (known_field _ _ _ _ _ _ c.requires.all_inside.1.0 known))) _ c.store_value.ensures
