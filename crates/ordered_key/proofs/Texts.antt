-- A field that is an ID, of two records: what the comparison of its two texts told.
-- Assumes nothing.
use Prim.Native.Nat.{ℕ}
use mathlib.Core.Path.{◌≡◌, sym, ◌∙◌}
use Rattle.text_order.specs.Order.{text_order}
use Rattle.text_order.specs.declared.Compared.{Compared}
use Rattle.rule_cells.specs.Cells.{Table, start_of}
use Rattle.key_order.specs.Order.{field_order}
use Rattle.key_order.proofs.Ways.{order-texts}

pub texts-are : (t : Table) (kind k i j a b : ℕ) (r v : Compared) → kind ≡ 1 → a ≡ start_of t.cells t.width i k → b ≡ start_of t.cells t.width j k → r ≡ text_order t.bytes a t.bytes b → r ≡ v → field_order t kind k i j ≡ v
texts-are t kind k i j a b r v e f g is told = order-texts t kind k i j e ∙ rw (← f, ← g) (sym is ∙ told)
