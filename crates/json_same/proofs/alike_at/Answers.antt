-- `json_same::alike_at` meets its contract: where eight bytes are left in both, by the number that tells them apart.
use Rattle.std.proofs.Common.{arith}
use Rattle.json_same.proofs.Alike.{eight-alike}
use Rattle.json_same.proofs.alike_at.Goals as goal

pub returns : goal.returns
returns c = eight-alike _ _ c.type_inv.a c.type_inv.b _ _ (omega arith) (omega arith) _ _ _ _ c.eight_at-p.ensures c.eight_at.ensures c.odd_bytes.ensures c.first_byte.ensures
