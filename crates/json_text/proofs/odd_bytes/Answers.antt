-- `json_text::odd_bytes` meets its contract: no sum carries out of a byte, and the flags are those of each byte.
use Rattle.std.proofs.Common.{arith}
use lib.Bits.{and_le_r}
use Rattle.json_text.proofs.Flags.{differs-bound, flags-told}
use Rattle.json_text.proofs.odd_bytes.Goals as goal

pub overflow_add-over : goal.overflow_add-over
overflow_add-over c = omega (arith, and_le_r c.args.x 0x7F7F7F7F7F7F7F7F)

pub overflow_add-graphic : goal.overflow_add-graphic
overflow_add-graphic c = omega (arith, and_le_r c.args.x 0x7F7F7F7F7F7F7F7F)

pub overflow_add-no_quote : goal.overflow_add-no_quote
overflow_add-no_quote c = omega (arith, differs-bound c.args.x 0x22 (omega arith))

pub overflow_add-no_slash : goal.overflow_add-no_slash
overflow_add-no_slash c = omega (arith, differs-bound c.args.x 0x5C (omega arith))

pub returns : goal.returns
returns c = flags-told _ (omega arith)
