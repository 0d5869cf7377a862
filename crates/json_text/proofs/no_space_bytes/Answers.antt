-- `json_text::no_space_bytes` meets its contract: the sum carries out of no byte, and the flags are those of each byte.
use Rattle.std.proofs.Common.{arith}
use Rattle.json_text.proofs.Flags.{differs-bound, no-spaces-told}
use Rattle.json_text.proofs.no_space_bytes.Goals as goal

pub overflow_add-over : goal.overflow_add-over
overflow_add-over c = omega (arith, differs-bound c.args.x 0x20 (omega arith))

pub returns : goal.returns
returns c = no-spaces-told _ (omega arith)
