-- `json_date::plain_date` meets its contract: without the closing quote it tells nothing, and with it the ten bytes decide.
use Rattle.std.proofs.Common.{◌≡◌, ◌+◌, arith}
use lib.Dec.{lit<}
use Rattle.json_bytes.specs.Reads.{byte_at}
use Rattle.json_bytes.proofs.Laws.{inside}
use Rattle.json_date.proofs.Plain.{plain-or-none}
use Rattle.json_date.proofs.plain_date.Goals as goal

pub overflow_add-at : goal.overflow_add-at
overflow_add-at c = omega (arith, inside c.args.s.now _ 34 c.requires (lit< tt))

pub overflow_add-at-2 : goal.overflow_add-at-2
overflow_add-at-2 c = omega (arith, inside c.args.s.now _ 34 c.requires (lit< tt))

pub ten_at-requires : goal.ten_at-requires
ten_at-requires c =
    let close : byte_at c.args.s.now (c.args.at + 11) ≡ 34 = grind arith in omega (arith, inside c.args.s.now _ 34 close (lit< tt))

pub returns : goal.returns
returns c =
    let close : byte_at c.args.s.now (c.args.at + 11) ≡ 34 = grind arith in
    plain-or-none _ _ (inside c.args.s.now _ 34 close (lit< tt)) _ c.ten_at.ensures c.requires close _ c.date_of.ensures
