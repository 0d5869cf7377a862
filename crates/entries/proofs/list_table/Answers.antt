-- `entries::list_table` meets its contract: with room for the entries they are all listed, and else none.
use Rattle.std.proofs.Common.{◌≡◌, false, arith}
use Rattle.entries.specs.Flat.{fits_at}
use Rattle.entries.proofs.Laws.{not_listed, turned, before-cells, too_short, no_field, too_many, all_listed}
use Rattle.entries.proofs.list_table.Goals as goal
use Rattle.entries.proofs.list_table.Goals.{else-from-to-via-then-from-to+then-to-at+then-work-ge16384+then-at-work+then-k-lt64+else-n-le4096, else-from-to-via-then-from-to+then-to-at+then-work-ge16384+then-at-work+else-k-lt64, else-from-to-via-then-from-to+then-to-at+then-work-ge16384+else-at-work, else-from-to-via-then-from-to+then-to-at+else-work-ge16384, else-from-to-via-then-from-to+else-to-at, else-from-to-via-else-from-to}

pub returns-then-n-le4096-clause-value : goal.returns-then-n-le4096-clause-value
returns-then-n-le4096-clause-value c =
    (all_listed c.args.s.now c.args.work.now c.args.from c.args.to c.args.width c.args.k c.args.n c.args.at c.if-from-to.true c.if-to-at.true (omega (arith, c.if-at-work.true, c.if-work-ge16384.true)) c.if-k-lt64.true c.if-n-le4096.true c.list_records.ensures).0

pub returns-else-from-to-clause-work_after : goal.returns-else-from-to-clause-work_after
returns-else-from-to-clause-work_after c =
    let none : fits_at c.args.work.now c.args.from c.args.to c.args.k c.args.n c.args.at ≡ false = elim c.else-from-to.branch [
      | else-from-to-via-then-from-to+then-to-at+then-work-ge16384+then-at-work+then-k-lt64+else-n-le4096 w ↦ too_many c.args.s.now c.args.work.now c.args.from c.args.to c.args.width c.args.k c.args.n c.args.at w.if-from-to.true w.if-to-at.true (omega (arith, w.if-at-work.true, w.if-work-ge16384.true)) w.if-k-lt64.true w.if-n-le4096.false
      | else-from-to-via-then-from-to+then-to-at+then-work-ge16384+then-at-work+else-k-lt64 w ↦ no_field c.args.s.now c.args.work.now c.args.from c.args.to c.args.width c.args.k c.args.n c.args.at w.if-from-to.true w.if-to-at.true (omega (arith, w.if-at-work.true, w.if-work-ge16384.true)) w.if-k-lt64.false
      | else-from-to-via-then-from-to+then-to-at+then-work-ge16384+else-at-work w ↦ too_short c.args.s.now c.args.work.now c.args.from c.args.to c.args.width c.args.k c.args.n c.args.at w.if-from-to.true w.if-to-at.true (omega (arith, w.if-at-work.false, w.if-work-ge16384.true))
      | else-from-to-via-then-from-to+then-to-at+else-work-ge16384 w ↦ too_short c.args.s.now c.args.work.now c.args.from c.args.to c.args.width c.args.k c.args.n c.args.at w.if-from-to.true w.if-to-at.true (omega (arith, w.if-work-ge16384.false))
      | else-from-to-via-then-from-to+else-to-at w ↦ before-cells c.args.s.now c.args.work.now c.args.from c.args.to c.args.width c.args.k c.args.n c.args.at w.if-from-to.true w.if-to-at.false
      | else-from-to-via-else-from-to w ↦ turned c.args.s.now c.args.work.now c.args.from c.args.to c.args.width c.args.k c.args.n c.args.at w.if-from-to.false
    ] in
    (not_listed c.args.s.now c.args.work.now c.args.from c.args.to c.args.width c.args.k c.args.n c.args.at none).1
