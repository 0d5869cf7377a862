-- `judge::put_judgement` meets its contract: the report of the judgement, or of a bundle that is too long.
use mathlib.Core.Path.{◌∙◌}
use Rattle.judge.proofs.Laws.{report-front, judged, too_long}
use Rattle.judge.proofs.put_judgement.Goals as goal

pub returns-then-bundle-gt65536 : goal.returns-then-bundle-gt65536
returns-then-bundle-gt65536 c = report-front 1 c.fresh.result c.args.out.now c.requires c.report_board.ensures.value c.report_board.ensures.out_after
    ∙ too_long c.args.bundle.now c.if-bundle-gt65536.true c.fresh.result

pub returns : goal.returns
returns c = report-front c.judge-verdict.result.refusal c.judge-verdict.result.board c.args.out.now c.requires c.report_board-2.ensures.value c.report_board-2.ensures.out_after
    ∙ judged c.args.bundle.now c.if-bundle-gt65536.false c.judge-verdict.ensures
