-- What the judging program prints of a bundle: document 01, "The judging program".
use Rattle.std.specs.Prelude.{ℕ, cond, List, length, ltb}
use Rattle.report.specs.Report.{refusal_text, report_of}
use Rattle.gate_calls.specs.Calls.{judgement}
use Rattle.schedule.specs.Schedule.{schedule}

-- "over 65,536 bytes is `bundle 1`"
unfoldable pub printed : List ℕ → List ℕ
printed s =
    cond (ltb 65536 (length s)) (refusal_text 1) (report_of (judgement schedule s).refusal (judgement schedule s).marks)
