-- What the profile's judging program prints of a bundle: document 01, "The judging program", with the profile's marks. Document 02,
-- order 8: "a program of its own starts with `marks 85`".
use Rattle.std.specs.Prelude.{ℕ, cond, List, length, ltb}
use Rattle.report.specs.Report.{refusal_text, report_of}
use Rattle.gate_calls.specs.Calls.{judgement}
use Rattle.baseline.specs.Baseline.{baseline}

-- "over 65,536 bytes is `bundle 1`"
unfoldable pub printed : List ℕ → List ℕ
printed s =
    cond (ltb 65536 (length s)) (refusal_text 1) (report_of (judgement baseline s).refusal (judgement baseline s).marks)
