-- What the program prints of a bundle by one of the gates: document 02, order 6, with the limit that document 01 sets the judging
-- program.
use Rattle.std.specs.Prelude.{ℕ, false, cond, List, length, ltb}
use Rattle.report.specs.Report.{refusal_text}
use Rattle.gate_lists.specs.declared.Which.{Which}
use Rattle.reason_text.specs.Text.{reasons_text}

-- "over 65,536 bytes is `bundle 1`"
unfoldable pub printed : Which → List ℕ → List ℕ
printed which s = cond (ltb 65536 (length s)) (refusal_text 1) (reasons_text which false s)
