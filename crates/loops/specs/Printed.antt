-- What the program prints of a bundle: document 02, order 14, with the limit that document 01 sets the judging program.
use Rattle.std.specs.Prelude.{ℕ, ◌≡◌, Bool, true, false, List, length, replicate, ltb}
use Rattle.output.specs.Output.{output_at, put}
use Rattle.report.specs.Report.{refusal_text}
use Rattle.loop_text.specs.Text.{TellsLoop}

-- "over 65,536 bytes is `bundle 1`"; else what is told in a workspace and a list of the program's own, which no table is too long for
unfoldable pub PrintsLoop : Bool → List ℕ → List ℕ → List ℕ → ℕ → Type 0
PrintsLoop explained s old new r =
    elim (ltb 65536 (length s)) [
      | true ↦ output_at new r ≡ put (output_at old 0) (refusal_text 1)
      | false ↦ (after : List ℕ) × TellsLoop explained 40960 s (replicate 4096 0) after old new r
    ]
