-- What is printed, from what the writers of the text ensure.
-- Assumes nothing.
use Prim.Native.Nat.{ℕ, ◌≤◌, ◌<◌}
use mathlib.Core.Path.{◌≡◌}
use mathlib.Core.Bool.{Bool}
use mathlib.Core.List.{List}
use borrow.Author.Tests.{lt-ltb, le-ltb}
use lib.ListN.{length, replicate}
use Rattle.json_bytes.specs.Ascii.{codes}
use Rattle.output.specs.Output.{output_at, put}
use Rattle.report.specs.Report.{counted, refusal_text}
use Rattle.loop_text.specs.Text.{TellsLoop}
use Rattle.loops.specs.Printed.{PrintsLoop}

module _ (explained : Bool) (s old : List ℕ) {new : List ℕ} {r : ℕ} where
  pub too_long : 65536 < length s → output_at new r ≡ put (output_at old 0) (counted (codes "bundle ") 1) → PrintsLoop explained s old new r
  unfolding PrintsLoop refusal_text
  too_long l h = rw (lt-ltb 65536 (length s) l, PrintsLoop) h

  pub told : length s ≤ 65536 → (lent : ℕ) → lent ≡ 40960 → (after : List ℕ) → TellsLoop explained lent s (replicate 4096 0) after old new r → PrintsLoop explained s old new r
  unfolding PrintsLoop
  told l lent w after x = rw (le-ltb 65536 (length s) l, PrintsLoop) (after, rw w at x)
