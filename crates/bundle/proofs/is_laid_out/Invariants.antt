-- `bundle::is_laid_out` meets its contract: what is left to see at the loop's head gives what the whole gives.
use Prim.Native.Nat.{◌-◌}
use mathlib.Core.Path.{◌≡◌}
use Rattle.bundle_layout.specs.Bundle.{end_of, laid_out, laid_out_from}
use Rattle.bundle.proofs.is_laid_out.Given as goal

abbrev pub invariant-loop-k : goal.invariant-loop-k
invariant-loop-k l = (l.end ≡ end_of l.n l.s l.k) × (laid_out l.n l.s ≡ laid_out_from l.n l.s (l.n - l.k) l.k)
