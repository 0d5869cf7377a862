-- `folder::gather` meets its contract: from the first turn on, what it holds is a bundle, and there is a first turn.
use Prim.Native.Nat.{◌-◌}
use mathlib.Core.Path.{◌≡◌}
use mathlib.Core.Logic.{◌⊎◌, ⊎_elim}
use lib.ListN.{length}
use Rattle.gate_lists.specs.Which.{gate_called}
use Rattle.folder.specs.Answers.{Bundled}
use Rattle.folder.proofs.gather.Given as goal

abbrev pub invariant-loop-k : goal.invariant-loop-k
invariant-loop-k g l = (length l.path ≡ length l.initial.path) × (length l.file ≡ length l.initial.file) × (length l.bundle ≡ length l.initial.bundle) × (length l.other ≡ length l.initial.other) × ((l.k ≡ 0) ⊎ Bundled (gate_called l.which).files l.n l.bundle)

abbrev pub decreases-loop-k : goal.decreases-loop-k
decreases-loop-k g l = l.files - l.k
