-- `folder::gather` meets its contract: from the first turn on, what it holds is a bundle, and there is a first turn.
use Prim.Native.Nat.{◌-◌}
use mathlib.Core.Path.{refl}
use mathlib.Core.Logic.{◌⊎◌, inl, inr, ⊎_elim}
use native.Mathlib.Omega.{arith}
use Rattle.folder.proofs.Laws.{some-files}
use Rattle.folder.proofs.gather.Goals as goal

pub returns-then-not-is_folder : goal.returns-then-not-is_folder
returns-then-not-is_folder g c = inl refl

pub loop-k-init : goal.loop-k-init
loop-k-init g c = (omega arith, omega arith, omega arith, omega arith, inl refl)

pub returns-then-half-eq0 : goal.returns-then-half-eq0
returns-then-half-eq0 g c = inl refl

pub returns-then-n-eq0 : goal.returns-then-n-eq0
returns-then-n-eq0 g c = inl refl

pub loop-k-preserved : goal.loop-k-preserved
loop-k-preserved g c = (omega arith, omega arith, omega arith, omega arith, inr c.put_file-n.ensures)

pub returns : goal.returns
returns g c = let some = some-files c.args.which in
    ⊎_elim (λ e. absurd (omega (arith, some, c.file_count-files.ensures))) (λ b. b) c.loop-k.invariant.4
