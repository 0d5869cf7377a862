-- `folder::put_file` meets its contract: what it makes is a bundle.
use mathlib.Core.Path.{refl}
use mathlib.Core.Logic.{inl}
use Rattle.folder.proofs.put_file.Goals as goal

pub returns-then-end-eq0 : goal.returns-then-end-eq0
returns-then-end-eq0 g c = inl refl

pub returns-then-size-gt1048576 : goal.returns-then-size-gt1048576
returns-then-size-gt1048576 g c = inl refl

pub returns-in-Failed : goal.returns-in-Failed
returns-in-Failed g c = inl refl
