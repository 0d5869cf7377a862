-- `folder::change` meets its contract: what it makes is a bundle.
use mathlib.Core.Path.{refl}
use mathlib.Core.Logic.{inl}
use Rattle.parts.specs.Files.{new_file}
use Rattle.folder.proofs.Laws.{bundle-made}
use Rattle.folder.proofs.change.Goals as goal

pub returns-then-made-ne0 : goal.returns-then-made-ne0
returns-then-made-ne0 g c = inl refl

pub returns : goal.returns
returns g c = bundle-made _ c.args.bundle.now c.args.k (new_file c.args.present c.args.new.now) c.args.out.now c.file_count.ensures.0 c.make_bundle-made.ensures.value c.make_bundle-made.ensures.out_after c.if-made-ne0.false
