-- `show_loop::show_columns` meets its contract: the columns hold the classes, and what they show is so of the links.
-- Assumes nothing.
use Rattle.show_loop.proofs.Laws.{columns-show}
use Rattle.show_loop.proofs.show_columns.Goals as goal

pub returns : goal.returns
returns c = columns-show _ c.args.from.now c.args.to.now c.requires.0 c.requires.1 _ _ c.fill_classes.ensures.1 c.fill_classes.ensures.2 _ _ _ c.requires.2 c.show_links.ensures
