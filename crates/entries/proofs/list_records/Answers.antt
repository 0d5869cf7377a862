-- `entries::list_records` meets its contract.
use Rattle.std.proofs.Common.{ℕ, ◌-◌, replicate, sym, ap, ◌∙◌, arith}
use lib.ListN.{length-replicate}
use Rattle.bundle_bytes.specs.Pieces.{written}
use Rattle.parts.specs.Part.{part_of}
use Rattle.rule_cells.specs.Cells.{table}
use Rattle.entries.specs.Entries.{entries_of}
use Rattle.entries.specs.Flat.{flat_of}
use Rattle.entries.proofs.Laws.{front, fronts-fit}
use Rattle.entries.proofs.list_records.Reads as reads
use Rattle.entries.proofs.list_records.Lts as lts
use Rattle.entries.proofs.list_ordered.Reads as list-ordered-reads
use Rattle.entries.proofs.list_records.Goals as goal

-- src/lib.rt:185:9
pub slice_bounds-list_ordered-end : goal.slice_bounds-list_ordered-end
slice_bounds-list_ordered-end c = front _ (replicate 4096 0) (length-replicate {A = ℕ} 4096 0) c.requires.4

-- src/lib.rt:186:9
pub slice_bounds-list_ordered-end-2 : goal.slice_bounds-list_ordered-end-2
slice_bounds-list_ordered-end-2 c = front _ (replicate 4096 0) (length-replicate {A = ℕ} 4096 0) c.requires.4

-- src/lib.rt:187:9
pub slice_bounds-list_ordered-end-3 : goal.slice_bounds-list_ordered-end-3
slice_bounds-list_ordered-end-3 c = front _ (replicate 4096 0) (length-replicate {A = ℕ} 4096 0) c.requires.4

-- src/lib.rt:178:5
pub list_ordered-requires : goal.list_ordered-requires
list_ordered-requires c = (c.requires.0, c.requires.1, omega (arith, c.requires.2, c.requires.4, front c.args.n (replicate 4096 0) (length-replicate {A = ℕ} 4096 0) c.requires.4), c.requires.3, fronts-fit c.args.n (replicate 4096 0) (replicate 4096 0) (replicate 4096 0) (length-replicate {A = ℕ} 4096 0) (length-replicate {A = ℕ} 4096 0) (length-replicate {A = ℕ} 4096 0) c.requires.4)

-- src/lib.rt:162:1
pub returns : goal.returns
returns c = c.list_ordered.ensures ∙ ap (λ n. written c.args.work.now c.args.at (flat_of (entries_of (table c.args.s.now (part_of c.args.work.now c.args.from c.args.to) c.args.width 0) c.args.k n))) (sym (front c.args.n (replicate 4096 0) (length-replicate {A = ℕ} 4096 0) c.requires.4))
