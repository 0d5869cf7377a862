-- `set_entries::list_files` meets its contract. The loop's invariant: the entries of the first i files are listed.
use Prim.Native.Nat.{◌/◌}
use lib.ListN.{length}
use Rattle.parts.specs.Files.{new_file}
use Rattle.rule_shape.specs.Rule.{rule_from}
use Rattle.gate_marks.specs.Gate.{expected_in}
use Rattle.gate_marks.specs.Again.{needed}
use Rattle.set_entries.specs.Work.{files_in}
use Rattle.set_entries.proofs.Laws.{Listing}
use borrow.Author.Rules.{rules}
use Rattle.set_entries.proofs.list_files.Given as goal

abbrev pub invariant-loop-i : goal.invariant-loop-i
invariant-loop-i l = Listing (expected_in l.forms l.fields l.names l.fixed) (needed l.n (length l.rules / 9) (rule_from l.rules) l.scope) (files_in l.bundle l.scope (new_file l.present l.new)) l.base l.initial.work l.i l.work l.count
