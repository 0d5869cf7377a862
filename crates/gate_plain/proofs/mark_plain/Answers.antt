-- `gate_plain::mark_plain` meets its contract: a file's own mark, or that of a rule over files that the set has.
use Prim.Native.Nat.{◌-◌}
use Rattle.bundle_layout.specs.Bundle.{file_at}
use Rattle.gate_marks.specs.Gate.{gate_from}
use Rattle.gate_plain.proofs.Laws.{own-mark, first-missing, second-missing, rule-mark}
use borrow.Author.Rules.{rules}
use Rattle.gate_plain.proofs.mark_plain.Goals as goal

pub returns-then-m-n : goal.returns-then-m-n
unfolding gate_from
returns-then-m-n c = own-mark (gate_from c.args.forms.now c.args.fields.now c.args.names.now c.args.fixed.now c.args.rules.now c.args.values.now c.args.texts.now) c.args.m (file_at c.args.bundle.now) c.if-m-n.true c.read_plain-read.ensures.value

pub returns-then-n-first_file : goal.returns-then-n-first_file
unfolding gate_from
returns-then-n-first_file c = first-missing (gate_from c.args.forms.now c.args.fields.now c.args.names.now c.args.fixed.now c.args.rules.now c.args.values.now c.args.texts.now) c.args.m (file_at c.args.bundle.now) c.if-m-n.false c.first_file.ensures c.if-n-first_file.true

pub returns-then-n-second_file : goal.returns-then-n-second_file
unfolding gate_from
returns-then-n-second_file c = second-missing (gate_from c.args.forms.now c.args.fields.now c.args.names.now c.args.fixed.now c.args.rules.now c.args.values.now c.args.texts.now) c.args.m (file_at c.args.bundle.now) c.if-m-n.false c.first_file.ensures c.if-n-first_file.false c.second_file.ensures c.if-n-second_file.true

pub returns : goal.returns
unfolding gate_from
returns c = rule-mark (gate_from c.args.forms.now c.args.fields.now c.args.names.now c.args.fixed.now c.args.rules.now c.args.values.now c.args.texts.now) c.args.m (file_at c.args.bundle.now) c.if-m-n.false c.first_file.ensures c.if-n-first_file.false c.second_file.ensures c.if-n-second_file.false c.rule_plain.ensures
