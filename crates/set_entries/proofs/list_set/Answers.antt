-- `set_entries::list_set` meets its contract.
use native.Mathlib.Omega.{arith}
use Rattle.parts.specs.Files.{new_file}
use Rattle.set_entries.specs.Work.{files_in}
use Rattle.set_entries.proofs.Set.{set-short, few-forms, set_all}
use Rattle.set_entries.proofs.list_set.Goals as goal

pub returns-then-work-lt1056846 : goal.returns-then-work-lt1056846
returns-then-work-lt1056846 c = let whole = set-short c.args.scope (files_in c.args.bundle.now c.args.scope (new_file c.args.present c.args.new.now)) c.args.work.now c.if-work-lt1056846.true in record { value = whole.0; work_after = whole.1 }

pub list_files-requires : goal.list_files-requires
list_files-requires c = (few-forms c.args.scope (files_in c.args.bundle.now c.args.scope (new_file c.args.present c.args.new.now)) c.args.work.now c.file_forms-forms.ensures c.field_rows-fields.ensures c.field_names-names.ensures c.file_type-fixed.ensures c.rule_rows-rules.ensures, omega arith, omega (arith, c.if-work-lt1056846.false))

pub returns : goal.returns
returns c = let whole = set_all c.args.scope (files_in c.args.bundle.now c.args.scope (new_file c.args.present c.args.new.now)) c.args.work.now c.file_forms-forms.ensures c.field_rows-fields.ensures c.field_names-names.ensures c.file_type-fixed.ensures c.rule_rows-rules.ensures c.if-work-lt1056846.false (c.list_files.ensures.value, c.list_files.ensures.work_after) in record { value = whole.0; work_after = whole.1 }
