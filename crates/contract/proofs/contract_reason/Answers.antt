-- `contract::contract_reason` meets its contract: the tables that are lent describe this gate.
-- Assumes nothing.
use mathlib.Core.Path.{refl}
use lib.ListN.{length}
use Rattle.standing.specs.Standing.{standing, start_standing}
use Rattle.schedule.proofs.Laws.{told-as}
use Rattle.contract.proofs.Laws.{by-contract}
use Rattle.contract.proofs.contract_reason.Goals as goal

pub returns : goal.returns
returns c = let whole = told-as
    (by-contract c.contract_forms-forms.ensures c.contract_field_rows-fields.ensures c.contract_field_names-names.ensures refl c.contract_rule_rows-rules.ensures refl refl)
    (start_standing c.args.a.now c.args.b.now c.args.c.now c.args.stand.now) (standing c.args.a.now c.args.b.now c.args.c.now c.args.stand.now) (length c.args.work.now) c.args.mark c.args.work.now (c.reason_files.ensures.value, c.reason_files.ensures.work_after) in record { value = whole.0; work_after = whole.1 }
