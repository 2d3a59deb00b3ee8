use Rattle.std.proofs.Common.{◌≡◌, Some, ap, ◌∙◌, subst}
use Rattle.std.specs.Prelude.{IfOk}
use Rattle.txn_data.specs.declared.told.Told.{Told}
use Rattle.txn_types.specs.Program.{Program}
use Rattle.session_core.specs.OpenTxn.{opened, opened_if}
use Rattle.session_core.specs.Work.{work_rest}
use Rattle.session_core.proofs.WriteCommand.{write_is}
use Rattle.session_core.proofs.starting.write_work.Goals as goal

pub returns-clause-program : goal.returns-clause-program
returns-clause-program c = λ config i s line now time.
    let x = opened c.in-Some.open in
    let is : s.opened ≡ Some x = now ∙ ap opened_if c.in-Some.is in
    let P : Program Told → Type 0 = λ q. IfOk c.step_work.result (λ work. work_rest config i s line work ≡ q) in
    subst P (write_is s x c.args.place.now c.in_ok-try_copy.field-0 c.args.op c.len.result c.args.last is c.if-open.false c.len.ensures c.in_ok-try_copy.ensures time) (c.step_work.ensures.program config i s line)
