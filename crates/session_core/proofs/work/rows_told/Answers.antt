use Rattle.std.proofs.Common.{◌≡◌, Option, sym, subst}
use Rattle.session_core.specs.OpenTxn.{opened_if}
use Rattle.session_core.specs.Work.{shown, scanned}
use Rattle.session_core.specs.declared.open_txn.OpenTxn.{OpenTxn}
use Rattle.session_core.proofs.Shown.{alone}
use Rattle.session_core.proofs.work.rows_told.Goals as goal

pub returns-in-None-clause-rows : goal.returns-in-None-clause-rows
returns-in-None-clause-rows c =
    let P : Option OpenTxn → Type 0 = λ o. c.args.rows ≡ shown (opened_if o) c.args.line.now c.args.rows in
    subst P (sym c.in-None.is) (sym (alone (scanned c.args.line.now) c.args.rows))
