use Rattle.std.proofs.Common.{◌≡◌, Option, Some, sym, ◌∙◌, subst}
use Rattle.txn_types.specs.Run.{limits_of}
use Rattle.txn_types.specs.Session.{opened_after}
use Rattle.session_core.specs.SessionState.{keeps}
use Rattle.session_core.specs.OpenTxn.{opened_if, limits_held}
use Rattle.session_core.specs.declared.open_txn.OpenTxn.{OpenTxn}
use Rattle.session_core.proofs.session_state.SessionState.left_open.Goals as goal

pub returns-in-Some-clause-value : goal.returns-in-Some-clause-value
returns-in-Some-clause-value c = λ config is.
    let self = c.args.self.now in
    let was : self.transaction ≡ Some c.in-Some.transaction = sym c.take.ensures.value ∙ c.in-Some.is in
    let P : Option OpenTxn → Type 0 = λ o. opened_if c.after_line.result ≡ opened_after config self.session (keeps self) c.args.line c.args.reading (limits_held c.args.limits (limits_of (opened_if o))) c.args.told.now (opened_if o) in
    subst P (sym was) (c.after_line.ensures.value config self.session (keeps self) c.args.reading)
