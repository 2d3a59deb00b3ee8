use Rattle.std.proofs.Common.{◌≡◌, sym, ap, subst}
use Rattle.txn_types.specs.Program.{Reading, turn}
use Rattle.session_core.specs.Work.{work_rest, is_reading}
use Rattle.session_core.specs.declared.work.Work.{Work}
use Rattle.session_core.proofs.Timed.{timed_wants}
use Rattle.session_core.proofs.work.Work.next.Goals as goal

pub returns-in-Reading-clause-turn : goal.returns-in-Reading-clause-turn
returns-in-Reading-clause-turn c = λ config i s same.
    let P : Work → Type 0 = λ w. Reading ≡ turn (work_rest config i s c.args.line.now w) in
    subst P (sym c.in-Reading.is) (timed_wants config i s c.args.line.now (c.requires (ap is_reading c.in-Reading.is)))
