use Rattle.std.proofs.Common.{◌≡◌, refl, sym, ap, subst}
use Rattle.txn_types.specs.Program.{turn}
use Rattle.intent_applier.specs.Rest.{rest, turn_of}
use Rattle.intent_applier.specs.declared.pass_turn.PassTurn.{PassTurn}
use Rattle.mover_seat.proofs.pass_work.go_on.Goals as goal

pub returns-in-Ok-Ask-clause-on : goal.returns-in-Ok-Ask-clause-on
returns-in-Ok-Ask-clause-on c =
    let T : PassTurn → Type 0 = λ t. turn_of t ≡ turn (rest c.args.under_way) in
    (sym (subst T c.in-Ok-Ask.field-0-is c.in-Ok-Ask.ensures.turn), (c.next.new.self, refl, ap rest c.next.ensures.same))
