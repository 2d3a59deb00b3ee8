use Rattle.mover_seat.proofs.OwnEvents.{own_events, own_numbers}
use Rattle.mover_seat.proofs.laws.events_are_own.Goals as goal

pub returns-clause-events : goal.returns-clause-events
returns-clause-events c = own_events

pub returns-clause-numbers : goal.returns-clause-numbers
returns-clause-numbers c = own_numbers
