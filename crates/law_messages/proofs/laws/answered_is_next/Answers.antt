use Rattle.law_messages.proofs.Flights.{answered_next}
use Rattle.law_messages.proofs.laws.answered_is_next.Goals as goal

pub returns : goal.returns
returns c = answered_next
