use Rattle.law_messages.proofs.Flights.{asked_next}
use Rattle.law_messages.proofs.laws.asked_is_next.Goals as goal

pub returns : goal.returns
returns c = asked_next
