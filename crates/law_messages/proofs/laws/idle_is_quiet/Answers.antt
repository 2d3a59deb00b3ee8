use Rattle.law_messages.proofs.Flights.{idle_quiet}
use Rattle.law_messages.proofs.laws.idle_is_quiet.Goals as goal

pub returns : goal.returns
returns c = idle_quiet
