-- What a mover does next, and of which command or pass, depends on its own entries and on the message on its way.
use Rattle.std.specs.Prelude.{◌≡◌}
use Rattle.txn_data.specs.declared.actor.Actor.{Actor}
use Rattle.txn_data.specs.declared.config.Config.{Config}
use Rattle.txn_types.specs.History.{History, own}
use Rattle.txn_types.specs.Run.{flight, mover_at}
use Rattle.txn_types.specs.Script.{started}
use Rattle.mover_chain.specs.NextEvent.{Given, all_done, next_event, number_of_next}
use Rattle.mover_seat.specs.NextEvent.{own_event}

-- the next event of a mover is that of its own entries
abbrev pub EventsAreOwn : Type 0
EventsAreOwn = (given : Given) (config : Config) (a : Actor) (h : History) →
    next_event given config a h ≡ own_event given (all_done given config h) config a (own a h) (flight a h)

-- and so is the number of the command or pass that it is of
abbrev pub NumbersAreOwn : Type 0
NumbersAreOwn = (config : Config) (a : Actor) (h : History) →
    number_of_next (started a h) (mover_at config a h).line ≡ number_of_next (started a (own a h)) (mover_at config a (own a h)).line
