-- A turn of a session, as the tables have it.
use Rattle.std.specs.Prelude.{Bool, true, false}
use Rattle.txn_data.specs.declared.request.Request.{Request}
use Rattle.txn_data.specs.declared.request.Request.TheVariants as request
use Rattle.txn_data.specs.declared.told.Told.{Told}
use Rattle.txn_types.specs.Program.{Turn, Reading, Ask, Tell}
use Rattle.session_core.specs.declared.turn.Turn.{Turn as Made}
use Rattle.session_core.specs.declared.turn.Turn.TheVariants as made

abbrev pub turn_of : Made → Turn Told
turn_of made.Reading = Reading
turn_of (made.Ask to request) = Ask to request
turn_of (made.Tell t) = Tell t

abbrev pub is_ask : Made → Bool
is_ask (made.Ask to request) = true
is_ask _ = false

abbrev pub is_wanting : Made → Bool
is_wanting made.Reading = true
is_wanting _ = false

-- the request to list for a read
abbrev pub lists : Request → Bool
lists (request.ListRead own_txn paths t g limit) = true
lists _ = false

abbrev pub asks_list : Made → Bool
asks_list (made.Ask to asked) = lists asked
asks_list _ = false
