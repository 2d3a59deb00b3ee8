-- Histories in which nothing is logged yet, as the ones that the tables speak of: each append is set to what the table
-- would log, a lease among it. A lease alone changes nothing but the lease, and no lease holds where nothing restarts.
use Rattle.std.specs.Prelude.{[], ◌∷◌, false}
use Rattle.txn_data.specs.declared.config.Config.{Config}
use Rattle.txn_data.specs.declared.event.Event.{Event}
use Rattle.txn_data.specs.declared.event.Event.TheVariants.{Serve}
use Rattle.txn_data.specs.declared.entry.Entry.{Entry}
use Rattle.txn_types.specs.Lists.{or_zero}
use Rattle.txn_types.specs.History.{History, own}
use Rattle.txn_types.specs.Run.{machine_answer}

abbrev pub logged_event : Config → History → Entry → Event
logged_event config h e = elim e.event [
  | Serve from asked r time append ↦
      Serve from asked r time (machine_answer config.lease_us e.actor (own e.actor h) false (or_zero e.reading) asked).append
  | event ↦ event
]

unfoldable pub as_logged : Config → History → History
as_logged config [] = []
as_logged config (e ∷ h) = (record e { event = logged_event config (as_logged config h) e }) ∷ as_logged config h
