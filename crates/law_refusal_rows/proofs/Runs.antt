-- Where a request meets the row of a refusal, it is refused so, in every run.
use Rattle.std.proofs.Common.{◌∷◌}
use Rattle.txn_data.specs.declared.config.Config.{Config}
use Rattle.txn_data.specs.declared.event.Event.TheVariants.{Serve}
use Rattle.txn_data.specs.declared.entry.Entry.{Entry}
use Rattle.txn_types.specs.History.{History, own}
use Rattle.txn_types.specs.Run.{Allowed, Steps}
use Rattle.law_machines.proofs.Owns.{steps_at, stands_member}
use Rattle.law_owners.proofs.Runs.{requests_homed}
use Rattle.law_refusal_rows.specs.Laws.{RowsAreRefused}
use Rattle.law_refusal_rows.proofs.Tables.{row_served}

allowed_last : (config : Config) (e : Entry) (h : History) → Steps config (e ∷ h) → Allowed config h e.actor e.reading e.event
unfolding Steps
allowed_last config e h steps = steps.1

pub are_refused : RowsAreRefused
are_refused config h before a from reading time asked r append why run stands meets =
    let e : Entry = record { actor = a; reading = reading; event = Serve from asked r time append } in
    let ok : Allowed config before a reading (Serve from asked r time append) = allowed_last config e before (steps_at config e before h run.1 stands) in
    row_served config.lease_us a (own a before) reading asked r time append why ok.2 (requests_homed config h e run (stands_member e before h stands)).1 meets
