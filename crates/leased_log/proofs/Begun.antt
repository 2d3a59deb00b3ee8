-- An actor that made no action.
use Rattle.std.proofs.Common.{◌≡◌, ℕ, List, [], None, refl, inl, arith}
use Rattle.txn_data.specs.declared.actor.Actor.{Actor}
use Rattle.txn_types.specs.History.{counting_before}
use Rattle.txn_types.specs.Clock.{down_since, has_failed, last_time, has_given, lease_over}
use Rattle.safe_time.specs.ActorClock.{at_first}
use Rattle.tablet_log.specs.Entries.{logged_over, failed_records}
use Rattle.tablet_log.specs.Logged.{log_faults}
use Rattle.tablet_log.specs.Rests.{RestsDown}
use Rattle.leased_log.specs.Allows.{AllowsAll}
use Rattle.leased_log.specs.Stands.{Stands}

pub none_stands : (a : Actor) (lease room loads faults : ℕ) (held : List ℕ) → held ≡ []
    → Stands a (record { held = held; faults = faults; loads = loads; room = room; clock = at_first lease; actions = 0; down = None; records = 0 }) [] faults []
unfolding counting_before down_since has_failed last_time has_given lease_over logged_over failed_records log_faults RestsDown AllowsAll
none_stands a lease room loads faults held empty = record {
  opened = refl;
  own = tt;
  allowed = tt;
  actions = refl;
  down = refl;
  clock = λ up. refl;
  logged = record { faults = omega arith; held = inl empty };
  records = refl;
  few = omega arith;
  spelled = tt;
  some = λ failed none. let absurd_failed : ⊥ = cc in absurd_failed;
}
