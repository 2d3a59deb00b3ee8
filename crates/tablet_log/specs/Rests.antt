-- The entries of one actor, as it makes them: once an append has failed, it takes no time and appends nothing until it is
-- restarted.
use Rattle.std.specs.Prelude.{◌≡◌, Bool, true, false, List, [], ◌∷◌, None}
use Rattle.txn_data.specs.declared.actor.Actor.{Actor}
use Rattle.txn_data.specs.declared.append.Append.TheVariants.{Nothing}
use Rattle.txn_data.specs.declared.event.Event.{Event}
use Rattle.txn_data.specs.declared.event.Event.TheVariants.{Serve, Restarted}
use Rattle.txn_types.specs.History.{History}
use Rattle.txn_types.specs.Clock.{has_failed}
use Rattle.log_record.specs.declared.log_record.LogRecord.{LogRecord}

-- no time is taken and nothing is appended
abbrev pub IsStill : Event → Type 0
IsStill (Serve from asked r None Nothing) = Unit {0}
IsStill (Restarted from kept) = Unit {0}
IsStill event = ⊥

abbrev pub IsStillWhere : Bool → Event → Type 0
IsStillWhere true event = IsStill event
IsStillWhere false event = Unit {0}

-- all entries are of this actor, and each that follows a failed append with no restart between is still
unfoldable pub RestsDown : Actor → History → Type 0
RestsDown a [] = Unit {0}
RestsDown a (e ∷ h) = RestsDown a h × (e.actor ≡ a) × IsStillWhere (has_failed h) e.event

-- the failed piece, where a restart finds it
abbrev pub if_kept : Bool → List LogRecord → List LogRecord
if_kept true records = records
if_kept false records = []
