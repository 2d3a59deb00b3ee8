-- Histories, the newest entry first, and which of their entries count.
use Rattle.std.specs.Prelude.{Bool, true, false, List, [], ◌∷◌, reverse, filter, nat_eq, if◌then◌else◌, ◌&&◌}
use Rattle.txn_data.specs.declared.actor.Actor.{Actor}
use Rattle.txn_data.specs.declared.actor.Actor.TheVariants.{Tablet, Status, Session, Applier}
use Rattle.txn_data.specs.declared.append.Append.{Append}
use Rattle.txn_data.specs.declared.append.Append.TheVariants.{Nothing, Took, Failed}
use Rattle.txn_data.specs.declared.event.Event.{Event}
use Rattle.txn_data.specs.declared.event.Event.TheVariants.{Start, Serve, Restarted}
use Rattle.txn_data.specs.declared.entry.Entry.{Entry}
use Rattle.txn_data.specs.declared.trace.Trace.{Trace}

abbrev pub History : Type 0
History = List Entry

-- the history that a trace records
abbrev pub history_of : Trace → History
history_of trace = reverse trace.entries

abbrev pub same_actor : Actor → Actor → Bool
same_actor (Tablet a) (Tablet b) = nat_eq a b
same_actor (Status a) (Status b) = nat_eq a b
same_actor (Session a) (Session b) = nat_eq a b
same_actor (Applier a) (Applier b) = nat_eq a b
same_actor _ _ = false

-- the entries of one actor
abbrev pub own : Actor → History → History
own a h = filter (λ (e : Entry). same_actor e.actor a) h

-- a command begins
abbrev pub is_start : Event → Bool
is_start (Start number line) = true
is_start event = false

abbrev pub kept_by : Event → Bool → Bool
kept_by (Restarted from kept) otherwise = kept
kept_by _ otherwise = otherwise

-- whether the next restart of an actor, among the entries that follow, kept what had failed
unfoldable pub next_restart_kept : Actor → List Entry → Bool
next_restart_kept a [] = false
next_restart_kept a (e ∷ later) =
    if same_actor e.actor a then kept_by e.event (next_restart_kept a later) else next_restart_kept a later

-- what was served counts where its append did not fail, or where the next restart of the actor kept it
abbrev pub append_counts : Append → Bool → Bool
append_counts Nothing kept = true
append_counts Took kept = true
append_counts Failed kept = kept

abbrev pub event_counts : Event → Bool → Bool
event_counts (Serve from request reply time append) kept = append_counts append kept
event_counts _ kept = false

-- the entries that count, where `later` are those that follow, in their order
unfoldable pub counting_before : List Entry → History → History
counting_before later [] = []
counting_before later (e ∷ h) =
    if event_counts e.event (next_restart_kept e.actor later) then e ∷ counting_before (e ∷ later) h
    else counting_before (e ∷ later) h

abbrev pub counting : History → History
counting h = counting_before [] h

abbrev pub was_logged : Event → Bool
was_logged (Serve from request reply time Nothing) = false
was_logged (Serve from request reply time append) = true
was_logged _ = false

-- an entry counts and had something to log, where `later` are the entries that follow, in their order
abbrev pub stands_in_log : List Entry → Entry → Bool
stands_in_log later e = event_counts e.event (next_restart_kept e.actor later) && was_logged e.event

-- the entries that stand in a log: those that count and had something to log
abbrev pub standing : History → History
standing h = filter (λ (e : Entry). was_logged e.event) (counting h)
