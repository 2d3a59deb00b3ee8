-- Why a command was refused: what stands in the history for each refusal that is told.
use Rattle.std.specs.Prelude.{◌≡◌, ℕ, ◌<◌, ◌≤◌, Bool, true, false, ◌&&◌, not, List, [], ◌∷◌, ◌++◌, Option, Some, None, max, nat_eq, if◌then◌else◌, map, filter, is_none, ◌⊎◌}
use Rattle.std.specs.List.{list_any}
use Rattle.hybrid_time.specs.Time.{micros_of, logical_of, greatest_reading}
use Rattle.doc_path.specs.Path.{Parts}
use Rattle.txn_data.specs.declared.actor.Actor.{Actor}
use Rattle.txn_data.specs.declared.append.Append.{Append}
use Rattle.txn_data.specs.declared.append.Append.TheVariants.{Failed}
use Rattle.txn_data.specs.declared.fate.Fate.TheVariants as fate
use Rattle.txn_data.specs.declared.found.Found.{Found}
use Rattle.txn_data.specs.declared.committed_txn.CommittedTxn.{CommittedTxn}
use Rattle.txn_data.specs.declared.request.Request.{Request}
use Rattle.txn_data.specs.declared.request.Request.TheVariants as request
use Rattle.txn_data.specs.declared.reply.Reply.{Reply}
use Rattle.txn_data.specs.declared.reply.Reply.TheVariants as reply
use Rattle.txn_data.specs.declared.refusal.Refusal.TheVariants as refusal
use Rattle.txn_data.specs.declared.told.Told.{Told}
use Rattle.txn_data.specs.declared.told.Told.TheVariants as told
use Rattle.txn_data.specs.declared.told_refusal.ToldRefusal.{ToldRefusal}
use Rattle.txn_data.specs.declared.told_refusal.ToldRefusal.TheVariants as why
use Rattle.txn_data.specs.declared.command.Command.{Command}
use Rattle.txn_data.specs.declared.command.Command.TheVariants as command
use Rattle.txn_data.specs.declared.config.Config.{Config}
use Rattle.txn_data.specs.declared.event.Event.{Event}
use Rattle.txn_data.specs.declared.event.Event.TheVariants.{Serve, Tell}
use Rattle.txn_data.specs.declared.entry.Entry.{Entry}
use Rattle.txn_types.specs.Lists.{Member, has_number, rising, or_zero}
use Rattle.txn_types.specs.History.{History, same_actor, is_start, own, stands_in_log}
use Rattle.txn_types.specs.Clock.{last_time, has_given, lease_end, down_since}
use Rattle.txn_types.specs.Tablet.{txn_of, provisional, versions, others_on, conflict, related_commits, greatest_above, greatest_fate, first_of, has_any}
use Rattle.txn_types.specs.Status as status
use Rattle.txn_types.specs.Status.{Record, record_of}
use Rattle.txn_types.specs.Committed.{committed}
use Rattle.txn_types.specs.Session.{Opened, IsOpen, has_writes}
use Rattle.txn_types.specs.Run.{mover_at}
use Rattle.txn_types.specs.Reads.{before_start, touches}

-- what a mover was told, with the reading in that entry, and the history before it
pub record ToldAt : Type 0 where
  pub who : Actor
  pub reading : Option ℕ
  pub told : Told
  pub before : History

abbrev pub tells_by : History → Entry → List ToldAt
tells_by h e = elim e.event [
  | Tell number t ↦ (record { who = e.actor; reading = e.reading; told = t; before = h }) ∷ []
  | _ ↦ []
]

-- all that movers were told
unfoldable pub tells : History → List ToldAt
tells [] = []
tells (e ∷ h) = tells_by h e ++ tells h

-- what an actor served for the command under way, and the history before it
pub record ServedAt : Type 0 where
  pub by : Actor
  pub reading : Option ℕ
  pub asked : Request
  pub reply : Reply
  pub append : Append
  pub before : History

abbrev pub served_by : Actor → History → Entry → List ServedAt
served_by m h e = elim e.event [
  | Serve from asked r time append ↦
      if same_actor from m then
      (record { by = e.actor; reading = e.reading; asked = asked; reply = r; append = append; before = h }) ∷ []
      else []
  | _ ↦ []
]

-- what was served for a mover since its last Start
unfoldable pub served_since : Actor → History → List ServedAt
served_since m [] = []
served_since m (e ∷ h) =
    if same_actor e.actor m && is_start e.event then [] else served_by m h e ++ served_since m h

-- the entries that an actor had of its own then
abbrev pub own_then : ServedAt → History
own_then s = own s.by s.before

-- whether an action takes a time, where nothing refuses it one
abbrev pub is_pending : Record → Bool
is_pending (status.Pending priority) = true
is_pending r = false

abbrev pub needs_time : Request → History → Bool
needs_time (request.Write meta number path op read seen fates) h =
    is_none (conflict meta.txn path fates (provisional h))
    && is_none (greatest_above read (related_commits meta.txn path fates (provisional h) (versions h)))
needs_time (request.Single x path op seen fates) h = is_none (conflict x path fates (provisional h))
needs_time (request.ListRead own_txn paths t g limit) h = true
needs_time (request.Apply x at) h = has_any x (provisional h)
needs_time (request.AskFate x t) h = true
needs_time (request.Commit x floor tablets) h = is_pending (record_of x h)
needs_time asked h = false

-- whether it takes a time of its own, and above which floor
abbrev pub floor_asked : Request → Option ℕ
floor_asked (request.Write meta number path op read seen fates) = Some seen
floor_asked (request.Single x path op seen fates) = Some (max seen (greatest_fate fates fates))
floor_asked (request.Commit x floor tablets) = Some floor
floor_asked asked = None

-- A Resolve of this command found `other` Pending, with a priority that is not lower.
pub record FoundPending (m : Actor) (h : History) (other : ℕ) : Type 0 where
  pub served : ServedAt
  pub here : Member served (served_since m h)
  pub by : ℕ
  pub priority : ℕ
  pub own_priority : ℕ
  pub asked : served.asked ≡ request.Resolve other by priority
  pub answered : served.reply ≡ reply.FateIs fate.Pending
  pub pending : record_of other (own_then served) ≡ status.Pending own_priority
  pub not_lower : priority ≤ own_priority

abbrev pub found_ids : List Found → List ℕ
found_ids fs = map (λ (f : Found). f.txn) fs

-- the transactions that are provisional on a related path, and that the command had not been told of
abbrev pub newcomers : ℕ → Parts → List Found → History → List ℕ
newcomers x path found h = filter (λ y. not (has_number y (found_ids found))) (rising (map txn_of (others_on x path (provisional h))))

abbrev pub WritesFor : Request → ℕ → Parts → Type 0
WritesFor (request.Write meta number path op read seen fates) x p = (meta.txn ≡ x) × (path ≡ p)
WritesFor (request.Single y path op seen fates) x p = (y ≡ x) × (path ≡ p)
WritesFor asked x p = ⊥

-- `other` became provisional between the ListWrite and the Write or Single of this command: it is the least of those
-- that the ListWrite did not tell
pub record CameBetween (m : Actor) (h : History) (other : ℕ) : Type 0 where
  pub served : ServedAt
  pub here : Member served (served_since m h)
  pub answered : served.reply ≡ reply.Refused (refusal.Conflict other)
  pub listing : ServedAt
  pub listed_here : Member listing (served_since m h)
  pub txn : ℕ
  pub path : Parts
  pub found : List Found
  pub writes : WritesFor served.asked txn path
  pub same_tablet : listing.by ≡ served.by
  pub listed : listing.asked ≡ request.ListWrite txn path
  pub told : listing.reply ≡ reply.Others found
  pub least : first_of (newcomers txn path found (own_then served)) ≡ Some other

abbrev pub OverlapsAt : Request → History → ℕ → CommittedTxn → Type 0
OverlapsAt (request.Write meta number path op read seen fates) h at commit =
    (conflict meta.txn path fates (provisional h) ≡ None)
    × (greatest_above read (related_commits meta.txn path fates (provisional h) (versions h)) ≡ Some at)
    × (touches (path ∷ []) commit ≡ true)
OverlapsAt asked h at commit = ⊥

-- A Write met no conflict, and `at` is the greatest commit time above its read time; a related write is committed then.
pub record Overlaps (m : Actor) (h : History) (at : ℕ) : Type 0 where
  pub served : ServedAt
  pub here : Member served (served_since m h)
  pub answered : served.reply ≡ reply.Refused (refusal.Overlap at)
  pub commit : CommittedTxn
  pub overlaps : OverlapsAt served.asked (own_then served) at commit
  pub is_committed : Member commit (committed h)
  pub commit_time : commit.at ≡ at

-- a Resolve for `by` found the transaction Pending with a lower priority
abbrev pub ResolvesHigher : ℕ → ℕ → Actor → Event → History → Type 0
ResolvesHigher x by a (Serve from (request.Resolve y z priority) r time append) h =
    (y ≡ x) × (z ≡ by) × ((own_priority : ℕ) × (record_of x (own a h) ≡ status.Pending own_priority) × (own_priority < priority))
ResolvesHigher x by a event h = ⊥

-- such a Resolve, served by this actor, stands in its log, where `later` are the entries that follow, in their order
unfoldable pub ResolvedBefore : List Entry → ℕ → ℕ → Actor → History → Type 0
ResolvedBefore later x by a [] = ⊥
ResolvedBefore later x by a (e ∷ h) =
    ((e.actor ≡ a) × (stands_in_log later e ≡ true) × ResolvesHigher x by a e.event h) ⊎ ResolvedBefore (e ∷ later) x by a h

abbrev pub WasResolved : ℕ → ℕ → Actor → History → Type 0
WasResolved x by a h = ResolvedBefore [] x by a h

-- A Commit found the record aborted by `by`, whose Resolve had the higher priority.
pub record FoundAborted (m : Actor) (h : History) (by : ℕ) : Type 0 where
  pub served : ServedAt
  pub here : Member served (served_since m h)
  pub answered : served.reply ≡ reply.AbortedBy by
  pub txn : ℕ
  pub floor : ℕ
  pub tablets : List ℕ
  pub asked : served.asked ≡ request.Commit txn floor tablets
  pub aborted : record_of txn (own_then served) ≡ status.AbortedBy by
  pub resolved : WasResolved txn by served.by served.before

abbrev pub is_strict : Option Command → Bool
is_strict (Some (command.Read strict places)) = strict
is_strict (Some (command.Scan strict place)) = strict
is_strict line = false

abbrev pub wrote_or_read : Option Opened → Bool
wrote_or_read None = false
wrote_or_read (Some x) = if has_writes x.writes then true else x.has_read

-- A Collect met this, and the read may not restart: it says so, or its transaction has written or read.
pub record MetAndStopped (config : Config) (m : Actor) (h : History) (at : ℕ) (path : Parts) : Type 0 where
  pub served : ServedAt
  pub here : Member served (served_since m h)
  pub met : served.reply ≡ reply.Met at path
  pub stops : (is_strict (mover_at config m h).line ≡ true) ⊎ (wrote_or_read (mover_at config m h).keeps.opened ≡ true)

-- An action takes a time, and the lease of its actor holds: no time was given since the restart, and the reading is not
-- above the end of the lease.
pub record Leased (config : Config) (m : Actor) (h : History) (a : Actor) (until : ℕ) : Type 0 where
  pub served : ServedAt
  pub here : Member served (served_since m h)
  pub by : served.by ≡ a
  pub answered : served.reply ≡ reply.Refused (refusal.LeaseHeld until)
  pub takes : needs_time served.asked (own_then served) ≡ true
  pub lease : lease_end config.lease_us (own_then served) ≡ Some until
  pub none_given : has_given (own_then served) ≡ false
  pub early : or_zero served.reading ≤ until

-- A reading is above the greatest that a clock takes: the session's own, or that of an action that takes a time.
pub record ServedAbove (m : Actor) (h : History) (a : Actor) (reading : ℕ) : Type 0 where
  pub served : ServedAt
  pub here : Member served (served_since m h)
  pub by : served.by ≡ a
  pub answered : served.reply ≡ reply.Refused (refusal.ClockRange reading)
  pub takes : needs_time served.asked (own_then served) ≡ true
  pub read : served.reading ≡ Some reading

abbrev pub ReadAbove : ToldAt → Actor → ℕ → Type 0
ReadAbove t a reading =
    (greatest_reading < reading) × (((t.who ≡ a) × (t.reading ≡ Some reading)) ⊎ ServedAbove t.who t.before a reading)

-- An action takes a time of its own, and the counter of `at`, the greater of the last time and the floor, is at its end
-- while the reading is not above it.
pub record CounterEnded (m : Actor) (h : History) (a : Actor) (at : ℕ) : Type 0 where
  pub served : ServedAt
  pub here : Member served (served_since m h)
  pub by : served.by ≡ a
  pub answered : served.reply ≡ reply.Refused (refusal.ClockFull at)
  pub takes : needs_time served.asked (own_then served) ≡ true
  pub floor : ℕ
  pub asks : floor_asked served.asked ≡ Some floor
  pub greater : at ≡ max (last_time (own_then served)) floor
  pub ended : logical_of at ≡ 4095
  pub early : or_zero served.reading ≤ micros_of at

-- The append of an action failed, or the load of a restart did.
abbrev pub Fails : Request → Append → Type 0
Fails request.Restart append = Unit {0}
Fails asked append = append ≡ Failed

pub record LogFailed (m : Actor) (h : History) (a : Actor) : Type 0 where
  pub served : ServedAt
  pub here : Member served (served_since m h)
  pub by : served.by ≡ a
  pub faulted : served.reply ≡ reply.Refused refusal.LogFault
  pub failed : Fails served.asked served.append

abbrev pub IsRestart : Request → Type 0
IsRestart request.Restart = Unit {0}
IsRestart asked = ⊥

-- An append or a load of the actor had failed since its last restart, first in the entry numbered `since`.
pub record WasDown (m : Actor) (h : History) (a : Actor) (since : ℕ) : Type 0 where
  pub served : ServedAt
  pub here : Member served (served_since m h)
  pub by : served.by ≡ a
  pub answered : served.reply ≡ reply.Refused (refusal.Down since)
  pub no_restart : ¬ IsRestart served.asked
  pub down : down_since (own_then served) ≡ Some since

-- The command needs an open transaction, and there was none; or it needs that there is none.
abbrev pub needs_open : Option Command → Bool
needs_open (Some (command.Put place v)) = true
needs_open (Some (command.Del place)) = true
needs_open (Some command.Commit) = true
needs_open (Some command.Abort) = true
needs_open line = false

abbrev pub needs_closed : Option Command → Bool
needs_closed (Some (command.Begin priority)) = true
needs_closed (Some (command.SinglePut place v priority)) = true
needs_closed (Some (command.SingleDel place priority)) = true
needs_closed line = false

-- A commit or an abort of the open transaction was served with an append that failed.
abbrev pub works_inside : Option Command → Bool
works_inside (Some (command.Put place v)) = true
works_inside (Some (command.Del place)) = true
works_inside (Some (command.Read strict places)) = true
works_inside (Some (command.Scan strict place)) = true
works_inside line = false

abbrev pub end_failed : ℕ → Event → Bool
end_failed x (Serve from (request.Commit y floor tablets) r time Failed) = nat_eq y x
end_failed x (Serve from (request.Abort y) r time Failed) = nat_eq y x
end_failed x event = false

abbrev pub InDoubt : Option Opened → History → Type 0
InDoubt None h = ⊥
InDoubt (Some x) h = list_any (λ (e : Entry). end_failed x.meta.txn e.event) h ≡ true

-- what stands in the history for a refusal
abbrev pub CauseOf : Config → ToldAt → ToldRefusal → Type 0
CauseOf config t (why.Conflict other) = FoundPending t.who t.before other ⊎ CameBetween t.who t.before other
CauseOf config t (why.Overlap at) = Overlaps t.who t.before at
CauseOf config t (why.Aborted by) = FoundAborted t.who t.before by
CauseOf config t (why.Restart at path) = MetAndStopped config t.who t.before at path
CauseOf config t (why.LeaseHeld a until) = Leased config t.who t.before a until
CauseOf config t (why.ClockFull a at) = CounterEnded t.who t.before a at
CauseOf config t (why.ClockRange a reading) = ReadAbove t a reading
CauseOf config t (why.LogFault a) = LogFailed t.who t.before a
CauseOf config t (why.Down a since) = WasDown t.who t.before a since
CauseOf config t why.NoTxn =
    let m = mover_at config t.who t.before in (needs_open m.line ≡ true) × (m.keeps.opened ≡ None)
CauseOf config t why.TxnOpen =
    let m = mover_at config t.who t.before in (needs_closed m.line ≡ true) × IsOpen m.keeps.opened
CauseOf config t why.InDoubt =
    let m = mover_at config t.who t.before in
    (works_inside m.line ≡ true) × InDoubt m.keeps.opened (before_start t.who t.before)
CauseOf config t why.Memory = Unit {0}

-- each refusal has its cause; out of memory needs none
abbrev pub Cause : Config → ToldAt → Type 0
Cause config t = elim t.told [ told.Refused refusal ↦ CauseOf config t refusal | _ ↦ Unit {0} ]
