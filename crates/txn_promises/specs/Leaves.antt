-- What a refusal leaves: what the mover keeps, and what stands in the logs.
use Rattle.std.specs.Prelude.{◌≡◌, ℕ, ◌+◌, Bool, true, false, ◌&&◌, List, [], ◌∷◌, ◌++◌, Option, Some, None, if◌then◌else◌, ◌⊎◌}
use Rattle.txn_data.specs.declared.actor.Actor.{Actor}
use Rattle.txn_data.specs.declared.actor.Actor.TheVariants.{Tablet, Status}
use Rattle.txn_data.specs.declared.append.Append.TheVariants.{Took, Failed}
use Rattle.txn_data.specs.declared.tablet_limit.TabletLimit.{TabletLimit}
use Rattle.txn_data.specs.declared.command.Command.{Command}
use Rattle.txn_data.specs.declared.command.Command.TheVariants as command
use Rattle.txn_data.specs.declared.committed_txn.CommittedTxn.{CommittedTxn}
use Rattle.txn_data.specs.declared.config.Config.{Config}
use Rattle.txn_data.specs.declared.request.Request.{Request}
use Rattle.txn_data.specs.declared.request.Request.TheVariants as request
use Rattle.txn_data.specs.declared.reply.Reply.TheVariants as reply
use Rattle.txn_data.specs.declared.told.Told.{Told}
use Rattle.txn_data.specs.declared.told.Told.TheVariants as told
use Rattle.txn_data.specs.declared.told_refusal.ToldRefusal.{ToldRefusal}
use Rattle.txn_data.specs.declared.told_refusal.ToldRefusal.TheVariants as why
use Rattle.txn_data.specs.declared.event.Event.{Event}
use Rattle.txn_data.specs.declared.event.Event.TheVariants.{Ask, Hear, Tell, Restarted}
use Rattle.txn_data.specs.declared.entry.Entry.{Entry}
use Rattle.txn_types.specs.Lists.{Member, or_else}
use Rattle.txn_types.specs.History.{History, same_actor, is_start}
use Rattle.txn_types.specs.Committed.{committed_snapshots}
use Rattle.txn_types.specs.ReadProgram.{limit_of}
use Rattle.txn_types.specs.Session.{Keeps, Opened, uses_serial, moved_by}
use Rattle.txn_types.specs.Run.{mover_after, limits_of}
use Rattle.txn_types.specs.Reads.{open_txn}
use Rattle.txn_types.specs.Cause.{ToldAt, ServedAt, served_since}
use Rattle.txn_promises.specs.Lines.{mover_then, is_begin, is_write, is_end, is_abort_line, is_read, is_single, is_pass, is_restart, is_closing, TellsJust}

-- ## the session

-- what the mover keeps from then on
abbrev pub keeps_told : Config → ToldAt → Keeps
keeps_told config t = (mover_after config t.who (mover_then config t) t.reading (Tell (mover_then config t).commands t.told)).keeps

-- Conflict, Overlap or a fault of any log, told to a put or a del, and Aborted end the open transaction
abbrev pub ends_txn : Option Command → ToldRefusal → Bool
ends_txn line (why.Conflict other) = is_write line
ends_txn line (why.Overlap at) = is_write line
ends_txn line (why.LogFault a) = is_write line
ends_txn line (why.Aborted by) = true
ends_txn line refusal = false

-- a fault of the log, told to a commit, an abort or an end, leaves it in doubt
abbrev pub leaves_doubt : Option Command → ToldRefusal → Bool
leaves_doubt line (why.LogFault a) = is_end line
leaves_doubt line refusal = false

-- a refused begin or single uses its serial number, but for TxnOpen
abbrev pub spends_serial : Option Command → ToldRefusal → Bool
spends_serial None refusal = false
spends_serial (Some line) why.TxnOpen = false
spends_serial (Some line) refusal = uses_serial line

-- the open transaction where a refusal does not end it: as it was, but for the limits that a read heard, and for the doubt
abbrev pub txn_left : Option Command → List TabletLimit → ToldRefusal → Opened → Opened
txn_left line limits refusal x = record x {
  limits = if is_read line then limits else x.limits;
  in_doubt = if leaves_doubt line refusal then true else x.in_doubt;
}

abbrev pub opened_left : Option Command → List TabletLimit → ToldRefusal → Option Opened → Option Opened
opened_left line limits refusal None = None
opened_left line limits refusal (Some x) = if ends_txn line refusal then None else Some (txn_left line limits refusal x)

-- the first limit that a mover heard from a tablet since its last Start
abbrev pub limit_heard : ℕ → Event → Option ℕ
limit_heard k (Hear (Tablet j) (reply.Listed limit others)) = limit_of k ((record { tablet = j; limit = limit }) ∷ [])
limit_heard k event = None

unfoldable pub first_limit : Actor → ℕ → History → Option ℕ
first_limit m k [] = None
first_limit m k (e ∷ h) =
    if same_actor e.actor m then (if is_start e.event then None else or_else (first_limit m k h) (limit_heard k e.event))
    else first_limit m k h

-- the transaction never commits
abbrev pub NeverCommits : History → ℕ → Type 0
NeverCommits h x = (commit : CommittedTxn) → Member commit (committed_snapshots h) → commit.txn ≡ x → ⊥

abbrev pub Ended : History → Bool → Option Opened → Type 0
Ended h true (Some x) = NeverCommits h x.meta.txn
Ended h ends opened = Unit {0}

-- What the mover keeps once a refusal is told: its time moved by the reading that it recorded and by nothing else, its serial
-- number used or not, and its transaction as it was, or in doubt, or closed. A refused begin opens nothing. The limits are
-- those that it had and, for each other tablet, the first that it heard. A transaction that was closed so never commits.
pub record SessionLeft (config : Config) (h : History) (t : ToldAt) (refusal : ToldRefusal) : Type 0 where
  pub time : (keeps_told config t).last ≡ moved_by (mover_then config t).keeps.last (mover_then config t).reading
  pub serial : (keeps_told config t).serial ≡
      (let m = mover_then config t in if spends_serial m.line refusal then m.keeps.serial + 1 else m.keeps.serial)
  pub opened : (keeps_told config t).opened ≡
      (let m = mover_then config t in opened_left m.line m.limits refusal m.keeps.opened)
  pub limits : (k : ℕ) → limit_of k (mover_then config t).limits ≡
      or_else (limit_of k (limits_of (mover_then config t).keeps.opened)) (first_limit t.who k t.before)
  pub ended : Ended h (ends_txn (mover_then config t).line refusal) (mover_then config t).keeps.opened

-- ## the data

-- What may stand in a log of a command that was refused, where the log took it: a lease, from a read or a pass; an abort of a
-- transaction of lower priority, from a write; the Abort of a put or a del whose refusal ends its transaction; and what a pass
-- applied, cleaned, noted or forgot.
abbrev pub MayStand : Option Command → Option Opened → ToldRefusal → Request → Type 0
MayStand line opened refusal (request.ListRead own_txn paths t g limit) = is_read line ≡ true
MayStand line opened refusal (request.AskFate x t) = (is_read line ≡ true) ⊎ (is_pass line ≡ true)
MayStand line opened refusal (request.Resolve x by priority) = (is_write line ≡ true) ⊎ (is_single line ≡ true)
MayStand line opened refusal (request.Abort x) =
    (is_write line ≡ true) × (ends_txn line refusal ≡ true) × (open_txn opened ≡ Some x)
MayStand line opened refusal (request.Apply x at) = is_pass line ≡ true
MayStand line opened refusal (request.Clean x) = is_pass line ≡ true
MayStand line opened refusal (request.Applied x tablet) = is_pass line ≡ true
MayStand line opened refusal asked = ⊥

-- what a failed piece may be of: any of these, or what the command is for
abbrev pub MayFail : Option Command → Option Opened → ToldRefusal → Request → Type 0
MayFail line opened refusal (request.Write meta number path op read seen fates) =
    (is_write line ≡ true) × (open_txn opened ≡ Some meta.txn)
MayFail line opened refusal (request.Single x path op seen fates) = is_single line ≡ true
MayFail line opened refusal (request.Begin x isolation priority) = is_begin line ≡ true
MayFail line opened refusal (request.Commit x floor tablets) = (line ≡ Some command.Commit) × (open_txn opened ≡ Some x)
MayFail line opened refusal (request.Abort x) =
    MayStand line opened refusal (request.Abort x) ⊎ ((is_abort_line line ≡ true) × (open_txn opened ≡ Some x))
MayFail line opened refusal asked = MayStand line opened refusal asked

abbrev pub asks_single : Request → Bool
asks_single (request.Single x path op seen fates) = true
asks_single asked = false

-- the actors that were restarted for a mover since its last Start, the newest first
abbrev pub restarted_by : Actor → Entry → List Actor
restarted_by m e = elim e.event [ Restarted from kept ↦ if same_actor from m then e.actor ∷ [] else [] | _ ↦ [] ]

unfoldable pub restarted_since : Actor → History → List Actor
restarted_since m [] = []
restarted_since m (e ∷ h) =
    if same_actor e.actor m && is_start e.event then [] else restarted_by m e ++ restarted_since m h

-- What the logs hold of a command that was refused. Of what a log took, only what is named above: so nothing of a write, a
-- single write, a begin or a commit, nor of an abort or an end that is refused. Where an append failed, just the fault of that
-- log is told, but for an Abort that closes. By `stands_in_log` a failed piece stands exactly where the next restart of its actor
-- kept it, and what had nothing to log stands nowhere. A fault of a status tablet told to a single means that its single write
-- was not served. Nothing was restarted, but for a restart that is told out of memory.
pub record DataLeft (config : Config) (t : ToldAt) (refusal : ToldRefusal) : Type 0 where
  pub taken : (s : ServedAt) → Member s (served_since t.who t.before) → s.append ≡ Took →
      MayStand (mover_then config t).line (mover_then config t).keeps.opened refusal s.asked
  pub failed : (s : ServedAt) → Member s (served_since t.who t.before) → s.append ≡ Failed →
      MayFail (mover_then config t).line (mover_then config t).keeps.opened refusal s.asked
      × (is_closing (mover_then config t).line s.asked ≡ false → TellsJust t.who t.told (why.LogFault s.by))
  pub unwritten : (j : ℕ) → refusal ≡ why.LogFault (Status j) → is_single (mover_then config t).line ≡ true →
      (s : ServedAt) → Member s (served_since t.who t.before) → asks_single s.asked ≡ false
  pub restarts : (a : Actor) → Member a (restarted_since t.who t.before) →
      (is_restart (mover_then config t).line ≡ true) × (refusal ≡ why.Memory)

-- ## what was asked

abbrev pub asked_by : Event → List Request
asked_by (Ask to asked) = asked ∷ []
asked_by event = []

-- what a mover asked since its last Start, the newest first
unfoldable pub asked_since : Actor → History → List Request
asked_since m [] = []
asked_since m (e ∷ h) =
    if same_actor e.actor m then
    (if is_start e.event then [] else elim (asked_by e.event) [ [] ↦ asked_since m h | asked ∷ more ↦ asked ∷ asked_since m h ])
    else asked_since m h

-- NoTxn, TxnOpen, InDoubt and a reading of the mover's own that is out of range come before anything is asked
abbrev pub is_early : Actor → ToldRefusal → Bool
is_early m why.NoTxn = true
is_early m why.TxnOpen = true
is_early m why.InDoubt = true
is_early m (why.ClockRange a reading) = same_actor a m
is_early m refusal = false

abbrev pub NothingAsked : ToldAt → ToldRefusal → Type 0
NothingAsked t refusal = is_early t.who refusal ≡ true → asked_since t.who t.before ≡ []

-- ## what ends a refused write

-- An Abort was asked only by a put or a del whose refusal ends its transaction, and by an abort or an end. So a refusal that
-- leaves the transaction of a put or a del as it was comes with none, and a refused commit asks none.
abbrev pub AbortsAsked : Config → ToldAt → ToldRefusal → Type 0
AbortsAsked config t refusal =
    (x : ℕ) → Member (request.Abort x) (asked_since t.who t.before) →
    MayFail (mover_then config t).line (mover_then config t).keeps.opened refusal (request.Abort x)

-- none of these is an Abort
abbrev pub NoAbort : List Request → Type 0
NoAbort asks = (x : ℕ) → Member (request.Abort x) asks → ⊥

-- one Abort of this transaction was asked, and nothing after it; the newest request stands first
abbrev pub ClosingAsked : ℕ → List Request → Type 0
ClosingAsked x asks = (before : List Request) × (asks ≡ request.Abort x ∷ before) × NoAbort before

-- a put or a del whose refusal ends its transaction asked just that
abbrev pub Closes : Config → ToldAt → ToldRefusal → Type 0
Closes config t refusal =
    (x : ℕ) → is_write (mover_then config t).line ≡ true → ends_txn (mover_then config t).line refusal ≡ true →
    open_txn (mover_then config t).keeps.opened ≡ Some x → ClosingAsked x (asked_since t.who t.before)

-- ## all of it

pub record LeftBy (config : Config) (h : History) (t : ToldAt) (refusal : ToldRefusal) : Type 0 where
  pub session : SessionLeft config h t refusal
  pub logs : DataLeft config t refusal
  pub asked : NothingAsked t refusal
  pub aborts : AbortsAsked config t refusal
  pub closing : Closes config t refusal

abbrev pub LeftBehind : Config → History → ToldAt → Told → Type 0
LeftBehind config h t (told.Refused refusal) = LeftBy config h t refusal
LeftBehind config h t u = Unit {0}

-- what each refusal leaves
abbrev pub Leaves : Config → History → ToldAt → Type 0
Leaves config h t = LeftBehind config h t t.told
