-- One run of a small cluster, entry by entry: a transaction commits; a read begins before the status tablet restarts and
-- meets the commit after it, so it goes to a second round; and a pass applies what was committed.
use Rattle.std.specs.Prelude.{ℕ, ◌+◌, ◌*◌, ◌^◌, false, List, [], ◌∷◌, Option, Some, None}
use Rattle.doc_path.specs.Path.{Parts}
use Rattle.txn_data.specs.declared.actor.Actor.{Actor}
use Rattle.txn_data.specs.declared.actor.Actor.TheVariants.{Tablet, Status, Session, Applier}
use Rattle.txn_data.specs.declared.append.Append.{Append}
use Rattle.txn_data.specs.declared.append.Append.TheVariants.{Nothing, Took}
use Rattle.txn_data.specs.declared.command.Command.TheVariants as command
use Rattle.txn_data.specs.declared.config.Config.{Config}
use Rattle.txn_data.specs.declared.schedule.Schedule.TheVariants.{Serial}
use Rattle.txn_data.specs.declared.entry.Entry.{Entry}
use Rattle.txn_data.specs.declared.event.Event.{Event}
use Rattle.txn_data.specs.declared.event.Event.TheVariants.{Start, Ask, Serve, Hear, Tell, Restarted}
use Rattle.txn_data.specs.declared.fate.Fate.TheVariants as fate
use Rattle.txn_data.specs.declared.fate_of.FateOf.{FateOf}
use Rattle.txn_data.specs.declared.found.Found.{Found}
use Rattle.txn_data.specs.declared.isolation.Isolation.TheVariants.{Snapshot}
use Rattle.txn_data.specs.declared.meta.Meta.{Meta}
use Rattle.txn_data.specs.declared.op.Op.TheVariants.{Put}
use Rattle.txn_data.specs.declared.place.Place.{Place}
use Rattle.txn_data.specs.declared.read_kind.ReadKind.TheVariants.{Get}
use Rattle.txn_data.specs.declared.reply.Reply.{Reply}
use Rattle.txn_data.specs.declared.reply.Reply.TheVariants as reply
use Rattle.txn_data.specs.declared.request.Request.{Request}
use Rattle.txn_data.specs.declared.request.Request.TheVariants as request
use Rattle.txn_data.specs.declared.row.Row.{Row}
use Rattle.txn_data.specs.declared.told.Told.TheVariants as told
use Rattle.txn_types.specs.History.{History}

-- one node, one tablet and one status tablet; clocks may differ by half a second, and a lease is two seconds
abbrev pub small : Config
small = record {
  nodes = 1;
  tablets = 1;
  status = 1;
  passes = 0;
  skew_us = 500000;
  lease_us = 2000000;
  number = 0;
  start_us = 1000000 ∷ [];
  schedule = Serial;
}

-- the clock of the node before the restart, and after it; in between the lease of the status tablet ended
abbrev pub early : Option ℕ
early = Some 1000000

abbrev pub late : Option ℕ
late = Some 3000001

-- the three times at the early reading that are given one after another: the transaction reads and the read begins at the
-- first, the write is at the second, and the commit at the third; and the one at the late reading
abbrev pub begun_at : ℕ
begun_at = 4096000000

abbrev pub written_at : ℕ
written_at = 4096000001

abbrev pub committed_at : ℕ
committed_at = 4096000002

abbrev pub late_at : ℕ
late_at = 12288004096

-- the end of the read's window, half a second after its reading
abbrev pub window_at : ℕ
window_at = 6144004095

-- the writer and the reader, and the one tablet, status tablet and applier
abbrev pub writer : Actor
writer = Session 1

abbrev pub reader : Actor
reader = Session 2

abbrev pub tablet : Actor
tablet = Tablet 0

abbrev pub status : Actor
status = Status 0

abbrev pub applier : Actor
applier = Applier 0

-- the first transaction of session 1
abbrev pub x : ℕ
x = 1 * 2 ^ 64 + 1

abbrev pub meta : Meta
meta = record { txn = x; status = 0; isolation = Snapshot; priority = 0 }

-- the one document, and what is written there
abbrev pub doc : Parts
doc = (97 ∷ []) ∷ []

abbrev pub place : Place
place = record { tablet = 0; path = doc }

abbrev pub val : List ℕ
val = 1 ∷ []

-- what a tablet finds, what the reader and the applier are told of it, and what is there once that is considered
abbrev pub found : List Found
found = (record { txn = x; status = 0 }) ∷ []

abbrev pub fates : List FateOf
fates = (record { txn = x; fate = fate.Committed committed_at }) ∷ []

abbrev pub rows : List Row
rows = (record { path = doc; value = Some val }) ∷ []

abbrev pub entry : Actor → Option ℕ → Event → Entry
entry a reading event = record { actor = a; reading = reading; event = event }

-- a request leaves, is served with this reading, time and append, and the reply is heard
abbrev pub exchange : Actor → Actor → Option ℕ → Request → Reply → Option ℕ → Append → History → History
exchange m to reading asked r time append h =
    entry m None (Hear to r) ∷ entry to reading (Serve m asked r time append) ∷ entry m None (Ask to asked) ∷ h

-- ## the transaction begins, writes and commits

abbrev pub begin_request : Request
begin_request = request.Begin x Snapshot 0

-- the session takes a reading for the time of its transaction
abbrev pub begun : History
begun =
    entry writer None (Tell 1 (told.Began x begun_at))
    ∷ entry writer None (Hear status reply.Begun)
    ∷ entry status None (Serve writer begin_request reply.Begun None Took)
    ∷ entry writer early (Ask status begin_request)
    ∷ entry writer None (Start 1 (command.Begin 0))
    ∷ []

-- the request to write has left
abbrev pub write_request : Request
write_request = request.Write meta 0 doc (Put val) begun_at begun_at []

abbrev pub writing : History
writing =
    entry writer None (Ask tablet write_request)
    ∷ exchange writer tablet None (request.ListWrite x doc) (reply.Others []) None Nothing
    (entry writer None (Start 2 (command.Put place val)) ∷ begun)

abbrev pub written : History
written =
    entry writer None (Tell 2 (told.Written written_at))
    ∷ entry writer None (Hear tablet (reply.Written written_at))
    ∷ entry tablet early (Serve writer write_request (reply.Written written_at) (Some written_at) Took)
    ∷ writing

-- the request to commit has left
abbrev pub commit_request : Request
commit_request = request.Commit x written_at (0 ∷ [])

abbrev pub committing : History
committing =
    entry writer None (Ask status commit_request)
    ∷ entry writer None (Start 3 command.Commit)
    ∷ written

abbrev pub done : History
done =
    entry writer None (Tell 3 (told.Committed x committed_at))
    ∷ entry writer None (Hear status (reply.Committed committed_at))
    ∷ entry status early (Serve writer commit_request (reply.Committed committed_at) (Some committed_at) Took)
    ∷ committing

-- ## the read meets the commit in its first round

-- its request to list has left, with the session's reading
abbrev pub list_request : Request
list_request = request.ListRead None (doc ∷ []) begun_at window_at None

abbrev pub listing : History
listing =
    entry reader early (Ask tablet list_request)
    ∷ entry reader None (Start 1 (command.Read false (place ∷ [])))
    ∷ done

-- the tablet has listed the provisional write, and the question for its fate has left
abbrev pub fate_request : Request
fate_request = request.AskFate x begun_at

abbrev pub asking : History
asking =
    entry reader None (Ask status fate_request)
    ∷ entry reader None (Hear tablet (reply.Listed written_at found))
    ∷ entry tablet early (Serve reader list_request (reply.Listed written_at found) (Some written_at) Nothing)
    ∷ listing

-- the status tablet restarts before it answers
abbrev pub restarted : Entry
restarted = entry status None (Restarted writer false)

abbrev pub up_again : History
up_again =
    entry writer None (Tell 4 (told.Restarted false))
    ∷ entry writer None (Hear status (reply.Restarted false))
    ∷ restarted
    ∷ entry writer None (Ask status request.Restart)
    ∷ entry writer None (Start 4 (command.Restart status))
    ∷ asking

-- it tells of the commit, for which it logs a new lease; the request to collect has left
abbrev pub collect_request : Request
collect_request = request.Collect None Get (doc ∷ []) begun_at (Some (record { g = window_at; limit = written_at })) fates

abbrev pub collecting : History
collecting =
    entry reader None (Ask tablet collect_request)
    ∷ entry reader None (Hear status (reply.FateIs (fate.Committed committed_at)))
    ∷ entry status late (Serve reader fate_request (reply.FateIs (fate.Committed committed_at)) (Some late_at) Took)
    ∷ up_again

-- the tablet answers what it met: the commit is later than the read's time, and within its window
abbrev pub met : History
met =
    entry reader None (Hear tablet (reply.Met committed_at doc))
    ∷ entry tablet None (Serve reader collect_request (reply.Met committed_at doc) None Nothing)
    ∷ collecting

-- ## the second round, at the time of the commit

abbrev pub finished : Entry
finished = entry reader None (Tell 1 (told.Values committed_at 1 rows))

abbrev pub collected : History
collected =
    exchange reader tablet None (request.Collect None Get (doc ∷ []) committed_at None fates) (reply.Collected rows) None Nothing
    (exchange reader status late (request.AskFate x committed_at) (reply.FateIs (fate.Committed committed_at)) (Some late_at) Nothing
    (exchange reader tablet late (request.ListRead None (doc ∷ []) committed_at window_at (Some written_at)) (reply.Listed written_at found) (Some late_at) Took met))

-- ## a pass applies what was committed

abbrev pub apply_request : ℕ → Request
apply_request at = request.Apply x at

abbrev pub learned : History
learned =
    exchange applier status late (request.AskFate x 0) (reply.FateIs (fate.Committed committed_at)) (Some late_at) Nothing
    (exchange applier tablet None request.ListIntents (reply.Intents found) None Nothing
    (entry applier None (Start 1 (command.Apply 0)) ∷ finished ∷ collected))

abbrev pub applied : Entry
applied = entry tablet late (Serve applier (apply_request committed_at) reply.AppliedHere (Some late_at) Took)

-- after the restart the status tablet isn't sure of the commit's end, so the record stays
abbrev pub whole : History
whole =
    entry applier None (Tell 1 (told.Passed 1 0 0))
    ∷ exchange applier status None (request.Applied x 0) reply.Noted None Nothing
    (entry applier None (Hear tablet reply.AppliedHere)
    ∷ applied
    ∷ entry applier None (Ask tablet (apply_request committed_at))
    ∷ learned)
