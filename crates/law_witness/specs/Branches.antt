-- Runs of the same cluster that go another way: a read lists late, while the writer's request waits; a second transaction
-- writes what the first one wrote; and a single write comes before the write of a transaction that began earlier.
use Rattle.std.specs.Prelude.{ℕ, ◌+◌, ◌*◌, ◌^◌, false, List, [], ◌∷◌, Some, None}
use Rattle.txn_data.specs.declared.append.Append.TheVariants.{Nothing, Took}
use Rattle.txn_data.specs.declared.command.Command.TheVariants as command
use Rattle.txn_data.specs.declared.event.Event.TheVariants.{Start, Ask, Serve, Hear, Tell}
use Rattle.txn_data.specs.declared.fate.Fate.TheVariants as fate
use Rattle.txn_data.specs.declared.found.Found.{Found}
use Rattle.txn_data.specs.declared.isolation.Isolation.TheVariants.{Snapshot}
use Rattle.txn_data.specs.declared.meta.Meta.{Meta}
use Rattle.txn_data.specs.declared.op.Op.TheVariants.{Put}
use Rattle.txn_data.specs.declared.reply.Reply.TheVariants as reply
use Rattle.txn_data.specs.declared.request.Request.{Request}
use Rattle.txn_data.specs.declared.request.Request.TheVariants as request
use Rattle.txn_data.specs.declared.told.Told.TheVariants as told
use Rattle.txn_types.specs.History.{History}
use Rattle.law_witness.specs.Witness.{early, late, begun_at, committed_at, late_at, writer, reader, tablet, status, x, doc, place, val, found, fates, entry, exchange, writing, committing, done}

-- the session that committed is to put once more
abbrev pub put_again : History
put_again = entry writer None (Start 4 (command.Put place val)) ∷ done

-- ## a read at the late time; then the clock of the node is set back

abbrev pub late_request : Request
late_request = request.ListRead None (doc ∷ []) late_at 14336008191 None

-- the tablet has listed this for it, while the writer waits for an answer
abbrev pub listed_late : List Found → History → History
listed_late others h =
    entry tablet late (Serve reader late_request (reply.Listed late_at others) (Some late_at) Took)
    ∷ entry reader late (Ask tablet late_request)
    ∷ entry reader None (Start 1 (command.Read false (place ∷ [])))
    ∷ h

-- before the write is served, and before the commit is
abbrev pub listed_first : History
listed_first = listed_late [] writing

abbrev pub asking_late : History
asking_late =
    entry reader None (Ask status (request.AskFate x late_at))
    ∷ entry reader None (Hear tablet (reply.Listed late_at found))
    ∷ listed_late found committing

-- the status tablet tells that it is pending, and promises that a later commit is above the late time
abbrev pub promised : History
promised = entry status early (Serve reader (request.AskFate x late_at) (reply.FateIs fate.Pending) (Some late_at) Took) ∷ asking_late

-- ## a second writer

-- the first transaction of session 2
abbrev pub y : ℕ
y = 2 * 2 ^ 64 + 1

abbrev pub meta_y : Meta
meta_y = record { txn = y; status = 0; isolation = Snapshot; priority = 0 }

-- it begins at the late time, learns of the first one's commit before it writes, and commits
abbrev pub second_begun : History
second_begun =
    entry reader None (Tell 1 (told.Began y late_at))
    ∷ entry reader None (Hear status reply.Begun)
    ∷ entry status None (Serve reader (request.Begin y Snapshot 0) reply.Begun None Took)
    ∷ entry reader late (Ask status (request.Begin y Snapshot 0))
    ∷ entry reader None (Start 1 (command.Begin 0))
    ∷ done

abbrev pub second_written : History
second_written =
    entry reader None (Tell 2 (told.Written (late_at + 1)))
    ∷ exchange reader tablet late (request.Write meta_y 0 doc (Put val) late_at late_at fates) (reply.Written (late_at + 1)) (Some (late_at + 1)) Took
    (exchange reader status None (request.Resolve x y 0) (reply.FateIs (fate.Committed committed_at)) None Nothing
    (exchange reader tablet None (request.ListWrite y doc) (reply.Others found) None Nothing
    (entry reader None (Start 2 (command.Put place val)) ∷ second_begun)))

abbrev pub both_done : History
both_done =
    entry reader None (Tell 3 (told.Committed y (late_at + 2)))
    ∷ exchange reader status late (request.Commit y (late_at + 1) (0 ∷ [])) (reply.Committed (late_at + 2)) (Some (late_at + 2)) Took
    (entry reader None (Start 3 command.Commit) ∷ second_written)

-- ## a single write after the begin of a transaction

abbrev pub reader_begun : History
reader_begun =
    entry reader None (Tell 1 (told.Began y begun_at))
    ∷ entry reader None (Hear status reply.Begun)
    ∷ entry status None (Serve reader (request.Begin y Snapshot 0) reply.Begun None Took)
    ∷ entry reader early (Ask status (request.Begin y Snapshot 0))
    ∷ entry reader None (Start 1 (command.Begin 0))
    ∷ []

-- the single write is at the late time
abbrev pub single_done : History
single_done =
    entry writer None (Tell 1 (told.Committed x late_at))
    ∷ exchange writer tablet late (request.Single x doc (Put val) 0 []) (reply.SingleDone late_at) (Some late_at) Took
    (exchange writer tablet None (request.ListWrite x doc) (reply.Others []) None Nothing
    (entry writer None (Start 1 (command.SinglePut place val 0)) ∷ reader_begun))

-- the transaction, which reads at the early time, is to write there
abbrev pub over_request : Request
over_request = request.Write meta_y 0 doc (Put val) begun_at begun_at []

abbrev pub overwriting : History
overwriting =
    entry reader None (Ask tablet over_request)
    ∷ exchange reader tablet None (request.ListWrite y doc) (reply.Others []) None Nothing
    (entry reader None (Start 2 (command.Put place val)) ∷ single_done)
