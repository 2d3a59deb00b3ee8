-- Entries that no run has: each comes after the entries of a run, and would be that of a run but for one thing.
use Rattle.std.specs.Prelude.{◌+◌, [], ◌∷◌, Some, None}
use Rattle.txn_data.specs.declared.append.Append.TheVariants.{Nothing, Took}
use Rattle.txn_data.specs.declared.entry.Entry.{Entry}
use Rattle.txn_data.specs.declared.event.Event.TheVariants.{Ask, Serve, Tell}
use Rattle.txn_data.specs.declared.fate.Fate.TheVariants as fate
use Rattle.txn_data.specs.declared.reply.Reply.TheVariants as reply
use Rattle.txn_data.specs.declared.request.Request.TheVariants as request
use Rattle.txn_data.specs.declared.told.Told.TheVariants as told
use Rattle.txn_types.specs.History.{History}
use Rattle.txn_types.specs.Run.{Run}
use Rattle.law_witness.specs.Witness.{small, early, late, begun_at, written_at, committed_at, late_at, doc, x, writer, reader, tablet, status, applier, entry, rows, write_request, commit_request, committing, list_request, fate_request, collect_request, apply_request, listing, up_again, collecting, met, learned}
use Rattle.law_witness.specs.Branches.{put_again, listed_first, asking_late, promised, over_request, overwriting}

-- Pending is told to a question at the late time, and the clock stays below it
abbrev pub clock_left_below : Entry
clock_left_below = entry status early (Serve reader (request.AskFate x late_at) (reply.FateIs fate.Pending) (Some begun_at) Took)

-- after that was promised, it commits below it
abbrev pub commit_below_promise : Entry
commit_below_promise = entry status early (Serve writer commit_request (reply.Committed committed_at) (Some committed_at) Took)

-- it commits at the time of its write
abbrev pub commit_below_write : Entry
commit_below_write = entry status early (Serve writer commit_request (reply.Committed written_at) (Some written_at) Took)

-- the session asks to write in the transaction that it committed
abbrev pub write_after_commit : Entry
write_after_commit = entry writer None (Ask tablet (request.ListWrite x doc))

-- the tablet takes a write below the time for which it has listed
abbrev pub write_below_listing : Entry
write_below_listing = entry tablet early (Serve writer write_request (reply.Written written_at) (Some written_at) Took)

-- the tablet lists nothing, though the provisional write is there
abbrev pub read_ignores_record : Entry
read_ignores_record = entry tablet early (Serve reader list_request (reply.Listed written_at []) (Some written_at) Nothing)

-- the status tablet tells that it is absent, though it committed and nothing is applied
abbrev pub forgotten_too_early : Entry
forgotten_too_early = entry status late (Serve reader fate_request (reply.FateIs fate.Absent) (Some late_at) Took)

-- the tablet meets nothing, since the commit is later than the local limit, though the write is not
abbrev pub limit_on_commit_times : Entry
limit_on_commit_times =
    entry tablet None (Serve reader collect_request (reply.Collected ((record { path = doc; value = None }) ∷ [])) None Nothing)

-- the read tells values at the time that it met, and has not collected there
abbrev pub read_without_second_round : Entry
read_without_second_round = entry reader None (Tell 1 (told.Values committed_at 1 rows))

-- the pass applies it at the time of the write
abbrev pub applied_elsewhen : Entry
applied_elsewhen = entry applier None (Ask tablet (apply_request written_at))

-- the tablet takes a write of a transaction over a version that is later than its read time
abbrev pub write_over_later_version : Entry
write_over_later_version = entry tablet late (Serve reader over_request (reply.Written (late_at + 1)) (Some (late_at + 1)) Took)

-- what came before is a run, and with this entry it is none
pub record RefusedAfter (h : History) (e : Entry) : Type 0 where
  pub before : Run small h
  pub refused : Run small (e ∷ h) → ⊥

pub record WrongEntriesAreRefused : Type 0 where
  pub clock_left_below : RefusedAfter asking_late clock_left_below
  pub commit_below_promise : RefusedAfter promised commit_below_promise
  pub commit_below_write : RefusedAfter committing commit_below_write
  pub write_after_commit : RefusedAfter put_again write_after_commit
  pub write_below_listing : RefusedAfter listed_first write_below_listing
  pub read_ignores_record : RefusedAfter listing read_ignores_record
  pub forgotten_too_early : RefusedAfter up_again forgotten_too_early
  pub limit_on_commit_times : RefusedAfter collecting limit_on_commit_times
  pub read_without_second_round : RefusedAfter met read_without_second_round
  pub applied_elsewhen : RefusedAfter learned applied_elsewhen
  pub write_over_later_version : RefusedAfter overwriting write_over_later_version
