-- Refusals and tells that no run has: each comes after the entries of a run, and has another cause than stands there.
use Rattle.std.specs.Prelude.{◌≡◌, false, true, List, [], ◌∷◌, None, drop}
use Rattle.txn_data.specs.declared.actor.Actor.{Actor}
use Rattle.txn_data.specs.declared.append.Append.TheVariants.{Nothing, Took}
use Rattle.txn_data.specs.declared.command.Command.TheVariants as command
use Rattle.txn_data.specs.declared.entry.Entry.{Entry}
use Rattle.txn_data.specs.declared.event.Event.TheVariants.{Serve, Tell}
use Rattle.txn_data.specs.declared.fate.Fate.TheVariants as fate
use Rattle.txn_data.specs.declared.isolation.Isolation.TheVariants.{Snapshot}
use Rattle.txn_data.specs.declared.op.Op.TheVariants.{Put}
use Rattle.txn_data.specs.declared.refusal.Refusal.TheVariants as refusal
use Rattle.txn_data.specs.declared.reply.Reply.TheVariants as reply
use Rattle.txn_data.specs.declared.request.Request.{Request}
use Rattle.txn_data.specs.declared.request.Request.TheVariants as request
use Rattle.txn_data.specs.declared.row.Row.{Row}
use Rattle.txn_data.specs.declared.told.Told.TheVariants as told
use Rattle.txn_data.specs.declared.told_refusal.ToldRefusal.TheVariants as why
use Rattle.txn_types.specs.History.{History}
use Rattle.txn_types.specs.Run.{flight, Asked}
use Rattle.worked_cases.specs.Simulated.{all_done}
use Rattle.law_witness.specs.Endings.{earlier}
use Rattle.law_refusal_witness.specs.Refused.{step, of_reader}
use Rattle.law_witness.specs.Scripts.{Script, run_of, lost, other_val}
use Rattle.law_witness.specs.Witness.{small, early, begun_at, place, val, doc, x, writer, reader, tablet, status, entry, write_request}
use Rattle.law_witness.specs.Wrong.{RefusedAfter}

-- the document has no value
abbrev pub no_value : List Row
no_value = (record { path = doc; value = None }) ∷ []

-- a strict read meets nothing
abbrev pub strict_alone : Script
strict_alone = (reader, command.Read true (place ∷ [])) ∷ []

abbrev pub nothing_met : History
nothing_met = earlier (run_of small strict_alone)

-- and is told Restart
abbrev pub restart_for_nothing : Entry
restart_for_nothing = entry reader None (Tell 1 (told.Refused (why.Restart begun_at doc)))

-- a transaction with a higher priority aborts the one that it was told of, and asks to write there
abbrev pub over_aborted : Script
over_aborted =
    (writer, command.Begin 0) ∷ (writer, command.Put place val) ∷ (reader, command.Begin 9) ∷ (reader, command.Put place other_val) ∷ []

abbrev pub asks_over_aborted : History
asks_over_aborted = drop 3 (run_of small over_aborted)

abbrev pub over_aborted_request : Request
over_aborted_request =
    request.Write (record { txn = of_reader 1; status = 0; isolation = Snapshot; priority = 9 }) 0 doc (Put other_val) begun_at begun_at
    ((record { txn = x; fate = fate.Aborted }) ∷ [])

-- and the tablet names the aborted one for a conflict
abbrev pub conflict_with_aborted : Entry
conflict_with_aborted = entry tablet early (Serve reader over_aborted_request (reply.Refused (refusal.Conflict x)) None Nothing)

-- a transaction asks to resolve another of its priority
abbrev pub equals : Script
equals =
    (writer, command.Begin 0) ∷ (writer, command.Put place val) ∷ (reader, command.Begin 0) ∷ (reader, command.Put place other_val) ∷ []

abbrev pub resolving : History
resolving = drop 6 (run_of small equals)

abbrev pub equals_request : Request
equals_request = request.Resolve x (of_reader 1) 0

-- and that is aborted
abbrev pub aborted_by_equal : Entry
aborted_by_equal = entry status None (Serve reader equals_request (reply.FateIs fate.Aborted) None Took)

-- there are three versions, two of them later than the read time of the transaction that asks to write
abbrev pub over_three : Script
over_three =
    (writer, command.Begin 0) ∷ (reader, command.SinglePut place val 0) ∷ (reader, command.SinglePut place val 0)
    ∷ (reader, command.SinglePut place val 0) ∷ (writer, command.Put place val) ∷ []

abbrev pub asks_over_three : History
asks_over_three = drop 6 (run_of small over_three)

-- and it is told the time of the earlier one
abbrev pub overlap_below_greatest : Entry
overlap_below_greatest = entry tablet early (Serve writer write_request (reply.Refused (refusal.Overlap (step 1))) None Nothing)

-- a tablet restarts in its second lease, and refuses a single write
abbrev pub two_leases : Script
two_leases =
    (writer, command.SinglePut place val 0) ∷ (writer, command.Restart tablet) ∷ (writer, command.Clock 0 3000001)
    ∷ (writer, command.SinglePut place val 0) ∷ (writer, command.Restart tablet) ∷ (writer, command.SinglePut place val 0) ∷ []

abbrev pub in_second_lease : History
in_second_lease = earlier (run_of small two_leases)

-- and the end of the first lease is told
abbrev pub end_of_first_lease : Entry
end_of_first_lease = entry writer None (Tell 6 (told.Refused (why.LeaseHeld tablet 3000000)))

-- the append of another session's begin fails; then a commit is told Down, and a put of its session is served
abbrev pub put_after_down : Script
put_after_down =
    (reader, command.Begin 0) ∷ (writer, command.Begin 0) ∷ (reader, command.Commit) ∷ (reader, command.Put place val) ∷ []

abbrev pub put_heard : History
put_heard = earlier (all_done small lost put_after_down [])

-- and the put is told InDoubt
abbrev pub in_doubt_after_down : Entry
in_doubt_after_down = entry reader None (Tell 3 (told.Refused why.InDoubt))

-- the append of a commit fails, and a read is answered Down as it asks for the fate of the transaction
abbrev pub read_while_down : Script
read_while_down =
    (writer, command.Begin 0) ∷ (writer, command.Put place val) ∷ (writer, command.Commit)
    ∷ (reader, command.Read false (place ∷ [])) ∷ []

abbrev pub down_heard : History
down_heard = earlier (all_done small lost read_while_down [])

-- and the read is told values
abbrev pub values_while_down : Entry
values_while_down = entry reader None (Tell 1 (told.Values begun_at 0 no_value))

-- what came before is a run in which this actor was asked so, and with this answer it is none
pub record AnswerRefused (h : History) (from to : Actor) (asked : Request) (e : Entry) : Type 0 where
  pub in_flight : flight from h ≡ Asked to asked
  pub answer : RefusedAfter h e

pub record WrongRefusalsAreRefused : Type 0 where
  pub restart_for_nothing : RefusedAfter nothing_met restart_for_nothing
  pub conflict_with_aborted : AnswerRefused asks_over_aborted reader tablet over_aborted_request conflict_with_aborted
  pub aborted_by_equal : AnswerRefused resolving reader status equals_request aborted_by_equal
  pub overlap_below_greatest : AnswerRefused asks_over_three writer tablet write_request overlap_below_greatest
  pub end_of_first_lease : RefusedAfter in_second_lease end_of_first_lease
  pub in_doubt_after_down : RefusedAfter put_heard in_doubt_after_down
  pub values_while_down : RefusedAfter down_heard values_while_down
