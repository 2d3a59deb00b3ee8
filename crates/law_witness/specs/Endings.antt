-- Runs in which a transaction ends otherwise than its session asked, and tells that no run has.
use Rattle.std.specs.Prelude.{◌≡◌, [], ◌∷◌, Some, None}
use Rattle.txn_data.specs.declared.actor.Actor.TheVariants.{Status}
use Rattle.txn_data.specs.declared.command.Command.{Command}
use Rattle.txn_data.specs.declared.command.Command.TheVariants as command
use Rattle.txn_data.specs.declared.config.Config.{Config}
use Rattle.txn_data.specs.declared.entry.Entry.{Entry}
use Rattle.txn_data.specs.declared.event.Event.TheVariants.{Tell}
use Rattle.txn_data.specs.declared.told.Told.{Told}
use Rattle.txn_data.specs.declared.told.Told.TheVariants as told
use Rattle.txn_types.specs.Lists.{Member}
use Rattle.txn_types.specs.History.{History}
use Rattle.txn_types.specs.Plan.{PlacesAgree}
use Rattle.txn_types.specs.Run.{Run, mover_at}
use Rattle.txn_types.specs.Cause.{ToldAt, tells}
use Rattle.worked_cases.specs.Simulated.{all_done}
use Rattle.law_witness.specs.Scripts.{Script, run_of, lost, end_refused}
use Rattle.law_witness.specs.Witness.{small, place, val, x, writer, reader, applier, entry}
use Rattle.law_witness.specs.Wrong.{RefusedAfter}

-- the append of an abort fails, and the restart keeps it; then its session asks to commit
abbrev pub commit_after_abort : Script
commit_after_abort =
    (writer, command.Begin 0) ∷ (writer, command.Put place val) ∷ (writer, command.Abort)
    ∷ (reader, command.Restart (Status 0)) ∷ (writer, command.Commit) ∷ []

-- the append of a commit fails, and the restart keeps it; then its session asks to abort
abbrev pub abort_after_commit : Script
abort_after_commit =
    (writer, command.Begin 0) ∷ (writer, command.Put place val) ∷ (writer, command.Commit)
    ∷ (reader, command.Restart (Status 0)) ∷ (writer, command.Abort) ∷ []

-- a run in which places agree, and a command with this line is told so
pub record IsTold (config : Config) (h : History) (line : Command) (t : Told) : Type 0 where
  pub run : Run config h
  pub places : PlacesAgree h
  pub at : ToldAt
  pub here : Member at (tells h)
  pub under_way : (mover_at config at.who at.before).line ≡ Some line
  pub told : at.told ≡ t

-- all but the newest entry
abbrev pub earlier : History → History
earlier [] = []
earlier (e ∷ h) = h

-- a transaction commits, and its session has heard so
abbrev pub commit_plainly : Script
commit_plainly = (writer, command.Begin 0) ∷ (writer, command.Put place val) ∷ (writer, command.Commit) ∷ []

abbrev pub commit_heard : History
commit_heard = earlier (run_of small commit_plainly)

-- and is told Ended
abbrev pub ended_though_committed : Entry
ended_though_committed = entry writer None (Tell 3 (told.Ended x))

-- the last pass has heard that a transaction is pending
abbrev pub pending_heard : History
pending_heard = earlier (all_done small lost end_refused [])

-- and is told that none is left
abbrev pub one_too_few_left : Entry
one_too_few_left = entry applier None (Tell 1 (told.Passed 0 0 0))

pub record WrongTellsAreRefused : Type 0 where
  pub ended_though_committed : RefusedAfter commit_heard ended_though_committed
  pub one_too_few_left : RefusedAfter pending_heard one_too_few_left
