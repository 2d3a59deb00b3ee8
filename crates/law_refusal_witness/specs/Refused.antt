-- Runs in which commands are refused: a few histories, each with several rows of the refusals.
use Rattle.std.specs.Prelude.{◌≡◌, ℕ, ◌+◌, ◌*◌, ◌^◌, true, false, List, [], ◌∷◌, Some, None}
use Rattle.txn_data.specs.declared.actor.Actor.{Actor}
use Rattle.txn_data.specs.declared.actor.Actor.TheVariants.{Session}
use Rattle.txn_data.specs.declared.append.Append.TheVariants.{Nothing}
use Rattle.txn_data.specs.declared.command.Command.{Command}
use Rattle.txn_data.specs.declared.command.Command.TheVariants as command
use Rattle.txn_data.specs.declared.commands.Commands.{Commands}
use Rattle.txn_data.specs.declared.config.Config.{Config}
use Rattle.txn_data.specs.declared.event.Event.TheVariants.{Start, Tell}
use Rattle.txn_data.specs.declared.refusal.Refusal.TheVariants as refusal
use Rattle.txn_data.specs.declared.reply.Reply.TheVariants as reply
use Rattle.txn_data.specs.declared.request.Request.TheVariants as request
use Rattle.txn_data.specs.declared.told.Told.TheVariants as told
use Rattle.txn_data.specs.declared.told_refusal.ToldRefusal.{ToldRefusal}
use Rattle.txn_data.specs.declared.told_refusal.ToldRefusal.TheVariants as why
use Rattle.txn_types.specs.Lists.{Member}
use Rattle.txn_types.specs.History.{History}
use Rattle.txn_types.specs.Plan.{PlacesAgree}
use Rattle.txn_types.specs.Run.{Run, mover_at}
use Rattle.txn_types.specs.Cause.{ToldAt, tells, CameBetween}
use Rattle.law_witness.specs.Endings.{earlier}
use Rattle.law_witness.specs.Scripts.{Script, beside, other_val}
use Rattle.law_witness.specs.Witness.{small, place, val, doc, x, writer, reader, tablet, status, entry, exchange}

-- a command of this mover, with this line, was told this refusal
pub record WasRefused (config : Config) (h : History) (who : Actor) (line : Command) (cause : ToldRefusal) : Type 0 where
  pub at : ToldAt
  pub here : Member at (tells h)
  pub by : at.who ≡ who
  pub under_way : (mover_at config who at.before).line ≡ Some line
  pub told : at.told ≡ told.Refused cause

-- a run in which places agree
pub record AgreeingRun (config : Config) (h : History) : Type 0 where
  pub run : Run config h
  pub places : PlacesAgree h

-- the time of the first reading, and so many steps later
abbrev pub step : ℕ → ℕ
step n = 1000000 * 4096 + n

-- transaction n of the reader
abbrev pub of_reader : ℕ → ℕ
of_reader n = 2 * 2 ^ 64 + n

-- ## what a session refuses by itself

-- it writes with no transaction open, and begins twice and writes singly with one open
abbrev pub misused : Script
misused =
    (writer, command.Put place val) ∷ (writer, command.Begin 0) ∷ (writer, command.Begin 0)
    ∷ (writer, command.SinglePut place val 0) ∷ (writer, command.Abort) ∷ []

pub record ShowsOwnRefusals (h : History) : Type 0 where
  pub is_run : AgreeingRun small h
  pub put_without : WasRefused small h writer (command.Put place val) why.NoTxn
  pub begin_inside : WasRefused small h writer (command.Begin 0) why.TxnOpen
  pub single_inside : WasRefused small h writer (command.SinglePut place val 0) why.TxnOpen

-- ## writers that meet

-- the reader meets the writer's pending transaction with an equal priority, and then with a higher one, which aborts it;
-- the writer then writes where the reader has committed a transaction, and where it has written singly
abbrev pub meeting : Script
meeting =
    (writer, command.Begin 0) ∷ (reader, command.Begin 0) ∷ (writer, command.Put place val) ∷ (reader, command.Put place other_val)
    ∷ (reader, command.Begin 9) ∷ (reader, command.Put place other_val) ∷ (writer, command.Commit)
    ∷ (writer, command.Begin 0) ∷ (reader, command.Commit) ∷ (writer, command.Put place val)
    ∷ (writer, command.Begin 0) ∷ (reader, command.SinglePut beside other_val 0) ∷ (writer, command.Put beside val) ∷ []

pub record ShowsMeetings (h : History) : Type 0 where
  pub is_run : AgreeingRun small h
  pub equal_priority : WasRefused small h reader (command.Put place other_val) (why.Conflict x)
  pub higher_priority : WasRefused small h writer command.Commit (why.Aborted (of_reader 2))
  pub over_fate : WasRefused small h writer (command.Put place val) (why.Overlap (step 3))
  pub over_version : WasRefused small h writer (command.Put beside val) (why.Overlap (step 4))

-- ## reads that may not restart

abbrev pub third : Actor
third = Session 3

-- what was written is in the window of a strict read, of a read after a write, and of a second read of a transaction
abbrev pub stopped : Script
stopped =
    (writer, command.SinglePut place val 0) ∷ (writer, command.SinglePut place other_val 0)
    ∷ (reader, command.Read true (place ∷ []))
    ∷ (third, command.Begin 0) ∷ (third, command.Read false (beside ∷ [])) ∷ (third, command.Read false (place ∷ []))
    ∷ (reader, command.Begin 0) ∷ (reader, command.Put beside val) ∷ (reader, command.Read false (place ∷ [])) ∷ []

pub record ShowsStoppedReads (h : History) : Type 0 where
  pub is_run : AgreeingRun small h
  pub strict : WasRefused small h reader (command.Read true (place ∷ [])) (why.Restart (step 1) doc)
  pub after_write : WasRefused small h reader (command.Read false (place ∷ [])) (why.Restart (step 1) doc)
  pub after_read : WasRefused small h third (command.Read false (place ∷ [])) (why.Restart (step 1) doc)

-- ## clocks

-- a tablet restarts within its lease; and then the reading of the node is above the greatest
abbrev pub late_clock : ℕ
late_clock = 4000000000000001

abbrev pub by_clocks : Script
by_clocks =
    (writer, command.SinglePut place val 0) ∷ (writer, command.Restart tablet) ∷ (writer, command.SinglePut place val 0)
    ∷ (writer, command.Clock 0 late_clock) ∷ (writer, command.Begin 0) ∷ (writer, command.SinglePut place val 0) ∷ []

pub record ShowsClocks (h : History) : Type 0 where
  pub is_run : AgreeingRun small h
  pub in_lease : WasRefused small h writer (command.SinglePut place val 0) (why.LeaseHeld tablet 3000000)
  pub own_reading : WasRefused small h writer (command.Begin 0) (why.ClockRange writer late_clock)
  pub reading_of_tablet : WasRefused small h writer (command.SinglePut place val 0) (why.ClockRange tablet late_clock)

-- ## logs

-- the append of a commit fails; its session then writes, and commits once more
abbrev pub by_logs : Script
by_logs =
    (writer, command.Begin 0) ∷ (writer, command.Put place val) ∷ (writer, command.Commit) ∷ (writer, command.Put beside val)
    ∷ (writer, command.Commit) ∷ []

pub record ShowsFaults (h : History) : Type 0 where
  pub is_run : AgreeingRun small h
  pub append_failed : WasRefused small h writer command.Commit (why.LogFault status)
  pub in_doubt : WasRefused small h writer (command.Put beside val) why.InDoubt
  pub is_down : WasRefused small h writer command.Commit (why.Down status 2)

-- ## a write that came between

-- a single write lists nothing; then a transaction writes there; then the single write is served
abbrev pub between : Commands
between = record {
  sessions = (record { session = 1; commands = command.Begin 0 ∷ command.Put place val ∷ [] })
      ∷ (record { session = 2; commands = command.SinglePut place other_val 0 ∷ [] }) ∷ [];
  order = 1 ∷ 1 ∷ 2 ∷ [];
  go = [];
}

abbrev pub listing_first : List (Actor × ℕ)
listing_first = (reader, 4) ∷ (writer, 13) ∷ (reader, 4) ∷ []

pub record ShowsComingBetween (h : History) : Type 0 where
  pub is_run : AgreeingRun small h
  pub conflicts : WasRefused small h reader (command.SinglePut place other_val 0) (why.Conflict x)
  pub came_between : CameBetween reader (earlier h) x

-- ## a load

-- the load of a restart fails, and a single write finds the tablet down; the simulation has no such fault, so this is
-- written entry by entry
abbrev pub load_fails : History
load_fails =
    entry writer None (Tell 2 (told.Refused (why.Down tablet 1)))
    ∷ exchange writer tablet None (request.ListWrite x doc) (reply.Refused (refusal.Down 1)) None Nothing
    (entry writer None (Start 2 (command.SinglePut place val 0))
    ∷ entry writer None (Tell 1 (told.Refused (why.LogFault tablet)))
    ∷ exchange writer tablet None request.Restart (reply.Refused refusal.LogFault) None Nothing
    (entry writer None (Start 1 (command.Restart tablet)) ∷ []))

pub record ShowsFailedLoad (h : History) : Type 0 where
  pub is_run : AgreeingRun small h
  pub load_failed : WasRefused small h writer (command.Restart tablet) (why.LogFault tablet)
  pub is_down : WasRefused small h writer (command.SinglePut place val 0) (why.Down tablet 1)
