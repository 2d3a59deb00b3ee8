-- Scripts of small clusters, and the runs that come of them: each command is told before the next one starts.
use Rattle.std.specs.Prelude.{ℕ, true, false, List, [], ◌∷◌, Some}
use Rattle.txn_data.specs.declared.actor.Actor.{Actor}
use Rattle.txn_data.specs.declared.actor.Actor.TheVariants.{Status, Session}
use Rattle.txn_data.specs.declared.command.Command.{Command}
use Rattle.txn_data.specs.declared.command.Command.TheVariants as command
use Rattle.txn_data.specs.declared.commands.Commands.{Commands}
use Rattle.txn_data.specs.declared.config.Config.{Config}
use Rattle.txn_data.specs.declared.place.Place.{Place}
use Rattle.txn_data.specs.declared.row.Row.{Row}
use Rattle.txn_types.specs.History.{History}
use Rattle.worked_cases.specs.Simulated.{Fault, no_fault, all_done}
use Rattle.law_witness.specs.Witness.{small, place, val, writer, reader, applier}

abbrev pub Script : Type 0
Script = List (Actor × Command)

-- no append fails
abbrev pub run_of : Config → Script → History
run_of config script = all_done config no_fault script []

-- ## clusters, places and sessions

-- two nodes, the second with this first reading; the status tablet and tablet 1 are on the second
abbrev pub two_nodes : ℕ → Config
two_nodes second = record small { nodes = 2; start_us = 1000000 ∷ second ∷ [] }

abbrev pub two_tablets : Config
two_tablets = record small { tablets = 2 }

-- the document at another tablet, another document there, and one more beside the first
abbrev pub misplaced : Place
misplaced = record { tablet = 1; path = place.path }

abbrev pub far : Place
far = record { tablet = 1; path = (98 ∷ []) ∷ [] }

abbrev pub beside : Place
beside = record { tablet = 0; path = (98 ∷ []) ∷ [] }

abbrev pub other_val : List ℕ
other_val = 2 ∷ []

-- two sessions on the first node
abbrev pub first : Actor
first = Session 2

abbrev pub second : Actor
second = Session 4

-- the writer and the reader write one place each, in transactions that are open together
abbrev pub write_together : Place → Place → Script
write_together p q =
    (writer, command.Begin 0) ∷ (reader, command.Begin 0) ∷ (writer, command.Put p val) ∷ (reader, command.Put q val)
    ∷ (writer, command.Commit) ∷ (reader, command.Commit) ∷ []

-- the two write one place each by itself
abbrev pub write_singly : Place → Place → Script
write_singly p q = (writer, command.SinglePut p val 0) ∷ (reader, command.SinglePut q val 0) ∷ []

-- ## where a premise is missing

-- the clock of the status tablet is 600,000 microseconds ahead, more than the skew: the read is told nothing
abbrev pub beyond_skew : Config
beyond_skew = two_nodes 1600000

abbrev pub beyond_skew_script : Script
beyond_skew_script =
    (first, command.Begin 0) ∷ (first, command.Put place val) ∷ (first, command.Commit)
    ∷ (second, command.Read false (place ∷ [])) ∷ []

-- the document is written at one tablet, and then at another; it is read at the first
abbrev pub two_homes_script : Script
two_homes_script =
    (writer, command.SinglePut place val 0) ∷ (writer, command.SinglePut misplaced other_val 0)
    ∷ (writer, command.Read false (place ∷ [])) ∷ []

-- it is written at a tablet whose clock is ahead, within the skew; it is read at another
abbrev pub within_skew : Config
within_skew = record (two_nodes 1400000) { tablets = 2 }

abbrev pub read_elsewhere : Script
read_elsewhere = (first, command.SinglePut misplaced val 0) ∷ (second, command.Read false (place ∷ [])) ∷ []

-- another document is written there
abbrev pub read_unrelated : Script
read_unrelated = (first, command.SinglePut far val 0) ∷ (second, command.Read false (place ∷ [])) ∷ []

-- it is written at two tablets, singly and in transactions
abbrev pub singles_at_two : Script
singles_at_two = write_singly place misplaced

abbrev pub writers_at_two : Script
writers_at_two = write_together place misplaced

-- a read asks for the fate of the transaction before it commits; it is told after the commit was
abbrev pub read_beside : Commands
read_beside = record {
  sessions = (record { session = 1; commands = command.Begin 0 ∷ command.Put place val ∷ command.Commit ∷ [] })
      ∷ (record { session = 2; commands = command.Read false (place ∷ []) ∷ [] }) ∷ [];
  order = 1 ∷ 1 ∷ 1 ∷ 2 ∷ [];
  go = [];
}

abbrev pub question_first : List (Actor × ℕ)
question_first = (writer, 13) ∷ (reader, 6) ∷ (writer, 5) ∷ (reader, 5) ∷ []

-- the document is written by a transaction, and then singly
abbrev pub single_after : Script
single_after =
    (writer, command.Begin 0) ∷ (writer, command.Put place val) ∷ (writer, command.Commit)
    ∷ (reader, command.SinglePut place val 0) ∷ []

-- two documents are written, singly and in transactions
abbrev pub unrelated_singles : Script
unrelated_singles = write_singly place far

abbrev pub unrelated_writers : Script
unrelated_writers = write_together place beside

-- ## where all premises hold

-- the second append of the status tablet fails, which is that of the commit, and the restart keeps it
abbrev pub kept : Fault
kept = record { actor = Status 0; number = 2; kept = true }

abbrev pub commit_again : Script
commit_again =
    (writer, command.Begin 0) ∷ (writer, command.Put place val) ∷ (writer, command.Commit)
    ∷ (reader, command.Restart (Status 0)) ∷ (writer, command.Commit) ∷ []

-- a transaction reads the document that it wrote, and one that was written before it began
abbrev pub read_own : Script
read_own =
    (writer, command.SinglePut beside other_val 0) ∷ (writer, command.Begin 0) ∷ (writer, command.Put place val)
    ∷ (writer, command.Read false (place ∷ beside ∷ [])) ∷ []

-- a read goes to two tablets; at the second it meets what was written there last
abbrev pub read_both : Script
read_both =
    (writer, command.SinglePut place val 0) ∷ (writer, command.SinglePut far other_val 0)
    ∷ (reader, command.Read false (place ∷ far ∷ [])) ∷ []

-- the second append of the status tablet fails, and the restart loses it; the session could not end, so its write is left
abbrev pub lost : Fault
lost = record kept { kept = false }

abbrev pub end_refused : Script
end_refused =
    (writer, command.Begin 0) ∷ (writer, command.Put place val) ∷ (writer, command.Commit) ∷ (writer, command.End)
    ∷ (reader, command.Restart (Status 0)) ∷ (applier, command.Apply 0) ∷ []

-- a plan of one session, which leaves a transaction open; so the session ends, and the last pass cleans its write
abbrev pub one_session : Commands
one_session = record {
  sessions = (record { session = 1; commands = command.Begin 0 ∷ command.Put place val ∷ [] }) ∷ [];
  order = 1 ∷ 1 ∷ [];
  go = [];
}

abbrev pub in_order : Script
in_order =
    (writer, command.Begin 0) ∷ (writer, command.Put place val) ∷ (writer, command.End) ∷ (applier, command.Apply 0) ∷ []

-- what the reads inside a transaction and over two tablets show
abbrev pub row : Place → List ℕ → Row
row p v = record { path = p.path; value = Some v }

abbrev pub rows_inside : List Row
rows_inside = row place val ∷ row beside other_val ∷ []

abbrev pub rows_of_two : List Row
rows_of_two = row place val ∷ row far other_val ∷ []
