-- Worked cases of schedules: a history made by hand is what the schedule says, and its reads are right, by computation.
use Rattle.std.specs.Prelude.{◌≡◌, ℕ, false, List, [], ◌∷◌, ◌++◌, Some, None, map, refl}
use Rattle.txn_data.specs.declared.actor.Actor.{Actor}
use Rattle.txn_data.specs.declared.actor.Actor.TheVariants.{Session, Applier}
use Rattle.txn_data.specs.declared.row.Row.{Row}
use Rattle.txn_data.specs.declared.command.Command.{Command}
use Rattle.txn_data.specs.declared.command.Command.TheVariants as command
use Rattle.txn_data.specs.declared.told.Told.TheVariants as told
use Rattle.txn_data.specs.declared.commands.Commands.{Commands}
use Rattle.txn_data.specs.declared.session_plan.SessionPlan.{SessionPlan}
use Rattle.txn_data.specs.declared.go_line.GoLine.{GoLine}
use Rattle.txn_data.specs.declared.mover.Mover.TheVariants as mover
use Rattle.txn_data.specs.declared.config.Config.{Config}
use Rattle.txn_data.specs.declared.schedule.Schedule.TheVariants.{Serial, Go}
use Rattle.txn_types.specs.History.{History}
use Rattle.txn_types.specs.Reads.{Read, reads, line_of, rows_asked, seen_by, final_time}
use Rattle.txn_types.specs.Script.{moves, moves_by, passes_at}
use Rattle.worked_cases.specs.Simulated.{told_in, by_turns, all_done, no_fault}
use Rattle.worked_cases.proofs.Cases.{one, at, doc, val, on, txn}
use Rattle.worked_cases.proofs.Tables.{tables}

-- the plan of some sessions, with the number of each line's session and the lines that move a mover
abbrev pub of_session : ℕ → List Command → SessionPlan
of_session i cs = record { session = i; commands = cs }

abbrev pub goes : ℕ → ℕ → GoLine
goes i n = record { who = mover.Session i; count = n }

-- the last pass over each of the tablets after everything else
abbrev pub last_passes : Config → List ℕ → History → History
last_passes config ks h = all_done config no_fault (map (λ k. (Applier k, command.Apply k)) ks) h

-- what the reads of a history told, and what they have to tell
abbrev rows_told : History → List (List Row)
rows_told h = map (λ (r : Read). r.rows) (reads h)

abbrev rows_due : Config → History → List (List Row)
rows_due config h = map (λ (r : Read). rows_asked (line_of config r) (seen_by config h r)) (reads h)

abbrev times_told : History → List ℕ
times_told h = map (λ (r : Read). r.at) (reads h)

abbrev times_due : Config → History → List ℕ
times_due config h = map (final_time config) (reads h)

-- a commit beside a status question: the commit is served first, and the read restarts at its time
abbrev pub go_one : Config
go_one = record one { schedule = Go }

abbrev beside : Commands
beside = record {
  sessions = of_session 1 (command.Begin 0 ∷ command.Put doc (val 1) ∷ command.Commit ∷ [])
      ∷ of_session 2 (command.Read false (doc ∷ []) ∷ []) ∷ [];
  order = 1 ∷ 1 ∷ 1 ∷ 2 ∷ [];
  go = goes 1 13 ∷ goes 2 5 ∷ goes 1 3 ∷ goes 2 1 ∷ [];
}

abbrev beside_run : History
beside_run = last_passes go_one (0 ∷ []) (by_turns go_one beside
    ((Session 1, 13) ∷ (Session 2, 5) ∷ (Session 1, 3) ∷ (Session 2, 1) ∷ (Session 1, 40) ∷ (Session 2, 40) ∷ []) [])

beside_told : told_in beside_run
    ≡ told.Began (txn 1 1) (at 0) ∷ told.Written (at 1) ∷ told.Committed (txn 1 1) (at 2)
    ∷ told.Values (at 2) 1 ((record { path = doc.path; value = Some (val 1) }) ∷ []) ∷ told.Passed 1 0 0 ∷ []
unfolding tables
beside_told = refl

beside_moves : moves beside_run ≡ moves_by Go go_one beside beside_run ++ passes_at go_one beside_run 1
unfolding tables
beside_moves = refl

beside_rows : rows_told beside_run ≡ rows_due go_one beside_run
unfolding tables
beside_rows = refl

beside_times : times_told beside_run ≡ times_due go_one beside_run
unfolding tables
beside_times = refl

-- with the question served first the commit has the same time, and the read does not see it
abbrev question : Commands
question = record beside { go = goes 1 13 ∷ goes 2 6 ∷ [] }

abbrev question_run : History
question_run = last_passes go_one (0 ∷ []) (by_turns go_one question
    ((Session 1, 13) ∷ (Session 2, 6) ∷ (Session 1, 40) ∷ (Session 2, 40) ∷ []) [])

question_told : told_in question_run
    ≡ told.Began (txn 1 1) (at 0) ∷ told.Written (at 1) ∷ told.Committed (txn 1 1) (at 2)
    ∷ told.Values (at 0) 0 ((record { path = doc.path; value = None }) ∷ []) ∷ told.Passed 1 0 0 ∷ []
unfolding tables
question_told = refl

question_rows : rows_told question_run ≡ rows_due go_one question_run
unfolding tables
question_rows = refl

-- three tablets: what the reader meets at one raises its time, and it visits all of them again
abbrev go_eight : Config
go_eight = record one { tablets = 8; schedule = Go }

abbrev three : Commands
three = record {
  sessions = of_session 1 (command.SinglePut (on 6 2) (val 5) 0 ∷ command.SinglePut (on 6 2) (val 6) 0 ∷ command.SinglePut (on 6 2) (val 7) 0 ∷ [])
      ∷ of_session 2 (command.Read false (on 0 1 ∷ on 6 2 ∷ on 7 3 ∷ []) ∷ [])
      ∷ of_session 3 (command.SinglePut (on 0 1) (val 9) 0 ∷ []) ∷ [];
  order = 1 ∷ 1 ∷ 1 ∷ 2 ∷ 3 ∷ [];
  go = goes 1 24 ∷ goes 2 7 ∷ goes 3 8 ∷ [];
}

abbrev three_run : History
three_run = last_passes go_eight (0 ∷ 1 ∷ 2 ∷ 3 ∷ 4 ∷ 5 ∷ 6 ∷ 7 ∷ []) (by_turns go_eight three
    ((Session 1, 24) ∷ (Session 2, 7) ∷ (Session 3, 8) ∷ (Session 1, 40) ∷ (Session 2, 60) ∷ (Session 3, 40) ∷ []) [])

three_rows : rows_told three_run
    ≡ ((record { path = (on 0 1).path; value = Some (val 9) }) ∷ (record { path = (on 6 2).path; value = Some (val 7) })
    ∷ (record { path = (on 7 3).path; value = None }) ∷ []) ∷ []
unfolding tables
three_rows = refl

three_due : rows_told three_run ≡ rows_due go_eight three_run
unfolding tables
three_due = refl

three_times : times_told three_run ≡ at 2 ∷ []
unfolding tables
three_times = refl

three_moves : moves three_run ≡ moves_by Go go_eight three three_run ++ passes_at go_eight three_run 1
unfolding tables
three_moves = refl

-- whole commands in line order
abbrev in_order : Commands
in_order = record {
  sessions = of_session 1 (command.Commit ∷ command.Commit ∷ []) ∷ of_session 2 (command.Begin 0 ∷ []) ∷ [];
  order = 1 ∷ 2 ∷ 1 ∷ [];
  go = [];
}

abbrev in_order_run : History
in_order_run = last_passes one (0 ∷ []) (all_done one no_fault
    ((Session 1, command.Commit) ∷ (Session 2, command.Begin 0) ∷ (Session 1, command.Commit) ∷ (Session 2, command.End) ∷ []) [])

abbrev in_order_list : List Actor
in_order_list = Session 1 ∷ Session 1 ∷ Session 2 ∷ Session 2 ∷ Session 2 ∷ Session 2 ∷ Session 2 ∷ Session 1 ∷ Session 1 ∷ Session 2 ∷ Session 2 ∷ Session 2 ∷ Session 2 ∷ Session 2 ∷ Applier 0 ∷ Applier 0 ∷ Applier 0 ∷ Applier 0 ∷ Applier 0 ∷ []

in_order_moves : moves in_order_run ≡ in_order_list
unfolding tables
in_order_moves = refl

in_order_serial : moves_by Serial one in_order in_order_run ++ passes_at one in_order_run 1 ≡ in_order_list
unfolding tables
in_order_serial = refl
