-- Worked cases of the drawn and the serial schedule and of the readings: the order of the moves is worked by hand.
use Rattle.std.proofs.Common.{◌≡◌, ℕ, ◌+◌, ◌*◌, false, List, [], ◌∷◌, ◌++◌, Some, None, map, replicate, refl, nat_eq}
use Rattle.std.proofs.lemmas.Bool.{eq-eqb}
use Rattle.txn_data.specs.declared.actor.Actor.{Actor}
use Rattle.txn_data.specs.declared.actor.Actor.TheVariants.{Tablet, Session, Applier}
use Rattle.txn_data.specs.declared.command.Command.{Command}
use Rattle.txn_data.specs.declared.command.Command.TheVariants as command
use Rattle.txn_data.specs.declared.event.Event.TheVariants.{Ask}
use Rattle.txn_data.specs.declared.request.Request.TheVariants as request
use Rattle.txn_data.specs.declared.told.Told.TheVariants as told
use Rattle.txn_data.specs.declared.commands.Commands.{Commands}
use Rattle.txn_data.specs.declared.config.Config.{Config}
use Rattle.txn_data.specs.declared.schedule.Schedule.TheVariants.{Drawn}
use Rattle.txn_types.specs.History.{History}
use Rattle.txn_types.specs.Script.{Scheduled, ReadingsAsTold, moves, moves_by, passes_at}
use Rattle.worked_cases.specs.Simulated.{entry, told_in, by_turns, all_done, no_fault}
use Rattle.worked_cases.proofs.Tables.{tables}
use Rattle.worked_cases.proofs.Scheduled.{as_told, by_schedule}
use Rattle.worked_cases.proofs.Cases.{one, at, doc, val, on, txn}
use Rattle.worked_cases.proofs.ScheduleCases.{of_session, goes, last_passes, go_one}

differ : (a b : ℕ) → nat_eq a b ≡ false → a ≡ b → ⊥
differ a b is same = let equal = eq-eqb a b same in cc

-- ## three movers drawn with the number 7

abbrev drawn_one : Config
drawn_one = record one { schedule = Drawn; number = 7; passes = 1 }

-- session 1 begins, and ends with its transaction open: 10 events. Session 2 writes singly: 8 events. The pass finds
-- nothing: 5 events.
abbrev drawn : Commands
drawn = record {
  sessions = of_session 1 (command.Begin 0 ∷ []) ∷ of_session 2 (command.SinglePut doc (val 1) 0 ∷ []) ∷ [];
  order = 1 ∷ 2 ∷ [];
  go = [];
}

abbrev s1 : Actor
s1 = Session 1

abbrev s2 : Actor
s2 = Session 2

abbrev a0 : Actor
a0 = Applier 0

-- the first draws are 2118330556, 4104526463, 3893713506, 1171437346 and 1144091090; modulo 3 they are 1, 2, 0, 1 and 2.
-- After the ninth the applier has no event left, after the seventeenth session 2 has none.
abbrev by_draws : List Actor
by_draws =
    s2 ∷ a0 ∷ s1 ∷ s2 ∷ a0 ∷ a0 ∷ a0 ∷ s1 ∷ a0 ∷ s2 ∷ s2 ∷ s1 ∷ s2 ∷ s2 ∷ s2 ∷ s1 ∷ s2 ∷ s1 ∷ s1 ∷ s1 ∷ s1 ∷ s1 ∷ s1 ∷ []

abbrev drawn_run : History
drawn_run = last_passes drawn_one (0 ∷ []) (by_turns drawn_one drawn (map (λ a. (a, 1)) by_draws) [])

drawn_told : told_in drawn_run
    ≡ told.Passed 0 0 0 ∷ told.Committed (txn 2 1) (at 0) ∷ told.Began (txn 1 1) (at 0) ∷ told.Ended (txn 1 1) ∷ told.Passed 0 0 0 ∷ []
unfolding tables
drawn_told = refl

drawn_moves : moves drawn_run ≡ by_draws ++ replicate 5 a0
unfolding tables
drawn_moves = refl

drawn_by : moves_by drawn_one.schedule drawn_one drawn drawn_run ≡ by_draws
unfolding tables
drawn_by = refl

drawn_last : passes_at drawn_one drawn_run (drawn_one.passes + 1) ≡ replicate 5 a0
unfolding tables
drawn_last = refl

drawn_readings : ReadingsAsTold drawn_one drawn_run
unfolding tables
drawn_readings = as_told drawn_one drawn_run refl

drawn_scheduled : Scheduled drawn_one drawn drawn_run
drawn_scheduled = record { order = by_schedule drawn_moves drawn_by drawn_last; readings = drawn_readings }

-- ## two rounds of passes over two tablets, in the serial schedule

abbrev two_rounds : Config
two_rounds = record one { tablets = 2; passes = 2 }

abbrev writing : Commands
writing = record {
  sessions = of_session 1 (command.Begin 0 ∷ command.Put (on 1 98) (val 1) ∷ command.Commit ∷ []) ∷ [];
  order = 1 ∷ 1 ∷ 1 ∷ [];
  go = [];
}

abbrev a1 : Actor
a1 = Applier 1

abbrev passing : List (Actor × Command)
passing = (a0, command.Apply 0) ∷ (a1, command.Apply 1) ∷ []

abbrev two_rounds_run : History
two_rounds_run =
    all_done two_rounds no_fault ((s1, command.Begin 0) ∷ (s1, command.Put (on 1 98) (val 1)) ∷ (s1, command.Commit) ∷ (passing ++ passing ++ passing)) []

-- 5 events of the begin, 8 of the put and 5 of the commit; a pass that finds nothing has 5, and one that applies a transaction
-- has 14
abbrev by_rounds : List Actor
by_rounds = replicate 18 s1 ++ replicate 5 a0 ++ replicate 14 a1 ++ replicate 5 a0 ++ replicate 5 a1

two_rounds_told : told_in two_rounds_run
    ≡ told.Began (txn 1 1) (at 0) ∷ told.Written (at 1) ∷ told.Committed (txn 1 1) (at 2) ∷ told.Passed 0 0 0 ∷ told.Passed 1 0 0
    ∷ told.Passed 0 0 0 ∷ told.Passed 0 0 0 ∷ told.Passed 0 0 0 ∷ told.Passed 0 0 0 ∷ []
unfolding tables
two_rounds_told = refl

two_rounds_moves : moves two_rounds_run ≡ by_rounds ++ (replicate 5 a0 ++ replicate 5 a1)
unfolding tables
two_rounds_moves = refl

two_rounds_by : moves_by two_rounds.schedule two_rounds writing two_rounds_run ≡ by_rounds
unfolding tables
two_rounds_by = refl

two_rounds_last : passes_at two_rounds two_rounds_run (two_rounds.passes + 1) ≡ replicate 5 a0 ++ replicate 5 a1
unfolding tables
two_rounds_last = refl

two_rounds_readings : ReadingsAsTold two_rounds two_rounds_run
unfolding tables
two_rounds_readings = as_told two_rounds two_rounds_run refl

two_rounds_scheduled : Scheduled two_rounds writing two_rounds_run
two_rounds_scheduled = record { order = by_schedule two_rounds_moves two_rounds_by two_rounds_last; readings = two_rounds_readings }

-- ## a clock between the start of another session's read and its first request

abbrev clock_within : Commands
clock_within = record {
  sessions = of_session 1 (command.Clock 0 2000000 ∷ []) ∷ of_session 2 (command.Read false (doc ∷ []) ∷ []) ∷ [];
  order = 1 ∷ 2 ∷ [];
  go = goes 2 1 ∷ goes 1 2 ∷ goes 2 40 ∷ [];
}

abbrev clock_run : History
clock_run = last_passes go_one (0 ∷ []) (by_turns go_one clock_within ((s2, 1) ∷ (s1, 2) ∷ (s2, 7) ∷ []) [])

-- the read is at the time of the later reading
clock_told : told_in clock_run
    ≡ told.Set ∷ told.Values (2000000 * 4096) 0 ((record { path = doc.path; value = None }) ∷ []) ∷ told.Passed 0 0 0 ∷ []
unfolding tables
clock_told = refl

clock_moves : moves clock_run ≡ (s2 ∷ s1 ∷ s1 ∷ replicate 7 s2) ++ replicate 5 a0
unfolding tables
clock_moves = refl

clock_by : moves_by go_one.schedule go_one clock_within clock_run ≡ s2 ∷ s1 ∷ s1 ∷ replicate 7 s2
unfolding tables
clock_by = refl

clock_last : passes_at go_one clock_run (go_one.passes + 1) ≡ replicate 5 a0
unfolding tables
clock_last = refl

clock_readings : ReadingsAsTold go_one clock_run
unfolding tables
clock_readings = as_told go_one clock_run refl

clock_scheduled : Scheduled go_one clock_within clock_run
clock_scheduled = record { order = by_schedule clock_moves clock_by clock_last; readings = clock_readings }

-- the reading before the clock stands in the first request of the read: that is not as it was told
abbrev early_request : History
early_request =
    entry s2 (Some 1000000) (Ask (Tablet 0) (request.ListRead None (doc.path ∷ []) (at 0) (1500000 * 4096 + 4095) None))
    ∷ by_turns go_one clock_within ((s2, 1) ∷ (s1, 2) ∷ []) []

early_reading : ReadingsAsTold go_one early_request → ⊥
unfolding tables ReadingsAsTold
early_reading told = differ 1000000 2000000 refl told.1

-- ## a pass between a read's question for a fate and its Collect

abbrev during : Commands
during = record {
  sessions = of_session 1 (command.Begin 0 ∷ command.Put doc (val 1) ∷ command.Commit ∷ command.Read false (doc ∷ []) ∷ [])
      ∷ of_session 2 (command.Apply 0 ∷ []) ∷ [];
  order = 1 ∷ 1 ∷ 1 ∷ 1 ∷ 2 ∷ [];
  go = goes 1 18 ∷ goes 1 7 ∷ goes 2 9 ∷ goes 1 4 ∷ [];
}

abbrev during_run : History
during_run = last_passes go_one (0 ∷ []) (by_turns go_one during ((s1, 18) ∷ (s1, 7) ∷ (s2, 9) ∷ (s1, 4) ∷ (s2, 5) ∷ []) [])

during_told : told_in during_run
    ≡ told.Began (txn 1 1) (at 0) ∷ told.Written (at 1) ∷ told.Committed (txn 1 1) (at 2)
    ∷ told.Values (at 2) 0 ((record { path = doc.path; value = Some (val 1) }) ∷ []) ∷ told.Passed 1 0 0 ∷ told.Passed 0 0 0 ∷ []
unfolding tables
during_told = refl

during_moves : moves during_run ≡ (replicate 25 s1 ++ replicate 9 s2 ++ replicate 4 s1 ++ replicate 5 s2) ++ replicate 5 a0
unfolding tables
during_moves = refl

during_by : moves_by go_one.schedule go_one during during_run ≡ replicate 25 s1 ++ replicate 9 s2 ++ replicate 4 s1 ++ replicate 5 s2
unfolding tables
during_by = refl
