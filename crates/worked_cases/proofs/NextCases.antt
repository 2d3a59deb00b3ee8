-- Worked cases of what a mover does next, and of whether it has an event left.
use Rattle.std.proofs.Common.{◌≡◌, Bool, true, false, List, [], ◌∷◌, refl}
use Rattle.txn_data.specs.declared.actor.Actor.{Actor}
use Rattle.txn_data.specs.declared.actor.Actor.TheVariants.{Status, Session, Applier}
use Rattle.txn_data.specs.declared.command.Command.{Command}
use Rattle.txn_data.specs.declared.command.Command.TheVariants as command
use Rattle.txn_data.specs.declared.config.Config.{Config}
use Rattle.txn_data.specs.declared.isolation.Isolation.TheVariants.{Snapshot}
use Rattle.txn_data.specs.declared.reply.Reply.TheVariants as reply
use Rattle.txn_data.specs.declared.request.Request.TheVariants as request
use Rattle.txn_data.specs.declared.told.Told.TheVariants as told
use Rattle.txn_types.specs.History.{History}
use Rattle.txn_types.specs.Program as program
use Rattle.mover_chain.specs.NextEvent.{Given, NoneLeft, Starts, Served, Hears, Turns, next_event, has_event}
use Rattle.worked_cases.specs.Simulated.{all_done, no_fault, start, move}
use Rattle.worked_cases.proofs.Tables.{tables}
use Rattle.worked_cases.proofs.Cases.{one, at, doc, val, txn, says}
use Rattle.worked_cases.proofs.ScheduleCases.{of_session}
use Rattle.worked_cases.proofs.SettledCases.{left_run}

-- what one session was given, and whether that is all
abbrev given : List Command → Bool → Given
given cs all = record { sessions = of_session 1 cs ∷ []; all = all }

abbrev no_sessions : Bool → Given
no_sessions all = record { sessions = []; all = all }

abbrev begin : List Command
begin = command.Begin 0 ∷ []

-- the session's first command, whole
abbrev done : Command → History
done line = all_done one no_fault (says 1 line ∷ []) []

-- the same after so few of its events
abbrev begun : History
begun = start one (Session 1) (command.Begin 0) []

abbrev one_more : History → History
one_more h = move one no_fault (Session 1) h

abbrev with_pass : Config
with_pass = record one { passes = 1 }

abbrev s1 : Actor
s1 = Session 1

abbrev a0 : Actor
a0 = Applier 0

-- ## sessions between commands

-- a line is left, whether more come or not
line_left : next_event (given (command.Commit ∷ command.Begin 0 ∷ []) false) one s1 (done command.Commit) ≡ Starts (command.Begin 0)
unfolding tables
line_left = refl

line_left_of_all : next_event (given (command.Commit ∷ command.Begin 0 ∷ []) true) one s1 (done command.Commit) ≡ Starts (command.Begin 0)
unfolding tables
line_left_of_all = refl

-- all so far were told, and a transaction is open: it waits while more lines may come, and ends where none do
waits : next_event (given begin false) one s1 (done (command.Begin 0)) ≡ NoneLeft
unfolding tables
waits = refl

ends : next_event (given begin true) one s1 (done (command.Begin 0)) ≡ Starts command.End
unfolding tables
ends = refl

-- where none is open it is done
is_done : next_event (given (command.Commit ∷ []) true) one s1 (done command.Commit) ≡ NoneLeft
unfolding tables
is_done = refl

-- an End that was refused is not started again, though the transaction is still open
refused_end : next_event (given (command.Begin 0 ∷ command.Put doc (val 1) ∷ command.Commit ∷ []) true) one s1 left_run ≡ NoneLeft
unfolding tables
refused_end = refl

has_none_after : has_event (given (command.Begin 0 ∷ command.Put doc (val 1) ∷ command.Commit ∷ []) true) one s1 left_run ≡ false
unfolding tables
has_none_after = refl

-- a session that is not there
not_there : next_event (given begin true) one (Session 2) (done (command.Begin 0)) ≡ NoneLeft
unfolding tables
not_there = refl

-- ## a session with a command under way

wants_reading : next_event (given begin false) one s1 begun ≡ Turns program.Reading
unfolding tables
wants_reading = refl

is_served : next_event (given begin false) one s1 (one_more begun) ≡ Served (Status 0) (request.Begin (txn 1 1) Snapshot 0)
unfolding tables
is_served = refl

hears : next_event (given begin false) one s1 (one_more (one_more begun)) ≡ Hears (Status 0) reply.Begun
unfolding tables
hears = refl

tells : next_event (given begin false) one s1 (one_more (one_more (one_more begun))) ≡ Turns (program.Tell (told.Began (txn 1 1) (at 0)))
unfolding tables
tells = refl

has_more : has_event (given begin false) one s1 (one_more begun) ≡ true
unfolding tables
has_more = refl

-- ## appliers

-- with no passes beside the sessions, the last one starts once these are done, and is not counted
before_done : next_event (given begin true) one a0 (done (command.Begin 0)) ≡ NoneLeft
unfolding tables
before_done = refl

last_pass : next_event (given (command.Commit ∷ []) true) one a0 (done command.Commit) ≡ Starts (command.Apply 0)
unfolding tables
last_pass = refl

last_not_counted : has_event (given (command.Commit ∷ []) true) one a0 (done command.Commit) ≡ false
unfolding tables
last_not_counted = refl

-- while more lines may come they are not done
more_may_come : next_event (given (command.Commit ∷ []) false) one a0 (done command.Commit) ≡ NoneLeft
unfolding tables
more_may_come = refl

-- a pass beside the sessions starts at once, and is counted
beside_sessions : next_event (given begin true) with_pass a0 (done (command.Begin 0)) ≡ Starts (command.Apply 0)
unfolding tables
beside_sessions = refl

beside_counted : has_event (given begin true) with_pass a0 (done (command.Begin 0)) ≡ true
unfolding tables
beside_counted = refl

-- once the last pass began no more start
after_last : next_event (given (command.Commit ∷ []) true) one a0 (all_done one no_fault (says 1 command.Commit ∷ (a0, command.Apply 0) ∷ []) []) ≡ NoneLeft
unfolding tables
after_last = refl

-- no sessions: none while some may come, else the last pass
no_sessions_yet : next_event (no_sessions false) one a0 [] ≡ NoneLeft
unfolding tables
no_sessions_yet = refl

no_sessions_at_all : next_event (no_sessions true) one a0 [] ≡ Starts (command.Apply 0)
unfolding tables
no_sessions_at_all = refl

-- an applier past the tablets
past_tablets : next_event (no_sessions true) one (Applier 1) [] ≡ NoneLeft
unfolding tables
past_tablets = refl
