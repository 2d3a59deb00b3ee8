-- Worked cases: what the tables tell for small scripts, by computation.
use Rattle.std.specs.Prelude.{◌≡◌, ℕ, ◌+◌, ◌*◌, ◌^◌, false, true, List, [], ◌∷◌, Some, None, refl}
use Rattle.txn_data.specs.declared.actor.Actor.{Actor}
use Rattle.txn_data.specs.declared.actor.Actor.TheVariants.{Tablet, Status, Session, Applier}
use Rattle.txn_data.specs.declared.place.Place.{Place}
use Rattle.txn_data.specs.declared.command.Command.{Command}
use Rattle.txn_data.specs.declared.command.Command.TheVariants as command
use Rattle.txn_data.specs.declared.told.Told.TheVariants as told
use Rattle.txn_data.specs.declared.told_refusal.ToldRefusal.TheVariants as why
use Rattle.txn_data.specs.declared.config.Config.{Config}
use Rattle.txn_data.specs.declared.schedule.Schedule.TheVariants.{Serial}
use Rattle.worked_cases.specs.Simulated.{told_by, told_in, all_done}
use Rattle.worked_cases.proofs.Tables.{tables}

-- a cluster of one node, one tablet and one status tablet, whose clock stands at 1,000,000 microseconds
abbrev pub one : Config
one = record {
  nodes = 1;
  tablets = 1;
  status = 1;
  passes = 0;
  skew_us = 500000;
  lease_us = 2000000;
  number = 0;
  start_us = 1000000 ∷ [];
  schedule = Serial;
}

-- the time 1000000.k
abbrev pub at : ℕ → ℕ
at k = 1000000 * 4096 + k

-- the document "a", its subkeys, and values
abbrev pub doc : Place
doc = record { tablet = 0; path = (97 ∷ []) ∷ [] }

abbrev pub under_doc : ℕ → Place
under_doc k = record { tablet = 0; path = (97 ∷ []) ∷ (k ∷ []) ∷ [] }

abbrev pub val : ℕ → List ℕ
val n = n ∷ []

abbrev pub says : ℕ → Command → Actor × Command
says i line = (Session i, line)

abbrev pub txn : ℕ → ℕ → ℕ
txn i n = i * 2 ^ 64 + n

abbrev pub other : Place
other = record { tablet = 0; path = (98 ∷ []) ∷ [] }

abbrev pub on : ℕ → ℕ → Place
on k b = record { tablet = k; path = (b ∷ []) ∷ [] }

abbrev pub too_high : Config
too_high = record one { start_us = 4000000000000001 ∷ [] }

abbrev pub two_nodes : ℕ → Config
two_nodes second = record one { nodes = 2; start_us = 1000000 ∷ second ∷ [] }

abbrev pub eight : Config
eight = record one { tablets = 8; status = 2 }

-- two single writes and a read
two_singles : told_by one (
    says 1 (command.SinglePut doc (val 1) 0) ∷ says 1 (command.SinglePut doc (val 2) 0)
    ∷ says 1 (command.Read false (doc ∷ [])) ∷ [])
    ≡ told.Committed (txn 1 1) (at 0) ∷ told.Committed (txn 1 2) (at 1)
    ∷ told.Values (at 1) 0 ((record { path = doc.path; value = Some (val 2) }) ∷ []) ∷ []
unfolding tables
two_singles = refl

-- a put hides what is beneath it, and a delete hides the path too; a scan shows what is left
scans_hide : told_by one (
    says 1 (command.SinglePut (under_doc 1) (val 5) 0) ∷ says 1 (command.SinglePut doc (val 7) 0) ∷ says 1 (command.Scan false doc) ∷ says 1 (command.SingleDel doc 0) ∷ says 1 (command.SinglePut (under_doc 2) (val 9) 0) ∷ says 1 (command.Scan false doc) ∷ [])
    ≡ told.Committed (txn 1 1) (at 0) ∷ told.Committed (txn 1 2) (at 1) ∷ told.Values (at 1) 0 ((record { path = doc.path; value = Some (val 7) }) ∷ []) ∷ told.Committed (txn 1 3) (at 2) ∷ told.Committed (txn 1 4) (at 3) ∷ told.Values (at 3) 0 ((record { path = (under_doc 2).path; value = Some (val 9) }) ∷ []) ∷ []
unfolding tables
scans_hide = refl

-- two transactions write siblings and both commit
siblings : told_by one (
    says 1 (command.Begin 0) ∷ says 2 (command.Begin 0) ∷ says 1 (command.Put (under_doc 1) (val 1)) ∷ says 2 (command.Put (under_doc 2) (val 2)) ∷ says 1 command.Commit ∷ says 2 command.Commit ∷ (Applier 0, command.Apply 0) ∷ [])
    ≡ told.Began (txn 1 1) (at 0) ∷ told.Began (txn 2 1) (at 0) ∷ told.Written (at 1) ∷ told.Written (at 2) ∷ told.Committed (txn 1 1) (at 2) ∷ told.Committed (txn 2 1) (at 3) ∷ told.Passed 2 0 0 ∷ []
unfolding tables
siblings = refl

-- the higher priority aborts the other, which finds it out at its commit
higher_priority : told_by one (
    says 1 (command.Begin 5) ∷ says 2 (command.Begin 9) ∷ says 1 (command.Put (under_doc 1) (val 1)) ∷ says 2 (command.Del doc) ∷ says 1 command.Commit ∷ says 2 command.Commit ∷ (Applier 0, command.Apply 0) ∷ [])
    ≡ told.Began (txn 1 1) (at 0) ∷ told.Began (txn 2 1) (at 0) ∷ told.Written (at 1) ∷ told.Written (at 2) ∷ told.Refused (why.Aborted (txn 2 1)) ∷ told.Committed (txn 2 1) (at 3) ∷ told.Passed 1 1 0 ∷ []
unfolding tables
higher_priority = refl

-- an equal priority conflicts, and ends the transaction
equal_priority : told_by one (
    says 1 (command.Begin 0) ∷ says 2 (command.Begin 0) ∷ says 1 (command.Put doc (val 1)) ∷ says 2 (command.Put doc (val 2)) ∷ says 2 command.Commit ∷ says 1 command.Commit ∷ (Applier 0, command.Apply 0) ∷ [])
    ≡ told.Began (txn 1 1) (at 0) ∷ told.Began (txn 2 1) (at 0) ∷ told.Written (at 1) ∷ told.Refused (why.Conflict (txn 1 1)) ∷ told.Refused (why.NoTxn) ∷ told.Committed (txn 1 1) (at 2) ∷ told.Passed 1 0 0 ∷ []
unfolding tables
equal_priority = refl

-- a write above the read time by one step of the counter overlaps
overlap_by_one_step : told_by one (
    says 1 (command.Begin 0) ∷ says 2 (command.SinglePut doc (val 5) 0) ∷ says 2 (command.SinglePut other (val 6) 0) ∷ says 1 (command.Put doc (val 1)) ∷ says 1 (command.Put other (val 1)) ∷ (Applier 0, command.Apply 0) ∷ [])
    ≡ told.Began (txn 1 1) (at 0) ∷ told.Committed (txn 2 1) (at 0) ∷ told.Committed (txn 2 2) (at 1) ∷ told.Written (at 2) ∷ told.Refused (why.Overlap (at 1)) ∷ told.Passed 0 1 0 ∷ []
unfolding tables
overlap_by_one_step = refl

-- a read before the pass finds the commit through the status tablet, and one after it the version
before_and_after_apply : told_by one (
    says 1 (command.Begin 0) ∷ says 1 (command.Put doc (val 1)) ∷ says 1 command.Commit ∷ says 1 (command.Read false (doc ∷ [])) ∷ says 1 (command.Apply 0) ∷ says 1 (command.Read false (doc ∷ [])) ∷ [])
    ≡ told.Began (txn 1 1) (at 0) ∷ told.Written (at 1) ∷ told.Committed (txn 1 1) (at 2) ∷ told.Values (at 2) 0 ((record { path = doc.path; value = Some (val 1) }) ∷ []) ∷ told.Passed 1 0 0 ∷ told.Values (at 2) 0 ((record { path = doc.path; value = Some (val 1) }) ∷ []) ∷ []
unfolding tables
before_and_after_apply = refl

-- a transaction reads and scans its own writes over what is committed
own_writes : told_by one (
    says 1 (command.Begin 0) ∷ says 1 (command.Put (under_doc 1) (val 1)) ∷ says 1 (command.Read false ((under_doc 1) ∷ (under_doc 2) ∷ [])) ∷ says 1 (command.Del doc) ∷ says 1 (command.Scan false doc) ∷ says 1 command.End ∷ (Applier 0, command.Apply 0) ∷ [])
    ≡ told.Began (txn 1 1) (at 0) ∷ told.Written (at 1) ∷ told.Values (at 0) 0 ((record { path = (under_doc 1).path; value = Some (val 1) }) ∷ (record { path = (under_doc 2).path; value = None }) ∷ []) ∷ told.Written (at 2) ∷ told.Values (at 0) 0 ([]) ∷ told.Ended (txn 1 1) ∷ told.Passed 0 1 0 ∷ []
unfolding tables
own_writes = refl

-- a read that has to restart inside a transaction that wrote is told so, and the transaction commits
window_inside : told_by one (
    says 1 (command.Begin 0) ∷ says 1 (command.Put other (val 1)) ∷ says 2 (command.SinglePut doc (val 5) 0) ∷ says 1 (command.Read false (doc ∷ [])) ∷ says 1 command.Commit ∷ [])
    ≡ told.Began (txn 1 1) (at 0) ∷ told.Written (at 1) ∷ told.Committed (txn 2 1) (at 2) ∷ told.Refused (why.Restart (at 2) doc.path) ∷ told.Committed (txn 1 1) (at 2) ∷ []
unfolding tables
window_inside = refl

-- what was committed in the window makes a read restart, and is told to a strict one
restart_and_strict : told_by one (
    says 1 (command.SinglePut doc (val 1) 0) ∷ says 1 (command.SinglePut doc (val 2) 0) ∷ says 2 (command.Read false (doc ∷ [])) ∷ says 3 (command.Read true (doc ∷ [])) ∷ [])
    ≡ told.Committed (txn 1 1) (at 0) ∷ told.Committed (txn 1 2) (at 1) ∷ told.Values (at 1) 1 ((record { path = doc.path; value = Some (val 2) }) ∷ []) ∷ told.Refused (why.Restart (at 1) doc.path) ∷ []
unfolding tables
restart_and_strict = refl

-- a command that needs a transaction, or none
misuse : told_by one (
    says 1 (command.Put doc (val 1)) ∷ says 1 (command.Begin 0) ∷ says 1 (command.Begin 0) ∷ says 1 (command.SinglePut doc (val 1) 0) ∷ says 1 command.Abort ∷ [])
    ≡ told.Refused (why.NoTxn) ∷ told.Began (txn 1 1) (at 0) ∷ told.Refused (why.TxnOpen) ∷ told.Refused (why.TxnOpen) ∷ told.Ended (txn 1 1) ∷ []
unfolding tables
misuse = refl

-- after a restart the lease holds until the reading is above its end
lease : told_by one (
    says 1 (command.SinglePut doc (val 1) 0) ∷ says 1 (command.Restart (Tablet 0)) ∷ says 1 (command.Clock 0 3000000) ∷ says 1 (command.SinglePut doc (val 2) 0) ∷ says 1 (command.Clock 0 3000001) ∷ says 1 (command.SinglePut doc (val 3) 0) ∷ [])
    ≡ told.Committed (txn 1 1) (at 0) ∷ told.Restarted false ∷ told.Set ∷ told.Refused (why.LeaseHeld (Tablet 0) 3000000) ∷ told.Set ∷ told.Committed (txn 1 3) (3000001 * 4096) ∷ []
unfolding tables
lease = refl

-- a reading above the greatest is refused by the session and by the tablet
readings_too_high : told_by too_high (
    says 1 (command.Begin 0) ∷ says 1 (command.SinglePut doc (val 1) 0) ∷ [])
    ≡ told.Refused (why.ClockRange (Session 1) 4000000000000001) ∷ told.Refused (why.ClockRange (Tablet 0) 4000000000000001) ∷ []
unfolding tables
readings_too_high = refl

-- a commit by a status tablet whose clock is ahead, within the skew: the read restarts at its time
fast_status_tablet : told_by (two_nodes 1400000) (
    says 2 (command.Begin 0) ∷ says 2 (command.Put doc (val 1)) ∷ says 2 command.Commit ∷ says 4 (command.Read false (doc ∷ [])) ∷ (Applier 0, command.Apply 0) ∷ [])
    ≡ told.Began (txn 2 1) (at 0) ∷ told.Written (at 1) ∷ told.Committed (txn 2 1) (1400000 * 4096) ∷ told.Values (1400000 * 4096) 1 ((record { path = doc.path; value = Some (val 1) }) ∷ []) ∷ told.Passed 1 0 0 ∷ []
unfolding tables
fast_status_tablet = refl

-- beyond the skew the read does not see it
too_fast_status_tablet : told_by (two_nodes 1600000) (
    says 2 (command.Begin 0) ∷ says 2 (command.Put doc (val 1)) ∷ says 2 command.Commit ∷ says 4 (command.Read false (doc ∷ [])) ∷ [])
    ≡ told.Began (txn 2 1) (at 0) ∷ told.Written (at 1) ∷ told.Committed (txn 2 1) (1600000 * 4096) ∷ told.Values (at 0) 0 ((record { path = doc.path; value = None }) ∷ []) ∷ []
unfolding tables
too_fast_status_tablet = refl

-- a read that must not restart is told what it met
fast_and_strict : told_by (two_nodes 1400000) (
    says 2 (command.Begin 0) ∷ says 2 (command.Put doc (val 1)) ∷ says 2 command.Commit ∷ says 4 (command.Read true (doc ∷ [])) ∷ [])
    ≡ told.Began (txn 2 1) (at 0) ∷ told.Written (at 1) ∷ told.Committed (txn 2 1) (1400000 * 4096) ∷ told.Refused (why.Restart (1400000 * 4096) doc.path) ∷ []
unfolding tables
fast_and_strict = refl

-- a transaction over two tablets
two_tablets : told_by eight (
    says 1 (command.Begin 0) ∷ says 1 (command.Put (on 2 1) (val 1)) ∷ says 1 (command.Put (on 5 2) (val 2)) ∷ says 1 (command.Read false ((on 5 2) ∷ (on 2 1) ∷ [])) ∷ says 1 command.Commit ∷ says 1 (command.Read false ((on 5 2) ∷ (on 2 1) ∷ (on 5 3) ∷ [])) ∷ (Applier 5, command.Apply 5) ∷ says 1 (command.Read false ((on 5 2) ∷ (on 2 1) ∷ [])) ∷ [])
    ≡ told.Began (txn 1 1) (at 0) ∷ told.Written (at 1) ∷ told.Written (at 2) ∷ told.Values (at 0) 0 ((record { path = (on 5 2).path; value = Some (val 2) }) ∷ (record { path = (on 2 1).path; value = Some (val 1) }) ∷ []) ∷ told.Committed (txn 1 1) (at 3) ∷ told.Values (at 3) 0 ((record { path = (on 5 2).path; value = Some (val 2) }) ∷ (record { path = (on 2 1).path; value = Some (val 1) }) ∷ (record { path = (on 5 3).path; value = None }) ∷ []) ∷ told.Passed 1 0 0 ∷ told.Values (at 3) 0 ((record { path = (on 5 2).path; value = Some (val 2) }) ∷ (record { path = (on 2 1).path; value = Some (val 1) }) ∷ []) ∷ []
unfolding tables
two_tablets = refl

-- the append of a commit fails, and the restart keeps it
commit_kept : told_in (all_done one (record { actor = Status 0; number = 2; kept = true }) (
    says 1 (command.Begin 0) ∷ says 1 (command.Put doc (val 1)) ∷ says 1 command.Commit ∷ says 1 command.Commit ∷ says 1 (command.Restart (Status 0)) ∷ says 1 command.Commit ∷ (Applier 0, command.Apply 0) ∷ []) [])
    ≡ told.Began (txn 1 1) (at 0) ∷ told.Written (at 1) ∷ told.Refused (why.LogFault (Status 0)) ∷ told.Refused (why.Down (Status 0) 2) ∷ told.Restarted true ∷ told.Committed (txn 1 1) (at 2) ∷ told.Refused (why.LeaseHeld (Status 0) 3000000) ∷ []
unfolding tables
commit_kept = refl

-- the append of a commit fails, and the restart finds nothing of it
commit_lost : told_in (all_done one (record { actor = Status 0; number = 2; kept = false }) (
    says 1 (command.Begin 0) ∷ says 1 (command.Put doc (val 1)) ∷ says 1 command.Commit ∷ says 1 command.Commit ∷ says 1 (command.Restart (Status 0)) ∷ says 1 command.Commit ∷ (Applier 0, command.Apply 0) ∷ []) [])
    ≡ told.Began (txn 1 1) (at 0) ∷ told.Written (at 1) ∷ told.Refused (why.LogFault (Status 0)) ∷ told.Refused (why.Down (Status 0) 2) ∷ told.Restarted false ∷ told.Committed (txn 1 1) (at 2) ∷ told.Passed 1 0 0 ∷ []
unfolding tables
commit_lost = refl

-- an abort tells that the commit that failed was kept
abort_of_kept : told_in (all_done one (record { actor = Status 0; number = 2; kept = true }) (
    says 1 (command.Begin 0) ∷ says 1 (command.Put doc (val 1)) ∷ says 1 command.Commit ∷ says 1 (command.Restart (Status 0)) ∷ says 1 command.Abort ∷ []) [])
    ≡ told.Began (txn 1 1) (at 0) ∷ told.Written (at 1) ∷ told.Refused (why.LogFault (Status 0)) ∷ told.Restarted true ∷ told.Committed (txn 1 1) (at 2) ∷ []
unfolding tables
abort_of_kept = refl

-- an abort after a commit that was lost
abort_of_lost : told_in (all_done one (record { actor = Status 0; number = 2; kept = false }) (
    says 1 (command.Begin 0) ∷ says 1 (command.Put doc (val 1)) ∷ says 1 command.Commit ∷ says 1 (command.Restart (Status 0)) ∷ says 1 command.Abort ∷ []) [])
    ≡ told.Began (txn 1 1) (at 0) ∷ told.Written (at 1) ∷ told.Refused (why.LogFault (Status 0)) ∷ told.Restarted false ∷ told.Ended (txn 1 1) ∷ []
unfolding tables
abort_of_lost = refl

-- a write inside a transaction in doubt
in_doubt : told_in (all_done one (record { actor = Status 0; number = 2; kept = true }) (
    says 1 (command.Begin 0) ∷ says 1 (command.Put doc (val 1)) ∷ says 1 command.Commit ∷ says 1 (command.Put other (val 1)) ∷ []) [])
    ≡ told.Began (txn 1 1) (at 0) ∷ told.Written (at 1) ∷ told.Refused (why.LogFault (Status 0)) ∷ told.Refused why.InDoubt ∷ []
unfolding tables
in_doubt = refl
