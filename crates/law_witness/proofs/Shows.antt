-- What the run shows, by computation.
use Rattle.std.proofs.Common.{◌+◌, true, false, [], ◌∷◌, Some, None, refl, inl, inr, arith}
use Rattle.txn_data.specs.declared.committed_txn.CommittedTxn.{CommittedTxn}
use Rattle.txn_data.specs.declared.append.Append.TheVariants.{Failed}
use Rattle.txn_data.specs.declared.entry.Entry.{Entry}
use Rattle.txn_data.specs.declared.event.Event.TheVariants.{Serve, Restarted}
use Rattle.txn_data.specs.declared.refusal.Refusal.TheVariants as refusal
use Rattle.txn_data.specs.declared.reply.Reply.TheVariants as reply
use Rattle.txn_data.specs.declared.request.Request.TheVariants as request
use Rattle.txn_data.specs.declared.op.Op.TheVariants.{Put}
use Rattle.txn_types.specs.Lists.{Member, inserted_by, sorted_by}
use Rattle.txn_types.specs.History.{next_restart_kept, counting_before}
use Rattle.txn_types.specs.Committed.{writes, committed, committed_snapshots}
use Rattle.txn_types.specs.Plan.{PlacesAgree}
use Rattle.txn_types.specs.Reads.{Read, reads, before_start, begin_of, reading_after, known, SkewHeld}
use Rattle.txn_types.specs.Run.{mover_at}
use Rattle.law_witness.specs.Witness.{small, entry, status, whole, collected, rows, x, doc, val, committed_at, written_at, writer, reader, applier, early, late, late_at, restarted, applied}
use Rattle.law_witness.specs.Branches.{y, both_done}
use Rattle.law_witness.specs.Shows.{ShowsAll, TwoWritersCommit, KeptCommitStands, ReadsInside, ReadsTwoTablets, LeavesOne}
use Rattle.law_witness.proofs.Entries.{whole_allowed}
use Rattle.law_witness.proofs.Branches.{both_done_allowed}
use Rattle.law_witness.proofs.Allowed.{run_of}
use Rattle.worked_cases.specs.Simulated.{no_fault, all_done}
use Rattle.worked_cases.proofs.Tables.{tables}
use Rattle.worked_cases.proofs.SettledCases.{left_settled}
use Rattle.law_witness.specs.Scripts as scripts
use Rattle.law_witness.specs.Scripts.{two_tablets, read_own, read_both, rows_inside, rows_of_two, kept, commit_again, lost, end_refused}
use Rattle.law_witness.proofs.Simulated.{done_is_run}
use Rattle.law_witness.proofs.Tests.{member_at, by_byte, one_home, read_at, is_read, commit_at, is_commit, skew_held}

places_agree : PlacesAgree whole
places_agree = one_home (λ part. 0) whole refl

abbrev txn : CommittedTxn
txn = record { txn = x; at = committed_at; writes = (record { path = doc; op = Put val }) ∷ [] }

abbrev read : Read
read = record { session = 2; before = collected; at = committed_at; restarts = 1; rows = rows }

is_committed : Member txn (committed_snapshots whole)
unfolding committed_snapshots counting_before next_restart_kept writes sorted_by inserted_by
is_committed = inl refl

is_finished : Member read (reads whole)
unfolding reads
is_finished = inl refl

skew : SkewHeld small small.skew_us read
unfolding mover_at before_start begin_of reading_after
skew = skew_held small read refl

was_known : Member txn (known small whole read)
unfolding committed counting_before next_restart_kept writes sorted_by inserted_by mover_at before_start begin_of reading_after
was_known = inl refl

pub shows_all : ShowsAll small whole rows
shows_all = record {
  run = run_of whole whole_allowed;
  places = places_agree;
  restarted = record { number = 0; mover = writer; kept = false; here = member_at 31 restarted whole refl };
  txn = txn;
  committed = is_committed;
  read_again = record { read = read; finished = is_finished; again = refl; shows = refl; skew = skew; was_known = was_known };
  applied = record { number = 0; mover = applier; reading = late; time = Some late_at; here = member_at 5 applied whole refl };
}

abbrev second : CommittedTxn
second = record { txn = y; at = late_at + 2; writes = (record { path = doc; op = Put val }) ∷ [] }

first_is_there : Member txn (committed_snapshots both_done)
unfolding committed_snapshots counting_before next_restart_kept writes sorted_by inserted_by
first_is_there = inr (inl refl)

second_is_there : Member second (committed_snapshots both_done)
unfolding committed_snapshots counting_before next_restart_kept writes sorted_by inserted_by
second_is_there = inl refl

pub two_commit : TwoWritersCommit small both_done
two_commit = record {
  run = run_of both_done both_done_allowed;
  places = one_home (λ part. 0) both_done refl;
  first = txn;
  second = second;
  first_committed = first_is_there;
  second_committed = second_is_there;
  differ = λ same. omega (arith, same);
  related = refl;
}

-- the commit whose append fails, and the restart that keeps it
abbrev failed : Entry
failed =
    entry status early (Serve writer (request.Commit x written_at (0 ∷ [])) (reply.Refused refusal.LogFault) (Some committed_at) Failed)

abbrev kept_then : Entry
kept_then = entry status None (Restarted reader true)

pub kept_commit_stands : KeptCommitStands small (all_done small kept commit_again [])
unfolding tables
kept_commit_stands =
    let h = all_done small kept commit_again [] in
    let all = committed_snapshots h in
    record {
      run = done_is_run small kept commit_again refl refl;
      places = one_home (λ part. 0) h refl;
      txn = commit_at 0 all;
      committed = is_commit 0 all refl;
      append = record {
        number = 0;
        mover = writer;
        reading = early;
        floor = written_at;
        tablets = 0 ∷ [];
        failed = member_at 12 failed h refl;
        restarter = reader;
        kept = member_at 7 kept_then h refl;
      };
      told = refl;
    }

pub reads_inside : ReadsInside small (scripts.run_of small read_own) rows_inside
unfolding tables
reads_inside =
    let h = scripts.run_of small read_own in
    record {
      run = done_is_run small no_fault read_own refl refl;
      places = one_home (λ part. 0) h refl;
      read = read_at 0 h;
      finished = is_read 0 h refl;
      txn = x + 1;
      inside_txn = refl;
      shows = refl;
      skew = skew_held small (read_at 0 h) refl;
    }

pub reads_two_tablets : ReadsTwoTablets two_tablets (scripts.run_of two_tablets read_both) rows_of_two
unfolding tables
reads_two_tablets =
    let h = scripts.run_of two_tablets read_both in
    record {
      run = done_is_run two_tablets no_fault read_both refl refl;
      places = one_home by_byte h refl;
      read = read_at 0 h;
      finished = is_read 0 h refl;
      tablets = refl;
      again = refl;
      shows = refl;
      skew = skew_held two_tablets (read_at 0 h) refl;
    }

pub leaves_one : LeavesOne small (all_done small lost end_refused [])
unfolding tables
leaves_one =
    let h = all_done small lost end_refused [] in
    record {
      run = done_is_run small lost end_refused refl refl;
      places = one_home (λ part. 0) h refl;
      told = refl;
      settled = left_settled;
    }
