-- The runs in which a premise is missing, by computation.
use Rattle.std.proofs.Common.{◌≡◌, ℕ, ◌+◌, ◌*◌, ◌<◌, ◌≤◌, List, [], ◌∷◌, Option, Some, refl, ap, inl, inr, arith}
use Rattle.std.specs.List.{flat_map}
use Rattle.txn_data.specs.declared.committed_txn.CommittedTxn.{CommittedTxn}
use Rattle.txn_data.specs.declared.config.Config.{Config}
use Rattle.txn_data.specs.declared.entry.Entry.{Entry}
use Rattle.txn_data.specs.declared.row.Row.{Row}
use Rattle.txn_types.specs.Lists.{Member}
use Rattle.txn_types.specs.History.{History}
use Rattle.txn_types.specs.Committed.{committed, committed_snapshots}
use Rattle.txn_types.specs.Plan.{PlacesAgree, started_places}
use Rattle.txn_types.specs.Reads.{known, read_time, Apart}
use Rattle.worked_cases.specs.Simulated.{no_fault, by_turns}
use Rattle.worked_cases.proofs.Tables.{tables}
use Rattle.law_witness.specs.Witness.{small, val, place}
use Rattle.law_witness.specs.Scripts.{run_of, read_beside, question_first, beyond_skew, beyond_skew_script, two_tablets, two_homes_script, other_val, row, within_skew, read_elsewhere, read_unrelated, singles_at_two, writers_at_two, single_after, unrelated_singles, unrelated_writers, misplaced}
use Rattle.law_witness.specs.Needed.{NotFreshBeyondSkew, MissesLaterCommit, MissesUnrelatedCommit, NotRightAtTwo, NotFreshAtTwo, SameTimeAtTwo, OverlapAtTwo, SingleNotApart, SameTimeUnrelated, OverlapUnrelated}
use Rattle.law_witness.proofs.Simulated.{done_is_run, turns_are_run}
use Rattle.law_witness.proofs.Tests.{by_byte, one_home, two_homes, read_at, is_read, commit_at, is_commit, is_no_commit, skew_held, skew_broken}

overlaps : (config : Config) (h : History) (x y : CommittedTxn) → read_time config h y.txn < x.at → read_time config h x.txn < y.at → Apart config h x y → ⊥
overlaps config h x y above_y above_x (inl below) = omega arith
overlaps config h x y above_y above_x (inr below) = omega arith

-- the time that a reading of this many microseconds gives, and some steps later
abbrev time : ℕ → ℕ → ℕ
time micros steps = micros * 4096 + steps

-- the first byte of the first value in some rows
abbrev first_byte : Option (List ℕ) → ℕ
first_byte (Some (byte ∷ more)) = byte
first_byte v = 0

abbrev first_value : List Row → ℕ
first_value (r ∷ rs) = first_byte r.value
first_value [] = 0

pub not_fresh_beyond_skew : NotFreshBeyondSkew beyond_skew (run_of beyond_skew beyond_skew_script)
unfolding tables
not_fresh_beyond_skew =
    let h = run_of beyond_skew beyond_skew_script in
    let told = known beyond_skew h (read_at 0 h) in
    record {
      run = done_is_run beyond_skew no_fault beyond_skew_script refl refl;
      places = one_home (λ part. 0) h refl;
      read = read_at 0 h;
      finished = is_read 0 h refl;
      beyond = skew_broken beyond_skew (read_at 0 h) refl;
      not_fresh = λ fresh.
          let early : time 1600000 0 ≤ time 1000000 0 = fresh (commit_at 0 told) (is_commit 0 told refl) in
          omega arith;
    }

-- the first and the second place that a script names are of one document
disagree : (h : History) → Member place (flat_map (λ (e : Entry). started_places e.event) h) →
    Member misplaced (flat_map (λ (e : Entry). started_places e.event) h) → PlacesAgree h → ⊥
disagree h first second = two_homes h place misplaced first second refl refl

pub not_right_at_two : NotRightAtTwo two_tablets (run_of two_tablets two_homes_script)
unfolding tables
not_right_at_two =
    let h = run_of two_tablets two_homes_script in
    record {
      run = done_is_run two_tablets no_fault two_homes_script refl refl;
      disagree = disagree h (inl refl) (inr (inl refl));
      read = read_at 0 h;
      finished = is_read 0 h refl;
      skew = skew_held two_tablets (read_at 0 h) refl;
      not_right = λ right.
          let shown : row place val ∷ [] ≡ row place other_val ∷ [] = right in
          let bytes : 1 ≡ 2 = ap first_value shown in
          omega arith;
    }

pub not_fresh_at_two : NotFreshAtTwo within_skew (run_of within_skew read_elsewhere)
unfolding tables
not_fresh_at_two =
    let h = run_of within_skew read_elsewhere in
    let told = known within_skew h (read_at 0 h) in
    record {
      run = done_is_run within_skew no_fault read_elsewhere refl refl;
      disagree = disagree h (inl refl) (inr (inl refl));
      read = read_at 0 h;
      finished = is_read 0 h refl;
      skew = skew_held within_skew (read_at 0 h) refl;
      not_fresh = λ fresh.
          let early : time 1400000 0 ≤ time 1000000 0 = fresh (commit_at 0 told) (is_commit 0 told refl) in
          omega arith;
    }

pub same_time_at_two : SameTimeAtTwo two_tablets (run_of two_tablets singles_at_two)
unfolding tables
same_time_at_two =
    let h = run_of two_tablets singles_at_two in
    let all = committed h in
    record {
      run = done_is_run two_tablets no_fault singles_at_two refl refl;
      disagree = disagree h (inr (inl refl)) (inl refl);
      first = commit_at 0 all;
      second = commit_at 1 all;
      same_time = λ differ. differ (is_commit 0 all refl) (is_commit 1 all refl) (λ same. omega (arith, same)) refl refl;
    }

pub overlap_at_two : OverlapAtTwo two_tablets (run_of two_tablets writers_at_two)
unfolding tables
overlap_at_two =
    let h = run_of two_tablets writers_at_two in
    let all = committed_snapshots h in
    record {
      run = done_is_run two_tablets no_fault writers_at_two refl refl;
      disagree = disagree h (inr (inl refl)) (inl refl);
      first = commit_at 0 all;
      second = commit_at 1 all;
      overlap = λ apart. overlaps two_tablets h (commit_at 0 all) (commit_at 1 all) (omega arith) (omega arith)
          (apart (is_commit 0 all refl) (is_commit 1 all refl) (λ same. omega (arith, same)) refl);
    }

pub single_not_apart : SingleNotApart small (run_of small single_after)
unfolding tables
single_not_apart =
    let h = run_of small single_after in
    let all = committed h in
    let writers = committed_snapshots h in
    record {
      run = done_is_run small no_fault single_after refl refl;
      places = one_home (λ part. 0) h refl;
      txn = commit_at 0 writers;
      single = commit_at 0 all;
      txn_committed = is_commit 0 writers refl;
      single_committed = is_commit 0 all refl;
      is_single = is_no_commit (commit_at 0 all) writers refl;
      differ = λ same. omega (arith, same);
      related = refl;
      not_apart = overlaps small h (commit_at 0 writers) (commit_at 0 all) (omega arith) (omega arith);
    }

pub same_time_unrelated : SameTimeUnrelated two_tablets (run_of two_tablets unrelated_singles)
unfolding tables
same_time_unrelated =
    let h = run_of two_tablets unrelated_singles in
    let all = committed h in
    record {
      run = done_is_run two_tablets no_fault unrelated_singles refl refl;
      places = one_home by_byte h refl;
      first = commit_at 0 all;
      second = commit_at 1 all;
      first_committed = is_commit 0 all refl;
      second_committed = is_commit 1 all refl;
      differ = λ same. omega (arith, same);
      unrelated = refl;
      same_time = refl;
    }

pub overlap_unrelated : OverlapUnrelated small (run_of small unrelated_writers)
unfolding tables
overlap_unrelated =
    let h = run_of small unrelated_writers in
    let all = committed_snapshots h in
    record {
      run = done_is_run small no_fault unrelated_writers refl refl;
      places = one_home (λ part. 0) h refl;
      first = commit_at 0 all;
      second = commit_at 1 all;
      first_committed = is_commit 0 all refl;
      second_committed = is_commit 1 all refl;
      differ = λ same. omega (arith, same);
      unrelated = refl;
      not_apart = overlaps small h (commit_at 0 all) (commit_at 1 all) (omega arith) (omega arith);
    }

pub misses_later_commit : MissesLaterCommit small (by_turns small read_beside question_first [])
unfolding tables
misses_later_commit =
    let h = by_turns small read_beside question_first [] in
    let all = committed h in
    record {
      run = turns_are_run small read_beside question_first refl refl;
      places = one_home (λ part. 0) h refl;
      read = read_at 0 h;
      finished = is_read 0 h refl;
      skew = skew_held small (read_at 0 h) refl;
      txn = commit_at 0 all;
      committed_txn = is_commit 0 all refl;
      related = refl;
      told = refl;
      not_before = refl;
      missed = omega arith;
    }

pub misses_unrelated_commit : MissesUnrelatedCommit within_skew (run_of within_skew read_unrelated)
unfolding tables
misses_unrelated_commit =
    let h = run_of within_skew read_unrelated in
    let all = committed h in
    record {
      run = done_is_run within_skew no_fault read_unrelated refl refl;
      places = one_home by_byte h refl;
      read = read_at 0 h;
      finished = is_read 0 h refl;
      skew = skew_held within_skew (read_at 0 h) refl;
      txn = commit_at 0 all;
      committed_txn = is_commit 0 all refl;
      told_before = refl;
      unrelated = refl;
      missed = omega arith;
    }
