-- Commands that are told another end than they asked for, and tells that are not allowed, by computation.
use Rattle.std.proofs.Common.{◌≡◌, ℕ, [], ◌∷◌, None, refl, inl, inr, arith}
use Rattle.txn_data.specs.declared.command.Command.TheVariants as command
use Rattle.txn_data.specs.declared.told.Told.{Told}
use Rattle.txn_data.specs.declared.told.Told.TheVariants as told
use Rattle.txn_types.specs.History.{History}
use Rattle.txn_types.specs.Program as program
use Rattle.txn_types.specs.Program.{Turn, turn_with}
use Rattle.txn_types.specs.Run.{Allowed, Run, Steps}
use Rattle.txn_types.specs.Cause.{ToldAt, tells}
use Rattle.worked_cases.specs.Simulated.{no_fault, all_done}
use Rattle.worked_cases.proofs.Tables.{tables}
use Rattle.law_witness.specs.Scripts.{kept, lost, end_refused}
use Rattle.law_witness.specs.Witness.{small, x, committed_at, writer}
use Rattle.law_witness.specs.Endings as endings
use Rattle.law_witness.specs.Endings.{IsTold, commit_after_abort, abort_after_commit, earlier, commit_plainly, commit_heard, pending_heard, WrongTellsAreRefused}
use Rattle.law_witness.proofs.Allowed.{last_allowed}
use Rattle.law_witness.proofs.Simulated.{done_is_run}
use Rattle.law_witness.proofs.Tests.{one_home}

-- what was told with the newest entry
abbrev told_last : Told → History → ToldAt
told_last t h = record { who = writer; reading = None; told = t; before = earlier h }

pub commit_told_ended : IsTold small (all_done small kept commit_after_abort []) command.Commit (told.Ended x)
unfolding tables tells
commit_told_ended =
    let h = all_done small kept commit_after_abort [] in
    record {
      run = done_is_run small kept commit_after_abort refl refl;
      places = one_home (λ part. 0) h refl;
      at = told_last (told.Ended x) h;
      here = inl refl;
      under_way = refl;
      told = refl;
    }

pub abort_told_committed : IsTold small (all_done small kept abort_after_commit []) command.Abort (told.Committed x committed_at)
unfolding tables tells
abort_told_committed =
    let h = all_done small kept abort_after_commit [] in
    record {
      run = done_is_run small kept abort_after_commit refl refl;
      places = one_home (λ part. 0) h refl;
      at = told_last (told.Committed x committed_at) h;
      here = inl refl;
      under_way = refl;
      told = refl;
    }

-- ## tells that no run has

pub run_earlier : (h : History) → Run small h → Run small (earlier h)
unfolding Steps
run_earlier [] run = run
run_earlier (e ∷ h) run = (run.0, run.1.0)

not_ended : (c : ℕ) → ◌≡◌ {A = Turn Told} (program.Tell (told.Committed x c)) (program.Tell (told.Ended x)) → ⊥
not_ended c is = cc

same_left : (b c : ℕ) → ◌≡◌ {A = Turn Told} (program.Tell (told.Passed 0 0 b)) (program.Tell (told.Passed 0 0 c)) → b ≡ c
same_left b c is = cc

ended_not : Allowed small commit_heard endings.ended_though_committed.actor endings.ended_though_committed.reading endings.ended_though_committed.event → ⊥
unfolding tables
ended_not allowed = elim allowed.3 [
  | inl is ↦ not_ended committed_at is
  | inr memory ↦ let is = memory.0 in cc
]

left_not : Allowed small pending_heard endings.one_too_few_left.actor endings.one_too_few_left.reading endings.one_too_few_left.event → ⊥
unfolding tables
left_not allowed = elim allowed.3 [
  | inl is ↦ let same = same_left 1 0 is in omega (arith, same)
  | inr memory ↦ let is = memory.0 in cc
]

pub wrong_tells_refused : WrongTellsAreRefused
unfolding tables
wrong_tells_refused = record {
  ended_though_committed = record {
    before = run_earlier (all_done small no_fault commit_plainly []) (done_is_run small no_fault commit_plainly refl refl);
    refused = λ run. ended_not (last_allowed commit_heard endings.ended_though_committed run);
  };
  one_too_few_left = record {
    before = run_earlier (all_done small lost end_refused []) (done_is_run small lost end_refused refl refl);
    refused = λ run. left_not (last_allowed pending_heard endings.one_too_few_left run);
  };
}
