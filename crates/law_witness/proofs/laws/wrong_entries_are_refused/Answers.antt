use Rattle.law_witness.proofs.Wrong as wrong
use Rattle.law_witness.proofs.laws.wrong_entries_are_refused.Goals as goal

pub returns : goal.returns
returns c = record {
  clock_left_below = wrong.clock_left_below;
  commit_below_promise = wrong.commit_below_promise;
  commit_below_write = wrong.commit_below_write;
  write_after_commit = wrong.write_after_commit;
  write_below_listing = wrong.write_below_listing;
  read_ignores_record = wrong.read_ignores_record;
  forgotten_too_early = wrong.forgotten_too_early;
  limit_on_commit_times = wrong.limit_on_commit_times;
  read_without_second_round = wrong.read_without_second_round;
  applied_elsewhen = wrong.applied_elsewhen;
  write_over_later_version = wrong.write_over_later_version;
}
