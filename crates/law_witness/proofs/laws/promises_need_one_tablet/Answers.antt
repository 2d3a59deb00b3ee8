use Rattle.law_witness.proofs.Needed as needed
use Rattle.law_witness.proofs.laws.promises_need_one_tablet.Goals as goal

pub returns : goal.returns
returns c = record {
  not_right = needed.not_right_at_two;
  not_fresh = needed.not_fresh_at_two;
  same_time = needed.same_time_at_two;
  overlap = needed.overlap_at_two;
}
