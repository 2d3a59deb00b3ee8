use Rattle.law_witness.proofs.Needed.{same_time_unrelated, overlap_unrelated}
use Rattle.law_witness.proofs.laws.only_related_writes_differ.Goals as goal

pub returns : goal.returns
returns c = record { same_time = same_time_unrelated; overlap = overlap_unrelated }
