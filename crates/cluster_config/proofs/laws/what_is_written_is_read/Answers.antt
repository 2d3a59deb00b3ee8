use Rattle.cluster_config.proofs.HeadText.{head_again}
use Rattle.cluster_config.proofs.laws.what_is_written_is_read.Goals as goal

pub returns : goal.returns
returns c = head_again
