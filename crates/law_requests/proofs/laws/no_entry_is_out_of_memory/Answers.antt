use Rattle.law_requests.proofs.Replies.{no_memory}
use Rattle.law_requests.proofs.laws.no_entry_is_out_of_memory.Goals as goal

pub returns : goal.returns
returns c = no_memory
