use Rattle.law_requests.proofs.Replies.{lists_fit}
use Rattle.law_requests.proofs.laws.lists_answer_listings.Goals as goal

pub returns : goal.returns
returns c = lists_fit
