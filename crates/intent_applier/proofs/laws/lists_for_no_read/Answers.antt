use Rattle.intent_applier.specs.Rest.{rest, counts_of, others}
use Rattle.intent_applier.proofs.Listing.{rest_lists}
use Rattle.intent_applier.proofs.laws.lists_for_no_read.Goals as goal

pub returns : goal.returns
unfolding rest
returns c = λ p. rest_lists p.tablet (counts_of p) (others p) p.stage
