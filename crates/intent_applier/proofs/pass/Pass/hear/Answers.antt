use Rattle.intent_applier.specs.Rest.{rest, counts_of, others}
use Rattle.intent_applier.proofs.pass.Pass.hear.Goals as goal

pub returns-in-Applying-clause-ok : goal.returns-in-Applying-clause-ok
unfolding rest
returns-in-Applying-clause-ok c =
    let e = c.after_apply-self.ensures.rest (counts_of c.args.self.now) (others c.args.self.now) c.in-Applying.at in
    rw c.in-Applying.is e

pub returns-in-Cleaning-clause-ok : goal.returns-in-Cleaning-clause-ok
unfolding rest
returns-in-Cleaning-clause-ok c =
    let e = c.after_clean-self.ensures.rest (counts_of c.args.self.now) c.in-Cleaning.found (others c.args.self.now) in
    rw c.in-Cleaning.is e
