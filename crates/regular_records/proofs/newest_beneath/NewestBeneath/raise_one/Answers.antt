use Rattle.std.proofs.Common.{sym, ap, ◌∙◌, subst}
use Rattle.std.specs.Prelude.{IsSome}
use Rattle.txn_types.specs.Lists.{or_zero}
use Rattle.regular_records.specs.NewestBeneath.{place_of}
use Rattle.regular_records.proofs.Places.{place-other, place-kept}
use Rattle.regular_records.proofs.newest_beneath.NewestBeneath.raise_one.Goals as goal

pub returns-in-Some-clause-others : goal.returns-in-Some-clause-others
returns-in-Some-clause-others c q apart =
    let w = c.get_mut.follows.holds c.max.result in
    ap (λ es. or_zero (place_of q es)) w.0 ∙ ap or_zero (place-other q c.args.prefix.now c.args.self.now.times.entries c.max.result apart)

pub returns-in-Some-clause-places : goal.returns-in-Some-clause-places
returns-in-Some-clause-places c q h =
    let w = c.get_mut.follows.holds c.max.result in
    subst (λ es. IsSome (place_of q es)) (sym w.0) (place-kept q c.args.prefix.now c.args.self.now.times.entries c.max.result h)
