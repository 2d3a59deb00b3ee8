use Rattle.std.proofs.Common.{◌≡◌, ℕ, false, Option, Some, None, sym, ap, ◌∙◌, subst}
use Rattle.std.specs.Prelude.{is_some, IsSome}
use Rattle.txn_types.specs.Lists.{or_zero}
use Rattle.regular_records.specs.NewestBeneath.{place_of}
use Rattle.regular_records.proofs.Places.{time-inserted, place-stays}
use Rattle.regular_records.proofs.newest_beneath.NewestBeneath.make_place.Goals as goal

is-none : (o : Option ℕ) → is_some o ≡ false → o ≡ None
is-none None h = cc
is-none (Some n) h = cc

pub returns-in_ok-insert-clause-times : goal.returns-in_ok-insert-clause-times
returns-in_ok-insert-clause-times c q =
    let k = c.into_parts-parts.result in
    let es = c.args.self.now.times.entries in
    let copied = c.into_parts-parts.ensures.value ∙ c.in_ok-of_parts.ensures in
    let missing : place_of k.items es ≡ None = ap (λ p. place_of p es) copied ∙ is-none (place_of c.args.prefix.now es) (sym c.contains_key.ensures ∙ c.if-not-contains_key.true) in
    ap (λ es. or_zero (place_of q es)) c.in_ok-insert.ensures.entries ∙ time-inserted q k es missing

pub returns-in_ok-insert-clause-others : goal.returns-in_ok-insert-clause-others
returns-in_ok-insert-clause-others c q h =
    let k = c.into_parts-parts.result in
    let es = c.args.self.now.times.entries in
    let copied = c.into_parts-parts.ensures.value ∙ c.in_ok-of_parts.ensures in
    let missing : place_of k.items es ≡ None = ap (λ p. place_of p es) copied ∙ is-none (place_of c.args.prefix.now es) (sym c.contains_key.ensures ∙ c.if-not-contains_key.true) in
    subst (λ es. IsSome (place_of q es)) (sym c.in_ok-insert.ensures.entries) (place-stays q k es 0 missing h)
