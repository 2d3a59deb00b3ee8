use Rattle.std.proofs.Common.{◌≡◌, ◌+◌, [], ◌∷◌, ◌++◌, take, inl, inr, sym, ◌∙◌, subst, arith}
use Rattle.std.proofs.lemmas.List.{take_more, take_all}
use Rattle.txn_data.specs.declared.version.Version.{Version}
use Rattle.txn_types.specs.Lists.{Member}
use Rattle.regular_records.specs.NewestBeneath.{HasPlaces, HavePlaces}
use Rattle.regular_records.proofs.Kept.{member-append}
use Rattle.regular_records.proofs.adding.make_places.Goals as goal

pub loop-version-preserved : goal.loop-version-preserved
loop-version-preserved c =
    let i = c.loop-version.version-index in
    let vs = c.args.list.now in
    let v = c.version-item.result in
    let more : take (i + 1) vs ≡ take i vs ++ v ∷ [] = grind (arith, take_more vs i v c.loop-version-test.true, c.version-item.is) in
    record {
      times = λ q. c.make_places.ensures.times q ∙ c.loop-version.invariant.times q;
      places = λ u m. elim (member-append u (take i vs) (v ∷ []) (subst (Member u) more m)) [
        | inl n ↦ c.make_places.ensures.others u.path (c.loop-version.invariant.places u n)
        | inr n ↦ elim n [ inl e ↦ subst (λ (x : Version). HasPlaces x.path c.make_places.new.self) (sym e) c.in_ok-make_places.ensures.places | inr k ↦ absurd k ]
      ];
    }

pub returns-clause-places : goal.returns-clause-places
returns-clause-places c =
    subst (λ vs. HavePlaces vs c.loop-version.beneath) (take_all c.loop-version.version-index c.args.list.now (omega arith)) c.loop-version.invariant.places
