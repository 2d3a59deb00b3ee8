use Rattle.std.proofs.Common.{◌≡◌, List, sym, ◌∙◌, subst}
use Rattle.doc_path.specs.Path.{Parts}
use Rattle.txn_data.specs.declared.version.Version.{Version}
use Rattle.regular_records.specs.declared.newest_beneath.NewestBeneath.{NewestBeneath}
use Rattle.regular_records.specs.Holding.{Holds}
use Rattle.regular_records.specs.NewestBeneath.{newest_at, SumsUp, HavePlaces}
use Rattle.regular_records.proofs.Summed.{sums-same}
use Rattle.regular_records.proofs.map_versions.MapVersionsVersions.add_all.Goals as goal

-- places and slots that are made change no time and no version
summed : (a b : NewestBeneath) (old new : List Version) → ((q : Parts) → newest_at q b ≡ newest_at q a) → new ≡ old → SumsUp a old → SumsUp b new
summed a b old new same is s = sums-same a b new same (subst (SumsUp a) (sym is) s)

pub invariant_of-self-in_err-make_places : goal.invariant_of-self-in_err-make_places
invariant_of-self-in_err-make_places c = (c.make_slots.ensures.kept, summed c.self.inside.beneath c.make_places.new.beneath _ _ c.make_places.ensures.times c.make_slots.ensures.versions c.self.invariant.1)

pub fill_slots-requires-clause-places : goal.fill_slots-requires-clause-places
fill_slots-requires-clause-places c = subst (λ vs. HavePlaces vs c.make_places.new.beneath) c.deref-2.ensures.value c.in_ok-make_places.ensures.places

pub invariant_of-self-2 : goal.invariant_of-self-2
invariant_of-self-2 c = (
  c.fill_slots.ensures.kept,
  c.fill_slots.ensures.sums (summed c.self.inside.beneath c.make_places.new.beneath _ _ c.make_places.ensures.times c.make_slots.ensures.versions c.self.invariant.1),
)

pub returns-clause-ok : goal.returns-clause-ok
returns-clause-ok c vs h =
    c.fill_slots.ensures.holds vs (subst (λ kept. Holds kept vs) (sym (c.make_slots.ensures.versions ∙ c.self.view_is)) h)
