use Rattle.std.proofs.Common.{◌≡◌, ℕ, ◌+◌, List, [], ◌∷◌, length, sym, ap, ◌∙◌, subst, arith, refl, inl, inr, max, ◌≤◌, if◌then◌else◌}
use Rattle.std.specs.Vec.Iter.{into_iter_items}
use Rattle.txn_data.specs.declared.version.Version.{Version}
use Rattle.txn_types.specs.Tablet.{with_version, with_versions}
use Rattle.regular_records.specs.Holding.{Holds}
use Rattle.regular_records.specs.Store.{versions_of}
use Rattle.regular_records.specs.Adding.{HaveSlots}
use Rattle.doc_path.specs.Path.{Parts, is_prefix}
use Rattle.regular_records.specs.NewestBeneath.{newest_at, HasPlaces, HavePlaces}
use Rattle.regular_records.proofs.Summed.{sums-raised}
use Rattle.regular_records.proofs.Placed.{holds-with, with_versions-cons, with_versions-nil}
use Rattle.regular_records.proofs.Made.{have_slots-all}
use Rattle.regular_records.proofs.adding.fill_slots.Goals as goal

pub loop-version-init : goal.loop-version-init
loop-version-init c =
    let given = c.into_iter-version-iterator.ensures.into_iter_gives in
    record {
      kept = c.requires.kept;
      count = ap length given.0 ∙ sym c.args.list.ok.0 ∙ sym given.1;
      slots = subst (HaveSlots c.args.paths.now.entries) (sym given.0) c.requires.slots;
      places = subst (λ vs. HavePlaces vs c.args.beneath.now) (sym given.0) c.requires.places;
      sums = λ s. s;
      holds = λ vs h. (vs, h, ap (with_versions vs) given.0);
    }

pub fill_slot-requires-clause-slot : goal.fill_slot-requires-clause-slot
fill_slot-requires-clause-slot c =
    (subst (HaveSlots c.loop-version.paths.entries) c.in-Some.ensures.steps.0 c.loop-version.invariant.slots).0

pub raise-requires : goal.raise-requires
raise-requires c =
    let places = subst (λ vs. HavePlaces vs c.loop-version.beneath) c.in-Some.ensures.steps.0 c.loop-version.invariant.places in
    let path = c.deref.ensures.value ∙ c.as_parts.ensures.value in
    subst (λ p. HasPlaces p c.loop-version.beneath) (sym path) (places c.in-Some.version (inl refl))

fewer : (xs ys : List Version) (x : Version) (m n : ℕ) → length xs ≡ m → xs ≡ x ∷ ys → n + 1 ≡ m → length ys ≡ n
fewer xs ys x m n h is k = let e : length xs ≡ length (x ∷ ys) = ap length is in omega arith

pub loop-version-preserved : goal.loop-version-preserved
loop-version-preserved c =
    let places = subst (λ vs. HavePlaces vs c.loop-version.beneath) c.in-Some.ensures.steps.0 c.loop-version.invariant.places in
    let path = c.deref.ensures.value ∙ c.as_parts.ensures.value in
    let slots = subst (HaveSlots c.loop-version.paths.entries) c.in-Some.ensures.steps.0 c.loop-version.invariant.slots in
    record {
      kept = c.fill_slot.ensures.kept;
      count = fewer _ _ _ _ _ c.loop-version.invariant.count c.in-Some.ensures.steps.0 c.in-Some.ensures.steps.1;
      slots = have_slots-all c.loop-version.paths.entries c.fill_slot.new.paths.entries c.fill_slot.ensures.slots _ slots.1;
      places = λ v m. c.raise.ensures.places v.path (places v (inr m));
      sums = λ s.
          sums-raised c.loop-version.beneath c.raise.new.self c.in-Some.version (versions_of c.loop-version.paths.entries) (versions_of c.fill_slot.new.paths.entries) c.fill_slot.ensures.versions
          (subst (λ p. (q : Parts) → 1 ≤ length q → newest_at q c.raise.new.self ≡ (if is_prefix q p then max c.in-Some.version.at (newest_at q c.loop-version.beneath) else newest_at q c.loop-version.beneath)) path c.raise.ensures.times)
          (c.loop-version.invariant.sums s);
      holds = λ vs h.
          let before = c.loop-version.invariant.holds vs h in (
            with_version before.0 c.in-Some.version,
            holds-with c.in-Some.version (versions_of c.loop-version.paths.entries) (versions_of c.fill_slot.new.paths.entries) before.0 c.fill_slot.ensures.versions before.1,
            sym (with_versions-cons before.0 c.in-Some.version _) ∙ ap (with_versions before.0) (sym c.in-Some.ensures.steps.0) ∙ before.2,
          );
    }

empty : (xs : List Version) → length xs ≡ 0 → xs ≡ []
empty [] h = refl
empty (x ∷ xs) h = absurd (omega arith)

pub returns-clause-holds : goal.returns-clause-holds
returns-clause-holds c vs h =
    let done : into_iter_items c.loop-version.version-iterator ≡ [] = empty _ (c.loop-version.invariant.count ∙ c.in-None.ensures.steps.0) in
    let at_end = c.loop-version.invariant.holds vs h in
    let is = sym (with_versions-nil at_end.0) ∙ ap (with_versions at_end.0) (sym done) ∙ at_end.2 in
    subst (λ us. Holds (versions_of c.loop-version.paths.entries) us) is at_end.1
