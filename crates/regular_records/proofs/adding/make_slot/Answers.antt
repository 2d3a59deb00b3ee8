use Rattle.std.proofs.Common.{◌≡◌, Some, None, ◌≤◌, length, sym, ap, ◌∙◌, subst}
use Rattle.std.specs.Prelude.{Result, Ok, Err, OnOk, IsSome}
use Rattle.std.specs.BTreeMap.{IsOrdered, insert_entry}
use Rattle.std.specs.Map.{set_value}
use Rattle.regular_records.specs.Store.{PathVersions, VersionStore, versions_of, versions_on}
use Rattle.regular_records.specs.Kept.{key_order, version_key_order, AreKept}
use Rattle.regular_records.specs.Adding.{HasSlot, at_path, at_version_key, version_key_of}
use Rattle.regular_records.proofs.Kept.{lookup-found}
use Rattle.regular_records.proofs.Down.{entry-kept}
use Rattle.regular_records.proofs.Made.{key_at, either, Added, added-versions, added-slots, slot-made, versions-with, versions_of-set, versions_of-insert, has_slot-set, has_slot-here, has_slot-insert, has_slot-inserted, kept-set, kept-insert}
use Rattle.regular_records.proofs.adding.make_slot.Goals as goal

pub returns-in-Some-clause-kept : goal.returns-in-Some-clause-kept
returns-in-Some-clause-kept c =
    let w = c.get_mut.follows.holds c.add_slot.new.versions in
    let old = c.in-Some.versions.now in
    let p = c.as_parts.result.now.items in
    let e = lookup-found c.args.paths.now.entries p old (sym c.in-Some.ensures.value) in
    let ordered : IsOrdered version_key_order old = subst (λ (m : PathVersions). IsOrdered version_key_order m) e.3 (entry-kept c.args.paths.now.entries c.requires.1 e.0 e.1).2 in
    (w.4, subst AreKept (sym w.0) (kept-set (key_at p) c.add_slot.new.versions c.args.paths.now.entries c.requires.1 (c.add_slot.ensures.ordered ordered)))

pub returns-in-Some-clause-versions : goal.returns-in-Some-clause-versions
returns-in-Some-clause-versions c =
    let w = c.get_mut.follows.holds c.add_slot.new.versions in
    let old = c.in-Some.versions.now in
    let new = c.add_slot.new.versions in
    let p = c.as_parts.result.now.items in
    let added : Added (version_key_of c.args.version.now) old new = either c.add_slot.result _ _ c.add_slot.ensures.ok c.add_slot.ensures.memory in
    ap versions_of w.0 ∙ versions_of-set p old new c.args.paths.now.entries (sym c.in-Some.ensures.value) (added-versions (version_key_of c.args.version.now) old new added)

pub returns-in-Some-clause-slots : goal.returns-in-Some-clause-slots
returns-in-Some-clause-slots c v h =
    let w = c.get_mut.follows.holds c.add_slot.new.versions in
    let old = c.in-Some.versions.now in
    let new = c.add_slot.new.versions in
    let p = c.as_parts.result.now.items in
    let added : Added (version_key_of c.args.version.now) old new = either c.add_slot.result _ _ c.add_slot.ensures.ok c.add_slot.ensures.memory in
    subst (λ es. HasSlot es v) (sym w.0) (has_slot-set v p old new c.args.paths.now.entries (sym c.in-Some.ensures.value) (added-slots (version_key_of c.args.version.now) old new added) h)

on_ok : {A E : Type 0} (r : Result A E) (P Q : Type 0) → (P → Q) → OnOk r P → OnOk r Q
on_ok (Ok x) P Q f p = f p
on_ok (Err e) P Q f p = tt

pub returns-in-Some-clause-slot : goal.returns-in-Some-clause-slot
returns-in-Some-clause-slot c =
    let w = c.get_mut.follows.holds c.add_slot.new.versions in
    let old = c.in-Some.versions.now in
    let new = c.add_slot.new.versions in
    let v = c.args.version.now in
    let es = c.args.paths.now.entries in
    let path = c.as_parts.ensures.value in
    let there : at_path v.path es ≡ Some old = subst (λ q. at_path q es ≡ Some old) path (sym c.in-Some.ensures.value) in
    on_ok c.add_slot.result _ _
    (λ made.
    let here = has_slot-here v old new es there (subst (λ slots. IsSome (at_version_key (version_key_of v) slots)) (sym made) (slot-made (version_key_of v) old.entries)) in
    subst (λ es. HasSlot es v) (ap (λ q. set_value (key_at q) es new) (sym path) ∙ sym w.0) here)
    c.add_slot.ensures.ok

pub returns-clause-kept : goal.returns-clause-kept
returns-clause-kept c =
    let k = c.into_parts-parts.result in
    let is = c.in_ok-insert.ensures.entries ∙ ap (λ (m : VersionStore). insert_entry key_order m.entries k c.add_slot-2.new.versions) c.get_mut.follows.holds-at-none in
    let least = subst (λ q. 1 ≤ length q) (sym c.into_parts-parts.ensures.value) c.into_parts-parts.ensures.least in
    let most = subst (λ q. length q ≤ 5) (sym c.into_parts-parts.ensures.value) c.into_parts-parts.ensures.most in (
      c.in_ok-insert.ensures.ordered,
      subst AreKept (sym is) (kept-insert k c.add_slot-2.new.versions c.args.paths.now.entries c.requires.1 least most (c.add_slot-2.ensures.ordered c.new-versions.ensures.ordered)),
    )

pub returns-clause-versions : goal.returns-clause-versions
returns-clause-versions c =
    let k = c.into_parts-parts.result in
    let new = c.add_slot-2.new.versions in
    let is = c.in_ok-insert.ensures.entries ∙ ap (λ (m : VersionStore). insert_entry key_order m.entries k new) c.get_mut.follows.holds-at-none in
    let path = c.as_parts.ensures.value ∙ sym c.in_ok-try_copy.ensures ∙ sym c.into_parts-parts.ensures.value in
    let missing = subst (λ q. at_path q c.args.paths.now.entries ≡ None) path (sym c.in_default.ensures.value) in
    let none = ap (versions_on k.items) c.in_ok-add_slot.ensures.ok ∙ versions-with k.items (version_key_of c.args.version.now) c.new-versions.result.entries ∙ ap (versions_on k.items) c.new-versions.ensures.empty in
    ap versions_of is ∙ versions_of-insert k new c.args.paths.now.entries missing none

pub returns-clause-slots : goal.returns-clause-slots
returns-clause-slots c v h =
    let k = c.into_parts-parts.result in
    let new = c.add_slot-2.new.versions in
    let is = c.in_ok-insert.ensures.entries ∙ ap (λ (m : VersionStore). insert_entry key_order m.entries k new) c.get_mut.follows.holds-at-none in
    let path = c.as_parts.ensures.value ∙ sym c.in_ok-try_copy.ensures ∙ sym c.into_parts-parts.ensures.value in
    let missing = subst (λ q. at_path q c.args.paths.now.entries ≡ None) path (sym c.in_default.ensures.value) in
    subst (λ es. HasSlot es v) (sym is) (has_slot-insert v k new c.args.paths.now.entries missing h)

pub returns-clause-slot : goal.returns-clause-slot
returns-clause-slot c =
    let k = c.into_parts-parts.result in
    let new = c.add_slot-2.new.versions in
    let v = c.args.version.now in
    let is = c.in_ok-insert.ensures.entries ∙ ap (λ (m : VersionStore). insert_entry key_order m.entries k new) c.get_mut.follows.holds-at-none in
    let copied = sym c.in_ok-try_copy.ensures ∙ sym c.into_parts-parts.ensures.value in
    let missing = subst (λ q. at_path q c.args.paths.now.entries ≡ None) (c.as_parts.ensures.value ∙ copied) (sym c.in_default.ensures.value) in
    let some = subst (λ slots. IsSome (at_version_key (version_key_of v) slots)) (sym c.in_ok-add_slot.ensures.ok) (slot-made (version_key_of v) c.new-versions.result.entries) in
    subst (λ es. HasSlot es v) (sym is) (has_slot-inserted v k new c.args.paths.now.entries missing copied some)
