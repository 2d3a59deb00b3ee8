use Rattle.std.proofs.Common.{◌≡◌, ◌<◌, true, false, List, Some, None, sym, ap, ◌∙◌, subst, rules}
use Rattle.std.specs.Prelude.{IsSome, is_some, MatchOption}
use Rattle.std.specs.BTreeMap.{IsOrdered}
use Rattle.std.specs.Map.{set_value}
use Rattle.txn_data.specs.declared.version.Version.{Version}
use Rattle.regular_records.specs.declared.version_value.VersionValue.{VersionValue}
use Rattle.regular_records.specs.Store.{Key, PathVersions, versions_of, versions_on}
use Rattle.regular_records.specs.Kept.{version_key_order, AreKept}
use Rattle.regular_records.specs.Adding.{HasSlot, Replaces, at_path, at_version_key, version_key_of}
use Rattle.regular_records.proofs.Kept.{lookup-found}
use Rattle.regular_records.proofs.Down.{entry-kept}
use Rattle.regular_records.proofs.Made.{key_at, kept-set, has_slot-set}
use Rattle.regular_records.proofs.Filled.{filled-slots, filled-entries, slot-set}
use Rattle.regular_records.proofs.adding.fill_slot.Goals as goal

pub returns-in-Some-get_mut-clause-kept : goal.returns-in-Some-get_mut-clause-kept
returns-in-Some-get_mut-clause-kept c =
    let filled = Some (record { wrote = c.args.version.wrote; op = c.args.version.op }) in
    let inner = c.get_mut-in-Some.follows.holds filled in
    let outer = c.get_mut.follows.holds (c.get_mut-in-Some.follows.lender filled) in
    (outer.4, subst AreKept (sym outer.0) (kept-set _ _ c.args.paths.now.entries c.requires.kept.1 inner.4))

pub returns-in-Some-get_mut-clause-slots : goal.returns-in-Some-get_mut-clause-slots
returns-in-Some-get_mut-clause-slots c v h =
    let filled = Some (record { wrote = c.args.version.wrote; op = c.args.version.op }) in
    let inner = c.get_mut-in-Some.follows.holds filled in
    let new = c.get_mut-in-Some.follows.lender filled in
    let outer = c.get_mut.follows.holds new in
    let old = c.in-Some.versions.now in
    let p = c.as_parts.result.now.items in
    subst (λ es. HasSlot es v) (sym outer.0)
    (has_slot-set v p old new c.args.paths.now.entries (sym c.in-Some.ensures.value)
    (λ n k. subst (λ slots. IsSome (at_version_key n slots)) (sym inner.0) (slot-set (version_key_of c.args.version) n old.entries filled k)) h)

pub returns-in-Some-get_mut-clause-versions : goal.returns-in-Some-get_mut-clause-versions
returns-in-Some-get_mut-clause-versions c =
    let v = c.args.version in
    let held : VersionValue = record { wrote = v.wrote; op = v.op } in
    let filled = Some held in
    let inner = c.get_mut-in-Some.follows.holds filled in
    let new = c.get_mut-in-Some.follows.lender filled in
    let outer = c.get_mut.follows.holds new in
    let old = c.in-Some.versions.now in
    let es = c.args.paths.now.entries in
    let path = c.as_parts.ensures.value in
    let small : v.number < 4294967296 = search rules in
    let there : at_path v.path es ≡ Some old = subst (λ q. at_path q es ≡ Some old) path (sym c.in-Some.ensures.value) in
    let e = lookup-found es v.path old there in
    let ordered : IsOrdered version_key_order old = subst (λ (m : PathVersions). IsOrdered version_key_order m) e.3 (entry-kept es c.requires.kept.1 e.0 e.1).2 in
    let some : IsSome (at_version_key (version_key_of v) old.entries) = subst (λ o. MatchOption o ⊥ (λ (m : PathVersions). IsSome (at_version_key (version_key_of v) m.entries))) there c.requires.slot in
    let inside = filled-slots v.path (version_key_of v) held old.entries small ordered some in
    let put = subst (λ slots. Replaces v (versions_on v.path old.entries) (versions_on v.path slots)) (sym inner.0) inside in
    let whole = filled-entries v old new es c.requires.kept.0 there put in
    subst (λ after. Replaces v (versions_of es) (versions_of after)) (ap (λ q. set_value (key_at q) es new) (sym path) ∙ sym outer.0) whole

-- there is a slot, so it is found
no-slot : (v : Version) (es : List (Key × PathVersions)) (old : PathVersions) → at_path v.path es ≡ Some old → HasSlot es v → at_version_key (version_key_of v) old.entries ≡ None → ⊥
no-slot v es old there has none =
    let some : IsSome (at_version_key (version_key_of v) old.entries) = subst (λ o. MatchOption o ⊥ (λ (m : PathVersions). IsSome (at_version_key (version_key_of v) m.entries))) there has in
    let bad : false ≡ true = sym (ap is_some none) ∙ some in
    cc

no-entry : (v : Version) (es : List (Key × PathVersions)) → at_path v.path es ≡ None → HasSlot es v → ⊥
no-entry v es none has = subst (λ o. MatchOption o ⊥ (λ (m : PathVersions). IsSome (at_version_key (version_key_of v) m.entries))) none has

pub returns-in-Some-clause-kept : goal.returns-in-Some-clause-kept
returns-in-Some-clause-kept c =
    let v = c.args.version in
    let es = c.args.paths.now.entries in
    let there = subst (λ q. at_path q es ≡ Some c.in-Some.versions.now) c.as_parts.ensures.value (sym c.in-Some.ensures.value) in
    absurd (no-slot v es c.in-Some.versions.now there c.requires.slot (sym c.in_default-get_mut.ensures.value))

pub returns-in-Some-clause-versions : goal.returns-in-Some-clause-versions
returns-in-Some-clause-versions c =
    let v = c.args.version in
    let es = c.args.paths.now.entries in
    let there = subst (λ q. at_path q es ≡ Some c.in-Some.versions.now) c.as_parts.ensures.value (sym c.in-Some.ensures.value) in
    absurd (no-slot v es c.in-Some.versions.now there c.requires.slot (sym c.in_default-get_mut.ensures.value))

pub returns-in-Some-clause-slots : goal.returns-in-Some-clause-slots
returns-in-Some-clause-slots c =
    let v = c.args.version in
    let es = c.args.paths.now.entries in
    let there = subst (λ q. at_path q es ≡ Some c.in-Some.versions.now) c.as_parts.ensures.value (sym c.in-Some.ensures.value) in
    absurd (no-slot v es c.in-Some.versions.now there c.requires.slot (sym c.in_default-get_mut.ensures.value))

pub returns-clause-versions : goal.returns-clause-versions
returns-clause-versions c =
    let missing = subst (λ q. at_path q c.args.paths.now.entries ≡ None) c.as_parts.ensures.value (sym c.in_default.ensures.value) in
    absurd (no-entry c.args.version c.args.paths.now.entries missing c.requires.slot)
