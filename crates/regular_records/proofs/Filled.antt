-- A slot that is filled: one version takes the place of another, or comes new.
use Rattle.std.proofs.Common.{◌≡◌, ◌<◌, Bool, true, false, List, [], ◌∷◌, ◌++◌, Option, Some, None, cond, if◌then◌else◌, nat_lt, refl, sym, ap, ◌∙◌, arith, ◌⊎◌, inl, inr, subst}
use Rattle.std.specs.Prelude.{IsSome, ◌↔◌}
use Rattle.std.specs.List.{cons_option, AllByRecursion}
use Rattle.std.specs.List.Sorted.{IsStrictlySortedBy}
use Rattle.std.specs.Map.{keys_of, set_value}
use Rattle.std.specs.Cmp.{tied_itself}
use Rattle.std.specs.Ordering.{is_eq}
use Rattle.std.specs.declared.cmp.Ordering.{Ordering}
use Rattle.std.specs.declared.cmp.Ordering.TheVariants.{Less, Equal, Greater}
use Rattle.std.proofs.lemmas.Bool.Decides.{nat_tests}
use Rattle.doc_path.specs.Path.{Parts}
use Rattle.txn_data.specs.declared.version.Version.{Version}
use Rattle.txn_types.specs.Lists.{Member}
use Rattle.txn_types.specs.Tablet.{same_place}
use Rattle.regular_records.specs.declared.version_key.VersionKey.{VersionKey}
use Rattle.regular_records.specs.declared.version_value.VersionValue.{VersionValue}
use Rattle.regular_records.specs.Store.{Key, PathVersions, Slot, version_of, shown, versions_on, versions_of}
use Rattle.regular_records.specs.Kept.{version_key_order, key_order}
use Rattle.regular_records.specs.Adding.{at_path, at_version_key, Replaces}
use Rattle.regular_records.proofs.Order.{parts_cmp, parts_total, parts_exact}
use Rattle.regular_records.proofs.Kept.{member-append, member-left, member-right, member-cons_option, member-cons, member-here, slot-of, shown-path, key-member, all-member, entry-of, path-on}
use Rattle.regular_records.proofs.Placed.{apart-from, apart-places}
use Rattle.regular_records.proofs.Made.{key_at, slot_at}

-- ---- versions

version_key-is : (m n : VersionKey) → slot_at m n ≡ true → (n.at ≡ m.at) × (n.number ≡ m.number)
version_key-is m n h = (grind (arith, nat_tests), grind (arith, nat_tests))

version_key-from : (m n : VersionKey) → n.at ≡ m.at → n.number ≡ m.number → slot_at m n ≡ true
version_key-from m n a b = grind (arith, nat_tests)

version_key-less : (m n : VersionKey) → version_key_order m n ≡ Less → n.at ≡ m.at → n.number ≡ m.number → ⊥
version_key-less m n h a b =
    let equal = version_key-from m n a b in
    let bad : false ≡ true = sym (ap is_eq h) ∙ equal in
    cc

-- ---- in the slots of one path

abbrev ReplacesOn : Version → List Version → List Version → Version → Type 0
ReplacesOn v old new u = Member u new ↔ ((u ≡ v) ⊎ (Member u old × (same_place u v ≡ false)))

filled-here : (p : Parts) (m : VersionKey) (h : VersionValue) (s : Slot) (slots : List Slot) → m.number < 4294967296 → slot_at m s.0 ≡ true
    → AllByRecursion (λ y. version_key_order s.0 y ≡ Less) (keys_of slots)
    → Replaces (version_of p m h) (versions_on p (s ∷ slots)) (versions_on p ((s.0, Some h) ∷ slots))
filled-here p m h s slots small at after u =
    let v = version_of p m h in
    let is = version_key-is m s.0 at in
    let fits : nat_lt s.0.number 4294967296 ≡ true = (let n = is.1 in grind (arith, nat_tests)) in
    let shows : shown p (s.0, Some h) ≡ Some v =
    ap (λ b. if b then Some (version_of p s.0 h) else None) fits
    ∙ ap (λ n. Some (record { path = p; at = n; wrote = h.wrote; number = s.0.number; op = h.op })) is.0
    ∙ ap (λ n. Some (record { path = p; at = m.at; wrote = h.wrote; number = n; op = h.op })) is.1 in
    let list : versions_on p ((s.0, Some h) ∷ slots) ≡ v ∷ versions_on p slots = ap (λ o. cons_option o (versions_on p slots)) shows in (
      λ k. elim (subst (Member u) list k) [
        | inl e ↦ inl e
        | inr n ↦
            let other = slot-of p slots u n in
            let there = shown-path p other.0 u other.2 in
            inr (
              member-cons u (shown p s) (versions_on p slots) n,
              apart-from u v (λ one.
                  version_key-less s.0 other.0.0 (all-member (λ y. version_key_order s.0 y ≡ Less) (keys_of slots) other.0.0 after other.1)
                  (sym there.1 ∙ one.1 ∙ sym is.0) (sym there.2 ∙ one.2 ∙ sym is.1)),
            )
      ],
      λ k. subst (Member u) (sym list) (elim k [
        | inl e ↦ inl e
        | inr n ↦ elim (member-cons_option u (shown p s) (versions_on p slots) n.0) [
          | inl e ↦ let place = shown-path p s u e in absurd (apart-places u v n.1 (place.0, place.1 ∙ is.0, place.2 ∙ is.1))
          | inr o ↦ inr o
        ]
      ]),
    )

filled-later : (p : Parts) (m : VersionKey) (h : VersionValue) (s : Slot) (old new : List Version) → slot_at m s.0 ≡ false
    → Replaces (version_of p m h) old new → Replaces (version_of p m h) (cons_option (shown p s) old) (cons_option (shown p s) new)
filled-later p m h s old new apart r u =
    let v = version_of p m h in (
      λ k. elim (member-cons_option u (shown p s) new k) [
        | inl e ↦
            let place = shown-path p s u e in
            inr (
              member-here u (shown p s) old e,
              apart-from u v (λ one.
                  let same = version_key-from m s.0 (sym place.1 ∙ one.1) (sym place.2 ∙ one.2) in
                  let bad : true ≡ false = sym same ∙ apart in cc),
            )
        | inr n ↦ elim ((r u).0 n) [ inl e ↦ inl e | inr o ↦ inr (member-cons u (shown p s) old o.0, o.1) ]
      ],
      λ k. elim k [
        | inl e ↦ member-cons u (shown p s) new ((r u).1 (inl e))
        | inr n ↦ elim (member-cons_option u (shown p s) old n.0) [
          | inl e ↦ member-here u (shown p s) new e
          | inr o ↦ member-cons u (shown p s) new ((r u).1 (inr (o, n.1)))
        ]
      ],
    )

pub filled-slots : (p : Parts) (m : VersionKey) (h : VersionValue) (slots : List Slot) → m.number < 4294967296 → IsStrictlySortedBy version_key_order (keys_of slots) → IsSome (at_version_key m slots)
    → Replaces (version_of p m h) (versions_on p slots) (versions_on p (set_value (slot_at m) slots (Some h)))
unfolding IsStrictlySortedBy
filled-slots p m h [] small o some = cc
filled-slots p m h (s ∷ slots) small o some =
    let P : Bool → Type 0 = λ b. slot_at m s.0 ≡ b → IsSome (cond b (Some s.1) (at_version_key m slots))
    → Replaces (version_of p m h) (versions_on p (s ∷ slots)) (versions_on p (cond b ((s.0, Some h) ∷ slots) (s ∷ set_value (slot_at m) slots (Some h)))) in
    (elim (slot_at m s.0) as P [
      | true ↦ λ b k. filled-here p m h s slots small b o.0
      | false ↦ λ b k. filled-later p m h s (versions_on p slots) (versions_on p (set_value (slot_at m) slots (Some h))) b (filled-slots p m h slots small o.1 k)
    ]) refl some

-- ---- in the entries

equal-is : (o : Ordering) → is_eq o ≡ true → o ≡ Equal
equal-is Less h = cc
equal-is Equal h = refl
equal-is Greater h = cc

entry-here : (v : Version) (e : Key × PathVersions) (new : PathVersions) (es : List (Key × PathVersions)) → e.0.items ≡ v.path
    → AllByRecursion (λ y. key_order e.0 y ≡ Less) (keys_of es)
    → Replaces v (versions_on e.0.items e.1.entries) (versions_on e.0.items new.entries)
    → Replaces v (versions_of (e ∷ es)) (versions_of ((e.0, new) ∷ es))
entry-here v e new es is after r u =
    let old = versions_on e.0.items e.1.entries in
    let put = versions_on e.0.items new.entries in
    let rest = versions_of es in (
      λ k. elim (member-append u put rest k) [
        | inl n ↦ elim ((r u).0 n) [ inl e ↦ inl e | inr o ↦ inr (member-left u old rest o.0, o.1) ]
        | inr n ↦
            let at = entry-of es u n in
            let path = path-on at.0.0.items at.0.1.entries u at.2 in
            inr (
              member-right u old rest n,
              apart-from u v (λ one.
                  let same : at.0.0.items ≡ e.0.items = sym path ∙ one.0 ∙ sym is in
                  let less = all-member (λ y. key_order e.0 y ≡ Less) (keys_of es) at.0.0 after (key-member es at.0 at.1) in
                  let bad : Equal ≡ Less = sym (ap (parts_cmp e.0.items) same ∙ tied_itself parts_total e.0.items) ∙ less in cc),
            )
      ],
      λ k. elim k [
        | inl e ↦ member-left u put rest ((r u).1 (inl e))
        | inr n ↦ elim (member-append u old rest n.0) [ inl o ↦ member-left u put rest ((r u).1 (inr (o, n.1))) | inr o ↦ member-right u put rest o ]
      ],
    )

entry-later : (v : Version) (e : Key × PathVersions) (old new : List Version) → (e.0.items ≡ v.path → ⊥) → Replaces v old new
    → Replaces v (versions_on e.0.items e.1.entries ++ old) (versions_on e.0.items e.1.entries ++ new)
entry-later v e old new apart r u =
    let own = versions_on e.0.items e.1.entries in (
      λ k. elim (member-append u own new k) [
        | inl n ↦ inr (member-left u own old n, apart-from u v (λ one. apart (sym (path-on e.0.items e.1.entries u n) ∙ one.0)))
        | inr n ↦ elim ((r u).0 n) [ inl e ↦ inl e | inr o ↦ inr (member-right u own old o.0, o.1) ]
      ],
      λ k. elim k [
        | inl e ↦ member-right u own new ((r u).1 (inl e))
        | inr n ↦ elim (member-append u own old n.0) [ inl o ↦ member-left u own new o | inr o ↦ member-right u own new ((r u).1 (inr (o, n.1))) ]
      ],
    )

pub filled-entries : (v : Version) (old new : PathVersions) (es : List (Key × PathVersions)) → IsStrictlySortedBy key_order (keys_of es) → at_path v.path es ≡ Some old
    → Replaces v (versions_on v.path old.entries) (versions_on v.path new.entries)
    → Replaces v (versions_of es) (versions_of (set_value (key_at v.path) es new))
unfolding IsStrictlySortedBy
filled-entries v old new [] o found r = cc
filled-entries v old new (e ∷ es) o found r =
    let P : Bool → Type 0 = λ b. key_at v.path e.0 ≡ b → cond b (Some e.1) (at_path v.path es) ≡ Some old
    → Replaces v (versions_of (e ∷ es)) (versions_of (cond b ((e.0, new) ∷ es) (e ∷ set_value (key_at v.path) es new))) in
    (elim (key_at v.path e.0) as P [
      | true ↦ λ b f.
          let path : v.path ≡ e.0.items = parts_exact v.path e.0.items (equal-is (parts_cmp v.path e.0.items) b) in
          let is : old ≡ e.1 = cc in
          let Q : Parts → PathVersions → Type 0 = λ q m. Replaces v (versions_on q m.entries) (versions_on q new.entries) in
          entry-here v e new es (sym path) o.0 (subst (λ q. Q q e.1) path (subst (Q v.path) is r))
      | false ↦ λ b f.
          entry-later v e (versions_of es) (versions_of (set_value (key_at v.path) es new))
          (λ same. let here : key_at v.path e.0 ≡ true = ap is_eq (ap (parts_cmp v.path) same ∙ tied_itself parts_total v.path) in let bad : true ≡ false = sym here ∙ b in cc)
          (filled-entries v old new es o.1 f r)
    ]) refl found

-- a slot that is filled stays, and so do the others
pub slot-set : (m n : VersionKey) (slots : List Slot) (x : Option VersionValue) → IsSome (at_version_key n slots) → IsSome (at_version_key n (set_value (slot_at m) slots x))
slot-set m n [] x h = h
slot-set m n (s ∷ slots) x h =
    elim (slot_at m s.0) as (λ b. IsSome (at_version_key n (cond b ((s.0, x) ∷ slots) (s ∷ set_value (slot_at m) slots x)))) [
      | true ↦ (let P : Bool → Type 0 = λ b. IsSome (cond b (Some s.1) (at_version_key n slots)) → IsSome (cond b (Some x) (at_version_key n slots)) in
          (elim (slot_at n s.0) as P [ true ↦ λ k. refl | false ↦ λ k. k ]) h)
      | false ↦ (let P : Bool → Type 0 = λ b. IsSome (cond b (Some s.1) (at_version_key n slots)) → IsSome (cond b (Some s.1) (at_version_key n (set_value (slot_at m) slots x))) in
          (elim (slot_at n s.0) as P [ true ↦ λ k. refl | false ↦ λ k. slot-set m n slots x k ]) h)
    ]
