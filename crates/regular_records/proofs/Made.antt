-- Slots that are made: no version comes or goes.
use Rattle.std.proofs.Common.{◌≡◌, ◌≤◌, Bool, true, false, List, [], ◌∷◌, ◌++◌, Option, Some, None, cond, if◌then◌else◌, length, refl, sym, ap, ◌∙◌, ◌⊎◌, inl, inr, subst}
use Rattle.std.specs.Prelude.{is_some, IsSome, MatchOption, Result, Ok, Err, OnOk, OnErr}
use Rattle.std.specs.List.{cons_option}
use Rattle.std.specs.BTreeMap.{IsOrdered, insert_entry}
use Rattle.std.specs.Map.{lookup, set_value}
use Rattle.std.specs.Cmp.{tied_itself, IsTotalOrder}
use Rattle.std.specs.Cmp.Rules.{comparing}
use Rattle.std.specs.Ordering.{is_eq, match_ordering}
use Rattle.std.specs.declared.cmp.Ordering.{Ordering}
use Rattle.std.specs.declared.cmp.Ordering.TheVariants.{Less, Equal, Greater}
use Rattle.std.proofs.Common.{rules}
use Rattle.doc_path.specs.Path.{Parts}
use Rattle.txn_data.specs.declared.version.Version.{Version}
use Rattle.regular_records.specs.declared.version_key.VersionKey.{VersionKey}
use Rattle.regular_records.specs.declared.version_value.VersionValue.{VersionValue}
use Rattle.regular_records.specs.Store.{Key, PathVersions, Slot, shown, versions_on, versions_of}
use Rattle.regular_records.specs.Kept.{version_key_order, key_order, AreKept}
use Rattle.regular_records.specs.Adding.{at_path, at_version_key, with_slot, version_key_of, HasSlot, HaveSlots}
use Rattle.regular_records.proofs.Order.{parts_cmp, parts_total, parts_exact}

pub version_key_total : IsTotalOrder version_key_order
version_key_total = search (comparing, rules)

abbrev pub key_at : Parts → Key → Bool
key_at p k = is_eq (parts_cmp p k.items)

abbrev pub slot_at : VersionKey → VersionKey → Bool
slot_at m n = is_eq (version_key_order m n)

-- ---- an entry or a slot that was not there

abbrev placed : {K X : Type 0} → (K → K → Ordering) → Ordering → K → X → K × X → List (K × X) → List (K × X)
placed cmp o k v e es = match_ordering o ((k, v) ∷ e ∷ es) ((e.0, v) ∷ es) (e ∷ insert_entry cmp es k v)

missing-head : {K X : Type 0} (test : K → Bool) (e : K × X) (es : List (K × X)) → lookup test (e ∷ es) ≡ None → (test e.0 ≡ false) × (lookup test es ≡ None)
missing-head {K} {X} test e es h =
    let P : Bool → Type 0 = λ b. test e.0 ≡ b → cond b (Some e.1) (lookup test es) ≡ None → (test e.0 ≡ false) × (lookup test es ≡ None) in
    (elim (test e.0) as P [ true ↦ λ t n. cc | false ↦ λ t n. (t, n) ]) refl h

pub versions-insert : (p : Parts) (m : VersionKey) (slots : List Slot) → at_version_key m slots ≡ None → versions_on p (insert_entry version_key_order slots m None) ≡ versions_on p slots
versions-insert p m [] h = refl
versions-insert p m (s ∷ slots) h =
    let head = missing-head (slot_at m) s slots h in
    let P : Ordering → Type 0 = λ o. version_key_order m s.0 ≡ o → versions_on p (placed version_key_order o m None s slots) ≡ versions_on p (s ∷ slots) in
    (elim (version_key_order m s.0) as P [
      | Less ↦ λ o. refl
      | Equal ↦ λ o. let bad : true ≡ false = sym (ap is_eq o) ∙ head.0 in cc
      | Greater ↦ λ o. ap (cons_option (shown p s)) (versions-insert p m slots head.1)
    ]) refl

pub versions-with : (p : Parts) (m : VersionKey) (slots : List Slot) → versions_on p (with_slot m slots) ≡ versions_on p slots
versions-with p m slots =
    let P : Option (Option VersionValue) → Type 0 = λ o. at_version_key m slots ≡ o → versions_on p (if is_some o then slots else insert_entry version_key_order slots m None) ≡ versions_on p slots in
    (elim (at_version_key m slots) as P [ Some x ↦ λ e. refl | None ↦ λ e. versions-insert p m slots e ]) refl

pub versions_of-insert : (k : Key) (new : PathVersions) (es : List (Key × PathVersions)) → at_path k.items es ≡ None → versions_on k.items new.entries ≡ []
    → versions_of (insert_entry key_order es k new) ≡ versions_of es
versions_of-insert k new [] h none = ap (λ vs. vs ++ []) none
versions_of-insert k new (e ∷ es) h none =
    let head = missing-head (key_at k.items) e es h in
    let P : Ordering → Type 0 = λ o. key_order k e.0 ≡ o → versions_of (placed key_order o k new e es) ≡ versions_of (e ∷ es) in
    (elim (key_order k e.0) as P [
      | Less ↦ λ o. ap (λ vs. vs ++ versions_of (e ∷ es)) none
      | Equal ↦ λ o. let bad : true ≡ false = sym (ap is_eq o) ∙ head.0 in cc
      | Greater ↦ λ o. ap (λ vs. versions_on e.0.items e.1.entries ++ vs) (versions_of-insert k new es head.1 none)
    ]) refl

pub versions_of-set : (p : Parts) (old new : PathVersions) (es : List (Key × PathVersions)) → at_path p es ≡ Some old
    → ((q : Parts) → versions_on q new.entries ≡ versions_on q old.entries)
    → versions_of (set_value (key_at p) es new) ≡ versions_of es
versions_of-set p old new [] h same = refl
versions_of-set p old new (e ∷ es) h same =
    let P : Bool → Type 0 = λ b. cond b (Some e.1) (at_path p es) ≡ Some old
    → versions_of (cond b ((e.0, new) ∷ es) (e ∷ set_value (key_at p) es new)) ≡ versions_of (e ∷ es) in
    (elim (key_at p e.0) as P [
      | true ↦ λ t. let is : e.1 ≡ old = cc in ap (λ vs. vs ++ versions_of es) (same e.0.items ∙ ap (λ (m : PathVersions). versions_on e.0.items m.entries) (sym is))
      | false ↦ λ t. ap (λ vs. versions_on e.0.items e.1.entries ++ vs) (versions_of-set p old new es t same)
    ]) h

-- ---- what there is a slot for

some-cond : {A : Type 0} (b : Bool) (x : A) (o : Option A) → IsSome o → IsSome (cond b (Some x) o)
some-cond true x o h = refl
some-cond false x o h = h

more-cond : {A : Type 0} (b : Bool) (x : A) (o r : Option A) → (IsSome o → IsSome r) → IsSome (cond b (Some x) o) → IsSome (cond b (Some x) r)
more-cond true x o r f h = refl
more-cond false x o r f h = f h

pub slot-insert : (m n : VersionKey) (slots : List Slot) → IsSome (at_version_key n slots) → IsSome (at_version_key n (insert_entry version_key_order slots m None))
slot-insert m n [] h = cc
slot-insert m n (s ∷ slots) h =
    elim (version_key_order m s.0) as (λ o. IsSome (at_version_key n (placed version_key_order o m None s slots))) [
      | Less ↦ some-cond (slot_at n m) None (at_version_key n (s ∷ slots)) h
      | Equal ↦ let P : Bool → Type 0 = λ b. IsSome (cond b (Some s.1) (at_version_key n slots)) → IsSome (cond b (Some None) (at_version_key n slots)) in
          (elim (slot_at n s.0) as P [ true ↦ λ k. refl | false ↦ λ k. k ]) h
      | Greater ↦ more-cond (slot_at n s.0) s.1 (at_version_key n slots) (at_version_key n (insert_entry version_key_order slots m None)) (slot-insert m n slots) h
    ]

pub slot-inserted : (m : VersionKey) (slots : List Slot) → IsSome (at_version_key m (insert_entry version_key_order slots m None))
slot-inserted m [] =
    let none : Option (Option VersionValue) = None in
    ap (λ b. is_some (cond b (Some None) none)) (ap is_eq (tied_itself version_key_total m))
slot-inserted m (s ∷ slots) =
    let P : Ordering → Type 0 = λ o. version_key_order m s.0 ≡ o → IsSome (at_version_key m (placed version_key_order o m None s slots)) in
    (elim (version_key_order m s.0) as P [
      | Less ↦ λ o. ap (λ b. is_some (cond b (Some None) (at_version_key m (s ∷ slots)))) (ap is_eq (tied_itself version_key_total m))
      | Equal ↦ λ o. ap (λ b. is_some (cond b (Some None) (at_version_key m slots))) (ap is_eq o)
      | Greater ↦ λ o. ap (λ b. is_some (cond b (Some s.1) (at_version_key m (insert_entry version_key_order slots m None)))) (ap is_eq o) ∙ slot-inserted m slots
    ]) refl

pub slot-with : (m n : VersionKey) (slots : List Slot) → IsSome (at_version_key n slots) → IsSome (at_version_key n (with_slot m slots))
slot-with m n slots h = elim (is_some (at_version_key m slots)) as (λ b. IsSome (at_version_key n (if b then slots else insert_entry version_key_order slots m None))) [ true ↦ h | false ↦ slot-insert m n slots h ]

pub slot-made : (m : VersionKey) (slots : List Slot) → IsSome (at_version_key m (with_slot m slots))
slot-made m slots =
    let P : Bool → Type 0 = λ b. is_some (at_version_key m slots) ≡ b → IsSome (at_version_key m (if b then slots else insert_entry version_key_order slots m None)) in
    (elim (is_some (at_version_key m slots)) as P [ true ↦ λ e. e | false ↦ λ e. slot-inserted m slots ]) refl

abbrev SlotIn : Version → Option PathVersions → Type 0
SlotIn v o = MatchOption o ⊥ (λ (m : PathVersions). IsSome (at_version_key (version_key_of v) m.entries))

slot-cond : (v : Version) (b : Bool) (x : PathVersions) (o r : Option PathVersions) → (SlotIn v o → SlotIn v r) → SlotIn v (cond b (Some x) o) → SlotIn v (cond b (Some x) r)
slot-cond v true x o r f h = h
slot-cond v false x o r f h = f h

pub has_slot-set : (v : Version) (p : Parts) (old new : PathVersions) (es : List (Key × PathVersions)) → at_path p es ≡ Some old
    → ((n : VersionKey) → IsSome (at_version_key n old.entries) → IsSome (at_version_key n new.entries))
    → HasSlot es v → HasSlot (set_value (key_at p) es new) v
has_slot-set v p old new [] h more k = k
has_slot-set v p old new (e ∷ es) h more k =
    let P : Bool → Type 0 = λ b. cond b (Some e.1) (at_path p es) ≡ Some old → SlotIn v (at_path v.path (cond b ((e.0, new) ∷ es) (e ∷ set_value (key_at p) es new))) in
    (elim (key_at p e.0) as P [
      | true ↦ λ t.
          let is : e.1 ≡ old = cc in
          let Q : Bool → Type 0 = λ c. SlotIn v (cond c (Some e.1) (at_path v.path es)) → SlotIn v (cond c (Some new) (at_path v.path es)) in
          (elim (key_at v.path e.0) as Q [
            | true ↦ λ k. more (version_key_of v) (subst (λ (m : PathVersions). IsSome (at_version_key (version_key_of v) m.entries)) is k)
            | false ↦ λ k. k
          ]) k
      | false ↦ λ t. slot-cond v (key_at v.path e.0) e.1 (at_path v.path es) (at_path v.path (set_value (key_at p) es new)) (has_slot-set v p old new es t more) k
    ]) h

pub has_slot-here : (v : Version) (old new : PathVersions) (es : List (Key × PathVersions)) → at_path v.path es ≡ Some old → IsSome (at_version_key (version_key_of v) new.entries)
    → HasSlot (set_value (key_at v.path) es new) v
has_slot-here v old new [] h some = cc
has_slot-here v old new (e ∷ es) h some =
    let P : Bool → Type 0 = λ b. key_at v.path e.0 ≡ b → cond b (Some e.1) (at_path v.path es) ≡ Some old → SlotIn v (at_path v.path (cond b ((e.0, new) ∷ es) (e ∷ set_value (key_at v.path) es new))) in
    (elim (key_at v.path e.0) as P [
      | true ↦ λ b t. subst (λ c. SlotIn v (cond c (Some new) (at_path v.path es))) (sym b) some
      | false ↦ λ b t. subst (λ c. SlotIn v (cond c (Some e.1) (at_path v.path (set_value (key_at v.path) es new)))) (sym b) (has_slot-here v old new es t some)
    ]) refl h

equal-is : (o : Ordering) → is_eq o ≡ true → o ≡ Equal
equal-is Less h = cc
equal-is Equal h = refl
equal-is Greater h = cc

pub has_slot-insert : (v : Version) (k : Key) (new : PathVersions) (es : List (Key × PathVersions)) → at_path k.items es ≡ None → HasSlot es v → HasSlot (insert_entry key_order es k new) v
has_slot-insert v k new [] h s = absurd s
has_slot-insert v k new (e ∷ es) h s =
    let head = missing-head (key_at k.items) e es h in
    let P : Ordering → Type 0 = λ o. key_order k e.0 ≡ o → SlotIn v (at_path v.path (placed key_order o k new e es)) in
    (elim (key_order k e.0) as P [
      | Less ↦ λ o.
          let Q : Bool → Type 0 = λ b. key_at v.path k ≡ b → SlotIn v (cond b (Some new) (at_path v.path (e ∷ es))) in
          (elim (key_at v.path k) as Q [
            | true ↦ λ b. let is : v.path ≡ k.items = parts_exact v.path k.items (equal-is (parts_cmp v.path k.items) b) in absurd (subst (SlotIn v) (ap (λ p. at_path p (e ∷ es)) is ∙ h) s)
            | false ↦ λ b. s
          ]) refl
      | Equal ↦ λ o. let bad : true ≡ false = sym (ap is_eq o) ∙ head.0 in cc
      | Greater ↦ λ o. slot-cond v (key_at v.path e.0) e.1 (at_path v.path es) (at_path v.path (insert_entry key_order es k new)) (has_slot-insert v k new es head.1) s
    ]) refl

pub has_slot-inserted : (v : Version) (k : Key) (new : PathVersions) (es : List (Key × PathVersions)) → at_path k.items es ≡ None → v.path ≡ k.items → IsSome (at_version_key (version_key_of v) new.entries)
    → HasSlot (insert_entry key_order es k new) v
has_slot-inserted v k new [] h is some =
    subst (λ b. SlotIn v (cond b (Some new) None)) (sym (ap is_eq (ap (λ p. parts_cmp p k.items) is ∙ tied_itself parts_total k.items))) some
has_slot-inserted v k new (e ∷ es) h is some =
    let head = missing-head (key_at k.items) e es h in
    let P : Ordering → Type 0 = λ o. key_order k e.0 ≡ o → SlotIn v (at_path v.path (placed key_order o k new e es)) in
    (elim (key_order k e.0) as P [
      | Less ↦ λ o. subst (λ b. SlotIn v (cond b (Some new) (at_path v.path (e ∷ es)))) (sym (ap is_eq (ap (λ p. parts_cmp p k.items) is ∙ tied_itself parts_total k.items))) some
      | Equal ↦ λ o. let bad : true ≡ false = sym (ap is_eq o) ∙ head.0 in cc
      | Greater ↦ λ o. subst (λ b. SlotIn v (cond b (Some e.1) (at_path v.path (insert_entry key_order es k new)))) (sym (ap (λ p. key_at p e.0) is ∙ head.0)) (has_slot-inserted v k new es head.1 is some)
    ]) refl

-- ---- what is kept

pub kept-set : (test : Key → Bool) (new : PathVersions) (es : List (Key × PathVersions)) → AreKept es → IsOrdered version_key_order new → AreKept (set_value test es new)
kept-set test new [] k o = tt
kept-set test new (e ∷ es) k o = elim (test e.0) as (λ b. AreKept (cond b ((e.0, new) ∷ es) (e ∷ set_value test es new))) [ true ↦ ((k.0.0, k.0.1, o), k.1) | false ↦ (k.0, kept-set test new es k.1 o) ]

pub kept-insert : (j : Key) (new : PathVersions) (es : List (Key × PathVersions)) → AreKept es → 1 ≤ length j.items → length j.items ≤ 5 → IsOrdered version_key_order new → AreKept (insert_entry key_order es j new)
kept-insert j new [] k least most o = ((least, most, o), tt)
kept-insert j new (e ∷ es) k least most o =
    elim (key_order j e.0) as (λ r. AreKept (placed key_order r j new e es)) [
      | Less ↦ ((least, most, o), k)
      | Equal ↦ ((k.0.0, k.0.1, o), k.1)
      | Greater ↦ (k.0, kept-insert j new es k.1 least most o)
    ]

pub have_slots-all : (old new : List (Key × PathVersions)) → ((v : Version) → HasSlot old v → HasSlot new v) → (vs : List Version) → HaveSlots old vs → HaveSlots new vs
have_slots-all old new f [] h = tt
have_slots-all old new f (v ∷ vs) h = (f v h.0, have_slots-all old new f vs h.1)

pub have_slots-push : (es : List (Key × PathVersions)) (vs : List Version) (v : Version) → HaveSlots es vs → HasSlot es v → HaveSlots es (vs ++ v ∷ [])
have_slots-push es [] v h k = (k, tt)
have_slots-push es (u ∷ vs) v h k = (h.0, have_slots-push es vs v h.1 k)

-- ---- a slot made in an entry that is there

pub either : {A E : Type 0} (r : Result A E) (P Q : Type 0) → OnOk r P → OnErr r Q → P ⊎ Q
either (Ok x) P Q p q = inl p
either (Err e) P Q p q = inr q

abbrev pub Added : VersionKey → PathVersions → PathVersions → Type 0
Added m old new = (new.entries ≡ with_slot m old.entries) ⊎ (new.entries ≡ old.entries)

pub added-versions : (m : VersionKey) (old new : PathVersions) → Added m old new → (q : Parts) → versions_on q new.entries ≡ versions_on q old.entries
added-versions m old new a q = elim a [ inl e ↦ ap (versions_on q) e ∙ versions-with q m old.entries | inr e ↦ ap (versions_on q) e ]

pub added-slots : (m : VersionKey) (old new : PathVersions) → Added m old new → (n : VersionKey) → IsSome (at_version_key n old.entries) → IsSome (at_version_key n new.entries)
added-slots m old new a n h =
    let P : List Slot → Type 0 = λ slots. IsSome (at_version_key n slots) in
    elim a [ inl e ↦ subst P (sym e) (slot-with m n old.entries h) | inr e ↦ subst P (sym e) h ]
