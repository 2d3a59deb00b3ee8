-- What is found in the map of versions.
use Rattle.std.proofs.Common.{◌≡◌, ℕ, Bool, true, false, ◌&&◌, ◌||◌, List, [], ◌∷◌, ◌++◌, Option, Some, None, if◌then◌else◌, cond, nat_lt, nat_eq, refl, sym, ap, ◌∙◌, arith, ◌⊎◌, inl, inr, subst}
use Rattle.std.specs.Prelude.{nat_le}
use Rattle.std.specs.List.{cons_option, AllByRecursion}
use Rattle.std.specs.List.Sorted.{IsStrictlySortedBy}
use Rattle.std.specs.Map.{keys_of, lookup}
use Rattle.std.specs.BTreeMap.{is_at}
use Rattle.std.specs.Ordering.{is_eq, ordering_reverse}
use Rattle.std.specs.declared.cmp.Ordering.{Ordering}
use Rattle.std.specs.declared.cmp.Ordering.TheVariants.{Less, Equal, Greater}
use Rattle.std.proofs.lemmas.Bool.Decides.{nat_tests}
use Rattle.doc_path.specs.Path.{Parts, path_order}
use Rattle.txn_data.specs.declared.version.Version.{Version}
use Rattle.txn_types.specs.Lists.{Member, or_else}
use Rattle.txn_types.specs.Tablet.{version_before, not_after}
use Rattle.regular_records.specs.declared.version_key.VersionKey.{VersionKey}
use Rattle.regular_records.specs.Records.{later}
use Rattle.regular_records.specs.Store.{Key, PathVersions, Slot, version_of, shown, versions_on, versions_of, first_until}
use Rattle.regular_records.specs.Kept.{version_key_order, key_order}
use Rattle.regular_records.proofs.Order.{parts_cmp, parts_total, parts_exact, before-trans, before-total, before-itself}
use Rattle.regular_records.proofs.Newest.{later-none-back}
use Rattle.regular_records.proofs.Among.{IsNewestAmong, front}
use Rattle.std.specs.Cmp.{tied_itself}
use Rattle.std.specs.Ordering.{ordering_then, nat_cmp}

-- ---- members

pub member-append : (v : Version) (us vs : List Version) → Member v (us ++ vs) → Member v us ⊎ Member v vs
member-append v [] vs m = inr m
member-append v (u ∷ us) vs m = elim m [ inl e ↦ inl (inl e) | inr m ↦ elim (member-append v us vs m) [ inl n ↦ inl (inr n) | inr n ↦ inr n ] ]

pub member-left : (v : Version) (us vs : List Version) → Member v us → Member v (us ++ vs)
member-left v [] vs m = absurd m
member-left v (u ∷ us) vs m = elim m [ inl e ↦ inl e | inr m ↦ inr (member-left v us vs m) ]

pub member-right : (v : Version) (us vs : List Version) → Member v vs → Member v (us ++ vs)
member-right v [] vs m = m
member-right v (u ∷ us) vs m = inr (member-right v us vs m)

-- a version is kept in an entry
pub entry-of : (es : List (Key × PathVersions)) (v : Version) → Member v (versions_of es) → (e : Key × PathVersions) × Member e es × Member v (versions_on e.0.items e.1.entries)
entry-of [] v m = absurd m
entry-of (e ∷ es) v m = elim (member-append v (versions_on e.0.items e.1.entries) (versions_of es) m) [
  | inl n ↦ (e, inl refl, n)
  | inr n ↦ let rest = entry-of es v n in (rest.0, inr rest.1, rest.2)
]

pub kept-in : (es : List (Key × PathVersions)) (e : Key × PathVersions) (v : Version) → Member e es → Member v (versions_on e.0.items e.1.entries) → Member v (versions_of es)
kept-in [] e v m n = absurd m
kept-in (d ∷ es) e v m n = elim m [
  | inl is ↦ let P : Key × PathVersions → Type 0 = λ x. Member v (versions_on x.0.items x.1.entries) in member-left v (versions_on d.0.items d.1.entries) (versions_of es) (subst P is n)
  | inr m ↦ member-right v (versions_on d.0.items d.1.entries) (versions_of es) (kept-in es e v m n)
]

pub member-cons_option : (v : Version) (o : Option Version) (vs : List Version) → Member v (cons_option o vs) → (o ≡ Some v) ⊎ Member v vs
member-cons_option v None vs m = inr m
member-cons_option v (Some u) vs m = elim m [ inl e ↦ inl (ap Some (sym e)) | inr m ↦ inr m ]

pub member-cons : (v : Version) (o : Option Version) (vs : List Version) → Member v vs → Member v (cons_option o vs)
member-cons v None vs m = m
member-cons v (Some u) vs m = inr m

pub member-here : (v : Version) (o : Option Version) (vs : List Version) → o ≡ Some v → Member v (cons_option o vs)
member-here v None vs is = cc
member-here v (Some u) vs is = inl (cc)

-- what a slot shows
pub shown-path : (p : Parts) (s : Slot) (v : Version) → shown p s ≡ Some v → (v.path ≡ p) × (v.at ≡ s.0.at) × (v.number ≡ s.0.number)
shown-path p (m, None) v is = cc
shown-path p (m, Some h) v is =
    let P : Bool → Type 0 = λ b. (if b then Some (version_of p m h) else None) ≡ Some v → (v.path ≡ p) × (v.at ≡ m.at) × (v.number ≡ m.number) in
    (elim (nat_lt m.number 4294967296) as P [
      | true ↦ λ e. let same : version_of p m h ≡ v = cc in (sym (ap (λ (x : Version). x.path) same), sym (ap (λ (x : Version). x.at) same), sym (ap (λ (x : Version). x.number) same))
      | false ↦ λ e. cc
    ]) is

pub path-on : (p : Parts) (slots : List Slot) (v : Version) → Member v (versions_on p slots) → v.path ≡ p
path-on p [] v m = absurd m
path-on p (s ∷ slots) v m = elim (member-cons_option v (shown p s) (versions_on p slots) m) [ inl e ↦ (shown-path p s v e).0 | inr n ↦ path-on p slots v n ]

-- ---- the first slot up to t

older : (a b c d : ℕ) (last : Bool) → ordering_then (nat_cmp c a) (nat_cmp d b) ≡ Less → (nat_lt c a || (nat_eq c a && (nat_lt d b || (nat_eq d b && last)))) ≡ true
older a b c d last h = grind (arith, nat_tests)

pub key-member : (es : List (Key × PathVersions)) (e : Key × PathVersions) → Member e es → Member e.0 (keys_of es)
key-member [] e m = absurd m
key-member (d ∷ es) e m = elim m [ inl is ↦ inl (ap (λ (x : Key × PathVersions). x.0) is) | inr m ↦ inr (key-member es e m) ]

pub all-member : {K : Type 0} (P : K → Type 0) (ks : List K) (k : K) → AllByRecursion P ks → Member k ks → P k
all-member P [] k a m = absurd m
all-member P (j ∷ ks) k a m = elim m [ inl e ↦ subst P (sym e) a.0 | inr m ↦ all-member P ks k a.1 m ]

pub slot-of : (p : Parts) (slots : List Slot) (v : Version) → Member v (versions_on p slots) → (s : Slot) × Member s.0 (keys_of slots) × (shown p s ≡ Some v)
slot-of p [] v m = absurd m
slot-of p (s ∷ slots) v m = elim (member-cons_option v (shown p s) (versions_on p slots) m) [
  | inl e ↦ (s, inl refl, e)
  | inr n ↦ let rest = slot-of p slots v n in (rest.0, inr rest.1, rest.2)
]

older-before : (m n : VersionKey) (u v : Version) → version_key_order m n ≡ Less → u.at ≡ m.at → u.number ≡ m.number → v.at ≡ n.at → v.number ≡ n.number
    → version_before v u ≡ true
older-before m n u v h a b c d = rw (a, b, c, d) (older m.at m.number n.at n.number (not_after (path_order v.path u.path)) h)

slots-among : (t : ℕ) (p : Parts) (s : Slot) (slots : List Slot) (x : Option Version) (b : Bool) (r : Option Version)
    → shown p s ≡ x → nat_le s.0.at t ≡ b → AllByRecursion (λ y. version_key_order s.0 y ≡ Less) (keys_of slots)
    → IsNewestAmong (λ v. nat_le v.at t) (versions_on p slots) r
    → IsNewestAmong (λ v. nat_le v.at t) (cons_option x (versions_on p slots)) (or_else (if b then x else None) r)
slots-among t p s slots None true r is le a rest = rest
slots-among t p s slots None false r is le a rest = rest
slots-among t p s slots (Some u) false r is le a rest =
    let place = shown-path p s u is in
    subst (IsNewestAmong (λ v. nat_le v.at t) (u ∷ versions_on p slots)) (later-none-back r)
    (front (λ v. nat_le v.at t) u (versions_on p slots) false r (ap (λ n. nat_le n t) place.1 ∙ le) rest)
slots-among t p s slots (Some u) true r is le a rest =
    let place = shown-path p s u is in (
      inl refl,
      ap (λ n. nat_le n t) place.1 ∙ le,
      λ v m g. elim m [
        | inl e ↦ rw e (before-itself u)
        | inr m ↦ let other = slot-of p slots v m in
            let there = shown-path p other.0 v other.2 in
            older-before s.0 other.0.0 u v (all-member (λ y. version_key_order s.0 y ≡ Less) (keys_of slots) other.0.0 a other.1) place.1 place.2 there.1 there.2
      ],
    )

pub first-among : (t : ℕ) (p : Parts) (slots : List Slot) → IsStrictlySortedBy version_key_order (keys_of slots)
    → IsNewestAmong (λ v. nat_le v.at t) (versions_on p slots) (first_until t p slots)
unfolding IsStrictlySortedBy
first-among t p [] o = λ v m g. m
first-among t p (s ∷ slots) o =
    slots-among t p s slots (shown p s) (nat_le s.0.at t) (first_until t p slots) refl refl o.0 (first-among t p slots o.1)

-- ---- the entry of a path

greater-apart : (o r : Ordering) → o ≡ Less → r ≡ ordering_reverse o → is_eq r ≡ false
greater-apart o r less turned = ap is_eq (turned ∙ ap ordering_reverse less)

pub lookup-entry : (es : List (Key × PathVersions)) → IsStrictlySortedBy key_order (keys_of es) → (e : Key × PathVersions) → Member e es → (q : Parts) → e.0.items ≡ q
    → lookup (is_at (λ (k : Key). parts_cmp q k.items)) es ≡ Some e.1
unfolding IsStrictlySortedBy
lookup-entry [] o e m q is = absurd m
lookup-entry (d ∷ es) o e m q is = elim m [
  | inl same ↦
      let here : is_eq (parts_cmp q d.0.items) ≡ true = ap (λ (x : Key × PathVersions). is_eq (parts_cmp q x.0.items)) (sym same) ∙ ap (λ r. is_eq (parts_cmp q r)) is ∙ ap is_eq (tied_itself parts_total q) in
      ap (λ b. cond b (Some d.1) (lookup (is_at (λ (k : Key). parts_cmp q k.items)) es)) here ∙ ap (λ (x : Key × PathVersions). Some x.1) (sym same)
  | inr n ↦
      let less : parts_cmp d.0.items q ≡ Less = ap (parts_cmp d.0.items) (sym is) ∙ all-member (λ k. key_order d.0 k ≡ Less) (keys_of es) e.0 o.0 (key-member es e n) in
      let there : is_eq (parts_cmp q d.0.items) ≡ false = greater-apart (parts_cmp d.0.items q) (parts_cmp q d.0.items) less (parts_total.antisymm q d.0.items) in
      ap (λ b. cond b (Some d.1) (lookup (is_at (λ (k : Key). parts_cmp q k.items)) es)) there ∙ lookup-entry es o.1 e n q is
]

equal-is : (o : Ordering) → is_eq o ≡ true → o ≡ Equal
equal-is Less h = cc
equal-is Equal h = refl
equal-is Greater h = cc

pub lookup-found : (es : List (Key × PathVersions)) (q : Parts) (m : PathVersions) → lookup (is_at (λ (k : Key). parts_cmp q k.items)) es ≡ Some m
    → (e : Key × PathVersions) × Member e es × (e.0.items ≡ q) × (e.1 ≡ m)
lookup-found [] q m is = cc
lookup-found (d ∷ es) q m is =
    let P : Bool → Type 0 = λ b. is_eq (parts_cmp q d.0.items) ≡ b → cond b (Some d.1) (lookup (is_at (λ (k : Key). parts_cmp q k.items)) es) ≡ Some m → (e : Key × PathVersions) × Member e (d ∷ es) × (e.0.items ≡ q) × (e.1 ≡ m) in
    (elim (is_eq (parts_cmp q d.0.items)) as P [
      | true ↦ λ h k. (d, inl refl, sym (parts_exact q d.0.items (equal-is (parts_cmp q d.0.items) h)), cc)
      | false ↦ λ h k. let rest = lookup-found es q m k in (rest.0, inr rest.1, rest.2, rest.3)
    ]) refl is

-- ---- the newest of two tests

pub combine : (f g h : Version → Bool) (vs : List Version) → ((v : Version) → h v ≡ true → (f v ≡ true) ⊎ (g v ≡ true)) → ((v : Version) → f v ≡ true → h v ≡ true) → ((v : Version) → g v ≡ true → h v ≡ true)
    → (a b : Option Version) → IsNewestAmong f vs a → IsNewestAmong g vs b → IsNewestAmong h vs (later a b)
combine f g h vs split fh gh None None x y = λ v m k. elim (split v k) [ inl l ↦ x v m l | inr r ↦ y v m r ]
combine f g h vs split fh gh None (Some b) x y = (y.0, gh b y.1, λ v m k. elim (split v k) [ inl l ↦ absurd (x v m l) | inr r ↦ y.2 v m r ])
combine f g h vs split fh gh (Some a) None x y = (x.0, fh a x.1, λ v m k. elim (split v k) [ inl l ↦ x.2 v m l | inr r ↦ absurd (y v m r) ])
combine f g h vs split fh gh (Some a) (Some b) x y =
    let P : Bool → Type 0 = λ c. version_before a b ≡ c → IsNewestAmong h vs (if c then Some b else Some a) in
    (elim (version_before a b) as P [
      | true ↦ λ c. (y.0, gh b y.1, λ v m k. elim (split v k) [ inl l ↦ before-trans v a b (x.2 v m l) c | inr r ↦ y.2 v m r ])
      | false ↦ λ c. (x.0, fh a x.1, λ v m k. elim (split v k) [ inl l ↦ x.2 v m l | inr r ↦ before-trans v b a (y.2 v m r) (before-total a b c) ])
    ]) refl

pub same-test : (f g : Version → Bool) (vs : List Version) → ((v : Version) → f v ≡ true → g v ≡ true) → ((v : Version) → g v ≡ true → f v ≡ true) → (o : Option Version) → IsNewestAmong f vs o → IsNewestAmong g vs o
same-test f g vs fg gf None h = λ v m k. h v m (gf v k)
same-test f g vs fg gf (Some x) h = (h.0, fg x h.1, λ v m k. h.2 v m (gf v k))
