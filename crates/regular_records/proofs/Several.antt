-- What is met on several paths, and in two lists.
use Rattle.std.proofs.Common.{◌≡◌, ℕ, ◌<◌, ◌≤◌, Bool, true, false, ◌&&◌, ◌||◌, List, [], ◌∷◌, ◌++◌, Option, Some, None, if◌then◌else◌, length, nat_lt, nat_eq, refl, sym, ap, ◌∙◌, arith, ◌⊎◌, inl, inr, subst, append-nil, append_assoc}
use Rattle.std.specs.Prelude.{nat_le}
use Rattle.std.specs.List.{list_any}
use Rattle.std.proofs.lemmas.List.Folds.{list_any-append}
use Rattle.std.proofs.lemmas.Bool.Decides.{nat_tests}
use Rattle.doc_path.specs.Path.{Parts, related, path_order}
use Rattle.txn_data.specs.declared.version.Version.{Version}
use Rattle.txn_data.specs.declared.window.Window.{Window}
use Rattle.txn_data.specs.declared.met_at.MetAt.{MetAt}
use Rattle.txn_types.specs.Lists.{Member}
use Rattle.txn_types.specs.Tablet.{not_after, is_met, met_in}
use Rattle.regular_records.specs.Holding.{Holds}
use Rattle.regular_records.specs.Store.{VersionStore, versions_of}
use Rattle.regular_records.specs.Kept.{IsKept}
use Rattle.regular_records.specs.Related.{found_at, best_from}
use Rattle.regular_records.proofs.Prefix.{and-right}
use Rattle.regular_records.proofs.Kept.{entry-of, path-on, member-append, member-left, member-right}
use Rattle.regular_records.proofs.Down.{entry-kept}
use Rattle.regular_records.proofs.Times.{passes}
use Rattle.regular_records.proofs.Best.{IsBest, IsUpTo, at-most, transfer, best-unique, met_in-best, not_after-trans}
use Rattle.regular_records.specs.Records.{better}
use Rattle.regular_records.specs.Laws.{MetOfBoth}
use Rattle.regular_records.proofs.Best.{turned-after}
use Rattle.regular_records.proofs.Found.{passes_on, or-left, or-right, related-kept, held-best}

or-split : (a b : Bool) → (a || b) ≡ true → (a ≡ true) ⊎ (b ≡ true)
or-split true b h = inl refl
or-split false b h = inr h

or-false : (b : Bool) → (b || false) ≡ b
or-false true = refl
or-false false = refl

lesser-path : (m n : MetAt) (v : Version) → m.at ≡ n.at → not_after (path_order n.path m.path) ≡ true → IsUpTo m v → IsUpTo n v
lesser-path m n v same after up = elim up [
  | inl l ↦ inl (omega arith)
  | inr e ↦ inr (e.0 ∙ same, not_after-trans n.path m.path v.path after e.1)
]

-- what h passes of ws is what f passes of us and what g passes of vs
abbrev AreBoth : (f g h : Version → Bool) → (us vs ws : List Version) → Type 0
AreBoth f g h us vs ws =
    ((v : Version) → Member v us → f v ≡ true → Member v ws × (h v ≡ true))
    × ((v : Version) → Member v vs → g v ≡ true → Member v ws × (h v ≡ true))
    × ((v : Version) → Member v ws → h v ≡ true → (Member v us × (f v ≡ true)) ⊎ (Member v vs × (g v ≡ true)))

first-best : (f g h : Version → Bool) (us vs ws : List Version) (m : MetAt) → AreBoth f g h us vs ws → IsBest f us (Some m)
    → ((v : Version) → Member v vs → g v ≡ true → IsUpTo m v) → IsBest h ws (Some m)
first-best f g h us vs ws m of x u =
    let at = of.0 x.0.0 x.0.1 x.0.2 in
    ((x.0.0, at.0, at.1, x.0.3), λ v k e. elim (of.2 v k e) [ inl l ↦ x.1 v l.0 l.1 | inr r ↦ u v r.0 r.1 ])

second-best : (f g h : Version → Bool) (us vs ws : List Version) (n : MetAt) → AreBoth f g h us vs ws → IsBest g vs (Some n)
    → ((v : Version) → Member v us → f v ≡ true → IsUpTo n v) → IsBest h ws (Some n)
second-best f g h us vs ws n of y u =
    let at = of.1 y.0.0 y.0.1 y.0.2 in
    ((y.0.0, at.0, at.1, y.0.3), λ v k e. elim (of.2 v k e) [ inl l ↦ u v l.0 l.1 | inr r ↦ y.1 v r.0 r.1 ])

both-best : (f g h : Version → Bool) (us vs ws : List Version) (a b : Option MetAt) → AreBoth f g h us vs ws → IsBest f us a → IsBest g vs b → IsBest h ws (better a b)
both-best f g h us vs ws None None of x y = λ v m e. elim (of.2 v m e) [ inl l ↦ x v l.0 l.1 | inr r ↦ y v r.0 r.1 ]
both-best f g h us vs ws None (Some n) of x y = second-best f g h us vs ws n of y (λ v m e. absurd (x v m e))
both-best f g h us vs ws (Some m) None of x y = first-best f g h us vs ws m of x (λ v k e. absurd (y v k e))
both-best f g h us vs ws (Some m) (Some n) of x y =
    let P : Bool → Bool → Bool → Type 0 = λ a b c. nat_lt m.at n.at ≡ a → nat_eq m.at n.at ≡ b → not_after (path_order n.path m.path) ≡ c → IsBest h ws (if (a || (b && c)) then Some n else Some m) in
    (elim (nat_lt m.at n.at) as (λ a. (b c : Bool) → P a b c) [
      | true ↦ λ b c lt eq le. second-best f g h us vs ws n of y (λ v k e. let up = at-most m v (x.1 v k e) in inl (let l : v.at < n.at = grind (arith, nat_tests) in l))
      | false ↦ λ b. elim b as (λ b. (c : Bool) → P false b c) [
        | true ↦ λ c. elim c as (λ c. P false true c) [
          | true ↦ λ lt eq le. second-best f g h us vs ws n of y (λ v k e. let same : m.at ≡ n.at = grind (arith, nat_tests) in lesser-path m n v same le (x.1 v k e))
          | false ↦ λ lt eq le. first-best f g h us vs ws m of x (λ v k e. let same : n.at ≡ m.at = grind (arith, nat_tests) in lesser-path n m v same (turned-after m.path n.path le) (y.1 v k e))
        ]
        | false ↦ λ c lt eq le. first-best f g h us vs ws m of x (λ v k e. let up = at-most n v (y.1 v k e) in inl (let l : v.at < m.at = grind (arith, nat_tests) in l))
      ]
    ]) (nat_eq m.at n.at) (not_after (path_order n.path m.path)) refl refl refl

-- of two lists, what is met is the better of what is met in each
pub met_of_both : MetOfBoth
met_of_both w t paths us vs =
    let of : AreBoth (is_met w t paths) (is_met w t paths) (is_met w t paths) us vs (us ++ vs) = (
      λ v m e. (member-left v us vs m, e),
      λ v m e. (member-right v us vs m, e),
      λ v m e. elim (member-append v us vs m) [ inl l ↦ inl (l, e) | inr r ↦ inr (r, e) ],
    ) in
    best-unique (is_met w t paths) (us ++ vs) (met_in w t paths (us ++ vs)) (better (met_in w t paths us) (met_in w t paths vs)) (met_in-best w t paths (us ++ vs))
    (both-best _ _ _ us vs (us ++ vs) (met_in w t paths us) (met_in w t paths vs) of (met_in-best w t paths us) (met_in-best w t paths vs))

either-best : (f g : Version → Bool) (vs : List Version) (a b : Option MetAt) → IsBest f vs a → IsBest g vs b → IsBest (λ v. f v || g v) vs (better a b)
either-best f g vs a b =
    let of : AreBoth f g (λ v. f v || g v) vs vs vs = (
      λ v m e. (m, or-left (f v) (g v) e),
      λ v m e. (m, or-right (f v) (g v) e),
      λ v m e. elim (or-split (f v) (g v) e) [ inl l ↦ inl (m, l) | inr r ↦ inr (m, r) ],
    ) in
    both-best f g (λ v. f v || g v) vs vs vs a b of

abbrev passes_any : ℕ → Option Window → List Parts → Version → Bool
passes_any t w ps v = passes t w v && list_any (related v.path) ps

same-best : (f g : Version → Bool) (vs : List Version) (r : Option MetAt) → ((v : Version) → f v ≡ g v) → IsBest f vs r → IsBest g vs r
same-best f g vs r is b = transfer f g vs vs (λ v m h. (m, sym (is v) ∙ h)) (λ v m h. (m, is v ∙ h)) r b

any-push : (p : Parts) (done : List Parts) (q : Parts) → list_any (related q) (done ++ p ∷ []) ≡ (list_any (related q) done || related q p)
any-push p done q = list_any-append (related q) done (p ∷ []) ∙ ap (λ b. list_any (related q) done || b) (or-false (related q p))

any-step : (a b c : Bool) → ((a && b) || (a && c)) ≡ (a && (b || c))
any-step true b c = refl
any-step false b c = refl

pub best-kept : (t : ℕ) (w : Option Window) (store : VersionStore) → IsKept store → (done ps : List Parts) (found : Option MetAt)
    → IsBest (passes_any t w done) (versions_of store.entries) found → IsBest (passes_any t w (done ++ ps)) (versions_of store.entries) (best_from t w store found ps)
best-kept t w store k done [] found b = subst (λ qs. IsBest (passes_any t w qs) (versions_of store.entries) found) (sym (append-nil done)) b
best-kept t w store k done (p ∷ ps) found b =
    let both_of = either-best (passes_any t w done) (passes_on t w p) (versions_of store.entries) found (found_at t w p store) b (related-kept t w p store k) in
    let next = same-best _ (passes_any t w (done ++ p ∷ [])) (versions_of store.entries) (better found (found_at t w p store))
    (λ v. any-step (passes t w v) (list_any (related v.path) done) (related v.path p) ∙ ap (λ b. passes t w v && b) (sym (any-push p done v.path))) both_of in
    subst (λ qs. IsBest (passes_any t w qs) (versions_of store.entries) (best_from t w store (better found (found_at t w p store)) ps)) (append_assoc done (p ∷ []) ps)
    (best-kept t w store k (done ++ p ∷ []) ps (better found (found_at t w p store)) next)

none-best : (t : ℕ) (w : Option Window) (vs : List Version) → IsBest (passes_any t w []) vs None
none-best t w vs = λ v m h. let bad = and-right (passes t w v) false h in cc

pub all-kept : (t : ℕ) (w : Option Window) (store : VersionStore) (ps : List Parts) → IsKept store → IsBest (passes_any t w ps) (versions_of store.entries) (best_from t w store None ps)
all-kept t w store ps k = best-kept t w store k [] ps None (none-best t w (versions_of store.entries))

met-test : (a b c d : Bool) → ((a && (b && c)) && d) ≡ (((a && b) && c) && d)
met-test true true c d = refl
met-test true false c d = refl
met-test false b c d = refl

pub met-kept : (t : ℕ) (w : Window) (store : VersionStore) (ps : List Parts) (vs : List Version) → IsKept store → Holds (versions_of store.entries) vs
    → best_from t (Some w) store None ps ≡ met_in w t ps vs
met-kept t w store ps vs k h =
    best-unique (is_met w t ps) vs (best_from t (Some w) store None ps) (met_in w t ps vs)
    (same-best (passes_any t (Some w) ps) (is_met w t ps) vs (best_from t (Some w) store None ps)
    (λ v. met-test (nat_lt t v.at) (nat_le v.at w.g) (nat_le v.wrote w.limit) (list_any (related v.path) ps))
    (held-best (passes_any t (Some w) ps) (versions_of store.entries) vs (best_from t (Some w) store None ps) h (all-kept t (Some w) store ps k)))
    (met_in-best w t ps vs)

-- what is met is a path that is kept
pub met-path : (t : ℕ) (w : Option Window) (store : VersionStore) (ps : List Parts) (m : MetAt) → IsKept store → best_from t w store None ps ≡ Some m → (1 ≤ length m.path) × (length m.path ≤ 5)
met-path t w store ps m k is =
    let b = subst (IsBest (passes_any t w ps) (versions_of store.entries)) is (all-kept t w store ps k) in
    let at = entry-of store.entries b.0.0 b.0.1 in
    let kept = entry-kept store.entries k.1 at.0 at.1 in
    let path : at.0.0.items ≡ m.path = sym (path-on at.0.0.items at.0.1.entries b.0.0 at.2) ∙ ap (λ (z : MetAt). z.path) b.0.3 in
    (subst (λ q. 1 ≤ length q) path kept.0, subst (λ q. length q ≤ 5) path kept.1)
