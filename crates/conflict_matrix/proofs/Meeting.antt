-- The intents of a write, and where those of two writes meet.
use Rattle.std.proofs.Common.{◌≡◌, ℕ, ◌+◌, ◌<◌, ◌≤◌, Bool, true, false, ◌&&◌, ◌||◌, List, [], ◌∷◌, ◌++◌, take, length, refl, sym, ap, ◌∙◌, arith, append_assoc}
use Rattle.std.specs.Prelude.{map, flat_map}
use Rattle.std.specs.List.{list_any}
use Rattle.std.proofs.lemmas.List.{take_all, length-take-le}
use Rattle.std.proofs.lemmas.List.Folds.{list_any-append}
use Rattle.std.proofs.lemmas.Slice.Eq.{bytes_eq-Decides}
use Rattle.std.proofs.Math.Bool.{and_comm}
use Rattle.std.specs.Str.{bytes_eq}
use Rattle.doc_path.specs.Path.{Parts, is_prefix, related}
use Rattle.txn_types.specs.Tablet.{same_path}
use Rattle.conflict_matrix.specs.declared.kind.Kind.{Kind}
use Rattle.conflict_matrix.specs.declared.kind.Kind.TheVariants.{StrongRead, StrongWrite, WeakRead, WeakWrite}
use Rattle.conflict_matrix.specs.declared.intent_at.IntentAt.{IntentAt}
use Rattle.conflict_matrix.specs.Conflict.{is_strong, paths_above, weak_at, strong_at, intents_of, meets, any_meet}

map-append-one : (b : List ℕ) (qs : List Parts) (q : Parts) → map (λ r. b ∷ r) (qs ++ q ∷ []) ≡ map (λ r. b ∷ r) qs ++ (b ∷ q) ∷ []
map-append-one b [] q = refl
map-append-one b (r ∷ qs) q = ap (λ rs. (b ∷ r) ∷ rs) (map-append-one b qs q)

pub paths_above-push : (p : Parts) (a : List ℕ) → 1 ≤ length p → paths_above (p ++ a ∷ []) ≡ paths_above p ++ p ∷ []
paths_above-push [] a some = absurd (omega arith)
paths_above-push (b ∷ []) a some = refl
paths_above-push (b ∷ c ∷ p) a some =
    ap (λ qs. (b ∷ []) ∷ map (λ q. b ∷ q) qs) (paths_above-push (c ∷ p) a (omega arith))
    ∙ ap (λ qs. (b ∷ []) ∷ qs) (map-append-one b (paths_above (c ∷ p)) (c ∷ p))

weak_at-push : (qs : List Parts) (q : Parts) → flat_map weak_at (qs ++ q ∷ []) ≡ flat_map weak_at qs ++ weak_at q
weak_at-push [] q = refl
weak_at-push (r ∷ qs) q = ap (λ rs. weak_at r ++ rs) (weak_at-push qs q) ∙ sym (append_assoc (weak_at r) (flat_map weak_at qs) (weak_at q))

-- the weak intents above a path, with one more part
pub weak_above-push : (p : Parts) (i : ℕ) (a : List ℕ) → 1 ≤ i → i < length p → take (i + 1) p ≡ take i p ++ a ∷ []
    → flat_map weak_at (paths_above (take (i + 1) p)) ≡ flat_map weak_at (paths_above (take i p)) ++ weak_at (take i p)
weak_above-push p i a some in_p more =
    let long : 1 ≤ length (take i p) = rw (length-take-le i p (omega arith)) some in
    ap (λ q. flat_map weak_at (paths_above q)) more
    ∙ ap (flat_map weak_at) (paths_above-push (take i p) a long)
    ∙ weak_at-push (paths_above (take i p)) (take i p)

-- the two weak intents on one more path
pub two_more : (p above : Parts) (xs ys zs after : List IntentAt) → xs ≡ flat_map weak_at (paths_above p) → above ≡ p
    → ys ≡ xs ++ (record { path = above; kind = WeakRead }) ∷ []
    → zs ≡ ys ++ (record { path = above; kind = WeakWrite }) ∷ []
    → after ≡ flat_map weak_at (paths_above p) ++ weak_at p
    → zs ≡ after
two_more p above xs ys zs after so_far is first second whole =
    second
    ∙ ap (λ l. l ++ (record { path = above; kind = WeakWrite }) ∷ []) first
    ∙ append_assoc xs _ _
    ∙ ap (λ l. l ++ weak_at above) so_far
    ∙ ap (λ q. flat_map weak_at (paths_above p) ++ weak_at q) is
    ∙ sym whole

pub intents_of-from : (p : Parts) (i : ℕ) (xs : List IntentAt) → length p ≤ i → xs ≡ flat_map weak_at (paths_above (take i p))
    → (xs ++ (record { path = p; kind = StrongRead }) ∷ []) ++ (record { path = p; kind = StrongWrite }) ∷ [] ≡ intents_of p
unfolding intents_of
intents_of-from p i xs all is =
    append_assoc xs _ _ ∙ ap (λ ys. ys ++ strong_at p) (is ∙ ap (λ q. flat_map weak_at (paths_above q)) (take_all i p all))

same_bool : (x y : Bool) → (x ≡ true → y ≡ true) → (y ≡ true → x ≡ true) → x ≡ y
same_bool true y f g = sym (f refl)
same_bool false true f g = g refl
same_bool false false f g = refl

bytes_eq-swap : (a b : List ℕ) → bytes_eq a b ≡ bytes_eq b a
bytes_eq-swap a b =
    same_bool (bytes_eq a b) (bytes_eq b a)
    (λ h. (bytes_eq-Decides b a).1 (sym ((bytes_eq-Decides a b).0 h)))
    (λ h. (bytes_eq-Decides a b).1 (sym ((bytes_eq-Decides b a).0 h)))

same_path-cons : (a c : List ℕ) (r q : Parts) → same_path (a ∷ r) (c ∷ q) ≡ (bytes_eq a c && same_path r q)
same_path-cons a c r q =
    rw (bytes_eq-swap c a) (elim (bytes_eq a c) as (λ e. ((e && is_prefix r q) && (e && is_prefix q r)) ≡ (e && (is_prefix r q && is_prefix q r))) [ true ↦ refl | false ↦ refl ])

same_path-swap : (p q : Parts) → same_path p q ≡ same_path q p
same_path-swap p q = and_comm (is_prefix p q) (is_prefix q p)

any_same-cons : (a c : List ℕ) (q : Parts) (rs : List Parts)
    → list_any (λ r. same_path r (c ∷ q)) (map (λ r. a ∷ r) rs) ≡ (bytes_eq a c && list_any (λ r. same_path r q) rs)
any_same-cons a c q [] = elim (bytes_eq a c) as (λ e. false ≡ (e && false)) [ true ↦ refl | false ↦ refl ]
any_same-cons a c q (r ∷ rs) =
    rw (same_path-cons a c r q, any_same-cons a c q rs)
    (elim (bytes_eq a c) as (λ e. ((e && same_path r q) || (e && list_any (λ r. same_path r q) rs)) ≡ (e && (same_path r q || list_any (λ r. same_path r q) rs))) [ true ↦ refl | false ↦ refl ])

any_same-nil : (b : List ℕ) (rs : List Parts) → list_any (λ r. same_path r []) (map (λ r. b ∷ r) rs) ≡ false
any_same-nil b [] = refl
any_same-nil b (r ∷ rs) = any_same-nil b rs

any_same-empty : (p : Parts) → list_any (λ r. same_path r []) (paths_above p) ≡ false
any_same-empty [] = refl
any_same-empty (a ∷ []) = refl
any_same-empty (a ∷ b ∷ p) = any_same-nil a (paths_above (b ∷ p))

-- a path, or one that it lies beneath, is q exactly where q is a prefix of it
same_above : (p q : Parts) → 1 ≤ length p → 1 ≤ length q → (list_any (λ r. same_path r q) (paths_above p) || same_path p q) ≡ is_prefix q p
same_above [] q some other = absurd (omega arith)
same_above (a ∷ p) [] some other = absurd (omega arith)
same_above (a ∷ []) (c ∷ q) some other =
    rw (bytes_eq-swap c a) (elim (bytes_eq a c) as (λ e. ((e && true) && (e && is_prefix q [])) ≡ (e && is_prefix q [])) [ true ↦ refl | false ↦ refl ])
same_above (a ∷ b ∷ p) (c ∷ []) some other =
    rw (any_same-cons a c [] (paths_above (b ∷ p)), any_same-empty (b ∷ p), bytes_eq-swap c a)
    (elim (bytes_eq a c) as (λ e. ((((e && true) && (e && true)) || (e && false)) || ((e && false) && (e && true))) ≡ (e && true)) [ true ↦ refl | false ↦ refl ])
same_above (a ∷ b ∷ p) (c ∷ d ∷ q) some other =
    let rest = same_above (b ∷ p) (d ∷ q) (omega arith) (omega arith) in
    let step : (list_any (λ r. same_path r (c ∷ d ∷ q)) (paths_above (a ∷ b ∷ p)) || same_path (a ∷ b ∷ p) (c ∷ d ∷ q)) ≡ (bytes_eq a c && (list_any (λ r. same_path r (d ∷ q)) (paths_above (b ∷ p)) || same_path (b ∷ p) (d ∷ q))) =
    rw (any_same-cons a c (d ∷ q) (paths_above (b ∷ p)), bytes_eq-swap c a)
    (elim (bytes_eq a c) as (λ e. ((((e && true) && (e && false)) || (e && list_any (λ r. same_path r (d ∷ q)) (paths_above (b ∷ p)))) || ((e && is_prefix (b ∷ p) (d ∷ q)) && (e && is_prefix (d ∷ q) (b ∷ p)))) ≡ (e && (list_any (λ r. same_path r (d ∷ q)) (paths_above (b ∷ p)) || same_path (b ∷ p) (d ∷ q)))) [ true ↦ refl | false ↦ refl ]) in
    step ∙ ap (λ x. bytes_eq a c && x) rest ∙ ap (λ e. e && is_prefix (d ∷ q) (b ∷ p)) (bytes_eq-swap a c)

abbrev at : Parts → Kind → IntentAt
at r k = record { path = r; kind = k }

meets-weak : (k : Kind) (r s : Parts) → list_any (meets (at r k)) (weak_at s) ≡ (is_strong k && same_path r s)
meets-weak StrongRead r s = elim (same_path r s) as (λ e. ((e && false) || ((e && true) || false)) ≡ e) [ true ↦ refl | false ↦ refl ]
meets-weak StrongWrite r s = elim (same_path r s) as (λ e. ((e && true) || ((e && false) || false)) ≡ e) [ true ↦ refl | false ↦ refl ]
meets-weak WeakRead r s = elim (same_path r s) as (λ e. ((e && false) || ((e && false) || false)) ≡ false) [ true ↦ refl | false ↦ refl ]
meets-weak WeakWrite r s = elim (same_path r s) as (λ e. ((e && false) || ((e && false) || false)) ≡ false) [ true ↦ refl | false ↦ refl ]

meets-strong : (k : Kind) (r s : Parts) → list_any (meets (at r k)) (strong_at s) ≡ same_path r s
meets-strong StrongRead r s = elim (same_path r s) as (λ e. ((e && false) || ((e && true) || false)) ≡ e) [ true ↦ refl | false ↦ refl ]
meets-strong StrongWrite r s = elim (same_path r s) as (λ e. ((e && true) || ((e && false) || false)) ≡ e) [ true ↦ refl | false ↦ refl ]
meets-strong WeakRead r s = elim (same_path r s) as (λ e. ((e && false) || ((e && true) || false)) ≡ e) [ true ↦ refl | false ↦ refl ]
meets-strong WeakWrite r s = elim (same_path r s) as (λ e. ((e && true) || ((e && false) || false)) ≡ e) [ true ↦ refl | false ↦ refl ]

meets-weak_all : (k : Kind) (r : Parts) (ss : List Parts) → list_any (meets (at r k)) (flat_map weak_at ss) ≡ (is_strong k && list_any (same_path r) ss)
meets-weak_all k r [] = elim (is_strong k) as (λ e. false ≡ (e && false)) [ true ↦ refl | false ↦ refl ]
meets-weak_all k r (s ∷ ss) =
    list_any-append (meets (at r k)) (weak_at s) (flat_map weak_at ss)
    ∙ rw (meets-weak k r s, meets-weak_all k r ss)
    (elim (is_strong k) as (λ e. ((e && same_path r s) || (e && list_any (same_path r) ss)) ≡ (e && (same_path r s || list_any (same_path r) ss))) [ true ↦ refl | false ↦ refl ])

meets-all : (k : Kind) (r q : Parts) → list_any (meets (at r k)) (intents_of q) ≡ ((is_strong k && list_any (same_path r) (paths_above q)) || same_path r q)
unfolding intents_of
meets-all k r q =
    list_any-append (meets (at r k)) (flat_map weak_at (paths_above q)) (strong_at q)
    ∙ rw (meets-weak_all k r (paths_above q), meets-strong k r q) refl

any-weak : (q : Parts) (rs : List Parts) → list_any (λ a. list_any (meets a) (intents_of q)) (flat_map weak_at rs) ≡ list_any (λ r. same_path r q) rs
any-weak q [] = refl
any-weak q (r ∷ rs) =
    rw (meets-all WeakRead r q, meets-all WeakWrite r q, any-weak q rs)
    (elim (same_path r q) as (λ e. (e || (e || list_any (λ r. same_path r q) rs)) ≡ (e || list_any (λ r. same_path r q) rs)) [ true ↦ refl | false ↦ refl ])

any_same-swap : (p : Parts) (rs : List Parts) → list_any (same_path p) rs ≡ list_any (λ r. same_path r p) rs
any_same-swap p [] = refl
any_same-swap p (r ∷ rs) = rw (same_path-swap p r, any_same-swap p rs) refl

or_twice : (a b s : Bool) → (a || ((b || s) || ((b || s) || false))) ≡ ((b || s) || (a || s))
or_twice true true s = refl
or_twice true false true = refl
or_twice true false false = refl
or_twice false true true = refl
or_twice false true false = refl
or_twice false false true = refl
or_twice false false false = refl

pub any_meet-related : (p q : Parts) → 1 ≤ length p → 1 ≤ length q → any_meet (intents_of p) (intents_of q) ≡ related p q
unfolding any_meet intents_of
any_meet-related p q some other =
    list_any-append (λ a. list_any (meets a) (intents_of q)) (flat_map weak_at (paths_above p)) (strong_at p)
    ∙ rw (any-weak q (paths_above p), meets-all StrongRead p q, meets-all StrongWrite p q, any_same-swap p (paths_above q))
    (or_twice (list_any (λ r. same_path r q) (paths_above p)) (list_any (λ r. same_path r p) (paths_above q)) (same_path p q)
    ∙ rw (same_above p q some other, same_path-swap p q, same_above q p other some) refl)
