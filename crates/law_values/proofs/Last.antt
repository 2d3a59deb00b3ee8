-- The last word on a path, by rank: it is the write with the greatest commit time and number.
use Rattle.std.proofs.Common.{◌≡◌, ℕ, ◌≤◌, Bool, true, false, ◌&&◌, ◌||◌, List, [], ◌∷◌, Option, Some, None, map, filter, nat_lt, nat_le, nat_eq, refl, sym, ◌∙◌, ap, subst, inl, inr, if◌then◌else◌, arith}
use Rattle.std.proofs.lemmas.Bool.{or_cases, and_parts, ltb-true, ltb-false, leb-true, le-leb}
use Rattle.doc_path.specs.Path.{Parts, is_prefix, path_order}
use Rattle.txn_data.specs.declared.version.Version.{Version}
use Rattle.txn_data.specs.declared.written.Written.{Written}
use Rattle.txn_types.specs.Lists.{Member, or_else, sorted_by}
use Rattle.txn_types.specs.Writes.{last_word}
use Rattle.txn_types.specs.Tablet.{not_after, version_before, writes_at}
use Rattle.law_machines.proofs.Basics.{eq_true, eq_cases, member_filter, filter_member, sorted_from}
use Rattle.law_values.specs.Laws.{Ranked, rank, IsUpTo, IsOn, InOrder, IsRankOf}
use Rattle.law_values.proofs.Orders.{Sorts, sorted_into, sorted_order}

-- the last word on a path, of writes that are ranked
pub data IsLast (p : Parts) (S : Ranked → Type 0) (o : Option Written) : Type 0 where
  NoWord : o ≡ None → ((r : Ranked) → S r → IsOn p r → ⊥) → IsLast p S o
  Word : (r : Ranked) → o ≡ Some r.write → S r → IsOn p r → ((s : Ranked) → S s → IsOn p s → IsUpTo s r) → IsLast p S o

-- none of them has the rank of another
abbrev pub AreUnique : Parts → (Ranked → Type 0) → Type 0
AreUnique p S = (r s : Ranked) → S r → S s → IsOn p r → IsOn p s → r.at ≡ s.at → r.number ≡ s.number → r.write ≡ s.write

-- ## the same writes have one last word

tied : (r s : Ranked) → IsUpTo r s → IsUpTo s r → (r.at ≡ s.at) × (r.number ≡ s.number)
tied r s one two = elim one [
  | inl low ↦ elim two [
    | inl high ↦ absurd (omega (arith, low, high))
    | inr same ↦ let at = same.0 in absurd (omega (arith, low, at))
  ]
  | inr same ↦ elim two [
    | inl high ↦ let at = same.0 in absurd (omega (arith, high, at))
    | inr back ↦ let under = same.1 in let over = back.1 in (same.0, omega (arith, under, over))
  ]
]

pub last_same : (p : Parts) (S : Ranked → Type 0) (o u : Option Written) → AreUnique p S → IsLast p S o → IsLast p S u → o ≡ u
last_same p S o u unique (NoWord is none) (NoWord other nothing) = is ∙ sym other
last_same p S o u unique (NoWord is none) (Word r other in_it on most) = absurd (none r in_it on)
last_same p S o u unique (Word r is in_it on most) (NoWord other nothing) = absurd (nothing r in_it on)
last_same p S o u unique (Word r is in_it on most) (Word s other there over top) =
    let ties = tied r s (top r in_it on) (most s there over) in
    is ∙ (ap (λ (w : Written). let v : Option Written = Some w in v) (unique r s in_it there on over ties.0 ties.1) ∙ sym other)

pub last_of : (p : Parts) (S T : Ranked → Type 0) (o : Option Written) → ((r : Ranked) → IsOn p r → S r → T r) → ((r : Ranked) → IsOn p r → T r → S r) → IsLast p S o → IsLast p T o
last_of p S T o to back (NoWord is none) = NoWord is (λ r in_it on. none r (back r on in_it) on)
last_of p S T o to back (Word r is in_it on most) = Word r is (to r on in_it) on (λ s there over. most s (back s over there) over)

-- ## of a list in order it is the greatest

-- some element of the list is the write
abbrev pub IsSome : {A : Type 0} → (A → Ranked) → List A → Ranked → Type 0
IsSome {A = A} ranked xs r = (a : A) × Member a xs × (ranked a ≡ r)

up_self : (r : Ranked) → IsUpTo r r
up_self r = inr (refl, omega arith)

first_choice : {A : Type 0} (b : Bool) (ranked : A → Ranked) (p : Parts) (a : A) (xs : List A) → is_prefix (ranked a).write.path p ≡ b → ((r : Ranked) → IsSome ranked xs r → IsOn p r → ⊥) →
    IsLast p (IsSome ranked (a ∷ xs)) (if b then Some (ranked a).write else None)
first_choice true ranked p a xs is none = Word (ranked a) refl (a, inl refl, refl) is (λ s there over. elim there.1 [
  | inl here ↦ subst (λ (r : Ranked). IsUpTo r (ranked a)) (ap ranked (sym here) ∙ there.2) (up_self (ranked a))
  | inr later ↦ absurd (none s (there.0, later, there.2) over)
])
first_choice false ranked p a xs is none = NoWord refl (λ r there on. elim there.1 [
  | inl here ↦
      let on_a : is_prefix (ranked a).write.path p ≡ true = subst (λ (s : Ranked). IsOn p s) (sym (ap ranked (sym here) ∙ there.2)) on in
      cc
  | inr later ↦ none r (there.0, later, there.2) on
])

more_choice : {A : Type 0} (o : Option Written) (ranked : A → Ranked) (p : Parts) (a : A) (xs : List A) → ((y : A) → Member y xs → IsUpTo (ranked a) (ranked y)) → IsLast p (IsSome ranked xs) o →
    IsLast p (IsSome ranked (a ∷ xs)) (or_else o (if is_prefix (ranked a).write.path p then Some (ranked a).write else None))
more_choice o ranked p a xs below (NoWord is none) =
    subst (λ (u : Option Written). IsLast p (IsSome ranked (a ∷ xs)) (or_else u (if is_prefix (ranked a).write.path p then Some (ranked a).write else None))) (sym is)
    (first_choice (is_prefix (ranked a).write.path p) ranked p a xs refl none)
more_choice o ranked p a xs below (Word r is in_it on most) =
    subst (λ (u : Option Written). IsLast p (IsSome ranked (a ∷ xs)) (or_else u (if is_prefix (ranked a).write.path p then Some (ranked a).write else None))) (sym is)
    (Word r refl (in_it.0, inr in_it.1, in_it.2) on (λ s there over. elim there.1 [
      | inl here ↦ subst (λ (z : Ranked). IsUpTo z r) (ap ranked (sym here) ∙ there.2) (subst (λ (z : Ranked). IsUpTo (ranked a) z) in_it.2 (below in_it.0 in_it.1))
      | inr later ↦ most s (there.0, later, there.2) over
    ]))

pub last_in : {A : Type 0} (ranked : A → Ranked) (p : Parts) (xs : List A) → InOrder (λ (x y : A). IsUpTo (ranked x) (ranked y)) xs → IsLast p (IsSome ranked xs) (last_word (map (λ (a : A). (ranked a).write) xs) p)
unfolding last_word
last_in ranked p [] order = NoWord refl (λ r there on. absurd there.1)
last_in ranked p (a ∷ xs) order = more_choice (last_word (map (λ x. (ranked x).write) xs) p) ranked p a xs order.0 (last_in ranked p xs order.1)

-- ## the versions of a tablet

below_parts : (u v : Version) (b : Bool) → nat_lt u.number v.number || (nat_eq u.number v.number && b) ≡ true → u.number ≤ v.number
below_parts u v b is = elim (or_cases (nat_lt u.number v.number) (nat_eq u.number v.number && b) is) [
  | inl low ↦ let less = ltb-true u.number v.number low in omega (arith, less)
  | inr tie ↦ let same = eq_true u.number v.number (and_parts (nat_eq u.number v.number) b tie).0 in omega (arith, same)
]

version_first : (u v : Version) → version_before u v ≡ true → IsUpTo (rank u) (rank v)
version_first u v is =
    let late = nat_lt u.number v.number || (nat_eq u.number v.number && not_after (path_order u.path v.path)) in
    elim (or_cases (nat_lt u.at v.at) (nat_eq u.at v.at && late) is) [
      | inl low ↦ inl (ltb-true u.at v.at low)
      | inr tie ↦
          let both = and_parts (nat_eq u.at v.at) late tie in
          inr (eq_true u.at v.at both.0, below_parts u v (not_after (path_order u.path v.path)) both.1)
    ]

neither : (a b : Bool) → a || b ≡ false → (a ≡ false) × (b ≡ false)
neither true b is = cc
neither false b is = (refl, is)

version_second : (u v : Version) → version_before u v ≡ false → IsUpTo (rank v) (rank u)
version_second u v is =
    let late = nat_lt u.number v.number || (nat_eq u.number v.number && not_after (path_order u.path v.path)) in
    let n = neither (nat_lt u.at v.at) (nat_eq u.at v.at && late) is in
    let low = ltb-false u.at v.at n.0 in
    elim (eq_cases u.at v.at) [
      | inl same ↦
          let not_late : late ≡ false = subst (λ (b : Bool). b && late ≡ false) same.0 n.1 in
          inr (sym same.1, ltb-false u.number v.number (neither (nat_lt u.number v.number) (nat_eq u.number v.number && not_after (path_order u.path v.path)) not_late).0)
      | inr apart ↦ let other = apart.1 in inl (omega (arith, low, other))
    ]

up_through : (r s z : Ranked) → IsUpTo r s → IsUpTo s z → IsUpTo r z
up_through r s z one two = elim one [
  | inl low ↦ elim two [
    | inl high ↦ inl (omega (arith, low, high))
    | inr same ↦ let at = same.0 in inl (omega (arith, low, at))
  ]
  | inr same ↦ elim two [
    | inl high ↦ let at = same.0 in inl (omega (arith, high, at))
    | inr more ↦ let under = same.1 in let over = more.1 in inr (same.0 ∙ more.0, omega (arith, under, over))
  ]
]

versions_sort : Sorts version_before (λ (u v : Version). IsUpTo (rank u) (rank v))
versions_sort = record { first = version_first; second = version_second; through = λ u v w. up_through (rank u) (rank v) (rank w) }

pub last_version : (vs : List Version) (t : ℕ) (p : Parts) → IsLast p (IsRankOf vs t) (last_word (writes_at t vs) p)
unfolding writes_at
last_version vs t p =
    let up_to = λ (v : Version). nat_le v.at t in
    let listed = sorted_by version_before (filter up_to vs) in
    last_of p (IsSome rank listed) (IsRankOf vs t) (last_word (map (λ (v : Version). (rank v).write) listed) p)
    (λ r on there. let f = filter_member up_to there.0 vs (sorted_from version_before there.0 (filter up_to vs) there.1) in (there.0, f.0, leb-true there.0.at t f.1, there.2))
    (λ r on there. (there.0, sorted_into version_before there.0 (filter up_to vs) (member_filter up_to there.0 vs there.1 (le-leb there.0.at t there.2)), there.3))
    (last_in rank p listed (sorted_order version_before (λ (u v : Version). IsUpTo (rank u) (rank v)) versions_sort (filter up_to vs)))
