-- The greatest time of what is found is the greatest time that the definition tells.
use Rattle.std.proofs.Common.{◌≡◌, ℕ, ◌-◌, ◌<◌, ◌≤◌, Bool, true, false, ◌||◌, ◌⊎◌, suc, length, take, nat_eq, List, [], ◌∷◌, Option, Some, None, if◌then◌else◌, max, nat_lt, refl, sym, ap, ◌∙◌, arith, inl, inr, subst}
use borrow.Author.Tests.{eqb-false}
use Rattle.std.proofs.lemmas.List.{take_all}
use Rattle.std.specs.Prelude.{map, filter, option_map}
use Rattle.std.proofs.lemmas.Bool.Decides.{nat_tests}
use Rattle.doc_path.specs.Path.{Parts, is_prefix, related}
use Rattle.txn_data.specs.declared.version.Version.{Version}
use Rattle.txn_data.specs.declared.met_at.MetAt.{MetAt}
use Rattle.txn_types.specs.Lists.{Member, or_zero}
use Rattle.txn_types.specs.Tablet.{greatest_above}
use Rattle.regular_records.specs.Records.{times_on}
use Rattle.regular_records.specs.Holding.{Holds}
use Rattle.regular_records.specs.Store.{VersionStore, versions_of}
use Rattle.regular_records.specs.Kept.{IsKept}
use Rattle.regular_records.specs.declared.newest_beneath.NewestBeneath.{NewestBeneath}
use Rattle.regular_records.specs.Related.{above_upto, time_of_met, later_time}
use Rattle.regular_records.specs.NewestBeneath.{newest_at, IsNewestBeneath, SumsUp}
use Rattle.regular_records.proofs.Prefix.{and-left, and-right, prefix-take, prefix-length, is_prefix-take, is_prefix-itself}
use Rattle.regular_records.proofs.Kept.{entry-of, path-on}
use Rattle.regular_records.proofs.Down.{entry-kept}
use Rattle.regular_records.proofs.Below.{above_list, above-prefix, above-has, above-kept, above-best}
use Rattle.regular_records.proofs.Times.{passes, both, IsBestTime}
use Rattle.regular_records.proofs.Best.{IsBest, at-most}
use Rattle.regular_records.proofs.Found.{passes_on, or-left, or-right}

IsGreatest : ℕ → List ℕ → Option ℕ → Type 0
IsGreatest t cs None = (c : ℕ) → Member c cs → c ≤ t
IsGreatest t cs (Some g) = (t < g) × Member g cs × ((c : ℕ) → Member c cs → t < c → c ≤ g)

put-greatest : (t c : ℕ) (cs : List ℕ) (r : Option ℕ) → t < c → IsGreatest t cs r → IsGreatest t (c ∷ cs) (Some (max c (or_zero r)))
unfolding IsGreatest
put-greatest t c cs None above g =
    let is : max c 0 ≡ c = grind arith in
    (omega (arith, is), inl is, λ d m h. elim m [ inl e ↦ omega (arith, is) | inr n ↦ let le = g d n in omega (arith, is) ])
put-greatest t c cs (Some b) above g =
    let P : Bool → Type 0 = λ x. nat_lt b c ≡ x → (t < max c b) × Member (max c b) (c ∷ cs) × ((d : ℕ) → Member d (c ∷ cs) → t < d → d ≤ max c b) in
    (elim (nat_lt b c) as P [
      | true ↦ λ h.
          let is : max c b ≡ c = grind (arith, nat_tests) in
          let less : b < c = grind (arith, nat_tests) in
          (omega (arith, is), inl is, λ d m k. elim m [ inl e ↦ omega (arith, is) | inr n ↦ let le = g.2 d n k in omega (arith, is) ])
      | false ↦ λ h.
          let is : max c b ≡ b = grind (arith, nat_tests) in
          let least : c ≤ b = grind (arith, nat_tests) in
          let first = g.0 in
          (omega (arith, is), inr (subst (λ n. Member n cs) (sym is) g.1), λ d m k. elim m [ inl e ↦ omega (arith, is) | inr n ↦ let le = g.2 d n k in omega (arith, is) ])
    ]) refl

pass-greatest : (t c : ℕ) (cs : List ℕ) (r : Option ℕ) → c ≤ t → IsGreatest t cs r → IsGreatest t (c ∷ cs) r
unfolding IsGreatest
pass-greatest t c cs None low g = λ d m. elim m [ inl e ↦ omega arith | inr n ↦ g d n ]
pass-greatest t c cs (Some b) low g = (g.0, inr g.1, λ d m h. elim m [ inl e ↦ absurd (omega arith) | inr n ↦ g.2 d n h ])

greatest-is : (t : ℕ) (cs : List ℕ) → IsGreatest t cs (greatest_above t cs)
unfolding greatest_above IsGreatest
greatest-is t [] = λ c m. absurd m
greatest-is t (c ∷ cs) =
    let P : Bool → Type 0 = λ b. nat_lt t c ≡ b → IsGreatest t (c ∷ cs) (if b then Some (max c (or_zero (greatest_above t cs))) else greatest_above t cs) in
    (elim (nat_lt t c) as P [
      | true ↦ λ h. put-greatest t c cs (greatest_above t cs) (let l : t < c = grind (arith, nat_tests) in l) (greatest-is t cs)
      | false ↦ λ h. pass-greatest t c cs (greatest_above t cs) (let l : c ≤ t = grind (arith, nat_tests) in l) (greatest-is t cs)
    ]) refl

greatest-unique : (t : ℕ) (cs : List ℕ) (r s : Option ℕ) → IsGreatest t cs r → IsGreatest t cs s → r ≡ s
unfolding IsGreatest
greatest-unique t cs None None x y = refl
greatest-unique t cs None (Some g) x y = absurd (let le = x g y.1 in omega arith)
greatest-unique t cs (Some g) None x y = absurd (let le = y g x.1 in omega arith)
greatest-unique t cs (Some g) (Some h) x y = let a = x.2 h y.1 y.0 in let b = y.2 g x.1 x.0 in ap Some (omega arith)

time-has : (p : Parts) (vs : List Version) (v : Version) → Member v vs → related v.path p ≡ true → Member v.at (times_on p vs)
time-has p [] v m h = absurd m
time-has p (u ∷ vs) v m h = elim m [
  | inl e ↦
      let here : related u.path p ≡ true = ap (λ (x : Version). related x.path p) (sym e) ∙ h in
      subst (λ b. Member v.at (map (λ (v : Version). v.at) (if b then u ∷ filter (λ (v : Version). related v.path p) vs else filter (λ (v : Version). related v.path p) vs))) (sym here) (inl (ap (λ (x : Version). x.at) e))
  | inr n ↦
      let there = time-has p vs v n h in
      elim (related u.path p) as (λ b. Member v.at (map (λ (v : Version). v.at) (if b then u ∷ filter (λ (v : Version). related v.path p) vs else filter (λ (v : Version). related v.path p) vs))) [ true ↦ inr there | false ↦ there ]
]

time-from : (p : Parts) (vs : List Version) (c : ℕ) → Member c (times_on p vs) → (v : Version) × Member v vs × (related v.path p ≡ true) × (v.at ≡ c)
time-from p [] c m = absurd m
time-from p (u ∷ vs) c m =
    let P : Bool → Type 0 = λ b. related u.path p ≡ b → Member c (map (λ (v : Version). v.at) (if b then u ∷ filter (λ (v : Version). related v.path p) vs else filter (λ (v : Version). related v.path p) vs)) → (v : Version) × Member v (u ∷ vs) × (related v.path p ≡ true) × (v.at ≡ c) in
    (elim (related u.path p) as P [
      | true ↦ λ h k. elim k [ inl e ↦ (u, inl refl, h, sym e) | inr n ↦ let rest = time-from p vs c n in (rest.0, inr rest.1, rest.2, rest.3) ]
      | false ↦ λ h k. let rest = time-from p vs c k in (rest.0, inr rest.1, rest.2, rest.3)
    ]) refl m

best-greatest : (t : ℕ) (p : Parts) (vs : List Version) (r : Option ℕ) → IsBestTime (passes_on t None p) vs r → IsGreatest t (times_on p vs) r
unfolding IsGreatest
best-greatest t p vs None b = λ c m.
    let v = time-from p vs c m in
    let P : Bool → Type 0 = λ x. nat_lt t v.0.at ≡ x → c ≤ t in
    let at = v.3 in
    (elim (nat_lt t v.0.at) as P [
      | true ↦ λ h. absurd (b v.0 v.1 (both (passes t None v.0) (related v.0.path p) (both (nat_lt t v.0.at) true h refl) v.2))
      | false ↦ λ h. grind (arith, nat_tests)
    ]) refl
best-greatest t p vs (Some g) b =
    let v = b.0.0 in
    let at : v.at ≡ g = b.0.3 in
    let pass = and-left (passes t None v) (related v.path p) b.0.2 in
    let late = and-left (nat_lt t v.at) true pass in (
      grind (arith, nat_tests),
      subst (λ n. Member n (times_on p vs)) at (time-has p vs v b.0.1 (and-right (passes t None v) (related v.path p) b.0.2)),
      λ c k h.
          let u = time-from p vs c k in
          let is = u.3 in
          let up = b.1 u.0 u.1 (both (passes t None u.0) (related u.0.path p) (both (nat_lt t u.0.at) true (let l : nat_lt t u.0.at ≡ true = grind (arith, nat_tests) in l) refl) u.2) in
          omega arith,
    )

-- ---- what is found above a path, and the newest time at or beneath it

-- the versions above a path, and what the others on a related path lie beneath
abbrev AreAbove : Parts → List Version → List Version → Type 0
AreAbove p kept above =
    ((v : Version) → Member v above → Member v kept × (related v.path p ≡ true))
    × ((v : Version) → Member v kept → related v.path p ≡ true → Member v above ⊎ (is_prefix p v.path ≡ true))

late-passes : (t : ℕ) (v : Version) → nat_lt t v.at ≡ true → passes t None v ≡ true
late-passes t v h = both (nat_lt t v.at) true h refl

passes-late : (t : ℕ) (p : Parts) (v : Version) → passes_on t None p v ≡ true → nat_lt t v.at ≡ true
passes-late t p v h = and-left (nat_lt t v.at) true (and-left (passes t None v) (related v.path p) h)

none-above : (t c : ℕ) (p : Parts) (kept above : List Version) → AreAbove p kept above → IsBest (passes t None) above None → IsNewestBeneath p kept c
    → IsBestTime (passes_on t None p) kept (if nat_lt t c then Some c else None)
none-above t c p kept above of none n =
    let upto : (v : Version) → Member v kept → passes_on t None p v ≡ true → v.at ≤ c =
    λ v m h. elim (of.1 v m (and-right (passes t None v) (related v.path p) h)) [
      | inl a ↦ absurd (none v a (and-left (passes t None v) (related v.path p) h))
      | inr b ↦ n.0 v m b
    ] in
    let P : Bool → Type 0 = λ b. nat_lt t c ≡ b → IsBestTime (passes_on t None p) kept (if b then Some c else None) in
    (elim (nat_lt t c) as P [
      | true ↦ λ b. elim n.1 [
        | inl e ↦ absurd (grind (arith, nat_tests))
        | inr u ↦ ((u.0, u.1, both (passes t None u.0) (related u.0.path p) (late-passes t u.0 (ap (nat_lt t) u.3 ∙ b)) (or-right (is_prefix u.0.path p) (is_prefix p u.0.path) u.2), u.3), upto)
      ]
      | false ↦ λ b. λ v m h. let le = upto v m h in let late = passes-late t p v h in grind (arith, nat_tests)
    ]) refl

some-above : (t c : ℕ) (p : Parts) (kept above : List Version) (x : MetAt) → AreAbove p kept above → IsBest (passes t None) above (Some x) → IsNewestBeneath p kept c
    → IsBestTime (passes_on t None p) kept (Some (max x.at c))
some-above t c p kept above x of b n =
    let first : x.at ≤ max x.at c = grind arith in
    let second : c ≤ max x.at c = grind arith in
    let upto : (v : Version) → Member v kept → passes_on t None p v ≡ true → v.at ≤ max x.at c =
    λ v m h. elim (of.1 v m (and-right (passes t None v) (related v.path p) h)) [
      | inl a ↦ let le = at-most x v (b.1 v a (and-left (passes t None v) (related v.path p) h)) in omega (arith, first)
      | inr a ↦ let le = n.0 v m a in omega (arith, second)
    ] in
    let at : b.0.0.at ≡ x.at = ap time_of_met b.0.3 in
    let late : nat_lt t b.0.0.at ≡ true = and-left (nat_lt t b.0.0.at) true b.0.2 in
    let P : Bool → Type 0 = λ y. nat_lt x.at c ≡ y → IsBestTime (passes_on t None p) kept (Some (max x.at c)) in
    (elim (nat_lt x.at c) as P [
      | true ↦ λ y. elim n.1 [
        | inl e ↦ absurd (grind (arith, nat_tests))
        | inr u ↦
            let same = u.3 in
            let above_t : nat_lt t u.0.at ≡ true = grind (arith, nat_tests) in
            let is : u.0.at ≡ max x.at c = grind (arith, nat_tests) in
            ((u.0, u.1, both (passes t None u.0) (related u.0.path p) (late-passes t u.0 above_t) (or-right (is_prefix u.0.path p) (is_prefix p u.0.path) u.2), is), upto)
      ]
      | false ↦ λ y.
          let is : b.0.0.at ≡ max x.at c = grind (arith, nat_tests) in
          let there = of.0 b.0.0 b.0.1 in
          ((b.0.0, there.0, both (passes t None b.0.0) (related b.0.0.path p) b.0.2 there.1, is), upto)
    ]) refl

later-best : (t c : ℕ) (p : Parts) (kept above : List Version) (r : Option MetAt) → AreAbove p kept above → IsBest (passes t None) above r → IsNewestBeneath p kept c
    → IsBestTime (passes_on t None p) kept (later_time t (option_map time_of_met r) c)
later-best t c p kept above None of b n = none-above t c p kept above of b n
later-best t c p kept above (Some x) of b n = some-above t c p kept above x of b n

-- the versions at the proper prefixes of a path
above-proper : (p : Parts) (store : VersionStore) → IsKept store → AreAbove p (versions_of store.entries) (above_list p store (length p - 1))
above-proper p store k = (
  λ v m.
      let at = above-prefix p store (length p - 1) v m in
      let front : is_prefix v.path p ≡ true = ap (λ q. is_prefix q p) at.2 ∙ is_prefix-take p at.0 in
      (above-kept p store (length p - 1) v m, or-left (is_prefix v.path p) (is_prefix p v.path) front),
  λ v m r.
      let at = entry-of store.entries v m in
      let path : v.path ≡ at.0.0.items = path-on at.0.0.items at.0.1.entries v at.2 in
      let some : 1 ≤ length v.path = subst (λ q. 1 ≤ length q) (sym path) (entry-kept store.entries k.1 at.0 at.1).0 in
      let P : Bool → Type 0 = λ b. is_prefix v.path p ≡ b → (b || is_prefix p v.path) ≡ true → Member v (above_list p store (length p - 1)) ⊎ (is_prefix p v.path ≡ true) in
      (elim (is_prefix v.path p) as P [
        | true ↦ λ front h.
            let j = length v.path - 1 in
            let many : suc j ≡ length v.path = omega arith in
            let le = prefix-length v.path p front in
            let is : v.path ≡ take (suc j) p = prefix-take v.path p front ∙ ap (λ n. take n p) (sym many) in
            let Q : Bool → Type 0 = λ b. nat_eq (length v.path) (length p) ≡ b → Member v (above_list p store (length p - 1)) ⊎ (is_prefix p v.path ≡ true) in
            (elim (nat_eq (length v.path) (length p)) as Q [
              | true ↦ λ e.
                  let same : length p ≡ length v.path = grind (arith, nat_tests) in
                  let whole : v.path ≡ p = prefix-take v.path p front ∙ take_all (length v.path) p (omega arith) in
                  inr (ap (is_prefix p) whole ∙ is_prefix-itself p)
              | false ↦ λ e.
                  let less : suc j ≤ length p - 1 = (let apart = eqb-false (length v.path) (length p) e in omega arith) in
                  inl (above-has p store k (length p - 1) j less v m is)
            ]) refl
        | false ↦ λ front h. inr h
      ]) refl r,
)

held-time : (f : Version → Bool) (kept vs : List Version) (r : Option ℕ) → Holds kept vs → IsBestTime f kept r → IsBestTime f vs r
held-time f kept vs None h b = λ v m g. b v ((h.1 v).0 m) g
held-time f kept vs (Some c) h b = ((b.0.0, (h.1 b.0.0).1 b.0.1, b.0.2, b.0.3), λ v m g. b.1 v ((h.1 v).0 m) g)

pub greatest-found : (t : ℕ) (q p : Parts) (store : VersionStore) (beneath : NewestBeneath) (vs : List Version) → IsKept store → SumsUp beneath (versions_of store.entries)
    → Holds (versions_of store.entries) vs → 1 ≤ length q → q ≡ p
    → later_time t (option_map time_of_met (above_upto t None q store (length q - 1))) (newest_at q beneath) ≡ greatest_above t (times_on p vs)
greatest-found t q p store beneath vs k sums h some is =
    let found = later_time t (option_map time_of_met (above_upto t None q store (length q - 1))) (newest_at q beneath) in
    greatest-unique t (times_on q vs) found (greatest_above t (times_on q vs))
    (best-greatest t q vs found (held-time (passes_on t None q) (versions_of store.entries) vs found h
    (later-best t (newest_at q beneath) q (versions_of store.entries) (above_list q store (length q - 1)) (above_upto t None q store (length q - 1))
    (above-proper q store k) (above-best t None q store k (length q - 1) (omega arith)) (sums q some))))
    (greatest-is t (times_on q vs))
    ∙ ap (λ r. greatest_above t (times_on r vs)) is
