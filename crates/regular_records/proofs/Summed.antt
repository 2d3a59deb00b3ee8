-- The newest times at or beneath prefixes, as versions come.
use Rattle.std.proofs.Common.{◌≡◌, ℕ, ◌≤◌, Bool, true, false, List, [], max, suc, if◌then◌else◌, length, nat_lt, refl, sym, ap, ◌∙◌, arith, inl, inr, subst}
use Rattle.std.proofs.lemmas.Bool.Decides.{nat_tests}
use Rattle.doc_path.specs.Path.{Parts, is_prefix}
use Rattle.txn_data.specs.declared.version.Version.{Version}
use Rattle.txn_types.specs.Lists.{Member}
use Rattle.txn_types.specs.Tablet.{same_place}
use Rattle.regular_records.specs.declared.newest_beneath.NewestBeneath.{NewestBeneath}
use Rattle.regular_records.specs.Adding.{Replaces}
use Rattle.regular_records.specs.NewestBeneath.{newest_at, IsNewestBeneath, SumsUp}
use Rattle.regular_records.proofs.Placed.{place-is}

pub sums-none : (beneath : NewestBeneath) → ((q : Parts) → newest_at q beneath ≡ 0) → SumsUp beneath []
sums-none beneath none q some = (λ v m h. absurd m, inl (none q))

pub sums-same : (a b : NewestBeneath) (vs : List Version) → ((q : Parts) → newest_at q b ≡ newest_at q a) → SumsUp a vs → SumsUp b vs
sums-same a b vs same s q some = subst (IsNewestBeneath q vs) (sym (same q)) (s q some)

-- a version that is there after one more has come, with the time of one that was there
still-newest : (q : Parts) (v w : Version) (old new : List Version) → Replaces v old new → Member w old → is_prefix q w.path ≡ true
    → (u : Version) × Member u new × (is_prefix q u.path ≡ true) × (u.at ≡ w.at)
still-newest q v w old new r m h =
    let P : Bool → Type 0 = λ b. same_place w v ≡ b → (u : Version) × Member u new × (is_prefix q u.path ≡ true) × (u.at ≡ w.at) in
    (elim (same_place w v) as P [
      | true ↦ λ e. let one = place-is w v e in (v, (r v).1 (inl refl), ap (is_prefix q) (sym one.0) ∙ h, sym one.1)
      | false ↦ λ e. (w, (r w).1 (inr (m, e)), h, refl)
    ]) refl

newest-raised : (q : Parts) (v : Version) (old new : List Version) (c : ℕ) → Replaces v old new → is_prefix q v.path ≡ true
    → IsNewestBeneath q old c → IsNewestBeneath q new (max v.at c)
newest-raised q v old new c r begins n =
    let first : v.at ≤ max v.at c = grind arith in
    let second : c ≤ max v.at c = grind arith in
    let upto : (u : Version) → Member u new → is_prefix q u.path ≡ true → u.at ≤ max v.at c =
    λ u m h. elim ((r u).0 m) [
      | inl e ↦ let at = ap (λ (x : Version). x.at) e in omega (arith, first, at)
      | inr o ↦ let le = n.0 u o.0 h in omega (arith, second, le)
    ] in
    let own : c ≤ v.at → IsNewestBeneath q new (max v.at c) = λ le.
    let is : v.at ≡ max v.at c = grind arith in
    (upto, inr (v, (r v).1 (inl refl), begins, is)) in
    let P : Bool → Type 0 = λ b. nat_lt v.at c ≡ b → IsNewestBeneath q new (max v.at c) in
    (elim (nat_lt v.at c) as P [
      | true ↦ λ b.
          let less : suc v.at ≤ c = grind (arith, nat_tests) in
          elim n.1 [
            | inl e ↦ absurd (omega arith)
            | inr w ↦
                let u = still-newest q v w.0 old new r w.1 w.2 in
                let is : u.0.at ≡ max v.at c = (let a = u.3 in let b = w.3 in grind arith) in
                (upto, inr (u.0, u.1, u.2, is))
          ]
      | false ↦ λ b. own (let le : c ≤ v.at = grind (arith, nat_tests) in le)
    ]) refl

newest-apart : (q : Parts) (v : Version) (old new : List Version) (c : ℕ) → Replaces v old new → is_prefix q v.path ≡ false
    → IsNewestBeneath q old c → IsNewestBeneath q new c
newest-apart q v old new c r begins n = (
  λ u m h. elim ((r u).0 m) [
    | inl e ↦ let bad : true ≡ false = sym h ∙ ap (λ (x : Version). is_prefix q x.path) e ∙ begins in cc
    | inr o ↦ n.0 u o.0 h
  ],
  elim n.1 [
    | inl e ↦ inl e
    | inr w ↦ let u = still-newest q v w.0 old new r w.1 w.2 in inr (u.0, u.1, u.2, u.3 ∙ w.3)
  ],
)

pub sums-raised : (a b : NewestBeneath) (v : Version) (old new : List Version) → Replaces v old new
    → ((q : Parts) → 1 ≤ length q → newest_at q b ≡ (if is_prefix q v.path then max v.at (newest_at q a) else newest_at q a))
    → SumsUp a old → SumsUp b new
sums-raised a b v old new r raised s q some =
    let P : Bool → Type 0 = λ x. is_prefix q v.path ≡ x → IsNewestBeneath q new (if x then max v.at (newest_at q a) else newest_at q a) in
    subst (IsNewestBeneath q new) (sym (raised q some))
    ((elim (is_prefix q v.path) as P [
      | true ↦ λ x. newest-raised q v old new (newest_at q a) r x (s q some)
      | false ↦ λ x. newest-apart q v old new (newest_at q a) r x (s q some)
    ]) refl)
