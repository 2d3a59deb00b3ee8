-- The transactions that a search tells of, with their status tablets.
use Rattle.std.proofs.Common.{◌≡◌, ℕ, Bool, true, false, ◌&&◌, ◌||◌, List, [], ◌∷◌, Option, Some, refl, sym, ap, ◌∙◌, arith, nat_eq}
use Rattle.std.specs.Prelude.{map, cond, option_map}
use Rattle.std.specs.List.{list_any, cons_option}
use Rattle.std.specs.List.Sorted.{IsStrictlySortedBy}
use Rattle.std.specs.BTreeMap.{is_at}
use Rattle.std.specs.Ordering.{nat_cmp}
use Rattle.std.proofs.lemmas.Bool.Decides.{nat_tests}
use Rattle.txn_data.specs.declared.found.Found.{Found}
use Rattle.txn_data.specs.declared.meta.Meta.{Meta}
use Rattle.txn_types.specs.Lists.{has_number}
use Rattle.txn_types.specs.Tablet.{Intent, is_of, txn_of, has_any, home_in, founds}
use Rattle.intent_records.specs.Holds.{first_meta}
use Rattle.intent_records.specs.Steps.{told}
use Rattle.intent_records.proofs.Rising.{rising-keys}

pub contains-number : (x : ℕ) (keys : List ℕ) → list_any (is_at (nat_cmp x)) keys ≡ has_number x keys
contains-number x [] = refl
contains-number x (k ∷ keys) = let head : is_at (nat_cmp x) k ≡ nat_eq x k = grind (arith, nat_tests) in
    ap (λ b. b || list_any (is_at (nat_cmp x)) keys) head ∙ ap (λ b. nat_eq x k || b) (contains-number x keys)

abbrev with_home : List Intent → ℕ → Found
with_home ps x = record { txn = x; status = home_in x ps }

abbrev with_status : ℕ → Meta → Found
with_status x m = record { txn = x; status = m.status }

first_home : (x : ℕ) (ps : List Intent) → has_any x ps ≡ true → option_map (with_status x) (first_meta x ps) ≡ Some (with_home ps x)
unfolding first_meta home_in
first_home x [] h = cc
first_home x (p ∷ ps) h = by (first_home x ps) (is_of x p) h
  where
    by : (has_any x ps ≡ true → option_map (with_status x) (first_meta x ps) ≡ Some (with_home ps x))
        → (b : Bool) → (b || has_any x ps) ≡ true → option_map (with_status x) (cond b (Some p.meta) (first_meta x ps)) ≡ Some (record { txn = x; status = cond b p.meta.status (home_in x ps) })
    by rest true h = refl
    by rest false h = rest h

or_right : (a b : Bool) → b ≡ true → (a || b) ≡ true
or_right true b h = refl
or_right false b h = h

itself : (x : ℕ) → nat_eq x x ≡ true
itself x = grind (arith, nat_tests)

told-homes : (meta_of : ℕ → Option Meta) (ps : List Intent) (keys : List ℕ) → ((x : ℕ) → meta_of x ≡ first_meta x ps)
    → ((x : ℕ) → has_number x keys ≡ true → has_any x ps ≡ true) → told meta_of keys ≡ map (with_home ps) keys
told-homes meta_of ps [] metas some = refl
told-homes meta_of ps (x ∷ keys) metas some =
    ap (λ o. cons_option (option_map (with_status x) o) (told meta_of keys)) (metas x)
    ∙ ap (λ o. cons_option o (told meta_of keys)) (first_home x ps (some x (ap (λ b. b || has_number x keys) (itself x))))
    ∙ ap (λ fs. with_home ps x ∷ fs) (told-homes meta_of ps keys metas (λ y h. some y (or_right (nat_eq y x) (has_number y keys) h)))

-- keys in order that are the transactions of some of the writes
pub told-founds : (meta_of : ℕ → Option Meta) (ps some : List Intent) (keys : List ℕ) → ((x : ℕ) → meta_of x ≡ first_meta x ps)
    → IsStrictlySortedBy nat_cmp keys → ((x : ℕ) → list_any (is_at (nat_cmp x)) keys ≡ has_number x (map txn_of some))
    → ((x : ℕ) → has_number x (map txn_of some) ≡ true → has_any x ps ≡ true)
    → told meta_of keys ≡ founds ps some
told-founds meta_of ps some keys metas sorted same among =
    let numbers : (x : ℕ) → has_number x keys ≡ has_number x (map txn_of some) = λ x. sym (contains-number x keys) ∙ same x in
    told-homes meta_of ps keys metas (λ x h. among x (sym (numbers x) ∙ h))
    ∙ ap (map (with_home ps)) (rising-keys keys (map txn_of some) sorted numbers)

-- a transaction of some of the writes has a write
pub among_all : (g : Intent → Bool) (x : ℕ) (ps : List Intent) → list_any (λ p. g p && nat_eq (txn_of p) x) ps ≡ true → has_any x ps ≡ true
among_all g x [] h = cc
among_all g x (p ∷ ps) h = by (among_all g x ps) (g p) (nat_eq (txn_of p) x) h
  where
    by : (list_any (λ p. g p && nat_eq (txn_of p) x) ps ≡ true → has_any x ps ≡ true)
        → (a b : Bool) → ((a && b) || list_any (λ p. g p && nat_eq (txn_of p) x) ps) ≡ true → (b || has_any x ps) ≡ true
    by rest true true h = refl
    by rest true false h = rest h
    by rest false b h = or_right b (has_any x ps) (rest h)

-- ---- a set that takes in keys

pub set-turn : (x k : ℕ) (before after : Bool) (rest keys : List ℕ) → keys ≡ k ∷ rest → after ≡ cond (is_at (nat_cmp k) x) true before
    → (after || list_any (is_at (nat_cmp x)) rest) ≡ (before || list_any (is_at (nat_cmp x)) keys)
set-turn x k before after rest keys whole added =
    ap (λ b. b || list_any (is_at (nat_cmp x)) rest) (added ∙ ap (λ b. cond b true before) turned)
    ∙ by (is_at (nat_cmp x) k) before (list_any (is_at (nat_cmp x)) rest)
    ∙ ap (λ l. before || list_any (is_at (nat_cmp x)) l) (sym whole)
  where
    turned : is_at (nat_cmp k) x ≡ is_at (nat_cmp x) k
    turned = grind (arith, nat_tests)

    by : (a b r : Bool) → (cond a true b || r) ≡ (b || (a || r))
    by true true r = refl
    by true false r = refl
    by false b r = refl

pub set-end : (x : ℕ) (rest : List ℕ) (found all : Bool) → rest ≡ [] → (found || list_any (is_at (nat_cmp x)) rest) ≡ all → found ≡ all
set-end x rest found all done h = by found ∙ ap (λ l. found || list_any (is_at (nat_cmp x)) l) (sym done) ∙ h
  where
    by : (b : Bool) → b ≡ (b || false)
    by true = refl
    by false = refl
