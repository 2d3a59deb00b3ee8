-- The provisional writes of one transaction among those of all.
use Rattle.std.proofs.Common.{◌≡◌, ◌⊎◌, ℕ, zero, suc, Bool, true, false, ◌&&◌, ◌||◌, not, List, [], ◌∷◌, ◌++◌, Option, Some, None, refl, sym, ap, ◌∙◌, arith, inl, inr, nat_eq, append-nil}
use Rattle.std.specs.Prelude.{slice_get, map, filter, cond, is_none, is_some}
use Rattle.std.specs.List.{list_any}
use Rattle.std.proofs.lemmas.Bool.Decides.{nat_tests}
use Rattle.std.proofs.lemmas.List.Elements.{filter-append}
use Rattle.doc_path.specs.Path.{Parts}
use Rattle.txn_data.specs.declared.meta.Meta.{Meta}
use Rattle.txn_types.specs.Lists.{Member, or_else, has_number}
use Rattle.txn_types.specs.Tablet.{Intent, is_of, txn_of, same_path, has_any}
use Rattle.intent_records.specs.declared.primary_record.PrimaryRecord.{PrimaryRecord}
use Rattle.intent_records.specs.Holds.{own, first_meta, path_of, primary_of, record_at, any_paths}
use Rattle.intent_records.specs.Steps.{paths_or_none}
use Rattle.intent_records.proofs.Between.{same_path-exact}

-- the write at a place among those of a transaction is one of all, and of that transaction
pub own-member : (x : ℕ) (ps : List Intent) (i : ℕ) (p : Intent) → slice_get (own x ps) i ≡ Some p → Member p ps × (is_of x p ≡ true)
own-member x [] i p h = cc
own-member x (q ∷ ps) i p h = by (λ j g. own-member x ps j p g) (is_of x q) refl i h
  where
    by : ((j : ℕ) → slice_get (own x ps) j ≡ Some p → Member p ps × (is_of x p ≡ true))
        → (b : Bool) → is_of x q ≡ b → (i : ℕ) → slice_get (cond b (q ∷ own x ps) (own x ps)) i ≡ Some p → Member p (q ∷ ps) × (is_of x p ≡ true)
    by rest true is zero h = let same : p ≡ q = cc in (inl same, ap (is_of x) same ∙ is)
    by rest true is (suc i) h = let at = rest i h in (inr at.0, at.1)
    by rest false is i h = let at = rest i h in (inr at.0, at.1)

-- each write has a place among those of its transaction
pub own-place : (x : ℕ) (ps : List Intent) (p : Intent) → Member p ps → is_of x p ≡ true → (i : ℕ) × (slice_get (own x ps) i ≡ Some p)
own-place x [] p m is = absurd m
own-place x (q ∷ ps) p (inl same) is = by (is_of x q) (sym (ap (is_of x) same) ∙ is)
  where
    by : (b : Bool) → b ≡ true → (i : ℕ) × (slice_get (cond b (q ∷ own x ps) (own x ps)) i ≡ Some p)
    by true h = (0, ap Some (sym same))
    by false h = cc
own-place x (q ∷ ps) p (inr m) is = by (own-place x ps p m is) (is_of x q)
  where
    by : (i : ℕ) × (slice_get (own x ps) i ≡ Some p) → (b : Bool) → (i : ℕ) × (slice_get (cond b (q ∷ own x ps) (own x ps)) i ≡ Some p)
    by rest true = (suc rest.0, rest.1)
    by rest false = rest

-- a record stands for a write on that path
pub record_at-some : (path : Parts) (o : Option Intent) (v : PrimaryRecord) → record_at path o ≡ Some v → (p : Intent) × ((o ≡ Some p) × (p.path ≡ path) × (primary_of p ≡ v))
record_at-some path None v h = cc
record_at-some path (Some p) v h = by (same_path p.path path) refl h
  where
    by : (b : Bool) → same_path p.path path ≡ b → cond b (Some (primary_of p)) None ≡ Some v → (q : Intent) × ((Some p ≡ Some q) × (q.path ≡ path) × (primary_of q ≡ v))
    by true is h = (p, (refl, same_path-exact p.path path is, cc))
    by false is h = cc

pub is_of-txn : (x : ℕ) (p : Intent) → is_of x p ≡ true → txn_of p ≡ x
is_of-txn x p h = grind (arith, nat_tests, h)

pub is_of-itself : (p : Intent) → is_of (txn_of p) p ≡ true
is_of-itself p = grind (arith, nat_tests)

-- ---- one more write

pub own-push : (x : ℕ) (ps : List Intent) (p : Intent) → own x (ps ++ p ∷ []) ≡ cond (is_of x p) (own x ps ++ p ∷ []) (own x ps)
own-push x ps p = filter-append (is_of x) ps (p ∷ []) ∙ by (is_of x p)
  where
    by : (b : Bool) → own x ps ++ cond b (p ∷ []) [] ≡ cond b (own x ps ++ p ∷ []) (own x ps)
    by true = refl
    by false = append-nil (own x ps)

pub first_meta-push : (x : ℕ) (ps : List Intent) (p : Intent) → first_meta x (ps ++ p ∷ []) ≡ or_else (first_meta x ps) (cond (is_of x p) (Some p.meta) None)
unfolding first_meta
first_meta-push x [] p = refl
first_meta-push x (q ∷ ps) p = by (first_meta-push x ps p) (is_of x q)
  where
    by : first_meta x (ps ++ p ∷ []) ≡ or_else (first_meta x ps) (cond (is_of x p) (Some p.meta) None)
        → (b : Bool) → cond b (Some q.meta) (first_meta x (ps ++ p ∷ [])) ≡ or_else (cond b (Some q.meta) (first_meta x ps)) (cond (is_of x p) (Some p.meta) None)
    by rest true = refl
    by rest false = rest

-- a transaction has metadata just where it has a write
pub first_meta-any : (x : ℕ) (ps : List Intent) → is_none (any_paths (map path_of (own x ps))) ≡ is_none (first_meta x ps)
unfolding first_meta
first_meta-any x [] = refl
first_meta-any x (q ∷ ps) = by (first_meta-any x ps) (is_of x q)
  where
    by : is_none (any_paths (map path_of (own x ps))) ≡ is_none (first_meta x ps)
        → (b : Bool) → is_none (any_paths (map path_of (cond b (q ∷ own x ps) (own x ps)))) ≡ is_none (cond b (Some q.meta) (first_meta x ps))
    by rest true = refl
    by rest false = rest

pub is_some-first_meta : (x : ℕ) (ps : List Intent) → is_some (first_meta x ps) ≡ has_any x ps
unfolding first_meta
is_some-first_meta x [] = refl
is_some-first_meta x (q ∷ ps) = by (is_some-first_meta x ps) (is_of x q)
  where
    by : is_some (first_meta x ps) ≡ has_any x ps → (b : Bool) → is_some (cond b (Some q.meta) (first_meta x ps)) ≡ (b || has_any x ps)
    by rest true = refl
    by rest false = rest

pub paths_or_none-any : (l : List Parts) → paths_or_none (any_paths l) ≡ l
paths_or_none-any [] = refl
paths_or_none-any (p ∷ l) = refl

pub any_paths-push : (l : List Parts) (p : Parts) → any_paths (l ++ p ∷ []) ≡ Some (l ++ p ∷ [])
any_paths-push [] p = refl
any_paths-push (q ∷ l) p = refl

pub member-push : (q p : Intent) (ps : List Intent) → Member q (ps ++ p ∷ []) → Member q ps ⊎ (q ≡ p)
member-push q p [] (inl same) = inr same
member-push q p [] (inr m) = elim m [ ]
member-push q p (r ∷ ps) (inl same) = inl (inl same)
member-push q p (r ∷ ps) (inr m) = by (member-push q p ps m)
  where
    by : Member q ps ⊎ (q ≡ p) → Member q (r ∷ ps) ⊎ (q ≡ p)
    by (inl m) = inl (inr m)
    by (inr same) = inr same

-- ---- without the writes of one transaction

same_txn : (x y : ℕ) (p : Intent) → is_of x p ≡ true → is_of y p ≡ nat_eq y x
same_txn x y p h = grind (arith, nat_tests, h)

other_txn : (x y : ℕ) (p : Intent) → is_of x p ≡ false → is_of y p ≡ true → nat_eq y x ≡ false
other_txn x y p h g = grind (arith, nat_tests, h, g)

pub own-without : (y x : ℕ) (ps : List Intent) → own y (filter (λ (p : Intent). not (is_of x p)) ps) ≡ cond (nat_eq y x) [] (own y ps)
own-without y x [] = none (nat_eq y x)
  where
    none : (b : Bool) → own y [] ≡ cond b [] (own y [])
    none true = refl
    none false = refl
own-without y x (p ∷ ps) = by_x (own-without y x ps) (is_of x p) refl
  where
    keep : (b c : Bool) → b ≡ c → cond c [] (own y ps) ≡ cond c [] (cond b (p ∷ own y ps) (own y ps))
    keep true true e = refl
    keep true false e = cc
    keep false c e = refl

    pick : (xs : List Intent) (b c : Bool) → (b ≡ true → c ≡ false) → xs ≡ cond c [] (own y ps) → cond b (p ∷ xs) xs ≡ cond c [] (cond b (p ∷ own y ps) (own y ps))
    pick xs true true f h = let e = f refl in cc
    pick xs true false f h = ap (λ l. p ∷ l) h
    pick xs false c f h = h

    by_x : own y (filter (λ (p : Intent). not (is_of x p)) ps) ≡ cond (nat_eq y x) [] (own y ps)
        → (a : Bool) → is_of x p ≡ a → own y (cond (not a) (p ∷ filter (λ (p : Intent). not (is_of x p)) ps) (filter (λ (p : Intent). not (is_of x p)) ps)) ≡ cond (nat_eq y x) [] (cond (is_of y p) (p ∷ own y ps) (own y ps))
    by_x rest true is = rest ∙ keep (is_of y p) (nat_eq y x) (same_txn x y p is)
    by_x rest false is = pick (own y (filter (λ (p : Intent). not (is_of x p)) ps)) (is_of y p) (nat_eq y x) (other_txn x y p is) rest

pub first_meta-without : (y x : ℕ) (ps : List Intent) → first_meta y (filter (λ (p : Intent). not (is_of x p)) ps) ≡ cond (nat_eq y x) None (first_meta y ps)
unfolding first_meta
first_meta-without y x [] = none (nat_eq y x)
  where
    none : (b : Bool) → first_meta y [] ≡ cond b None (first_meta y [])
    none true = refl
    none false = refl
first_meta-without y x (p ∷ ps) = by_x (first_meta-without y x ps) (is_of x p) refl
  where
    keep : (o : Option Meta) (b c : Bool) → b ≡ c → cond c None o ≡ cond c None (cond b (Some p.meta) o)
    keep o true true e = refl
    keep o true false e = cc
    keep o false c e = refl

    pick : (o r : Option Meta) (b c : Bool) → (b ≡ true → c ≡ false) → r ≡ cond c None o → cond b (Some p.meta) r ≡ cond c None (cond b (Some p.meta) o)
    pick o r true true f h = let e = f refl in cc
    pick o r true false f h = refl
    pick o r false c f h = h

    by_x : first_meta y (filter (λ (p : Intent). not (is_of x p)) ps) ≡ cond (nat_eq y x) None (first_meta y ps)
        → (a : Bool) → is_of x p ≡ a → first_meta y (cond (not a) (p ∷ filter (λ (p : Intent). not (is_of x p)) ps) (filter (λ (p : Intent). not (is_of x p)) ps)) ≡ cond (nat_eq y x) None (cond (is_of y p) (Some p.meta) (first_meta y ps))
    by_x rest true is = rest ∙ keep (first_meta y ps) (is_of y p) (nat_eq y x) (same_txn x y p is)
    by_x rest false is = pick (first_meta y ps) (first_meta y (filter (λ (p : Intent). not (is_of x p)) ps)) (is_of y p) (nat_eq y x) (other_txn x y p is) rest

pub member-filter : (f : Intent → Bool) (q : Intent) (ps : List Intent) → Member q (filter f ps) → Member q ps
member-filter f q [] m = m
member-filter f q (p ∷ ps) m = by (member-filter f q ps) (f p) m
  where
    by : (Member q (filter f ps) → Member q ps) → (b : Bool) → Member q (cond b (p ∷ filter f ps) (filter f ps)) → Member q (p ∷ ps)
    by rest true (inl same) = inl same
    by rest true (inr m) = inr (rest m)
    by rest false m = inr (rest m)

-- ---- tests over the writes

pub any-member : {A : Type 0} (f : A → Bool) (xs : List A) → list_any f xs ≡ true → (x : A) × (Member x xs × (f x ≡ true))
any-member f [] h = cc
any-member {A} f (x ∷ xs) h = by (any-member f xs) (f x) refl h
  where
    by : (list_any f xs ≡ true → (y : A) × (Member y xs × (f y ≡ true))) → (b : Bool) → f x ≡ b → (b || list_any f xs) ≡ true → (y : A) × (Member y (x ∷ xs) × (f y ≡ true))
    by rest true is h = (x, (inl refl, is))
    by rest false is h = let at = rest h in (at.0, (inr at.1.0, at.1.1))

or_true : (b : Bool) → (b || true) ≡ true
or_true true = refl
or_true false = refl

pub member-any : {A : Type 0} (f : A → Bool) (xs : List A) (x : A) → Member x xs → f x ≡ true → list_any f xs ≡ true
member-any f [] x m h = absurd m
member-any f (y ∷ xs) x (inl same) h = ap (λ z. f z || list_any f xs) (sym same) ∙ ap (λ b. b || list_any f xs) h
member-any f (y ∷ xs) x (inr m) h = ap (λ b. f y || b) (member-any f xs x m h) ∙ or_true (f y)

pub list_any-same : {A : Type 0} (f g : A → Bool) (xs : List A) → ((x : A) → Member x xs → f x ≡ g x) → list_any f xs ≡ list_any g xs
list_any-same f g [] same = refl
list_any-same f g (x ∷ xs) same =
    ap (λ b. b || list_any f xs) (same x (inl refl)) ∙ ap (λ b. g x || b) (list_any-same f g xs (λ y m. same y (inr m)))

nat_eq-swap : (m n : ℕ) → nat_eq m n ≡ nat_eq n m
nat_eq-swap m n = grind (arith, nat_tests)

-- a transaction is one of those of some writes
pub has_number-filter : (g : Intent → Bool) (x : ℕ) (ps : List Intent) → has_number x (map txn_of (filter g ps)) ≡ list_any (λ p. g p && nat_eq (txn_of p) x) ps
has_number-filter g x [] = refl
has_number-filter g x (p ∷ ps) = by (has_number-filter g x ps) (g p)
  where
    by : has_number x (map txn_of (filter g ps)) ≡ list_any (λ p. g p && nat_eq (txn_of p) x) ps
        → (b : Bool) → has_number x (map txn_of (cond b (p ∷ filter g ps) (filter g ps))) ≡ ((b && nat_eq (txn_of p) x) || list_any (λ p. g p && nat_eq (txn_of p) x) ps)
    by rest true = ap (λ b. b || has_number x (map txn_of (filter g ps))) (nat_eq-swap x (txn_of p)) ∙ ap (λ b. nat_eq (txn_of p) x || b) rest
    by rest false = rest

pub has_number-all : (x : ℕ) (ps : List Intent) → has_number x (map txn_of ps) ≡ has_any x ps
has_number-all x [] = refl
has_number-all x (p ∷ ps) = ap (λ b. b || has_number x (map txn_of ps)) (nat_eq-swap x (txn_of p)) ∙ ap (λ b. nat_eq (txn_of p) x || b) (has_number-all x ps)
