-- The paths of provisional writes fit, also where some are added or go.
use Rattle.std.proofs.Common.{◌≡◌, Bool, true, false, cond, List, [], ◌∷◌, ◌++◌, refl, sym, subst, inl, inr, ◌⊎◌}
use Rattle.std.specs.Prelude.{ℕ, map, not, filter, Vec, Result, Ok, Err, OnOk, OnErr, IfOk}
use Rattle.std.specs.declared.alloc.Global.{Global}
use Rattle.std.specs.List.{AllByRecursion}
use Rattle.doc_path.specs.Path.{Parts}
use Rattle.txn_data.specs.declared.provisional.Provisional.{Provisional}
use Rattle.txn_types.specs.Lists.{Member}
use Rattle.txn_types.specs.Tablet.{Intent, is_of}
use Rattle.intent_records.specs.declared.intents.Intents.{Intents}
use Rattle.intent_records.specs.Holds.{Holds, own, provisional_of}
use Rattle.intent_records.specs.Related.{related_writes, on_related}
use Rattle.tablet_records.specs.Fitting.{WriteFits, StandFitting}

among_if : (b : Bool) (q p : Intent) (some all : List Intent) → (Member p some → Member p all) → Member p (cond b (q ∷ some) some) → Member p (q ∷ all)
among_if true q p some all rest (inl e) = inl e
among_if true q p some all rest (inr n) = inr (rest n)
among_if false q p some all rest n = inr (rest n)

among_filtered : (f : Intent → Bool) (ps : List Intent) (p : Intent) → Member p (filter f ps) → Member p ps
among_filtered f [] p m = m
among_filtered f (q ∷ ps) p m = among_if (f q) q p (filter f ps) ps (among_filtered f ps p) m

fit_more : (fits : Parts → Type 0) (ps : List Intent) (q : Intent) → ((p : Intent) → Member p ps → fits p.path) → fits q.path
    → (p : Intent) → Member p (ps ++ q ∷ []) → fits p.path
fit_more fits [] q all last p (inl e) = subst (λ (i : Intent). fits i.path) (sym e) last
fit_more fits [] q all last p (inr m) = absurd m
fit_more fits (r ∷ ps) q all last p (inl e) = all p (inl e)
fit_more fits (r ∷ ps) q all last p (inr m) = fit_more fits ps q (λ i n. all i (inr n)) last p m

all_fit : (fits : Parts → Type 0) (ps : List Intent) → ((p : Intent) → Member p ps → fits p.path) → AllByRecursion (WriteFits fits) (map provisional_of ps)
all_fit fits [] all = tt
all_fit fits (p ∷ ps) all = (all p (inl refl), all_fit fits ps (λ i m. all i (inr m)))

-- one more, or the same
pub added_fit : {A E : Type 0} (fits : Parts → Type 0) (old new : Intents) (q : Intent) (r : Result A E) → StandFitting fits old → fits q.path
    → ((ps : List Intent) → Holds old ps → OnOk r (Holds new (ps ++ q ∷ []))) → ((ps : List Intent) → Holds old ps → OnErr r (Holds new ps)) → StandFitting fits new
added_fit fits old new q (Ok a) was last adds stays =
    record { writes = was.writes ++ q ∷ []; stand = adds was.writes was.stand; fit = fit_more fits was.writes q was.fit last }
added_fit fits old new q (Err e) was last adds stays = record { writes = was.writes; stand = stays was.writes was.stand; fit = was.fit }

-- without those of a transaction
pub dropped_fit : (fits : Parts → Type 0) (old new : Intents) (x : ℕ) → StandFitting fits old
    → ((ps : List Intent) → Holds old ps → Holds new (filter (λ (p : Intent). not (is_of x p)) ps)) → StandFitting fits new
dropped_fit fits old new x was drops = record {
  writes = filter (λ (p : Intent). not (is_of x p)) was.writes;
  stand = drops was.writes was.stand;
  fit = λ p m. was.fit p (among_filtered (λ (q : Intent). not (is_of x q)) was.writes p m);
}

-- those of a transaction
pub own_fit : {E : Type 0} (fits : Parts → Type 0) (s : Intents) (x : ℕ) (r : Result (Vec Provisional Global) E) → StandFitting fits s
    → ((ps : List Intent) → Holds s ps → IfOk r (λ list. list.items ≡ map provisional_of (own x ps))) → IfOk r (λ list. AllByRecursion (WriteFits fits) list.items)
own_fit fits s x (Ok list) was told =
    subst (AllByRecursion (WriteFits fits)) (sym (told was.writes was.stand))
    (all_fit fits (own x was.writes) (λ p m. was.fit p (among_filtered (is_of x) was.writes p m)))
own_fit fits s x (Err e) was told = tt

among_both : (xs ys : List Intent) (p : Intent) → Member p (xs ++ ys) → Member p xs ⊎ Member p ys
among_both [] ys p m = inr m
among_both (x ∷ xs) ys p (inl e) = inl (inl e)
among_both (x ∷ xs) ys p (inr m) = elim (among_both xs ys p m) [ inl n ↦ inl (inr n) | inr n ↦ inr n ]

among_related : (paths : List Parts) (xs : List ℕ) (ps : List Intent) (p : Intent) → Member p (related_writes paths xs ps) → Member p ps
among_related paths [] ps p m = absurd m
among_related paths (x ∷ xs) ps p m = elim (among_both (filter (on_related paths) (own x ps)) (related_writes paths xs ps) p m) [
  | inl n ↦ among_filtered (is_of x) ps p (among_filtered (on_related paths) (own x ps) p n)
  | inr n ↦ among_related paths xs ps p n
]

-- those of some transactions on related paths
pub related_fit : {E : Type 0} (fits : Parts → Type 0) (s : Intents) (paths : List Parts) (xs : List ℕ) (r : Result (Vec Provisional Global) E) → StandFitting fits s
    → ((ps : List Intent) → Holds s ps → IfOk r (λ list. list.items ≡ map provisional_of (related_writes paths xs ps))) → IfOk r (λ list. AllByRecursion (WriteFits fits) list.items)
related_fit fits s paths xs (Ok list) was told =
    subst (AllByRecursion (WriteFits fits)) (sym (told was.writes was.stand))
    (all_fit fits (related_writes paths xs was.writes) (λ p m. was.fit p (among_related paths xs was.writes p m)))
related_fit fits s paths xs (Err e) was told = tt
