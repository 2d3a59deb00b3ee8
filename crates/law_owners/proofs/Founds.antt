-- A tablet tells of transactions with their own status tablets, since its provisional writes name them.
use Rattle.std.proofs.Common.{◌≡◌, ℕ, Bool, true, false, List, [], ◌∷◌, Some, nat_eq, nat_lt, map, refl, sym, ◌∙◌, ap, subst, inl, inr, ◌⊎◌, if◌then◌else◌}
use Rattle.txn_data.specs.declared.config.Config.{Config}
use Rattle.txn_data.specs.declared.found.Found.{Found}
use Rattle.txn_data.specs.declared.actor.Actor.{Actor}
use Rattle.txn_data.specs.declared.request.Request.TheVariants as request
use Rattle.txn_data.specs.declared.event.Event.{Event}
use Rattle.txn_data.specs.declared.event.Event.TheVariants.{Serve}
use Rattle.txn_data.specs.declared.entry.Entry.{Entry}
use Rattle.txn_types.specs.Lists.{Member, with_number, rising}
use Rattle.txn_types.specs.History.{History, was_logged, counting, counting_before, standing, event_counts, next_restart_kept}
use Rattle.txn_types.specs.Tablet.{Intent, is_of, txn_of, provisional, provisional_over, provisional_after, home_in, founds}
use Rattle.law_machines.proofs.Basics.{eq_refl, eq_true, member_cases, map_member, filter_member}
use Rattle.law_machines.proofs.Counted.{choice_member}
use Rattle.law_owners.specs.Owner.{home_of, IsHomedAt}

-- ## numbers by rising value are the same numbers

with_choice : (x n m : ℕ) (ms : List ℕ) (a b : Bool) → (Member x (with_number n ms) → (x ≡ n) ⊎ Member x ms) →
    Member x (if a then n ∷ m ∷ ms else (if b then m ∷ ms else m ∷ with_number n ms)) → (x ≡ n) ⊎ Member x (m ∷ ms)
with_choice x n m ms true b more k = elim k [ inl e ↦ inl e | inr h ↦ inr h ]
with_choice x n m ms false true more k = inr k
with_choice x n m ms false false more k = elim k [
  | inl e ↦ inr (inl e)
  | inr h ↦ elim (more h) [ inl e ↦ inl e | inr r ↦ inr (inr r) ]
]

with_number_member : (x n : ℕ) (ms : List ℕ) → Member x (with_number n ms) → (x ≡ n) ⊎ Member x ms
unfolding with_number
with_number_member x n [] k = elim k [ inl e ↦ inl e | inr h ↦ absurd h ]
with_number_member x n (m ∷ ms) k = with_choice x n m ms (nat_lt n m) (nat_eq n m) (with_number_member x n ms) k

pub rising_member : (x : ℕ) (ns : List ℕ) → Member x (rising ns) → Member x ns
unfolding rising
rising_member x [] k = k
rising_member x (n ∷ ns) k = elim (with_number_member x n (rising ns) k) [
  | inl e ↦ inl e
  | inr h ↦ inr (rising_member x ns h)
]

-- ## provisional writes name the status tablet of their transaction

abbrev pub IntentsHomed : Config → List Intent → Type 0
IntentsHomed config ps = (p : Intent) → Member p ps → p.meta.status ≡ home_of config p.meta.txn

abbrev pub AllHomed : Config → History → Type 0
AllHomed config h = (e : Entry) → Member e h → IsHomedAt config e.actor e.event

provisional_event : (config : Config) (a : Actor) (ps : List Intent) (event : Event) → IsHomedAt config a event → IntentsHomed config ps → IntentsHomed config (provisional_after ps event)
provisional_event config a ps (Serve from (request.Write meta number path op read seen fates) r (Some w) append) homed before = λ p m.
    elim (member_cases p ps ((record { meta = meta; number = number; path = path; op = op; wrote = w }) ∷ []) m) [
      | inl old ↦ before p old
      | inr new ↦ elim new [
        | inl is ↦ subst (λ (q : Intent). q.meta.status ≡ home_of config q.meta.txn) (sym is) homed.0.1
        | inr none ↦ absurd none
      ]
    ]
provisional_event config a ps (Serve from (request.Apply x at) r time append) homed before = λ p m. before p (filter_member _ p ps m).0
provisional_event config a ps (Serve from (request.Clean x) r time append) homed before = λ p m. before p (filter_member _ p ps m).0
provisional_event config a ps event homed before = before

pub provisional_homed : (config : Config) (l : History) → AllHomed config l → IntentsHomed config (provisional_over l)
unfolding provisional_over
provisional_homed config [] all = λ p m. absurd m
provisional_homed config (e ∷ l) all =
    provisional_event config e.actor (provisional_over l) e.event (all e (inl refl)) (provisional_homed config l (λ f m. all f (inr m)))

counting_part : (e : Entry) (later h : History) → Member e (counting_before later h) → Member e h
unfolding counting_before
counting_part e later [] m = m
counting_part e later (f ∷ h) m = elim (choice_member (event_counts f.event (next_restart_kept f.actor later)) e f (counting_before (f ∷ later) h) m) [
  | inl here ↦ inl here.1
  | inr more ↦ inr (counting_part e (f ∷ later) h more)
]

pub standing_part : (e : Entry) (h : History) → Member e (standing h) → Member e h
standing_part e h m = counting_part e [] h (filter_member (λ (f : Entry). was_logged f.event) e (counting h) m).0

pub tablet_homed : (config : Config) (o : History) → AllHomed config o → IntentsHomed config (provisional o)
tablet_homed config o all = provisional_homed config (standing o) (λ e m. all e (standing_part e o m))

-- ## and so do the transactions that are told

abbrev pub FoundsHomed : Config → List Found → Type 0
FoundsHomed config fs = (f : Found) → Member f fs → f.status ≡ home_of config f.txn

home_choice : (config : Config) (x status other : ℕ) (b : Bool) → (b ≡ true → status ≡ home_of config x) → (b ≡ false → other ≡ home_of config x) → (if b then status else other) ≡ home_of config x
home_choice config x status other true giving never = giving refl
home_choice config x status other false giving never = never refl

home_in_is : (config : Config) (x : ℕ) (ps : List Intent) → IntentsHomed config ps → (p : Intent) → Member p ps → p.meta.txn ≡ x → home_in x ps ≡ home_of config x
unfolding home_in
home_in_is config x [] homed p m is = absurd m
home_in_is config x (q ∷ ps) homed p m is = home_choice config x q.meta.status (home_in x ps) (is_of x q)
    (λ giving. homed q (inl refl) ∙ ap (λ (y : ℕ). home_of config y) (eq_true q.meta.txn x giving))
    (λ never. elim m [
      | inl here ↦
          let same : q.meta.txn ≡ x = subst (λ (r : Intent). r.meta.txn ≡ x) here is in
          let giving : nat_eq q.meta.txn x ≡ true = subst (λ (y : ℕ). nat_eq q.meta.txn y ≡ true) same (eq_refl q.meta.txn) in cc
      | inr more ↦ home_in_is config x ps (λ r k. homed r (inr k)) p more is
    ])

pub founds_homed : (config : Config) (ps some : List Intent) → IntentsHomed config ps → ((p : Intent) → Member p some → Member p ps) → FoundsHomed config (founds ps some)
founds_homed config ps some homed part = λ f m.
    let r = map_member (λ (x : ℕ). record { txn = x; status = home_in x ps }) f (rising (map txn_of some)) m in
    let p = map_member txn_of r.0 some (rising_member r.0 (map txn_of some) r.1) in
    let status : f.status ≡ home_in r.0 ps = ap (λ (g : Found). g.status) r.2 in
    let txn : r.0 ≡ f.txn = sym (ap (λ (g : Found). g.txn) r.2) in
    status ∙ (home_in_is config r.0 ps homed p.0 (part p.0 p.1) (sym p.2) ∙ ap (λ (y : ℕ). home_of config y) txn)
