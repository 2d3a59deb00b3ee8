-- The own entries of a machine in a run are what its table answers, one after another.
use Rattle.std.proofs.Common.{◌≡◌, ℕ, true, false, [], ◌∷◌, Option, refl, sym, ◌∙◌, ap, subst, inl, inr}
use Rattle.txn_data.specs.declared.actor.Actor.{Actor}
use Rattle.txn_data.specs.declared.config.Config.{Config}
use Rattle.txn_data.specs.declared.event.Event.{Event}
use Rattle.txn_data.specs.declared.event.Event.TheVariants.{Start, Ask, Serve, Hear, Tell, Restarted}
use Rattle.txn_data.specs.declared.entry.Entry.{Entry}
use Rattle.txn_types.specs.Lists.{Member}
use Rattle.txn_types.specs.History.{History, same_actor, own, counting}
use Rattle.txn_types.specs.Run.{Steps, Allowed, Run}
use Rattle.law_machines.specs.Own.{ServesNext, ServesAll, StandsOver}
use Rattle.law_machines.proofs.Basics.{same_cases, same_of, member_filter, filter_member}
use Rattle.law_machines.proofs.Counted.{counted, own_counting, AllOf, counted_member}

pub allowed_serves : (config : Config) (h : History) (a : Actor) (reading : Option ℕ) (event : Event) → Allowed config h a reading event → ServesNext config.lease_us a (own a h) reading event
allowed_serves config h a reading (Serve from asked r time append) ok = ok.2
allowed_serves config h a reading (Restarted from kept) ok = ok.3
allowed_serves config h a reading (Start number line) ok = tt
allowed_serves config h a reading (Ask to asked) ok = tt
allowed_serves config h a reading (Hear from r) ok = tt
allowed_serves config h a reading (Tell number t) ok = tt

pub serves_own : (config : Config) (a : Actor) (h : History) → Steps config h → ServesAll config.lease_us a (own a h)
unfolding Steps ServesAll
serves_own config a [] steps = tt
serves_own config a (e ∷ h) steps = elim (same_cases e.actor a) [
  | inl s ↦ rw s.0 (
    serves_own config a h steps.0,
    s.1,
    subst (λ (b : Actor). ServesNext config.lease_us b (own b h) e.reading e.event) s.1 (allowed_serves config h e.actor e.reading e.event steps.1),
  )
  | inr s ↦ rw s.0 (serves_own config a h steps.0)
]

-- the entries up to one of them
pub steps_at : (config : Config) (e : Entry) (before h : History) → Steps config h → StandsOver e before h → Steps config (e ∷ before)
unfolding Steps
steps_at config e before [] steps stands = absurd stands
steps_at config e before (f ∷ h) steps stands = elim stands [
  | inl here ↦ subst (λ (g : Entry). Steps config (g ∷ before)) here.0 (subst (λ (l : History). Steps config (f ∷ l)) here.1 steps)
  | inr deeper ↦ steps_at config e before h steps.0 deeper
]

-- what stands before an entry of a run is a run
pub run_until : (config : Config) (h before : History) (e : Entry) → Run config h → StandsOver e before h → Run config before
unfolding Steps
run_until config h before e run stands =
    let up_to : Steps config (e ∷ before) = steps_at config e before h run.1 stands in
    (run.0, up_to.0)

pub stands_own : (a : Actor) (e : Entry) (before h : History) → e.actor ≡ a → StandsOver e before h → StandsOver e (own a before) (own a h)
stands_own a e before [] is stands = absurd stands
stands_own a e before (f ∷ h) is stands = elim stands [
  | inl here ↦
      let same : same_actor f.actor a ≡ true = same_of f.actor a (ap (λ (g : Entry). g.actor) here.0 ∙ is) in
      rw same (inl (here.0, ap (λ (l : History). own a l) here.1))
  | inr deeper ↦ elim (same_cases f.actor a) [
    | inl s ↦ rw s.0 (inr (stands_own a e before h is deeper))
    | inr s ↦ rw s.0 (stands_own a e before h is deeper)
  ]
]

pub stands_member : (e : Entry) (before h : History) → StandsOver e before h → Member e h
stands_member e before [] stands = absurd stands
stands_member e before (f ∷ h) stands = elim stands [ inl here ↦ inl (sym here.0) | inr deeper ↦ inr (stands_member e before h deeper) ]

pub member_own : (e : Entry) (a : Actor) (h : History) → e.actor ≡ a → Member e h → Member e (own a h)
member_own e a h is m = member_filter (λ (f : Entry). same_actor f.actor a) e h m (same_of e.actor a is)

pub own_member : (e : Entry) (a : Actor) (h : History) → Member e (own a h) → Member e h
own_member e a h m = (filter_member (λ (f : Entry). same_actor f.actor a) e h m).0

-- what counts of a history counts of its actor's own entries
pub member_counted : (e : Entry) (a : Actor) (h : History) → e.actor ≡ a → Member e (counting h) → Member e (counted false (own a h))
member_counted e a h is m = subst (λ (l : History). Member e l) (own_counting a h) (member_own e a (counting h) is m)

pub counted_counting : (e : Entry) (a : Actor) (h : History) → Member e (counted false (own a h)) → Member e (counting h)
counted_counting e a h m = own_member e a (counting h) (subst (λ (l : History). Member e l) (sym (own_counting a h)) m)

-- what counts is an entry of the history
pub counting_part : (e : Entry) (h : History) → Member e (counting h) → Member e h
counting_part e h m = own_member e e.actor h (counted_member e false (own e.actor h) (member_counted e e.actor h refl m))

-- what a machine sees to where one of its entries stands
pub serves_at : (config : Config) (f : Entry) (before h : History) → Steps config h → StandsOver f before h → ServesNext config.lease_us f.actor (own f.actor before) f.reading f.event
unfolding Steps
serves_at config f before h steps stands =
    let up_to : Steps config (f ∷ before) = steps_at config f before h steps stands in
    allowed_serves config before f.actor f.reading f.event up_to.1

pub serves_before : (config : Config) (a : Actor) (f : Entry) (before h : History) → Steps config h → StandsOver f before h → ServesAll config.lease_us a (own a before)
unfolding Steps
serves_before config a f before h steps stands =
    let up_to : Steps config (f ∷ before) = steps_at config f before h steps stands in
    serves_own config a before up_to.0

pub member_stands : (e : Entry) (h : History) → Member e h → (before : History) × StandsOver e before h
member_stands e [] m = absurd m
member_stands e (f ∷ h) m = elim m [
  | inl is ↦ (h, inl (sym is, refl))
  | inr more ↦ let r = member_stands e h more in (r.0, inr r.1)
]

-- what stands before an entry that stands before another
pub stands_trans : (e f : Entry) (first before h : History) → StandsOver e first before → StandsOver f before h → StandsOver e first h
stands_trans e f first before [] one two = absurd two
stands_trans e f first before (g ∷ h) one two = elim two [
  | inl here ↦ inr (subst (λ (l : History). StandsOver e first l) (sym here.1) one)
  | inr deeper ↦ inr (stands_trans e f first before h one deeper)
]

-- of a machine's own entries up to one of them
pub serves_all_at : (lease : ℕ) (a : Actor) (f : Entry) (before o : History) → ServesAll lease a o → StandsOver f before o → ServesAll lease a (f ∷ before)
unfolding ServesAll
serves_all_at lease a f before [] all stands = absurd stands
serves_all_at lease a f before (e ∷ o) all stands = elim stands [
  | inl here ↦ subst (λ (g : Entry). ServesAll lease a (g ∷ before)) here.0 (subst (λ (l : History). ServesAll lease a (e ∷ l)) here.1 all)
  | inr deeper ↦ serves_all_at lease a f before o all.0 deeper
]

pub serves_all_rest : (lease : ℕ) (a : Actor) (f : Entry) (o : History) → ServesAll lease a (f ∷ o) → ServesAll lease a o
unfolding ServesAll
serves_all_rest lease a f o all = all.0

pub serves_all_first : (lease : ℕ) (a : Actor) (f : Entry) (o : History) → ServesAll lease a (f ∷ o) → ServesNext lease a o f.reading f.event
unfolding ServesAll
serves_all_first lease a f o all = all.2

pub serves_all_own : (lease : ℕ) (a : Actor) (o : History) → ServesAll lease a o → AllOf a o
unfolding ServesAll AllOf
serves_all_own lease a [] all = tt
serves_all_own lease a (e ∷ o) all = (serves_all_own lease a o all.0, all.1)

-- of two entries one stands before the other, or they are one
pub data Order (e f : Entry) (h : History) : Type 0 where
  Before : (before : History) → StandsOver f before h → Member e before → Order e f h
  After : (before : History) → StandsOver e before h → Member f before → Order e f h
  One : e ≡ f → Order e f h

order_more : (e f g : Entry) (h : History) → Order e f h → Order e f (g ∷ h)
order_more e f g h (Before before stands m) = Before before (inr stands) m
order_more e f g h (After before stands m) = After before (inr stands) m
order_more e f g h (One is) = One is

pub in_order : (e f : Entry) (h : History) → Member e h → Member f h → Order e f h
in_order e f [] m n = absurd m
in_order e f (g ∷ h) m n = elim m [
  | inl here ↦ elim n [
    | inl there ↦ One (here ∙ sym there)
    | inr below ↦ After h (inl (sym here, refl)) below
  ]
  | inr more ↦ elim n [
    | inl there ↦ Before h (inl (sym there, refl)) more
    | inr below ↦ order_more e f g h (in_order e f h more below)
  ]
]
