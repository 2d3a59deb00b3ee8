-- The movers that have an event left, where one of them was moved.
use Rattle.std.proofs.Common.{◌≡◌, ℕ, zero, suc, ◌+◌, ◌%◌, Bool, true, false, not, List, [], ◌∷◌, ◌++◌, Some, None, filter, if◌then◌else◌, length, map, refl, sym, ◌∙◌, ap, subst, inl, inr, arith}
use Rattle.std.specs.List.{remove, slice_get}
use Rattle.docdb_base.specs.Generator.{next_state, draw_of}
use Rattle.txn_data.specs.declared.actor.Actor.{Actor}
use Rattle.txn_data.specs.declared.actor.Actor.TheVariants.{Session, Applier}
use Rattle.txn_data.specs.declared.commands.Commands.{Commands}
use Rattle.txn_data.specs.declared.config.Config.{Config}
use Rattle.txn_data.specs.declared.entry.Entry.{Entry}
use Rattle.txn_data.specs.declared.mover.Mover.{Mover}
use Rattle.txn_data.specs.declared.session_plan.SessionPlan.{SessionPlan}
use Rattle.txn_types.specs.Lists.{Member}
use Rattle.txn_types.specs.History.{History, same_actor}
use Rattle.txn_types.specs.Plan.{AreRising}
use Rattle.txn_types.specs.Script.{actor_of, asker, at_position, drawn_of, from_up, movers}
use Rattle.law_machines.proofs.Basics.{filter_member, map_member, member_cases, same_cases, same_refl}
use Rattle.mover_chain.specs.NextEvent.{given_by, has_event}
use Rattle.law_schedules.specs.Courses.{at_work, DrawnTo}
use Rattle.law_schedules.proofs.Ending.{above, rising_rest}
use Rattle.law_moves.specs.Moving.{MovedOnce}
use Rattle.law_moves.proofs.Leaving.{others_stay}
use Rattle.law_moves.proofs.Over.{up_within}

-- ## each mover stands once in the list of movers

abbrev pub AreApart : List Actor → Type 0
AreApart [] = Unit {0}
AreApart (a ∷ more) = (Member a more → ⊥) × AreApart more

apart_over : (xs ys : List Actor) → AreApart xs → AreApart ys → ((a : Actor) → Member a xs → Member a ys → ⊥) → AreApart (xs ++ ys)
apart_over [] ys first second never = second
apart_over (x ∷ xs) ys first second never = (
  λ at. elim (member_cases x xs ys at) [ inl here ↦ first.0 here | inr there ↦ never x (inl refl) there ],
  apart_over xs ys first.1 second (λ a here there. never a (inr here) there),
)

session_apart : (p q : SessionPlan) → Session p.session ≡ Session q.session → p.session ≡ q.session
session_apart p q is = cc

sessions_apart : (ps : List SessionPlan) → AreRising ps → AreApart (map (λ (p : SessionPlan). Session p.session) ps)
sessions_apart [] rising = tt
sessions_apart (p ∷ ps) rising = (
  λ at.
      let one = map_member (λ (q : SessionPlan). Session q.session) (Session p.session) ps at in
      let low = above p ps one.0 rising one.1 in
      let same = session_apart p one.0 one.2 in
      absurd (omega (arith, low, same)),
  sessions_apart ps (rising_rest p ps rising),
)

applier_same : (j k : ℕ) → Applier j ≡ Applier k → j ≡ k
applier_same j k is = cc

appliers_apart : (m t : ℕ) → AreApart (map Applier (from_up m t))
unfolding from_up
appliers_apart m zero = tt
appliers_apart m (suc t) = (
  λ at.
      let one = map_member Applier (Applier m) (from_up (m + 1) t) at in
      let low = (up_within (m + 1) t one.0 one.1).0 in
      let same = applier_same m one.0 one.2 in
      absurd (omega (arith, low, same)),
  appliers_apart (m + 1) t,
)

no_session_applies : (i k : ℕ) → Session i ≡ Applier k → ⊥
no_session_applies i k is = cc

movers_apart : (config : Config) (plan : Commands) → AreRising plan.sessions → AreApart (movers config plan)
movers_apart config plan rising =
    apart_over (map (λ (p : SessionPlan). Session p.session) plan.sessions) (map Applier (from_up 0 config.tablets)) (sessions_apart plan.sessions rising) (appliers_apart 0 config.tablets)
    (λ a first second.
    let one = map_member (λ (p : SessionPlan). Session p.session) a plan.sessions first in
    let other = map_member Applier a (from_up 0 config.tablets) second in
    no_session_applies one.0.session other.0 (sym one.2 ∙ other.2))

filter_apart : (p : Actor → Bool) (xs : List Actor) → AreApart xs → AreApart (filter p xs)
filter_apart p [] apart = tt
filter_apart p (x ∷ xs) apart = by_test (filter_apart p xs apart.1) (p x)
  where
    by_test : AreApart (filter p xs) → (b : Bool) → AreApart (if b then x ∷ filter p xs else filter p xs)
    by_test rest true = (λ at. apart.0 (filter_member p x xs at).0, rest)
    by_test rest false = rest

-- ## one that is left out

abbrev pub without : Actor → List Actor → List Actor
without a xs = filter (λ (b : Actor). not (same_actor a b)) xs

without_none : (a : Actor) (xs : List Actor) → (Member a xs → ⊥) → without a xs ≡ xs
without_none a [] never = refl
without_none a (x ∷ xs) never = elim (same_cases a x) [
  | inl same ↦ absurd (never (inl same.1))
  | inr other ↦ rw other.0 (ap (λ (l : List Actor). x ∷ l) (without_none a xs (λ at. never (inr at))))
]

position_member : (n : ℕ) (xs : List Actor) (a : Actor) → at_position n xs ≡ a ∷ [] → Member a xs
unfolding at_position
position_member n [] a is = absurd (let not_one : [] ≡ a ∷ [] = is in cc)
position_member zero (b ∷ more) a is = inl (let same : b ∷ [] ≡ a ∷ [] = is in cc)
position_member (suc n) (b ∷ more) a is = inr (position_member n more a is)

without_at : (n : ℕ) (xs : List Actor) (a : Actor) → AreApart xs → at_position n xs ≡ a ∷ [] → without a xs ≡ remove xs n
unfolding at_position
without_at n [] a apart is = absurd (let not_one : [] ≡ a ∷ [] = is in cc)
without_at zero (b ∷ more) a apart is =
    let same : b ≡ a = let one : b ∷ [] ≡ a ∷ [] = is in cc in
    subst (λ (c : Actor). without a (c ∷ more) ≡ more) (sym same)
    (rw (same_refl a) (without_none a more (subst (λ (c : Actor). Member c more → ⊥) same apart.0)))
without_at (suc n) (b ∷ more) a apart is = elim (same_cases a b) [
  | inl same ↦ absurd (apart.0 (subst (λ (c : Actor). Member c more) same.1 (position_member n more a is)))
  | inr other ↦ rw other.0 (ap (λ (l : List Actor). b ∷ l) (without_at n more a apart.1 is))
]

-- ## a test that changed at one mover alone

filter_same : (p q : Actor → Bool) → ((a : Actor) → q a ≡ p a) → (xs : List Actor) → filter q xs ≡ filter p xs
filter_same p q same [] = refl
filter_same p q same (x ∷ xs) = rw (same x) (rw (filter_same p q same xs) refl)

filter_without : (p q : Actor → Bool) (a : Actor) → ((b : Actor) → same_actor a b ≡ false → q b ≡ p b) → q a ≡ false → (xs : List Actor) → filter q xs ≡ without a (filter p xs)
filter_without p q a others none [] = refl
filter_without p q a others none (x ∷ xs) =
    let rest = filter_without p q a others none xs in
    elim (same_cases a x) [
      | inl same ↦ rw (ap q (sym same.1) ∙ none) (rest ∙ mine same.0 (p x))
      | inr other ↦ rw (others x other.0) (theirs other.0 rest (p x))
    ]
  where
    mine : same_actor a x ≡ true → (b : Bool) → without a (filter p xs) ≡ without a (if b then x ∷ filter p xs else filter p xs)
    mine same true = rw same refl
    mine same false = refl

    theirs : same_actor a x ≡ false → filter q xs ≡ without a (filter p xs) → (b : Bool) → (if b then x ∷ filter q xs else filter q xs) ≡ without a (if b then x ∷ filter p xs else filter p xs)
    theirs other rest true = rw other (ap (λ (l : List Actor). x ∷ l) rest)
    theirs other rest false = rest

-- a mover that was moved and has an event left stays, and so do all others
pub stays_at_work : (config : Config) (plan : Commands) (a : Actor) (e : Entry) (h : History) → asker e ≡ a → has_event (given_by plan) config a h ≡ true → has_event (given_by plan) config a (e ∷ h) ≡ true → at_work config plan (e ∷ h) ≡ at_work config plan h
stays_at_work config plan a e h mine some still =
    filter_same (λ (b : Actor). has_event (given_by plan) config b h) (λ (b : Actor). has_event (given_by plan) config b (e ∷ h)) (λ b. elim (same_cases a b) [
      | inl same ↦ subst (λ (c : Actor). has_event (given_by plan) config c (e ∷ h) ≡ has_event (given_by plan) config c h) same.1 (still ∙ sym some)
      | inr other ↦ others_stay config plan b e h (rw mine other.0)
    ]) (movers config plan)

-- one that has none any more is left out, at its place
pub leaves_work : (config : Config) (plan : Commands) (a : Actor) (n : ℕ) (e : Entry) (h : History) → AreRising plan.sessions → asker e ≡ a → at_position n (at_work config plan h) ≡ a ∷ [] → has_event (given_by plan) config a (e ∷ h) ≡ false →
    at_work config plan (e ∷ h) ≡ remove (at_work config plan h) n
leaves_work config plan a n e h rising mine at over =
    filter_without (λ (b : Actor). has_event (given_by plan) config b h) (λ (b : Actor). has_event (given_by plan) config b (e ∷ h)) a (λ b other. others_stay config plan b e h (rw mine other)) over (movers config plan)
    ∙ without_at n (at_work config plan h) a (filter_apart (λ (b : Actor). has_event (given_by plan) config b h) (movers config plan) (movers_apart config plan rising)) at

-- who is drawn among them has an event left
pub drawn_has : (config : Config) (plan : Commands) (a : Actor) (n : ℕ) (h : History) → at_position n (at_work config plan h) ≡ a ∷ [] → has_event (given_by plan) config a h ≡ true
drawn_has config plan a n h at = (filter_member (λ (b : Actor). has_event (given_by plan) config b h) a (movers config plan) (position_member n (at_work config plan h) a at)).1

-- ## a list of movers

pub position_at : (ws : List Mover) (n : ℕ) (m : Mover) → slice_get ws n ≡ Some m → at_position n (map actor_of ws) ≡ actor_of m ∷ []
unfolding at_position
position_at [] n m is = absurd (let not_one : None ≡ Some m = is in cc)
position_at (w ∷ ws) zero m is = ap (λ (v : Mover). actor_of v ∷ []) (let same : Some w ≡ Some m = is in cc)
position_at (w ∷ ws) (suc n) m is = position_at ws n m is

pub map_remove : (ws : List Mover) (n : ℕ) → map actor_of (remove ws n) ≡ remove (map actor_of ws) n
map_remove [] zero = refl
map_remove [] (suc n) = refl
map_remove (w ∷ ws) zero = refl
map_remove (w ∷ ws) (suc n) = ap (λ (l : List Actor). actor_of w ∷ l) (map_remove ws n)

drawn_is : (draw : ℕ) (names : List Actor) (a : Actor) → at_position (draw % length names) names ≡ a ∷ [] → drawn_of draw names ≡ a ∷ []
unfolding at_position
drawn_is draw [] a is = is
drawn_is draw (b ∷ more) a is = is

pub drawn_first : (config : Config) (plan : Commands) → DrawnTo config plan config.number []
unfolding DrawnTo
drawn_first config plan = refl

drawn_cons : (config : Config) (plan : Commands) (before state : ℕ) (e : Entry) (h : History) → DrawnTo config plan before h → state ≡ next_state before → drawn_of (draw_of state) (at_work config plan h) ≡ asker e ∷ [] → DrawnTo config plan state (e ∷ h)
unfolding DrawnTo
drawn_cons config plan before state e h drawn next at = (before, drawn, next, at)

-- one more is drawn
pub drawn_on : (config : Config) (plan : Commands) (before state : ℕ) (a : Actor) (h k : History) → DrawnTo config plan before h → state ≡ next_state before → MovedOnce a h k →
    at_position (draw_of state % length (at_work config plan h)) (at_work config plan h) ≡ a ∷ [] → DrawnTo config plan state k
drawn_on config plan before state a h k drawn next once at =
    subst (DrawnTo config plan state) (sym once.adds)
    (drawn_cons config plan before state once.entry h drawn next (drawn_is (draw_of state) (at_work config plan h) a at ∙ ap (λ (b : Actor). b ∷ []) (sym once.by)))

-- ## the movers that have an event left, gathered one after another

pub filter_more : (p : Actor → Bool) (xs : List Actor) (x : Actor) → filter p (xs ++ x ∷ []) ≡ filter p xs ++ (if p x then x ∷ [] else [])
filter_more p [] x = refl
filter_more p (y ∷ ys) x = by_test (filter_more p ys x) (p y)
  where
    by_test : filter p (ys ++ x ∷ []) ≡ filter p ys ++ (if p x then x ∷ [] else []) → (b : Bool) →
        (if b then y ∷ filter p (ys ++ x ∷ []) else filter p (ys ++ x ∷ [])) ≡ (if b then y ∷ filter p ys else filter p ys) ++ (if p x then x ∷ [] else [])
    by_test rest true = ap (λ (l : List Actor). y ∷ l) rest
    by_test rest false = rest
