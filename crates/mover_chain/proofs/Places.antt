-- In a run that follows a plan, the places of its lines are places of the plan.
use Rattle.std.proofs.Common.{◌≡◌, ℕ, zero, suc, Bool, if◌then◌else◌, nat_eq, List, [], ◌∷◌, take, flat_map, refl, sym, subst, inl, inr}
use Rattle.txn_data.specs.declared.actor.Actor.{Actor}
use Rattle.txn_data.specs.declared.actor.Actor.TheVariants.{Tablet, Status, Session, Applier}
use Rattle.txn_data.specs.declared.place.Place.{Place}
use Rattle.txn_data.specs.declared.command.Command.{Command}
use Rattle.txn_data.specs.declared.command.Command.TheVariants as command
use Rattle.txn_data.specs.declared.session_plan.SessionPlan.{SessionPlan}
use Rattle.txn_data.specs.declared.commands.Commands.{Commands}
use Rattle.txn_data.specs.declared.config.Config.{Config}
use Rattle.txn_data.specs.declared.event.Event.{Event}
use Rattle.txn_data.specs.declared.event.Event.TheVariants.{Start, Ask, Serve, Hear, Tell, Restarted}
use Rattle.txn_data.specs.declared.entry.Entry.{Entry}
use Rattle.txn_types.specs.Lists.{Member}
use Rattle.txn_types.specs.History.{History}
use Rattle.txn_types.specs.Plan.{places_of, started_places, plan_places}
use Rattle.txn_types.specs.Run.{Mover, mover_at, MayStart, Allowed, Steps}
use Rattle.txn_types.specs.Script.{lines, commands_of, FollowsLines, Follows}
use Rattle.law_machines.proofs.Basics.{test_cases, member_cases, member_left, member_right, member_flat, flat_member}
use Rattle.mover_chain.specs.Laws.{PlansAgree}
use Rattle.mover_chain.proofs.Lines.{line_started}

-- only a session starts a line with places
session_starts : (config : Config) (m : Mover) (a : Actor) (line : Command) (p : Place) → MayStart config a m line → Member p (places_of line) → (i : ℕ) × (a ≡ Session i)
session_starts config m (Session i) line p may in_it = (i, refl)
session_starts config m (Applier k) line p may in_it = absurd (subst (λ (l : Command). Member p (places_of l)) may.1 in_it)
session_starts config m (Tablet k) line p may in_it = absurd may
session_starts config m (Status j) line p may in_it = absurd may

start_allowed : (config : Config) (h : History) (e : Entry) (number : ℕ) (line : Command) (p : Place) → Allowed config h e.actor e.reading e.event → e.event ≡ Start number line → Member p (places_of line) →
    (i : ℕ) × (e.actor ≡ Session i)
start_allowed config h e number line p allowed is in_it =
    let starts : Allowed config h e.actor e.reading (Start number line) = subst (λ (v : Event). Allowed config h e.actor e.reading v) is allowed in
    session_starts config (mover_at config e.actor h) e.actor line p starts.3 in_it

started_by_session : (config : Config) (h : History) (e : Entry) (number : ℕ) (line : Command) (p : Place) → Steps config h → Member e h → e.event ≡ Start number line → Member p (places_of line) →
    (i : ℕ) × (e.actor ≡ Session i)
unfolding Steps
started_by_session config [] e number line p steps at is in_it = absurd at
started_by_session config (f ∷ h) e number line p steps at is in_it = elim at [
  | inl same ↦ start_allowed config h e number line p (subst (λ (x : Entry). Allowed config h x.actor x.reading x.event) (sym same) steps.1) is in_it
  | inr before ↦ started_by_session config h e number line p steps.0 before is in_it
]

member_take : (x : Command) (n : ℕ) (xs : List Command) → Member x (take n xs) → Member x xs
member_take x n [] at = member_none x n at
  where
    member_none : (y : Command) (k : ℕ) → Member y (take k []) → Member y []
    member_none y zero found = found
    member_none y (suc k) found = found
member_take x zero (y ∷ ys) at = absurd at
member_take x (suc n) (y ∷ ys) at = elim at [ inl same ↦ inl same | inr more ↦ inr (member_take x n ys more) ]

-- a line with places that was started is one of the plan
line_planned : (p : Place) (line : Command) (started planned : List Command) → FollowsLines started planned → Member line started → Member p (places_of line) → Member line planned
line_planned p line started planned (inl front) at in_it = member_take line _ planned (subst (λ (xs : List Command). Member line xs) front at)
line_planned p line started planned (inr all) at in_it = elim (member_cases line planned (command.End ∷ []) (subst (λ (xs : List Command). Member line xs) all at)) [
  | inl there ↦ there
  | inr end ↦ elim end [ inl is ↦ absurd (subst (λ (l : Command). Member p (places_of l)) is in_it) | inr never ↦ absurd never ]
]

-- and its places are places of the plan
place_planned : (p : Place) (line : Command) (i : ℕ) (sessions : List SessionPlan) → Member line (commands_of i sessions) → Member p (places_of line) → Member p (flat_map plan_places sessions)
unfolding commands_of
place_planned p line i [] at in_it = absurd at
place_planned p line i (s ∷ ss) at in_it = elim (test_cases (nat_eq s.session i)) [
  | inl same ↦ member_left p (plan_places s) (flat_map plan_places ss) (member_flat places_of line p s.commands (subst (λ (b : Bool). Member line (if b then s.commands else commands_of i ss)) same at) in_it)
  | inr other ↦ member_right p (plan_places s) (flat_map plan_places ss) (place_planned p line i ss (subst (λ (b : Bool). Member line (if b then s.commands else commands_of i ss)) other at) in_it)
]

-- an event with places is the start of a line
start_event : (p : Place) (event : Event) → Member p (started_places event) → (number : ℕ) × (line : Command) × (event ≡ Start number line) × Member p (places_of line)
start_event p (Start number line) at = (number, line, refl, at)
start_event p (Ask to asked) at = absurd at
start_event p (Serve from asked r time append) at = absurd at
start_event p (Hear from r) at = absurd at
start_event p (Tell number t) at = absurd at
start_event p (Restarted from kept) at = absurd at

in_plan : (config : Config) (plan : Commands) (h : History) (p : Place) → Steps config h → Follows plan h → Member p (flat_map (λ (e : Entry). started_places e.event) h) → Member p (flat_map plan_places plan.sessions)
in_plan config plan h p steps follows at =
    let entry = flat_member (λ (e : Entry). started_places e.event) p h at in
    let start = start_event p entry.0.event entry.2 in
    let by = started_by_session config h entry.0 start.0 start.1 p steps entry.1 start.2 start.3 in
    let begun = line_started (Session by.0) h entry.0 start.0 start.1 entry.1 by.1 start.2 in
    place_planned p start.1 by.0 plan.sessions (line_planned p start.1 (lines (Session by.0) h) (commands_of by.0 plan.sessions) (follows by.0) begun start.3) start.3

pub plans_agree : PlansAgree
plans_agree config plan h run is_plan follows p q p_in q_in =
    is_plan.one_tablet p q (in_plan config plan h p run.1 follows p_in) (in_plan config plan h q run.1 follows q_in)
