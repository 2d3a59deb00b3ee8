-- Where a schedule has come to its end, no mover has an event left, and the last passes can be made.
use Rattle.std.proofs.Common.{◌≡◌, ℕ, ◌+◌, ◌<◌, ◌≤◌, zero, suc, Bool, true, false, not, List, [], ◌∷◌, filter, map, refl, sym, ◌∙◌, ap, subst, inl, inr, arith}
use Rattle.std.proofs.Math.Bool.{and-true}
use Rattle.std.proofs.lemmas.Bool.{le-ltb, lt-ltb}
use Rattle.std.specs.List.{list_all}
use Rattle.txn_data.specs.declared.actor.Actor.{Actor}
use Rattle.txn_data.specs.declared.actor.Actor.TheVariants.{Session, Applier}
use Rattle.txn_data.specs.declared.commands.Commands.{Commands}
use Rattle.txn_data.specs.declared.config.Config.{Config}
use Rattle.txn_data.specs.declared.session_plan.SessionPlan.{SessionPlan}
use Rattle.txn_types.specs.Lists.{Member}
use Rattle.txn_types.specs.History.{History}
use Rattle.txn_types.specs.Run.{Steps}
use Rattle.txn_types.specs.Script.{from_up, movers, started}
use Rattle.law_machines.proofs.Basics.{map_member, member_cases, member_map}
use Rattle.mover_chain.specs.NextEvent.{all_done, given_by, has_event, is_done, is_left, next_event}
use Rattle.mover_chain.proofs.Counted.{IsIdle}
use Rattle.mover_chain.proofs.States.{applier_has}
use Rattle.law_schedules.specs.Courses.{at_work, GoCourse, MovedToEnd, MovedUntilTold, OneByOne, PassesMade, SerialCourse}
use Rattle.law_schedules.proofs.Doing.{none_at, passes_beside, session_in}
use Rattle.law_schedules.proofs.Ending.{EndOf}
use Rattle.law_schedules.proofs.Few.{still_after_ends}
use Rattle.law_schedules.proofs.Moving.{steps_stood, stood_self}
use Rattle.law_schedules.proofs.Passing.{RoundsMade, one_stood, passes_stood, rounds}
use Rattle.law_moves.specs.Laws.{LastPassesCanBegin}
use Rattle.law_moves.specs.Passing.{CanPass}
use Rattle.law_moves.proofs.Leaving.{ends_over, has_same}
use Rattle.law_moves.proofs.OneMore.{one_mapped}

-- ## no mover has an event left

filter_none : (p : Actor → Bool) (xs : List Actor) → ((a : Actor) → Member a xs → p a ≡ false) → filter p xs ≡ []
filter_none p [] none = refl
filter_none p (x ∷ xs) none = rw (none x (inl refl)) (filter_none p xs (λ a at. none a (inr at)))

pub up_within : (m t k : ℕ) → Member k (from_up m t) → (m ≤ k) × (k < m + t)
unfolding from_up
up_within m zero k at = absurd at
up_within m (suc t) k (inl same) = (omega (arith, same), omega (arith, same))
up_within m (suc t) k (inr more) = let rest = up_within (m + 1) t k more in let low = rest.0 in let high = rest.1 in (omega (arith, low), omega (arith, high))

-- each mover is a session of the plan or an applier
by_movers : (config : Config) (plan : Commands) (P : Actor → Type 0) → ((p : SessionPlan) → Member p plan.sessions → P (Session p.session)) → ((k : ℕ) → k < config.tablets → P (Applier k)) →
    (a : Actor) → Member a (movers config plan) → P a
by_movers config plan P sessions appliers a at = elim (member_cases a (map (λ (p : SessionPlan). Session p.session) plan.sessions) (map Applier (from_up 0 config.tablets)) at) [
  | inl first ↦ let one = map_member (λ (p : SessionPlan). Session p.session) a plan.sessions first in subst P (sym one.2) (sessions one.0 one.1)
  | inr second ↦ let one = map_member Applier a (from_up 0 config.tablets) second in subst P (sym one.2) (appliers one.0 (let high = (up_within 0 config.tablets one.0 one.1).1 in omega (arith, high)))
]

none_at_work : (config : Config) (plan : Commands) (h : History) → ((p : SessionPlan) → Member p plan.sessions → has_event (given_by plan) config (Session p.session) h ≡ false) → ((k : ℕ) → k < config.tablets → has_event (given_by plan) config (Applier k) h ≡ false) →
    at_work config plan h ≡ []
none_at_work config plan h sessions appliers =
    filter_none (λ (a : Actor). has_event (given_by plan) config a h) (movers config plan) (by_movers config plan (λ (a : Actor). has_event (given_by plan) config a h ≡ false) sessions appliers)

-- ## in line order

-- after rounds of passes that follow the ends
pub rounds_made : (config : Config) (plan : Commands) (r : ℕ) (told ended h : History) → Steps config h → OneByOne (λ (i : ℕ). MovedUntilTold (Session i)) plan.order [] told → OneByOne (EndOf plan config) plan.sessions told ended →
    OneByOne (λ (n : ℕ). PassesMade config) (from_up 1 r) ended h → RoundsMade config h 1 r ended h
rounds_made config plan r told ended h steps lines_all ends_all rounds_all =
    let late = one_stood (λ (n : ℕ). PassesMade config) (λ n. passes_stood config) (from_up 1 r) ended h rounds_all in
    rounds config h 1 r ended h (stood_self h) steps
    (λ k is. let still = still_after_ends config plan k told ended (steps_stood config ended h late steps) lines_all ends_all in (still.0, let none = still.1 in omega (arith, none)))
    rounds_all

-- the next round can begin
pub round_can_begin : (config : Config) (plan : Commands) (r : ℕ) (told ended h : History) → Steps config h → OneByOne (λ (i : ℕ). MovedUntilTold (Session i)) plan.order [] told → OneByOne (EndOf plan config) plan.sessions told ended →
    OneByOne (λ (n : ℕ). PassesMade config) (from_up 1 r) ended h → r < config.passes → CanPass config plan (r + 1) h
round_can_begin config plan r told ended h steps lines_all ends_all rounds_all more =
    let made = rounds_made config plan r told ended h steps lines_all ends_all rounds_all in
    record {
      idle = λ k there. (made.after k (omega arith, omega (arith, there))).0;
      begun = λ k there. let is = (made.after k (omega arith, omega (arith, there))).1 in omega (arith, is);
      may = inl (omega (arith, more));
    }

applier_over : (config : Config) (plan : Commands) (k : ℕ) (h : History) → k < config.tablets → IsIdle config (Applier k) h → started (Applier k) h ≡ config.passes → has_event (given_by plan) config (Applier k) h ≡ false
applier_over config plan k h there idle all = applier_has config plan k h (lt-ltb k config.tablets there) ∙ rw idle (rw all (le-ltb config.passes config.passes (omega arith)))

pub serial_over : (config : Config) (plan : Commands) (h : History) → Steps config h → SerialCourse config plan h → at_work config plan h ≡ []
serial_over config plan h steps (told, ended, lines_all, ends_all, rounds_all) =
    let made = rounds_made config plan config.passes told ended h steps lines_all ends_all rounds_all in
    none_at_work config plan h
    (λ p member. has_same config plan (Session p.session) ended h (made.sessions p.session)
    ∙ ends_over config plan (map (λ (q : SessionPlan). Session q.session) plan.sessions) told ended
    (one_mapped (MovedToEnd (given_by plan) config) (λ (q : SessionPlan). Session q.session) plan.sessions told ended ends_all)
    (Session p.session) (member_map (λ (q : SessionPlan). Session q.session) p plan.sessions member))
    (λ k there. let stands = made.after k (omega arith, omega (arith, there)) in applier_over config plan k h there stands.0 (let is = stands.1 in omega (arith, is)))

-- ## as the script says

pub go_over : (config : Config) (plan : Commands) (h : History) → GoCourse config plan h → at_work config plan h ≡ []
go_over config plan h (gone, lines_all, ends_all) =
    filter_none (λ (a : Actor). has_event (given_by plan) config a h) (movers config plan) (ends_over config plan (movers config plan) gone h ends_all)

-- ## last passes

all_true : (p : SessionPlan → Bool) (xs : List SessionPlan) → ((x : SessionPlan) → Member x xs → p x ≡ true) → list_all p xs ≡ true
all_true p [] each = refl
all_true p (x ∷ xs) each = rw (each x (inl refl)) (all_true p xs (λ y at. each y (inr at)))

none_all_done : (config : Config) (plan : Commands) (h : History) → at_work config plan h ≡ [] → all_done (given_by plan) config h ≡ true
none_all_done config plan h none = all_true (is_done (given_by plan) config h) plan.sessions (λ p member.
    ap not (sym (and-true (is_left (next_event (given_by plan) config (Session p.session) h))) ∙ none_at config plan h (Session p.session) none (session_in config plan p member)))

pub last_passes_can_begin : LastPassesCanBegin
last_passes_can_begin config plan h run chosen none = record {
  idle = λ k there. (passes_beside config plan h run.1 chosen none k there).0;
  begun = λ k there. let all = (passes_beside config plan h run.1 chosen none k there).1 in omega (arith, all);
  may = inr (refl, none_all_done config plan h none);
}
