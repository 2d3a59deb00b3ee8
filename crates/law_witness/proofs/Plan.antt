-- A run that does all of a plan of one session, by computation.
use Rattle.std.proofs.Common.{◌≡◌, ℕ, zero, suc, ◌+◌, Bool, true, false, ◌&&◌, List, [], ◌∷◌, ◌++◌, refl, sym, subst, inl, inr, arith, replicate, nat_eq, nat_lt, length}
use Rattle.std.specs.List.{flat_map}
use Rattle.std.proofs.lemmas.Bool.{and_parts, eqb-true, ltb-true}
use Rattle.std.proofs.lemmas.Bool.Decides.{eqb_tells}
use Rattle.std.proofs.lemmas.List.Elements.{All-from_recursion}
use Rattle.txn_data.specs.declared.actor.Actor.{Actor}
use Rattle.txn_data.specs.declared.actor.Actor.TheVariants.{Tablet, Status, Session, Applier}
use Rattle.txn_data.specs.declared.command.Command.{Command}
use Rattle.txn_data.specs.declared.command.Command.TheVariants as command
use Rattle.txn_data.specs.declared.session_plan.SessionPlan.{SessionPlan}
use Rattle.txn_types.specs.History.{History, same_actor}
use Rattle.txn_types.specs.Plan.{AreRising, IsPlan, IsSessionPlan, IsLine, plan_places}
use Rattle.txn_types.specs.Run.{Run}
use Rattle.txn_types.specs.Script.{FollowsLines, AllTold, HasPassed, IsRunnable, ReadingsAsTold, Whole, lines, commands_of, count, moves, moves_by, passes_at}
use Rattle.worked_cases.specs.Simulated.{no_fault}
use Rattle.worked_cases.proofs.Tables.{tables}
use Rattle.worked_cases.proofs.SettledCases.{only}
use Rattle.worked_cases.proofs.Scheduled.{as_told, by_schedule}
use Rattle.law_witness.specs.Witness.{small, place, val, writer, applier}
use Rattle.law_witness.specs.Scripts.{run_of, one_session, in_order}
use Rattle.law_witness.specs.Shows.{PlanIsDone}
use Rattle.law_witness.proofs.Allowed.{on_tablet}
use Rattle.law_witness.proofs.Fits.{cluster_fits}
use Rattle.law_witness.proofs.Simulated.{done_is_run}
use Rattle.law_witness.proofs.Tests.{one_tablet}

abbrev h : History
h = run_of small in_order

-- no session but the first has an entry

abbrev is_no_other : Actor → Bool
is_no_other (Session j) = nat_eq j 1
is_no_other a = true

abbrev no_others : History → Bool
no_others [] = true
no_others (e ∷ g) = is_no_other e.actor && no_others g

is_not : (i : ℕ) (a : Actor) → is_no_other a ≡ true → nat_eq 1 i ≡ false → same_actor a (Session i) ≡ false
is_not i (Session j) is other = rw (eqb-true j 1 is) other
is_not i (Tablet k) is other = refl
is_not i (Status k) is other = refl
is_not i (Applier k) is other = refl

no_lines : (i : ℕ) (g : History) → no_others g ≡ true → nat_eq 1 i ≡ false → lines (Session i) g ≡ []
unfolding lines
no_lines i [] is other = refl
no_lines i (e ∷ g) is other =
    let parts = and_parts (is_no_other e.actor) (no_others g) is in
    rw (is_not i e.actor parts.0 other) (no_lines i g parts.1 other)

no_commands : (i : ℕ) (cs : List Command) → nat_eq 1 i ≡ false → commands_of i ((record { session = 1; commands = cs }) ∷ []) ≡ []
unfolding commands_of
no_commands i cs other = rw other refl

-- the first session started all its lines and then End
first_follows : FollowsLines (lines (Session 1) h) (commands_of 1 one_session.sessions)
unfolding tables
first_follows = inr refl

others_follow : (started planned : List Command) → started ≡ [] → planned ≡ [] → FollowsLines started planned
others_follow started planned none unplanned =
    subst (λ s. FollowsLines s planned) (sym none) (subst (λ p. FollowsLines [] p) (sym unplanned) (inl refl))

others_none : no_others h ≡ true
unfolding tables
others_none = refl

follows_at : (i : ℕ) (is_first : Bool) → nat_eq 1 i ≡ is_first → FollowsLines (lines (Session i) h) (commands_of i one_session.sessions)
follows_at i true is = subst (λ j. FollowsLines (lines (Session j) h) (commands_of j one_session.sessions)) (eqb-true 1 i is) first_follows
follows_at i false other = others_follow _ _ (no_lines i h others_none other) (no_commands i _ other)

passed : (k : ℕ) → nat_lt k small.tablets ≡ true → HasPassed small k h
unfolding tables
passed zero below = record { passes = refl; told = refl; last = refl }
passed (suc k) below = let least = ltb-true (suc k) 1 below in absurd (omega arith)

all_told : AllTold small one_session 1 h
unfolding tables
all_told = (refl, inr refl)

whole : Whole small one_session h
whole = record {
  follows = λ i. follows_at i (nat_eq 1 i) refl;
  sessions = only (λ (p : SessionPlan). AllTold small one_session p.session h) _ all_told;
  appliers = passed;
}

-- the plan can be run

abbrev commands : List Command
commands = command.Begin 0 ∷ command.Put place val ∷ []

not_one : (i : ℕ) → nat_eq 1 i ≡ false → nat_eq i 1 ≡ false
not_one i other = elim (eqb_tells i 1) [
  | inl one ↦ let same : nat_eq 1 1 ≡ false = subst (λ j. nat_eq 1 j ≡ false) one.1 other in cc
  | inr not ↦ not.0
]

no_count : (i : ℕ) → nat_eq i 1 ≡ false → count i one_session.order ≡ 0
unfolding count
no_count i other = rw other refl

no_length : {cs : List Command} → cs ≡ [] → length cs ≡ 0
no_length none = rw none refl

counted_at : (i : ℕ) (is_first : Bool) → nat_eq 1 i ≡ is_first → count i one_session.order ≡ length (commands_of i one_session.sessions)
unfolding tables
counted_at i true is = subst (λ j. count j one_session.order ≡ length (commands_of j one_session.sessions)) (eqb-true 1 i is) refl
counted_at i false other =
    let none = no_count i (not_one i other) in
    let empty = no_length (no_commands i commands other) in
    cc

session_plan : IsSessionPlan small (record { session = 1; commands = commands })
session_plan =
    ((omega arith, omega arith), omega arith, All-from_recursion (IsLine small) commands (tt, ((on_tablet, (omega arith, omega arith)), tt)))

is_plan : IsPlan small one_session
unfolding AreRising
is_plan = record {
  rising = tt;
  sessions = All-from_recursion (IsSessionPlan small) one_session.sessions (session_plan, tt);
  one_tablet = one_tablet (λ part. 0) (flat_map plan_places one_session.sessions) refl;
}

runnable : IsRunnable small one_session
runnable = record {
  cluster = cluster_fits small refl;
  lines = is_plan;
  readings = refl;
  order = λ i. counted_at i (nat_eq 1 i) refl;
}

-- 5 events of the begin, 8 of the put, 5 of the end, and 11 of the pass, which cleans

all_moves : moves h ≡ replicate 18 writer ++ replicate 11 applier
unfolding tables
all_moves = refl

scheduled_moves : moves_by small.schedule small one_session h ≡ replicate 18 writer
unfolding tables
scheduled_moves = refl

last_moves : passes_at small h (small.passes + 1) ≡ replicate 11 applier
unfolding tables
last_moves = refl

readings : ReadingsAsTold small h
unfolding tables
readings = as_told small h refl

is_run : Run small h
unfolding tables
is_run = done_is_run small no_fault in_order refl refl

pub plan_is_done : PlanIsDone small one_session h
plan_is_done = record {
  runnable = runnable;
  run = is_run;
  whole = whole;
  scheduled = record { order = by_schedule all_moves scheduled_moves last_moves; readings = readings };
}
