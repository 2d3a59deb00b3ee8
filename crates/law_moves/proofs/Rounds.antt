-- Rounds of passes, by tablet: each pass can begin.
use Rattle.std.proofs.Common.{◌≡◌, ℕ, ◌+◌, ◌<◌, ◌≤◌, Bool, true, Option, Some, None, length, not, List, [], ◌∷◌, refl, sym, ◌∙◌, ap, subst, inl, inr, arith}
use Rattle.std.proofs.Math.Bool.{and-true}
use Rattle.std.proofs.lemmas.Bool.{le-ltb, lt-ltb}
use Rattle.std.specs.List.{list_all}
use Rattle.txn_data.specs.declared.actor.Actor.TheVariants.{Session, Applier}
use Rattle.txn_data.specs.declared.command.Command.{Command}
use Rattle.txn_data.specs.declared.commands.Commands.{Commands}
use Rattle.txn_data.specs.declared.config.Config.{Config}
use Rattle.txn_data.specs.declared.session_plan.SessionPlan.{SessionPlan}
use Rattle.txn_types.specs.History.{History}
use Rattle.txn_types.specs.Run.{Steps, flight, mover_at}
use Rattle.txn_types.specs.Script.{from_up, started}
use Rattle.law_machines.proofs.Basics.{eq_refl}
use Rattle.mover_chain.specs.NextEvent.{all_done, given_by, goes_on, is_done, is_left, next_event, pass_starts}
use Rattle.mover_chain.proofs.States.{Same}
use Rattle.law_schedules.specs.Courses.{MovedUntilTold, OneByOne, PassesMade}
use Rattle.law_schedules.proofs.Moving.{stood_self}
use Rattle.law_schedules.proofs.Passing.{IsTablet, all_passed, other_applier, passed}
use Rattle.law_moves.specs.Passing.{CanPass}
use Rattle.law_moves.proofs.Leaving.{has_same}

-- ## whether all sessions are done

all_same : (p q : SessionPlan → Bool) → ((x : SessionPlan) → p x ≡ q x) → (xs : List SessionPlan) → list_all p xs ≡ list_all q xs
all_same p q same [] = refl
all_same p q same (x ∷ xs) = rw (same x) (rw (all_same p q same xs) refl)

done_same : (config : Config) (plan : Commands) (g h : History) → ((i : ℕ) → Same config (Session i) g h) → all_done (given_by plan) config h ≡ all_done (given_by plan) config g
done_same config plan g h same = all_same (is_done (given_by plan) config h) (is_done (given_by plan) config g) (λ p.
    ap not (sym (and-true (is_left (next_event (given_by plan) config (Session p.session) h))) ∙ has_same config plan (Session p.session) g h (same p.session) ∙ and-true (is_left (next_event (given_by plan) config (Session p.session) g)))) plan.sessions

-- ## a pass

pass_left : (k passes begun : ℕ) → begun < passes → (done : Bool) → is_left (pass_starts k passes begun done) ≡ true
pass_left k passes begun few done = rw (lt-ltb begun passes few) refl

last_left : (k passes : ℕ) (done : Bool) → done ≡ true → is_left (pass_starts k passes passes done) ≡ true
last_left k passes done all = rw (le-ltb passes passes (omega arith)) (rw (eq_refl passes) (rw all refl))

applier_begins : (config : Config) (plan : Commands) (n k : ℕ) (g h : History) → CanPass config plan n g → k < config.tablets → Same config (Applier k) g h → ((i : ℕ) → Same config (Session i) g h) →
    is_left (next_event (given_by plan) config (Applier k) h) ≡ true
applier_begins config plan n k g h can there same sessions =
    rw (lt-ltb k config.tablets there)
    (subst (λ (line : Option Command).
    is_left (elim line [ Some l ↦ goes_on (flight (Applier k) h) (mover_at config (Applier k) h).rest | None ↦ pass_starts k config.passes (started (Applier k) h) (all_done (given_by plan) config h) ]) ≡ true) (sym (same.line ∙ can.idle k there))
    (elim can.may [
      | inl few ↦ pass_left k config.passes (started (Applier k) h) (let begun = can.begun k there in let is = many in omega (arith, few, begun, is)) _
      | inr last ↦
          let is : started (Applier k) h ≡ config.passes = let begun = can.begun k there in let all = last.0 in let now = many in omega (arith, begun, all, now) in
          rw is (last_left k config.passes (all_done (given_by plan) config h) (done_same config plan g h sessions ∙ last.1))
    ]))
  where
    many : started (Applier k) h ≡ started (Applier k) g
    many = ap length same.begun

within : (config : Config) (plan : Commands) (n m : ℕ) (g : History) → CanPass config plan n g → m ≤ config.tablets → (k : ℕ) → IsTablet 0 m k → ((mover_at config (Applier k) g).line ≡ None) × (started (Applier k) g + 1 ≡ n)
within config plan n m g can few k is = let there : k < config.tablets = let high = is.1 in omega (arith, high, few) in (can.idle k there, can.begun k there)

-- where each applier can make a pass and the lower tablets made theirs, the next one can begin
pub can_begin : (config : Config) (plan : Commands) (n m : ℕ) (g h : History) → Steps config h → CanPass config plan n g → m < config.tablets → OneByOne (λ (k : ℕ). MovedUntilTold (Applier k)) (from_up 0 m) g h →
    is_left (next_event (given_by plan) config (Applier m) h) ≡ true
can_begin config plan n m g h steps can there made =
    let lower = passed config h n 0 m g h (stood_self h) steps (within config plan n m g can (omega (arith, there))) made in
    applier_begins config plan n m g h can there
    (lower.others (Applier m) (λ k is. other_applier k m (λ same. let high = is.1 in omega (arith, same, high))))
    (λ i. lower.others (Session i) (λ k is. refl))

-- after a round each applier made one pass more, and the next one beside the sessions can be made
pub next_round : (config : Config) (plan : Commands) (n : ℕ) (g h : History) → Steps config h → CanPass config plan n g → PassesMade config g h → n + 1 ≤ config.passes → CanPass config plan (n + 1) h
next_round config plan n g h steps can made few =
    let all = all_passed config h n g h (stood_self h) steps (within config plan n config.tablets g can (omega arith)) made in
    record {
      idle = λ k there. (all.after k (tablet k there)).0;
      begun = λ k there. let is = (all.after k (tablet k there)).1 in omega (arith, is);
      may = inl few;
    }
  where
    tablet : (k : ℕ) → k < config.tablets → IsTablet 0 config.tablets k
    tablet k there = (omega arith, omega (arith, there))
