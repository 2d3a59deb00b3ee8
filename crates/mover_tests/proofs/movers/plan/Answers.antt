use Rattle.std.proofs.Common.{◌≡◌, ℕ, List, [], ◌∷◌, lit≤, ap, sym, subst, ◌∙◌}
use Rattle.std.proofs.lemmas.List.Elements.{All-nil, All-push}
use Rattle.txn_data.specs.declared.command.Command.{Command}
use Rattle.txn_data.specs.declared.command.Command.TheVariants as command
use Rattle.txn_data.specs.declared.config.Config.{Config}
use Rattle.txn_data.specs.declared.go_line.GoLine.{GoLine}
use Rattle.txn_data.specs.declared.session_plan.SessionPlan.{SessionPlan}
use Rattle.txn_types.specs.Plan.{AreRising, IsLine, IsPlan, IsSessionPlan}
use Rattle.mover_tests.proofs.movers.plan.Goals as goal

one_rises : (p : SessionPlan) → AreRising (p ∷ [])
unfolding AreRising
one_rises p = tt

begins : SessionPlan
begins = record { session = 3; commands = command.Begin 5 ∷ [] }

begins_is : (cluster : Config) → IsSessionPlan cluster begins
unfolding begins
begins_is cluster = ((lit≤ tt, lit≤ tt), lit≤ tt, All-push (IsLine cluster) [] (command.Begin 5) (All-nil (IsLine cluster)) tt)

is_plan : (cluster : Config) (plans : List SessionPlan) (order : List ℕ) (go : List GoLine) → plans ≡ begins ∷ [] → IsPlan cluster (record { sessions = plans; order = order; go = go })
unfolding begins
is_plan cluster plans order go is =
    let alone : IsPlan cluster (record { sessions = begins ∷ []; order = order; go = go }) = record {
      rising = one_rises begins;
      sessions = All-push (IsSessionPlan cluster) [] begins (All-nil (IsSessionPlan cluster)) (begins_is cluster);
      one_tablet = λ p q p_in q_in. absurd p_in;
    } in
    subst (λ (ps : List SessionPlan). IsPlan cluster (record { sessions = ps; order = order; go = go })) (sym is) alone

same_plan : (lines : List Command) → lines ≡ command.Begin 5 ∷ [] → (record { session = 3; commands = lines }) ∷ [] ≡ begins ∷ []
unfolding begins
same_plan lines is = ap (λ (xs : List Command). (record { session = 3; commands = xs }) ∷ []) is

pub returns : goal.returns
returns c = λ cluster.
    let lines = c.of.ensures ∙ c.in_ok-vec.ensures.items in
    is_plan cluster c.of-2.result c.new.result c.new-2.result (c.of-2.ensures ∙ c.in_ok-vec-2.ensures.items ∙ same_plan c.of.result lines)
