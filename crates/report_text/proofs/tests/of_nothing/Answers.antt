use Rattle.std.proofs.Common.{List, [], refl, sym, subst, reverse, inl}
use Rattle.txn_data.specs.declared.actor.Actor.TheVariants.{Session}
use Rattle.txn_data.specs.declared.session_plan.SessionPlan.{SessionPlan}
use Rattle.txn_data.specs.declared.entry.Entry.{Entry}
use Rattle.txn_types.specs.Lists.{Member}
use Rattle.txn_types.specs.Run.{Steps}
use Rattle.txn_types.specs.Script.{FollowsLines, lines, commands_of}
use Rattle.txn_types.specs.Cause.{tells}
use Rattle.report_text.proofs.tests.of_nothing.Goals as goal

pub report-requires-clause-run : goal.report-requires-clause-run
unfolding Steps
report-requires-clause-run g c =
    (c.in_ok-config.ensures, subst (λ (es : List Entry). Steps c.in_ok-config.config (reverse es)) (sym c.new.ensures) tt)

pub report-requires-clause-follows : goal.report-requires-clause-follows
unfolding lines commands_of
report-requires-clause-follows g c = λ i.
    subst (λ (es : List Entry). FollowsLines (lines (Session i) (reverse es)) (commands_of i c.new-2.result)) (sym c.new.ensures)
    (subst (λ (ps : List SessionPlan). FollowsLines (lines (Session i) []) (commands_of i ps)) (sym c.new-2.ensures) (inl refl))

pub report-requires-clause-spelled : goal.report-requires-clause-spelled
unfolding tells
report-requires-clause-spelled g c = λ t here.
    absurd (subst (λ (es : List Entry). Member t (tells (reverse es))) c.new.ensures here)
