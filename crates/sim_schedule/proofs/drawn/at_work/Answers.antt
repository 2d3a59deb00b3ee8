use Rattle.std.proofs.Common.{◌≡◌, ◌+◌, Global, Vec, ℕ, ◌<◌, ◌≤◌, ◌∙◌, List, [], ◌∷◌, ◌++◌, ap, arith, filter, get_or, length, map, subst, sym, take}
use Rattle.std.proofs.lemmas.List.{append-nil, append_assoc}
use Rattle.txn_data.specs.declared.actor.Actor.{Actor}
use Rattle.txn_data.specs.declared.actor.Actor.TheVariants.{Session, Applier}
use Rattle.txn_data.specs.declared.mover.Mover.{Mover}
use Rattle.txn_data.specs.declared.mover.Mover.TheVariants as mover
use Rattle.txn_data.specs.declared.session_plan.SessionPlan.{SessionPlan}
use Rattle.txn_types.specs.Script.{actor_of, from_up}
use Rattle.mover_chain.specs.NextEvent.{given_by, has_event}
use Rattle.world_core.specs.World.{recorded}
use Rattle.sim_schedule.proofs.Draws.{gathered, skipped}
use Rattle.sim_schedule.proofs.Lists.{mapped_all, mapped_more, numbers_more, numbers_none}
use Rattle.sim_schedule.proofs.drawn.at_work.Goals as goal
use Rattle.sim_schedule.proofs.drawn.at_work.Goals.{then-left+in_ok-push, else-left, then-left-2+in_ok-push-2, else-left-2}

pub loop-one-preserved : goal.loop-one-preserved
loop-one-preserved g c =
    let k = c.loop-one.one-index in
    let p = c.one-item.result in
    let name = λ (x : SessionPlan). Session x.session in
    let has = λ (a : Actor). has_event (given_by c.args.plan.now) c.args.config.now a (recorded c.args.simulation.now.world) in
    let within : k < length c.items-one-items.result.now = omega (arith, c.loop-one-test.true) in
    let more = mapped_more name c.args.plan.now.sessions k p (subst (λ (l : List SessionPlan). k < length l) c.items-one-items.ensures within) (subst (λ (l : List SessionPlan). p ≡ get_or l k p) c.items-one-items.ensures c.one-item.is) in
    let told : c.left.result ≡ has (Session p.session) = c.left.ensures c.args.config.now (given_by c.args.plan.now) c.requires.start c.requires.spare c.requires.stands.world in
    elim c.if-left.branch [
      | then-left+in_ok-push w ↦
          ap (map actor_of) (ap (λ (v : Vec Mover Global). v.items) w.working-is ∙ w.in_ok-push.ensures.items) ∙ gathered has (map name (take k c.args.plan.now.sessions)) c.loop-one.working.items (mover.Session p.session) c.loop-one.invariant (sym told ∙ w.if-left.true) ∙ ap (filter has) (sym more)
      | else-left w ↦
          ap (map actor_of) (ap (λ (v : Vec Mover Global). v.items) w.working-is) ∙ skipped has (map name (take k c.args.plan.now.sessions)) c.loop-one.working.items (Session p.session) c.loop-one.invariant (sym told ∙ w.if-left.false) ∙ ap (filter has) (sym more)
    ]

pub loop-tablet-init : goal.loop-tablet-init
loop-tablet-init g c =
    let name = λ (x : SessionPlan). Session x.session in
    let has = λ (a : Actor). has_event (given_by c.args.plan.now) c.args.config.now a (recorded c.args.simulation.now.world) in
    let past : length c.args.plan.now.sessions ≤ c.loop-one.one-index = subst (λ (l : List SessionPlan). length l ≤ c.loop-one.one-index) c.items-one-items.ensures c.loop-one-test.false in
    c.loop-one.invariant ∙ ap (filter has)
    (mapped_all name c.args.plan.now.sessions c.loop-one.one-index past ∙ sym (append-nil (map name c.args.plan.now.sessions))
    ∙ ap (λ (l : List Actor). map name c.args.plan.now.sessions ++ l) (sym (numbers_none (λ (n : ℕ). Applier n))))

pub loop-tablet-preserved : goal.loop-tablet-preserved
loop-tablet-preserved g c =
    let t = c.loop-tablet.tablet in
    let has = λ (a : Actor). has_event (given_by c.args.plan.now) c.args.config.now a (recorded c.args.simulation.now.world) in
    let names = map (λ (x : SessionPlan). Session x.session) c.args.plan.now.sessions in
    let before = names ++ map (λ (n : ℕ). Applier n) (from_up 0 t) in
    let more : names ++ map (λ (n : ℕ). Applier n) (from_up 0 (t + 1)) ≡ before ++ Applier t ∷ [] =
    ap (λ (l : List Actor). names ++ l) (numbers_more (λ (n : ℕ). Applier n) t) ∙ sym (append_assoc names (map (λ (n : ℕ). Applier n) (from_up 0 t)) (Applier t ∷ [])) in
    let told : c.left-in-loop-tablet.result ≡ has (Applier t) = c.left-in-loop-tablet.ensures c.args.config.now (given_by c.args.plan.now) c.requires.start c.requires.spare c.requires.stands.world in
    elim c.if-left-2.branch [
      | then-left-2+in_ok-push-2 w ↦
          ap (map actor_of) (ap (λ (v : Vec Mover Global). v.items) w.working-is ∙ w.in_ok-push-2.ensures.items) ∙ gathered has before c.loop-tablet.working.items (mover.Applier t) c.loop-tablet.invariant (sym told ∙ w.if-left-2.true) ∙ ap (filter has) (sym more)
      | else-left-2 w ↦
          ap (map actor_of) (ap (λ (v : Vec Mover Global). v.items) w.working-is) ∙ skipped has before c.loop-tablet.working.items (Applier t) c.loop-tablet.invariant (sym told ∙ w.if-left-2.false) ∙ ap (filter has) (sym more)
    ]
