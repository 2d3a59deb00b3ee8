use Rattle.std.proofs.Common.{◌≡◌, ◌+◌, [], ◌∷◌, ◌++◌, suc, take, drop, Err, refl, sym, ◌∙◌, subst, arith}
use Rattle.std.proofs.Math.Seq.{split_at}
use Rattle.std.proofs.lemmas.List.{take_all, take_more}
use Rattle.std.proofs.lemmas.Result.{err_from_is_err_and}
use Rattle.txn_types.specs.Script.{actor_of}
use Rattle.world_actors.specs.Steps.{MovesOn, Steps}
use Rattle.world_core.specs.Runs.{Leads, StopsAt}
use Rattle.world_core.specs.World.{recorded}
use Rattle.world_core.proofs.Keeping.{standing_keeps}
use Rattle.world_core.proofs.Making.{leads_more, leads_none, stops_at}
use Rattle.world_core.proofs.world.World.run.Goals as goal

pub loop-one-init : goal.loop-one-init
loop-one-init g c = (refl, λ config given start spare stands. (stands, leads_none given config (recorded c.args.self.now)))

pub returns-in_err-step-clause-stands : goal.returns-in_err-step-clause-stands
returns-in_err-step-clause-stands g c = λ config given start spare stands. c.step.ensures.stands config given start spare (c.loop-one.invariant.1 config given start spare stands).0

pub returns-in_err-step-clause-runs : goal.returns-in_err-step-clause-runs
returns-in_err-step-clause-runs g c = λ config given start spare stands.
    let one = c.one-item.result in
    let i = c.loop-one.one-index in
    let list = c.args.list.now in
    let was = c.loop-one.invariant.1 config given start spare stands in
    let parts : list ≡ take i list ++ one ∷ drop (suc i) list = grind (arith, split_at list i one c.loop-one-test.true, c.one-item.is) in
    let refused = c.in_err-step.ensures.steps config given start spare was.0 in
    let stops = stops_at given config list (take i list) (drop (suc i) list) one (recorded c.args.self.now) (recorded c.loop-one.self) (recorded c.step.new.self) c.in_err-step.field-0.0 parts was.1
    (subst (λ rs. Steps given config rs (actor_of one.who) (recorded c.loop-one.self) (recorded c.step.new.self) (Err c.in_err-step.field-0.0)) c.items.ensures refused) in
    let p = err_from_is_err_and c.from_residual.result c.from_residual.ensures.1 in
    rw p.1 (subst (λ y. StopsAt given config list (recorded c.args.self.now) (recorded c.step.new.self) y) (sym p.2) stops)

pub returns-in_err-step-clause-keeps : goal.returns-in_err-step-clause-keeps
returns-in_err-step-clause-keeps g c = λ config given start spare stands. c.step.ensures.keeps config given start spare (c.loop-one.invariant.1 config given start spare stands).0

pub loop-one-preserved : goal.loop-one-preserved
loop-one-preserved g c =
    let one = c.one-item.result in
    let i = c.loop-one.one-index in
    let more : take (i + 1) c.args.list.now ≡ take i c.args.list.now ++ one ∷ [] = grind (arith, take_more c.args.list.now i one c.loop-one-test.true, c.one-item.is) in (
      c.step.ensures.cluster ∙ c.loop-one.invariant.0,
      λ config given start spare stands.
          let was = c.loop-one.invariant.1 config given start spare stands in
          let moved = c.in_ok-step.ensures.steps config given start spare was.0 in (
            c.step.ensures.stands config given start spare was.0,
            subst (λ l. Leads given config l (recorded c.args.self.now) (recorded c.step.new.self)) (sym more)
                (leads_more given config (take i c.args.list.now) one (recorded c.args.self.now) (recorded c.loop-one.self) (recorded c.step.new.self) c.in_ok-step.field-0 was.1
                (subst (λ rs. MovesOn given config rs (actor_of one.who) (recorded c.loop-one.self) (recorded c.step.new.self) c.in_ok-step.field-0) c.items.ensures moved)),
          ),
    )

pub returns-clause-stands : goal.returns-clause-stands
returns-clause-stands g c = λ config given start spare stands. (c.loop-one.invariant.1 config given start spare stands).0

pub returns-clause-runs : goal.returns-clause-runs
returns-clause-runs g c = λ config given start spare stands.
    subst (λ l. Leads given config l (recorded c.args.self.now) (recorded c.loop-one.self)) (take_all c.loop-one.one-index c.args.list.now c.loop-one-test.false) (c.loop-one.invariant.1 config given start spare stands).1

pub returns-clause-keeps : goal.returns-clause-keeps
returns-clause-keeps g c = λ config given start spare stands.
    standing_keeps config given start spare (recorded c.loop-one.self) c.loop-one.self.actors (c.loop-one.invariant.1 config given start spare stands).0
