use Rattle.std.proofs.Common.{◌≡◌, true, Some, refl, rules}
use Rattle.txn_data.specs.declared.reply.Reply.TheVariants as reply
use Rattle.txn_data.specs.declared.request.Request.TheVariants as request
use Rattle.txn_types.specs.Clock.{timed, Own}
use Rattle.txn_types.specs.Tablet.{provisional, versions, conflict, greatest_above, related_commits}
use Rattle.log_record.specs.declared.log_record.LogRecord.TheVariants as log_record
use Rattle.conflict_matrix.specs.declared.write_decision.WriteDecision.TheVariants as write_decision
use Rattle.conflict_matrix.specs.Decide.{decision}
use Rattle.tablet_core.proofs.Says.{stepped_decided, goes}
use Rattle.tablet_core.proofs.tablet_core.TabletCore.decide_write.Goals as goal

pub returns-in_ok-write_record-in-Ok : goal.returns-in_ok-write_record-in-Ok
returns-in_ok-write_record-in-Ok g c =
    rw (c.in_ok-write_record-in-Ok.ensures, ← c.self.view_is)
    (stepped_decided g.V.Versions.holds _ g.V.Versions.fits c.it_is_the_clock_of_the_tables.ensures c.args.reading c.args.seen true c.in-Ok.step (search rules)
    (request.Write c.args.meta.now c.args.number c.args.path.now c.args.op.now c.args.read c.args.seen c.args.fates.now)
    (Some (log_record.Write c.args.meta.now c.args.number c.in-Ok.step.time c.args.path.now c.args.op.now))
    (λ h w. reply.Written w) (reply.Written c.in-Ok.step.time) (record { spelled = c.requires.spelled; fit = c.requires.fits }) tt tt tt refl (λ h kept. refl)
    (λ h kept fails.
    let c_is = conflict c.args.meta.now.txn c.args.path.now c.args.fates.now (provisional h) in
    let o_is = greatest_above c.args.read (related_commits c.args.meta.now.txn c.args.path.now c.args.fates.now (provisional h) (versions h)) in
    let decided = c.in_ok-decided.ensures (provisional h) (versions h) kept in
    let go : write_decision.Go ≡ decision c_is o_is = cc in
    goes c_is o_is (timed c.self.inside.log.clock.lease h fails Own c.args.seen c.args.reading true (λ w. reply.Written w)) go)
    (search rules))
