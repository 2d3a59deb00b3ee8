use Rattle.std.proofs.Common.{arith}
use Rattle.tablet_log.proofs.Framed.{frames_len_more}
use Rattle.tablet_log.proofs.write.frames_len.Goals as goal

pub loop-logged-preserved : goal.loop-logged-preserved
loop-logged-preserved c =
    let more = frames_len_more c.args.records.now c.loop-logged.logged-index c.logged-item.result c.loop-logged-test.true c.logged-item.is in
    omega (arith, more, c.loop-logged.invariant)
