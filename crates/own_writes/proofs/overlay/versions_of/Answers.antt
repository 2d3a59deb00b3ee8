use Rattle.own_writes.specs.Numbered.{numbered}
use Rattle.own_writes.proofs.Index.{numbered_more}
use Rattle.own_writes.proofs.overlay.versions_of.Goals as goal

pub loop-i-init : goal.loop-i-init
unfolding numbered
loop-i-init c = c.new-versions.ensures.items

pub loop-i-preserved : goal.loop-i-preserved
loop-i-preserved c =
    let more = numbered_more c.args.first c.loop-i.i c.args.writes.now c.index-writes-i.result c.loop-i-test.true c.index-writes-i.is in
    cc (more, c.in_ok-push.ensures.items, c.loop-i.invariant, c.in_ok-try_copy.ensures, c.in_ok-try_copy-2.ensures)
