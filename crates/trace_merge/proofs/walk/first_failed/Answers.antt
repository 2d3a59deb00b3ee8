use Rattle.trace_merge.proofs.walk.first_failed.Goals as goal

pub loop-place-init : goal.loop-place-init
loop-place-init c = c.new-walk.ensures c.args.skew_us
