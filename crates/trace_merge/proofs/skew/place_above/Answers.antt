use Rattle.std.proofs.Common.{◌+◌, refl, sym, ◌∙◌}
use Rattle.trace_merge.specs.Clocks.{first_above}
use Rattle.trace_merge.proofs.Placing.{none_more, found_at}
use Rattle.trace_merge.proofs.skew.place_above.Goals as goal

pub loop-place-init : goal.loop-place-init
unfolding first_above
loop-place-init c = refl

pub returns-then-shows : goal.returns-then-shows
returns-then-shows c =
    sym (found_at (c.args.own + c.args.skew_us) c.args.entries.now c.loop-place.place c.index-entries-place.result c.loop-place-test.true c.index-entries-place.is c.loop-place.invariant (sym c.shows.ensures ∙ c.if-shows.true))

pub loop-place-preserved : goal.loop-place-preserved
loop-place-preserved c =
    none_more (c.args.own + c.args.skew_us) c.args.entries.now c.loop-place.place c.index-entries-place.result c.loop-place-test.true c.index-entries-place.is c.loop-place.invariant (sym c.shows.ensures ∙ c.if-shows.false)
