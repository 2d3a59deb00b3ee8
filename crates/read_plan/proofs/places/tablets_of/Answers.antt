use Rattle.std.proofs.Common.{◌≡◌, ◌+◌, ◌-◌, ◌<◌, length, arith, refl}
use Rattle.std.proofs.lemmas.Grind.{common_steps}
use Rattle.read_plan.proofs.Numbers.{tablets_more, tablets_none}
use Rattle.read_plan.proofs.places.tablets_of.Goals as goal

pub loop-i-init : goal.loop-i-init
loop-i-init c = record {
  tablets = rw (c.new-tablets.ensures.items, tablets_none c.args.places.now) refl;
  few = grind (arith, common_steps, c.new-tablets.ensures.items);
}

pub loop-i-preserved-in-Continue-1 : goal.loop-i-preserved-in-Continue-1
loop-i-preserved-in-Continue-1 c =
    let i = c.loop-i.i - 1 in
    let ps = c.args.places.now in
    let e : i + 1 ≡ c.loop-i.i = omega arith in
    let within : i < length ps = omega arith in
    let more = tablets_more ps i c.index-places-i.result within in
    grind (arith, common_steps, more, e, c.loop-i.invariant, c.in-Err.ensures, c.in_ok-insert.ensures, c.index-places-i.is, c.deref.ensures)

pub loop-i-preserved : goal.loop-i-preserved
loop-i-preserved c =
    let i = c.loop-i.i - 1 in
    let ps = c.args.places.now in
    let e : i + 1 ≡ c.loop-i.i = omega arith in
    let within : i < length ps = omega arith in
    let more = tablets_more ps i c.index-places-i.result within in
    grind (arith, common_steps, more, e, c.loop-i.invariant, c.in_default.ensures, c.index-places-i.is, c.deref.ensures)
