use Rattle.std.proofs.Common.{Some, take, sym, ap, ◌∙◌}
use Rattle.txn_types.specs.Lists.{or_else}
use Rattle.regular_records.specs.Store.{shown}
use Rattle.regular_records.proofs.Slots.{first_shown, first_shown-range, first_shown-here}
use Rattle.regular_records.proofs.word.first_until.Goals as goal

pub loop-key-init : goal.loop-key-init
loop-key-init c p =
    first_shown-range c.args.t p c.args.versions.now.entries
    ∙ ap (first_shown p) (sym (c.into_iter-key-iterator.ensures.into_iter_gives ∙ c.range-key-items.ensures.between tt))

pub returns-in-Some-slot-clause-value : goal.returns-in-Some-slot-clause-value
returns-in-Some-slot-clause-value c p =
    let q = take c.args.parts p in
    sym (c.loop-key.invariant q
    ∙ ap (first_shown q) c.in-Some.ensures.steps
    ∙ first_shown-here q (c.in-Some.key.now, c.in-Some.slot.now) c.in-Some-slot.value c.next.new.self c.in-Some-slot.is (rw (sym c.number.ensures) c.number.type_inv)
    ∙ ap (λ n. Some (record { path = q; at = c.in-Some.key.now.at; wrote = c.in-Some-slot.value.wrote; number = n; op = c.in-Some-slot.value.op })) (sym c.number.ensures))

pub loop-key-preserved : goal.loop-key-preserved
loop-key-preserved c p =
    c.loop-key.invariant p
    ∙ ap (first_shown p) c.in-Some.ensures.steps
    ∙ ap (λ o. or_else (shown p (c.in-Some.key.now, o)) (first_shown p c.next.new.self)) c.in_default.is

pub returns-clause-value : goal.returns-clause-value
returns-clause-value c p = sym (c.loop-key.invariant (take c.args.parts p) ∙ ap (first_shown (take c.args.parts p)) (c.in-None.ensures.steps.0))
