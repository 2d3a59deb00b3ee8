use Rattle.std.proofs.Common.{◌≡◌, ◌-◌, arith, rules}
use Rattle.std.proofs.lemmas.Grind.{common_steps}
use Rattle.intent_records.proofs.Between.{next_after-take}
use Rattle.intent_records.proofs.bounds.first_after.Goals as goal

pub returns-then-last-eq0 : goal.returns-then-last-eq0
returns-then-last-eq0 c =
    let copied : c.in_ok-part.part.items ≡ c.part.result.now = search rules in
    let whole = next_after-take c.args.path.now (c.parts-last.result - 1) c.part.result.now (omega arith) c.part.ensures in
    grind (arith, common_steps, copied, whole)

pub returns : goal.returns
returns c =
    let copied : c.in_ok-part.part.items ≡ c.part.result.now = search rules in
    let whole = next_after-take c.args.path.now (c.parts-last.result - 1) c.part.result.now (omega arith) c.part.ensures in
    grind (arith, common_steps, copied, whole)
