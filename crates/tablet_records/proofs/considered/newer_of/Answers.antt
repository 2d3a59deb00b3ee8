use Rattle.std.proofs.Common.{◌≡◌, length, arith}
use Rattle.std.proofs.lemmas.Grind.{common_steps}
use Rattle.tablet_records.proofs.Turns.{none-added}
use Rattle.tablet_records.proofs.considered.newer_of.Goals as goal

pub returns-then-is_empty : goal.returns-then-is_empty
returns-then-is_empty g c =
    let e = c.is_empty.ensures in
    let t = c.if-is_empty.true in
    let none : length c.args.list.items ≡ 0 = grind (arith, common_steps, e, t) in
    none-added c.args.list.items none
