use Rattle.std.proofs.Common.{◌≡◌, [], ◌∷◌, ◌++◌, arith}
use Rattle.std.proofs.lemmas.Grind.{common_steps}
use Rattle.std.proofs.lemmas.List.{map-append}
use Rattle.own_writes.specs.Accepted.{accepted, all_accepted}
use Rattle.own_writes.specs.declared.accepted.Accepted.{Accepted as Kept}
use Rattle.own_writes.proofs.Tablets.{used_push}
use Rattle.own_writes.proofs.Index.{push_indexed}
use Rattle.own_writes.proofs.own_writes.OwnWrites.push.Goals as goal

pub invariant_of-self-clause-in_order : goal.invariant_of-self-clause-in_order
invariant_of-self-clause-in_order c =
    let self = c.args.self.now in
    let more : Kept = record { tablet = c.args.place.tablet; write = record { path = c.args.place.path; op = c.args.op } } in
    let used = used_push (all_accepted self.writes.items) (accepted more) in
    let joined = map-append accepted self.writes.items (more ∷ []) in
    grind (arith, common_steps, used, joined, c.in-Ok.ensures.keys, self.in_order, c.push.ensures.items, c.push.ensures.succeeds c.requires.room.write)

pub invariant_of-self-clause-held : goal.invariant_of-self-clause-held
invariant_of-self-clause-held c =
    let self = c.args.self.now in
    let more : Kept = record { tablet = c.args.place.tablet; write = record { path = c.args.place.path; op = c.args.op } } in
    let added : c.push.new.self.items ≡ self.writes.items ++ more ∷ [] = grind (arith, common_steps, c.push.ensures.items, c.push.ensures.succeeds c.requires.room.write) in
    push_indexed self.by_path self.indexed self.writes.items (more ∷ []) c.push.new.self.items self.within added self.held
