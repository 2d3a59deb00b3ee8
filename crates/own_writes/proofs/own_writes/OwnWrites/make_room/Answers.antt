use Rattle.std.proofs.Common.{◌≡◌, ◌≤◌, ◌^◌, List, [], length, sym, subst, ◌∙◌}
use Rattle.txn_types.specs.Session.{tablets_used}
use Rattle.own_writes.specs.Accepted.{all_accepted}
use Rattle.own_writes.specs.declared.accepted.Accepted.{Accepted as Kept}
use Rattle.own_writes.proofs.Index.{same_indexed}
use Rattle.own_writes.proofs.own_writes.OwnWrites.make_room.Goals as goal

pub invariant_of-self : goal.invariant_of-self
invariant_of-self c =
    let self = c.args.self.now in
    let same = sym c.reserve.ensures.items in
    let P : List Kept → Type 0 = λ items. self.tablets.keys ≡ tablets_used [] (all_accepted items) in
    let Q : List Kept → Type 0 = λ items. length items ≤ 2 ^ 32 in
    let R : List Kept → Type 0 = λ items. self.indexed ≤ length items in
    record { in_order = subst P same self.in_order; few = subst Q same self.few; within = subst R same self.within; held = same_indexed _ _ _ _ c.reserve.ensures.items self.held }

pub invariant_of-self-2 : goal.invariant_of-self-2
invariant_of-self-2 c =
    let self = c.args.self.now in
    let same = sym c.reserve.ensures.items in
    let P : List Kept → Type 0 = λ items. self.tablets.keys ≡ tablets_used [] (all_accepted items) in
    let Q : List Kept → Type 0 = λ items. length items ≤ 2 ^ 32 in
    let R : List Kept → Type 0 = λ items. self.indexed ≤ length items in
    record { in_order = c.reserve-2.ensures.keys ∙ subst P same self.in_order; few = subst Q same self.few; within = subst R same self.within; held = same_indexed _ _ _ _ c.reserve.ensures.items self.held }
