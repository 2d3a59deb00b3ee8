use Rattle.std.proofs.Common.{◌≡◌, ◌+◌, ◌∷◌, ◌++◌, [], take, sym, ◌∙◌, subst, arith}
use Rattle.std.proofs.lemmas.List.{take_more}
use Rattle.regular_records.specs.Adding.{HaveSlots}
use Rattle.regular_records.proofs.Made.{have_slots-all, have_slots-push}
use Rattle.regular_records.proofs.adding.make_slots.Goals as goal

pub loop-version-preserved : goal.loop-version-preserved
loop-version-preserved c =
    let i = c.loop-version.version-index in
    let vs = c.args.list.now in
    let v = c.version-item.result in
    let more : take (i + 1) vs ≡ take i vs ++ v ∷ [] = grind (arith, take_more vs i v c.loop-version-test.true, c.version-item.is) in
    record {
      kept = c.make_slot.ensures.kept;
      versions = c.make_slot.ensures.versions ∙ c.loop-version.invariant.versions;
      slots = subst (HaveSlots c.make_slot.new.paths.entries) (sym more)
          (have_slots-push c.make_slot.new.paths.entries (take i vs) v (have_slots-all c.loop-version.paths.entries c.make_slot.new.paths.entries c.make_slot.ensures.slots (take i vs) c.loop-version.invariant.slots) c.in_ok-make_slot.ensures.slot);
    }
