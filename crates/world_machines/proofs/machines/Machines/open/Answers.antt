use Rattle.std.proofs.Common.{◌∙◌, ap, reverse}
use Rattle.std.specs.Prelude.{Vec}
use Rattle.world_machines.proofs.Dealt.{dealt}
use Rattle.world_machines.proofs.machines.Machines.open.Goals as goal

pub returns-clause-stands : goal.returns-clause-stands
returns-clause-stands g c =
    dealt c.args.config.now g.L.LogStore.held g.L.LogStore.faults c.args.logs.now.items c.reverse.new.self.items c.open_tablets.new.stores.items c.open_statuses.new.stores.items c.reverse-2.new.self.items c.in_ok-spare.spare.items
    c.append.new.self.items c.open_tablets.new.tablets.items c.open_statuses.new.statuses.items c.append.result c.unwrap.result
    (c.reverse.ensures.items ∙ ap (λ (v : Vec _ _). reverse v.items) c.replace-room.ensures.value) c.open_tablets.ensures.opened c.open_tablets.ensures.rest c.open_statuses.ensures.opened c.open_statuses.ensures.rest c.reverse-2.ensures.items c.in_ok-spare.ensures.items c.append.ensures.items c.unwrap.ensures
