use Rattle.std.proofs.Common.{◌≡◌, ◌<◌, sym, subst, lit<}
use Rattle.txn_data.specs.declared.actor.Actor.TheVariants.{Tablet, Status}
use Rattle.txn_data.specs.declared.isolation.Isolation.TheVariants.{Snapshot}
use Rattle.txn_data.specs.declared.request.Request.TheVariants as request
use Rattle.mover_tests.proofs.machines.each_machine_has_its_own_store.Goals as goal

pub serve-requires : goal.serve-requires
serve-requires g c = record {
  config = c.cluster-config.result;
  tablets = c.in_ok-machines.ensures.stands.tablets.as_many;
  statuses = c.in_ok-machines.ensures.stands.statuses.as_many;
  servable = record { machine = subst (λ n. 0 < n) (sym c.cluster-config.ensures.tablets) (lit< tt); table = tt; small = tt };
}

pub serve-requires-2 : goal.serve-requires-2
serve-requires-2 g c = c.serve.ensures (Tablet 1) request.Restart (record {
  config = c.cluster-config.result;
  tablets = c.in_ok-machines.ensures.stands.tablets.as_many;
  statuses = c.in_ok-machines.ensures.stands.statuses.as_many;
  servable = record { machine = subst (λ n. 1 < n) (sym c.cluster-config.ensures.tablets) (lit< tt); table = tt; small = tt };
})

pub serve-requires-3 : goal.serve-requires-3
serve-requires-3 g c = c.serve-2.ensures (Status 1) (request.Begin 7 Snapshot 5) (c.serve.ensures (Status 1) (request.Begin 7 Snapshot 5) (record {
  config = c.cluster-config.result;
  tablets = c.in_ok-machines.ensures.stands.tablets.as_many;
  statuses = c.in_ok-machines.ensures.stands.statuses.as_many;
  servable = record { machine = subst (λ n. 1 < n) (sym c.cluster-config.ensures.status) (lit< tt); table = tt; small = tt };
}))
