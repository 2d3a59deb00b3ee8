-- When the appliers can make a pass each.
use Rattle.std.specs.Prelude.{◌≡◌, ℕ, ◌+◌, ◌<◌, ◌≤◌, true, None, ◌⊎◌}
use Rattle.txn_data.specs.declared.actor.Actor.TheVariants.{Applier}
use Rattle.txn_data.specs.declared.commands.Commands.{Commands}
use Rattle.txn_data.specs.declared.config.Config.{Config}
use Rattle.txn_types.specs.History.{History}
use Rattle.txn_types.specs.Run.{mover_at}
use Rattle.txn_types.specs.Script.{started}
use Rattle.mover_chain.specs.NextEvent.{given_by, all_done}

-- Each applier can make its n-th pass: it made all those before, and none is under way. That pass is one beside the sessions,
-- or it is the last one, and no session has a line left.
pub record CanPass (config : Config) (plan : Commands) (n : ℕ) (h : History) : Type 0 where
  pub idle : (k : ℕ) → k < config.tablets → (mover_at config (Applier k) h).line ≡ None
  pub begun : (k : ℕ) → k < config.tablets → started (Applier k) h + 1 ≡ n
  pub may : (n ≤ config.passes) ⊎ ((n ≡ config.passes + 1) × (all_done (given_by plan) config h ≡ true))
