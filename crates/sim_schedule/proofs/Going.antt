-- Parts of a schedule, one after another.
use Rattle.std.proofs.Common.{ℕ, List}
use Rattle.txn_data.specs.declared.commands.Commands.{Commands}
use Rattle.txn_data.specs.declared.config.Config.{Config}
use Rattle.world_core.specs.State.{WorldState}
use Rattle.sim_schedule.specs.Stands.{Stand, Standing, Went}

pub went_none : {L : Type 0} (config : Config) (plan : Commands) (w : WorldState L) (c : List ℕ) (P : Type 0) → Standing config plan w c → P → Went config plan w c w c P
went_none config plan w c P standing so = record { stands = λ start spare stands. stands; standing = standing; so = so }

pub went_as : {L : Type 0} {config : Config} {plan : Commands} {w w1 : WorldState L} {c c1 : List ℕ} {P : Type 0} (Q : Type 0) → Went config plan w c w1 c1 P → (P → Q) → Went config plan w c w1 c1 Q
went_as Q went goes = record { stands = went.stands; standing = went.standing; so = goes went.so }

pub went_over : {L : Type 0} {config : Config} {plan : Commands} {w w1 w2 : WorldState L} {c c1 c2 : List ℕ} {P Q : Type 0} (R : Type 0) → Went config plan w c w1 c1 P → Went config plan w1 c1 w2 c2 Q → (P → Q → R) → Went config plan w c w2 c2 R
went_over R first second goes = record {
  stands = λ start spare stands. second.stands start spare (first.stands start spare stands);
  standing = second.standing;
  so = goes first.so second.so;
}

pub went_lost : {L : Type 0} {config : Config} {plan : Commands} {w w1 w2 : WorldState L} {c c1 c2 : List ℕ} {P Q : Type 0} → Went config plan w c w1 c1 P → Went config plan w1 c1 w2 c2 Q → Went config plan w c w2 c2 (Unit {0})
went_lost first second = went_over (Unit {0}) first second (λ p q. tt)

-- where one part of a schedule went on so, the simulation still stands for something
pub went_stand : {L : Type 0} {config : Config} {plan : Commands} {w w1 : WorldState L} {c c1 : List ℕ} {P : Type 0} → Went config plan w c w1 c1 P → Stand w1 c1
went_stand {L} {config} {plan} went = record { config = config; plan = plan; standing = went.standing }
