-- What a session keeps between two commands, as the tables have it.
use Rattle.std.specs.Prelude.{◌≡◌, ◌%◌}
use Rattle.txn_data.specs.declared.actor.Actor.{Actor}
use Rattle.txn_data.specs.declared.actor.Actor.TheVariants.{Session}
use Rattle.txn_data.specs.declared.config.Config.{Config}
use Rattle.txn_types.specs.Session.{Keeps}
use Rattle.session_core.specs.OpenTxn.{opened_if}
use Rattle.session_core.specs.declared.session_state.SessionState.{SessionState}

abbrev pub keeps : SessionState → Keeps
keeps k = record { last = k.last; serial = k.serial; opened = opened_if k.transaction }

-- a session of this cluster
pub record IsOf (config : Config) (k : SessionState) : Type 0 where
  pub status : k.status ≡ k.session % config.status
  pub skew : k.skew_us ≡ config.skew_us

-- a session keeps its names
pub record IsNamed (old new : SessionState) : Type 0 where
  pub session : new.session ≡ old.session
  pub status : new.status ≡ old.status
  pub skew : new.skew_us ≡ old.skew_us

abbrev pub who : SessionState → Actor
who k = Session k.session
