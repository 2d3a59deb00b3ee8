-- The origin of a read does not depend on the config.
use Rattle.std.specs.Prelude.{◌≡◌}
use Rattle.txn_data.specs.declared.config.Config.{Config}
use Rattle.txn_types.specs.Reads.{Read, origin}

-- a read has one origin, whatever the config
abbrev pub OriginsAreOfNoConfig : Type 0
OriginsAreOfNoConfig = (config other : Config) (read : Read) → origin config read ≡ origin other read
