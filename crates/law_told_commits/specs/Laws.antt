-- What is told of commits in every run.
use Rattle.std.specs.Prelude.{◌≡◌}
use Rattle.txn_data.specs.declared.committed_txn.CommittedTxn.{CommittedTxn}
use Rattle.txn_data.specs.declared.config.Config.{Config}
use Rattle.txn_data.specs.declared.told.Told.TheVariants as told
use Rattle.txn_data.specs.declared.event.Event.{Event}
use Rattle.txn_data.specs.declared.event.Event.TheVariants.{Tell}
use Rattle.txn_data.specs.declared.entry.Entry.{Entry}
use Rattle.txn_types.specs.Lists.{Member}
use Rattle.txn_types.specs.History.{History}
use Rattle.txn_types.specs.Committed.{committed}
use Rattle.txn_types.specs.Run.{Run}

-- where Committed is told of a transaction, each commit of it is at the time told
abbrev pub TellsCommit : History → Event → Type 0
TellsCommit h (Tell number (told.Committed y at)) = (x : CommittedTxn) → Member x (committed h) → x.txn ≡ y → x.at ≡ at
TellsCommit h event = Unit {0}

abbrev pub CommitTimesAreTold : Type 0
CommitTimesAreTold = (config : Config) (h : History) (e : Entry) → Run config h → Member e h → TellsCommit h e.event

-- where Committed is told of a transaction, a commit of it is there, at the time told
abbrev pub TellsOfCommit : History → Event → Type 0
TellsOfCommit h (Tell number (told.Committed y at)) = (x : CommittedTxn) × Member x (committed h) × (x.txn ≡ y) × (x.at ≡ at)
TellsOfCommit h event = Unit {0}

abbrev pub ToldCommitsAreThere : Type 0
ToldCommitsAreThere = (config : Config) (h : History) (e : Entry) → Run config h → Member e h → TellsOfCommit h e.event
