-- The requests that a tablet accepts.
use Rattle.std.specs.Prelude.{ℕ, ◌&&◌, Option, IsTrue}
use Rattle.std.specs.List.{All}
use Rattle.doc_path.specs.Path.{Parts}
use Rattle.txn_data.specs.Time.{takes_time}
use Rattle.txn_data.specs.declared.request.Request.{Request}
use Rattle.txn_data.specs.declared.request.Request.TheVariants as request
use Rattle.txn_types.specs.Run.{ReadingFits}
use Rattle.log_record.specs.Spelling.{is_path, is_op}
use Rattle.leased_log.specs.Decides.{IsPlain}

-- the path fits, and each of its parts has 1 to 65,536 bytes
pub record IsGood (fits : Parts → Type 0) (path : Parts) : Type 0 where
  pub spelled : IsTrue (is_path path)
  pub fit : fits path

-- a request of its table; its paths fit, and each part of a path and each value has 1 to 65,536 bytes
abbrev pub Accepts : (Parts → Type 0) → Request → Type 0
Accepts fits (request.ListWrite x path) = IsGood fits path
Accepts fits (request.Write meta number path op read seen fates) = fits path × IsTrue (is_path path && is_op op)
Accepts fits (request.Single x path op seen fates) = fits path × IsTrue (is_path path && is_op op)
Accepts fits (request.ListRead own paths t g limit) = All (IsGood fits) paths
Accepts fits (request.Collect own kind paths t window fates) = All (IsGood fits) paths
Accepts fits request.ListIntents = Unit {0}
Accepts fits (request.Apply x at) = Unit {0}
Accepts fits (request.Clean x) = Unit {0}
Accepts fits request.Restart = Unit {0}
Accepts fits asked = ⊥

-- a request of the table of a tablet, other than a restart
abbrev pub IsTabletRequest : Request → Type 0
IsTabletRequest (request.ListWrite x path) = Unit {0}
IsTabletRequest (request.Write meta number path op read seen fates) = Unit {0}
IsTabletRequest (request.Single x path op seen fates) = Unit {0}
IsTabletRequest (request.ListRead own paths t g limit) = Unit {0}
IsTabletRequest (request.Collect own kind paths t window fates) = Unit {0}
IsTabletRequest request.ListIntents = Unit {0}
IsTabletRequest (request.Apply x at) = Unit {0}
IsTabletRequest (request.Clean x) = Unit {0}
IsTabletRequest asked = ⊥

-- such a request, with the reading that it takes
abbrev pub IsUpRequest : Option ℕ → Request → Type 0
IsUpRequest reading asked = IsTabletRequest asked × IsPlain asked × ReadingFits (takes_time asked) reading
