-- Provisional records whose paths fit.
use Rattle.std.specs.Prelude.{List}
use Rattle.doc_path.specs.Path.{Parts}
use Rattle.txn_data.specs.declared.provisional.Provisional.{Provisional}
use Rattle.txn_types.specs.Lists.{Member}
use Rattle.txn_types.specs.Tablet.{Intent}
use Rattle.intent_records.specs.declared.intents.Intents.{Intents}
use Rattle.intent_records.specs.Holds.{Holds}

abbrev pub WriteFits : (Parts → Type 0) → Provisional → Type 0
WriteFits fits p = fits p.path

-- they stand for some provisional writes, and the path of each fits
pub record StandFitting (fits : Parts → Type 0) (intents : Intents) : Type 0 where
  pub writes : List Intent
  pub stand : Holds intents writes
  pub fit : (p : Intent) → Member p writes → fits p.path
