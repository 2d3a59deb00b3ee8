-- What a visit of a read considers, in every run.
use Rattle.std.specs.Prelude.{◌≡◌, ℕ, ◌<◌, List, Option, Some}
use Rattle.doc_path.specs.Path.{Parts}
use Rattle.txn_data.specs.declared.actor.Actor.{Actor}
use Rattle.txn_data.specs.declared.config.Config.{Config}
use Rattle.txn_data.specs.declared.read_kind.ReadKind.{ReadKind}
use Rattle.txn_data.specs.declared.reply.Reply.TheVariants as reply
use Rattle.txn_data.specs.declared.row.Row.{Row}
use Rattle.txn_data.specs.declared.version.Version.{Version}
use Rattle.txn_data.specs.declared.window.Window.{Window}
use Rattle.txn_types.specs.History.{History}
use Rattle.txn_types.specs.Tablet.{rows_of, writes_at}
use Rattle.txn_types.specs.Run.{Run}
use Rattle.law_fates.specs.Laws.{CommittedAt}
use Rattle.law_visits.specs.Visits.{Wanted, Visit}
use Rattle.law_folds.specs.Laws.{AreTheWrites}

-- the transaction commits, if it does, above this time
abbrev pub CommitsAbove : History → Option ℕ → ℕ → Type 0
CommitsAbove h own_txn t = (y c : ℕ) → own_txn ≡ Some y → CommittedAt h y c → t < c

-- the rows are those of versions which, up to this time, are the writes of what is committed in the end
pub record ShowsTheWrites (h : History) (k t : ℕ) (kind : ReadKind) (paths : List Parts) (rows : List Row) : Type 0 where
  pub versions : List Version
  pub rows_are : rows ≡ rows_of kind paths (writes_at t versions)
  pub writes : AreTheWrites h k t paths versions

-- where a visit at a time collects rows, and the read's own transaction commits only above that time, the rows are those of
-- the writes that the tablet took of what is committed up to that time: no more and no fewer
abbrev pub VisitsShowTheWrites : Type 0
VisitsShowTheWrites = (config : Config) (h low : History) (m : Actor) (w : Wanted) (k t : ℕ) (window : Option Window) (rows : List Row) → Run config h → CommitsAbove h w.own_txn t →
    Visit h low m w k t window (reply.Collected rows) → ShowsTheWrites h k t w.kind w.paths rows
