-- What each finished read did, in every run.
use Rattle.std.specs.Prelude.{◌≡◌, ℕ, List, [], Option, Some, None, map}
use Rattle.txn_data.specs.declared.actor.Actor.TheVariants.{Session}
use Rattle.txn_data.specs.declared.config.Config.{Config}
use Rattle.txn_data.specs.declared.read_kind.ReadKind.{ReadKind}
use Rattle.txn_data.specs.declared.reply.Reply.TheVariants as reply
use Rattle.txn_data.specs.declared.window.Window.{Window}
use Rattle.txn_data.specs.declared.written.Written.{Written}
use Rattle.txn_types.specs.Lists.{Member}
use Rattle.txn_types.specs.History.{History}
use Rattle.txn_types.specs.ReadProgram.{TabletRows, tablets_of, paths_on, all_rows}
use Rattle.txn_types.specs.Reads.{Read, reads, start_of, places_asked, line_of, opened_at, inside, own_window}
use Rattle.txn_types.specs.Session.{Opened, writes_of, rows_under}
use Rattle.txn_types.specs.Run.{Run}
use Rattle.law_values.specs.Laws.{IsReadOf}
use Rattle.law_visits.specs.Visits.{Wanted, Visit, WindowedVisit}

-- what the session had accepted of the transaction that was open where the read started
abbrev pub laid_over : Option Opened → List Written
laid_over None = []
laid_over (Some x) = writes_of x.writes

-- the end of the read's window: inside a transaction that of its begin
abbrev pub window_end : Config → Read → Option Opened → ℕ
window_end config read None = own_window config read
window_end config read (Some x) = x.g

-- what a read asks of tablet k
abbrev pub wanted_at : Config → Read → ReadKind → ℕ → Wanted
wanted_at config read kind k = record {
  own_txn = inside config read;
  kind = kind;
  paths = paths_on k (places_asked (line_of config read));
  g = window_end config read (opened_at config read);
}

-- a finished read: it visited each of its tablets at its final time, which answered the rows that it shows, with the own
-- writes of its transaction laid over them; and it visited each of them with its window, at a time not above the final one.
-- The two may be one visit, and nothing is said of which of two came earlier
pub record DidVisit (config : Config) (h : History) (read : Read) : Type 0 where
  pub kind : ReadKind
  pub of : IsReadOf kind (line_of config read)
  pub found : List TabletRows
  pub tablets : map (λ (f : TabletRows). f.tablet) found ≡ tablets_of (places_asked (line_of config read))
  pub rows : read.rows
      ≡ rows_under kind (laid_over (opened_at config read)) (places_asked (line_of config read)) (all_rows kind (places_asked (line_of config read)) found)
  pub finally : (f : TabletRows) → Member f found → (window : Option Window)
      × Visit h (start_of read) (Session read.session) (wanted_at config read kind f.tablet) f.tablet read.at window (reply.Collected f.rows)
  pub windowed : (k : ℕ) → Member k (tablets_of (places_asked (line_of config read))) →
      WindowedVisit h (start_of read) (Session read.session) (wanted_at config read kind k) k read.at

abbrev pub ReadsVisitTheirTablets : Type 0
ReadsVisitTheirTablets = (config : Config) (h : History) (read : Read) → Run config h → Member read (reads h) → DidVisit config h read
