-- What tablets show, and the fold of all commits, in every run.
use Rattle.std.specs.Prelude.{◌≡◌, ℕ, ◌≤◌, true, List, ◌++◌, Option, map}
use Rattle.doc_path.specs.Path.{Parts, is_prefix, related}
use Rattle.txn_data.specs.declared.actor.Actor.TheVariants.{Tablet}
use Rattle.txn_data.specs.declared.command.Command.{Command}
use Rattle.txn_data.specs.declared.config.Config.{Config}
use Rattle.txn_data.specs.declared.place.Place.{Place}
use Rattle.txn_data.specs.declared.read_kind.ReadKind.{ReadKind}
use Rattle.txn_data.specs.declared.version.Version.{Version}
use Rattle.txn_data.specs.declared.written.Written.{Written}
use Rattle.txn_types.specs.Lists.{Member}
use Rattle.txn_types.specs.Writes.{last_word}
use Rattle.txn_types.specs.History.{History}
use Rattle.txn_types.specs.Committed.{fold}
use Rattle.txn_types.specs.Plan.{IsPath, PlacesAgree}
use Rattle.txn_types.specs.Tablet.{rows_of, writes_at}
use Rattle.txn_types.specs.ReadProgram.{TabletRows, paths_on, tablets_of, all_rows}
use Rattle.txn_types.specs.Session.{rows_under}
use Rattle.txn_types.specs.Reads.{places_asked, rows_asked}
use Rattle.txn_types.specs.Run.{Run}
use Rattle.law_places.specs.Laws.{started, IsPlace}
use Rattle.law_values.specs.Laws.{IsReadOf}
use Rattle.law_versions.specs.Laws.{IsMadeIn}

-- up to a time, and on the paths related to some, these versions are those that the tablet's writes of what is committed
-- in the end make
pub record AreTheWrites (h : History) (k t : ℕ) (paths : List Parts) (vs : List Version) : Type 0 where
  pub known : (v : Version) (p : Parts) → Member p paths → related v.path p ≡ true → v.at ≤ t → Member v vs → IsMadeIn h h k v
  pub shown : (v : Version) (p : Parts) → Member p paths → related v.path p ≡ true → v.at ≤ t → IsMadeIn h h k v → Member v vs

-- then they leave what the fold of all commits up to this time leaves, at these paths and beneath
abbrev pub TabletsShowTheFold : Type 0
TabletsShowTheFold = (config : Config) (h : History) (k t : ℕ) (paths : List Parts) (vs : List Version) (p q : Parts) → Run config h → PlacesAgree h → AreTheWrites h k t paths vs →
    Member p paths → IsPlace h (Tablet k) p → is_prefix p q ≡ true → last_word (writes_at t vs) q ≡ last_word (fold h t) q

-- a tablet answered a read at this time from such versions
abbrev pub IsShown : History → ReadKind → List Place → ℕ → TabletRows → Type 0
IsShown h kind places t f =
    (vs : List Version) × (f.rows ≡ rows_of kind (paths_on f.tablet places) (writes_at t vs)) × AreTheWrites h f.tablet t (paths_on f.tablet places) vs

-- the places were named by lines that were started, with paths
abbrev pub AreStarted : History → List Place → Type 0
AreStarted h places = (place : Place) → Member place places → Member place (started h) × IsPath place.path

-- where each tablet of a read so answered, its rows with the transaction's own writes laid over them are those of the fold
-- of all commits up to this time, with these writes after it
abbrev pub ReadsShowTheFold : Type 0
ReadsShowTheFold = (config : Config) (h : History) (kind : ReadKind) (line : Option Command) (found : List TabletRows) (t : ℕ) (own : List Written) → Run config h → PlacesAgree h →
    IsReadOf kind line → AreStarted h (places_asked line) → map (λ (f : TabletRows). f.tablet) found ≡ tablets_of (places_asked line) →
    ((f : TabletRows) → Member f found → IsShown h kind (places_asked line) t f) →
    rows_under kind own (places_asked line) (all_rows kind (places_asked line) found) ≡ rows_asked line (fold h t ++ own)
