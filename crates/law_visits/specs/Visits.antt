-- What a read did at a tablet: it listed, asked what became of each transaction listed, and collected with the answers.
use Rattle.std.specs.Prelude.{◌≡◌, ℕ, ◌≤◌, List, ◌∷◌, Option, Some}
use Rattle.doc_path.specs.Path.{Parts}
use Rattle.txn_data.specs.declared.actor.Actor.{Actor}
use Rattle.txn_data.specs.declared.actor.Actor.TheVariants.{Tablet, Status}
use Rattle.txn_data.specs.declared.append.Append.{Append}
use Rattle.txn_data.specs.declared.entry.Entry.{Entry}
use Rattle.txn_data.specs.declared.event.Event.TheVariants.{Serve}
use Rattle.txn_data.specs.declared.fate_of.FateOf.{FateOf}
use Rattle.txn_data.specs.declared.found.Found.{Found}
use Rattle.txn_data.specs.declared.read_kind.ReadKind.{ReadKind}
use Rattle.txn_data.specs.declared.reply.Reply.{Reply}
use Rattle.txn_data.specs.declared.reply.Reply.TheVariants as reply
use Rattle.txn_data.specs.declared.request.Request.TheVariants as request
use Rattle.txn_data.specs.declared.window.Window.{Window}
use Rattle.txn_types.specs.Lists.{Member}
use Rattle.txn_types.specs.History.{History}
use Rattle.law_machines.specs.Own.{StandsOver}
use Rattle.law_courses.specs.Course.{IsPart, entry_of}

-- a question for the fate of a transaction at a time, answered by an entry that stands over `before`
pub record AskedFate (m : Actor) (x t : ℕ) : Type 0 where
  pub status : ℕ
  pub reading : Option ℕ
  pub time : Option ℕ
  pub append : Append
  pub before : History

-- the entry that answered it so
abbrev pub fate_entry : (m : Actor) (t : ℕ) (f : FateOf) → AskedFate m f.txn t → Entry
fate_entry m t f a = entry_of (Status a.status) a.reading (Serve m (request.AskFate f.txn t) (reply.FateIs f.fate) a.time a.append)

-- the fate is the answer to such a question, which came after `low` and stands in `high`
abbrev pub WasAsked : Actor → ℕ → History → History → FateOf → Type 0
WasAsked m t low high f = (a : AskedFate m f.txn t) × IsPart (fate_entry m t f a ∷ a.before) high × IsPart low a.before

-- the fates are such answers, with one for each transaction found
pub record WereAsked (m : Actor) (t : ℕ) (low high : History) (others : List Found) (fates : List FateOf) : Type 0 where
  pub told : (f : FateOf) → Member f fates → WasAsked m t low high f
  pub each : (o : Found) → Member o others → (f : FateOf) × Member f fates × (f.txn ≡ o.txn)

-- what is asked of a tablet: for which open transaction, of what kind, on which paths, and up to where values may be met
pub record Wanted : Type 0 where
  pub own_txn : Option ℕ
  pub kind : ReadKind
  pub paths : List Parts
  pub g : ℕ

-- the entry that answered a listing, and the one that answered a collect
abbrev pub list_entry : Actor → Wanted → ℕ → ℕ → Option ℕ → ℕ → List Found → Option ℕ → Option ℕ → Append → Entry
list_entry m w k t known limit others reading time append =
    entry_of (Tablet k) reading (Serve m (request.ListRead w.own_txn w.paths t w.g known) (reply.Listed limit others) time append)

abbrev pub collect_entry : Actor → Wanted → ℕ → ℕ → Option Window → List FateOf → Reply → Option ℕ → Option ℕ → Append → Entry
collect_entry m w k t window fates answer reading time append =
    entry_of (Tablet k) reading (Serve m (request.Collect w.own_txn w.kind w.paths t window fates) answer time append)

-- a visit of tablet k at time t, later than `low`, which was answered so: the entries of the listing, the questions and the
-- collect stand one after another
pub record Visit (h low : History) (m : Actor) (w : Wanted) (k t : ℕ) (window : Option Window) (answer : Reply) : Type 0 where
  -- the listing, with the limit that was known before, if one was, and the one that was answered
  pub known : Option ℕ
  pub limit : ℕ
  pub others : List Found
  pub list_reading : Option ℕ
  pub list_time : Option ℕ
  pub list_append : Append
  pub list_before : History
  -- the answers that the collect carries
  pub fates : List FateOf
  pub reading : Option ℕ
  pub time : Option ℕ
  pub append : Append
  pub before : History
  pub later : IsPart low list_before
  pub listed : StandsOver (list_entry m w k t known limit others list_reading list_time list_append) list_before before
  pub asked : WereAsked m t (list_entry m w k t known limit others list_reading list_time list_append ∷ list_before) before others fates
  pub collected : StandsOver (collect_entry m w k t window fates answer reading time append) before h

-- what was met is not above this time
abbrev pub MeetsUpTo : ℕ → Reply → Type 0
MeetsUpTo final (reply.Met at path) = at ≤ final
MeetsUpTo final r = Unit {0}

-- a collect is answered by rows, or by what it met
abbrev pub IsCollect : Reply → Type 0
IsCollect (reply.Collected rows) = Unit {0}
IsCollect (reply.Met at path) = Unit {0}
IsCollect r = ⊥

-- a visit with the read's window, which ends at the limit that was answered, at a time not above `final`; what it met is
-- not above that either
pub record WindowedVisit (h low : History) (m : Actor) (w : Wanted) (k final : ℕ) : Type 0 where
  pub t : ℕ
  pub limit : ℕ
  pub answer : Reply
  pub visit : Visit h low m w k t (Some (record { g = w.g; limit = limit })) answer
  pub limit_is : visit.limit ≡ limit
  pub not_after : t ≤ final
  pub meets : MeetsUpTo final answer
  pub answers : IsCollect answer
