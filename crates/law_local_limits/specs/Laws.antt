-- The local limits of reads in every run: where a read gives one, the tablet fixed it before.
use Rattle.std.specs.Prelude.{◌≡◌, ℕ, ◌<◌, List, Option, Some, None}
use Rattle.doc_path.specs.Path.{Parts}
use Rattle.txn_data.specs.declared.actor.Actor.{Actor}
use Rattle.txn_data.specs.declared.actor.Actor.TheVariants.{Tablet, Session}
use Rattle.txn_data.specs.declared.append.Append.{Append}
use Rattle.txn_data.specs.declared.config.Config.{Config}
use Rattle.txn_data.specs.declared.found.Found.{Found}
use Rattle.txn_data.specs.declared.read_kind.ReadKind.{ReadKind}
use Rattle.txn_data.specs.declared.request.Request.TheVariants as request
use Rattle.txn_data.specs.declared.reply.Reply.{Reply}
use Rattle.txn_data.specs.declared.reply.Reply.TheVariants as reply
use Rattle.txn_data.specs.declared.window.Window.{Window}
use Rattle.txn_data.specs.declared.event.Event.{Event}
use Rattle.txn_data.specs.declared.event.Event.TheVariants.{Serve}
use Rattle.txn_data.specs.declared.entry.Entry.{Entry}
use Rattle.txn_types.specs.Lists.{Member}
use Rattle.txn_types.specs.History.{History}
use Rattle.txn_types.specs.Reads.{Read, reads, before_start, begin_of, start_of, opened_at, inside, origin}
use Rattle.txn_types.specs.Run.{Run}
use Rattle.law_machines.specs.Own.{StandsOver, time_of}
use Rattle.law_clocks.specs.Laws.{Listing, Adds}
use Rattle.law_courses.specs.Course.{IsPart, entry_of}
use Rattle.law_visits.specs.Visits.{Visit}
use Rattle.law_visits.specs.Laws.{wanted_at, window_end}

-- the history before the command of a mover, or before the begin of the transaction for which it reads
abbrev pub low_of : Actor → History → Option ℕ → History
low_of m h None = before_start m h
low_of m h (Some x) = begin_of x h

-- after `low` the machine answered this limit to a listing read with this window, for which no limit was known
pub record WasListed (h low : History) (m a : Actor) (own_txn : Option ℕ) (g limit : ℕ) : Type 0 where
  pub paths : List Parts
  pub t : ℕ
  pub others : List Found
  pub reading : Option ℕ
  pub now : ℕ
  pub append : Append
  pub before : History
  pub stands : StandsOver (entry_of a reading (Serve m (request.ListRead own_txn paths t g None) (reply.Listed limit others) (Some now) append)) before h
  pub later : IsPart low before

-- a limit that a listing read gives was so fixed, since the read's command began, or since its transaction did
abbrev pub WasFixed : History → Actor → Actor → Option ℕ → ℕ → ℕ → Type 0
WasFixed h m a own_txn g limit = WasListed h (low_of m h own_txn) m a own_txn g limit

abbrev pub IsFixed : History → Actor → Event → Type 0
IsFixed h a (Serve m (request.ListRead own_txn paths t g (Some limit)) r time append) = WasFixed h m a own_txn g limit
IsFixed h a event = Unit {0}

abbrev pub GivenLimitsWereFixed : Type 0
GivenLimitsWereFixed = (config : Config) (h before : History) (e : Entry) → Run config h → StandsOver e before h → IsFixed before e.actor e.event

-- so after any listing read at t a tablet adds only above t and above the limit that it answered
abbrev pub ListingsPromiseTheirLimits : Type 0
ListingsPromiseTheirLimits = (config : Config) (h before : History) (j f : Entry) (t g : ℕ) (limit : Option ℕ) (local w : ℕ) → Run config h →
    StandsOver f before h → Member j before → j.actor ≡ f.actor → Listing j.event t g limit local → Adds f.event → time_of f.event ≡ Some w → (t < w) × (local < w)

-- and a limit that a visit of a finished read gives was fixed since the read's origin
abbrev pub LimitsOfReadsWereFixed : Type 0
LimitsOfReadsWereFixed = (config : Config) (h : History) (read : Read) (kind : ReadKind) (k t : ℕ) (window : Option Window) (answer : Reply) → Run config h → Member read (reads h) →
    (v : Visit h (start_of read) (Session read.session) (wanted_at config read kind k) k t window answer) → (limit : ℕ) → v.known ≡ Some limit →
    WasListed h (origin config read) (Session read.session) (Tablet k) (inside config read) (window_end config read (opened_at config read)) limit
