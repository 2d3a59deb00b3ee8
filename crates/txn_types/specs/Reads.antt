-- Finished reads, and what one of them has to answer.
use Rattle.std.specs.Prelude.{◌≡◌, ℕ, ◌+◌, ◌≤◌, Bool, true, false, ◌&&◌, List, [], ◌∷◌, ◌++◌, Option, Some, None, max, nat_eq, nat_lt, if◌then◌else◌, length, map, filter, ◌⊎◌}
use Rattle.std.specs.List.{list_any}
use Rattle.hybrid_time.specs.Time.{time_at, limit_time}
use Rattle.doc_path.specs.Path.{Parts, related}
use Rattle.txn_data.specs.declared.actor.Actor.{Actor}
use Rattle.txn_data.specs.declared.actor.Actor.TheVariants.{Session}
use Rattle.txn_data.specs.declared.place.Place.{Place}
use Rattle.txn_data.specs.declared.row.Row.{Row}
use Rattle.txn_data.specs.declared.written.Written.{Written}
use Rattle.txn_data.specs.declared.committed_txn.CommittedTxn.{CommittedTxn}
use Rattle.txn_data.specs.declared.command.Command.{Command}
use Rattle.txn_data.specs.declared.command.Command.TheVariants as command
use Rattle.txn_data.specs.declared.reply.Reply.TheVariants as reply
use Rattle.txn_data.specs.declared.told.Told.TheVariants as told
use Rattle.txn_data.specs.declared.event.Event.{Event}
use Rattle.txn_data.specs.declared.event.Event.TheVariants.{Hear, Tell}
use Rattle.txn_data.specs.declared.entry.Entry.{Entry}
use Rattle.txn_data.specs.declared.config.Config.{Config}
use Rattle.txn_types.specs.Lists.{Member, or_else, or_zero}
use Rattle.txn_types.specs.Writes.{value, beneath}
use Rattle.txn_types.specs.History.{History, same_actor, is_start}
use Rattle.txn_types.specs.Committed.{writes, committed, fold}
use Rattle.txn_types.specs.Session.{Opened}
use Rattle.txn_types.specs.Run.{mover_at}

-- a finished read: a session was told values at a time; `before` is the history before that
pub record Read : Type 0 where
  pub session : ℕ
  pub before : History
  pub at : ℕ
  pub restarts : ℕ
  pub rows : List Row

abbrev pub reads_by : History → Actor → Event → List Read
reads_by h (Session i) (Tell number (told.Values at restarts rows)) =
    (record { session = i; before = h; at = at; restarts = restarts; rows = rows }) ∷ []
reads_by h a event = []

-- the finished reads of a history
unfoldable pub reads : History → List Read
reads [] = []
reads (e ∷ h) = reads_by h e.actor e.event ++ reads h

-- the history before the last Start of a mover
unfoldable pub before_start : Actor → History → History
before_start a [] = []
before_start a (e ∷ h) = if same_actor e.actor a && is_start e.event then h else before_start a h

abbrev pub start_of : Read → History
start_of read = before_start (Session read.session) read.before

-- the places that a line asks for, where it is a read
abbrev pub places_asked : Option Command → List Place
places_asked (Some (command.Read strict places)) = places
places_asked (Some (command.Scan strict place)) = place ∷ []
places_asked line = []

abbrev pub line_of : Config → Read → Option Command
line_of config read = (mover_at config (Session read.session) read.before).line

abbrev pub paths_asked : Config → Read → List Parts
paths_asked config read = map (λ (p : Place). p.path) (places_asked (line_of config read))

-- the transaction that the session has open where the read starts
abbrev pub opened_at : Config → Read → Option Opened
opened_at config read = (mover_at config (Session read.session) (start_of read)).keeps.opened

abbrev pub open_txn : Option Opened → Option ℕ
open_txn None = None
open_txn (Some x) = Some x.meta.txn

abbrev pub inside : Config → Read → Option ℕ
inside config read = open_txn (opened_at config read)

-- the time told to the first finished read inside a transaction, and that of its Began
abbrev pub is_inside : Config → ℕ → Read → Bool
is_inside config x read = elim (inside config read) [ Some y ↦ nat_eq y x | None ↦ false ]

unfoldable pub first_read_time : Config → ℕ → List Read → Option ℕ
first_read_time config x [] = None
first_read_time config x (read ∷ earlier) =
    or_else (first_read_time config x earlier) (if is_inside config x read then Some read.at else None)

abbrev pub began_by : ℕ → Event → Option ℕ
began_by x (Tell number (told.Began y at)) = if nat_eq y x then Some at else None
began_by x event = None

unfoldable pub began_time : ℕ → History → Option ℕ
began_time x [] = None
began_time x (e ∷ h) = or_else (began_time x h) (began_by x e.event)

-- the read time of a transaction: the time told to its first finished read, or that of its Began where it has none
abbrev pub read_time : Config → History → ℕ → ℕ
read_time config h x = or_zero (or_else (first_read_time config x (reads h)) (began_time x h))

-- the history before the Start of the begin of a transaction
unfoldable pub begin_of : ℕ → History → History
begin_of x [] = []
begin_of x (e ∷ h) = elim (began_by x e.event) [ Some at ↦ before_start e.actor h | None ↦ begin_of x h ]

-- the origin of a read: the history before its Start, or inside a transaction before the Start of its begin
abbrev pub origin_under : Read → Option ℕ → History
origin_under read (Some x) = begin_of x read.before
origin_under read None = start_of read

abbrev pub origin : Config → Read → History
origin config read = origin_under read (inside config read)

abbrev pub reading_by : Actor → Entry → Option ℕ
reading_by a e = if same_actor e.actor a then e.reading else None

-- the first reading that an actor recorded after the first n entries
unfoldable pub reading_after : Actor → ℕ → History → Option ℕ
reading_after a n [] = None
reading_after a n (e ∷ h) = if nat_lt (length h) n then None else or_else (reading_after a n h) (reading_by a e)

-- the read's own reading p, the session's time t0 at it, and the end G of its window
abbrev pub own_reading : Config → Read → ℕ
own_reading config read = or_zero (reading_after (Session read.session) (length (origin config read)) read.before)

abbrev pub own_time : Config → Read → ℕ
own_time config read =
    max (mover_at config (Session read.session) (origin config read)).keeps.last (time_at (own_reading config read) 0)

abbrev pub own_window : Config → Read → ℕ
own_window config read = max (own_time config read) (limit_time (own_reading config read) config.skew_us)

abbrev pub met_heard : Event → Option ℕ
met_heard (Hear from (reply.Met at path)) = Some at
met_heard event = None

-- the times that a mover heard as met since its last Start, the newest first
abbrev pub with_met : Actor → Entry → List ℕ → List ℕ
with_met a e earlier = elim (met_heard e.event) [ Some at ↦ at ∷ earlier | None ↦ earlier ]

unfoldable pub met_since : Actor → History → List ℕ
met_since a [] = []
met_since a (e ∷ h) =
    if same_actor e.actor a then (if is_start e.event then [] else with_met a e (met_since a h)) else met_since a h

abbrev pub met_of : Read → List ℕ
met_of read = met_since (Session read.session) read.before

-- the final time of a read: the last that it met; where it met none, t0, or inside a transaction its read time by then
abbrev pub time_unmet : Config → Read → Option ℕ → ℕ
time_unmet config read (Some x) = read_time config (start_of read) x
time_unmet config read None = own_time config read

abbrev pub last_met : List ℕ → ℕ → ℕ
last_met [] unmet = unmet
last_met (at ∷ earlier) unmet = at

abbrev pub final_time : Config → Read → ℕ
final_time config read = last_met (met_of read) (time_unmet config read (inside config read))

-- what is told of it: its final time, and how often it met something
pub record IsFinal (config : Config) (read : Read) : Type 0 where
  pub time : read.at ≡ final_time config read
  pub met : read.restarts ≡ length (met_of read)

-- the writes that the session's open transaction had accepted before the read
abbrev pub own_writes : Read → Option ℕ → List Written
own_writes read (Some x) = writes (start_of read) x
own_writes read None = []

-- all that is committed, over the whole history, not later than the final time, and then the transaction's own writes
abbrev pub seen_by : Config → History → Read → List Written
seen_by config h read = fold h (final_time config read) ++ own_writes read (inside config read)

abbrev pub rows_asked : Option Command → List Written → List Row
rows_asked (Some (command.Read strict places)) ws = map (λ (p : Place). record { path = p.path; value = value ws p.path }) places
rows_asked (Some (command.Scan strict place)) ws = beneath ws place.path
rows_asked line ws = []

-- a read is right: its rows are the paths asked with their values, or of a scan all that lies beneath
abbrev pub Right : Config → History → Read → Type 0
Right config h read = read.rows ≡ rows_asked (line_of config read) (seen_by config h read)

abbrev pub is_commit_of : ℕ → Event → Bool
is_commit_of x (Tell number (told.Committed y at)) = nat_eq y x
is_commit_of x event = false

-- a Committed was told of the transaction
abbrev pub was_told : History → ℕ → Bool
was_told h x = list_any (λ (e : Entry). is_commit_of x e.event) h

abbrev pub touches : List Parts → CommittedTxn → Bool
touches paths x = list_any (λ (w : Written). list_any (related w.path) paths) x.writes

-- what was known where the read began: what is committed, is related to a path asked, and was told before the origin
abbrev pub known : Config → History → Read → List CommittedTxn
known config h read =
    filter (λ (x : CommittedTxn). touches (paths_asked config read) x && was_told (origin config read) x.txn) (committed h)

abbrev pub ReadsUpTo : ℕ → Option ℕ → Type 0
ReadsUpTo most None = Unit {0}
ReadsUpTo most (Some reading) = reading ≤ most

-- clocks agree within this skew: each reading before the origin is at most the read's own plus the skew
abbrev pub SkewHeld : Config → ℕ → Read → Type 0
SkewHeld config skew read =
    (e : Entry) → Member e (origin config read) → ReadsUpTo (own_reading config read + skew) e.reading

-- a read is fresh: it is not earlier than what was known
abbrev pub Fresh : Config → History → Read → Type 0
Fresh config h read = (x : CommittedTxn) → Member x (known config h read) → x.at ≤ final_time config read

-- a read is steady: it is not earlier than what its own session was told committed before, nor than a read of it that
-- finished before
abbrev pub own_told : Config → Read → ℕ → Bool
own_told config read x =
    list_any (λ (e : Entry). same_actor e.actor (Session read.session) && is_commit_of x e.event) (origin config read)

pub record Steady (config : Config) (h : History) (read : Read) : Type 0 where
  pub commits : (x : CommittedTxn) → Member x (committed h) → own_told config read x.txn ≡ true → x.at ≤ final_time config read
  pub reads_before : (earlier : Read) → Member earlier (reads (origin config read)) → earlier.session ≡ read.session →
      final_time config earlier ≤ final_time config read

-- two transactions have related writes
abbrev pub related_writes : CommittedTxn → CommittedTxn → Bool
related_writes x y = touches (map (λ (w : Written). w.path) y.writes) x

-- two committed snapshot transactions do not overlap: one committed not later than the other read
abbrev pub Apart : Config → History → CommittedTxn → CommittedTxn → Type 0
Apart config h x y = (x.at ≤ read_time config h y.txn) ⊎ (y.at ≤ read_time config h x.txn)
