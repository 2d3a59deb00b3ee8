-- What a session keeps of the read time of its open transaction is its read time.
use Rattle.std.proofs.Common.{◌≡◌, ℕ, Bool, false, List, [], ◌∷◌, ◌++◌, Option, Some, None, nat_eq, refl, ◌∙◌, ap, inl, inr, if◌then◌else◌}
use Rattle.txn_data.specs.declared.actor.Actor.{Actor}
use Rattle.txn_data.specs.declared.actor.Actor.TheVariants.{Tablet, Status, Session, Applier}
use Rattle.txn_data.specs.declared.command.Command.{Command}
use Rattle.txn_data.specs.declared.config.Config.{Config}
use Rattle.txn_data.specs.declared.row.Row.{Row}
use Rattle.txn_data.specs.declared.told.Told.TheVariants as told
use Rattle.txn_data.specs.declared.event.Event.{Event}
use Rattle.txn_data.specs.declared.event.Event.TheVariants.{Start, Ask, Serve, Hear, Tell, Restarted}
use Rattle.txn_data.specs.declared.entry.Entry.{Entry}
use Rattle.txn_types.specs.Lists.{or_else}
use Rattle.txn_types.specs.History.{History, is_start}
use Rattle.txn_types.specs.Session.{Keeps, Opened}
use Rattle.txn_types.specs.Reads.{Read, open_txn, reads_by, reads, before_start, is_inside, first_read_time, began_by, began_time}
use Rattle.txn_types.specs.Run.{mover_after, mover_at}
use Rattle.law_machines.proofs.Basics.{same_cases}

-- ## a session keeps the same while a command is under way

own_keeps : (config : Config) (m : Actor) (h : History) (reading : Option ℕ) (event : Event) (line : Command) → (mover_after config m (mover_at config m h) reading event).line ≡ Some line →
    ((l : Command) → (mover_at config m h).line ≡ Some l → (mover_at config m (before_start m h)).keeps ≡ (mover_at config m h).keeps) →
    (mover_at config m (if is_start event then h else before_start m h)).keeps ≡ (mover_after config m (mover_at config m h) reading event).keeps
own_keeps config m h reading (Start number line) l is more = refl
own_keeps config m h reading (Ask to asked) l is more = more l is
own_keeps config m h reading (Hear from r) l is more = more l is
own_keeps config m h reading (Tell number t) l is more = cc
own_keeps config m h reading (Serve from asked r time append) l is more = more l is
own_keeps config m h reading (Restarted from kept) l is more = more l is

pub start_keeps : (config : Config) (m : Actor) (h : History) (line : Command) → (mover_at config m h).line ≡ Some line → (mover_at config m (before_start m h)).keeps ≡ (mover_at config m h).keeps
unfolding mover_at before_start
start_keeps config m [] line is = cc
start_keeps config m (e ∷ h) line is = elim (same_cases e.actor m) [
  | inl s ↦ rw s.0 (own_keeps config m h e.reading e.event line (rw s.0 at is) (λ l. start_keeps config m h l))
  | inr s ↦ rw s.0 (start_keeps config m h line (rw s.0 at is))
]

-- ## what one more entry does to what was told

pub or_none : (o : Option ℕ) → or_else o None ≡ o
or_none (Some n) = refl
or_none None = refl

-- the time told to the first finished read inside the transaction
abbrev pub first_read : Config → History → ℕ → Option ℕ
first_read config h x = first_read_time config x (reads h)

-- the entry neither begins a transaction nor finishes a read
abbrev pub IsSilent : Event → Type 0
IsSilent (Tell number (told.Values at restarts rows)) = ⊥
IsSilent (Tell number (told.Began y at)) = ⊥
IsSilent event = Unit {0}

silent_began : (x : ℕ) (event : Event) → IsSilent event → began_by x event ≡ None
silent_began x (Tell number (told.Values at restarts rows)) silent = absurd silent
silent_began x (Tell number (told.Began y at)) silent = absurd silent
silent_began x event silent = refl

silent_session : (h : History) (i : ℕ) (event : Event) → IsSilent event → reads_by h (Session i) event ≡ []
silent_session h i (Tell number (told.Values at restarts rows)) silent = absurd silent
silent_session h i (Tell number (told.Began y at)) silent = absurd silent
silent_session h i event silent = refl

silent_reads : (h : History) (a : Actor) (event : Event) → IsSilent event → reads_by h a event ≡ []
silent_reads h (Session i) event silent = silent_session h i event silent
silent_reads h (Tablet k) event silent = refl
silent_reads h (Status j) event silent = refl
silent_reads h (Applier k) event silent = refl

-- nothing is told of the transaction
abbrev pub Same : Config → ℕ → History → History → Type 0
Same config x h g = (began_time x g ≡ began_time x h) × (first_read config g x ≡ first_read config h x)

pub silent_same : (config : Config) (x : ℕ) (e : Entry) (h : History) → IsSilent e.event → Same config x h (e ∷ h)
unfolding began_time reads
silent_same config x e h silent = (
  ap (λ (o : Option ℕ). or_else (began_time x h) o) (silent_began x e.event silent) ∙ or_none (began_time x h),
  ap (λ (rs : List Read). first_read_time config x (rs ++ reads h)) (silent_reads h e.actor e.event silent),
)

-- ## a finished read of a session

abbrev pub read_of : ℕ → History → ℕ → ℕ → List Row → Read
read_of j h at restarts rows = record { session = j; before = h; at = at; restarts = restarts; rows = rows }

-- whether this is the transaction that is open
abbrev pub has_open : Option Opened → ℕ → Bool
has_open o x = elim (open_txn o) [ Some y ↦ nat_eq y x | None ↦ false ]

pub inside_is : (config : Config) (x j at restarts : ℕ) (h : History) (rows : List Row) (line : Command) → (mover_at config (Session j) h).line ≡ Some line →
    is_inside config x (read_of j h at restarts rows) ≡ has_open (mover_at config (Session j) h).keeps.opened x
inside_is config x j at restarts h rows line is = ap (λ (k : Keeps). has_open k.opened x) (start_keeps config (Session j) h line is)

pub values_read : (config : Config) (x j number at restarts : ℕ) (rows : List Row) (e : Entry) (h : History) → e.actor ≡ Session j → e.event ≡ Tell number (told.Values at restarts rows) →
    first_read config (e ∷ h) x ≡ or_else (first_read config h x) (if is_inside config x (read_of j h at restarts rows) then Some at else None)
unfolding reads first_read_time
values_read config x j number at restarts rows e h actor event =
    ap (λ (rs : List Read). first_read_time config x (rs ++ reads h)) (ap (λ (a : Actor). reads_by h a e.event) actor ∙ ap (λ (ev : Event). reads_by h (Session j) ev) event)
