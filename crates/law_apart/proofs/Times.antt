-- What each session keeps of its open transaction is its read time, and read times never fall.
use Rattle.std.proofs.Common.{◌≡◌, ℕ, ◌≤◌, Bool, true, false, List, ◌∷◌, Option, Some, None, refl, ◌∙◌, ap, inl, inr, if◌then◌else◌, arith}
use Rattle.txn_data.specs.declared.actor.Actor.TheVariants.{Session}
use Rattle.txn_data.specs.declared.command.Command.{Command}
use Rattle.txn_data.specs.declared.config.Config.{Config}
use Rattle.txn_data.specs.declared.row.Row.{Row}
use Rattle.txn_data.specs.declared.tablet_limit.TabletLimit.{TabletLimit}
use Rattle.txn_data.specs.declared.told.Told.TheVariants as told
use Rattle.txn_data.specs.declared.event.Event.{Event}
use Rattle.txn_data.specs.declared.event.Event.TheVariants.{Tell}
use Rattle.txn_data.specs.declared.entry.Entry.{Entry}
use Rattle.txn_types.specs.Lists.{or_else, or_zero}
use Rattle.txn_types.specs.History.{History}
use Rattle.txn_types.specs.Session.{Opened, after_read}
use Rattle.txn_types.specs.Reads.{is_inside, began_by, began_time, read_time}
use Rattle.txn_types.specs.Run.{mover_at}
use Rattle.law_machines.proofs.Basics.{eq_cases, eq_refl}
use Rattle.law_apart.proofs.Steps.{or_none, first_read, Same, read_of, has_open, inside_is, values_read}
use Rattle.law_apart.proofs.Keeps.{OpenRead, OpenedRead}

-- ## values

-- the transaction is not the open one
abbrev pub IsNot : Option Opened → ℕ → Type 0
IsNot None x = Unit {0}
IsNot (Some o) x = o.meta.txn ≡ x → ⊥

not_open : (opened : Option Opened) (x : ℕ) → IsNot opened x → has_open opened x ≡ false
not_open None x other = refl
not_open (Some o) x other = elim (eq_cases o.meta.txn x) [ inl same ↦ absurd (other same.1) | inr differ ↦ differ.0 ]

pub values_same : (config : Config) (x j number at restarts : ℕ) (rows : List Row) (e : Entry) (h : History) (line : Command) → e.actor ≡ Session j → e.event ≡ Tell number (told.Values at restarts rows) →
    (mover_at config (Session j) h).line ≡ Some line → IsNot (mover_at config (Session j) h).keeps.opened x → Same config x h (e ∷ h)
unfolding began_time
values_same config x j number at restarts rows e h line actor event is other =
    let out : is_inside config x (read_of j h at restarts rows) ≡ false = inside_is config x j at restarts h rows line is ∙ not_open (mover_at config (Session j) h).keeps.opened x other in (
      ap (λ (ev : Event). or_else (began_time x h) (began_by x ev)) event ∙ or_none (began_time x h),
      values_read config x j number at restarts rows e h actor event ∙ (ap (λ (b : Bool). or_else (first_read config h x) (if b then Some at else None)) out ∙ or_none (first_read config h x)),
    )

-- of the open one
pub values_first : (config : Config) (j number at restarts : ℕ) (rows : List Row) (e : Entry) (h : History) (line : Command) (x : Opened) → e.actor ≡ Session j → e.event ≡ Tell number (told.Values at restarts rows) →
    (mover_at config (Session j) h).line ≡ Some line → (mover_at config (Session j) h).keeps.opened ≡ Some x →
    (began_time x.meta.txn (e ∷ h) ≡ began_time x.meta.txn h) × (first_read config (e ∷ h) x.meta.txn ≡ or_else (first_read config h x.meta.txn) (Some at))
unfolding began_time
values_first config j number at restarts rows e h line x actor event is open_is =
    let within : is_inside config x.meta.txn (read_of j h at restarts rows) ≡ true =
    inside_is config x.meta.txn j at restarts h rows line is ∙ (ap (λ (o : Option Opened). has_open o x.meta.txn) open_is ∙ eq_refl x.meta.txn) in (
      ap (λ (ev : Event). or_else (began_time x.meta.txn h) (began_by x.meta.txn ev)) event ∙ or_none (began_time x.meta.txn h),
      values_read config x.meta.txn j number at restarts rows e h actor event ∙ ap (λ (b : Bool). or_else (first_read config h x.meta.txn) (if b then Some at else None)) within,
    )

read_choice : (config : Config) (h g : History) (j serial at : ℕ) (x : Opened) (limits : List TabletLimit) (b : Bool) → x.has_read ≡ b → OpenRead config h j serial x →
    first_read config g x.meta.txn ≡ or_else (first_read config h x.meta.txn) (Some at) → OpenRead config g j serial (record x { limits = limits; r = if b then x.r else at; has_read = true })
read_choice config h g j serial at x limits true is ok first =
    let now : first_read config g x.meta.txn ≡ Some x.r = first ∙ ap (λ (o : Option ℕ). or_else o (Some at)) (ok.done is) in
    record { owner = ok.owner; number = ok.number; time = ap (λ (o : Option ℕ). or_zero (or_else o (began_time x.meta.txn g))) now; unread = λ none. cc; done = λ u. now }
read_choice config h g j serial at x limits false is ok first =
    let now : first_read config g x.meta.txn ≡ Some at = first ∙ ap (λ (o : Option ℕ). or_else o (Some at)) (ok.unread is) in
    record { owner = ok.owner; number = ok.number; time = ap (λ (o : Option ℕ). or_zero (or_else o (began_time x.meta.txn g))) now; unread = λ none. cc; done = λ u. now }

pub values_opened : (config : Config) (h g : History) (j serial at restarts : ℕ) (rows : List Row) (x : Opened) (limits : List TabletLimit) → OpenRead config h j serial x →
    first_read config g x.meta.txn ≡ or_else (first_read config h x.meta.txn) (Some at) → OpenedRead config g j serial (after_read x limits (told.Values at restarts rows))
values_opened config h g j serial at restarts rows x limits ok first = read_choice config h g j serial at x limits x.has_read refl ok first

-- a read time does not fall by values
pub values_rise : (config : Config) (h g : History) (j serial at : ℕ) (x : Opened) → OpenRead config h j serial x → x.r ≤ at → (began_time x.meta.txn g ≡ began_time x.meta.txn h) →
    first_read config g x.meta.txn ≡ or_else (first_read config h x.meta.txn) (Some at) → read_time config h x.meta.txn ≤ read_time config g x.meta.txn
values_rise config h g j serial at x ok up began first = rise_choice x.has_read refl
  where
    rise_choice : (b : Bool) → x.has_read ≡ b → read_time config h x.meta.txn ≤ read_time config g x.meta.txn
    rise_choice true is =
        let now : first_read config g x.meta.txn ≡ Some x.r = first ∙ ap (λ (o : Option ℕ). or_else o (Some at)) (ok.done is) in
        let time : read_time config g x.meta.txn ≡ x.r = ap (λ (o : Option ℕ). or_zero (or_else o (began_time x.meta.txn g))) now in
        let old = ok.time in omega (arith, time, old)
    rise_choice false is =
        let now : first_read config g x.meta.txn ≡ Some at = first ∙ ap (λ (o : Option ℕ). or_else o (Some at)) (ok.unread is) in
        let time : read_time config g x.meta.txn ≡ at = ap (λ (o : Option ℕ). or_zero (or_else o (began_time x.meta.txn g))) now in
        let old = ok.time in omega (arith, time, old, up)
