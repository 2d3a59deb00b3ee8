-- The open transaction of a session is the one whose begin it was told of last.
use Rattle.std.proofs.Common.{◌≡◌, ℕ, ◌+◌, ◌≢◌, Bool, true, false, ◌&&◌, List, [], ◌∷◌, Option, Some, None, nat_eq, refl, sym, ◌∙◌, ap, subst, inl, inr, if◌then◌else◌}
use Rattle.txn_data.specs.declared.actor.Actor.{Actor}
use Rattle.txn_data.specs.declared.actor.Actor.TheVariants.{Session}
use Rattle.txn_data.specs.declared.command.Command.{Command}
use Rattle.txn_data.specs.declared.command.Command.TheVariants as command
use Rattle.txn_data.specs.declared.config.Config.{Config}
use Rattle.txn_data.specs.declared.op.Op.{Op}
use Rattle.txn_data.specs.declared.place.Place.{Place}
use Rattle.txn_data.specs.declared.tablet_limit.TabletLimit.{TabletLimit}
use Rattle.txn_data.specs.declared.told.Told.{Told}
use Rattle.txn_data.specs.declared.told.Told.TheVariants as told
use Rattle.txn_data.specs.declared.told_refusal.ToldRefusal.TheVariants as told_refusal
use Rattle.txn_data.specs.declared.event.Event.{Event}
use Rattle.txn_data.specs.declared.event.Event.TheVariants.{Tell}
use Rattle.txn_data.specs.declared.entry.Entry.{Entry}
use Rattle.txn_types.specs.History.{History, same_actor}
use Rattle.txn_types.specs.Session.{Keeps, Opened, txn_id, opens, after_write, after_end, after_read, opened_after}
use Rattle.txn_types.specs.Reads.{before_start, began_by, begin_of}
use Rattle.txn_types.specs.Run.{Run, Steps, Mover, mover_at, mover_after, kept_after, session_of}
use Rattle.law_machines.proofs.Basics.{same_cases, eq_refl, eq_cases}
use Rattle.law_messages.proofs.Rules.{entry}
use Rattle.law_owners.specs.Owner.{owner_of}
use Rattle.law_owners.proofs.Serials.{id_owner}
use Rattle.law_read_times.specs.Laws.{IsBeginLine, IsToldAt}
use Rattle.law_read_times.proofs.Runs.{reads_up}
use Rattle.law_apart.proofs.Keeps.{OpenedRead}
use Rattle.law_apart.proofs.Rising.{sessions_read}
use Rattle.law_steady_reads.proofs.Steady.{began_not}
use Rattle.law_own_readings.specs.Laws.{is_began, last_begin}

-- ## what is told otherwise keeps the transaction or closes it

abbrev SameTxn : Opened → Option Opened → Type 0
SameTxn x None = Unit {0}
SameTxn x (Some y) = y.meta.txn ≡ x.meta.txn

write_txn : (x : Opened) (place : Place) (o : Op) (t : Told) → SameTxn x (after_write x place o t)
write_txn x place o (told.Written at) = refl
write_txn x place o (told.Refused (told_refusal.Conflict other)) = tt
write_txn x place o (told.Refused (told_refusal.Overlap at)) = tt
write_txn x place o (told.Refused (told_refusal.LogFault actor)) = tt
write_txn x place o t = refl

end_txn : (x : Opened) (t : Told) → SameTxn x (after_end x t)
end_txn x (told.Committed y at) = tt
end_txn x (told.Ended y) = tt
end_txn x (told.Refused (told_refusal.Aborted by)) = tt
end_txn x (told.Refused (told_refusal.LogFault actor)) = refl
end_txn x t = refl

read_txn : (x : Opened) (limits : List TabletLimit) (t : Told) → SameTxn x (after_read x limits t)
read_txn x limits (told.Values at restarts rows) = refl
read_txn x limits t = refl

line_txn : (config : Config) (i : ℕ) (s : Keeps) (line : Command) (reading : Option ℕ) (limits : List TabletLimit) (t : Told) (x : Opened) → SameTxn x (opened_after config i s line reading limits t (Some x))
line_txn config i s (command.Put place v) reading limits t x = write_txn x place _ t
line_txn config i s (command.Del place) reading limits t x = write_txn x place _ t
line_txn config i s command.Commit reading limits t x = end_txn x t
line_txn config i s command.Abort reading limits t x = end_txn x t
line_txn config i s command.End reading limits t x = end_txn x t
line_txn config i s (command.Read strict places) reading limits t x = read_txn x limits t
line_txn config i s (command.Scan strict place) reading limits t x = read_txn x limits t
line_txn config i s line reading limits t x = refl

-- ## an entry that tells no begin

abbrev NotBegan : Event → Type 0
NotBegan (Tell number (told.Began y at)) = ⊥
NotBegan event = Unit {0}

began_false : (event : Event) → NotBegan event → is_began event ≡ false
began_false (Tell number (told.Began y at)) not = absurd not
began_false event not = refl

and_false : (b : Bool) → (b && false) ≡ false
and_false true = refl
and_false false = refl

still_begin : (x : ℕ) (a : Actor) (reading : Option ℕ) (event : Event) (h : History) → NotBegan event → begin_of x (entry a reading event ∷ h) ≡ begin_of x h
unfolding begin_of
still_begin x a reading (Tell number (told.Began y at)) h not = absurd not
still_begin x a reading event h not = refl

still_last : (m a : Actor) (reading : Option ℕ) (event : Event) (h : History) → NotBegan event → last_begin m (entry a reading event ∷ h) ≡ last_begin m h
unfolding last_begin
still_last m a reading event h not = rw (began_false event not, and_false (same_actor a m)) refl

-- ## the begin of the open transaction is the last that was told

abbrev pub BeginIsLast : ℕ → History → Option Opened → Type 0
BeginIsLast i h None = Unit {0}
BeginIsLast i h (Some x) = begin_of x.meta.txn h ≡ last_begin (Session i) h

open_still : (i : ℕ) (a : Actor) (reading : Option ℕ) (event : Event) (h : History) (x : Opened) (o : Option Opened) → NotBegan event → SameTxn x o → BeginIsLast i h (Some x) → BeginIsLast i (entry a reading event ∷ h) o
open_still i a reading event h x None not same is = tt
open_still i a reading event h x (Some y) not same is =
    still_begin y.meta.txn a reading event h not ∙ (ap (λ (n : ℕ). begin_of n h) same ∙ (is ∙ sym (still_last (Session i) a reading event h not)))

keeps_still : (i : ℕ) (a : Actor) (reading : Option ℕ) (event : Event) (h : History) (o : Option Opened) → NotBegan event → BeginIsLast i h o → BeginIsLast i (entry a reading event ∷ h) o
keeps_still i a reading event h None not is = tt
keeps_still i a reading event h (Some x) not is = open_still i a reading event h x (Some x) not refl is

-- told otherwise than of a begin, a session opens none
opens_none : (config : Config) (i : ℕ) (s : Keeps) (priority number : ℕ) (reading : Option ℕ) (t : Told) → NotBegan (Tell number t) → opens config i s priority reading t ≡ None
opens_none config i s priority number (Some reading) (told.Began y at) not = absurd not
opens_none config i s priority number reading t not = refl

told_still : (config : Config) (i : ℕ) (s : Keeps) (line : Command) (own : Option ℕ) (limits : List TabletLimit) (t : Told) (opened : Option Opened) (number : ℕ) (reading : Option ℕ) (h : History) → NotBegan (Tell number t) → BeginIsLast i h opened →
    BeginIsLast i (entry (Session i) reading (Tell number t) ∷ h) (opened_after config i s line own limits t opened)
told_still config i s (command.Begin priority) own limits t None number reading h not is =
    subst (λ (o : Option Opened). BeginIsLast i (entry (Session i) reading (Tell number t) ∷ h) o) (sym (opens_none config i s priority number own t not)) tt
told_still config i s line own limits t None number reading h not is = tt
told_still config i s line own limits t (Some x) number reading h not is =
    open_still i (Session i) reading (Tell number t) h x (opened_after config i s line own limits t (Some x)) not (line_txn config i s line own limits t x) is

kept_still : (config : Config) (i : ℕ) (s : Mover) (line : Option Command) (t : Told) (number : ℕ) (reading : Option ℕ) (h : History) → NotBegan (Tell number t) → BeginIsLast i h s.keeps.opened →
    BeginIsLast i (entry (Session i) reading (Tell number t) ∷ h) (kept_after config (Session i) s line t).opened
kept_still config i s None t number reading h not is = keeps_still i (Session i) reading (Tell number t) h s.keeps.opened not is
kept_still config i s (Some line) t number reading h not is = told_still config i s.keeps line s.reading s.limits t s.keeps.opened number reading h not is

-- ## an entry that tells one

abbrev begin_with : ℕ → Actor → History → Option ℕ → History
begin_with x a h o = elim o [ Some at ↦ before_start a h | None ↦ begin_of x h ]

begin_is : (x : ℕ) (a : Actor) (reading : Option ℕ) (event : Event) (h : History) → begin_of x (entry a reading event ∷ h) ≡ begin_with x a h (began_by x event)
unfolding begin_of
begin_is x a reading event h = refl

began_mine : (y at : ℕ) → (if nat_eq y y then Some at else None) ≡ Some at
began_mine y at = rw (eq_refl y) refl

begin_mine : (y at number : ℕ) (a : Actor) (reading : Option ℕ) (h : History) → begin_of y (entry a reading (Tell number (told.Began y at)) ∷ h) ≡ before_start a h
begin_mine y at number a reading h = begin_is y a reading (Tell number (told.Began y at)) h ∙ ap (λ (o : Option ℕ). begin_with y a h o) (began_mine y at)

last_mine : (y at number i : ℕ) (reading : Option ℕ) (h : History) → last_begin (Session i) (entry (Session i) reading (Tell number (told.Began y at)) ∷ h) ≡ before_start (Session i) h
unfolding last_begin
last_mine y at number i reading h = rw (eq_refl i) refl

began_open : (config : Config) (i : ℕ) (s : Keeps) (line : Command) (own : Option ℕ) (limits : List TabletLimit) (y at : ℕ) (opened : Option Opened) (number : ℕ) (reading : Option ℕ) (h : History) → opened ≡ None → y ≡ txn_id i (s.serial + 1) →
    BeginIsLast i (entry (Session i) reading (Tell number (told.Began y at)) ∷ h) (opened_after config i s line own limits (told.Began y at) opened)
began_open config i s line own limits y at (Some x) number reading h none is = cc
began_open config i s (command.Begin priority) None limits y at None number reading h none is = tt
began_open config i s (command.Begin priority) (Some r) limits y at None number reading h none is =
    let e = entry (Session i) reading (Tell number (told.Began y at)) in
    ap (λ (n : ℕ). begin_of n (e ∷ h)) (sym is) ∙ (begin_mine y at number (Session i) reading h ∙ sym (last_mine y at number i reading h))
began_open config i s line own limits y at None number reading h none is = tt

kept_began : (config : Config) (i : ℕ) (s : Mover) (line : Option Command) (y at number : ℕ) (reading : Option ℕ) (h : History) → IsBeginLine line → s.keeps.opened ≡ None → y ≡ txn_id i (s.keeps.serial + 1) →
    BeginIsLast i (entry (Session i) reading (Tell number (told.Began y at)) ∷ h) (kept_after config (Session i) s line (told.Began y at)).opened
kept_began config i s None y at number reading h of none is = absurd of
kept_began config i s (Some line) y at number reading h of none is = began_open config i s.keeps line s.reading s.limits y at s.keeps.opened number reading h none is

-- ## one more entry

own_event : (config : Config) (i : ℕ) (reading : Option ℕ) (event : Event) (h : History) → Run config (entry (Session i) reading event ∷ h) → BeginIsLast i h (mover_at config (Session i) h).keeps.opened →
    BeginIsLast i (entry (Session i) reading event ∷ h) (mover_after config (Session i) (mover_at config (Session i) h) reading event).keeps.opened
own_event config i reading (Tell number (told.Began y at)) h run is =
    let e = entry (Session i) reading (Tell number (told.Began y at)) in
    let up : IsToldAt config h (Session i) (Tell number (told.Began y at)) = reads_up config (e ∷ h) h e run (inl (refl, refl)) in
    let s = mover_at config (Session i) h in
    kept_began config i s s.line y at number reading h up.1 up.2 up.3
own_event config i reading (Tell number t) h run is = let s = mover_at config (Session i) h in kept_still config i s s.line t number reading h tt is
own_event config i reading event h run is = keeps_still i (Session i) reading event h (mover_at config (Session i) h).keeps.opened tt is

last_other : (m a : Actor) (reading : Option ℕ) (event : Event) (h : History) → same_actor a m ≡ false → last_begin m (entry a reading event ∷ h) ≡ last_begin m h
unfolding last_begin
last_other m a reading event h other = rw other refl

begin_other : (x y at number : ℕ) (a : Actor) (reading : Option ℕ) (h : History) → (y ≡ x → ⊥) → begin_of x (entry a reading (Tell number (told.Began y at)) ∷ h) ≡ begin_of x h
begin_other x y at number a reading h other = begin_is x a reading (Tell number (told.Began y at)) h ∙ ap (λ (o : Option ℕ). begin_with x a h o) (began_not x y at other)

other_event : (config : Config) (i : ℕ) (a : Actor) (reading : Option ℕ) (event : Event) (h : History) (x : Opened) → Run config (entry a reading event ∷ h) → same_actor a (Session i) ≡ false → a ≢ Session i → owner_of x.meta.txn ≡ i → BeginIsLast i h (Some x) →
    BeginIsLast i (entry a reading event ∷ h) (Some x)
other_event config i a reading (Tell number (told.Began y at)) h x run differs other owner is =
    let e = entry a reading (Tell number (told.Began y at)) in
    let up : IsToldAt config h a (Tell number (told.Began y at)) = reads_up config (e ∷ h) h e run (inl (refl, refl)) in
    let j = session_of a in
    let mine : owner_of y ≡ j = ap owner_of up.3 ∙ id_owner j ((mover_at config a h).keeps.serial + 1) up.4 in
    elim (eq_cases y x.meta.txn) [
      | inl same ↦ absurd (other (up.0 ∙ ap Session (sym mine ∙ (ap owner_of same.1 ∙ owner))))
      | inr differ ↦ begin_other x.meta.txn y at number a reading h differ.1 ∙ (is ∙ sym (last_other (Session i) a reading (Tell number (told.Began y at)) h differs))
    ]
other_event config i a reading event h x run differs other owner is = open_still i a reading event h x (Some x) tt refl is

other_opened : (config : Config) (i serial : ℕ) (e : Entry) (h : History) (o : Option Opened) → Run config (e ∷ h) → same_actor e.actor (Session i) ≡ false → e.actor ≢ Session i → OpenedRead config h i serial o → BeginIsLast i h o → BeginIsLast i (e ∷ h) o
other_opened config i serial e h None run differs other ok is = tt
other_opened config i serial e h (Some x) run differs other ok is = other_event config i e.actor e.reading e.event h x run differs other ok.owner is

pub begins_last : (config : Config) (h : History) (i : ℕ) → Run config h → BeginIsLast i h (mover_at config (Session i) h).keeps.opened
unfolding Steps mover_at
begins_last config [] i run = tt
begins_last config (e ∷ h) i run =
    let before : Run config h = (run.0, run.1.0) in
    let older : BeginIsLast i h (mover_at config (Session i) h).keeps.opened = begins_last config h i before in
    elim (same_cases e.actor (Session i)) [
      | inl s ↦ rw s.0 (own_step s.1 older)
      | inr s ↦ rw s.0 (other_opened config i (mover_at config (Session i) h).keeps.serial e h (mover_at config (Session i) h).keeps.opened run s.0 s.1 (sessions_read config h before i).opened older)
    ]
  where
    own_step : e.actor ≡ Session i → BeginIsLast i h (mover_at config (Session i) h).keeps.opened → BeginIsLast i (e ∷ h) (mover_after config (Session i) (mover_at config (Session i) h) e.reading e.event).keeps.opened
    own_step is older =
        subst (λ (a : Actor). BeginIsLast i (entry a e.reading e.event ∷ h) (mover_after config (Session i) (mover_at config (Session i) h) e.reading e.event).keeps.opened) (sym is)
        (own_event config i e.reading e.event h (subst (λ (a : Actor). Run config (entry a e.reading e.event ∷ h)) is run) older)
