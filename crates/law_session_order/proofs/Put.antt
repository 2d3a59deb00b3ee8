-- A put or a del: nothing was to be logged of a commit or an abort when it writes, and an accepted write is covered.
use Rattle.std.proofs.Common.{◌≡◌, ℕ, ◌≤◌, max, Bool, true, false, ◌&&◌, not, List, Option, Some, None, refl, sym, ◌∙◌, ap, subst, arith}
use Rattle.txn_data.specs.declared.actor.Actor.{Actor}
use Rattle.txn_data.specs.declared.actor.Actor.TheVariants.{Status, Session}
use Rattle.txn_data.specs.declared.append.Append.{Append}
use Rattle.txn_data.specs.declared.command.Command.{Command}
use Rattle.txn_data.specs.declared.config.Config.{Config}
use Rattle.txn_data.specs.declared.op.Op.{Op}
use Rattle.txn_data.specs.declared.place.Place.{Place}
use Rattle.txn_data.specs.declared.tablet_limit.TabletLimit.{TabletLimit}
use Rattle.txn_data.specs.declared.request.Request.TheVariants as request
use Rattle.txn_data.specs.declared.reply.Reply.{Reply}
use Rattle.txn_data.specs.declared.reply.Reply.TheVariants as reply
use Rattle.txn_data.specs.declared.told.Told.{Told}
use Rattle.txn_data.specs.declared.told.Told.TheVariants as told
use Rattle.txn_data.specs.declared.told_refusal.ToldRefusal.{ToldRefusal}
use Rattle.txn_data.specs.declared.told_refusal.ToldRefusal.TheVariants as told_refusal
use Rattle.txn_data.specs.declared.event.Event.TheVariants.{Serve}
use Rattle.txn_types.specs.History.{History, own}
use Rattle.txn_types.specs.Plan.{IsCluster}
use Rattle.txn_types.specs.TxnProgram.{refused, lost, abort_after, write_refused}
use Rattle.txn_types.specs.Session.{Keeps, Opened, after_write, opened_after, uses_serial, serial_after, time_taken}
use Rattle.txn_types.specs.Run.{limits_after, may_lose_after, is_settling}
use Rattle.law_messages.proofs.Rules.{Stage, kept, no_memory, told_memory, Later, entry}
use Rattle.law_messages.proofs.Safe.{Ending, Loses, Safe}
use Rattle.law_owners.proofs.Homed.{NotOpen}
use Rattle.law_owners.proofs.Serials.{serial_is, next_serial}
use Rattle.law_open_txns.proofs.Tables.{Ended, Closed, Broken, Standing, abort_ended}
use Rattle.law_open_txns.proofs.Open.{number_of, OpenOk, OpenedOk, TouchesTo, TouchesUpTo, IdleOk, rules, open_up, touches_more, idle_later}
use Rattle.law_open_txns.specs.Laws.{ClosesAbort}

-- what the command is about: the session's line, that opened it, and what its told answers leave
pub record Line (config : Config) (i : ℕ) (s : Keeps) (x : Opened) (line : Command) (place : Place) (op : Op) : Type 0 where
  pub opened : s.opened ≡ Some x
  pub free : x.in_doubt ≡ false
  pub plain : uses_serial line ≡ false
  pub after : (reading : Option ℕ) (limits : List TabletLimit) (t : Told) → opened_after config i s line reading limits t (Some x) ≡ after_write x place op t

abbrev pub stage : Keeps → Command → List TabletLimit → Bool → Stage
stage s line limits lose = record { keeps = s; line = Some line; reading = None; limits = limits; may_lose = lose }

-- ## what is kept

-- where the transaction is left as it is
abbrev pub Leaves : Opened → Place → Op → Told → Type 0
Leaves x place op t = after_write x place op t ≡ Some x

-- where it is closed
abbrev pub Shuts : Opened → Place → Op → Told → Type 0
Shuts x place op t = after_write x place op t ≡ None

pub kept_idle : (config : Config) (i : ℕ) (s : Keeps) (x : Opened) (line : Command) (place : Place) (op : Op) (limits : List TabletLimit) (lose : Bool) (t : Told) (g : History) → Line config i s x line place op → NotOpen t →
    OpenedOk config g (Session i) (max s.last (time_taken t)) s.serial (after_write x place op t) → TouchesUpTo (Session i) s.serial g → IdleOk config g (Session i) (kept config (Session i) (stage s line limits lose) t)
kept_idle config i s x line place op limits lose t g about ok opened touches =
    let serial : serial_after s line t ≡ s.serial = serial_is s line t ok ∙ ap (λ (b : Bool). next_serial b s.serial) about.plain in
    let is : opened_after config i s line None limits t s.opened ≡ after_write x place op t = ap (λ (o : Option Opened). opened_after config i s line None limits t o) about.opened ∙ about.after None limits t in
    record {
      opened = subst (λ (n : ℕ). OpenedOk config g (Session i) (max s.last (time_taken t)) n (opened_after config i s line None limits t s.opened)) (sym serial)
          (subst (λ (o : Option Opened). OpenedOk config g (Session i) (max s.last (time_taken t)) s.serial o) (sym is) opened);
      touches = subst (λ (n : ℕ). TouchesUpTo (Session i) n g) (sym serial) touches;
    }

pub open_of : (config : Config) (i : ℕ) (s : Keeps) (x : Opened) (g : History) → s.opened ≡ Some x → IdleOk config g (Session i) s → OpenOk config g (Session i) s.last s.serial x
open_of config i s x g is idle = subst (λ (o : Option Opened). OpenedOk config g (Session i) s.last s.serial o) is idle.opened

left_idle : (config : Config) (i : ℕ) (s : Keeps) (x : Opened) (line : Command) (place : Place) (op : Op) (limits : List TabletLimit) (lose : Bool) (t : Told) (g : History) → Line config i s x line place op → NotOpen t → Leaves x place op t →
    IdleOk config g (Session i) s → IdleOk config g (Session i) (kept config (Session i) (stage s line limits lose) t)
left_idle config i s x line place op limits lose t g about ok leaves idle =
    kept_idle config i s x line place op limits lose t g about ok
    (subst (λ (o : Option Opened). OpenedOk config g (Session i) (max s.last (time_taken t)) s.serial o) (sym leaves)
    (open_up config g (Session i) s.last (max s.last (time_taken t)) s.serial s.serial x (omega arith) (omega arith) (open_of config i s x g about.opened idle)))
    idle.touches

shut_idle : (config : Config) (i : ℕ) (s : Keeps) (x : Opened) (line : Command) (place : Place) (op : Op) (limits : List TabletLimit) (lose : Bool) (t : Told) (g : History) → Line config i s x line place op → NotOpen t → Shuts x place op t →
    TouchesUpTo (Session i) s.serial g → IdleOk config g (Session i) (kept config (Session i) (stage s line limits lose) t)
shut_idle config i s x line place op limits lose t g about ok shuts touches =
    kept_idle config i s x line place op limits lose t g about ok
    (subst (λ (o : Option Opened). OpenedOk config g (Session i) (max s.last (time_taken t)) s.serial o) (sym shuts) tt) touches

-- touches alone last
pub touches_later : (config : Config) → IsCluster config → (i n : ℕ) (h g : History) → Later (rules config) config (Session i) h g → TouchesUpTo (Session i) n h → TouchesUpTo (Session i) n g
touches_later config cluster i n h g later touches =
    (idle_later config cluster (Session i) (record { last = 0; serial = n; opened = None }) h g later (record { opened = tt; touches = touches })).touches

-- a mover that may not be told out of memory any more
and_not : (lose b : Bool) → b ≡ true → (lose && not b) ≡ true → ⊥
and_not true true is lost = cc
and_not true false is lost = cc
and_not false b is lost = cc

pub settled : (lose : Bool) (r : Reply) → is_settling r ≡ true → (lose && not (is_settling r)) ≡ true → ⊥
settled lose r is lost = and_not lose (is_settling r) is lost

-- ## telling

ends_left : (config : Config) → IsCluster config → (i : ℕ) (s : Keeps) (x : Opened) (line : Command) (place : Place) (op : Op) (limits : List TabletLimit) (lose : Bool) (z h : History) (t : Told) → Line config i s x line place op →
    NotOpen t → Leaves x place op t → IdleOk config h (Session i) s → Ending (rules config) config (Session i) z (stage s line limits lose) h t
ends_left config cluster i s x line place op limits lose z h t about ok leaves idle = λ g later.
    (tt, left_idle config i s x line place op limits lose t g about ok leaves (idle_later config cluster (Session i) s h g later idle))

ends_shut : (config : Config) → IsCluster config → (i : ℕ) (s : Keeps) (x : Opened) (line : Command) (place : Place) (op : Op) (limits : List TabletLimit) (lose : Bool) (z h : History) (t : Told) → Line config i s x line place op →
    NotOpen t → Shuts x place op t → TouchesUpTo (Session i) s.serial h → Ending (rules config) config (Session i) z (stage s line limits lose) h t
ends_shut config cluster i s x line place op limits lose z h t about ok shuts touches = λ g later.
    (tt, shut_idle config i s x line place op limits lose t g about ok shuts (touches_later config cluster i s.serial h g later touches))

pub loses_left : (config : Config) → IsCluster config → (i : ℕ) (s : Keeps) (x : Opened) (line : Command) (place : Place) (op : Op) (limits : List TabletLimit) (lose : Bool) (z h : History) → Line config i s x line place op →
    IdleOk config h (Session i) s → Loses (rules config) config (Session i) z (stage s line limits lose) h
loses_left config cluster i s x line place op limits lose z h about idle = λ may. ends_left config cluster i s x line place op limits lose z h told_memory about tt refl idle

-- ## the abort of a put that ends its transaction

abbrev pub IsShutting : ToldRefusal → Type 0
IsShutting (told_refusal.Conflict other) = Unit {0}
IsShutting (told_refusal.Overlap at) = Unit {0}
IsShutting (told_refusal.LogFault actor) = Unit {0}
IsShutting why = ⊥

shutting : (x : Opened) (place : Place) (op : Op) (why : ToldRefusal) → IsShutting why → Shuts x place op (told.Refused why) × NotOpen (told.Refused why)
shutting x place op (told_refusal.Conflict other) is = (refl, tt)
shutting x place op (told_refusal.Overlap at) is = (refl, tt)
shutting x place op (told_refusal.LogFault actor) is = (refl, tt)
shutting x place op why is = absurd is

abort_settles : (r : Reply) (append : Append) → Ended ClosesAbort r append → is_settling r ≡ true
abort_settles r append (Closed c) = closing r c
  where
    closing : (r : Reply) → ClosesAbort r → is_settling r ≡ true
    closing (reply.Committed c) is = refl
    closing reply.Ended is = refl
    closing r is = absurd is
abort_settles r append (Broken is) = ap is_settling is
abort_settles r append (Standing why is logs) = ap is_settling is

shut_done : (config : Config) → IsCluster config → (i : ℕ) (s : Keeps) (x : Opened) (line : Command) (place : Place) (op : Op) (limits : List TabletLimit) (lose : Bool) (z h : History) (why : ToldRefusal) → Line config i s x line place op →
    IsShutting why → (lose ≡ true → ⊥) → TouchesUpTo (Session i) s.serial h → Safe (rules config) config (Session i) z (stage s line limits lose) h (refused why)
shut_done config cluster i s x line place op limits lose z h why about is never touches =
    let w = shutting x place op why is in
    (λ may. absurd (never may), ends_shut config cluster i s x line place op limits lose z h (told.Refused why) about w.1 w.0 touches)

touch_abort : (i n x : ℕ) → number_of x ≤ n → (from : Actor) (r : Reply) (time : Option ℕ) (append : Append) → TouchesTo i n (Serve from (request.Abort x) r time append)
touch_abort i n x le from r time append = λ own. le

-- z is the history before the command; the transaction may be told lost only where it is as it was
pub abort_safe : (config : Config) → IsCluster config → (i : ℕ) (s : Keeps) (x : Opened) (line : Command) (place : Place) (op : Op) (limits : List TabletLimit) (lose : Bool) (z h : History) (why : ToldRefusal) → Line config i s x line place op →
    IsShutting why → Loses (rules config) config (Session i) z (stage s line limits lose) h → number_of x.meta.txn ≤ s.serial → TouchesUpTo (Session i) s.serial h →
    Safe (rules config) config (Session i) z (stage s line limits lose) h (abort_after x.meta why)
abort_safe config cluster i s x line place op limits lose z h why about is loses number touches = (
  loses,
  λ g later steps base.
      let there = touches_later config cluster i s.serial h g later touches in (
        tt,
        λ reading r time append allowed after.
            shut_done config cluster i s x line place op (limits_after limits (Status x.meta.status) r) (lose && may_lose_after (Session i) r) z _ why about is
            (settled lose r (abort_settles r append (abort_ended config.lease_us (Status x.meta.status) (own (Status x.meta.status) g) reading x.meta.txn r time append allowed.2)))
            (touches_more (Session i) s.serial (entry (Status x.meta.status) reading (Serve (Session i) (request.Abort x.meta.txn) r time append)) g (λ j same own. number) there),
        λ reading k same after. cc,
        shut_done config cluster i s x line place op (limits_after limits (Status x.meta.status) no_memory) (lose && may_lose_after (Session i) no_memory) z g why about is (settled lose no_memory refl) there,
      ),
)

-- ## a refusal while nothing was written

pub stop_safe : (config : Config) → IsCluster config → (i : ℕ) (s : Keeps) (x : Opened) (line : Command) (place : Place) (op : Op) (limits : List TabletLimit) (lose : Bool) (z h : History) (why : ToldRefusal) → Line config i s x line place op →
    NotOpen (told.Refused why) → IdleOk config h (Session i) s → Safe (rules config) config (Session i) z (stage s line limits lose) h (write_refused x.meta why)
stop_safe config cluster i s x line place op limits lose z h (told_refusal.Conflict other) about ok idle =
    abort_safe config cluster i s x line place op limits lose z h (told_refusal.Conflict other) about tt (loses_left config cluster i s x line place op limits lose z h about idle)
    (open_of config i s x h about.opened idle).number idle.touches
stop_safe config cluster i s x line place op limits lose z h (told_refusal.Overlap at) about ok idle =
    abort_safe config cluster i s x line place op limits lose z h (told_refusal.Overlap at) about tt (loses_left config cluster i s x line place op limits lose z h about idle)
    (open_of config i s x h about.opened idle).number idle.touches
stop_safe config cluster i s x line place op limits lose z h (told_refusal.LogFault actor) about ok idle =
    abort_safe config cluster i s x line place op limits lose z h (told_refusal.LogFault actor) about tt (loses_left config cluster i s x line place op limits lose z h about idle)
    (open_of config i s x h about.opened idle).number idle.touches
stop_safe config cluster i s x line place op limits lose z h why about ok idle = (
  loses_left config cluster i s x line place op limits lose z h about idle,
  ends_left config cluster i s x line place op limits lose z h (told.Refused why) about ok refl idle,
)

pub lost_safe : (config : Config) → IsCluster config → (i : ℕ) (s : Keeps) (x : Opened) (line : Command) (place : Place) (op : Op) (limits : List TabletLimit) (lose : Bool) (z h : History) → Line config i s x line place op →
    IdleOk config h (Session i) s → Safe (rules config) config (Session i) z (stage s line limits lose) h lost
lost_safe config cluster i s x line place op limits lose z h about idle = (
  loses_left config cluster i s x line place op limits lose z h about idle,
  ends_left config cluster i s x line place op limits lose z h told_memory about tt refl idle,
)
