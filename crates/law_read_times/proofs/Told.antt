-- What a session is told of its transaction's read time, and at what time its writes read.
use Rattle.std.proofs.Common.{◌≡◌, ℕ, ◌+◌, ◌^◌, ◌<◌, ◌≤◌, max, Bool, true, false, ◌||◌, List, [], ◌∷◌, Option, Some, None, Result, Ok, Err, length, refl, sym, ◌∙◌, ap, subst, inl, inr, if◌then◌else◌}
use Rattle.hybrid_time.specs.Time.{least_time, limit_time}
use Rattle.hybrid_time.specs.declared.time_refusal.TimeRefusal.{TimeRefusal}
use Rattle.txn_data.specs.declared.actor.Actor.{Actor}
use Rattle.txn_data.specs.declared.actor.Actor.TheVariants.{Tablet, Status, Session, Applier}
use Rattle.txn_data.specs.declared.command.Command.{Command}
use Rattle.txn_data.specs.declared.command.Command.TheVariants as command
use Rattle.txn_data.specs.declared.config.Config.{Config}
use Rattle.txn_data.specs.declared.fate.Fate.TheVariants as fate
use Rattle.txn_data.specs.declared.fate_of.FateOf.{FateOf}
use Rattle.txn_data.specs.declared.found.Found.{Found}
use Rattle.txn_data.specs.declared.meta.Meta.{Meta}
use Rattle.txn_data.specs.declared.op.Op.{Op}
use Rattle.txn_data.specs.declared.op.Op.TheVariants as op
use Rattle.txn_data.specs.declared.place.Place.{Place}
use Rattle.txn_data.specs.declared.read_end.ReadEnd.{ReadEnd}
use Rattle.txn_data.specs.declared.read_kind.ReadKind.{ReadKind}
use Rattle.txn_data.specs.declared.read_kind.ReadKind.TheVariants.{Get, Scan}
use Rattle.txn_data.specs.declared.read_what.ReadWhat.{ReadWhat}
use Rattle.txn_data.specs.declared.read_what.ReadWhat.TheVariants as what
use Rattle.txn_data.specs.declared.written.Written.{Written}
use Rattle.txn_data.specs.declared.request.Request.{Request}
use Rattle.txn_data.specs.declared.request.Request.TheVariants as request
use Rattle.txn_data.specs.declared.reply.Reply.TheVariants as reply
use Rattle.txn_data.specs.declared.told.Told.{Told}
use Rattle.txn_data.specs.declared.told.Told.TheVariants as told
use Rattle.txn_data.specs.declared.told_refusal.ToldRefusal.{ToldRefusal}
use Rattle.txn_data.specs.declared.told_refusal.ToldRefusal.TheVariants as told_refusal
use Rattle.txn_data.specs.declared.txn_step.TxnStep.TheVariants as step
use Rattle.txn_data.specs.declared.event.Event.TheVariants.{Start, Serve, Restarted}
use Rattle.txn_data.specs.declared.entry.Entry.{Entry}
use Rattle.txn_types.specs.History.{History, own}
use Rattle.txn_types.specs.Program.{Program, Done, Asks, Reads, refusal_told}
use Rattle.txn_types.specs.TxnProgram.{refused, write_refused, resolve_all, txn_program}
use Rattle.txn_types.specs.ReadProgram.{read_program}
use Rattle.txn_types.specs.PassProgram.{Counts, apply_then, clean_then, pass_over, pass_program}
use Rattle.txn_types.specs.Session.{Keeps, Opened, next_meta, timed_then, begin_program, read_at, read_inside, read_told, writes_of, has_writes, read_command, write_command, commit_command, abort_command, if_closed, restart_program, command_program}
use Rattle.txn_types.specs.Run.{Mover, MayStart, program_of, mover_at}
use Rattle.law_messages.proofs.Rules.{Rules, Stage, hears, with_own, no_memory, entry, lasts, started}
use Rattle.law_messages.proofs.Safe.{Safe, Keeping}
use Rattle.law_owners.proofs.Serials.{serial_low}
use Rattle.law_owners.proofs.Commands.{few}
use Rattle.law_read_times.specs.Laws.{IsReadLine, IsUp, IsTold, WasOpen}
use Rattle.law_read_times.proofs.Above.{fits_served, fits_restarted, fits_memory}
use Rattle.law_read_times.proofs.Holds.{Holds, then_holds, NoWrite, read_holds}

abbrev pub IsGood : Config → History → Actor → Request → Type 0
IsGood config h m (request.Write meta number path op read seen fates) = WasOpen config h m meta.txn read
IsGood config h m asked = Unit {0}

abbrev pub rules : Config → Rules
rules config = record {
  Base = λ h. Unit {0};
  Good = λ h m a asked. IsGood config h m asked;
  Idle = λ h m keeps. Unit {0};
  Ends = λ z m h c t. IsTold m c.keeps.serial c.keeps.opened c.line t;
}

-- it writes for this transaction at this time alone
abbrev WritesAs : ℕ → ℕ → Request → Type 0
WritesAs x r (request.Write meta number path op read seen fates) = (meta.txn ≡ x) × (read ≡ r)
WritesAs x r asked = Unit {0}

none_good : (config : Config) (h : History) (m : Actor) (asked : Request) → NoWrite asked → IsGood config h m asked
none_good config h m (request.Write meta number path op read seen fates) none = absurd none
none_good config h m asked none = tt

as_good : (config : Config) (h : History) (m : Actor) (x r : ℕ) (asked : Request) → WasOpen config h m x r → WritesAs x r asked → IsGood config h m asked
as_good config h m x r (request.Write meta number path op read seen fates) was same = (was.0, was.1, was.2, (was.3.0, was.3.1, was.3.2 ∙ sym same.0, was.3.3 ∙ sym same.1))
as_good config h m x r asked was same = tt

-- a program over what stays
holds_safe : (config : Config) (m : Actor) (z : History) (K : History → Type 0) (Q : Request → Type 0) → ((e : Entry) (h : History) → K h → K (e ∷ h)) → ((h : History) (asked : Request) → K h → Q asked → IsGood config h m asked) →
    (p : Program Told) (c : Stage) (h : History) → Holds Q (IsTold m c.keeps.serial c.keeps.opened c.line) p → K h → Safe (rules config) config m z c h p
holds_safe config m z K Q grows good (Done t) c h holds k = (λ may g later. (tt, tt), λ g later. (holds, tt))
holds_safe config m z K Q grows good (Asks to asked next) c h holds k = (
  λ may g later. (tt, tt),
  λ g later steps base.
      let now = lasts (rules config) config m K (λ h e base fine other k. grows e h k) h g later k in (
        good g asked now holds.0,
        λ reading r time append allowed after. holds_safe config m z K Q grows good (next r) (hears m c to r) (entry to reading (Serve m asked r time append) ∷ g)
            (holds.1 r (fits_served config.lease_us to (own to g) reading asked r time append allowed.2)) (grows (entry to reading (Serve m asked r time append)) g now),
        λ reading k is after. holds_safe config m z K Q grows good (next (reply.Restarted k)) (hears m c to (reply.Restarted k)) (entry to reading (Restarted m k) ∷ g)
            (holds.1 (reply.Restarted k) (fits_restarted asked k)) (grows (entry to reading (Restarted m k)) g now),
        holds_safe config m z K Q grows good (next no_memory) (hears m c to no_memory) g (holds.1 no_memory (fits_memory asked)) now,
      ),
)
holds_safe config m z K Q grows good (Reads given) c h holds k = (
  λ may g later. (tt, tt),
  λ reading g later recorded. (
    holds_safe config m z K Q grows good (given reading) (with_own c (Some reading)) g (holds reading) (lasts (rules config) config m K (λ h e base fine other k. grows e h k) h g later k),
    λ t is f on. (subst (λ (p : Program Told). Holds Q (IsTold m c.keeps.serial c.keeps.opened c.line) p) is (holds reading), tt),
  ),
)

none_safe : (config : Config) (m : Actor) (z : History) (p : Program Told) (c : Stage) (h : History) → Holds NoWrite (IsTold m c.keeps.serial c.keeps.opened c.line) p → Safe (rules config) config m z c h p
none_safe config m z p c h holds = holds_safe config m z (λ h. Unit {0}) NoWrite (λ e h k. tt) (λ h asked k none. none_good config h m asked none) p c h holds tt

-- ## reads

told_read : (i : Actor) (serial : ℕ) (opened : Option Opened) (line : Option Command) (kind : ReadKind) (ws : List Written) (places : List Place) (end : ReadEnd) (w : ReadWhat) → end.what ≡ w → IsReadLine line → IsUp opened end.t → IsTold i serial opened line (read_told kind ws places end)
told_read i serial opened line kind ws places end (what.Values rows) is read up = rw is (read, up)
told_read i serial opened line kind ws places end (what.Restart at path) is read up = rw is tt
told_read i serial opened line kind ws places end (what.Refused why) is read up = rw is tt

timed_holds : (i : Actor) (serial reading j : ℕ) (opened : Option Opened) (line : Option Command) (next : ℕ → Program Told) (time : Result ℕ TimeRefusal) → ((now : ℕ) → Holds NoWrite (IsTold i serial opened line) (next now)) → Holds NoWrite (IsTold i serial opened line) (timed_then j reading next time)
timed_holds i serial reading j opened line next (Ok now) goes = goes now
timed_holds i serial reading j opened line next (Err why) goes = tt

read_line : (config : Config) (i : ℕ) (s : Keeps) (kind : ReadKind) (strict : Bool) (places : List Place) (line : Option Command) (opened : Option Opened) → IsReadLine line → Holds NoWrite (IsTold (Session i) s.serial opened line) (read_command config i s kind strict places opened)
read_line config i s kind strict places line None is = λ reading. timed_holds (Session i) s.serial reading i None line (read_at config kind strict places reading) (least_time s.last 0 reading) (λ now.
    then_holds NoWrite (λ (end : ReadEnd). now ≤ end.t) (IsTold (Session i) s.serial None line) (read_program None kind places now (max now (limit_time reading config.skew_us)) strict []) _
    (read_holds None kind places now (max now (limit_time reading config.skew_us)) strict []) (λ end le. told_read (Session i) s.serial None line kind [] places end end.what refl is tt))
read_line config i s kind strict places line (Some x) is = doubt_line x.in_doubt
  where
    doubt_line : (b : Bool) → Holds NoWrite (IsTold (Session i) s.serial (Some x) line) (if b then refused told_refusal.InDoubt else read_inside x kind strict places)
    doubt_line true = tt
    doubt_line false = then_holds NoWrite (λ (end : ReadEnd). x.r ≤ end.t) (IsTold (Session i) s.serial (Some x) line) (read_program (Some x.meta.txn) kind places x.r x.g (strict || has_writes x.writes || x.has_read) x.limits) _
        (read_holds (Some x.meta.txn) kind places x.r x.g (strict || has_writes x.writes || x.has_read) x.limits) (λ end le. told_read (Session i) s.serial (Some x) line kind (writes_of x.writes) places end end.what refl is le)

-- ## the other commands

begin_line : (config : Config) (i : ℕ) (s : Keeps) (priority : ℕ) (opened : Option Opened) → s.serial + 1 < 2 ^ 64 → Holds NoWrite (IsTold (Session i) s.serial opened (Some (command.Begin priority))) (if_closed opened (begin_program config i s priority))
begin_line config i s priority (Some x) low = tt
begin_line config i s priority None low = λ reading. timed_holds (Session i) s.serial reading i None (Some (command.Begin priority)) (λ now. txn_program (step.Begin (next_meta config i s priority) now)) (least_time s.last 0 reading)
    (λ now. (tt, elim [ reply.Begun ↦ λ fits. (refl, tt, refl, refl, low) | reply.Refused why ↦ λ fits. tt | _ ↦ λ fits. tt ]))

commit_line : (i : ℕ) (s : Keeps) (line : Option Command) (opened : Option Opened) → Holds NoWrite (IsTold (Session i) s.serial opened line) (commit_command s opened)
commit_line i s line None = tt
commit_line i s line (Some x) = (tt, elim [ reply.Committed at ↦ λ fits. tt | reply.AbortedBy by ↦ λ fits. tt | reply.Gone ↦ λ fits. tt | reply.Refused why ↦ λ fits. tt | _ ↦ λ fits. tt ])

abort_line : (i : Actor) (serial : ℕ) (line : Option Command) (opened : Option Opened) → Holds NoWrite (IsTold i serial opened line) (abort_command opened)
abort_line i serial line None = tt
abort_line i serial line (Some x) = (tt, elim [ reply.Ended ↦ λ fits. tt | reply.Committed at ↦ λ fits. tt | reply.Refused why ↦ λ fits. tt | _ ↦ λ fits. tt ])

restart_line : (i : Actor) (serial : ℕ) (opened : Option Opened) (line : Option Command) (a : Actor) → Holds NoWrite (IsTold i serial opened line) (restart_program a)
restart_line i serial opened line a = (tt, elim [ reply.Restarted k ↦ λ fits. tt | reply.Refused why ↦ λ fits. tt | _ ↦ λ fits. tt ])

-- ## passes

apply_holds : (i : Actor) (serial : ℕ) (opened : Option Opened) (line : Option Command) (k : ℕ) (f : Found) (c : ℕ) (next : Program Told) → Holds NoWrite (IsTold i serial opened line) next → Holds NoWrite (IsTold i serial opened line) (apply_then k f c next)
apply_holds i serial opened line k f c next goes = (
  tt,
  elim [
    | reply.AppliedHere ↦ λ fits. (tt, elim [ reply.Noted ↦ λ fits. goes | reply.Refused why ↦ λ fits. tt | _ ↦ λ fits. tt ])
    | reply.Refused why ↦ λ fits. tt
    | _ ↦ λ fits. tt
  ],
)

clean_holds : (i : Actor) (serial : ℕ) (opened : Option Opened) (line : Option Command) (k : ℕ) (f : Found) (next : Program Told) → Holds NoWrite (IsTold i serial opened line) next → Holds NoWrite (IsTold i serial opened line) (clean_then k f next)
clean_holds i serial opened line k f next goes = (tt, elim [ reply.Cleaned ↦ λ fits. goes | reply.Refused why ↦ λ fits. tt | _ ↦ λ fits. tt ])

over_holds : (i : Actor) (serial : ℕ) (opened : Option Opened) (line : Option Command) (k : ℕ) (n : Counts) (fs : List Found) → Holds NoWrite (IsTold i serial opened line) (pass_over k n fs)
unfolding pass_over
over_holds i serial opened line k n [] = tt
over_holds i serial opened line k n (f ∷ fs) = (
  tt,
  elim [
    | reply.FateIs fate.Pending ↦ λ fits. over_holds i serial opened line k (record n { left = n.left + 1 }) fs
    | reply.FateIs (fate.Committed c) ↦ λ fits. apply_holds i serial opened line k f c _ (over_holds i serial opened line k (record n { applied = n.applied + 1 }) fs)
    | reply.FateIs fate.Aborted ↦ λ fits. clean_holds i serial opened line k f _ (over_holds i serial opened line k (record n { cleaned = n.cleaned + 1 }) fs)
    | reply.FateIs fate.Absent ↦ λ fits. clean_holds i serial opened line k f _ (over_holds i serial opened line k (record n { cleaned = n.cleaned + 1 }) fs)
    | reply.Refused why ↦ λ fits. tt
    | _ ↦ λ fits. tt
  ],
)

pass_holds : (i : Actor) (serial : ℕ) (opened : Option Opened) (line : Option Command) (k : ℕ) → Holds NoWrite (IsTold i serial opened line) (pass_program k)
pass_holds i serial opened line k = (tt, elim [ reply.Intents found ↦ λ fits. over_holds i serial opened line k _ found | reply.Refused why ↦ λ fits. tt | _ ↦ λ fits. tt ])

-- ## writes

resolve_holds : (Q : Request → Type 0) (T : Told → Type 0) (meta : Meta) (fs : List Found) (fates : List FateOf) (stop : ToldRefusal → Program Told) (next : List FateOf → Program Told) → ((y by priority : ℕ) → Q (request.Resolve y by priority)) →
    T (told.Refused told_refusal.Memory) → ((why : ToldRefusal) → Holds Q T (stop why)) → ((found : List FateOf) → Holds Q T (next found)) → Holds Q T (resolve_all meta fs fates stop next)
unfolding resolve_all
resolve_holds Q T meta [] fates stop next of lost_told stops goes = goes fates
resolve_holds Q T meta (f ∷ fs) fates stop next of lost_told stops goes = (
  of f.txn meta.txn meta.priority,
  elim [
    | reply.FateIs fate.Pending ↦ λ fits. stops (told_refusal.Conflict f.txn)
    | reply.FateIs settled ↦ λ fits. resolve_holds Q T meta fs _ stop next of lost_told stops goes
    | reply.Refused why ↦ λ fits. stops (refusal_told (Status f.status) why)
    | _ ↦ λ fits. lost_told
  ],
)

stop_holds : (x r : ℕ) (i : Actor) (serial : ℕ) (opened : Option Opened) (line : Option Command) (meta : Meta) (why : ToldRefusal) → Holds (WritesAs x r) (IsTold i serial opened line) (write_refused meta why)
stop_holds x r i serial opened line meta (told_refusal.Conflict other) = (tt, λ r fits. tt)
stop_holds x r i serial opened line meta (told_refusal.Overlap at) = (tt, λ r fits. tt)
stop_holds x r i serial opened line meta (told_refusal.LogFault actor) = (tt, λ r fits. tt)
stop_holds x r i serial opened line meta why = tt

write_holds : (i : Actor) (serial : ℕ) (opened : Option Opened) (line : Option Command) (meta : Meta) (number : ℕ) (place : Place) (o : Op) (read seen : ℕ) → Holds (WritesAs meta.txn read) (IsTold i serial opened line) (txn_program (step.Write meta number place o read seen))
write_holds i serial opened line meta number place o read seen = (
  tt,
  elim [
    | reply.Others found ↦ λ fits. resolve_holds (WritesAs meta.txn read) (IsTold i serial opened line) meta found [] (write_refused meta) _ (λ y by priority. tt) tt (λ why. stop_holds meta.txn read i serial opened line meta why)
        (λ fates. (
          (refl, refl),
          elim [
            | reply.Written at ↦ λ fits. tt
            | reply.Refused why ↦ λ fits. stop_holds meta.txn read i serial opened line meta (refusal_told (Tablet place.tablet) why)
            | _ ↦ λ fits. tt
          ],
        ))
    | reply.Refused why ↦ λ fits. stop_holds meta.txn read i serial opened line meta (refusal_told (Tablet place.tablet) why)
    | _ ↦ λ fits. tt
  ],
)

single_holds : (i : Actor) (serial : ℕ) (opened : Option Opened) (line : Option Command) (meta : Meta) (place : Place) (o : Op) (seen : ℕ) → Holds NoWrite (IsTold i serial opened line) (txn_program (step.Single meta place o seen))
single_holds i serial opened line meta place o seen = (
  tt,
  elim [
    | reply.Others found ↦ λ fits. resolve_holds NoWrite (IsTold i serial opened line) meta found [] refused _ (λ y by priority. tt) tt (λ why. tt)
        (λ fates. (tt, elim [ reply.SingleDone at ↦ λ fits. tt | reply.Refused why ↦ λ fits. tt | _ ↦ λ fits. tt ]))
    | reply.Refused why ↦ λ fits. tt
    | _ ↦ λ fits. tt
  ],
)

single_line : (config : Config) (i : ℕ) (s : Keeps) (line : Option Command) (place : Place) (o : Op) (priority : ℕ) (opened : Option Opened) → Holds NoWrite (IsTold (Session i) s.serial opened line) (if_closed opened (txn_program (step.Single (next_meta config i s priority) place o s.last)))
single_line config i s line place o priority (Some x) = tt
single_line config i s line place o priority None = single_holds (Session i) s.serial None line (next_meta config i s priority) place o s.last

-- ## each command

abbrev start_of : Actor → ℕ → Command → Entry
start_of m number line = entry m None (Start number line)

write_safe : (config : Config) (h : History) (i : ℕ) (s : Mover) (number : ℕ) (line : Command) (place : Place) (o : Op) (opened : Option Opened) → mover_at config (Session i) h ≡ s → s.keeps.opened ≡ opened →
    Safe (rules config) config (Session i) h (started s.keeps line) (start_of (Session i) number line ∷ h) (write_command s.keeps place o opened)
write_safe config h i s number line place o None is open_is = none_safe config (Session i) h (refused told_refusal.NoTxn) (started s.keeps line) (start_of (Session i) number line ∷ h) tt
write_safe config h i s number line place o (Some x) is open_is = doubt_safe x.in_doubt
  where
    doubt_safe : (b : Bool) → Safe (rules config) config (Session i) h (started s.keeps line) (start_of (Session i) number line ∷ h)
        (if b then refused told_refusal.InDoubt else txn_program (step.Write x.meta (length x.writes) place o x.r s.keeps.last))
    doubt_safe true = none_safe config (Session i) h (refused told_refusal.InDoubt) (started s.keeps line) (start_of (Session i) number line ∷ h) tt
    doubt_safe false = holds_safe config (Session i) h (λ g. WasOpen config g (Session i) x.meta.txn x.r) (WritesAs x.meta.txn x.r) (λ e g was. (was.0, was.1, inr was.2, was.3)) (λ g asked was same. as_good config g (Session i) x.meta.txn x.r asked was same)
        (txn_program (step.Write x.meta (length x.writes) place o x.r s.keeps.last)) (started s.keeps line) (start_of (Session i) number line ∷ h)
        (write_holds (Session i) s.keeps.serial s.keeps.opened (Some line) x.meta (length x.writes) place o x.r s.keeps.last)
        (start_of (Session i) number line, h, inl (refl, refl), (x, ap (λ (v : Mover). v.keeps.opened) is ∙ open_is, refl, refl))

session_safe : (config : Config) (h : History) (i : ℕ) (s : Mover) (number : ℕ) (line : Command) → mover_at config (Session i) h ≡ s → s.keeps.serial + 1 < 2 ^ 64 →
    Safe (rules config) config (Session i) h (started s.keeps line) (start_of (Session i) number line ∷ h) (command_program config i s.keeps line)
session_safe config h i s number (command.Put place v) is low = write_safe config h i s number (command.Put place v) place (op.Put v) s.keeps.opened is refl
session_safe config h i s number (command.Del place) is low = write_safe config h i s number (command.Del place) place op.Delete s.keeps.opened is refl
session_safe config h i s number (command.Begin priority) is low = none_safe config (Session i) h (command_program config i s.keeps (command.Begin priority)) (started s.keeps (command.Begin priority)) (start_of (Session i) number (command.Begin priority) ∷ h) (begin_line config i s.keeps priority s.keeps.opened low)
session_safe config h i s number command.Commit is low = none_safe config (Session i) h (command_program config i s.keeps command.Commit) (started s.keeps command.Commit) (start_of (Session i) number command.Commit ∷ h) (commit_line i s.keeps (Some command.Commit) s.keeps.opened)
session_safe config h i s number command.Abort is low = none_safe config (Session i) h (command_program config i s.keeps command.Abort) (started s.keeps command.Abort) (start_of (Session i) number command.Abort ∷ h) (abort_line (Session i) s.keeps.serial (Some command.Abort) s.keeps.opened)
session_safe config h i s number command.End is low = none_safe config (Session i) h (command_program config i s.keeps command.End) (started s.keeps command.End) (start_of (Session i) number command.End ∷ h) (abort_line (Session i) s.keeps.serial (Some command.End) s.keeps.opened)
session_safe config h i s number (command.Read strict places) is low = none_safe config (Session i) h (command_program config i s.keeps (command.Read strict places)) (started s.keeps (command.Read strict places)) (start_of (Session i) number (command.Read strict places) ∷ h) (read_line config i s.keeps Get strict places (Some (command.Read strict places)) s.keeps.opened tt)
session_safe config h i s number (command.Scan strict place) is low = none_safe config (Session i) h (command_program config i s.keeps (command.Scan strict place)) (started s.keeps (command.Scan strict place)) (start_of (Session i) number (command.Scan strict place) ∷ h) (read_line config i s.keeps Scan strict (place ∷ []) (Some (command.Scan strict place)) s.keeps.opened tt)
session_safe config h i s number (command.SinglePut place v priority) is low = none_safe config (Session i) h (command_program config i s.keeps (command.SinglePut place v priority)) (started s.keeps (command.SinglePut place v priority)) (start_of (Session i) number (command.SinglePut place v priority) ∷ h) (single_line config i s.keeps (Some (command.SinglePut place v priority)) place (op.Put v) priority s.keeps.opened)
session_safe config h i s number (command.SingleDel place priority) is low = none_safe config (Session i) h (command_program config i s.keeps (command.SingleDel place priority)) (started s.keeps (command.SingleDel place priority)) (start_of (Session i) number (command.SingleDel place priority) ∷ h) (single_line config i s.keeps (Some (command.SingleDel place priority)) place op.Delete priority s.keeps.opened)
session_safe config h i s number (command.Restart actor) is low = none_safe config (Session i) h (restart_program actor) (started s.keeps (command.Restart actor)) (start_of (Session i) number (command.Restart actor) ∷ h) (restart_line (Session i) s.keeps.serial s.keeps.opened (Some (command.Restart actor)) actor)
session_safe config h i s number (command.Apply tablet) is low = none_safe config (Session i) h (pass_program tablet) (started s.keeps (command.Apply tablet)) (start_of (Session i) number (command.Apply tablet) ∷ h) (pass_holds (Session i) s.keeps.serial s.keeps.opened (Some (command.Apply tablet)) tablet)
session_safe config h i s number (command.Clock node micros) is low = none_safe config (Session i) h (Done told.Set) (started s.keeps (command.Clock node micros)) (start_of (Session i) number (command.Clock node micros) ∷ h) tt

starts : (config : Config) (h : History) (m : Actor) (s : Mover) (number : ℕ) (line : Command) → mover_at config m h ≡ s → MayStart config m s line →
    Safe (rules config) config m h (started s.keeps line) (start_of m number line ∷ h) (program_of config m s.keeps line)
starts config h (Session i) s number line is may = session_safe config h i s number line is (few s.keeps.serial s.commands (serial_low config (Session i) h s is) may.1)
starts config h (Applier k) s number line is may =
    subst (λ (l : Command). Safe (rules config) config (Applier k) h (started s.keeps l) (start_of (Applier k) number line ∷ h) (program_of config (Applier k) s.keeps l)) (sym may.1)
    (none_safe config (Applier k) h (pass_program k) (started s.keeps (command.Apply k)) (start_of (Applier k) number line ∷ h) (pass_holds (Applier k) s.keeps.serial s.keeps.opened (Some (command.Apply k)) k))
starts config h (Tablet k) s number line is may = absurd may
starts config h (Status j) s number line is may = absurd may

pub keeping : (config : Config) → Keeping (rules config) config
keeping config = record {
  first_base = tt;
  base = λ h e base fine. tt;
  first_idle = λ m. tt;
  idle = λ h e m keeps base fine other idle. tt;
  starts = λ h m s number line steps base is may idle. starts config h m s number line is may;
}
