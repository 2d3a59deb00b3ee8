-- Each command of a session writes at the place that its line names.
use Rattle.std.proofs.Common.{◌≡◌, ℕ, Bool, true, false, List, [], ◌∷◌, Option, Some, None, length, refl, sym, subst, inl, if◌then◌else◌}
use Rattle.txn_data.specs.declared.actor.Actor.{Actor}
use Rattle.txn_data.specs.declared.actor.Actor.TheVariants.{Tablet, Status, Session, Applier}
use Rattle.txn_data.specs.declared.command.Command.{Command}
use Rattle.txn_data.specs.declared.command.Command.TheVariants as command
use Rattle.txn_data.specs.declared.config.Config.{Config}
use Rattle.txn_data.specs.declared.fate.Fate.TheVariants as fate
use Rattle.txn_data.specs.declared.fate_of.FateOf.{FateOf}
use Rattle.txn_data.specs.declared.found.Found.{Found}
use Rattle.txn_data.specs.declared.meta.Meta.{Meta}
use Rattle.txn_data.specs.declared.op.Op.{Op}
use Rattle.txn_data.specs.declared.op.Op.TheVariants as op
use Rattle.txn_data.specs.declared.place.Place.{Place}
use Rattle.txn_data.specs.declared.read_kind.ReadKind.TheVariants.{Get, Scan}
use Rattle.txn_data.specs.declared.request.Request.{Request}
use Rattle.txn_data.specs.declared.request.Request.TheVariants as request
use Rattle.txn_data.specs.declared.reply.Reply.{Reply}
use Rattle.txn_data.specs.declared.reply.Reply.TheVariants as reply
use Rattle.txn_data.specs.declared.told.Told.{Told}
use Rattle.txn_data.specs.declared.told_refusal.ToldRefusal.{ToldRefusal}
use Rattle.txn_data.specs.declared.told_refusal.ToldRefusal.TheVariants as told_refusal
use Rattle.txn_data.specs.declared.txn_step.TxnStep.TheVariants as step
use Rattle.txn_data.specs.declared.event.Event.TheVariants.{Start, Serve, Restarted}
use Rattle.txn_data.specs.declared.entry.Entry.{Entry}
use Rattle.txn_types.specs.Lists.{Member}
use Rattle.txn_types.specs.History.{History}
use Rattle.txn_types.specs.Plan.{IsPath, started_places}
use Rattle.txn_types.specs.Program.{Program, Done, Asks, Reads, refusal_told}
use Rattle.txn_types.specs.TxnProgram.{refused, write_refused, resolve_all, find_others, txn_program}
use Rattle.txn_types.specs.PassProgram.{pass_program}
use Rattle.txn_types.specs.Session.{Keeps, Opened, next_meta, begin_program, write_command, commit_command, abort_command, read_command, if_closed, restart_program, command_program}
use Rattle.txn_types.specs.Run.{Mover, MayStart, program_of}
use Rattle.law_machines.proofs.Basics.{member_right}
use Rattle.law_messages.proofs.Rules.{Rules, Stage, hears, with_own, no_memory, entry, Later, lasts, started as started_with}
use Rattle.law_messages.proofs.Safe.{Safe, Keeping}
use Rattle.law_messages.proofs.Shapes.{Always, pass_always}
use Rattle.law_resolving.proofs.Resolved.{CarriesNone}
use Rattle.law_resolving.proofs.Commands.{read_none, begin_none, commit_none, abort_none, restart_none, of_passes}
use Rattle.law_places.specs.Laws.{started, IsPlace}

abbrev pub IsGood : History → Actor → Request → Type 0
IsGood h a (request.Write meta number path op read seen fates) = IsPlace h a path
IsGood h a (request.Single x path op seen fates) = IsPlace h a path
IsGood h a asked = Unit {0}

abbrev pub rules : Rules
rules = record {
  Base = λ h. Unit {0};
  Good = λ h m a asked. IsGood h a asked;
  Idle = λ h m keeps. Unit {0};
  Ends = λ z m h c t. Unit {0};
}

-- a program asks so, whatever it hears
abbrev AlwaysAt : (Actor → Request → Type 0) → Program Told → Type 0
AlwaysAt P (Done t) = Unit {0}
AlwaysAt P (Asks to asked next) = P to asked × ((r : Reply) → AlwaysAt P (next r))
AlwaysAt P (Reads given) = (reading : ℕ) → AlwaysAt P (given reading)

-- it writes at this place alone
abbrev WritesAt : Place → Actor → Request → Type 0
WritesAt place a (request.Write meta number path op read seen fates) = (a ≡ Tablet place.tablet) × (place.path ≡ path)
WritesAt place a (request.Single x path op seen fates) = (a ≡ Tablet place.tablet) × (place.path ≡ path)
WritesAt place a asked = Unit {0}

none_at : (place : Place) (a : Actor) (asked : Request) → CarriesNone asked → WritesAt place a asked
none_at place a (request.Write meta number path op read seen fates) none = absurd none
none_at place a (request.Single x path op seen fates) none = absurd none
none_at place a asked none = tt

always_at : (place : Place) (p : Program Told) → Always CarriesNone p → AlwaysAt (WritesAt place) p
always_at place (Done t) none = tt
always_at place (Asks to asked next) none = (none_at place to asked none.0, λ r. always_at place (next r) (none.1 r))
always_at place (Reads given) none = λ reading. always_at place (given reading) (none reading)

none_good : (h : History) (a : Actor) (asked : Request) → CarriesNone asked → IsGood h a asked
none_good h a (request.Write meta number path op read seen fates) none = absurd none
none_good h a (request.Single x path op seen fates) none = absurd none
none_good h a asked none = tt

-- the place was named, and its path is one
abbrev Named : Place → History → Type 0
Named place h = Member place (started h) × IsPath place.path

place_good : (place : Place) (h : History) (a : Actor) (asked : Request) → Named place h → WritesAt place a asked → IsGood h a asked
place_good place h a (request.Write meta number path op read seen fates) named at = (place, named.0, at.0, at.1, subst IsPath at.1 named.1)
place_good place h a (request.Single x path op seen fates) named at = (place, named.0, at.0, at.1, subst IsPath at.1 named.1)
place_good place h a asked named at = tt

named_more : (place : Place) (e : Entry) (h : History) → Named place h → Named place (e ∷ h)
named_more place e h named = (member_right place (started_places e.event) (started h) named.0, named.1)

named_on : (config : Config) (m : Actor) (place : Place) (h g : History) → Later rules config m h g → Named place h → Named place g
named_on config m place = lasts rules config m (Named place) (λ h e base fine other named. named_more place e h named)

at_safe : (config : Config) (m : Actor) (z : History) (place : Place) (p : Program Told) (c : Stage) (h : History) → AlwaysAt (WritesAt place) p → Named place h → Safe rules config m z c h p
at_safe config m z place (Done t) c h at named = (λ may g later. (tt, tt), λ g later. (tt, tt))
at_safe config m z place (Asks to asked next) c h at named = (
  λ may g later. (tt, tt),
  λ g later steps base.
      let now = named_on config m place h g later named in (
        place_good place g to asked now at.0,
        λ reading r time append allowed after. at_safe config m z place (next r) (hears m c to r) (entry to reading (Serve m asked r time append) ∷ g) (at.1 r) (named_more place (entry to reading (Serve m asked r time append)) g now),
        λ reading k is after. at_safe config m z place (next (reply.Restarted k)) (hears m c to (reply.Restarted k)) (entry to reading (Restarted m k) ∷ g) (at.1 (reply.Restarted k)) (named_more place (entry to reading (Restarted m k)) g now),
        at_safe config m z place (next no_memory) (hears m c to no_memory) g (at.1 no_memory) now,
      ),
)
at_safe config m z place (Reads given) c h at named = (λ may g later. (tt, tt), λ reading g later own. (at_safe config m z place (given reading) (with_own c (Some reading)) g (at reading) (named_on config m place h g later named), λ t is f on. (tt, tt)))

none_safe : (config : Config) (m : Actor) (z : History) (p : Program Told) (c : Stage) (h : History) → Always CarriesNone p → Safe rules config m z c h p
none_safe config m z (Done t) c h none = (λ may g later. (tt, tt), λ g later. (tt, tt))
none_safe config m z (Asks to asked next) c h none = (
  λ may g later. (tt, tt),
  λ g later steps base. (
    none_good g to asked none.0,
    λ reading r time append allowed after. none_safe config m z (next r) (hears m c to r) (entry to reading (Serve m asked r time append) ∷ g) (none.1 r),
    λ reading k is after. none_safe config m z (next (reply.Restarted k)) (hears m c to (reply.Restarted k)) (entry to reading (Restarted m k) ∷ g) (none.1 (reply.Restarted k)),
    none_safe config m z (next no_memory) (hears m c to no_memory) g (none.1 no_memory),
  ),
)
none_safe config m z (Reads given) c h none = (λ may g later. (tt, tt), λ reading g later own. (none_safe config m z (given reading) (with_own c (Some reading)) g (none reading), λ t is f on. (tt, tt)))

-- ## writes

resolve_at : (place : Place) (meta : Meta) (fs : List Found) (fates : List FateOf) (stop : ToldRefusal → Program Told) (next : List FateOf → Program Told) → ((why : ToldRefusal) → AlwaysAt (WritesAt place) (stop why)) →
    ((found : List FateOf) → AlwaysAt (WritesAt place) (next found)) → AlwaysAt (WritesAt place) (resolve_all meta fs fates stop next)
unfolding resolve_all
resolve_at place meta [] fates stop next stops goes = goes fates
resolve_at place meta (f ∷ fs) fates stop next stops goes = (
  tt,
  elim [
    | reply.FateIs fate.Pending ↦ stops (told_refusal.Conflict f.txn)
    | reply.FateIs settled ↦ resolve_at place meta fs _ stop next stops goes
    | reply.Refused why ↦ stops (refusal_told (Status f.status) why)
    | _ ↦ tt
  ],
)

find_at : (place : Place) (meta : Meta) (stop : ToldRefusal → Program Told) (next : List FateOf → Program Told) → ((why : ToldRefusal) → AlwaysAt (WritesAt place) (stop why)) →
    ((found : List FateOf) → AlwaysAt (WritesAt place) (next found)) → AlwaysAt (WritesAt place) (find_others meta place stop next)
find_at place meta stop next stops goes = (
  tt,
  elim [
    | reply.Others found ↦ resolve_at place meta found [] stop next stops goes
    | reply.Refused why ↦ stops (refusal_told (Tablet place.tablet) why)
    | _ ↦ tt
  ],
)

stop_at : (place : Place) (meta : Meta) (why : ToldRefusal) → AlwaysAt (WritesAt place) (write_refused meta why)
stop_at place meta (told_refusal.Conflict other) = (tt, λ r. tt)
stop_at place meta (told_refusal.Overlap at) = (tt, λ r. tt)
stop_at place meta (told_refusal.LogFault actor) = (tt, λ r. tt)
stop_at place meta why = tt

write_at : (s : Keeps) (place : Place) (o : Op) (opened : Option Opened) → AlwaysAt (WritesAt place) (write_command s place o opened)
write_at s place o None = tt
write_at s place o (Some x) = doubt_at x.in_doubt
  where
    doubt_at : (b : Bool) → AlwaysAt (WritesAt place) (if b then refused told_refusal.InDoubt else txn_program (step.Write x.meta (length x.writes) place o x.r s.last))
    doubt_at true = tt
    doubt_at false = find_at place x.meta (write_refused x.meta) _ (λ why. stop_at place x.meta why)
        (λ fates. ((refl, refl), elim [ reply.Written at ↦ tt | reply.Refused why ↦ stop_at place x.meta (refusal_told (Tablet place.tablet) why) | _ ↦ tt ]))

single_at : (config : Config) (i : ℕ) (s : Keeps) (place : Place) (o : Op) (priority : ℕ) (opened : Option Opened) → AlwaysAt (WritesAt place) (if_closed opened (txn_program (step.Single (next_meta config i s priority) place o s.last)))
single_at config i s place o priority (Some x) = tt
single_at config i s place o priority None = find_at place (next_meta config i s priority) refused _ (λ why. tt)
    (λ fates. ((refl, refl), elim [ reply.SingleDone at ↦ tt | reply.Refused why ↦ tt | _ ↦ tt ]))

-- ## each command

session_safe : (config : Config) (h : History) (i : ℕ) (s : Mover) (number : ℕ) (line : Command) → MayStart config (Session i) s line →
    Safe rules config (Session i) h (started_with s.keeps line) (entry (Session i) None (Start number line) ∷ h) (command_program config i s.keeps line)
session_safe config h i s number (command.Begin priority) may = none_safe config (Session i) h (if_closed s.keeps.opened (begin_program config i s.keeps priority)) _ _ (begin_none config i s.keeps priority s.keeps.opened)
session_safe config h i s number (command.Put place v) may = at_safe config (Session i) h place (write_command s.keeps place (op.Put v) s.keeps.opened) _ _ (write_at s.keeps place (op.Put v) s.keeps.opened) (inl refl, may.2.0.1)
session_safe config h i s number (command.Del place) may = at_safe config (Session i) h place (write_command s.keeps place op.Delete s.keeps.opened) _ _ (write_at s.keeps place op.Delete s.keeps.opened) (inl refl, may.2.1)
session_safe config h i s number command.Commit may = none_safe config (Session i) h (commit_command s.keeps s.keeps.opened) _ _ (commit_none s.keeps s.keeps.opened)
session_safe config h i s number command.Abort may = none_safe config (Session i) h (abort_command s.keeps.opened) _ _ (abort_none s.keeps.opened)
session_safe config h i s number command.End may = none_safe config (Session i) h (abort_command s.keeps.opened) _ _ (abort_none s.keeps.opened)
session_safe config h i s number (command.Read strict places) may = none_safe config (Session i) h (read_command config i s.keeps Get strict places s.keeps.opened) _ _ (read_none config i s.keeps Get strict places s.keeps.opened)
session_safe config h i s number (command.Scan strict place) may = none_safe config (Session i) h (read_command config i s.keeps Scan strict (place ∷ []) s.keeps.opened) _ _ (read_none config i s.keeps Scan strict (place ∷ []) s.keeps.opened)
session_safe config h i s number (command.SinglePut place v priority) may = at_safe config (Session i) h place (if_closed s.keeps.opened (txn_program (step.Single (next_meta config i s.keeps priority) place (op.Put v) s.keeps.last))) _ _
    (single_at config i s.keeps place (op.Put v) priority s.keeps.opened) (inl refl, may.2.0.1)
session_safe config h i s number (command.SingleDel place priority) may = at_safe config (Session i) h place (if_closed s.keeps.opened (txn_program (step.Single (next_meta config i s.keeps priority) place op.Delete s.keeps.last))) _ _
    (single_at config i s.keeps place op.Delete priority s.keeps.opened) (inl refl, may.2.1)
session_safe config h i s number (command.Restart actor) may = none_safe config (Session i) h (restart_program actor) _ _ (restart_none actor)
session_safe config h i s number (command.Apply tablet) may = none_safe config (Session i) h (pass_program tablet) _ _ (pass_always CarriesNone of_passes tablet)
session_safe config h i s number (command.Clock node micros) may = (λ may g later. (tt, tt), λ g later. (tt, tt))

starts : (config : Config) (h : History) (m : Actor) (s : Mover) (number : ℕ) (line : Command) → MayStart config m s line →
    Safe rules config m h (started_with s.keeps line) (entry m None (Start number line) ∷ h) (program_of config m s.keeps line)
starts config h (Session i) s number line may = session_safe config h i s number line may
starts config h (Applier k) s number line may =
    subst (λ (l : Command). Safe rules config (Applier k) h (started_with s.keeps l) (entry (Applier k) None (Start number line) ∷ h) (program_of config (Applier k) s.keeps l)) (sym may.1)
    (none_safe config (Applier k) h (pass_program k) (started_with s.keeps (command.Apply k)) (entry (Applier k) None (Start number line) ∷ h) (pass_always CarriesNone of_passes k))
starts config h (Tablet k) s number line may = absurd may
starts config h (Status j) s number line may = absurd may

pub keeping : (config : Config) → Keeping rules config
keeping config = record {
  first_base = tt;
  base = λ h e base fine. tt;
  first_idle = λ m. tt;
  idle = λ h e m keeps base fine other idle. tt;
  starts = λ h m s number line steps base is may idle. starts config h m s number line may;
}
