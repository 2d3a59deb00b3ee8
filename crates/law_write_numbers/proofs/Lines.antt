-- Each command of a session, and each pass, keeps what sessions know of the numbers of their writes.
use Rattle.std.proofs.Common.{◌≡◌, ℕ, ◌+◌, ◌^◌, ◌<◌, List, [], ◌∷◌, Option, Some, None, refl, sym, ◌∙◌, ap, subst}
use Rattle.txn_data.specs.declared.actor.Actor.{Actor}
use Rattle.txn_data.specs.declared.actor.Actor.TheVariants.{Tablet, Status, Session, Applier}
use Rattle.txn_data.specs.declared.command.Command.{Command}
use Rattle.txn_data.specs.declared.command.Command.TheVariants as command
use Rattle.txn_data.specs.declared.config.Config.{Config}
use Rattle.txn_data.specs.declared.meta.Meta.{Meta}
use Rattle.txn_data.specs.declared.op.Op.{Op}
use Rattle.txn_data.specs.declared.op.Op.TheVariants as op
use Rattle.txn_data.specs.declared.place.Place.{Place}
use Rattle.txn_data.specs.declared.read_kind.ReadKind.TheVariants.{Get, Scan}
use Rattle.txn_data.specs.declared.request.Request.{Request}
use Rattle.txn_data.specs.declared.request.Request.TheVariants as request
use Rattle.txn_data.specs.declared.reply.Reply.TheVariants as reply
use Rattle.txn_data.specs.declared.tablet_limit.TabletLimit.{TabletLimit}
use Rattle.txn_data.specs.declared.told.Told.{Told}
use Rattle.txn_data.specs.declared.told.Told.TheVariants as told
use Rattle.txn_data.specs.declared.told_refusal.ToldRefusal.TheVariants as told_refusal
use Rattle.txn_data.specs.declared.txn_step.TxnStep.TheVariants as step
use Rattle.txn_data.specs.declared.event.Event.TheVariants.{Start}
use Rattle.txn_types.specs.History.{History}
use Rattle.txn_types.specs.Plan.{IsCluster}
use Rattle.txn_types.specs.Program.{Program, Done, Asks, Reads}
use Rattle.txn_types.specs.TxnProgram.{refused, txn_program}
use Rattle.txn_types.specs.PassProgram.{pass_program}
use Rattle.txn_types.specs.Session.{Keeps, Opened, Accepted, next_meta, begin_program, write_command, commit_command, abort_command, read_command, if_closed, restart_program, command_program, after_end, after_read, opened_after}
use Rattle.txn_types.specs.Run.{Mover, MayStart, mover_at, limits_of, program_of, session_of}
use Rattle.law_messages.proofs.Rules.{entry, started}
use Rattle.law_messages.proofs.Safe.{Safe, Keeping}
use Rattle.law_messages.proofs.Shapes.{Always, pass_always, OfFinding, find_always}
use Rattle.law_owners.proofs.Serials.{serial_low}
use Rattle.law_owners.proofs.Commands.{few}
use Rattle.law_resolving.proofs.Resolved.{CarriesNone}
use Rattle.law_resolving.proofs.Commands.{read_none, commit_none, abort_none, restart_none, of_passes}
use Rattle.law_write_numbers.proofs.Claims.{Holds, claim_of, rules, holds_step, NoWrite, Any, tells_any, Closes, plain_safe}
use Rattle.law_write_numbers.proofs.Writes.{WriteLine, put_safe}
use Rattle.law_write_numbers.proofs.Begins.{begin_safe}

-- ## lines that write nothing

-- what is open then is the very transaction, with the same writes, or none
abbrev IsLeft : Option Opened → Option Opened → Type 0
IsLeft old None = Unit {0}
IsLeft None (Some y) = ⊥
IsLeft (Some x) (Some y) = (x.meta ≡ y.meta) × (x.writes ≡ y.writes)

left_holds : (g : History) (m : Actor) (old new : Option Opened) → IsLeft old new → Holds g m (claim_of old) → Holds g m (claim_of new)
left_holds g m old None left holds = tt
left_holds g m None (Some y) left holds = absurd left
left_holds g m (Some x) (Some y) left holds =
    subst (λ (ws : List Accepted). Holds g m (claim_of (Some (record y { writes = ws })))) left.1 (subst (λ (meta : Meta). Holds g m (claim_of (Some (record y { meta = meta; writes = x.writes })))) left.0 holds)

end_left : (x : Opened) (t : Told) → IsLeft (Some x) (after_end x t)
end_left x (told.Committed y at) = tt
end_left x (told.Ended y) = tt
end_left x (told.Refused (told_refusal.Aborted by)) = tt
end_left x (told.Refused (told_refusal.LogFault actor)) = (refl, refl)
end_left x t = (refl, refl)

read_left : (x : Opened) (limits : List TabletLimit) (t : Told) → IsLeft (Some x) (after_read x limits t)
read_left x limits (told.Values at restarts rows) = (refl, refl)
read_left x limits t = (refl, refl)

abbrev Writes_ : Command → Type 0
Writes_ (command.Put place v) = Unit {0}
Writes_ (command.Del place) = Unit {0}
Writes_ (command.Begin priority) = Unit {0}
Writes_ line = ⊥

line_left : (config : Config) (i : ℕ) (s : Keeps) (line : Command) (reading : Option ℕ) (limits : List TabletLimit) (t : Told) (opened : Option Opened) → (Writes_ line → ⊥) → IsLeft opened (opened_after config i s line reading limits t opened)
line_left config i s (command.Begin priority) reading limits t opened none = absurd (none tt)
line_left config i s (command.Put place v) reading limits t opened none = absurd (none tt)
line_left config i s (command.Del place) reading limits t opened none = absurd (none tt)
line_left config i s line reading limits t None none = tt
line_left config i s command.Commit reading limits t (Some x) none = end_left x t
line_left config i s command.Abort reading limits t (Some x) none = end_left x t
line_left config i s command.End reading limits t (Some x) none = end_left x t
line_left config i s (command.Read strict places) reading limits t (Some x) none = read_left x limits t
line_left config i s (command.Scan strict place) reading limits t (Some x) none = read_left x limits t
line_left config i s line reading limits t (Some x) none = (refl, refl)

left_closes : (config : Config) (m : Actor) (s : Keeps) (line : Command) → (Writes_ line → ⊥) → Closes config m s (Some line) (claim_of s.opened) Any
left_closes config m s line none = record {
  closes = λ g reading limits lose t said holds.
      left_holds g m s.opened (opened_after config (session_of m) s line reading limits t s.opened) (line_left config (session_of m) s line reading limits t s.opened none) holds;
  memory = tt;
}

none_write : (asked : Request) → CarriesNone asked → NoWrite asked
none_write (request.Write meta number path op read seen fates) none = absurd none
none_write asked none = tt

always_plain : (p : Program Told) → Always CarriesNone p → Always NoWrite p
always_plain (Done t) none = tt
always_plain (Asks to asked next) none = (none_write asked none.0, λ r. always_plain (next r) (none.1 r))
always_plain (Reads given) none = λ reading. always_plain (given reading) (none reading)

of_finding : OfFinding NoWrite
of_finding = record { lists = λ x path. tt; resolves = λ x by priority. tt }

single_plain : (config : Config) (i : ℕ) (s : Keeps) (place : Place) (o : Op) (priority : ℕ) (opened : Option Opened) → Always NoWrite (if_closed opened (txn_program (step.Single (next_meta config i s priority) place o s.last)))
single_plain config i s place o priority (Some x) = tt
single_plain config i s place o priority None = find_always NoWrite of_finding (next_meta config i s priority) place refused _ (λ why. tt)
    (λ fates. (tt, elim [ reply.SingleDone at ↦ tt | reply.Refused why ↦ tt | _ ↦ tt ]))

-- ## each command

left_safe : (config : Config) → IsCluster config → (m : Actor) (z : History) (s : Keeps) (line : Command) (p : Program Told) (h : History) → (Writes_ line → ⊥) → Always NoWrite p → Holds h m (claim_of s.opened) → Safe rules config m z (started s line) h p
left_safe config cluster m z s line p h none plain holds = plain_safe config cluster m z p (started s line) h (claim_of s.opened) Any (left_closes config m s line none) plain (tells_any p) holds

begin_line : (config : Config) → IsCluster config → (i : ℕ) (s : Keeps) (priority : ℕ) (z h : History) (opened : Option Opened) → s.opened ≡ opened → s.serial + 1 < 2 ^ 64 → Holds h (Session i) (claim_of s.opened) →
    Safe rules config (Session i) z (started s (command.Begin priority)) h (if_closed opened (begin_program config i s priority))
begin_line config cluster i s priority z h None is low holds = begin_safe config cluster i s priority (limits_of s.opened) z h is low
begin_line config cluster i s priority z h (Some x) is low holds =
    plain_safe config cluster (Session i) z (refused told_refusal.TxnOpen) (started s (command.Begin priority)) h (claim_of s.opened)
    Any (record { closes = λ g reading limits lose t said now. left_holds g (Session i) s.opened (opened_after config i s (command.Begin priority) reading limits t s.opened) (open_left reading limits t) now; memory = tt }) tt tt holds
  where
    open_left : (reading : Option ℕ) (limits : List TabletLimit) (t : Told) → IsLeft s.opened (opened_after config i s (command.Begin priority) reading limits t s.opened)
    open_left reading limits t = rw is (refl, refl)

put_line : (config : Config) (i : ℕ) (s : Keeps) (place : Place) (v : List ℕ) (x : Opened) → s.opened ≡ Some x → WriteLine config i s x place (op.Put v) (command.Put place v)
put_line config i s place v x is = record {
  opened = is;
  leaves = λ reading limits lose t. ap (λ (u : Option Opened). opened_after config i s (command.Put place v) reading limits t u) is;
}

del_line : (config : Config) (i : ℕ) (s : Keeps) (place : Place) (x : Opened) → s.opened ≡ Some x → WriteLine config i s x place op.Delete (command.Del place)
del_line config i s place x is = record {
  opened = is;
  leaves = λ reading limits lose t. ap (λ (u : Option Opened). opened_after config i s (command.Del place) reading limits t u) is;
}

-- nothing is open, and nothing is then
abbrev StaysNone : Config → ℕ → Keeps → Command → Type 0
StaysNone config i s line = (reading : Option ℕ) (limits : List TabletLimit) (t : Told) → None ≡ opened_after config i s line reading limits t None

write_line : (config : Config) → IsCluster config → (i : ℕ) (s : Keeps) (place : Place) (o : Op) (line : Command) (z h : History) (opened : Option Opened) → s.opened ≡ opened →
    ((x : Opened) → s.opened ≡ Some x → WriteLine config i s x place o line) → StaysNone config i s line → Holds h (Session i) (claim_of s.opened) →
    Safe rules config (Session i) z (started s line) h (write_command s place o opened)
write_line config cluster i s place o line z h None is about stays holds =
    plain_safe config cluster (Session i) z (refused told_refusal.NoTxn) (started s line) h None Any (record {
      closes = λ g reading limits lose t said now. subst (λ (u : Option Opened). Holds g (Session i) (claim_of u)) (stays reading limits t ∙ ap (λ (u : Option Opened). opened_after config i s line reading limits t u) (sym is)) tt;
      memory = tt;
    }) tt tt tt
write_line config cluster i s place o line z h (Some x) is about stays holds =
    put_safe config cluster i s x place o line z (about x is) (limits_of s.opened) h (subst (λ (u : Option Opened). Holds h (Session i) (claim_of u)) is holds)

command_safe : (config : Config) → IsCluster config → (i : ℕ) (s : Keeps) (line : Command) (z h : History) → s.serial + 1 < 2 ^ 64 → Holds h (Session i) (claim_of s.opened) → Safe rules config (Session i) z (started s line) h (command_program config i s line)
command_safe config cluster i s (command.Begin priority) z h low holds = begin_line config cluster i s priority z h s.opened refl low holds
command_safe config cluster i s (command.Put place v) z h low holds = write_line config cluster i s place (op.Put v) (command.Put place v) z h s.opened refl (put_line config i s place v) (λ reading limits t. refl) holds
command_safe config cluster i s (command.Del place) z h low holds = write_line config cluster i s place op.Delete (command.Del place) z h s.opened refl (del_line config i s place) (λ reading limits t. refl) holds
command_safe config cluster i s command.Commit z h low holds = left_safe config cluster (Session i) z s command.Commit (commit_command s s.opened) h (λ n. n) (always_plain (commit_command s s.opened) (commit_none s s.opened)) holds
command_safe config cluster i s command.Abort z h low holds = left_safe config cluster (Session i) z s command.Abort (abort_command s.opened) h (λ n. n) (always_plain (abort_command s.opened) (abort_none s.opened)) holds
command_safe config cluster i s command.End z h low holds = left_safe config cluster (Session i) z s command.End (abort_command s.opened) h (λ n. n) (always_plain (abort_command s.opened) (abort_none s.opened)) holds
command_safe config cluster i s (command.Read strict places) z h low holds =
    left_safe config cluster (Session i) z s (command.Read strict places) (read_command config i s Get strict places s.opened) h (λ n. n) (always_plain (read_command config i s Get strict places s.opened) (read_none config i s Get strict places s.opened)) holds
command_safe config cluster i s (command.Scan strict place) z h low holds =
    left_safe config cluster (Session i) z s (command.Scan strict place) (read_command config i s Scan strict (place ∷ []) s.opened) h (λ n. n) (always_plain (read_command config i s Scan strict (place ∷ []) s.opened) (read_none config i s Scan strict (place ∷ []) s.opened)) holds
command_safe config cluster i s (command.SinglePut place v priority) z h low holds = left_safe config cluster (Session i) z s (command.SinglePut place v priority) _ h (λ n. n) (single_plain config i s place (op.Put v) priority s.opened) holds
command_safe config cluster i s (command.SingleDel place priority) z h low holds = left_safe config cluster (Session i) z s (command.SingleDel place priority) _ h (λ n. n) (single_plain config i s place op.Delete priority s.opened) holds
command_safe config cluster i s (command.Restart actor) z h low holds = left_safe config cluster (Session i) z s (command.Restart actor) (restart_program actor) h (λ n. n) (always_plain (restart_program actor) (restart_none actor)) holds
command_safe config cluster i s (command.Apply tablet) z h low holds = left_safe config cluster (Session i) z s (command.Apply tablet) (pass_program tablet) h (λ n. n) (always_plain (pass_program tablet) (pass_always CarriesNone of_passes tablet)) holds
command_safe config cluster i s (command.Clock node micros) z h low holds = left_safe config cluster (Session i) z s (command.Clock node micros) (Done told.Set) h (λ n. n) tt holds

starts : (config : Config) → IsCluster config → (h : History) (m : Actor) (s : Mover) (number : ℕ) (line : Command) → mover_at config m h ≡ s → MayStart config m s line →
    Holds (entry m None (Start number line) ∷ h) m (claim_of s.keeps.opened) → Safe rules config m h (started s.keeps line) (entry m None (Start number line) ∷ h) (program_of config m s.keeps line)
starts config cluster h (Session i) s number line is may holds =
    command_safe config cluster i s.keeps line h (entry (Session i) None (Start number line) ∷ h) (few s.keeps.serial s.commands (serial_low config (Session i) h s is) may.1) holds
starts config cluster h (Applier k) s number line is may holds =
    subst (λ (l : Command). Safe rules config (Applier k) h (started s.keeps l) (entry (Applier k) None (Start number line) ∷ h) (program_of config (Applier k) s.keeps l)) (sym may.1)
    (left_safe config cluster (Applier k) h s.keeps (command.Apply k) (pass_program k) (entry (Applier k) None (Start number line) ∷ h) (λ n. n) (always_plain (pass_program k) (pass_always CarriesNone of_passes k)) holds)
starts config cluster h (Tablet k) s number line is may holds = absurd may
starts config cluster h (Status j) s number line is may holds = absurd may

pub keeping : (config : Config) → IsCluster config → Keeping rules config
keeping config cluster = record {
  first_base = tt;
  base = λ h e base fine. tt;
  first_idle = λ m. tt;
  idle = λ h e m keeps base fine other holds. holds_step config cluster m (claim_of keeps.opened) h e fine other holds;
  starts = λ h m s number line steps base is may holds. starts config cluster h m s number line is may holds;
}
