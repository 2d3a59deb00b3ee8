-- What a mover asks next may be served, as far as it has come.
use Rattle.std.proofs.Common.{ℕ, ◌<◌, List, Option, Some, None, refl, sym, subst, inl, inr}
use Rattle.txn_data.specs.declared.actor.Actor.{Actor}
use Rattle.txn_data.specs.declared.command.Command.{Command}
use Rattle.txn_data.specs.declared.command.Command.TheVariants as command
use Rattle.txn_data.specs.declared.config.Config.{Config}
use Rattle.txn_data.specs.declared.op.Op.{Op}
use Rattle.txn_data.specs.declared.op.Op.TheVariants as op
use Rattle.txn_data.specs.declared.place.Place.{Place}
use Rattle.txn_data.specs.declared.tablet_limit.TabletLimit.{TabletLimit}
use Rattle.txn_data.specs.declared.reply.Reply.{Reply}
use Rattle.txn_data.specs.declared.told.Told.{Told}
use Rattle.txn_data.specs.declared.told.Told.TheVariants as told
use Rattle.txn_data.specs.declared.told_refusal.ToldRefusal.TheVariants as told_refusal
use Rattle.txn_data.specs.declared.event.Event.{Event}
use Rattle.txn_data.specs.declared.event.Event.TheVariants.{Start, Ask, Serve, Hear, Tell, Restarted}
use Rattle.txn_types.specs.Plan.{IsCluster}
use Rattle.txn_types.specs.Program.{Program, Done, Asks, Reads, heard, with_reading}
use Rattle.txn_types.specs.Session.{Opened, Keeps, Accepted, opens, after_write, after_end, after_read, opened_after}
use Rattle.txn_types.specs.Run.{Mover, mover_after, kept_after, session_of, MayStart}
use Rattle.law_machines.proofs.Basics.{member_cases}
use Rattle.law_owners.proofs.Replies.{ReplyHomed}
use Rattle.law_requests.proofs.Programs.{LineFits, Goes, OpenFits, status_below, starts_fit, program_goes}

-- ## what is kept open

opens_fit : (config : Config) (i priority : ℕ) (s : Keeps) (reading : Option ℕ) (t : Told) → IsCluster config → OpenFits config (opens config i s priority reading t)
opens_fit config i priority s (Some r) (told.Began x at) cluster = (status_below config i cluster, λ a m. absurd m)
opens_fit config i priority s (Some r) t cluster = tt
opens_fit config i priority s None t cluster = tt

write_fits : (config : Config) (x : Opened) (place : Place) (o : Op) (t : Told) → place.tablet < config.tablets → OpenFits config (Some x) → OpenFits config (after_write x place o t)
write_fits config x place o (told.Written at) there is = (
  is.0,
  λ a m. elim (member_cases a x.writes _ m) [
    | inl old ↦ is.1 a old
    | inr new ↦ elim new [ inl here ↦ subst (λ (b : Accepted). b.tablet < config.tablets) (sym here) there | inr never ↦ absurd never ]
  ],
)
write_fits config x place o (told.Refused (told_refusal.Conflict other)) there is = tt
write_fits config x place o (told.Refused (told_refusal.Overlap at)) there is = tt
write_fits config x place o (told.Refused (told_refusal.LogFault actor)) there is = tt
write_fits config x place o (told.Refused why) there is = is
write_fits config x place o t there is = is

end_fits : (config : Config) (x : Opened) (t : Told) → OpenFits config (Some x) → OpenFits config (after_end x t)
end_fits config x (told.Committed y at) is = tt
end_fits config x (told.Ended y) is = tt
end_fits config x (told.Refused (told_refusal.Aborted by)) is = tt
end_fits config x (told.Refused (told_refusal.LogFault actor)) is = is
end_fits config x (told.Refused why) is = is
end_fits config x t is = is

read_fits : (config : Config) (x : Opened) (limits : List TabletLimit) (t : Told) → OpenFits config (Some x) → OpenFits config (after_read x limits t)
read_fits config x limits (told.Values at restarts rows) is = is
read_fits config x limits t is = is

opened_fits : (config : Config) (i : ℕ) (s : Keeps) (line : Command) (reading : Option ℕ) (limits : List TabletLimit) (t : Told) (opened : Option Opened) → IsCluster config → LineFits config line → OpenFits config opened →
    OpenFits config (opened_after config i s line reading limits t opened)
opened_fits config i s (command.Begin priority) reading limits t None cluster fits is = opens_fit config i priority s reading t cluster
opened_fits config i s line reading limits t None cluster fits is = tt
opened_fits config i s (command.Put place v) reading limits t (Some x) cluster fits is = write_fits config x place (op.Put v) t (fits.places place (inl refl)).0 is
opened_fits config i s (command.Del place) reading limits t (Some x) cluster fits is = write_fits config x place op.Delete t (fits.places place (inl refl)).0 is
opened_fits config i s command.Commit reading limits t (Some x) cluster fits is = end_fits config x t is
opened_fits config i s command.Abort reading limits t (Some x) cluster fits is = end_fits config x t is
opened_fits config i s command.End reading limits t (Some x) cluster fits is = end_fits config x t is
opened_fits config i s (command.Read strict places) reading limits t (Some x) cluster fits is = read_fits config x limits t is
opened_fits config i s (command.Scan strict place) reading limits t (Some x) cluster fits is = read_fits config x limits t is
opened_fits config i s line reading limits t (Some x) cluster fits is = is

-- ## a mover

abbrev pub LineGoes : Config → Option Command → Program Told → Type 0
LineGoes config None p = Unit {0}
LineGoes config (Some line) p = LineFits config line × Goes config line p

pub record MoverFits (config : Config) (m : Mover) : Type 0 where
  pub kept : OpenFits config m.keeps.opened
  pub goes : LineGoes config m.line m.rest

with_goes : (config : Config) (line : Command) (p : Program Told) (reading : Option ℕ) → Goes config line p → Goes config line (with_reading p reading)
with_goes config line (Done t) reading goes = goes
with_goes config line (Asks to asked next) reading goes = goes
with_goes config line (Reads given) (Some r) goes = goes r
with_goes config line (Reads given) None goes = goes

heard_goes : (config : Config) (line : Command) (p : Program Told) (r : Reply) → ReplyHomed config r → Goes config line p → Goes config line (heard p r)
heard_goes config line (Done t) r homed goes = goes
heard_goes config line (Asks to asked next) r homed goes = goes.1 r homed
heard_goes config line (Reads given) r homed goes = goes

line_with : (config : Config) (line : Option Command) (p : Program Told) (reading : Option ℕ) → LineGoes config line p → LineGoes config line (with_reading p reading)
line_with config None p reading goes = tt
line_with config (Some line) p reading goes = (goes.0, with_goes config line p reading goes.1)

line_heard : (config : Config) (line : Option Command) (p : Program Told) (r : Reply) → ReplyHomed config r → LineGoes config line p → LineGoes config line (heard p r)
line_heard config None p r homed goes = tt
line_heard config (Some line) p r homed goes = (goes.0, heard_goes config line p r homed goes.1)

kept_fits : (config : Config) (a : Actor) (m : Mover) (line : Option Command) (t : Told) → IsCluster config → OpenFits config m.keeps.opened → LineGoes config line m.rest → OpenFits config (kept_after config a m line t).opened
kept_fits config a m None t cluster kept goes = kept
kept_fits config a m (Some line) t cluster kept goes = opened_fits config (session_of a) m.keeps line m.reading m.limits t m.keeps.opened cluster goes.0 kept

-- what one more entry of its own has to have
abbrev pub EventFits : Config → Actor → Mover → Event → Type 0
EventFits config a m (Start number line) = MayStart config a m line
EventFits config a m (Hear from r) = ReplyHomed config r
EventFits config a m event = Unit {0}

pub mover_fits : (config : Config) (a : Actor) (m : Mover) (reading : Option ℕ) (event : Event) → IsCluster config → EventFits config a m event → MoverFits config m → MoverFits config (mover_after config a m reading event)
mover_fits config a m reading (Start number line) cluster may is = record { kept = is.kept; goes = (starts_fit config a m line may, program_goes config a m line cluster may is.kept) }
mover_fits config a m reading (Ask to asked) cluster fits is = record { kept = is.kept; goes = line_with config m.line m.rest reading is.goes }
mover_fits config a m reading (Hear from r) cluster homed is = record { kept = is.kept; goes = line_heard config m.line m.rest r homed is.goes }
mover_fits config a m reading (Tell number t) cluster fits is = record { kept = kept_fits config a m m.line t cluster is.kept is.goes; goes = tt }
mover_fits config a m reading (Serve from asked r time append) cluster fits is = is
mover_fits config a m reading (Restarted from kept) cluster fits is = is
