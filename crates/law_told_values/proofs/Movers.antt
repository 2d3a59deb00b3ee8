-- What a mover keeps and is about to tell is given, as far as it has come.
use Rattle.std.proofs.Common.{◌≡◌, ℕ, ◌++◌, List, [], ◌∷◌, Option, Some, None, refl, sym, ◌∙◌, ap, subst, inl, inr}
use Rattle.txn_data.specs.declared.actor.Actor.{Actor}
use Rattle.txn_data.specs.declared.command.Command.{Command}
use Rattle.txn_data.specs.declared.command.Command.TheVariants as command
use Rattle.txn_data.specs.declared.config.Config.{Config}
use Rattle.txn_data.specs.declared.op.Op.{Op}
use Rattle.txn_data.specs.declared.op.Op.TheVariants as op
use Rattle.txn_data.specs.declared.place.Place.{Place}
use Rattle.txn_data.specs.declared.written.Written.{Written}
use Rattle.txn_data.specs.declared.tablet_limit.TabletLimit.{TabletLimit}
use Rattle.txn_data.specs.declared.reply.Reply.{Reply}
use Rattle.txn_data.specs.declared.told.Told.{Told}
use Rattle.txn_data.specs.declared.told.Told.TheVariants as told
use Rattle.txn_data.specs.declared.told_refusal.ToldRefusal.TheVariants as told_refusal
use Rattle.txn_data.specs.declared.event.Event.{Event}
use Rattle.txn_data.specs.declared.event.Event.TheVariants.{Start, Ask, Serve, Hear, Tell, Restarted}
use Rattle.txn_types.specs.Lists.{Member}
use Rattle.txn_types.specs.History.{History}
use Rattle.txn_types.specs.Program as program
use Rattle.txn_types.specs.Program.{Program, Done, Asks, Reads, turn, turn_with, heard, with_reading}
use Rattle.txn_types.specs.Session.{Opened, Keeps, Accepted, writes_of, opens, after_write, after_end, after_read, opened_after}
use Rattle.txn_types.specs.Run.{Mover, mover_after, kept_after, session_of, CanTell}
use Rattle.law_machines.proofs.Basics.{member_cases, member_map, map_member}
use Rattle.law_told_values.specs.Given.{PathIsGiven, ToldIsGiven}
use Rattle.law_told_values.proofs.Grounds.{Within, within_same, value_in, told_in, OpIsGiven, writes_in}
use Rattle.law_told_values.proofs.Tables.{ReplyIsGiven}
use Rattle.law_told_values.proofs.Programs.{goes_in, Tells, LineIsGiven, OpenIsGiven, places_in, program_goes}

-- ## what is kept open

write_given : (h : History) (x : Opened) (place : Place) (o : Op) (t : Told) → PathIsGiven h place.path → OpIsGiven h o → OpenIsGiven h (Some x) → OpenIsGiven h (after_write x place o t)
write_given h x place o (told.Written at) path is are = λ w m.
    let from = map_member (λ (a : Accepted). a.write) w (x.writes ++ (record { tablet = place.tablet; write = record { path = place.path; op = o } }) ∷ []) m in
    elim (member_cases from.0 x.writes _ from.1) [
      | inl old ↦ are w (subst (λ (v : Written). Member v (writes_of x.writes)) (sym from.2) (member_map (λ (a : Accepted). a.write) from.0 x.writes old))
      | inr new ↦ elim new [
        | inl here ↦
            let same : w ≡ record { path = place.path; op = o } = from.2 ∙ ap (λ (a : Accepted). a.write) here in
            subst (λ (v : Written). PathIsGiven h v.path × OpIsGiven h v.op) (sym same) (path, is)
        | inr never ↦ absurd never
      ]
    ]
write_given h x place o (told.Refused (told_refusal.Conflict other)) path is are = tt
write_given h x place o (told.Refused (told_refusal.Overlap at)) path is are = tt
write_given h x place o (told.Refused (told_refusal.LogFault actor)) path is are = tt
write_given h x place o (told.Refused why) path is are = are
write_given h x place o t path is are = are

end_given : (h : History) (x : Opened) (t : Told) → OpenIsGiven h (Some x) → OpenIsGiven h (after_end x t)
end_given h x (told.Committed y at) is = tt
end_given h x (told.Ended y) is = tt
end_given h x (told.Refused (told_refusal.Aborted by)) is = tt
end_given h x (told.Refused (told_refusal.LogFault actor)) is = is
end_given h x (told.Refused why) is = is
end_given h x t is = is

read_given : (h : History) (x : Opened) (limits : List TabletLimit) (t : Told) → OpenIsGiven h (Some x) → OpenIsGiven h (after_read x limits t)
read_given h x limits (told.Values at restarts rows) is = is
read_given h x limits t is = is

opens_given : (config : Config) (h : History) (i priority : ℕ) (s : Keeps) (reading : Option ℕ) (t : Told) → OpenIsGiven h (opens config i s priority reading t)
opens_given config h i priority s (Some r) (told.Began x at) = λ w m. absurd m
opens_given config h i priority s (Some r) t = tt
opens_given config h i priority s None t = tt

opened_given : (config : Config) (h : History) (i : ℕ) (s : Keeps) (line : Command) (reading : Option ℕ) (limits : List TabletLimit) (t : Told) (opened : Option Opened) → LineIsGiven h line → OpenIsGiven h opened →
    OpenIsGiven h (opened_after config i s line reading limits t opened)
opened_given config h i s (command.Begin priority) reading limits t None line_is is = opens_given config h i priority s reading t
opened_given config h i s line reading limits t None line_is is = tt
opened_given config h i s (command.Put place v) reading limits t (Some x) line_is is = write_given h x place (op.Put v) t (line_is.places place (inl refl)) (line_is.values v (inl refl)) is
opened_given config h i s (command.Del place) reading limits t (Some x) line_is is = write_given h x place op.Delete t (line_is.places place (inl refl)) tt is
opened_given config h i s command.Commit reading limits t (Some x) line_is is = end_given h x t is
opened_given config h i s command.Abort reading limits t (Some x) line_is is = end_given h x t is
opened_given config h i s command.End reading limits t (Some x) line_is is = end_given h x t is
opened_given config h i s (command.Read strict places) reading limits t (Some x) line_is is = read_given h x limits t is
opened_given config h i s (command.Scan strict place) reading limits t (Some x) line_is is = read_given h x limits t is
opened_given config h i s line reading limits t (Some x) line_is is = is

-- ## a mover

abbrev pub UnderWayIsGiven : History → Option Command → Type 0
UnderWayIsGiven h None = Unit {0}
UnderWayIsGiven h (Some line) = LineIsGiven h line

pub record MoverIsGiven (h : History) (m : Mover) : Type 0 where
  pub open_is : OpenIsGiven h m.keeps.opened
  pub line_is : UnderWayIsGiven h m.line
  pub rest_is : Tells h m.rest

line_in : (h g : History) (line : Option Command) → Within h g → UnderWayIsGiven h line → UnderWayIsGiven g line
line_in h g None on is = tt
line_in h g (Some line) on is = record { places = places_in h g _ on is.places; values = λ v m. value_in h g v on (is.values v m) }

open_in : (h g : History) (opened : Option Opened) → Within h g → OpenIsGiven h opened → OpenIsGiven g opened
open_in h g None on is = tt
open_in h g (Some x) on is = writes_in h g (writes_of x.writes) on is

pub mover_in : (h g : History) (m : Mover) → Within h g → MoverIsGiven h m → MoverIsGiven g m
mover_in h g m on is = record {
  open_is = open_in h g m.keeps.opened on is.open_is;
  line_is = line_in h g m.line on is.line_is;
  rest_is = goes_in ToldIsGiven h g m.rest (λ t told_is. told_in h g t on told_is) on is.rest_is;
}

-- ## what is told

turn_tells : (h : History) (p : Program Told) (t : Told) → turn p ≡ program.Tell t → Tells h p → ToldIsGiven h t
turn_tells h (Done u) t is goes = let same : u ≡ t = cc in subst (λ (v : Told). ToldIsGiven h v) same goes
turn_tells h (Reads given) t is goes = cc
turn_tells h (Asks a q next) t is goes = cc

with_tells : (h : History) (p : Program Told) (reading : Option ℕ) (t : Told) → turn_with p reading ≡ program.Tell t → Tells h p → ToldIsGiven h t
with_tells h (Done u) None t is goes = turn_tells h (Done u) t is goes
with_tells h (Done u) (Some r) t is goes = cc
with_tells h (Asks a q next) None t is goes = cc
with_tells h (Asks a q next) (Some r) t is goes = cc
with_tells h (Reads given) None t is goes = cc
with_tells h (Reads given) (Some r) t is goes = turn_tells h (given r) t is (goes h (within_same h) r)

pub tells_given : (h : History) (m : Mover) (reading : Option ℕ) (t : Told) → CanTell m reading t → MoverIsGiven h m → ToldIsGiven h t
tells_given h m reading t can is = elim can [
  | inl turns ↦ with_tells h m.rest reading t turns is.rest_is
  | inr lost ↦ subst (λ (v : Told). ToldIsGiven h v) (sym lost.0) tt
]

-- ## one more entry of its own

kept_given : (config : Config) (h : History) (a : Actor) (m : Mover) (line : Option Command) (t : Told) → OpenIsGiven h m.keeps.opened → UnderWayIsGiven h line → OpenIsGiven h (kept_after config a m line t).opened
kept_given config h a m None t is line_is = is
kept_given config h a m (Some line) t is line_is = opened_given config h (session_of a) m.keeps line m.reading m.limits t m.keeps.opened line_is is

with_goes : (h : History) (p : Program Told) (reading : Option ℕ) → Tells h p → Tells h (with_reading p reading)
with_goes h (Done t) reading goes = goes
with_goes h (Asks a q next) reading goes = goes
with_goes h (Reads given) None goes = goes
with_goes h (Reads given) (Some r) goes = goes h (within_same h) r

heard_goes : (h : History) (p : Program Told) (r : Reply) → ReplyIsGiven h r → Tells h p → Tells h (heard p r)
heard_goes h (Done t) r is goes = goes
heard_goes h (Reads given) r is goes = goes
heard_goes h (Asks a q next) r is goes = goes h (within_same h) r is

-- what is started or heard by this event
abbrev pub OwnIsGiven : History → Event → Type 0
OwnIsGiven h (Start number line) = LineIsGiven h line
OwnIsGiven h (Hear from r) = ReplyIsGiven h r
OwnIsGiven h event = Unit {0}

pub mover_moves : (config : Config) (h : History) (a : Actor) (m : Mover) (reading : Option ℕ) (event : Event) → OwnIsGiven h event → MoverIsGiven h m → MoverIsGiven h (mover_after config a m reading event)
mover_moves config h a m reading (Start number line) own is = record { open_is = is.open_is; line_is = own; rest_is = program_goes config h a m.keeps line own is.open_is }
mover_moves config h a m reading (Ask to asked) own is = record { open_is = is.open_is; line_is = is.line_is; rest_is = with_goes h m.rest reading is.rest_is }
mover_moves config h a m reading (Hear from r) own is = record { open_is = is.open_is; line_is = is.line_is; rest_is = heard_goes h m.rest r own is.rest_is }
mover_moves config h a m reading (Tell number t) own is = record { open_is = kept_given config h a m m.line t is.open_is is.line_is; line_is = tt; rest_is = tt }
mover_moves config h a m reading (Serve from asked r time append) own is = is
mover_moves config h a m reading (Restarted from kept) own is = is
