-- A finished read outside a transaction took a reading of its session, and one inside took none.
use Rattle.std.proofs.Common.{◌≡◌, ℕ, Bool, true, false, ◌||◌, List, [], ◌∷◌, Option, Some, None, refl, sym, subst, inl, inr, if◌then◌else◌}
use Rattle.txn_data.specs.declared.actor.Actor.{Actor}
use Rattle.txn_data.specs.declared.actor.Actor.TheVariants.{Session}
use Rattle.txn_data.specs.declared.command.Command.{Command}
use Rattle.txn_data.specs.declared.command.Command.TheVariants as command
use Rattle.txn_data.specs.declared.config.Config.{Config}
use Rattle.txn_data.specs.declared.place.Place.{Place}
use Rattle.txn_data.specs.declared.read_kind.ReadKind.{ReadKind}
use Rattle.txn_data.specs.declared.read_kind.ReadKind.TheVariants.{Get, Scan}
use Rattle.txn_data.specs.declared.refusal.Refusal.TheVariants as refusal
use Rattle.txn_data.specs.declared.reply.Reply.TheVariants as reply
use Rattle.txn_data.specs.declared.row.Row.{Row}
use Rattle.txn_data.specs.declared.told.Told.{Told}
use Rattle.txn_data.specs.declared.told.Told.TheVariants as told
use Rattle.txn_data.specs.declared.told_refusal.ToldRefusal.TheVariants as told_refusal
use Rattle.txn_types.specs.History.{History}
use Rattle.txn_types.specs.Plan.{IsSession}
use Rattle.txn_types.specs.Program.{Program, Done, Asks, Reads}
use Rattle.txn_types.specs.ReadProgram.{read_program}
use Rattle.txn_types.specs.TxnProgram.{refused}
use Rattle.txn_types.specs.Session.{Keeps, Opened, has_writes, read_inside, read_command, command_program}
use Rattle.law_read_times.specs.Laws.{IsReadLine}
use Rattle.law_courses.specs.Course.{answered, Came}
use Rattle.law_courses.specs.Laws.{CouldStart, CameAbout}
use Rattle.law_steady_reads.proofs.Follows.{met_by, Inner, then_inner, EndOf, read_goes, Final, NotAtOnce, Outer, HasPlace, read_outer}
use Rattle.law_steady_reads.proofs.Finals.{places_some}

-- a program that takes no reading ends with the one that there was before
inner_had : {A : Type 0} (Q : List ℕ → A → Type 0) (mets : List ℕ) (m : Actor) (h : History) (own : Option ℕ) (low : History) (had : Option ℕ) (p : Program A) (end : A) → Inner Q mets p → Came m h own low had p end → had ≡ own
unfolding Came
inner_had Q mets m h own low had (Done a) end inner came = came.1
inner_had Q mets m h own low had (Asks to asked next) end inner came = elim came [
  | inl heard ↦ inner_had Q (met_by to heard.0.reply mets) m h own (answered m to asked h low heard.0) had (next heard.0.reply) end (inner to heard.0.reply) heard.1
  | inr other ↦ elim other [
    | inl restart ↦ inner_had Q (met_by to (reply.Restarted restart.1.0) mets) m h own low had (next (reply.Restarted restart.1.0)) end (inner to (reply.Restarted restart.1.0)) restart.1.1
    | inr none ↦ inner_had Q (met_by to (reply.Refused refusal.Memory) mets) m h own low had (next (reply.Refused refusal.Memory)) end (inner to (reply.Refused refusal.Memory)) none
  ]
]
inner_had Q mets m h own low had (Reads given) end inner came = absurd inner

-- the reading that the session took for a read: one outside a transaction, none inside
abbrev pub IsTaken : Option Opened → Option ℕ → Type 0
IsTaken None own = (reading : ℕ) × (own ≡ Some reading)
IsTaken (Some x) own = own ≡ None

first_taken : (s : Keeps) (m : Actor) (h low : History) (own : Option ℕ) (given : ℕ → Program Told) (at restarts : ℕ) (rows : List Row) → Outer s None [] (Reads given) → Came m h own low None (Reads given) (told.Values at restarts rows) → (reading : ℕ) × (own ≡ Some reading)
unfolding Came
first_taken s m h low own given at restarts rows outer came = elim came.1 [
  | inl more ↦ (came.0, sym (inner_had (Final s (Some came.0)) [] m h own low (Some came.0) (given came.0) (told.Values at restarts rows) (outer.1 came.0).0 more))
  | inr once ↦ absurd (subst NotAtOnce once (outer.1 came.0).1)
]

refused_never : (m : Actor) (h low : History) (own : Option ℕ) (at restarts : ℕ) (rows : List Row) → Came m h own low None (refused told_refusal.InDoubt) (told.Values at restarts rows) → ⊥
unfolding Came
refused_never m h low own at restarts rows came = let wrong = came.0 in cc

inside_taken : (x : Opened) (m : Actor) (h low : History) (own : Option ℕ) (kind : ReadKind) (strict : Bool) (places : List Place) (at restarts : ℕ) (rows : List Row) (b : Bool) →
    Came m h own low None (if b then refused told_refusal.InDoubt else read_inside x kind strict places) (told.Values at restarts rows) → own ≡ None
inside_taken x m h low own kind strict places at restarts rows true came = absurd (refused_never m h low own at restarts rows came)
inside_taken x m h low own kind strict places at restarts rows false came =
    let again = strict || has_writes x.writes || x.has_read in
    sym (inner_had (λ (mets : List ℕ) (t : Told). Unit {0}) [] m h own low None (read_inside x kind strict places) (told.Values at restarts rows)
    (then_inner (EndOf x.r) (λ (mets : List ℕ) (t : Told). Unit {0}) [] (read_program (Some x.meta.txn) kind places x.r x.g again x.limits) _ (read_goes (Some x.meta.txn) kind places x.r x.g again x.limits) (λ seen end final. tt)) came)

command_taken : (config : Config) (i : ℕ) (s : Keeps) (h low : History) (own : Option ℕ) (kind : ReadKind) (strict : Bool) (places : List Place) (at restarts : ℕ) (rows : List Row) (opened : Option Opened) → s.opened ≡ opened → HasPlace places →
    Came (Session i) h own low None (read_command config i s kind strict places opened) (told.Values at restarts rows) → IsTaken opened own
command_taken config i s h low own kind strict places at restarts rows None is some came = first_taken s (Session i) h low own _ at restarts rows (read_outer config i s kind strict places None is some) came
command_taken config i s h low own kind strict places at restarts rows (Some x) is some came = inside_taken x (Session i) h low own kind strict places at restarts rows x.in_doubt came

line_taken : (config : Config) (i : ℕ) (s : Keeps) (h low : History) (own : Option ℕ) (line : Command) (at restarts : ℕ) (rows : List Row) → IsReadLine (Some line) → CouldStart config (Session i) s line →
    Came (Session i) h own low None (command_program config i s line) (told.Values at restarts rows) → IsTaken s.opened own
line_taken config i s h low own (command.Read strict places) at restarts rows of could came =
    command_taken config i s h low own Get strict places at restarts rows s.opened refl (places_some 0 places could.2.2.0) came
line_taken config i s h low own (command.Scan strict place) at restarts rows of could came = command_taken config i s h low own Scan strict (place ∷ []) at restarts rows s.opened refl tt came
line_taken config i s h low own line at restarts rows of could came = absurd of

pub record Taken (config : Config) (i : ℕ) (s : Keeps) (own : Option ℕ) : Type 0 where
  pub session : IsSession i
  pub taken : IsTaken s.opened own

pub about_taken : (config : Config) (i : ℕ) (s : Keeps) (h low : History) (own : Option ℕ) (line : Option Command) (at restarts : ℕ) (rows : List Row) → IsReadLine line → CameAbout config (Session i) h low s own line (told.Values at restarts rows) → Taken config i s own
about_taken config i s h low own (Some line) at restarts rows of came = elim came.1 [
  | inl is ↦ record { session = came.0.2.0; taken = line_taken config i s h low own line at restarts rows of came.0 is }
  | inr memory ↦ cc
]
about_taken config i s h low own None at restarts rows of came = absurd of
