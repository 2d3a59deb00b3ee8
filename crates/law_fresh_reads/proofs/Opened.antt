-- The transaction that is open where a read starts, and that its begin came before.
use Rattle.std.proofs.Common.{◌≡◌, ℕ, ◌+◌, Bool, true, false, [], ◌∷◌, Option, Some, None, nat_eq, refl, sym, ◌∙◌, ap, subst, inl, inr, if◌then◌else◌}
use Rattle.txn_data.specs.declared.actor.Actor.{Actor}
use Rattle.txn_data.specs.declared.actor.Actor.TheVariants.{Session}
use Rattle.txn_data.specs.declared.command.Command.{Command}
use Rattle.txn_data.specs.declared.config.Config.{Config}
use Rattle.txn_data.specs.declared.told.Told.TheVariants as told
use Rattle.txn_data.specs.declared.event.Event.{Event}
use Rattle.txn_data.specs.declared.event.Event.TheVariants.{Tell}
use Rattle.txn_data.specs.declared.entry.Entry.{Entry}
use Rattle.txn_types.specs.Lists.{Member}
use Rattle.txn_types.specs.History.{History}
use Rattle.txn_types.specs.Session.{Keeps, Opened}
use Rattle.txn_types.specs.Reads.{Read, reads, before_start, start_of, opened_at, began_by, begin_of, origin, origin_under, open_txn}
use Rattle.txn_types.specs.Run.{Run, Steps, mover_at, session_of, IsUnderWay}
use Rattle.law_machines.specs.Own.{StandsOver}
use Rattle.law_machines.proofs.Basics.{eq_true}
use Rattle.law_machines.proofs.Owns.{steps_at}
use Rattle.law_messages.proofs.Rules.{entry}
use Rattle.law_owners.specs.Owner.{owner_of}
use Rattle.law_owners.proofs.Serials.{id_owner}
use Rattle.law_open_txns.proofs.Open.{OpenOk, OpenedOk, IdleOk}
use Rattle.law_session_order.proofs.Runs.{idle_ok}
use Rattle.law_read_times.specs.Laws.{IsReadLine, IsToldAt}
use Rattle.law_read_times.proofs.Runs.{reads_up}
use Rattle.law_courses.specs.Course.{IsPart}
use Rattle.law_courses.proofs.Courses.{told_came_about}
use Rattle.law_courses.proofs.Parts.{part_refl, part_trans, part_tail, stands_part, part_none}
use Rattle.law_steady_reads.proofs.FinalTimes.{read_facts, part_start, part_steps, start_of_keeps}
use Rattle.law_steady_reads.proofs.FinalTimes.{read_told as read_entry}
use Rattle.law_right_reads.proofs.Starts.{under_way}
use Rattle.law_right_reads.proofs.Starts.{start_of as began_at}
use Rattle.law_right_reads.proofs.Above.{about_clear}

-- ## what the session knows of it

ok_of : (config : Config) (h : History) (i last serial : ℕ) (o : Option Opened) (x : Opened) → OpenedOk config h (Session i) last serial o → o ≡ Some x → OpenOk config h (Session i) last serial x
ok_of config h i last serial (Some y) x ok is = let same : y ≡ x = cc in subst (λ (z : Opened). OpenOk config h (Session i) last serial z) same ok
ok_of config h i last serial None x ok is = cc

pub record OpenAtStart (config : Config) (read : Read) (x : Opened) : Type 0 where
  pub last : ℕ
  pub serial : ℕ
  pub ok : OpenOk config (start_of read) (Session read.session) last serial x
  pub doubt : x.in_doubt ≡ false

pub open_at_start : (config : Config) (h : History) (read : Read) (x : Opened) → Run config h → Member read (reads h) → opened_at config read ≡ Some x → OpenAtStart config read x
open_at_start config h read x run m is =
    let i = read.session in
    let a = Session i in
    let f = read_facts config h read run m in
    let t = read_entry h read m in
    let before = read.before in
    let low = start_of read in
    let e = entry a t.reading (Tell t.number (told.Values read.at read.restarts read.rows)) in
    let s = mover_at config a before in
    let x_now : s.keeps.opened ≡ Some x = sym (ap (λ (n : Keeps). n.opened) (start_of_keeps config read f)) ∙ is in
    let came = told_came_about config h before e run t.stands in
    let clear = about_clear config (e ∷ before) low i s.keeps s.reading s.line x read.at read.restarts read.rows (subst IsReadLine (sym f.line_is) f.reads) x_now came in
    let start = began_at config a before f.line f.run.1 f.line_is in
    let run_low : Run config low = (f.run.0, part_steps config low before (part_start a before) f.run.1) in
    let l = mover_at config a low in
    let idle : IdleOk config low a l.keeps = idle_ok config low i run_low start.idle in
    record { last = l.keeps.last; serial = l.keeps.serial; ok = ok_of config low i l.keeps.last l.keeps.serial l.keeps.opened x idle.opened is; doubt = clear }

-- ## its begin

-- where a transaction was told begun, and the history before the start of that command
data BeginIs (y : ℕ) (h value : History) : Type 0 where
  Nowhere : value ≡ [] → BeginIs y h value
  Here : (a : Actor) (reading : Option ℕ) (number at : ℕ) (g : History) → StandsOver (entry a reading (Tell number (told.Began y at))) g h → value ≡ before_start a g → BeginIs y h value

begin_more : (y : ℕ) (e : Entry) (h value : History) → BeginIs y h value → BeginIs y (e ∷ h) value
begin_more y e h value (Nowhere is) = Nowhere is
begin_more y e h value (Here a reading number at g stands is) = Here a reading number at g (inr stands) is

begin_choice : (b : Bool) (y z at number : ℕ) (a : Actor) (reading : Option ℕ) (h : History) → nat_eq z y ≡ b → BeginIs y h (begin_of y h) →
    BeginIs y (entry a reading (Tell number (told.Began z at)) ∷ h) (elim (if b then Some at else None) [ Some t ↦ before_start a h | None ↦ begin_of y h ])
begin_choice true y z at number a reading h same old = Here a reading number at h (inl (ap (λ (n : ℕ). entry a reading (Tell number (told.Began n at))) (eq_true z y same), refl)) refl
begin_choice false y z at number a reading h same old = begin_more y (entry a reading (Tell number (told.Began z at))) h (begin_of y h) old

begin_event : (y : ℕ) (a : Actor) (reading : Option ℕ) (event : Event) (h : History) → BeginIs y h (begin_of y h) → BeginIs y (entry a reading event ∷ h) (elim (began_by y event) [ Some t ↦ before_start a h | None ↦ begin_of y h ])
begin_event y a reading (Tell number (told.Began z at)) h old = begin_choice (nat_eq z y) y z at number a reading h refl old
begin_event y a reading event h old = begin_more y (entry a reading event) h (begin_of y h) old

begin_is : (y : ℕ) (h : History) → BeginIs y h (begin_of y h)
unfolding begin_of
begin_is y [] = Nowhere refl
begin_is y (e ∷ h) = begin_event y e.actor e.reading e.event h (begin_is y h)

line_some : (o : Option Command) → IsUnderWay o → (line : Command) × (o ≡ Some line)
line_some (Some line) is = (line, refl)
line_some None is = absurd is

-- it came before the start of the read
begin_part : (config : Config) (h : History) (read : Read) (x : Opened) (value : History) → Run config h → Member read (reads h) → opened_at config read ≡ Some x → BeginIs x.meta.txn read.before value → IsPart value (start_of read)
unfolding Steps
begin_part config h read x value run m is (Nowhere none) = subst (λ (l : History). IsPart l (start_of read)) (sym none) (part_none (start_of read))
begin_part config h read x value run m is (Here a reading number at g stands value_is) =
    let i = read.session in
    let f = read_facts config h read run m in
    let e = entry a reading (Tell number (told.Began x.meta.txn at)) in
    let up : IsToldAt config g a (Tell number (told.Began x.meta.txn at)) = reads_up config read.before g e f.run stands in
    let j = session_of a in
    let owner : owner_of x.meta.txn ≡ j = ap owner_of up.3 ∙ id_owner j ((mover_at config a g).keeps.serial + 1) up.4 in
    let mine : Session i ≡ Session (owner_of x.meta.txn) = (open_at_start config h read x run m is).ok.homed.0 in
    let same : a ≡ Session i = up.0 ∙ (ap Session (sym owner) ∙ sym mine) in
    let steps : Steps config (e ∷ g) = steps_at config e g read.before f.run.1 stands in
    let line = line_some (mover_at config a g).line steps.1.0 in
    let start = began_at config a g line.0 steps.0 line.1 in
    let low = before_start a g in
    let part : IsPart low read.before = part_trans low g read.before (part_start a g) (part_tail e g read.before (stands_part e g read.before stands)) in
    let idle : (mover_at config (Session i) low).line ≡ None = subst (λ (b : Actor). (mover_at config b low).line ≡ None) same start.idle in
    elim (under_way config (Session i) read.before low f.line f.line_is part) [
      | inl old ↦ subst (λ (l : History). IsPart l (start_of read)) (sym value_is) old
      | inr now ↦ cc
    ]

under_part : (config : Config) (h : History) (read : Read) (o : Option Opened) → Run config h → Member read (reads h) → opened_at config read ≡ o → IsPart (origin config read) (start_of read)
under_part config h read None run m is =
    subst (λ (l : History). IsPart l (start_of read)) (sym (ap (λ (o : Option Opened). origin_under read (open_txn o)) is)) (part_refl (start_of read))
under_part config h read (Some x) run m is =
    subst (λ (l : History). IsPart l (start_of read)) (sym (ap (λ (o : Option Opened). origin_under read (open_txn o)) is)) (begin_part config h read x (begin_of x.meta.txn read.before) run m is (begin_is x.meta.txn read.before))

pub origin_part : (config : Config) (h : History) (read : Read) → Run config h → Member read (reads h) → IsPart (origin config read) (start_of read)
origin_part config h read run m = under_part config h read (opened_at config read) run m refl
