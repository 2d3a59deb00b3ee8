-- Histories that are no runs, whatever stands before: a read is told nothing of what is in its window, or makes no second
-- round for what it met.
use Rattle.std.proofs.Common.{◌≡◌, ℕ, ◌||◌, Bool, true, false, not, List, [], ◌∷◌, Option, Some, None, filter, nat_le, refl, sym, subst, inl, inr, if◌then◌else◌}
use Rattle.doc_path.specs.Path.{Parts}
use Rattle.txn_data.specs.declared.actor.Actor.TheVariants.{Tablet, Status, Session}
use Rattle.txn_data.specs.declared.append.Append.TheVariants.{Nothing}
use Rattle.txn_data.specs.declared.command.Command.TheVariants as command
use Rattle.txn_data.specs.declared.config.Config.{Config}
use Rattle.txn_data.specs.declared.fate.Fate.TheVariants as fate
use Rattle.txn_data.specs.declared.fate_of.FateOf.{FateOf}
use Rattle.txn_data.specs.declared.met_at.MetAt.{MetAt}
use Rattle.txn_data.specs.declared.place.Place.{Place}
use Rattle.txn_data.specs.declared.read_kind.ReadKind.{ReadKind}
use Rattle.txn_data.specs.declared.read_kind.ReadKind.TheVariants.{Get}
use Rattle.txn_data.specs.declared.request.Request.{Request}
use Rattle.txn_data.specs.declared.request.Request.TheVariants as request
use Rattle.txn_data.specs.declared.reply.Reply.{Reply}
use Rattle.txn_data.specs.declared.reply.Reply.TheVariants as reply
use Rattle.txn_data.specs.declared.row.Row.{Row}
use Rattle.txn_data.specs.declared.told.Told.{Told}
use Rattle.txn_data.specs.declared.told.Told.TheVariants as told
use Rattle.txn_data.specs.declared.told_refusal.ToldRefusal.TheVariants as told_refusal
use Rattle.txn_data.specs.declared.version.Version.{Version}
use Rattle.txn_data.specs.declared.window.Window.{Window}
use Rattle.txn_data.specs.declared.event.Event.{Event}
use Rattle.txn_data.specs.declared.event.Event.TheVariants.{Start, Ask, Serve, Hear, Tell}
use Rattle.txn_data.specs.declared.entry.Entry.{Entry}
use Rattle.txn_types.specs.Lists.{Member, with_number, rising}
use Rattle.txn_types.specs.History.{History, own, was_logged, counting_before}
use Rattle.txn_types.specs.Clock.{told_only, down_since}
use Rattle.txn_types.specs.Tablet.{Intent, txn_of, is_own, first_fate, version_at, provisional, provisional_over, versions, considered, under_fate, is_met, better_met, met_in, collected, tablet_standing}
use Rattle.txn_types.specs.Program as program
use Rattle.txn_types.specs.Program.{Program, Done, then_do, heard, turn_with, with_reading}
use Rattle.txn_types.specs.ReadProgram.{read_program, ask_fates, round_two, round_one}
use Rattle.txn_types.specs.TxnProgram.{refused}
use Rattle.txn_types.specs.Session.{Keeps, Opened, read_command, read_told, writes_of, has_writes}
use Rattle.txn_types.specs.Run.{Run, Serves, Steps, mover_at}
use Rattle.law_machines.proofs.Basics.{member_right, member_filter}
use Rattle.law_machines.proofs.Owns.{serves_at}
use Rattle.law_write_order.proofs.Found.{member_mapped}
use Rattle.law_values.proofs.Orders.{sorted_into}
use Rattle.law_promises.proofs.Cases.{x, doc, at_status, at_tablet, commits, asks_to_commit, writes}
use Rattle.law_promises.proofs.TabletCases.{record_of}

abbrev place : Place
place = record { tablet = 0; path = doc }

abbrev by_reader : Option ℕ → Event → Entry
by_reader reading event = record { actor = Session 2; reading = reading; event = event }

-- what a read at 6 asks in its first round, and what it hears: the write that is listed is committed at 9
abbrev list : Request
list = request.ListRead None (doc ∷ []) 6 8191 None

abbrev listed : Reply
listed = reply.Listed 7 ((record { txn = x; status = 0 }) ∷ [])

abbrev ask : Request
ask = request.AskFate x 6

abbrev answered : Reply
answered = reply.FateIs (fate.Committed 9)

abbrev window : Window
window = record { g = 8191; limit = 7 }

abbrev told_nine : List FateOf
told_nine = (record { txn = x; fate = fate.Committed 9 }) ∷ []

abbrev collect : Request
collect = request.Collect None Get (doc ∷ []) 6 (Some window) told_nine

abbrev listing : Entry
listing = at_tablet (Serve (Session 2) list listed (Some 7) Nothing)

-- its entries from its start, until it asks to collect; the number is that of the command
abbrev asks_to_collect : ℕ → History → History
asks_to_collect number h =
    by_reader None (Ask (Tablet 0) collect)
    ∷ by_reader None (Hear (Status 0) answered)
    ∷ at_status (Serve (Session 2) ask answered (Some 9) Nothing)
    ∷ by_reader None (Ask (Status 0) ask)
    ∷ by_reader None (Hear (Tablet 0) listed)
    ∷ listing
    ∷ by_reader (Some 0) (Ask (Tablet 0) list)
    ∷ by_reader None (Start number (command.Read false (place ∷ [])))
    ∷ h

-- the tablet answers it so
abbrev collects : Reply → Entry
collects r = record { actor = Tablet 0; reading = None; event = Serve (Session 2) collect r None Nothing }

-- ## a window that holds the commit time against the local limit

chosen_none : (b : Bool) (v : Version) (rest : Option MetAt) → (if b then Some (better_met v rest) else rest) ≡ None → (b ≡ false) × (rest ≡ None)
chosen_none true v rest is = cc
chosen_none false v rest is = (refl, is)

none_met : (w : Window) (t : ℕ) (paths : List Parts) (vs : List Version) (v : Version) → met_in w t paths vs ≡ None → Member v vs → is_met w t paths v ≡ false
unfolding met_in
none_met w t paths [] v is m = absurd m
none_met w t paths (u ∷ vs) v is m =
    let none = chosen_none (is_met w t paths u) u (met_in w t paths vs) is in
    elim m [
      | inl here ↦ subst (λ (z : Version). is_met w t paths z ≡ false) (sym here) none.0
      | inr later ↦ none_met w t paths vs v none.1 later
    ]

collected_none : (kind : ReadKind) (paths : List Parts) (t : ℕ) (vs : List Version) (m : Option MetAt) (rows : List Row) → reply.Collected rows ≡ collected kind paths t vs m → m ≡ None
collected_none kind paths t vs (Some m) rows is = cc
collected_none kind paths t vs None rows is = refl

up_collected : (d : Option ℕ) (rows : List Row) (r : Reply) → reply.Collected rows ≡ (tablet_standing d (told_only r)).reply → reply.Collected rows ≡ r
up_collected (Some n) rows r is = cc
up_collected None rows r is = is

is_considered : (ps : List Intent) (vs : List Version) → Member (record_of 5) ps → Member (version_at 9 (record_of 5)) (considered None told_nine ps vs)
unfolding first_fate
is_considered ps vs m =
    member_right (version_at 9 (record_of 5)) vs _
    (member_mapped (under_fate told_nine) (record_of 5) (version_at 9 (record_of 5)) _
    (sorted_into (λ (p q : Intent). nat_le (txn_of p) (txn_of q)) (record_of 5) _ (member_filter (λ (p : Intent). not (is_own None (txn_of p))) (record_of 5) ps m refl)) refl)

-- the listing leaves the provisional record of the write at 5
is_listed : (o : History) → Member (record_of 5) (provisional (listing ∷ writes 5 ∷ o))
unfolding counting_before provisional_over
is_listed o = member_right (record_of 5) (provisional_over (filter (λ (e : Entry). was_logged e.event) (counting_before (writes 5 ∷ listing ∷ []) o))) (record_of 5 ∷ []) (inl refl)

-- the write at 5 is within the limit 7, though its commit at 9 is not: nothing is met
limit_on_commit_times : (config : Config) (h : History) (number other : ℕ) (rows : List Row) →
    Run config (collects (reply.Collected rows) ∷ asks_to_collect other (commits 5 9 ∷ asks_to_commit number 5 5 h)) → ⊥
limit_on_commit_times config h number other rows run =
    let before = asks_to_collect other (commits 5 9 ∷ asks_to_commit number 5 5 h) in
    let o = own (Tablet 0) before in
    let vs = considered None told_nine (provisional o) (versions o) in
    let now = collects (reply.Collected rows) in
    let served : Serves config.lease_us (Tablet 0) o None collect (reply.Collected rows) None Nothing = serves_at config now before (now ∷ before) run.1 (inl (refl, refl)) in
    let none = collected_none Get (doc ∷ []) 6 vs (met_in window 6 (doc ∷ []) vs) rows (up_collected (down_since o) rows (collected Get (doc ∷ []) 6 vs (met_in window 6 (doc ∷ []) vs)) served.replied) in
    let unmet : true ≡ false = none_met window 6 (doc ∷ []) vs (version_at 9 (record_of 5)) none (is_considered (provisional o) (versions o) (is_listed (own (Tablet 0) h))) in
    cc

-- ## a read without its second round

abbrev met : Reply
met = reply.Met 9 doc

abbrev first_round : ℕ → History → History
first_round number h = by_reader None (Hear (Tablet 0) met) ∷ collects met ∷ asks_to_collect number h

-- what is left of a program once these replies have come
abbrev left_after : Program Told → Program Told
left_after p = heard (with_reading (heard (with_reading (heard (with_reading p (Some 0)) listed) None) answered) None) met

-- what its session is told then
abbrev values : List Row → Told
values rows = told.Values 9 1 rows

-- no values are told now: all is listed again, or it ends by a refusal
abbrev NoValues : Program Told → List Row → Type 0
NoValues p rows = turn_with (left_after p) None ≡ program.Tell (values rows) → ⊥

-- inside a transaction, which may be in doubt; once that wrote or read, the read must not restart
none_inside : (doubt strict : Bool) (rows : List Row) (y : Opened) → NoValues
    (if doubt then refused told_refusal.InDoubt
    else then_do (read_program (Some y.meta.txn) Get (place ∷ []) y.r y.g strict y.limits) (λ end. Done (read_told Get (writes_of y.writes) (place ∷ []) end))) rows
unfolding with_number rising then_do ask_fates round_two round_one
none_inside true strict rows y = λ is. cc
none_inside false true rows y = λ is. cc
none_inside false false rows y = λ is. cc

no_values : (rows : List Row) (config : Config) (s : Keeps) (opened : Option Opened) → NoValues (read_command config 2 s Get false (place ∷ []) opened) rows
unfolding with_number rising then_do ask_fates round_two round_one
no_values rows config s None = λ is. cc
no_values rows config s (Some y) = none_inside y.in_doubt (false || has_writes y.writes || y.has_read) rows y

-- it tells values at the time that it met, and did not collect at that time
read_without_second_round : (config : Config) (h : History) (number : ℕ) (rows : List Row) →
    Run config (by_reader None (Tell number (values rows)) ∷ first_round number h) → ⊥
unfolding Steps mover_at
read_without_second_round config h number rows run =
    let s = (mover_at config (Session 2) h).keeps in
    elim run.1.1.3 [
      | inl is ↦ no_values rows config s s.opened is
      | inr memory ↦ let is = memory.0 in cc
    ]
