-- What a program tells of paths and values is given, where what it hears is, and its line and its transaction's writes are.
use Rattle.std.proofs.Common.{◌≡◌, ℕ, ◌+◌, Bool, true, false, ◌||◌, List, [], ◌∷◌, Option, Some, None, Result, Ok, Err, max, nat_eq, length, filter, flat_map, refl, sym, subst, inl, inr, if◌then◌else◌}
use Rattle.hybrid_time.specs.Time.{limit_time, least_time}
use Rattle.hybrid_time.specs.declared.time_refusal.TimeRefusal.{TimeRefusal}
use Rattle.doc_path.specs.Path.{Parts}
use Rattle.txn_data.specs.declared.actor.Actor.{Actor}
use Rattle.txn_data.specs.declared.actor.Actor.TheVariants.{Tablet, Status, Session, Applier}
use Rattle.txn_data.specs.declared.command.Command.{Command}
use Rattle.txn_data.specs.declared.command.Command.TheVariants as command
use Rattle.txn_data.specs.declared.config.Config.{Config}
use Rattle.txn_data.specs.declared.fate.Fate.TheVariants as fate
use Rattle.txn_data.specs.declared.fate_of.FateOf.{FateOf}
use Rattle.txn_data.specs.declared.found.Found.{Found}
use Rattle.txn_data.specs.declared.meta.Meta.{Meta}
use Rattle.txn_data.specs.declared.op.Op.{Op}
use Rattle.txn_data.specs.declared.op.Op.TheVariants as op
use Rattle.txn_data.specs.declared.place.Place.{Place}
use Rattle.txn_data.specs.declared.read_end.ReadEnd.{ReadEnd}
use Rattle.txn_data.specs.declared.read_kind.ReadKind.{ReadKind}
use Rattle.txn_data.specs.declared.read_kind.ReadKind.TheVariants.{Get, Scan}
use Rattle.txn_data.specs.declared.read_what.ReadWhat.{ReadWhat}
use Rattle.txn_data.specs.declared.read_what.ReadWhat.TheVariants as what
use Rattle.txn_data.specs.declared.row.Row.{Row}
use Rattle.txn_data.specs.declared.tablet_limit.TabletLimit.{TabletLimit}
use Rattle.txn_data.specs.declared.txn_step.TxnStep.TheVariants as step
use Rattle.txn_data.specs.declared.written.Written.{Written}
use Rattle.txn_data.specs.declared.refusal.Refusal.{Refusal}
use Rattle.txn_data.specs.declared.refusal.Refusal.TheVariants as refusal
use Rattle.txn_data.specs.declared.reply.Reply.{Reply}
use Rattle.txn_data.specs.declared.reply.Reply.TheVariants as reply
use Rattle.txn_data.specs.declared.told.Told.{Told}
use Rattle.txn_data.specs.declared.told.Told.TheVariants as told
use Rattle.txn_data.specs.declared.told_refusal.ToldRefusal.{ToldRefusal}
use Rattle.txn_data.specs.declared.told_refusal.ToldRefusal.TheVariants as told_refusal
use Rattle.txn_types.specs.Lists.{Member}
use Rattle.txn_types.specs.History.{History}
use Rattle.txn_types.specs.Writes.{last_word, value, beneath}
use Rattle.txn_types.specs.Tablet.{same_path}
use Rattle.txn_types.specs.Plan.{places_of}
use Rattle.txn_types.specs.Program.{Program, Done, Asks, Reads, then_do, refusal_told}
use Rattle.txn_types.specs.ReadProgram.{Asked, TabletRows, Progress, tablets_of, read_refused, ask_fates, visit, with_tablet_rows, row_of, rows_from, all_rows, read_done, round_two, restarted, met_then, round_one, read_program}
use Rattle.txn_types.specs.TxnProgram.{refused, write_refused, resolve_all, find_others, txn_program}
use Rattle.txn_types.specs.PassProgram.{Counts, apply_then, clean_then, pass_over, pass_program}
use Rattle.txn_types.specs.Session.{Keeps, Opened, next_meta, begin_program, row_under, is_untouched, rows_under, read_told, read_at, read_inside, read_command, write_command, commit_command, abort_command, if_closed, restart_program, command_program, has_writes, writes_of, tablets_used, timed_then, moved_then}
use Rattle.txn_types.specs.Run.{program_of}
use Rattle.law_machines.proofs.Basics.{member_cases, filter_member}
use Rattle.law_values.proofs.Rows.{with_rows_from}
use Rattle.law_told_values.specs.Given.{values_of, PathIsGiven, ValueIsGiven, RowIsGiven, RowsAreGiven, ToldIsGiven}
use Rattle.law_told_values.proofs.Grounds.{Within, within_same, within_trans, path_in, rows_in, WritesAreGiven, writes_in, value_given, beneath_given, no_rows, rows_of_each, mapped_rows}
use Rattle.law_told_values.proofs.Tables.{ReplyIsGiven}

-- what it ends with, whatever given replies it hears
abbrev pub Goes : {A : Type 0} → (History → A → Type 0) → History → Program A → Type 0
Goes T h (Done a) = T h a
Goes T h (Asks to asked next) = (g : History) → Within h g → (r : Reply) → ReplyIsGiven g r → Goes T g (next r)
Goes T h (Reads given) = (g : History) → Within h g → (reading : ℕ) → Goes T g (given reading)

pub goes_in : {A : Type 0} (T : History → A → Type 0) (h g : History) (p : Program A) → ((a : A) → T h a → T g a) → Within h g → Goes T h p → Goes T g p
goes_in T h g (Done a) ends on goes = ends a goes
goes_in T h g (Asks to asked next) ends on goes = λ f more. goes f (within_trans h g f on more)
goes_in T h g (Reads given) ends on goes = λ f more. goes f (within_trans h g f on more)

then_goes : {A B : Type 0} (T : History → A → Type 0) (U : History → B → Type 0) (low h : History) (p : Program A) (next : A → Program B) → Within low h → Goes T h p →
    ((g : History) (a : A) → Within low g → T g a → Goes U g (next a)) → Goes U h (then_do p next)
unfolding then_do
then_goes T U low h (Done a) next above first rest = rest h a above first
then_goes T U low h (Asks to asked heard) next above first rest = λ g on r is. then_goes T U low g (heard r) next (within_trans low h g above on) (first g on r is) rest
then_goes T U low h (Reads given) next above first rest = λ g on reading. then_goes T U low g (given reading) next (within_trans low h g above on) (first g on reading) rest

refused_given : (h : History) (a : Actor) (why : Refusal) → ToldIsGiven h (told.Refused (refusal_told a why))
refused_given h a (refusal.Conflict other) = tt
refused_given h a why = tt

-- ## reads

abbrev pub PlacesAreGiven : History → List Place → Type 0
PlacesAreGiven h places = (p : Place) → Member p places → PathIsGiven h p.path

pub places_in : (h g : History) (places : List Place) → Within h g → PlacesAreGiven h places → PlacesAreGiven g places
places_in h g places on are = λ p m. path_in h g p.path on (are p m)

abbrev WhatIsGiven : History → ReadWhat → Type 0
WhatIsGiven h (what.Values rows) = RowsAreGiven h rows
WhatIsGiven h (what.Restart at path) = PathIsGiven h path
WhatIsGiven h (what.Refused why) = ToldIsGiven h (told.Refused why)

abbrev EndIsGiven : History → ReadEnd → Type 0
EndIsGiven h end = WhatIsGiven h end.what

abbrev GoesOn : History → Program ReadEnd → Type 0
GoesOn h p = Goes EndIsGiven h p

abbrev FoundIsGiven : History → List TabletRows → Type 0
FoundIsGiven h found = (f : TabletRows) → Member f found → RowsAreGiven h f.rows

found_rows : (h g : History) (found : List TabletRows) → Within h g → FoundIsGiven h found → FoundIsGiven g found
found_rows h g found on are = λ f m. rows_in h g f.rows on (are f m)

found_more : (h : History) (k : ℕ) (rows : List Row) (s : Progress) → FoundIsGiven h s.found → RowsAreGiven h rows → FoundIsGiven h (with_tablet_rows k rows s).found
found_more h k rows s are is = λ f m. elim (member_cases f s.found _ m) [
  | inl old ↦ are f old
  | inr new ↦ elim new [ inl here ↦ subst (λ (g : TabletRows). RowsAreGiven h g.rows) (sym here) is | inr never ↦ absurd never ]
]

row_choice : (b : Bool) (h : History) (r q : Row) → RowIsGiven h r → RowIsGiven h q → RowIsGiven h (if b then r else q)
row_choice true h r q one two = one
row_choice false h r q one two = two

row_given : (h : History) (p : Parts) (rows : List Row) → PathIsGiven h p → RowsAreGiven h rows → RowIsGiven h (row_of p rows)
unfolding row_of
row_given h p [] path are = (path, tt)
row_given h p (r ∷ rs) path are = row_choice (same_path r.path p) h r (row_of p rs) (are r (inl refl)) (row_given h p rs path (λ q m. are q (inr m)))

rows_choice : (b : Bool) (h : History) (one two : List Row) → RowsAreGiven h one → RowsAreGiven h two → RowsAreGiven h (if b then one else two)
rows_choice true h one two first second = first
rows_choice false h one two first second = second

from_given : (h : History) (k : ℕ) (found : List TabletRows) → FoundIsGiven h found → RowsAreGiven h (rows_from k found)
unfolding rows_from
from_given h k [] are = no_rows h
from_given h k (f ∷ fs) are = rows_choice (nat_eq f.tablet k) h f.rows (rows_from k fs) (are f (inl refl)) (from_given h k fs (λ g m. are g (inr m)))

all_given : (h : History) (kind : ReadKind) (places : List Place) (found : List TabletRows) → PlacesAreGiven h places → FoundIsGiven h found → RowsAreGiven h (all_rows kind places found)
all_given h Get places found named are = mapped_rows h (λ (p : Place). row_of p.path (rows_from p.tablet found)) places (λ p m. row_given h p.path (rows_from p.tablet found) (named p m) (from_given h p.tablet found are))
all_given h Scan places found named are = rows_of_each h (λ (f : TabletRows). f.rows) found are

fates_goes : (h : History) (s : Progress) (fs : List Found) (fates : List FateOf) (next : List FateOf → Program ReadEnd) → ((g : History) → Within h g → (found : List FateOf) → GoesOn g (next found)) → GoesOn h (ask_fates s fs fates next)
unfolding ask_fates
fates_goes h s [] fates next goes = goes h (within_same h) fates
fates_goes h s (f ∷ fs) fates next goes = λ g on. elim [
  | reply.FateIs heard ↦ λ is. fates_goes g s fs _ next (λ k more. goes k (within_trans h g k on more))
  | reply.Refused why ↦ λ is. refused_given g (Status f.status) why
  | _ ↦ λ is. tt
]

visit_goes : (h : History) (a : Asked) (s : Progress) (windowed : Bool) (k : ℕ) (next : Progress → Reply → Program ReadEnd) →
    ((g : History) → Within h g → (seen : Progress) → seen.found ≡ s.found → (r : Reply) → ReplyIsGiven g r → GoesOn g (next seen r)) → GoesOn h (visit a s windowed k next)
visit_goes h a s windowed k next goes = λ g on. elim [
  | reply.Listed limit others ↦ λ is. fates_goes g _ others [] _ (λ f more fates. λ l after answer given. goes l (within_trans h f l (within_trans h g f on more) after) _ refl answer given)
  | reply.Refused why ↦ λ is. refused_given g (Tablet k) why
  | _ ↦ λ is. tt
]

abbrev two_next : Asked → ℕ → List ℕ → Progress → Reply → Program ReadEnd
two_next a k ks seen answer = elim answer [
  | reply.Collected rows ↦ round_two a (with_tablet_rows k rows seen) ks
  | reply.Refused why ↦ read_refused (refusal_told (Tablet k) why) seen
  | _ ↦ read_refused told_refusal.Memory seen
]

abbrev one_next : Asked → ℕ → List ℕ → Progress → Reply → Program ReadEnd
one_next a k ks seen answer = elim answer [
  | reply.Collected rows ↦ round_one a (with_tablet_rows k rows seen) ks
  | reply.Met at path ↦ met_then a.strict (what.Restart at path) seen (round_one a (restarted at seen) ks)
  | reply.Refused why ↦ read_refused (refusal_told (Tablet k) why) seen
  | _ ↦ read_refused told_refusal.Memory seen
]

seen_found : (h g : History) (s seen : Progress) → Within h g → seen.found ≡ s.found → FoundIsGiven h s.found → FoundIsGiven g seen.found
seen_found h g s seen on same are = subst (FoundIsGiven g) (sym same) (found_rows h g s.found on are)

two_goes : (h : History) (a : Asked) (s : Progress) (ks : List ℕ) → PlacesAreGiven h a.places → FoundIsGiven h s.found → GoesOn h (round_two a s ks)
unfolding round_two
two_goes h a s [] named are = all_given h a.kind a.places s.found named are
two_goes h a s (k ∷ ks) named are = visit_goes h a s false k (two_next a k ks) (λ g on seen same. elim [
  | reply.Collected rows ↦ λ is. two_goes g a (with_tablet_rows k rows seen) ks (places_in h g a.places on named) (found_more g k rows seen (seen_found h g s seen on same are) is)
  | reply.Refused why ↦ λ is. refused_given g (Tablet k) why
  | _ ↦ λ is. tt
])

choice_goes : {A : Type 0} (T : History → A → Type 0) (b : Bool) (h : History) (p q : Program A) → Goes T h p → Goes T h q → Goes T h (if b then p else q)
choice_goes T true h p q one two = one
choice_goes T false h p q one two = two

met_goes : (strict : Bool) (h : History) (end : ReadWhat) (s : Progress) (next : Program ReadEnd) → WhatIsGiven h end → GoesOn h next → GoesOn h (met_then strict end s next)
met_goes true h end s next is goes = is
met_goes false h end s next is goes = goes

one_goes : (h : History) (a : Asked) (s : Progress) (ks : List ℕ) → PlacesAreGiven h a.places → FoundIsGiven h s.found → GoesOn h (round_one a s ks)
unfolding round_one
one_goes h a s [] named are =
    choice_goes EndIsGiven (nat_eq s.restarts 0) h (read_done a s) _ (all_given h a.kind a.places s.found named are) (two_goes h a _ (tablets_of a.places) named (λ f m. absurd m))
one_goes h a s (k ∷ ks) named are = visit_goes h a s true k (one_next a k ks) (λ g on seen same. elim [
  | reply.Collected rows ↦ λ is. one_goes g a (with_tablet_rows k rows seen) ks (places_in h g a.places on named) (found_more g k rows seen (seen_found h g s seen on same are) is)
  | reply.Met t path ↦ λ is. met_goes a.strict g (what.Restart t path) seen _ is (one_goes g a (restarted t seen) ks (places_in h g a.places on named) (seen_found h g s seen on same are))
  | reply.Refused why ↦ λ is. refused_given g (Tablet k) why
  | _ ↦ λ is. tt
])

-- ## a read's own writes over its rows

under_choice : (h : History) (ws : List Written) (row : Row) (word : Option Written) → WritesAreGiven h ws → RowIsGiven h row → RowIsGiven h (elim word [ Some w ↦ record { path = row.path; value = value ws row.path } | None ↦ row ])
under_choice h ws row (Some w) are is = (is.0, value_given h ws row.path are)
under_choice h ws row None are is = is

under_given : (h : History) (kind : ReadKind) (ws : List Written) (places : List Place) (rows : List Row) → WritesAreGiven h ws → RowsAreGiven h rows → RowsAreGiven h (rows_under kind ws places rows)
under_given h Get ws places rows are is = mapped_rows h (row_under ws) rows (λ row m. under_choice h ws row (last_word ws row.path) are (is row m))
under_given h Scan ws places rows are is = λ row m. elim (with_rows_from (flat_map (λ (p : Place). beneath ws p.path) places) (filter (is_untouched ws) rows) row m) [
  | inl laid ↦ rows_of_each h (λ (p : Place). beneath ws p.path) places (λ p n. beneath_given h ws p.path are) row laid
  | inr old ↦ is row (filter_member (is_untouched ws) row rows old).0
]

told_goes : (h : History) (kind : ReadKind) (ws : List Written) (places : List Place) (end : ReadEnd) → WritesAreGiven h ws → EndIsGiven h end → ToldIsGiven h (read_told kind ws places end)
told_goes h kind ws places end are is = what_goes end.what is
  where
    what_goes : (w : ReadWhat) → WhatIsGiven h w → ToldIsGiven h (read_told kind ws places (record end { what = w }))
    what_goes (what.Values rows) given = under_given h kind ws places rows are given
    what_goes (what.Restart t path) given = given
    what_goes (what.Refused why) given = given

abbrev pub Tells : History → Program Told → Type 0
Tells h p = Goes ToldIsGiven h p

read_goes : (h : History) (own_txn : Option ℕ) (kind : ReadKind) (ws : List Written) (places : List Place) (t g : ℕ) (strict : Bool) (limits : List TabletLimit) → PlacesAreGiven h places → WritesAreGiven h ws →
    Tells h (then_do (read_program own_txn kind places t g strict limits) (λ end. Done (read_told kind ws places end)))
read_goes h own_txn kind ws places t g strict limits named are =
    then_goes EndIsGiven ToldIsGiven h h (read_program own_txn kind places t g strict limits) (λ end. Done (read_told kind ws places end)) (within_same h)
    (one_goes h _ _ (tablets_of places) named (λ f m. absurd m)) (λ k end on is. told_goes k kind ws places end (writes_in h k ws on are) is)

-- ## transactions and passes tell no path and no value

resolve_goes : (h : History) (meta : Meta) (fs : List Found) (fates : List FateOf) (stop : ToldRefusal → Program Told) (next : List FateOf → Program Told) → ((g : History) (a : Actor) (why : Refusal) → Tells g (stop (refusal_told a why))) →
    ((g : History) (other : ℕ) → Tells g (stop (told_refusal.Conflict other))) → ((g : History) (found : List FateOf) → Tells g (next found)) → Tells h (resolve_all meta fs fates stop next)
unfolding resolve_all
resolve_goes h meta [] fates stop next stops conflicts goes = goes h fates
resolve_goes h meta (f ∷ fs) fates stop next stops conflicts goes = λ g on. elim [
  | reply.FateIs fate.Pending ↦ λ is. conflicts g f.txn
  | reply.FateIs settled ↦ λ is. resolve_goes g meta fs _ stop next stops conflicts goes
  | reply.Refused why ↦ λ is. stops g (Status f.status) why
  | _ ↦ λ is. tt
]

find_goes : (h : History) (meta : Meta) (place : Place) (stop : ToldRefusal → Program Told) (next : List FateOf → Program Told) → ((g : History) (a : Actor) (why : Refusal) → Tells g (stop (refusal_told a why))) →
    ((g : History) (other : ℕ) → Tells g (stop (told_refusal.Conflict other))) → ((g : History) (found : List FateOf) → Tells g (next found)) → Tells h (find_others meta place stop next)
find_goes h meta place stop next stops conflicts goes = λ g on. elim [
  | reply.Others found ↦ λ is. resolve_goes g meta found [] stop next stops conflicts goes
  | reply.Refused why ↦ λ is. stops g (Tablet place.tablet) why
  | _ ↦ λ is. tt
]

stop_goes : (g : History) (meta : Meta) (a : Actor) (why : Refusal) → Tells g (write_refused meta (refusal_told a why))
stop_goes g meta a (refusal.Conflict other) = λ k on r is. tt
stop_goes g meta a (refusal.Overlap at) = λ k on r is. tt
stop_goes g meta a refusal.LogFault = λ k on r is. tt
stop_goes g meta a why = tt

write_goes : (h : History) (meta : Meta) (number : ℕ) (place : Place) (o : Op) (read seen : ℕ) → Tells h (txn_program (step.Write meta number place o read seen))
write_goes h meta number place o read seen = find_goes h meta place (write_refused meta) _ (λ g a why. stop_goes g meta a why) (λ g other k on r is. tt) (λ g fates f on. elim [
  | reply.Written w ↦ λ is. tt
  | reply.Refused why ↦ λ is. stop_goes f meta (Tablet place.tablet) why
  | _ ↦ λ is. tt
])

single_goes : (h : History) (meta : Meta) (place : Place) (o : Op) (seen : ℕ) → Tells h (txn_program (step.Single meta place o seen))
single_goes h meta place o seen = find_goes h meta place refused _ (λ g a why. refused_given g a why) (λ g other. tt) (λ g fates f on. elim [
  | reply.SingleDone at ↦ λ is. tt
  | reply.Refused why ↦ λ is. refused_given f (Tablet place.tablet) why
  | _ ↦ λ is. tt
])

begin_goes : (h : History) (meta : Meta) (r : ℕ) → Tells h (txn_program (step.Begin meta r))
begin_goes h meta r = λ g on. elim [ reply.Begun ↦ λ is. tt | reply.Refused why ↦ λ is. refused_given g (Status meta.status) why | _ ↦ λ is. tt ]

commit_goes : (h : History) (meta : Meta) (floor : ℕ) (tablets : List ℕ) → Tells h (txn_program (step.Commit meta floor tablets))
commit_goes h meta floor tablets = λ g on. elim [ reply.Committed at ↦ λ is. tt | reply.AbortedBy by ↦ λ is. tt | reply.Gone ↦ λ is. tt | reply.Refused why ↦ λ is. refused_given g (Status meta.status) why | _ ↦ λ is. tt ]

abort_goes : (h : History) (meta : Meta) → Tells h (txn_program (step.Abort meta))
abort_goes h meta = λ g on. elim [ reply.Ended ↦ λ is. tt | reply.Committed at ↦ λ is. tt | reply.Refused why ↦ λ is. refused_given g (Status meta.status) why | _ ↦ λ is. tt ]

applied_goes : (h : History) (k : ℕ) (f : Found) (c : ℕ) (next : Program Told) → ((g : History) → Tells g next) → Tells h (apply_then k f c next)
applied_goes h k f c next goes = λ g on. elim [
  | reply.AppliedHere ↦ λ is. λ l more. elim [ reply.Noted ↦ λ noted. goes l | reply.Refused why ↦ λ noted. refused_given l (Status f.status) why | _ ↦ λ noted. tt ]
  | reply.Refused why ↦ λ is. refused_given g (Tablet k) why
  | _ ↦ λ is. tt
]

cleaned_goes : (h : History) (k : ℕ) (f : Found) (next : Program Told) → ((g : History) → Tells g next) → Tells h (clean_then k f next)
cleaned_goes h k f next goes = λ g on. elim [ reply.Cleaned ↦ λ is. goes g | reply.Refused why ↦ λ is. refused_given g (Tablet k) why | _ ↦ λ is. tt ]

over_goes : (h : History) (k : ℕ) (n : Counts) (fs : List Found) → Tells h (pass_over k n fs)
unfolding pass_over
over_goes h k n [] = tt
over_goes h k n (f ∷ fs) = λ g on. elim [
  | reply.FateIs fate.Pending ↦ λ is. over_goes g k (record n { left = n.left + 1 }) fs
  | reply.FateIs (fate.Committed c) ↦ λ is. applied_goes g k f c _ (λ l. over_goes l k (record n { applied = n.applied + 1 }) fs)
  | reply.FateIs fate.Aborted ↦ λ is. cleaned_goes g k f _ (λ l. over_goes l k (record n { cleaned = n.cleaned + 1 }) fs)
  | reply.FateIs fate.Absent ↦ λ is. cleaned_goes g k f _ (λ l. over_goes l k (record n { cleaned = n.cleaned + 1 }) fs)
  | reply.Refused why ↦ λ is. refused_given g (Status f.status) why
  | _ ↦ λ is. tt
]

pass_goes : (h : History) (k : ℕ) → Tells h (pass_program k)
pass_goes h k = λ g on. elim [ reply.Intents found ↦ λ is. over_goes g k _ found | reply.Refused why ↦ λ is. refused_given g (Tablet k) why | _ ↦ λ is. tt ]

restart_goes : (h : History) (a : Actor) → Tells h (restart_program a)
restart_goes h a = λ g on. elim [ reply.Restarted kept ↦ λ is. tt | reply.Refused why ↦ λ is. refused_given g a why | _ ↦ λ is. tt ]

-- ## commands

-- the places and the value of a line
pub record LineIsGiven (h : History) (line : Command) : Type 0 where
  pub places : PlacesAreGiven h (places_of line)
  pub values : (v : List ℕ) → Member v (values_of line) → ValueIsGiven h v

-- the accepted writes of the open transaction
abbrev pub OpenIsGiven : History → Option Opened → Type 0
OpenIsGiven h None = Unit {0}
OpenIsGiven h (Some x) = WritesAreGiven h (writes_of x.writes)

moved_goes : (h : History) (i low : ℕ) (next : ℕ → ℕ → Program Told) → ((g : History) → Within h g → (reading now : ℕ) → Tells g (next reading now)) → Tells h (moved_then i low next)
moved_goes h i low next goes = λ g on reading. timed (least_time low 0 reading) g on reading
  where
    timed : (r : Result ℕ TimeRefusal) (g : History) → Within h g → (reading : ℕ) → Tells g (timed_then i reading (next reading) r)
    timed (Ok now) g on reading = goes g on reading now
    timed (Err why) g on reading = tt

closed_goes : (h : History) (opened : Option Opened) (p : Program Told) → Tells h p → Tells h (if_closed opened p)
closed_goes h (Some x) p goes = tt
closed_goes h None p goes = goes

write_command_goes : (h : History) (s : Keeps) (place : Place) (o : Op) (opened : Option Opened) → Tells h (write_command s place o opened)
write_command_goes h s place o None = tt
write_command_goes h s place o (Some x) = choice_goes ToldIsGiven x.in_doubt h (refused told_refusal.InDoubt) _ tt (write_goes h x.meta (length x.writes) place o x.r s.last)

read_command_goes : (config : Config) (h : History) (i : ℕ) (s : Keeps) (kind : ReadKind) (strict : Bool) (places : List Place) (opened : Option Opened) → PlacesAreGiven h places → OpenIsGiven h opened → Tells h (read_command config i s kind strict places opened)
read_command_goes config h i s kind strict places None named are =
    moved_goes h i s.last (read_at config kind strict places) (λ g on reading now. read_goes g None kind [] places now (max now (limit_time reading config.skew_us)) strict [] (places_in h g places on named) (λ w m. absurd m))
read_command_goes config h i s kind strict places (Some x) named are =
    choice_goes ToldIsGiven x.in_doubt h (refused told_refusal.InDoubt) (read_inside x kind strict places) tt
    (read_goes h (Some x.meta.txn) kind (writes_of x.writes) places x.r x.g (strict || has_writes x.writes || x.has_read) x.limits named are)

commit_command_goes : (h : History) (s : Keeps) (opened : Option Opened) → Tells h (commit_command s opened)
commit_command_goes h s None = tt
commit_command_goes h s (Some x) = commit_goes h x.meta s.last (tablets_used [] x.writes)

abort_command_goes : (h : History) (opened : Option Opened) → Tells h (abort_command opened)
abort_command_goes h None = tt
abort_command_goes h (Some x) = abort_goes h x.meta

command_goes : (config : Config) (h : History) (i : ℕ) (s : Keeps) (line : Command) → LineIsGiven h line → OpenIsGiven h s.opened → Tells h (command_program config i s line)
command_goes config h i s (command.Begin priority) is open_is = closed_goes h s.opened (begin_program config i s priority) (moved_goes h i s.last _ (λ g on reading now. begin_goes g (next_meta config i s priority) now))
command_goes config h i s (command.Put place v) is open_is = write_command_goes h s place (op.Put v) s.opened
command_goes config h i s (command.Del place) is open_is = write_command_goes h s place op.Delete s.opened
command_goes config h i s command.Commit is open_is = commit_command_goes h s s.opened
command_goes config h i s command.Abort is open_is = abort_command_goes h s.opened
command_goes config h i s command.End is open_is = abort_command_goes h s.opened
command_goes config h i s (command.Read strict places) is open_is = read_command_goes config h i s Get strict places s.opened is.places open_is
command_goes config h i s (command.Scan strict place) is open_is = read_command_goes config h i s Scan strict (place ∷ []) s.opened is.places open_is
command_goes config h i s (command.SinglePut place v priority) is open_is = closed_goes h s.opened (txn_program (step.Single (next_meta config i s priority) place (op.Put v) s.last)) (single_goes h (next_meta config i s priority) place (op.Put v) s.last)
command_goes config h i s (command.SingleDel place priority) is open_is = closed_goes h s.opened (txn_program (step.Single (next_meta config i s priority) place op.Delete s.last)) (single_goes h (next_meta config i s priority) place op.Delete s.last)
command_goes config h i s (command.Restart actor) is open_is = restart_goes h actor
command_goes config h i s (command.Apply tablet) is open_is = pass_goes h tablet
command_goes config h i s (command.Clock node micros) is open_is = tt

applier_goes : (config : Config) (h : History) (k : ℕ) (s : Keeps) (line : Command) → Tells h (program_of config (Applier k) s line)
applier_goes config h k s (command.Apply tablet) = pass_goes h tablet
applier_goes config h k s line = tt

tablet_goes : (config : Config) (h : History) (k : ℕ) (s : Keeps) (line : Command) → Tells h (program_of config (Tablet k) s line)
tablet_goes config h k s (command.Apply tablet) = pass_goes h tablet
tablet_goes config h k s line = tt

status_goes : (config : Config) (h : History) (k : ℕ) (s : Keeps) (line : Command) → Tells h (program_of config (Status k) s line)
status_goes config h k s (command.Apply tablet) = pass_goes h tablet
status_goes config h k s line = tt

pub program_goes : (config : Config) (h : History) (m : Actor) (s : Keeps) (line : Command) → LineIsGiven h line → OpenIsGiven h s.opened → Tells h (program_of config m s line)
program_goes config h (Session i) s line is open_is = command_goes config h i s line is open_is
program_goes config h (Applier k) s line is open_is = applier_goes config h k s line
program_goes config h (Tablet k) s line is open_is = tablet_goes config h k s line
program_goes config h (Status j) s line is open_is = status_goes config h j s line
