-- What a program asks and is told is grounded, where what it hears is.
use Rattle.std.proofs.Common.{ℕ, ◌+◌, Bool, true, false, List, [], ◌∷◌, Option, Some, None, Ok, Err, max, nat_eq, nat_lt, if◌then◌else◌, length, ◌||◌}
use Rattle.hybrid_time.specs.Time.{time_at, limit_time, greatest_reading}
use Rattle.hybrid_time.specs.declared.time_refusal.TimeRefusal.TheVariants.{ClockRange}
use Rattle.txn_data.specs.declared.actor.Actor.{Actor}
use Rattle.txn_data.specs.declared.actor.Actor.TheVariants.{Tablet, Status, Session, Applier}
use Rattle.txn_data.specs.declared.command.Command.{Command}
use Rattle.txn_data.specs.declared.command.Command.TheVariants as command
use Rattle.txn_data.specs.declared.config.Config.{Config}
use Rattle.txn_data.specs.declared.fate.Fate.TheVariants as fate
use Rattle.txn_data.specs.declared.fate_of.FateOf.{FateOf}
use Rattle.txn_data.specs.declared.found.Found.{Found}
use Rattle.txn_data.specs.declared.meta.Meta.{Meta}
use Rattle.txn_data.specs.declared.op.Op.{Op}
use Rattle.txn_data.specs.declared.op.Op.TheVariants as op
use Rattle.txn_data.specs.declared.place.Place.{Place}
use Rattle.txn_data.specs.declared.read_end.ReadEnd.{ReadEnd}
use Rattle.txn_data.specs.declared.read_kind.ReadKind.{ReadKind}
use Rattle.txn_data.specs.declared.read_kind.ReadKind.TheVariants.{Get, Scan}
use Rattle.txn_data.specs.declared.read_what.ReadWhat.{ReadWhat}
use Rattle.txn_data.specs.declared.read_what.ReadWhat.TheVariants as what
use Rattle.txn_data.specs.declared.tablet_limit.TabletLimit.{TabletLimit}
use Rattle.txn_data.specs.declared.txn_step.TxnStep.TheVariants as step
use Rattle.txn_data.specs.declared.written.Written.{Written}
use Rattle.txn_data.specs.declared.reply.Reply.{Reply}
use Rattle.txn_data.specs.declared.reply.Reply.TheVariants as reply
use Rattle.txn_data.specs.declared.told.Told.{Told}
use Rattle.txn_data.specs.declared.told_refusal.ToldRefusal.{ToldRefusal}
use Rattle.txn_data.specs.declared.told_refusal.ToldRefusal.TheVariants as told_refusal
use Rattle.txn_types.specs.History.{History}
use Rattle.txn_types.specs.Program.{Program, Done, Asks, Reads, then_do, refusal_told}
use Rattle.txn_types.specs.ReadProgram.{Asked, Progress, tablets_of, read_refused, ask_fates, visit, with_tablet_rows, read_done, round_two, restarted, met_then, round_one, read_program}
use Rattle.txn_types.specs.TxnProgram.{refused, write_refused, resolve_all, find_others, txn_program}
use Rattle.txn_types.specs.PassProgram.{Counts, apply_then, clean_then, pass_over, pass_program}
use Rattle.txn_types.specs.Session.{Keeps, Opened, next_meta, begin_program, read_told, read_at, read_inside, read_command, write_command, commit_command, abort_command, if_closed, restart_program, command_program, has_writes, writes_of, tablets_used, timed_then, moved_then}
use Rattle.txn_types.specs.Run.{program_of}
use Rattle.law_time_sources.specs.Laws.{IsGrounded, FatesAreGrounded, RequestIsGrounded, ReplyIsGrounded, ToldRefusalIsGrounded, ToldIsGrounded}
use Rattle.law_time_sources.proofs.Grounds.{Within, within_trans, within_same, grounded_in, fates_in, zero_grounded, greater_grounded, fates_more, no_fates, request_in, refusal_goes}

-- all that it asks is grounded where it asks it, and it ends with what T says, whatever grounded replies it hears
abbrev pub Goes : {A : Type 0} → (History → A → Type 0) → History → Program A → Type 0
Goes T h (Done a) = T h a
Goes T h (Asks to asked next) = RequestIsGrounded h asked × ((g : History) → Within h g → (r : Reply) → ReplyIsGrounded g r → Goes T g (next r))
Goes T h (Reads given) = (g : History) → Within h g → (reading : ℕ) → IsGrounded g (time_at reading 0) → Goes T g (given reading)

pub goes_in : {A : Type 0} (T : History → A → Type 0) (h g : History) (p : Program A) → ((a : A) → T h a → T g a) → Within h g → Goes T h p → Goes T g p
goes_in T h g (Done a) ends on goes = ends a goes
goes_in T h g (Asks to asked next) ends on goes = (request_in h g asked on goes.0, λ f more. goes.1 f (within_trans h g f on more))
goes_in T h g (Reads given) ends on goes = λ f more. goes f (within_trans h g f on more)

then_goes : {A B : Type 0} (T : History → A → Type 0) (U : History → B → Type 0) (h : History) (p : Program A) (next : A → Program B) → Goes T h p →
    ((g : History) (a : A) → T g a → Goes U g (next a)) → Goes U h (then_do p next)
unfolding then_do
then_goes T U h (Done a) next first rest = rest h a first
then_goes T U h (Asks to asked heard) next first rest = (first.0, λ g on r is. then_goes T U g (heard r) next (first.1 g on r is) rest)
then_goes T U h (Reads given) next first rest = λ g on reading is. then_goes T U g (given reading) next (first g on reading is) rest

-- ## reads

abbrev WhatIsGrounded : History → ReadWhat → Type 0
WhatIsGrounded h (what.Values rows) = Unit {0}
WhatIsGrounded h (what.Restart at path) = IsGrounded h at
WhatIsGrounded h (what.Refused why) = ToldRefusalIsGrounded h why

abbrev EndIsGrounded : History → ReadEnd → Type 0
EndIsGrounded h end = IsGrounded h end.t × WhatIsGrounded h end.what

abbrev GoesOn : History → Program ReadEnd → Type 0
GoesOn h p = Goes EndIsGrounded h p

fates_goes : (h : History) (s : Progress) (fs : List Found) (fates : List FateOf) (next : List FateOf → Program ReadEnd) → IsGrounded h s.t → FatesAreGrounded h fates →
    ((g : History) → Within h g → (found : List FateOf) → FatesAreGrounded g found → GoesOn g (next found)) → GoesOn h (ask_fates s fs fates next)
unfolding ask_fates
fates_goes h s [] fates next at are goes = goes h (within_same h) fates are
fates_goes h s (f ∷ fs) fates next at are goes = (
  at,
  λ g on. elim [
    | reply.FateIs heard ↦ λ is. fates_goes g s fs _ next (grounded_in h g s.t on at) (fates_more g fates f.txn heard (fates_in h g fates on are) is) (λ k more. goes k (within_trans h g k on more))
    | reply.Refused why ↦ λ is. (grounded_in h g s.t on at, refusal_goes g (Status f.status) why is)
    | _ ↦ λ is. (grounded_in h g s.t on at, tt)
  ],
)

visit_goes : (h : History) (a : Asked) (s : Progress) (windowed : Bool) (k : ℕ) (next : Progress → Reply → Program ReadEnd) → IsGrounded h s.t →
    ((g : History) (seen : Progress) (r : Reply) → IsGrounded g seen.t → ReplyIsGrounded g r → GoesOn g (next seen r)) → GoesOn h (visit a s windowed k next)
visit_goes h a s windowed k next at goes = (
  at,
  λ g on. elim [
    | reply.Listed limit others ↦ λ is. fates_goes g _ others [] _ (grounded_in h g s.t on at) (no_fates g) (λ f more fates are.
        ((grounded_in g f s.t more (grounded_in h g s.t on at), are), λ l after answer fits. goes l _ answer (grounded_in f l s.t after (grounded_in g f s.t more (grounded_in h g s.t on at))) fits))
    | reply.Refused why ↦ λ is. (grounded_in h g s.t on at, refusal_goes g (Tablet k) why is)
    | _ ↦ λ is. (grounded_in h g s.t on at, tt)
  ],
)

abbrev two_next : Asked → ℕ → List ℕ → Progress → Reply → Program ReadEnd
two_next a k ks seen answer = elim answer [
  | reply.Collected rows ↦ round_two a (with_tablet_rows k rows seen) ks
  | reply.Refused why ↦ read_refused (refusal_told (Tablet k) why) seen
  | _ ↦ read_refused told_refusal.Memory seen
]

abbrev one_next : Asked → ℕ → List ℕ → Progress → Reply → Program ReadEnd
one_next a k ks seen answer = elim answer [
  | reply.Collected rows ↦ round_one a (with_tablet_rows k rows seen) ks
  | reply.Met at path ↦ met_then a.strict (what.Restart at path) seen (round_one a (restarted at seen) ks)
  | reply.Refused why ↦ read_refused (refusal_told (Tablet k) why) seen
  | _ ↦ read_refused told_refusal.Memory seen
]

two_goes : (h : History) (a : Asked) (s : Progress) (ks : List ℕ) → IsGrounded h s.t → GoesOn h (round_two a s ks)
unfolding round_two
two_goes h a s [] at = (at, tt)
two_goes h a s (k ∷ ks) at =
    visit_goes h a s false k (two_next a k ks) at (λ g seen. elim [ reply.Collected rows ↦ λ is fits. two_goes g a (with_tablet_rows k rows seen) ks is | reply.Refused why ↦ λ is fits. (is, refusal_goes g (Tablet k) why fits) | _ ↦ λ is fits. (is, tt) ])

choice_goes : (b : Bool) (h : History) (p q : Program ReadEnd) → GoesOn h p → GoesOn h q → GoesOn h (if b then p else q)
choice_goes true h p q one two = one
choice_goes false h p q one two = two

met_goes : (strict : Bool) (h : History) (end : ReadWhat) (s : Progress) (next : Program ReadEnd) → IsGrounded h s.t → WhatIsGrounded h end → GoesOn h next → GoesOn h (met_then strict end s next)
met_goes true h end s next at met goes = (at, met)
met_goes false h end s next at met goes = goes

one_goes : (h : History) (a : Asked) (s : Progress) (ks : List ℕ) → IsGrounded h s.t → GoesOn h (round_one a s ks)
unfolding round_one
one_goes h a s [] at = choice_goes (nat_eq s.restarts 0) h (read_done a s) _ (at, tt) (two_goes h a _ (tablets_of a.places) at)
one_goes h a s (k ∷ ks) at = visit_goes h a s true k (one_next a k ks) at (λ g seen. elim [
  | reply.Collected rows ↦ λ is fits. one_goes g a (with_tablet_rows k rows seen) ks is
  | reply.Met t path ↦ λ is fits. met_goes a.strict g (what.Restart t path) seen _ is fits (one_goes g a (restarted t seen) ks fits)
  | reply.Refused why ↦ λ is fits. (is, refusal_goes g (Tablet k) why fits)
  | _ ↦ λ is fits. (is, tt)
])

-- ## transactions

abbrev pub Tells : History → Program Told → Type 0
Tells h p = Goes ToldIsGrounded h p

resolve_goes : (h : History) (meta : Meta) (fs : List Found) (fates : List FateOf) (stop : ToldRefusal → Program Told) (next : List FateOf → Program Told) → FatesAreGrounded h fates → ((g : History) (why : ToldRefusal) → ToldRefusalIsGrounded g why → Tells g (stop why)) →
    ((g : History) → Within h g → (found : List FateOf) → FatesAreGrounded g found → Tells g (next found)) → Tells h (resolve_all meta fs fates stop next)
unfolding resolve_all
resolve_goes h meta [] fates stop next are stops goes = goes h (within_same h) fates are
resolve_goes h meta (f ∷ fs) fates stop next are stops goes = (
  tt,
  λ g on. elim [
    | reply.FateIs fate.Pending ↦ λ is. stops g (told_refusal.Conflict f.txn) tt
    | reply.FateIs settled ↦ λ is. resolve_goes g meta fs _ stop next (fates_more g fates f.txn settled (fates_in h g fates on are) is) stops (λ k more. goes k (within_trans h g k on more))
    | reply.Refused why ↦ λ is. stops g (refusal_told (Status f.status) why) (refusal_goes g (Status f.status) why is)
    | _ ↦ λ is. tt
  ],
)

find_goes : (h : History) (meta : Meta) (place : Place) (stop : ToldRefusal → Program Told) (next : List FateOf → Program Told) → ((g : History) (why : ToldRefusal) → ToldRefusalIsGrounded g why → Tells g (stop why)) →
    ((g : History) → Within h g → (found : List FateOf) → FatesAreGrounded g found → Tells g (next found)) → Tells h (find_others meta place stop next)
find_goes h meta place stop next stops goes = (
  tt,
  λ g on. elim [
    | reply.Others found ↦ λ is. resolve_goes g meta found [] stop next (no_fates g) stops (λ k more. goes k (within_trans h g k on more))
    | reply.Refused why ↦ λ is. stops g (refusal_told (Tablet place.tablet) why) (refusal_goes g (Tablet place.tablet) why is)
    | _ ↦ λ is. tt
  ],
)

stop_goes : (g : History) (meta : Meta) (why : ToldRefusal) → ToldRefusalIsGrounded g why → Tells g (write_refused meta why)
stop_goes g meta (told_refusal.Conflict other) told_is = (tt, λ k on r is. tt)
stop_goes g meta (told_refusal.Overlap at) told_is = (tt, λ k on r is. grounded_in g k at on told_is)
stop_goes g meta (told_refusal.LogFault actor) told_is = (tt, λ k on r is. tt)
stop_goes g meta why told_is = told_is

begin_goes : (h : History) (meta : Meta) (r : ℕ) → IsGrounded h r → Tells h (txn_program (step.Begin meta r))
begin_goes h meta r at = (tt, λ g on. elim [ reply.Begun ↦ λ is. grounded_in h g r on at | reply.Refused why ↦ λ is. refusal_goes g (Status meta.status) why is | _ ↦ λ is. tt ])

write_goes : (h : History) (meta : Meta) (number : ℕ) (place : Place) (o : Op) (read seen : ℕ) → IsGrounded h read → IsGrounded h seen → Tells h (txn_program (step.Write meta number place o read seen))
write_goes h meta number place o read seen at low = find_goes h meta place (write_refused meta) _ (λ g. stop_goes g meta) (λ g on fates are. (
  (grounded_in h g read on at, grounded_in h g seen on low, are),
  λ k more. elim [
    | reply.Written w ↦ λ is. is
    | reply.Refused why ↦ λ is. stop_goes k meta (refusal_told (Tablet place.tablet) why) (refusal_goes k (Tablet place.tablet) why is)
    | _ ↦ λ is. tt
  ],
))

single_goes : (h : History) (meta : Meta) (place : Place) (o : Op) (seen : ℕ) → IsGrounded h seen → Tells h (txn_program (step.Single meta place o seen))
single_goes h meta place o seen low = find_goes h meta place refused _ (λ g why told_is. told_is) (λ g on fates are. (
  (grounded_in h g seen on low, are),
  λ k more. elim [ reply.SingleDone at ↦ λ is. is | reply.Refused why ↦ λ is. refusal_goes k (Tablet place.tablet) why is | _ ↦ λ is. tt ],
))

commit_goes : (h : History) (meta : Meta) (floor : ℕ) (tablets : List ℕ) → IsGrounded h floor → Tells h (txn_program (step.Commit meta floor tablets))
commit_goes h meta floor tablets low = (low, λ g on. elim [ reply.Committed at ↦ λ is. is | reply.AbortedBy by ↦ λ is. tt | reply.Gone ↦ λ is. tt | reply.Refused why ↦ λ is. refusal_goes g (Status meta.status) why is | _ ↦ λ is. tt ])

abort_goes : (h : History) (meta : Meta) → Tells h (txn_program (step.Abort meta))
abort_goes h meta = (tt, λ g on. elim [ reply.Ended ↦ λ is. tt | reply.Committed at ↦ λ is. is | reply.Refused why ↦ λ is. refusal_goes g (Status meta.status) why is | _ ↦ λ is. tt ])

-- ## passes

applied_goes : (h : History) (k : ℕ) (f : Found) (c : ℕ) (next : Program Told) → IsGrounded h c → ((g : History) → Tells g next) → Tells h (apply_then k f c next)
applied_goes h k f c next at goes = (
  at,
  λ g on. elim [
    | reply.AppliedHere ↦ λ is. (tt, λ l more. elim [ reply.Noted ↦ λ noted. goes l | reply.Refused why ↦ λ noted. refusal_goes l (Status f.status) why noted | _ ↦ λ noted. tt ])
    | reply.Refused why ↦ λ is. refusal_goes g (Tablet k) why is
    | _ ↦ λ is. tt
  ],
)

cleaned_goes : (h : History) (k : ℕ) (f : Found) (next : Program Told) → ((g : History) → Tells g next) → Tells h (clean_then k f next)
cleaned_goes h k f next goes = (tt, λ g on. elim [ reply.Cleaned ↦ λ is. goes g | reply.Refused why ↦ λ is. refusal_goes g (Tablet k) why is | _ ↦ λ is. tt ])

over_goes : (h : History) (k : ℕ) (n : Counts) (fs : List Found) → Tells h (pass_over k n fs)
unfolding pass_over
over_goes h k n [] = tt
over_goes h k n (f ∷ fs) = (
  zero_grounded h,
  λ g on. elim [
    | reply.FateIs fate.Pending ↦ λ is. over_goes g k (record n { left = n.left + 1 }) fs
    | reply.FateIs (fate.Committed c) ↦ λ is. applied_goes g k f c _ is (λ l. over_goes l k (record n { applied = n.applied + 1 }) fs)
    | reply.FateIs fate.Aborted ↦ λ is. cleaned_goes g k f _ (λ l. over_goes l k (record n { cleaned = n.cleaned + 1 }) fs)
    | reply.FateIs fate.Absent ↦ λ is. cleaned_goes g k f _ (λ l. over_goes l k (record n { cleaned = n.cleaned + 1 }) fs)
    | reply.Refused why ↦ λ is. refusal_goes g (Status f.status) why is
    | _ ↦ λ is. tt
  ],
)

pass_goes : (h : History) (k : ℕ) → Tells h (pass_program k)
pass_goes h k = (tt, λ g on. elim [ reply.Intents found ↦ λ is. over_goes g k _ found | reply.Refused why ↦ λ is. refusal_goes g (Tablet k) why is | _ ↦ λ is. tt ])

-- ## commands

abbrev pub OpenIsGrounded : History → Option Opened → Type 0
OpenIsGrounded h (Some x) = IsGrounded h x.r
OpenIsGrounded h None = Unit {0}

-- the times that a session keeps, but for the end of a window and limits
pub record KeptIsGrounded (h : History) (s : Keeps) : Type 0 where
  pub last_is : IsGrounded h s.last
  pub open_is : OpenIsGrounded h s.opened

told_goes : (h : History) (kind : ReadKind) (ws : List Written) (places : List Place) (end : ReadEnd) → EndIsGrounded h end → ToldIsGrounded h (read_told kind ws places end)
told_goes h kind ws places end is = what_goes end.what is.1
  where
    what_goes : (w : ReadWhat) → WhatIsGrounded h w → ToldIsGrounded h (read_told kind ws places (record end { what = w }))
    what_goes (what.Values rows) met = is.0
    what_goes (what.Restart t path) met = met
    what_goes (what.Refused why) met = met

read_goes : (h : History) (own_txn : Option ℕ) (kind : ReadKind) (ws : List Written) (places : List Place) (t g : ℕ) (strict : Bool) (limits : List TabletLimit) → IsGrounded h t →
    Tells h (then_do (read_program own_txn kind places t g strict limits) (λ end. Done (read_told kind ws places end)))
read_goes h own_txn kind ws places t g strict limits at =
    then_goes EndIsGrounded ToldIsGrounded h (read_program own_txn kind places t g strict limits) (λ end. Done (read_told kind ws places end)) (one_goes h _ _ (tablets_of places) at) (λ k end is. told_goes k kind ws places end is)

moved_choice : (b : Bool) (h : History) (i reading m : ℕ) (next : ℕ → ℕ → Program Told) → IsGrounded h m → ((now : ℕ) → IsGrounded h now → Tells h (next reading now)) →
    Tells h (timed_then i reading (next reading) (if b then Err (ClockRange reading) else Ok m))
moved_choice true h i reading m next at goes = tt
moved_choice false h i reading m next at goes = goes m at

moved_goes : (h : History) (i low : ℕ) (next : ℕ → ℕ → Program Told) → IsGrounded h low → ((g : History) (reading now : ℕ) → IsGrounded g now → Tells g (next reading now)) → Tells h (moved_then i low next)
moved_goes h i low next at goes = λ g on reading is.
    moved_choice (nat_lt greatest_reading reading) g i reading (max (max low 0) (time_at reading 0)) next
    (greater_grounded g (max low 0) (time_at reading 0) (greater_grounded g low 0 (grounded_in h g low on at) (zero_grounded g)) is) (λ now grounded. goes g reading now grounded)

begin_command : (config : Config) (h : History) (i : ℕ) (s : Keeps) (priority : ℕ) (opened : Option Opened) → IsGrounded h s.last → Tells h (if_closed opened (begin_program config i s priority))
begin_command config h i s priority (Some x) at = tt
begin_command config h i s priority None at = moved_goes h i s.last _ at (λ g reading now is. begin_goes g (next_meta config i s priority) now is)

single_command : (config : Config) (h : History) (i : ℕ) (s : Keeps) (priority : ℕ) (place : Place) (o : Op) (opened : Option Opened) → IsGrounded h s.last → Tells h (if_closed opened (txn_program (step.Single (next_meta config i s priority) place o s.last)))
single_command config h i s priority place o (Some x) at = tt
single_command config h i s priority place o None at = single_goes h (next_meta config i s priority) place o s.last at

doubt_goes : (b : Bool) (h : History) (p : Program Told) → Tells h p → Tells h (if b then refused told_refusal.InDoubt else p)
doubt_goes true h p goes = tt
doubt_goes false h p goes = goes

write_goes_on : (h : History) (s : Keeps) (place : Place) (o : Op) (opened : Option Opened) → IsGrounded h s.last → OpenIsGrounded h opened → Tells h (write_command s place o opened)
write_goes_on h s place o None at is = tt
write_goes_on h s place o (Some x) at is = doubt_goes x.in_doubt h _ (write_goes h x.meta (length x.writes) place o x.r s.last is at)

read_goes_on : (config : Config) (h : History) (i : ℕ) (s : Keeps) (kind : ReadKind) (strict : Bool) (places : List Place) (opened : Option Opened) → IsGrounded h s.last → OpenIsGrounded h opened → Tells h (read_command config i s kind strict places opened)
read_goes_on config h i s kind strict places None at is = moved_goes h i s.last (read_at config kind strict places) at (λ g reading now grounded. read_goes g None kind [] places now (max now (limit_time reading config.skew_us)) strict [] grounded)
read_goes_on config h i s kind strict places (Some x) at is = doubt_goes x.in_doubt h (read_inside x kind strict places) (read_goes h (Some x.meta.txn) kind (writes_of x.writes) places x.r x.g (strict || has_writes x.writes || x.has_read) x.limits is)

commit_goes_on : (h : History) (s : Keeps) (opened : Option Opened) → IsGrounded h s.last → Tells h (commit_command s opened)
commit_goes_on h s None at = tt
commit_goes_on h s (Some x) at = commit_goes h x.meta s.last (tablets_used [] x.writes) at

abort_goes_on : (h : History) (opened : Option Opened) → Tells h (abort_command opened)
abort_goes_on h None = tt
abort_goes_on h (Some x) = abort_goes h x.meta

restart_goes : (h : History) (a : Actor) → Tells h (restart_program a)
restart_goes h a = (tt, λ g on. elim [ reply.Restarted kept ↦ λ is. tt | reply.Refused why ↦ λ is. refusal_goes g a why is | _ ↦ λ is. tt ])

command_goes : (config : Config) (h : History) (i : ℕ) (s : Keeps) (line : Command) → KeptIsGrounded h s → Tells h (command_program config i s line)
command_goes config h i s (command.Begin priority) is = begin_command config h i s priority s.opened is.last_is
command_goes config h i s (command.Put place v) is = write_goes_on h s place (op.Put v) s.opened is.last_is is.open_is
command_goes config h i s (command.Del place) is = write_goes_on h s place op.Delete s.opened is.last_is is.open_is
command_goes config h i s command.Commit is = commit_goes_on h s s.opened is.last_is
command_goes config h i s command.Abort is = abort_goes_on h s.opened
command_goes config h i s command.End is = abort_goes_on h s.opened
command_goes config h i s (command.Read strict places) is = read_goes_on config h i s Get strict places s.opened is.last_is is.open_is
command_goes config h i s (command.Scan strict place) is = read_goes_on config h i s Scan strict (place ∷ []) s.opened is.last_is is.open_is
command_goes config h i s (command.SinglePut place v priority) is = single_command config h i s priority place (op.Put v) s.opened is.last_is
command_goes config h i s (command.SingleDel place priority) is = single_command config h i s priority place op.Delete s.opened is.last_is
command_goes config h i s (command.Restart actor) is = restart_goes h actor
command_goes config h i s (command.Apply tablet) is = pass_goes h tablet
command_goes config h i s (command.Clock node micros) is = tt

applier_goes : (config : Config) (h : History) (k : ℕ) (s : Keeps) (line : Command) → Tells h (program_of config (Applier k) s line)
applier_goes config h k s (command.Apply tablet) = pass_goes h tablet
applier_goes config h k s line = tt

tablet_goes : (config : Config) (h : History) (k : ℕ) (s : Keeps) (line : Command) → Tells h (program_of config (Tablet k) s line)
tablet_goes config h k s (command.Apply tablet) = pass_goes h tablet
tablet_goes config h k s line = tt

status_goes : (config : Config) (h : History) (k : ℕ) (s : Keeps) (line : Command) → Tells h (program_of config (Status k) s line)
status_goes config h k s (command.Apply tablet) = pass_goes h tablet
status_goes config h k s line = tt

pub program_goes : (config : Config) (h : History) (m : Actor) (s : Keeps) (line : Command) → KeptIsGrounded h s → Tells h (program_of config m s line)
program_goes config h (Session i) s line is = command_goes config h i s line is
program_goes config h (Applier k) s line is = applier_goes config h k s line
program_goes config h (Tablet k) s line is = tablet_goes config h k s line
program_goes config h (Status j) s line is = status_goes config h j s line
