-- Where Committed is told, its time was the answer to a commit, an abort or a single write of the transaction.
use Rattle.std.proofs.Common.{◌≡◌, ℕ, ◌+◌, Bool, true, false, ◌||◌, List, [], ◌∷◌, ◌++◌, Option, Some, None, Result, Ok, Err, max, length, refl, sym, subst, inl, inr, if◌then◌else◌}
use Rattle.hybrid_time.specs.Time.{least_time, limit_time}
use Rattle.hybrid_time.specs.declared.time_refusal.TimeRefusal.{TimeRefusal}
use Rattle.txn_data.specs.declared.actor.Actor.{Actor}
use Rattle.txn_data.specs.declared.actor.Actor.TheVariants.{Tablet, Status, Session, Applier}
use Rattle.txn_data.specs.declared.command.Command.{Command}
use Rattle.txn_data.specs.declared.command.Command.TheVariants as command
use Rattle.txn_data.specs.declared.config.Config.{Config}
use Rattle.txn_data.specs.declared.fate.Fate.TheVariants as fate
use Rattle.txn_data.specs.declared.fate_of.FateOf.{FateOf}
use Rattle.txn_data.specs.declared.found.Found.{Found}
use Rattle.txn_data.specs.declared.meta.Meta.{Meta}
use Rattle.txn_data.specs.declared.op.Op.{Op}
use Rattle.txn_data.specs.declared.op.Op.TheVariants as op
use Rattle.txn_data.specs.declared.place.Place.{Place}
use Rattle.txn_data.specs.declared.read_end.ReadEnd.{ReadEnd}
use Rattle.txn_data.specs.declared.read_kind.ReadKind.{ReadKind}
use Rattle.txn_data.specs.declared.read_kind.ReadKind.TheVariants.{Get, Scan}
use Rattle.txn_data.specs.declared.read_what.ReadWhat.{ReadWhat}
use Rattle.txn_data.specs.declared.read_what.ReadWhat.TheVariants as what
use Rattle.txn_data.specs.declared.refusal.Refusal.TheVariants as refusal
use Rattle.txn_data.specs.declared.request.Request.{Request}
use Rattle.txn_data.specs.declared.request.Request.TheVariants as request
use Rattle.txn_data.specs.declared.reply.Reply.{Reply}
use Rattle.txn_data.specs.declared.reply.Reply.TheVariants as reply
use Rattle.txn_data.specs.declared.told.Told.{Told}
use Rattle.txn_data.specs.declared.told.Told.TheVariants as told
use Rattle.txn_data.specs.declared.told_refusal.ToldRefusal.{ToldRefusal}
use Rattle.txn_data.specs.declared.told_refusal.ToldRefusal.TheVariants as told_refusal
use Rattle.txn_data.specs.declared.txn_step.TxnStep.TheVariants as step
use Rattle.txn_data.specs.declared.written.Written.{Written}
use Rattle.txn_data.specs.declared.event.Event.{Event}
use Rattle.txn_data.specs.declared.event.Event.TheVariants.{Serve}
use Rattle.txn_data.specs.declared.entry.Entry.{Entry}
use Rattle.txn_types.specs.Lists.{Member, or_else}
use Rattle.txn_types.specs.History.{History}
use Rattle.txn_types.specs.Program.{Program, Done, Asks, Reads, then_do, refusal_told}
use Rattle.txn_types.specs.ReadProgram.{read_program}
use Rattle.txn_types.specs.TxnProgram.{refused, lost, write_refused, resolve_all, txn_program}
use Rattle.txn_types.specs.PassProgram.{Counts, pass_over, pass_program}
use Rattle.txn_types.specs.Session.{Keeps, Opened, next_meta, timed_then, begin_program, read_at, read_inside, read_told, writes_of, has_writes, tablets_used, read_command, write_command, commit_command, abort_command, if_closed, restart_program, command_program}
use Rattle.txn_types.specs.Run.{program_of}
use Rattle.law_machines.proofs.Owns.{stands_member}
use Rattle.law_courses.specs.Course.{entry_of, Answer, answered, Came}

-- ## what a program says, whatever it hears

abbrev pub Says : {A : Type 0} → (A → Type 0) → Program A → Type 0
Says T (Done a) = T a
Says T (Asks to asked next) = (r : Reply) → Says T (next r)
Says T (Reads given) = (n : ℕ) → Says T (given n)

pub says_came : {A : Type 0} (T : A → Type 0) (m : Actor) (h : History) (own : Option ℕ) (low : History) (had : Option ℕ) (p : Program A) (end : A) → Says T p → Came m h own low had p end → T end
unfolding Came
says_came T m h own low had (Done a) end says came = subst T came.0 says
says_came T m h own low had (Asks to asked next) end says came = elim came [
  | inl heard ↦ says_came T m h own (answered m to asked h low heard.0) had (next heard.0.reply) end (says heard.0.reply) heard.1
  | inr other ↦ elim other [
    | inl restart ↦ says_came T m h own low had (next (reply.Restarted restart.1.0)) end (says (reply.Restarted restart.1.0)) restart.1.1
    | inr none ↦ says_came T m h own low had (next (reply.Refused refusal.Memory)) end (says (reply.Refused refusal.Memory)) none
  ]
]
says_came T m h own low had (Reads given) end says came = elim came.1 [
  | inl more ↦ says_came T m h own low (or_else had (Some came.0)) (given came.0) end (says came.0) more
  | inr once ↦ subst (λ (p : Program _). Says T p) once (says came.0)
]

pub then_says : {A B : Type 0} (T : B → Type 0) (p : Program A) (next : A → Program B) → ((a : A) → Says T (next a)) → Says T (then_do p next)
unfolding then_do
then_says T (Done a) next rest = rest a
then_says T (Asks to asked heard) next rest = λ r. then_says T (heard r) next rest
then_says T (Reads given) next rest = λ n. then_says T (given n) next rest

-- ## what tells no commit

abbrev pub NoCommit : Told → Type 0
NoCommit (told.Committed y at) = ⊥
NoCommit t = Unit {0}

abbrev Quiet : Program Told → Type 0
Quiet p = Says NoCommit p

told_quiet : (kind : ReadKind) (ws : List Written) (places : List Place) (end : ReadEnd) (w : ReadWhat) → end.what ≡ w → NoCommit (read_told kind ws places end)
told_quiet kind ws places end (what.Values rows) is = rw is tt
told_quiet kind ws places end (what.Restart at path) is = rw is tt
told_quiet kind ws places end (what.Refused why) is = rw is tt

timed_quiet : (n i : ℕ) (next : ℕ → Program Told) (time : Result ℕ TimeRefusal) → ((now : ℕ) → Quiet (next now)) → Quiet (timed_then i n next time)
timed_quiet n i next (Ok now) goes = goes now
timed_quiet n i next (Err why) goes = tt

read_quiet : (config : Config) (i : ℕ) (s : Keeps) (kind : ReadKind) (strict : Bool) (places : List Place) (opened : Option Opened) → Quiet (read_command config i s kind strict places opened)
read_quiet config i s kind strict places None = λ n. timed_quiet n i (read_at config kind strict places n) (least_time s.last 0 n) (λ now.
    then_says NoCommit (read_program None kind places now (max now (limit_time n config.skew_us)) strict []) _ (λ end. told_quiet kind [] places end end.what refl))
read_quiet config i s kind strict places (Some x) = doubt_quiet x.in_doubt
  where
    doubt_quiet : (b : Bool) → Quiet (if b then refused told_refusal.InDoubt else read_inside x kind strict places)
    doubt_quiet true = tt
    doubt_quiet false = then_says NoCommit (read_program (Some x.meta.txn) kind places x.r x.g (strict || has_writes x.writes || x.has_read) x.limits) _ (λ end. told_quiet kind (writes_of x.writes) places end end.what refl)

begin_quiet : (config : Config) (i : ℕ) (s : Keeps) (priority : ℕ) (opened : Option Opened) → Quiet (if_closed opened (begin_program config i s priority))
begin_quiet config i s priority (Some x) = tt
begin_quiet config i s priority None = λ n. timed_quiet n i (λ now. txn_program (step.Begin (next_meta config i s priority) now)) (least_time s.last 0 n) (λ now. elim [ reply.Begun ↦ tt | reply.Refused why ↦ tt | _ ↦ tt ])

stop_quiet : (meta : Meta) (why : ToldRefusal) → Quiet (write_refused meta why)
stop_quiet meta (told_refusal.Conflict other) = λ r. tt
stop_quiet meta (told_refusal.Overlap at) = λ r. tt
stop_quiet meta (told_refusal.LogFault actor) = λ r. tt
stop_quiet meta why = tt

resolve_quiet : (meta : Meta) (fs : List Found) (fates : List FateOf) (stop : ToldRefusal → Program Told) (next : List FateOf → Program Told) → ((why : ToldRefusal) → Quiet (stop why)) → ((found : List FateOf) → Quiet (next found)) →
    Quiet (resolve_all meta fs fates stop next)
unfolding resolve_all
resolve_quiet meta [] fates stop next stops goes = goes fates
resolve_quiet meta (f ∷ fs) fates stop next stops goes = elim [
  | reply.FateIs fate.Pending ↦ stops (told_refusal.Conflict f.txn)
  | reply.FateIs settled ↦ resolve_quiet meta fs _ stop next stops goes
  | reply.Refused why ↦ stops (refusal_told (Status f.status) why)
  | _ ↦ tt
]

put_quiet : (s : Keeps) (place : Place) (o : Op) (opened : Option Opened) → Quiet (write_command s place o opened)
put_quiet s place o None = tt
put_quiet s place o (Some x) = doubt_quiet x.in_doubt
  where
    doubt_quiet : (b : Bool) → Quiet (if b then refused told_refusal.InDoubt else txn_program (step.Write x.meta (length x.writes) place o x.r s.last))
    doubt_quiet true = tt
    doubt_quiet false = elim [
      | reply.Others found ↦ resolve_quiet x.meta found [] (write_refused x.meta) _ (λ why. stop_quiet x.meta why) (λ fates. elim [
        | reply.Written at ↦ tt
        | reply.Refused why ↦ stop_quiet x.meta (refusal_told (Tablet place.tablet) why)
        | _ ↦ tt
      ])
      | reply.Refused why ↦ stop_quiet x.meta (refusal_told (Tablet place.tablet) why)
      | _ ↦ tt
    ]

restart_quiet : (a : Actor) → Quiet (restart_program a)
restart_quiet a = elim [ reply.Restarted k ↦ tt | reply.Refused why ↦ tt | _ ↦ tt ]

over_quiet : (k : ℕ) (n : Counts) (fs : List Found) → Quiet (pass_over k n fs)
unfolding pass_over
over_quiet k n [] = tt
over_quiet k n (f ∷ fs) = elim [
  | reply.FateIs fate.Pending ↦ over_quiet k (record n { left = n.left + 1 }) fs
  | reply.FateIs (fate.Committed c) ↦ elim [
    | reply.AppliedHere ↦ elim [ reply.Noted ↦ over_quiet k (record n { applied = n.applied + 1 }) fs | reply.Refused why ↦ tt | _ ↦ tt ]
    | reply.Refused why ↦ tt
    | _ ↦ tt
  ]
  | reply.FateIs fate.Aborted ↦ elim [ reply.Cleaned ↦ over_quiet k (record n { cleaned = n.cleaned + 1 }) fs | reply.Refused why ↦ tt | _ ↦ tt ]
  | reply.FateIs fate.Absent ↦ elim [ reply.Cleaned ↦ over_quiet k (record n { cleaned = n.cleaned + 1 }) fs | reply.Refused why ↦ tt | _ ↦ tt ]
  | reply.Refused why ↦ tt
  | _ ↦ tt
]

pass_quiet : (k : ℕ) → Quiet (pass_program k)
pass_quiet k = elim [ reply.Intents found ↦ over_quiet k _ found | reply.Refused why ↦ tt | _ ↦ tt ]

-- ## what tells one

-- an entry that told the commit of this transaction at this time
abbrev pub ToldBy : ℕ → ℕ → Event → Type 0
ToldBy y at (Serve from (request.Commit x floor tablets) (reply.Committed c) time append) = (x ≡ y) × (c ≡ at)
ToldBy y at (Serve from (request.Abort x) (reply.Committed c) time append) = (x ≡ y) × (c ≡ at)
ToldBy y at (Serve from (request.Single x path o seen fates) (reply.SingleDone c) time append) = (x ≡ y) × (c ≡ at)
ToldBy y at event = ⊥

abbrev pub WasTold : History → ℕ → ℕ → Type 0
WasTold h y at = (s : Entry) × Member s h × ToldBy y at s.event

-- the end of a program, where it came from an answer or from out of memory
asks_came : (m : Actor) (h : History) (own : Option ℕ) (low : History) (had : Option ℕ) (to : Actor) (asked : Request) (next : Reply → Program Told) (t : Told) (R : Type 0) → (asked ≡ request.Restart → ⊥) →
    Came m h own low had (Asks to asked next) t →
    ((a : Answer m to asked h low) → Came m h own (answered m to asked h low a) had (next a.reply) t → R) → (Came m h own low had (next (reply.Refused refusal.Memory)) t → R) → R
unfolding Came
asks_came m h own low had to asked next t R never came heard lost_it = elim came [
  | inl answer ↦ heard answer.0 answer.1
  | inr other ↦ elim other [
    | inl restart ↦ absurd (never restart.0)
    | inr none ↦ lost_it none
  ]
]

said : (m : Actor) (h : History) (own : Option ℕ) (low : History) (had : Option ℕ) (a t : Told) → Came m h own low had (Done a) t → a ≡ t
unfolding Came
said m h own low had a t came = came.0

abbrev commit_next : Meta → Reply → Program Told
commit_next meta answer = elim answer [
  | reply.Committed at ↦ Done (told.Committed meta.txn at)
  | reply.AbortedBy by ↦ refused (told_refusal.Aborted by)
  | reply.Gone ↦ Done (told.Ended meta.txn)
  | reply.Refused why ↦ refused (refusal_told (Status meta.status) why)
  | _ ↦ lost
]

abbrev abort_next : Meta → Reply → Program Told
abort_next meta answer = elim answer [
  | reply.Ended ↦ Done (told.Ended meta.txn)
  | reply.Committed at ↦ Done (told.Committed meta.txn at)
  | reply.Refused why ↦ refused (refusal_told (Status meta.status) why)
  | _ ↦ lost
]

abbrev single_next : Meta → Place → Reply → Program Told
single_next meta place answer = elim answer [
  | reply.SingleDone at ↦ Done (told.Committed meta.txn at)
  | reply.Refused why ↦ refused (refusal_told (Tablet place.tablet) why)
  | _ ↦ lost
]

-- these replies alone lead to it
abbrev IsCommit : Meta → ℕ → ℕ → Reply → Type 0
IsCommit meta y at (reply.Committed c) = (meta.txn ≡ y) × (c ≡ at)
IsCommit meta y at r = ⊥

abbrev IsDone : Meta → ℕ → ℕ → Reply → Type 0
IsDone meta y at (reply.SingleDone c) = (meta.txn ≡ y) × (c ≡ at)
IsDone meta y at r = ⊥

same_told : (x y c at : ℕ) → told.Committed x c ≡ told.Committed y at → (x ≡ y) × (c ≡ at)
same_told x y c at is = (cc, cc)

commit_reply : (m : Actor) (h : History) (own : Option ℕ) (low : History) (had : Option ℕ) (meta : Meta) (y at : ℕ) (r : Reply) → Came m h own low had (commit_next meta r) (told.Committed y at) → IsCommit meta y at r
unfolding Came
commit_reply m h own low had meta y at (reply.Committed c) came = same_told meta.txn y c at came.0
commit_reply m h own low had meta y at (reply.AbortedBy by) came = let no = came.0 in cc
commit_reply m h own low had meta y at reply.Gone came = let no = came.0 in cc
commit_reply m h own low had meta y at (reply.Refused why) came = let no = came.0 in cc
commit_reply m h own low had meta y at r came = let no = came.0 in cc

abort_reply : (m : Actor) (h : History) (own : Option ℕ) (low : History) (had : Option ℕ) (meta : Meta) (y at : ℕ) (r : Reply) → Came m h own low had (abort_next meta r) (told.Committed y at) → IsCommit meta y at r
unfolding Came
abort_reply m h own low had meta y at (reply.Committed c) came = same_told meta.txn y c at came.0
abort_reply m h own low had meta y at reply.Ended came = let no = came.0 in cc
abort_reply m h own low had meta y at (reply.Refused why) came = let no = came.0 in cc
abort_reply m h own low had meta y at r came = let no = came.0 in cc

single_reply : (m : Actor) (h : History) (own : Option ℕ) (low : History) (had : Option ℕ) (meta : Meta) (place : Place) (y at : ℕ) (r : Reply) → Came m h own low had (single_next meta place r) (told.Committed y at) → IsDone meta y at r
unfolding Came
single_reply m h own low had meta place y at (reply.SingleDone c) came = same_told meta.txn y c at came.0
single_reply m h own low had meta place y at (reply.Refused why) came = let no = came.0 in cc
single_reply m h own low had meta place y at r came = let no = came.0 in cc

commit_served : (m to : Actor) (h low : History) (meta : Meta) (floor : ℕ) (tablets : List ℕ) (y at : ℕ) (a : Answer m to (request.Commit meta.txn floor tablets) h low) (r : Reply) → a.reply ≡ r → IsCommit meta y at r → WasTold h y at
commit_served m to h low meta floor tablets y at a (reply.Committed c) is same = (
  entry_of to a.reading (Serve m (request.Commit meta.txn floor tablets) a.reply a.time a.append),
  stands_member _ a.before h a.stands,
  subst (λ (r : Reply). ToldBy y at (Serve m (request.Commit meta.txn floor tablets) r a.time a.append)) (sym is) same,
)
commit_served m to h low meta floor tablets y at a r is same = absurd same

abort_served : (m to : Actor) (h low : History) (meta : Meta) (y at : ℕ) (a : Answer m to (request.Abort meta.txn) h low) (r : Reply) → a.reply ≡ r → IsCommit meta y at r → WasTold h y at
abort_served m to h low meta y at a (reply.Committed c) is same = (
  entry_of to a.reading (Serve m (request.Abort meta.txn) a.reply a.time a.append),
  stands_member _ a.before h a.stands,
  subst (λ (r : Reply). ToldBy y at (Serve m (request.Abort meta.txn) r a.time a.append)) (sym is) same,
)
abort_served m to h low meta y at a r is same = absurd same

single_served : (m to : Actor) (h low : History) (meta : Meta) (place : Place) (o : Op) (seen : ℕ) (fates : List FateOf) (y at : ℕ) (a : Answer m to (request.Single meta.txn place.path o seen fates) h low) (r : Reply) → a.reply ≡ r → IsDone meta y at r → WasTold h y at
single_served m to h low meta place o seen fates y at a (reply.SingleDone c) is same = (
  entry_of to a.reading (Serve m (request.Single meta.txn place.path o seen fates) a.reply a.time a.append),
  stands_member _ a.before h a.stands,
  subst (λ (r : Reply). ToldBy y at (Serve m (request.Single meta.txn place.path o seen fates) r a.time a.append)) (sym is) same,
)
single_served m to h low meta place o seen fates y at a r is same = absurd same

no_commit : (meta : Meta) (y at : ℕ) → IsCommit meta y at (reply.Refused refusal.Memory) → ⊥
no_commit meta y at is = is

commit_came : (m : Actor) (h : History) (own : Option ℕ) (low : History) (had : Option ℕ) (s : Keeps) (opened : Option Opened) (y at : ℕ) → Came m h own low had (commit_command s opened) (told.Committed y at) → WasTold h y at
commit_came m h own low had s None y at came = let no = said m h own low had (told.Refused told_refusal.NoTxn) (told.Committed y at) came in cc
commit_came m h own low had s (Some x) y at came =
    asks_came m h own low had (Status x.meta.status) (request.Commit x.meta.txn s.last (tablets_used [] x.writes)) (commit_next x.meta) (told.Committed y at) (WasTold h y at) (λ never. cc) came
    (λ a more. commit_served m (Status x.meta.status) h low x.meta s.last (tablets_used [] x.writes) y at a a.reply refl (commit_reply m h own _ had x.meta y at a.reply more))
    (λ more. absurd (commit_reply m h own low had x.meta y at (reply.Refused refusal.Memory) more))

abort_came : (m : Actor) (h : History) (own : Option ℕ) (low : History) (had : Option ℕ) (opened : Option Opened) (y at : ℕ) → Came m h own low had (abort_command opened) (told.Committed y at) → WasTold h y at
abort_came m h own low had None y at came = let no = said m h own low had (told.Refused told_refusal.NoTxn) (told.Committed y at) came in cc
abort_came m h own low had (Some x) y at came =
    asks_came m h own low had (Status x.meta.status) (request.Abort x.meta.txn) (abort_next x.meta) (told.Committed y at) (WasTold h y at) (λ never. cc) came
    (λ a more. abort_served m (Status x.meta.status) h low x.meta y at a a.reply refl (abort_reply m h own _ had x.meta y at a.reply more))
    (λ more. absurd (abort_reply m h own low had x.meta y at (reply.Refused refusal.Memory) more))

-- ## of a single write

abbrev resolved : (meta : Meta) → Found → List Found → List FateOf → (ToldRefusal → Program Told) → (List FateOf → Program Told) → Reply → Program Told
resolved meta f fs fates stop next r = elim r [
  | reply.FateIs heard ↦ elim heard [
    | fate.Pending ↦ stop (told_refusal.Conflict f.txn)
    | settled ↦ resolve_all meta fs (fates ++ (record { txn = f.txn; fate = settled }) ∷ []) stop next
  ]
  | reply.Refused why ↦ stop (refusal_told (Status f.status) why)
  | _ ↦ lost
]

-- what comes of it went on with some fates
abbrev GoesOn : Actor → History → ℕ → ℕ → (List FateOf → Program Told) → Type 0
GoesOn m h y at next = (own had : Option ℕ) (low : History) (found : List FateOf) → Came m h own low had (next found) (told.Committed y at) → WasTold h y at

abbrev GoesOnOver : Actor → History → Option ℕ → Option ℕ → ℕ → ℕ → (List FateOf → Program Told) → Type 0
GoesOnOver m h own had y at next = (found : List FateOf) (low : History) → Came m h own low had (next found) (told.Committed y at) → WasTold h y at

not_said : (m : Actor) (h : History) (own : Option ℕ) (low : History) (had : Option ℕ) (p : Program Told) (y at : ℕ) → Quiet p → Came m h own low had p (told.Committed y at) → ⊥
not_said m h own low had p y at quiet came = says_came NoCommit m h own low had p (told.Committed y at) quiet came

resolve_came : (m : Actor) (h : History) (own : Option ℕ) (low : History) (had : Option ℕ) (meta : Meta) (fs : List Found) (fates : List FateOf) (stop : ToldRefusal → Program Told) (next : List FateOf → Program Told) (y at : ℕ) →
    ((why : ToldRefusal) → Quiet (stop why)) → GoesOn m h y at next → Came m h own low had (resolve_all meta fs fates stop next) (told.Committed y at) → WasTold h y at
unfolding resolve_all
resolve_came m h own low had meta [] fates stop next y at stops goes came = goes own had low fates came
resolve_came m h own low had meta (f ∷ fs) fates stop next y at stops goes came =
    let on : GoesOnOver m h own had y at (λ (found : List FateOf). resolve_all meta fs found stop next) = λ found mid more. resolve_came m h own mid had meta fs found stop next y at stops goes more in
    asks_came m h own low had (Status f.status) (request.Resolve f.txn meta.txn meta.priority) (resolved meta f fs fates stop next) (told.Committed y at) (WasTold h y at) (λ never. cc) came
    (λ a more. resolved_came on a.reply (answered m (Status f.status) (request.Resolve f.txn meta.txn meta.priority) h low a) more) (λ more. resolved_came on (reply.Refused refusal.Memory) low more)
  where
    resolved_came : GoesOnOver m h own had y at (λ (found : List FateOf). resolve_all meta fs found stop next) → (r : Reply) (mid : History) → Came m h own mid had (resolved meta f fs fates stop next r) (told.Committed y at) → WasTold h y at
    resolved_came on (reply.FateIs fate.Pending) mid more = absurd (not_said m h own mid had (stop (told_refusal.Conflict f.txn)) y at (stops (told_refusal.Conflict f.txn)) more)
    resolved_came on (reply.FateIs (fate.Committed c)) mid more = on (fates ++ (record { txn = f.txn; fate = fate.Committed c }) ∷ []) mid more
    resolved_came on (reply.FateIs fate.Aborted) mid more = on (fates ++ (record { txn = f.txn; fate = fate.Aborted }) ∷ []) mid more
    resolved_came on (reply.FateIs fate.Absent) mid more = on (fates ++ (record { txn = f.txn; fate = fate.Absent }) ∷ []) mid more
    resolved_came on (reply.Refused why) mid more = absurd (not_said m h own mid had (stop (refusal_told (Status f.status) why)) y at (stops (refusal_told (Status f.status) why)) more)
    resolved_came on r mid more = absurd (not_said m h own mid had lost y at tt more)

abbrev found_next : Meta → Place → (ToldRefusal → Program Told) → (List FateOf → Program Told) → Reply → Program Told
found_next meta place stop next r = elim r [
  | reply.Others found ↦ resolve_all meta found [] stop next
  | reply.Refused why ↦ stop (refusal_told (Tablet place.tablet) why)
  | _ ↦ lost
]

single_came : (m : Actor) (h : History) (own : Option ℕ) (low : History) (had : Option ℕ) (meta : Meta) (place : Place) (o : Op) (seen y at : ℕ) → Came m h own low had (txn_program (step.Single meta place o seen)) (told.Committed y at) → WasTold h y at
single_came m h own low had meta place o seen y at came =
    asks_came m h own low had (Tablet place.tablet) (request.ListWrite meta.txn place.path) (found_next meta place refused write) (told.Committed y at) (WasTold h y at) (λ never. cc) came
    (λ a more. found_came a.reply (answered m (Tablet place.tablet) (request.ListWrite meta.txn place.path) h low a) more) (λ more. found_came (reply.Refused refusal.Memory) low more)
  where
    write : List FateOf → Program Told
    write fates = Asks (Tablet place.tablet) (request.Single meta.txn place.path o seen fates) (single_next meta place)

    write_came : GoesOn m h y at write
    write_came own had low fates came =
        asks_came m h own low had (Tablet place.tablet) (request.Single meta.txn place.path o seen fates) (single_next meta place) (told.Committed y at) (WasTold h y at) (λ never. cc) came
        (λ a more. single_served m (Tablet place.tablet) h low meta place o seen fates y at a a.reply refl (single_reply m h own _ had meta place y at a.reply more))
        (λ more. absurd (single_reply m h own low had meta place y at (reply.Refused refusal.Memory) more))

    found_came : (r : Reply) (mid : History) → Came m h own mid had (found_next meta place refused write r) (told.Committed y at) → WasTold h y at
    found_came (reply.Others found) mid more = resolve_came m h own mid had meta found [] refused write y at (λ why. tt) write_came more
    found_came (reply.Refused why) mid more = let no = said m h own mid had (told.Refused (refusal_told (Tablet place.tablet) why)) (told.Committed y at) more in cc
    found_came r mid more = let no = said m h own mid had (told.Refused told_refusal.Memory) (told.Committed y at) more in cc

closed_came : (config : Config) (m : Actor) (h : History) (own : Option ℕ) (low : History) (had : Option ℕ) (i : ℕ) (s : Keeps) (priority : ℕ) (place : Place) (o : Op) (opened : Option Opened) (y at : ℕ) →
    Came m h own low had (if_closed opened (txn_program (step.Single (next_meta config i s priority) place o s.last))) (told.Committed y at) → WasTold h y at
closed_came config m h own low had i s priority place o (Some x) y at came = let no = said m h own low had (told.Refused told_refusal.TxnOpen) (told.Committed y at) came in cc
closed_came config m h own low had i s priority place o None y at came = single_came m h own low had (next_meta config i s priority) place o s.last y at came

-- of each command of a session
pub command_came : (config : Config) (m : Actor) (h : History) (own : Option ℕ) (low : History) (i : ℕ) (s : Keeps) (line : Command) (y at : ℕ) → Came m h own low None (command_program config i s line) (told.Committed y at) → WasTold h y at
command_came config m h own low i s (command.Begin priority) y at came = absurd (not_said m h own low None (command_program config i s (command.Begin priority)) y at (begin_quiet config i s priority s.opened) came)
command_came config m h own low i s (command.Put place v) y at came = absurd (not_said m h own low None (command_program config i s (command.Put place v)) y at (put_quiet s place (op.Put v) s.opened) came)
command_came config m h own low i s (command.Del place) y at came = absurd (not_said m h own low None (command_program config i s (command.Del place)) y at (put_quiet s place op.Delete s.opened) came)
command_came config m h own low i s command.Commit y at came = commit_came m h own low None s s.opened y at came
command_came config m h own low i s command.Abort y at came = abort_came m h own low None s.opened y at came
command_came config m h own low i s command.End y at came = abort_came m h own low None s.opened y at came
command_came config m h own low i s (command.Read strict places) y at came = absurd (not_said m h own low None (command_program config i s (command.Read strict places)) y at (read_quiet config i s Get strict places s.opened) came)
command_came config m h own low i s (command.Scan strict place) y at came = absurd (not_said m h own low None (command_program config i s (command.Scan strict place)) y at (read_quiet config i s Scan strict (place ∷ []) s.opened) came)
command_came config m h own low i s (command.SinglePut place v priority) y at came = closed_came config m h own low None i s priority place (op.Put v) s.opened y at came
command_came config m h own low i s (command.SingleDel place priority) y at came = closed_came config m h own low None i s priority place op.Delete s.opened y at came
command_came config m h own low i s (command.Restart actor) y at came = absurd (not_said m h own low None (command_program config i s (command.Restart actor)) y at (restart_quiet actor) came)
command_came config m h own low i s (command.Apply tablet) y at came = absurd (not_said m h own low None (command_program config i s (command.Apply tablet)) y at (pass_quiet tablet) came)
command_came config m h own low i s (command.Clock node micros) y at came = let no = said m h own low None told.Set (told.Committed y at) came in cc

-- and of each mover
pub program_came : (config : Config) (m : Actor) (h : History) (own : Option ℕ) (low : History) (s : Keeps) (line : Command) (y at : ℕ) → Came m h own low None (program_of config m s line) (told.Committed y at) → WasTold h y at
program_came config (Session i) h own low s line y at came = command_came config (Session i) h own low i s line y at came
program_came config m h own low s (command.Apply tablet) y at came = absurd (not_said m h own low None (program_of config m s (command.Apply tablet)) y at (other_quiet config m s tablet) came)
  where
    other_quiet : (config : Config) (m : Actor) (s : Keeps) (tablet : ℕ) → Quiet (program_of config m s (command.Apply tablet))
    other_quiet config (Session i) s tablet = pass_quiet tablet
    other_quiet config (Tablet k) s tablet = pass_quiet tablet
    other_quiet config (Status j) s tablet = pass_quiet tablet
    other_quiet config (Applier k) s tablet = pass_quiet tablet
program_came config m h own low s line y at came = let no = said m h own low None (told.Refused told_refusal.Memory) (told.Committed y at) came in cc
