-- Once something was asked, no refusal of the session's own is told.
use Rattle.std.proofs.Common.{◌≡◌, ℕ, ◌+◌, ◌<◌, ◌≤◌, Bool, true, false, ◌||◌, List, [], ◌∷◌, Option, Some, None, Ok, Err, max, map, length, nat_eq, nat_lt, refl, sym, subst, inl, inr, ◌⊎◌, if◌then◌else◌, arith}
use Rattle.std.proofs.lemmas.Bool.{ltb-true, ltb-false}
use Rattle.hybrid_time.specs.Time.{greatest_reading, limit_time, time_at}
use Rattle.hybrid_time.specs.declared.time_refusal.TimeRefusal.TheVariants as time_refusal
use Rattle.doc_path.specs.Path.{Parts}
use Rattle.txn_data.specs.declared.actor.Actor.{Actor}
use Rattle.txn_data.specs.declared.actor.Actor.TheVariants.{Tablet, Status, Session, Applier}
use Rattle.txn_data.specs.declared.command.Command.{Command}
use Rattle.txn_data.specs.declared.command.Command.TheVariants as command
use Rattle.txn_data.specs.declared.config.Config.{Config}
use Rattle.txn_data.specs.declared.fate.Fate.TheVariants as fate
use Rattle.txn_data.specs.declared.fate_of.FateOf.{FateOf}
use Rattle.txn_data.specs.declared.found.Found.{Found}
use Rattle.txn_data.specs.declared.meta.Meta.{Meta}
use Rattle.txn_data.specs.declared.op.Op.{Op}
use Rattle.txn_data.specs.declared.op.Op.TheVariants as op
use Rattle.txn_data.specs.declared.place.Place.{Place}
use Rattle.txn_data.specs.declared.written.Written.{Written}
use Rattle.txn_data.specs.declared.read_kind.ReadKind.{ReadKind}
use Rattle.txn_data.specs.declared.read_kind.ReadKind.TheVariants.{Get, Scan}
use Rattle.txn_data.specs.declared.tablet_limit.TabletLimit.{TabletLimit}
use Rattle.txn_data.specs.declared.reply.Reply.{Reply}
use Rattle.txn_data.specs.declared.reply.Reply.TheVariants as reply
use Rattle.txn_data.specs.declared.refusal.Refusal.{Refusal}
use Rattle.txn_data.specs.declared.refusal.Refusal.TheVariants as refusal
use Rattle.txn_data.specs.declared.read_end.ReadEnd.{ReadEnd}
use Rattle.txn_data.specs.declared.read_what.ReadWhat.{ReadWhat}
use Rattle.txn_data.specs.declared.read_what.ReadWhat.TheVariants as what
use Rattle.txn_data.specs.declared.told.Told.{Told}
use Rattle.txn_data.specs.declared.told.Told.TheVariants as told
use Rattle.txn_data.specs.declared.told_refusal.ToldRefusal.{ToldRefusal}
use Rattle.txn_data.specs.declared.told_refusal.ToldRefusal.TheVariants as told_refusal
use Rattle.txn_data.specs.declared.txn_step.TxnStep.TheVariants as step
use Rattle.txn_types.specs.Lists.{with_number, rising}
use Rattle.txn_types.specs.History.{same_actor}
use Rattle.txn_types.specs.Program.{Program, Done, Asks, Reads, then_do, refusal_told}
use Rattle.txn_types.specs.ReadProgram.{Asked, Progress, ask_fates, visit, with_limit, with_tablet_rows, read_done, restarted, met_then, round_one, round_two, tablets_of, read_program}
use Rattle.txn_types.specs.TxnProgram.{refused, write_refused, resolve_all, find_others, txn_program}
use Rattle.txn_types.specs.PassProgram.{Counts, apply_then, clean_then, pass_over, pass_program}
use Rattle.txn_types.specs.Session.{Keeps, Opened, next_meta, timed_then, begin_program, read_at, read_inside, read_told, writes_of, has_writes, tablets_used, read_command, write_command, commit_command, abort_command, if_closed, restart_program, command_program}
use Rattle.txn_types.specs.Plan.{IsLine}
use Rattle.txn_types.specs.Run.{Mover, MayStart, StartsLine, program_of}
use Rattle.law_messages.proofs.Shapes.{one_next, two_next}

abbrev pub is_commit : Option Command → Bool
is_commit (Some command.Commit) = true
is_commit line = false

-- no refusal of the mover's own; and Aborted only where the line commits
abbrev pub LateWhy : Actor → Bool → ToldRefusal → Type 0
LateWhy m ends told_refusal.NoTxn = ⊥
LateWhy m ends told_refusal.TxnOpen = ⊥
LateWhy m ends told_refusal.InDoubt = ⊥
LateWhy m ends (told_refusal.ClockRange a n) = same_actor a m ≡ false
LateWhy m ends (told_refusal.Aborted by) = ends ≡ true
LateWhy m ends why = Unit {0}

abbrev pub IsLate : Actor → Bool → Told → Type 0
IsLate m ends (told.Refused why) = LateWhy m ends why
IsLate m ends t = Unit {0}

abbrev pub MayAbort : Bool → Told → Type 0
MayAbort ends (told.Refused (told_refusal.Aborted by)) = ends ≡ true
MayAbort ends t = Unit {0}

-- whatever it hears from here on, it takes no reading and comes to an end of this kind
abbrev pub Comes : {A : Type 0} → (A → Type 0) → Program A → Type 0
Comes Q (Done a) = Q a
Comes Q (Asks to asked next) = (r : Reply) → Comes Q (next r)
Comes Q (Reads given) = ⊥

then_comes : {A B : Type 0} (Q : A → Type 0) (V : B → Type 0) (f : A → B) → ((a : A) → Q a → V (f a)) → (p : Program A) → Comes Q p → Comes V (then_do p (λ a. Done (f a)))
unfolding then_do
then_comes Q V f goes (Done a) comes = goes a comes
then_comes Q V f goes (Asks to asked next) comes = λ r. then_comes Q V f goes (next r) (comes r)
then_comes Q V f goes (Reads given) comes = absurd comes

abbrev pub IsAsking : Program Told → Type 0
IsAsking (Asks to asked next) = Unit {0}
IsAsking p = ⊥

-- a reading that is out of range is told at once, and another one makes the program ask
abbrev pub Ranged : Actor → Bool → ℕ → Program Told → Type 0
Ranged m ends n p =
    ((greatest_reading < n) × (p ≡ refused (told_refusal.ClockRange m n)))
    ⊎ ((n ≤ greatest_reading) × IsAsking p × Comes (IsLate m ends) p)

-- a program that is late once it asked something
abbrev pub Lates : Actor → Bool → Program Told → Type 0
Lates m ends (Done t) = MayAbort ends t
Lates m ends (Asks to asked next) = Comes (IsLate m ends) (Asks to asked next)
Lates m ends (Reads given) = (n : ℕ) → Ranged m ends n (given n)

-- no machine
pub record IsApart (m : Actor) : Type 0 where
  pub tablet : (k : ℕ) → same_actor (Tablet k) m ≡ false
  pub status : (j : ℕ) → same_actor (Status j) m ≡ false

late_refusal : (m a : Actor) (ends : Bool) (r : Refusal) → same_actor a m ≡ false → LateWhy m ends (refusal_told a r)
late_refusal m a ends (refusal.Conflict other) apart = tt
late_refusal m a ends (refusal.Overlap at) apart = tt
late_refusal m a ends (refusal.LeaseHeld until) apart = tt
late_refusal m a ends (refusal.ClockFull at) apart = tt
late_refusal m a ends (refusal.ClockRange n) apart = apart
late_refusal m a ends refusal.LogFault apart = tt
late_refusal m a ends (refusal.Down since) apart = tt
late_refusal m a ends refusal.Memory apart = tt

abbrev EndLate : Actor → Bool → ReadWhat → Type 0
EndLate m ends (what.Refused why) = LateWhy m ends why
EndLate m ends w = Unit {0}

abbrev Ends : Actor → Bool → ReadEnd → Type 0
Ends m ends end = EndLate m ends end.what

module _ (m : Actor) (apart : IsApart m) (ends : Bool) where
  fates_late : (s : Progress) (fs : List Found) (fates : List FateOf) (next : List FateOf → Program ReadEnd) → ((all : List FateOf) → Comes (Ends m ends) (next all)) → Comes (Ends m ends) (ask_fates s fs fates next)
  unfolding ask_fates
  fates_late s [] fates next goes = goes fates
  fates_late s (f ∷ fs) fates next goes = elim [
    | reply.FateIs told ↦ fates_late s fs _ next goes
    | reply.Refused r ↦ late_refusal m (Status f.status) ends r (apart.status f.status)
    | _ ↦ tt
  ]

  visit_late : (a : Asked) (s : Progress) (windowed : Bool) (k : ℕ) (next : Progress → Reply → Program ReadEnd) → ((seen : Progress) (r : Reply) → Comes (Ends m ends) (next seen r)) → Comes (Ends m ends) (visit a s windowed k next)
  visit_late a s windowed k next goes = elim [
    | reply.Listed limit others ↦ fates_late (record s { limits = with_limit k limit s.limits }) others [] _ (λ fates r. goes _ r)
    | reply.Refused r ↦ late_refusal m (Tablet k) ends r (apart.tablet k)
    | _ ↦ tt
  ]

  two_late : (a : Asked) (s : Progress) (ks : List ℕ) → Comes (Ends m ends) (round_two a s ks)
  unfolding round_two
  two_late a s [] = tt
  two_late a s (k ∷ ks) = visit_late a s false k (two_next a k ks) (λ seen. elim [
    | reply.Collected rows ↦ two_late a (with_tablet_rows k rows seen) ks
    | reply.Refused r ↦ late_refusal m (Tablet k) ends r (apart.tablet k)
    | _ ↦ tt
  ])

  done_late : (b : Bool) (a : Asked) (s : Progress) → Comes (Ends m ends) (if b then read_done a s else round_two a (record s { found = [] }) (tablets_of a.places))
  done_late true a s = tt
  done_late false a s = two_late a (record s { found = [] }) (tablets_of a.places)

  met_late : (strict : Bool) (at : ℕ) (path : Parts) (s : Progress) (next : Program ReadEnd) → Comes (Ends m ends) next → Comes (Ends m ends) (met_then strict (what.Restart at path) s next)
  met_late true at path s next goes = tt
  met_late false at path s next goes = goes

  one_late : (a : Asked) (s : Progress) (ks : List ℕ) → Comes (Ends m ends) (round_one a s ks)
  unfolding round_one
  one_late a s [] = done_late (nat_eq s.restarts 0) a s
  one_late a s (k ∷ ks) = visit_late a s true k (one_next a k ks) (λ seen. elim [
    | reply.Collected rows ↦ one_late a (with_tablet_rows k rows seen) ks
    | reply.Met at path ↦ met_late a.strict at path seen (round_one a (restarted at seen) ks) (one_late a (restarted at seen) ks)
    | reply.Refused r ↦ late_refusal m (Tablet k) ends r (apart.tablet k)
    | _ ↦ tt
  ])

  told_late : (kind : ReadKind) (ws : List Written) (places : List Place) (end : ReadEnd) (w : ReadWhat) → end.what ≡ w → EndLate m ends w → IsLate m ends (read_told kind ws places end)
  told_late kind ws places end (what.Values rows) is late = rw is tt
  told_late kind ws places end (what.Restart at path) is late = rw is tt
  told_late kind ws places end (what.Refused why) is late = rw is late

  read_late : (own_txn : Option ℕ) (kind : ReadKind) (places : List Place) (t g : ℕ) (strict : Bool) (ws : List Written) (limits : List TabletLimit) →
      Comes (IsLate m ends) (then_do (read_program own_txn kind places t g strict limits) (λ end. Done (read_told kind ws places end)))
  read_late own_txn kind places t g strict ws limits = then_comes (Ends m ends) (IsLate m ends) (read_told kind ws places) (λ end late. told_late kind ws places end end.what refl late)
      (read_program own_txn kind places t g strict limits) (one_late _ _ (tablets_of places))

  -- what is late from the first is late once it asked something
  late_told : (t : Told) → IsLate m ends t → MayAbort ends t
  late_told (told.Refused (told_refusal.Aborted by)) late = late
  late_told t late = tt

  lates : (p : Program Told) → Comes (IsLate m ends) p → Lates m ends p
  lates (Done t) comes = late_told t comes
  lates (Asks to asked next) comes = comes
  lates (Reads given) comes = absurd comes

  -- ## writes

  stop_late : (meta : Meta) (why : ToldRefusal) → LateWhy m ends why → Comes (IsLate m ends) (write_refused meta why)
  stop_late meta (told_refusal.Conflict other) late = λ r. tt
  stop_late meta (told_refusal.Overlap at) late = λ r. tt
  stop_late meta (told_refusal.LogFault actor) late = λ r. tt
  stop_late meta (told_refusal.Aborted by) late = late
  stop_late meta (told_refusal.Restart at path) late = tt
  stop_late meta (told_refusal.LeaseHeld a until) late = tt
  stop_late meta (told_refusal.ClockFull a at) late = tt
  stop_late meta (told_refusal.ClockRange a reading) late = late
  stop_late meta (told_refusal.Down a since) late = tt
  stop_late meta told_refusal.NoTxn late = late
  stop_late meta told_refusal.TxnOpen late = late
  stop_late meta told_refusal.InDoubt late = late
  stop_late meta told_refusal.Memory late = tt

  abbrev Stopping : (ToldRefusal → Program Told) → Type 0
  Stopping stop = (why : ToldRefusal) → LateWhy m ends why → Comes (IsLate m ends) (stop why)

  resolve_late : (meta : Meta) (fs : List Found) (fates : List FateOf) (stop : ToldRefusal → Program Told) (next : List FateOf → Program Told) → Stopping stop → ((given : List FateOf) → Comes (IsLate m ends) (next given)) → Comes (IsLate m ends) (resolve_all meta fs fates stop next)
  unfolding resolve_all
  resolve_late meta [] fates stop next stops goes = goes fates
  resolve_late meta (f ∷ fs) fates stop next stops goes = elim [
    | reply.FateIs fate.Pending ↦ stops (told_refusal.Conflict f.txn) tt
    | reply.FateIs (fate.Committed at) ↦ resolve_late meta fs _ stop next stops goes
    | reply.FateIs fate.Aborted ↦ resolve_late meta fs _ stop next stops goes
    | reply.FateIs fate.Absent ↦ resolve_late meta fs _ stop next stops goes
    | reply.Refused r ↦ stops (refusal_told (Status f.status) r) (late_refusal m (Status f.status) ends r (apart.status f.status))
    | _ ↦ tt
  ]

  others_late : (meta : Meta) (place : Place) (stop : ToldRefusal → Program Told) (next : List FateOf → Program Told) → Stopping stop → ((given : List FateOf) → Comes (IsLate m ends) (next given)) → Comes (IsLate m ends) (find_others meta place stop next)
  others_late meta place stop next stops goes = elim [
    | reply.Others found ↦ resolve_late meta found [] stop next stops goes
    | reply.Refused r ↦ stops (refusal_told (Tablet place.tablet) r) (late_refusal m (Tablet place.tablet) ends r (apart.tablet place.tablet))
    | _ ↦ tt
  ]

  write_late : (meta : Meta) (number : ℕ) (place : Place) (o : Op) (read seen : ℕ) → Comes (IsLate m ends) (txn_program (step.Write meta number place o read seen))
  write_late meta number place o read seen = others_late meta place (write_refused meta) _ (stop_late meta) (λ fates. elim [
    | reply.Written at ↦ tt
    | reply.Refused r ↦ stop_late meta (refusal_told (Tablet place.tablet) r) (late_refusal m (Tablet place.tablet) ends r (apart.tablet place.tablet))
    | _ ↦ tt
  ])

  single_late : (meta : Meta) (place : Place) (o : Op) (seen : ℕ) → Comes (IsLate m ends) (txn_program (step.Single meta place o seen))
  single_late meta place o seen = others_late meta place refused _ (λ why late. late) (λ fates. elim [
    | reply.SingleDone at ↦ tt
    | reply.Refused r ↦ late_refusal m (Tablet place.tablet) ends r (apart.tablet place.tablet)
    | _ ↦ tt
  ])

  begin_late : (meta : Meta) (r : ℕ) → Comes (IsLate m ends) (txn_program (step.Begin meta r))
  begin_late meta r = elim [ reply.Begun ↦ tt | reply.Refused why ↦ late_refusal m (Status meta.status) ends why (apart.status meta.status) | _ ↦ tt ]

  commit_late : (meta : Meta) (floor : ℕ) (tablets : List ℕ) → ends ≡ true → Comes (IsLate m ends) (txn_program (step.Commit meta floor tablets))
  commit_late meta floor tablets said = elim [
    | reply.Committed at ↦ tt
    | reply.AbortedBy by ↦ said
    | reply.Gone ↦ tt
    | reply.Refused r ↦ late_refusal m (Status meta.status) ends r (apart.status meta.status)
    | _ ↦ tt
  ]

  abort_late : (meta : Meta) → Comes (IsLate m ends) (txn_program (step.Abort meta))
  abort_late meta = elim [ reply.Ended ↦ tt | reply.Committed at ↦ tt | reply.Refused r ↦ late_refusal m (Status meta.status) ends r (apart.status meta.status) | _ ↦ tt ]

  restart_late : (a : Actor) → same_actor a m ≡ false → Comes (IsLate m ends) (restart_program a)
  restart_late a other = elim [ reply.Restarted kept ↦ tt | reply.Refused r ↦ late_refusal m a ends r other | _ ↦ tt ]

  -- ## passes

  apply_late : (k : ℕ) (f : Found) (c : ℕ) (next : Program Told) → Comes (IsLate m ends) next → Comes (IsLate m ends) (apply_then k f c next)
  apply_late k f c next goes = elim [
    | reply.AppliedHere ↦ elim [ reply.Noted ↦ goes | reply.Refused r ↦ late_refusal m (Status f.status) ends r (apart.status f.status) | _ ↦ tt ]
    | reply.Refused r ↦ late_refusal m (Tablet k) ends r (apart.tablet k)
    | _ ↦ tt
  ]

  clean_late : (k : ℕ) (f : Found) (next : Program Told) → Comes (IsLate m ends) next → Comes (IsLate m ends) (clean_then k f next)
  clean_late k f next goes = elim [ reply.Cleaned ↦ goes | reply.Refused r ↦ late_refusal m (Tablet k) ends r (apart.tablet k) | _ ↦ tt ]

  over_late : (k : ℕ) (n : Counts) (fs : List Found) → Comes (IsLate m ends) (pass_over k n fs)
  unfolding pass_over
  over_late k n [] = tt
  over_late k n (f ∷ fs) = elim [
    | reply.FateIs fate.Pending ↦ over_late k (record n { left = n.left + 1 }) fs
    | reply.FateIs (fate.Committed c) ↦ apply_late k f c (pass_over k (record n { applied = n.applied + 1 }) fs) (over_late k (record n { applied = n.applied + 1 }) fs)
    | reply.FateIs fate.Aborted ↦ clean_late k f (pass_over k (record n { cleaned = n.cleaned + 1 }) fs) (over_late k (record n { cleaned = n.cleaned + 1 }) fs)
    | reply.FateIs fate.Absent ↦ clean_late k f (pass_over k (record n { cleaned = n.cleaned + 1 }) fs) (over_late k (record n { cleaned = n.cleaned + 1 }) fs)
    | reply.Refused r ↦ late_refusal m (Status f.status) ends r (apart.status f.status)
    | _ ↦ tt
  ]

  pass_late : (k : ℕ) → Comes (IsLate m ends) (pass_program k)
  pass_late k = elim [ reply.Intents found ↦ over_late k _ found | reply.Refused r ↦ late_refusal m (Tablet k) ends r (apart.tablet k) | _ ↦ tt ]

-- ## lines

session_apart : (i : ℕ) → IsApart (Session i)
session_apart i = record { tablet = λ k. refl; status = λ j. refl }

applier_apart : (k : ℕ) → IsApart (Applier k)
applier_apart k = record { tablet = λ j. refl; status = λ j. refl }

timed_lates : (b : Bool) (ends : Bool) (i n low : ℕ) (next : ℕ → Program Told) → nat_lt greatest_reading n ≡ b → ((now : ℕ) → IsAsking (next now) × Comes (IsLate (Session i) ends) (next now)) →
    Ranged (Session i) ends n (timed_then i n next (if b then Err (time_refusal.ClockRange n) else Ok low))
timed_lates true ends i n low next lt goes = inl (ltb-true greatest_reading n lt, refl)
timed_lates false ends i n low next lt goes = let now = goes low in inr (ltb-false greatest_reading n lt, now.0, now.1)

-- a read of something asks
asks_first : (a : Asked) (s : Progress) (k : ℕ) (ks : List ℕ) (f : ReadEnd → Told) → IsAsking (then_do (round_one a s (k ∷ ks)) (λ end. Done (f end)))
unfolding round_one then_do
asks_first a s k ks f = tt

some_with : (n : ℕ) (ms : List ℕ) → (k : ℕ) × ((ks : List ℕ) × (with_number n ms ≡ k ∷ ks))
unfolding with_number
some_with n [] = (n, ([], refl))
some_with n (m ∷ ms) = choice (nat_lt n m) (nat_eq n m)
  where
    choice : (b c : Bool) → (k : ℕ) × ((ks : List ℕ) × ((if b then n ∷ m ∷ ms else (if c then m ∷ ms else m ∷ with_number n ms)) ≡ k ∷ ks))
    choice true c = (n, (m ∷ ms, refl))
    choice false true = (m, (ms, refl))
    choice false false = (m, (with_number n ms, refl))

some_tablets : (places : List Place) → 1 ≤ length places → (k : ℕ) × ((ks : List ℕ) × (tablets_of places ≡ k ∷ ks))
unfolding rising
some_tablets [] some = let wrong : ⊥ = omega (arith, some) in absurd wrong
some_tablets (p ∷ places) some = some_with p.tablet (rising (map (λ (q : Place). q.tablet) places))

read_asks : (config : Config) (kind : ReadKind) (strict : Bool) (places : List Place) (n now : ℕ) → 1 ≤ length places → IsAsking (read_at config kind strict places n now)
read_asks config kind strict places n now some =
    let ks = some_tablets places some in
    let g = max now (limit_time n config.skew_us) in
    subst (λ (l : List ℕ). IsAsking (then_do (round_one (record { own_txn = None; kind = kind; places = places; g = g; strict = strict }) (record { t = now; restarts = 0; limits = []; found = [] }) l) (λ end. Done (read_told kind [] places end))))
    (sym ks.1.1) (asks_first (record { own_txn = None; kind = kind; places = places; g = g; strict = strict }) (record { t = now; restarts = 0; limits = []; found = [] }) ks.0 ks.1.0 (read_told kind [] places))

read_lates : (config : Config) (i : ℕ) (s : Keeps) (ends : Bool) (kind : ReadKind) (strict : Bool) (places : List Place) (o : Option Opened) → 1 ≤ length places → Lates (Session i) ends (read_command config i s kind strict places o)
read_lates config i s ends kind strict places None some = λ n. timed_lates (nat_lt greatest_reading n) ends i n (max (max s.last 0) (time_at n 0)) (read_at config kind strict places n) refl
    (λ now. (read_asks config kind strict places n now some, read_late (Session i) (session_apart i) ends None kind places now (max now (limit_time n config.skew_us)) strict [] []))
read_lates config i s ends kind strict places (Some x) some = doubt x.in_doubt
  where
    doubt : (b : Bool) → Lates (Session i) ends (if b then refused told_refusal.InDoubt else read_inside x kind strict places)
    doubt true = tt
    doubt false = lates (Session i) (session_apart i) ends (read_inside x kind strict places) (read_late (Session i) (session_apart i) ends (Some x.meta.txn) kind places x.r x.g (strict || has_writes x.writes || x.has_read) (writes_of x.writes) x.limits)

write_lates : (i : ℕ) (s : Keeps) (ends : Bool) (place : Place) (o : Op) (opened : Option Opened) → Lates (Session i) ends (write_command s place o opened)
write_lates i s ends place o None = tt
write_lates i s ends place o (Some x) = doubt x.in_doubt
  where
    doubt : (b : Bool) → Lates (Session i) ends (if b then refused told_refusal.InDoubt else txn_program (step.Write x.meta (length x.writes) place o x.r s.last))
    doubt true = tt
    doubt false = lates (Session i) (session_apart i) ends (txn_program (step.Write x.meta (length x.writes) place o x.r s.last)) (write_late (Session i) (session_apart i) ends x.meta (length x.writes) place o x.r s.last)

commit_lates : (i : ℕ) (s : Keeps) (opened : Option Opened) → Lates (Session i) true (commit_command s opened)
commit_lates i s None = tt
commit_lates i s (Some x) = commit_late (Session i) (session_apart i) true x.meta s.last (tablets_used [] x.writes) refl

abort_lates : (i : ℕ) (opened : Option Opened) → Lates (Session i) false (abort_command opened)
abort_lates i None = tt
abort_lates i (Some x) = abort_late (Session i) (session_apart i) false x.meta

begin_lates : (config : Config) (i : ℕ) (s : Keeps) (priority : ℕ) (opened : Option Opened) → Lates (Session i) false (if_closed opened (begin_program config i s priority))
begin_lates config i s priority (Some x) = tt
begin_lates config i s priority None = λ n. timed_lates (nat_lt greatest_reading n) false i n (max (max s.last 0) (time_at n 0)) (λ now. txn_program (step.Begin (next_meta config i s priority) now)) refl
    (λ now. (tt, begin_late (Session i) (session_apart i) false (next_meta config i s priority) now))

single_lates : (config : Config) (i : ℕ) (s : Keeps) (priority : ℕ) (place : Place) (o : Op) (opened : Option Opened) → Lates (Session i) false (if_closed opened (txn_program (step.Single (next_meta config i s priority) place o s.last)))
single_lates config i s priority place o (Some x) = tt
single_lates config i s priority place o None = lates (Session i) (session_apart i) false (txn_program (step.Single (next_meta config i s priority) place o s.last)) (single_late (Session i) (session_apart i) false (next_meta config i s priority) place o s.last)

other_machine : (config : Config) (i : ℕ) (a : Actor) → IsLine config (command.Restart a) → same_actor a (Session i) ≡ false
other_machine config i (Tablet k) is = refl
other_machine config i (Status j) is = refl
other_machine config i (Session j) is = absurd is
other_machine config i (Applier k) is = absurd is

command_lates : (config : Config) (i : ℕ) (s : Keeps) (line : Command) → StartsLine config s.opened line → Lates (Session i) (is_commit (Some line)) (command_program config i s line)
command_lates config i s (command.Begin priority) may = begin_lates config i s priority s.opened
command_lates config i s (command.Put place v) may = write_lates i s false place (op.Put v) s.opened
command_lates config i s (command.Del place) may = write_lates i s false place op.Delete s.opened
command_lates config i s command.Commit may = commit_lates i s s.opened
command_lates config i s command.Abort may = abort_lates i s.opened
command_lates config i s command.End may = abort_lates i s.opened
command_lates config i s (command.Read strict places) may = read_lates config i s false Get strict places s.opened may.0
command_lates config i s (command.Scan strict place) may = read_lates config i s false Scan strict (place ∷ []) s.opened (omega arith)
command_lates config i s (command.SinglePut place v priority) may = single_lates config i s priority place (op.Put v) s.opened
command_lates config i s (command.SingleDel place priority) may = single_lates config i s priority place op.Delete s.opened
command_lates config i s (command.Restart actor) may = restart_late (Session i) (session_apart i) false actor (other_machine config i actor may)
command_lates config i s (command.Apply tablet) may = pass_late (Session i) (session_apart i) false tablet
command_lates config i s (command.Clock node micros) may = tt

pub line_lates : (config : Config) (m : Actor) (s : Mover) (line : Command) → MayStart config m s line → Lates m (is_commit (Some line)) (program_of config m s.keeps line)
line_lates config (Session i) s line may = command_lates config i s.keeps line may.2
line_lates config (Applier k) s line may = subst (λ (l : Command). Lates (Applier k) (is_commit (Some l)) (program_of config (Applier k) s.keeps l)) (sym may.1) (pass_late (Applier k) (applier_apart k) false k)
line_lates config (Tablet k) s line may = absurd may
line_lates config (Status j) s line may = absurd may
