-- Each command of a session, and each pass, keeps what sessions know of their transactions.
use Rattle.std.proofs.Common.{◌≡◌, ℕ, ◌+◌, ◌^◌, ◌<◌, ◌≤◌, max, Bool, true, false, ◌||◌, List, [], ◌∷◌, Option, Some, None, Result, Ok, Err, map, length, refl, sym, ◌∙◌, subst, inl, inr, ◌⊎◌, if◌then◌else◌, arith}
use Rattle.hybrid_time.specs.Time.{least_time, limit_time}
use Rattle.hybrid_time.specs.declared.time_refusal.TimeRefusal.{TimeRefusal}
use Rattle.txn_data.specs.declared.actor.Actor.{Actor}
use Rattle.txn_data.specs.declared.actor.Actor.TheVariants.{Tablet, Status, Session, Applier}
use Rattle.txn_data.specs.declared.command.Command.{Command}
use Rattle.txn_data.specs.declared.command.Command.TheVariants as command
use Rattle.txn_data.specs.declared.config.Config.{Config}
use Rattle.txn_data.specs.declared.op.Op.{Op}
use Rattle.txn_data.specs.declared.op.Op.TheVariants as op
use Rattle.txn_data.specs.declared.place.Place.{Place}
use Rattle.txn_data.specs.declared.read_kind.ReadKind.{ReadKind}
use Rattle.txn_data.specs.declared.read_kind.ReadKind.TheVariants.{Get, Scan}
use Rattle.txn_data.specs.declared.tablet_limit.TabletLimit.{TabletLimit}
use Rattle.txn_data.specs.declared.request.Request.TheVariants as request
use Rattle.txn_data.specs.declared.reply.Reply.TheVariants as reply
use Rattle.txn_data.specs.declared.told.Told.{Told}
use Rattle.txn_data.specs.declared.told.Told.TheVariants as told
use Rattle.txn_data.specs.declared.told_refusal.ToldRefusal.TheVariants as told_refusal
use Rattle.txn_data.specs.declared.txn_step.TxnStep.TheVariants as step
use Rattle.txn_data.specs.declared.event.Event.TheVariants.{Start}
use Rattle.txn_types.specs.History.{History}
use Rattle.txn_types.specs.Plan.{IsCluster}
use Rattle.txn_types.specs.Program.{Program, Done, refusal_told}
use Rattle.txn_types.specs.TxnProgram.{refused, lost, txn_program}
use Rattle.txn_types.specs.ReadProgram.{read_program}
use Rattle.txn_types.specs.PassProgram.{pass_program}
use Rattle.txn_types.specs.Session.{Keeps, Opened, next_meta, timed_then, begin_program, read_at, read_inside, read_command, has_writes, tablets_used, write_command, commit_command, abort_command, if_closed, restart_program, command_program, uses_serial, serial_after, moved_by, time_taken, after_write, after_end, after_read, opened_after}
use Rattle.txn_types.specs.Run.{Mover, mover_at, Steps, MayStart, limits_of, program_of}
use Rattle.law_messages.proofs.Rules.{kept, told_memory, entry, started}
use Rattle.law_messages.proofs.Safe.{Safe, Keeping}
use Rattle.law_messages.proofs.Shapes.{Always, then_always, OfReads, read_always, OfPasses, pass_always, OfFinding, find_always}
use Rattle.law_owners.proofs.Serials.{serial_least, serial_low}
use Rattle.law_owners.proofs.Commands.{few}
use Rattle.law_open_txns.proofs.Tables.{commit_ended, abort_ended}
use Rattle.law_open_txns.proofs.Open.{tablet_of, OpenOk, OpenedOk, TouchesUpTo, IdleOk, rules, NoTouch, idle_step, open_up, touches_up, covered_up}
use Rattle.law_open_txns.specs.Laws.{ClosesCommit, ClosesAbort}
use Rattle.law_session_order.proofs.Plain.{ClosesAll, plain_safe, told_safe, begin_safe}
use Rattle.law_session_order.proofs.Writes.{put_safe}
use Rattle.law_session_order.proofs.Ends.{Ending_, end_safe, all_used}

-- ## what stays as it is

moved_up : (last : ℕ) (reading : Option ℕ) → last ≤ moved_by last reading
moved_up last None = omega arith
moved_up last (Some reading) = omega arith

last_up : (last : ℕ) (reading : Option ℕ) (t : Told) → last ≤ max (moved_by last reading) (time_taken t)
last_up last reading t = let le = moved_up last reading in omega (arith, le)

opened_up : (config : Config) (g : History) (i low high few many : ℕ) (opened : Option Opened) → low ≤ high → few ≤ many → OpenedOk config g (Session i) low few opened → OpenedOk config g (Session i) high many opened
opened_up config g i low high few many None le up ok = tt
opened_up config g i low high few many (Some x) le up ok = open_up config g (Session i) low high few many x le up ok

-- what a command leaves of the open transaction
abbrev Keeps_ : Config → ℕ → Keeps → Command → Option ℕ → List TabletLimit → Told → History → Type 0
Keeps_ config i s line reading limits t g =
    OpenedOk config g (Session i) (max (moved_by s.last reading) (time_taken t)) (serial_after s line t) (opened_after config i s line reading limits t s.opened)

keeps_idle : (config : Config) (i : ℕ) (s : Keeps) (line : Command) (reading : Option ℕ) (limits : List TabletLimit) (lose : Bool) (t : Told) (g : History) → Keeps_ config i s line reading limits t g → IdleOk config g (Session i) s →
    IdleOk config g (Session i) (kept config (Session i) (record { keeps = s; line = Some line; reading = reading; limits = limits; may_lose = lose }) t)
keeps_idle config i s line reading limits lose t g opened idle = record {
  opened = opened;
  touches = touches_up (Session i) s.serial (serial_after s line t) g (serial_least s line t) idle.touches;
}

same_keeps : (config : Config) (i : ℕ) (s : Keeps) (line : Command) (reading : Option ℕ) (limits : List TabletLimit) (t : Told) (g : History) → opened_after config i s line reading limits t s.opened ≡ s.opened → IdleOk config g (Session i) s →
    Keeps_ config i s line reading limits t g
same_keeps config i s line reading limits t g same idle =
    subst (λ (o : Option Opened). OpenedOk config g (Session i) (max (moved_by s.last reading) (time_taken t)) (serial_after s line t) o) (sym same)
    (opened_up config g i s.last (max (moved_by s.last reading) (time_taken t)) s.serial (serial_after s line t) s.opened (last_up s.last reading t) (serial_least s line t) idle.opened)

-- ## lines that leave it, whatever is told

read_open : (config : Config) (g : History) (i : ℕ) (s : Keeps) (x : Opened) (line : Command) (reading : Option ℕ) (limits : List TabletLimit) (t : Told) → OpenOk config g (Session i) s.last s.serial x →
    OpenedOk config g (Session i) (max (moved_by s.last reading) (time_taken t)) (serial_after s line t) (after_read x limits t)
read_open config g i s x line reading limits (told.Values at restarts rows) ok =
    let up = open_up config g (Session i) s.last (max (moved_by s.last reading) at) s.serial (serial_after s line (told.Values at restarts rows)) x
    (last_up s.last reading (told.Values at restarts rows)) (serial_least s line (told.Values at restarts rows)) ok in
    record {
      homed = up.homed;
      number = up.number;
      read = read_choice x.has_read x.r at (max (moved_by s.last reading) at) up.read (omega arith);
      covered = up.covered;
      free = up.free;
      begun = up.begun;
    }
  where
    read_choice : (b : Bool) (r at last : ℕ) → r ≤ last → at ≤ last → (if b then r else at) ≤ last
    read_choice true r at last one two = one
    read_choice false r at last one two = two
read_open config g i s x line reading limits t ok =
    let up = open_up config g (Session i) s.last (max (moved_by s.last reading) (time_taken t)) s.serial (serial_after s line t) x (last_up s.last reading t) (serial_least s line t) ok in
    record { homed = up.homed; number = up.number; read = up.read; covered = up.covered; free = up.free; begun = up.begun }

read_line_opened : (config : Config) (g : History) (i : ℕ) (s : Keeps) (strict : Bool) (places : List Place) (reading : Option ℕ) (limits : List TabletLimit) (t : Told) (opened : Option Opened) →
    OpenedOk config g (Session i) s.last s.serial opened →
    OpenedOk config g (Session i) (max (moved_by s.last reading) (time_taken t)) (serial_after s (command.Read strict places) t) (opened_after config i s (command.Read strict places) reading limits t opened)
read_line_opened config g i s strict places reading limits t None ok = tt
read_line_opened config g i s strict places reading limits t (Some x) ok = read_open config g i s x (command.Read strict places) reading limits t ok

scan_line_opened : (config : Config) (g : History) (i : ℕ) (s : Keeps) (strict : Bool) (place : Place) (reading : Option ℕ) (limits : List TabletLimit) (t : Told) (opened : Option Opened) →
    OpenedOk config g (Session i) s.last s.serial opened →
    OpenedOk config g (Session i) (max (moved_by s.last reading) (time_taken t)) (serial_after s (command.Scan strict place) t) (opened_after config i s (command.Scan strict place) reading limits t opened)
scan_line_opened config g i s strict place reading limits t None ok = tt
scan_line_opened config g i s strict place reading limits t (Some x) ok = read_open config g i s x (command.Scan strict place) reading limits t ok

-- the transaction stays the very one
abbrev Still : Config → ℕ → Keeps → Command → Option Opened → Type 0
Still config i s line opened = (reading : Option ℕ) (limits : List TabletLimit) (t : Told) → opened_after config i s line reading limits t opened ≡ opened

still_closes : (config : Config) (i : ℕ) (s : Keeps) (line : Command) → Still config i s line s.opened → ClosesAll config (Session i) s (Some line)
still_closes config i s line still = λ g reading limits lose t idle.
    keeps_idle config i s line reading limits lose t g (same_keeps config i s line reading limits t g (still reading limits t) idle) idle

-- ## shapes

abbrev Plain_ : Program Told → Type 0
Plain_ p = Always NoTouch p

of_reads : OfReads NoTouch
of_reads = record { lists = λ own_txn paths t g limit. tt; asks = λ x t. tt; collects = λ own_txn kind paths t window fates. tt }

of_passes : OfPasses NoTouch
of_passes = record { lists = tt; asks = λ x t. tt; applies = λ x at. tt; cleans = λ x. tt; notes = λ x tablet. tt }

of_finding : OfFinding NoTouch
of_finding = record { lists = λ x path. tt; resolves = λ x by priority. tt }

timed_plain : (i reading : ℕ) (next : ℕ → Program Told) (time : Result ℕ TimeRefusal) → ((now : ℕ) → Plain_ (next now)) → Plain_ (timed_then i reading next time)
timed_plain i reading next (Ok now) goes = goes now
timed_plain i reading next (Err why) goes = tt

read_plain : (config : Config) (i : ℕ) (s : Keeps) (kind : ReadKind) (strict : Bool) (places : List Place) (opened : Option Opened) → Plain_ (read_command config i s kind strict places opened)
read_plain config i s kind strict places None = λ reading. timed_plain i reading (read_at config kind strict places reading) (least_time s.last 0 reading) (λ now.
    then_always NoTouch (read_program None kind places now (max now (limit_time reading config.skew_us)) strict []) _
    (read_always NoTouch of_reads None kind places now (max now (limit_time reading config.skew_us)) strict []) (λ end. tt))
read_plain config i s kind strict places (Some x) = doubt_plain x.in_doubt
  where
    doubt_plain : (b : Bool) → Plain_ (if b then refused told_refusal.InDoubt else read_inside x kind strict places)
    doubt_plain true = tt
    doubt_plain false = then_always NoTouch (read_program (Some x.meta.txn) kind places x.r x.g (strict || has_writes x.writes || x.has_read) x.limits) _
        (read_always NoTouch of_reads (Some x.meta.txn) kind places x.r x.g (strict || has_writes x.writes || x.has_read) x.limits) (λ end. tt)

single_plain : (config : Config) (i : ℕ) (s : Keeps) (place : Place) (o : Op) (priority : ℕ) (opened : Option Opened) → Plain_ (if_closed opened (txn_program (step.Single (next_meta config i s priority) place o s.last)))
single_plain config i s place o priority (Some x) = tt
single_plain config i s place o priority None = find_always NoTouch of_finding (next_meta config i s priority) place refused _ (λ why. tt)
    (λ fates. (tt, elim [ reply.SingleDone at ↦ tt | reply.Refused why ↦ tt | _ ↦ tt ]))

restart_plain : (a : Actor) → Plain_ (restart_program a)
restart_plain a = (tt, elim [ reply.Restarted k ↦ tt | reply.Refused why ↦ tt | _ ↦ tt ])

-- ## each command

abbrev CommandSafe : Config → ℕ → Keeps → Command → History → History → Program Told → Type 0
CommandSafe config i s line z h p = Safe (rules config) config (Session i) z (started s line) h p

still_at : (config : Config) (i : ℕ) (s : Keeps) (line : Command) (opened : Option Opened) → s.opened ≡ opened → Still config i s line opened → Still config i s line s.opened
still_at config i s line opened is still = subst (λ (o : Option Opened). Still config i s line o) (sym is) still

-- told at once, and nothing changes
at_once : (config : Config) → IsCluster config → (i : ℕ) (s : Keeps) (line : Command) (z h : History) (t : Told) → IdleOk config h (Session i) s →
    ((u : Told) → (u ≡ t) ⊎ (u ≡ told_memory) → opened_after config i s line None (limits_of s.opened) u s.opened ≡ s.opened) → CommandSafe config i s line z h (Done t)
at_once config cluster i s line z h t idle same =
    told_safe config cluster (Session i) z (started s line) h t idle
    (λ g there. keeps_idle config i s line None (limits_of s.opened) true t g (same_keeps config i s line None (limits_of s.opened) t g (same t (inl refl)) there) there)
    (λ g there. keeps_idle config i s line None (limits_of s.opened) true told_memory g (same_keeps config i s line None (limits_of s.opened) told_memory g (same told_memory (inr refl)) there) there)

begin_line : (config : Config) → IsCluster config → (i : ℕ) (s : Keeps) (priority : ℕ) (z h : History) (opened : Option Opened) → s.opened ≡ opened → s.serial + 1 < 2 ^ 64 → IdleOk config h (Session i) s →
    CommandSafe config i s (command.Begin priority) z h (if_closed opened (begin_program config i s priority))
begin_line config cluster i s priority z h None is low idle = begin_safe config cluster i s priority (limits_of s.opened) z h is low idle
begin_line config cluster i s priority z h (Some x) is low idle =
    at_once config cluster i s (command.Begin priority) z h (told.Refused told_refusal.TxnOpen) idle
    (λ u told. still_at config i s (command.Begin priority) (Some x) is (λ reading limits t. refl) None (limits_of s.opened) u)

put_line : (config : Config) → IsCluster config → (i : ℕ) (s : Keeps) (line : Command) (place : Place) (o : Op) (z h : History) (opened : Option Opened) → s.opened ≡ opened → IdleOk config h (Session i) s → uses_serial line ≡ false →
    ((reading : Option ℕ) (limits : List TabletLimit) (t : Told) → opened_after config i s line reading limits t None ≡ None) →
    ((x : Opened) (reading : Option ℕ) (limits : List TabletLimit) (t : Told) → opened_after config i s line reading limits t (Some x) ≡ after_write x place o t) →
    CommandSafe config i s line z h (write_command s place o opened)
put_line config cluster i s line place o z h None is idle plain none after =
    at_once config cluster i s line z h (told.Refused told_refusal.NoTxn) idle (λ u told. still_at config i s line None is none None (limits_of s.opened) u)
put_line config cluster i s line place o z h (Some x) is idle plain none after = doubt_line x.in_doubt refl
  where
    memory_same : (u : Told) → (u ≡ told.Refused told_refusal.InDoubt) ⊎ (u ≡ told_memory) → after_write x place o u ≡ Some x
    memory_same u told = elim told [
      | inl doubt ↦ subst (λ (v : Told). after_write x place o v ≡ Some x) (sym doubt) refl
      | inr lost ↦ subst (λ (v : Told). after_write x place o v ≡ Some x) (sym lost) refl
    ]

    doubt_line : (b : Bool) → x.in_doubt ≡ b → CommandSafe config i s line z h (if b then refused told_refusal.InDoubt else txn_program (step.Write x.meta (length x.writes) place o x.r s.last))
    doubt_line true doubt = at_once config cluster i s line z h (told.Refused told_refusal.InDoubt) idle
        (λ u told. subst (λ (p : Option Opened). opened_after config i s line None (limits_of s.opened) u p ≡ p) (sym is) (after x None (limits_of s.opened) u ∙ memory_same u told))
    doubt_line false free = put_safe config cluster i s x line place o z (record { opened = is; free = free; plain = plain; after = after x }) (limits_of s.opened) true h idle

commit_asks : (x : Opened) (s : Keeps) → Ending_ x (request.Commit x.meta.txn s.last (tablets_used [] x.writes)) ClosesCommit (λ answer. elim answer [
  | reply.Committed at ↦ Done (told.Committed x.meta.txn at)
  | reply.AbortedBy by ↦ refused (told_refusal.Aborted by)
  | reply.Gone ↦ Done (told.Ended x.meta.txn)
  | reply.Refused why ↦ refused (refusal_told (Status x.meta.status) why)
  | _ ↦ lost
])
commit_asks x s = record {
  covered = λ floor ks a from r time append. tt;
  ends = λ from r time is. is.1;
  touches = λ i n from r time append le own. le;
  closes = elim [
    | reply.Committed at ↦ λ c. (told.Committed x.meta.txn at, refl, tt, refl, refl)
    | reply.AbortedBy by ↦ λ c. (told.Refused (told_refusal.Aborted by), refl, tt, refl, refl)
    | reply.Gone ↦ λ c. (told.Ended x.meta.txn, refl, tt, refl, refl)
    | _ ↦ λ c. absurd c
  ];
  refuses = λ why. refl;
}

abort_asks : (x : Opened) → Ending_ x (request.Abort x.meta.txn) ClosesAbort (λ answer. elim answer [
  | reply.Ended ↦ Done (told.Ended x.meta.txn)
  | reply.Committed at ↦ Done (told.Committed x.meta.txn at)
  | reply.Refused why ↦ refused (refusal_told (Status x.meta.status) why)
  | _ ↦ lost
])
abort_asks x = record {
  covered = λ floor ks a from r time append. tt;
  ends = λ from r time is. is.1;
  touches = λ i n from r time append le own. le;
  closes = elim [
    | reply.Committed at ↦ λ c. (told.Committed x.meta.txn at, refl, tt, refl, refl)
    | reply.Ended ↦ λ c. (told.Ended x.meta.txn, refl, tt, refl, refl)
    | _ ↦ λ c. absurd c
  ];
  refuses = λ why. refl;
}

commit_line : (config : Config) → IsCluster config → (i : ℕ) (s : Keeps) (z h : History) (opened : Option Opened) → s.opened ≡ opened → IdleOk config h (Session i) s → CommandSafe config i s command.Commit z h (commit_command s opened)
commit_line config cluster i s z h None is idle =
    at_once config cluster i s command.Commit z h (told.Refused told_refusal.NoTxn) idle (λ u told. still_at config i s command.Commit None is (λ reading limits t. refl) None (limits_of s.opened) u)
commit_line config cluster i s z h (Some x) is idle =
    end_safe config cluster i s x command.Commit (request.Commit x.meta.txn s.last (tablets_used [] x.writes)) ClosesCommit _ z
    (record { opened = is; plain = refl; after = λ reading limits t. refl }) (commit_asks x s) (λ never. cc)
    (λ g ok. covered_up x.meta.txn s.last s.last (map tablet_of x.writes) (tablets_used [] x.writes) g (omega arith) (λ k m. all_used k x.writes m) ok.covered)
    (λ g reading r time append served. commit_ended config.lease_us (Status x.meta.status) g reading x.meta.txn s.last (tablets_used [] x.writes) r time append served)
    (limits_of s.opened) true h idle

abort_line : (config : Config) → IsCluster config → (i : ℕ) (s : Keeps) (line : Command) (z h : History) (opened : Option Opened) → s.opened ≡ opened → IdleOk config h (Session i) s → uses_serial line ≡ false →
    ((reading : Option ℕ) (limits : List TabletLimit) (t : Told) → opened_after config i s line reading limits t None ≡ None) →
    ((x : Opened) (reading : Option ℕ) (limits : List TabletLimit) (t : Told) → opened_after config i s line reading limits t (Some x) ≡ after_end x t) →
    CommandSafe config i s line z h (abort_command opened)
abort_line config cluster i s line z h None is idle plain none after =
    at_once config cluster i s line z h (told.Refused told_refusal.NoTxn) idle (λ u told. still_at config i s line None is none None (limits_of s.opened) u)
abort_line config cluster i s line z h (Some x) is idle plain none after =
    end_safe config cluster i s x line (request.Abort x.meta.txn) ClosesAbort _ z
    (record { opened = is; plain = plain; after = after x }) (abort_asks x) (λ never. cc) (λ g ok. tt)
    (λ g reading r time append served. abort_ended config.lease_us (Status x.meta.status) g reading x.meta.txn r time append served)
    (limits_of s.opened) true h idle

-- a line that leaves the transaction as it is
still_line : (config : Config) → IsCluster config → (i : ℕ) (s : Keeps) (line : Command) (z h : History) (p : Program Told) → Still config i s line s.opened → Plain_ p → IdleOk config h (Session i) s → CommandSafe config i s line z h p
still_line config cluster i s line z h p still plain idle = plain_safe config cluster (Session i) z p (started s line) h (still_closes config i s line still) plain idle

still_both : (config : Config) (i : ℕ) (s : Keeps) (line : Command) (opened : Option Opened) → Still config i s line None → ((x : Opened) → Still config i s line (Some x)) → Still config i s line opened
still_both config i s line None none some = none
still_both config i s line (Some x) none some = some x

command_safe : (config : Config) → IsCluster config → (i : ℕ) (s : Keeps) (line : Command) (z h : History) → s.serial + 1 < 2 ^ 64 → IdleOk config h (Session i) s → CommandSafe config i s line z h (command_program config i s line)
command_safe config cluster i s (command.Begin priority) z h low idle = begin_line config cluster i s priority z h s.opened refl low idle
command_safe config cluster i s (command.Put place v) z h low idle =
    put_line config cluster i s (command.Put place v) place (op.Put v) z h s.opened refl idle refl (λ reading limits t. refl) (λ x reading limits t. refl)
command_safe config cluster i s (command.Del place) z h low idle =
    put_line config cluster i s (command.Del place) place op.Delete z h s.opened refl idle refl (λ reading limits t. refl) (λ x reading limits t. refl)
command_safe config cluster i s command.Commit z h low idle = commit_line config cluster i s z h s.opened refl idle
command_safe config cluster i s command.Abort z h low idle = abort_line config cluster i s command.Abort z h s.opened refl idle refl (λ reading limits t. refl) (λ x reading limits t. refl)
command_safe config cluster i s command.End z h low idle = abort_line config cluster i s command.End z h s.opened refl idle refl (λ reading limits t. refl) (λ x reading limits t. refl)
command_safe config cluster i s (command.Read strict places) z h low idle =
    plain_safe config cluster (Session i) z (read_command config i s Get strict places s.opened) (started s (command.Read strict places)) h
    (λ g reading limits lose t there. keeps_idle config i s (command.Read strict places) reading limits lose t g (read_line_opened config g i s strict places reading limits t s.opened there.opened) there)
    (read_plain config i s Get strict places s.opened) idle
command_safe config cluster i s (command.Scan strict place) z h low idle =
    plain_safe config cluster (Session i) z (read_command config i s Scan strict (place ∷ []) s.opened) (started s (command.Scan strict place)) h
    (λ g reading limits lose t there. keeps_idle config i s (command.Scan strict place) reading limits lose t g (scan_line_opened config g i s strict place reading limits t s.opened there.opened) there)
    (read_plain config i s Scan strict (place ∷ []) s.opened) idle
command_safe config cluster i s (command.SinglePut place v priority) z h low idle = still_line config cluster i s (command.SinglePut place v priority) z h (command_program config i s (command.SinglePut place v priority))
    (still_both config i s (command.SinglePut place v priority) s.opened (λ reading limits t. refl) (λ x reading limits t. refl)) (single_plain config i s place (op.Put v) priority s.opened) idle
command_safe config cluster i s (command.SingleDel place priority) z h low idle = still_line config cluster i s (command.SingleDel place priority) z h (command_program config i s (command.SingleDel place priority))
    (still_both config i s (command.SingleDel place priority) s.opened (λ reading limits t. refl) (λ x reading limits t. refl)) (single_plain config i s place op.Delete priority s.opened) idle
command_safe config cluster i s (command.Restart actor) z h low idle = still_line config cluster i s (command.Restart actor) z h (restart_program actor)
    (still_both config i s (command.Restart actor) s.opened (λ reading limits t. refl) (λ x reading limits t. refl)) (restart_plain actor) idle
command_safe config cluster i s (command.Apply tablet) z h low idle = still_line config cluster i s (command.Apply tablet) z h (pass_program tablet)
    (still_both config i s (command.Apply tablet) s.opened (λ reading limits t. refl) (λ x reading limits t. refl)) (pass_always NoTouch of_passes tablet) idle
command_safe config cluster i s (command.Clock node micros) z h low idle = still_line config cluster i s (command.Clock node micros) z h (Done told.Set)
    (still_both config i s (command.Clock node micros) s.opened (λ reading limits t. refl) (λ x reading limits t. refl)) tt idle

-- ## an applier

applier_closes : (config : Config) (k : ℕ) (s : Keeps) (tablet : ℕ) → ClosesAll config (Applier k) s (Some (command.Apply tablet))
applier_closes config k s tablet = λ g reading limits lose t idle. record {
  opened = applier_opened s.opened (max (moved_by s.last reading) (time_taken t)) (serial_after s (command.Apply tablet) t) reading limits t g idle.opened;
  touches = tt;
}
  where
    applier_opened : (opened : Option Opened) (last serial : ℕ) (reading : Option ℕ) (limits : List TabletLimit) (t : Told) (g : History) → OpenedOk config g (Applier k) s.last s.serial opened →
        OpenedOk config g (Applier k) last serial (opened_after config 0 s (command.Apply tablet) reading limits t opened)
    applier_opened None last serial reading limits t g ok = tt
    applier_opened (Some x) last serial reading limits t g ok = let mine = ok.homed.0 in cc

starts : (config : Config) → IsCluster config → (h : History) (m : Actor) (s : Mover) (number : ℕ) (line : Command) → Steps config h → mover_at config m h ≡ s → MayStart config m s line →
    IdleOk config (entry m None (Start number line) ∷ h) m s.keeps → Safe (rules config) config m h (started s.keeps line) (entry m None (Start number line) ∷ h) (program_of config m s.keeps line)
starts config cluster h (Session i) s number line steps is may idle =
    command_safe config cluster i s.keeps line h (entry (Session i) None (Start number line) ∷ h) (few s.keeps.serial s.commands (serial_low config (Session i) h s is) may.1) idle
starts config cluster h (Applier k) s number line steps is may idle =
    subst (λ (l : Command). Safe (rules config) config (Applier k) h (started s.keeps l) (entry (Applier k) None (Start number line) ∷ h) (program_of config (Applier k) s.keeps l)) (sym may.1)
    (plain_safe config cluster (Applier k) h (pass_program k) (started s.keeps (command.Apply k)) (entry (Applier k) None (Start number line) ∷ h) (applier_closes config k s.keeps k)
    (pass_always NoTouch of_passes k) idle)
starts config cluster h (Tablet k) s number line steps is may idle = absurd may
starts config cluster h (Status j) s number line steps is may idle = absurd may

first_touches : (m : Actor) (n : ℕ) → TouchesUpTo m n []
first_touches (Session i) n = λ e member. absurd member
first_touches (Applier k) n = tt
first_touches (Tablet k) n = tt
first_touches (Status j) n = tt

pub keeping : (config : Config) → IsCluster config → Keeping (rules config) config
keeping config cluster = record {
  first_base = tt;
  base = λ h e base fine. tt;
  first_idle = λ m. record { opened = tt; touches = first_touches m 0 };
  idle = λ h e m keeps base fine other idle. idle_step config cluster m keeps h e fine other idle;
  starts = λ h m s number line steps base is may idle. starts config cluster h m s number line steps is may idle;
}
