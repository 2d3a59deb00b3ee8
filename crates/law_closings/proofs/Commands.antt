-- Each command of a session ends its transaction at most once.
use Rattle.std.proofs.Common.{◌≡◌, ℕ, Bool, true, false, ◌||◌, List, [], ◌∷◌, Option, Some, None, Result, Ok, Err, max, length, refl, if◌then◌else◌, ◌++◌}
use Rattle.hybrid_time.specs.Time.{least_time, limit_time}
use Rattle.hybrid_time.specs.declared.time_refusal.TimeRefusal.{TimeRefusal}
use Rattle.txn_data.specs.declared.actor.Actor.{Actor}
use Rattle.txn_data.specs.declared.actor.Actor.TheVariants.{Tablet, Status}
use Rattle.txn_data.specs.declared.command.Command.{Command}
use Rattle.txn_data.specs.declared.command.Command.TheVariants as command
use Rattle.txn_data.specs.declared.config.Config.{Config}
use Rattle.txn_data.specs.declared.fate.Fate.TheVariants as fate
use Rattle.txn_data.specs.declared.fate_of.FateOf.{FateOf}
use Rattle.txn_data.specs.declared.found.Found.{Found}
use Rattle.txn_data.specs.declared.meta.Meta.{Meta}
use Rattle.txn_data.specs.declared.op.Op.{Op}
use Rattle.txn_data.specs.declared.op.Op.TheVariants as op
use Rattle.txn_data.specs.declared.place.Place.{Place}
use Rattle.txn_data.specs.declared.read_kind.ReadKind.{ReadKind}
use Rattle.txn_data.specs.declared.read_kind.ReadKind.TheVariants.{Get, Scan}
use Rattle.txn_data.specs.declared.tablet_limit.TabletLimit.{TabletLimit}
use Rattle.txn_data.specs.declared.request.Request.TheVariants as request
use Rattle.txn_data.specs.declared.reply.Reply.{Reply}
use Rattle.txn_data.specs.declared.reply.Reply.TheVariants as reply
use Rattle.txn_data.specs.declared.told.Told.{Told}
use Rattle.txn_data.specs.declared.told.Told.TheVariants as told
use Rattle.txn_data.specs.declared.told_refusal.ToldRefusal.{ToldRefusal}
use Rattle.txn_data.specs.declared.told_refusal.ToldRefusal.TheVariants as told_refusal
use Rattle.txn_data.specs.declared.txn_step.TxnStep.TheVariants as step
use Rattle.txn_types.specs.Program.{Program, Done, Asks, refusal_told}
use Rattle.txn_types.specs.ReadProgram.{read_program}
use Rattle.txn_types.specs.TxnProgram.{refused, lost, write_refused, resolve_all, find_others, txn_program}
use Rattle.txn_types.specs.PassProgram.{pass_program}
use Rattle.txn_types.specs.Session.{Keeps, Opened, next_meta, timed_then, read_at, read_inside, has_writes, tablets_used, read_command, write_command, if_closed, restart_program, command_program, after_write, after_end, after_read, opened_after}
use Rattle.law_messages.proofs.Shapes.{Always, then_always, OfReads, read_always, OfPasses, pass_always, OfFinding, find_always}
use Rattle.law_closings.proofs.Rules.{EndsOnce, NoEnd, never_ends, IsStill}

-- ## shapes that ask for no end

abbrev Plain : Program Told → Type 0
Plain p = Always NoEnd p

of_reads : OfReads NoEnd
of_reads = record { lists = λ own_txn paths t g limit. tt; asks = λ x t. tt; collects = λ own_txn kind paths t window fates. tt }

of_passes : OfPasses NoEnd
of_passes = record { lists = tt; asks = λ x t. tt; applies = λ x at. tt; cleans = λ x. tt; notes = λ x tablet. tt }

of_finding : OfFinding NoEnd
of_finding = record { lists = λ x path. tt; resolves = λ x by priority. tt }

timed_plain : (i reading : ℕ) (next : ℕ → Program Told) (time : Result ℕ TimeRefusal) → ((now : ℕ) → Plain (next now)) → Plain (timed_then i reading next time)
timed_plain i reading next (Ok now) goes = goes now
timed_plain i reading next (Err why) goes = tt

read_plain : (config : Config) (i : ℕ) (s : Keeps) (kind : ReadKind) (strict : Bool) (places : List Place) (opened : Option Opened) → Plain (read_command config i s kind strict places opened)
read_plain config i s kind strict places None = λ reading. timed_plain i reading (read_at config kind strict places reading) (least_time s.last 0 reading) (λ now.
    then_always NoEnd (read_program None kind places now (max now (limit_time reading config.skew_us)) strict []) _
    (read_always NoEnd of_reads None kind places now (max now (limit_time reading config.skew_us)) strict []) (λ end. tt))
read_plain config i s kind strict places (Some x) = doubt_plain x.in_doubt
  where
    doubt_plain : (b : Bool) → Plain (if b then refused told_refusal.InDoubt else read_inside x kind strict places)
    doubt_plain true = tt
    doubt_plain false = then_always NoEnd (read_program (Some x.meta.txn) kind places x.r x.g (strict || has_writes x.writes || x.has_read) x.limits) _
        (read_always NoEnd of_reads (Some x.meta.txn) kind places x.r x.g (strict || has_writes x.writes || x.has_read) x.limits) (λ end. tt)

single_plain : (config : Config) (i : ℕ) (s : Keeps) (place : Place) (o : Op) (priority : ℕ) (opened : Option Opened) → Plain (if_closed opened (txn_program (step.Single (next_meta config i s priority) place o s.last)))
single_plain config i s place o priority (Some x) = tt
single_plain config i s place o priority None = find_always NoEnd of_finding (next_meta config i s priority) place refused _ (λ why. tt)
    (λ fates. (tt, elim [ reply.SingleDone at ↦ tt | reply.Refused why ↦ tt | _ ↦ tt ]))

restart_plain : (a : Actor) → Plain (restart_program a)
restart_plain a = (tt, elim [ reply.Restarted k ↦ tt | reply.Refused why ↦ tt | _ ↦ tt ])

-- ## a put or a del ends it after some refusals

module _ (meta : Meta) (shut : Told → Type 0) (conflicts : (other : ℕ) → shut (told.Refused (told_refusal.Conflict other))) (overlaps : (at : ℕ) → shut (told.Refused (told_refusal.Overlap at)))
    (faults : (a : Actor) → shut (told.Refused (told_refusal.LogFault a))) where
  abbrev Once : Program Told → Type 0
  Once p = EndsOnce meta.txn shut p

  stop_once : (why : ToldRefusal) → Once (write_refused meta why)
  stop_once (told_refusal.Conflict other) = (refl, λ r. (λ closes. (told.Refused (told_refusal.Conflict other), refl, conflicts other), tt))
  stop_once (told_refusal.Overlap at) = (refl, λ r. (λ closes. (told.Refused (told_refusal.Overlap at), refl, overlaps at), tt))
  stop_once (told_refusal.LogFault a) = (refl, λ r. (λ closes. (told.Refused (told_refusal.LogFault a), refl, faults a), tt))
  stop_once why = tt

  resolve_once : (fs : List Found) (fates : List FateOf) (next : List FateOf → Program Told) → ((found : List FateOf) → Once (next found)) → Once (resolve_all meta fs fates (write_refused meta) next)
  unfolding resolve_all
  resolve_once [] fates next goes = goes fates
  resolve_once (f ∷ fs) fates next goes = (tt, λ r. (λ never. absurd never, heard_once (λ found. resolve_once fs found next goes) r))
    where
      heard_once : ((found : List FateOf) → Once (resolve_all meta fs found (write_refused meta) next)) → (r : Reply) → Once (elim r [
        | reply.FateIs heard ↦ elim heard [
          | fate.Pending ↦ write_refused meta (told_refusal.Conflict f.txn)
          | settled ↦ resolve_all meta fs (fates ++ (record { txn = f.txn; fate = settled }) ∷ []) (write_refused meta) next
        ]
        | reply.Refused why ↦ write_refused meta (refusal_told (Status f.status) why)
        | _ ↦ lost
      ])
      heard_once again (reply.FateIs fate.Pending) = stop_once (told_refusal.Conflict f.txn)
      heard_once again (reply.FateIs settled) = again _
      heard_once again (reply.Refused why) = stop_once (refusal_told (Status f.status) why)
      heard_once again r = tt

  find_once : (place : Place) (next : List FateOf → Program Told) → ((found : List FateOf) → Once (next found)) → Once (find_others meta place (write_refused meta) next)
  find_once place next goes = (tt, λ r. (λ never. absurd never, heard_once r))
    where
      heard_once : (r : Reply) → Once (elim r [
        | reply.Others found ↦ resolve_all meta found [] (write_refused meta) next
        | reply.Refused why ↦ write_refused meta (refusal_told (Tablet place.tablet) why)
        | _ ↦ lost
      ])
      heard_once (reply.Others found) = resolve_once found [] next goes
      heard_once (reply.Refused why) = stop_once (refusal_told (Tablet place.tablet) why)
      heard_once r = tt

  write_once : (number : ℕ) (place : Place) (o : Op) (read seen : ℕ) → Once (txn_program (step.Write meta number place o read seen))
  write_once number place o read seen = find_once place (λ fates. Asks (Tablet place.tablet) (request.Write meta number place.path o read seen fates) next) (λ fates. (tt, λ r. (λ never. absurd never, heard_once r)))
    where
      next : Reply → Program Told
      next answer = elim answer [
        | reply.Written at ↦ Done (told.Written at)
        | reply.Refused why ↦ write_refused meta (refusal_told (Tablet place.tablet) why)
        | _ ↦ lost
      ]

      heard_once : (r : Reply) → Once (next r)
      heard_once (reply.Written at) = tt
      heard_once (reply.Refused why) = stop_once (refusal_told (Tablet place.tablet) why)
      heard_once r = tt

-- ## commit, abort and end

commit_once : (x : Opened) (shut : Told → Type 0) (floor : ℕ) (tablets : List ℕ) → ((y at : ℕ) → shut (told.Committed y at)) → ((y : ℕ) → shut (told.Ended y)) → ((by : ℕ) → shut (told.Refused (told_refusal.Aborted by))) →
    EndsOnce x.meta.txn shut (txn_program (step.Commit x.meta floor tablets))
commit_once x shut floor tablets committed ended aborted = (
  refl,
  elim [
    | reply.Committed at ↦ (λ closes. (told.Committed x.meta.txn at, refl, committed x.meta.txn at), tt)
    | reply.AbortedBy by ↦ (λ closes. (told.Refused (told_refusal.Aborted by), refl, aborted by), tt)
    | reply.Gone ↦ (λ closes. (told.Ended x.meta.txn, refl, ended x.meta.txn), tt)
    | reply.Refused why ↦ (λ closes. absurd closes, tt)
    | _ ↦ (λ closes. absurd closes, tt)
  ],
)

abort_once : (x : Opened) (shut : Told → Type 0) → ((y at : ℕ) → shut (told.Committed y at)) → ((y : ℕ) → shut (told.Ended y)) → EndsOnce x.meta.txn shut (txn_program (step.Abort x.meta))
abort_once x shut committed ended = (
  refl,
  elim [
    | reply.Ended ↦ (λ closes. (told.Ended x.meta.txn, refl, ended x.meta.txn), tt)
    | reply.Committed at ↦ (λ closes. (told.Committed x.meta.txn at, refl, committed x.meta.txn at), tt)
    | reply.Refused why ↦ (λ closes. absurd closes, tt)
    | _ ↦ (λ closes. absurd closes, tt)
  ],
)

-- ## what stays open is the same transaction

write_still : (x : Opened) (place : Place) (o : Op) (t : Told) → IsStill x.meta.txn (after_write x place o t)
write_still x place o (told.Written at) = refl
write_still x place o (told.Refused (told_refusal.Conflict other)) = tt
write_still x place o (told.Refused (told_refusal.Overlap at)) = tt
write_still x place o (told.Refused (told_refusal.LogFault a)) = tt
write_still x place o t = refl

end_still : (x : Opened) (t : Told) → IsStill x.meta.txn (after_end x t)
end_still x (told.Committed y at) = tt
end_still x (told.Ended y) = tt
end_still x (told.Refused (told_refusal.Aborted by)) = tt
end_still x (told.Refused (told_refusal.LogFault a)) = refl
end_still x t = refl

read_still : (x : Opened) (limits : List TabletLimit) (t : Told) → IsStill x.meta.txn (after_read x limits t)
read_still x limits (told.Values at restarts rows) = refl
read_still x limits t = refl

pub line_still : (config : Config) (i : ℕ) (s : Keeps) (line : Command) (x : Opened) (reading : Option ℕ) (limits : List TabletLimit) (t : Told) → IsStill x.meta.txn (opened_after config i s line reading limits t (Some x))
line_still config i s (command.Put place v) x reading limits t = write_still x place (op.Put v) t
line_still config i s (command.Del place) x reading limits t = write_still x place op.Delete t
line_still config i s command.Commit x reading limits t = end_still x t
line_still config i s command.Abort x reading limits t = end_still x t
line_still config i s command.End x reading limits t = end_still x t
line_still config i s (command.Read strict places) x reading limits t = read_still x limits t
line_still config i s (command.Scan strict place) x reading limits t = read_still x limits t
line_still config i s line x reading limits t = refl

-- ## each line inside a transaction

abbrev LineOnce : Config → ℕ → Keeps → Command → Opened → Program Told → Type 0
LineOnce config i s line x p = EndsOnce x.meta.txn (λ t. (reading : Option ℕ) (limits : List TabletLimit) → opened_after config i s line reading limits t (Some x) ≡ None) p

put_once : (config : Config) (i : ℕ) (s : Keeps) (line : Command) (place : Place) (o : Op) (x : Opened) → ((reading : Option ℕ) (limits : List TabletLimit) (t : Told) → opened_after config i s line reading limits t (Some x) ≡ after_write x place o t) →
    LineOnce config i s line x (write_command s place o (Some x))
put_once config i s line place o x after = doubt_once x.in_doubt
  where
    doubt_once : (b : Bool) → LineOnce config i s line x (if b then refused told_refusal.InDoubt else txn_program (step.Write x.meta (length x.writes) place o x.r s.last))
    doubt_once true = tt
    doubt_once false = write_once x.meta _ (λ other reading limits. after reading limits (told.Refused (told_refusal.Conflict other))) (λ at reading limits. after reading limits (told.Refused (told_refusal.Overlap at)))
        (λ a reading limits. after reading limits (told.Refused (told_refusal.LogFault a))) (length x.writes) place o x.r s.last

pub line_once : (config : Config) (i : ℕ) (s : Keeps) (line : Command) (x : Opened) → s.opened ≡ Some x → LineOnce config i s line x (command_program config i s line)
line_once config i s (command.Begin priority) x is = rw is tt
line_once config i s (command.Put place v) x is = rw is (put_once config i s (command.Put place v) place (op.Put v) x (λ reading limits t. refl))
line_once config i s (command.Del place) x is = rw is (put_once config i s (command.Del place) place op.Delete x (λ reading limits t. refl))
line_once config i s command.Commit x is = rw is (commit_once x _ s.last (tablets_used [] x.writes) (λ y at reading limits. refl) (λ y reading limits. refl) (λ by reading limits. refl))
line_once config i s command.Abort x is = rw is (abort_once x _ (λ y at reading limits. refl) (λ y reading limits. refl))
line_once config i s command.End x is = rw is (abort_once x _ (λ y at reading limits. refl) (λ y reading limits. refl))
line_once config i s (command.Read strict places) x is = never_ends x.meta.txn _ (read_command config i s Get strict places s.opened) (read_plain config i s Get strict places s.opened)
line_once config i s (command.Scan strict place) x is = never_ends x.meta.txn _ (read_command config i s Scan strict (place ∷ []) s.opened) (read_plain config i s Scan strict (place ∷ []) s.opened)
line_once config i s (command.SinglePut place v priority) x is = rw is tt
line_once config i s (command.SingleDel place priority) x is = rw is tt
line_once config i s (command.Restart actor) x is = never_ends x.meta.txn _ (restart_program actor) (restart_plain actor)
line_once config i s (command.Apply tablet) x is = never_ends x.meta.txn _ (pass_program tablet) (pass_always NoEnd of_passes tablet)
line_once config i s (command.Clock node micros) x is = tt

-- ## and outside of one

-- a line that opens none
abbrev pub OpensNone : Command → Type 0
OpensNone (command.Begin priority) = ⊥
OpensNone line = Unit {0}

pub line_plain : (config : Config) (i : ℕ) (s : Keeps) (line : Command) → OpensNone line → s.opened ≡ None → Plain (command_program config i s line)
line_plain config i s (command.Begin priority) plain is = absurd plain
line_plain config i s (command.Put place v) plain is = rw is tt
line_plain config i s (command.Del place) plain is = rw is tt
line_plain config i s command.Commit plain is = rw is tt
line_plain config i s command.Abort plain is = rw is tt
line_plain config i s command.End plain is = rw is tt
line_plain config i s (command.Read strict places) plain is = read_plain config i s Get strict places s.opened
line_plain config i s (command.Scan strict place) plain is = read_plain config i s Scan strict (place ∷ []) s.opened
line_plain config i s (command.SinglePut place v priority) plain is = single_plain config i s place (op.Put v) priority s.opened
line_plain config i s (command.SingleDel place priority) plain is = single_plain config i s place op.Delete priority s.opened
line_plain config i s (command.Restart actor) plain is = restart_plain actor
line_plain config i s (command.Apply tablet) plain is = pass_always NoEnd of_passes tablet
line_plain config i s (command.Clock node micros) plain is = tt

pub none_opened : (config : Config) (i : ℕ) (s : Keeps) (line : Command) (reading : Option ℕ) (limits : List TabletLimit) (t : Told) → OpensNone line → opened_after config i s line reading limits t None ≡ None
none_opened config i s (command.Begin priority) reading limits t plain = absurd plain
none_opened config i s line reading limits t plain = refl
