-- What the logs hold of a command that was refused.
use Rattle.std.proofs.Common.{◌≡◌, ℕ, Bool, true, false, not, List, Option, Some, refl, sym, ◌∙◌, ap, subst, inl, inr, ◌⊎◌}
use Rattle.txn_data.specs.declared.actor.Actor.{Actor}
use Rattle.txn_data.specs.declared.actor.Actor.TheVariants.{Tablet, Status, Session, Applier}
use Rattle.txn_data.specs.declared.append.Append.{Append}
use Rattle.txn_data.specs.declared.append.Append.TheVariants.{Took, Failed}
use Rattle.txn_data.specs.declared.command.Command.{Command}
use Rattle.txn_data.specs.declared.command.Command.TheVariants as command
use Rattle.txn_data.specs.declared.config.Config.{Config}
use Rattle.doc_path.specs.Path.{Parts}
use Rattle.txn_data.specs.declared.fate_of.FateOf.{FateOf}
use Rattle.txn_data.specs.declared.op.Op.{Op}
use Rattle.txn_data.specs.declared.request.Request.{Request}
use Rattle.txn_data.specs.declared.request.Request.TheVariants as request
use Rattle.txn_data.specs.declared.reply.Reply.{Reply}
use Rattle.txn_data.specs.declared.reply.Reply.TheVariants as reply
use Rattle.txn_data.specs.declared.refusal.Refusal.{Refusal}
use Rattle.txn_data.specs.declared.refusal.Refusal.TheVariants as refusal
use Rattle.txn_data.specs.declared.told.Told.{Told}
use Rattle.txn_data.specs.declared.told.Told.TheVariants as told
use Rattle.txn_data.specs.declared.told_refusal.ToldRefusal.{ToldRefusal}
use Rattle.txn_data.specs.declared.told_refusal.ToldRefusal.TheVariants as why
use Rattle.txn_types.specs.Lists.{Member}
use Rattle.txn_types.specs.History.{History}
use Rattle.txn_types.specs.Program.{refusal_told}
use Rattle.txn_types.specs.Session.{Keeps, Opened}
use Rattle.txn_types.specs.Run.{Run, mover_at, may_lose_after, is_settling}
use Rattle.txn_types.specs.Reads.{open_txn}
use Rattle.txn_types.specs.Cause.{ToldAt, tells, ServedAt, served_since, own_then}
use Rattle.txn_promises.specs.Lines.{mover_then, is_write, is_single, is_restart, is_closing, TellsJust}
use Rattle.txn_promises.specs.Leaves.{ends_txn, MayStand, MayFail, asks_single, restarted_since, DataLeft}
use Rattle.law_courses.specs.Laws.{CouldStart}
use Rattle.law_served.proofs.Above.{entered}
use Rattle.law_served.proofs.Tellings.{telling, told_at}
use Rattle.law_heard.proofs.Heeds.{Forgot}
use Rattle.law_heard.proofs.Means.{IsTablet, IsAsked, shuts, Shut, RefusalTold, AbortMeans, Means}
use Rattle.law_heard.proofs.Lines.{Stops}
use Rattle.law_refusal_rows.proofs.Shapes.{logs, IsDone, Shape, shape_served}
use Rattle.law_heard.proofs.Says.{Line, told_line}
use Rattle.law_heard.proofs.Runs.{heard_is_told}

-- ## only a session writes and ends

-- a write, a single write, a begin, a commit or an abort
abbrev is_own : Request → Bool
is_own (request.Write meta number path op read seen fates) = true
is_own (request.Single x path op seen fates) = true
is_own (request.Begin x isolation priority) = true
is_own (request.Commit x floor tablets) = true
is_own (request.Abort x) = true
is_own asked = false

session_own : (config : Config) (m : Actor) (keeps : Keeps) (line : Command) (opened : Option Opened) (to : Actor) (asked : Request) → CouldStart config m keeps line → IsAsked (Some line) opened to asked → is_own asked ≡ true → (i : ℕ) × (m ≡ Session i)
session_own config (Session i) keeps line opened to asked could kind own_asked = (i, refl)
session_own config (Applier k) keeps line opened to asked could kind own_asked = absurd (no_pass asked (subst (λ (l : Command). IsAsked (Some l) opened to asked) could.2.1 kind) own_asked)
  where
    no_pass : (q : Request) → IsAsked (Some (command.Apply k)) opened to q → is_own q ≡ true → ⊥
    no_pass (request.Write meta number path op read seen fates) asks is = let wrong = asks.1 in cc
    no_pass (request.Single x path op seen fates) asks is = let wrong = asks.1 in cc
    no_pass (request.Begin x isolation priority) asks is = cc
    no_pass (request.Commit x floor tablets) asks is = let wrong = asks.0 in cc
    no_pass (request.Abort x) asks is = elim asks.0 [ inl writes ↦ cc | inr aborts ↦ cc ]
    no_pass q asks is = cc
session_own config (Tablet k) keeps line opened to asked could kind own_asked = absurd could.2
session_own config (Status j) keeps line opened to asked could kind own_asked = absurd could.2

settled_not : (b : Bool) → b ≡ true → not b ≡ true → ⊥
settled_not true one two = cc
settled_not false one two = cc

forgot_session : (m : Actor) (i : ℕ) (r : Reply) (t : Told) → m ≡ Session i → is_settling r ≡ true → Forgot (may_lose_after m r) t → ⊥
forgot_session m i r t who settles none = settled_not (is_settling r) settles (subst (λ (a : Actor). may_lose_after a r ≡ true) who none.1)

told_is : (one two : ToldRefusal) → told.Refused one ≡ told.Refused two → one ≡ two
told_is one two is = cc

-- ## what a log took

done_settles : (asked : Request) (r : Reply) → is_own asked ≡ true → IsDone asked r → is_settling r ≡ true
done_settles (request.Write meta number path op read seen fates) r is done = rw done.1 refl
done_settles (request.Single x path op seen fates) r is done = rw done.1 refl
done_settles (request.Begin x isolation priority) r is done = rw done refl
done_settles (request.Commit x floor tablets) r is done = rw done.1 refl
done_settles (request.Abort x) r is done = rw done refl
done_settles asked r is done = cc

shut_ends : (line : Option Command) (w : ToldRefusal) → is_write line ≡ true → shuts w ≡ true → ends_txn line w ≡ true
shut_ends line (why.Conflict other) writes shut = writes
shut_ends line (why.Overlap at) writes shut = writes
shut_ends line (why.LogFault a) writes shut = writes
shut_ends line w writes shut = cc

-- of an Abort that closes
shut_stands : (line : Option Command) (opened : Option Opened) (x : ℕ) (t : Told) (w : ToldRefusal) → t ≡ told.Refused w → is_write line ≡ true → open_txn opened ≡ Some x → Shut t → MayStand line opened w (request.Abort x)
shut_stands line opened x t w is writes there shut =
    (writes, shut_ends line w writes (subst (λ (v : ToldRefusal). shuts v ≡ true) (told_is shut.0 w (sym shut.1 ∙ is)) shut.2), there)

abort_stands : (line : Option Command) (opened : Option Opened) (x : ℕ) (t : Told) (w : ToldRefusal) (b : Bool) → is_write line ≡ b → t ≡ told.Refused w → open_txn opened ≡ Some x → AbortMeans b reply.Ended t → MayStand line opened w (request.Abort x)
abort_stands line opened x t w true writes is there means = shut_stands line opened x t w is writes there means
abort_stands line opened x t w false writes is there means = absurd (means w is)

-- of what was asked for the line of a refused command, and answered so
taken_of : (line : Command) (opened : Option Opened) (Halts : Type 0) (to : Actor) (asked : Request) (r : Reply) (t : Told) (w : ToldRefusal) → IsAsked (Some line) opened to asked → logs asked ≡ true → IsDone asked r → t ≡ told.Refused w →
    Means (is_write (Some line)) Halts to asked r t → MayStand (Some line) opened w asked
taken_of line opened Halts to (request.Write meta number path op read seen fates) r t w kind log done is means = absurd (subst (λ (y : Reply). Means (is_write (Some line)) Halts to (request.Write meta number path op read seen fates) y t) done.1 means w is)
taken_of line opened Halts to (request.Single x path op seen fates) r t w kind log done is means = absurd (subst (λ (y : Reply). Means (is_write (Some line)) Halts to (request.Single x path op seen fates) y t) done.1 means w is)
taken_of line opened Halts to (request.Begin x isolation priority) r t w kind log done is means = absurd (subst (λ (y : Reply). Means (is_write (Some line)) Halts to (request.Begin x isolation priority) y t) done means w is)
taken_of line opened Halts to (request.Commit x floor tablets) r t w kind log done is means = absurd (subst (λ (y : Reply). Means (is_write (Some line)) Halts to (request.Commit x floor tablets) y t) done.1 means w is)
taken_of line opened Halts to (request.Abort x) r t w kind log done is means =
    abort_stands (Some line) opened x t w (is_write (Some line)) refl is kind.1 (subst (λ (y : Reply). Means (is_write (Some line)) Halts to (request.Abort x) y t) done means)
taken_of line opened Halts to (request.ListRead own_txn paths t0 g limit) r t w kind log done is means = kind
taken_of line opened Halts to (request.AskFate x at) r t w kind log done is means = kind
taken_of line opened Halts to (request.Resolve x by priority) r t w kind log done is means = kind
taken_of line opened Halts to (request.Apply x at) r t w kind log done is means = kind
taken_of line opened Halts to (request.Clean x) r t w kind log done is means = kind
taken_of line opened Halts to (request.Applied x tablet) r t w kind log done is means = kind
taken_of line opened Halts to asked r t w kind log done is means = cc

-- what is not of a session's own may stand whatever is told
plain_of : (line : Option Command) (opened : Option Opened) (to : Actor) (asked : Request) (w : ToldRefusal) → IsAsked line opened to asked → logs asked ≡ true → is_own asked ≡ false → MayStand line opened w asked
plain_of line opened to (request.ListRead own_txn paths t0 g limit) w kind log other = kind
plain_of line opened to (request.AskFate x at) w kind log other = kind
plain_of line opened to (request.Resolve x by priority) w kind log other = kind
plain_of line opened to (request.Apply x at) w kind log other = kind
plain_of line opened to (request.Clean x) w kind log other = kind
plain_of line opened to (request.Applied x tablet) w kind log other = kind
plain_of line opened to (request.ListWrite x path) w kind log other = cc
plain_of line opened to (request.Collect own_txn k paths t window fates) w kind log other = cc
plain_of line opened to request.ListIntents w kind log other = cc
plain_of line opened to request.Restart w kind log other = cc
plain_of line opened to asked w kind log other = cc

-- ## what failed

abort_fails : (line : Option Command) (opened : Option Opened) (to : Actor) (x : ℕ) (t : Told) (w : ToldRefusal) → IsAsked line opened to (request.Abort x) → t ≡ told.Refused w → RefusalTold (is_write line) to refusal.LogFault t → MayFail line opened w (request.Abort x)
abort_fails line opened to x t w kind is means = elim kind.0 [
  | inl writes ↦ inl (shut_stands line opened x t w is writes kind.1 (subst (λ (b : Bool). RefusalTold b to refusal.LogFault t) writes means))
  | inr aborts ↦ inr (aborts, kind.1)
]

failed_of : (line : Command) (opened : Option Opened) (Halts : Type 0) (to : Actor) (asked : Request) (t : Told) (w : ToldRefusal) → IsAsked (Some line) opened to asked → logs asked ≡ true → t ≡ told.Refused w →
    (is_own asked ≡ true → Means (is_write (Some line)) Halts to asked (reply.Refused refusal.LogFault) t) → MayFail (Some line) opened w asked
failed_of line opened Halts to (request.Write meta number path op read seen fates) t w kind log is means = (kind.1, kind.2)
failed_of line opened Halts to (request.Single x path op seen fates) t w kind log is means = kind.1
failed_of line opened Halts to (request.Begin x isolation priority) t w kind log is means = kind
failed_of line opened Halts to (request.Commit x floor tablets) t w kind log is means = kind
failed_of line opened Halts to (request.Abort x) t w kind log is means = abort_fails (Some line) opened to x t w kind is (means refl)
failed_of line opened Halts to (request.ListRead own_txn paths t0 g limit) t w kind log is means = kind
failed_of line opened Halts to (request.AskFate x at) t w kind log is means = kind
failed_of line opened Halts to (request.Resolve x by priority) t w kind log is means = kind
failed_of line opened Halts to (request.Apply x at) t w kind log is means = kind
failed_of line opened Halts to (request.Clean x) t w kind log is means = kind
failed_of line opened Halts to (request.Applied x tablet) t w kind log is means = kind
failed_of line opened Halts to asked t w kind log is means = cc

-- ## a single write that was not served

single_told : (to : Actor) (r : Refusal) (j : ℕ) → IsTablet to → refusal_told to r ≡ why.LogFault (Status j) → ⊥
single_told (Tablet k) (refusal.Conflict other) j is same = cc
single_told (Tablet k) (refusal.Overlap at) j is same = cc
single_told (Tablet k) (refusal.LeaseHeld until) j is same = cc
single_told (Tablet k) (refusal.ClockFull at) j is same = cc
single_told (Tablet k) (refusal.ClockRange n) j is same = cc
single_told (Tablet k) refusal.LogFault j is same = cc
single_told (Tablet k) (refusal.Down since) j is same = cc
single_told (Tablet k) refusal.Memory j is same = cc
single_told (Status k) r j is same = absurd is
single_told (Session k) r j is same = absurd is
single_told (Applier k) r j is same = absurd is

single_means : (closing : Bool) (Halts : Type 0) (to : Actor) (x : ℕ) (path : Parts) (op : Op) (seen : ℕ) (fates : List FateOf) (r : Reply) (j : ℕ) → IsTablet to → Means closing Halts to (request.Single x path op seen fates) r (told.Refused (why.LogFault (Status j))) → ⊥
single_means closing Halts to x path op seen fates (reply.Refused r) j is means = single_told to r j is (sym (told_is (why.LogFault (Status j)) (refusal_told to r) means))
single_means closing Halts to x path op seen fates (reply.SingleDone at) j is means = means (why.LogFault (Status j)) refl
single_means closing Halts to x path op seen fates r j is means = cc

unwritten_of : (line : Option Command) (opened : Option Opened) (closing : Bool) (Halts : Type 0) (to : Actor) (asked : Request) (r : Reply) (j : ℕ) (lose : Bool) → IsAsked line opened to asked →
    Means closing Halts to asked r (told.Refused (why.LogFault (Status j))) ⊎ Forgot lose (told.Refused (why.LogFault (Status j))) → asks_single asked ≡ false
unwritten_of line opened closing Halts to (request.Single x path op seen fates) r j lose kind either = absurd (elim either [
  | inl means ↦ single_means closing Halts to x path op seen fates r j kind.0 means
  | inr none ↦ let wrong = none.0 in cc
])
unwritten_of line opened closing Halts to asked r j lose kind either = refl

-- ## each

module _ (config : Config) (h : History) (t : ToldAt) (w : ToldRefusal) (run : Run config h) (here : Member t (tells h)) (is : t.told ≡ told.Refused w) where
  line : Line config t
  line = told_line config h t run here

  before : Run config t.before
  before = (told_at config h t run (telling h t here)).0

  shape : (s : ServedAt) → Member s (served_since t.who t.before) → Shape s.asked s.reply s.append
  shape s there = let e = entered config t.who t.before s before.1 there in shape_served config.lease_us s.by (own_then s) s.reading s.asked s.reply e.time s.append e.allowed.2

  -- a session that heard this tells what it means
  means_own : (s : ServedAt) → Member s (served_since t.who t.before) → is_own s.asked ≡ true → is_settling s.reply ≡ true →
      Means (is_write (Some line.line)) (Stops (mover_at config t.who t.before).keeps line.line) s.by s.asked s.reply t.told
  means_own s there own_asked settles =
      let says = line.says s there in
      let i = session_own config t.who (mover_at config t.who t.before).keeps line.line (mover_at config t.who t.before).keeps.opened s.by s.asked line.could says.0 own_asked in
      elim says.1 [ inl means ↦ means | inr none ↦ absurd (forgot_session t.who i.0 s.reply t.told i.1 settles none) ]

  own_cases : (b : Bool) → (b ≡ true) ⊎ (b ≡ false)
  own_cases true = inl refl
  own_cases false = inr refl

  taken : (s : ServedAt) → Member s (served_since t.who t.before) → s.append ≡ Took → MayStand (mover_then config t).line (mover_then config t).keeps.opened w s.asked
  taken s there took =
      let shaped : Shape s.asked s.reply Took = subst (λ (p : Append). Shape s.asked s.reply p) took (shape s there) in
      let kind = (line.says s there).0 in
      subst (λ (o : Option Command). MayStand o (mover_at config t.who t.before).keeps.opened w s.asked) (sym line.is)
      (elim (own_cases (is_own s.asked)) [
        | inl own_asked ↦ taken_of line.line (mover_at config t.who t.before).keeps.opened (Stops (mover_at config t.who t.before).keeps line.line) s.by s.asked s.reply t.told w kind shaped.2 shaped.1 is (means_own s there own_asked (done_settles s.asked s.reply own_asked shaped.1))
        | inr other ↦ plain_of (Some line.line) (mover_at config t.who t.before).keeps.opened s.by s.asked w kind shaped.2 other
      ])

  failed : (s : ServedAt) → Member s (served_since t.who t.before) → s.append ≡ Failed →
      MayFail (mover_then config t).line (mover_then config t).keeps.opened w s.asked × (is_closing (mover_then config t).line s.asked ≡ false → TellsJust t.who t.told (why.LogFault s.by))
  failed s there fails =
      let shaped : Shape s.asked s.reply Failed = subst (λ (p : Append). Shape s.asked s.reply p) fails (shape s there) in (
        subst (λ (o : Option Command). MayFail o (mover_at config t.who t.before).keeps.opened w s.asked) (sym line.is)
            (failed_of line.line (mover_at config t.who t.before).keeps.opened (Stops (mover_at config t.who t.before).keeps line.line) s.by s.asked t.told w (line.says s there).0 shaped.1 is
            (λ own_asked. subst (λ (r : Reply). Means (is_write (Some line.line)) (Stops (mover_at config t.who t.before).keeps line.line) s.by s.asked r t.told) shaped.0 (means_own s there own_asked (rw shaped.0 refl)))),
        λ open_still. (heard_is_told config h t run here).refused s refusal.LogFault there shaped.0 open_still,
      )

  unwritten : (j : ℕ) → w ≡ why.LogFault (Status j) → is_single (mover_then config t).line ≡ true → (s : ServedAt) → Member s (served_since t.who t.before) → asks_single s.asked ≡ false
  unwritten j fault single s there =
      let says = line.says s there in
      let now : t.told ≡ told.Refused (why.LogFault (Status j)) = is ∙ ap told.Refused fault in
      unwritten_of (Some line.line) (mover_at config t.who t.before).keeps.opened (is_write (Some line.line)) (Stops (mover_at config t.who t.before).keeps line.line) s.by s.asked s.reply j (may_lose_after t.who s.reply) says.0
      (subst (λ (u : Told). Means (is_write (Some line.line)) (Stops (mover_at config t.who t.before).keeps line.line) s.by s.asked s.reply u ⊎ Forgot (may_lose_after t.who s.reply) u) now says.1)

  pub data_left : ((a : Actor) → Member a (restarted_since t.who t.before) → (is_restart (mover_then config t).line ≡ true) × (w ≡ why.Memory)) → DataLeft config t w
  data_left restarts = record { taken = taken; failed = failed; unwritten = unwritten; restarts = restarts }
