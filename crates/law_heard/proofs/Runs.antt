-- What is heard decides what is told, in every run.
use Rattle.std.proofs.Common.{◌≡◌, ℕ, ◌≤◌, Bool, true, false, ◌&&◌, not, List, ◌∷◌, ◌++◌, Option, Some, None, reverse, refl, sym, ◌∙◌, subst, inl, inr, ◌⊎◌}
use Rattle.doc_path.specs.Path.{Parts}
use Rattle.txn_data.specs.declared.actor.Actor.{Actor}
use Rattle.txn_data.specs.declared.actor.Actor.TheVariants.{Tablet, Status, Session, Applier}
use Rattle.txn_data.specs.declared.command.Command.{Command}
use Rattle.txn_data.specs.declared.command.Command.TheVariants as command
use Rattle.txn_data.specs.declared.config.Config.{Config}
use Rattle.txn_data.specs.declared.fate.Fate.TheVariants as fate
use Rattle.txn_data.specs.declared.found.Found.{Found}
use Rattle.txn_data.specs.declared.refusal.Refusal.{Refusal}
use Rattle.txn_data.specs.declared.refusal.Refusal.TheVariants as refusal
use Rattle.txn_data.specs.declared.reply.Reply.{Reply}
use Rattle.txn_data.specs.declared.reply.Reply.TheVariants as reply
use Rattle.txn_data.specs.declared.request.Request.{Request}
use Rattle.txn_data.specs.declared.request.Request.TheVariants as request
use Rattle.txn_data.specs.declared.told.Told.{Told}
use Rattle.txn_data.specs.declared.told.Told.TheVariants as told
use Rattle.txn_data.specs.declared.told_refusal.ToldRefusal.{ToldRefusal}
use Rattle.txn_data.specs.declared.told_refusal.ToldRefusal.TheVariants as why
use Rattle.txn_data.specs.declared.event.Event.TheVariants.{Serve}
use Rattle.txn_types.specs.Lists.{Member}
use Rattle.txn_types.specs.History.{History}
use Rattle.txn_types.specs.Clock.{down_since}
use Rattle.txn_types.specs.Program.{refusal_told}
use Rattle.txn_types.specs.Status as status
use Rattle.txn_types.specs.Status.{record_of}
use Rattle.txn_types.specs.Run.{Run, Serves, mover_at, may_lose_after, is_settling}
use Rattle.txn_types.specs.Tablet.{first_of}
use Rattle.txn_types.specs.Cause.{ToldAt, tells, ServedAt, served_since, own_then, newcomers, WritesFor, is_strict, wrote_or_read, MetAndStopped}
use Rattle.txn_promises.specs.Lines.{mover_then, is_write, is_abort, is_closing, TellsJust, TellsOrMemory}
use Rattle.txn_promises.specs.Refuses.{Meets}
use Rattle.law_machines.proofs.Owns.{stands_member}
use Rattle.law_owners.specs.Owner.{IsOfTable}
use Rattle.law_owners.proofs.Runs.{requests_homed}
use Rattle.law_messages.proofs.Rules.{entry}
use Rattle.law_courses.specs.Laws.{CouldStart}
use Rattle.law_served.proofs.Above.{Entered, entered}
use Rattle.law_served.proofs.Tellings.{telling, told_at}
use Rattle.law_heard.specs.Laws.{HeardIsTold}
use Rattle.law_heard.proofs.Heeds.{Forgot}
use Rattle.law_heard.proofs.Means.{IsAsked, RefusalTold, Means}
use Rattle.law_heard.proofs.Lines.{Stops}
use Rattle.law_refusal_rows.proofs.Tables.{row_served, pending_served, aborted_served}
use Rattle.law_refusal_rows.proofs.Shapes.{HasWindow, met_served}
use Rattle.law_heard.proofs.Between.{Writes, came_between, line_settled}
use Rattle.law_heard.proofs.Says.{Line, told_line, member_reverse}

-- ## what a reply means, of the kinds that matter

means_refused : (closing : Bool) (Halts : Type 0) (to : Actor) (asked : Request) (r : Refusal) (t : Told) → Means closing Halts to asked (reply.Refused r) t → RefusalTold (is_abort asked && closing) to r t
means_refused closing Halts to asked r t means = means

told_plain : (b : Bool) (to : Actor) (r : Refusal) (t : Told) → b ≡ false → RefusalTold b to r t → t ≡ told.Refused (refusal_told to r)
told_plain true to r t is means = cc
told_plain false to r t is means = means

settled_not : (b : Bool) → b ≡ true → not b ≡ true → ⊥
settled_not true one two = cc
settled_not false one two = cc

-- a session that heard a refusal tells no other
just_of : (m : Actor) (t : Told) (w : ToldRefusal) (r : Reply) → is_settling r ≡ true → (t ≡ told.Refused w) ⊎ Forgot (may_lose_after m r) t → TellsJust m t w
just_of (Session i) t w r settles either = elim either [
  | inl is ↦ is
  | inr none ↦ absurd (settled_not (is_settling r) settles none.1)
]
just_of (Applier k) t w r settles either = elim either [ inl is ↦ inl is | inr none ↦ inr none.0 ]
just_of (Tablet k) t w r settles either = elim either [ inl is ↦ inl is | inr none ↦ inr none.0 ]
just_of (Status j) t w r settles either = elim either [ inl is ↦ inl is | inr none ↦ inr none.0 ]

or_memory : (t : Told) (w : ToldRefusal) (lose : Bool) → (t ≡ told.Refused w) ⊎ Forgot lose t → TellsOrMemory t w
or_memory t w lose either = elim either [ inl is ↦ inl is | inr none ↦ inr none.0 ]

module _ (config : Config) (h : History) (t : ToldAt) (run : Run config h) (here : Member t (tells h)) where
  line : Line config t
  line = told_line config h t run here

  before : Run config t.before
  before = (told_at config h t run (telling h t here)).0

  closing_is : (s : ServedAt) → is_closing (mover_then config t).line s.asked ≡ false → (is_abort s.asked && is_write (Some line.line)) ≡ false
  closing_is s not = subst (λ (o : Option Command). is_closing o s.asked ≡ false) line.is not

  refused : (s : ServedAt) (r : Refusal) → Member s (served_since t.who t.before) → s.reply ≡ reply.Refused r → is_closing (mover_then config t).line s.asked ≡ false → TellsJust t.who t.told (refusal_told s.by r)
  refused s r there is not =
      let says = (line.says s there).1 in
      let closing = is_write (Some line.line) in
      let stops = Stops (mover_at config t.who t.before).keeps line.line in
      just_of t.who t.told (refusal_told s.by r) (reply.Refused r) refl
      (elim (subst (λ (x : Reply). Means closing stops s.by s.asked x t.told ⊎ Forgot (may_lose_after t.who x) t.told) is says) [
        | inl means ↦ inl (told_plain (is_abort s.asked && closing) s.by r t.told (closing_is s not) (means_refused closing stops s.by s.asked r t.told means))
        | inr none ↦ inr none
      ])

  ends : (newer older : List ServedAt) (s : ServedAt) (r : Refusal) → served_since t.who t.before ≡ newer ++ (s ∷ older) → s.reply ≡ reply.Refused r → (u : ServedAt) → Member u newer → is_closing (mover_then config t).line u.asked ≡ true
  ends newer older s r split is u there = subst (λ (o : Option Command). is_closing o u.asked ≡ true) (sym line.is) (line.ends newer older s u r split is there)

  served : (s : ServedAt) → Member s (served_since t.who t.before) → Entered config t.who t.before s
  served s there = entered config t.who t.before s before.1 there

  of_table : (s : ServedAt) → Member s (served_since t.who t.before) → IsOfTable s.by s.asked
  of_table s there =
      let e = served s there in
      (requests_homed config t.before (entry s.by s.reading (Serve t.who s.asked s.reply e.time s.append)) before (stands_member (entry s.by s.reading (Serve t.who s.asked s.reply e.time s.append)) s.before t.before e.stands)).1

  rows : (s : ServedAt) (r : Refusal) → Member s (served_since t.who t.before) → Meets config.lease_us (own_then s) s.reading s.asked r → is_closing (mover_then config t).line s.asked ≡ false → TellsJust t.who t.told (refusal_told s.by r)
  rows s r there meets not =
      let e = served s there in
      refused s r there (row_served config.lease_us s.by (own_then s) s.reading s.asked s.reply e.time s.append r e.allowed.2 (of_table s there) meets) not

  -- what is said of a request of this form
  says_of : (s : ServedAt) (q : Request) (r : Reply) → Member s (served_since t.who t.before) → s.asked ≡ q → s.reply ≡ r →
      Means (is_write (Some line.line)) (Stops (mover_at config t.who t.before).keeps line.line) s.by q r t.told ⊎ Forgot (may_lose_after t.who r) t.told
  says_of s q r there asks is =
      let closing = is_write (Some line.line) in
      let stops = Stops (mover_at config t.who t.before).keeps line.line in
      subst (λ (x : Reply). Means closing stops s.by q x t.told ⊎ Forgot (may_lose_after t.who x) t.told) is
      (subst (λ (a : Request). Means closing stops s.by a s.reply t.told ⊎ Forgot (may_lose_after t.who s.reply) t.told) asks (line.says s there).1)

  serves_of : (s : ServedAt) (q : Request) (there : Member s (served_since t.who t.before)) → s.asked ≡ q → Serves config.lease_us s.by (own_then s) s.reading q s.reply (served s there).time s.append × IsOfTable s.by q
  serves_of s q there asks = (
    subst (λ (a : Request). Serves config.lease_us s.by (own_then s) s.reading a s.reply (served s there).time s.append) asks (served s there).allowed.2,
    subst (λ (a : Request). IsOfTable s.by a) asks (of_table s there),
  )

  pending : (s : ServedAt) (other by priority own_priority : ℕ) → Member s (served_since t.who t.before) → s.asked ≡ request.Resolve other by priority → down_since (own_then s) ≡ None →
      record_of other (own_then s) ≡ status.Pending own_priority → priority ≤ own_priority → TellsOrMemory t.told (why.Conflict other)
  pending s other by priority own_priority there asks up is low =
      let serves = serves_of s (request.Resolve other by priority) there asks in
      or_memory t.told (why.Conflict other) (may_lose_after t.who (reply.FateIs fate.Pending))
      (says_of s (request.Resolve other by priority) (reply.FateIs fate.Pending) there asks
      (pending_served config.lease_us s.by (own_then s) s.reading other by priority own_priority s.reply (served s there).time s.append serves.0 serves.1 up is low))

  -- only a session commits
  commits : (m : Actor) (l : Command) → CouldStart config m (mover_at config m t.before).keeps l → l ≡ command.Commit → (w : ToldRefusal) → TellsJust m t.told w → t.told ≡ told.Refused w
  commits (Session i) l could is w just = just
  commits (Applier k) l could is w just = let wrong : command.Commit ≡ command.Apply k = sym is ∙ could.2.1 in cc
  commits (Tablet k) l could is w just = absurd could.2
  commits (Status j) l could is w just = absurd could.2

  aborted : (s : ServedAt) (x floor by : ℕ) (tablets : List ℕ) → Member s (served_since t.who t.before) → s.asked ≡ request.Commit x floor tablets → down_since (own_then s) ≡ None →
      record_of x (own_then s) ≡ status.AbortedBy by → t.told ≡ told.Refused (why.Aborted by)
  aborted s x floor by tablets there asks up is =
      let serves = serves_of s (request.Commit x floor tablets) there asks in
      let kind : IsAsked (Some line.line) (mover_at config t.who t.before).keeps.opened s.by (request.Commit x floor tablets) =
      subst (λ (a : Request). IsAsked (Some line.line) (mover_at config t.who t.before).keeps.opened s.by a) asks (line.says s there).0 in
      commits t.who line.line line.could (some_line line.line command.Commit kind.0) (why.Aborted by)
      (just_of t.who t.told (why.Aborted by) (reply.AbortedBy by) refl
      (says_of s (request.Commit x floor tablets) (reply.AbortedBy by) there asks
      (aborted_served config.lease_us s.by (own_then s) s.reading x floor by tablets s.reply (served s there).time s.append serves.0 serves.1 up is)))
    where
      some_line : (one two : Command) → Some one ≡ Some two → one ≡ two
      some_line one two same = cc

  met_told : (q : Request) (by : Actor) (at : ℕ) (path : Parts) → HasWindow q → Stops (mover_at config t.who t.before).keeps line.line →
      Means (is_write (Some line.line)) (Stops (mover_at config t.who t.before).keeps line.line) by q (reply.Met at path) t.told → t.told ≡ told.Refused (why.Restart at path)
  met_told (request.Collect own_txn kind paths t0 (Some window) fates) by at path has stop means = means stop
  met_told q by at path has stop means = absurd has

  met : (at : ℕ) (path : Parts) → MetAndStopped config t.who t.before at path → TellsOrMemory t.told (why.Restart at path)
  met at path stopped =
      let s = stopped.served in
      let there = stopped.here in
      let is = stopped.met in
      let has = met_served config.lease_us s.by (own_then s) s.reading s.asked s.reply (served s there).time s.append at path (served s there).allowed.2 is in
      let stop : Stops (mover_at config t.who t.before).keeps line.line = subst (λ (o : Option Command). (is_strict o ≡ true) ⊎ (wrote_or_read (mover_at config t.who t.before).keeps.opened ≡ true)) line.is stopped.stops in
      elim (says_of s s.asked (reply.Met at path) there refl is) [
        | inl means ↦ inl (met_told s.asked s.by at path has stop means)
        | inr none ↦ inr none.0
      ]

  -- a write of the line
  writes_line : (asked : Request) (x : ℕ) (path : Parts) (by : Actor) → WritesFor asked x path → IsAsked (Some line.line) (mover_at config t.who t.before).keeps.opened by asked → Writes line.line × (is_abort asked ≡ false)
  writes_line (request.Write meta number p op read seen fates) x path by writes kind = (inl kind.1, refl)
  writes_line (request.Single y p op seen fates) x path by writes kind = (inr kind.1, refl)
  writes_line asked x path by writes kind = absurd writes

  between : (s l : ServedAt) (x other : ℕ) (path : Parts) (found : List Found) → Member s (served_since t.who t.before) → Member l (served_since t.who t.before) → WritesFor s.asked x path →
      l.asked ≡ request.ListWrite x path → l.reply ≡ reply.Others found → down_since (own_then s) ≡ None → first_of (newcomers x path found (own_then s)) ≡ Some other → TellsJust t.who t.told (why.Conflict other)
  between s l x other path found there listed writes asks told_found up least =
      let kind = writes_line s.asked x path s.by writes (line.says s there).0 in
      let settled = line_settled config t.who (mover_at config t.who t.before).keeps line.line (reverse (served_since t.who t.before)) t.told s l x path found line.could kind.0 line.ran
      (member_reverse s (served_since t.who t.before) there) (member_reverse l (served_since t.who t.before) listed) asks told_found in
      rows s (refusal.Conflict other) there (up, came_between s.asked x path found (own_then s) other writes settled least) (not_abort (is_abort s.asked) (is_write (mover_then config t).line) kind.1)
    where
      not_abort : (a b : Bool) → a ≡ false → (a && b) ≡ false
      not_abort a b is = rw is refl

pub heard_is_told : HeardIsTold
heard_is_told config h t run here = record {
  refused = refused config h t run here;
  ends = ends config h t run here;
  rows = rows config h t run here;
  between = between config h t run here;
  pending = pending config h t run here;
  aborted = aborted config h t run here;
  met = met config h t run here;
}
