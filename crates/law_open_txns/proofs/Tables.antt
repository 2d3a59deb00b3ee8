-- What a tablet answers to a write, and a status tablet to a commit and an abort.
use Rattle.std.proofs.Common.{◌≡◌, ℕ, Bool, true, false, List, Option, Some, None, Result, Ok, Err, refl, sym, ◌∙◌, ap, subst, if◌then◌else◌, inl, inr, ◌⊎◌}
use Rattle.hybrid_time.specs.declared.time_refusal.TimeRefusal.{TimeRefusal}
use Rattle.doc_path.specs.Path.{Parts}
use Rattle.txn_data.specs.declared.actor.Actor.{Actor}
use Rattle.txn_data.specs.declared.actor.Actor.TheVariants.{Tablet, Status, Session, Applier}
use Rattle.txn_data.specs.declared.append.Append.{Append}
use Rattle.txn_data.specs.declared.append.Append.TheVariants.{Nothing, Took, Failed}
use Rattle.txn_data.specs.declared.fate_of.FateOf.{FateOf}
use Rattle.txn_data.specs.declared.meta.Meta.{Meta}
use Rattle.txn_data.specs.declared.op.Op.{Op}
use Rattle.txn_data.specs.declared.request.Request.TheVariants as request
use Rattle.txn_data.specs.declared.reply.Reply.{Reply}
use Rattle.txn_data.specs.declared.reply.Reply.TheVariants as reply
use Rattle.txn_data.specs.declared.refusal.Refusal.{Refusal}
use Rattle.txn_data.specs.declared.refusal.Refusal.TheVariants as refusal
use Rattle.txn_types.specs.Lists.{or_zero}
use Rattle.txn_types.specs.History.{History}
use Rattle.txn_types.specs.Clock.{Answer, refusal_answer, logged, timed_answer, time_refused, holds, clock_time, Own, lease_end, last_time, has_given, down_since}
use Rattle.txn_types.specs.Tablet.{tablet_standing, write_answer, provisional, versions, conflict, greatest_above, related_commits}
use Rattle.txn_types.specs.Status.{Record, NoRecord, Pending, Committed, AbortedBy, record_of, status_up, status_standing, commit_answer, abort_answer}
use Rattle.txn_types.specs.Run.{Serves, machine_answer}
use Rattle.law_open_txns.specs.Laws.{IsFault, IsTurned, IsAccepted, ClosesCommit, ClosesAbort}

-- ## a write

pub data WriteAnswer (answer : Answer) : Type 0 where
  Accepts : (w : ℕ) → answer ≡ record { reply = reply.Written w; time = Some w; append = Took } → WriteAnswer answer
  Faults : (w : ℕ) → answer ≡ record { reply = reply.Refused refusal.LogFault; time = Some w; append = Failed } → WriteAnswer answer
  Turns : (why : Refusal) → answer ≡ refusal_answer why → WriteAnswer answer

write_given : (lease : ℕ) (end : Option ℕ) (fails : Bool) (time : Result ℕ TimeRefusal) → WriteAnswer (timed_answer lease end fails true time (λ w. reply.Written w))
write_given lease end fails (Err e) = Turns (time_refused e) refl
write_given lease end false (Ok w) = Accepts w refl
write_given lease end true (Ok w) = Faults w refl

write_chosen : (b : Bool) (at lease : ℕ) (end : Option ℕ) (fails : Bool) (time : Result ℕ TimeRefusal) →
    WriteAnswer (if b then refusal_answer (refusal.LeaseHeld at) else timed_answer lease end fails true time (λ w. reply.Written w))
write_chosen true at lease end fails time = Turns (refusal.LeaseHeld at) refl
write_chosen false at lease end fails time = write_given lease end fails time

write_turned : (c v : Option ℕ) (done : Answer) → WriteAnswer done → WriteAnswer (write_answer c v done)
write_turned (Some other) v done is = Turns (refusal.Conflict other) refl
write_turned None (Some at) done is = Turns (refusal.Overlap at) refl
write_turned None None done is = is

write_standing : (d : Option ℕ) (up : Answer) → WriteAnswer up → WriteAnswer (tablet_standing d up)
write_standing (Some n) up is = Turns (refusal.Down n) refl
write_standing None up is = is

write_status : (d : Option ℕ) → WriteAnswer (status_standing d (refusal_answer refusal.Memory))
write_status (Some n) = Turns (refusal.Down n) refl
write_status None = Turns refusal.Memory refl

write_machine : (lease : ℕ) (a : Actor) (o : History) (fails : Bool) (reading : ℕ) (meta : Meta) (number : ℕ) (path : Parts) (op : Op) (read seen : ℕ) (fates : List FateOf) →
    WriteAnswer (machine_answer lease a o fails reading (request.Write meta number path op read seen fates))
write_machine lease (Tablet k) o fails reading meta number path op read seen fates =
    write_standing (down_since o) _ (write_turned (conflict meta.txn path fates (provisional o))
    (greatest_above read (related_commits meta.txn path fates (provisional o) (versions o))) _
    (write_chosen (holds (lease_end lease o) (has_given o) reading) (or_zero (lease_end lease o)) lease (lease_end lease o) fails (clock_time Own (last_time o) seen reading)))
write_machine lease (Status j) o fails reading meta number path op read seen fates = write_status (down_since o)
write_machine lease (Session i) o fails reading meta number path op read seen fates = write_status (down_since o)
write_machine lease (Applier k) o fails reading meta number path op read seen fates = write_status (down_since o)

-- as an entry has it
pub data Written (r : Reply) (time : Option ℕ) (append : Append) : Type 0 where
  Accepted : (w : ℕ) → r ≡ reply.Written w → time ≡ Some w → append ≡ Took → Written r time append
  Faulty : r ≡ reply.Refused refusal.LogFault → Written r time append
  Turned : (why : Refusal) → r ≡ reply.Refused why → time ≡ None → append ≡ Nothing → Written r time append

pub written : (lease : ℕ) (a : Actor) (o : History) (reading : Option ℕ) (meta : Meta) (number : ℕ) (path : Parts) (op : Op) (read seen : ℕ) (fates : List FateOf) (r : Reply) (time : Option ℕ) (append : Append) →
    Serves lease a o reading (request.Write meta number path op read seen fates) r time append → Written r time append
written lease a o reading meta number path op read seen fates r time append served =
    elim (write_machine lease a o served.fails (or_zero reading) meta number path op read seen fates) [
      | Accepts w is ↦ Accepted w (served.replied ∙ ap (λ (x : Answer). x.reply) is) (served.took ∙ ap (λ (x : Answer). x.time) is) (served.logged ∙ ap (λ (x : Answer). x.append) is)
      | Faults w is ↦ Faulty (served.replied ∙ ap (λ (x : Answer). x.reply) is)
      | Turns why is ↦ Turned why (served.replied ∙ ap (λ (x : Answer). x.reply) is) (served.took ∙ ap (λ (x : Answer). x.time) is) (served.logged ∙ ap (λ (x : Answer). x.append) is)
    ]

pub took_of : (w : ℕ) (time : Option ℕ) (append : Append) → Written (reply.Written w) time append → append ≡ Took
took_of w time append (Accepted v is at took) = took
took_of w time append (Faulty is) = cc
took_of w time append (Turned why is none nothing) = cc

-- the same in the words of the law
pub write_is : (lease : ℕ) (a : Actor) (o : History) (reading : Option ℕ) (meta : Meta) (number : ℕ) (path : Parts) (op : Op) (read seen : ℕ) (fates : List FateOf) (r : Reply) (time : Option ℕ) (append : Append) →
    Serves lease a o reading (request.Write meta number path op read seen fates) r time append → IsAccepted r time append ⊎ IsFault r append ⊎ (IsTurned r append × (time ≡ None))
write_is lease a o reading meta number path op read seen fates r time append served =
    elim (write_machine lease a o served.fails (or_zero reading) meta number path op read seen fates) [
      | Accepts w is ↦ inl (w, served.replied ∙ ap (λ (x : Answer). x.reply) is, served.took ∙ ap (λ (x : Answer). x.time) is, served.logged ∙ ap (λ (x : Answer). x.append) is)
      | Faults w is ↦ inr (inl (served.replied ∙ ap (λ (x : Answer). x.reply) is, served.logged ∙ ap (λ (x : Answer). x.append) is))
      | Turns why is ↦ inr (inr ((why, served.replied ∙ ap (λ (x : Answer). x.reply) is, served.logged ∙ ap (λ (x : Answer). x.append) is), served.took ∙ ap (λ (x : Answer). x.time) is))
    ]

-- ## a commit and an abort

pub data EndAnswer (C : Reply → Type 0) (answer : Answer) : Type 0 where
  Closes : C answer.reply → EndAnswer C answer
  Breaks : answer.reply ≡ reply.Refused refusal.LogFault → answer.append ≡ Failed → EndAnswer C answer
  Stands : (why : Refusal) → answer ≡ refusal_answer why → EndAnswer C answer

commit_given : (lease : ℕ) (end : Option ℕ) (fails : Bool) (time : Result ℕ TimeRefusal) → EndAnswer ClosesCommit (timed_answer lease end fails true time (λ c. reply.Committed c))
commit_given lease end fails (Err e) = Stands (time_refused e) refl
commit_given lease end false (Ok c) = Closes tt
commit_given lease end true (Ok c) = Breaks refl refl

commit_chosen : (b : Bool) (at lease : ℕ) (end : Option ℕ) (fails : Bool) (time : Result ℕ TimeRefusal) →
    EndAnswer ClosesCommit (if b then refusal_answer (refusal.LeaseHeld at) else timed_answer lease end fails true time (λ c. reply.Committed c))
commit_chosen true at lease end fails time = Stands (refusal.LeaseHeld at) refl
commit_chosen false at lease end fails time = commit_given lease end fails time

commit_by : (r : Record) (done : Answer) → EndAnswer ClosesCommit done → EndAnswer ClosesCommit (commit_answer r done)
commit_by (Pending own) done is = is
commit_by (Committed c tablets) done is = Closes tt
commit_by (AbortedBy by) done is = Closes tt
commit_by NoRecord done is = Closes tt

abort_logged : (fails : Bool) → EndAnswer ClosesAbort (logged fails true None reply.Ended)
abort_logged false = Closes tt
abort_logged true = Breaks refl refl

abort_by : (fails : Bool) (r : Record) → EndAnswer ClosesAbort (abort_answer fails r)
abort_by fails (Committed c tablets) = Closes tt
abort_by fails (Pending own) = abort_logged fails
abort_by fails (AbortedBy by) = abort_logged fails
abort_by fails NoRecord = Closes tt

end_standing : (C : Reply → Type 0) (d : Option ℕ) (up : Answer) → EndAnswer C up → EndAnswer C (status_standing d up)
end_standing C (Some n) up is = Stands (refusal.Down n) refl
end_standing C None up is = is

end_tablet : (C : Reply → Type 0) (d : Option ℕ) → EndAnswer C (tablet_standing d (refusal_answer refusal.Memory))
end_tablet C (Some n) = Stands (refusal.Down n) refl
end_tablet C None = Stands refusal.Memory refl

commit_up : (lease : ℕ) (o : History) (fails : Bool) (reading x floor : ℕ) (tablets : List ℕ) → EndAnswer ClosesCommit (status_up lease o fails reading (request.Commit x floor tablets))
commit_up lease o fails reading x floor tablets = commit_by (record_of x o) _
    (commit_chosen (holds (lease_end lease o) (has_given o) reading) (or_zero (lease_end lease o)) lease (lease_end lease o) fails (clock_time Own (last_time o) floor reading))

commit_machine : (lease : ℕ) (a : Actor) (o : History) (fails : Bool) (reading x floor : ℕ) (tablets : List ℕ) → EndAnswer ClosesCommit (machine_answer lease a o fails reading (request.Commit x floor tablets))
commit_machine lease (Tablet k) o fails reading x floor tablets = end_tablet ClosesCommit (down_since o)
commit_machine lease (Status j) o fails reading x floor tablets = end_standing ClosesCommit (down_since o) _ (commit_up lease o fails reading x floor tablets)
commit_machine lease (Session i) o fails reading x floor tablets = end_standing ClosesCommit (down_since o) _ (commit_up lease o fails reading x floor tablets)
commit_machine lease (Applier k) o fails reading x floor tablets = end_standing ClosesCommit (down_since o) _ (commit_up lease o fails reading x floor tablets)

abort_machine : (lease : ℕ) (a : Actor) (o : History) (fails : Bool) (reading x : ℕ) → EndAnswer ClosesAbort (machine_answer lease a o fails reading (request.Abort x))
abort_machine lease (Tablet k) o fails reading x = end_tablet ClosesAbort (down_since o)
abort_machine lease (Status j) o fails reading x = end_standing ClosesAbort (down_since o) _ (abort_by fails (record_of x o))
abort_machine lease (Session i) o fails reading x = end_standing ClosesAbort (down_since o) _ (abort_by fails (record_of x o))
abort_machine lease (Applier k) o fails reading x = end_standing ClosesAbort (down_since o) _ (abort_by fails (record_of x o))

pub data Ended (C : Reply → Type 0) (r : Reply) (append : Append) : Type 0 where
  Closed : C r → Ended C r append
  Broken : r ≡ reply.Refused refusal.LogFault → Ended C r append
  Standing : (why : Refusal) → r ≡ reply.Refused why → append ≡ Nothing → Ended C r append

ended_by : (C : Reply → Type 0) (answer : Answer) (r : Reply) (append : Append) → r ≡ answer.reply → append ≡ answer.append → EndAnswer C answer → Ended C r append
ended_by C answer r append replied logs (Closes c) = Closed (subst (λ (q : Reply). C q) (sym replied) c)
ended_by C answer r append replied logs (Breaks is failed) = Broken (replied ∙ is)
ended_by C answer r append replied logs (Stands why is) = Standing why (replied ∙ ap (λ (x : Answer). x.reply) is) (logs ∙ ap (λ (x : Answer). x.append) is)

pub commit_ended : (lease : ℕ) (a : Actor) (o : History) (reading : Option ℕ) (x floor : ℕ) (tablets : List ℕ) (r : Reply) (time : Option ℕ) (append : Append) →
    Serves lease a o reading (request.Commit x floor tablets) r time append → Ended ClosesCommit r append
commit_ended lease a o reading x floor tablets r time append served =
    ended_by ClosesCommit _ r append served.replied served.logged (commit_machine lease a o served.fails (or_zero reading) x floor tablets)

pub abort_ended : (lease : ℕ) (a : Actor) (o : History) (reading : Option ℕ) (x : ℕ) (r : Reply) (time : Option ℕ) (append : Append) →
    Serves lease a o reading (request.Abort x) r time append → Ended ClosesAbort r append
abort_ended lease a o reading x r time append served =
    ended_by ClosesAbort _ r append served.replied served.logged (abort_machine lease a o served.fails (or_zero reading) x)

-- the same in the words of the law
end_is : (C : Reply → Type 0) (answer : Answer) (r : Reply) (append : Append) → r ≡ answer.reply → append ≡ answer.append → EndAnswer C answer → C r ⊎ IsFault r append ⊎ IsTurned r append
end_is C answer r append replied logs (Closes c) = inl (subst (λ (q : Reply). C q) (sym replied) c)
end_is C answer r append replied logs (Breaks is failed) = inr (inl (replied ∙ is, logs ∙ failed))
end_is C answer r append replied logs (Stands why is) = inr (inr (why, replied ∙ ap (λ (x : Answer). x.reply) is, logs ∙ ap (λ (x : Answer). x.append) is))

pub commit_is : (lease : ℕ) (a : Actor) (o : History) (reading : Option ℕ) (x floor : ℕ) (tablets : List ℕ) (r : Reply) (time : Option ℕ) (append : Append) →
    Serves lease a o reading (request.Commit x floor tablets) r time append → ClosesCommit r ⊎ IsFault r append ⊎ IsTurned r append
commit_is lease a o reading x floor tablets r time append served =
    end_is ClosesCommit _ r append served.replied served.logged (commit_machine lease a o served.fails (or_zero reading) x floor tablets)

pub abort_is : (lease : ℕ) (a : Actor) (o : History) (reading : Option ℕ) (x : ℕ) (r : Reply) (time : Option ℕ) (append : Append) →
    Serves lease a o reading (request.Abort x) r time append → ClosesAbort r ⊎ IsFault r append ⊎ IsTurned r append
abort_is lease a o reading x r time append served =
    end_is ClosesAbort _ r append served.replied served.logged (abort_machine lease a o served.fails (or_zero reading) x)
