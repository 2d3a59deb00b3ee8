-- What a status tablet answers to a commit and to an abort, by the record that it has.
use Rattle.std.proofs.Common.{◌≡◌, ℕ, Bool, true, false, List, Option, Some, None, Result, Ok, Err, refl, sym, ◌∙◌, ap, subst, inl, inr, ◌⊎◌, if◌then◌else◌}
use Rattle.hybrid_time.specs.declared.time_refusal.TimeRefusal.{TimeRefusal}
use Rattle.txn_data.specs.declared.actor.Actor.TheVariants.{Status}
use Rattle.txn_data.specs.declared.append.Append.{Append}
use Rattle.txn_data.specs.declared.append.Append.TheVariants.{Took}
use Rattle.txn_data.specs.declared.refusal.Refusal.{Refusal}
use Rattle.txn_data.specs.declared.refusal.Refusal.TheVariants as refusal
use Rattle.txn_data.specs.declared.request.Request.TheVariants as request
use Rattle.txn_data.specs.declared.reply.Reply.{Reply}
use Rattle.txn_data.specs.declared.reply.Reply.TheVariants as reply
use Rattle.txn_types.specs.Lists.{or_zero}
use Rattle.txn_types.specs.History.{History}
use Rattle.txn_types.specs.Clock.{Answer, refusal_answer, logged, timed, timed_answer, holds, clock_time, Own, lease_end, last_time, has_given, down_since}
use Rattle.txn_types.specs.Status.{Record, NoRecord, Pending, Committed, AbortedBy, record_of, status_standing, commit_answer, abort_answer}
use Rattle.txn_types.specs.Run.{Serves}

-- ## a commit that is answered Gone

logged_gone : (fails : Bool) (c : ℕ) → (logged fails true (Some c) (reply.Committed c)).reply ≡ reply.Gone → ⊥
logged_gone false c is = cc
logged_gone true c is = cc

given_gone : (lease : ℕ) (end : Option ℕ) (fails : Bool) (time : Result ℕ TimeRefusal) → (timed_answer lease end fails true time (λ c. reply.Committed c)).reply ≡ reply.Gone → ⊥
given_gone lease end fails (Err e) is = cc
given_gone lease end fails (Ok c) is = logged_gone fails c is

chosen_gone : (b : Bool) (why : Refusal) (lease : ℕ) (end : Option ℕ) (fails : Bool) (time : Result ℕ TimeRefusal) → (if b then refusal_answer why else timed_answer lease end fails true time (λ c. reply.Committed c)).reply ≡ reply.Gone → ⊥
chosen_gone true why lease end fails time is = cc
chosen_gone false why lease end fails time is = given_gone lease end fails time is

record_gone : (r : Record) (done : Answer) → (done.reply ≡ reply.Gone → ⊥) → (commit_answer r done).reply ≡ reply.Gone → r ≡ NoRecord
record_gone NoRecord done never is = refl
record_gone (Pending own_priority) done never is = absurd (never is)
record_gone (Committed c tablets) done never is = cc
record_gone (AbortedBy by) done never is = cc

standing_gone : (d : Option ℕ) (up : Answer) → (status_standing d up).reply ≡ reply.Gone → (d ≡ None) × (up.reply ≡ reply.Gone)
standing_gone (Some n) up is = cc
standing_gone None up is = (refl, is)

pub gone_record : (lease j : ℕ) (o : History) (reading : Option ℕ) (x floor : ℕ) (tablets : List ℕ) (time : Option ℕ) (append : Append) → Serves lease (Status j) o reading (request.Commit x floor tablets) reply.Gone time append →
    (down_since o ≡ None) × (record_of x o ≡ NoRecord)
gone_record lease j o reading x floor tablets time append served =
    let done = timed lease o served.fails Own floor (or_zero reading) true (λ c. reply.Committed c) in
    let s = standing_gone (down_since o) (commit_answer (record_of x o) done) (sym served.replied) in
    (s.0, record_gone (record_of x o) done (chosen_gone (holds (lease_end lease o) (has_given o) (or_zero reading)) (refusal.LeaseHeld (or_zero (lease_end lease o))) lease (lease_end lease o) served.fails (clock_time Own (last_time o) floor (or_zero reading))) s.1)

pub none_gone : (lease j : ℕ) (o : History) (reading : Option ℕ) (x floor : ℕ) (tablets : List ℕ) (r : Reply) (time : Option ℕ) (append : Append) → Serves lease (Status j) o reading (request.Commit x floor tablets) r time append →
    down_since o ≡ None → record_of x o ≡ NoRecord → r ≡ reply.Gone
none_gone lease j o reading x floor tablets r time append served up none = served.replied ∙ (rw (up, none) refl)

-- ## an abort

logged_ended : (fails : Bool) (c : ℕ) → (logged fails true None reply.Ended).reply ≡ reply.Committed c → ⊥
logged_ended false c is = cc
logged_ended true c is = cc

record_committed : (fails : Bool) (r : Record) (c : ℕ) → (abort_answer fails r).reply ≡ reply.Committed c → (tablets : List ℕ) × (r ≡ Committed c tablets)
record_committed fails (Committed d tablets) c is = let same : d ≡ c = cc in (tablets, ap (λ (e : ℕ). Committed e tablets) same)
record_committed fails (Pending own_priority) c is = absurd (logged_ended fails c is)
record_committed fails (AbortedBy by) c is = absurd (logged_ended fails c is)
record_committed fails NoRecord c is = cc

standing_committed : (d : Option ℕ) (up : Answer) (c : ℕ) → (status_standing d up).reply ≡ reply.Committed c → (d ≡ None) × (up.reply ≡ reply.Committed c)
standing_committed (Some n) up c is = cc
standing_committed None up c is = (refl, is)

pub committed_record : (lease j : ℕ) (o : History) (reading : Option ℕ) (x c : ℕ) (time : Option ℕ) (append : Append) → Serves lease (Status j) o reading (request.Abort x) (reply.Committed c) time append →
    (down_since o ≡ None) × ((tablets : List ℕ) × (record_of x o ≡ Committed c tablets))
committed_record lease j o reading x c time append served =
    let s = standing_committed (down_since o) (abort_answer served.fails (record_of x o)) c (sym served.replied) in
    (s.0, record_committed served.fails (record_of x o) c s.1)

pub record_told : (lease j : ℕ) (o : History) (reading : Option ℕ) (x c : ℕ) (tablets : List ℕ) (r : Reply) (time : Option ℕ) (append : Append) → Serves lease (Status j) o reading (request.Abort x) r time append →
    down_since o ≡ None → record_of x o ≡ Committed c tablets → r ≡ reply.Committed c
record_told lease j o reading x c tablets r time append served up is = served.replied ∙ (rw (up, is) refl)

-- an abort that is answered Ended took the record away, or there was none
abbrev pub EndedFrom : Record → Append → Type 0
EndedFrom r append = (r ≡ NoRecord) ⊎ (append ≡ Took)

abbrev IsEnded : Reply → Type 0
IsEnded reply.Ended = Unit {0}
IsEnded r = ⊥

logged_took : (fails : Bool) → IsEnded (logged fails true None reply.Ended).reply → (logged fails true None reply.Ended).append ≡ Took
logged_took false is = refl
logged_took true is = absurd is

record_ended : (fails : Bool) (r : Record) → IsEnded (abort_answer fails r).reply → EndedFrom r (abort_answer fails r).append
record_ended fails NoRecord is = inl refl
record_ended fails (Pending own_priority) is = inr (logged_took fails is)
record_ended fails (AbortedBy by) is = inr (logged_took fails is)
record_ended fails (Committed c tablets) is = absurd is

standing_ended : (d : Option ℕ) (up : Answer) (r : Record) → (IsEnded up.reply → EndedFrom r up.append) → IsEnded (status_standing d up).reply → EndedFrom r (status_standing d up).append
standing_ended (Some n) up r goes is = absurd is
standing_ended None up r goes is = goes is

pub ended_record : (lease j : ℕ) (o : History) (reading : Option ℕ) (x : ℕ) (time : Option ℕ) (append : Append) → Serves lease (Status j) o reading (request.Abort x) reply.Ended time append → EndedFrom (record_of x o) append
ended_record lease j o reading x time append served =
    subst (λ (a : Append). EndedFrom (record_of x o) a) (sym served.logged)
    (standing_ended (down_since o) (abort_answer served.fails (record_of x o)) (record_of x o) (record_ended served.fails (record_of x o)) (subst (λ (r : Reply). IsEnded r) served.replied tt))
