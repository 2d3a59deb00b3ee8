-- The table of a status tablet: what it answers, from its own entries alone.
use Rattle.std.specs.Prelude.{ℕ, Bool, true, false, ◌&&◌, ◌||◌, List, [], ◌∷◌, Option, Some, None, nat_eq, nat_lt, if◌then◌else◌}
use Rattle.std.specs.List.{list_all}
use Rattle.txn_data.specs.declared.append.Append.TheVariants.{Took}
use Rattle.txn_data.specs.declared.fate.Fate.{Fate}
use Rattle.txn_data.specs.declared.fate.Fate.TheVariants as fate
use Rattle.txn_data.specs.declared.request.Request.{Request}
use Rattle.txn_data.specs.declared.request.Request.TheVariants as request
use Rattle.txn_data.specs.declared.reply.Reply.TheVariants as reply
use Rattle.txn_data.specs.declared.refusal.Refusal.TheVariants as refusal
use Rattle.txn_data.specs.declared.event.Event.{Event}
use Rattle.txn_data.specs.declared.event.Event.TheVariants.{Serve, Restarted}
use Rattle.txn_types.specs.Lists.{has_number}
use Rattle.txn_types.specs.History.{History, standing}
use Rattle.txn_types.specs.Clock.{Answer, told_only, refusal_answer, logged, Own, Floor, timed, down_since}

-- what a status tablet keeps of a transaction
pub data Record : Type 0 where
  NoRecord : Record
  Pending : (priority : ℕ) → Record
  Committed : (at : ℕ) (tablets : List ℕ) → Record
  AbortedBy : (by : ℕ) → Record

-- the record of x is decided by the last logged Begin, Resolve, Commit, Abort or Applied of it
abbrev pub record_after : ℕ → Record → Event → Record
record_after x r (Serve from (request.Begin y isolation priority) answer time append) = if nat_eq y x then Pending priority else r
record_after x r (Serve from (request.Resolve y by priority) answer time append) = if nat_eq y x then AbortedBy by else r
record_after x r (Serve from (request.Commit y floor tablets) answer (Some c) append) = if nat_eq y x then Committed c tablets else r
record_after x r (Serve from (request.Abort y) answer time append) = if nat_eq y x then NoRecord else r
record_after x r (Serve from (request.Applied y tablet) answer time append) = if nat_eq y x then NoRecord else r
record_after x r _ = r

unfoldable pub record_over : ℕ → History → Record
record_over x [] = NoRecord
record_over x (e ∷ h) = record_after x (record_over x h) e.event

abbrev pub record_of : ℕ → History → Record
record_of x h = record_over x (standing h)

-- the tablets noted for x since the last restart, and since the Commit that the log took
abbrev pub noted_after : ℕ → List ℕ → Event → List ℕ
noted_after x noted (Serve from (request.Applied y tablet) reply.Noted time append) = if nat_eq y x then tablet ∷ noted else noted
noted_after x noted (Serve from (request.Commit y floor tablets) answer (Some c) Took) = if nat_eq y x then [] else noted
noted_after x noted (Restarted from kept) = []
noted_after x noted _ = noted

unfoldable pub noted : ℕ → History → List ℕ
noted x [] = []
noted x (e ∷ h) = noted_after x (noted x h) e.event

-- whether a Commit or an Abort of x was answered Committed since the last restart
abbrev pub sure_after : ℕ → Bool → Event → Bool
sure_after x sure (Serve from (request.Commit y floor tablets) (reply.Committed c) time append) = nat_eq y x || sure
sure_after x sure (Serve from (request.Abort y) (reply.Committed c) time append) = nat_eq y x || sure
sure_after x sure (Restarted from kept) = false
sure_after x sure _ = sure

unfoldable pub is_sure : ℕ → History → Bool
is_sure x [] = false
is_sure x (e ∷ h) = sure_after x (is_sure x h) e.event

abbrev pub fate_told : Record → Fate
fate_told NoRecord = fate.Absent
fate_told (Pending priority) = fate.Pending
fate_told (Committed c tablets) = fate.Committed c
fate_told (AbortedBy by) = fate.Aborted

-- a Resolve aborts a transaction of a lower priority
abbrev pub resolved : Bool → ℕ → Record → Answer
resolved fails priority (Pending own) =
    if nat_lt own priority then logged fails true None (reply.FateIs fate.Aborted) else told_only (reply.FateIs fate.Pending)
resolved fails priority r = told_only (reply.FateIs (fate_told r))

abbrev pub commit_answer : Record → Answer → Answer
commit_answer (Pending priority) timed_commit = timed_commit
commit_answer (Committed c tablets) timed_commit = told_only (reply.Committed c)
commit_answer (AbortedBy by) timed_commit = told_only (reply.AbortedBy by)
commit_answer NoRecord timed_commit = told_only reply.Gone

abbrev pub abort_answer : Bool → Record → Answer
abort_answer fails (Committed c tablets) = told_only (reply.Committed c)
abort_answer fails (Pending priority) = logged fails true None reply.Ended
abort_answer fails (AbortedBy by) = logged fails true None reply.Ended
abort_answer fails NoRecord = told_only reply.Ended

-- whether a committed record may go: all its tablets are noted, of which there are some, and it is sure
abbrev pub may_forget : Bool → List ℕ → Record → Bool
may_forget sure noted_now (Committed c []) = false
may_forget sure noted_now (Committed c tablets) = sure && list_all (λ k. has_number k noted_now) tablets
may_forget sure noted_now r = false

-- what a status tablet that is up answers
abbrev pub status_up : ℕ → History → Bool → ℕ → Request → Answer
status_up lease h fails reading (request.Begin x isolation priority) = logged fails true None reply.Begun
status_up lease h fails reading (request.AskFate x t) =
    timed lease h fails Floor t reading false (λ now. reply.FateIs (fate_told (record_of x h)))
status_up lease h fails reading (request.Resolve x by priority) = resolved fails priority (record_of x h)
status_up lease h fails reading (request.Commit x floor tablets) =
    commit_answer (record_of x h) (timed lease h fails Own floor reading true (λ c. reply.Committed c))
status_up lease h fails reading (request.Abort x) = abort_answer fails (record_of x h)
status_up lease h fails reading (request.Applied x tablet) =
    logged fails (may_forget (is_sure x h) (tablet ∷ noted x h) (record_of x h)) None reply.Noted
status_up lease h fails reading _ = refusal_answer refusal.Memory

abbrev pub status_standing : Option ℕ → Answer → Answer
status_standing (Some since) up = refusal_answer (refusal.Down since)
status_standing None up = up

-- what a status tablet answers; an answer to Restart is a load that failed
abbrev pub status_answer : ℕ → History → Bool → ℕ → Request → Answer
status_answer lease h fails reading request.Restart = refusal_answer refusal.LogFault
status_answer lease h fails reading asked = status_standing (down_since h) (status_up lease h fails reading asked)
