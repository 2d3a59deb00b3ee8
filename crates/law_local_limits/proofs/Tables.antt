-- Only a listing read is answered by a listing.
use Rattle.std.proofs.Common.{ℕ, max, Bool, true, false, List, Option, Some, None, nat_lt, ◌∷◌, sym, subst, if◌then◌else◌}
use Rattle.doc_path.specs.Path.{Parts}
use Rattle.txn_data.specs.declared.actor.Actor.{Actor}
use Rattle.txn_data.specs.declared.actor.Actor.TheVariants.{Tablet}
use Rattle.txn_data.specs.declared.append.Append.{Append}
use Rattle.txn_data.specs.declared.met_at.MetAt.{MetAt}
use Rattle.txn_data.specs.declared.read_kind.ReadKind.{ReadKind}
use Rattle.txn_data.specs.declared.reply.Reply.{Reply}
use Rattle.txn_data.specs.declared.reply.Reply.TheVariants as reply
use Rattle.txn_data.specs.declared.request.Request.{Request}
use Rattle.txn_data.specs.declared.request.Request.TheVariants as request
use Rattle.txn_data.specs.declared.version.Version.{Version}
use Rattle.txn_types.specs.Lists.{or_zero}
use Rattle.txn_types.specs.History.{History}
use Rattle.txn_types.specs.Clock.{Answer, told_only, logged, Kind, Own, Floor, timed, down_since}
use Rattle.txn_types.specs.Status as status
use Rattle.txn_types.specs.Status.{Record, NoRecord, record_of, fate_told, resolved, commit_answer, abort_answer, may_forget, is_sure, noted, status_up, status_standing, status_answer}
use Rattle.txn_types.specs.Tablet.{versions, provisional, conflict, greatest_above, related_commits, greatest_fate, considered, met_under, collected, has_any, write_answer, tablet_up, tablet_standing, tablet_answer}
use Rattle.txn_types.specs.Run.{Serves, machine_answer}
use Rattle.law_owners.proofs.Replies.{by_timed}
use Rattle.law_local_limits.proofs.Programs.{NoListing}

-- no listing
abbrev pub Unlisted : Reply → Type 0
Unlisted (reply.Listed limit others) = ⊥
Unlisted r = Unit {0}

abbrev IsPlain : Answer → Type 0
IsPlain answer = Unlisted answer.reply

plain_timed : (lease : ℕ) (o : History) (fails : Bool) (kind : Kind) (floor reading : ℕ) (records : Bool) (r : ℕ → Reply) → ((n : ℕ) → Unlisted (r n)) → IsPlain (timed lease o fails kind floor reading records r)
plain_timed lease o fails kind floor reading records r plain = by_timed Unlisted (λ why. tt) lease o fails kind floor reading records r plain

plain_logged : (fails due : Bool) (time : Option ℕ) (r : Reply) → Unlisted r → IsPlain (logged fails due time r)
plain_logged fails false time r plain = plain
plain_logged false true time r plain = plain
plain_logged true true time r plain = tt

plain_write : (c v : Option ℕ) (done : Answer) → IsPlain done → IsPlain (write_answer c v done)
plain_write (Some other) v done plain = tt
plain_write None (Some at) done plain = tt
plain_write None None done plain = plain

plain_choice : (b : Bool) (one two : Answer) → IsPlain one → IsPlain two → IsPlain (if b then one else two)
plain_choice true one two first second = first
plain_choice false one two first second = second

plain_collected : (kind : ReadKind) (paths : List Parts) (t : ℕ) (vs : List Version) (met : Option MetAt) → Unlisted (collected kind paths t vs met)
plain_collected kind paths t vs (Some m) = tt
plain_collected kind paths t vs None = tt

up_plain : (lease : ℕ) (o : History) (fails : Bool) (reading : ℕ) (asked : Request) → NoListing asked → IsPlain (tablet_up lease o fails reading asked)
up_plain lease o fails reading (request.Write meta number path op read seen fates) none =
    plain_write (conflict meta.txn path fates (provisional o)) (greatest_above read (related_commits meta.txn path fates (provisional o) (versions o))) (timed lease o fails Own seen reading true (λ w. reply.Written w))
    (plain_timed lease o fails Own seen reading true (λ w. reply.Written w) (λ n. tt))
up_plain lease o fails reading (request.Single x path op seen fates) none =
    plain_write (conflict x path fates (provisional o)) None (timed lease o fails Own (max seen (greatest_fate fates fates)) reading true (λ c. reply.SingleDone c))
    (plain_timed lease o fails Own (max seen (greatest_fate fates fates)) reading true (λ c. reply.SingleDone c) (λ n. tt))
up_plain lease o fails reading (request.ListRead own_txn paths t g limit) none = absurd none
up_plain lease o fails reading (request.Collect own_txn kind paths t window fates) none =
    plain_collected kind paths t (considered own_txn fates (provisional o) (versions o)) (met_under window t paths (considered own_txn fates (provisional o) (versions o)))
up_plain lease o fails reading (request.Apply x at) none =
    plain_choice (has_any x (provisional o)) (timed lease o fails Floor at reading true (λ now. reply.AppliedHere)) (told_only reply.AppliedHere)
    (plain_timed lease o fails Floor at reading true (λ now. reply.AppliedHere) (λ n. tt)) tt
up_plain lease o fails reading (request.Clean x) none = plain_logged fails (has_any x (provisional o)) None reply.Cleaned tt
up_plain lease o fails reading asked none = tt

standing_plain : (d : Option ℕ) (up : Answer) → IsPlain up → IsPlain (tablet_standing d up)
standing_plain (Some n) up plain = tt
standing_plain None up plain = plain

tablet_plain : (lease : ℕ) (o : History) (fails : Bool) (reading : ℕ) (asked : Request) → NoListing asked → IsPlain (tablet_answer lease o fails reading asked)
tablet_plain lease o fails reading request.Restart none = tt
tablet_plain lease o fails reading asked none = standing_plain (down_since o) (tablet_up lease o fails reading asked) (up_plain lease o fails reading asked none)

resolved_plain : (fails : Bool) (priority : ℕ) (r : Record) → IsPlain (resolved fails priority r)
resolved_plain fails priority (status.Pending own) = plain_choice (nat_lt own priority) (logged fails true None _) (told_only _) (plain_logged fails true None _ tt) tt
resolved_plain fails priority (status.Committed c tablets) = tt
resolved_plain fails priority (status.AbortedBy by) = tt
resolved_plain fails priority NoRecord = tt

commit_plain : (r : Record) (done : Answer) → IsPlain done → IsPlain (commit_answer r done)
commit_plain (status.Pending priority) done plain = plain
commit_plain (status.Committed c tablets) done plain = tt
commit_plain (status.AbortedBy by) done plain = tt
commit_plain NoRecord done plain = tt

abort_plain : (fails : Bool) (r : Record) → IsPlain (abort_answer fails r)
abort_plain fails (status.Committed c tablets) = tt
abort_plain fails (status.Pending priority) = plain_logged fails true None reply.Ended tt
abort_plain fails (status.AbortedBy by) = plain_logged fails true None reply.Ended tt
abort_plain fails NoRecord = tt

status_up_plain : (lease : ℕ) (o : History) (fails : Bool) (reading : ℕ) (asked : Request) → IsPlain (status_up lease o fails reading asked)
status_up_plain lease o fails reading (request.Begin x isolation priority) = plain_logged fails true None reply.Begun tt
status_up_plain lease o fails reading (request.AskFate x t) = plain_timed lease o fails Floor t reading false (λ now. reply.FateIs (fate_told (record_of x o))) (λ n. tt)
status_up_plain lease o fails reading (request.Resolve x by priority) = resolved_plain fails priority (record_of x o)
status_up_plain lease o fails reading (request.Commit x floor tablets) =
    commit_plain (record_of x o) (timed lease o fails Own floor reading true (λ c. reply.Committed c)) (plain_timed lease o fails Own floor reading true (λ c. reply.Committed c) (λ n. tt))
status_up_plain lease o fails reading (request.Abort x) = abort_plain fails (record_of x o)
status_up_plain lease o fails reading (request.Applied x tablet) = plain_logged fails (may_forget (is_sure x o) (tablet ∷ noted x o) (record_of x o)) None reply.Noted tt
status_up_plain lease o fails reading asked = tt

status_standing_plain : (d : Option ℕ) (up : Answer) → IsPlain up → IsPlain (status_standing d up)
status_standing_plain (Some n) up plain = tt
status_standing_plain None up plain = plain

status_plain : (lease : ℕ) (o : History) (fails : Bool) (reading : ℕ) (asked : Request) → IsPlain (status_answer lease o fails reading asked)
status_plain lease o fails reading request.Restart = tt
status_plain lease o fails reading asked = status_standing_plain (down_since o) (status_up lease o fails reading asked) (status_up_plain lease o fails reading asked)

machine_plain : (lease : ℕ) (a : Actor) (o : History) (fails : Bool) (reading : ℕ) (asked : Request) → NoListing asked → IsPlain (machine_answer lease a o fails reading asked)
machine_plain lease (Tablet k) o fails reading asked none = tablet_plain lease o fails reading asked none
machine_plain lease a o fails reading asked none = status_plain lease o fails reading asked

pub others_unlisted : (lease : ℕ) (a : Actor) (o : History) (reading : Option ℕ) (asked : Request) (r : Reply) (time : Option ℕ) (append : Append) → Serves lease a o reading asked r time append → NoListing asked → Unlisted r
others_unlisted lease a o reading asked r time append served none = subst (λ (q : Reply). Unlisted q) (sym served.replied) (machine_plain lease a o served.fails (or_zero reading) asked none)
