-- Histories that are no runs, whatever stands before: one entry passes over a provisional record, a commit or a version.
use Rattle.std.proofs.Common.{◌≡◌, ℕ, max, Bool, true, false, not, ◌&&◌, List, [], ◌∷◌, Option, Some, None, Result, Ok, Err, map, filter, nat_le, refl, subst, inl, inr, if◌then◌else◌, arith}
use Rattle.std.proofs.lemmas.Bool.{le-leb}
use Rattle.std.specs.List.{list_any}
use Rattle.hybrid_time.specs.declared.time_refusal.TimeRefusal.{TimeRefusal}
use Rattle.doc_path.specs.Path.{related}
use Rattle.txn_data.specs.declared.actor.Actor.TheVariants.{Tablet, Session}
use Rattle.txn_data.specs.declared.append.Append.TheVariants.{Nothing, Took}
use Rattle.txn_data.specs.declared.config.Config.{Config}
use Rattle.txn_data.specs.declared.fate.Fate.TheVariants as fate
use Rattle.txn_data.specs.declared.found.Found.{Found}
use Rattle.txn_data.specs.declared.op.Op.TheVariants.{Delete}
use Rattle.txn_data.specs.declared.refusal.Refusal.{Refusal}
use Rattle.txn_data.specs.declared.refusal.Refusal.TheVariants as refusal
use Rattle.txn_data.specs.declared.reply.Reply.{Reply}
use Rattle.txn_data.specs.declared.reply.Reply.TheVariants as reply
use Rattle.txn_data.specs.declared.request.Request.TheVariants as request
use Rattle.txn_data.specs.declared.event.Event.TheVariants.{Serve}
use Rattle.txn_data.specs.declared.entry.Entry.{Entry}
use Rattle.txn_types.specs.Lists.{Member, or_zero}
use Rattle.txn_types.specs.History.{History, own, was_logged, counting, counting_before}
use Rattle.txn_types.specs.Clock.{Floor, refusal_answer, timed_answer, logged, lease_due, holds, lease_end, has_given, clock_time, last_time, down_since}
use Rattle.txn_types.specs.Tablet.{Intent, txn_of, is_own, provisional, provisional_over, home_in, founds, listed, local_limit, tablet_standing}
use Rattle.txn_types.specs.Run.{Run, Serves}
use Rattle.law_machines.proofs.Basics.{member_right, member_map, member_filter, member_rising}
use Rattle.law_machines.proofs.Counted.{counts_served}
use Rattle.law_machines.proofs.Owns.{serves_at, member_own, counted_counting, run_until}
use Rattle.law_fates.proofs.Runs.{told_committed}
use Rattle.law_open_txns.specs.Transaction.{Begun}
use Rattle.law_session_order.proofs.Runs.{writes_begun}
use Rattle.law_forgetting.proofs.Forgotten.{told_absent}
use Rattle.law_committed_writes.proofs.Kept.{forgotten_none}
use Rattle.law_write_order.proofs.Order.{in_commit_order}
use Rattle.law_promises.proofs.Cases.{x, doc, meta, at_status, at_tablet, commits, writes, asks_to_commit, lists}

-- the provisional record of its write at this time
abbrev pub record_of : ℕ → Intent
record_of w = record { meta = meta; number = 0; path = doc; op = Delete; wrote = w }

is_provisional : (w : ℕ) (o : History) → Member (record_of w) (provisional (writes w ∷ o))
unfolding counting_before provisional_over
is_provisional w o = member_right (record_of w) (provisional_over (filter (λ (e : Entry). was_logged e.event) (counting_before (writes w ∷ []) o))) (record_of w ∷ []) (inl refl)

-- ## a listing that passes over a provisional record

logged_listed : (fails due : Bool) (now limit : ℕ) (others : List Found) (r : ℕ → Reply) → reply.Listed limit others ≡ (logged fails due (Some now) (r now)).reply → reply.Listed limit others ≡ r now
logged_listed fails false now limit others r is = is
logged_listed false true now limit others r is = is
logged_listed true true now limit others r is = cc

timed_listed : (lease : ℕ) (end : Option ℕ) (fails : Bool) (time : Result ℕ TimeRefusal) (limit : ℕ) (others : List Found) (r : ℕ → Reply) → reply.Listed limit others ≡ (timed_answer lease end fails false time r).reply →
    (now : ℕ) × (reply.Listed limit others ≡ r now)
timed_listed lease end fails (Err e) limit others r is = cc
timed_listed lease end fails (Ok now) limit others r is = (now, logged_listed fails (lease_due end now) now limit others r is)

up_listed : (d : Option ℕ) (held : Bool) (why : Refusal) (lease : ℕ) (end : Option ℕ) (fails : Bool) (time : Result ℕ TimeRefusal) (limit : ℕ) (others : List Found) (r : ℕ → Reply) →
    reply.Listed limit others ≡ (tablet_standing d (if held then refusal_answer why else timed_answer lease end fails false time r)).reply → (now : ℕ) × (reply.Listed limit others ≡ r now)
up_listed (Some n) held why lease end fails time limit others r is = cc
up_listed None true why lease end fails time limit others r is = cc
up_listed None false why lease end fails time limit others r is = timed_listed lease end fails time limit others r is

-- what a read at 10 of the document may have to ask about
abbrev asked_about : ℕ → Intent → Bool
asked_about limit p = not (is_own None (txn_of p)) && nat_le p.wrote (max 10 limit) && list_any (related p.path) (doc ∷ [])

early : (limit : ℕ) → asked_about limit (record_of 5) ≡ true
early limit = let low : nat_le 5 (max 10 limit) ≡ true = le-leb 5 (max 10 limit) (omega arith) in rw low refl

none_listed : (ps : List Intent) (limit said : ℕ) → Member (record_of 5) ps → reply.Listed said [] ≡ listed None (doc ∷ []) 10 limit ps → ⊥
none_listed ps limit said m is =
    let some = filter (asked_about limit) ps in
    let nothing : founds ps some ≡ [] = cc in
    let found = member_map (λ (y : ℕ). let f : Found = record { txn = y; status = home_in y ps } in f) x _ (member_rising x (map txn_of some) (member_map txn_of (record_of 5) some (member_filter (asked_about limit) (record_of 5) ps m (early limit)))) in
    subst (λ (fs : List Found). Member (record { txn = x; status = home_in x ps }) fs) nothing found

read_ignores_record : (config : Config) (h : History) → Run config (lists 10 10 ∷ writes 5 ∷ h) → ⊥
read_ignores_record config h run =
    let lease = config.lease_us in
    let o = own (Tablet 0) (writes 5 ∷ h) in
    let served : Serves lease (Tablet 0) o (Some 0) (request.ListRead None (doc ∷ []) 10 8191 None) (reply.Listed 10 []) (Some 10) Nothing = serves_at config (lists 10 10) (writes 5 ∷ h) (lists 10 10 ∷ writes 5 ∷ h) run.1 (inl (refl, refl)) in
    let now = up_listed (down_since o) (holds (lease_end lease o) (has_given o) 0) (refusal.LeaseHeld (or_zero (lease_end lease o))) lease (lease_end lease o) served.fails (clock_time Floor (last_time o) 10 0) 10 []
    (λ t. listed None (doc ∷ []) 10 (local_limit None t 8191) (provisional o)) served.replied in
    none_listed (provisional o) (local_limit None now.0 8191) 10 (is_provisional 5 (own (Tablet 0) h)) now.1

-- ## a commit that is forgotten too early

-- someone is told that it is absent
abbrev absent : Entry
absent = at_status (Serve (Session 2) (request.AskFate x 20) (reply.FateIs fate.Absent) (Some 20) Nothing)

forgotten_too_early : (config : Config) (h : History) (number : ℕ) → Run config (absent ∷ commits 5 9 ∷ asks_to_commit number 5 5 h) → ⊥
forgotten_too_early config h number run =
    let before = commits 5 9 ∷ asks_to_commit number 5 5 h in
    let all = absent ∷ before in
    let begun = writes_begun config all h (writes 5) x run (inr (inr (inr (inr (inr (inr (inl (refl, refl)))))))) refl in
    let still : Begun before x = (begun.0, inr (inr (inr (inr (inr (inr begun.1))))), begun.2) in
    let committed = told_committed config all (commits 5 9) x 9 run (inr (inl refl)) (refl, refl) in
    let gone = told_absent config all before absent x 9 run (inl (refl, refl)) still (refl, refl) committed in
    forgotten_none config before x 9 0 (record_of 5) (run_until config all before absent run (inl (refl, refl))) gone (is_provisional 5 (own (Tablet 0) h)) refl

-- ## a write on top of a later version

-- the single write of the first id of session 2
abbrev y : ℕ
y = 36893488147419103233

abbrev single : Entry
single = at_tablet (Serve (Session 2) (request.Single y doc Delete 0 []) (reply.SingleDone 9) (Some 9) Took)

-- it read at 0, and a version at 9 was there; then it commits
write_over_later_version : (config : Config) (h : History) (number : ℕ) → Run config (commits 12 20 ∷ asks_to_commit number 12 12 (single ∷ h)) → ⊥
write_over_later_version config h number run =
    let all = commits 12 20 ∷ asks_to_commit number 12 12 (single ∷ h) in
    let counts : Member single (counting all) = counted_counting single (Tablet 0) all (counts_served single false (own (Tablet 0) all) (member_own single (Tablet 0) all refl (inr (inr (inr (inr (inr (inr (inl refl)))))))) tt) in
    let committed = told_committed config all (commits 12 20) x 20 run (inl refl) (refl, refl) in
    let order = in_commit_order config all (single ∷ h) single (writes 12) y x 9 20 doc doc run (inr (inr (inr (inr (inr (inl (refl, refl))))))) (inl refl) refl (refl, refl, refl, counts) (refl, refl, committed) (λ is. omega (arith, is)) refl in
    let low = order.1 in
    omega (arith, low)
