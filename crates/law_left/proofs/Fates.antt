-- Whether a transaction is open at the end, by what a pass asked of it and by what is served for it.
use Rattle.std.proofs.Common.{◌≡◌, ℕ, Bool, true, false, Option, refl, sym, ◌∙◌, ap, subst, inl, inr, ◌⊎◌}
use Rattle.txn_data.specs.declared.actor.Actor.{Actor}
use Rattle.txn_data.specs.declared.actor.Actor.TheVariants.{Status}
use Rattle.txn_data.specs.declared.append.Append.{Append}
use Rattle.txn_data.specs.declared.append.Append.TheVariants.{Took}
use Rattle.txn_data.specs.declared.config.Config.{Config}
use Rattle.txn_data.specs.declared.fate.Fate.{Fate}
use Rattle.txn_data.specs.declared.fate.Fate.TheVariants as fate
use Rattle.txn_data.specs.declared.request.Request.TheVariants as request
use Rattle.txn_data.specs.declared.reply.Reply.TheVariants as reply
use Rattle.txn_data.specs.declared.event.Event.{Event}
use Rattle.txn_data.specs.declared.event.Event.TheVariants.{Serve}
use Rattle.txn_data.specs.declared.entry.Entry.{Entry}
use Rattle.txn_types.specs.Lists.{Member}
use Rattle.txn_types.specs.History.{History, own, was_logged}
use Rattle.txn_types.specs.Status.{Record, NoRecord, Pending, Committed, AbortedBy, record_of, fate_told}
use Rattle.txn_types.specs.Run.{Run}
use Rattle.law_machines.specs.Own.{StandsOver, ServesNext}
use Rattle.law_machines.proofs.Basics.{member_filter}
use Rattle.law_machines.proofs.Counted.{WasServed, counts_served, counted, counting_own, own_all}
use Rattle.law_machines.proofs.Owns.{serves_at, serves_own, stands_member, member_stands, member_own, run_until, stands_trans}
use Rattle.law_machines.proofs.Landed.{logged, standing_landed}
use Rattle.law_machines.proofs.Since.{IsLanding}
use Rattle.law_courses.specs.Course.{IsPart, entry_of}
use Rattle.law_courses.proofs.Parts.{part_trans}
use Rattle.law_owners.specs.Owner.{home_of, IsHomedAt}
use Rattle.law_owners.proofs.Runs.{requests_homed}
use Rattle.law_fates.specs.Laws.{Tells}
use Rattle.law_fates.proofs.Life.{Life, Fresh, Open, Finished, Dead, life_after, life, IsNotBefore, life_grows, RecordIs, resolve_dead}
use Rattle.law_fates.proofs.Told.{WasTaken, Told, Before, ByCommit, ByResolve, told_at}
use Rattle.law_fates.proofs.Runs.{home_log, home_lands, tells_home, record_before, committed_finished}
use Rattle.law_open_txns.specs.Transaction.{Begun, IsBeginOf}
use Rattle.law_carried_fates.specs.Laws.{AppliesAt, CleansOf}
use Rattle.law_carried_fates.proofs.Runs.{applies_committed}
use Rattle.law_cleaning.proofs.Runs.{cleans_begun}
use Rattle.law_forgetting.proofs.Notes.{begun_taken}
use Rattle.law_forgetting.proofs.Records.{begin_not_fresh}
use Rattle.txn_promises.specs.Left.{RestSince}
use Rattle.law_left.proofs.Rests.{PassEvent, pass_only, stands_in}
use Rattle.law_left.proofs.Since.{since_front, grows_front}

-- ## a transaction that is open

abbrev pub is_open_life : Life → Bool
is_open_life Open = true
is_open_life Fresh = false
is_open_life (Finished c) = false
is_open_life Dead = false

-- by all that took effect at its status tablet
abbrev pub is_open_at : Config → History → ℕ → Bool
is_open_at config h x = is_open_life (life x (home_log config x h))

abbrev pub is_pending_fate : Fate → Bool
is_pending_fate fate.Pending = true
is_pending_fate (fate.Committed c) = false
is_pending_fate fate.Aborted = false
is_pending_fate fate.Absent = false

told_open : (r : Record) (v : Life) → RecordIs r v → is_pending_fate (fate_told r) ≡ is_open_life v
told_open NoRecord Fresh is = refl
told_open NoRecord Open is = absurd is
told_open NoRecord (Finished c) is = refl
told_open NoRecord Dead is = refl
told_open (Pending own_priority) v is = sym (ap is_open_life is)
told_open (Committed c tablets) v is = sym (ap is_open_life is)
told_open (AbortedBy by) v is = sym (ap is_open_life is)

-- its record is Pending
abbrev pub IsPendingRecord : Record → Type 0
IsPendingRecord r = (priority : ℕ) × (r ≡ Pending priority)

open_record : (r : Record) (v : Life) → RecordIs r v → is_open_life v ≡ true → IsPendingRecord r
open_record NoRecord Fresh is up = cc
open_record NoRecord Open is up = absurd is
open_record NoRecord (Finished c) is up = cc
open_record NoRecord Dead is up = cc
open_record (Pending own_priority) v is up = (own_priority, refl)
open_record (Committed c tablets) v is up = let wrong : is_open_life v ≡ false = ap is_open_life is in cc
open_record (AbortedBy by) v is up = let wrong : is_open_life v ≡ false = ap is_open_life is in cc

pub record_pending : (config : Config) (h : History) (x : ℕ) → Run config h → is_open_at config h x ≡ true → IsPendingRecord (record_of x (own (Status (home_of config x)) h))
record_pending config h x run up = open_record (record_of x (own (Status (home_of config x)) h)) (life x (home_log config x h)) (record_before config x h run) up

-- ## passes leave it as it is

life_pass : (x : ℕ) (v : Life) (event : Event) → PassEvent event → life_after x v event ≡ v
life_pass x v (Serve from (request.Begin y isolation priority) r time append) pass = absurd pass
life_pass x v (Serve from (request.Resolve y by priority) r time append) pass = absurd pass
life_pass x v (Serve from (request.Commit y floor tablets) r time append) pass = absurd pass
life_pass x v (Serve from (request.Abort y) r time append) pass = absurd pass
life_pass x v event pass = refl

life_lands : (x : ℕ) (v : Life) → IsLanding (λ (l : History). life x l ≡ v) PassEvent
unfolding life
life_lands x v l e pass is = life_pass x (life x l) e.event pass ∙ is

life_same : (config : Config) (h low b : History) (x : ℕ) → Run config h → RestSince config low h → IsPart low b → IsPart b h → life x (home_log config x h) ≡ life x (home_log config x b)
life_same config h low b x run rest one two =
    let v = life x (home_log config x b) in
    since_front (λ (l : History). life x l ≡ v) PassEvent (life_lands x v) (λ from kept never. never) (Status (home_of config x)) b h two
    (λ e c stands at. pass_only config h low e c run rest stands (part_trans low b c one at)) refl

-- what a pass was told of it
asked_event : (config : Config) (b : History) (x t : ℕ) (m : Actor) (f : Fate) (time : Option ℕ) (append : Append) (v : Life) → RecordIs (record_of x (own (Status (home_of config x)) b)) v →
    Told (own (Status (home_of config x)) b) x (Serve m (request.AskFate x t) (reply.FateIs f) time append) f → is_open_life v ≡ is_pending_fate f
asked_event config b x t m f time append v is (Before told) = sym (told_open (record_of x (own (Status (home_of config x)) b)) v is) ∙ sym (ap is_pending_fate told)
asked_event config b x t m f time append v is (ByCommit c same commits taken) = absurd commits
asked_event config b x t m f time append v is (ByResolve same resolves taken) = absurd resolves

pub asked_open : (config : Config) (h low b : History) (j x t : ℕ) (m : Actor) (reading : Option ℕ) (f : Fate) (time : Option ℕ) (append : Append) → Run config h → RestSince config low h → IsPart low b →
    StandsOver (entry_of (Status j) reading (Serve m (request.AskFate x t) (reply.FateIs f) time append)) b h → is_open_at config h x ≡ is_pending_fate f
asked_open config h low b j x t m reading f time append run rest part stands =
    let e = entry_of (Status j) reading (Serve m (request.AskFate x t) (reply.FateIs f) time append) in
    let a = Status (home_of config x) in
    let until = run_until config h b e run stands in
    let home = tells_home config (Status j) x e.event f (requests_homed config h e run (stands_member e b h stands)) (refl, refl) in
    let served : ServesNext config.lease_us a (own a b) reading e.event = subst (λ (c : Actor). ServesNext config.lease_us c (own c b) reading e.event) home (serves_at config e b h run.1 stands) in
    ap is_open_life (life_same config h low b x run rest part (stands_in e b h stands))
    ∙ asked_event config b x t m f time append (life x (home_log config x b)) (record_before config x b until)
    (told_at config.lease_us (home_of config x) (own a b) reading x e.event f served (refl, refl))

-- ## what has ended is not open

pub later_life : (config : Config) (h b : History) (x : ℕ) → IsPart b h → IsNotBefore (life x (home_log config x b)) (life x (home_log config x h))
later_life config h b x part = life_grows x (home_log config x b) (home_log config x h) (grows_front (Status (home_of config x)) b h part)

finished_shut : (v w : Life) (c : ℕ) → IsNotBefore v w → v ≡ Finished c → is_open_life w ≡ false
finished_shut v w c step is = let end : w ≡ Finished c = subst (λ (z : Life). IsNotBefore z w) is step in ap is_open_life end

dead_shut : (v w : Life) → IsNotBefore v w → v ≡ Dead → is_open_life w ≡ false
dead_shut v w step is = let end : w ≡ Dead = subst (λ (z : Life). IsNotBefore z w) is step in ap is_open_life end

pub applied_shut : (config : Config) (h b : History) (e : Entry) (x c : ℕ) → Run config h → StandsOver e b h → AppliesAt x c e.event → is_open_at config h x ≡ false
applied_shut config h b e x c run stands applies =
    finished_shut (life x (home_log config x b)) (life x (home_log config x h)) c (later_life config h b x (stands_in e b h stands))
    (committed_finished config b x c (run_until config h b e run stands) (applies_committed config h b e x c run stands applies))

-- ## what was begun is not fresh

begin_home : (config : Config) (a : Actor) (x : ℕ) (event : Event) → IsHomedAt config a event → IsBeginOf x event → a ≡ Status (home_of config x)
begin_home config a x (Serve from (request.Begin y isolation priority) reply.Begun time append) homed is = homed.0.1 ∙ ap (λ (z : ℕ). Status (home_of config z)) is
begin_home config a x event homed is = absurd is

begin_served : (lease j : ℕ) (o : History) (reading : Option ℕ) (x : ℕ) (event : Event) → ServesNext lease (Status j) o reading event → IsBeginOf x event → WasServed event × (was_logged event ≡ true)
begin_served lease j o reading x (Serve from (request.Begin y isolation priority) reply.Begun time append) served is =
    let took = begun_taken lease j o reading y isolation priority time append served in
    subst (λ (b : Append). WasServed (Serve from (request.Begin y isolation priority) reply.Begun time b) × (was_logged (Serve from (request.Begin y isolation priority) reply.Begun time b) ≡ true)) (sym took) (tt, refl)
begin_served lease j o reading x event served is = absurd is

pub in_home_log : (config : Config) (x : ℕ) (b : History) (e : Entry) → Run config b → e.actor ≡ Status (home_of config x) → Member e b → WasServed e.event → was_logged e.event ≡ true → Member e (home_log config x b)
in_home_log config x b e run at m served logs =
    let a = Status (home_of config x) in
    let o = own a b in
    let counts : Member e (counted false o) = counts_served e false o (member_own e a b at m) served in
    subst (λ (l : History). Member e l) (standing_landed config.lease_us a o (serves_own config a b run.1) (own_all a b))
    (subst (λ (l : History). Member e (logged l)) (sym (counting_own a o (own_all a b))) (member_filter (λ (f : Entry). was_logged f.event) e (counted false o) counts logs))

pub begun_not_fresh : (config : Config) (x : ℕ) (b : History) → Run config b → Begun b x → life x (home_log config x b) ≡ Fresh → ⊥
begun_not_fresh config x b run begun fresh =
    let e = begun.0 in
    let home = begin_home config e.actor x e.event (requests_homed config b e run begun.1) begun.2 in
    let place = member_stands e b begun.1 in
    let served : ServesNext config.lease_us (Status (home_of config x)) (own e.actor place.0) e.reading e.event =
    subst (λ (c : Actor). ServesNext config.lease_us c (own e.actor place.0) e.reading e.event) home (serves_at config e place.0 b run.1 place.1) in
    let was = begin_served config.lease_us (home_of config x) (own e.actor place.0) e.reading x e.event served begun.2 in
    begin_not_fresh x (home_log config x b) e (in_home_log config x b e run home begun.1 was.0 was.1) begun.2 fresh

-- ## what is cleaned is not open

absent_shut : (r : Record) (v w : Life) → RecordIs r v → fate.Absent ≡ fate_told r → (v ≡ Fresh → ⊥) → IsNotBefore v w → is_open_life w ≡ false
absent_shut NoRecord Fresh w is told never step = absurd (never refl)
absent_shut NoRecord Open w is told never step = absurd is
absent_shut NoRecord (Finished c) w is told never step = ap is_open_life step
absent_shut NoRecord Dead w is told never step = ap is_open_life step
absent_shut (Pending own_priority) v w is told never step = cc
absent_shut (Committed c tablets) v w is told never step = cc
absent_shut (AbortedBy by) v w is told never step = cc

aborted_dead : (r : Record) (v : Life) → RecordIs r v → fate.Aborted ≡ fate_told r → v ≡ Dead
aborted_dead (AbortedBy by) v is told = is
aborted_dead NoRecord v is told = cc
aborted_dead (Pending own_priority) v is told = cc
aborted_dead (Committed c tablets) v is told = cc

taken_served : (event : Event) → WasTaken event → WasServed event × (was_logged event ≡ true)
taken_served (Serve from asked r time Took) is = (tt, refl)
taken_served event is = absurd is

ended_shut : (config : Config) (h b : History) (j : Entry) (x : ℕ) → Run config h → StandsOver j b h → Begun b x → Tells x j.event fate.Aborted ⊎ Tells x j.event fate.Absent → is_open_at config h x ≡ false
ended_shut config h b j x run stands begun tells =
    let a = Status (home_of config x) in
    let until = run_until config h b j run stands in
    let step = later_life config h b x (stands_in j b h stands) in
    let of_home : (f : Fate) → Tells x j.event f → (j.actor ≡ a) × Told (own a b) x j.event f = λ f told.
    let home = tells_home config j.actor x j.event f (requests_homed config h j run (stands_member j b h stands)) told in
    (home, told_at config.lease_us (home_of config x) (own a b) j.reading x j.event f (subst (λ (c : Actor). ServesNext config.lease_us c (own c b) j.reading j.event) home (serves_at config j b h run.1 stands)) told) in
    elim tells [
      | inl aborted ↦
          let t = of_home fate.Aborted aborted in
          elim t.1 [
            | Before told ↦ dead_shut (life x (home_log config x b)) (life x (home_log config x h)) step (aborted_dead (record_of x (own a b)) (life x (home_log config x b)) (record_before config x b until) told)
            | ByCommit c same commits taken ↦ cc
            | ByResolve same resolves taken ↦
                let s = taken_served j.event taken in
                let end : life x (home_log config x h) ≡ Dead = resolve_dead x (home_log config x h) j (home_lands config x h run) (in_home_log config x h j run t.0 (stands_member j b h stands) s.0 s.1) resolves in
                ap is_open_life end
          ]
      | inr absent ↦
          let t = of_home fate.Absent absent in
          elim t.1 [
            | Before told ↦ absent_shut (record_of x (own a b)) (life x (home_log config x b)) (life x (home_log config x h)) (record_before config x b until) told (begun_not_fresh config x b until begun) step
            | ByCommit c same commits taken ↦ cc
            | ByResolve same resolves taken ↦ cc
          ]
    ]

pub cleaned_shut : (config : Config) (h b : History) (e : Entry) (x : ℕ) → Run config h → StandsOver e b h → CleansOf x e.event → is_open_at config h x ≡ false
cleaned_shut config h b e x run stands cleans =
    let ended = cleans_begun config h b e x run stands cleans in
    ended_shut config h ended.1 ended.0 x run (in_all ended.0 ended.1 ended.2) ended.3 ended.4
  where
    in_all : (j : Entry) (c : History) → StandsOver j c b → StandsOver j c h
    in_all j c there = stands_trans j e c b h there stands
