-- What an abort that landed leaves, and what left no record of a transaction.
use Rattle.std.proofs.Common.{◌≡◌, ℕ, Bool, true, false, ◌||◌, [], ◌∷◌, Option, Some, None, nat_eq, refl, ap, subst, inl, inr, ◌⊎◌, if◌then◌else◌}
use Rattle.std.proofs.lemmas.Bool.{or_cases, and_parts}
use Rattle.std.specs.List.{list_all}
use Rattle.txn_data.specs.declared.actor.Actor.TheVariants.{Status}
use Rattle.txn_data.specs.declared.append.Append.{Append}
use Rattle.txn_data.specs.declared.request.Request.TheVariants as request
use Rattle.txn_data.specs.declared.reply.Reply.{Reply}
use Rattle.txn_data.specs.declared.reply.Reply.TheVariants as reply
use Rattle.txn_data.specs.declared.event.Event.{Event}
use Rattle.txn_data.specs.declared.event.Event.TheVariants.{Serve, Restarted}
use Rattle.txn_data.specs.declared.entry.Entry.{Entry}
use Rattle.txn_types.specs.Lists.{Member, has_number, or_zero}
use Rattle.txn_types.specs.History.{History}
use Rattle.txn_types.specs.Clock.{Answer, down_since}
use Rattle.txn_types.specs.Status.{Record, NoRecord, Pending, Committed, AbortedBy, record_of, record_after, record_over, noted, is_sure, sure_after, may_forget, status_up, status_standing}
use Rattle.txn_types.specs.Run.{Serves}
use Rattle.law_machines.proofs.Basics.{eq_true, eq_refl}
use Rattle.law_machines.proofs.Lands.{Lands}
use Rattle.law_fates.proofs.Table.{IsLogged, IsPending, IsCommitted, MayEnd, LandOk, logged_due}
use Rattle.law_fates.proofs.Life.{Life, Open, Dead, begun, finished, died, life_after, life, RecordIs, record_is}
use Rattle.law_closings.specs.Laws.{Closes}

-- an abort of the transaction's own
abbrev pub IsAbort : ℕ → Event → Type 0
IsAbort x (Serve from (request.Abort y) r time append) = y ≡ x
IsAbort x event = ⊥

-- ## after an abort it is dead, and has no record

dead_choice : (b : Bool) (v w : Life) → v ≡ Dead → w ≡ Dead → (if b then w else v) ≡ Dead
dead_choice true v w one two = two
dead_choice false v w one two = one

dead_event : (x : ℕ) (v : Life) (event : Event) → v ≡ Dead → life_after x v event ≡ Dead
dead_event x v (Serve from (request.Begin y isolation priority) r time append) is = dead_choice (nat_eq y x) v (begun v) is (ap begun is)
dead_event x v (Serve from (request.Resolve y by priority) r time append) is = dead_choice (nat_eq y x) v (died v) is (ap died is)
dead_event x v (Serve from (request.Commit y floor tablets) r (Some c) append) is = dead_choice (nat_eq y x) v (finished c v) is (ap (finished c) is)
dead_event x v (Serve from (request.Abort y) r time append) is = dead_choice (nat_eq y x) v (died v) is (ap died is)
dead_event x v event is = is

abort_died : (r : Record) (v : Life) → RecordIs r v → MayEnd r → died v ≡ Dead
abort_died (Pending own_priority) v is may = ap died is
abort_died (AbortedBy by) v is may = ap died is
abort_died NoRecord v is may = absurd may
abort_died (Committed c tablets) v is may = absurd may

abort_event : (x : ℕ) (l : History) (event : Event) → LandOk l event → RecordIs (record_over x l) (life x l) → IsAbort x event → (life_after x (life x l) event ≡ Dead) × (record_after x (record_over x l) event ≡ NoRecord)
abort_event x l (Serve from (request.Abort y) r time append) ok before is =
    let same : nat_eq y x ≡ true = subst (λ (z : ℕ). nat_eq y z ≡ true) is (eq_refl y) in
    let may : MayEnd (record_over x l) = subst (λ (z : ℕ). MayEnd (record_over z l)) is ok.0 in
    (rw same (abort_died (record_over x l) (life x l) before may), rw same refl)
abort_event x l event ok before is = absurd is

none_choice : (b : Bool) (q r : Record) → q ≡ NoRecord → (b ≡ true → r ≡ NoRecord) → (if b then r else q) ≡ NoRecord
none_choice true q r is new = new refl
none_choice false q r is new = is

dead_not_open : (v : Life) → v ≡ Dead → v ≡ Open → ⊥
dead_not_open v one two = cc

begin_none : (b : Bool) (q : Record) (priority : ℕ) (v : Life) → q ≡ NoRecord → v ≡ Dead → RecordIs (if b then Pending priority else q) (if b then begun v else v) → (if b then Pending priority else q) ≡ NoRecord
begin_none true q priority v is dead after = absurd (dead_not_open (begun v) (ap begun dead) after)
begin_none false q priority v is dead after = is

-- with one more landing
still_none : (x : ℕ) (l : History) (event : Event) → LandOk l event → RecordIs (record_after x (record_over x l) event) (life_after x (life x l) event) → life x l ≡ Dead → record_over x l ≡ NoRecord → record_after x (record_over x l) event ≡ NoRecord
still_none x l (Serve from (request.Begin y isolation priority) r time append) ok after dead none = begin_none (nat_eq y x) (record_over x l) priority (life x l) none dead after
still_none x l (Serve from (request.Resolve y by priority) r time append) ok after dead none =
    none_choice (nat_eq y x) (record_over x l) (AbortedBy by) none (λ same. absurd (subst (λ (q : Record). IsPending q) none (subst (λ (z : ℕ). IsPending (record_over z l)) (eq_true y x same) ok.0)))
still_none x l (Serve from (request.Commit y floor tablets) r (Some c) append) ok after dead none =
    none_choice (nat_eq y x) (record_over x l) (Committed c tablets) none (λ same. absurd (subst (λ (q : Record). IsPending q) none (subst (λ (z : ℕ). IsPending (record_over z l)) (eq_true y x same) ok.0.0)))
still_none x l (Serve from (request.Abort y) r time append) ok after dead none = none_choice (nat_eq y x) (record_over x l) NoRecord none (λ same. refl)
still_none x l (Serve from (request.Applied y tablet) r time append) ok after dead none = none_choice (nat_eq y x) (record_over x l) NoRecord none (λ same. refl)
still_none x l event ok after dead none = none

pub abort_leaves : (x : ℕ) (l : History) (e : Entry) → Lands LandOk l → Member e l → IsAbort x e.event → (life x l ≡ Dead) × (record_over x l ≡ NoRecord)
unfolding life record_over Lands
abort_leaves x [] e lands m is = absurd m
abort_leaves x (f ∷ l) e lands m is = elim m [
  | inl here ↦ abort_event x l f.event lands.1 (record_is x l lands.0) (subst (λ (g : Entry). IsAbort x g.event) here is)
  | inr more ↦
      let before = abort_leaves x l e lands.0 more is in
      (dead_event x (life x l) f.event before.0, still_none x l f.event lands.1 (record_is x (f ∷ l) lands) before.0 before.1)
]

-- ## what is dead and has no record was aborted by its own session

new_choice : (b : Bool) (q r : Record) → (r ≡ NoRecord → ⊥) → (if b then r else q) ≡ NoRecord → (b ≡ false) × (q ≡ NoRecord)
new_choice true q r never is = absurd (never is)
new_choice false q r never is = (refl, is)

life_choice : (b : Bool) (v w : Life) → b ≡ false → (if b then w else v) ≡ Dead → v ≡ Dead
life_choice true v w is dead = cc
life_choice false v w is dead = dead

applied_choice : (b : Bool) (x y : ℕ) (l : History) → nat_eq y x ≡ b → IsCommitted (record_over y l) → RecordIs (record_over x l) (life x l) → life x l ≡ Dead → (if b then NoRecord else record_over x l) ≡ NoRecord → record_over x l ≡ NoRecord
applied_choice true x y l same committed before dead none = absurd (committed_dead (record_over x l) (life x l) (subst (λ (z : ℕ). IsCommitted (record_over z l)) (eq_true y x same) committed) before dead)
  where
    committed_dead : (r : Record) (v : Life) → IsCommitted r → RecordIs r v → v ≡ Dead → ⊥
    committed_dead (Committed c tablets) v is before dead = cc
    committed_dead NoRecord v is before dead = is
    committed_dead (Pending own_priority) v is before dead = is
    committed_dead (AbortedBy by) v is before dead = is
applied_choice false x y l same committed before dead none = none

abort_choice : (b : Bool) (x y : ℕ) (l : History) → nat_eq y x ≡ b → (if b then NoRecord else record_over x l) ≡ NoRecord → (if b then died (life x l) else life x l) ≡ Dead → (y ≡ x) ⊎ ((record_over x l ≡ NoRecord) × (life x l ≡ Dead))
abort_choice true x y l same none dead = inl (eq_true y x same)
abort_choice false x y l same none dead = inr (none, dead)

gone_event : (x : ℕ) (l : History) (event : Event) → LandOk l event → RecordIs (record_over x l) (life x l) → record_after x (record_over x l) event ≡ NoRecord → life_after x (life x l) event ≡ Dead →
    IsAbort x event ⊎ ((record_over x l ≡ NoRecord) × (life x l ≡ Dead))
gone_event x l (Serve from (request.Begin y isolation priority) r time append) ok before none dead =
    let o = new_choice (nat_eq y x) (record_over x l) (Pending priority) (λ is. cc) none in inr (o.1, life_choice (nat_eq y x) (life x l) (begun (life x l)) o.0 dead)
gone_event x l (Serve from (request.Resolve y by priority) r time append) ok before none dead =
    let o = new_choice (nat_eq y x) (record_over x l) (AbortedBy by) (λ is. cc) none in inr (o.1, life_choice (nat_eq y x) (life x l) (died (life x l)) o.0 dead)
gone_event x l (Serve from (request.Commit y floor tablets) r (Some c) append) ok before none dead =
    let o = new_choice (nat_eq y x) (record_over x l) (Committed c tablets) (λ is. cc) none in inr (o.1, life_choice (nat_eq y x) (life x l) (finished c (life x l)) o.0 dead)
gone_event x l (Serve from (request.Abort y) r time append) ok before none dead = abort_choice (nat_eq y x) x y l refl none dead
gone_event x l (Serve from (request.Applied y tablet) r time append) ok before none dead = inr (applied_choice (nat_eq y x) x y l refl ok.0 before dead none, dead)
gone_event x l event ok before none dead = inr (none, dead)

pub gone_by_abort : (x : ℕ) (l : History) → Lands LandOk l → record_over x l ≡ NoRecord → life x l ≡ Dead → (e : Entry) × Member e l × IsAbort x e.event
unfolding Lands record_over life
gone_by_abort x [] lands none dead = cc
gone_by_abort x (f ∷ l) lands none dead = elim (gone_event x l f.event lands.1 (record_is x l lands.0) none dead) [
  | inl aborts ↦ (f, inl refl, aborts)
  | inr old ↦ let r = gone_by_abort x l lands.0 old.0 old.1 in (r.0, inr r.1, r.2)
]

-- ## what is forgotten was sure, and what is sure was told to its owner

sure_record : (o : History) (x k : ℕ) (sure : Bool) (r : Record) → may_forget sure (k ∷ noted x o) r ≡ true → sure ≡ true
sure_record o x k sure (Committed c []) may = cc
sure_record o x k sure (Committed c (t ∷ ts)) may = (and_parts sure (list_all (λ n. has_number n (k ∷ noted x o)) (t ∷ ts)) may).0
sure_record o x k sure NoRecord may = cc
sure_record o x k sure (Pending own_priority) may = cc
sure_record o x k sure (AbortedBy by) may = cc

up_of : (d : Option ℕ) (up : Answer) → IsLogged (status_standing d up).append → IsLogged up.append
up_of (Some n) up is = absurd is
up_of None up is = is

pub forgets_sure : (lease j : ℕ) (o : History) (reading : Option ℕ) (x k : ℕ) (r : Reply) (time : Option ℕ) (append : Append) → Serves lease (Status j) o reading (request.Applied x k) r time append → IsLogged append → is_sure x o ≡ true
forgets_sure lease j o reading x k r time append served is =
    sure_record o x k (is_sure x o) (record_of x o) (logged_due served.fails (may_forget (is_sure x o) (k ∷ noted x o) (record_of x o)) None reply.Noted
    (up_of (down_since o) (status_up lease o served.fails (or_zero reading) (request.Applied x k)) (subst (λ (a : Append). IsLogged a) served.logged is)))

sure_choice : (x y : ℕ) (b : Bool) → (nat_eq y x || b) ≡ true → (b ≡ true) ⊎ (y ≡ x)
sure_choice x y b is = elim (or_cases (nat_eq y x) b is) [ inl same ↦ inr (eq_true y x same) | inr old ↦ inl old ]

sure_event : (x : ℕ) (b : Bool) (event : Event) → sure_after x b event ≡ true → (b ≡ true) ⊎ Closes x event
sure_event x b (Serve from (request.Commit y floor tablets) (reply.Committed c) time append) is = elim (sure_choice x y b is) [ inl old ↦ inl old | inr same ↦ inr (same, tt) ]
sure_event x b (Serve from (request.Abort y) (reply.Committed c) time append) is = elim (sure_choice x y b is) [ inl old ↦ inl old | inr same ↦ inr (same, tt) ]
sure_event x b (Restarted from kept) is = cc
sure_event x b event is = inl is

pub sure_closed : (x : ℕ) (o : History) → is_sure x o ≡ true → (e : Entry) × Member e o × Closes x e.event
unfolding is_sure
sure_closed x [] is = cc
sure_closed x (e ∷ o) is = elim (sure_event x (is_sure x o) e.event is) [
  | inl old ↦ let r = sure_closed x o old in (r.0, inr r.1, r.2)
  | inr new ↦ (e, inl refl, new)
]
