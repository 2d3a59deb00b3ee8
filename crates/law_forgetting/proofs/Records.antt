-- Records of a status tablet, by the entries that made them so.
use Rattle.std.proofs.Common.{◌≡◌, ℕ, Bool, true, false, List, [], ◌∷◌, Some, nat_eq, refl, ap, subst, inl, inr, ◌⊎◌, if◌then◌else◌}
use Rattle.txn_data.specs.declared.request.Request.TheVariants as request
use Rattle.txn_data.specs.declared.reply.Reply.TheVariants as reply
use Rattle.txn_data.specs.declared.event.Event.{Event}
use Rattle.txn_data.specs.declared.event.Event.TheVariants.{Serve}
use Rattle.txn_data.specs.declared.entry.Entry.{Entry}
use Rattle.txn_types.specs.Lists.{Member}
use Rattle.txn_types.specs.History.{History}
use Rattle.txn_types.specs.Status.{Record, NoRecord, Pending, Committed, AbortedBy, record_after, record_over}
use Rattle.law_machines.proofs.Basics.{eq_true, eq_refl}
use Rattle.law_machines.proofs.Lands.{Lands, Same, More}
use Rattle.law_carried_fates.specs.Laws.{NotesOf}
use Rattle.law_fates.proofs.Table.{LandOk, MayEnd}
use Rattle.law_fates.proofs.Life.{Life, Fresh, Open, Finished, Dead, begun, finished, died, life_after, life, RecordIs, record_is, IsNotBefore, life_grows}
use Rattle.law_open_txns.specs.Transaction.{IsBeginOf}
use Rattle.law_forgetting.specs.Laws.{CommitsWith}

-- ## what was committed is gone

abbrev Gone : ℕ → ℕ → History → Type 0
Gone x c l = (record_over x l ≡ NoRecord) × (life x l ≡ Finished c)

other_choice : (b : Bool) (r q : Record) → (r ≡ NoRecord → ⊥) → (if b then r else q) ≡ NoRecord → (b ≡ false) × (q ≡ NoRecord)
other_choice true r q never is = absurd (never is)
other_choice false r q never is = (refl, is)

life_choice : (b : Bool) (c : ℕ) (v w : Life) → b ≡ false → (if b then w else v) ≡ Finished c → v ≡ Finished c
life_choice true c v w is same = cc
life_choice false c v w is same = same

ended : (c : ℕ) (r : Record) (v : Life) → RecordIs r v → MayEnd r → died v ≡ Finished c → ⊥
ended c (Pending own) v is may same = let dead : died v ≡ Dead = ap died is in cc
ended c (AbortedBy by) v is may same = let dead : died v ≡ Dead = ap died is in cc
ended c NoRecord v is may same = absurd may
ended c (Committed d tablets) v is may same = absurd may

abort_choice : (b : Bool) (c x y : ℕ) (l : History) → nat_eq y x ≡ b → MayEnd (record_over y l) → RecordIs (record_over x l) (life x l) →
    (if b then NoRecord else record_over x l) ≡ NoRecord → (if b then died (life x l) else life x l) ≡ Finished c → Gone x c l
abort_choice true c x y l same may before gone is =
    absurd (ended c (record_over x l) (life x l) before (subst (λ (z : ℕ). MayEnd (record_over z l)) (eq_true y x same) may) is)
abort_choice false c x y l same may before gone is = (gone, is)

note_choice : (b : Bool) (c x y k : ℕ) (l : History) → nat_eq y x ≡ b → (if b then NoRecord else record_over x l) ≡ NoRecord → life x l ≡ Finished c → Gone x c l ⊎ ((t : ℕ) × (y ≡ x) × (k ≡ t))
note_choice true c x y k l same gone is = inr (k, eq_true y x same, refl)
note_choice false c x y k l same gone is = inl (gone, is)

gone_event : (x c : ℕ) (l : History) (event : Event) → LandOk l event → RecordIs (record_over x l) (life x l) → record_after x (record_over x l) event ≡ NoRecord → life_after x (life x l) event ≡ Finished c →
    Gone x c l ⊎ ((k : ℕ) × NotesOf x k event)
gone_event x c l (Serve from (request.Begin y isolation priority) r time append) ok before gone is =
    let o = other_choice (nat_eq y x) (Pending priority) (record_over x l) (λ never. cc) gone in inl (o.1, life_choice (nat_eq y x) c (life x l) (begun (life x l)) o.0 is)
gone_event x c l (Serve from (request.Resolve y by priority) r time append) ok before gone is =
    let o = other_choice (nat_eq y x) (AbortedBy by) (record_over x l) (λ never. cc) gone in inl (o.1, life_choice (nat_eq y x) c (life x l) (died (life x l)) o.0 is)
gone_event x c l (Serve from (request.Commit y floor tablets) r (Some d) append) ok before gone is =
    let o = other_choice (nat_eq y x) (Committed d tablets) (record_over x l) (λ never. cc) gone in inl (o.1, life_choice (nat_eq y x) c (life x l) (finished d (life x l)) o.0 is)
gone_event x c l (Serve from (request.Abort y) r time append) ok before gone is = inl (abort_choice (nat_eq y x) c x y l refl ok.0 before gone is)
gone_event x c l (Serve from (request.Applied y k) r time append) ok before gone is = elim (note_choice (nat_eq y x) c x y k l refl gone is) [
  | inl old ↦ inl old
  | inr new ↦ inr (new.0, (new.1, new.2))
]
gone_event x c l event ok before gone is = inl (gone, is)

-- an Applied that was logged forgot it
pub forgot_entry : (x c : ℕ) (l : History) → Lands LandOk l → record_over x l ≡ NoRecord → life x l ≡ Finished c → (e : Entry) × Member e l × ((k : ℕ) × NotesOf x k e.event)
unfolding Lands record_over life
forgot_entry x c [] lands gone is = cc
forgot_entry x c (e ∷ l) lands gone is = elim (gone_event x c l e.event lands.1 (record_is x l lands.0) gone is) [
  | inl old ↦ let r = forgot_entry x c l lands.0 old.0 old.1 in (r.0, inr r.1, r.2)
  | inr new ↦ (e, inl refl, new)
]

-- ## what committed it

made_choice : (b : Bool) (c : ℕ) (ts : List ℕ) (r q : Record) → (r ≡ Committed c ts → ⊥) → (if b then r else q) ≡ Committed c ts → q ≡ Committed c ts
made_choice true c ts r q never is = absurd (never is)
made_choice false c ts r q never is = is

commit_choice : (b : Bool) (x y c d : ℕ) (ts named : List ℕ) (q : Record) → nat_eq y x ≡ b → (if b then Committed d named else q) ≡ Committed c ts → (q ≡ Committed c ts) ⊎ ((y ≡ x) × (d ≡ c) × (named ≡ ts))
commit_choice true x y c d ts named q same is = let e1 : d ≡ c = cc in let e2 : named ≡ ts = cc in inr (eq_true y x same, e1, e2)
commit_choice false x y c d ts named q same is = inl is

made_event : (x c : ℕ) (ts : List ℕ) (q : Record) (event : Event) → record_after x q event ≡ Committed c ts → (q ≡ Committed c ts) ⊎ CommitsWith x c ts event
made_event x c ts q (Serve from (request.Begin y isolation priority) r time append) is = inl (made_choice (nat_eq y x) c ts (Pending priority) q (λ never. cc) is)
made_event x c ts q (Serve from (request.Resolve y by priority) r time append) is = inl (made_choice (nat_eq y x) c ts (AbortedBy by) q (λ never. cc) is)
made_event x c ts q (Serve from (request.Commit y floor tablets) r (Some d) append) is = commit_choice (nat_eq y x) x y c d ts tablets q refl is
made_event x c ts q (Serve from (request.Abort y) r time append) is = inl (made_choice (nat_eq y x) c ts NoRecord q (λ never. cc) is)
made_event x c ts q (Serve from (request.Applied y k) r time append) is = inl (made_choice (nat_eq y x) c ts NoRecord q (λ never. cc) is)
made_event x c ts q event is = inl is

pub record_commit : (x c : ℕ) (ts : List ℕ) (l : History) → record_over x l ≡ Committed c ts → (e : Entry) × Member e l × CommitsWith x c ts e.event
unfolding record_over
record_commit x c ts [] is = cc
record_commit x c ts (e ∷ l) is = elim (made_event x c ts (record_over x l) e.event is) [
  | inl old ↦ let r = record_commit x c ts l old in (r.0, inr r.1, r.2)
  | inr new ↦ (e, inl refl, new)
]

-- ## what was begun is not fresh

begun_not : (v : Life) → begun v ≡ Fresh → ⊥
begun_not Fresh is = cc
begun_not Open is = cc
begun_not (Finished c) is = cc
begun_not Dead is = cc

begin_event : (x : ℕ) (v : Life) (event : Event) → IsBeginOf x event → life_after x v event ≡ Fresh → ⊥
begin_event x v (Serve from (request.Begin y isolation priority) reply.Begun time append) is fresh =
    let same : nat_eq y x ≡ true = subst (λ (z : ℕ). nat_eq y z ≡ true) is (eq_refl y) in
    begun_not v (rw same at fresh)
begin_event x v event is fresh = absurd is

still_not : (v w : Life) → IsNotBefore v w → (v ≡ Fresh → ⊥) → w ≡ Fresh → ⊥
still_not Fresh w step never is = never refl
still_not Open w step never is = subst (λ (z : Life). IsNotBefore Open z) is step
still_not (Finished c) w step never is = cc
still_not Dead w step never is = cc

pub begin_not_fresh : (x : ℕ) (l : History) (e : Entry) → Member e l → IsBeginOf x e.event → life x l ≡ Fresh → ⊥
unfolding life
begin_not_fresh x [] e m is fresh = m
begin_not_fresh x (f ∷ l) e m is fresh = elim m [
  | inl here ↦ begin_event x (life x l) f.event (subst (λ (g : Entry). IsBeginOf x g.event) here is) fresh
  | inr more ↦ still_not (life x l) (life_after x (life x l) f.event) (life_grows x l (f ∷ l) (More f l Same)) (begin_not_fresh x l e more is) fresh
]
