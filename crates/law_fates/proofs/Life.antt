-- What has become of a transaction, by what took effect at its status tablet; and its record goes with it.
use Rattle.std.proofs.Common.{◌≡◌, ℕ, Bool, true, false, [], ◌∷◌, Some, None, nat_eq, refl, sym, ◌∙◌, ap, subst, inl, inr, ◌⊎◌, if◌then◌else◌}
use Rattle.txn_data.specs.declared.request.Request.TheVariants as request
use Rattle.txn_data.specs.declared.event.Event.{Event}
use Rattle.txn_data.specs.declared.event.Event.TheVariants.{Serve}
use Rattle.txn_data.specs.declared.entry.Entry.{Entry}
use Rattle.txn_types.specs.Lists.{Member}
use Rattle.txn_types.specs.History.{History}
use Rattle.txn_types.specs.Status.{Record, NoRecord, Pending, Committed, AbortedBy, record_after, record_over}
use Rattle.law_machines.proofs.Basics.{eq_cases, eq_refl, eq_true}
use Rattle.law_machines.proofs.Lands.{Lands, Grows, Same, More}
use Rattle.law_owners.specs.Owner.{Uses, IsUnused}
use Rattle.law_fates.proofs.Table.{IsPending, IsCommitted, MayEnd, LandOk}

pub data Life : Type 0 where
  Fresh : Life
  Open : Life
  Finished : (at : ℕ) → Life
  Dead : Life

abbrev pub begun : Life → Life
begun Fresh = Open
begun v = v

abbrev pub finished : ℕ → Life → Life
finished c Open = Finished c
finished c v = v

abbrev pub died : Life → Life
died Open = Dead
died v = v

abbrev pub life_after : ℕ → Life → Event → Life
life_after x v (Serve from (request.Begin y isolation priority) r time append) = if nat_eq y x then begun v else v
life_after x v (Serve from (request.Resolve y by priority) r time append) = if nat_eq y x then died v else v
life_after x v (Serve from (request.Commit y floor tablets) r (Some c) append) = if nat_eq y x then finished c v else v
life_after x v (Serve from (request.Abort y) r time append) = if nat_eq y x then died v else v
life_after x v event = v

unfoldable pub life : ℕ → History → Life
life x [] = Fresh
life x (e ∷ l) = life_after x (life x l) e.event

-- ## it never goes back

abbrev pub IsNotBefore : Life → Life → Type 0
IsNotBefore Fresh v = Unit {0}
IsNotBefore Open Fresh = ⊥
IsNotBefore Open v = Unit {0}
IsNotBefore (Finished c) v = v ≡ Finished c
IsNotBefore Dead v = v ≡ Dead

not_before_same : (v : Life) → IsNotBefore v v
not_before_same Fresh = tt
not_before_same Open = tt
not_before_same (Finished c) = refl
not_before_same Dead = refl

not_before_begun : (v : Life) → IsNotBefore v (begun v)
not_before_begun Fresh = tt
not_before_begun Open = tt
not_before_begun (Finished c) = refl
not_before_begun Dead = refl

not_before_finished : (c : ℕ) (v : Life) → IsNotBefore v (finished c v)
not_before_finished c Fresh = tt
not_before_finished c Open = tt
not_before_finished c (Finished d) = refl
not_before_finished c Dead = refl

not_before_died : (v : Life) → IsNotBefore v (died v)
not_before_died Fresh = tt
not_before_died Open = tt
not_before_died (Finished c) = refl
not_before_died Dead = refl

not_before_choice : (b : Bool) (v w : Life) → IsNotBefore v w → IsNotBefore v (if b then w else v)
not_before_choice true v w is = is
not_before_choice false v w is = not_before_same v

life_step : (x : ℕ) (v : Life) (event : Event) → IsNotBefore v (life_after x v event)
life_step x v (Serve from (request.Begin y isolation priority) r time append) = not_before_choice (nat_eq y x) v (begun v) (not_before_begun v)
life_step x v (Serve from (request.Resolve y by priority) r time append) = not_before_choice (nat_eq y x) v (died v) (not_before_died v)
life_step x v (Serve from (request.Commit y floor tablets) r (Some c) append) = not_before_choice (nat_eq y x) v (finished c v) (not_before_finished c v)
life_step x v (Serve from (request.Abort y) r time append) = not_before_choice (nat_eq y x) v (died v) (not_before_died v)
life_step x v event = not_before_same v

not_before_trans : (u v w : Life) → IsNotBefore u v → IsNotBefore v w → IsNotBefore u w
not_before_trans Fresh v w one two = tt
not_before_trans Open Fresh w one two = absurd one
not_before_trans Open Open w one two = two
not_before_trans Open (Finished c) w one two = subst (λ (z : Life). IsNotBefore Open z) (sym two) tt
not_before_trans Open Dead w one two = subst (λ (z : Life). IsNotBefore Open z) (sym two) tt
not_before_trans (Finished c) v w one two = subst (λ (z : Life). IsNotBefore z w) one two
not_before_trans Dead v w one two = subst (λ (z : Life). IsNotBefore z w) one two

pub life_grows : (x : ℕ) (l k : History) → Grows l k → IsNotBefore (life x l) (life x k)
unfolding life
life_grows x l _ Same = not_before_same (life x l)
life_grows x l _ (More e k grows) = not_before_trans (life x l) (life x k) (life x (e ∷ k)) (life_grows x l k grows) (life_step x (life x k) e.event)

-- ## its record

abbrev pub RecordIs : Record → Life → Type 0
RecordIs NoRecord Open = ⊥
RecordIs NoRecord v = Unit {0}
RecordIs (Pending own) v = v ≡ Open
RecordIs (Committed c tablets) v = v ≡ Finished c
RecordIs (AbortedBy by) v = v ≡ Dead

unused_after : (x : ℕ) (event : Event) → (Uses x event → ⊥) → life_after x Fresh event ≡ Fresh
unused_after x (Serve from (request.Begin y isolation priority) r time append) none = elim (eq_cases y x) [
  | inl s ↦ absurd (none s.1)
  | inr s ↦ rw s.0 refl
]
unused_after x (Serve from (request.Resolve y by priority) r time append) none = elim (eq_cases y x) [ inl s ↦ rw s.0 refl | inr s ↦ rw s.0 refl ]
unused_after x (Serve from (request.Commit y floor tablets) r (Some c) append) none = elim (eq_cases y x) [ inl s ↦ rw s.0 refl | inr s ↦ rw s.0 refl ]
unused_after x (Serve from (request.Abort y) r time append) none = elim (eq_cases y x) [ inl s ↦ rw s.0 refl | inr s ↦ rw s.0 refl ]
unused_after x event none = refl

-- of what was not begun nothing has become
unused_fresh : (x : ℕ) (l : History) → IsUnused x l → life x l ≡ Fresh
unfolding life
unused_fresh x [] none = refl
unused_fresh x (e ∷ l) none =
    ap (λ (v : Life). life_after x v e.event) (unused_fresh x l (λ f m. none f (inr m))) ∙ unused_after x e.event (none e (inl refl))

pending_open : (r : Record) (v : Life) → RecordIs r v → IsPending r → v ≡ Open
pending_open (Pending own) v is p = is
pending_open NoRecord v is p = absurd p
pending_open (Committed c tablets) v is p = absurd p
pending_open (AbortedBy by) v is p = absurd p

ends_dead : (r : Record) (v : Life) → RecordIs r v → MayEnd r → died v ≡ Dead
ends_dead (Pending own) v is p = ap died is
ends_dead (AbortedBy by) v is p = ap died is
ends_dead NoRecord v is p = absurd p
ends_dead (Committed c tablets) v is p = absurd p

forgets : (r : Record) (v : Life) → RecordIs r v → IsCommitted r → RecordIs NoRecord v
forgets (Committed c tablets) v is p = subst (λ (z : Life). RecordIs NoRecord z) (sym is) tt
forgets (Pending own) v is p = absurd p
forgets (AbortedBy by) v is p = absurd p
forgets NoRecord v is p = absurd p

record_choice : (b : Bool) (r q : Record) (v w : Life) → RecordIs q v → (b ≡ true → RecordIs r w) → RecordIs (if b then r else q) (if b then w else v)
record_choice true r q v w old new = new refl
record_choice false r q v w old new = old

at_record : (x y : ℕ) (l : History) (P : Record → Type 0) → nat_eq y x ≡ true → P (record_over y l) → P (record_over x l)
at_record x y l P is p = subst (λ (z : ℕ). P (record_over z l)) (eq_true y x is) p

record_event : (x : ℕ) (l : History) (event : Event) → LandOk l event → RecordIs (record_over x l) (life x l) → RecordIs (record_after x (record_over x l) event) (life_after x (life x l) event)
record_event x l (Serve from (request.Begin y isolation priority) r time append) ok before =
    record_choice (nat_eq y x) (Pending priority) (record_over x l) (life x l) (begun (life x l)) before
    (λ is. ap begun (unused_fresh x l (subst (λ (z : ℕ). IsUnused z l) (eq_true y x is) ok.1)))
record_event x l (Serve from (request.Resolve y by priority) r time append) ok before =
    record_choice (nat_eq y x) (AbortedBy by) (record_over x l) (life x l) (died (life x l)) before
    (λ is. ap died (pending_open (record_over x l) (life x l) before (at_record x y l IsPending is ok.0)))
record_event x l (Serve from (request.Commit y floor tablets) r (Some c) append) ok before =
    record_choice (nat_eq y x) (Committed c tablets) (record_over x l) (life x l) (finished c (life x l)) before
    (λ is. ap (finished c) (pending_open (record_over x l) (life x l) before (at_record x y l IsPending is ok.0.0)))
record_event x l (Serve from (request.Commit y floor tablets) r None append) ok before = before
record_event x l (Serve from (request.Abort y) r time append) ok before =
    record_choice (nat_eq y x) NoRecord (record_over x l) (life x l) (died (life x l)) before
    (λ is. subst (λ (z : Life). RecordIs NoRecord z) (sym (ends_dead (record_over x l) (life x l) before (at_record x y l MayEnd is ok.0))) tt)
record_event x l (Serve from (request.Applied y tablet) r time append) ok before =
    forget_choice (nat_eq y x) (λ is. forgets (record_over x l) (life x l) before (at_record x y l IsCommitted is ok.0))
  where
    forget_choice : (b : Bool) → (b ≡ true → RecordIs NoRecord (life x l)) → RecordIs (if b then NoRecord else record_over x l) (life x l)
    forget_choice true new = new refl
    forget_choice false new = before
record_event x l event ok before = before

pub record_is : (x : ℕ) (l : History) → Lands LandOk l → RecordIs (record_over x l) (life x l)
unfolding life record_over Lands
record_is x [] lands = tt
record_is x (e ∷ l) lands = record_event x l e.event lands.1 (record_is x l lands.0)

-- ## its commit

abbrev pub Commits : ℕ → ℕ → Event → Type 0
Commits x c (Serve from (request.Commit y floor tablets) r (Some d) append) = (y ≡ x) × (d ≡ c)
Commits x c event = ⊥

commit_event : (x c : ℕ) (l : History) (event : Event) → LandOk l event → RecordIs (record_over x l) (life x l) → Commits x c event → life_after x (life x l) event ≡ Finished c
commit_event x c l (Serve from (request.Commit y floor tablets) r (Some d) append) ok before is =
    let same : nat_eq y x ≡ true = subst (λ (z : ℕ). nat_eq y z ≡ true) is.0 (eq_refl y) in
    let is_open : life x l ≡ Open = pending_open (record_over x l) (life x l) before (at_record x y l IsPending same ok.0.0) in
    rw same (ap (finished d) is_open ∙ ap Finished is.1)
commit_event x c l event ok before is = absurd is

finished_stays : (x c : ℕ) (v w : Life) → IsNotBefore v w → v ≡ Finished c → w ≡ Finished c
finished_stays x c v w step is = subst (λ (z : Life). IsNotBefore z w) is step

-- a commit that took effect finished it
pub commit_finished : (x c : ℕ) (l : History) (e : Entry) → Lands LandOk l → Member e l → Commits x c e.event → life x l ≡ Finished c
unfolding life Lands
commit_finished x c [] e lands m is = absurd m
commit_finished x c (f ∷ l) e lands m is = elim m [
  | inl here ↦ commit_event x c l f.event lands.1 (record_is x l lands.0) (subst (λ (g : Entry). Commits x c g.event) here is)
  | inr more ↦ finished_stays x c (life x l) (life_after x (life x l) f.event) (life_step x (life x l) f.event) (commit_finished x c l e lands.0 more is)
]

begun_not : (c : ℕ) (v : Life) → begun v ≡ Finished c → v ≡ Finished c
begun_not c Fresh is = cc
begun_not c Open is = cc
begun_not c (Finished d) is = is
begun_not c Dead is = cc

died_not : (c : ℕ) (v : Life) → died v ≡ Finished c → v ≡ Finished c
died_not c Fresh is = cc
died_not c Open is = cc
died_not c (Finished d) is = is
died_not c Dead is = cc

finished_by : (c d : ℕ) (v : Life) → finished d v ≡ Finished c → (v ≡ Finished c) ⊎ (d ≡ c)
finished_by c d Fresh is = cc
finished_by c d Open is = let e : d ≡ c = cc in inr e
finished_by c d (Finished f) is = inl is
finished_by c d Dead is = cc

not_choice : (b : Bool) (c : ℕ) (v w : Life) → (w ≡ Finished c → v ≡ Finished c) → (if b then w else v) ≡ Finished c → v ≡ Finished c
not_choice true c v w back is = back is
not_choice false c v w back is = is

commit_choice : (b : Bool) (x y c d : ℕ) (v : Life) → nat_eq y x ≡ b → (if b then finished d v else v) ≡ Finished c → (v ≡ Finished c) ⊎ ((y ≡ x) × (d ≡ c))
commit_choice true x y c d v same is = elim (finished_by c d v is) [ inl old ↦ inl old | inr new ↦ inr (eq_true y x same, new) ]
commit_choice false x y c d v same is = inl is

finished_event : (x c : ℕ) (v : Life) (event : Event) → life_after x v event ≡ Finished c → (v ≡ Finished c) ⊎ Commits x c event
finished_event x c v (Serve from (request.Begin y isolation priority) r time append) is = inl (not_choice (nat_eq y x) c v (begun v) (begun_not c v) is)
finished_event x c v (Serve from (request.Resolve y by priority) r time append) is = inl (not_choice (nat_eq y x) c v (died v) (died_not c v) is)
finished_event x c v (Serve from (request.Commit y floor tablets) r (Some d) append) is = commit_choice (nat_eq y x) x y c d v refl is
finished_event x c v (Serve from (request.Abort y) r time append) is = inl (not_choice (nat_eq y x) c v (died v) (died_not c v) is)
finished_event x c v event is = inl is

-- and what is finished was finished by one
pub finished_commit : (x c : ℕ) (l : History) → life x l ≡ Finished c → (e : Entry) × Member e l × Commits x c e.event
unfolding life
finished_commit x c [] is = cc
finished_commit x c (f ∷ l) is = elim (finished_event x c (life x l) f.event is) [
  | inl old ↦ let r = finished_commit x c l old in (r.0, inr r.1, r.2)
  | inr new ↦ (f, inl refl, new)
]

-- a Resolve that took effect ended it
abbrev pub IsResolve : ℕ → Event → Type 0
IsResolve x (Serve from (request.Resolve y by priority) r time append) = y ≡ x
IsResolve x event = ⊥

resolve_event : (x : ℕ) (l : History) (event : Event) → LandOk l event → RecordIs (record_over x l) (life x l) → IsResolve x event → life_after x (life x l) event ≡ Dead
resolve_event x l (Serve from (request.Resolve y by priority) r time append) ok before is =
    let same : nat_eq y x ≡ true = subst (λ (z : ℕ). nat_eq y z ≡ true) is (eq_refl y) in
    let is_open : life x l ≡ Open = pending_open (record_over x l) (life x l) before (at_record x y l IsPending same ok.0) in
    rw same (ap died is_open)
resolve_event x l event ok before is = absurd is

pub dead_stays : (v w : Life) → IsNotBefore v w → v ≡ Dead → w ≡ Dead
dead_stays v w step is = subst (λ (z : Life). IsNotBefore z w) is step

pub resolve_dead : (x : ℕ) (l : History) (e : Entry) → Lands LandOk l → Member e l → IsResolve x e.event → life x l ≡ Dead
unfolding life Lands
resolve_dead x [] e lands m is = absurd m
resolve_dead x (f ∷ l) e lands m is = elim m [
  | inl here ↦ resolve_event x l f.event lands.1 (record_is x l lands.0) (subst (λ (g : Entry). IsResolve x g.event) here is)
  | inr more ↦ dead_stays (life x l) (life_after x (life x l) f.event) (life_step x (life x l) f.event) (resolve_dead x l e lands.0 more is)
]
