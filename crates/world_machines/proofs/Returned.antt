-- The stores that the machines give back.
use Rattle.std.proofs.Common.{◌≡◌, ℕ, ◌+◌, ◌<◌, List, [], ◌∷◌, ◌++◌, Option, Some, None, length, drop, map, refl, sym, ap, ◌∙◌, subst, inl, inr, arith}
use Rattle.std.specs.List.{slice_get}
use Rattle.std.specs.Prelude.{Result, Ok, is_ok, if◌then◌else◌}
use Rattle.std.specs.Option.{option_map}
use Rattle.std.proofs.lemmas.List.{length-append, length-map, map-append, drop_at}
use Rattle.std.proofs.lemmas.Option.{slice_get-map}
use Rattle.txn_data.specs.declared.actor.Actor.{Actor}
use Rattle.txn_data.specs.declared.actor.Actor.TheVariants.{Tablet, Status}
use Rattle.txn_data.specs.declared.config.Config.{Config}
use Rattle.txn_types.specs.History.{History, own}
use Rattle.txn_types.specs.Run.{IsMachine}
use Rattle.tablet_log.specs.Logged.{Store, Logged, AllLogged}
use Rattle.status_tablet.specs.Stands.{StatusState}
use Rattle.world_machines.specs.Machines.{MachinesState, StandsFor}
use Rattle.world_machines.specs.Stores.{kept_by, store_of, store_at, store_or_none, stores_of, spare_of}
use Rattle.world_machines.proofs.Moving.{Core}
use Rattle.world_machines.proofs.Places.{get_within, get_left, get_right}

abbrev tablet_stores : List Core → List Store
tablet_stores ts = map (λ (t : Core). kept_by t.log) ts

abbrev status_stores : List StatusState → List Store
status_stores ss = map (λ (t : StatusState). kept_by t.log) ss

-- the stores of the machines came back so, and behind them the spare ones
pub record CameBack {L : Type 0} (held : L → List ℕ) (faults : L → ℕ) (m : MachinesState L) (ys xs : List L) : Type 0 where
  pub machines : map (store_of held faults) ys ≡ tablet_stores m.tablets ++ status_stores m.statuses
  pub all : xs ≡ ys ++ m.spare

-- the room was empty, then came the tablets' stores and those of the status tablets, and at last the spare ones
pub came_back : {L U E : Type 0} (held : L → List ℕ) (faults : L → ℕ) (m : MachinesState L) (room zs ys xs : List L) (r : Result U E) (u : U) → room ≡ [] →
    map (store_of held faults) zs ≡ map (store_of held faults) room ++ tablet_stores m.tablets → map (store_of held faults) ys ≡ map (store_of held faults) zs ++ status_stores m.statuses →
    xs ≡ (if is_ok r then ys ++ m.spare else ys) → r ≡ Ok u → CameBack held faults m ys xs
came_back held faults m room zs ys xs r u empty tablets statuses all fits = record {
  machines = statuses ∙ ap (λ (ss : List Store). ss ++ status_stores m.statuses) (tablets ∙ ap (λ (ls : List _). map (store_of held faults) ls ++ tablet_stores m.tablets) empty);
  all = all ∙ ap (λ (q : Result _ _). if is_ok q then ys ++ m.spare else ys) fits;
}

back_many : {L : Type 0} (held : L → List ℕ) (faults : L → ℕ) (m : MachinesState L) (ys xs : List L) → CameBack held faults m ys xs → length ys ≡ length m.tablets + length m.statuses
back_many held faults m ys xs back =
    sym (length-map ys (store_of held faults)) ∙ ap length back.machines ∙ length-append (tablet_stores m.tablets) (status_stores m.statuses)
    ∙ ap (λ n. n + length (status_stores m.statuses)) (length-map m.tablets (λ (t : Core). kept_by t.log)) ∙ ap (λ n. length m.tablets + n) (length-map m.statuses (λ (t : StatusState). kept_by t.log))

as_many : {L : Type 0} (config : Config) (start : Actor → Store) (spare : List L) (h : History) (held : L → List ℕ) (faults : L → ℕ) (m : MachinesState L) (ys xs : List L) → StandsFor config start spare h m → CameBack held faults m ys xs → length ys ≡ config.tablets + config.status
as_many config start spare h held faults m ys xs stands back =
    back_many held faults m ys xs back ∙ ap (λ n. n + length m.statuses) stands.tablets.as_many ∙ ap (λ n. config.tablets + n) stands.statuses.as_many

pub returned_many : {L : Type 0} (config : Config) (start : Actor → Store) (spare : List L) (h : History) (held : L → List ℕ) (faults : L → ℕ) (m : MachinesState L) (ys xs : List L) → StandsFor config start spare h m → CameBack held faults m ys xs → length xs ≡ config.tablets + config.status + length spare
returned_many config start spare h held faults m ys xs stands back =
    ap length back.all ∙ length-append ys m.spare ∙ ap (λ n. n + length m.spare) (as_many config start spare h held faults m ys xs stands back) ∙ ap (λ (zs : List _). config.tablets + config.status + length zs) stands.rest

pub returned_spare : {L : Type 0} (config : Config) (start : Actor → Store) (spare : List L) (h : History) (held : L → List ℕ) (faults : L → ℕ) (m : MachinesState L) (ys xs : List L) → StandsFor config start spare h m → CameBack held faults m ys xs → spare_of config xs ≡ spare
returned_spare config start spare h held faults m ys xs stands back =
    ap (drop (config.tablets + config.status)) back.all ∙ drop_at ys m.spare (config.tablets + config.status) (as_many config start spare h held faults m ys xs stands back) ∙ stands.rest

-- ## each store holds what its machine's log holds

found : {L : Type 0} (held : L → List ℕ) (faults : L → ℕ) (xs : List L) (n : ℕ) (s : Store) → slice_get (map (store_of held faults) xs) n ≡ Some s → store_at held faults xs n ≡ s
found held faults xs n s is = by (slice_get xs n) (sym (slice_get-map (store_of held faults) xs n) ∙ is)
  where
    by : (r : Option _) → option_map (store_of held faults) r ≡ Some s → store_or_none held faults r ≡ s
    by None is = absurd (let never : None ≡ Some s = is in cc)
    by (Some l) is = cc

stores_are : {L : Type 0} (held : L → List ℕ) (faults : L → ℕ) (m : MachinesState L) (ys xs : List L) → CameBack held faults m ys xs → map (store_of held faults) xs ≡ (tablet_stores m.tablets ++ status_stores m.statuses) ++ map (store_of held faults) m.spare
stores_are held faults m ys xs back =
    ap (map (store_of held faults)) back.all ∙ map-append (store_of held faults) ys m.spare ∙ ap (λ (zs : List Store). zs ++ map (store_of held faults) m.spare) back.machines

tablet_back : {L : Type 0} (held : L → List ℕ) (faults : L → ℕ) (m : MachinesState L) (ys xs : List L) (k : ℕ) (t : Core) → CameBack held faults m ys xs → slice_get m.tablets k ≡ Some t → store_at held faults xs k ≡ kept_by t.log
tablet_back held faults m ys xs k t back at =
    let mine : slice_get (tablet_stores m.tablets) k ≡ Some (kept_by t.log) = slice_get-map (λ (u : Core). kept_by u.log) m.tablets k ∙ ap (option_map (λ (u : Core). kept_by u.log)) at in
    found held faults xs k (kept_by t.log)
    (ap (λ (zs : List Store). slice_get zs k) (stores_are held faults m ys xs back)
    ∙ get_left (tablet_stores m.tablets ++ status_stores m.statuses) (map (store_of held faults) m.spare) k (kept_by t.log) (get_left (tablet_stores m.tablets) (status_stores m.statuses) k (kept_by t.log) mine))

status_back : {L : Type 0} (held : L → List ℕ) (faults : L → ℕ) (m : MachinesState L) (ys xs : List L) (n j : ℕ) (t : StatusState) → CameBack held faults m ys xs → length m.tablets ≡ n → slice_get m.statuses j ≡ Some t → store_at held faults xs (n + j) ≡ kept_by t.log
status_back held faults m ys xs n j t back many at =
    let mine : slice_get (status_stores m.statuses) j ≡ Some (kept_by t.log) = slice_get-map (λ (u : StatusState). kept_by u.log) m.statuses j ∙ ap (option_map (λ (u : StatusState). kept_by u.log)) at in
    let behind : slice_get (tablet_stores m.tablets ++ status_stores m.statuses) (n + j) ≡ Some (kept_by t.log) = get_right (tablet_stores m.tablets) (status_stores m.statuses) n j (length-map m.tablets (λ (u : Core). kept_by u.log) ∙ many) ∙ mine in
    found held faults xs (n + j) (kept_by t.log)
    (ap (λ (zs : List Store). slice_get zs (n + j)) (stores_are held faults m ys xs back)
    ∙ get_left (tablet_stores m.tablets ++ status_stores m.statuses) (map (store_of held faults) m.spare) (n + j) (kept_by t.log) behind)

pub returned_logged : {L : Type 0} (config : Config) (start : Actor → Store) (spare : List L) (h : History) (held : L → List ℕ) (faults : L → ℕ) (m : MachinesState L) (ys xs : List L) → StandsFor config start spare h m → CameBack held faults m ys xs →
    AllLogged config h start (stores_of config held faults xs)
returned_logged config start spare h held faults m ys xs stands back (Tablet k) there =
    let at = get_within m.tablets k (subst (λ n. k < n) (sym stands.tablets.as_many) there) in
    let is = stands.tablets.each k at.0 at.1 in
    subst (λ (s : Store). Logged config.lease_us (own (Tablet k) h) (start (Tablet k)) s) (sym (tablet_back held faults m ys xs k at.0 back at.1))
    (subst (λ lease. Logged lease (own (Tablet k) h) (start (Tablet k)) (kept_by at.0.log)) is.lease is.stands.log.logged)
returned_logged config start spare h held faults m ys xs stands back (Status j) there =
    let at = get_within m.statuses j (subst (λ n. j < n) (sym stands.statuses.as_many) there) in
    let is = stands.statuses.each j at.0 at.1 in
    subst (λ (s : Store). Logged config.lease_us (own (Status j) h) (start (Status j)) s) (sym (status_back held faults m ys xs config.tablets j at.0 back stands.tablets.as_many at.1))
    (subst (λ lease. Logged lease (own (Status j) h) (start (Status j)) (kept_by at.0.log)) is.lease is.stands.log.logged)
returned_logged config start spare h held faults m ys xs stands back a there = absurd there
