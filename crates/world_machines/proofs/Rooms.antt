-- How many actions a machine made.
use Rattle.std.proofs.Common.{◌≡◌, ℕ, ◌<◌, ◌≤◌, ◌^◌, true, false, List, Some, None, length, nat_lt, get_or, refl, sym, ap, ◌∙◌, subst}
use Rattle.std.specs.List.{slice_get}
use Rattle.std.proofs.lemmas.Bool.{ltb-true, ltb-false}
use Rattle.std.proofs.lemmas.Option.{slice_get_read, slice_get_past}
use Rattle.txn_data.specs.declared.actor.Actor.{Actor}
use Rattle.txn_data.specs.declared.actor.Actor.TheVariants.{Tablet, Status}
use Rattle.txn_data.specs.declared.config.Config.{Config}
use Rattle.txn_types.specs.History.{History, own}
use Rattle.tablet_log.specs.Logged.{Store}
use Rattle.tablet_core.specs.Stands as tablet
use Rattle.status_tablet.specs.Stands as status
use Rattle.status_tablet.specs.Stands.{StatusState}
use Rattle.regular_records.specs.Holding.{Holds}
use Rattle.world_machines.specs.Machines.{MachinesState, StandsFor, tablet_actions, status_actions, actions_of, are_few, has_room}
use Rattle.world_machines.proofs.Moving.{Core}

-- what was read of a list, at its place of an equal one
at_place : {X : Type 0} (xs ys : List X) (k : ℕ) (x : X) → xs ≡ ys → k < length xs → x ≡ get_or xs k x → slice_get ys k ≡ Some x
at_place xs ys k x same within at = ap (λ zs. slice_get zs k) (sym same) ∙ slice_get_read xs (length xs) k x refl within at

-- ## a tablet

tablet_actions_at : {L : Type 0} (m : MachinesState L) (xs : List Core) (k : ℕ) (t : Core) → xs ≡ m.tablets → k < length xs → t ≡ get_or xs k t → actions_of m (Tablet k) ≡ Some t.log.actions
tablet_actions_at m xs k t same within at = ap tablet_actions (at_place xs m.tablets k t same within at)

pub tablet_room : {L : Type 0} (m : MachinesState L) (xs : List Core) (k : ℕ) (t : Core) → xs ≡ m.tablets → k < length xs → t ≡ get_or xs k t → has_room m (Tablet k) ≡ true → t.log.actions < 2 ^ 62
tablet_room m xs k t same within at has = ltb-true t.log.actions (2 ^ 62) (sym (ap are_few (tablet_actions_at m xs k t same within at)) ∙ has)

pub no_tablet : {L : Type 0} (m : MachinesState L) (xs : List Core) (k : ℕ) → xs ≡ m.tablets → false ≡ nat_lt k (length xs) → false ≡ has_room m (Tablet k)
no_tablet m xs k same past = sym (ap (λ t. are_few (tablet_actions t)) (ap (λ ys. slice_get ys k) (sym same) ∙ slice_get_past xs k (ltb-false k (length xs) (sym past))))

pub tablet_entries : {L : Type 0} (config : Config) (start : Actor → Store) (spare : List L) (h : History) (m : MachinesState L) (xs : List Core) (k : ℕ) (t : Core) (n : ℕ) → StandsFor config start spare h m → xs ≡ m.tablets → k < length xs → t ≡ get_or xs k t →
    ((bytes : List ℕ) (faults : ℕ) (g : History) → tablet.Stands Holds t bytes faults g → n ≡ length g) → nat_lt n (2 ^ 62) ≡ nat_lt (length (own (Tablet k) h)) (2 ^ 62)
tablet_entries config start spare h m xs k t n stands same within at counted =
    let is = stands.tablets.each k t (at_place xs m.tablets k t same within at) in
    ap (λ i. nat_lt i (2 ^ 62)) (counted (start (Tablet k)).held (start (Tablet k)).faults (own (Tablet k) h) is.stands)

-- ## a status tablet

status_actions_at : {L : Type 0} (m : MachinesState L) (xs : List StatusState) (j : ℕ) (t : StatusState) → xs ≡ m.statuses → j < length xs → t ≡ get_or xs j t → actions_of m (Status j) ≡ Some t.log.actions
status_actions_at m xs j t same within at = ap status_actions (at_place xs m.statuses j t same within at)

pub status_room : {L : Type 0} (m : MachinesState L) (xs : List StatusState) (j : ℕ) (t : StatusState) → xs ≡ m.statuses → j < length xs → t ≡ get_or xs j t → has_room m (Status j) ≡ true → t.log.actions < 2 ^ 62
status_room m xs j t same within at has = ltb-true t.log.actions (2 ^ 62) (sym (ap are_few (status_actions_at m xs j t same within at)) ∙ has)

pub status_has : {L : Type 0} (m : MachinesState L) (xs : List StatusState) (j : ℕ) (t : StatusState) (n : ℕ) → xs ≡ m.statuses → j < length xs → t ≡ get_or xs j t → n ≡ t.log.actions → nat_lt n (2 ^ 62) ≡ has_room m (Status j)
status_has m xs j t n same within at counted = ap (λ i. nat_lt i (2 ^ 62)) counted ∙ sym (ap are_few (status_actions_at m xs j t same within at))

pub no_status : {L : Type 0} (m : MachinesState L) (xs : List StatusState) (j : ℕ) → xs ≡ m.statuses → false ≡ nat_lt j (length xs) → false ≡ has_room m (Status j)
no_status m xs j same past = sym (ap (λ t. are_few (status_actions t)) (ap (λ ys. slice_get ys j) (sym same) ∙ slice_get_past xs j (ltb-false j (length xs) (sym past))))

pub status_entries : {L : Type 0} (config : Config) (start : Actor → Store) (spare : List L) (h : History) (m : MachinesState L) (xs : List StatusState) (j : ℕ) (t : StatusState) (n : ℕ) → StandsFor config start spare h m → xs ≡ m.statuses → j < length xs → t ≡ get_or xs j t →
    ((bytes : List ℕ) (faults : ℕ) (g : History) → status.Stands t bytes faults g → n ≡ length g) → nat_lt n (2 ^ 62) ≡ nat_lt (length (own (Status j) h)) (2 ^ 62)
status_entries config start spare h m xs j t n stands same within at counted =
    let is = stands.statuses.each j t (at_place xs m.statuses j t same within at) in
    ap (λ i. nat_lt i (2 ^ 62)) (counted (start (Status j)).held (start (Status j)).faults (own (Status j) h) is.stands)
