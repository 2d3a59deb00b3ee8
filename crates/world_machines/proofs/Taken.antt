-- A machine is opened on the store that stands last, where the stores stand in the other order.
use Rattle.std.proofs.Common.{◌≡◌, ℕ, ◌+◌, List, [], ◌∷◌, ◌++◌, Option, Some, None, length, drop, reverse, refl, sym, ap, ◌∙◌, subst}
use Rattle.std.specs.List.{slice_get}
use Rattle.std.proofs.lemmas.List.{reverse-append}
use Rattle.txn_data.specs.declared.config.Config.{Config}
use Rattle.txn_data.specs.declared.version.Version.{Version}
use Rattle.tablet_log.specs.Logged.{Store}
use Rattle.tablet_core.specs.Stands as tablet
use Rattle.status_tablet.specs.Stands as status
use Rattle.status_tablet.specs.Stands.{StatusState}
use Rattle.regular_records.specs.Holding.{Holds}
use Rattle.world_machines.specs.Machines.{TabletStands, StatusStands}
use Rattle.world_machines.specs.Stores.{store_at, store_of, store_or_none}
use Rattle.world_machines.proofs.Moving.{Core}
use Rattle.world_machines.proofs.Places.{drop_first, drop_next}

left_of : {L : Type 0} (given xs ys : List L) (l : L) (n : ℕ) → reverse xs ≡ drop n given → xs ≡ ys ++ l ∷ [] → drop n given ≡ l ∷ reverse ys
left_of given xs ys l n rest popped = sym rest ∙ ap reverse popped ∙ reverse-append ys (l ∷ [])

pub next_left : {L : Type 0} (given xs ys : List L) (l : L) (n : ℕ) → reverse xs ≡ drop n given → xs ≡ ys ++ l ∷ [] → reverse ys ≡ drop (n + 1) given
next_left given xs ys l n rest popped = sym (drop_next n given (reverse ys) l (left_of given xs ys l n rest popped))

store_taken : {L : Type 0} (held : L → List ℕ) (faults : L → ℕ) (given xs ys : List L) (l : L) (n : ℕ) → reverse xs ≡ drop n given → xs ≡ ys ++ l ∷ [] → store_at held faults given n ≡ store_of held faults l
store_taken held faults given xs ys l n rest popped = ap (store_or_none held faults) (drop_first n given (reverse ys) l (left_of given xs ys l n rest popped))

pub tablet_opened : {L : Type 0} (config : Config) (held : L → List ℕ) (faults : L → ℕ) (given xs ys : List L) (l : L) (n : ℕ) (t : Core) → reverse xs ≡ drop n given → xs ≡ ys ++ l ∷ [] → held l ≡ [] →
    t.tablet ≡ n → t.log.clock.lease ≡ config.lease_us → tablet.Stands Holds t [] (faults l) [] → TabletStands config (store_at held faults given n) [] n t
tablet_opened config held faults given xs ys l n t rest popped empty number lease stands =
    subst (λ (s : Store). TabletStands config s [] n t) (sym (store_taken held faults given xs ys l n rest popped))
    (record { number = number; lease = lease; stands = subst (λ bytes. tablet.Stands Holds t bytes (faults l) []) (sym empty) stands })

pub status_opened : {L : Type 0} (config : Config) (held : L → List ℕ) (faults : L → ℕ) (given xs ys : List L) (l : L) (n : ℕ) (t : StatusState) → reverse xs ≡ drop n given → xs ≡ ys ++ l ∷ [] → held l ≡ [] →
    t.status ≡ n → t.log.clock.lease ≡ config.lease_us → status.Stands t [] (faults l) [] → StatusStands config (store_at held faults given n) [] n t
status_opened config held faults given xs ys l n t rest popped empty number lease stands =
    subst (λ (s : Store). StatusStands config s [] n t) (sym (store_taken held faults given xs ys l n rest popped))
    (record { number = number; lease = lease; stands = subst (λ bytes. status.Stands t bytes (faults l) []) (sym empty) stands })
