-- All stores are dealt to the machines.
use Rattle.std.proofs.Common.{◌≡◌, ℕ, ◌+◌, List, [], ◌∷◌, ◌++◌, drop, reverse, refl, sym, ap, ◌∙◌, subst}
use Rattle.std.specs.Prelude.{Result, Ok, is_ok, if◌then◌else◌}
use Rattle.std.proofs.lemmas.List.{reverse-reverse, drop-drop}
use Rattle.txn_data.specs.declared.actor.Actor.TheVariants.{Tablet, Status}
use Rattle.txn_data.specs.declared.config.Config.{Config}
use Rattle.tablet_log.specs.Logged.{Store}
use Rattle.status_tablet.specs.Stands.{StatusState}
use Rattle.world_machines.specs.Machines.{EachAt, MachinesState, TabletStands, StatusStands, StandsFor}
use Rattle.world_machines.specs.Stores.{store_at, store_or_none, stores_of, spare_of}
use Rattle.world_machines.proofs.Moving.{Core}
use Rattle.world_machines.proofs.Places.{get_drop, each_same}

-- the stores that are left, in the other order: of all `given` ones, after the tablets, and after the status tablets
pub dealt : {L U E : Type 0} (config : Config) (held : L → List ℕ) (faults : L → ℕ) (given all after_tablets after_statuses others none spare : List L) (ts : List Core) (ss : List StatusState) (r : Result U E) (u : U) →
    all ≡ reverse given → EachAt (λ k t. TabletStands config (store_at held faults (reverse all) k) [] k t) config.tablets ts → reverse after_tablets ≡ drop config.tablets (reverse all) →
    EachAt (λ j t. StatusStands config (store_at held faults (reverse after_tablets) j) [] j t) config.status ss → reverse after_statuses ≡ drop config.status (reverse after_tablets) →
    others ≡ reverse after_statuses → none ≡ [] → spare ≡ (if is_ok r then none ++ others else none) → r ≡ Ok u →
    StandsFor config (stores_of config held faults given) (spare_of config given) [] (record { tablets = ts; statuses = ss; spare = spare })
dealt config held faults given all after_tablets after_statuses others none spare ts ss r u turned tablets rest_of_tablets statuses rest_of_statuses back empty is fits =
    let forth : reverse all ≡ given = ap reverse turned ∙ reverse-reverse given in
    let behind : reverse after_tablets ≡ drop config.tablets given = rest_of_tablets ∙ ap (drop config.tablets) forth in
    record {
      tablets = subst (λ (xs : List _). EachAt (λ k t. TabletStands config (store_at held faults xs k) [] k t) config.tablets ts) forth tablets;
      statuses = each_same (λ j t. StatusStands config (store_at held faults (reverse after_tablets) j) [] j t) (λ j t. StatusStands config (stores_of config held faults given (Status j)) [] j t) config.status ss statuses
          (λ j t stands. subst (λ (s : Store). StatusStands config s [] j t) (ap (λ (xs : List _). store_at held faults xs j) behind ∙ ap (store_or_none held faults) (get_drop config.tablets given j)) stands);
      rest = is ∙ ap (λ (q : Result _ _). if is_ok q then none ++ others else none) fits ∙ ap (λ (xs : List _). xs ++ others) empty ∙ back
          ∙ rest_of_statuses ∙ ap (drop config.status) behind ∙ drop-drop config.status config.tablets given;
    }
