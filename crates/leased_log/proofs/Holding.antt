-- What an action leaves in the store, by what became of its append.
use Rattle.std.proofs.Common.{◌≡◌, ℕ, List, subst, inl, inr}
use Rattle.std.specs.List.{AllByRecursion}
use Rattle.txn_data.specs.declared.append.Append.{Append}
use Rattle.txn_data.specs.declared.append.Append.TheVariants.{Nothing, Took, Failed}
use Rattle.txn_data.specs.declared.served.Served.{Served}
use Rattle.tablet_log.specs.Frames.{IsRecord}
use Rattle.leased_log.specs.Stands.{LogState, IsSame}
use Rattle.leased_log.specs.Decides.{records_for}
use Rattle.leased_log.specs.Acts.{HoldsAfter, ActsBy, Acts}
use Rattle.leased_log.specs.declared.decision.Decision.{Decision}

holds_by : (append : Append) (old new : LogState) (d : Decision) → ActsBy append old new d → AllByRecursion IsRecord (records_for d) → HoldsAfter append old.held new.held
holds_by Nothing old new d t spelled = t.held
holds_by Took old new d t spelled = record { records = records_for d; spelled = spelled; is = t.held }
holds_by Failed old new d t spelled = elim t.held [
  | inl is ↦ inl is
  | inr is ↦ inr (record { records = records_for d; spelled = spelled; is = is })
]

-- also where the store was made ready before
pub holds_after : (old middle new : LogState) (d : Decision) (s : Served) → IsSame old middle → Acts middle new d s → AllByRecursion IsRecord (records_for d)
    → HoldsAfter s.append old.held new.held
holds_after old middle new d s same acts spelled =
    subst (λ (held : List ℕ). HoldsAfter s.append held new.held) same.held (holds_by s.append middle new d acts.by spelled)

loads_by : (append : Append) (old new : LogState) (d : Decision) → ActsBy append old new d → new.loads ≡ old.loads
loads_by Nothing old new d t = t.loads
loads_by Took old new d t = t.loads
loads_by Failed old new d t = t.loads

-- an action makes no load
pub acts_loads : (old new : LogState) (d : Decision) (s : Served) → Acts old new d s → new.loads ≡ old.loads
acts_loads old new d s acts = loads_by s.append old new d acts.by

faults_by : (append : Append) (old new : LogState) (d : Decision) → ActsBy append old new d → append ≡ Nothing → new.faults ≡ old.faults
faults_by Nothing old new d t none = t.faults
faults_by Took old new d t none = cc
faults_by Failed old new d t none = cc

-- and counts no fault where it appends nothing
pub acts_faults : (old new : LogState) (d : Decision) (s : Served) → Acts old new d s → s.append ≡ Nothing → new.faults ≡ old.faults
acts_faults old new d s acts none = faults_by s.append old new d acts.by none
