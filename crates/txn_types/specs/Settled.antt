-- What a tablet has left once all is done, and what the last pass over it was told.
use Rattle.std.specs.Prelude.{◌≡◌, ℕ, ◌<◌, List, [], ◌∷◌, Option, Some, None, if◌then◌else◌, map, length}
use Rattle.txn_data.specs.declared.actor.Actor.{Actor}
use Rattle.txn_data.specs.declared.actor.Actor.TheVariants.{Tablet, Status, Applier}
use Rattle.txn_data.specs.declared.config.Config.{Config}
use Rattle.txn_data.specs.declared.told.Told.{Told}
use Rattle.txn_data.specs.declared.told.Told.TheVariants as told
use Rattle.txn_data.specs.declared.event.Event.{Event}
use Rattle.txn_data.specs.declared.event.Event.TheVariants.{Tell}
use Rattle.txn_types.specs.Lists.{Member, or_else, rising}
use Rattle.txn_types.specs.History.{History, same_actor, own}
use Rattle.txn_types.specs.Tablet.{Intent, txn_of, provisional}
use Rattle.txn_types.specs.Status as status
use Rattle.txn_types.specs.Status.{record_of}

abbrev pub left_at : ℕ → History → List Intent
left_at k h = provisional (own (Tablet k) h)

-- each transaction with a provisional write at the tablet has the record Pending, and they are this many
pub record Settled (h : History) (k : ℕ) (left : ℕ) : Type 0 where
  pub pending : (p : Intent) → Member p (left_at k h) →
      (priority : ℕ) × (record_of p.meta.txn (own (Status p.meta.status) h) ≡ status.Pending priority)
  pub number : length (rising (map txn_of (left_at k h))) ≡ left

-- what a mover was told last
abbrev pub told_by : Event → Option Told
told_by (Tell number t) = Some t
told_by event = None

unfoldable pub last_told : Actor → History → Option Told
last_told a [] = None
last_told a (e ∷ h) = if same_actor e.actor a then or_else (told_by e.event) (last_told a h) else last_told a h

-- where the last pass of its applier was told Passed, the tablet is settled with just the number that was told as left
abbrev pub SettledBy : History → ℕ → Option Told → Type 0
SettledBy h k (Some (told.Passed applied cleaned left)) = Settled h k left
SettledBy h k t = Unit {0}

-- so is each tablet of the cluster; of a history in which all of a plan is done, where what an applier was told last is what
-- its last pass was told
abbrev pub AllSettled : Config → History → Type 0
AllSettled config h = (k : ℕ) → k < config.tablets → SettledBy h k (last_told (Applier k) h)
