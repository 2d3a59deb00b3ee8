-- A program asks about transactions at their own status tablets, whatever it hears; and it uses the id that it may use once.
use Rattle.std.proofs.Common.{◌≡◌, ℕ, Option, Some, None, refl, sym, subst}
use Rattle.txn_data.specs.declared.actor.Actor.{Actor}
use Rattle.txn_data.specs.declared.config.Config.{Config}
use Rattle.txn_data.specs.declared.request.Request.{Request}
use Rattle.txn_data.specs.declared.request.Request.TheVariants as request
use Rattle.txn_data.specs.declared.reply.Reply.{Reply}
use Rattle.txn_data.specs.declared.told.Told.{Told}
use Rattle.txn_data.specs.declared.told.Told.TheVariants as told
use Rattle.txn_data.specs.declared.told_refusal.ToldRefusal.TheVariants as told_refusal
use Rattle.txn_types.specs.Program.{Program, Done, Asks, Reads, then_do}
use Rattle.law_owners.specs.Owner.{IsHomed, IsOfTable}
use Rattle.law_owners.proofs.Replies.{ReplyHomed}

-- a command that went on is not told that a transaction is open
abbrev pub NotOpen : Told → Type 0
NotOpen (told.Refused told_refusal.TxnOpen) = ⊥
NotOpen t = Unit {0}

abbrev pub Spends : Option ℕ → Request → Type 0
Spends spare (request.Begin x isolation priority) = spare ≡ Some x
Spends spare (request.Single x path op seen fates) = spare ≡ Some x
Spends spare asked = Unit {0}

abbrev pub left : Option ℕ → Request → Option ℕ
left spare (request.Begin x isolation priority) = None
left spare (request.Single x path op seen fates) = None
left spare asked = spare

-- what it comes to has this, and all that it asks is homed
abbrev pub Homed : {T : Type 0} → (T → Type 0) → Config → Actor → Option ℕ → Program T → Type 0
Homed ends config m spare (Done t) = ends t
Homed ends config m spare (Asks to asked next) =
    IsHomed config m to asked × IsOfTable to asked × Spends spare asked × ((r : Reply) → ReplyHomed config r → Homed ends config m (left spare asked) (next r))
Homed ends config m spare (Reads given) = (reading : ℕ) → Homed ends config m spare (given reading)

-- where no id is left, none is
pub none_left : (asked : Request) → left None asked ≡ None
none_left (request.Begin x isolation priority) = refl
none_left (request.Single x path op seen fates) = refl
none_left asked = refl

-- a program that uses no id, and then another
pub then_homed : {A B : Type 0} (middle : A → Type 0) (ends : B → Type 0) (config : Config) (m : Actor) (p : Program A) (next : A → Program B) → Homed middle config m None p →
    ((a : A) → middle a → Homed ends config m None (next a)) → Homed ends config m None (then_do p next)
unfolding then_do
then_homed middle ends config m (Done a) next first rest = rest a first
then_homed {A} {B} middle ends config m (Asks to asked heard) next first rest = (
  first.0,
  first.1,
  first.2,
  λ r ok. subst (λ (o : Option ℕ). Homed ends config m o (then_do (heard r) next)) (sym (none_left asked))
      (then_homed middle ends config m (heard r) next (subst (λ (o : Option ℕ). Homed middle config m o (heard r)) (none_left asked) (first.3 r ok)) rest),
)
then_homed middle ends config m (Reads given) next first rest = λ reading. then_homed middle ends config m (given reading) next (first reading) rest
