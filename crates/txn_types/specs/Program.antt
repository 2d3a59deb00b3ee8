-- What a mover does, as a tree: what it asks, and what each reply leads to.
use Rattle.std.specs.Prelude.{ℕ, List, [], ◌∷◌, Option, Some, None}
use Rattle.txn_data.specs.declared.actor.Actor.{Actor}
use Rattle.txn_data.specs.declared.request.Request.{Request}
use Rattle.txn_data.specs.declared.reply.Reply.{Reply}
use Rattle.txn_data.specs.declared.refusal.Refusal.{Refusal}
use Rattle.txn_data.specs.declared.refusal.Refusal.TheVariants as refusal
use Rattle.txn_data.specs.declared.told_refusal.ToldRefusal.{ToldRefusal}
use Rattle.txn_data.specs.declared.told_refusal.ToldRefusal.TheVariants as told_refusal

-- it is done and has an answer; or it asks an actor and goes on with the reply; or it takes a reading of its clock
pub data Program (T : Type 0) : Type 0 where
  Done : (told : T) → Program T
  Asks : (to : Actor) (asked : Request) (heard : Reply → Program T) → Program T
  Reads : (given : ℕ → Program T) → Program T

-- one program after another
unfoldable pub then_do : {A B : Type 0} → Program A → (A → Program B) → Program B
then_do (Done a) next = next a
then_do (Asks to asked heard) next = Asks to asked (λ r. then_do (heard r) next)
then_do (Reads given) next = Reads (λ n. then_do (given n) next)

abbrev pub heard : {T : Type 0} → Program T → Reply → Program T
heard (Asks to asked next) r = next r
heard p r = p

-- what is left once these replies have come
unfoldable pub after_replies : {T : Type 0} → Program T → List Reply → Program T
after_replies p [] = p
after_replies p (r ∷ rs) = after_replies (heard p r) rs

-- what comes next
pub data Turn (T : Type 0) : Type 0 where
  Reading : Turn T
  Ask : (to : Actor) (asked : Request) → Turn T
  Tell : (told : T) → Turn T

abbrev pub turn : {T : Type 0} → Program T → Turn T
turn (Done told) = Tell told
turn (Asks to asked next) = Ask to asked
turn (Reads given) = Reading

-- what is left with this reading, or with none
abbrev pub with_reading : {T : Type 0} → Program T → Option ℕ → Program T
with_reading (Reads given) (Some reading) = given reading
with_reading p reading = p

-- what comes next with a reading where one is wanted and only there
abbrev pub turn_with : {T : Type 0} → Program T → Option ℕ → Turn T
turn_with (Reads given) (Some reading) = turn (given reading)
turn_with (Reads given) None = Reading
turn_with (Done told) None = Tell told
turn_with (Done told) (Some reading) = Reading
turn_with (Asks to asked next) None = Ask to asked
turn_with (Asks to asked next) (Some reading) = Reading

-- a refusal as it is told, with the actor that gave it
abbrev pub refusal_told : Actor → Refusal → ToldRefusal
refusal_told a (refusal.Conflict other) = told_refusal.Conflict other
refusal_told a (refusal.Overlap at) = told_refusal.Overlap at
refusal_told a (refusal.LeaseHeld until) = told_refusal.LeaseHeld a until
refusal_told a (refusal.ClockFull at) = told_refusal.ClockFull a at
refusal_told a (refusal.ClockRange reading) = told_refusal.ClockRange a reading
refusal_told a refusal.LogFault = told_refusal.LogFault a
refusal_told a (refusal.Down since) = told_refusal.Down a since
refusal_told a refusal.Memory = told_refusal.Memory
