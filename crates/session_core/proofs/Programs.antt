-- Programs with no reading, and one after another.
use Rattle.std.proofs.Common.{◌≡◌, Bool, true, false, Option, Some, None, refl}
use Rattle.txn_data.specs.declared.actor.Actor.{Actor}
use Rattle.txn_data.specs.declared.request.Request.{Request}
use Rattle.txn_types.specs.Lists.{or_else}
use Rattle.txn_types.specs.Program.{Program, Done, Asks, Reads, Ask, turn, turn_with, with_reading}
use Rattle.session_core.specs.Work.{is_asks}

-- ## with no reading

pub with_none : {T : Type 0} (p : Program T) → with_reading p None ≡ p
with_none (Done told) = refl
with_none (Asks to asked next) = refl
with_none (Reads given) = refl

pub turn_none : {T : Type 0} (p : Program T) → turn_with p None ≡ turn p
turn_none (Done told) = refl
turn_none (Asks to asked next) = refl
turn_none (Reads given) = refl

pub or_none : {A : Type 0} (x : Option A) → or_else x None ≡ x
or_none None = refl
or_none (Some a) = refl

-- ## what asks

pub asks_from : {T : Type 0} (p : Program T) (to : Actor) (request : Request) → turn p ≡ Ask to request → is_asks p ≡ true
asks_from (Done told) to request e = cc
asks_from (Asks by asked next) to request e = refl
asks_from (Reads given) to request e = cc

-- ## what may be lost

pub must_lose : (b t : Bool) → (b ≡ false → t ≡ false) → t ≡ true → b ≡ true
must_lose true t f e = refl
must_lose false t f e = cc (f refl, e)
