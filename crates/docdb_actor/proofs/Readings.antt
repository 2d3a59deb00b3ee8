-- A reading that is given serves every request.
use Rattle.std.proofs.Common.{ℕ, Bool, true, false, Some}
use Rattle.txn_types.specs.Machine.{ReadingGiven}

pub given : (takes : Bool) (reading : ℕ) → ReadingGiven takes (Some reading)
given true reading = tt
given false reading = tt
