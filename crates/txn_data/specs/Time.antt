-- Which requests take a reading of the clock.
use Rattle.std.specs.Prelude.{Bool, true, false}
use Rattle.txn_data.specs.declared.request.Request.{Request}
use Rattle.txn_data.specs.declared.request.Request.TheVariants.{Write, Single, ListRead, Apply, AskFate, Commit}

abbrev pub takes_time : Request → Bool
takes_time (Write _ _ _ _ _ _ _) = true
takes_time (Single _ _ _ _ _) = true
takes_time (ListRead _ _ _ _ _) = true
takes_time (Apply _ _) = true
takes_time (AskFate _ _) = true
takes_time (Commit _ _ _) = true
takes_time _ = false
