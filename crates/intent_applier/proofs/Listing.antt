-- No pass asks a tablet to list for a read.
use Rattle.std.proofs.Common.{◌≡◌, ℕ, false, List, [], ◌∷◌, refl}
use Rattle.txn_data.specs.declared.found.Found.{Found}
use Rattle.txn_types.specs.PassProgram.{Counts, pass_over}
use Rattle.txn_types.specs.Program.{turn}
use Rattle.intent_applier.specs.Laws.{lists}
use Rattle.intent_applier.specs.Stage.{rest_at}
use Rattle.intent_applier.specs.declared.stage.Stage.{Stage}
use Rattle.intent_applier.specs.declared.stage.Stage.TheVariants as stage

lists_over : (k : ℕ) (n : Counts) (others : List Found) → lists (turn (pass_over k n others)) ≡ false
unfolding pass_over
lists_over k n [] = refl
lists_over k n (f ∷ others) = refl

pub rest_lists : (k : ℕ) (n : Counts) (others : List Found) (st : Stage) → lists (turn (rest_at k n others st)) ≡ false
rest_lists k n others stage.Listing = refl
rest_lists k n others stage.Asking = lists_over k n others
rest_lists k n others (stage.Applying f at) = refl
rest_lists k n others (stage.Noting f) = refl
rest_lists k n others (stage.Cleaning f) = refl
rest_lists k n others (stage.Refused by why) = refl
