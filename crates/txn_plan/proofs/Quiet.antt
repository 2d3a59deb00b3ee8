-- What wants no room goes on to want none, and no plan asks a tablet to list for a read.
use Rattle.std.proofs.Common.{◌≡◌, ℕ, Bool, true, false, List, [], ◌∷◌, refl}
use Rattle.txn_data.specs.declared.actor.Actor.{Actor}
use Rattle.txn_data.specs.declared.fate_of.FateOf.{FateOf}
use Rattle.txn_data.specs.declared.found.Found.{Found}
use Rattle.txn_data.specs.declared.meta.Meta.{Meta}
use Rattle.txn_data.specs.declared.reply.Reply.{Reply}
use Rattle.txn_data.specs.declared.reply.Reply.TheVariants as reply
use Rattle.txn_data.specs.declared.txn_step.TxnStep.{TxnStep}
use Rattle.txn_data.specs.declared.txn_step.TxnStep.TheVariants as step
use Rattle.txn_types.specs.Program.{heard, turn}
use Rattle.txn_types.specs.TxnProgram.{resolve_all, txn_program}
use Rattle.txn_plan.specs.Laws.{lists}
use Rattle.txn_plan.specs.Stage.{rest_at, takes_room}
use Rattle.txn_plan.specs.declared.stage.Stage.{Stage}
use Rattle.txn_plan.specs.declared.stage.Stage.TheVariants as stage

begun_quiet : (meta : Meta) (at : ℕ) (r : Reply) → takes_room (turn (heard (txn_program (step.Begin meta at)) r)) ≡ false
begun_quiet meta at reply.Begun = refl
begun_quiet meta at (reply.Refused why) = refl
begun_quiet meta at r = refl

ended_quiet : (meta : Meta) (r : Reply) → takes_room (turn (heard (txn_program (step.Abort meta)) r)) ≡ false
ended_quiet meta reply.Ended = refl
ended_quiet meta (reply.Committed at) = refl
ended_quiet meta (reply.Refused why) = refl
ended_quiet meta r = refl

asking_quiet : (s : TxnStep) (r : Reply) → takes_room (turn (txn_program s)) ≡ false → takes_room (turn (heard (txn_program s) r)) ≡ false
asking_quiet (step.Begin meta at) r e = begun_quiet meta at r
asking_quiet (step.Write meta number place op read seen) r e = cc
asking_quiet (step.Single meta place op seen) r e = cc
asking_quiet (step.Commit meta floor tablets) r e = cc
asking_quiet (step.Abort meta) r e = ended_quiet meta r

resolving_quiet : (s : TxnStep) (others : List Found) (fates : List FateOf) (r : Reply) → takes_room (turn (rest_at s others fates stage.Resolving)) ≡ false
    → takes_room (turn (heard (rest_at s others fates stage.Resolving) r)) ≡ false
unfolding resolve_all
resolving_quiet (step.Begin meta at) others fates r e = refl
resolving_quiet (step.Write meta number place op read seen) [] fates r e = cc
resolving_quiet (step.Write meta number place op read seen) (f ∷ others) fates r e = cc
resolving_quiet (step.Single meta place op seen) [] fates r e = cc
resolving_quiet (step.Single meta place op seen) (f ∷ others) fates r e = cc
resolving_quiet (step.Commit meta floor tablets) others fates r e = refl
resolving_quiet (step.Abort meta) others fates r e = refl

pub rest_quiet : (s : TxnStep) (others : List Found) (fates : List FateOf) (st : Stage) (r : Reply) → takes_room (turn (rest_at s others fates st)) ≡ false
    → takes_room (turn (heard (rest_at s others fates st) r)) ≡ false
rest_quiet s others fates stage.Asking r e = asking_quiet s r e
rest_quiet s others fates stage.Resolving r e = resolving_quiet s others fates r e
rest_quiet s others fates (stage.Aborting by why) r e = refl
rest_quiet s others fates (stage.Began at) r e = refl
rest_quiet s others fates (stage.Written at) r e = refl
rest_quiet s others fates (stage.Committed at) r e = refl
rest_quiet s others fates stage.Ended r e = refl
rest_quiet s others fates (stage.Aborted by) r e = refl
rest_quiet s others fates (stage.Refused by why) r e = refl

lists_resolving : (s : TxnStep) (others : List Found) (fates : List FateOf) → lists (turn (rest_at s others fates stage.Resolving)) ≡ false
unfolding resolve_all
lists_resolving (step.Begin meta at) others fates = refl
lists_resolving (step.Write meta number place op read seen) [] fates = refl
lists_resolving (step.Write meta number place op read seen) (f ∷ others) fates = refl
lists_resolving (step.Single meta place op seen) [] fates = refl
lists_resolving (step.Single meta place op seen) (f ∷ others) fates = refl
lists_resolving (step.Commit meta floor tablets) others fates = refl
lists_resolving (step.Abort meta) others fates = refl

lists_asking : (s : TxnStep) → lists (turn (txn_program s)) ≡ false
lists_asking (step.Begin meta at) = refl
lists_asking (step.Write meta number place op read seen) = refl
lists_asking (step.Single meta place op seen) = refl
lists_asking (step.Commit meta floor tablets) = refl
lists_asking (step.Abort meta) = refl

pub rest_lists : (s : TxnStep) (others : List Found) (fates : List FateOf) (st : Stage) → lists (turn (rest_at s others fates st)) ≡ false
rest_lists s others fates stage.Asking = lists_asking s
rest_lists s others fates stage.Resolving = lists_resolving s others fates
rest_lists s others fates (stage.Aborting by why) = refl
rest_lists s others fates (stage.Began at) = refl
rest_lists s others fates (stage.Written at) = refl
rest_lists s others fates (stage.Committed at) = refl
rest_lists s others fates stage.Ended = refl
rest_lists s others fates (stage.Aborted by) = refl
rest_lists s others fates (stage.Refused by why) = refl
