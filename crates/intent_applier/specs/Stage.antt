-- What is left of a pass at each stage.
use Rattle.std.specs.Prelude.{ℕ, Bool, true, false, List}
use Rattle.txn_data.specs.declared.actor.Actor.{Actor}
use Rattle.txn_data.specs.declared.found.Found.{Found}
use Rattle.txn_data.specs.declared.reply.Reply.{Reply}
use Rattle.txn_data.specs.declared.reply.Reply.TheVariants as reply
use Rattle.txn_data.specs.declared.told.Told.{Told}
use Rattle.txn_types.specs.Program.{Program, Turn, Ask, heard, refusal_told}
use Rattle.txn_types.specs.PassProgram.{Counts, apply_then, clean_then, pass_over, pass_program}
use Rattle.txn_types.specs.TxnProgram.{refused, lost}
use Rattle.intent_applier.specs.declared.stage.Stage.{Stage}
use Rattle.intent_applier.specs.declared.stage.Stage.TheVariants as stage

-- once the tablet has applied a transaction
abbrev pub noting : ℕ → Found → Program Told → Program Told
noting k f next = heard (apply_then k f 0 next) reply.AppliedHere

-- the program that is left at a stage, with these counts and these transactions not seen to yet
abbrev pub rest_at : ℕ → Counts → List Found → Stage → Program Told
rest_at k n others stage.Listing = pass_program k
rest_at k n others stage.Asking = pass_over k n others
rest_at k n others (stage.Applying f at) = apply_then k f at (pass_over k n others)
rest_at k n others (stage.Noting f) = noting k f (pass_over k n others)
rest_at k n others (stage.Cleaning f) = clean_then k f (pass_over k n others)
rest_at k n others (stage.Refused by why) = refused (refusal_told by why)

-- after a refusal, or a reply that is none to the request
abbrev pub refused_by : Actor → Reply → Program Told
refused_by by r = elim r [ reply.Refused why ↦ refused (refusal_told by why) | _ ↦ lost ]

-- a turn that asks
abbrev pub asks : Turn Told → Bool
asks (Ask to request) = true
asks _ = false
