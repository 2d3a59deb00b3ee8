-- What each line asks, and what each reply means for what is told.
use Rattle.std.specs.Prelude.{◌≡◌, Bool, true, false, ◌&&◌, Option, Some, ◌⊎◌}
use Rattle.txn_data.specs.declared.actor.Actor.{Actor}
use Rattle.txn_data.specs.declared.actor.Actor.TheVariants.{Tablet}
use Rattle.txn_data.specs.declared.command.Command.{Command}
use Rattle.txn_data.specs.declared.command.Command.TheVariants as command
use Rattle.txn_data.specs.declared.fate.Fate.TheVariants as fate
use Rattle.txn_data.specs.declared.request.Request.{Request}
use Rattle.txn_data.specs.declared.request.Request.TheVariants as request
use Rattle.txn_data.specs.declared.reply.Reply.{Reply}
use Rattle.txn_data.specs.declared.reply.Reply.TheVariants as reply
use Rattle.txn_data.specs.declared.refusal.Refusal.{Refusal}
use Rattle.txn_data.specs.declared.told.Told.{Told}
use Rattle.txn_data.specs.declared.told.Told.TheVariants as told
use Rattle.txn_data.specs.declared.told_refusal.ToldRefusal.{ToldRefusal}
use Rattle.txn_data.specs.declared.told_refusal.ToldRefusal.TheVariants as told_refusal
use Rattle.txn_types.specs.Program.{refusal_told}
use Rattle.txn_types.specs.Session.{Opened}
use Rattle.txn_types.specs.Reads.{open_txn}
use Rattle.txn_promises.specs.Lines.{is_begin, is_write, is_abort_line, is_read, is_single, is_pass, is_restart, is_abort}

abbrev pub IsTablet : Actor → Type 0
IsTablet (Tablet k) = Unit {0}
IsTablet a = ⊥

-- the line asks this
abbrev pub IsAsked : Option Command → Option Opened → Actor → Request → Type 0
IsAsked line opened to (request.ListRead own_txn paths t g limit) = is_read line ≡ true
IsAsked line opened to (request.Collect own_txn kind paths t window fates) = is_read line ≡ true
IsAsked line opened to (request.AskFate x t) = (is_read line ≡ true) ⊎ (is_pass line ≡ true)
IsAsked line opened to (request.ListWrite x path) = (is_write line ≡ true) ⊎ (is_single line ≡ true)
IsAsked line opened to (request.Resolve x by priority) = (is_write line ≡ true) ⊎ (is_single line ≡ true)
IsAsked line opened to (request.Write meta number path op read seen fates) = IsTablet to × (is_write line ≡ true) × (open_txn opened ≡ Some meta.txn)
IsAsked line opened to (request.Single x path op seen fates) = IsTablet to × (is_single line ≡ true)
IsAsked line opened to request.ListIntents = is_pass line ≡ true
IsAsked line opened to (request.Apply x at) = is_pass line ≡ true
IsAsked line opened to (request.Clean x) = is_pass line ≡ true
IsAsked line opened to (request.Applied x tablet) = is_pass line ≡ true
IsAsked line opened to (request.Begin x isolation priority) = is_begin line ≡ true
IsAsked line opened to (request.Commit x floor tablets) = (line ≡ Some command.Commit) × (open_txn opened ≡ Some x)
IsAsked line opened to (request.Abort x) = ((is_write line ≡ true) ⊎ (is_abort_line line ≡ true)) × (open_txn opened ≡ Some x)
IsAsked line opened to request.Restart = is_restart line ≡ true

-- a refusal after which a write has closed its transaction
abbrev pub shuts : ToldRefusal → Bool
shuts (told_refusal.Conflict other) = true
shuts (told_refusal.Overlap at) = true
shuts (told_refusal.LogFault a) = true
shuts w = false

abbrev pub Shut : Told → Type 0
Shut t = (w : ToldRefusal) × (t ≡ told.Refused w) × (shuts w ≡ true)

-- a refusal is told; one of an Abort that closes is not, and what is told closes
abbrev pub RefusalTold : Bool → Actor → Refusal → Told → Type 0
RefusalTold true to r t = Shut t
RefusalTold false to r t = t ≡ told.Refused (refusal_told to r)

abbrev pub NotRefused : Told → Type 0
NotRefused t = (w : ToldRefusal) → t ≡ told.Refused w → ⊥

-- what else an Abort is answered, where it closes or not
abbrev pub AbortMeans : Bool → Reply → Told → Type 0
AbortMeans true r t = Shut t
AbortMeans false reply.Ended t = NotRefused t
AbortMeans false (reply.Committed at) t = NotRefused t
AbortMeans false r t = Unit {0}

-- after a request that was refused only the Abort that closes is asked
abbrev pub Closes : Bool → Actor → Request → Type 0
Closes closing to asked = (is_abort asked && closing) ≡ true

-- what a reply means for what is told, where the line may close its transaction or not, and stops where it may not restart
abbrev pub Means : Bool → Type 0 → Actor → Request → Reply → Told → Type 0
Means closing Stops to asked (reply.Refused r) t = RefusalTold (is_abort asked && closing) to r t
Means closing Stops to (request.Resolve other by priority) (reply.FateIs fate.Pending) t = t ≡ told.Refused (told_refusal.Conflict other)
Means closing Stops to (request.Commit x floor tablets) (reply.AbortedBy by) t = t ≡ told.Refused (told_refusal.Aborted by)
Means closing Stops to (request.Commit x floor tablets) (reply.Committed at) t = NotRefused t
Means closing Stops to (request.Collect own_txn kind paths t0 (Some window) fates) (reply.Met at path) t = Stops → t ≡ told.Refused (told_refusal.Restart at path)
Means closing Stops to (request.Begin x isolation priority) reply.Begun t = NotRefused t
Means closing Stops to (request.Write meta number path op read seen fates) (reply.Written at) t = NotRefused t
Means closing Stops to (request.Single x path op seen fates) (reply.SingleDone at) t = NotRefused t
Means closing Stops to (request.Single x path op seen fates) r t = t ≡ told.Refused told_refusal.Memory
Means closing Stops to (request.Abort x) r t = AbortMeans closing r t
Means closing Stops to request.Restart (reply.Restarted kept) t = NotRefused t
Means closing Stops to asked r t = Unit {0}
