-- How a program runs over all that was served for it, one after another.
use Rattle.std.specs.Prelude.{◌≡◌, ℕ, Bool, true, ◌&&◌, List, [], ◌∷◌, ◌⊎◌}
use Rattle.txn_data.specs.declared.actor.Actor.{Actor}
use Rattle.txn_data.specs.declared.refusal.Refusal.TheVariants as refusal
use Rattle.txn_data.specs.declared.reply.Reply.TheVariants as reply
use Rattle.txn_data.specs.declared.request.Request.TheVariants as request
use Rattle.txn_data.specs.declared.told.Told.{Told}
use Rattle.txn_data.specs.declared.told.Told.TheVariants as told
use Rattle.txn_data.specs.declared.told_refusal.ToldRefusal.TheVariants as told_refusal
use Rattle.txn_types.specs.Program.{Program, Done, Asks, Reads}
use Rattle.txn_types.specs.Run.{may_lose_after}
use Rattle.txn_types.specs.Cause.{ServedAt}

-- nothing more was served, and out of memory is told, which it still may be
abbrev pub Lost : Bool → List ServedAt → Told → Type 0
Lost lose ss end = (lose ≡ true) × (ss ≡ []) × (end ≡ told.Refused told_refusal.Memory)

-- Program p of mover m came to `end`, and just these were served for it, the oldest first. Each request was served, and its
-- reply heard; or it was a restart that was done; or it was not served, and out of memory was heard. At each point out of
-- memory may be told instead, until a reply was heard that settles the command.
unfoldable pub Ran : Actor → Bool → List ServedAt → Program Told → Told → Type 0
Ran m lose ss (Done t) end = ((ss ≡ []) × (t ≡ end)) ⊎ Lost lose ss end
Ran m lose ss (Asks to asked next) end =
    ((s : ServedAt) × (rest : List ServedAt) × (ss ≡ s ∷ rest) × (s.by ≡ to) × (s.asked ≡ asked)
    × Ran m (lose && may_lose_after m s.reply) rest (next s.reply) end)
    ⊎ ((asked ≡ request.Restart) × ((k : Bool) × Ran m (lose && may_lose_after m (reply.Restarted k)) ss (next (reply.Restarted k)) end))
    ⊎ Ran m (lose && may_lose_after m (reply.Refused refusal.Memory)) ss (next (reply.Refused refusal.Memory)) end
    ⊎ Lost lose ss end
Ran m lose ss (Reads given) end = ((n : ℕ) × Ran m lose ss (given n) end) ⊎ Lost lose ss end
