-- How what a machine made of a request is what `Machine` promises: a fact of each entry of its own, by what it replied.
use Rattle.std.proofs.Common.{ℕ, Option}
use Rattle.txn_data.specs.Time.{takes_time}
use Rattle.txn_data.specs.declared.actor.Actor.{Actor}
use Rattle.txn_data.specs.declared.append.Append.{Append}
use Rattle.txn_data.specs.declared.append.Append.TheVariants.{Nothing, Took, Failed}
use Rattle.txn_data.specs.declared.request.Request.{Request}
use Rattle.txn_data.specs.declared.reply.Reply.{Reply}
use Rattle.txn_data.specs.declared.reply.Reply.TheVariants as reply
use Rattle.txn_data.specs.declared.refusal.Refusal.TheVariants as refusal
use Rattle.txn_data.specs.declared.served.Served.{Served}
use Rattle.txn_data.specs.declared.event.Event.TheVariants.{Serve}
use Rattle.txn_types.specs.Run.{Serves}
use Rattle.txn_types.specs.Machine.{Standing, reading_used, Adds, Advances}
use Rattle.leased_log.specs.Decides.{IsTold}
use Rattle.leased_log.specs.Acts.{reply_by}

-- a reply that stands in a Serve
abbrev pub IsServed : Reply → Type 0
IsServed (reply.Restarted kept) = ⊥
IsServed (reply.Refused refusal.Memory) = ⊥
IsServed r = Unit {0}

pub served_told : (r : Reply) → IsTold r → IsServed r
served_told (reply.Restarted kept) told = told
served_told (reply.Refused refusal.Memory) told = told
served_told (reply.Refused _) told = tt
served_told _ told = tt

pub served_by : (append : Append) (r : Reply) → IsTold r → IsServed (reply_by append r)
served_by Failed r told = tt
served_by Nothing r told = served_told r told
served_by Took r told = served_told r told

-- the table allows a Serve with this reply, and the machine stands for it too
abbrev pub AddsServe : Standing → Standing → ℕ → Actor → Actor → Option ℕ → Request → Reply → Served → Type 0
AddsServe before after lease a from reading asked r s =
    Adds before after (λ h. Serves lease a h (reading_used (takes_time asked) reading) asked r s.time s.append)
    (record { actor = a; reading = reading_used (takes_time asked) reading; event = Serve from asked r s.time s.append })

pub advances_by : (before after : Standing) (lease : ℕ) (a from : Actor) (reading : Option ℕ) (asked : Request) (r : Reply) (time : Option ℕ) (append : Append) (copy : Reply) → IsServed r
    → AddsServe before after lease a from reading asked r (record { reply = r; copy = copy; time = time; append = append })
    → Advances before after lease a from reading asked r (record { reply = r; copy = copy; time = time; append = append })
advances_by before after lease a from reading asked (reply.Restarted kept) time append copy ok adds = absurd ok
advances_by before after lease a from reading asked (reply.Refused refusal.Memory) time append copy ok adds = absurd ok
advances_by before after lease a from reading asked (reply.Refused _) time append copy ok adds = adds
advances_by before after lease a from reading asked _ time append copy ok adds = adds
