-- Where the microseconds of all times of a run come from.
use Rattle.std.specs.Prelude.{◌≡◌, ℕ, List, ◌∷◌, Option, Some, None, ◌⊎◌}
use Rattle.hybrid_time.specs.Time.{micros_of}
use Rattle.txn_data.specs.declared.config.Config.{Config}
use Rattle.txn_data.specs.declared.fate.Fate.{Fate}
use Rattle.txn_data.specs.declared.fate.Fate.TheVariants as fate
use Rattle.txn_data.specs.declared.fate_of.FateOf.{FateOf}
use Rattle.txn_data.specs.declared.request.Request.{Request}
use Rattle.txn_data.specs.declared.request.Request.TheVariants as request
use Rattle.txn_data.specs.declared.refusal.Refusal.{Refusal}
use Rattle.txn_data.specs.declared.refusal.Refusal.TheVariants as refusal
use Rattle.txn_data.specs.declared.reply.Reply.{Reply}
use Rattle.txn_data.specs.declared.reply.Reply.TheVariants as reply
use Rattle.txn_data.specs.declared.told.Told.{Told}
use Rattle.txn_data.specs.declared.told.Told.TheVariants as told
use Rattle.txn_data.specs.declared.told_refusal.ToldRefusal.{ToldRefusal}
use Rattle.txn_data.specs.declared.told_refusal.ToldRefusal.TheVariants as told_refusal
use Rattle.txn_data.specs.declared.event.Event.{Event}
use Rattle.txn_data.specs.declared.event.Event.TheVariants.{Ask, Serve, Hear, Tell}
use Rattle.txn_data.specs.declared.entry.Entry.{Entry}
use Rattle.txn_types.specs.Lists.{Member}
use Rattle.txn_types.specs.History.{History}
use Rattle.txn_types.specs.Run.{Run}
use Rattle.law_machines.specs.Own.{StandsOver}

-- the microseconds of a time are 0, or a reading that one of the entries recorded
abbrev pub IsGrounded : History → ℕ → Type 0
IsGrounded h time = (micros_of time ≡ 0) ⊎ ((e : Entry) × Member e h × (e.reading ≡ Some (micros_of time)))

abbrev pub FateIsGrounded : History → Fate → Type 0
FateIsGrounded h (fate.Committed c) = IsGrounded h c
FateIsGrounded h told_fate = Unit {0}

abbrev pub FatesAreGrounded : History → List FateOf → Type 0
FatesAreGrounded h fates = (f : FateOf) → Member f fates → FateIsGrounded h f.fate

-- the times of a request, but for the end of a window and a limit
abbrev pub RequestIsGrounded : History → Request → Type 0
RequestIsGrounded h (request.Write meta number path op read seen fates) = IsGrounded h read × IsGrounded h seen × FatesAreGrounded h fates
RequestIsGrounded h (request.Single x path op seen fates) = IsGrounded h seen × FatesAreGrounded h fates
RequestIsGrounded h (request.ListRead own_txn paths t g limit) = IsGrounded h t
RequestIsGrounded h (request.Collect own_txn kind paths t window fates) = IsGrounded h t × FatesAreGrounded h fates
RequestIsGrounded h (request.Apply x at) = IsGrounded h at
RequestIsGrounded h (request.AskFate x t) = IsGrounded h t
RequestIsGrounded h (request.Commit x floor tablets) = IsGrounded h floor
RequestIsGrounded h asked = Unit {0}

-- the times of a refusal
abbrev pub RefusalIsGrounded : History → Refusal → Type 0
RefusalIsGrounded h (refusal.Overlap at) = IsGrounded h at
RefusalIsGrounded h (refusal.ClockFull at) = IsGrounded h at
RefusalIsGrounded h why = Unit {0}

-- the times of a reply, but for a limit
abbrev pub ReplyIsGrounded : History → Reply → Type 0
ReplyIsGrounded h (reply.Written at) = IsGrounded h at
ReplyIsGrounded h (reply.SingleDone at) = IsGrounded h at
ReplyIsGrounded h (reply.Met at path) = IsGrounded h at
ReplyIsGrounded h (reply.FateIs told_fate) = FateIsGrounded h told_fate
ReplyIsGrounded h (reply.Committed at) = IsGrounded h at
ReplyIsGrounded h (reply.Refused why) = RefusalIsGrounded h why
ReplyIsGrounded h r = Unit {0}

-- the times of a refusal that is told
abbrev pub ToldRefusalIsGrounded : History → ToldRefusal → Type 0
ToldRefusalIsGrounded h (told_refusal.Overlap at) = IsGrounded h at
ToldRefusalIsGrounded h (told_refusal.ClockFull actor at) = IsGrounded h at
ToldRefusalIsGrounded h (told_refusal.Restart at path) = IsGrounded h at
ToldRefusalIsGrounded h why = Unit {0}

-- the times that are told
abbrev pub ToldIsGrounded : History → Told → Type 0
ToldIsGrounded h (told.Began x at) = IsGrounded h at
ToldIsGrounded h (told.Written at) = IsGrounded h at
ToldIsGrounded h (told.Committed x at) = IsGrounded h at
ToldIsGrounded h (told.Values at restarts rows) = IsGrounded h at
ToldIsGrounded h (told.Refused why) = ToldRefusalIsGrounded h why
ToldIsGrounded h t = Unit {0}

abbrev pub TimeIsGrounded : History → Option ℕ → Type 0
TimeIsGrounded h (Some time) = IsGrounded h time
TimeIsGrounded h None = Unit {0}

-- each of these times in an event
abbrev pub EventIsGrounded : History → Event → Type 0
EventIsGrounded h (Ask to asked) = RequestIsGrounded h asked
EventIsGrounded h (Serve from asked r time append) = RequestIsGrounded h asked × ReplyIsGrounded h r × TimeIsGrounded h time
EventIsGrounded h (Hear from r) = ReplyIsGrounded h r
EventIsGrounded h (Tell number t) = ToldIsGrounded h t
EventIsGrounded h event = Unit {0}

-- in each entry they come from readings that were recorded up to then
abbrev pub TimesAreGrounded : Type 0
TimesAreGrounded = (config : Config) (h before : History) (e : Entry) → Run config h → StandsOver e before h → EventIsGrounded (e ∷ before) e.event
