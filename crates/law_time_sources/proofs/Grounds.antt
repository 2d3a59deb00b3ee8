-- What is grounded stays so, and the greater of two grounded times is grounded.
use Rattle.std.proofs.Common.{◌≡◌, ℕ, ◌<◌, ◌≤◌, max, Bool, true, false, List, [], ◌∷◌, ◌++◌, Option, Some, None, nat_eq, refl, sym, ◌∙◌, ap, subst, inl, inr, if◌then◌else◌, arith}
use Rattle.std.proofs.lemmas.Bool.{cases_lt}
use Rattle.hybrid_time.specs.Time.{micros_of, time_at}
use Rattle.txn_data.specs.declared.fate.Fate.{Fate}
use Rattle.txn_data.specs.declared.fate.Fate.TheVariants as fate
use Rattle.txn_data.specs.declared.fate_of.FateOf.{FateOf}
use Rattle.txn_data.specs.declared.request.Request.{Request}
use Rattle.txn_data.specs.declared.request.Request.TheVariants as request
use Rattle.txn_data.specs.declared.actor.Actor.{Actor}
use Rattle.txn_data.specs.declared.refusal.Refusal.{Refusal}
use Rattle.txn_data.specs.declared.refusal.Refusal.TheVariants as refusal
use Rattle.txn_data.specs.declared.told_refusal.ToldRefusal.{ToldRefusal}
use Rattle.txn_data.specs.declared.told_refusal.ToldRefusal.TheVariants as told_refusal
use Rattle.txn_data.specs.declared.reply.Reply.{Reply}
use Rattle.txn_data.specs.declared.reply.Reply.TheVariants as reply
use Rattle.txn_data.specs.declared.told.Told.{Told}
use Rattle.txn_data.specs.declared.told.Told.TheVariants as told
use Rattle.txn_data.specs.declared.event.Event.{Event}
use Rattle.txn_data.specs.declared.event.Event.TheVariants.{Start, Ask, Serve, Hear, Tell, Restarted}
use Rattle.txn_data.specs.declared.entry.Entry.{Entry}
use Rattle.txn_types.specs.Lists.{Member, or_zero}
use Rattle.txn_types.specs.History.{History}
use Rattle.txn_types.specs.Program.{refusal_told}
use Rattle.txn_types.specs.Tablet.{first_fate, commit_time, greatest_fate}
use Rattle.law_machines.proofs.Basics.{member_cases}
use Rattle.law_time_sources.specs.Laws.{IsGrounded, FateIsGrounded, FatesAreGrounded, RequestIsGrounded, RefusalIsGrounded, ReplyIsGrounded, ToldRefusalIsGrounded, ToldIsGrounded, TimeIsGrounded, EventIsGrounded}

-- each entry of one history is in the other
abbrev pub Within : History → History → Type 0
Within h g = (e : Entry) → Member e h → Member e g

pub within_trans : (h g f : History) → Within h g → Within g f → Within h f
within_trans h g f one two = λ e m. two e (one e m)

pub within_more : (e : Entry) (h : History) → Within h (e ∷ h)
within_more e h = λ f m. inr m

pub within_same : (h : History) → Within h h
within_same h = λ e m. m

-- ## it stays

pub grounded_in : (h g : History) (time : ℕ) → Within h g → IsGrounded h time → IsGrounded g time
grounded_in h g time on is = elim is [ inl none ↦ inl none | inr read ↦ inr (read.0, on read.0 read.1, read.2) ]

pub fate_in : (h g : History) (f : Fate) → Within h g → FateIsGrounded h f → FateIsGrounded g f
fate_in h g (fate.Committed c) on is = grounded_in h g c on is
fate_in h g fate.Pending on is = tt
fate_in h g fate.Aborted on is = tt
fate_in h g fate.Absent on is = tt

pub fates_in : (h g : History) (fates : List FateOf) → Within h g → FatesAreGrounded h fates → FatesAreGrounded g fates
fates_in h g fates on are = λ f m. fate_in h g f.fate on (are f m)

pub request_in : (h g : History) (asked : Request) → Within h g → RequestIsGrounded h asked → RequestIsGrounded g asked
request_in h g (request.Write meta number path op read seen fates) on is = (grounded_in h g read on is.0, grounded_in h g seen on is.1, fates_in h g fates on is.2)
request_in h g (request.Single x path op seen fates) on is = (grounded_in h g seen on is.0, fates_in h g fates on is.1)
request_in h g (request.ListRead own_txn paths t end limit) on is = grounded_in h g t on is
request_in h g (request.Collect own_txn kind paths t window fates) on is = (grounded_in h g t on is.0, fates_in h g fates on is.1)
request_in h g (request.Apply x at) on is = grounded_in h g at on is
request_in h g (request.AskFate x t) on is = grounded_in h g t on is
request_in h g (request.Commit x floor tablets) on is = grounded_in h g floor on is
request_in h g asked on is = tt

refusal_in : (h g : History) (why : Refusal) → Within h g → RefusalIsGrounded h why → RefusalIsGrounded g why
refusal_in h g (refusal.Overlap at) on is = grounded_in h g at on is
refusal_in h g (refusal.ClockFull at) on is = grounded_in h g at on is
refusal_in h g why on is = tt

pub told_refusal_in : (h g : History) (why : ToldRefusal) → Within h g → ToldRefusalIsGrounded h why → ToldRefusalIsGrounded g why
told_refusal_in h g (told_refusal.Overlap at) on is = grounded_in h g at on is
told_refusal_in h g (told_refusal.ClockFull actor at) on is = grounded_in h g at on is
told_refusal_in h g (told_refusal.Restart at path) on is = grounded_in h g at on is
told_refusal_in h g why on is = tt

-- a refusal as it is told
pub refusal_goes : (h : History) (a : Actor) (why : Refusal) → RefusalIsGrounded h why → ToldRefusalIsGrounded h (refusal_told a why)
refusal_goes h a (refusal.Overlap at) is = is
refusal_goes h a (refusal.ClockFull at) is = is
refusal_goes h a why is = tt

pub reply_in : (h g : History) (r : Reply) → Within h g → ReplyIsGrounded h r → ReplyIsGrounded g r
reply_in h g (reply.Written at) on is = grounded_in h g at on is
reply_in h g (reply.SingleDone at) on is = grounded_in h g at on is
reply_in h g (reply.Met at path) on is = grounded_in h g at on is
reply_in h g (reply.FateIs f) on is = fate_in h g f on is
reply_in h g (reply.Committed at) on is = grounded_in h g at on is
reply_in h g (reply.Refused why) on is = refusal_in h g why on is
reply_in h g r on is = tt

pub told_in : (h g : History) (t : Told) → Within h g → ToldIsGrounded h t → ToldIsGrounded g t
told_in h g (told.Began x at) on is = grounded_in h g at on is
told_in h g (told.Written at) on is = grounded_in h g at on is
told_in h g (told.Committed x at) on is = grounded_in h g at on is
told_in h g (told.Values at restarts rows) on is = grounded_in h g at on is
told_in h g (told.Refused why) on is = told_refusal_in h g why on is
told_in h g t on is = tt

pub time_in : (h g : History) (time : Option ℕ) → Within h g → TimeIsGrounded h time → TimeIsGrounded g time
time_in h g (Some time) on is = grounded_in h g time on is
time_in h g None on is = tt

pub event_in : (h g : History) (event : Event) → Within h g → EventIsGrounded h event → EventIsGrounded g event
event_in h g (Ask to asked) on is = request_in h g asked on is
event_in h g (Serve from asked r time append) on is = (request_in h g asked on is.0, reply_in h g r on is.1, time_in h g time on is.2)
event_in h g (Hear from r) on is = reply_in h g r on is
event_in h g (Tell number t) on is = told_in h g t on is
event_in h g (Start number line) on is = tt
event_in h g (Restarted from kept) on is = tt

-- ## times that are made of others

pub zero_grounded : (h : History) → IsGrounded h 0
zero_grounded h = inl refl

pub greater_grounded : (h : History) (m n : ℕ) → IsGrounded h m → IsGrounded h n → IsGrounded h (max m n)
greater_grounded h m n one two = elim (cases_lt m n) [
  | inl lt ↦ subst (λ (k : ℕ). IsGrounded h k) (sym (right_is lt)) two
  | inr ge ↦ subst (λ (k : ℕ). IsGrounded h k) (sym (left_is ge)) one
]
  where
    right_is : m < n → max m n ≡ n
    right_is lt = omega (arith, lt)

    left_is : n ≤ m → max m n ≡ m
    left_is ge = omega (arith, ge)

pub read_micros : (r : ℕ) → micros_of (time_at r 0) ≡ r
read_micros r = omega arith

-- the time of a reading that was recorded
pub reading_grounded : (h : History) (e : Entry) (r : ℕ) → Member e h → e.reading ≡ Some r → IsGrounded h (time_at r 0)
reading_grounded h e r m is = inr (e, m, is ∙ ap Some (sym (read_micros r)))

-- ## fates

abbrev pub FirstIsGrounded : History → Option Fate → Type 0
FirstIsGrounded h (Some f) = FateIsGrounded h f
FirstIsGrounded h None = Unit {0}

first_choice : (b : Bool) (h : History) (f : Fate) (o : Option Fate) → FateIsGrounded h f → FirstIsGrounded h o → FirstIsGrounded h (if b then Some f else o)
first_choice true h f o one more = one
first_choice false h f o one more = more

pub first_grounded : (h : History) (fates : List FateOf) (x : ℕ) → FatesAreGrounded h fates → FirstIsGrounded h (first_fate fates x)
unfolding first_fate
first_grounded h [] x are = tt
first_grounded h (f ∷ fates) x are = first_choice (nat_eq f.txn x) h f.fate (first_fate fates x) (are f (inl refl)) (first_grounded h fates x (λ g m. are g (inr m)))

pub commit_grounded : (h : History) (o : Option Fate) → FirstIsGrounded h o → TimeIsGrounded h (commit_time o)
commit_grounded h None is = tt
commit_grounded h (Some (fate.Committed c)) is = is
commit_grounded h (Some fate.Pending) is = tt
commit_grounded h (Some fate.Aborted) is = tt
commit_grounded h (Some fate.Absent) is = tt

pub time_or_zero : (h : History) (o : Option ℕ) → TimeIsGrounded h o → IsGrounded h (or_zero o)
time_or_zero h None is = zero_grounded h
time_or_zero h (Some time) is = is

pub greatest_grounded : (h : History) (all fates : List FateOf) → FatesAreGrounded h all → IsGrounded h (greatest_fate all fates)
unfolding greatest_fate
greatest_grounded h all [] are = zero_grounded h
greatest_grounded h all (f ∷ fates) are =
    greater_grounded h (or_zero (commit_time (first_fate all f.txn))) (greatest_fate all fates)
    (time_or_zero h (commit_time (first_fate all f.txn)) (commit_grounded h (first_fate all f.txn) (first_grounded h all f.txn are)))
    (greatest_grounded h all fates are)

-- one more fate
pub fates_more : (h : History) (fates : List FateOf) (x : ℕ) (f : Fate) → FatesAreGrounded h fates → FateIsGrounded h f → FatesAreGrounded h (fates ++ (record { txn = x; fate = f }) ∷ [])
fates_more h fates x f are is = λ g m. elim (member_cases g fates ((record { txn = x; fate = f }) ∷ []) m) [
  | inl old ↦ are g old
  | inr new ↦ elim new [ inl same ↦ subst (λ (k : FateOf). FateIsGrounded h k.fate) (sym same) is | inr none ↦ absurd none ]
]

pub no_fates : (h : History) → FatesAreGrounded h []
no_fates h = λ f m. absurd m
