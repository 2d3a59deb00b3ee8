-- A mover that asked something tells no refusal of its own.
use Rattle.std.proofs.Common.{◌≡◌, ℕ, ◌<◌, ◌≤◌, Bool, true, List, [], ◌∷◌, Option, Some, None, refl, sym, subst, inl, inr, ◌⊎◌, if◌then◌else◌}
use Rattle.hybrid_time.specs.Time.{greatest_reading}
use Rattle.txn_data.specs.declared.actor.Actor.{Actor}
use Rattle.txn_data.specs.declared.command.Command.{Command}
use Rattle.txn_data.specs.declared.config.Config.{Config}
use Rattle.txn_data.specs.declared.request.Request.{Request}
use Rattle.txn_data.specs.declared.reply.Reply.{Reply}
use Rattle.txn_data.specs.declared.told.Told.{Told}
use Rattle.txn_data.specs.declared.told.Told.TheVariants as told
use Rattle.txn_data.specs.declared.told_refusal.ToldRefusal.{ToldRefusal}
use Rattle.txn_data.specs.declared.told_refusal.ToldRefusal.TheVariants as told_refusal
use Rattle.txn_data.specs.declared.event.Event.{Event}
use Rattle.txn_data.specs.declared.event.Event.TheVariants.{Start, Ask, Serve, Hear, Tell, Restarted}
use Rattle.txn_types.specs.Lists.{or_else}
use Rattle.txn_types.specs.History.{History, same_actor, is_start}
use Rattle.txn_types.specs.Program as program
use Rattle.txn_types.specs.Program.{Program, Done, Asks, Reads, turn, turn_with, with_reading, heard}
use Rattle.txn_types.specs.TxnProgram.{refused}
use Rattle.txn_types.specs.Run.{Mover, MayStart, Allowed, Steps, CanTell, mover_at, mover_after, program_of}
use Rattle.txn_promises.specs.Leaves.{asked_by, asked_since, is_early}
use Rattle.law_machines.proofs.Basics.{same_cases}
use Rattle.law_at_once.proofs.Late.{is_commit, LateWhy, IsLate, MayAbort, Comes, IsAsking, Ranged, Lates, line_lates}

-- nothing was asked; or the program is late
abbrev pub Early : Actor → Bool → List Request → Program Told → Type 0
Early m ends asks p = ((asks ≡ []) × Lates m ends p) ⊎ Comes (IsLate m ends) p

-- ## one more entry of the mover's own

turn_asks : (m : Actor) (ends : Bool) (n : ℕ) (p : Program Told) (to : Actor) (asked : Request) → Ranged m ends n p → turn p ≡ program.Ask to asked → Comes (IsLate m ends) p × (n ≤ greatest_reading)
turn_asks m ends n p to asked ranged is = elim ranged [
  | inl range ↦ let wrong : turn (refused (told_refusal.ClockRange m n)) ≡ program.Ask to asked = subst (λ (q : Program Told). turn q ≡ program.Ask to asked) range.1 is in cc
  | inr asks ↦ (asks.2, asks.0)
]

after_ask : (m : Actor) (ends : Bool) (asks : List Request) (p : Program Told) (reading : Option ℕ) (to : Actor) (asked : Request) → Early m ends asks p → turn_with p reading ≡ program.Ask to asked → Comes (IsLate m ends) (with_reading p reading)
after_ask m ends asks (Done t) None to asked early is = cc
after_ask m ends asks (Done t) (Some n) to asked early is = cc
after_ask m ends asks (Asks a q next) None to asked early is = elim early [ inl first ↦ first.1 | inr comes ↦ comes ]
after_ask m ends asks (Asks a q next) (Some n) to asked early is = cc
after_ask m ends asks (Reads given) None to asked early is = cc
after_ask m ends asks (Reads given) (Some n) to asked early is = elim early [
  | inl first ↦ (turn_asks m ends n (given n) to asked (first.1 n) is).0
  | inr comes ↦ absurd comes
]

after_hear : (m : Actor) (ends : Bool) (asks : List Request) (p : Program Told) (r : Reply) → Early m ends asks p → Early m ends asks (heard p r)
after_hear m ends asks (Done t) r early = early
after_hear m ends asks (Asks a q next) r early = elim early [ inl first ↦ inr (first.1 r) | inr comes ↦ inr (comes r) ]
after_hear m ends asks (Reads given) r early = early

-- the reading that it recorded is in range
abbrev InRange : Option ℕ → Type 0
InRange reading = (n : ℕ) → reading ≡ Some n → n ≤ greatest_reading

ask_range : (m : Actor) (ends : Bool) (asks : List Request) (p : Program Told) (reading : Option ℕ) (to : Actor) (asked : Request) → Early m ends asks p → turn_with p reading ≡ program.Ask to asked → InRange reading
ask_range m ends asks (Reads given) (Some k) to asked early is = elim early [
  | inl first ↦ λ n same. let low = (turn_asks m ends k (given k) to asked (first.1 k) is).1 in let e : k ≡ n = cc in subst (λ (j : ℕ). j ≤ greatest_reading) e low
  | inr comes ↦ absurd comes
]
ask_range m ends asks (Done t) (Some k) to asked early is = λ n same. cc
ask_range m ends asks (Asks a q next) (Some k) to asked early is = λ n same. cc
ask_range m ends asks p None to asked early is = λ n same. cc

or_range : (one two : Option ℕ) → InRange one → InRange two → InRange (or_else one two)
or_range (Some k) two first second = first
or_range None two first second = second

-- a mover under way
pub record Going (m : Actor) (asks : List Request) (s : Mover) (line : Command) : Type 0 where
  pub early : Early m (is_commit (Some line)) asks s.rest
  pub range : InRange s.reading

asked_other : (m : Actor) (event : Event) (asks : List Request) → asked_by event ≡ [] → (elim (asked_by event) [ [] ↦ asks | asked ∷ more ↦ asked ∷ asks ]) ≡ asks
asked_other m event asks is = rw is refl

own_going : (config : Config) (h : History) (m : Actor) (s : Mover) (reading : Option ℕ) (event : Event) (line : Command) → mover_at config m h ≡ s → Allowed config h m reading event → ((l : Command) → s.line ≡ Some l → Going m (asked_since m h) s l) →
    (mover_after config m s reading event).line ≡ Some line →
    Going m (if is_start event then [] else elim (asked_by event) [ [] ↦ asked_since m h | asked ∷ more ↦ asked ∷ asked_since m h ]) (mover_after config m s reading event) line
own_going config h m s reading (Start number l) line same ok going is =
    let e : l ≡ line = cc in
    record {
      early = inl (refl, subst (λ (c : Command). Lates m (is_commit (Some c)) (program_of config m s.keeps l)) e (line_lates config m s l (subst (λ (t : Mover). MayStart config m t l) same ok.3)));
      range = λ n wrong. cc;
    }
own_going config h m s reading (Ask to asked) line same ok going is =
    let before = going line is in
    let turns : turn_with s.rest reading ≡ program.Ask to asked = subst (λ (t : Mover). turn_with t.rest reading ≡ program.Ask to asked) same ok.2 in
    record {
      early = inr (after_ask m (is_commit (Some line)) (asked_since m h) s.rest reading to asked before.early turns);
      range = or_range s.reading reading before.range (ask_range m (is_commit (Some line)) (asked_since m h) s.rest reading to asked before.early turns);
    }
own_going config h m s reading (Hear from r) line same ok going is =
    let before = going line is in
    record { early = after_hear m (is_commit (Some line)) (asked_since m h) s.rest r before.early; range = before.range }
own_going config h m s reading (Tell number t) line same ok going is = cc
own_going config h m s reading (Serve from asked r time append) line same ok going is = let before = going line is in record { early = before.early; range = before.range }
own_going config h m s reading (Restarted from kept) line same ok going is = let before = going line is in record { early = before.early; range = before.range }

pub going_at : (config : Config) (m : Actor) (h : History) (line : Command) → Steps config h → (mover_at config m h).line ≡ Some line → Going m (asked_since m h) (mover_at config m h) line
unfolding mover_at Steps asked_since
going_at config m [] line steps is = cc
going_at config m (e ∷ h) line steps is = elim (same_cases e.actor m) [
  | inl same ↦ rw same.0 (own_going config h m (mover_at config m h) e.reading e.event line refl (subst (λ (a : Actor). Allowed config h a e.reading e.event) same.1 steps.1) (λ l. going_at config m h l steps.0) (rw same.0 at is))
  | inr other ↦ rw other.0 (going_at config m h line steps.0 (rw other.0 at is))
]

-- ## the entry that tells

tell_is : (t u : Told) → turn (Done t) ≡ program.Tell u → t ≡ u
tell_is t u is = cc

turn_comes : (Q : Told → Type 0) (p : Program Told) (t : Told) → Comes Q p → turn p ≡ program.Tell t → Q t
turn_comes Q (Done u) t comes is = subst Q (tell_is u t is) comes
turn_comes Q (Asks a q next) t comes is = cc
turn_comes Q (Reads given) t comes is = absurd comes

with_comes : (Q : Told → Type 0) (p : Program Told) (reading : Option ℕ) (t : Told) → Comes Q p → turn_with p reading ≡ program.Tell t → Q t
with_comes Q (Done u) None t comes is = subst Q (tell_is u t is) comes
with_comes Q (Done u) (Some n) t comes is = cc
with_comes Q (Asks a q next) None t comes is = cc
with_comes Q (Asks a q next) (Some n) t comes is = cc
with_comes Q (Reads given) None t comes is = absurd comes
with_comes Q (Reads given) (Some n) t comes is = absurd comes

-- a reading that stands where something is told is out of range
abbrev pub TellsRange : Actor → ℕ → Told → Type 0
TellsRange m n t = (t ≡ told.Refused (told_refusal.ClockRange m n)) × (greatest_reading < n)

turn_range : (m : Actor) (ends : Bool) (n : ℕ) (p : Program Told) (t : Told) → Ranged m ends n p → turn p ≡ program.Tell t → TellsRange m n t
turn_range m ends n p t ranged is = elim ranged [
  | inl range ↦ (sym (tell_is (told.Refused (told_refusal.ClockRange m n)) t (subst (λ (q : Program Told). turn q ≡ program.Tell t) range.1 is)), range.0)
  | inr asks ↦ absurd (not_asking p asks.1 is)
]
  where
    not_asking : (q : Program Told) → IsAsking q → turn q ≡ program.Tell t → ⊥
    not_asking (Asks a r next) asking same = cc
    not_asking (Done u) asking same = absurd asking
    not_asking (Reads given) asking same = absurd asking

pub tells_range : (m : Actor) (ends : Bool) (asks : List Request) (s : Mover) (n : ℕ) (t : Told) → Early m ends asks s.rest → CanTell s (Some n) t → TellsRange m n t
tells_range m ends asks s n t early can = elim can [
  | inl is ↦ by_rest s.rest early is
  | inr none ↦ let wrong : Some n ≡ None = none.2 in cc
]
  where
    by_rest : (p : Program Told) → Early m ends asks p → turn_with p (Some n) ≡ program.Tell t → TellsRange m n t
    by_rest (Done u) e is = cc
    by_rest (Asks a q next) e is = cc
    by_rest (Reads given) e is = elim e [
      | inl first ↦ turn_range m ends n (given n) t (first.1 n) is
      | inr comes ↦ absurd comes
    ]

-- ## what is told

late_aborts : (m : Actor) (ends : Bool) (t : Told) → IsLate m ends t → MayAbort ends t
late_aborts m ends (told.Refused (told_refusal.Aborted by)) late = late
late_aborts m ends t late = tt

range_aborts : (m : Actor) (ends : Bool) (n : ℕ) (t : Told) → TellsRange m n t → MayAbort ends t
range_aborts m ends n t range = subst (MayAbort ends) (sym range.0) tt

pub tells_aborted : (m : Actor) (ends : Bool) (asks : List Request) (s : Mover) (reading : Option ℕ) (t : Told) → Early m ends asks s.rest → CanTell s reading t → MayAbort ends t
tells_aborted m ends asks s reading t early can = elim can [
  | inl is ↦ by_rest s.rest reading early is
  | inr none ↦ subst (MayAbort ends) (sym none.0) tt
]
  where
    by_rest : (p : Program Told) (o : Option ℕ) → Early m ends asks p → turn_with p o ≡ program.Tell t → MayAbort ends t
    by_rest (Done u) None e is = elim e [
      | inl first ↦ subst (MayAbort ends) (tell_is u t is) first.1
      | inr comes ↦ late_aborts m ends t (subst (IsLate m ends) (tell_is u t is) comes)
    ]
    by_rest (Done u) (Some n) e is = cc
    by_rest (Asks a q next) None e is = cc
    by_rest (Asks a q next) (Some n) e is = cc
    by_rest (Reads given) None e is = cc
    by_rest (Reads given) (Some n) e is = elim e [
      | inl first ↦ range_aborts m ends n t (turn_range m ends n (given n) t (first.1 n) is)
      | inr comes ↦ absurd comes
    ]

late_early : (m : Actor) (ends : Bool) (w : ToldRefusal) → LateWhy m ends w → is_early m w ≡ true → ⊥
late_early m ends told_refusal.NoTxn late early = late
late_early m ends told_refusal.TxnOpen late early = late
late_early m ends told_refusal.InDoubt late early = late
late_early m ends (told_refusal.ClockRange a n) late early = let wrong : same_actor a m ≡ true = early in cc
late_early m ends w late early = cc

told_is : (one two : ToldRefusal) → told.Refused one ≡ told.Refused two → one ≡ two
told_is one two is = cc

pub tells_early : (m : Actor) (ends : Bool) (asks : List Request) (s : Mover) (reading : Option ℕ) (w : ToldRefusal) → Early m ends asks s.rest → CanTell s reading (told.Refused w) → is_early m w ≡ true → asks ≡ []
tells_early m ends asks s reading w early can is_one = elim early [
  | inl first ↦ first.0
  | inr comes ↦ elim can [
    | inl is ↦ absurd (late_early m ends w (with_comes (IsLate m ends) s.rest reading (told.Refused w) comes is) is_one)
    | inr none ↦ let wrong : is_early m told_refusal.Memory ≡ true = subst (λ (v : ToldRefusal). is_early m v ≡ true) (told_is w told_refusal.Memory none.0) is_one in cc
  ]
]
