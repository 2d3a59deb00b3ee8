-- A pass asks to clean only what it was told to be ended, when that had been begun.
use Rattle.std.proofs.Common.{◌≡◌, ℕ, ◌+◌, List, [], ◌∷◌, Option, Some, refl, inl, inr}
use Rattle.txn_data.specs.declared.actor.Actor.{Actor}
use Rattle.txn_data.specs.declared.actor.Actor.TheVariants.{Tablet, Status}
use Rattle.txn_data.specs.declared.append.Append.{Append}
use Rattle.txn_data.specs.declared.config.Config.{Config}
use Rattle.txn_data.specs.declared.fate.Fate.{Fate}
use Rattle.txn_data.specs.declared.fate.Fate.TheVariants as fate
use Rattle.txn_data.specs.declared.found.Found.{Found}
use Rattle.txn_data.specs.declared.request.Request.{Request}
use Rattle.txn_data.specs.declared.request.Request.TheVariants as request
use Rattle.txn_data.specs.declared.reply.Reply.{Reply}
use Rattle.txn_data.specs.declared.reply.Reply.TheVariants as reply
use Rattle.txn_data.specs.declared.told.Told.{Told}
use Rattle.txn_data.specs.declared.event.Event.TheVariants.{Serve, Restarted}
use Rattle.txn_data.specs.declared.entry.Entry.{Entry}
use Rattle.txn_types.specs.History.{History}
use Rattle.txn_types.specs.Program.{Program, Done, Asks, Reads, refusal_told}
use Rattle.txn_types.specs.TxnProgram.{refused, lost}
use Rattle.txn_types.specs.PassProgram.{Counts, apply_then, clean_then, pass_over, pass_program}
use Rattle.law_messages.proofs.Rules.{Rules, Stage, hears, with_own, no_memory, entry, Later, lasts}
use Rattle.law_messages.proofs.Safe.{Safe}
use Rattle.law_messages.proofs.Shapes.{Always}
use Rattle.txn_types.specs.History.{own}
use Rattle.txn_types.specs.Plan.{IsCluster}
use Rattle.txn_types.specs.Run.{Steps, Serves}
use Rattle.law_open_txns.proofs.Open.{begun_more}
use Rattle.law_cleaning.specs.Laws.{ToldEnded}
use Rattle.law_cleaning.proofs.Listed.{AllBegun, intents_begun}

abbrev pub IsGood : History → Request → Type 0
IsGood h (request.Clean x) = ToldEnded h x
IsGood h asked = Unit {0}

abbrev pub rules : Rules
rules = record {
  Base = λ h. Unit {0};
  Good = λ h m a asked. IsGood h asked;
  Idle = λ h m keeps. Unit {0};
  Ends = λ z m h c t. Unit {0};
}

abbrev pub NoClean : Request → Type 0
NoClean (request.Clean x) = ⊥
NoClean asked = Unit {0}

none_good : (h : History) (asked : Request) → NoClean asked → IsGood h asked
none_good h (request.Clean x) none = absurd none
none_good h asked none = tt

abbrev pub Safe_ : Config → Actor → History → Program Told → Type 0
Safe_ config m z p = (c : Stage) (h : History) → Safe rules config m z c h p

pub none_safe : (config : Config) (m : Actor) (z : History) (p : Program Told) → Always NoClean p → Safe_ config m z p
none_safe config m z (Done t) none = λ c h. (λ may g later. (tt, tt), λ g later. (tt, tt))
none_safe config m z (Asks to asked next) none = λ c h. (
  λ may g later. (tt, tt),
  λ g later steps base. (
    none_good g asked none.0,
    λ reading r time append allowed after. none_safe config m z (next r) (none.1 r) (hears m c to r) (entry to reading (Serve m asked r time append) ∷ g),
    λ reading k is after. none_safe config m z (next (reply.Restarted k)) (none.1 (reply.Restarted k)) (hears m c to (reply.Restarted k)) (entry to reading (Restarted m k) ∷ g),
    none_safe config m z (next no_memory) (none.1 no_memory) (hears m c to no_memory) g,
  ),
)
none_safe config m z (Reads given) none = λ c h. (λ may g later. (tt, tt), λ reading g later own. (none_safe config m z (given reading) (none reading) (with_own c (Some reading)) g, λ t is f on. (tt, tt)))

abbrev SafeOver : Config → Actor → History → (History → Type 0) → Program Told → Type 0
SafeOver config m z K p = (c : Stage) (h : History) → K h → Safe rules config m z c h p

abbrev Grows_ : (History → Type 0) → Type 0
Grows_ K = (e : Entry) (h : History) → K h → K (e ∷ h)

kept_on : (config : Config) (m : Actor) (K : History → Type 0) → Grows_ K → (h g : History) → Later rules config m h g → K h → K g
kept_on config m K grows = lasts rules config m K (λ h e base fine other k. grows e h k)

-- one request, and what each answer leads to: over the entry that answers it, or over out of memory
abbrev Answers : Config → Actor → History → (History → Type 0) → Actor → Request → (Reply → Program Told) → Type 0
Answers config m z K to asked next =
    ((c : Stage) (h : History) (reading : Option ℕ) (r : Reply) (time : Option ℕ) (append : Append) → K h → Safe rules config m z c (entry to reading (Serve m asked r time append) ∷ h) (next r))
    × SafeOver config m z K (next no_memory)

asks_over : (config : Config) (m : Actor) (z : History) (K : History → Type 0) → Grows_ K → (to : Actor) (asked : Request) (next : Reply → Program Told) → (asked ≡ request.Restart → ⊥) →
    ((h : History) → K h → IsGood h asked) → Answers config m z K to asked next → SafeOver config m z K (Asks to asked next)
asks_over config m z K grows to asked next never good goes = λ c h k. (
  λ may g later. (tt, tt),
  λ g later steps base.
      let now = kept_on config m K grows h g later k in (
        good g now,
        λ reading r time append allowed after. goes.0 (hears m c to r) g reading r time append now,
        λ reading k is after. absurd (never is),
        goes.1 (hears m c to no_memory) g now,
      ),
)

all_grows : (fs : List Found) → Grows_ (λ h. AllBegun h fs)
all_grows fs e h all f m = begun_more f.txn e h (all f m)

rest_begun : (f : Found) (fs : List Found) (h : History) → AllBegun h (f ∷ fs) → AllBegun h fs
rest_begun f fs h all g m = all g (inr m)

both_grows : (x : ℕ) (fs : List Found) → Grows_ (λ h. ToldEnded h x × AllBegun h fs)
both_grows x fs e h both = ((both.0.0, both.0.1, inr both.0.2, both.0.3, both.0.4), all_grows fs e h both.1)

-- ## a pass

abbrev noted_next : Found → Program Told → Reply → Program Told
noted_next f next answer = elim answer [
  | reply.Noted ↦ next
  | reply.Refused why ↦ refused (refusal_told (Status f.status) why)
  | _ ↦ lost
]

abbrev applied_next : ℕ → Found → Program Told → Reply → Program Told
applied_next k f next r = elim r [
  | reply.AppliedHere ↦ Asks (Status f.status) (request.Applied f.txn k) (noted_next f next)
  | reply.Refused why ↦ refused (refusal_told (Tablet k) why)
  | _ ↦ lost
]

note_over : (config : Config) (m : Actor) (z : History) (k : ℕ) (f : Found) (fs : List Found) (next : Program Told) → SafeOver config m z (λ h. AllBegun h fs) next →
    SafeOver config m z (λ h. AllBegun h fs) (Asks (Status f.status) (request.Applied f.txn k) (noted_next f next))
note_over config m z k f fs next goes =
    asks_over config m z (λ h. AllBegun h fs) (all_grows fs) (Status f.status) (request.Applied f.txn k) (noted_next f next) (λ never. cc) (λ h all. tt) (
      λ c h reading. elim [
        | reply.Noted ↦ λ time append all. goes c _ (all_grows fs (entry (Status f.status) reading (Serve m (request.Applied f.txn k) reply.Noted time append)) h all)
        | reply.Refused why ↦ λ time append all. (λ may g later. (tt, tt), λ g later. (tt, tt))
        | _ ↦ λ time append all. (λ may g later. (tt, tt), λ g later. (tt, tt))
      ],
      λ c h all. (λ may g later. (tt, tt), λ g later. (tt, tt)),
    )

apply_over : (config : Config) (m : Actor) (z : History) (k : ℕ) (f : Found) (d : ℕ) (fs : List Found) (next : Program Told) → SafeOver config m z (λ h. AllBegun h fs) next → SafeOver config m z (λ h. AllBegun h fs) (apply_then k f d next)
apply_over config m z k f d fs next goes =
    asks_over config m z (λ h. AllBegun h fs) (all_grows fs) (Tablet k) (request.Apply f.txn d) (applied_next k f next) (λ never. cc) (λ h all. tt) (
      λ c h reading. elim [
        | reply.AppliedHere ↦ λ time append all. note_over config m z k f fs next goes c _ (all_grows fs (entry (Tablet k) reading (Serve m (request.Apply f.txn d) reply.AppliedHere time append)) h all)
        | reply.Refused why ↦ λ time append all. (λ may g later. (tt, tt), λ g later. (tt, tt))
        | _ ↦ λ time append all. (λ may g later. (tt, tt), λ g later. (tt, tt))
      ],
      λ c h all. (λ may g later. (tt, tt), λ g later. (tt, tt)),
    )

abbrev cleaned_next : ℕ → Program Told → Reply → Program Told
cleaned_next k next r = elim r [ reply.Cleaned ↦ next | reply.Refused why ↦ refused (refusal_told (Tablet k) why) | _ ↦ lost ]

clean_over : (config : Config) (m : Actor) (z : History) (k : ℕ) (f : Found) (fs : List Found) (next : Program Told) → SafeOver config m z (λ h. AllBegun h fs) next →
    SafeOver config m z (λ h. ToldEnded h f.txn × AllBegun h fs) (clean_then k f next)
clean_over config m z k f fs next goes =
    asks_over config m z (λ h. ToldEnded h f.txn × AllBegun h fs) (both_grows f.txn fs) (Tablet k) (request.Clean f.txn) (cleaned_next k next) (λ never. cc) (λ h both. both.0) (
      λ c h reading. elim [
        | reply.Cleaned ↦ λ time append both. goes c _ (all_grows fs (entry (Tablet k) reading (Serve m (request.Clean f.txn) reply.Cleaned time append)) h both.1)
        | reply.Refused why ↦ λ time append both. (λ may g later. (tt, tt), λ g later. (tt, tt))
        | _ ↦ λ time append both. (λ may g later. (tt, tt), λ g later. (tt, tt))
      ],
      λ c h both. (λ may g later. (tt, tt), λ g later. (tt, tt)),
    )

abbrev over_next : ℕ → Counts → Found → List Found → Reply → Program Told
over_next k n f fs r = elim r [
  | reply.FateIs heard ↦ elim heard [
    | fate.Pending ↦ pass_over k (record n { left = n.left + 1 }) fs
    | fate.Committed c ↦ apply_then k f c (pass_over k (record n { applied = n.applied + 1 }) fs)
    | fate.Aborted ↦ clean_then k f (pass_over k (record n { cleaned = n.cleaned + 1 }) fs)
    | fate.Absent ↦ clean_then k f (pass_over k (record n { cleaned = n.cleaned + 1 }) fs)
  ]
  | reply.Refused why ↦ refused (refusal_told (Status f.status) why)
  | _ ↦ lost
]

abbrev asked_at : Found → Actor → Option ℕ → Fate → Option ℕ → Append → Entry
asked_at f m reading told time append = entry (Status f.status) reading (Serve m (request.AskFate f.txn 0) (reply.FateIs told) time append)

over_safe : (config : Config) (m : Actor) (z : History) (k : ℕ) (n : Counts) (fs : List Found) → SafeOver config m z (λ h. AllBegun h fs) (pass_over k n fs)
unfolding pass_over
over_safe config m z k n [] = λ c h all. (λ may g later. (tt, tt), λ g later. (tt, tt))
over_safe config m z k n (f ∷ fs) =
    asks_over config m z (λ h. AllBegun h (f ∷ fs)) (all_grows (f ∷ fs)) (Status f.status) (request.AskFate f.txn 0) (over_next k n f fs) (λ never. cc) (λ h all. tt) (
      λ c h reading. elim [
        | reply.FateIs fate.Pending ↦ λ time append all. over_safe config m z k (record n { left = n.left + 1 }) fs c _
            (rest_begun f fs (asked_at f m reading fate.Pending time append ∷ h) (all_grows (f ∷ fs) (asked_at f m reading fate.Pending time append) h all))
        | reply.FateIs (fate.Committed d) ↦ λ time append all. apply_over config m z k f d fs (pass_over k (record n { applied = n.applied + 1 }) fs) (over_safe config m z k (record n { applied = n.applied + 1 }) fs) c _
            (rest_begun f fs (asked_at f m reading (fate.Committed d) time append ∷ h) (all_grows (f ∷ fs) (asked_at f m reading (fate.Committed d) time append) h all))
        | reply.FateIs fate.Aborted ↦ λ time append all. clean_over config m z k f fs (pass_over k (record n { cleaned = n.cleaned + 1 }) fs) (over_safe config m z k (record n { cleaned = n.cleaned + 1 }) fs) c _ (
          (asked_at f m reading fate.Aborted time append, h, inl (refl, refl), all f (inl refl), inl (refl, refl)),
          rest_begun f fs (asked_at f m reading fate.Aborted time append ∷ h) (all_grows (f ∷ fs) (asked_at f m reading fate.Aborted time append) h all),
        )
        | reply.FateIs fate.Absent ↦ λ time append all. clean_over config m z k f fs (pass_over k (record n { cleaned = n.cleaned + 1 }) fs) (over_safe config m z k (record n { cleaned = n.cleaned + 1 }) fs) c _ (
          (asked_at f m reading fate.Absent time append, h, inl (refl, refl), all f (inl refl), inr (refl, refl)),
          rest_begun f fs (asked_at f m reading fate.Absent time append ∷ h) (all_grows (f ∷ fs) (asked_at f m reading fate.Absent time append) h all),
        )
        | reply.Refused why ↦ λ time append all. (λ may g later. (tt, tt), λ g later. (tt, tt))
        | _ ↦ λ time append all. (λ may g later. (tt, tt), λ g later. (tt, tt))
      ],
      λ c h all. (λ may g later. (tt, tt), λ g later. (tt, tt)),
    )

abbrev pass_next : ℕ → Reply → Program Told
pass_next k r = elim r [
  | reply.Intents found ↦ pass_over k (record { applied = 0; cleaned = 0; left = 0 }) found
  | reply.Refused why ↦ refused (refusal_told (Tablet k) why)
  | _ ↦ lost
]

listed_safe : (config : Config) → IsCluster config → (m : Actor) (z : History) (k : ℕ) (c : Stage) (g : History) (reading : Option ℕ) (r : Reply) (time : Option ℕ) (append : Append) → Steps config g →
    Serves config.lease_us (Tablet k) (own (Tablet k) g) reading request.ListIntents r time append → Safe rules config m z c (entry (Tablet k) reading (Serve m request.ListIntents r time append) ∷ g) (pass_next k r)
listed_safe config cluster m z k c g reading (reply.Intents found) time append steps served =
    over_safe config m z k (record { applied = 0; cleaned = 0; left = 0 }) found c _
    (all_grows found (entry (Tablet k) reading (Serve m request.ListIntents (reply.Intents found) time append)) g (intents_begun config config.lease_us k g reading found time append (cluster, steps) served))
listed_safe config cluster m z k c g reading (reply.Refused why) time append steps served = (λ may g later. (tt, tt), λ g later. (tt, tt))
listed_safe config cluster m z k c g reading r time append steps served = (λ may g later. (tt, tt), λ g later. (tt, tt))

pub pass_safe : (config : Config) → IsCluster config → (m : Actor) (z : History) (k : ℕ) → Safe_ config m z (pass_program k)
pass_safe config cluster m z k = λ c h. (
  λ may g later. (tt, tt),
  λ g later steps base. (
    tt,
    λ reading r time append allowed after. listed_safe config cluster m z k (hears m c (Tablet k) r) g reading r time append steps allowed.2,
    λ reading j is after. cc,
    (λ may g later. (tt, tt), λ g later. (tt, tt)),
  ),
)
