-- What a program carries of others it has heard.
use Rattle.std.proofs.Common.{◌≡◌, ℕ, ◌+◌, List, [], ◌∷◌, ◌++◌, Option, Some, refl, sym, subst, inl, inr, ◌⊎◌}
use Rattle.txn_data.specs.declared.actor.Actor.{Actor}
use Rattle.txn_data.specs.declared.actor.Actor.TheVariants.{Tablet, Status}
use Rattle.txn_data.specs.declared.append.Append.{Append}
use Rattle.txn_data.specs.declared.config.Config.{Config}
use Rattle.txn_data.specs.declared.fate.Fate.{Fate}
use Rattle.txn_data.specs.declared.fate.Fate.TheVariants as fate
use Rattle.txn_data.specs.declared.fate_of.FateOf.{FateOf}
use Rattle.txn_data.specs.declared.found.Found.{Found}
use Rattle.txn_data.specs.declared.meta.Meta.{Meta}
use Rattle.txn_data.specs.declared.place.Place.{Place}
use Rattle.txn_data.specs.declared.request.Request.{Request}
use Rattle.txn_data.specs.declared.request.Request.TheVariants as request
use Rattle.txn_data.specs.declared.reply.Reply.{Reply}
use Rattle.txn_data.specs.declared.reply.Reply.TheVariants as reply
use Rattle.txn_data.specs.declared.refusal.Refusal.TheVariants as refusal
use Rattle.txn_data.specs.declared.told.Told.{Told}
use Rattle.txn_data.specs.declared.told_refusal.ToldRefusal.{ToldRefusal}
use Rattle.txn_data.specs.declared.told_refusal.ToldRefusal.TheVariants as told_refusal
use Rattle.txn_data.specs.declared.event.Event.TheVariants.{Serve, Restarted}
use Rattle.txn_data.specs.declared.entry.Entry.{Entry}
use Rattle.txn_types.specs.Lists.{Member}
use Rattle.txn_types.specs.History.{History}
use Rattle.txn_types.specs.Program.{Program, Done, Asks, Reads, refusal_told}
use Rattle.txn_types.specs.TxnProgram.{refused, lost, resolve_all, find_others}
use Rattle.txn_types.specs.PassProgram.{Counts, apply_then, clean_then, pass_over, pass_program}
use Rattle.law_machines.proofs.Basics.{member_cases}
use Rattle.law_messages.proofs.Rules.{Rules, Stage, hears, with_own, no_memory, entry, Later, lasts}
use Rattle.law_messages.proofs.Safe.{Safe}
use Rattle.law_messages.proofs.Shapes.{Always}
use Rattle.law_carried_fates.specs.Laws.{WasTold, HasApplied}

abbrev pub AllTold : History → List FateOf → Type 0
AllTold h fates = (f : FateOf) → Member f fates → (f.fate ≡ fate.Pending → ⊥) × WasTold h f.txn f.fate

abbrev pub WasApplied : History → ℕ → ℕ → Type 0
WasApplied h x k = (s : Entry) × Member s h × (s.actor ≡ Tablet k) × HasApplied x s.event

abbrev pub IsGood : History → Request → Type 0
IsGood h (request.Write meta number path op read seen fates) = AllTold h fates
IsGood h (request.Single x path op seen fates) = AllTold h fates
IsGood h (request.Apply x at) = WasTold h x (fate.Committed at)
IsGood h (request.Clean x) = WasTold h x fate.Aborted ⊎ WasTold h x fate.Absent
IsGood h (request.Applied x tablet) = WasApplied h x tablet
IsGood h asked = Unit {0}

abbrev pub rules : Rules
rules = record {
  Base = λ h. Unit {0};
  Good = λ h m a asked. IsGood h asked;
  Idle = λ h m keeps. Unit {0};
  Ends = λ z m h c t. Unit {0};
}

-- what carries nothing of others
abbrev pub CarriesNone : Request → Type 0
CarriesNone (request.Write meta number path op read seen fates) = ⊥
CarriesNone (request.Single x path op seen fates) = ⊥
CarriesNone (request.Apply x at) = ⊥
CarriesNone (request.Clean x) = ⊥
CarriesNone (request.Applied x tablet) = ⊥
CarriesNone asked = Unit {0}

none_good : (h : History) (asked : Request) → CarriesNone asked → IsGood h asked
none_good h (request.Write meta number path op read seen fates) none = absurd none
none_good h (request.Single x path op seen fates) none = absurd none
none_good h (request.Apply x at) none = absurd none
none_good h (request.Clean x) none = absurd none
none_good h (request.Applied x tablet) none = absurd none
none_good h asked none = tt

abbrev pub Safe_ : Config → Actor → History → Program Told → Type 0
Safe_ config m z p = (c : Stage) (h : History) → Safe rules config m z c h p

pub none_safe : (config : Config) (m : Actor) (z : History) (p : Program Told) → Always CarriesNone p → Safe_ config m z p
none_safe config m z (Done t) none = λ c h. (λ may g later. (tt, tt), λ g later. (tt, tt))
none_safe config m z (Asks to asked next) none = λ c h. (
  λ may g later. (tt, tt),
  λ g later steps base. (
    none_good g asked none.0,
    λ reading r time append allowed after. none_safe config m z (next r) (none.1 r) (hears m c to r) (entry to reading (Serve m asked r time append) ∷ g),
    λ reading k is after. none_safe config m z (next (reply.Restarted k)) (none.1 (reply.Restarted k)) (hears m c to (reply.Restarted k)) (entry to reading (Restarted m k) ∷ g),
    none_safe config m z (next no_memory) (none.1 no_memory) (hears m c to no_memory) g,
  ),
)
none_safe config m z (Reads given) none = λ c h. (λ may g later. (tt, tt), λ reading g later own. (none_safe config m z (given reading) (none reading) (with_own c (Some reading)) g, λ t is f on. (tt, tt)))

-- a program that goes on over what was told
abbrev pub SafeOver : Config → Actor → History → (History → Type 0) → Program Told → Type 0
SafeOver config m z K p = (c : Stage) (h : History) → K h → Safe rules config m z c h p

-- what stays with one more entry
abbrev pub Grows_ : (History → Type 0) → Type 0
Grows_ K = (e : Entry) (h : History) → K h → K (e ∷ h)

kept_on : (config : Config) (m : Actor) (K : History → Type 0) → Grows_ K → (h g : History) → Later rules config m h g → K h → K g
kept_on config m K grows = lasts rules config m K (λ h e base fine other k. grows e h k)

-- one request, and what each answer leads to: over the entry that answers it, or over out of memory
abbrev pub Answers : Config → Actor → History → (History → Type 0) → Actor → Request → (Reply → Program Told) → Type 0
Answers config m z K to asked next =
    ((c : Stage) (h : History) (reading : Option ℕ) (r : Reply) (time : Option ℕ) (append : Append) → K h → Safe rules config m z c (entry to reading (Serve m asked r time append) ∷ h) (next r))
    × SafeOver config m z K (next no_memory)

pub asks_over : (config : Config) (m : Actor) (z : History) (K : History → Type 0) → Grows_ K → (to : Actor) (asked : Request) (next : Reply → Program Told) → (asked ≡ request.Restart → ⊥) →
    ((h : History) → K h → IsGood h asked) → Answers config m z K to asked next → SafeOver config m z K (Asks to asked next)
asks_over config m z K grows to asked next never good goes = λ c h k. (
  λ may g later. (tt, tt),
  λ g later steps base.
      let now = kept_on config m K grows h g later k in (
        good g now,
        λ reading r time append allowed after. goes.0 (hears m c to r) g reading r time append now,
        λ reading k is after. absurd (never is),
        goes.1 (hears m c to no_memory) g now,
      ),
)

pub told_safe : (config : Config) (m : Actor) (z : History) (t : Told) → Safe_ config m z (Done t)
told_safe config m z t = λ c h. (λ may g later. (tt, tt), λ g later. (tt, tt))

told_grows : (x : ℕ) (f : Fate) → Grows_ (λ h. WasTold h x f)
told_grows x f e h told = (told.0, inr told.1, told.2)

pub all_grows : (fates : List FateOf) → Grows_ (λ h. AllTold h fates)
all_grows fates e h told f m = let t = told f m in (t.0, told_grows f.txn f.fate e h t.1)

-- ## resolving others

abbrev resolved : (meta : Meta) → Found → List Found → List FateOf → (ToldRefusal → Program Told) → (List FateOf → Program Told) → Reply → Program Told
resolved meta f fs fates stop next r = elim r [
  | reply.FateIs heard ↦ elim heard [
    | fate.Pending ↦ stop (told_refusal.Conflict f.txn)
    | settled ↦ resolve_all meta fs (fates ++ (record { txn = f.txn; fate = settled }) ∷ []) stop next
  ]
  | reply.Refused why ↦ stop (refusal_told (Status f.status) why)
  | _ ↦ lost
]

one_more : (meta : Meta) (m to : Actor) (f : Found) (fates : List FateOf) (settled : Fate) (reading time : Option ℕ) (append : Append) (h : History) → (settled ≡ fate.Pending → ⊥) → AllTold h fates →
    AllTold (entry to reading (Serve m (request.Resolve f.txn meta.txn meta.priority) (reply.FateIs settled) time append) ∷ h) (fates ++ (record { txn = f.txn; fate = settled }) ∷ [])
one_more meta m to f fates settled reading time append h settled_now told g member = elim (member_cases g fates ((record { txn = f.txn; fate = settled }) ∷ []) member) [
  | inl old ↦ all_grows fates (entry to reading (Serve m (request.Resolve f.txn meta.txn meta.priority) (reply.FateIs settled) time append)) h told g old
  | inr new ↦ elim new [
    | inl is ↦
        let e = entry to reading (Serve m (request.Resolve f.txn meta.txn meta.priority) (reply.FateIs settled) time append) in
        subst (λ (k : FateOf). (k.fate ≡ fate.Pending → ⊥) × WasTold (e ∷ h) k.txn k.fate) (sym is) (settled_now, (e, inl refl, (refl, refl)))
    | inr none ↦ absurd none
  ]
]

resolve_over : (config : Config) (m : Actor) (z : History) (meta : Meta) (fs : List Found) (fates : List FateOf) (stop : ToldRefusal → Program Told) (next : List FateOf → Program Told) → ((why : ToldRefusal) → Safe_ config m z (stop why)) →
    ((found : List FateOf) → SafeOver config m z (λ h. AllTold h found) (next found)) → SafeOver config m z (λ h. AllTold h fates) (resolve_all meta fs fates stop next)
unfolding resolve_all
resolve_over config m z meta [] fates stop next stops goes = goes fates
resolve_over config m z meta (f ∷ fs) fates stop next stops goes =
    asks_over config m z (λ h. AllTold h fates) (all_grows fates) (Status f.status) (request.Resolve f.txn meta.txn meta.priority) (resolved meta f fs fates stop next) (λ never. cc) (λ h told. tt) (
      λ c h reading. elim [
        | reply.FateIs fate.Pending ↦ λ time append told. stops (told_refusal.Conflict f.txn) c _
        | reply.FateIs (fate.Committed d) ↦ λ time append told.
            resolve_over config m z meta fs (fates ++ (record { txn = f.txn; fate = fate.Committed d }) ∷ []) stop next stops goes c _ (one_more meta m (Status f.status) f fates (fate.Committed d) reading time append h (λ is. cc) told)
        | reply.FateIs fate.Aborted ↦ λ time append told.
            resolve_over config m z meta fs (fates ++ (record { txn = f.txn; fate = fate.Aborted }) ∷ []) stop next stops goes c _ (one_more meta m (Status f.status) f fates fate.Aborted reading time append h (λ is. cc) told)
        | reply.FateIs fate.Absent ↦ λ time append told.
            resolve_over config m z meta fs (fates ++ (record { txn = f.txn; fate = fate.Absent }) ∷ []) stop next stops goes c _ (one_more meta m (Status f.status) f fates fate.Absent reading time append h (λ is. cc) told)
        | reply.Refused why ↦ λ time append told. stops (refusal_told (Status f.status) why) c _
        | _ ↦ λ time append told. (λ may g later. (tt, tt), λ g later. (tt, tt))
      ],
      λ c h told. stops (refusal_told (Status f.status) refusal.Memory) c h,
    )

abbrev found_next : Meta → Place → (ToldRefusal → Program Told) → (List FateOf → Program Told) → Reply → Program Told
found_next meta place stop next r = elim r [
  | reply.Others found ↦ resolve_all meta found [] stop next
  | reply.Refused why ↦ stop (refusal_told (Tablet place.tablet) why)
  | _ ↦ lost
]

pub find_over : (config : Config) (m : Actor) (z : History) (meta : Meta) (place : Place) (stop : ToldRefusal → Program Told) (next : List FateOf → Program Told) → ((why : ToldRefusal) → Safe_ config m z (stop why)) →
    ((found : List FateOf) → SafeOver config m z (λ h. AllTold h found) (next found)) → Safe_ config m z (find_others meta place stop next)
find_over config m z meta place stop next stops goes = λ c h.
    asks_over config m z (λ h. Unit {0}) (λ e h k. tt) (Tablet place.tablet) (request.ListWrite meta.txn place.path) (found_next meta place stop next) (λ never. cc) (λ h k. tt) (
      λ c h reading. elim [
        | reply.Others found ↦ λ time append k. resolve_over config m z meta found [] stop next stops goes c _ (λ f member. absurd member)
        | reply.Refused why ↦ λ time append k. stops (refusal_told (Tablet place.tablet) why) c _
        | _ ↦ λ time append k. (λ may g later. (tt, tt), λ g later. (tt, tt))
      ],
      λ c h k. stops (refusal_told (Tablet place.tablet) refusal.Memory) c h,
    ) c h tt

-- ## passes

abbrev noted_next : Found → Program Told → Reply → Program Told
noted_next f next answer = elim answer [
  | reply.Noted ↦ next
  | reply.Refused why ↦ refused (refusal_told (Status f.status) why)
  | _ ↦ lost
]

abbrev applied_next : ℕ → Found → Program Told → Reply → Program Told
applied_next k f next r = elim r [
  | reply.AppliedHere ↦ Asks (Status f.status) (request.Applied f.txn k) (noted_next f next)
  | reply.Refused why ↦ refused (refusal_told (Tablet k) why)
  | _ ↦ lost
]

applied_grows : (x k : ℕ) → Grows_ (λ h. WasApplied h x k)
applied_grows x k e h was = (was.0, inr was.1, was.2, was.3)

note_over : (config : Config) (m : Actor) (z : History) (k : ℕ) (f : Found) (next : Program Told) → Safe_ config m z next →
    SafeOver config m z (λ h. WasApplied h f.txn k) (Asks (Status f.status) (request.Applied f.txn k) (noted_next f next))
note_over config m z k f next goes =
    asks_over config m z (λ h. WasApplied h f.txn k) (applied_grows f.txn k) (Status f.status) (request.Applied f.txn k) (noted_next f next) (λ never. cc) (λ h was. was) (
      λ c h reading. elim [
        | reply.Noted ↦ λ time append was. goes c _
        | reply.Refused why ↦ λ time append was. (λ may g later. (tt, tt), λ g later. (tt, tt))
        | _ ↦ λ time append was. (λ may g later. (tt, tt), λ g later. (tt, tt))
      ],
      λ c h was. (λ may g later. (tt, tt), λ g later. (tt, tt)),
    )

apply_over : (config : Config) (m : Actor) (z : History) (k : ℕ) (f : Found) (d : ℕ) (next : Program Told) → Safe_ config m z next → SafeOver config m z (λ h. WasTold h f.txn (fate.Committed d)) (apply_then k f d next)
apply_over config m z k f d next goes =
    asks_over config m z (λ h. WasTold h f.txn (fate.Committed d)) (told_grows f.txn (fate.Committed d)) (Tablet k) (request.Apply f.txn d) (applied_next k f next) (λ never. cc) (λ h was. was) (
      λ c h reading. elim [
        | reply.AppliedHere ↦ λ time append was. note_over config m z k f next goes c _ (entry (Tablet k) reading (Serve m (request.Apply f.txn d) reply.AppliedHere time append), inl refl, refl, refl)
        | reply.Refused why ↦ λ time append was. (λ may g later. (tt, tt), λ g later. (tt, tt))
        | _ ↦ λ time append was. (λ may g later. (tt, tt), λ g later. (tt, tt))
      ],
      λ c h was. (λ may g later. (tt, tt), λ g later. (tt, tt)),
    )

abbrev cleaned_next : ℕ → Program Told → Reply → Program Told
cleaned_next k next r = elim r [ reply.Cleaned ↦ next | reply.Refused why ↦ refused (refusal_told (Tablet k) why) | _ ↦ lost ]

clean_over : (config : Config) (m : Actor) (z : History) (k : ℕ) (f : Found) (next : Program Told) → Safe_ config m z next → SafeOver config m z (λ h. WasTold h f.txn fate.Aborted ⊎ WasTold h f.txn fate.Absent) (clean_then k f next)
clean_over config m z k f next goes =
    asks_over config m z (λ h. WasTold h f.txn fate.Aborted ⊎ WasTold h f.txn fate.Absent)
    (λ e h was. elim was [ inl a ↦ inl (told_grows f.txn fate.Aborted e h a) | inr b ↦ inr (told_grows f.txn fate.Absent e h b) ])
    (Tablet k) (request.Clean f.txn) (cleaned_next k next) (λ never. cc) (λ h was. was) (
      λ c h reading. elim [
        | reply.Cleaned ↦ λ time append was. goes c _
        | reply.Refused why ↦ λ time append was. (λ may g later. (tt, tt), λ g later. (tt, tt))
        | _ ↦ λ time append was. (λ may g later. (tt, tt), λ g later. (tt, tt))
      ],
      λ c h was. (λ may g later. (tt, tt), λ g later. (tt, tt)),
    )

abbrev over_next : ℕ → Counts → Found → List Found → Reply → Program Told
over_next k n f fs r = elim r [
  | reply.FateIs heard ↦ elim heard [
    | fate.Pending ↦ pass_over k (record n { left = n.left + 1 }) fs
    | fate.Committed c ↦ apply_then k f c (pass_over k (record n { applied = n.applied + 1 }) fs)
    | fate.Aborted ↦ clean_then k f (pass_over k (record n { cleaned = n.cleaned + 1 }) fs)
    | fate.Absent ↦ clean_then k f (pass_over k (record n { cleaned = n.cleaned + 1 }) fs)
  ]
  | reply.Refused why ↦ refused (refusal_told (Status f.status) why)
  | _ ↦ lost
]

over_safe : (config : Config) (m : Actor) (z : History) (k : ℕ) (n : Counts) (fs : List Found) → Safe_ config m z (pass_over k n fs)
unfolding pass_over
over_safe config m z k n [] = λ c h. (λ may g later. (tt, tt), λ g later. (tt, tt))
over_safe config m z k n (f ∷ fs) = λ c h.
    asks_over config m z (λ h. Unit {0}) (λ e h k. tt) (Status f.status) (request.AskFate f.txn 0) (over_next k n f fs) (λ never. cc) (λ h k. tt) (
      λ c h reading. elim [
        | reply.FateIs fate.Pending ↦ λ time append u. over_safe config m z k (record n { left = n.left + 1 }) fs c _
        | reply.FateIs (fate.Committed d) ↦ λ time append u. apply_over config m z k f d (pass_over k (record n { applied = n.applied + 1 }) fs) (over_safe config m z k (record n { applied = n.applied + 1 }) fs) c _
            (entry (Status f.status) reading (Serve m (request.AskFate f.txn 0) (reply.FateIs (fate.Committed d)) time append), inl refl, (refl, refl))
        | reply.FateIs fate.Aborted ↦ λ time append u. clean_over config m z k f (pass_over k (record n { cleaned = n.cleaned + 1 }) fs) (over_safe config m z k (record n { cleaned = n.cleaned + 1 }) fs) c _
            (inl (entry (Status f.status) reading (Serve m (request.AskFate f.txn 0) (reply.FateIs fate.Aborted) time append), inl refl, (refl, refl)))
        | reply.FateIs fate.Absent ↦ λ time append u. clean_over config m z k f (pass_over k (record n { cleaned = n.cleaned + 1 }) fs) (over_safe config m z k (record n { cleaned = n.cleaned + 1 }) fs) c _
            (inr (entry (Status f.status) reading (Serve m (request.AskFate f.txn 0) (reply.FateIs fate.Absent) time append), inl refl, (refl, refl)))
        | reply.Refused why ↦ λ time append u. (λ may g later. (tt, tt), λ g later. (tt, tt))
        | _ ↦ λ time append u. (λ may g later. (tt, tt), λ g later. (tt, tt))
      ],
      λ c h u. (λ may g later. (tt, tt), λ g later. (tt, tt)),
    ) c h tt

abbrev pass_next : ℕ → Reply → Program Told
pass_next k r = elim r [
  | reply.Intents found ↦ pass_over k (record { applied = 0; cleaned = 0; left = 0 }) found
  | reply.Refused why ↦ refused (refusal_told (Tablet k) why)
  | _ ↦ lost
]

pub pass_safe : (config : Config) (m : Actor) (z : History) (k : ℕ) → Safe_ config m z (pass_program k)
pass_safe config m z k = λ c h.
    asks_over config m z (λ h. Unit {0}) (λ e h k. tt) (Tablet k) request.ListIntents (pass_next k) (λ never. cc) (λ h k. tt) (
      λ c h reading. elim [
        | reply.Intents found ↦ λ time append u. over_safe config m z k (record { applied = 0; cleaned = 0; left = 0 }) found c _
        | reply.Refused why ↦ λ time append u. (λ may g later. (tt, tt), λ g later. (tt, tt))
        | _ ↦ λ time append u. (λ may g later. (tt, tt), λ g later. (tt, tt))
      ],
      λ c h u. (λ may g later. (tt, tt), λ g later. (tt, tt)),
    ) c h tt
