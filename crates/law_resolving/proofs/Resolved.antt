-- A write asks with the fates that it was told, each when the transaction had been begun.
use Rattle.std.proofs.Common.{◌≡◌, ℕ, List, [], ◌∷◌, ◌++◌, Option, Some, refl, sym, subst, inl, inr}
use Rattle.txn_data.specs.declared.actor.Actor.{Actor}
use Rattle.txn_data.specs.declared.actor.Actor.TheVariants.{Tablet, Status}
use Rattle.txn_data.specs.declared.append.Append.{Append}
use Rattle.txn_data.specs.declared.config.Config.{Config}
use Rattle.txn_data.specs.declared.fate.Fate.{Fate}
use Rattle.txn_data.specs.declared.fate.Fate.TheVariants as fate
use Rattle.txn_data.specs.declared.fate_of.FateOf.{FateOf}
use Rattle.txn_data.specs.declared.found.Found.{Found}
use Rattle.txn_data.specs.declared.meta.Meta.{Meta}
use Rattle.txn_data.specs.declared.place.Place.{Place}
use Rattle.txn_data.specs.declared.request.Request.{Request}
use Rattle.txn_data.specs.declared.request.Request.TheVariants as request
use Rattle.txn_data.specs.declared.reply.Reply.{Reply}
use Rattle.txn_data.specs.declared.reply.Reply.TheVariants as reply
use Rattle.txn_data.specs.declared.refusal.Refusal.TheVariants as refusal
use Rattle.txn_data.specs.declared.told.Told.{Told}
use Rattle.txn_data.specs.declared.told_refusal.ToldRefusal.{ToldRefusal}
use Rattle.txn_data.specs.declared.told_refusal.ToldRefusal.TheVariants as told_refusal
use Rattle.txn_data.specs.declared.event.Event.TheVariants.{Serve, Restarted}
use Rattle.txn_data.specs.declared.entry.Entry.{Entry}
use Rattle.txn_types.specs.Lists.{Member}
use Rattle.txn_types.specs.History.{History, own}
use Rattle.txn_types.specs.Plan.{IsCluster}
use Rattle.txn_types.specs.Program.{Program, Done, Asks, Reads, refusal_told}
use Rattle.txn_types.specs.TxnProgram.{lost, resolve_all, find_others}
use Rattle.txn_types.specs.Run.{Steps, Serves}
use Rattle.law_machines.proofs.Basics.{member_cases}
use Rattle.law_messages.proofs.Rules.{Rules, Stage, hears, with_own, no_memory, entry, Later, lasts}
use Rattle.law_messages.proofs.Safe.{Safe}
use Rattle.law_messages.proofs.Shapes.{Always}
use Rattle.law_open_txns.proofs.Open.{begun_more}
use Rattle.law_cleaning.proofs.Listed.{AllBegun}
use Rattle.law_resolving.specs.Laws.{ToldWhenBegun}
use Rattle.law_resolving.proofs.Listed.{others_begun}

abbrev pub AllTold : History → List FateOf → Type 0
AllTold h fates = (f : FateOf) → Member f fates → (f.fate ≡ fate.Pending → ⊥) × ToldWhenBegun h f.txn f.fate

abbrev pub IsGood : History → Request → Type 0
IsGood h (request.Write meta number path op read seen fates) = AllTold h fates
IsGood h (request.Single x path op seen fates) = AllTold h fates
IsGood h asked = Unit {0}

abbrev pub rules : Rules
rules = record {
  Base = λ h. Unit {0};
  Good = λ h m a asked. IsGood h asked;
  Idle = λ h m keeps. Unit {0};
  Ends = λ z m h c t. Unit {0};
}

-- what carries no fates
abbrev pub CarriesNone : Request → Type 0
CarriesNone (request.Write meta number path op read seen fates) = ⊥
CarriesNone (request.Single x path op seen fates) = ⊥
CarriesNone asked = Unit {0}

none_good : (h : History) (asked : Request) → CarriesNone asked → IsGood h asked
none_good h (request.Write meta number path op read seen fates) none = absurd none
none_good h (request.Single x path op seen fates) none = absurd none
none_good h asked none = tt

abbrev pub Safe_ : Config → Actor → History → Program Told → Type 0
Safe_ config m z p = (c : Stage) (h : History) → Safe rules config m z c h p

pub none_safe : (config : Config) (m : Actor) (z : History) (p : Program Told) → Always CarriesNone p → Safe_ config m z p
none_safe config m z (Done t) none = λ c h. (λ may g later. (tt, tt), λ g later. (tt, tt))
none_safe config m z (Asks to asked next) none = λ c h. (
  λ may g later. (tt, tt),
  λ g later steps base. (
    none_good g asked none.0,
    λ reading r time append allowed after. none_safe config m z (next r) (none.1 r) (hears m c to r) (entry to reading (Serve m asked r time append) ∷ g),
    λ reading k is after. none_safe config m z (next (reply.Restarted k)) (none.1 (reply.Restarted k)) (hears m c to (reply.Restarted k)) (entry to reading (Restarted m k) ∷ g),
    none_safe config m z (next no_memory) (none.1 no_memory) (hears m c to no_memory) g,
  ),
)
none_safe config m z (Reads given) none = λ c h. (λ may g later. (tt, tt), λ reading g later own. (none_safe config m z (given reading) (none reading) (with_own c (Some reading)) g, λ t is f on. (tt, tt)))

-- a program that goes on over what was told
abbrev pub SafeOver : Config → Actor → History → (History → Type 0) → Program Told → Type 0
SafeOver config m z K p = (c : Stage) (h : History) → K h → Safe rules config m z c h p

abbrev Grows_ : (History → Type 0) → Type 0
Grows_ K = (e : Entry) (h : History) → K h → K (e ∷ h)

kept_on : (config : Config) (m : Actor) (K : History → Type 0) → Grows_ K → (h g : History) → Later rules config m h g → K h → K g
kept_on config m K grows = lasts rules config m K (λ h e base fine other k. grows e h k)

abbrev Answers : Config → Actor → History → (History → Type 0) → Actor → Request → (Reply → Program Told) → Type 0
Answers config m z K to asked next =
    ((c : Stage) (h : History) (reading : Option ℕ) (r : Reply) (time : Option ℕ) (append : Append) → K h → Safe rules config m z c (entry to reading (Serve m asked r time append) ∷ h) (next r))
    × SafeOver config m z K (next no_memory)

pub asks_over : (config : Config) (m : Actor) (z : History) (K : History → Type 0) → Grows_ K → (to : Actor) (asked : Request) (next : Reply → Program Told) → (asked ≡ request.Restart → ⊥) →
    ((h : History) → K h → IsGood h asked) → Answers config m z K to asked next → SafeOver config m z K (Asks to asked next)
asks_over config m z K grows to asked next never good goes = λ c h k. (
  λ may g later. (tt, tt),
  λ g later steps base.
      let now = kept_on config m K grows h g later k in (
        good g now,
        λ reading r time append allowed after. goes.0 (hears m c to r) g reading r time append now,
        λ reading k is after. absurd (never is),
        goes.1 (hears m c to no_memory) g now,
      ),
)

told_grows : (x : ℕ) (f : Fate) → Grows_ (λ h. ToldWhenBegun h x f)
told_grows x f e h told = (told.0, told.1, inr told.2, told.3, told.4)

pub all_grows : (fates : List FateOf) → Grows_ (λ h. AllTold h fates)
all_grows fates e h told f m = let t = told f m in (t.0, told_grows f.txn f.fate e h t.1)

-- ## resolving others

abbrev Both : List Found → List FateOf → History → Type 0
Both fs fates h = AllBegun h fs × AllTold h fates

both_grows : (fs : List Found) (fates : List FateOf) → Grows_ (Both fs fates)
both_grows fs fates e h both = (λ f m. begun_more f.txn e h (both.0 f m), all_grows fates e h both.1)

abbrev resolved : (meta : Meta) → Found → List Found → List FateOf → (ToldRefusal → Program Told) → (List FateOf → Program Told) → Reply → Program Told
resolved meta f fs fates stop next r = elim r [
  | reply.FateIs heard ↦ elim heard [
    | fate.Pending ↦ stop (told_refusal.Conflict f.txn)
    | settled ↦ resolve_all meta fs (fates ++ (record { txn = f.txn; fate = settled }) ∷ []) stop next
  ]
  | reply.Refused why ↦ stop (refusal_told (Status f.status) why)
  | _ ↦ lost
]

abbrev told_by : Meta → Actor → Found → Fate → Option ℕ → Option ℕ → Append → Entry
told_by meta m f settled reading time append = entry (Status f.status) reading (Serve m (request.Resolve f.txn meta.txn meta.priority) (reply.FateIs settled) time append)

one_more : (meta : Meta) (m : Actor) (f : Found) (fs : List Found) (fates : List FateOf) (settled : Fate) (reading time : Option ℕ) (append : Append) (h : History) → (settled ≡ fate.Pending → ⊥) → Both (f ∷ fs) fates h →
    Both fs (fates ++ (record { txn = f.txn; fate = settled }) ∷ []) (told_by meta m f settled reading time append ∷ h)
one_more meta m f fs fates settled reading time append h settled_now both =
    let e = told_by meta m f settled reading time append in (
      λ g member. begun_more g.txn e h (both.0 g (inr member)),
      λ g member. elim (member_cases g fates ((record { txn = f.txn; fate = settled }) ∷ []) member) [
        | inl old ↦ all_grows fates e h both.1 g old
        | inr new ↦ elim new [
          | inl is ↦ subst (λ (k : FateOf). (k.fate ≡ fate.Pending → ⊥) × ToldWhenBegun (e ∷ h) k.txn k.fate) (sym is) (settled_now, (e, h, inl (refl, refl), both.0 f (inl refl), (refl, refl)))
          | inr none ↦ absurd none
        ]
      ],
    )

resolve_over : (config : Config) (m : Actor) (z : History) (meta : Meta) (fs : List Found) (fates : List FateOf) (stop : ToldRefusal → Program Told) (next : List FateOf → Program Told) → ((why : ToldRefusal) → Safe_ config m z (stop why)) →
    ((found : List FateOf) → SafeOver config m z (λ h. AllTold h found) (next found)) → SafeOver config m z (Both fs fates) (resolve_all meta fs fates stop next)
unfolding resolve_all
resolve_over config m z meta [] fates stop next stops goes = λ c h both. goes fates c h both.1
resolve_over config m z meta (f ∷ fs) fates stop next stops goes =
    asks_over config m z (Both (f ∷ fs) fates) (both_grows (f ∷ fs) fates) (Status f.status) (request.Resolve f.txn meta.txn meta.priority) (resolved meta f fs fates stop next) (λ never. cc) (λ h both. tt) (
      λ c h reading. elim [
        | reply.FateIs fate.Pending ↦ λ time append both. stops (told_refusal.Conflict f.txn) c _
        | reply.FateIs (fate.Committed d) ↦ λ time append both.
            resolve_over config m z meta fs (fates ++ (record { txn = f.txn; fate = fate.Committed d }) ∷ []) stop next stops goes c _ (one_more meta m f fs fates (fate.Committed d) reading time append h (λ is. cc) both)
        | reply.FateIs fate.Aborted ↦ λ time append both.
            resolve_over config m z meta fs (fates ++ (record { txn = f.txn; fate = fate.Aborted }) ∷ []) stop next stops goes c _ (one_more meta m f fs fates fate.Aborted reading time append h (λ is. cc) both)
        | reply.FateIs fate.Absent ↦ λ time append both.
            resolve_over config m z meta fs (fates ++ (record { txn = f.txn; fate = fate.Absent }) ∷ []) stop next stops goes c _ (one_more meta m f fs fates fate.Absent reading time append h (λ is. cc) both)
        | reply.Refused why ↦ λ time append both. stops (refusal_told (Status f.status) why) c _
        | _ ↦ λ time append both. (λ may g later. (tt, tt), λ g later. (tt, tt))
      ],
      λ c h both. stops (refusal_told (Status f.status) refusal.Memory) c h,
    )

abbrev found_next : Meta → Place → (ToldRefusal → Program Told) → (List FateOf → Program Told) → Reply → Program Told
found_next meta place stop next r = elim r [
  | reply.Others found ↦ resolve_all meta found [] stop next
  | reply.Refused why ↦ stop (refusal_told (Tablet place.tablet) why)
  | _ ↦ lost
]

found_safe : (config : Config) → IsCluster config → (m : Actor) (z : History) (meta : Meta) (place : Place) (stop : ToldRefusal → Program Told) (next : List FateOf → Program Told) → ((why : ToldRefusal) → Safe_ config m z (stop why)) →
    ((found : List FateOf) → SafeOver config m z (λ h. AllTold h found) (next found)) → (c : Stage) (g : History) (reading : Option ℕ) (r : Reply) (time : Option ℕ) (append : Append) → Steps config g →
    Serves config.lease_us (Tablet place.tablet) (own (Tablet place.tablet) g) reading (request.ListWrite meta.txn place.path) r time append →
    Safe rules config m z c (entry (Tablet place.tablet) reading (Serve m (request.ListWrite meta.txn place.path) r time append) ∷ g) (found_next meta place stop next r)
found_safe config cluster m z meta place stop next stops goes c g reading (reply.Others found) time append steps served =
    resolve_over config m z meta found [] stop next stops goes c _ (
      λ f member. begun_more f.txn (entry (Tablet place.tablet) reading (Serve m (request.ListWrite meta.txn place.path) (reply.Others found) time append)) g
          (others_begun config config.lease_us place.tablet meta.txn place.path g reading found time append (cluster, steps) served f member),
      λ f member. absurd member,
    )
found_safe config cluster m z meta place stop next stops goes c g reading (reply.Refused why) time append steps served = stops (refusal_told (Tablet place.tablet) why) c _
found_safe config cluster m z meta place stop next stops goes c g reading r time append steps served = (λ may g later. (tt, tt), λ g later. (tt, tt))

pub find_over : (config : Config) → IsCluster config → (m : Actor) (z : History) (meta : Meta) (place : Place) (stop : ToldRefusal → Program Told) (next : List FateOf → Program Told) → ((why : ToldRefusal) → Safe_ config m z (stop why)) →
    ((found : List FateOf) → SafeOver config m z (λ h. AllTold h found) (next found)) → Safe_ config m z (find_others meta place stop next)
find_over config cluster m z meta place stop next stops goes = λ c h. (
  λ may g later. (tt, tt),
  λ g later steps base. (
    tt,
    λ reading r time append allowed after. found_safe config cluster m z meta place stop next stops goes (hears m c (Tablet place.tablet) r) g reading r time append steps allowed.2,
    λ reading j is after. cc,
    stops (refusal_told (Tablet place.tablet) refusal.Memory) (hears m c (Tablet place.tablet) no_memory) g,
  ),
)
