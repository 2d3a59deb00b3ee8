-- The versions of a tablet: single writes stay, and none is above the times that the tablet gave.
use Rattle.std.proofs.Common.{◌≡◌, ℕ, ◌≤◌, Bool, true, false, List, [], ◌∷◌, Some, None, map, filter, refl, sym, ap, subst, inl, inr, ◌⊎◌, if◌then◌else◌, arith}
use Rattle.doc_path.specs.Path.{Parts}
use Rattle.txn_data.specs.declared.request.Request.TheVariants as request
use Rattle.txn_data.specs.declared.version.Version.{Version}
use Rattle.txn_data.specs.declared.event.Event.{Event}
use Rattle.txn_data.specs.declared.event.Event.TheVariants.{Serve}
use Rattle.txn_data.specs.declared.entry.Entry.{Entry}
use Rattle.txn_types.specs.Lists.{Member}
use Rattle.txn_types.specs.History.{History, event_counts, kept_by}
use Rattle.txn_types.specs.Tablet.{Intent, is_of, version_at, same_place, with_version, with_versions, provisional_over, versions_over, versions_after}
use Rattle.law_machines.specs.Own.{StandsOver, piece, time_of}
use Rattle.law_machines.proofs.Basics.{map_member}
use Rattle.law_machines.proofs.Counted.{counted, decided, choice_member}
use Rattle.law_clocks.proofs.Runs.{member_before}
use Rattle.law_committed_writes.proofs.Versions.{HasVersion, with_old, withs_old, with_new}

-- ## a single write stays

abbrev pub IsSingle : Parts → ℕ → Event → Type 0
IsSingle path c (Serve from (request.Single x p op seen fates) r (Some d) append) = (p ≡ path) × (d ≡ c)
IsSingle path c event = ⊥

single_new : (path : Parts) (c : ℕ) (vs : List Version) (ps : List Intent) (event : Event) → IsSingle path c event → HasVersion path c (versions_after vs ps event)
single_new path c vs ps (Serve from (request.Single x p op seen fates) r (Some d) append) is =
    let v : Version = record { path = p; at = d; wrote = d; number = 0; op = op } in
    (v, with_new vs v, is.0, is.1)
single_new path c vs ps event is = absurd is

version_stays : (path : Parts) (c : ℕ) (vs : List Version) (ps : List Intent) (event : Event) → HasVersion path c vs → HasVersion path c (versions_after vs ps event)
version_stays path c vs ps (Serve from (request.Single x p op seen fates) r (Some d) append) has = with_old path c vs (record { path = p; at = d; wrote = d; number = 0; op = op }) has
version_stays path c vs ps (Serve from (request.Apply x at) r time append) has = withs_old path c vs (map (version_at at) (filter (is_of x) ps)) has
version_stays path c vs ps event has = has

pub single_version : (path : Parts) (c : ℕ) (e : Entry) (l : History) → Member e l → IsSingle path c e.event → HasVersion path c (versions_over l)
unfolding versions_over
single_version path c e [] m is = absurd m
single_version path c e (f ∷ l) m is = elim m [
  | inl here ↦ single_new path c (versions_over l) (provisional_over l) f.event (subst (λ (g : Entry). IsSingle path c g.event) here is)
  | inr later ↦ version_stays path c (versions_over l) (provisional_over l) f.event (single_version path c e l later is)
]

-- ## no version is above the times given

place_choice : (b : Bool) (u v w : Version) (us : List Version) → Member w (if b then v ∷ us else u ∷ with_version us v) → (Member w (with_version us v) → (w ≡ v) ⊎ Member w us) → (w ≡ v) ⊎ Member w (u ∷ us)
place_choice true u v w us m more = elim m [ inl new ↦ inl new | inr old ↦ inr (inr old) ]
place_choice false u v w us m more = elim m [
  | inl here ↦ inr (inl here)
  | inr later ↦ elim (more later) [ inl new ↦ inl new | inr old ↦ inr (inr old) ]
]

pub with_either : (us : List Version) (v w : Version) → Member w (with_version us v) → (w ≡ v) ⊎ Member w us
unfolding with_version
with_either [] v w m = elim m [ inl new ↦ inl new | inr none ↦ absurd none ]
with_either (u ∷ us) v w m = place_choice (same_place u v) u v w us m (with_either us v w)

pub withs_either : (us vs : List Version) (w : Version) → Member w (with_versions us vs) → Member w vs ⊎ Member w us
unfolding with_versions
withs_either us [] w m = inr m
withs_either us (v ∷ vs) w m = elim (withs_either (with_version us v) vs w m) [
  | inl new ↦ inl (inr new)
  | inr more ↦ elim (with_either us v w more) [ inl is ↦ inl (inl is) | inr old ↦ inr old ]
]

-- an Apply takes a time that is not below the commit time
abbrev pub IsTimed : Event → Type 0
IsTimed (Serve from (request.Apply x at) r time append) = (t : ℕ) × (time ≡ Some t) × (at ≤ t)
IsTimed event = Unit {0}

-- some entry took a time that is not below this one
abbrev pub IsReached : ℕ → History → Type 0
IsReached c l = (e : Entry) × Member e l × ((t : ℕ) × (time_of e.event ≡ Some t) × (c ≤ t))

abbrev Reaches : ℕ → Event → Type 0
Reaches c event = (t : ℕ) × (time_of event ≡ Some t) × (c ≤ t)

reached_event : (vs : List Version) (ps : List Intent) (event : Event) (w : Version) → IsTimed event → Member w (versions_after vs ps event) → Reaches w.at event ⊎ Member w vs
reached_event vs ps (Serve from (request.Single x p op seen fates) r (Some d) append) w timed m =
    elim (with_either vs (record { path = p; at = d; wrote = d; number = 0; op = op }) w m) [
      | inl is ↦ let at : w.at ≡ d = ap (λ (v : Version). v.at) is in inl (d, refl, omega (arith, at))
      | inr old ↦ inr old
    ]
reached_event vs ps (Serve from (request.Apply x at) r time append) w timed m =
    elim (withs_either vs (map (version_at at) (filter (is_of x) ps)) w m) [
      | inl new ↦
          let i = map_member (version_at at) w (filter (is_of x) ps) new in
          let same : w.at ≡ at = ap (λ (v : Version). v.at) i.2 in
          let under = timed.2 in
          inl (timed.0, timed.1, omega (arith, same, under))
      | inr old ↦ inr old
    ]
reached_event vs ps event w timed m = inr m

pub version_reached : (l : History) (w : Version) → ((e : Entry) → Member e l → IsTimed e.event) → Member w (versions_over l) → IsReached w.at l
unfolding versions_over
version_reached [] w timed m = absurd m
version_reached (e ∷ l) w timed m = elim (reached_event (versions_over l) (provisional_over l) e.event w (timed e (inl refl)) m) [
  | inl new ↦ (e, inl refl, new)
  | inr old ↦ let r = version_reached l w (λ f n. timed f (inr n)) old in (r.0, inr r.1, r.2)
]

-- ## what counts in the end and stands before counts there

-- e counts where f stands, or it stands above that
pub counted_split : (e f : Entry) (b o : History) (kept : Bool) → piece b ≡ None → StandsOver f b o → Member e (counted kept o) →
    Member e (counted false b) ⊎ ((c : History) × StandsOver e c o × ((z : Entry) → Member z b → Member z c))
unfolding counted
counted_split e f b [] kept none stands m = absurd stands
counted_split e f b (g ∷ o) kept none stands m = elim (choice_member (event_counts g.event kept) e g (counted (kept_by g.event kept) o) m) [
  | inl now ↦ inr (
    o,
    inl (sym now.1, refl),
    λ z n. elim stands [
      | inl here ↦ subst (λ (l : History). Member z l) (sym here.1) n
      | inr deeper ↦ member_before z f b o n deeper
    ],
  )
  | inr old ↦ elim stands [
    | inl here ↦
        let below : Member e (counted (kept_by g.event kept) b) = subst (λ (l : History). Member e (counted (kept_by g.event kept) l)) here.1 old in
        inl (subst (λ (l : History). Member e l) (decided (kept_by g.event kept) false b none) below)
    | inr deeper ↦ elim (counted_split e f b o (kept_by g.event kept) none deeper old) [
      | inl there ↦ inl there
      | inr above ↦ inr (above.0, inr above.1, above.2)
    ]
  ]
]
