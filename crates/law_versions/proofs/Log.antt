-- The log of a tablet: each version was made by a write of what is committed, and each such write is there.
use Rattle.std.proofs.Common.{◌≡◌, ℕ, true, not, List, [], ◌∷◌, Option, Some, map, filter, refl, sym, ◌∙◌, ap, subst, inl, inr, ◌⊎◌}
use Rattle.txn_data.specs.declared.request.Request.TheVariants as request
use Rattle.txn_data.specs.declared.reply.Reply.{Reply}
use Rattle.txn_data.specs.declared.reply.Reply.TheVariants as reply
use Rattle.txn_data.specs.declared.version.Version.{Version}
use Rattle.txn_data.specs.declared.event.Event.{Event}
use Rattle.txn_data.specs.declared.event.Event.TheVariants.{Serve}
use Rattle.txn_data.specs.declared.entry.Entry.{Entry}
use Rattle.txn_types.specs.Lists.{Member}
use Rattle.txn_types.specs.History.{History, counting}
use Rattle.txn_types.specs.Tablet.{Intent, is_of, version_at, provisional_over, provisional_after, with_version, versions_over, versions_after}
use Rattle.law_machines.proofs.Basics.{eq_true, eq_cases, map_member, member_map, filter_member, member_filter, member_left, member_right}
use Rattle.law_machines.proofs.Lands.{Grows, Same, More}
use Rattle.law_fates.specs.Laws.{CommittedAt}
use Rattle.law_committed_writes.proofs.Landing.{Makes, not_of}
use Rattle.law_committed_writes.proofs.Kept.{intent_made}
use Rattle.law_committed_writes.proofs.Versions.{with_new}
use Rattle.law_write_order.proofs.Singles.{with_either, withs_either}
use Rattle.law_versions.specs.Laws.{MakesVersion, IsWaiting, IsThere}
use Rattle.law_versions.proofs.Places.{Apart, with_keeps, withs_keep, withs_make}

-- a write at a time, of what commits, was accepted at this time; and what was accepted has its time
pub record IsAnswered (h : History) (x : ℕ) (r : Reply) (time : Option ℕ) : Type 0 where
  pub accepted : (c w : ℕ) → time ≡ Some w → CommittedAt h x c → r ≡ reply.Written w
  pub timed : (w : ℕ) → r ≡ reply.Written w → time ≡ Some w

-- what holds of an entry that stands in the log of a tablet: it applies at the commit time, cleans nothing that commits, a
-- single write counts, and a write of what commits was answered
abbrev pub Fits : History → Entry → Event → Type 0
Fits h e (Serve from (request.Apply x at) r time append) = CommittedAt h x at
Fits h e (Serve from (request.Clean x) r time append) = (c : ℕ) → CommittedAt h x c → ⊥
Fits h e (Serve from (request.Single x path op seen fates) r (Some c) append) = Member e (counting h)
Fits h e (Serve from (request.Write meta number path op read seen fates) r time append) = IsAnswered h meta.txn r time
Fits h e event = Unit {0}

abbrev pub AllFit : History → History → Type 0
AllFit h l = (e : Entry) → Member e l → Fits h e e.event

-- ## versions and provisional writes were made by writes

made_event : (h : History) (c : ℕ) (p : Intent) (e : Entry) (event : Event) → Makes p.meta.txn p event → Fits h e event → CommittedAt h p.meta.txn c → MakesVersion h (version_at c p) e event
made_event h c p e (Serve from (request.Write meta number path op read seen fates) r (Some w) append) makes fits committed =
    let at : CommittedAt h meta.txn c = subst (λ (x : ℕ). CommittedAt h x c) (sym makes.0) committed in
    subst (λ (q : Reply). MakesVersion h (version_at c p) e (Serve from (request.Write meta number path op read seen fates) q (Some w) append)) (sym (fits.accepted c w refl at)) (ap (version_at c) makes.1, at)
made_event h c p e event makes fits committed = absurd makes

abbrev pub IsMade : History → History → Version → Type 0
IsMade h l v = (e : Entry) × Member e l × MakesVersion h v e e.event

pub intent_version : (h l : History) (c : ℕ) (p : Intent) → AllFit h l → Member p (provisional_over l) → CommittedAt h p.meta.txn c → IsMade h l (version_at c p)
intent_version h l c p fits m committed =
    let made = intent_made l p m in
    (made.0, made.1, made_event h c p made.0 made.0.event made.2 (fits made.0 made.1) committed)

-- the versions that an Apply makes
abbrev applied : ℕ → ℕ → List Intent → List Version
applied x at ps = map (version_at at) (filter (is_of x) ps)

applied_made : (h l : History) (x at : ℕ) (v : Version) → AllFit h l → CommittedAt h x at → Member v (applied x at (provisional_over l)) → IsMade h l v
applied_made h l x at v fits committed m =
    let i = map_member (version_at at) v (filter (is_of x) (provisional_over l)) m in
    let f = filter_member (is_of x) i.0 (provisional_over l) i.1 in
    let own : i.0.meta.txn ≡ x = eq_true i.0.meta.txn x f.1 in
    subst (λ (u : Version). IsMade h l u) (sym i.2) (intent_version h l at i.0 fits f.0 (subst (λ (y : ℕ). CommittedAt h y at) (sym own) committed))

made_later : (h l : History) (g : Entry) (v : Version) → IsMade h l v → IsMade h (g ∷ l) v
made_later h l g v made = (made.0, inr made.1, made.2)

version_event : (h l : History) (g : Entry) (event : Event) (v : Version) → g.event ≡ event → AllFit h l → Fits h g event → ((u : Version) → Member u (versions_over l) → IsMade h l u) → Member v (versions_after (versions_over l) (provisional_over l) event) →
    IsMade h (g ∷ l) v
version_event h l g (Serve from (request.Single x path op seen fates) r (Some c) append) v is fits fit old m =
    elim (with_either (versions_over l) (record { path = path; at = c; wrote = c; number = 0; op = op }) v m) [
      | inl new ↦ (g, inl refl, subst (λ (ev : Event). MakesVersion h v g ev) (sym is) (new, fit))
      | inr before ↦ made_later h l g v (old v before)
    ]
version_event h l g (Serve from (request.Apply x at) r time append) v is fits fit old m =
    elim (withs_either (versions_over l) (applied x at (provisional_over l)) v m) [
      | inl new ↦ made_later h l g v (applied_made h l x at v fits fit new)
      | inr before ↦ made_later h l g v (old v before)
    ]
version_event h l g event v is fits fit old m = made_later h l g v (old v m)

pub version_made : (h l : History) → AllFit h l → (v : Version) → Member v (versions_over l) → IsMade h l v
unfolding versions_over
version_made h [] fits v m = absurd m
version_made h (g ∷ l) fits v m = version_event h l g g.event v refl (λ e n. fits e (inr n)) (fits g (inl refl)) (version_made h l (λ e n. fits e (inr n))) m

-- ## they stay

abbrev Made : History → History → Version → Type 0
Made h full v = IsMade h full v

part_made : (h l full : History) (v : Version) → ((e : Entry) → Member e l → Member e full) → IsMade h l v → IsMade h full v
part_made h l full v part made = (made.0, part made.0 made.1, made.2)

stay_event : (h full l : History) (g : Entry) (event : Event) (v : Version) → g.event ≡ event → Apart (IsMade h full) → ((e : Entry) → Member e (g ∷ l) → Member e full) → AllFit h full → Fits h g event → Member v (versions_over l) →
    Member v (versions_after (versions_over l) (provisional_over l) event)
stay_event h full l g (Serve from (request.Single x path op seen fates) r (Some c) append) v is apart part fits fit m =
    let u : Version = record { path = path; at = c; wrote = c; number = 0; op = op } in
    with_keeps (IsMade h full) apart (versions_over l) u v
    (λ w n. part_made h l full w (λ e k. part e (inr k)) (version_made h l (λ e k. fits e (part e (inr k))) w n))
    (g, part g (inl refl), subst (λ (ev : Event). MakesVersion h u g ev) (sym is) (refl, fit)) m
stay_event h full l g (Serve from (request.Apply x at) r time append) v is apart part fits fit m =
    withs_keep (IsMade h full) apart (versions_over l) (applied x at (provisional_over l)) v
    (λ w n. part_made h l full w (λ e k. part e (inr k)) (version_made h l (λ e k. fits e (part e (inr k))) w n))
    (λ w n. part_made h l full w (λ e k. part e (inr k)) (applied_made h l x at w (λ e k. fits e (part e (inr k))) fit n)) m
stay_event h full l g event v is apart part fits fit m = m

pub version_stays : (h full l top : History) (v : Version) → Apart (IsMade h full) → AllFit h full → Grows l top → ((e : Entry) → Member e top → Member e full) → Member v (versions_over l) → Member v (versions_over top)
unfolding versions_over
version_stays h full l _ v apart fits Same part m = m
version_stays h full l _ v apart fits (More g k grows) part m =
    stay_event h full k g g.event v refl apart part fits (fits g (part g (inl refl))) (version_stays h full l k v apart fits grows (λ e n. part e (inr n)) m)

-- ## what was written is there

abbrev Either : History → Version → List Version → List Intent → Type 0
Either h v vs ps = Member v vs ⊎ IsWaiting h v ps

-- what the two say of one log of a tablet
pub record IsLog (h full : History) : Type 0 where
  pub apart : Apart (IsMade h full)
  pub fits : AllFit h full
  pub once : (x c d : ℕ) → CommittedAt h x c → CommittedAt h x d → c ≡ d

abbrev IsPart : History → History → Type 0
IsPart l full = (e : Entry) → Member e l → Member e full

waiting_event : (h full l : History) (g : Entry) (event : Event) (v : Version) → IsLog h full → IsPart l full → Fits h g event → IsWaiting h v (provisional_over l) →
    Either h v (versions_after (versions_over l) (provisional_over l) event) (provisional_after (provisional_over l) event)
waiting_event h full l g (Serve from (request.Write meta number path op read seen fates) r (Some w) append) v log part fit waits =
    inr (waits.0, member_left waits.0 (provisional_over l) ((record { meta = meta; number = number; path = path; op = op; wrote = w }) ∷ []) waits.1, waits.2, waits.3)
waiting_event h full l g (Serve from (request.Apply x at) r time append) v log part fit waits =
    let p = waits.0 in
    elim (eq_cases p.meta.txn x) [
      | inl same ↦
          let fits = λ (e : Entry) (k : Member e l). log.fits e (part e k) in
          let committed : CommittedAt h p.meta.txn at = subst (λ (y : ℕ). CommittedAt h y at) (sym same.1) fit in
          let times : v.at ≡ at = log.once p.meta.txn v.at at waits.3 committed in
          let is : version_at at p ≡ v = ap (λ (c : ℕ). version_at c p) (sym times) ∙ waits.2 in
          let m = withs_make (IsMade h full) log.apart (versions_over l) (applied x at (provisional_over l)) (version_at at p)
          (λ w n. part_made h l full w part (version_made h l fits w n))
          (λ w n. part_made h l full w part (applied_made h l x at w fits fit n))
          (member_map (version_at at) p (filter (is_of x) (provisional_over l)) (member_filter (is_of x) p (provisional_over l) waits.1 same.0)) in
          inl (subst (λ (u : Version). Member u (versions_after (versions_over l) (provisional_over l) (Serve from (request.Apply x at) r time append))) is m)
      | inr other ↦ inr (p, member_filter (λ (q : Intent). not (is_of x q)) p (provisional_over l) waits.1 (not_of (is_of x p) other.0), waits.2, waits.3)
    ]
waiting_event h full l g (Serve from (request.Clean x) r time append) v log part fit waits =
    let p = waits.0 in
    elim (eq_cases p.meta.txn x) [
      | inl same ↦ absurd (fit v.at (subst (λ (y : ℕ). CommittedAt h y v.at) same.1 waits.3))
      | inr other ↦ inr (p, member_filter (λ (q : Intent). not (is_of x q)) p (provisional_over l) waits.1 (not_of (is_of x p) other.0), waits.2, waits.3)
    ]
waiting_event h full l g event v log part fit waits = inr waits

either_event : (h full l : History) (g : Entry) (v : Version) → IsLog h full → IsPart (g ∷ l) full → Either h v (versions_over l) (provisional_over l) →
    Either h v (versions_after (versions_over l) (provisional_over l) g.event) (provisional_after (provisional_over l) g.event)
either_event h full l g v log part either = elim either [
  | inl there ↦ inl (stay_event h full l g g.event v refl log.apart part log.fits (log.fits g (part g (inl refl))) there)
  | inr waits ↦ waiting_event h full l g g.event v log (λ e m. part e (inr m)) (log.fits g (part g (inl refl))) waits
]

there_event : (h : History) (v : Version) (vs us : List Version) (ps qs : List Intent) (event : Event) → (Member v vs → Member v us) → (Either h v vs ps → Either h v us qs) → IsThere h v vs ps event → IsThere h v us qs event
there_event h v vs us ps qs (Serve from (request.Single x path op seen fates) r time append) stays goes is = stays is
there_event h v vs us ps qs event stays goes is = goes is

new_event : (h : History) (v : Version) (vs : List Version) (ps : List Intent) (e : Entry) (event : Event) → Fits h e event → MakesVersion h v e event → IsThere h v (versions_after vs ps event) (provisional_after ps event) event
new_event h v vs ps e (Serve from (request.Write meta number path op read seen fates) (reply.Written w) time append) fit makes =
    let p : Intent = record { meta = meta; number = number; path = path; op = op; wrote = w } in
    let event = λ (t : Option ℕ). Serve from (request.Write meta number path op read seen fates) (reply.Written w) t append in
    subst (λ (t : Option ℕ). IsThere h v (versions_after vs ps (event t)) (provisional_after ps (event t)) (event t)) (sym (fit.timed w refl))
    (inr (p, member_right p ps (p ∷ []) (inl refl), sym makes.0, makes.1))
new_event h v vs ps e (Serve from (request.Single x path op seen fates) r (Some c) append) fit makes =
    let u : Version = record { path = path; at = c; wrote = c; number = 0; op = op } in
    subst (λ (w : Version). Member w (with_version vs u)) (sym makes.0) (with_new vs u)
new_event h v vs ps e event fit makes = absurd makes

pub is_there : (h full l : History) (e : Entry) (v : Version) → IsLog h full → IsPart l full → Member e l → MakesVersion h v e e.event → IsThere h v (versions_over l) (provisional_over l) e.event
unfolding versions_over provisional_over
is_there h full [] e v log part m makes = absurd m
is_there h full (g ∷ l) e v log part m makes = elim m [
  | inl here ↦
      let made : MakesVersion h v g g.event = subst (λ (f : Entry). MakesVersion h v f f.event) here makes in
      subst (λ (f : Entry). IsThere h v (versions_after (versions_over l) (provisional_over l) g.event) (provisional_after (provisional_over l) g.event) f.event) (sym here)
      (new_event h v (versions_over l) (provisional_over l) g g.event (log.fits g (part g (inl refl))) made)
  | inr later ↦
      there_event h v (versions_over l) (versions_after (versions_over l) (provisional_over l) g.event) (provisional_over l) (provisional_after (provisional_over l) g.event) e.event
      (stay_event h full l g g.event v refl log.apart part log.fits (log.fits g (part g (inl refl))))
      (either_event h full l g v log part)
      (is_there h full l e v log (λ f n. part f (inr n)) later makes)
]
