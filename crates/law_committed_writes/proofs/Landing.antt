-- One more entry of a tablet's log keeps the writes of a committed transaction.
use Rattle.std.proofs.Common.{◌≡◌, ℕ, Bool, true, false, not, List, [], ◌∷◌, Some, map, filter, refl, sym, ◌∙◌, ap, subst, inl, inr}
use Rattle.txn_data.specs.declared.request.Request.TheVariants as request
use Rattle.txn_data.specs.declared.version.Version.{Version}
use Rattle.txn_data.specs.declared.event.Event.{Event}
use Rattle.txn_data.specs.declared.event.Event.TheVariants.{Serve}
use Rattle.txn_data.specs.declared.entry.Entry.{Entry}
use Rattle.txn_types.specs.Lists.{Member}
use Rattle.txn_types.specs.History.{History}
use Rattle.txn_types.specs.Tablet.{Intent, is_of, version_at, provisional_over, provisional_after, versions_over, versions_after}
use Rattle.law_machines.proofs.Basics.{eq_cases, member_left, member_right, member_map, member_filter}
use Rattle.law_machines.proofs.Since.{IsLanding}
use Rattle.law_committed_writes.specs.Laws.{IsKept}
use Rattle.law_committed_writes.proofs.Versions.{with_old, withs_old, withs_new}

-- the entry makes this provisional write of the transaction
abbrev pub Makes : ℕ → Intent → Event → Type 0
Makes x p (Serve from (request.Write meta number path op read seen fates) r (Some w) append) = (meta.txn ≡ x) × (p ≡ record { meta = meta; number = number; path = path; op = op; wrote = w })
Makes x p event = ⊥

makes_txn : (x : ℕ) (p : Intent) (event : Event) → Makes x p event → p.meta.txn ≡ x
makes_txn x p (Serve from (request.Write meta number path op read seen fates) r (Some w) append) is = ap (λ (q : Intent). q.meta.txn) is.1 ∙ is.0
makes_txn x p event is = absurd is

-- what may land: an Apply of it at its commit time, and no Clean of it
abbrev pub Keeps : ℕ → ℕ → Event → Type 0
Keeps x c (Serve from (request.Apply y at) r time append) = y ≡ x → at ≡ c
Keeps x c (Serve from (request.Clean y) r time append) = y ≡ x → ⊥
Keeps x c event = Unit {0}

abbrev pub AllKept : ℕ → ℕ → History → Type 0
AllKept x c l = (e : Entry) → Member e l → (p : Intent) → Makes x p e.event → IsKept p c (provisional_over l) (versions_over l)

made_event : (x c : ℕ) (ps : List Intent) (vs : List Version) (event : Event) (p : Intent) → Makes x p event → IsKept p c (provisional_after ps event) (versions_after vs ps event)
made_event x c ps vs (Serve from (request.Write meta number path op read seen fates) r (Some w) append) p is =
    inl (member_right p ps ((record { meta = meta; number = number; path = path; op = op; wrote = w }) ∷ []) (inl is.1))
made_event x c ps vs event p is = absurd is

pub not_of : (b : Bool) → b ≡ false → not b ≡ true
not_of true is = cc
not_of false is = refl

kept_event : (x c : ℕ) (ps : List Intent) (vs : List Version) (event : Event) (p : Intent) → p.meta.txn ≡ x → Keeps x c event → IsKept p c ps vs → IsKept p c (provisional_after ps event) (versions_after vs ps event)
kept_event x c ps vs (Serve from (request.Write meta number path op read seen fates) r (Some w) append) p own keeps is = elim is [
  | inl here ↦ inl (member_left p ps ((record { meta = meta; number = number; path = path; op = op; wrote = w }) ∷ []) here)
  | inr v ↦ inr v
]
kept_event x c ps vs (Serve from (request.Single y path op seen fates) r (Some d) append) p own keeps is = elim is [
  | inl here ↦ inl here
  | inr v ↦ inr (with_old p.path c vs (record { path = path; at = d; wrote = d; number = 0; op = op }) v)
]
kept_event x c ps vs (Serve from (request.Apply y at) r time append) p own keeps is = elim is [
  | inl here ↦ elim (eq_cases p.meta.txn y) [
    | inl same ↦
        let v = withs_new vs (map (version_at at) (filter (is_of y) ps)) (version_at at p) (member_map (version_at at) p (filter (is_of y) ps) (member_filter (is_of y) p ps here same.0)) in
        inr (v.0, v.1, v.2, v.3 ∙ keeps (sym same.1 ∙ own))
    | inr other ↦ inl (member_filter (λ (q : Intent). not (is_of y q)) p ps here (not_of (is_of y p) other.0))
  ]
  | inr v ↦ inr (withs_old p.path c vs (map (version_at at) (filter (is_of y) ps)) v)
]
kept_event x c ps vs (Serve from (request.Clean y) r time append) p own keeps is = elim is [
  | inl here ↦ elim (eq_cases p.meta.txn y) [
    | inl same ↦ absurd (keeps (sym same.1 ∙ own))
    | inr other ↦ inl (member_filter (λ (q : Intent). not (is_of y q)) p ps here (not_of (is_of y p) other.0))
  ]
  | inr v ↦ inr v
]
kept_event x c ps vs event p own keeps is = is

pub kept_lands : (x c : ℕ) → IsLanding (AllKept x c) (Keeps x c)
unfolding provisional_over versions_over
kept_lands x c l e keeps all f m p makes = elim m [
  | inl is ↦ made_event x c (provisional_over l) (versions_over l) e.event p (subst (λ (g : Entry). Makes x p g.event) is makes)
  | inr more ↦ kept_event x c (provisional_over l) (versions_over l) e.event p (makes_txn x p f.event makes) keeps (all f more p makes)
]
