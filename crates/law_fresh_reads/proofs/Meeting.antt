-- What a collect with a window met: a version in the window is met, and what is told of it is not earlier.
use Rattle.std.proofs.Common.{◌≡◌, ℕ, ◌≤◌, Bool, true, false, ◌&&◌, ◌||◌, List, [], ◌∷◌, Option, Some, None, nat_lt, nat_eq, refl, sym, subst, inl, inr, if◌then◌else◌, arith}
use Rattle.std.proofs.lemmas.Bool.{or_cases, and_parts, ltb-true, ltb-false}
use Rattle.doc_path.specs.Path.{Parts, path_order}
use Rattle.txn_data.specs.declared.append.Append.{Append}
use Rattle.txn_data.specs.declared.actor.Actor.TheVariants.{Tablet}
use Rattle.txn_data.specs.declared.fate_of.FateOf.{FateOf}
use Rattle.txn_data.specs.declared.met_at.MetAt.{MetAt}
use Rattle.txn_data.specs.declared.read_kind.ReadKind.{ReadKind}
use Rattle.txn_data.specs.declared.reply.Reply.{Reply}
use Rattle.txn_data.specs.declared.reply.Reply.TheVariants as reply
use Rattle.txn_data.specs.declared.request.Request.TheVariants as request
use Rattle.txn_data.specs.declared.version.Version.{Version}
use Rattle.txn_data.specs.declared.window.Window.{Window}
use Rattle.txn_types.specs.Lists.{Member}
use Rattle.txn_types.specs.History.{History}
use Rattle.txn_types.specs.Clock.{told_only, down_since}
use Rattle.txn_types.specs.Tablet.{not_after, is_met, better_met, met_in, collected, considered, provisional, versions, tablet_standing}
use Rattle.txn_types.specs.Run.{Serves}
use Rattle.law_machines.proofs.Basics.{eq_true}
use Rattle.law_values.proofs.Folded.{first_not}
use Rattle.law_visits.specs.Visits.{IsCollect, MeetsUpTo}

-- ## the greatest

either_choice : (b : Bool) (v : Version) (m : MetAt) → (b ≡ true → m.at ≤ v.at) → (b ≡ false → v.at ≤ m.at) → (v.at ≤ (if b then (record { at = v.at; path = v.path }) else m).at) × (m.at ≤ (if b then (record { at = v.at; path = v.path }) else m).at)
either_choice true v m yes_so not_so = (omega arith, yes_so refl)
either_choice false v m yes_so not_so = (not_so refl, omega arith)

better_both : (v : Version) (m : MetAt) → (v.at ≤ (better_met v (Some m)).at) × (m.at ≤ (better_met v (Some m)).at)
better_both v m =
    let tie = nat_eq m.at v.at && not_after (path_order v.path m.path) in
    either_choice (nat_lt m.at v.at || tie) v m
    (λ is. elim (or_cases (nat_lt m.at v.at) tie is) [
      | inl low ↦ let less = ltb-true m.at v.at low in omega (arith, less)
      | inr same ↦ let at = eq_true m.at v.at (and_parts (nat_eq m.at v.at) (not_after (path_order v.path m.path)) same).0 in omega (arith, at)
    ])
    (λ is. ltb-false m.at v.at (first_not (nat_lt m.at v.at) tie is))

better_self : (v : Version) (o : Option MetAt) → v.at ≤ (better_met v o).at
better_self v None = omega arith
better_self v (Some m) = (better_both v m).0

-- something was met, not earlier than this
abbrev pub Meets : ℕ → Option MetAt → Type 0
Meets at o = (m : MetAt) × (o ≡ Some m) × (at ≤ m.at)

here_choice : (b : Bool) (v : Version) (rest : Option MetAt) → b ≡ true → Meets v.at (if b then Some (better_met v rest) else rest)
here_choice true v rest is = (better_met v rest, refl, better_self v rest)
here_choice false v rest is = cc

later_choice : (b : Bool) (at : ℕ) (u : Version) (rest : Option MetAt) → Meets at rest → Meets at (if b then Some (better_met u rest) else rest)
later_choice true at u rest meets =
    let m = meets.0 in
    let low = meets.2 in
    subst (λ (o : Option MetAt). Meets at (Some (better_met u o))) (sym meets.1) (better_met u (Some m), refl, let up = (better_both u m).1 in omega (arith, low, up))
later_choice false at u rest meets = meets

pub is_there : (w : Window) (t : ℕ) (paths : List Parts) (vs : List Version) (v : Version) → Member v vs → is_met w t paths v ≡ true → Meets v.at (met_in w t paths vs)
unfolding met_in
is_there w t paths [] v m met = absurd m
is_there w t paths (u ∷ vs) v m met = elim m [
  | inl here ↦
      let met_u : is_met w t paths u ≡ true = subst (λ (z : Version). is_met w t paths z ≡ true) here met in
      subst (λ (z : Version). Meets z.at (if is_met w t paths u then Some (better_met u (met_in w t paths vs)) else met_in w t paths vs)) (sym here) (here_choice (is_met w t paths u) u (met_in w t paths vs) met_u)
  | inr later ↦ later_choice (is_met w t paths u) v.at u (met_in w t paths vs) (is_there w t paths vs v later met)
]

-- ## so it was told

told_met : (kind : ReadKind) (paths : List Parts) (t at final : ℕ) (vs : List Version) (o : Option MetAt) (answer : Reply) → Meets at o → answer ≡ collected kind paths t vs o → MeetsUpTo final answer → at ≤ final
told_met kind paths t at final vs o answer meets is up =
    let m = meets.0 in
    let low = meets.2 in
    let told : answer ≡ reply.Met m.at m.path = subst (λ (p : Option MetAt). answer ≡ collected kind paths t vs p) meets.1 is in
    let most : m.at ≤ final = subst (λ (r : Reply). MeetsUpTo final r) told up in
    omega (arith, low, most)

up_is : (d : Option ℕ) (answer r : Reply) → IsCollect answer → answer ≡ (tablet_standing d (told_only r)).reply → answer ≡ r
up_is (Some n) answer r of is = absurd (subst IsCollect is of)
up_is None answer r of is = is

-- a version in the window is not later than what was met in the end
pub met_up_to : (lease k : ℕ) (o : History) (reading own_txn : Option ℕ) (kind : ReadKind) (paths : List Parts) (t : ℕ) (w : Window) (fates : List FateOf) (answer : Reply) (time : Option ℕ) (append : Append) (v : Version) (final : ℕ) →
    Serves lease (Tablet k) o reading (request.Collect own_txn kind paths t (Some w) fates) answer time append → IsCollect answer → MeetsUpTo final answer → Member v (considered own_txn fates (provisional o) (versions o)) → is_met w t paths v ≡ true → v.at ≤ final
met_up_to lease k o reading own_txn kind paths t w fates answer time append v final served of up m met =
    let vs = considered own_txn fates (provisional o) (versions o) in
    told_met kind paths t v.at final vs (met_in w t paths vs) answer (is_there w t paths vs v m met) (up_is (down_since o) answer (collected kind paths t vs (met_in w t paths vs)) of served.replied) up
