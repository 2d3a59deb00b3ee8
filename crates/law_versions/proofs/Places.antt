-- Versions of which none has the place of another stay as they are where one more comes.
use Rattle.std.proofs.Common.{◌≡◌, Bool, true, false, ◌&&◌, List, [], ◌∷◌, nat_eq, refl, sym, ◌∙◌, subst, inl, inr, if◌then◌else◌}
use Rattle.std.proofs.lemmas.Bool.{and_parts}
use Rattle.doc_path.specs.Path.{is_prefix}
use Rattle.txn_data.specs.declared.version.Version.{Version}
use Rattle.txn_types.specs.Lists.{Member}
use Rattle.txn_types.specs.Tablet.{same_path, same_place, with_version, with_versions}
use Rattle.law_machines.proofs.Basics.{eq_true}
use Rattle.law_committed_writes.proofs.Versions.{path_same, with_new}
use Rattle.law_write_order.proofs.Singles.{with_either}

pub place_is : (u v : Version) → same_place u v ≡ true → (u.path ≡ v.path) × (u.at ≡ v.at) × (u.number ≡ v.number)
place_is u v is =
    let a = and_parts (same_path u.path v.path && nat_eq u.at v.at) (nat_eq u.number v.number) is in
    let b = and_parts (same_path u.path v.path) (nat_eq u.at v.at) a.0 in
    let c = and_parts (is_prefix u.path v.path) (is_prefix v.path u.path) b.0 in
    (path_same u.path v.path c.0 c.1, eq_true u.at v.at b.1, eq_true u.number v.number a.1)

-- of two of these with one place both are one
abbrev pub Apart : (Version → Type 0) → Type 0
Apart G = (u v : Version) → G u → G v → same_place u v ≡ true → u ≡ v

abbrev pub AllOf : (Version → Type 0) → List Version → Type 0
AllOf G vs = (v : Version) → Member v vs → G v

keep_choice : (b : Bool) (x u v : Version) (us : List Version) → same_place u v ≡ b → (same_place u v ≡ true → u ≡ v) → Member x (u ∷ us) → (Member x us → Member x (with_version us v)) → Member x (if b then v ∷ us else u ∷ with_version us v)
keep_choice true x u v us same one m more = elim m [
  | inl here ↦ inl (here ∙ one same)
  | inr later ↦ inr later
]
keep_choice false x u v us same one m more = elim m [ inl here ↦ inl here | inr later ↦ inr (more later) ]

pub with_keeps : (G : Version → Type 0) → Apart G → (us : List Version) (v x : Version) → AllOf G us → G v → Member x us → Member x (with_version us v)
unfolding with_version
with_keeps G apart [] v x all new m = absurd m
with_keeps G apart (u ∷ us) v x all new m = keep_choice (same_place u v) x u v us refl (apart u v (all u (inl refl)) new) m (with_keeps G apart us v x (λ w n. all w (inr n)) new)

with_all : (G : Version → Type 0) (us : List Version) (v : Version) → AllOf G us → G v → AllOf G (with_version us v)
with_all G us v all new x m = elim (with_either us v x m) [
  | inl is ↦ subst G (sym is) new
  | inr old ↦ all x old
]

pub withs_keep : (G : Version → Type 0) → Apart G → (us vs : List Version) (x : Version) → AllOf G us → AllOf G vs → Member x us → Member x (with_versions us vs)
unfolding with_versions
withs_keep G apart us [] x all news m = m
withs_keep G apart us (v ∷ vs) x all news m =
    withs_keep G apart (with_version us v) vs x (with_all G us v all (news v (inl refl))) (λ w n. news w (inr n)) (with_keeps G apart us v x all (news v (inl refl)) m)

pub withs_make : (G : Version → Type 0) → Apart G → (us vs : List Version) (x : Version) → AllOf G us → AllOf G vs → Member x vs → Member x (with_versions us vs)
unfolding with_versions
withs_make G apart us [] x all news m = absurd m
withs_make G apart us (v ∷ vs) x all news m =
    let more = with_all G us v all (news v (inl refl)) in
    elim m [
      | inl here ↦ withs_keep G apart (with_version us v) vs x more (λ w n. news w (inr n)) (subst (λ (w : Version). Member w (with_version us v)) (sym here) (with_new us v))
      | inr later ↦ withs_make G apart (with_version us v) vs x more (λ w n. news w (inr n)) later
    ]
