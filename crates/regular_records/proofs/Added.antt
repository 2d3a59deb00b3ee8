-- Versions that are added one after another: the newest is the newest of the list.
use Rattle.std.proofs.Common.{◌≡◌, ℕ, Bool, true, false, ◌&&◌, ◌||◌, List, [], ◌∷◌, ◌++◌, Option, Some, None, if◌then◌else◌, nat_lt, nat_eq, refl, sym, ap, ◌∙◌, inl, inr}
use Rattle.std.specs.Prelude.{nat_le}
use Rattle.doc_path.specs.Path.{Parts, is_prefix, path_order}
use Rattle.txn_data.specs.declared.version.Version.{Version}
use Rattle.txn_types.specs.Tablet.{version_before, not_after, with_version, with_versions}
use Rattle.regular_records.specs.Records.{later, deciding, newest}
use Rattle.regular_records.specs.Holding.{AreApart}
use Rattle.regular_records.specs.Adding.{Replaces}
use Rattle.regular_records.proofs.Order.{before-trans, before-total, before-itself}
use Rattle.regular_records.proofs.Newest.{later-none-back, later-assoc, newest_of_both}
use Rattle.regular_records.proofs.Among.{IsNewestAmong, decides, newest-among, newest-unique}
use Rattle.regular_records.proofs.Placed.{OnePlace, apart-from, with-replaces, apart-with_version, with_versions-cons, with_versions-nil}

true-not-false : true ≡ false → ⊥
true-not-false h = cc

decides-place : (t : ℕ) (p : Parts) (u v : Version) → OnePlace u v → decides t p u ≡ decides t p v
decides-place t p u v h = ap (λ q. nat_le u.at t && is_prefix q p) h.0 ∙ ap (λ n. nat_le n t && is_prefix v.path p) h.1

before-one : (u v : Version) → OnePlace u v → version_before u v ≡ true
before-one u v h =
    let F : Parts → ℕ → ℕ → Bool = λ q n m. nat_lt u.at n || (nat_eq u.at n && (nat_lt u.number m || (nat_eq u.number m && not_after (path_order u.path q)))) in
    ap (λ q. F q v.at v.number) (sym h.0) ∙ ap (λ n. F u.path n v.number) (sym h.1) ∙ ap (λ m. F u.path u.at m) (sym h.2) ∙ before-itself u

-- one version more, in the place of another or at the end
added-newest : (f : Version → Bool) (us new : List Version) (v : Version) (b : Bool) (o : Option Version) → Replaces v us new → f v ≡ b
    → ((u : Version) → OnePlace u v → f u ≡ f v) → IsNewestAmong f us o → IsNewestAmong f new (later o (if b then Some v else None))
added-newest f us new v true None r is same h =
    ((r v).1 (inl refl), is, λ u m g. elim ((r u).0 m) [ inl e ↦ rw e (before-itself v) | inr n ↦ absurd (h u n.0 g) ])
added-newest f us new v false None r is same h =
    λ u m g. elim ((r u).0 m) [ inl e ↦ absurd (true-not-false (sym g ∙ ap f e ∙ is)) | inr n ↦ h u n.0 g ]
added-newest f us new v false (Some x) r is same h = (
  (r x).1 (inr (h.0, apart-from x v (λ k. true-not-false (sym h.1 ∙ same x k ∙ is)))),
  h.1,
  λ u m g. elim ((r u).0 m) [ inl e ↦ absurd (true-not-false (sym g ∙ ap f e ∙ is)) | inr n ↦ h.2 u n.0 g ],
)
added-newest f us new v true (Some x) r is same h =
    let P : Bool → Type 0 = λ b. version_before x v ≡ b → IsNewestAmong f new (if b then Some v else Some x) in
    (elim (version_before x v) as P [
      | true ↦ λ b. ((r v).1 (inl refl), is, λ u m g. elim ((r u).0 m) [ inl e ↦ rw e (before-itself v) | inr n ↦ before-trans u x v (h.2 u n.0 g) b ])
      | false ↦ λ b. (
        (r x).1 (inr (h.0, apart-from x v (λ k. true-not-false (sym (before-one x v k) ∙ b)))),
        h.1,
        λ u m g. elim ((r u).0 m) [ inl e ↦ rw e (before-total x v b) | inr n ↦ h.2 u n.0 g ],
      )
    ]) refl

newest-with : (t : ℕ) (p : Parts) (us : List Version) (v : Version) → AreApart us → newest t p (with_version us v) ≡ later (newest t p us) (deciding t p v)
newest-with t p us v a =
    newest-unique (decides t p) (with_version us v) (apart-with_version v us a) (newest t p (with_version us v)) (later (newest t p us) (deciding t p v))
    (newest-among t p (with_version us v))
    (added-newest (decides t p) us (with_version us v) v (decides t p v) (newest t p us) (with-replaces v us a) refl (λ u k. decides-place t p u v k) (newest-among t p us))

later-none-right : (o : Option Version) → o ≡ later o None
later-none-right None = refl
later-none-right (Some x) = refl

newest-added : (t : ℕ) (p : Parts) (us vs : List Version) → AreApart us → newest t p (with_versions us vs) ≡ later (newest t p us) (newest t p vs)
unfolding newest
newest-added t p us [] a = ap (newest t p) (with_versions-nil us) ∙ later-none-right (newest t p us)
newest-added t p us (v ∷ vs) a =
    ap (newest t p) (with_versions-cons us v vs)
    ∙ newest-added t p (with_version us v) vs (apart-with_version v us a)
    ∙ ap (λ o. later o (newest t p vs)) (newest-with t p us v a)
    ∙ sym (later-assoc (newest t p us) (deciding t p v) (newest t p vs))

newest-none : (t : ℕ) (p : Parts) → newest t p [] ≡ None
unfolding newest
newest-none t p = refl

newest-alone : (t : ℕ) (p : Parts) (vs : List Version) → newest t p (with_versions [] vs) ≡ newest t p vs
newest-alone t p vs =
    newest-added t p [] vs tt
    ∙ ap (λ o. later o (newest t p vs)) (newest-none t p)
    ∙ later-none-back (newest t p vs)

-- behind others it does not matter whether versions were added one after another
pub newest-behind : (t : ℕ) (p : Parts) (us vs : List Version) → newest t p (us ++ with_versions [] vs) ≡ newest t p (us ++ vs)
newest-behind t p us vs =
    newest_of_both t p us (with_versions [] vs)
    ∙ ap (later (newest t p us)) (newest-alone t p vs)
    ∙ sym (newest_of_both t p us vs)
