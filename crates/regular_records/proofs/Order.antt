-- The order of paths and of versions.
use Rattle.std.proofs.Common.{◌≡◌, ℕ, ◌<◌, Bool, true, false, ◌&&◌, ◌||◌, not, List, [], ◌∷◌, nat_lt, nat_eq, ◌≤◌, zero, suc, length, take, if◌then◌else◌, refl, sym, ap, ◌∙◌, arith, rules}
use Rattle.std.proofs.lemmas.Bool.Decides.{nat_tests}
use Rattle.std.proofs.lemmas.Cmp.{nat_list_cmp_total, lists_total}
use Rattle.std.proofs.lemmas.Map.Lookups.{exact_bytes}
use Rattle.std.specs.Cmp.{IsTotalOrder, upto, tied_itself}
use Rattle.std.specs.Cmp.Lexicographic.{slice_cmp}
use Rattle.std.specs.Cmp.Rules.{comparing}
use Rattle.std.specs.FinMap.{slice_cmp-IsAntisymmetric}
use Rattle.std.specs.Ordering.{nat_cmp, is_le, is_gt, on, then_cmp, ordering_then, ordering_reverse}
use Rattle.std.specs.declared.cmp.Ordering.{Ordering}
use Rattle.std.specs.declared.cmp.Ordering.TheVariants.{Less, Equal, Greater}
use Rattle.doc_path.specs.Path.{Parts, byte_order, path_order}
use Rattle.txn_data.specs.declared.version.Version.{Version}
use Rattle.regular_records.proofs.Prefix.{is_prefix-itself}
use Rattle.txn_types.specs.Tablet.{version_before, not_after, same_path, same_place}

abbrev pub parts_cmp : Parts → Parts → Ordering
parts_cmp = slice_cmp (slice_cmp nat_cmp)

pub parts_total : IsTotalOrder parts_cmp
parts_total = lists_total nat_list_cmp_total

byte_order-slice_cmp : (xs ys : List ℕ) → byte_order xs ys ≡ slice_cmp nat_cmp xs ys
byte_order-slice_cmp [] [] = refl
byte_order-slice_cmp [] (y ∷ ys) = refl
byte_order-slice_cmp (x ∷ xs) [] = refl
byte_order-slice_cmp (x ∷ xs) (y ∷ ys) = grind (arith, nat_tests, byte_order-slice_cmp xs ys)

pub path_order-cmp : (p q : Parts) → path_order p q ≡ parts_cmp p q
path_order-cmp [] [] = refl
path_order-cmp [] (b ∷ q) = refl
path_order-cmp (a ∷ p) [] = refl
path_order-cmp (a ∷ p) (b ∷ q) = grind (arith, byte_order-slice_cmp a b, path_order-cmp p q)

pub parts_exact : (p q : Parts) → parts_cmp p q ≡ Equal → p ≡ q
parts_exact p q = slice_cmp-IsAntisymmetric exact_bytes p q

-- versions by commit time, write number and path
abbrev pub version_cmp : Version → Version → Ordering
version_cmp = then_cmp (on (λ (v : Version). v.at) nat_cmp) (then_cmp (on (λ (v : Version). v.number) nat_cmp) (on (λ (v : Version). v.path) parts_cmp))

pub version_total : IsTotalOrder version_cmp
version_total = search (comparing, rules, parts_total)

not_after-is_le : (o : Ordering) → not_after o ≡ not (is_gt o)
not_after-is_le Less = refl
not_after-is_le Equal = refl
not_after-is_le Greater = refl

before-then : (a b c d : Bool) (o : Ordering)
    → (a || (b && (c || (d && not_after o)))) ≡ not (is_gt (ordering_then (if a then Less else (if b then Equal else Greater)) (ordering_then (if c then Less else (if d then Equal else Greater)) o)))
before-then true b c d o = refl
before-then false false c d o = refl
before-then false true true d o = refl
before-then false true false false o = refl
before-then false true false true o = not_after-is_le o

pub before-cmp : (u v : Version) → version_before u v ≡ not (is_gt (version_cmp u v))
before-cmp u v =
    before-then (nat_lt u.at v.at) (nat_eq u.at v.at) (nat_lt u.number v.number) (nat_eq u.number v.number) (path_order u.path v.path)
    ∙ ap (λ o. not (is_gt (ordering_then (nat_cmp u.at v.at) (ordering_then (nat_cmp u.number v.number) o)))) (path_order-cmp u.path v.path)

not-true : (b : Bool) → not b ≡ true → b ≡ false
not-true true h = cc
not-true false h = refl

not-false : (b : Bool) → not b ≡ false → b ≡ true
not-false true h = refl
not-false false h = cc

pub before-upto : (u v : Version) → version_before u v ≡ true → is_gt (version_cmp u v) ≡ false
before-upto u v h = not-true (is_gt (version_cmp u v)) (sym (before-cmp u v) ∙ h)

pub before-from : (u v : Version) → is_gt (version_cmp u v) ≡ false → version_before u v ≡ true
before-from u v h = before-cmp u v ∙ ap not h

pub before-trans : (u v w : Version) → version_before u v ≡ true → version_before v w ≡ true → version_before u w ≡ true
before-trans u v w h k = before-from u w (upto version_total u v w (before-upto u v h) (before-upto v w k))

turned : (o r : Ordering) → is_gt o ≡ true → o ≡ ordering_reverse r → is_gt r ≡ false
turned Less r h e = cc
turned Equal r h e = cc
turned Greater Less h e = refl
turned Greater Equal h e = cc
turned Greater Greater h e = cc

pub before-total : (u v : Version) → version_before u v ≡ false → version_before v u ≡ true
before-total u v h =
    before-from v u (turned (version_cmp u v) (version_cmp v u) (not-false (is_gt (version_cmp u v)) (sym (before-cmp u v) ∙ h)) (version_total.antisymm u v))

pub before-itself : (u : Version) → version_before u u ≡ true
before-itself u = before-from u u (ap is_gt (tied_itself version_total u))

shorter : (p : Parts) (a b : ℕ) → a < b → b ≤ length p → parts_cmp (take a p) (take b p) ≡ Less
shorter [] a b less fits = absurd (omega arith)
shorter (x ∷ p) a zero less fits = absurd (omega arith)
shorter (x ∷ p) zero (suc b) less fits = refl
shorter (x ∷ p) (suc a) (suc b) less fits =
    ap (λ o. ordering_then o (parts_cmp (take a p) (take b p))) (tied_itself nat_list_cmp_total x) ∙ shorter p a b (omega arith) (omega arith)

-- a shorter prefix comes first
pub take-less : (p : Parts) (a b : ℕ) → a < b → b ≤ length p → path_order (take a p) (take b p) ≡ Less
take-less p a b less fits = path_order-cmp (take a p) (take b p) ∙ shorter p a b less fits

equal-parts : (o r : Ordering) → ordering_then o r ≡ Equal → (o ≡ Equal) × (r ≡ Equal)
equal-parts Less r h = cc
equal-parts Equal r h = (refl, h)
equal-parts Greater r h = cc

level : (o r : Ordering) → is_gt o ≡ false → is_gt r ≡ false → o ≡ ordering_reverse r → o ≡ Equal
level Less Less h k e = cc
level Less Equal h k e = cc
level Less Greater h k e = cc
level Equal r h k e = refl
level Greater r h k e = cc

same_path-from : (p q : Parts) → p ≡ q → same_path p q ≡ true
same_path-from p q is = rw (is, is_prefix-itself q) refl

nat_same : (n : ℕ) → nat_eq n n ≡ true
nat_same n = grind (arith, nat_tests)

nat_equal : (a b : ℕ) → nat_cmp a b ≡ Equal → a ≡ b
nat_equal a b h = grind (arith, nat_tests)

-- versions that are each before the other have one place
pub before-place : (u v : Version) → version_before u v ≡ true → version_before v u ≡ true → same_place u v ≡ true
before-place u v h k =
    let equal = level (version_cmp u v) (version_cmp v u) (before-upto u v h) (before-upto v u k) (version_total.antisymm u v) in
    let first = equal-parts (nat_cmp u.at v.at) (ordering_then (nat_cmp u.number v.number) (parts_cmp u.path v.path)) equal in
    let second = equal-parts (nat_cmp u.number v.number) (parts_cmp u.path v.path) first.1 in
    let path = parts_exact u.path v.path second.1 in
    let at = nat_equal u.at v.at first.0 in
    let number = nat_equal u.number v.number second.0 in
    rw (path, at, number, is_prefix-itself v.path) (rw (nat_same v.at, nat_same v.number) refl)

is_le-not_gt : (o : Ordering) → not (is_gt o) ≡ is_le o
is_le-not_gt Less = refl
is_le-not_gt Equal = refl
is_le-not_gt Greater = refl

pub not_after-upto : (p q : Parts) → not_after (path_order p q) ≡ is_le (parts_cmp p q)
not_after-upto p q = ap not_after (path_order-cmp p q) ∙ not_after-is_le (parts_cmp p q) ∙ is_le-not_gt (parts_cmp p q)
