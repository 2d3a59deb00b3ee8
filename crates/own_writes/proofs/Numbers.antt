-- Writes as versions, by their numbers: in that order they are the writes again, and more of them go to the end.
use Rattle.std.proofs.Common.{◌≡◌, ℕ, ◌<◌, ◌≤◌, ◌+◌, Bool, true, false, ◌&&◌, List, [], ◌∷◌, ◌++◌, nat_lt, nat_eq, length, refl, sym, ap, ◌∙◌, arith, append_assoc, append-nil, length-append}
use Rattle.std.specs.Prelude.{filter, map, nat_le}
use Rattle.std.proofs.lemmas.Bool.Decides.{nat_tests}
use Rattle.txn_data.specs.declared.version.Version.{Version}
use Rattle.txn_data.specs.declared.written.Written.{Written}
use Rattle.txn_types.specs.Lists.{sorted_by, inserted_by}
use Rattle.txn_types.specs.Tablet.{version_before, writes_at, with_version, with_versions}
use Rattle.own_writes.specs.Numbered.{version_of, numbered}

pub numbered-append : (n : ℕ) (us vs : List Written) → numbered n (us ++ vs) ≡ numbered n us ++ numbered (n + length us) vs
unfolding numbered
numbered-append n [] vs = let e : n + 0 ≡ n = omega arith in ap (λ k. numbered k vs) (sym e)
numbered-append n (u ∷ us) vs =
    let e : n + 1 + length us ≡ n + length (u ∷ us) = omega arith in
    ap (λ more. version_of n u ∷ more) (numbered-append (n + 1) us vs ∙ ap (λ k. numbered (n + 1) us ++ numbered k vs) e)

-- ## they are in order

kept : (n : ℕ) (ws : List Written) → filter (λ (v : Version). nat_le v.at 0) (numbered n ws) ≡ numbered n ws
unfolding numbered
kept n [] = refl
kept n (w ∷ ws) = ap (λ more. version_of n w ∷ more) (kept (n + 1) ws)

below_next : (n : ℕ) → nat_lt n (n + 1) ≡ true
below_next n = grind (arith, nat_tests)

first_stays : (n : ℕ) (w : Written) (ws : List Written) → inserted_by version_before (version_of n w) (numbered (n + 1) ws) ≡ version_of n w ∷ numbered (n + 1) ws
unfolding numbered inserted_by
first_stays n w [] = refl
first_stays n w (v ∷ ws) = rw (below_next n) refl

in_order : (n : ℕ) (ws : List Written) → sorted_by version_before (numbered n ws) ≡ numbered n ws
unfolding numbered sorted_by
in_order n [] = refl
in_order n (w ∷ ws) = rw (in_order (n + 1) ws) (first_stays n w ws)

again : (n : ℕ) (ws : List Written) → map (λ (v : Version). record { path = v.path; op = v.op }) (numbered n ws) ≡ ws
unfolding numbered
again n [] = refl
again n (w ∷ ws) = ap (λ more. w ∷ more) (again (n + 1) ws)

pub writes_again : (n : ℕ) (ws : List Written) → writes_at 0 (numbered n ws) ≡ ws
unfolding writes_at
writes_again n ws = rw (kept n ws, in_order n ws) (again n ws)

-- ## more of them

and-false : (b : Bool) → (b && false) ≡ false
and-false true = refl
and-false false = refl

apart_below : (k n : ℕ) → k < n → nat_eq k n ≡ false
apart_below k n h = grind (arith, nat_tests)

one_more : (k n : ℕ) (us : List Written) (w : Written) → k + length us ≤ n → with_version (numbered k us) (version_of n w) ≡ numbered k us ++ version_of n w ∷ []
unfolding numbered with_version
one_more k n [] w h = refl
one_more k n (u ∷ us) w h =
    let below : k < n = omega arith in
    let more : k + 1 + length us ≤ n = omega arith in
    rw (apart_below k n below, and-false) (ap (λ vs. version_of k u ∷ vs) (one_more (k + 1) n us w more))

numbered_one : (n : ℕ) (w : Written) → numbered n (w ∷ []) ≡ version_of n w ∷ []
unfolding numbered
numbered_one n w = refl

pub all_more : (n : ℕ) (us vs : List Written) → n ≡ length us → with_versions (numbered 0 us) (numbered n vs) ≡ numbered 0 (us ++ vs)
unfolding numbered with_versions
all_more n us [] e = ap (numbered 0) (sym (append-nil us))
all_more n us (v ∷ vs) e =
    let within : 0 + length us ≤ n = omega arith in
    let at_end : n ≡ 0 + length us = omega arith in
    let joined : with_version (numbered 0 us) (version_of n v) ≡ numbered 0 (us ++ v ∷ []) =
    one_more 0 n us v within ∙ ap (λ more. numbered 0 us ++ more) (sym (numbered_one n v)) ∙ ap (λ k. numbered 0 us ++ numbered k (v ∷ [])) at_end ∙ sym (numbered-append 0 us (v ∷ [])) in
    let longer : n + 1 ≡ length (us ++ v ∷ []) = omega (arith, length-append us (v ∷ [])) in
    ap (λ before. with_versions before (numbered (n + 1) vs)) joined ∙ all_more (n + 1) (us ++ v ∷ []) vs longer ∙ ap (numbered 0) (append_assoc us (v ∷ []) vs)
