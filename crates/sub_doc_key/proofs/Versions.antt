-- Versioned keys: what is read is spelled so, what is spelled is read.
use Rattle.std.proofs.Common.{◌≡◌, ℕ, ◌^◌, ◌<◌, List, [], ◌∷◌, ◌++◌, length, Result, Ok, Err, refl, sym, ap, subst, ◌∙◌, append_assoc, arith}
use Rattle.std.specs.Prelude.{IfOk}
use Rattle.std.specs.List.{concat}
use Rattle.std.specs.Int.{w32, w64, bit_not, to_be_bytes}
use Rattle.std.proofs.lemmas.List.{append-nil}
use Rattle.doc_path.specs.Path.{Parts}
use Rattle.doc_value.specs.declared.key_refusal.KeyRefusal.{KeyRefusal}
use Rattle.doc_value.specs.Reading.{◌>>=◌, Gives, onto, number_at, ended, IsBytes}
use Rattle.doc_value.proofs.Steps.{IsBytes-behind, bind_ok, ok_is, onto_ok, wide32, wide64, number_takes, number_again}
use Rattle.sub_doc_key.specs.declared.sub_doc_key.SubDocKey.{SubDocKey}
use Rattle.sub_doc_key.specs.Spelling.{downward, suffix, spelling, IsSpelledPath, HasSpelling}
use Rattle.sub_doc_key.specs.Reading.{first_at, subkeys_at, version_at, versioned_at, versioned_of}
use Rattle.sub_doc_key.proofs.Paths.{first_takes, first_again, subkeys_take, subkeys_again}

abbrev key_of : Parts → ℕ → ℕ → SubDocKey
key_of path at number = record { path = path; at = at; number = number }

twice64 : (n : ℕ) → n < 2 ^ 64 → bit_not w64 (bit_not w64 n) ≡ n
twice64 n lt = omega arith

twice32 : (n : ℕ) → n < 2 ^ 32 → bit_not w32 (bit_not w32 n) ≡ n
twice32 n lt = omega arith

pub below64 : (n : ℕ) → bit_not w64 n < 2 ^ 64
below64 n = omega arith

pub below32 : (n : ℕ) → bit_not w32 n < 2 ^ 32
below32 n = omega arith

-- ---- the suffix

pub record TakesVersion (path : Parts) (bytes : List ℕ) (key : SubDocKey) (rest : List ℕ) : Type 0 where
  pub path_is : path ≡ key.path
  pub at : key.at < 2 ^ 64
  pub number : key.number < 2 ^ 32
  pub parts : bytes ≡ downward w64 key.at ++ (downward w32 key.number ++ rest)

version_takes : (whole : ℕ) (path : Parts) (bytes : List ℕ) (x : SubDocKey × List ℕ) → IsBytes bytes → version_at whole path bytes ≡ Ok x → TakesVersion path bytes x.0 x.1
unfolding version_at
version_takes whole path bytes x fits e =
    let a = bind_ok (number_at w64 whole bytes) (λ at. number_at w32 whole at.1 >>= λ number. Ok (key_of path (bit_not w64 at.0) (bit_not w32 number.0), number.1)) x e in
    let t = number_takes w64 (2 ^ 64) wide64 whole bytes a.0.0 a.0.1 fits a.1 in
    let b = bind_ok (number_at w32 whole a.0.1) (λ number. Ok (key_of path (bit_not w64 a.0.0) (bit_not w32 number.0), number.1)) x a.2 in
    let u = number_takes w32 (2 ^ 32) wide32 whole a.0.1 b.0.0 b.0.1 (IsBytes-behind bytes (to_be_bytes w64 a.0.0) a.0.1 t.0 fits) b.1 in
    subst (λ (y : SubDocKey × List ℕ). TakesVersion path bytes y.0 y.1) (ok_is (key_of path (bit_not w64 a.0.0) (bit_not w32 b.0.0), b.0.1) x b.2) (record {
      path_is = refl;
      at = below64 a.0.0;
      number = below32 b.0.0;
      parts =
          t.0
          ∙ ap (λ (n : ℕ). to_be_bytes w64 n ++ a.0.1) (sym (twice64 a.0.0 t.1))
          ∙ ap (λ (r : List ℕ). downward w64 (bit_not w64 a.0.0) ++ r) (u.0 ∙ ap (λ (n : ℕ). to_be_bytes w32 n ++ b.0.1) (sym (twice32 b.0.0 u.1)));
    })

version_again : (whole : ℕ) (path : Parts) (at number : ℕ) (rest : List ℕ) → at < 2 ^ 64 → number < 2 ^ 32
    → version_at whole path (downward w64 at ++ (downward w32 number ++ rest)) ≡ Ok (key_of path at number, rest)
unfolding version_at
version_again whole path at number rest at_lt number_lt =
    rw (
      number_again w64 (2 ^ 64) wide64 whole (bit_not w64 at) (downward w32 number ++ rest) (below64 at),
      number_again w32 (2 ^ 32) wide32 whole (bit_not w32 number) rest (below32 number),
      twice64 at at_lt,
      twice32 number number_lt,
    ) refl

-- ---- the key

-- the parts of a spelling, one after another
regroup : (first subkeys at number rest : List ℕ) → ((first ++ subkeys) ++ 0x23 ∷ (at ++ number)) ++ rest ≡ first ++ (subkeys ++ 0x23 ∷ (at ++ (number ++ rest)))
regroup first subkeys at number rest = simp append_assoc

-- the key was taken from the front of the bytes
pub record TakesKey (bytes : List ℕ) (key : SubDocKey) (rest : List ℕ) : Type 0 where
  pub has : HasSpelling key
  pub parts : bytes ≡ spelling key ++ rest

pub versioned_takes : (whole : ℕ) (bytes : List ℕ) (x : SubDocKey × List ℕ) → IsBytes bytes → versioned_at whole bytes ≡ Ok x → TakesKey bytes x.0 x.1
unfolding versioned_at
versioned_takes whole bytes x fits e =
    let a = bind_ok (first_at whole bytes) (λ first. onto first.0 (subkeys_at whole 4 first.1) >>= λ path. version_at whole path.0 path.1) x e in
    let f = first_takes whole bytes a.0 fits a.1 in
    let fits_subkeys = IsBytes-behind bytes f.first a.0.1 f.parts fits in
    let b = bind_ok (onto a.0.0 (subkeys_at whole 4 a.0.1)) (λ path. version_at whole path.0 path.1) x a.2 in
    let o = onto_ok a.0.0 (subkeys_at whole 4 a.0.1) b.0.0 b.0.1 b.1 in
    let s = subkeys_take whole 4 a.0.1 o.0 b.0.1 fits_subkeys o.1 in
    let fits_version = IsBytes-behind a.0.1 (concat o.0 ++ 0x23 ∷ []) b.0.1 (s.parts ∙ sym (append_assoc (concat o.0) (0x23 ∷ []) b.0.1)) fits_subkeys in
    let v = version_takes whole b.0.0 b.0.1 x fits_version b.2 in
    let path_is : x.0.path ≡ f.first ∷ o.0 = sym v.path_is ∙ sym o.2 ∙ ap (λ (p : Parts). p ++ o.0) f.is in
    record {
      has = record {
        path = subst IsSpelledPath (sym path_is) (f.spelled, s.spelled, s.few);
        at = v.at;
        number = v.number;
      };
      parts =
          f.parts
          ∙ ap (λ (r : List ℕ). f.first ++ r) (s.parts ∙ ap (λ (r : List ℕ). concat o.0 ++ 0x23 ∷ r) v.parts)
          ∙ sym (regroup f.first (concat o.0) (downward w64 x.0.at) (downward w32 x.0.number) x.1)
          ∙ ap (λ (p : Parts). (concat p ++ suffix x.0.at x.0.number) ++ x.1) (sym path_is);
    }

again_with : (whole : ℕ) (path : Parts) (at number : ℕ) (rest : List ℕ) → IsSpelledPath path → at < 2 ^ 64 → number < 2 ^ 32
    → versioned_at whole (spelling (key_of path at number) ++ rest) ≡ Ok (key_of path at number, rest)
unfolding versioned_at
again_with whole [] at number rest spelled at_lt number_lt = absurd spelled
again_with whole (first ∷ subkeys) at number rest spelled at_lt number_lt =
    let behind : List ℕ = downward w64 at ++ (downward w32 number ++ rest) in
    ap (versioned_at whole) (regroup first (concat subkeys) (downward w64 at) (downward w32 number) rest)
    ∙ rw (
      first_again whole first (concat subkeys ++ 0x23 ∷ behind) spelled.0,
      subkeys_again whole 4 subkeys behind spelled.1 spelled.2,
      version_again whole (first ∷ subkeys) at number rest at_lt number_lt,
    ) refl

pub versioned_again : (whole : ℕ) (key : SubDocKey) (rest : List ℕ) → HasSpelling key → versioned_at whole (spelling key ++ rest) ≡ Ok (key, rest)
versioned_again whole key rest has = again_with whole key.path key.at key.number rest has.path has.at has.number

pub no_spelling_begins : (p q : SubDocKey) (x y : List ℕ) → HasSpelling p → HasSpelling q → spelling p ++ x ≡ spelling q ++ y → (p ≡ q) × (x ≡ y)
no_spelling_begins p q x y p_has q_has e =
    let same = ok_is (p, x) (q, y) (sym (versioned_again 0 p x p_has) ∙ ap (versioned_at 0) e ∙ versioned_again 0 q y q_has) in
    (ap (λ (t : SubDocKey × List ℕ). t.0) same, ap (λ (t : SubDocKey × List ℕ). t.1) same)

-- ---- all of the bytes

ended_ok : (whole : ℕ) (x : SubDocKey × List ℕ) (key : SubDocKey) → ended whole x ≡ Ok key → x ≡ (key, [])
unfolding ended
ended_ok whole (k, []) key e = ap (λ (w : SubDocKey). (w, [])) (ok_is k key e)
ended_ok whole (k, b ∷ rest) key e = absurd cc

all_takes : (bytes : List ℕ) (key : SubDocKey) → IsBytes bytes → versioned_of bytes ≡ Ok key → HasSpelling key × (bytes ≡ spelling key)
unfolding versioned_of
all_takes bytes key fits e =
    let a = bind_ok (versioned_at (length bytes) bytes) (ended (length bytes)) key e in
    let t : TakesKey bytes key [] = subst (λ (y : SubDocKey × List ℕ). TakesKey bytes y.0 y.1) (ended_ok (length bytes) a.0 key a.2) (versioned_takes (length bytes) bytes a.0 fits a.1) in
    (t.has, t.parts ∙ append-nil (spelling key))

all_again : (key : SubDocKey) → HasSpelling key → versioned_of (spelling key) ≡ Ok key
unfolding versioned_of ended
all_again key has =
    let whole : ℕ = length (spelling key) in
    let read : versioned_at whole (spelling key) ≡ Ok (key, []) = ap (versioned_at whole) (sym (append-nil (spelling key))) ∙ versioned_again whole key [] has in
    ap (λ (r : Result (SubDocKey × List ℕ) KeyRefusal). r >>= ended whole) read

pub is_found : (bytes : List ℕ) (r : Result SubDocKey KeyRefusal) → IsBytes bytes → Gives (λ (k : SubDocKey). k) r (versioned_of bytes)
    → IfOk r (λ key. HasSpelling key × (bytes ≡ spelling key))
is_found bytes (Ok key) fits given = all_takes bytes key fits given
is_found bytes (Err e) fits given = tt

pub is_only : (bytes : List ℕ) (r : Result SubDocKey KeyRefusal) (key : SubDocKey) → HasSpelling key → bytes ≡ spelling key
    → Gives (λ (k : SubDocKey). k) r (versioned_of bytes) → Gives (λ (k : SubDocKey). k) r (Ok key)
is_only bytes r key has e given = subst (Gives (λ (k : SubDocKey). k) r) (ap versioned_of e ∙ all_again key has) given
