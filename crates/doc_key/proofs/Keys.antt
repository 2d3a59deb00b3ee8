-- Keys: what is read is spelled so, what is spelled is read.
use Rattle.std.proofs.Common.{◌≡◌, ℕ, ◌+◌, ◌-◌, ◌^◌, ◌<◌, ◌≤◌, true, cond, eqb, leb, ◌&&◌, IsTrue, List, [], ◌∷◌, ◌++◌, length, Result, Ok, Err, refl, sym, ap, subst, ◌∙◌, append_assoc, arith, inl, inr}
use Rattle.std.specs.Prelude.{IfOk}
use Rattle.std.specs.List.{list_all}
use Rattle.std.specs.Int.{w16, to_be_bytes}
use Rattle.std.proofs.lemmas.Bool.{eqb-true, eq-eqb, le-leb, leb-true, and_parts}
use Rattle.std.proofs.lemmas.List.{append-nil}
use Rattle.std.proofs.lemmas.Nat.{xor_lt, mod_below}
use Rattle.doc_value.specs.declared.key_refusal.KeyRefusal.{KeyRefusal}
use Rattle.doc_value.specs.declared.key_refusal.KeyRefusal.TheVariants.{BadHash}
use Rattle.doc_value.specs.declared.primitive.Primitive.{Primitive}
use Rattle.doc_value.specs.Reading.{Read, ◌>>=◌, Gives, offset, number_at, ended, IsBytes}
use Rattle.doc_value.proofs.Steps.{IsBytes-behind, bind_ok, chosen, ok_is, wide16, number_takes, number_again}
use Rattle.doc_key.specs.declared.doc_key.DocKey.{DocKey}
use Rattle.doc_key.specs.Hash.{word, fnv, hash_of}
use Rattle.doc_key.specs.Spelling.{columns, is_column, spelling, has_spelling, IsInRange}
use Rattle.doc_key.specs.Reading.{columns_at, group_at, hashed_key_at, plain_key_at, key_at, key_of}
use Rattle.doc_key.proofs.Columns.{TakesGroup, other_tag, columns_take, columns_again, group_takes, group_again, group_has_tag, no_bytes_no_group}

word-lt : (place n : ℕ) → word place n < 2 ^ 16
word-lt place n = mod_below _ _ (omega arith)

pub hash_of-lt : (bytes : List ℕ) → hash_of bytes < 2 ^ 16
hash_of-lt bytes =
    let h = fnv bytes in
    xor_lt 16 _ _ (xor_lt 16 _ _ (xor_lt 16 _ _ (word-lt 48 h) (word-lt 32 h)) (word-lt 16 h)) (word-lt 0 h)

-- the key was taken from the front of the bytes
pub record TakesKey (bytes : List ℕ) (key : DocKey) (rest : List ℕ) : Type 0 where
  pub in_range : IsInRange key
  pub has : IsTrue (has_spelling key)
  pub parts : bytes ≡ spelling key ++ rest

abbrev FoundKey : List ℕ → DocKey × List ℕ → Type 0
FoundKey bytes x = TakesKey bytes x.0 x.1

abbrev pub key_with : List Primitive → List Primitive → DocKey
key_with hashed range = record { hashed = hashed; range = range }

spelled_key : (hashed range : List Primitive) → list_all is_column hashed ≡ true → list_all is_column range ≡ true → 1 ≤ length hashed + length range → length hashed + length range ≤ 8
    → IsTrue (has_spelling (key_with hashed range))
spelled_key hashed range h r some few = rw (h, r, le-leb 1 (length hashed + length range) some, le-leb (length hashed + length range) 8 few) refl

plain_found : (whole : ℕ) (bytes : List ℕ) (x : DocKey × List ℕ) → IsBytes bytes → plain_key_at whole bytes ≡ Ok x → FoundKey bytes x
unfolding plain_key_at
plain_found whole bytes x fits e =
    let a = bind_ok (group_at whole bytes) (λ range. Ok (key_with [] range.0, range.1)) x e in
    let g = group_takes whole bytes a.0 fits a.1 in
    let range : List Primitive = g.0 ∷ g.1 in
    let t : TakesGroup 8 bytes range a.0.1 = g.3 in
    let found : FoundKey bytes (key_with [] range, a.0.1) = record {
      in_range = record { hashed = tt; range = t.in_range };
      has = spelled_key [] range refl t.column (omega arith) (omega (arith, t.few));
      parts = t.parts ∙ sym (append_assoc (columns range) (0x21 ∷ []) a.0.1);
    } in
    subst (FoundKey bytes) (ap (λ (cs : List Primitive). (key_with [] cs, a.0.1)) (sym g.2) ∙ ok_is (key_with [] a.0.0, a.0.1) x a.2) found

-- the parts of a key with hashed columns, one after another
regroup : (hash hashed range rest : List ℕ) → (0x47 ∷ (hash ++ (hashed ++ 0x21 ∷ []))) ++ (range ++ 0x21 ∷ []) ++ rest ≡ 0x47 ∷ (hash ++ (hashed ++ 0x21 ∷ (range ++ 0x21 ∷ rest)))
regroup hash hashed range rest = simp append_assoc

abbrev with_range : List Primitive → List Primitive × List ℕ → Result (DocKey × List ℕ) KeyRefusal
with_range hashed range = Ok (key_with hashed range.0, range.1)

abbrev range_after : ℕ → List ℕ → ℕ → List Primitive × List ℕ → Read (List Primitive)
range_after whole bytes hash hashed = cond (eqb hash (hash_of (columns hashed.0))) (columns_at whole (8 - length hashed.0) hashed.1) (Err (BadHash (offset whole bytes)))

hashed_found : (whole : ℕ) (bytes : List ℕ) (x : DocKey × List ℕ) → IsBytes bytes → hashed_key_at whole bytes ≡ Ok x → FoundKey (0x47 ∷ bytes) x
unfolding hashed_key_at
hashed_found whole bytes x fits e =
    let a = bind_ok (number_at w16 whole bytes) (λ hash. group_at whole hash.1 >>= λ hashed. range_after whole bytes hash.0 hashed >>= with_range hashed.0) x e in
    let b = bind_ok (group_at whole a.0.1) (λ hashed. range_after whole bytes a.0.0 hashed >>= with_range hashed.0) x a.2 in
    let c = bind_ok (range_after whole bytes a.0.0 b.0) (with_range b.0.0) x b.2 in
    let t = number_takes w16 (2 ^ 16) wide16 whole bytes a.0.0 a.0.1 fits a.1 in
    let fits_group = IsBytes-behind bytes (to_be_bytes w16 a.0.0) a.0.1 t.0 fits in
    let g = group_takes whole a.0.1 b.0 fits_group b.1 in
    let h : TakesGroup 8 a.0.1 (g.0 ∷ g.1) b.0.1 = g.3 in
    let fits_range = IsBytes-behind a.0.1 (columns (g.0 ∷ g.1) ++ 0x21 ∷ []) b.0.1 (h.parts ∙ sym (append_assoc (columns (g.0 ∷ g.1)) (0x21 ∷ []) b.0.1)) fits_group in
    elim (chosen (eqb a.0.0 (hash_of (columns b.0.0))) (columns_at whole (8 - length b.0.0) b.0.1) (Err (BadHash (offset whole bytes))) (Ok c.0) c.1) [
      | inl d ↦
          let r = columns_take whole (8 - length b.0.0) b.0.1 c.0.0 c.0.1 fits_range d.1 in
          let hash : a.0.0 ≡ hash_of (columns (g.0 ∷ g.1)) = eqb-true _ _ d.0 ∙ ap (λ (cs : List Primitive). hash_of (columns cs)) g.2 in
          let count : length b.0.0 ≡ length (g.0 ∷ g.1) = ap length g.2 in
          let found : FoundKey (0x47 ∷ bytes) (key_with (g.0 ∷ g.1) c.0.0, c.0.1) = record {
            in_range = record { hashed = h.in_range; range = r.in_range };
            has = spelled_key (g.0 ∷ g.1) c.0.0 h.column r.column (omega arith) (omega (arith, h.few, r.few, count));
            parts =
                ap (λ (u : List ℕ). 0x47 ∷ u) (t.0 ∙ ap (λ (u : List ℕ). to_be_bytes w16 a.0.0 ++ u) (h.parts ∙ ap (λ (u : List ℕ). columns (g.0 ∷ g.1) ++ 0x21 ∷ u) r.parts))
                ∙ ap (λ (n : ℕ). 0x47 ∷ (to_be_bytes w16 n ++ (columns (g.0 ∷ g.1) ++ 0x21 ∷ (columns c.0.0 ++ 0x21 ∷ c.0.1)))) hash
                ∙ sym (regroup (to_be_bytes w16 (hash_of (columns (g.0 ∷ g.1)))) (columns (g.0 ∷ g.1)) (columns c.0.0) c.0.1);
          } in
          subst (FoundKey (0x47 ∷ bytes)) (ap (λ (cs : List Primitive). (key_with cs c.0.0, c.0.1)) (sym g.2) ∙ ok_is (key_with b.0.0 c.0.0, c.0.1) x c.2) found
      | inr d ↦ absurd cc
    ]

key_found : (whole : ℕ) (bytes : List ℕ) (x : DocKey × List ℕ) → IsBytes bytes → key_at whole bytes ≡ Ok x → FoundKey bytes x
unfolding key_at
key_found whole [] x fits e = absurd cc
key_found whole (tag ∷ bytes) x fits e =
    elim (chosen (eqb tag 0x47) (hashed_key_at whole bytes) (plain_key_at whole (tag ∷ bytes)) (Ok x) e) [
      | inl a ↦ subst (λ (t : ℕ). FoundKey (t ∷ bytes) x) (sym (eqb-true tag 0x47 a.0)) (hashed_found whole bytes x (IsBytes-behind (tag ∷ bytes) (tag ∷ []) bytes refl fits) a.1)
      | inr a ↦ plain_found whole (tag ∷ bytes) x fits a.1
    ]

pub key_takes : (whole : ℕ) (bytes : List ℕ) (key : DocKey) (rest : List ℕ) → IsBytes bytes → key_at whole bytes ≡ Ok (key, rest) → TakesKey bytes key rest
key_takes whole bytes key rest fits e = key_found whole bytes (key, rest) fits e

-- ---- what is spelled is read

-- what the test of a spelling tells
pub record IsSpelled (hashed range : List Primitive) : Type 0 where
  pub hashed_columns : list_all is_column hashed ≡ true
  pub range_columns : list_all is_column range ≡ true
  pub some : 1 ≤ length hashed + length range
  pub few : length hashed + length range ≤ 8

pub is_spelled : (hashed range : List Primitive) → IsTrue (has_spelling (key_with hashed range)) → IsSpelled hashed range
is_spelled hashed range has =
    let few = and_parts (list_all is_column hashed && list_all is_column range && leb 1 (length hashed + length range)) (leb (length hashed + length range) 8) has in
    let some = and_parts (list_all is_column hashed && list_all is_column range) (leb 1 (length hashed + length range)) few.0 in
    let both = and_parts (list_all is_column hashed) (list_all is_column range) some.0 in
    record { hashed_columns = both.0; range_columns = both.1; some = leb-true _ _ some.1; few = leb-true _ _ few.1 }

plain_step : (whole : ℕ) (bytes : List ℕ) (x : List Primitive × List ℕ) → group_at whole bytes ≡ Ok x → key_at whole bytes ≡ Ok (key_with [] x.0, x.1)
unfolding key_at plain_key_at
plain_step whole [] x e = absurd (no_bytes_no_group whole x e)
plain_step whole (tag ∷ bytes) x e =
    let plain = other_tag tag 0x47 (group_has_tag whole tag bytes x e) refl in
    rw (plain, e) refl

hashed_again : (whole : ℕ) (c : Primitive) (cs range : List Primitive) (rest : List ℕ) → IsInRange (key_with (c ∷ cs) range) → IsSpelled (c ∷ cs) range
    → hashed_key_at whole (to_be_bytes w16 (hash_of (columns (c ∷ cs))) ++ (columns (c ∷ cs) ++ 0x21 ∷ (columns range ++ 0x21 ∷ rest))) ≡ Ok (key_with (c ∷ cs) range, rest)
unfolding hashed_key_at
hashed_again whole c cs range rest in_range spelled =
    let hash : ℕ = hash_of (columns (c ∷ cs)) in
    let behind : List ℕ = columns range ++ 0x21 ∷ rest in
    let same : eqb (hash_of (columns (c ∷ cs))) (hash_of (columns (c ∷ cs))) ≡ true = eq-eqb _ _ refl in
    rw (
      number_again w16 (2 ^ 16) wide16 whole hash (columns (c ∷ cs) ++ 0x21 ∷ behind) (hash_of-lt (columns (c ∷ cs))),
      group_again whole c cs behind in_range.hashed spelled.hashed_columns (omega (arith, spelled.few)),
      same,
      columns_again whole (8 - length (c ∷ cs)) range rest in_range.range spelled.range_columns (omega (arith, spelled.few)),
    ) refl

key_again_with : (whole : ℕ) (hashed range : List Primitive) (rest : List ℕ) → IsInRange (key_with hashed range) → IsSpelled hashed range
    → key_at whole (spelling (key_with hashed range) ++ rest) ≡ Ok (key_with hashed range, rest)
unfolding key_at
key_again_with whole [] [] rest in_range spelled = absurd (omega (arith, spelled.some))
key_again_with whole [] (c ∷ cs) rest in_range spelled =
    ap (key_at whole) (append_assoc (columns (c ∷ cs)) (0x21 ∷ []) rest)
    ∙ plain_step whole (columns (c ∷ cs) ++ 0x21 ∷ rest) (c ∷ cs, rest) (group_again whole c cs rest in_range.range spelled.range_columns (omega (arith, spelled.few)))
key_again_with whole (c ∷ cs) range rest in_range spelled =
    ap (key_at whole) (regroup (to_be_bytes w16 (hash_of (columns (c ∷ cs)))) (columns (c ∷ cs)) (columns range) rest)
    ∙ hashed_again whole c cs range rest in_range spelled

pub key_again : (whole : ℕ) (key : DocKey) (rest : List ℕ) → IsInRange key → IsTrue (has_spelling key) → key_at whole (spelling key ++ rest) ≡ Ok (key, rest)
key_again whole key rest in_range has = key_again_with whole key.hashed key.range rest in_range (is_spelled key.hashed key.range has)

pub no_spelling_begins : (p q : DocKey) (x y : List ℕ) → IsInRange p → IsInRange q → IsTrue (has_spelling p) → IsTrue (has_spelling q)
    → spelling p ++ x ≡ spelling q ++ y → (p ≡ q) × (x ≡ y)
no_spelling_begins p q x y p_in q_in p_has q_has e =
    let same = ok_is (p, x) (q, y) (sym (key_again 0 p x p_in p_has) ∙ ap (key_at 0) e ∙ key_again 0 q y q_in q_has) in
    (ap (λ (t : DocKey × List ℕ). t.0) same, ap (λ (t : DocKey × List ℕ). t.1) same)

-- ---- all of the bytes

ended_ok : (whole : ℕ) (x : DocKey × List ℕ) (key : DocKey) → ended whole x ≡ Ok key → x ≡ (key, [])
unfolding ended
ended_ok whole (k, []) key e = ap (λ (w : DocKey). (w, [])) (ok_is k key e)
ended_ok whole (k, b ∷ rest) key e = absurd cc

all_takes : (bytes : List ℕ) (key : DocKey) → IsBytes bytes → key_of bytes ≡ Ok key → IsInRange key × IsTrue (has_spelling key) × (bytes ≡ spelling key)
unfolding key_of
all_takes bytes key fits e =
    let a = bind_ok (key_at (length bytes) bytes) (ended (length bytes)) key e in
    let t : TakesKey bytes key [] = subst (FoundKey bytes) (ended_ok (length bytes) a.0 key a.2) (key_found (length bytes) bytes a.0 fits a.1) in
    (t.in_range, t.has, t.parts ∙ append-nil (spelling key))

pub all_again : (key : DocKey) → IsInRange key → IsTrue (has_spelling key) → key_of (spelling key) ≡ Ok key
unfolding key_of ended
all_again key in_range has =
    let whole : ℕ = length (spelling key) in
    let read : key_at whole (spelling key) ≡ Ok (key, []) = ap (key_at whole) (sym (append-nil (spelling key))) ∙ key_again whole key [] in_range has in
    ap (λ (r : Result (DocKey × List ℕ) KeyRefusal). r >>= ended whole) read

pub is_found : (bytes : List ℕ) (r : Result DocKey KeyRefusal) → IsBytes bytes → Gives (λ (k : DocKey). k) r (key_of bytes)
    → IfOk r (λ key. IsInRange key × IsTrue (has_spelling key) × (bytes ≡ spelling key))
is_found bytes (Ok key) fits given = all_takes bytes key fits given
is_found bytes (Err e) fits given = tt

pub is_only : (bytes : List ℕ) (r : Result DocKey KeyRefusal) (key : DocKey) → IsInRange key → IsTrue (has_spelling key) → bytes ≡ spelling key
    → Gives (λ (k : DocKey). k) r (key_of bytes) → Gives (λ (k : DocKey). k) r (Ok key)
is_only bytes r key in_range has e given = subst (Gives (λ (k : DocKey). k) r) (ap key_of e ∙ all_again key in_range has) given
