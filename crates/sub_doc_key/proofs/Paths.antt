-- Paths: what is read is spelled so, what is spelled is read.
use Rattle.std.proofs.Common.{◌≡◌, ℕ, zero, suc, ◌<◌, ◌≤◌, true, false, cond, eqb, List, [], ◌∷◌, ◌++◌, length, Ok, Err, refl, sym, ap, subst, ◌∙◌, append_assoc, arith, inl, inr}
use Rattle.std.specs.List.{concat, AllByRecursion}
use Rattle.std.proofs.lemmas.Bool.{eqb-true, false_from_ne_true}
use Rattle.doc_path.specs.Path.{Parts}
use Rattle.doc_value.specs.declared.key_refusal.KeyRefusal.TheVariants.{BadTag, TooMany}
use Rattle.doc_value.specs.declared.primitive.Primitive.{Primitive}
use Rattle.doc_value.specs.declared.primitive.Primitive.TheVariants.{Int, Text, False, True, Column}
use Rattle.doc_value.specs.Spelling.{spelling as value_spelling}
use Rattle.doc_value.specs.Reading.{◌>>=◌, onto, offset, value_at, IsBytes}
use Rattle.doc_value.proofs.Steps.{IsBytes-behind, bind_ok, chosen, ok_is, onto_ok}
use Rattle.doc_value.proofs.Values.{value_takes, value_again}
use Rattle.doc_key.specs.Spelling.{spelling as key_spelling}
use Rattle.doc_key.specs.Reading.{key_at}
use Rattle.doc_key.proofs.Keys.{key_takes, key_again}
use Rattle.sub_doc_key.specs.Spelling.{IsSpelledKey, IsSpelledValue}
use Rattle.sub_doc_key.specs.Reading.{before, is_subkey_tag, first_at, subkey_at, subkeys_at}
use Rattle.sub_doc_key.proofs.Fronts.{before_is}

-- ---- the document key

pub record TakesFirst (bytes : List ℕ) (path : Parts) (rest : List ℕ) : Type 0 where
  pub first : List ℕ
  pub spelled : IsSpelledKey first
  pub is : path ≡ first ∷ []
  pub parts : bytes ≡ first ++ rest

pub first_takes : (whole : ℕ) (bytes : List ℕ) (x : Parts × List ℕ) → IsBytes bytes → first_at whole bytes ≡ Ok x → TakesFirst bytes x.0 x.1
unfolding first_at
first_takes whole bytes x fits e =
    let a = bind_ok (key_at whole bytes) (λ key. Ok (before bytes key.1 ∷ [], key.1)) x e in
    let t = key_takes whole bytes a.0.0 a.0.1 fits a.1 in
    let front = before_is bytes (key_spelling a.0.0) a.0.1 t.parts in
    let x-is = ok_is (before bytes a.0.1 ∷ [], a.0.1) x a.2 in
    subst (λ (y : Parts × List ℕ). TakesFirst bytes y.0 y.1) x-is (record {
      first = key_spelling a.0.0;
      spelled = record { key = a.0.0; in_range = t.in_range; has = t.has; is = refl };
      is = ap (λ (p : List ℕ). p ∷ []) front;
      parts = t.parts;
    })

pub first_again : (whole : ℕ) (first rest : List ℕ) → IsSpelledKey first → first_at whole (first ++ rest) ≡ Ok (first ∷ [], rest)
unfolding first_at
first_again whole first rest spelled =
    let read : key_at whole (first ++ rest) ≡ Ok (spelled.key, rest) = ap (λ (t : List ℕ). key_at whole (t ++ rest)) spelled.is ∙ key_again whole spelled.key rest spelled.in_range spelled.has in
    rw (read, before_is (first ++ rest) first rest refl) refl

-- ---- one subkey

pub record TakesSubkey (bytes part rest : List ℕ) : Type 0 where
  pub spelled : IsSpelledValue part
  pub parts : bytes ≡ part ++ rest

pub subkey_takes : (whole : ℕ) (bytes : List ℕ) (x : List ℕ × List ℕ) → IsBytes bytes → subkey_at whole bytes ≡ Ok x → TakesSubkey bytes x.0 x.1
unfolding subkey_at
subkey_takes whole bytes x fits e =
    let a = bind_ok (value_at whole bytes) (λ value. Ok (before bytes value.1, value.1)) x e in
    let t = value_takes whole bytes a.0.0 a.0.1 fits a.1 in
    let front = before_is bytes (value_spelling a.0.0) a.0.1 t.parts in
    subst (λ (y : List ℕ × List ℕ). TakesSubkey bytes y.0 y.1) (ok_is (before bytes a.0.1, a.0.1) x a.2) (record {
      spelled = record { value = a.0.0; in_range = t.in_range; has = t.has; is = front };
      parts = t.parts ∙ ap (λ (p : List ℕ). p ++ a.0.1) (sym front);
    })

pub subkey_again : (whole : ℕ) (part rest : List ℕ) → IsSpelledValue part → subkey_at whole (part ++ rest) ≡ Ok (part, rest)
unfolding subkey_at
subkey_again whole part rest spelled =
    let read : value_at whole (part ++ rest) ≡ Ok (spelled.value, rest) = ap (λ (t : List ℕ). value_at whole (t ++ rest)) spelled.is ∙ value_again whole spelled.value rest spelled.in_range spelled.has in
    rw (read, before_is (part ++ rest) part rest refl) refl

-- a value begins with the tag of a subkey, which is above that of the suffix
pub record BeginsSubkey (part : List ℕ) : Type 0 where
  pub tag : ℕ
  pub others : List ℕ
  pub is_tag : is_subkey_tag tag ≡ true
  pub above : 0x23 < tag
  pub is : part ≡ tag ∷ others

value_begins : (value : Primitive) → BeginsSubkey (value_spelling value)
value_begins False = record { tag = 0x46; others = _; is_tag = refl; above = omega arith; is = refl }
value_begins (Int z) = record { tag = 0x49; others = _; is_tag = refl; above = omega arith; is = refl }
value_begins (Column n) = record { tag = 0x4B; others = _; is_tag = refl; above = omega arith; is = refl }
value_begins (Text text) = record { tag = 0x53; others = _; is_tag = refl; above = omega arith; is = refl }
value_begins True = record { tag = 0x54; others = _; is_tag = refl; above = omega arith; is = refl }

pub subkey_begins : (part : List ℕ) → IsSpelledValue part → BeginsSubkey part
subkey_begins part spelled = subst BeginsSubkey (sym spelled.is) (value_begins spelled.value)

-- ---- the subkeys of a path

-- the parts were taken from the front of the bytes, and the 23 behind them
pub record TakesSubkeys (most : ℕ) (bytes : List ℕ) (ps : Parts) (rest : List ℕ) : Type 0 where
  pub spelled : AllByRecursion IsSpelledValue ps
  pub few : length ps ≤ most
  pub parts : bytes ≡ concat ps ++ 0x23 ∷ rest

path_end : (most tag : ℕ) (bytes : List ℕ) (ps : Parts) (rest : List ℕ) → eqb tag 0x23 ≡ true → ◌≡◌ {A = Parts × List ℕ} ([], bytes) (ps, rest) → TakesSubkeys most (tag ∷ bytes) ps rest
path_end most tag bytes ps rest end is =
    subst (λ (p : Parts × List ℕ). TakesSubkeys most (tag ∷ bytes) p.0 p.1) is (record {
      spelled = tt;
      few = omega arith;
      parts = ap (λ (b : ℕ). b ∷ bytes) (eqb-true tag 0x23 end);
    })

path_with : (most : ℕ) (bytes part after : List ℕ) (ps : Parts) (rest : List ℕ) → TakesSubkey bytes part after → TakesSubkeys most after ps rest → TakesSubkeys (suc most) bytes (part ∷ ps) rest
path_with most bytes part after ps rest first others = record {
  spelled = (first.spelled, others.spelled);
  few = omega (arith, others.few);
  parts = first.parts ∙ ap (λ (t : List ℕ). part ++ t) others.parts ∙ sym (append_assoc part (concat ps) (0x23 ∷ rest));
}

pub subkeys_take : (whole room : ℕ) (bytes : List ℕ) (ps : Parts) (rest : List ℕ) → IsBytes bytes → subkeys_at whole room bytes ≡ Ok (ps, rest) → TakesSubkeys room bytes ps rest
unfolding subkeys_at
subkeys_take whole zero [] ps rest fits e = absurd cc
subkeys_take whole (suc room) [] ps rest fits e = absurd cc
subkeys_take whole zero (tag ∷ bytes) ps rest fits e =
    elim (chosen (eqb tag 0x23) (Ok ([], bytes)) (cond (is_subkey_tag tag) (Err (TooMany (offset whole (tag ∷ bytes)))) (Err (BadTag (offset whole (tag ∷ bytes))))) (Ok (ps, rest)) e) [
      | inl a ↦ path_end 0 tag bytes ps rest a.0 (ok_is ([], bytes) (ps, rest) a.1)
      | inr a ↦ elim (chosen (is_subkey_tag tag) (Err (TooMany (offset whole (tag ∷ bytes)))) (Err (BadTag (offset whole (tag ∷ bytes)))) (Ok (ps, rest)) a.1) [
        | inl b ↦ absurd cc
        | inr b ↦ absurd cc
      ]
    ]
subkeys_take whole (suc room) (tag ∷ bytes) ps rest fits e =
    elim (chosen (eqb tag 0x23) (Ok ([], bytes)) (subkey_at whole (tag ∷ bytes) >>= λ first. onto (first.0 ∷ []) (subkeys_at whole room first.1)) (Ok (ps, rest)) e) [
      | inl a ↦ path_end (suc room) tag bytes ps rest a.0 (ok_is ([], bytes) (ps, rest) a.1)
      | inr a ↦
          let b = bind_ok (subkey_at whole (tag ∷ bytes)) (λ first. onto (first.0 ∷ []) (subkeys_at whole room first.1)) (ps, rest) a.1 in
          let first = subkey_takes whole (tag ∷ bytes) b.0 fits b.1 in
          let o = onto_ok (b.0.0 ∷ []) (subkeys_at whole room b.0.1) ps rest b.2 in
          let others = subkeys_take whole room b.0.1 o.0 rest (IsBytes-behind (tag ∷ bytes) b.0.0 b.0.1 first.parts fits) o.1 in
          subst (λ (t : Parts). TakesSubkeys (suc room) (tag ∷ bytes) t rest) o.2 (path_with room (tag ∷ bytes) b.0.0 b.0.1 o.0 rest first others)
    ]

not_the_end : (tag : ℕ) → is_subkey_tag tag ≡ true → eqb tag 0x23 ≡ false
not_the_end tag subkey =
    false_from_ne_true (eqb tag 0x23) (λ same. let both : true ≡ false = sym subkey ∙ ap is_subkey_tag (eqb-true tag 0x23 same) in absurd cc)

subkeys_step : (whole room : ℕ) (bytes part after : List ℕ) → BeginsSubkey bytes → subkey_at whole bytes ≡ Ok (part, after)
    → subkeys_at whole (suc room) bytes ≡ onto (part ∷ []) (subkeys_at whole room after)
unfolding subkeys_at
subkeys_step whole room bytes part after begins e =
    let go_on = not_the_end begins.tag begins.is_tag in
    let read : subkey_at whole (begins.tag ∷ begins.others) ≡ Ok (part, after) = ap (subkey_at whole) (sym begins.is) ∙ e in
    ap (subkeys_at whole (suc room)) begins.is ∙ rw (go_on, read) refl

pub begins_with : (part rest : List ℕ) → BeginsSubkey part → BeginsSubkey (part ++ rest)
begins_with part rest begins = record { tag = begins.tag; others = begins.others ++ rest; is_tag = begins.is_tag; above = begins.above; is = ap (λ (t : List ℕ). t ++ rest) begins.is }

pub subkeys_again : (whole room : ℕ) (ps : Parts) (rest : List ℕ) → AllByRecursion IsSpelledValue ps → length ps ≤ room
    → subkeys_at whole room (concat ps ++ 0x23 ∷ rest) ≡ Ok (ps, rest)
unfolding subkeys_at
subkeys_again whole zero [] rest spelled few = refl
subkeys_again whole (suc room) [] rest spelled few = refl
subkeys_again whole zero (part ∷ ps) rest spelled few = absurd (omega arith)
subkeys_again whole (suc room) (part ∷ ps) rest spelled few =
    let behind : List ℕ = concat ps ++ 0x23 ∷ rest in
    ap (subkeys_at whole (suc room)) (append_assoc part (concat ps) (0x23 ∷ rest))
    ∙ subkeys_step whole room (part ++ behind) part behind (begins_with part behind (subkey_begins part spelled.0)) (subkey_again whole part behind spelled.0)
    ∙ ap (onto (part ∷ [])) (subkeys_again whole room ps rest spelled.1 (omega arith))
