-- Readers that take exactly what is spelled so, and readers that are made of them.
use Rattle.std.proofs.Common.{◌≡◌, ℕ, zero, suc, ◌+◌, ◌<◌, ◌≤◌, Bool, true, false, cond, ltb, List, [], ◌∷◌, ◌++◌, length, take, drop, Ok, Err, refl, sym, ap, subst, ◌∙◌, append_assoc, arith, inl, inr}
use Rattle.std.specs.List.{flat_map, AllByRecursion}
use Rattle.std.specs.Int.{Width, byte_len, from_be_bytes, to_be_bytes}
use Rattle.std.proofs.lemmas.Bool.{cases_lt, ltb-false, le-ltb, lt-ltb}
use Rattle.std.proofs.lemmas.List.{take_at, drop_at, take-append-drop, take-append-le, drop-append-le, length-append, length-take-le}
use Rattle.log_record.specs.declared.record_refusal.RecordRefusal.TheVariants.{BadLength, Truncated}
use Rattle.log_record.specs.Spelling.{is_within}
use Rattle.log_record.specs.Reading.{Read, Reader, ◌>>=◌, offset, ◌>>◌, made, each, sized, bytes_of, number_at, IsBytes}
use Rattle.log_record.proofs.Steps.{IsBytes-take, IsBytes-behind, bind_ok, chosen, ok_is, IsWide}

-- how what is read of all bytes follows from what is read of a front: `more` stands behind the front
abbrev pub Extends : {A : Type 0} → ℕ → List ℕ → Read A → Read A → Type 0
Extends whole more (Ok x) all = all ≡ Ok (x.0, x.1 ++ more)
Extends whole more (Err (Truncated at)) all = at ≡ whole
Extends whole more (Err e) all = all ≡ Err e

pub offset-more : (whole : ℕ) (bytes more : List ℕ) → offset (whole + length more) (bytes ++ more) ≡ offset whole bytes
offset-more whole bytes more = omega (arith, length-append bytes more)

pub extends_bind : {A B : Type 0} (whole : ℕ) (more : List ℕ) (r all : Read A) (f g : A × List ℕ → Read B) → Extends whole more r all
    → ((x : A × List ℕ) → Extends whole more (f x) (g (x.0, x.1 ++ more))) → Extends whole more (r >>= f) (all >>= g)
extends_bind whole more (Ok x) all f g h next = rw h (next x)
extends_bind whole more (Err (Truncated at)) all f g h next = h
extends_bind whole more (Err e) all f g h next = rw h refl

pub extends_cond : {A : Type 0} (whole : ℕ) (more : List ℕ) (b : Bool) (x y u v : Read A) → Extends whole more x u → Extends whole more y v → Extends whole more (cond b x y) (cond b u v)
extends_cond whole more true x y u v h k = h
extends_cond whole more false x y u v h k = k

-- what is read is spelled so, what is spelled so is read, and nothing that follows changes it
pub record Exact {A : Type 0} (read : Reader A) (spell : A → List ℕ) (Good : A → Type 0) : Type 0 where
  pub takes : (whole : ℕ) (bytes : List ℕ) (x : A) (rest : List ℕ) → IsBytes bytes → read whole bytes ≡ Ok (x, rest) → Good x × (bytes ≡ spell x ++ rest)
  pub again : (whole : ℕ) (x : A) (rest : List ℕ) → Good x → read whole (spell x ++ rest) ≡ Ok (x, rest)
  pub extends : (whole : ℕ) (bytes more : List ℕ) → Extends whole more (read whole bytes) (read (whole + length more) (bytes ++ more))

-- the same, said of its values in other words
pub exact_under : {A : Type 0} (f : Reader A) (s : A → List ℕ) (F G : A → Type 0) → Exact f s F → ((x : A) → F x → G x) → ((x : A) → G x → F x) → Exact f s G
exact_under f s F G ef to from = record {
  takes = λ whole bytes x rest fits e.
      let t = ef.takes whole bytes x rest fits e in
      (to x t.0, t.1);
  again = λ whole x rest good. ef.again whole x rest (from x good);
  extends = ef.extends;
}

-- ---- one field, and another one behind it

then_takes : {A B : Type 0} (f : Reader A) (g : Reader B) (sf : A → List ℕ) (sg : B → List ℕ) (F : A → Type 0) (G : B → Type 0) → Exact f sf F → Exact g sg G
    → (whole : ℕ) (bytes : List ℕ) (x : A × B) (rest : List ℕ) → IsBytes bytes → (f >> g) whole bytes ≡ Ok (x, rest) → (F x.0 × G x.1) × (bytes ≡ (sf x.0 ++ sg x.1) ++ rest)
then_takes {A = A} {B = B} f g sf sg F G ef eg whole bytes x rest fits e =
    let a = bind_ok (f whole bytes) (λ (u : A × List ℕ). g whole u.1 >>= λ (v : B × List ℕ). Ok ((u.0, v.0), v.1)) (x, rest) e in
    let b = bind_ok (g whole a.0.1) (λ (v : B × List ℕ). Ok ((a.0.0, v.0), v.1)) (x, rest) a.2 in
    let p = ok_is ((a.0.0, b.0.0), b.0.1) (x, rest) b.2 in
    let first = ef.takes whole bytes a.0.0 a.0.1 fits a.1 in
    let second = eg.takes whole a.0.1 b.0.0 b.0.1 (IsBytes-behind bytes (sf a.0.0) a.0.1 first.1 fits) b.1 in
    subst (λ (t : (A × B) × List ℕ). (F t.0.0 × G t.0.1) × (bytes ≡ (sf t.0.0 ++ sg t.0.1) ++ t.1)) p
    ((first.0, second.0), first.1 ∙ ap (λ (t : List ℕ). sf a.0.0 ++ t) second.1 ∙ sym (append_assoc (sf a.0.0) (sg b.0.0) b.0.1))

pub exact_then : {A B : Type 0} (f : Reader A) (g : Reader B) (sf : A → List ℕ) (sg : B → List ℕ) (F : A → Type 0) (G : B → Type 0) → Exact f sf F → Exact g sg G
    → Exact (f >> g) (λ (x : A × B). sf x.0 ++ sg x.1) (λ (x : A × B). F x.0 × G x.1)
exact_then {A = A} {B = B} f g sf sg F G ef eg = record {
  takes = then_takes f g sf sg F G ef eg;
  again = λ whole x rest good. rw (append_assoc (sf x.0) (sg x.1) rest, ef.again whole x.0 (sg x.1 ++ rest) good.0, eg.again whole x.1 rest good.1) refl;
  extends = λ whole bytes more.
      extends_bind whole more (f whole bytes) (f (whole + length more) (bytes ++ more)) (λ (u : A × List ℕ). g whole u.1 >>= λ (v : B × List ℕ). Ok ((u.0, v.0), v.1))
      (λ (u : A × List ℕ). g (whole + length more) u.1 >>= λ (v : B × List ℕ). Ok ((u.0, v.0), v.1)) (ef.extends whole bytes more)
      (λ u. extends_bind whole more (g whole u.1) (g (whole + length more) (u.1 ++ more)) (λ (v : B × List ℕ). Ok ((u.0, v.0), v.1)) (λ (v : B × List ℕ). Ok ((u.0, v.0), v.1))
      (eg.extends whole u.1 more) (λ v. refl));
}

-- ---- a value that is made of what is read

pub made_takes : {A B : Type 0} (f : Reader A) (make : A → B) (whole : ℕ) (bytes : List ℕ) (y : B) (rest : List ℕ) → made make f whole bytes ≡ Ok (y, rest) → (x : A) × (f whole bytes ≡ Ok (x, rest)) × (make x ≡ y)
made_takes {A = A} {B = B} f make whole bytes y rest e =
    let a = bind_ok (f whole bytes) (λ (u : A × List ℕ). Ok (make u.0, u.1)) (y, rest) e in
    let p = ok_is (make a.0.0, a.0.1) (y, rest) a.2 in
    (a.0.0, a.1 ∙ ap (λ (t : B × List ℕ). Ok (a.0.0, t.1)) p, ap (λ (t : B × List ℕ). t.0) p)

pub made_extends : {A B : Type 0} (f : Reader A) (make : A → B) (whole : ℕ) (bytes more : List ℕ) → Extends whole more (f whole bytes) (f (whole + length more) (bytes ++ more))
    → Extends whole more (made make f whole bytes) (made make f (whole + length more) (bytes ++ more))
made_extends {A = A} f make whole bytes more h =
    extends_bind whole more (f whole bytes) (f (whole + length more) (bytes ++ more)) (λ (u : A × List ℕ). Ok (make u.0, u.1)) (λ (u : A × List ℕ). Ok (make u.0, u.1)) h (λ u. refl)

-- where the parts of a value can be had back
pub exact_made : {A B : Type 0} (f : Reader A) (s : A → List ℕ) (F : A → Type 0) (make : A → B) (part : B → A) (G : B → Type 0) → Exact f s F
    → ((x : A) → F x → part (make x) ≡ x) → ((x : A) → F x → G (make x)) → ((y : B) → G y → F (part y)) → ((y : B) → G y → make (part y) ≡ y) → Exact (made make f) (λ y. s (part y)) G
exact_made {A = A} {B = B} f s F make part G ef back good parts all = record {
  takes = λ whole bytes y rest fits e.
      let m = made_takes f make whole bytes y rest e in
      let t = ef.takes whole bytes m.0 rest fits m.1 in
      (subst G m.2 (good m.0 t.0), t.1 ∙ ap (λ (x : A). s x ++ rest) (sym (back m.0 t.0) ∙ ap part m.2));
  again = λ whole y rest g. rw (ef.again whole (part y) rest (parts y g)) (ap (λ (z : B). Ok (z, rest)) (all y g));
  extends = λ whole bytes more. made_extends f make whole bytes more (ef.extends whole bytes more);
}

-- ---- so many, one after another

each_takes : {A : Type 0} (f : Reader A) (s : A → List ℕ) (F : A → Type 0) → Exact f s F
    → (n whole : ℕ) (bytes : List ℕ) (xs : List A) (rest : List ℕ) → IsBytes bytes → each f n whole bytes ≡ Ok (xs, rest) → (AllByRecursion F xs × (length xs ≡ n)) × (bytes ≡ flat_map s xs ++ rest)
unfolding each
each_takes {A = A} f s F ef zero whole bytes xs rest fits e =
    let p = ok_is ([], bytes) (xs, rest) e in
    subst (λ (t : List A × List ℕ). (AllByRecursion F t.0 × (length t.0 ≡ 0)) × (bytes ≡ flat_map s t.0 ++ t.1)) p ((tt, refl), refl)
each_takes {A = A} f s F ef (suc n) whole bytes xs rest fits e =
    let a = bind_ok (f whole bytes) (λ (u : A × List ℕ). each f n whole u.1 >>= λ (v : List A × List ℕ). Ok (u.0 ∷ v.0, v.1)) (xs, rest) e in
    let b = bind_ok (each f n whole a.0.1) (λ (v : List A × List ℕ). Ok (a.0.0 ∷ v.0, v.1)) (xs, rest) a.2 in
    let p = ok_is (a.0.0 ∷ b.0.0, b.0.1) (xs, rest) b.2 in
    let first = ef.takes whole bytes a.0.0 a.0.1 fits a.1 in
    let others = each_takes f s F ef n whole a.0.1 b.0.0 b.0.1 (IsBytes-behind bytes (s a.0.0) a.0.1 first.1 fits) b.1 in
    let is : bytes ≡ (s a.0.0 ++ flat_map s b.0.0) ++ b.0.1 = first.1 ∙ ap (λ (t : List ℕ). s a.0.0 ++ t) others.1 ∙ sym (append_assoc (s a.0.0) (flat_map s b.0.0) b.0.1) in
    let count : length (a.0.0 ∷ b.0.0) ≡ suc n = ap suc others.0.1 in
    subst (λ (t : List A × List ℕ). (AllByRecursion F t.0 × (length t.0 ≡ suc n)) × (bytes ≡ flat_map s t.0 ++ t.1)) p (((first.0, others.0.0), count), is)

each_again : {A : Type 0} (f : Reader A) (s : A → List ℕ) (F : A → Type 0) → Exact f s F
    → (n whole : ℕ) (xs : List A) (rest : List ℕ) → AllByRecursion F xs → length xs ≡ n → each f n whole (flat_map s xs ++ rest) ≡ Ok (xs, rest)
unfolding each
each_again f s F ef zero whole [] rest good count = refl
each_again f s F ef zero whole (x ∷ xs) rest good count = absurd (omega arith)
each_again f s F ef (suc n) whole [] rest good count = absurd (omega arith)
each_again f s F ef (suc n) whole (x ∷ xs) rest good count =
    let fewer : length xs ≡ n = omega arith in
    rw (append_assoc (s x) (flat_map s xs) rest, ef.again whole x (flat_map s xs ++ rest) good.0, each_again f s F ef n whole xs rest good.1 fewer) refl

each_extends : {A : Type 0} (f : Reader A) (s : A → List ℕ) (F : A → Type 0) → Exact f s F
    → (n whole : ℕ) (bytes more : List ℕ) → Extends whole more (each f n whole bytes) (each f n (whole + length more) (bytes ++ more))
unfolding each
each_extends f s F ef zero whole bytes more = refl
each_extends {A = A} f s F ef (suc n) whole bytes more =
    extends_bind whole more (f whole bytes) (f (whole + length more) (bytes ++ more)) (λ (u : A × List ℕ). each f n whole u.1 >>= λ (v : List A × List ℕ). Ok (u.0 ∷ v.0, v.1))
    (λ (u : A × List ℕ). each f n (whole + length more) u.1 >>= λ (v : List A × List ℕ). Ok (u.0 ∷ v.0, v.1)) (ef.extends whole bytes more)
    (λ u. extends_bind whole more (each f n whole u.1) (each f n (whole + length more) (u.1 ++ more)) (λ (v : List A × List ℕ). Ok (u.0 ∷ v.0, v.1)) (λ (v : List A × List ℕ). Ok (u.0 ∷ v.0, v.1))
    (each_extends f s F ef n whole u.1 more) (λ v. refl))

pub exact_each : {A : Type 0} (f : Reader A) (s : A → List ℕ) (F : A → Type 0) → Exact f s F → (n : ℕ) → Exact (each f n) (flat_map s) (λ (xs : List A). AllByRecursion F xs × (length xs ≡ n))
exact_each f s F ef n = record {
  takes = each_takes f s F ef n;
  again = λ whole xs rest good. each_again f s F ef n whole xs rest good.0 good.1;
  extends = each_extends f s F ef n;
}

-- ---- a number, and what has this size

pub exact_sized : {A : Type 0} (number : Reader ℕ) (sn : ℕ → List ℕ) (N : ℕ → Type 0) (least most : ℕ) (items : ℕ → Reader A) (s : A → List ℕ) (F : A → Type 0) (size : A → ℕ)
    → Exact number sn N → ((n : ℕ) → Exact (items n) s (λ (x : A). F x × (size x ≡ n)))
    → Exact (sized number least most items) (λ (x : A). sn (size x) ++ s x) (λ (x : A). N (size x) × F x × (is_within least most (size x) ≡ true))
exact_sized {A = A} number sn N least most items s F size en ei = record {
  takes = λ whole bytes x rest fits e.
      let a = bind_ok (number whole bytes) (λ (n : ℕ × List ℕ). cond (is_within least most n.0) (items n.0 whole n.1) (Err (BadLength (offset whole bytes)))) (x, rest) e in
      let n = en.takes whole bytes a.0.0 a.0.1 fits a.1 in
      elim (chosen (is_within least most a.0.0) (items a.0.0 whole a.0.1) (Err (BadLength (offset whole bytes))) (Ok (x, rest)) a.2) [
        | inl b ↦
            let t = (ei a.0.0).takes whole a.0.1 x rest (IsBytes-behind bytes (sn a.0.0) a.0.1 n.1 fits) b.1 in
            let is : bytes ≡ (sn a.0.0 ++ s x) ++ rest = n.1 ∙ ap (λ (u : List ℕ). sn a.0.0 ++ u) t.1 ∙ sym (append_assoc (sn a.0.0) (s x) rest) in
            rw t.0.1 ((n.0, t.0.0, b.0), is)
        | inr b ↦ absurd cc
      ];
  again = λ whole x rest good.
      rw (append_assoc (sn (size x)) (s x) rest, en.again whole (size x) (s x ++ rest) good.0, good.2) ((ei (size x)).again whole x rest (good.1, refl));
  extends = λ whole bytes more.
      extends_bind whole more (number whole bytes) (number (whole + length more) (bytes ++ more)) (λ (n : ℕ × List ℕ). cond (is_within least most n.0) (items n.0 whole n.1) (Err (BadLength (offset whole bytes))))
      (λ (n : ℕ × List ℕ). cond (is_within least most n.0) (items n.0 (whole + length more) n.1) (Err (BadLength (offset (whole + length more) (bytes ++ more))))) (en.extends whole bytes more)
      (λ n. extends_cond whole more (is_within least most n.0) _ _ _ _ ((ei n.0).extends whole n.1 more) (ap (λ (k : ℕ). Err (BadLength k)) (offset-more whole bytes more)));
}

-- ---- bytes and numbers

pub exact_bytes : (n : ℕ) → Exact (bytes_of n) (λ (bytes : List ℕ). bytes) (λ (bytes : List ℕ). length bytes ≡ n)
exact_bytes n = record {
  takes = λ whole bytes x rest fits e. elim (chosen (ltb (length bytes) n) (Err (Truncated whole)) (Ok (take n bytes, drop n bytes)) (Ok (x, rest)) e) [
    | inl a ↦ absurd cc
    | inr a ↦
        let p = ok_is (take n bytes, drop n bytes) (x, rest) a.1 in
        let long : n ≤ length bytes = ltb-false _ _ a.0 in
        subst (λ (t : List ℕ × List ℕ). (length t.0 ≡ n) × (bytes ≡ t.0 ++ t.1)) p (length-take-le n bytes long, sym (take-append-drop n bytes))
  ];
  again = λ whole x rest len.
      let long : ltb (length (x ++ rest)) n ≡ false = le-ltb _ _ (omega (arith, length-append x rest)) in
      rw (long, take_at x rest n len, drop_at x rest n len) refl;
  extends = λ whole bytes more. elim (cases_lt (length bytes) n) [
    | inl short ↦
        let cut : ltb (length bytes) n ≡ true = lt-ltb _ _ short in
        rw cut refl
    | inr long ↦
        let here : ltb (length bytes) n ≡ false = le-ltb _ _ long in
        let there : ltb (length (bytes ++ more)) n ≡ false = le-ltb _ _ (omega (arith, long, length-append bytes more)) in
        rw (here, there, take-append-le n bytes more long, drop-append-le n bytes more long) refl
  ];
}

number_takes : (w : Width) (limit : ℕ) → IsWide w limit → (whole : ℕ) (bytes : List ℕ) (n : ℕ) (rest : List ℕ) → IsBytes bytes → number_at w whole bytes ≡ Ok (n, rest) → (n < limit) × (bytes ≡ to_be_bytes w n ++ rest)
number_takes w limit wide whole bytes n rest fits e =
    let m = made_takes (bytes_of (byte_len w)) (from_be_bytes w) whole bytes n rest e in
    let t = (exact_bytes (byte_len w)).takes whole bytes m.0 rest fits m.1 in
    let front : IsBytes (take (length m.0) bytes) = IsBytes-take (length m.0) bytes fits in
    let is : take (length m.0) bytes ≡ m.0 = ap (take (length m.0)) t.1 ∙ take_at m.0 rest (length m.0) refl in
    let each_fits : IsBytes m.0 = subst IsBytes is front in
    (subst (λ (k : ℕ). k < limit) m.2 (wide.below m.0 each_fits), t.1 ∙ ap (λ (u : List ℕ). u ++ rest) (sym (wide.back m.0 t.0 each_fits) ∙ ap (to_be_bytes w) m.2))

pub exact_number : (w : Width) (limit : ℕ) → IsWide w limit → Exact (number_at w) (to_be_bytes w) (λ (n : ℕ). n < limit)
exact_number w limit wide = record {
  takes = number_takes w limit wide;
  again = λ whole n rest lt. rw ((exact_bytes (byte_len w)).again whole (to_be_bytes w n) rest (wide.len n), wide.again n lt) refl;
  extends = λ whole bytes more. made_extends (bytes_of (byte_len w)) (from_be_bytes w) whole bytes more ((exact_bytes (byte_len w)).extends whole bytes more);
}
