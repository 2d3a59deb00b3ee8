-- What stands at the front of a text stays there, however much is put behind it.
use Rattle.std.proofs.Common.{◌≡◌, ℕ, List, ◌++◌, Result, Ok, Err, OnErr, OnOk, length, take, sym, ap, refl, ◌∙◌, arith, append_assoc, length-append}
use Rattle.std.proofs.lemmas.List.{length-take, take-append-le, take_at, take-take}

pub kept : (old mid new more : List ℕ) → mid ≡ old ++ more → take (length mid) new ≡ mid → take (length old) new ≡ old
kept old mid new more is same =
    sym (take-take (length old) (length mid) new (omega (arith, ap length is, length-append old more)))
    ∙ (ap (take (length old)) (same ∙ is) ∙ take_at old more (length old) refl)

pub behind : (old mid new a b : List ℕ) → mid ≡ old ++ a → new ≡ mid ++ b → new ≡ old ++ (a ++ b)
behind old mid new a b first second = second ∙ (ap (λ (t : List ℕ). t ++ b) first ∙ append_assoc old a b)

-- where a call fails
pub on_err : {T E : Type 0} (r : Result T E) (P : Type 0) → P → OnErr r P
on_err (Ok x) P p = tt
on_err (Err e) P p = p

pub kept_err : {T E : Type 0} (r : Result T E) (old mid new more : List ℕ) → mid ≡ old ++ more → OnErr r (take (length mid) new ≡ mid) → OnErr r (take (length old) new ≡ old)
kept_err (Ok x) old mid new more is p = tt
kept_err (Err e) old mid new more is p = kept old mid new more is p

pub kept_err2 : {T E : Type 0} (r : Result T E) (old one mid new a b : List ℕ) → one ≡ old ++ a → mid ≡ one ++ b
    → OnErr r (take (length mid) new ≡ mid) → OnErr r (take (length old) new ≡ old)
kept_err2 r old one mid new a b first second p = kept_err r old mid new (a ++ b) (behind old one mid a b first second) p

pub kept_err3 : {T E : Type 0} (r : Result T E) (old one two mid new a b c : List ℕ) → one ≡ old ++ a → two ≡ one ++ b → mid ≡ two ++ c
    → OnErr r (take (length mid) new ≡ mid) → OnErr r (take (length old) new ≡ old)
kept_err3 r old one two mid new a b c first second third p =
    kept_err2 r old two mid new (a ++ b) c (behind old one two a b first second) third p

pub on_ok : {T E : Type 0} (r : Result T E) (P : Type 0) → P → OnOk r P
on_ok (Ok x) P p = p
on_ok (Err e) P p = tt

-- a step more
pub front_more : (old out text : List ℕ) → take (length old) out ≡ old → take (length old) (out ++ text) ≡ old
front_more old out text front =
    take-append-le (length old) out text (omega (arith, ap length front, length-take (length old) out)) ∙ front

pub front_kept : (old out new : List ℕ) → take (length old) out ≡ old → take (length out) new ≡ out → take (length old) new ≡ old
front_kept old out new front same =
    sym (take-take (length old) (length out) new (omega (arith, ap length front, length-take (length old) out))) ∙ (ap (take (length old)) same ∙ front)
