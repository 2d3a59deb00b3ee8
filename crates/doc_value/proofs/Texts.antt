-- Texts: what is read is what was written, byte by byte.
use Rattle.std.proofs.Common.{◌≡◌, ℕ, zero, suc, List, [], ◌∷◌, ◌++◌, Ok, refl, sym, ap, ◌∙◌}
use Rattle.doc_value.specs.Spelling.{escaped}
use Rattle.doc_value.specs.Reading.{Read, onto, text_at}
use Rattle.doc_value.proofs.Steps.{onto_ok, onto-onto, ok_is}

pub text_again : (whole : ℕ) (text rest : List ℕ) → text_at whole (escaped text ++ 0 ∷ 0 ∷ rest) ≡ Ok (text, rest)
unfolding text_at
text_again whole [] rest = refl
text_again whole (zero ∷ text) rest = ap (onto (0 ∷ [])) (text_again whole text rest)
text_again whole (suc b ∷ text) rest = ap (onto (suc b ∷ [])) (text_again whole text rest)

pub text_takes : (whole : ℕ) (bytes text rest : List ℕ) → text_at whole bytes ≡ Ok (text, rest) → bytes ≡ escaped text ++ 0 ∷ 0 ∷ rest
unfolding text_at
text_takes whole [] text rest e = absurd cc
text_takes whole (suc b ∷ bytes) text rest e =
    let o = onto_ok (suc b ∷ []) (text_at whole bytes) text rest e in
    rw (← o.2) (ap (λ (t : List ℕ). suc b ∷ t) (text_takes whole bytes o.0 rest o.1))
text_takes whole (zero ∷ []) text rest e = absurd cc
text_takes whole (zero ∷ zero ∷ bytes) text rest e =
    let pair = ok_is ([], bytes) (text, rest) e in
    rw (← ap (λ (p : List ℕ × List ℕ). p.0) pair, ← ap (λ (p : List ℕ × List ℕ). p.1) pair) refl
text_takes whole (zero ∷ suc zero ∷ bytes) text rest e =
    let o = onto_ok (0 ∷ []) (text_at whole bytes) text rest e in
    rw (← o.2) (ap (λ (t : List ℕ). 0 ∷ 1 ∷ t) (text_takes whole bytes o.0 rest o.1))
text_takes whole (zero ∷ suc (suc b) ∷ bytes) text rest e = absurd cc

-- a step of the loop: what was read so far, and what reading the rest gives
pub text_more_byte : (whole : ℕ) (front bytes rest : List ℕ) (b : ℕ) (total : Read (List ℕ)) → (b ≡ 0 → ⊥) → bytes ≡ b ∷ rest
    → onto front (text_at whole bytes) ≡ total → onto (front ++ b ∷ []) (text_at whole rest) ≡ total
unfolding text_at
text_more_byte whole front bytes rest zero total some e so_far = absurd (some refl)
text_more_byte whole front bytes rest (suc b) total some e so_far =
    sym (onto-onto front (suc b ∷ []) (text_at whole rest)) ∙ ap (λ (t : List ℕ). onto front (text_at whole t)) (sym e) ∙ so_far
