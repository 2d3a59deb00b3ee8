-- Looking up what is kept.
use Rattle.std.proofs.Common.{◌≡◌, ℕ, Bool, cond, nat_eq, List, Some, None, sym, ap, ◌∙◌, inl, inr, arith}
use Rattle.std.specs.Prelude.{option_map}
use Rattle.std.specs.Ordering.{is_eq, nat_cmp}
use Rattle.std.proofs.lemmas.Bool.Decides.{nat_tests, eqb_tells}
use Rattle.status_tablet.specs.declared.txn_record.TxnRecord.{TxnRecord}
use Rattle.status_tablet.specs.Keeps.{kept_at}

pub at_is : (m n : ℕ) → is_eq (nat_cmp m n) ≡ nat_eq m n
at_is m n = grind (arith, nat_tests)

-- what is written back through an entry
pub rewritten : (f : TxnRecord → TxnRecord) (old : List (ℕ × TxnRecord)) (y x : ℕ) (kept new : TxnRecord) → Some kept ≡ kept_at old y → new ≡ f kept
    → cond (nat_eq y x) (Some new) (kept_at old x) ≡ cond (nat_eq y x) (option_map f (kept_at old x)) (kept_at old x)
rewritten f old y x kept new was is = elim (eqb_tells y x) [
  | inl (e, same) ↦
      let there : kept_at old x ≡ Some kept = ap (kept_at old) (sym same) ∙ sym was in
      ap (λ (b : Bool). cond b (Some new) (kept_at old x)) e ∙ ap Some is ∙ sym (ap (option_map f) there)
      ∙ sym (ap (λ (b : Bool). cond b (option_map f (kept_at old x)) (kept_at old x)) e)
  | inr (e, other) ↦
      ap (λ (b : Bool). cond b (Some new) (kept_at old x)) e ∙ sym (ap (λ (b : Bool). cond b (option_map f (kept_at old x)) (kept_at old x)) e)
]

-- where there is no entry
pub unwritten : (f : TxnRecord → TxnRecord) (old : List (ℕ × TxnRecord)) (y x : ℕ) → None ≡ kept_at old y
    → kept_at old x ≡ cond (nat_eq y x) (option_map f (kept_at old x)) (kept_at old x)
unwritten f old y x was = elim (eqb_tells y x) [
  | inl (e, same) ↦
      let there : kept_at old x ≡ None = ap (kept_at old) (sym same) ∙ sym was in
      there ∙ sym (ap (option_map f) there) ∙ sym (ap (λ (b : Bool). cond b (option_map f (kept_at old x)) (kept_at old x)) e)
  | inr (e, other) ↦ sym (ap (λ (b : Bool). cond b (option_map f (kept_at old x)) (kept_at old x)) e)
]
