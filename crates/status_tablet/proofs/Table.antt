-- What decisions read off what is kept.
use Rattle.std.proofs.Common.{◌≡◌, ℕ, Bool, true, false, cond, not, ◌&&◌, ◌||◌, nat_eq, filter, List, [], ◌∷◌, refl, ap, ◌∙◌}
use Rattle.std.specs.List.{list_all}
use Rattle.txn_types.specs.Lists.{has_number}
use Rattle.txn_types.specs.Status.{Record, NoRecord, Pending, Committed, AbortedBy, fate_told, may_forget}
use Rattle.status_tablet.specs.Keeps.{waiting, kept_of, fate_kept, forgets}

pub fate_same : (r : Record) (ns : List ℕ) (sure : Bool) → fate_kept (kept_of r ns sure) ≡ fate_told r
fate_same NoRecord ns sure = refl
fate_same (Pending priority) ns sure = refl
fate_same (Committed c tablets) ns sure = refl
fate_same (AbortedBy by) ns sure = refl

-- nothing is noted yet
pub waiting_all : (tablets : List ℕ) → waiting tablets [] ≡ tablets
waiting_all [] = refl
waiting_all (k ∷ ks) = ap (λ (rest : List ℕ). k ∷ rest) (waiting_all ks)

more_at : (k : ℕ) (rest after : List ℕ) (tablet : ℕ) (noted same : Bool) → nat_eq k tablet ≡ same → filter (λ j. not (nat_eq j tablet)) rest ≡ after
    → filter (λ j. not (nat_eq j tablet)) (cond (not noted) (k ∷ rest) rest) ≡ cond (not (same || noted)) (k ∷ after) after
more_at k rest after tablet true true is e = e
more_at k rest after tablet true false is e = e
more_at k rest after tablet false true is e = ap (λ (b : Bool). cond (not b) (k ∷ filter (λ j. not (nat_eq j tablet)) rest) (filter (λ j. not (nat_eq j tablet)) rest)) is ∙ e
more_at k rest after tablet false false is e =
    ap (λ (b : Bool). cond (not b) (k ∷ filter (λ j. not (nat_eq j tablet)) rest) (filter (λ j. not (nat_eq j tablet)) rest)) is ∙ ap (λ (xs : List ℕ). k ∷ xs) e

-- one more tablet is noted
pub waiting_more : (tablets ns : List ℕ) (tablet : ℕ) → filter (λ k. not (nat_eq k tablet)) (waiting tablets ns) ≡ waiting tablets (tablet ∷ ns)
waiting_more [] ns tablet = refl
waiting_more (k ∷ ks) ns tablet = more_at k (waiting ks ns) (waiting ks (tablet ∷ ns)) tablet (has_number k ns) (nat_eq k tablet) refl (waiting_more ks ns tablet)

-- no tablet but this one is waited for
only_at : (k : ℕ) (rest : List ℕ) (tablet : ℕ) (noted same after : Bool) → nat_eq k tablet ≡ same → list_all (λ j. nat_eq j tablet) rest ≡ after
    → list_all (λ j. nat_eq j tablet) (cond (not noted) (k ∷ rest) rest) ≡ ((same || noted) && after)
only_at k rest tablet true true after is e = e
only_at k rest tablet true false after is e = e
only_at k rest tablet false true after is e = ap (λ (b : Bool). b && list_all (λ j. nat_eq j tablet) rest) is ∙ e
only_at k rest tablet false false after is e = ap (λ (b : Bool). b && list_all (λ j. nat_eq j tablet) rest) is

pub waiting_only : (tablets ns : List ℕ) (tablet : ℕ) → list_all (λ k. nat_eq k tablet) (waiting tablets ns) ≡ list_all (λ k. has_number k (tablet ∷ ns)) tablets
waiting_only [] ns tablet = refl
waiting_only (k ∷ ks) ns tablet = only_at k (waiting ks ns) tablet (has_number k ns) (nat_eq k tablet) (list_all (λ j. has_number j (tablet ∷ ns)) ks) refl (waiting_only ks ns tablet)

pub forgets_same : (r : Record) (ns : List ℕ) (sure : Bool) (tablet : ℕ) → forgets (kept_of r ns sure) tablet ≡ may_forget sure (tablet ∷ ns) r
forgets_same NoRecord ns sure tablet = refl
forgets_same (Pending priority) ns sure tablet = refl
forgets_same (Committed c []) ns sure tablet = refl
forgets_same (Committed c (k ∷ ks)) ns sure tablet = ap (λ (b : Bool). sure && b) (waiting_only (k ∷ ks) ns tablet)
forgets_same (AbortedBy by) ns sure tablet = refl
