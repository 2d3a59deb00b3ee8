-- From a Pending on, a transaction commits above the time that it was asked about.
use Rattle.std.proofs.Common.{◌≡◌, ℕ, ◌<◌, Bool, true, false, [], ◌∷◌, ◌++◌, Option, Some, None, nat_eq, refl, sym, ap, subst, inl, inr, ◌⊎◌, if◌then◌else◌}
use Rattle.txn_data.specs.declared.append.Append.TheVariants.{Nothing, Took, Failed}
use Rattle.txn_data.specs.declared.request.Request.TheVariants as request
use Rattle.txn_data.specs.declared.event.Event.{Event}
use Rattle.txn_data.specs.declared.event.Event.TheVariants.{Start, Ask, Serve, Hear, Tell, Restarted}
use Rattle.txn_data.specs.declared.entry.Entry.{Entry}
use Rattle.txn_types.specs.History.{History, was_logged}
use Rattle.law_machines.specs.Own.{piece, piece_after, effect, landed, StandsOver}
use Rattle.law_machines.proofs.Pieces.{HasFailed, piece_failed}
use Rattle.law_machines.proofs.Landed.{logged, failed_logged}
use Rattle.law_machines.proofs.Basics.{eq_true}
use Rattle.law_fates.proofs.Life.{Life, Fresh, Open, Finished, Dead, begun, finished, died, life_after, life, Commits}

-- it is open, or dead, or committed above t
abbrev pub Unseen : ℕ → Life → Type 0
Unseen t Fresh = ⊥
Unseen t Open = Unit {0}
Unseen t (Finished c) = t < c
Unseen t Dead = Unit {0}

abbrev pub AboveAt : ℕ → ℕ → Event → Type 0
AboveAt x t event = (c : ℕ) → Commits x c event → t < c

unseen_begun : (t : ℕ) (v : Life) → Unseen t v → Unseen t (begun v)
unseen_begun t Fresh un = absurd un
unseen_begun t Open un = tt
unseen_begun t (Finished c) un = un
unseen_begun t Dead un = tt

unseen_died : (t : ℕ) (v : Life) → Unseen t v → Unseen t (died v)
unseen_died t Fresh un = absurd un
unseen_died t Open un = tt
unseen_died t (Finished c) un = un
unseen_died t Dead un = tt

unseen_finished : (t c : ℕ) (v : Life) → t < c → Unseen t v → Unseen t (finished c v)
unseen_finished t c Fresh lt un = absurd un
unseen_finished t c Open lt un = lt
unseen_finished t c (Finished d) lt un = un
unseen_finished t c Dead lt un = tt

unseen_choice : (b : Bool) (t : ℕ) (v w : Life) → (b ≡ true → Unseen t w) → Unseen t v → Unseen t (if b then w else v)
unseen_choice true t v w new un = new refl
unseen_choice false t v w new un = un

unseen_step : (x t : ℕ) (v : Life) (event : Event) → AboveAt x t event → Unseen t v → Unseen t (life_after x v event)
unseen_step x t v (Serve from (request.Begin y isolation priority) r time append) above un = unseen_choice (nat_eq y x) t v (begun v) (λ is. unseen_begun t v un) un
unseen_step x t v (Serve from (request.Resolve y by priority) r time append) above un = unseen_choice (nat_eq y x) t v (died v) (λ is. unseen_died t v un) un
unseen_step x t v (Serve from (request.Commit y floor tablets) r (Some c) append) above un =
    unseen_choice (nat_eq y x) t v (finished c v) (λ is. unseen_finished t c v (above c (eq_true y x is, refl)) un) un
unseen_step x t v (Serve from (request.Abort y) r time append) above un = unseen_choice (nat_eq y x) t v (died v) (λ is. unseen_died t v un) un
unseen_step x t v event above un = un

abbrev pub PieceAbove : ℕ → ℕ → Option Entry → Type 0
PieceAbove x t None = Unit {0}
PieceAbove x t (Some p) = AboveAt x t p.event

pub record Promised (x t : ℕ) (o : History) : Type 0 where
  pub unseen : Unseen t (life x (logged (landed o)))
  pub piece_above : PieceAbove x t (piece o)

unseen_event : (x t : ℕ) (q : Option Entry) (e : Entry) (event : Event) (rest : History) → e.event ≡ event → (q ≡ None ⊎ ((p : Entry) × (q ≡ Some p) × (was_logged p.event ≡ true))) → AboveAt x t event →
    Unseen t (life x (logged rest)) → PieceAbove x t q → Unseen t (life x (logged (effect q e event ++ rest)))
unfolding life
unseen_event x t q e (Serve from asked r time Nothing) rest same some above un at =
    let l : was_logged e.event ≡ false = ap was_logged same in rw l un
unseen_event x t q e (Serve from asked r time Took) rest same some above un at =
    let l : was_logged e.event ≡ true = ap was_logged same in
    rw l (unseen_step x t (life x (logged rest)) e.event (subst (λ (ev : Event). AboveAt x t ev) (sym same) above) un)
unseen_event x t q e (Serve from asked r time Failed) rest same some above un at = un
unseen_event x t None e (Restarted from k) rest same some above un at = un
unseen_event x t (Some p) e (Restarted from true) rest same some above un at = elim some [
  | inl none ↦ cc
  | inr is ↦
      let same_p : p ≡ is.0 = cc in
      let l : was_logged p.event ≡ true = subst (λ (g : Entry). was_logged g.event ≡ true) (sym same_p) is.2 in
      rw l (unseen_step x t (life x (logged rest)) p.event at un)
]
unseen_event x t (Some p) e (Restarted from false) rest same some above un at = un
unseen_event x t q e (Start number line) rest same some above un at = un
unseen_event x t q e (Ask to asked) rest same some above un at = un
unseen_event x t q e (Hear from r) rest same some above un at = un
unseen_event x t q e (Tell number u) rest same some above un at = un

piece_step : (x t : ℕ) (q : Option Entry) (e : Entry) (event : Event) → e.event ≡ event → AboveAt x t event → PieceAbove x t q → PieceAbove x t (piece_after q e event)
piece_step x t q e (Serve from asked r time Failed) same above at = subst (λ (ev : Event). AboveAt x t ev) (sym same) above
piece_step x t q e (Serve from asked r time Nothing) same above at = at
piece_step x t q e (Serve from asked r time Took) same above at = at
piece_step x t q e (Restarted from k) same above at = tt
piece_step x t q e (Start number line) same above at = at
piece_step x t q e (Ask to asked) same above at = at
piece_step x t q e (Hear from r) same above at = at
piece_step x t q e (Tell number u) same above at = at

piece_some : (q : Option Entry) → ((p : Entry) → q ≡ Some p → HasFailed p.event) → (q ≡ None) ⊎ ((p : Entry) × (q ≡ Some p) × (was_logged p.event ≡ true))
piece_some None failed = inl refl
piece_some (Some p) failed = inr (p, refl, failed_logged p.event (failed p refl))

-- one more entry of the status tablet's own keeps it
pub promised_step : (x t : ℕ) (e : Entry) (o : History) → AboveAt x t e.event → Promised x t o → Promised x t (e ∷ o)
unfolding landed piece
promised_step x t e o above before = record {
  unseen = unseen_event x t (piece o) e e.event (landed o) refl (piece_some (piece o) (piece_failed o)) above before.unseen before.piece_above;
  piece_above = piece_step x t (piece o) e e.event refl above before.piece_above;
}

-- from an entry on, where each later commit is above
pub promised_from : (x t : ℕ) (j : Entry) (b o : History) → StandsOver j b o → Promised x t (j ∷ b) → ((e : Entry) (c : History) → StandsOver e c o → StandsOver j b c → AboveAt x t e.event) → Promised x t o
promised_from x t j b [] stands first above = absurd stands
promised_from x t j b (e ∷ o) stands first above = elim stands [
  | inl here ↦ subst (λ (g : Entry). Promised x t (g ∷ o)) (sym here.0) (subst (λ (l : History). Promised x t (j ∷ l)) (sym here.1) first)
  | inr deeper ↦ promised_step x t e o (above e o (inl (refl, refl)) deeper) (promised_from x t j b o deeper first (λ f c at below. above f c (inr at) below))
]
