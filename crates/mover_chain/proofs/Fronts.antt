-- The lines that a session started, against those of its plan.
use Rattle.std.proofs.Common.{◌≡◌, ℕ, true, false, List, [], ◌∷◌, ◌++◌, Option, Some, None, drop, length, refl, sym, ◌∙◌, ap, inl, inr, ◌⊎◌, nat_eq, ◌+◌, arith}
use Rattle.std.proofs.Math.Seq.{append_snoc, drop-append_seam, drop-length}
use Rattle.std.proofs.lemmas.List.{take-append-drop, same_from_push, append-nil, drop_all, length-append}
use Rattle.txn_data.specs.declared.command.Command.{Command}
use Rattle.txn_data.specs.declared.command.Command.TheVariants as command
use Rattle.txn_types.specs.Session.{Opened, IsOpen}
use Rattle.txn_types.specs.Script.{FollowsLines}
use Rattle.law_machines.proofs.Basics.{eq_refl, eq_cases}
use Rattle.mover_chain.specs.NextEvent.{session_starts, is_left}

-- they are the first ones of the plan, or all of them and then End
abbrev pub Front : List Command → List Command → Type 0
Front begun planned = ((more : List Command) × (begun ++ more ≡ planned)) ⊎ (begun ≡ planned ++ command.End ∷ [])

pub front_of : (begun planned : List Command) → FollowsLines begun planned → Front begun planned
front_of begun planned (inl front) = inl (drop (length begun) planned, ap (λ (l : List Command). l ++ drop (length begun) planned) front ∙ take-append-drop (length begun) planned)
front_of begun planned (inr all) = inr all

pub front_before : (begun : List Command) (line : Command) (planned : List Command) → Front (begun ++ line ∷ []) planned → Front begun planned
front_before begun line planned (inl front) = inl (line ∷ front.0, sym (append_snoc begun line front.0) ∙ front.1)
front_before begun line planned (inr all) = inl ([], append-nil begun ∙ (same_from_push begun planned line command.End all).0)

-- before a line was started, the session had an event left
end_is_left : (planned : List Command) (opened : Option Opened) → IsOpen opened → is_left (session_starts true planned planned opened) ≡ true
end_is_left planned None is = absurd is
end_is_left planned (Some x) is = rw (drop-length planned) (rw (eq_refl (length planned)) refl)

pub line_is_left : (begun planned : List Command) (line : Command) (opened : Option Opened) → Front (begun ++ line ∷ []) planned → (line ≡ command.End → IsOpen opened) → is_left (session_starts true begun planned opened) ≡ true
line_is_left begun planned line opened (inl front) may =
    let rest : drop (length begun) planned ≡ line ∷ front.0 = ap (drop (length begun)) (sym front.1 ∙ append_snoc begun line front.0) ∙ drop-append_seam begun (line ∷ front.0) in
    rw rest refl
line_is_left begun planned line opened (inr all) may =
    let same = same_from_push begun planned line command.End all in
    rw same.0 (end_is_left planned opened (may same.1))

-- after all lines, and End where a transaction was then open, none is left
pub none_is_left : (planned : List Command) (opened : Option Opened) → (opened ≡ None) → is_left (session_starts true planned planned opened) ≡ false
none_is_left planned opened closed = rw (drop-length planned) (rw (eq_refl (length planned)) (rw closed refl))

more_than : (n : ℕ) → nat_eq (n + 1) n ≡ false
more_than n = elim (eq_cases (n + 1) n) [ inl same ↦ absurd (let is = same.1 in omega (arith, is)) | inr other ↦ other.0 ]

pub ended_is_left : (planned : List Command) (opened : Option Opened) → is_left (session_starts true (planned ++ command.End ∷ []) planned opened) ≡ false
ended_is_left planned opened =
    rw (drop_all (length (planned ++ command.End ∷ [])) planned (rw (length-append planned (command.End ∷ [])) (omega arith)))
    (rw (length-append planned (command.End ∷ [])) (rw (more_than (length planned)) refl))
