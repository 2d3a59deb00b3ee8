-- The commands that sessions have left, one line on.
use Rattle.std.proofs.Common.{◌≡◌, ℕ, zero, suc, ◌+◌, ◌<◌, ◌≤◌, ◌⊎◌, cond, List, [], ◌∷◌, ◌++◌, length, replicate, take, drop, set, All, flat_map, slice_index_or, nat_eq, inl, inr, refl, sym, ap, subst, ◌∙◌, arith, take-add}
use denote.Ref.{Bor}
use Rattle.std.specs.Prelude.{◌-◌, get_or}
use Rattle.std.proofs.lemmas.Bool.{cases_eq, eq-eqb, ne_eqb}
use Rattle.std.proofs.lemmas.List.{append_assoc, drop-drop, drop_all, drop_more, get_or-map, get_or-set_other, get_or-set_same, length-map, map-set}
use Rattle.std.proofs.lemmas.List.Concat.{flat_map-append}
use Rattle.std.proofs.lemmas.List.Elements.{All-append, All-nil}
use Rattle.txn_data.specs.declared.command.Command.{Command}
use Rattle.txn_data.specs.declared.session_plan.SessionPlan.{SessionPlan}
use Rattle.txn_types.specs.Script.{commands_of, count}
use Rattle.script_text.specs.Lines.{Text}
use Rattle.script_text.specs.Queues.{lists_of, queue_of}
use Rattle.script_text.specs.Written.{IsInBytes, left, line_text, told_line, told_lines}
use Rattle.script_text.proofs.Regrouping.{count_other, count_own}

pub own_queue : (items : List (Bor (List Command))) (s : ℕ) (q : Bor (List Command)) → s < length items → q ≡ get_or items s q → queue_of items s ≡ q.now
own_queue items s q lt is =
    get_or-map (λ (q : Bor (List Command)). q.now) items s q [] lt ∙ ap (λ (q : Bor (List Command)). q.now) (sym is)

-- ---- the queues before the first line

-- queues that are empty
empty : (n : ℕ) (q : Bor (List Command)) (i : ℕ) → q.now ≡ [] → queue_of (replicate n q) i ≡ []
empty zero q i none = refl
empty (suc n) q zero none = none
empty (suc n) q (suc i) none = empty n q i none

pub none_behind : (plans : List SessionPlan) (items : List (Bor (List Command))) (n : ℕ) (q : Bor (List Command)) → items ≡ replicate n q → q.now ≡ []
    → (i : ℕ) → i ≤ 1000 → queue_of items i ≡ commands_of i (drop (length plans) plans)
unfolding commands_of
none_behind plans items n q is none i within =
    ap (λ (qs : List (Bor (List Command))). queue_of qs i) is
    ∙ (empty n q i none ∙ sym (ap (commands_of i) (drop_all (length plans) plans (omega arith))))

-- the plan before those that are looked at
pub one_behind : (plans : List SessionPlan) (items : List (Bor (List Command))) (at : ℕ) (p : SessionPlan) (q : Bor (List Command)) → 0 < at → at ≤ length plans
    → p ≡ get_or plans (at - 1) p → q.now ≡ p.commands → length items ≡ 1001 → p.session ≤ 1000
    → ((i : ℕ) → i ≤ 1000 → queue_of items i ≡ commands_of i (drop at plans))
    → (i : ℕ) → i ≤ 1000 → queue_of (set items p.session q) i ≡ commands_of i (drop (at - 1) plans)
unfolding commands_of
one_behind plans items at p q some within is own room small each i le =
    let lt : at - 1 < length plans = omega arith in
    let next : at - 1 + 1 ≡ at = omega arith in
    let behind : drop (at - 1) plans ≡ p ∷ drop at plans =
    drop_more plans (at - 1) p lt ∙ (ap (λ (x : SessionPlan). x ∷ drop (at - 1 + 1) plans) (sym is) ∙ ap (λ (n : ℕ). p ∷ drop n plans) next) in
    ap (λ (qs : List (List Command)). slice_index_or qs i []) (map-set (λ (q : Bor (List Command)). q.now) items p.session q)
    ∙ (go (cases_eq p.session i) ∙ sym (ap (commands_of i) behind))
  where
    go : (p.session ≡ i) ⊎ (p.session ≡ i → ⊥) → slice_index_or (set (lists_of items) p.session q.now) i [] ≡ cond (nat_eq p.session i) p.commands (commands_of i (drop at plans))
    go (inl same) =
        let here = eq-eqb p.session i same in
        rw here (ap (λ (j : ℕ). slice_index_or (set (lists_of items) p.session q.now) j []) (sym same)
        ∙ (get_or-set_same (lists_of items) p.session q.now [] (omega (arith, length-map items (λ (q : Bor (List Command)). q.now))) ∙ own))
    go (inr other) =
        let apart = ne_eqb p.session i other in
        rw apart (get_or-set_other (lists_of items) p.session i q.now [] (λ e. other (sym e)) ∙ each i le)

-- ---- one line on

-- what is left of each session
abbrev pub AreLeft : List SessionPlan → List ℕ → List (List Command) → Type 0
AreLeft plans done queues = (i : ℕ) → i ≤ 1000 → slice_index_or queues i [] ≡ left plans done i

pub next_left : (plans : List SessionPlan) (done : List ℕ) (s : ℕ) (old new : List (List Command)) → AreLeft plans done old → length old ≡ 1001 → s ≤ 1000
    → new ≡ set old s (drop 1 (slice_index_or old s [])) → AreLeft plans (done ++ s ∷ []) new
next_left plans done s old new are room small is i within =
    let own = slice_index_or old s [] in
    ap (λ (qs : List (List Command)). slice_index_or qs i []) is ∙ elim (cases_eq i s) [
      | inl same ↦
          ap (λ (j : ℕ). slice_index_or (set old s (drop 1 own)) j []) same
          ∙ (get_or-set_same old s (drop 1 own) [] (omega arith)
          ∙ (ap (drop 1) (are s small)
          ∙ (drop-drop 1 (count s done) (commands_of s plans)
          ∙ (ap (λ (n : ℕ). drop n (commands_of s plans)) (sym (count_own s done))
          ∙ ap (left plans (done ++ s ∷ [])) (sym same)))))
      | inr other ↦
          get_or-set_other old s i (drop 1 own) [] other
          ∙ (are i within ∙ ap (λ (n : ℕ). drop n (commands_of i plans)) (sym (count_other i s done other)))
    ]

pub next_text : (plans : List SessionPlan) (done more : List ℕ) (s : ℕ) (old new all : Text) (queue : List Command) → queue ≡ left plans done s
    → new ≡ old ++ flat_map line_text (told_line s queue) → old ++ flat_map line_text (told_lines plans done (s ∷ more)) ≡ all
    → new ++ flat_map line_text (told_lines plans (done ++ s ∷ []) more) ≡ all
unfolding told_lines
next_text plans done more s old new all queue is line before =
    let others = told_lines plans (done ++ s ∷ []) more in
    ap (λ (t : Text). t ++ flat_map line_text others) (line ∙ ap (λ (q : List Command). old ++ flat_map line_text (told_line s q)) is)
    ∙ (append_assoc old (flat_map line_text (told_line s (left plans done s))) (flat_map line_text others)
    ∙ (ap (λ (t : Text). old ++ t) (sym (flat_map-append line_text (told_line s (left plans done s)) others)) ∙ before))

-- the commands so far
abbrev pub AreOfBytes : List SessionPlan → List ℕ → Type 0
AreOfBytes plans done = (i : ℕ) → i ≤ 1000 → All IsInBytes (take (count i done) (commands_of i plans))

pub next_bytes : (plans : List SessionPlan) (done : List ℕ) (s : ℕ) (queue : List Command) → queue ≡ left plans done s → All IsInBytes (take 1 queue)
    → AreOfBytes plans done → AreOfBytes plans (done ++ s ∷ [])
next_bytes plans done s queue is one are i within = elim (cases_eq i s) [
  | inl same ↦
      subst (λ (j : ℕ). All IsInBytes (take (count j (done ++ s ∷ [])) (commands_of j plans))) (sym same)
      (subst (λ (n : ℕ). All IsInBytes (take n (commands_of s plans))) (sym (count_own s done))
      (subst (λ (cs : List Command). All IsInBytes cs) (sym (take-add (count s done) 1 (commands_of s plans)))
      (All-append IsInBytes (take (count s done) (commands_of s plans)) (take 1 (left plans done s))
      (subst (λ (j : ℕ). All IsInBytes (take (count j done) (commands_of j plans))) same (are i within))
      (subst (λ (q : List Command). All IsInBytes (take 1 q)) is one))))
  | inr other ↦ subst (λ (n : ℕ). All IsInBytes (take n (commands_of i plans))) (sym (count_other i s done other)) (are i within)
]

-- ---- the first line and the last

pub first_left : (plans : List SessionPlan) (i : ℕ) → commands_of i plans ≡ left plans [] i
unfolding count
first_left plans i = refl

pub none_bytes : (plans : List SessionPlan) → AreOfBytes plans []
unfolding count
none_bytes plans i within = All-nil IsInBytes

pub none_told : (plans : List SessionPlan) (order done : List ℕ) (k : ℕ) → length order ≤ k → told_lines plans done (drop k order) ≡ []
unfolding told_lines
none_told plans order done k le = ap (told_lines plans done) (drop_all k order le)
