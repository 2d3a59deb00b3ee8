-- What the lines of a body say together is a plan.
use Rattle.std.proofs.Common.{◌≡◌, ℕ, suc, ◌+◌, ◌<◌, ◌≤◌, Bool, true, false, cond, List, [], ◌∷◌, ◌++◌, length, slice_index_or, nat_eq, nat_lt, inl, inr, refl, sym, ap, ◌∙◌, arith}
use Rattle.std.specs.Prelude.{All}
use Rattle.std.proofs.lemmas.Bool.{cases_eq, eqb-false, eqb-true, ltb-false, ltb-true, ne_eqb}
use Rattle.std.proofs.lemmas.List.{length_push}
use Rattle.std.proofs.lemmas.List.Elements.{All-cons, All-head, All-nil, All-push, All-tail}
use Rattle.txn_data.specs.declared.command.Command.{Command}
use Rattle.txn_data.specs.declared.commands.Commands.{Commands}
use Rattle.txn_data.specs.declared.config.Config.{Config}
use Rattle.txn_data.specs.declared.go_line.GoLine.{GoLine}
use Rattle.txn_data.specs.declared.mover.Mover.{Mover}
use Rattle.txn_data.specs.declared.mover.Mover.TheVariants.{Session, Applier}
use Rattle.txn_data.specs.declared.schedule.Schedule.TheVariants.{Go}
use Rattle.txn_data.specs.declared.session_plan.SessionPlan.{SessionPlan}
use Rattle.txn_types.specs.Plan.{AreRising, IsSession}
use Rattle.txn_types.specs.Script.{commands_of, count}
use Rattle.script_text.specs.declared.line.Line.TheVariants.{Told, Goes}
use Rattle.script_text.specs.Saying.{IsSpeaker, IsSpoken}
use Rattle.script_text.specs.Script.{nothing_said, said_after, with_told}

-- the sessions rise, from one above this number on
abbrev pub RiseAbove : ℕ → List SessionPlan → Type 0
RiseAbove n [] = Unit {0}
RiseAbove n (p ∷ plans) = (n < p.session) × RiseAbove p.session plans

pub rising_of_above : (n : ℕ) (plans : List SessionPlan) → RiseAbove n plans → AreRising plans
unfolding AreRising
rising_of_above n [] r = tt
rising_of_above n (p ∷ []) r = tt
rising_of_above n (p ∷ q ∷ plans) r = (r.1.0, rising_of_above p.session (q ∷ plans) r.1)

-- ---- one more command

told_rise : (n session : ℕ) (told : Command) (plans : List SessionPlan) → n < session → RiseAbove n plans → RiseAbove n (with_told session told plans)
unfolding with_told
told_rise n session told [] lt r = (lt, tt)
told_rise n session told (p ∷ plans) lt r =
    go (λ above. told_rise p.session session told plans above r.1) (nat_lt session p.session) refl (nat_eq session p.session) refl
  where
    go : (p.session < session → RiseAbove p.session (with_told session told plans))
        → (b : Bool) → nat_lt session p.session ≡ b → (c : Bool) → nat_eq session p.session ≡ c
        → RiseAbove n (cond b (record { session = session; commands = told ∷ [] } ∷ p ∷ plans)
        (cond c (record p { commands = p.commands ++ told ∷ [] } ∷ plans) (p ∷ with_told session told plans)))
    go others true e c e' = (lt, (ltb-true _ _ e, r.1))
    go others false e true e' = r
    go others false e false e' =
        let le = ltb-false _ _ e in
        let other = eqb-false _ _ e' in
        (r.0, others (omega arith))

told_speakers : (config : Config) (session : ℕ) (told : Command) (plans : List SessionPlan) → IsSession session → IsSpoken config told
    → All (IsSpeaker config) plans → All (IsSpeaker config) (with_told session told plans)
unfolding with_told
told_speakers config session told [] is says all =
    All-cons (IsSpeaker config) (record { session = session; commands = told ∷ [] }) []
    (is, omega arith, All-cons (IsSpoken config) told [] says (All-nil (IsSpoken config))) (All-nil (IsSpeaker config))
told_speakers config session told (p ∷ plans) is says all =
    go (told_speakers config session told plans is says (All-tail (IsSpeaker config) p plans all)) (nat_lt session p.session) (nat_eq session p.session)
  where
    go : All (IsSpeaker config) (with_told session told plans) → (b c : Bool) → All (IsSpeaker config) (cond b (record { session = session; commands = told ∷ [] } ∷ p ∷ plans)
        (cond c (record p { commands = p.commands ++ told ∷ [] } ∷ plans) (p ∷ with_told session told plans)))
    go others true c =
        All-cons (IsSpeaker config) (record { session = session; commands = told ∷ [] }) (p ∷ plans)
        (is, omega arith, All-cons (IsSpoken config) told [] says (All-nil (IsSpoken config))) all
    go others false true =
        All-cons (IsSpeaker config) (record p { commands = p.commands ++ told ∷ [] }) plans
        ((All-head (IsSpeaker config) p plans all).0, omega (arith, length_push p.commands told), All-push (IsSpoken config) p.commands told (All-head (IsSpeaker config) p plans all).2 says) (All-tail (IsSpeaker config) p plans all)
    go others false false = All-cons (IsSpeaker config) p (with_told session told plans) (All-head (IsSpeaker config) p plans all) others

-- ---- how many commands a session has

abbrev many : ℕ → List SessionPlan → ℕ
many i plans = length (commands_of i plans)

pub none_above : (n i : ℕ) (plans : List SessionPlan) → RiseAbove n plans → i ≤ n → commands_of i plans ≡ []
unfolding commands_of
none_above n i [] r le = refl
none_above n i (p ∷ plans) r le =
    let other : nat_eq p.session i ≡ false = ne_eqb _ _ (omega (arith, r.0, le)) in
    rw other (none_above p.session i plans r.1 (omega (arith, r.0, le)))

-- one where the numbers are the same
abbrev pub one_if : ℕ → ℕ → ℕ
one_if i j = cond (nat_eq i j) 1 0

one_if-sym : (i j : ℕ) → one_if i j ≡ one_if j i
one_if-sym i j =
    elim (cases_eq i j) [
      | inl same ↦ ap (λ (k : ℕ). one_if k j) same ∙ ap (λ (k : ℕ). one_if j k) (sym same)
      | inr other ↦
          let left : nat_eq i j ≡ false = ne_eqb _ _ other in
          let right : nat_eq j i ≡ false = ne_eqb _ _ (λ e. other (sym e)) in
          rw (left, right) refl
    ]

told_many : (n i session : ℕ) (told : Command) (plans : List SessionPlan) → RiseAbove n plans
    → many i (with_told session told plans) ≡ many i plans + one_if session i
unfolding with_told commands_of
told_many n i session told [] r = go (nat_eq session i)
  where
    go : (b : Bool) → length (cond b (told ∷ []) []) ≡ 0 + cond b 1 0
    go true = refl
    go false = refl
told_many n i session told (p ∷ plans) r =
    go (told_many p.session i session told plans r.1) (nat_lt session p.session) refl (nat_eq session p.session) refl
  where
    before : (b : Bool) → nat_eq session i ≡ b → session < p.session → length (cond b (told ∷ []) (commands_of i (p ∷ plans))) ≡ length (commands_of i (p ∷ plans)) + cond b 1 0
    before true e lt = omega (arith, ap (λ (cs : List Command). length cs) (none_above session i (p ∷ plans) (lt, r.1) (omega (arith, eqb-true _ _ e))))
    before false e lt = omega arith

    own : (b : Bool) → length (cond b (p.commands ++ told ∷ []) (commands_of i plans)) ≡ length (cond b p.commands (commands_of i plans)) + cond b 1 0
    own true = omega (arith, length_push p.commands told)
    own false = omega arith

    later : many i (with_told session told plans) ≡ many i plans + one_if session i → (b : Bool) → nat_eq p.session i ≡ b → (session ≡ p.session → ⊥)
        → length (cond b p.commands (commands_of i (with_told session told plans))) ≡ length (cond b p.commands (commands_of i plans)) + one_if session i
    later others true e other =
        let no : nat_eq session i ≡ false = ne_eqb _ _ (λ same. other (same ∙ sym (eqb-true _ _ e))) in
        rw no (omega arith)
    later others false e other = others

    go : many i (with_told session told plans) ≡ many i plans + one_if session i
        → (b : Bool) → nat_lt session p.session ≡ b → (c : Bool) → nat_eq session p.session ≡ c
        → many i (cond b (record { session = session; commands = told ∷ [] } ∷ p ∷ plans)
        (cond c (record p { commands = p.commands ++ told ∷ [] } ∷ plans) (p ∷ with_told session told plans))) ≡ length (commands_of i (p ∷ plans)) + one_if session i
    go others true e c e' = before (nat_eq session i) refl (ltb-true _ _ e)
    go others false e true e' = rw (eqb-true _ _ e') (own (nat_eq p.session i))
    go others false e false e' = later others (nat_eq p.session i) refl (eqb-false _ _ e')

pub count_push : (i : ℕ) (js : List ℕ) (j : ℕ) → count i (js ++ j ∷ []) ≡ count i js + one_if i j
unfolding count
count_push i [] j = refl
count_push i (k ∷ js) j = omega (arith, count_push i js j)

pub count-le : (i : ℕ) (js : List ℕ) → count i js ≤ length js
unfolding count
count-le i [] = omega arith
count-le i (j ∷ js) = go (nat_eq i j) (count-le i js)
  where
    go : (b : Bool) → count i js ≤ length js → count i js + cond b 1 0 ≤ suc (length js)
    go true le = omega arith
    go false le = omega arith

-- ---- what was said

abbrev pub IsFlag : Config → List Bool → Mover → Type 0
IsFlag config flags (Session i) = slice_index_or flags i false ≡ true
IsFlag config flags (Applier k) = k < config.tablets

abbrev pub IsFlagged : Config → List Bool → GoLine → Type 0
IsFlagged config flags g = IsFlag config flags g.who × (1 ≤ g.count) × (g.count ≤ 1000000)

pub record IsHeard (config : Config) (flags : List Bool) (said : Commands) : Type 0 where
  pub rising : RiseAbove 0 said.sessions
  pub sessions : All (IsSpeaker config) said.sessions
  pub order : (i : ℕ) → count i said.order ≡ many i said.sessions
  pub few_commands : length said.order ≤ 100000
  pub moves : All (IsFlagged config flags) said.go
  pub few_moves : length said.go ≤ 100000
  pub schedule : 0 < length said.go → config.schedule ≡ Go

pub nothing_heard : (config : Config) (flags : List Bool) → IsHeard config flags nothing_said
unfolding count commands_of
nothing_heard config flags = record {
  rising = tt;
  sessions = All-nil (IsSpeaker config);
  order = λ i. refl;
  few_commands = omega arith;
  moves = All-nil (IsFlagged config flags);
  few_moves = omega arith;
  schedule = λ some. absurd (omega arith);
}

pub told_heard : (config : Config) (flags : List Bool) (said : Commands) (session : ℕ) (told : Command) → IsHeard config flags said
    → IsSession session → IsSpoken config told → length said.order < 100000 → IsHeard config flags (said_after said (Told session told))
told_heard config flags said session told h is says room = record {
  rising = told_rise 0 session told said.sessions is.0 h.rising;
  sessions = told_speakers config session told said.sessions is says h.sessions;
  order = λ i. count_push i said.order session ∙ omega (arith, h.order i, one_if-sym i session, told_many 0 i session told said.sessions h.rising);
  few_commands = omega (arith, length_push said.order session);
  moves = h.moves;
  few_moves = h.few_moves;
  schedule = h.schedule;
}

pub goes_heard : (config : Config) (flags : List Bool) (said : Commands) (g : GoLine) → IsHeard config flags said
    → IsFlagged config flags g → config.schedule ≡ Go → length said.go < 100000 → IsHeard config flags (said_after said (Goes g))
goes_heard config flags said g h is go room = record {
  rising = h.rising;
  sessions = h.sessions;
  order = h.order;
  few_commands = h.few_commands;
  moves = All-push (IsFlagged config flags) said.go g h.moves is;
  few_moves = omega (arith, length_push said.go g);
  schedule = λ some. go;
}
