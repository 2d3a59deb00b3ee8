-- A session that lines of a body begin with has commands, if the body is read.
use Rattle.std.proofs.Common.{◌≡◌, ℕ, zero, suc, ◌+◌, ◌-◌, ◌≤◌, ◌⊎◌, Bool, true, false, cond, List, [], ◌∷◌, ◌++◌, length, drop, take, replicate, Option, Some, None, IfOk, Ok, Err, Result, nat_eq, nat_le, not, ◌&&◌, codes, inl, inr, refl, sym, ap, subst, ◌∙◌, arith}
use Rattle.std.specs.Prelude.{slice_index_or}
use Rattle.std.proofs.lemmas.Bool.{cases_eq, eq-eqb, eqb-true}
use Rattle.std.proofs.lemmas.List.{get_or-set_other}
use Rattle.std.proofs.lemmas.List.Elements.{All-weaker}
use Rattle.std.proofs.lemmas.Result.{IfOk-at_ok, IfOk-weaker}
use Rattle.std.proofs.lemmas.Slice.Eq.{bytes_eq-Decides}
use Rattle.txn_data.specs.declared.commands.Commands.{Commands}
use Rattle.txn_data.specs.declared.config.Config.{Config}
use Rattle.txn_data.specs.declared.mover.Mover.{Mover}
use Rattle.txn_data.specs.declared.mover.Mover.TheVariants.{Session, Applier}
use Rattle.txn_types.specs.Plan.{IsCluster}
use Rattle.txn_types.specs.Script.{commands_of, count}
use Rattle.script_text.specs.declared.line.Line.{Line}
use Rattle.script_text.specs.declared.line.Line.TheVariants.{Passed, Told, Goes}
use Rattle.script_text.specs.declared.script_refusal.ScriptRefusal.{ScriptRefusal}
use Rattle.script_text.specs.declared.why.Why.TheVariants as why
use Rattle.script_text.specs.Commands.{Read, ◌>>=◌, begins_remark, command_of, flags_over, go_in, is_go, no_flags, or_why, session_before, session_in, session_of, told_of, verb_of, with_flag}
use Rattle.script_text.specs.Lines.{Text}
use Rattle.script_text.specs.Saying.{IsMove, IsMover, IsSaid}
use Rattle.script_text.specs.Script.{and_lines, at_line, body_of, body_over, line_after, nothing_said, said_after}
use Rattle.script_text.specs.Terms.{number_in}
use Rattle.script_text.specs.Words.{words_of}
use Rattle.script_text.proofs.Bodies.{body_heard}
use Rattle.script_text.proofs.Heard.{IsFlag, IsFlagged, IsHeard, count_push, nothing_heard, one_if, rising_of_above}
use Rattle.script_text.proofs.Spoken.{any_ok, bind_ok}

-- ---- words that are no session

some_is : {A : Type 0} (x y : A) → Some x ≡ Some y → x ≡ y
some_is {A = A} x y e = cc

no_number : (last text : Text) (s : ℕ) → number_in 1 1000 text ≡ None → session_before last text ≡ Some s → ⊥
no_number [] text s none e = cc
no_number (colon ∷ []) text s none e = go (nat_eq colon 58) (rw none at e)
  where
    go : (b : Bool) → cond b None None ≡ Some s → ⊥
    go true e = cc
    go false e = cc
no_number (colon ∷ other ∷ more) text s none e = cc

remark_alone : (b s : ℕ) → b ≡ 35 → session_of (b ∷ []) ≡ Some s → ⊥
remark_alone b s is e = first (rw is at e)
  where
    first : session_of (35 ∷ []) ≡ Some s → ⊥
    first e = cc

no_session : (word : Text) (s : ℕ) → begins_remark word ≡ true → session_of word ≡ Some s → ⊥
no_session [] s remark e = absurd cc
no_session (b ∷ []) s remark e = remark_alone b s (eqb-true b 35 remark) e
no_session (b ∷ c ∷ more) s remark e =
    let is : b ≡ 35 = eqb-true b 35 remark in
    let len : length (b ∷ c ∷ more) - 1 ≡ suc (length more) = omega arith in
    let text : take (length (b ∷ c ∷ more) - 1) (b ∷ c ∷ more) ≡ 35 ∷ take (length more) (c ∷ more) =
    ap (λ (n : ℕ). take n (b ∷ c ∷ more)) len ∙ ap (λ (x : ℕ). x ∷ take (length more) (c ∷ more)) is in
    no_number (drop (length (b ∷ c ∷ more) - 1) (b ∷ c ∷ more)) (take (length (b ∷ c ∷ more) - 1) (b ∷ c ∷ more)) s
    (ap (number_in 1 1000) text ∙ refl) e

no_session_go : (word : Text) (s : ℕ) → is_go (word ∷ []) ≡ true → session_of word ≡ Some s → ⊥
no_session_go word s go e = at_go (subst (λ (w : Text). session_of w ≡ Some s) ((bytes_eq-Decides word (codes "@go")).0 go) e)
  where
    at_go : session_of (codes "@go") ≡ Some s → ⊥
    at_go e = cc

-- ---- one line

abbrev Grows : Commands → Commands → Type 0
Grows said next = (i : ℕ) → count i said.order ≤ count i next.order

grows : (said : Commands) (line : Line) → Grows said (said_after said line)
grows said Passed = λ i. omega arith
grows said (Told session told) = λ i. omega (arith, count_push i said.order session)
grows said (Goes g) = λ i. omega arith

-- the line tells this session something
abbrev IsTo : ℕ → Line → Type 0
IsTo s Passed = ⊥
IsTo s (Told session told) = session ≡ s
IsTo s (Goes g) = ⊥

told_count : (said : Commands) (s : ℕ) (line : Line) → IsTo s line → 1 ≤ count s (said_after said line).order
told_count said s Passed p = absurd p
told_count said s (Told session told) p =
    subst (λ (i : ℕ). 1 ≤ count s (said.order ++ i ∷ [])) (sym p) (omega (arith, count_push s said.order s, one s))
  where
    one : (s : ℕ) → one_if s s ≡ 1
    one s =
        let own = eq-eqb s s refl in
        rw own refl
told_count said s (Goes g) p = absurd p

module _ (config : Config) (flags : List Bool) where
  -- the next state of what was said, where the words begin with a session
  abbrev Names : Option ℕ → Commands → Type 0
  Names session next = (s : ℕ) → session ≡ Some s → 1 ≤ count s next.order

  told_to : (session : ℕ) (words : List Text) → IfOk (told_of config session words) (IsTo session)
  told_to session words =
      bind_ok (or_why why.Command (verb_of words)) _ (λ _. Unit {0}) (IsTo session) (any_ok (or_why why.Command (verb_of words))) (λ asked _.
      bind_ok (command_of config asked.0 asked.1) _ (λ _. Unit {0}) (IsTo session) (any_ok (command_of config asked.0 asked.1)) (λ told _. refl))

  abbrev told_read : Option ℕ → List Text → Read Line
  told_read session words = or_why why.Session session >>= λ session. told_of config session words

  spoken_names : (said : Commands) (session : Option ℕ) (words : List Text) → IfOk (told_read session words >>= λ line. Ok (said_after said line)) (Names session)
  spoken_names said None words = tt
  spoken_names said (Some i) words =
      bind_ok (told_of config i words) (λ line. Ok (said_after said line)) (IsTo i) (Names (Some i)) (told_to i words) (λ line to s e.
      subst (λ (j : ℕ). 1 ≤ count j (said_after said line).order) (some_is i s e) (told_count said i line to))

  names : (said : Commands) (words : List Text) → IfOk (line_after config flags said words) (Names (session_in words))
  names said [] = λ s e. absurd (no e)
    where
      no : {s : ℕ} → None ≡ Some s → ⊥
      no e = cc
  names said (word ∷ words) = go (begins_remark word) refl (is_go (word ∷ words)) refl
    where
      full : (b : Bool) (r : Read Commands) → IfOk r (Names (session_of word)) → IfOk (cond b (Err why.Many) r) (Names (session_of word))
      full true r p = tt
      full false r p = p

      go : (remark : Bool) → begins_remark word ≡ remark → (moves : Bool) → is_go (word ∷ words) ≡ moves
          → IfOk (cond (not remark && nat_le 100000 (cond moves (length said.go) (length said.order))) (Err why.Many)
          (cond remark (Ok Passed) (cond moves (go_in config.schedule config flags words) (told_read (session_of word) words)) >>= λ line. Ok (said_after said line)))
          (Names (session_of word))
      go true e moves e' = λ s is. absurd (no_session word s e is)
      go false e true e' =
          full (nat_le 100000 (length said.go)) (go_in config.schedule config flags words >>= λ line. Ok (said_after said line))
          (bind_ok (go_in config.schedule config flags words) (λ line. Ok (said_after said line)) (λ _. Unit {0}) (Names (session_of word)) (any_ok (go_in config.schedule config flags words))
          (λ line _ s is. absurd (no_session_go word s e' is)))
      go false e false e' =
          full (nat_le 100000 (length said.order)) (told_read (session_of word) words >>= λ line. Ok (said_after said line)) (spoken_names said (session_of word) words)

  rises : (said : Commands) (words : List Text) → IfOk (line_after config flags said words) (Grows said)
  rises said [] = λ i. omega arith
  rises said (word ∷ words) =
      go (begins_remark word) (is_go (word ∷ words)) (go_in config.schedule config flags words) (told_read (session_of word) words)
    where
      put : (r : Read Line) → IfOk (r >>= λ line. Ok (said_after said line)) (Grows said)
      put r = bind_ok r (λ line. Ok (said_after said line)) (λ _. Unit {0}) (Grows said) (any_ok r) (λ line _. grows said line)

      full : (b : Bool) (r : Read Commands) → IfOk r (Grows said) → IfOk (cond b (Err why.Many) r) (Grows said)
      full true r p = tt
      full false r p = p

      go : (remark moves : Bool) (goes told : Read Line)
          → IfOk (cond (not remark && nat_le 100000 (cond moves (length said.go) (length said.order))) (Err why.Many)
          (cond remark (Ok Passed) (cond moves goes told) >>= λ line. Ok (said_after said line))) (Grows said)
      go true moves goes told = λ i. omega arith
      go false true goes told = full (nat_le 100000 (length said.go)) (goes >>= λ line. Ok (said_after said line)) (put goes)
      go false false goes told = full (nat_le 100000 (length said.order)) (told >>= λ line. Ok (said_after said line)) (put told)

  -- ---- all lines

  abbrev IsSet : List Bool → ℕ → Type 0
  IsSet states i = slice_index_or states i false ≡ true

  abbrev Shows : List Bool → List Bool → Commands → Commands → Type 0
  Shows before after said final = Grows said final × ((i : ℕ) → IsSet after i → IsSet before i ⊎ (1 ≤ count i final.order))

  both : {A : Type 0} (r : Read A) (P Q : A → Type 0) → IfOk r P → IfOk r Q → IfOk r (λ x. P x × Q x)
  both (Ok x) P Q p q = (p, q)
  both (Err e) P Q p q = tt

  after_lines : (r : Read Commands) (number : ℕ) (more : Commands → Result Commands ScriptRefusal) (P Q : Commands → Type 0) → IfOk r P
      → ((said : Commands) → P said → IfOk (more said) Q) → IfOk (and_lines more (at_line number r)) Q
  after_lines (Ok said) number more P Q p next = next said p
  after_lines (Err e) number more P Q p next = tt

  -- a flag that is set after a line was set before it, or is that of the line
  set_by : (before : List Bool) (session : Option ℕ) (i : ℕ) → IsSet (with_flag before session) i → IsSet before i ⊎ (session ≡ Some i)
  set_by before None i is = inl is
  set_by before (Some s) i is =
      elim (cases_eq i s) [
        | inl same ↦ inr (ap (λ (j : ℕ). Some j) (sym same))
        | inr other ↦ inl (sym (get_or-set_other before s i true false other) ∙ is)
      ]

  shown : (before after : List Bool) (session : Option ℕ) (said next final : Commands) → Grows said next → Names session next
      → Shows (with_flag before session) after next final → Shows before after said final
  shown before after session said next final up named s =
      (λ i. omega (arith, up i, s.0 i), λ i is. from i (s.1 i is))
    where
      by_line : (i : ℕ) → IsSet before i ⊎ (session ≡ Some i) → IsSet before i ⊎ (1 ≤ count i final.order)
      by_line i (inl old) = inl old
      by_line i (inr own) = inr (omega (arith, named i own, s.0 i))

      from : (i : ℕ) → IsSet (with_flag before session) i ⊎ (1 ≤ count i final.order) → IsSet before i ⊎ (1 ≤ count i final.order)
      from i (inl is) = by_line i (set_by before session i is)
      from i (inr later) = inr later

  shows : (lines : List Text) (before : List Bool) (said : Commands) (number : ℕ)
      → IfOk (body_over config flags said number lines) (Shows before (flags_over before lines) said)
  unfolding body_over flags_over
  shows [] before said number = (λ i. omega arith, λ i is. inl is)
  shows (line ∷ lines) before said number =
      let session = session_in (words_of line) in
      let after = flags_over (with_flag before session) lines in
      after_lines (line_after config flags said (words_of line)) number (λ next. body_over config flags next (number + 1) lines)
      (λ next. Grows said next × Names session next) (Shows before after said)
      (both (line_after config flags said (words_of line)) (Grows said) (Names session) (rises said (words_of line)) (names said (words_of line)))
      (λ next p. IfOk-weaker (body_over config flags next (number + 1) lines) (Shows (with_flag before session) after next) (Shows before after said)
      (λ final s. shown before after session said next final p.0 p.1 s) (shows lines (with_flag before session) next (number + 1)))

-- ---- the plan

not_set : (n i : ℕ) → slice_index_or (replicate n false) i false ≡ true → ⊥
not_set zero i e = cc
not_set (suc n) zero e = cc
not_set (suc n) (suc i) e = not_set n i e

mover_there : (config : Config) (flags : List Bool) (plan : Commands) (m : Mover)
    → ((i : ℕ) → slice_index_or flags i false ≡ true → 1 ≤ length (commands_of i plan.sessions)) → IsFlag config flags m → IsMover config plan m
mover_there config flags plan (Session i) named p = named i p
mover_there config flags plan (Applier k) named p = p

-- a body that is read
pub body_said : (config : Config) (first : ℕ) (lines : List Text) (plan : Commands) → IsCluster config → body_of config first lines ≡ Ok plan → IsSaid config plan
body_said config first lines plan is read =
    let flags = flags_over no_flags lines in
    let h = IfOk-at_ok (IsHeard config flags) read (body_heard config is flags lines nothing_said first (nothing_heard config flags)) in
    let s = IfOk-at_ok (Shows config flags no_flags flags nothing_said) read (shows config flags lines no_flags nothing_said first) in
    let named : (i : ℕ) → slice_index_or flags i false ≡ true → 1 ≤ length (commands_of i plan.sessions) =
    λ i is_set. elim (s.1 i is_set) [ inl old ↦ absurd (not_set 1001 i old) | inr some ↦ omega (arith, some, h.order i) ] in
    record {
      rising = rising_of_above 0 plan.sessions h.rising;
      sessions = h.sessions;
      order = h.order;
      few_commands = h.few_commands;
      moves = All-weaker (IsFlagged config flags) (IsMove config plan) (λ g p. (mover_there config flags plan g.who named p.0, p.1, p.2)) plan.go h.moves;
      few_moves = h.few_moves;
      schedule = h.schedule;
    }
