-- What the lines of a body that is read say is heard.
use Rattle.std.proofs.Common.{◌≡◌, ℕ, ◌+◌, ◌-◌, ◌<◌, ◌≤◌, Bool, true, false, cond, List, [], ◌∷◌, length, drop, take, Option, Some, None, IfSome, IfOk, Ok, Err, Result, nat_eq, nat_le, not, ◌&&◌, slice_index_or, refl, arith}
use Rattle.std.proofs.lemmas.Bool.{leb-false}
use Rattle.txn_data.specs.declared.commands.Commands.{Commands}
use Rattle.txn_data.specs.declared.config.Config.{Config}
use Rattle.txn_data.specs.declared.go_line.GoLine.{GoLine}
use Rattle.txn_data.specs.declared.mover.Mover.TheVariants.{Session as SessionMover}
use Rattle.txn_data.specs.declared.schedule.Schedule.{Schedule}
use Rattle.txn_data.specs.declared.schedule.Schedule.TheVariants.{Serial, Go, Drawn}
use Rattle.txn_types.specs.Plan.{IsCluster, IsSession}
use Rattle.script_text.specs.declared.line.Line.{Line}
use Rattle.script_text.specs.declared.line.Line.TheVariants.{Passed, Told, Goes}
use Rattle.script_text.specs.declared.script_refusal.ScriptRefusal.{ScriptRefusal}
use Rattle.script_text.specs.declared.why.Why.TheVariants as why
use Rattle.script_text.specs.Commands.{Read, ◌>>=◌, begins_remark, command_of, go_in, go_of, is_go, mover, mover_or, numbered, or_why, session_before, session_of, told_of, verb_of}
use Rattle.script_text.specs.Lines.{Text}
use Rattle.script_text.specs.Saying.{IsSpoken}
use Rattle.script_text.specs.Script.{and_lines, at_line, body_over, line_after, said_after}
use Rattle.script_text.specs.Terms.{number_in}
use Rattle.script_text.specs.Words.{words_of}
use Rattle.script_text.proofs.Heard.{IsFlag, IsFlagged, IsHeard, goes_heard, told_heard}
use Rattle.script_text.proofs.Spelled.{cond_some, guard_some, number_some}
use Rattle.script_text.proofs.Spoken.{any_ok, bind_ok, command_ok, numbered_some, or_why_ok}

before_some : (last text : Text) → IfSome (session_before last text) IsSession
before_some [] text = tt
before_some (colon ∷ []) text = cond_some (nat_eq colon 58) (number_in 1 1000 text) None IsSession (number_some 1 1000 text) tt
before_some (colon ∷ other ∷ more) text = tt

session_some : (word : Text) → IfSome (session_of word) IsSession
session_some word = before_some (drop (length word - 1) word) (take (length word - 1) word)

module _ (config : Config) (is : IsCluster config) (flags : List Bool) where
  mover_some : (word : Text) → IfSome (mover config flags word) (IsFlag config flags)
  mover_some word = go (numbered 97 config.tablets word) (number_in 1 1000 word) (numbered_some 97 config.tablets word is.tablets.0)
    where
      go : (o other : Option ℕ) → IfSome o (λ n. n < config.tablets) → IfSome (mover_or flags o other) (IsFlag config flags)
      go (Some k) other p = p
      go None None p = tt
      go None (Some i) p = guard_some (slice_index_or flags i false) (SessionMover i) (IsFlag config flags) (λ e. e)

  abbrev Flagged : GoLine → Type 0
  Flagged g = IsFlagged config flags g

  who_ok : (word : Text) → IfOk (or_why why.Number (mover config flags word)) (IsFlag config flags)
  who_ok word = or_why_ok why.Number (mover config flags word) (IsFlag config flags) (mover_some word)

  abbrev IsCount : ℕ → Type 0
  IsCount n = (1 ≤ n) × (n ≤ 1000000)

  go_ok : (words : List Text) → IfOk (go_of config flags words) Flagged
  go_ok [] = tt
  go_ok (word ∷ []) =
      bind_ok (or_why why.Number (mover config flags word)) (λ who. Ok (record { who = who; count = 1 })) (IsFlag config flags) Flagged (who_ok word)
      (λ who p. (p, omega arith, omega arith))
  go_ok (word ∷ other ∷ []) =
      bind_ok (or_why why.Number (mover config flags word)) _ (IsFlag config flags) Flagged (who_ok word) (λ who p.
      bind_ok (or_why why.Number (number_in 1 1000000 other)) _ IsCount Flagged
      (or_why_ok why.Number (number_in 1 1000000 other) IsCount (number_some 1 1000000 other)) (λ n q. (p, q.0, q.1)))
  go_ok (word ∷ other ∷ another ∷ words) = tt

  -- ---- lines

  abbrev IsToldLine : Line → Type 0
  IsToldLine Passed = ⊥
  IsToldLine (Told session told) = IsSession session × IsSpoken config told
  IsToldLine (Goes g) = ⊥

  abbrev IsGoLine : Line → Type 0
  IsGoLine Passed = ⊥
  IsGoLine (Told session told) = ⊥
  IsGoLine (Goes g) = Flagged g × (config.schedule ≡ Go)

  told_line : (session : ℕ) (words : List Text) → IsSession session → IfOk (told_of config session words) IsToldLine
  told_line session words number =
      bind_ok (or_why why.Command (verb_of words)) _ (λ _. Unit {0}) IsToldLine (any_ok (or_why why.Command (verb_of words))) (λ asked _.
      bind_ok (command_of config asked.0 asked.1) _ (λ told. IsSpoken config told) IsToldLine (command_ok config is asked.0 asked.1) (λ told p. (number, p)))

  go_line : (schedule : Schedule) (words : List Text) → config.schedule ≡ schedule → IfOk (go_in schedule config flags words) IsGoLine
  go_line Go words e = bind_ok (go_of config flags words) _ Flagged IsGoLine (go_ok words) (λ g p. (p, e))
  go_line Serial words e = tt
  go_line Drawn words e = tt

  abbrev Heard : Commands → Type 0
  Heard said = IsHeard config flags said

  put_told : (said : Commands) → Heard said → length said.order < 100000 → (line : Line) → IsToldLine line → Heard (said_after said line)
  put_told said h room Passed p = absurd p
  put_told said h room (Told session told) p = told_heard config flags said session told h p.0 p.1 room
  put_told said h room (Goes g) p = absurd p

  put_go : (said : Commands) → Heard said → length said.go < 100000 → (line : Line) → IsGoLine line → Heard (said_after said line)
  put_go said h room Passed p = absurd p
  put_go said h room (Told session told) p = absurd p
  put_go said h room (Goes g) p = goes_heard config flags said g h p.0 p.1 room

  abbrev told_read : Text → List Text → Read Line
  told_read word words = or_why why.Session (session_of word) >>= λ session. told_of config session words

  abbrev goes_read : List Text → Read Line
  goes_read words = go_in config.schedule config flags words

  after_ok : (said : Commands) (words : List Text) → Heard said → IfOk (line_after config flags said words) Heard
  after_ok said [] h = h
  after_ok said (word ∷ words) h = go (begins_remark word) (is_go (word ∷ words))
    where
      told_ok : IfOk (told_read word words) IsToldLine
      told_ok =
          bind_ok (or_why why.Session (session_of word)) (λ session. told_of config session words) IsSession IsToldLine
          (or_why_ok why.Session (session_of word) IsSession (session_some word)) (λ session number. told_line session words number)

      go_full : (b : Bool) → nat_le 100000 (length said.go) ≡ b → IfOk (cond b (Err why.Many) (goes_read words >>= λ line. Ok (said_after said line))) Heard
      go_full true e = tt
      go_full false e =
          bind_ok (goes_read words) (λ line. Ok (said_after said line)) IsGoLine Heard (go_line config.schedule words refl) (λ line p. put_go said h (leb-false _ _ e) line p)

      told_full : (b : Bool) → nat_le 100000 (length said.order) ≡ b → IfOk (cond b (Err why.Many) (told_read word words >>= λ line. Ok (said_after said line))) Heard
      told_full true e = tt
      told_full false e =
          bind_ok (told_read word words) (λ line. Ok (said_after said line)) IsToldLine Heard told_ok (λ line p. put_told said h (leb-false _ _ e) line p)

      go : (remark moves : Bool) → IfOk (cond (not remark && nat_le 100000 (cond moves (length said.go) (length said.order))) (Err why.Many)
          (cond remark (Ok Passed) (cond moves (goes_read words) (told_read word words)) >>= λ line. Ok (said_after said line))) Heard
      go true moves = h
      go false true = go_full (nat_le 100000 (length said.go)) refl
      go false false = told_full (nat_le 100000 (length said.order)) refl

  lines_ok : (r : Read Commands) (number : ℕ) (more : Commands → Result Commands ScriptRefusal) → IfOk r Heard
      → ((said : Commands) → Heard said → IfOk (more said) Heard) → IfOk (and_lines more (at_line number r)) Heard
  lines_ok (Ok said) number more h next = next said h
  lines_ok (Err e) number more h next = tt

  pub body_heard : (lines : List Text) (said : Commands) (number : ℕ) → Heard said → IfOk (body_over config flags said number lines) Heard
  unfolding body_over
  body_heard [] said number h = h
  body_heard (line ∷ lines) said number h =
      lines_ok (line_after config flags said (words_of line)) number (λ next. body_over config flags next (number + 1) lines)
      (after_ok said (words_of line) h) (λ next more. body_heard lines next (number + 1) more)
