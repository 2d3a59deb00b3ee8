-- The lines of a body that is written say its plan.
use Rattle.std.proofs.Common.{◌≡◌, ℕ, zero, suc, ◌+◌, ◌<◌, ◌≤◌, Bool, true, false, List, [], ◌∷◌, ◌++◌, length, drop, map, set, get_or, Option, Some, None, Ok, nat_le, All, slice_index_or, refl, sym, ap, subst, ◌∙◌, arith, inl, inr}
use Rattle.std.specs.List.{AllByRecursion}
use Rattle.std.proofs.lemmas.Bool.{cases_eq, cases_lt, eq-eqb, lt-leb, ne_eqb}
use Rattle.std.proofs.lemmas.List.{append-nil, append_assoc, drop_more, get_or-set_other, get_or-set_same, length-append, length-set, set_past, take_all}
use Rattle.std.proofs.lemmas.List.Elements.{All-drop, All-head, All-tail, All-weaker, recursion_from_All}
use Rattle.txn_data.specs.declared.command.Command.{Command}
use Rattle.txn_data.specs.declared.command.Command.TheVariants as command
use Rattle.txn_data.specs.declared.commands.Commands.{Commands}
use Rattle.txn_data.specs.declared.config.Config.{Config}
use Rattle.txn_data.specs.declared.go_line.GoLine.{GoLine}
use Rattle.txn_data.specs.declared.mover.Mover.{Mover}
use Rattle.txn_data.specs.declared.mover.Mover.TheVariants.{Session, Applier}
use Rattle.txn_data.specs.declared.session_plan.SessionPlan.{SessionPlan}
use Rattle.txn_types.specs.Plan.{IsSession}
use Rattle.txn_types.specs.Script.{commands_of, count}
use Rattle.cluster_config.specs.Head.{IsSpelled}
use Rattle.script_text.specs.declared.line.Line.{Line}
use Rattle.script_text.specs.declared.line.Line.TheVariants.{Told, Goes}
use Rattle.script_text.specs.Commands.{flags_over, is_go, is_passed, line_of, no_flags, session_in, with_flag}
use Rattle.script_text.specs.Lines.{Text}
use Rattle.script_text.specs.Saying.{IsMove, IsMover, IsSaid, IsSpeaker, IsSpoken}
use Rattle.script_text.specs.Script.{body_of, body_over, is_full, line_after, said_after}
use Rattle.script_text.specs.Words.{words_of}
use Rattle.script_text.specs.Written.{AreInBytes, IsInBytes, body_lines, go_words, left, spaced, told_line, told_lines, told_words}
use Rattle.script_text.proofs.Heard.{IsFlag, RiseAbove}
use Rattle.script_text.proofs.Queueing.{AreOfBytes}
use Rattle.script_text.proofs.Regrouping.{all_so_far, none_so_far, one_more, rise, so_far}
use Rattle.script_text.proofs.Staying.{IsWord, is_plain, spaced_plain, words_again}
use Rattle.script_text.proofs.WrittenWords.{IsGood, go_line_is, go_line_says, told_line_is, told_line_kind, told_line_says}

-- ---- lists

count-append : (i : ℕ) (a b : List ℕ) → count i (a ++ b) ≡ count i a + count i b
unfolding count
count-append i [] b = omega arith
count-append i (j ∷ a) b = omega (arith, count-append i a b)

count_first : (s : ℕ) (more : List ℕ) → count s (s ∷ more) ≡ count s more + 1
unfolding count
count_first s more = let same = eq-eqb s s refl in rw same refl

count_behind : (i s : ℕ) (more : List ℕ) → (i ≡ s → ⊥) → count i (s ∷ more) ≡ count i more
unfolding count
count_behind i s more other = let apart = ne_eqb i s other in rw apart (omega arith)

abbrev AreWords : List Text → Type 0
AreWords words = AllByRecursion IsWord words

-- words that are some
abbrev pub IsLine : List Text → Type 0
IsLine [] = ⊥
IsLine (word ∷ words) = AreWords (word ∷ words)

again : (words : List Text) → IsLine words → words_of (spaced words) ≡ words
again [] is = absurd is
again (word ∷ words) is = words_again word words is.0 is.1

pub plain_line : (words : List Text) → IsLine words → is_plain (spaced words) ≡ true
plain_line [] is = absurd is
plain_line (word ∷ words) is = spaced_plain (word ∷ words) is

-- ---- the sessions of a plan

-- a session that has commands
pub record Speaks (config : Config) (s : ℕ) (cs : List Command) : Type 0 where
  pub session : IsSession s
  pub commands : All (IsSpoken config) cs

pub speaks : (config : Config) (s : ℕ) (plans : List SessionPlan) → All (IsSpeaker config) plans → 0 < length (commands_of s plans) → Speaks config s (commands_of s plans)
unfolding commands_of
speaks config s [] all some = absurd (omega arith)
speaks config s (p ∷ plans) all some = elim (cases_eq p.session s) [
  | inl same ↦
      let own = eq-eqb p.session s same in
      let first = All-head (IsSpeaker config) p plans all in
      rw own (record { session = subst IsSession same first.0; commands = first.2 })
  | inr other ↦
      let apart = ne_eqb p.session s other in
      let behind : 0 < length (commands_of s plans) = rw apart at some in
      rw apart (speaks config s plans (All-tail (IsSpeaker config) p plans all) behind)
]

-- a session of a line has commands
count_some : (js : List ℕ) (k d : ℕ) → k < length js → 1 ≤ count (get_or js k d) js
unfolding count
count_some [] k d lt = absurd (omega arith)
count_some (j ∷ js) zero d lt = let same = eq-eqb j j refl in rw same (omega arith)
count_some (j ∷ js) (suc k) d lt = omega (arith, count_some js k d (omega arith))

pub order_small : (config : Config) (plan : Commands) → IsSaid config plan → All (λ i. i ≤ 1000) plan.order
order_small config plan said k d lt =
    let i = get_or plan.order k d in
    (speaks config i plan.sessions said.sessions (omega (arith, count_some plan.order k d lt, said.order i))).session.1

pub sessions_small : (config : Config) (plan : Commands) → IsSaid config plan → All (λ (p : SessionPlan). p.session ≤ 1000) plan.sessions
sessions_small config plan said = All-weaker (IsSpeaker config) (λ (p : SessionPlan). p.session ≤ 1000) (λ p s. s.0.1) plan.sessions said.sessions

-- all commands were written
pub all_of_bytes : (config : Config) (plan : Commands) → IsSaid config plan → AreOfBytes plan.sessions plan.order → AreInBytes plan
all_of_bytes config plan said are session k d lt =
    let all = commands_of session plan.sessions in
    let small = (speaks config session plan.sessions said.sessions (omega (arith, lt))).session.1 in
    subst (λ (cs : List Command). All IsInBytes cs) (take_all (count session plan.order) all (omega (arith, said.order session))) (are session small) k d lt

module _ (config : Config) (spelled : IsSpelled config) (plan : Commands) (said : IsSaid config plan) (bytes : AreInBytes plan) where
  abbrev flags : List Bool
  flags = flags_over no_flags (map spaced (body_lines plan))

  rises : RiseAbove 0 plan.sessions
  rises = rise config plan.sessions said.rising said.sessions

  -- the next line
  record Next (done : List ℕ) (s : ℕ) : Type 0 where
    told : Command
    later : List Command
    is : left plan.sessions done s ≡ told ∷ later
    session : IsSession s
    spoken : IsSpoken config told
    of_bytes : IsInBytes told

  next : (done : List ℕ) (s : ℕ) (more : List ℕ) → done ++ s ∷ more ≡ plan.order → Next done s
  next done s more is =
      let k = count s done in
      let all = commands_of s plan.sessions in
      let counted : count s plan.order ≡ k + (count s more + 1) =
      ap (count s) (sym is) ∙ (count-append s done (s ∷ more) ∙ ap (λ (n : ℕ). k + n) (count_first s more)) in
      let lt : k < length all = omega (arith, counted, said.order s) in
      let here = drop_more all k command.End lt in
      let s_speaks = speaks config s plan.sessions said.sessions (omega (arith, lt)) in
      record {
        told = get_or all k command.End;
        later = drop (k + 1) all;
        is = here;
        session = s_speaks.session;
        spoken = All-head (IsSpoken config) (get_or all k command.End) (drop (k + 1) all) (subst (λ (cs : List Command). All (IsSpoken config) cs) here (All-drop (IsSpoken config) k all s_speaks.commands));
        of_bytes = All-head IsInBytes (get_or all k command.End) (drop (k + 1) all) (subst (λ (cs : List Command). All IsInBytes cs) here (All-drop IsInBytes k all (bytes s)));
      }

  regrouped : (done more : List ℕ) (s : ℕ) → (done ++ s ∷ []) ++ more ≡ done ++ s ∷ more
  regrouped done more s = append_assoc done (s ∷ []) more

  -- ---- the lines are words

  abbrev AreLines : List (List Text) → Type 0
  AreLines lines = AllByRecursion IsLine lines

  lines_behind : (lines others : List (List Text)) → AreLines lines → AreLines others → AreLines (lines ++ others)
  lines_behind [] others a b = b
  lines_behind (line ∷ lines) others a b = (a.0, lines_behind lines others a.1 b)

  told_are_lines : (more done : List ℕ) → done ++ more ≡ plan.order → AreLines (told_lines plan.sessions done more)
  unfolding told_lines
  told_are_lines [] done is = tt
  told_are_lines (s ∷ more) done is =
      let n = next done s more is in
      let words : AreWords (told_words s n.told) = told_line_is config spelled s n.told n.session n.spoken n.of_bytes in
      subst (λ (cs : List Command). AreLines (told_line s cs ++ told_lines plan.sessions (done ++ s ∷ []) more)) (sym n.is)
      (words, told_are_lines more (done ++ s ∷ []) (regrouped done more s ∙ is))

  -- ---- flags

  abbrev IsSet : List Bool → ℕ → Type 0
  IsSet fs i = slice_index_or fs i false ≡ true

  stays_set : (fs : List Bool) (session : Option ℕ) (i : ℕ) → IsSet fs i → IsSet (with_flag fs session) i
  stays_set fs None i is = is
  stays_set fs (Some s) i is = elim (cases_eq i s) [
    | inl same ↦ elim (cases_lt s (length fs)) [
      | inl lt ↦ ap (λ (j : ℕ). slice_index_or (set fs s true) j false) same ∙ get_or-set_same fs s true false lt
      | inr le ↦ ap (λ (xs : List Bool). slice_index_or xs i false) (set_past fs s true le) ∙ is
    ]
    | inr other ↦ get_or-set_other fs s i true false other ∙ is
  ]

  flags_stay : (lines : List Text) (fs : List Bool) (i : ℕ) → IsSet fs i → IsSet (flags_over fs lines) i
  unfolding flags_over
  flags_stay [] fs i is = is
  flags_stay (line ∷ lines) fs i is = flags_stay lines (with_flag fs (session_in (words_of line))) i (stays_set fs (session_in (words_of line)) i is)

  named : (others : List (List Text)) (more done : List ℕ) (fs : List Bool) (i : ℕ) → done ++ more ≡ plan.order → length fs ≡ 1001 → 1 ≤ count i more
      → IsSet (flags_over fs (map spaced (told_lines plan.sessions done more ++ others))) i
  unfolding told_lines flags_over count
  named others [] done fs i is room some = absurd (omega arith)
  named others (s ∷ more) done fs i is room some =
      let n = next done s more is in
      let words = told_words s n.told in
      let first : session_in (words_of (spaced words)) ≡ Some s =
      ap session_in (again words (told_line_is config spelled s n.told n.session n.spoken n.of_bytes)) ∙ (told_line_kind config spelled s n.told n.session).names in
      let rest = map spaced (told_lines plan.sessions (done ++ s ∷ []) more ++ others) in
      let after : IsSet (flags_over (set fs s true) rest) i = elim (cases_eq i s) [
        | inl same ↦ flags_stay rest (set fs s true) i (ap (λ (j : ℕ). slice_index_or (set fs s true) j false) same ∙ get_or-set_same fs s true false (omega (arith, n.session.1)))
        | inr other ↦ named others more (done ++ s ∷ []) (set fs s true) i (regrouped done more s ∙ is) (length-set fs s true ∙ room) (omega (arith, count_behind i s more other))
      ] in
      subst (λ (cs : List Command). IsSet (flags_over fs (map spaced ((told_line s cs ++ told_lines plan.sessions (done ++ s ∷ []) more) ++ others))) i) (sym n.is)
      (subst (λ (o : Option ℕ). IsSet (flags_over (with_flag fs o) rest) i) (sym first) after)

  flag_of : (i : ℕ) → 1 ≤ length (commands_of i plan.sessions) → IsSet flags i
  flag_of i some = named (map go_words plan.go) plan.order [] no_flags i refl refl (omega (arith, some, said.order i))

  good : (g : GoLine) → IsMove config plan g → IsGood config flags g
  good g is = record {
    flagged = (flagged g.who is.0, is.1, is.2);
    session = λ i e. (speaks config i plan.sessions said.sessions (subst (IsMover config plan) e is.0)).session;
    applier = λ k e. subst (IsMover config plan) e is.0;
  }
    where
      flagged : (m : Mover) → IsMover config plan m → IsFlag config flags m
      flagged (Session i) some = flag_of i some
      flagged (Applier k) lt = lt

  goes_are_lines : (gs : List GoLine) → AllByRecursion (IsMove config plan) gs → AreLines (map go_words gs)
  goes_are_lines [] all = tt
  goes_are_lines (g ∷ gs) all = (go_line_is config spelled flags g (good g all.0), goes_are_lines gs all.1)

  pub body_are_lines : AreLines (body_lines plan)
  body_are_lines =
      lines_behind (told_lines plan.sessions [] plan.order) (map go_words plan.go) (told_are_lines plan.order [] refl)
      (goes_are_lines plan.go (recursion_from_All (IsMove config plan) plan.go said.moves))

  -- ---- the body

  -- one line
  line_read : (so : Commands) (line : Line) (words : List Text) → IsLine words → is_full so words ≡ false → line_of config flags words ≡ Ok line
      → line_after config flags so (words_of (spaced words)) ≡ Ok (said_after so line)
  line_read so line words are room says = rw (again words are, room, says) refl

  body_step : (so : Commands) (line : Line) (words : List Text) (lines : List Text) (number : ℕ) → line_after config flags so (words_of (spaced words)) ≡ Ok (said_after so line)
      → body_over config flags so number (spaced words ∷ lines) ≡ body_over config flags (said_after so line) (number + 1) lines
  unfolding body_over
  body_step so line words lines number read = rw read refl

  abbrev Reads : Commands → List Text → Type 0
  Reads so lines = (number : ℕ) → body_over config flags so number lines ≡ Ok plan

  goes_read : (gs before : List GoLine) → before ++ gs ≡ plan.go → AllByRecursion (IsMove config plan) gs
      → Reads (record { sessions = plan.sessions; order = plan.order; go = before }) (map spaced (map go_words gs))
  unfolding body_over
  goes_read [] before is all number =
      ap (λ (g : List GoLine). Ok (record { sessions = plan.sessions; order = plan.order; go = g })) (sym (append-nil before) ∙ is)
  goes_read (g ∷ gs) before is all number =
      let so : Commands = record { sessions = plan.sessions; order = plan.order; go = before } in
      let lt : length before < length plan.go = omega (arith, ap length is, length-append before (g ∷ gs)) in
      let room : is_full so (go_words g) ≡ false = lt-leb 100000 (length before) (omega (arith, lt, said.few_moves)) in
      let says = go_line_says config spelled flags g (said.schedule (omega (arith, lt))) (good g all.0) in
      body_step so (Goes g) (go_words g) (map spaced (map go_words gs)) number
      (line_read so (Goes g) (go_words g) (go_line_is config spelled flags g (good g all.0)) room says)
      ∙ goes_read gs (before ++ g ∷ []) (append_assoc before (g ∷ []) gs ∙ is) all.1 (number + 1)

  abbrev so_said : List ℕ → Commands
  so_said done = record { sessions = so_far done plan.sessions; order = done; go = [] }

  told_read : (more done : List ℕ) → done ++ more ≡ plan.order
      → Reads (so_said done) (map spaced (told_lines plan.sessions done more ++ map go_words plan.go))
  unfolding told_lines
  told_read [] done is number =
      let all : done ≡ plan.order = sym (append-nil done) ∙ is in
      let sessions : so_far plan.order plan.sessions ≡ plan.sessions =
      all_so_far 0 plan.sessions plan.order rises (All-weaker (IsSpeaker config) (λ (p : SessionPlan). 1 ≤ length p.commands) (λ p s. s.1) plan.sessions said.sessions) (λ i lt. said.order i) in
      let so : so_said done ≡ record { sessions = plan.sessions; order = plan.order; go = [] } =
      ap so_said all ∙ ap (λ (ps : List SessionPlan). record { sessions = ps; order = plan.order; go = [] }) sessions in
      ap (λ (c : Commands). body_over config flags c number (map spaced (map go_words plan.go))) so
      ∙ goes_read plan.go [] refl (recursion_from_All (IsMove config plan) plan.go said.moves) number
  told_read (s ∷ more) done is number =
      let n = next done s more is in
      let words = told_words s n.told in
      let kind = (told_line_kind config spelled s n.told n.session).counts in
      let lt : length done < length plan.order = omega (arith, ap length is, length-append done (s ∷ more)) in
      let room : is_full (so_said done) words ≡ false =
      full words kind.0 kind.1 (lt-leb 100000 (length done) (omega (arith, lt, said.few_commands))) in
      let says = told_line_says config spelled flags s n.told n.session n.spoken n.of_bytes in
      let rest = map spaced (told_lines plan.sessions (done ++ s ∷ []) more ++ map go_words plan.go) in
      let after : said_after (so_said done) (Told s n.told) ≡ so_said (done ++ s ∷ []) =
      ap (λ (ps : List SessionPlan). record { sessions = ps; order = done ++ s ∷ []; go = [] }) (one_more 0 plan.sessions done s n.told n.later rises n.is) in
      subst (λ (cs : List Command). body_over config flags (so_said done) number (map spaced ((told_line s cs ++ told_lines plan.sessions (done ++ s ∷ []) more) ++ map go_words plan.go)) ≡ Ok plan) (sym n.is)
      (body_step (so_said done) (Told s n.told) words rest number
      (line_read (so_said done) (Told s n.told) words (told_line_is config spelled s n.told n.session n.spoken n.of_bytes) room says)
      ∙ (ap (λ (c : Commands). body_over config flags c (number + 1) rest) after
      ∙ told_read more (done ++ s ∷ []) (regrouped done more s ∙ is) (number + 1)))
    where
      full : (words : List Text) → is_passed words ≡ false → is_go words ≡ false → nat_le 100000 (length done) ≡ false → is_full (so_said done) words ≡ false
      full words passed go room = rw (passed, go, room) refl

  -- what the body says
  pub body_again : (first : ℕ) → body_of config first (map spaced (body_lines plan)) ≡ Ok plan
  body_again first =
      ap (λ (ps : List SessionPlan). body_over config flags (record { sessions = ps; order = []; go = [] }) first (map spaced (body_lines plan))) (sym (none_so_far plan.sessions))
      ∙ told_read plan.order [] refl first
