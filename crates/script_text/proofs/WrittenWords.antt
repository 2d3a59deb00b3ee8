-- The words of commands and moves that are written say these commands and moves.
use Rattle.std.proofs.Common.{◌≡◌, ℕ, zero, suc, ◌-◌, ◌^◌, ◌<◌, ◌≤◌, Bool, true, false, List, [], ◌∷◌, ◌++◌, length, take, drop, map, Some, None, Ok, nat_eq, nat_le, decimal, All, codes, bytes_eq, refl, ap, ◌∙◌, arith}
use Rattle.std.specs.List.{AllByRecursion, list_all}
use Rattle.std.proofs.lemmas.Bool.{and_parts, le-leb, leb-true, ne_eqb}
use Rattle.std.proofs.lemmas.List.{drop_at, length-map, length_push, take_at}
use Rattle.std.proofs.lemmas.List.Elements.{All-head, All-tail}
use Rattle.doc_value.specs.Reading.{IsBytes}
use Rattle.txn_data.specs.declared.actor.Actor.{Actor}
use Rattle.txn_data.specs.declared.actor.Actor.TheVariants.{Tablet, Status, Session, Applier}
use Rattle.txn_data.specs.declared.command.Command.{Command}
use Rattle.txn_data.specs.declared.command.Command.TheVariants as command
use Rattle.txn_data.specs.declared.config.Config.{Config}
use Rattle.txn_data.specs.declared.go_line.GoLine.{GoLine}
use Rattle.txn_data.specs.declared.mover.Mover.{Mover}
use Rattle.txn_data.specs.declared.mover.Mover.TheVariants as of_mover
use Rattle.txn_data.specs.declared.place.Place.{Place}
use Rattle.txn_data.specs.declared.schedule.Schedule.TheVariants.{Go}
use Rattle.txn_types.specs.Plan.{CanRestart, IsCluster, IsSession}
use Rattle.cluster_config.specs.Head.{IsSpelled, largest}
use Rattle.script_text.specs.declared.line.Line.TheVariants.{Told, Goes}
use Rattle.script_text.specs.declared.marks.Marks.TheVariants.{OfLine}
use Rattle.script_text.specs.declared.within.Within.TheVariants.{Outside}
use Rattle.script_text.specs.Commands.{begins_remark, is_go, is_passed, line_of, mover, numbered, paths, session_before, session_in, session_of, told_of}
use Rattle.script_text.specs.Lines.{Text}
use Rattle.script_text.specs.Saying.{IsPlaced, IsSpoken}
use Rattle.script_text.specs.Terms.{is_digit, number_in}
use Rattle.script_text.specs.Written.{IsInBytes, actor_word, command_words, go_words, mover_word, path_word, priority_words, strict_words, told_words, value_word}
use Rattle.script_text.proofs.Digits.{Spells, decimal_spells, number_again}
use Rattle.script_text.proofs.Heard.{IsFlag, IsFlagged}
use Rattle.script_text.proofs.ShownPaths.{IsPathWord, IsValueWord, column_word, placed_word}
use Rattle.script_text.proofs.Staying.{IsWord, Stands, decimal_stands, stands_append}

-- ---- numbers

-- the first byte of a text is a digit
abbrev pub LeadsDigit : Text → Type 0
LeadsDigit [] = ⊥
LeadsDigit (b ∷ text) = (48 ≤ b) × (b ≤ 57)

digit_first : (n : ℕ) (text : Text) → Spells n text → LeadsDigit text
digit_first n [] s = absurd (omega (arith, s.some))
digit_first n (b ∷ text) s =
    let bounds = and_parts (nat_le 48 b) (nat_le b 57) (and_parts (is_digit b) (list_all is_digit text) s.digits).0 in
    (leb-true 48 b bounds.0, leb-true b 57 bounds.1)

number_word : (n : ℕ) → n < 2 ^ 64 → IsWord (decimal n)
number_word n lt = record { stands = decimal_stands OfLine n lt; some = (decimal_spells n lt).some }

-- a letter before a number
lettered : (b n : ℕ) → Stands OfLine Outside (b ∷ []) Outside → n < 2 ^ 64 → IsWord (b ∷ decimal n)
lettered b n letter lt = record {
  stands = stands_append OfLine Outside Outside Outside (b ∷ []) (decimal n) letter (decimal_stands OfLine n lt);
  some = omega arith;
}

numbered_again : (letter many n : ℕ) → nat_eq letter letter ≡ true → n < many → many ≤ 64 → numbered letter many (letter ∷ decimal n) ≡ Some n
numbered_again letter many n same lt few =
    rw (same, number_again 0 (many - 1) n (omega arith) (omega arith) (omega arith)) refl

-- ---- priorities

abbrev IsPriority : ℕ → Type 0
IsPriority n = n < 2 ^ 32

priority_again : (n : ℕ) → IsPriority n → number_in 0 4294967295 (decimal n) ≡ Some n
priority_again n lt = number_again 0 4294967295 n (omega arith) (omega arith) (omega arith)

priority_word : (n : ℕ) → IsPriority n → AllByRecursion IsWord (priority_words n)
priority_word zero lt = tt
priority_word (suc n) lt = (
  record {
    stands = stands_append OfLine Outside Outside Outside (codes "prio=") (decimal (suc n)) (record { stays = refl; plain = refl }) (decimal_stands OfLine (suc n) (omega arith));
    some = omega arith;
  },
  tt,
)

-- what is looked at in a line before it is read
pub record IsToldLine (session : ℕ) (words : List Text) : Type 0 where
  pub counts : (is_passed words ≡ false) × (is_go words ≡ false)
  pub names : session_in words ≡ Some session

-- a move that the flags allow
pub record IsGood (config : Config) (flags : List Bool) (g : GoLine) : Type 0 where
  pub flagged : IsFlagged config flags g
  pub session : (i : ℕ) → g.who ≡ of_mover.Session i → IsSession i
  pub applier : (k : ℕ) → g.who ≡ of_mover.Applier k → k < config.tablets

-- the first word of a line is that of a session
record IsSessionWord (session : ℕ) (word : Text) : Type 0 where
  is : IsWord word
  no_remark : begins_remark word ≡ false
  no_go : bytes_eq word (codes "@go") ≡ false
  names : session_of word ≡ Some session

-- ---- the words of commands

fixed : (word : Text) → Stands OfLine Outside word Outside → 0 < length word → IsWord word
fixed word stands some = record { stands = stands; some = some }

module _ (config : Config) (spelled : IsSpelled config) where
  cluster : IsCluster config
  cluster = spelled.cluster

  abbrev PathWord : Place → Type 0
  PathWord place = IsPathWord config place (path_word place)

  paths_again : (places : List Place) → All (IsPlaced config) places → All (λ (p : Place). All IsBytes p.path) places → paths config (map path_word places) ≡ Ok places
  unfolding paths
  paths_again [] are bytes = refl
  paths_again (p ∷ places) are bytes =
      let first = (placed_word config p (All-head (IsPlaced config) p places are) (All-head (λ (p : Place). All IsBytes p.path) p places bytes)).again in
      let others = paths_again places (All-tail (IsPlaced config) p places are) (All-tail (λ (p : Place). All IsBytes p.path) p places bytes) in
      rw (first, others) refl

  path_words : (places : List Place) → All (IsPlaced config) places → All (λ (p : Place). All IsBytes p.path) places → AllByRecursion IsWord (map path_word places)
  path_words [] are bytes = tt
  path_words (p ∷ places) are bytes = (
    (placed_word config p (All-head (IsPlaced config) p places are) (All-head (λ (p : Place). All IsBytes p.path) p places bytes)).is,
    path_words places (All-tail (IsPlaced config) p places are) (All-tail (λ (p : Place). All IsBytes p.path) p places bytes),
  )

  -- what a session and the words of a command say
  abbrev Says : ℕ → Command → Type 0
  Says session told = told_of config session (command_words told) ≡ Ok (Told session told)

  read_says : (session : ℕ) (strict : Bool) (places : List Place) → IsSpoken config (command.Read strict places) → IsInBytes (command.Read strict places) → Says session (command.Read strict places)
  read_says session true places says bytes =
      let least = le-leb 1 (length places) says.0 in
      let most = le-leb (length places) 16 says.1 in
      let again = paths_again places says.2 bytes in
      rw (length-map places path_word, least, most, again) refl
  read_says session false [] says bytes = absurd (omega (arith, says.0))
  read_says session false (p ∷ places) says bytes =
      let apart = (placed_word config p (All-head (IsPlaced config) p places says.2) (All-head (λ (p : Place). All IsBytes p.path) p places bytes)).apart in
      let least = le-leb 1 (length (p ∷ places)) says.0 in
      let most = le-leb (length (p ∷ places)) 16 says.1 in
      let again = paths_again (p ∷ places) says.2 bytes in
      rw (apart, length-map places path_word, least, most, again) refl

  scan_says : (session : ℕ) (strict : Bool) (place : Place) → PathWord place → Says session (command.Scan strict place)
  scan_says session true place w = let again = w.again in rw again refl
  scan_says session false place w = let again = w.again in let apart = w.apart in rw (apart, again) refl

  begin_says : (session priority : ℕ) → IsPriority priority → Says session (command.Begin priority)
  begin_says session zero lt = refl
  begin_says session (suc n) lt = let again = priority_again (suc n) lt in rw again refl

  single_put_says : (session : ℕ) (place : Place) (v : List ℕ) (priority : ℕ) → PathWord place → IsValueWord v (value_word v) → IsPriority priority → Says session (command.SinglePut place v priority)
  single_put_says session place v zero w x lt = let again = w.again in let value = x.again in rw (again, value) refl
  single_put_says session place v (suc n) w x lt =
      let again = w.again in
      let value = x.again in
      let priority = priority_again (suc n) lt in
      rw (again, value, priority) refl

  single_del_says : (session : ℕ) (place : Place) (priority : ℕ) → PathWord place → IsPriority priority → Says session (command.SingleDel place priority)
  single_del_says session place zero w lt = let again = w.again in rw again refl
  single_del_says session place (suc n) w lt =
      let again = w.again in
      let priority = priority_again (suc n) lt in
      rw (again, priority) refl

  told_says : (session : ℕ) (told : Command) → IsSpoken config told → IsInBytes told → Says session told
  told_says session (command.Begin priority) says bytes = begin_says session priority says
  told_says session (command.Put place v) says bytes =
      let again = (placed_word config place says.0 bytes.0).again in
      let value = (column_word v says.1 bytes.1).again in
      rw (again, value) refl
  told_says session (command.Del place) says bytes = let again = (placed_word config place says bytes).again in rw again refl
  told_says session command.Commit says bytes = refl
  told_says session command.Abort says bytes = refl
  told_says session (command.Read strict places) says bytes = read_says session strict places says bytes
  told_says session (command.Scan strict place) says bytes = scan_says session strict place (placed_word config place says bytes)
  told_says session (command.SinglePut place v priority) says bytes =
      single_put_says session place v priority (placed_word config place says.0 bytes.0) (column_word v says.1 bytes.1) says.2
  told_says session (command.SingleDel place priority) says bytes = single_del_says session place priority (placed_word config place says.0 bytes) says.1
  told_says session (command.Restart (Tablet k)) says bytes = let again = numbered_again 116 config.tablets k refl says cluster.tablets.1 in rw again refl
  told_says session (command.Restart (Status j)) says bytes = let again = numbered_again 115 config.status j refl says (omega (arith, cluster.status.1)) in rw again refl
  told_says session (command.Restart (Session i)) says bytes = absurd says
  told_says session (command.Restart (Applier k)) says bytes = absurd says
  told_says session (command.Apply k) says bytes = let again = numbered_again 116 config.tablets k refl says cluster.tablets.1 in rw again refl
  told_says session (command.Clock node micros) says bytes =
      let first = number_again 0 (config.nodes - 1) node (omega arith) (omega (arith, says.0)) (omega (arith, says.0, cluster.nodes.1)) in
      let second = number_again 0 largest micros (omega arith) says.1 (omega (arith, says.1)) in
      rw (first, second) refl
  told_says session command.End says bytes = absurd says

  -- ---- they are words

  abbrev AreWords : List Text → Type 0
  AreWords words = AllByRecursion IsWord words

  behind_strict : (strict : Bool) (words : List Text) → AreWords words → AreWords (strict_words strict ++ words)
  behind_strict true words are = (fixed (codes "norestart") (record { stays = refl; plain = refl }) (omega arith), are)
  behind_strict false words are = are

  restart_word : (a : Actor) → CanRestart config a → IsWord (actor_word a)
  restart_word (Tablet k) can = lettered 116 k (record { stays = refl; plain = refl }) (omega (arith, can, cluster.tablets.1))
  restart_word (Status j) can = lettered 115 j (record { stays = refl; plain = refl }) (omega (arith, can, cluster.status.1))
  restart_word (Session i) can = absurd can
  restart_word (Applier k) can = absurd can

  told_are : (told : Command) → IsSpoken config told → IsInBytes told → AreWords (command_words told)
  told_are (command.Begin priority) says bytes = (fixed (codes "begin") (record { stays = refl; plain = refl }) (omega arith), priority_word priority says)
  told_are (command.Put place v) says bytes =
      (fixed (codes "put") (record { stays = refl; plain = refl }) (omega arith), ((placed_word config place says.0 bytes.0).is, ((column_word v says.1 bytes.1).is, tt)))
  told_are (command.Del place) says bytes = (fixed (codes "del") (record { stays = refl; plain = refl }) (omega arith), ((placed_word config place says bytes).is, tt))
  told_are command.Commit says bytes = (fixed (codes "commit") (record { stays = refl; plain = refl }) (omega arith), tt)
  told_are command.Abort says bytes = (fixed (codes "abort") (record { stays = refl; plain = refl }) (omega arith), tt)
  told_are (command.Read strict places) says bytes =
      (fixed (codes "read") (record { stays = refl; plain = refl }) (omega arith), behind_strict strict (map path_word places) (path_words places says.2 bytes))
  told_are (command.Scan strict place) says bytes =
      (fixed (codes "scan") (record { stays = refl; plain = refl }) (omega arith), behind_strict strict (path_word place ∷ []) ((placed_word config place says bytes).is, tt))
  told_are (command.SinglePut place v priority) says bytes = (
    fixed (codes "single") (record { stays = refl; plain = refl }) (omega arith),
    (
      fixed (codes "put") (record { stays = refl; plain = refl }) (omega arith),
      ((placed_word config place says.0 bytes.0).is, ((column_word v says.1 bytes.1).is, priority_word priority says.2)),
    ),
  )
  told_are (command.SingleDel place priority) says bytes = (
    fixed (codes "single") (record { stays = refl; plain = refl }) (omega arith),
    (
      fixed (codes "del") (record { stays = refl; plain = refl }) (omega arith),
      ((placed_word config place says.0 bytes).is, priority_word priority says.1),
    ),
  )
  told_are (command.Restart a) says bytes = (fixed (codes "restart") (record { stays = refl; plain = refl }) (omega arith), (restart_word a says, tt))
  told_are (command.Apply k) says bytes =
      (fixed (codes "apply") (record { stays = refl; plain = refl }) (omega arith), (lettered 116 k (record { stays = refl; plain = refl }) (omega (arith, says, cluster.tablets.1)), tt))
  told_are (command.Clock node micros) says bytes = (
    fixed (codes "clock") (record { stays = refl; plain = refl }) (omega arith),
    (number_word node (omega (arith, says.0, cluster.nodes.1)), (number_word micros (omega (arith, says.1)), tt)),
  )
  told_are command.End says bytes = absurd says

  -- ---- lines

  no_other : (b : ℕ) (text : Text) → LeadsDigit (b ∷ text) → (begins_remark (b ∷ text) ≡ false) × (bytes_eq (b ∷ text) (codes "@go") ≡ false)
  no_other b text h =
      let least = h.0 in
      let most = h.1 in
      let no_at = ne_eqb b 64 (omega arith) in
      (ne_eqb b 35 (omega arith), rw no_at refl)

  leads_more : (text more : Text) → LeadsDigit text → LeadsDigit (text ++ more)
  leads_more [] more h = absurd h
  leads_more (b ∷ text) more h = h

  others : (text : Text) → LeadsDigit text → (begins_remark text ≡ false) × (bytes_eq text (codes "@go") ≡ false)
  others [] h = absurd h
  others (b ∷ text) h = no_other b text h

  session_word : (session : ℕ) → IsSession session → IsSessionWord session (decimal session ++ 58 ∷ [])
  session_word session is =
      let word = decimal session ++ 58 ∷ [] in
      let s = decimal_spells session (omega (arith, is.1)) in
      let apart = others word (leads_more (decimal session) (58 ∷ []) (digit_first session (decimal session) s)) in
      let len : length word - 1 ≡ length (decimal session) = omega (arith, length_push (decimal session) 58) in
      let number = number_again 1 1000 session is.0 is.1 (omega (arith, is.1)) in
      record {
        is = record {
          stands = stands_append OfLine Outside Outside Outside (decimal session) (58 ∷ []) (decimal_stands OfLine session (omega (arith, is.1))) (record { stays = refl; plain = refl });
          some = omega (arith, length_push (decimal session) 58);
        };
        no_remark = apart.0;
        no_go = apart.1;
        names =
            ap (λ (n : ℕ). session_before (drop n word) (take n word)) len
            ∙ (ap (λ (t : Text). session_before t (take (length (decimal session)) word)) (drop_at (decimal session) (58 ∷ []) (length (decimal session)) refl)
            ∙ (ap (λ (t : Text). session_before (58 ∷ []) t) (take_at (decimal session) (58 ∷ []) (length (decimal session)) refl) ∙ number));
      }

  pub told_line_says : (flags : List Bool) (session : ℕ) (told : Command) → IsSession session → IsSpoken config told → IsInBytes told
      → line_of config flags (told_words session told) ≡ Ok (Told session told)
  told_line_says flags session told is says bytes =
      let w = session_word session is in
      let no_remark = w.no_remark in
      let no_go = w.no_go in
      let names = w.names in
      rw (no_remark, no_go, names) (told_says session told says bytes)

  pub told_line_is : (session : ℕ) (told : Command) → IsSession session → IsSpoken config told → IsInBytes told → AreWords (told_words session told)
  told_line_is session told is says bytes = ((session_word session is).is, told_are told says bytes)

  pub told_line_kind : (session : ℕ) (told : Command) → IsSession session → IsToldLine session (told_words session told)
  told_line_kind session told is = let w = session_word session is in record { counts = (w.no_remark, w.no_go); names = w.names }

  -- ---- moves

  no_letter : (text : Text) → LeadsDigit text → numbered 97 config.tablets text ≡ None
  no_letter [] h = absurd h
  no_letter (b ∷ text) h =
      let least = h.0 in
      let most = h.1 in
      let other = ne_eqb b 97 (omega arith) in
      rw other refl

  mover_says : (flags : List Bool) (m : Mover) → IsFlag config flags m → ((i : ℕ) → m ≡ of_mover.Session i → IsSession i) → mover config flags (mover_word m) ≡ Some m
  mover_says flags (of_mover.Session i) flag is =
      let number = number_again 1 1000 i (is i refl).0 (is i refl).1 (omega (arith, (is i refl).1)) in
      let none = no_letter (decimal i) (digit_first i (decimal i) (decimal_spells i (omega (arith, (is i refl).1)))) in
      rw (none, number, flag) refl
  mover_says flags (of_mover.Applier k) flag is = let again = numbered_again 97 config.tablets k refl flag cluster.tablets.1 in rw again refl

  mover_is : (m : Mover) → ((i : ℕ) → m ≡ of_mover.Session i → IsSession i) → ((k : ℕ) → m ≡ of_mover.Applier k → k < config.tablets) → IsWord (mover_word m)
  mover_is (of_mover.Session i) is lt = number_word i (omega (arith, (is i refl).1))
  mover_is (of_mover.Applier k) is lt = lettered 97 k (record { stays = refl; plain = refl }) (omega (arith, lt k refl, cluster.tablets.1))

  pub go_line_says : (flags : List Bool) (g : GoLine) → config.schedule ≡ Go → IsGood config flags g → line_of config flags (go_words g) ≡ Ok (Goes g)
  go_line_says flags g schedule good =
      let who = mover_says flags g.who good.flagged.0 good.session in
      let count = number_again 1 1000000 g.count good.flagged.1 good.flagged.2 (omega (arith, good.flagged.2)) in
      rw (schedule, who, count) refl

  pub go_line_is : (flags : List Bool) (g : GoLine) → IsGood config flags g → AreWords (go_words g)
  go_line_is flags g good = (
    fixed (codes "@go") (record { stays = refl; plain = refl }) (omega arith),
    (mover_is g.who good.session good.applier, (number_word g.count (omega (arith, good.flagged.2)), tt)),
  )
