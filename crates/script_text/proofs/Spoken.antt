-- The commands that are read from lines can be said.
use Rattle.std.proofs.Common.{◌≡◌, ℕ, ◌-◌, ◌^◌, ◌<◌, ◌≤◌, Bool, true, false, cond, List, [], ◌∷◌, length, Option, Some, None, IfSome, Ok, Err, IfOk, nat_eq, nat_le, ◌&&◌, refl, arith}
use Rattle.std.specs.Prelude.{option_map}
use Rattle.std.specs.Prelude.{All}
use Rattle.std.proofs.lemmas.Bool.{and_parts, leb-true}
use Rattle.std.proofs.lemmas.List.Elements.{All-cons, All-nil}
use Rattle.txn_data.specs.declared.command.Command.{Command}
use Rattle.txn_data.specs.declared.command.Command.TheVariants as command
use Rattle.txn_data.specs.declared.config.Config.{Config}
use Rattle.txn_data.specs.declared.place.Place.{Place}
use Rattle.txn_types.specs.Plan.{CanRestart, IsCluster}
use Rattle.cluster_config.specs.Head.{largest}
use Rattle.script_text.specs.declared.verb.Verb.{Verb}
use Rattle.script_text.specs.declared.verb.Verb.TheVariants as verb
use Rattle.script_text.specs.declared.why.Why.{Why}
use Rattle.script_text.specs.declared.why.Why.TheVariants as why
use Rattle.script_text.specs.Commands.{Read, ◌>>=◌, actor, actor_or, alone, apply_of, begin_of, clock_of, command_of, del_of, numbered, or_why, path, paths}
use Rattle.script_text.specs.Commands.{priority, priority_text, put_of, read_paths, restart_of, scan_path, single_del_of, single_put_of, strict_of, tablet, value, written}
use Rattle.script_text.specs.Lines.{Text}
use Rattle.script_text.specs.Saying.{IsColumn, IsPlaced, IsSpoken}
use Rattle.script_text.specs.Terms.{number_in, place_of, value_of}
use Rattle.script_text.proofs.Spelled.{number_some, place_some, value_some}

-- ---- steps

pub or_why_ok : {A : Type 0} (e : Why) (o : Option A) (P : A → Type 0) → IfSome o P → IfOk (or_why e o) P
or_why_ok e None P p = tt
or_why_ok e (Some x) P p = p

pub bind_ok : {A B : Type 0} (r : Read A) (f : A → Read B) (P : A → Type 0) (Q : B → Type 0) → IfOk r P
    → ((x : A) → P x → IfOk (f x) Q) → IfOk (r >>= f) Q
bind_ok (Ok x) f P Q p more = more x p
bind_ok (Err e) f P Q p more = tt

pub any_ok : {A : Type 0} (r : Read A) → IfOk r (λ _. Unit {0})
any_ok (Ok x) = tt
any_ok (Err e) = tt

cond_ok : {A : Type 0} (b : Bool) (x y : Read A) (P : A → Type 0) → (b ≡ true → IfOk x P) → IfOk y P → IfOk (cond b x y) P
cond_ok true x y P p q = p refl
cond_ok false x y P p q = q

map_some : {A B : Type 0} (o : Option A) (f : A → B) (P : A → Type 0) (Q : B → Type 0) → IfSome o P
    → ((x : A) → P x → Q (f x)) → IfSome (option_map f o) Q
map_some None f P Q p more = tt
map_some (Some x) f P Q p more = more x p

-- ---- operands

path_ok : (config : Config) (word : Text) → IfOk (path config word) (IsPlaced config)
path_ok config word = or_why_ok why.Path (place_of config.tablets word) (IsPlaced config) (place_some config word)

value_ok : (word : Text) → IfOk (value word) IsColumn
value_ok word = or_why_ok why.Value (value_of word) IsColumn (value_some word)

abbrev IsWritten : Config → Place × List ℕ → Type 0
IsWritten config w = IsPlaced config w.0 × IsColumn w.1

written_ok : (config : Config) (word other : Text) → IfOk (written config word other) (IsWritten config)
written_ok config word other =
    bind_ok (path config word) _ (IsPlaced config) (IsWritten config) (path_ok config word) (λ place placed.
    bind_ok (value other) _ IsColumn (IsWritten config) (value_ok other) (λ bytes column. (placed, column)))

abbrev IsPriority : ℕ → Type 0
IsPriority n = n < 2 ^ 32

priority_ok : (text : Text) → IfOk (priority text) IsPriority
priority_ok text = or_why_ok why.Number (number_in 0 4294967295 text) IsPriority (small (number_in 0 4294967295 text) (number_some 0 4294967295 text))
  where
    small : (o : Option ℕ) → IfSome o (λ n. (0 ≤ n) × (n ≤ 4294967295)) → IfSome o IsPriority
    small None p = tt
    small (Some n) p = omega (arith, p.1)

pub numbered_some : (letter many : ℕ) (word : Text) → 1 ≤ many → IfSome (numbered letter many word) (λ n. n < many)
numbered_some letter many [] some = tt
numbered_some letter many (b ∷ text) some = go (nat_eq b letter)
  where
    small : (o : Option ℕ) → IfSome o (λ n. (0 ≤ n) × (n ≤ many - 1)) → IfSome o (λ n. n < many)
    small None p = tt
    small (Some n) p = omega (arith, p.1, some)

    go : (t : Bool) → IfSome (cond t (number_in 0 (many - 1) text) None) (λ n. n < many)
    go true = small (number_in 0 (many - 1) text) (number_some 0 (many - 1) text)
    go false = tt

actor_some : (config : Config) (word : Text) → IsCluster config → IfSome (actor config word) (CanRestart config)
actor_some config word is = go (numbered 116 config.tablets word) (numbered 115 config.status word) (numbered_some 116 config.tablets word is.tablets.0) (numbered_some 115 config.status word is.status.0)
  where
    go : (o other : Option ℕ) → IfSome o (λ n. n < config.tablets) → IfSome other (λ n. n < config.status) → IfSome (actor_or o other) (CanRestart config)
    go (Some k) other p q = p
    go None (Some j) p q = q
    go None None p q = tt

-- ---- commands

module _ (config : Config) (is : IsCluster config) where
  abbrev Spoken : Command → Type 0
  Spoken c = IsSpoken config c

  begin_ok : (words : List Text) → IfOk (begin_of words) Spoken
  begin_ok [] = omega arith
  begin_ok (option ∷ []) =
      bind_ok (priority_text option) _ (λ _. Unit {0}) Spoken (any_ok (priority_text option)) (λ text _.
      bind_ok (priority text) _ IsPriority Spoken (priority_ok text) (λ n p. p))
  begin_ok (option ∷ other ∷ words) = tt

  put_ok : (words : List Text) → IfOk (put_of config words) Spoken
  put_ok [] = tt
  put_ok (word ∷ []) = tt
  put_ok (word ∷ other ∷ []) = bind_ok (written config word other) _ (IsWritten config) Spoken (written_ok config word other) (λ w p. (p.0, p.1))
  put_ok (word ∷ other ∷ another ∷ words) = tt

  del_ok : (words : List Text) → IfOk (del_of config words) Spoken
  del_ok [] = tt
  del_ok (word ∷ []) = bind_ok (path config word) _ (IsPlaced config) Spoken (path_ok config word) (λ place p. p)
  del_ok (word ∷ other ∷ words) = tt

  alone_ok : (c : Command) (words : List Text) → Spoken c → IfOk (alone c words) Spoken
  alone_ok c [] p = p
  alone_ok c (word ∷ words) p = tt

  abbrev ArePlaced : List Text → List Place → Type 0
  ArePlaced words places = (length places ≡ length words) × All (IsPlaced config) places

  paths_ok : (words : List Text) → IfOk (paths config words) (ArePlaced words)
  unfolding paths
  paths_ok [] = (refl, All-nil (IsPlaced config))
  paths_ok (word ∷ words) =
      bind_ok (path config word) _ (IsPlaced config) (ArePlaced (word ∷ words)) (path_ok config word) (λ first p.
      bind_ok (paths config words) _ (ArePlaced words) (ArePlaced (word ∷ words)) (paths_ok words) (λ places ps.
      (omega (arith, ps.0), All-cons (IsPlaced config) first places p ps.1)))

  read_ok : (strict : Bool) (words : List Text) → IfOk (read_paths config strict words) Spoken
  read_ok strict words =
      cond_ok (nat_le 1 (length words) && nat_le (length words) 16) (paths config words >>= λ places. Ok (command.Read strict places)) (Err why.Words) Spoken (λ e.
      let bounds = and_parts _ _ e in
      let least = leb-true 1 (length words) bounds.0 in
      let most = leb-true (length words) 16 bounds.1 in
      bind_ok (paths config words) _ (ArePlaced words) Spoken (paths_ok words) (λ places ps.
      (omega (arith, ps.0, least), omega (arith, ps.0, most), ps.1))) tt

  scan_ok : (strict : Bool) (words : List Text) → IfOk (scan_path config strict words) Spoken
  scan_ok strict [] = tt
  scan_ok strict (word ∷ []) = bind_ok (path config word) _ (IsPlaced config) Spoken (path_ok config word) (λ place p. p)
  scan_ok strict (word ∷ other ∷ words) = tt

  single_put_ok : (words : List Text) → IfOk (single_put_of config words) Spoken
  single_put_ok [] = tt
  single_put_ok (word ∷ []) = tt
  single_put_ok (word ∷ other ∷ []) =
      bind_ok (written config word other) _ (IsWritten config) Spoken (written_ok config word other) (λ w p. (p.0, p.1, omega arith))
  single_put_ok (word ∷ other ∷ option ∷ []) =
      bind_ok (priority_text option) _ (λ _. Unit {0}) Spoken (any_ok (priority_text option)) (λ text _.
      bind_ok (written config word other) _ (IsWritten config) Spoken (written_ok config word other) (λ w p.
      bind_ok (priority text) _ IsPriority Spoken (priority_ok text) (λ n q. (p.0, p.1, q))))
  single_put_ok (word ∷ other ∷ option ∷ another ∷ words) = tt

  single_del_ok : (words : List Text) → IfOk (single_del_of config words) Spoken
  single_del_ok [] = tt
  single_del_ok (word ∷ []) = bind_ok (path config word) _ (IsPlaced config) Spoken (path_ok config word) (λ place p. (p, omega arith))
  single_del_ok (word ∷ option ∷ []) =
      bind_ok (priority_text option) _ (λ _. Unit {0}) Spoken (any_ok (priority_text option)) (λ text _.
      bind_ok (path config word) _ (IsPlaced config) Spoken (path_ok config word) (λ place p.
      bind_ok (priority text) _ IsPriority Spoken (priority_ok text) (λ n q. (p, q))))
  single_del_ok (word ∷ option ∷ another ∷ words) = tt

  restart_ok : (words : List Text) → IfOk (restart_of config words) Spoken
  restart_ok [] = tt
  restart_ok (word ∷ []) =
      or_why_ok why.Number (option_map command.Restart (actor config word)) Spoken
      (map_some (actor config word) command.Restart (CanRestart config) Spoken (actor_some config word is) (λ a p. p))
  restart_ok (word ∷ other ∷ words) = tt

  apply_ok : (words : List Text) → IfOk (apply_of config words) Spoken
  apply_ok [] = tt
  apply_ok (word ∷ []) =
      or_why_ok why.Number (option_map command.Apply (tablet config word)) Spoken
      (map_some (tablet config word) command.Apply (λ n. n < config.tablets) Spoken (numbered_some 116 config.tablets word is.tablets.0) (λ k p. p))
  apply_ok (word ∷ other ∷ words) = tt

  abbrev IsBetween : ℕ → ℕ → ℕ → Type 0
  IsBetween low high n = (low ≤ n) × (n ≤ high)

  clock_ok : (words : List Text) → IfOk (clock_of config words) Spoken
  clock_ok [] = tt
  clock_ok (word ∷ []) = tt
  clock_ok (word ∷ other ∷ []) =
      bind_ok (or_why why.Number (number_in 0 (config.nodes - 1) word)) _ (IsBetween 0 (config.nodes - 1)) Spoken
      (or_why_ok why.Number _ (IsBetween 0 (config.nodes - 1)) (number_some 0 (config.nodes - 1) word)) (λ node p.
      bind_ok (or_why why.Number (number_in 0 largest other)) _ (IsBetween 0 largest) Spoken
      (or_why_ok why.Number _ (IsBetween 0 largest) (number_some 0 largest other)) (λ micros q. (omega (arith, p.1, is.nodes.0), q.1)))
  clock_ok (word ∷ other ∷ another ∷ words) = tt

  -- what a verb and the words after it give
  pub command_ok : (v : Verb) (words : List Text) → IfOk (command_of config v words) Spoken
  command_ok verb.Begin words = begin_ok words
  command_ok verb.Put words = put_ok words
  command_ok verb.Del words = del_ok words
  command_ok verb.Commit words = alone_ok command.Commit words tt
  command_ok verb.Abort words = alone_ok command.Abort words tt
  command_ok verb.Read words = read_ok (strict_of words).0 (strict_of words).1
  command_ok verb.Scan words = scan_ok (strict_of words).0 (strict_of words).1
  command_ok verb.SinglePut words = single_put_ok words
  command_ok verb.SingleDel words = single_del_ok words
  command_ok verb.Restart words = restart_ok words
  command_ok verb.Apply words = apply_ok words
  command_ok verb.Clock words = clock_ok words
