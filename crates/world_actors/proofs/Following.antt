-- One entry more, and the lines that were given.
use Rattle.std.proofs.Common.{◌≡◌, ℕ, ◌+◌, Bool, true, false, ◌&&◌, nat_eq, List, [], ◌∷◌, ◌++◌, Option, Some, None, drop, length, take, is_some, refl, sym, ◌∙◌, ap, subst, inl, inr, arith}
use Rattle.std.proofs.Math.Seq.{append_snoc, drop-append_seam, take-append_seam}
use Rattle.std.proofs.lemmas.Bool.{and_parts}
use Rattle.std.proofs.lemmas.List.{append-nil, length-append, drop_all}
use Rattle.txn_data.specs.declared.actor.Actor.{Actor}
use Rattle.txn_data.specs.declared.actor.Actor.TheVariants.{Session}
use Rattle.txn_data.specs.declared.command.Command.{Command}
use Rattle.txn_data.specs.declared.command.Command.TheVariants as command
use Rattle.txn_data.specs.declared.config.Config.{Config}
use Rattle.txn_data.specs.declared.told.Told.{Told}
use Rattle.txn_data.specs.declared.event.Event.{Event}
use Rattle.txn_data.specs.declared.event.Event.TheVariants.{Start, Ask, Serve, Hear, Tell, Restarted}
use Rattle.txn_data.specs.declared.entry.Entry.{Entry}
use Rattle.txn_types.specs.History.{History, same_actor}
use Rattle.txn_types.specs.Program.{Program}
use Rattle.txn_types.specs.Session.{Opened}
use Rattle.txn_types.specs.Run.{Flight, Quiet, Asked, Answered, flight, mover_at}
use Rattle.txn_types.specs.Script.{FollowsLines, commands_of, line_by, lines}
use Rattle.law_machines.proofs.Basics.{eq_true, same_true, test_cases}
use Rattle.mover_chain.specs.NextEvent.{Given, Starts, NoneLeft, goes_on, may_end, next_event, session_starts, starts_next}
use Rattle.mover_chain.proofs.Fronts.{Front, front_of}
use Rattle.mover_chain.proofs.Lines.{lines_own, lines_other}
use Rattle.world_actors.specs.Standing.{FollowsGiven}

-- ## a line more

follows_of : (begun planned : List Command) → Front begun planned → FollowsLines begun planned
follows_of begun planned (inr all) = inr all
follows_of begun planned (inl front) = inl (sym (ap (take (length begun)) (sym front.1) ∙ take-append_seam begun front.0))

no_start : (f : Flight) (rest : Program Told) (line : Command) → goes_on f rest ≡ Starts line → ⊥
no_start Quiet rest line is = cc
no_start (Asked to asked) rest line is = cc
no_start (Answered from r) rest line is = cc

starts_line : (x line : Command) (more : List Command) (may : Bool) → starts_next (x ∷ more) may ≡ Starts line → x ≡ line
starts_line x line more may is = let same : Starts x ≡ Starts line = is in cc

starts_end : (may : Bool) (line : Command) → starts_next [] may ≡ Starts line → (may ≡ true) × (line ≡ command.End)
starts_end true line is = (refl, let same : Starts command.End ≡ Starts line = is in cc)
starts_end false line is = absurd (let never : NoneLeft ≡ Starts line = is in cc)

same_length : (begun more planned : List Command) → begun ++ more ≡ planned → length begun ≡ length planned → more ≡ []
same_length begun [] planned is same = refl
same_length begun (x ∷ xs) planned is same =
    absurd (let longer : length begun + length (x ∷ xs) ≡ length planned = sym (length-append begun (x ∷ xs)) ∙ ap length is in omega (arith, longer, same))

next_front : (begun planned : List Command) (opened : Option Opened) (all : Bool) (line : Command) → Front begun planned → session_starts all begun planned opened ≡ Starts line → Front (begun ++ line ∷ []) planned
next_front begun planned opened all line (inr ended) is =
    let none : drop (length begun) planned ≡ [] = drop_all (length begun) planned (let longer = ap length ended ∙ length-append planned (command.End ∷ []) in omega (arith, longer)) in
    let may = starts_end (may_end all begun planned opened) line (subst (λ (l : List Command). starts_next l (may_end all begun planned opened) ≡ Starts line) none is) in
    let parts = and_parts (all && nat_eq (length begun) (length planned)) (is_some opened) may.0 in
    let same = eq_true (length begun) (length planned) (and_parts all (nat_eq (length begun) (length planned)) parts.0).1 in
    absurd (let longer = ap length ended ∙ length-append planned (command.End ∷ []) in omega (arith, same, longer))
next_front begun planned opened all line (inl front) is = by_more front.0 front.1
  where
    rest : (more : List Command) → begun ++ more ≡ planned → starts_next more (may_end all begun planned opened) ≡ Starts line
    rest more parts = subst (λ (l : List Command). starts_next l (may_end all begun planned opened) ≡ Starts line) (ap (drop (length begun)) (sym parts) ∙ drop-append_seam begun more) is

    by_more : (more : List Command) → begun ++ more ≡ planned → Front (begun ++ line ∷ []) planned
    by_more (x ∷ xs) parts = inl (xs, subst (λ (l : Command). (begun ++ l ∷ []) ++ xs ≡ planned) (starts_line x line xs (may_end all begun planned opened) (rest (x ∷ xs) parts)) (append_snoc begun x xs ∙ parts))
    by_more [] parts =
        let end = starts_end (may_end all begun planned opened) line (rest [] parts) in
        inr (ap (λ (l : Command). begun ++ l ∷ []) end.1 ∙ ap (λ (l : List Command). l ++ command.End ∷ []) (sym (append-nil begun) ∙ parts))

-- ## an entry more

next_line : (given : Given) (config : Config) (i : ℕ) (h : History) (line : Command) → FollowsLines (lines (Session i) h) (commands_of i given.sessions) → next_event given config (Session i) h ≡ Starts line →
    FollowsLines (lines (Session i) h ++ line ∷ []) (commands_of i given.sessions)
next_line given config i h line follows is = by_line (mover_at config (Session i) h).line is
  where
    by_line : (under : Option Command) →
        (elim under [ Some l ↦ goes_on (flight (Session i) h) (mover_at config (Session i) h).rest | None ↦ session_starts given.all (lines (Session i) h) (commands_of i given.sessions) (mover_at config (Session i) h).keeps.opened ]) ≡ Starts line →
        FollowsLines (lines (Session i) h ++ line ∷ []) (commands_of i given.sessions)
    by_line (Some l) next = absurd (no_start (flight (Session i) h) (mover_at config (Session i) h).rest line next)
    by_line None next = follows_of (lines (Session i) h ++ line ∷ []) (commands_of i given.sessions)
        (next_front (lines (Session i) h) (commands_of i given.sessions) (mover_at config (Session i) h).keeps.opened given.all line (front_of (lines (Session i) h) (commands_of i given.sessions) follows) next)

pub follows_step : (given : Given) (config : Config) (e : Entry) (h : History) → FollowsGiven given h → ((number : ℕ) (line : Command) → e.event ≡ Start number line → next_event given config e.actor h ≡ Starts line) → FollowsGiven given (e ∷ h)
follows_step given config e h follows starts i = elim (test_cases (same_actor e.actor (Session i))) [
  | inr other ↦ subst (λ (l : List Command). FollowsLines l (commands_of i given.sessions)) (sym (lines_other (Session i) e h other)) (follows i)
  | inl own ↦ subst (λ (l : List Command). FollowsLines l (commands_of i given.sessions)) (sym (lines_own (Session i) e h own)) (by_event own e.event refl)
]
  where
    none : FollowsLines (lines (Session i) h ++ []) (commands_of i given.sessions)
    none = subst (λ (l : List Command). FollowsLines l (commands_of i given.sessions)) (sym (append-nil (lines (Session i) h))) (follows i)

    by_event : same_actor e.actor (Session i) ≡ true → (event : Event) → e.event ≡ event → FollowsLines (lines (Session i) h ++ line_by event) (commands_of i given.sessions)
    by_event own (Start number line) is =
        next_line given config i h line (follows i) (subst (λ (a : Actor). next_event given config a h ≡ Starts line) (same_true e.actor (Session i) own) (starts number line is))
    by_event own (Ask to asked) is = none
    by_event own (Serve from asked r time append) is = none
    by_event own (Hear from r) is = none
    by_event own (Tell number t) is = none
    by_event own (Restarted from kept) is = none

-- ## before the first entry

pub follows_none : (given : Given) → FollowsGiven given []
unfolding lines
follows_none given i = inl refl
