-- What is left of the lines that were given.
use Rattle.std.proofs.Common.{◌≡◌, ◌+◌, Bool, true, false, ◌&&◌, not, List, [], ◌∷◌, ◌++◌, Option, Some, None, length, drop, nat_eq, refl, sym, ap, ◌∙◌, subst, inl, inr, append_assoc, arith}
use Rattle.std.proofs.lemmas.List.{length-append}
use Rattle.std.proofs.lemmas.List.Elements.{All-head, All-tail, All-nil}
use Rattle.std.proofs.Math.Seq.{drop-append_seam}
use Rattle.std.proofs.Math.ListN.{drop_of_length-le}
use Rattle.std.specs.Prelude.{is_some}
use Rattle.std.specs.List.{All}
use Rattle.txn_data.specs.declared.command.Command.{Command}
use Rattle.txn_data.specs.declared.command.Command.TheVariants as command
use Rattle.txn_data.specs.declared.config.Config.{Config}
use Rattle.txn_types.specs.Plan.{IsLine}
use Rattle.txn_types.specs.Run.{StartsLine}
use Rattle.txn_types.specs.Session.{Opened, IsOpen}
use Rattle.law_machines.proofs.Basics.{eq_refl, eq_cases}
use Rattle.mover_chain.specs.NextEvent.{Starts, starts_next, session_starts}
use Rattle.mover_seat.specs.Lines.{Splits, TakesLine, Next, Ends, line_next}
use Rattle.mover_seat.specs.declared.lines.Lines.{Lines}

-- ## what comes next

pub append_none : (xs : List Command) → xs ++ [] ≡ xs
append_none [] = refl
append_none (x ∷ xs) = ap (λ (more : List Command). x ∷ more) (append_none xs)

next_some : (x : Command) (more : List Command) (b c : Bool) → starts_next (x ∷ more) b ≡ starts_next (x ∷ more) c
next_some x more b c = refl

next_any : (left : List Command) (b c : Bool) → (left ≡ [] → b ≡ c) → starts_next left b ≡ starts_next left c
next_any [] b c same = ap (starts_next []) (same refl)
next_any (x ∷ more) b c same = refl

pub and_true : (a b : Bool) → a ≡ true → (b && a) ≡ b
and_true a true is = is
and_true a false is = refl

same_length : (given begun left : List Command) → given ≡ begun ++ left → left ≡ [] → nat_eq (length begun) (length given) ≡ true
same_length given begun left is none =
    let one : given ≡ begun = is ∙ ap (λ (xs : List Command). begun ++ xs) none ∙ append_none begun in
    subst (λ (xs : List Command). nat_eq (length begun) (length xs) ≡ true) (sym one) (eq_refl (length begun))

other_length : (given begun : List Command) → begun ≡ given ++ command.End ∷ [] → nat_eq (length begun) (length given) ≡ false
other_length given begun is =
    let more : length begun ≡ length given + 1 = ap length is ∙ length-append given (command.End ∷ []) in
    elim (eq_cases (length begun) (length given)) [ inl e ↦ absurd (omega (arith, e.1)) | inr e ↦ e.0 ]

-- a session starts the first of the lines that are left, or End
pub starts_left : (given begun left : List Command) (ended all : Bool) (o : Option Opened) → Splits given begun ended left → (ended ≡ true → left ≡ []) →
    session_starts all begun given o ≡ starts_next left (all && not ended && is_some o)
starts_left given begun left false all o is last =
    ap (λ (xs : List Command). starts_next xs (all && nat_eq (length begun) (length given) && is_some o)) (ap (drop (length begun)) is ∙ drop-append_seam begun left)
    ∙ next_any left (all && nat_eq (length begun) (length given) && is_some o) (all && true && is_some o)
    (λ none. ap (λ (b : Bool). all && b && is_some o) (same_length given begun left is none))
starts_left given begun left true all o is last =
    let more : length begun ≡ length given + 1 = ap length is ∙ length-append given (command.End ∷ []) in
    ap (λ (xs : List Command). starts_next xs (all && nat_eq (length begun) (length given) && is_some o)) (drop_of_length-le given (omega arith) ∙ sym (last refl))
    ∙ ap (λ (b : Bool). starts_next left (all && b && is_some o)) (other_length given begun is)

-- ## a line that is taken

split_next : (given begun left more : List Command) (line : Command) (ended : Bool) → Splits given begun ended left → (ended ≡ true → left ≡ []) → left ≡ line ∷ more → Splits given (begun ++ line ∷ []) ended more
split_next given begun left more line false is last next =
    is ∙ ap (λ (xs : List Command). begun ++ xs) next ∙ sym (append_assoc begun (line ∷ []) more)
split_next given begun left more line true is last next = let none : left ≡ [] = last refl in cc

split_end : (given begun left : List Command) → given ≡ begun ++ left → left ≡ [] → begun ++ command.End ∷ [] ≡ given ++ command.End ∷ []
split_end given begun left is none = ap (λ (xs : List Command). xs ++ command.End ∷ []) (sym (is ∙ ap (λ (xs : List Command). begun ++ xs) none ∙ append_none begun))

pub taken_splits : (given begun : List Command) (line : Command) (l k : Lines) → TakesLine l line k → Splits given begun l.ended l.left.items → Splits given (begun ++ line ∷ []) k.ended k.left.items
taken_splits given begun line l k taken is = elim taken [
  | Next first ended ↦ subst (λ (b : Bool). Splits given (begun ++ line ∷ []) b k.left.items) (sym ended) (split_next given begun l.left.items k.left.items line l.ended is l.last first)
  | Ends none same was ended after ↦
      let before : given ≡ begun ++ l.left.items = subst (λ (b : Bool). Splits given begun b l.left.items) was is in
      subst (λ (b : Bool). Splits given (begun ++ line ∷ []) b k.left.items) (sym ended)
      (ap (λ (x : Command). begun ++ x ∷ []) same ∙ split_end given begun l.left.items before none)
]

pub taken_lines : (config : Config) (line : Command) (l k : Lines) → TakesLine l line k → All (IsLine config) l.left.items → All (IsLine config) k.left.items
taken_lines config line l k taken are = elim taken [
  | Next first ended ↦ All-tail (IsLine config) line k.left.items (subst (All (IsLine config)) first are)
  | Ends none same was ended after ↦ subst (All (IsLine config)) (sym after) (All-nil (IsLine config))
]

-- ## a line that a session may start

line_starts : (config : Config) (o : Option Opened) (line : Command) → IsLine config line → StartsLine config o line
line_starts config o (command.Begin priority) is = is
line_starts config o (command.Put place v) is = is
line_starts config o (command.Del place) is = is
line_starts config o command.Commit is = is
line_starts config o command.Abort is = is
line_starts config o (command.Read strict places) is = is
line_starts config o (command.Scan strict place) is = is
line_starts config o (command.SinglePut place v priority) is = is
line_starts config o (command.SingleDel place priority) is = is
line_starts config o (command.Restart actor) is = is
line_starts config o (command.Apply tablet) is = is
line_starts config o (command.Clock node micros) is = is
line_starts config o command.End is = absurd is

open_of : (o : Option Opened) → is_some o ≡ true → IsOpen o
open_of None is = cc
open_of (Some x) is = tt

starts_true : (b : Bool) (line : Command) → starts_next [] b ≡ Starts line → b ≡ true
starts_true true line is = refl
starts_true false line is = cc

last_true : (a b c : Bool) → (a && b && c) ≡ true → c ≡ true
last_true true true c is = is
last_true true false c is = cc
last_true false b c is = cc

pub taken_starts : (config : Config) (o : Option Opened) (is_open : Bool) (line : Command) (l k : Lines) → TakesLine l line k → All (IsLine config) l.left.items → line_next l is_open ≡ Starts line → is_open ≡ is_some o → StartsLine config o line
taken_starts config o is_open line l k taken are next is = elim taken [
  | Next first ended ↦ line_starts config o line (All-head (IsLine config) line k.left.items (subst (All (IsLine config)) first are))
  | Ends none same was ended after ↦
      let may = l.finished && not l.ended && is_open in
      let starts : starts_next [] may ≡ Starts line = subst (λ (xs : List Command). starts_next xs may ≡ Starts line) none next in
      let opened : is_open ≡ true = last_true l.finished (not l.ended) is_open (starts_true may line starts) in
      subst (StartsLine config o) (sym same) (open_of o (sym is ∙ opened))
]
