-- How much a mover has left in the whole history, where it is moved on or to its end; and the ends of sessions.
use Rattle.std.proofs.Common.{◌≡◌, ℕ, zero, suc, ◌+◌, ◌-◌, ◌<◌, ◌≤◌, true, false, nat_eq, List, [], ◌∷◌, ◌++◌, flat_map, length, replicate, refl, sym, ◌∙◌, ap, subst, inl, inr, arith}
use Rattle.std.proofs.lemmas.Bool.{ltb-true, ltb-false}
use Rattle.std.proofs.lemmas.List.{append-nil, length-append}
use Rattle.txn_data.specs.declared.actor.Actor.{Actor}
use Rattle.txn_data.specs.declared.actor.Actor.TheVariants.{Session, Applier}
use Rattle.txn_data.specs.declared.config.Config.{Config}
use Rattle.txn_data.specs.declared.command.Command.{Command}
use Rattle.txn_data.specs.declared.command.Command.TheVariants as command
use Rattle.txn_data.specs.declared.commands.Commands.{Commands}
use Rattle.txn_data.specs.declared.session_plan.SessionPlan.{SessionPlan}
use Rattle.txn_types.specs.Lists.{Member}
use Rattle.txn_types.specs.History.{History, same_actor}
use Rattle.txn_types.specs.Plan.{AreRising}
use Rattle.txn_types.specs.Run.{Run}
use Rattle.txn_types.specs.Script.{commands_of, entries_beside, entries_of, has_left, left, lines, moves, named, turns, Whole}
use Rattle.law_machines.proofs.Basics.{eq_cases}
use Rattle.mover_chain.specs.Laws.{StoodBefore}
use Rattle.mover_chain.specs.NextEvent.{given_by, has_event}
use Rattle.mover_chain.proofs.Counted.{left_is_counted, session_named}
use Rattle.mover_chain.proofs.Fronts.{Front, front_of}
use Rattle.mover_chain.proofs.Left.{moves_step}
use Rattle.mover_chain.proofs.States.{Same}
use Rattle.law_schedules.specs.Courses.{Moved, MovedToEnd, OneByOne}
use Rattle.law_schedules.proofs.Moving.{append_more, by_moves, by_named, by_other, by_stood, moved_by, same_none, same_over, stood_over}
use Rattle.law_schedules.proofs.Telling.{all_from}
use Rattle.law_schedules.proofs.Passing.{one_first, one_none, one_stood}
use Rattle.law_schedules.proofs.Ordering.{HasMade, other_session}

-- a history that is part of a run which does all of a plan
pub record PartOf (config : Config) (plan : Commands) (h whole : History) : Type 0 where
  pub stood : StoodBefore h whole
  pub run : Run config whole
  pub all : Whole config plan whole

pub part_before : (config : Config) (plan : Commands) (g h whole : History) → StoodBefore g h → PartOf config plan h whole → PartOf config plan g whole
part_before config plan g h whole early part = record { stood = stood_over g h whole early part.stood; run = part.run; all = part.all }

counted : (config : Config) (plan : Commands) (h whole : History) (a : Actor) → PartOf config plan h whole → has_event (given_by plan) config a h ≡ has_left config whole (moves h) a
counted config plan h whole a part = left_is_counted config plan h whole a part.run part.all part.stood

pub none_is_left : (config : Config) (plan : Commands) (h whole : History) (a : Actor) → PartOf config plan h whole → has_event (given_by plan) config a h ≡ false → left config whole (moves h) a ≡ 0
none_is_left config plan h whole a part none =
    let low = ltb-false 0 (left config whole (moves h) a) (sym (counted config plan h whole a part) ∙ none) in omega (arith, low)

some_is_left : (config : Config) (plan : Commands) (h whole : History) (a : Actor) → PartOf config plan h whole → has_event (given_by plan) config a h ≡ true → 0 < left config whole (moves h) a
some_is_left config plan h whole a part some = ltb-true 0 (left config whole (moves h) a) (sym (counted config plan h whole a part) ∙ some)

-- a mover that was moved so often had at least so much left
moved_few : (config : Config) (plan : Commands) (a : Actor) (n : ℕ) (g h whole : History) → PartOf config plan h whole → Moved (given_by plan) config a n g h → n ≤ left config whole (moves g) a
unfolding Moved
moved_few config plan a zero g h whole part moved = omega arith
moved_few config plan a (suc n) g [] whole part moved = absurd moved
moved_few config plan a (suc n) g (e ∷ h) whole part moved =
    let before = part_before config plan h (e ∷ h) whole (e ∷ [], refl) part in
    let some = some_is_left config plan h whole a before moved.2 in
    let so_far = by_named a n g h (moved_by (given_by plan) config a n g h moved.0) in
    more (entries_beside config a whole) (named a (moves h)) (named a (moves g)) some so_far
  where
    more : (all late early : ℕ) → 0 < all - late → late ≡ early + n → suc n ≤ all - early
    more all late early some so_far = omega (arith, some, so_far)

-- what it has left then is so much less
pub moved_left : (config : Config) (plan : Commands) (a : Actor) (n : ℕ) (g h whole : History) → PartOf config plan h whole → Moved (given_by plan) config a n g h →
    (n ≤ left config whole (moves g) a) × (left config whole (moves g) a ≡ left config whole (moves h) a + n)
moved_left config plan a n g h whole part moved =
    let few = moved_few config plan a n g h whole part moved in
    let so_far = by_named a n g h (moved_by (given_by plan) config a n g h moved) in
    (few, less (entries_beside config a whole) (named a (moves h)) (named a (moves g)) few so_far)
  where
    less : (all late early : ℕ) → n ≤ all - early → late ≡ early + n → all - early ≡ all - late + n
    less all late early few so_far = omega (arith, few, so_far)

pub moved_stood : (config : Config) (plan : Commands) (a : Actor) (n : ℕ) (g h : History) → Moved (given_by plan) config a n g h → StoodBefore g h
moved_stood config plan a n g h moved = by_stood a n g h (moved_by (given_by plan) config a n g h moved)

pub end_stood : (config : Config) (plan : Commands) (a : Actor) (g h : History) → MovedToEnd (given_by plan) config a g h → StoodBefore g h
end_stood config plan a g h moved = moved_stood config plan a moved.0 g h moved.1

-- moved to its end, it was moved as often as it had left
pub moved_to_end : (config : Config) (plan : Commands) (a : Actor) (g h whole : History) → PartOf config plan h whole → MovedToEnd (given_by plan) config a g h →
    moves h ≡ moves g ++ replicate (left config whole (moves g) a) a
moved_to_end config plan a g h whole part moved =
    let many = moved_left config plan a moved.0 g h whole part moved.1 in
    let none = none_is_left config plan h whole a part moved.2 in
    let same : moved.0 ≡ left config whole (moves g) a = let is = many.1 in omega (arith, is, none) in
    by_moves a moved.0 g h (moved_by (given_by plan) config a moved.0 g h moved.1) ∙ ap (λ m. moves g ++ replicate m a) same

-- ## the end of a session

named_grows : (a : Actor) (later h : History) → named a (moves h) ≤ named a (moves (later ++ h))
named_grows a [] h = omega arith
named_grows a (e ∷ later) h = let before = named_grows a later h in rw (moves_step a e (later ++ h)) (omega (arith, before))

few_lines : (begun planned : List Command) → Front begun planned → length begun ≤ length planned + 1
few_lines begun planned (inl front) = let is = ap length (sym front.1) ∙ length-append begun front.0 in omega (arith, is)
few_lines begun planned (inr all) = let is = ap length all ∙ length-append planned (command.End ∷ []) in omega (arith, is)

-- all that a session has left is of its end, where it was told all its lines
ends : (config : Config) (plan : Commands) (i : ℕ) (planned : List Command) (g h whole : History) → PartOf config plan h whole → commands_of i plan.sessions ≡ planned → HasMade config (length planned) g i →
    MovedToEnd (given_by plan) config (Session i) g h → moves h ≡ moves g ++ turns whole (Session i) (length planned + 1)
ends config plan i planned g h whole part lines_are made moved =
    let stood = stood_over g h whole (end_stood config plan (Session i) g h moved) part.stood in
    let begun = made.1 in
    let few = few_lines (lines (Session i) whole) planned (subst (λ (l : List Command). Front (lines (Session i) whole) l) lines_are (front_of (lines (Session i) whole) (commands_of i plan.sessions) (part.all.follows i))) in
    let all = all_from config (Session i) (length planned + 1) g whole stood part.run.1 made.0 (omega (arith, begun)) few in
    let none = none_is_left config plan h whole (Session i) part moved.2 in
    let named_all = session_named config i whole in
    let grows : named (Session i) (moves h) ≤ named (Session i) (moves whole) =
    subst (λ (f : History). named (Session i) (moves h) ≤ named (Session i) (moves f)) (sym part.stood.1) (named_grows (Session i) part.stood.0 h) in
    let so_far = by_named (Session i) moved.0 g h (moved_by (given_by plan) config (Session i) moved.0 g h moved.1) in
    by_moves (Session i) moved.0 g h (moved_by (given_by plan) config (Session i) moved.0 g h moved.1)
    ∙ ap (λ m. moves g ++ replicate m (Session i)) (sym (same (entries_of (Session i) (length planned + 1) whole) (named (Session i) (moves g)) (named (Session i) (moves whole)) (entries_beside config (Session i) whole) (named (Session i) (moves h)) moved.0 all named_all none grows so_far))
  where
    same : (many early total beside late n : ℕ) → many + early ≡ total → total ≡ beside → beside - late ≡ 0 → late ≤ total → late ≡ early + n → many ≡ n
    same many early total beside late n all named_all none grows so_far = omega (arith, all, named_all, none, grows, so_far)

-- a session stands once in a plan
pub above : (p : SessionPlan) (ps : List SessionPlan) (q : SessionPlan) → AreRising (p ∷ ps) → Member q ps → p.session < q.session
unfolding AreRising
above p [] q rising at = absurd at
above p (r ∷ rs) q rising (inl same) = subst (λ (x : SessionPlan). p.session < x.session) (sym same) rising.0
above p (r ∷ rs) q rising (inr more) = let low = rising.0 in let high = above r rs q rising.1 more in omega (arith, low, high)

pub rising_rest : (p : SessionPlan) (ps : List SessionPlan) → AreRising (p ∷ ps) → AreRising ps
unfolding AreRising
rising_rest p [] rising = tt
rising_rest p (q ∷ qs) rising = rising.1

-- the end of each session of these, which made all of their lines
pub record EndsMade (config : Config) (plan : Commands) (whole : History) (ps : List SessionPlan) (g h : History) : Type 0 where
  pub moves : moves h ≡ moves g ++ flat_map (λ (p : SessionPlan). turns whole (Session p.session) (length p.commands + 1)) ps
  pub appliers : (k : ℕ) → Same config (Applier k) g h

abbrev pub EndOf : Commands → Config → SessionPlan → History → History → Type 0
EndOf plan config p g h = MovedToEnd (given_by plan) config (Session p.session) g h

pub ends_made : (config : Config) (plan : Commands) (ps : List SessionPlan) (g h whole : History) → PartOf config plan h whole → AreRising ps →
    ((p : SessionPlan) → Member p ps → (commands_of p.session plan.sessions ≡ p.commands) × HasMade config (length p.commands) g p.session) →
    OneByOne (λ (p : SessionPlan). MovedToEnd (given_by plan) config (Session p.session)) ps g h → EndsMade config plan whole ps g h
ends_made config plan [] g h whole part rising at all =
    let none : h ≡ g = one_none (EndOf plan config) g h all in
    record {
      moves = rw none (sym (append-nil (moves g)));
      appliers = λ k. subst (Same config (Applier k) g) (sym none) (same_none config (Applier k) g);
    }
ends_made config plan (p ∷ ps) g h whole part rising at all =
    let first = one_first (EndOf plan config) p ps g h all in
    let next = first.0 in
    let late = one_stood (EndOf plan config) (λ q. end_stood config plan (Session q.session)) ps next h first.2 in
    let moved = first.1 in
    let others : (b : Actor) → same_actor (Session p.session) b ≡ false → Same config b g next = λ b other. by_other config (Session p.session) b moved.0 g next other (moved_by (given_by plan) config (Session p.session) moved.0 g next moved.1) in
    let now = at p (inl refl) in
    let one = ends config plan p.session p.commands g next whole (part_before config plan next h whole late part) now.0 now.1 moved in
    let rest = ends_made config plan ps next h whole part (rising_rest p ps rising) (λ q member.
    let before = at q (inr member) in
    let kept = others (Session q.session) (other_session p.session q.session (apart q member)) in
    (before.0, (kept.line ∙ before.1.0, ap length kept.begun ∙ before.1.1))) first.2 in
    record {
      moves = rest.moves ∙ ap (λ (l : List Actor). l ++ flat_map (λ (q : SessionPlan). turns whole (Session q.session) (length q.commands + 1)) ps) one
          ∙ append_more (moves g) (turns whole (Session p.session) (length p.commands + 1)) (flat_map (λ (q : SessionPlan). turns whole (Session q.session) (length q.commands + 1)) ps);
      appliers = λ k. same_over config (Applier k) g next h (others (Applier k) refl) (rest.appliers k);
    }
  where
    apart : (q : SessionPlan) → Member q ps → nat_eq q.session p.session ≡ false
    apart q member = elim (eq_cases q.session p.session) [
      | inl same ↦ absurd (let low = above p ps q rising member in let is = same.1 in omega (arith, low, is))
      | inr other ↦ other.0
    ]
