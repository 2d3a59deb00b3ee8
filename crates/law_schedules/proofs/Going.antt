-- Moves as a script says, moves to the ends, and moves as drawn.
use Rattle.std.proofs.Common.{◌≡◌, ℕ, zero, suc, ◌+◌, ◌≤◌, Bool, false, List, [], ◌∷◌, ◌++◌, filter, length, min, replicate, refl, sym, ◌∙◌, ap, inl, inr, ◌⊎◌, arith}
use Rattle.std.proofs.Math.Nat.{min-eq_left}
use Rattle.std.proofs.lemmas.List.{append-nil}
use Rattle.docdb_base.specs.Generator.{next_state, draw_of}
use Rattle.txn_data.specs.declared.actor.Actor.{Actor}
use Rattle.txn_data.specs.declared.config.Config.{Config}
use Rattle.txn_data.specs.declared.commands.Commands.{Commands}
use Rattle.txn_data.specs.declared.go_line.GoLine.{GoLine}
use Rattle.txn_types.specs.History.{History}
use Rattle.txn_types.specs.Script.{actor_of, drawn_of, draw_on, go_on, has_left, left, movers, moves, to_their_ends}
use Rattle.mover_chain.specs.Laws.{StoodBefore}
use Rattle.mover_chain.specs.NextEvent.{given_by, has_event}
use Rattle.mover_chain.proofs.Counted.{left_is_counted}
use Rattle.law_schedules.specs.Courses.{at_work, DrawnTo, MovedToEnd, MovedUpTo, OneByOne}
use Rattle.law_schedules.proofs.Moving.{by_moves, moved_by, moves_cons}
use Rattle.law_schedules.proofs.Passing.{one_first, one_none, one_stood}
use Rattle.law_schedules.proofs.Ending.{PartOf, end_stood, moved_left, moved_stood, moved_to_end, none_is_left, part_before}

-- ## as the script says

moved_up_to : (config : Config) (plan : Commands) (a : Actor) (most : ℕ) (g h whole : History) → PartOf config plan h whole → MovedUpTo (given_by plan) config a most g h →
    moves h ≡ moves g ++ replicate (min most (left config whole (moves g) a)) a
moved_up_to config plan a most g h whole part moved =
    by_moves a moved.0 g h (moved_by (given_by plan) config a moved.0 g h moved.1) ∙ ap (λ m. moves g ++ replicate m a) (sym (fewest moved.2))
  where
    many : (moved.0 ≤ left config whole (moves g) a) × (left config whole (moves g) a ≡ left config whole (moves h) a + moved.0)
    many = moved_left config plan a moved.0 g h whole part moved.1

    least : (m n : ℕ) → n ≤ m → min m n ≡ n
    least m n le = omega (arith, le)

    fewest : (moved.0 ≡ most) ⊎ ((moved.0 ≤ most) × (has_event (given_by plan) config a h ≡ false)) → min most (left config whole (moves g) a) ≡ moved.0
    fewest (inl all) = min-eq_left (let few = many.0 in omega (arith, all, few)) ∙ sym all
    fewest (inr end) =
        let none = none_is_left config plan h whole a part end.1 in
        let is : left config whole (moves g) a ≡ moved.0 = let less = many.1 in omega (arith, less, none) in
        ap (min most) is ∙ least most moved.0 end.0

go_none : (config : Config) (whole : History) (done : List Actor) → go_on config whole done [] ≡ done
unfolding go_on
go_none config whole done = refl

go_first : (config : Config) (whole : History) (done : List Actor) (l : GoLine) (ls : List GoLine) →
    go_on config whole done (l ∷ ls) ≡ go_on config whole (done ++ replicate (min l.count (left config whole done (actor_of l.who))) (actor_of l.who)) ls
unfolding go_on
go_first config whole done l ls = refl

abbrev pub LineMoved : Commands → Config → GoLine → History → History → Type 0
LineMoved plan config l g h = MovedUpTo (given_by plan) config (actor_of l.who) l.count g h

pub line_stood : (config : Config) (plan : Commands) (l : GoLine) (g h : History) → LineMoved plan config l g h → StoodBefore g h
line_stood config plan l g h moved = moved_stood config plan (actor_of l.who) moved.0 g h moved.1

pub gone_on : (config : Config) (plan : Commands) (ls : List GoLine) (g h whole : History) → PartOf config plan h whole → OneByOne (LineMoved plan config) ls g h → go_on config whole (moves g) ls ≡ moves h
gone_on config plan [] g h whole part all = go_none config whole (moves g) ∙ ap moves (sym (one_none (LineMoved plan config) g h all))
gone_on config plan (l ∷ ls) g h whole part all =
    let first = one_first (LineMoved plan config) l ls g h all in
    let next = first.0 in
    let late = one_stood (LineMoved plan config) (line_stood config plan) ls next h first.2 in
    let one = moved_up_to config plan (actor_of l.who) l.count g next whole (part_before config plan next h whole late part) first.1 in
    go_first config whole (moves g) l ls ∙ ap (λ (done : List Actor). go_on config whole done ls) (sym one) ∙ gone_on config plan ls next h whole part first.2

-- ## to the ends

ends_none : (config : Config) (whole : History) (done : List Actor) → to_their_ends config whole done [] ≡ done
unfolding to_their_ends
ends_none config whole done = refl

ends_first : (config : Config) (whole : History) (done : List Actor) (a : Actor) (more : List Actor) →
    to_their_ends config whole done (a ∷ more) ≡ to_their_ends config whole (done ++ replicate (left config whole done a) a) more
unfolding to_their_ends
ends_first config whole done a more = refl

pub gone_to_ends : (config : Config) (plan : Commands) (names : List Actor) (g h whole : History) → PartOf config plan h whole → OneByOne (MovedToEnd (given_by plan) config) names g h → to_their_ends config whole (moves g) names ≡ moves h
gone_to_ends config plan [] g h whole part all = ends_none config whole (moves g) ∙ ap moves (sym (one_none (MovedToEnd (given_by plan) config) g h all))
gone_to_ends config plan (a ∷ more) g h whole part all =
    let first = one_first (MovedToEnd (given_by plan) config) a more g h all in
    let next = first.0 in
    let late = one_stood (MovedToEnd (given_by plan) config) (end_stood config plan) more next h first.2 in
    let one = moved_to_end config plan a g next whole (part_before config plan next h whole late part) first.1 in
    ends_first config whole (moves g) a more ∙ ap (λ (done : List Actor). to_their_ends config whole done more) (sym one) ∙ gone_to_ends config plan more next h whole part first.2

-- ## as drawn

same_filter : (p q : Actor → Bool) → ((a : Actor) → p a ≡ q a) → (names : List Actor) → filter p names ≡ filter q names
same_filter p q same [] = refl
same_filter p q same (a ∷ names) = rw (same a) (rw (same_filter p q same names) refl)

draws_first : (config : Config) (plan : Commands) (whole : History) (n state : ℕ) (done : List Actor) →
    draw_on config plan whole (suc n) state done ≡ draw_on config plan whole n (next_state state) (done ++ drawn_of (draw_of (next_state state)) (filter (has_left config whole done) (movers config plan)))
unfolding draw_on
draws_first config plan whole n state done = refl

draws_none : (config : Config) (plan : Commands) (whole : History) (state : ℕ) (done : List Actor) → draw_on config plan whole zero state done ≡ done
unfolding draw_on
draws_none config plan whole state done = refl

works : (config : Config) (plan : Commands) (h whole : History) → PartOf config plan h whole → filter (has_left config whole (moves h)) (movers config plan) ≡ at_work config plan h
works config plan h whole part =
    same_filter (has_left config whole (moves h)) (λ (a : Actor). has_event (given_by plan) config a h) (λ a. sym (left_is_counted config plan h whole a part.run part.all part.stood)) (movers config plan)

drawn_to : (config : Config) (plan : Commands) (more state : ℕ) (h whole : History) → PartOf config plan h whole → DrawnTo config plan state h →
    draw_on config plan whole (length h + more) config.number [] ≡ draw_on config plan whole more state (moves h)
unfolding DrawnTo
drawn_to config plan more state [] whole part drawn = ap (λ n. draw_on config plan whole n config.number []) (none_more more) ∙ ap (λ s. draw_on config plan whole more s []) (sym drawn)
  where
    none_more : (n : ℕ) → 0 + n ≡ n
    none_more n = omega arith
drawn_to config plan more state (e ∷ h) whole part (before, earlier, next, one) =
    let part_here = part_before config plan h (e ∷ h) whole (e ∷ [], refl) part in
    ap (λ n. draw_on config plan whole n config.number []) (swap (length h) more)
    ∙ drawn_to config plan (suc more) before h whole part_here earlier
    ∙ draws_first config plan whole more before (moves h)
    ∙ ap (λ (names : List Actor). draw_on config plan whole more (next_state before) (moves h ++ drawn_of (draw_of (next_state before)) names)) (works config plan h whole part_here)
    ∙ ap (λ s. draw_on config plan whole more s (moves h ++ drawn_of (draw_of s) (at_work config plan h))) (sym next)
    ∙ ap (λ (names : List Actor). draw_on config plan whole more state (moves h ++ names)) one
    ∙ ap (draw_on config plan whole more state) (sym (moves_cons e h))
  where
    swap : (m n : ℕ) → suc m + n ≡ m + suc n
    swap m n = omega arith

none_drawn : (config : Config) (plan : Commands) (whole : History) (n state : ℕ) (done : List Actor) → filter (has_left config whole done) (movers config plan) ≡ [] → draw_on config plan whole n state done ≡ done
none_drawn config plan whole zero state done none = draws_none config plan whole state done
none_drawn config plan whole (suc n) state done none =
    draws_first config plan whole n state done
    ∙ ap (λ (names : List Actor). draw_on config plan whole n (next_state state) (done ++ drawn_of (draw_of (next_state state)) names)) none
    ∙ ap (draw_on config plan whole n (next_state state)) (append-nil done)
    ∙ none_drawn config plan whole n (next_state state) done none

pub all_drawn : (config : Config) (plan : Commands) (state : ℕ) (h whole : History) → PartOf config plan h whole → DrawnTo config plan state h → at_work config plan h ≡ [] →
    draw_on config plan whole (length whole) config.number [] ≡ moves h
all_drawn config plan state h whole part drawn none =
    ap (λ n. draw_on config plan whole n config.number []) (longer part.stood)
    ∙ drawn_to config plan (length part.stood.0) state h whole part drawn
    ∙ none_drawn config plan whole (length part.stood.0) state (moves h) (works config plan h whole part ∙ none)
  where
    length_over : (later : History) → length (later ++ h) ≡ length h + length later
    length_over [] = omega arith
    length_over (e ∷ later) = let before = length_over later in omega (arith, before)

    longer : (stood : StoodBefore h whole) → length whole ≡ length h + length stood.0
    longer stood = ap length stood.1 ∙ length_over stood.0
