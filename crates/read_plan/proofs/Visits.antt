-- A read makes at most two rounds of few visits.
use Rattle.std.proofs.Common.{ℕ, ◌+◌, ◌≤◌, Bool, true, false, List, [], ◌∷◌, ◌++◌, length, map, if◌then◌else◌, nat_eq, nat_lt, refl, ap, arith}
use Rattle.std.proofs.lemmas.List.{length-map}
use Rattle.txn_data.specs.declared.actor.Actor.TheVariants.{Tablet}
use Rattle.txn_data.specs.declared.fate_of.FateOf.{FateOf}
use Rattle.txn_data.specs.declared.found.Found.{Found}
use Rattle.txn_data.specs.declared.place.Place.{Place}
use Rattle.txn_data.specs.declared.read_end.ReadEnd.{ReadEnd}
use Rattle.txn_data.specs.declared.read_what.ReadWhat.{ReadWhat}
use Rattle.txn_data.specs.declared.reply.Reply.{Reply}
use Rattle.txn_data.specs.declared.reply.Reply.TheVariants as reply
use Rattle.txn_data.specs.declared.request.Request.TheVariants as request
use Rattle.txn_types.specs.Lists.{with_number, rising}
use Rattle.txn_types.specs.Program.{Program, Done, Asks}
use Rattle.txn_types.specs.ReadProgram.{Asked, Progress, tablets_of, paths_on, fixed, with_limit, ask_fates, window_of, with_tablet_rows, visit, restarted, met_then, read_done, round_one, round_two}
use Rattle.read_plan.specs.Laws.{ReadsTakeTwoRounds, RoundsVisitFewTablets}
use Rattle.read_plan.specs.Stage.{collected}
use Rattle.read_plan.specs.Visits.{VisitStep, Lists, Collects, Begins, visit_steps, round_steps}

none : (all : List VisitStep) → Begins [] all
none all = (all, refl)

one_more : (x : VisitStep) (steps all : List VisitStep) → Begins steps all → Begins (x ∷ steps) (x ∷ all)
one_more x steps all h = (h.0, ap (λ xs. x ∷ xs) h.1)

-- a program that is done asks nothing
over : (end : ReadEnd) (all : List VisitStep) (rs : List Reply) → Begins (visit_steps (Done end) rs) all
unfolding visit_steps
over end all [] = none all
over end all (r ∷ rs) = over end all rs

-- nor does one ask a tablet while it asks for fates
fates_ask : (s : Progress) (next : List FateOf → Program ReadEnd) (all : List VisitStep)
    → ((fates : List FateOf) (rs : List Reply) → Begins (visit_steps (next fates) rs) all)
    → (others : List Found) (fates : List FateOf) (rs : List Reply) → Begins (visit_steps (ask_fates s others fates next) rs) all
unfolding visit_steps ask_fates
fates_ask s next all h [] fates rs = h fates rs
fates_ask s next all h (f ∷ fs) fates [] = none all
fates_ask s next all h (f ∷ fs) fates (reply.FateIs fate ∷ rs) = fates_ask s next all h fs (fates ++ (record { txn = f.txn; fate = fate }) ∷ []) rs
fates_ask s next all h (f ∷ fs) fates (reply.Refused why ∷ rs) = over _ all rs
fates_ask s next all h (f ∷ fs) fates (r ∷ rs) = over _ all rs

-- a tablet is asked to collect
collect_asks : (windowed : Bool) (a : Asked) (s : Progress) (k limit : ℕ) (fates : List FateOf) (next : Reply → Program ReadEnd) (all : List VisitStep)
    → ((answer : Reply) (rs : List Reply) → Begins (visit_steps (next answer) rs) all) → (rs : List Reply)
    → Begins (visit_steps (Asks (Tablet k) (request.Collect a.own_txn a.kind (paths_on k a.places) s.t (window_of windowed a.g limit) fates) next) rs) (Collects windowed k ∷ all)
unfolding visit_steps
collect_asks true a s k limit fates next all h [] = one_more _ [] all (none all)
collect_asks true a s k limit fates next all h (r ∷ rs) = one_more _ _ all (h r rs)
collect_asks false a s k limit fates next all h [] = one_more _ [] all (none all)
collect_asks false a s k limit fates next all h (r ∷ rs) = one_more _ _ all (h r rs)

-- a visit
visit_asks : (windowed : Bool) (a : Asked) (s : Progress) (k : ℕ) (next : Progress → Reply → Program ReadEnd) (all : List VisitStep)
    → ((seen : Progress) (answer : Reply) (rs : List Reply) → Begins (visit_steps (next seen answer) rs) all) → (rs : List Reply)
    → Begins (visit_steps (visit a s windowed k next) rs) (Lists k ∷ Collects windowed k ∷ all)
unfolding visit_steps
visit_asks windowed a s k next all h [] = one_more _ [] _ (none _)
visit_asks windowed a s k next all h (reply.Listed limit others ∷ rs) =
    let seen : Progress = record s { limits = with_limit k limit s.limits } in
    one_more _ _ _ (fates_ask seen _ (Collects windowed k ∷ all)
    (λ fates more. collect_asks windowed a seen k (fixed k limit s.limits) fates (next seen) all (h seen) more) others [] rs)
visit_asks windowed a s k next all h (reply.Refused why ∷ rs) = one_more _ _ _ (over _ _ rs)
visit_asks windowed a s k next all h (r ∷ rs) = one_more _ _ _ (over _ _ rs)

-- the second round
after_second : (a : Asked) (k : ℕ) (ks : List ℕ) (all : List VisitStep)
    → ((s : Progress) (rs : List Reply) → Begins (visit_steps (round_two a s ks) rs) all)
    → (seen : Progress) (answer : Reply) (rs : List Reply) → Begins (visit_steps (collected false a k ks seen answer) rs) all
after_second a k ks all h seen (reply.Collected rows) rs = h (with_tablet_rows k rows seen) rs
after_second a k ks all h seen (reply.Refused why) rs = over _ all rs
after_second a k ks all h seen r rs = over _ all rs

second : (a : Asked) (ks : List ℕ) (s : Progress) (rs : List Reply) → Begins (visit_steps (round_two a s ks) rs) (round_steps false ks)
unfolding round_two round_steps
second a [] s rs = over _ [] rs
second a (k ∷ ks) s rs =
    visit_asks false a s k (λ seen answer. collected false a k ks seen answer) (round_steps false ks) (after_second a k ks (round_steps false ks) (second a ks)) rs

-- the first round, and what follows
met_asks : (strict : Bool) (end : ReadWhat) (s : Progress) (next : Program ReadEnd) (all : List VisitStep) (rs : List Reply)
    → Begins (visit_steps next rs) all → Begins (visit_steps (met_then strict end s next) rs) all
met_asks true end s next all rs h = over _ all rs
met_asks false end s next all rs h = h

after_first : (a : Asked) (k : ℕ) (ks : List ℕ) (all : List VisitStep)
    → ((s : Progress) (rs : List Reply) → Begins (visit_steps (round_one a s ks) rs) all)
    → (seen : Progress) (answer : Reply) (rs : List Reply) → Begins (visit_steps (collected true a k ks seen answer) rs) all
after_first a k ks all h seen (reply.Collected rows) rs = h (with_tablet_rows k rows seen) rs
after_first a k ks all h seen (reply.Met at path) rs = met_asks a.strict _ seen _ all rs (h (restarted at seen) rs)
after_first a k ks all h seen (reply.Refused why) rs = over _ all rs
after_first a k ks all h seen r rs = over _ all rs

either : (b : Bool) (p q : Program ReadEnd) (all : List VisitStep) (rs : List Reply)
    → Begins (visit_steps p rs) all → Begins (visit_steps q rs) all → Begins (visit_steps (if b then p else q) rs) all
either true p q all rs h i = h
either false p q all rs h i = i

first : (a : Asked) (ks : List ℕ) (s : Progress) (rs : List Reply)
    → Begins (visit_steps (round_one a s ks) rs) (round_steps true ks ++ round_steps false (tablets_of a.places))
unfolding round_one round_steps
first a [] s rs =
    let again : Progress = record s { found = [] } in
    either (nat_eq s.restarts 0) (read_done a s) (round_two a again (tablets_of a.places)) (round_steps false (tablets_of a.places)) rs
    (over _ _ rs) (second a (tablets_of a.places) again rs)
first a (k ∷ ks) s rs =
    visit_asks true a s k (λ seen answer. collected true a k ks seen answer) (round_steps true ks ++ round_steps false (tablets_of a.places))
    (after_first a k ks _ (first a ks)) rs

pub two_rounds : ReadsTakeTwoRounds
two_rounds own kind places t g strict limits replies =
    first (record { own_txn = own; kind = kind; places = places; g = g; strict = strict }) (tablets_of places)
    (record { t = t; restarts = 0; limits = limits; found = [] }) replies

-- a tablet more is at most one more
most : (b c : Bool) (n : ℕ) (xs ys zs : List ℕ) → length xs ≤ n → length ys ≤ n → length zs ≤ n
    → length (if b then xs else (if c then ys else zs)) ≤ n
most true c n xs ys zs h i j = h
most false true n xs ys zs h i j = i
most false false n xs ys zs h i j = j

one_number : (n : ℕ) (ms : List ℕ) → length (with_number n ms) ≤ length ms + 1
unfolding with_number
one_number n [] = omega arith
one_number n (m ∷ ms) =
    let less : length ms + 1 ≤ length (m ∷ ms) = omega arith in
    let h = one_number n ms in
    most (nat_lt n m) (nat_eq n m) (length (m ∷ ms) + 1) _ _ _ (omega arith) (omega arith) (omega arith)

few_numbers : (ns : List ℕ) → length (rising ns) ≤ length ns
unfolding rising
few_numbers [] = omega arith
few_numbers (n ∷ ns) = let h = few_numbers ns in let i = one_number n (rising ns) in omega arith

pub few_tablets : RoundsVisitFewTablets
few_tablets places =
    let tablets = map (λ (p : Place). p.tablet) places in
    let h = few_numbers tablets in
    omega (arith, length-map places (λ (p : Place). p.tablet))
