-- At each moment of a run that does all of a plan, a mover has an event left exactly where the schedules count one.
use Rattle.std.proofs.Common.{◌≡◌, ℕ, ◌+◌, ◌-◌, ◌<◌, ◌≤◌, Bool, true, false, ◌&&◌, if◌then◌else◌, nat_lt, List, [], ◌∷◌, ◌++◌, map, reverse, refl, sym, ◌∙◌, ap, inl, inr, ◌⊎◌, arith}
use Rattle.std.proofs.lemmas.Bool.{lt-ltb, le-ltb}
use Rattle.std.proofs.lemmas.Grind.{reverse_onto}
use Rattle.txn_data.specs.declared.actor.Actor.{Actor}
use Rattle.txn_data.specs.declared.config.Config.{Config}
use Rattle.txn_data.specs.declared.entry.Entry.{Entry}
use Rattle.txn_types.specs.History.{History, same_actor}
use Rattle.txn_types.specs.Script.{asker, started, passes_counted, entries_beside, named, moves}
use Rattle.law_machines.proofs.Basics.{test_cases}

-- ## counts

-- the entry is a move of the mover that the schedules count
abbrev pub counted : Config → Actor → Entry → History → Bool
counted config a e h = same_actor (asker e) a && passes_counted config a (started a (e ∷ h))

pub beside_step : (config : Config) (a : Actor) (e : Entry) (h : History) → entries_beside config a (e ∷ h) ≡ entries_beside config a h + (if counted config a e h then 1 else 0)
unfolding entries_beside
beside_step config a e h = refl

pub beside_first : (config : Config) (a : Actor) → entries_beside config a [] ≡ 0
unfolding entries_beside
beside_first config a = refl

-- how often a mover is named in a list, and in its reverse
named_cons : (a b : Actor) (more : List Actor) → named a (b ∷ more) ≡ named a more + (if same_actor b a then 1 else 0)
unfolding named
named_cons a b more = refl

named_nil : (a : Actor) → named a [] ≡ 0
unfolding named
named_nil a = refl

named_append : (a : Actor) (xs ys : List Actor) → named a (xs ++ ys) ≡ named a xs + named a ys
named_append a [] ys = rw (named_nil a) (omega arith)
named_append a (x ∷ xs) ys = rw (named_cons a x (xs ++ ys)) (rw (named_cons a x xs) (rw (named_append a xs ys) (omega arith)))

pub moves_step : (a : Actor) (e : Entry) (h : History) → named a (moves (e ∷ h)) ≡ named a (moves h) + (if same_actor (asker e) a then 1 else 0)
moves_step a e h =
    ap (named a) (reverse_onto (map asker h) (asker e) [])
    ∙ named_append a (reverse (map asker h)) (asker e ∷ [])
    ∙ ap (λ n. named a (moves h) + n) (named_cons a (asker e) [] ∙ rw (named_nil a) (omega arith))

pub moves_first : (a : Actor) → named a (moves []) ≡ 0
moves_first a = named_nil a

counted_named : (b c : Bool) (m n : ℕ) → m ≤ n → m + (if b && c then 1 else 0) ≤ n + (if b then 1 else 0)
counted_named true true m n le = omega arith
counted_named true false m n le = omega arith
counted_named false c m n le = omega arith

-- what is counted is named
pub beside_named : (config : Config) (a : Actor) (h : History) → entries_beside config a h ≤ named a (moves h)
beside_named config a [] = rw (beside_first config a) (omega arith)
beside_named config a (e ∷ h) =
    rw (beside_step config a e h) (rw (moves_step a e h)
    (counted_named (same_actor (asker e) a) (passes_counted config a (started a (e ∷ h))) _ _ (beside_named config a h)))

-- ## a mover's entries, one after another, where `S` says whether it has an event left

-- what is not counted changes nothing of that, and what is counted comes only where one is left
unfoldable pub Goes : Config → Actor → (History → Bool) → History → Type 0
Goes config a S [] = Unit {0}
Goes config a S (e ∷ h) = Goes config a S h × (counted config a e h ≡ false → S (e ∷ h) ≡ S h) × (counted config a e h ≡ true → S h ≡ true)

pub goes_step : (config : Config) (a : Actor) (S : History → Bool) (e : Entry) (h : History) → Goes config a S (e ∷ h) → Goes config a S h × (counted config a e h ≡ false → S (e ∷ h) ≡ S h) × (counted config a e h ≡ true → S h ≡ true)
unfolding Goes
goes_step config a S e h goes = goes

-- where none is left, none comes
false_stays : (config : Config) (a : Actor) (S : History → Bool) (later g : History) → Goes config a S (later ++ g) → S g ≡ false → (S (later ++ g) ≡ false) × (entries_beside config a (later ++ g) ≡ entries_beside config a g)
false_stays config a S [] g goes none = (none, refl)
false_stays config a S (e ∷ later) g goes none =
    let step = goes_step config a S e (later ++ g) goes in
    let before = false_stays config a S later g step.0 none in
    elim (test_cases (counted config a e (later ++ g))) [
      | inl comes ↦ absurd (let never : true ≡ false = sym (step.2 comes) ∙ before.0 in cc)
      | inr passes ↦ (step.1 passes ∙ before.0, beside_step config a e (later ++ g) ∙ rw passes (rw before.1 (omega arith)))
    ]

beside_grows : (config : Config) (a : Actor) (later g : History) → entries_beside config a g ≤ entries_beside config a (later ++ g)
beside_grows config a [] g = omega arith
beside_grows config a (e ∷ later) g = let before = beside_grows config a later g in rw (beside_step config a e (later ++ g)) (omega (arith, before))

-- where one is left, one is left still, or one has come
true_comes : (config : Config) (a : Actor) (S : History → Bool) (later g : History) → Goes config a S (later ++ g) → S g ≡ true → (S (later ++ g) ≡ true) ⊎ (entries_beside config a g < entries_beside config a (later ++ g))
true_comes config a S [] g goes some = inl some
true_comes config a S (e ∷ later) g goes some =
    let step = goes_step config a S e (later ++ g) goes in
    let grown : entries_beside config a (later ++ g) ≤ entries_beside config a (e ∷ later ++ g) = rw (beside_step config a e (later ++ g)) (omega arith) in
    elim (true_comes config a S later g step.0 some) [
      | inr come ↦ inr (omega (arith, come, grown))
      | inl still ↦ elim (test_cases (counted config a e (later ++ g))) [
        | inl comes ↦ inr (let more = beside_grows config a later g in rw (beside_step config a e (later ++ g)) (rw comes (omega (arith, more))))
        | inr passes ↦ inl (step.1 passes ∙ still)
      ]
    ]

-- the count says the same
pub left_is : (config : Config) (a : Actor) (S : History → Bool) (later g : History) → Goes config a S (later ++ g) → S (later ++ g) ≡ false → (S g ≡ true → named a (moves g) ≤ entries_beside config a g) →
    S g ≡ nat_lt 0 (entries_beside config a (later ++ g) - named a (moves g))
left_is config a S later g goes done all = elim (test_cases (S g)) [
  | inl some ↦ some ∙ sym (lt-ltb 0 _ (elim (true_comes config a S later g goes some) [
    | inl still ↦ absurd (let never : true ≡ false = sym still ∙ done in cc)
    | inr come ↦ let named_all = all some in omega (arith, come, named_all)
  ]))
  | inr none ↦ none ∙ sym (le-ltb 0 _ (let same = (false_stays config a S later g goes none).1 in let below = beside_named config a g in omega (arith, same, below)))
]
