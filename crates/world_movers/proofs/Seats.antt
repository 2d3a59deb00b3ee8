-- What all sessions stand for after one more entry.
use Rattle.std.proofs.Common.{◌≡◌, ◌≢◌, ℕ, zero, suc, Bool, true, false, ◌&&◌, ◌||◌, Option, Some, None, List, [], ◌∷◌, length, nat_eq, refl, sym, ap, subst, ◌∙◌, inl, inr, if◌then◌else◌}
use Rattle.std.proofs.Math.ListN.{set}
use Rattle.std.specs.List.{list_any, slice_get}
use Rattle.std.specs.Option.{option_and_then}
use Rattle.txn_data.specs.declared.actor.Actor.TheVariants.{Session, Applier}
use Rattle.txn_data.specs.declared.command.Command.{Command}
use Rattle.txn_data.specs.declared.config.Config.{Config}
use Rattle.txn_data.specs.declared.entry.Entry.{Entry}
use Rattle.txn_data.specs.declared.session_plan.SessionPlan.{SessionPlan}
use Rattle.txn_types.specs.History.{History, own}
use Rattle.txn_types.specs.Run.{Flight, Quiet, flight, mover_at}
use Rattle.txn_types.specs.Script.{commands_of, lines}
use Rattle.law_machines.proofs.Basics.{eq_cases, eq_refl, eq_true, test_cases}
use Rattle.mover_chain.specs.NextEvent.{Given, is_left}
use Rattle.mover_seat.specs.NextEvent.{session_event}
use Rattle.world_movers.specs.Asked.{IsSilent}
use Rattle.world_movers.specs.Sessions.{SessionsStand, asking_of, index_of, is_given, next_of, slot_of}
use Rattle.world_movers.specs.Slots.{EachAt, SessionStands, session_asking}
use Rattle.world_movers.specs.declared.asking.Asking.{Asking}
use Rattle.world_movers.specs.declared.session_slot.SessionSlot.{SessionSlot}
use Rattle.world_movers.specs.declared.sessions.Sessions.{Sessions}
use Rattle.world_movers.proofs.Entries.{IsMoveOf, session_moves, silent_beside}
use Rattle.world_movers.proofs.Placed.{each_set, each_more}
use Rattle.world_movers.proofs.Seated.{left_at, session_beside}

-- ## the plan of a number

joined : (o : Option (Option ℕ)) (n : ℕ) → option_and_then (λ (x : Option ℕ). x) o ≡ Some n → o ≡ Some (Some n)
joined None n is = cc
joined (Some x) n is = ap Some is

commands_at : (ps : List SessionPlan) (n : ℕ) (p : SessionPlan) → slice_get ps n ≡ Some p → ((m : ℕ) (q : SessionPlan) → slice_get ps m ≡ Some q → q.session ≡ p.session → q ≡ p) → commands_of p.session ps ≡ p.commands
unfolding commands_of
commands_at [] n p at once = cc
commands_at (x ∷ ps) zero p at once = let same : x ≡ p = cc in let is : nat_eq x.session p.session ≡ true = subst (λ (y : SessionPlan). nat_eq x.session y.session ≡ true) same (eq_refl x.session) in rw is (ap (λ (y : SessionPlan). y.commands) same)
commands_at (x ∷ ps) (suc n) p at once = elim (eq_cases x.session p.session) [
  | inl same ↦ rw same.0 (ap (λ (y : SessionPlan). y.commands) (once 0 x refl same.1))
  | inr apart ↦ rw apart.0 (commands_at ps n p at (λ m q there. once (suc m) q there))
]

-- a plan stands once
once_at : (config : Config) (given : Given) (h : History) (s : Sessions) (m n : ℕ) (q p : SessionPlan) → SessionsStand config given h s → slice_get given.sessions m ≡ Some q → slice_get given.sessions n ≡ Some p → q.session ≡ p.session → m ≡ n
once_at config given h s m n q p stand at there same =
    let first = stand.places m q at in
    let second = stand.places n p there in
    let both : Some (Some m) ≡ Some (Some n) = sym first ∙ ap (slice_get s.places.items) same ∙ second in
    cc

only_at : (config : Config) (given : Given) (h : History) (s : Sessions) (m n : ℕ) (q p : SessionPlan) → SessionsStand config given h s → slice_get given.sessions m ≡ Some q → slice_get given.sessions n ≡ Some p → q.session ≡ p.session → q ≡ p
only_at config given h s m n q p stand at there same =
    let place = once_at config given h s m n q p stand at there same in
    let both : Some q ≡ Some p = sym at ∙ ap (slice_get given.sessions) place ∙ there in
    cc

pub planned : (config : Config) (given : Given) (h : History) (s : Sessions) (n : ℕ) (p : SessionPlan) → SessionsStand config given h s → slice_get given.sessions n ≡ Some p → commands_of p.session given.sessions ≡ p.commands
planned config given h s n p stand at = commands_at given.sessions n p at (λ m q there same. only_at config given h s m n q p stand there at same)

-- the plan of a slot is that of its number
seat_of : (config : Config) (given : Given) (h : History) (s : Sessions) (i n : ℕ) → SessionsStand config given h s → index_of s i ≡ Some n → (p : SessionPlan) × (slice_get given.sessions n ≡ Some p) × (p.session ≡ i)
seat_of config given h s i n stand is = stand.no_other i n (joined (slice_get s.places.items i) n is)

pub slot_stands : (config : Config) (given : Given) (h : History) (s : Sessions) (i n : ℕ) (slot : SessionSlot) → SessionsStand config given h s → index_of s i ≡ Some n → slice_get s.slots.items n ≡ Some slot → SessionStands config i (commands_of i given.sessions) given.all h slot
slot_stands config given h s i n slot stand is at =
    let seat = seat_of config given h s i n stand is in
    let p = seat.0 in
    let stands = stand.slots.each n slot at p seat.1 in
    let of_lines = subst (λ (cs : List Command). SessionStands config p.session cs given.all h slot) (sym (planned config given h s n p stand seat.1)) stands in
    subst (λ (j : ℕ). SessionStands config j (commands_of j given.sessions) given.all h slot) seat.2 of_lines

pub slot_at : (s : Sessions) (i n : ℕ) (slot : SessionSlot) → index_of s i ≡ Some n → slice_get s.slots.items n ≡ Some slot → slot_of s i ≡ Some slot
slot_at s i n slot is at = ap (λ (o : Option ℕ). option_and_then (slice_get s.slots.items) o) is ∙ at

pub asking_at : (s : Sessions) (i n : ℕ) (slot : SessionSlot) → index_of s i ≡ Some n → slice_get s.slots.items n ≡ Some slot → asking_of s i ≡ session_asking slot
asking_at s i n slot is at = ap (option_and_then session_asking) (slot_at s i n slot is at)

-- ## a session that is not there

any_at : (test : SessionPlan → Bool) (ps : List SessionPlan) → list_any test ps ≡ true → (n : ℕ) × (p : SessionPlan) × (slice_get ps n ≡ Some p) × (test p ≡ true)
any_at test [] is = cc
any_at test (x ∷ ps) is = elim (test_cases (test x)) [
  | inl here ↦ (0, x, refl, here)
  | inr not ↦
      let later : list_any test ps ≡ true = subst (λ (b : Bool). (b || list_any test ps) ≡ true) not is in
      let found = any_at test ps later in
      (suc found.0, found.1, found.2, found.3)
]

given_at : (i : ℕ) (ps : List SessionPlan) (n : ℕ) (p : SessionPlan) → slice_get ps n ≡ Some p → p.session ≡ i → list_any (λ (q : SessionPlan). nat_eq q.session i) ps ≡ true
given_at i [] n p at is = cc
given_at i (x ∷ ps) zero p at is =
    let same : x ≡ p = cc in
    let here : nat_eq x.session i ≡ true = subst (λ (k : ℕ). nat_eq x.session k ≡ true) (ap (λ (y : SessionPlan). y.session) same ∙ is) (eq_refl x.session) in
    rw here refl
given_at i (x ∷ ps) (suc n) p at is = or_right (nat_eq x.session i) (list_any (λ (q : SessionPlan). nat_eq q.session i) ps) (given_at i ps n p at is)
  where
    or_right : (a b : Bool) → b ≡ true → (a || b) ≡ true
    or_right true b is = refl
    or_right false b is = is

commands_none : (i : ℕ) (ps : List SessionPlan) → list_any (λ (q : SessionPlan). nat_eq q.session i) ps ≡ false → commands_of i ps ≡ []
unfolding commands_of
commands_none i [] is = refl
commands_none i (x ∷ ps) is = elim (test_cases (nat_eq x.session i)) [
  | inl here ↦ let never : true ≡ false = subst (λ (b : Bool). (b || list_any (λ (q : SessionPlan). nat_eq q.session i) ps) ≡ false) here is in cc
  | inr not ↦ rw not (commands_none i ps (subst (λ (b : Bool). (b || list_any (λ (q : SessionPlan). nat_eq q.session i) ps) ≡ false) not is))
]

pub not_given : (config : Config) (given : Given) (h : History) (s : Sessions) (i : ℕ) → SessionsStand config given h s → index_of s i ≡ None → is_given i given ≡ false
not_given config given h s i stand none = elim (test_cases (is_given i given)) [
  | inl is ↦
      let found = any_at (λ (q : SessionPlan). nat_eq q.session i) given.sessions is in
      let same : found.1.session ≡ i = eq_true found.1.session i found.3 in
      let place = subst (λ (k : ℕ). slice_get s.places.items k ≡ Some (Some found.0)) same (stand.places found.0 found.1 found.2) in
      let there : index_of s i ≡ Some found.0 = ap (option_and_then (λ (x : Option ℕ). x)) place in
      cc
  | inr not ↦ not
]

pub silent_of : (config : Config) (given : Given) (h : History) (s : Sessions) (i : ℕ) → SessionsStand config given h s → index_of s i ≡ None → IsSilent h (Session i)
silent_of config given h s i stand none = stand.others i (not_given config given h s i stand none)

idle_next : (all : Bool) (config : Config) (i : ℕ) → is_left (session_event [] all config i [] Quiet) ≡ false
unfolding mover_at lines
idle_next true config i = refl
idle_next false config i = refl

pub none_next : (config : Config) (given : Given) (h : History) (s : Sessions) (i : ℕ) → SessionsStand config given h s → index_of s i ≡ None → is_left (next_of given config i h) ≡ false
none_next config given h s i stand none =
    let a = Session i in
    let silent = silent_of config given h s i stand none in
    ap (λ (cs : List Command). is_left (session_event cs given.all config i (own a h) (flight a h))) (commands_none i given.sessions (not_given config given h s i stand none))
    ∙ left_at config i [] given.all (own a h) [] (flight a h) Quiet (sym silent.own) (sym silent.flight) ∙ idle_next given.all config i

-- ## one slot is another

number_apart : (i j : ℕ) → (i ≡ j → ⊥) → nat_eq i j ≡ false
number_apart i j apart = elim (eq_cases i j) [ inl same ↦ absurd (apart same.1) | inr is ↦ is.0 ]

-- where all others stand for their sessions after another history
sessions_set : (config : Config) (given : Given) (h l : History) (i n : ℕ) (s t : Sessions) (slot : SessionSlot) → SessionsStand config given h s → index_of s i ≡ Some n → t.slots.items ≡ set s.slots.items n slot → t.places.items ≡ s.places.items → t.finished ≡ s.finished →
    SessionStands config i (commands_of i given.sessions) given.all l slot → ((j : ℕ) (cs : List Command) (x : SessionSlot) → nat_eq i j ≡ false → SessionStands config j cs given.all h x → SessionStands config j cs given.all l x) →
    ((j : ℕ) → nat_eq i j ≡ false → IsSilent h (Session j) → IsSilent l (Session j)) → SessionsStand config given l t
sessions_set config given h l i n s t slot stand is slots places finished stands each_other silent =
    let seat = seat_of config given h s i n stand is in
    let at_place = joined (slice_get s.places.items i) n is in
    let P : ℕ → SessionSlot → Type 0 = λ m x. (p : SessionPlan) → slice_get given.sessions m ≡ Some p → SessionStands config p.session p.commands given.all h x in
    let Q : ℕ → SessionSlot → Type 0 = λ m x. (p : SessionPlan) → slice_get given.sessions m ≡ Some p → SessionStands config p.session p.commands given.all l x in
    let here : Q n slot = λ p at.
    let same : seat.0 ≡ p = (let both : Some seat.0 ≡ Some p = sym seat.1 ∙ at in cc) in
    let number : i ≡ p.session = sym seat.2 ∙ ap (λ (q : SessionPlan). q.session) same in
    subst (λ (cs : List Command). SessionStands config p.session cs given.all l slot) (planned config given h s n p stand at) (subst (λ (j : ℕ). SessionStands config j (commands_of j given.sessions) given.all l slot) number stands) in
    let apart : (m : ℕ) (p : SessionPlan) → m ≢ n → slice_get given.sessions m ≡ Some p → nat_eq i p.session ≡ false = λ m p other at. number_apart i p.session (λ same.
    let both : Some (Some m) ≡ Some (Some n) = sym (stand.places m p at) ∙ ap (slice_get s.places.items) (sym same) ∙ at_place in
    other (cc)) in
    record {
      rising = stand.rising;
      numbers = stand.numbers;
      finished = finished ∙ stand.finished;
      slots = subst (λ (xs : List SessionSlot). EachAt xs (length given.sessions) Q) (sym slots) (each_set s.slots.items (length given.sessions) P Q n slot stand.slots here (λ m x other old. λ p at. each_other p.session p.commands x (apart m p other at) (old p at)));
      places = λ m p at. ap (λ (xs : List (Option ℕ)). slice_get xs p.session) places ∙ stand.places m p at;
      no_other = λ j m at. stand.no_other j m (ap (λ (xs : List (Option ℕ)). slice_get xs j) (sym places) ∙ at);
      others = λ j not. silent j (number_apart i j (λ same.
          let there : is_given j given ≡ true = given_at j given.sessions n seat.0 seat.1 (seat.2 ∙ same) in
          let never : true ≡ false = sym there ∙ not in
          cc)) (stand.others j not);
    }

-- an entry of a session
pub sessions_more : (config : Config) (given : Given) (h : History) (i n : ℕ) (e : Entry) (s t : Sessions) (slot : SessionSlot) → SessionsStand config given h s → index_of s i ≡ Some n → IsMoveOf e (Session i) → t.slots.items ≡ set s.slots.items n slot →
    t.places.items ≡ s.places.items → t.finished ≡ s.finished → SessionStands config i (commands_of i given.sessions) given.all (e ∷ h) slot → SessionsStand config given (e ∷ h) t
sessions_more config given h i n e s t slot stand is moves slots places finished stands =
    sessions_set config given h (e ∷ h) i n s t slot stand is slots places finished stands
    (λ j cs x apart old. session_beside config j cs given.all h (Session i) e x moves apart old) (λ j apart old. silent_beside (Session i) (Session j) e h moves (session_moves j) apart old)

-- nothing was made, and a slot stands for its session again
pub sessions_same : (config : Config) (given : Given) (h : History) (i n : ℕ) (s t : Sessions) (slot : SessionSlot) → SessionsStand config given h s → index_of s i ≡ Some n → t.slots.items ≡ set s.slots.items n slot →
    t.places.items ≡ s.places.items → t.finished ≡ s.finished → SessionStands config i (commands_of i given.sessions) given.all h slot → SessionsStand config given h t
sessions_same config given h i n s t slot stand is slots places finished stands =
    sessions_set config given h h i n s t slot stand is slots places finished stands (λ j cs x apart old. old) (λ j apart old. old)

-- an entry of an applier
pub sessions_beside : (config : Config) (given : Given) (h : History) (k : ℕ) (e : Entry) (s : Sessions) → SessionsStand config given h s → IsMoveOf e (Applier k) → SessionsStand config given (e ∷ h) s
sessions_beside config given h k e s stand moves =
    let P : ℕ → SessionSlot → Type 0 = λ m x. (p : SessionPlan) → slice_get given.sessions m ≡ Some p → SessionStands config p.session p.commands given.all h x in
    let Q : ℕ → SessionSlot → Type 0 = λ m x. (p : SessionPlan) → slice_get given.sessions m ≡ Some p → SessionStands config p.session p.commands given.all (e ∷ h) x in
    record {
      rising = stand.rising;
      numbers = stand.numbers;
      finished = stand.finished;
      slots = each_more s.slots.items (length given.sessions) P Q stand.slots (λ m x old. λ p at. session_beside config p.session p.commands given.all h (Applier k) e x moves refl (old p at));
      places = stand.places;
      no_other = stand.no_other;
      others = λ j not. silent_beside (Applier k) (Session j) e h moves (session_moves j) refl (stand.others j not);
    }
