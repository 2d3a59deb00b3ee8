-- A session that is seated behind the others.
use Rattle.std.proofs.Common.{◌≡◌, ◌≢◌, ℕ, zero, suc, ◌+◌, ◌<◌, Bool, true, false, Option, Some, None, List, [], ◌∷◌, ◌++◌, cond, drop, length, replicate, take, refl, sym, ap, subst, ◌∙◌, inl, inr, arith}
use Rattle.std.proofs.Math.ListN.{set, take-append-drop}
use Rattle.std.proofs.lemmas.List.{get_or-replicate, length-append, length-replicate}
use Rattle.std.proofs.lemmas.List.Elements.{All-nil, All-push}
use Rattle.std.proofs.lemmas.List.Sums.{sum_by_push}
use Rattle.std.proofs.lemmas.Option.{get_or_from_slice_get, slice_get_within}
use Rattle.std.specs.Prelude.{count_by}
use Rattle.std.specs.Int.{from_bool}
use Rattle.std.specs.List.{slice_get}
use Rattle.txn_data.specs.declared.actor.Actor.TheVariants.{Session}
use Rattle.txn_data.specs.declared.config.Config.{Config}
use Rattle.txn_data.specs.declared.session_plan.SessionPlan.{SessionPlan}
use Rattle.txn_types.specs.Plan.{AreRising, IsSession}
use Rattle.mover_chain.specs.NextEvent.{Given}
use Rattle.world_movers.specs.Sessions.{SessionsStand}
use Rattle.world_movers.specs.Slots.{EachAt, SessionStands}
use Rattle.world_movers.specs.declared.session_slot.SessionSlot.{SessionSlot}
use Rattle.world_movers.specs.declared.sessions.Sessions.{Sessions}
use Rattle.world_movers.proofs.Entries.{silent_first}
use Rattle.world_movers.proofs.Placed.{each_none, each_push, get_front, get_kept, get_last, get_push, get_set, get_there}

-- ## before the first

none_in : (n i k : ℕ) → slice_get (replicate n None) i ≡ Some (Some k) → ⊥
none_in n i k is =
    let all : List (Option ℕ) = replicate n None in
    let within : i < n = subst (λ (m : ℕ). i < m) (length-replicate n None) (slice_get_within all i (Some k) is) in
    let never : None ≡ Some k = sym (get_or-replicate n i None (Some k) within) ∙ get_or_from_slice_get all i (Some k) (Some k) is in
    cc

none_rise : AreRising []
unfolding AreRising
none_rise = tt

pub none_seated : (config : Config) (s : Sessions) → s.slots.items ≡ [] → s.places.items ≡ replicate 1001 None → s.finished ≡ true → SessionsStand config (record { sessions = []; all = true }) [] s
none_seated config s slots places finished =
    let P : ℕ → SessionSlot → Type 0 = λ m x. (p : SessionPlan) → slice_get [] m ≡ Some p → SessionStands config p.session p.commands true [] x in
    record {
      rising = none_rise;
      numbers = All-nil (λ (p : SessionPlan). IsSession p.session);
      finished = finished;
      slots = subst (λ (xs : List SessionSlot). EachAt xs 0 P) (sym slots) (each_none P);
      places = λ n p at. cc;
      no_other = λ i n at. absurd (none_in 1001 i n (subst (λ (xs : List (Option ℕ)). slice_get xs i ≡ Some (Some n)) places at));
      others = λ i not. silent_first (Session i);
    }

-- ## one more

rise_under : (ps : List SessionPlan) (n : ℕ) (q p : SessionPlan) → AreRising (ps ++ p ∷ []) → slice_get ps n ≡ Some q → q.session < p.session
unfolding AreRising
rise_under [] n q p rising at = cc
rise_under (x ∷ []) zero q p rising at = let same : x ≡ q = cc in subst (λ (y : SessionPlan). y.session < p.session) same rising.0
rise_under (x ∷ []) (suc n) q p rising at = cc
rise_under (x ∷ y ∷ ps) zero q p rising at =
    let same : x ≡ q = cc in
    let above = rise_under (y ∷ ps) zero y p rising.1 refl in
    let first : x.session < y.session = rising.0 in
    subst (λ (z : SessionPlan). z.session < p.session) same (omega arith)
rise_under (x ∷ y ∷ ps) (suc n) q p rising at = rise_under (y ∷ ps) n q p rising.1 at

rise_left : (ps qs : List SessionPlan) → AreRising (ps ++ qs) → AreRising ps
unfolding AreRising
rise_left [] qs rising = tt
rise_left (x ∷ []) qs rising = tt
rise_left (x ∷ y ∷ ps) qs rising = (rising.0, rise_left (y ∷ ps) qs rising.1)

pub rise_front : (n : ℕ) (ps : List SessionPlan) → AreRising ps → AreRising (take n ps)
rise_front n ps rising = rise_left (take n ps) (drop n ps) (subst AreRising (sym (take-append-drop n ps)) rising)

pub one_seated : (config : Config) (given : Given) (p : SessionPlan) (s t : Sessions) (slot : SessionSlot) → given.all ≡ true → AreRising (given.sessions ++ p ∷ []) → SessionsStand config given [] s → IsSession p.session → SessionStands config p.session p.commands true [] slot →
    t.slots.items ≡ s.slots.items ++ slot ∷ [] → t.places.items ≡ set s.places.items p.session (Some (length s.slots.items)) → t.finished ≡ s.finished → p.session < length s.places.items →
    SessionsStand config (record { sessions = given.sessions ++ p ∷ []; all = true }) [] t
one_seated config given p s t slot all rising stand number stands slots places finished within =
    let ps = given.sessions in
    let many = stand.slots.as_many in
    let P : ℕ → SessionSlot → Type 0 = λ m x. (q : SessionPlan) → slice_get ps m ≡ Some q → SessionStands config q.session q.commands given.all [] x in
    let Q : ℕ → SessionSlot → Type 0 = λ m x. (q : SessionPlan) → slice_get (ps ++ p ∷ []) m ≡ Some q → SessionStands config q.session q.commands true [] x in
    let last : Q (length ps) slot = λ q at. (let same : p ≡ q = (let both : Some p ≡ Some q = sym (get_last ps p) ∙ at in cc) in subst (λ (x : SessionPlan). SessionStands config x.session x.commands true [] slot) same stands) in
    let before : (m : ℕ) (x : SessionSlot) → slice_get s.slots.items m ≡ Some x → P m x → Q m x = λ m x at old. λ q there. elim (get_push ps m p q there) [
      | inl end ↦ absurd (let short = slice_get_within s.slots.items m x at in omega (arith, end.0))
      | inr front ↦ subst (λ (b : Bool). SessionStands config q.session q.commands b [] x) all (old q front)
    ] in
    record {
      rising = rising;
      numbers = All-push (λ (q : SessionPlan). IsSession q.session) ps p stand.numbers number;
      finished = finished ∙ stand.finished ∙ all;
      slots = subst (λ (xs : List SessionSlot). EachAt xs (length (ps ++ p ∷ [])) Q) (sym slots) (subst (λ (n : ℕ). EachAt (s.slots.items ++ slot ∷ []) n Q) (sym (length-append ps (p ∷ []))) (each_push s.slots.items (length ps) P Q slot stand.slots last before));
      places = λ n q at. subst (λ (xs : List (Option ℕ)). slice_get xs q.session ≡ Some (Some n)) (sym places) (elim (get_push ps n p q at) [
        | inl end ↦
            let same : p.session ≡ q.session = ap (λ (x : SessionPlan). x.session) end.1 in
            let place : length s.slots.items ≡ n = many ∙ sym end.0 in
            ap (slice_get (set s.places.items p.session (Some (length s.slots.items)))) (sym same) ∙ get_there s.places.items p.session (Some (length s.slots.items)) within ∙ ap (λ (k : ℕ). Some (Some k)) place
        | inr front ↦
            let under = rise_under ps n q p rising front in
            let apart : q.session ≢ p.session = (λ same. absurd (omega arith)) in
            get_kept s.places.items p.session q.session (Some (length s.slots.items)) (Some n) apart (stand.places n q front)
      ]);
      no_other = λ i n at. elim (get_set s.places.items p.session i (Some (length s.slots.items)) (Some n) (subst (λ (xs : List (Option ℕ)). slice_get xs i ≡ Some (Some n)) places at)) [
        | inl here ↦
            let place : length s.slots.items ≡ n = (let both : Some (length s.slots.items) ≡ Some n = here.1 in cc) in
            (p, ap (slice_get (ps ++ p ∷ [])) (sym place ∙ many) ∙ get_last ps p, sym here.0)
        | inr old ↦ let found = stand.no_other i n old.1 in (found.0, get_front ps (p ∷ []) n found.0 found.1, found.2)
      ];
      others = λ i not. silent_first (Session i);
    }

-- ## what the struct keeps

pub within_more : (places : List (Option ℕ)) (xs ys : List SessionSlot) (slot : SessionSlot) (number : ℕ) → ys ≡ xs ++ slot ∷ [] → ((i n : ℕ) → slice_get places i ≡ Some (Some n) → n < length xs) → (i n : ℕ) → slice_get (set places number (Some (length xs))) i ≡ Some (Some n) → n < length ys
within_more places xs ys slot number is within i n at =
    let longer : length ys ≡ length xs + 1 = ap length is ∙ length-append xs (slot ∷ []) in
    elim (get_set places number i (Some (length xs)) (Some n) at) [
      | inl here ↦ let place : length xs ≡ n = (let both : Some (length xs) ≡ Some n = here.1 in cc) in omega arith
      | inr old ↦ let bound = within i n old.1 in omega arith
    ]

from_test : (b : Bool) → from_bool b ≡ cond b 1 0
from_test true = refl
from_test false = refl

pub counted_more : (xs ys : List SessionSlot) (slot : SessionSlot) → ys ≡ xs ++ slot ∷ [] → count_by (λ (x : SessionSlot). x.left) ys ≡ count_by (λ (x : SessionSlot). x.left) xs + from_bool slot.left
counted_more xs ys slot is =
    ap (count_by (λ (x : SessionSlot). x.left)) is ∙ sum_by_push (λ (x : SessionSlot). cond x.left 1 0) xs slot ∙ ap (λ (n : ℕ). count_by (λ (x : SessionSlot). x.left) xs + n) (sym (from_test slot.left))
