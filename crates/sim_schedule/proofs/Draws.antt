-- Movers that are drawn, move by move.
use Rattle.std.proofs.Common.{◌≡◌, ℕ, ◌%◌, suc, Bool, true, false, List, [], ◌∷◌, ◌++◌, Some, filter, length, map, refl, sym, ◌∙◌, ap, subst}
use Rattle.std.proofs.lemmas.List.{append-nil}
use Rattle.std.specs.List.{remove, slice_get}
use Rattle.docdb_base.specs.Generator.{next_state, draw_of}
use Rattle.txn_data.specs.declared.actor.Actor.{Actor}
use Rattle.txn_data.specs.declared.commands.Commands.{Commands}
use Rattle.txn_data.specs.declared.config.Config.{Config}
use Rattle.txn_data.specs.declared.mover.Mover.{Mover}
use Rattle.txn_types.specs.History.{History}
use Rattle.txn_types.specs.Plan.{AreRising}
use Rattle.txn_types.specs.Script.{actor_of, at_position}
use Rattle.mover_chain.specs.NextEvent.{given_by, has_event}
use Rattle.law_schedules.specs.Courses.{at_work, DrawnTo}
use Rattle.law_moves.specs.Moving.{MovedOnce}
use Rattle.law_moves.proofs.Drawing.{drawn_first, drawn_has, drawn_on, filter_more, leaves_work, map_remove, position_at, stays_at_work}
use Rattle.law_moves.proofs.Loops.{has_next}
use Rattle.world_core.specs.State.{WorldState}
use Rattle.world_core.specs.World.{recorded}
use Rattle.sim_schedule.specs.Stands.{HasNext, IsDrawn, Standing, Went}
use Rattle.sim_schedule.proofs.Going.{went_as, went_none, went_over}
use Rattle.sim_schedule.proofs.Ways.{Left, Once, Way}

-- a history was made as drawn, the generator has this state, and these movers have an event left
pub record Drawing (config : Config) (plan : Commands) (state : ℕ) (ws : List Mover) (h : History) : Type 0 where
  pub drawn : DrawnTo config plan state h
  pub work : map actor_of ws ≡ at_work config plan h

abbrev pub DrawnOn : {L : Type 0} → Config → Commands → ℕ → List Mover → WorldState L → List ℕ → WorldState L → List ℕ → Type 0
DrawnOn config plan state ws w c w1 c1 = Went config plan w c w1 c1 (Drawing config plan state ws (recorded w1))

pub draws_none : {L : Type 0} (config : Config) (plan : Commands) (state : ℕ) (ws : List Mover) (w : WorldState L) (c : List ℕ) → Standing config plan w c → recorded w ≡ [] → state ≡ config.number → map actor_of ws ≡ at_work config plan (recorded w) →
    DrawnOn config plan state ws w c w c
draws_none config plan state ws w c standing first same work =
    went_none config plan w c (Drawing config plan state ws (recorded w)) standing (record {
      drawn = subst (DrawnTo config plan state) (sym first) (subst (λ s. DrawnTo config plan s []) (sym same) (drawn_first config plan));
      work = work;
    })

at_place : (config : Config) (plan : Commands) (ws : List Mover) (n : ℕ) (m : Mover) (h : History) → map actor_of ws ≡ at_work config plan h → slice_get ws n ≡ Some m → at_position n (at_work config plan h) ≡ actor_of m ∷ []
at_place config plan ws n m h work is = subst (λ (names : List Actor). at_position n names ≡ actor_of m ∷ []) work (position_at ws n m is)

-- who is drawn has an event left
pub draw_next : {L : Type 0} (config : Config) (plan : Commands) (state n : ℕ) (ws : List Mover) (m : Mover) (w w1 : WorldState L) (c c1 : List ℕ) → DrawnOn config plan state ws w c w1 c1 → slice_get ws n ≡ Some m → HasNext w1 c1 (actor_of m)
draw_next config plan state n ws m w w1 c c1 so_far is = record {
  config = config;
  plan = plan;
  standing = so_far.standing;
  left = has_next (given_by plan) config (actor_of m) (recorded w1) (drawn_has config plan (actor_of m) n (recorded w1) (at_place config plan ws n m (recorded w1) so_far.so.work is));
}

length-map_actor : (ws : List Mover) → length (map actor_of ws) ≡ length ws
length-map_actor [] = refl
length-map_actor (w ∷ ws) = ap (λ n. suc n) (length-map_actor ws)

drawn_more : (config : Config) (plan : Commands) (before state n : ℕ) (ws : List Mover) (m : Mover) (h k : History) → Drawing config plan before ws h → state ≡ next_state before → n ≡ draw_of state % length ws → slice_get ws n ≡ Some m → MovedOnce (actor_of m) h k → DrawnTo config plan state k
drawn_more config plan before state n ws m h k so_far next place is once =
    drawn_on config plan before state (actor_of m) h k so_far.drawn next once
    (subst (λ j. at_position j (at_work config plan h) ≡ actor_of m ∷ []) (place ∙ ap (λ l. draw_of state % l) (sym (length-map_actor ws) ∙ ap length so_far.work)) (at_place config plan ws n m h so_far.work is))

work_stays : (config : Config) (plan : Commands) (a : Actor) (h k : History) → MovedOnce a h k → has_event (given_by plan) config a h ≡ true → has_event (given_by plan) config a k ≡ true → at_work config plan k ≡ at_work config plan h
work_stays config plan a h k once some still =
    subst (λ (f : History). at_work config plan f ≡ at_work config plan h) (sym once.adds)
    (stays_at_work config plan a once.entry h once.by some (subst (λ (f : History). has_event (given_by plan) config a f ≡ true) once.adds still))

work_leaves : (config : Config) (plan : Commands) (a : Actor) (n : ℕ) (h k : History) → AreRising plan.sessions → MovedOnce a h k → at_position n (at_work config plan h) ≡ a ∷ [] → has_event (given_by plan) config a k ≡ false → at_work config plan k ≡ remove (at_work config plan h) n
work_leaves config plan a n h k rising once at over =
    subst (λ (f : History). at_work config plan f ≡ remove (at_work config plan h) n) (sym once.adds)
    (leaves_work config plan a n once.entry h rising once.by at (subst (λ (f : History). has_event (given_by plan) config a f ≡ false) once.adds over))

-- the mover that moved has an event left
pub draws_on : {L : Type 0} (config : Config) (plan : Commands) (before state n : ℕ) (ws : List Mover) (m : Mover) (b : Bool) (w w1 w2 : WorldState L) (c c1 c2 : List ℕ) → DrawnOn config plan before ws w c w1 c1 → state ≡ next_state before → n ≡ draw_of state % length ws → slice_get ws n ≡ Some m →
    Way w1 c1 w2 c2 (Once w1 w2 (actor_of m)) → Left w2 (actor_of m) b → b ≡ true → DrawnOn config plan state ws w c w2 c2
draws_on config plan before state n ws m b w w1 w2 c c1 c2 so_far next place is once left still =
    let last = once config plan so_far.standing in
    went_over (Drawing config plan state ws (recorded w2)) so_far last (λ so one. record {
      drawn = drawn_more config plan before state n ws m (recorded w1) (recorded w2) so next place is one;
      work = so.work ∙ sym (work_stays config plan (actor_of m) (recorded w1) (recorded w2) one
          (drawn_has config plan (actor_of m) n (recorded w1) (at_place config plan ws n m (recorded w1) so.work is))
          (sym (left config (given_by plan) last.standing.start last.standing.spare last.standing.stands.world) ∙ still));
    })

-- it has none any more
pub draws_out : {L : Type 0} (config : Config) (plan : Commands) (before state n : ℕ) (ws : List Mover) (m : Mover) (b : Bool) (w w1 w2 : WorldState L) (c c1 c2 : List ℕ) → DrawnOn config plan before ws w c w1 c1 → state ≡ next_state before → n ≡ draw_of state % length ws → slice_get ws n ≡ Some m →
    Way w1 c1 w2 c2 (Once w1 w2 (actor_of m)) → Left w2 (actor_of m) b → b ≡ false → DrawnOn config plan state (remove ws n) w c w2 c2
draws_out config plan before state n ws m b w w1 w2 c c1 c2 so_far next place is once left over =
    let last = once config plan so_far.standing in
    went_over (Drawing config plan state (remove ws n) (recorded w2)) so_far last (λ so one. record {
      drawn = drawn_more config plan before state n ws m (recorded w1) (recorded w2) so next place is one;
      work = map_remove ws n ∙ ap (λ (names : List Actor). remove names n) so.work
          ∙ sym (work_leaves config plan (actor_of m) n (recorded w1) (recorded w2) so_far.standing.stands.runnable.lines.rising one
          (at_place config plan ws n m (recorded w1) so.work is)
          (sym (left config (given_by plan) last.standing.start last.standing.spare last.standing.stands.world) ∙ over));
    })

pub draws_end : {L : Type 0} (config : Config) (plan : Commands) (state : ℕ) (ws : List Mover) (w w1 : WorldState L) (c c1 : List ℕ) → DrawnOn config plan state ws w c w1 c1 → ws ≡ [] → Went config plan w c w1 c1 (IsDrawn config plan (recorded w1))
draws_end config plan state ws w w1 c c1 so_far empty =
    went_as (IsDrawn config plan (recorded w1)) so_far (λ so. record { course = (state, so.drawn); none = sym so.work ∙ ap (map actor_of) empty })

-- ## who has an event left, gathered one after another

pub gathered : (p : Actor → Bool) (xs : List Actor) (ws : List Mover) (m : Mover) → map actor_of ws ≡ filter p xs → p (actor_of m) ≡ true → map actor_of (ws ++ m ∷ []) ≡ filter p (xs ++ actor_of m ∷ [])
gathered p xs ws m so_far has = map_push ws ∙ ap (λ (l : List Actor). l ++ actor_of m ∷ []) so_far ∙ sym (filter_more p xs (actor_of m) ∙ rw has refl)
  where
    map_push : (vs : List Mover) → map actor_of (vs ++ m ∷ []) ≡ map actor_of vs ++ actor_of m ∷ []
    map_push [] = refl
    map_push (v ∷ vs) = ap (λ (l : List Actor). actor_of v ∷ l) (map_push vs)

pub skipped : (p : Actor → Bool) (xs : List Actor) (ws : List Mover) (x : Actor) → map actor_of ws ≡ filter p xs → p x ≡ false → map actor_of ws ≡ filter p (xs ++ x ∷ [])
skipped p xs ws x so_far has_none = so_far ∙ sym (filter_more p xs x ∙ rw has_none (append-nil (filter p xs)))
