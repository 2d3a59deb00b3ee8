use Rattle.std.proofs.Common.{◌≡◌, ◌<◌, ◌≤◌, ◌+◌, Bool, List, Option, Some, ℕ, length, refl, subst, sym, ap, ◌∙◌, arith}
use Rattle.std.proofs.Math.ListN.{set}
use Rattle.std.specs.Int.{from_bool}
use Rattle.std.specs.List.{slice_get}
use Rattle.world_movers.proofs.Seating.{counted_more, one_seated, within_more}
use Rattle.world_movers.proofs.sessions.Sessions.seat.Goals as goal

pub invariant_of-self-2-clause-within : goal.invariant_of-self-2-clause-within
invariant_of-self-2-clause-within c = λ i n at.
    let s = c.args.self.now in
    let place = c.len-place.ensures ∙ s.slots.ok.0 in
    let same = ap (λ (k : ℕ). slice_get (set s.places.items c.args.plan.now.session (Some k)) i) (sym place) in
    within_more s.places.items s.slots.items c.push.new.self.items c.in_ok-slot.slot c.args.plan.now.session c.in_ok-push.ensures.items s.within i n (same ∙ at)

pub invariant_of-self-2-clause-counted : goal.invariant_of-self-2-clause-counted
invariant_of-self-2-clause-counted c =
    let s = c.args.self.now in
    let slot = c.in_ok-slot.slot in
    ap (λ (n : ℕ). s.unfinished + n) c.from.ensures ∙ ap (λ (n : ℕ). n + from_bool slot.left) s.counted ∙ sym (counted_more s.slots.items c.push.new.self.items slot c.in_ok-push.ensures.items)

pub returns-clause-ok : goal.returns-clause-ok
returns-clause-ok c = λ given all rising stand.
    let s = c.args.self.now in
    let p = c.args.plan.now in
    let place = c.len-place.ensures ∙ s.slots.ok.0 in
    let few : p.session ≤ 1000 = c.requires.plan.0.1 in
    let within : p.session < length s.places.items = omega (arith, s.numbered) in
    one_seated c.args.config.now given p s _ c.in_ok-slot.slot all rising stand c.requires.plan.0 c.in_ok-slot.ensures c.in_ok-push.ensures.items (ap (λ (k : ℕ). set s.places.items p.session (Some k)) place) refl within
