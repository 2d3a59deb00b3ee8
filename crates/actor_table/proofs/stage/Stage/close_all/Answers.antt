use Rattle.std.proofs.Common.{◌≡◌, ℕ, [], arith, sym, ap, ◌∙◌, subst}
use Rattle.atomic_table.specs.Table.{Me}
use Rattle.actor_table.specs.declared.view.View.{View}
use Rattle.actor_table.specs.declared.view.View.TheVariants.{Sits}
use Rattle.actor_table.specs.Values.{StageValue, SeatValue}
use Rattle.actor_table.specs.Closed.{AreAllOf, SharesStamps}
use Rattle.actor_table.proofs.Gathering.{gathers-as}
use Rattle.actor_table.proofs.Closing.{Gathered, begins, goes-on, Closes, closes, table-last, table-in, no-items}
use Rattle.actor_table.proofs.Sharing.{shares-stamps, uses-once, sees-no-more}
use Rattle.actor_table.proofs.stage.Stage.close_all.Goals as goal

pub loop-next-init : goal.loop-next-init
loop-next-init c = (
  ap (λ (s : SeatValue). s.table) c.last.view_is ∙ table-last _ _ _ _ c.requires c.in-Some.ensures.items ∙ sym (ap (λ (s : StageValue). s.table) c.self.view_is),
  begins _ _ c.in-Some.last _ c.in-Some.ensures.items c.last.invariant.0.0 c.last.invariant.0.1 (ap (λ (s : SeatValue). s.at) (sym c.last.view_is)),
)

pub join_seat-requires : goal.join_seat-requires
join_seat-requires c = let i = c.loop-next.invariant in (
  i.0,
  ap (λ (s : SeatValue). s.table) c.next.view_is ∙ table-in _ _ _ _ _ _ c.requires i.1.all c.in-Some-pop.ensures.items ∙ sym (ap (λ (s : StageValue). s.table) c.self.view_is),
  ap (λ (m : Me (Unit {0}) View). m.1) c.next.invariant.0.0,
  omega arith,
  gathers-as _ _ _ _ _ _ _ i.1.sits c.next.invariant.0.0,
)

pub loop-next-preserved : goal.loop-next-preserved
loop-next-preserved c = let i = c.loop-next.invariant in (
  c.join_seat.ensures.0 ∙ i.0,
  goes-on _ _ _ c.in-Some-pop.next _ _ _ i.1 c.in-Some-pop.ensures.items (c.next.invariant.0.0 ∙ ap (λ (s : SeatValue). (Sits s.at, [])) c.next.view_is) c.join_seat.ensures.2,
)

pub returns : goal.returns
returns c =
    let stage = c.self.view_is in
    let h = c.in_default-pop in
    let none : c.loop-next.seats.items ≡ [] = no-items c.loop-next.seats.items (omega (arith, h.ensures.cases.0, c.loop-next.seats.ok)) in
    let x : Closes c.args.self c.args.seats.items c.word-stamps.result = subst (λ (s : StageValue). Closes s c.args.seats.items c.word-stamps.result) stage
    (closes _ _ _ _ _ _ _ (subst (λ (s : StageValue). AreAllOf s c.args.seats.items) (sym stage) c.requires) (subst (λ l. Gathered c.args.seats.items l c.loop-next.first.me) none c.loop-next.invariant.1) c.close_with-closed.ensures.values.2 c.word-stamps.ensures) in
    let y = x.have in
    record {
      stamps = subst (λ (n : ℕ). SharesStamps n c.args.seats.items) y.count_is (shares-stamps _ _ _ y.is_history y.are_of);
      messages = uses-once _ _ _ y.is_history y.are_of;
      counts = sees-no-more _ _ _ y.is_history y.are_of;
      bound = x.bound;
      history = y;
    }
