use Rattle.std.proofs.Common.{◌≡◌, ℕ, Bool, refl, ap, sym, subst, ◌∙◌}
use Rattle.txn_data.specs.declared.actor.Actor.TheVariants.{Applier}
use Rattle.txn_types.specs.Run.{mover_at, flight_after}
use Rattle.txn_types.specs.Script.{started}
use Rattle.mover_chain.specs.NextEvent.{is_left}
use Rattle.mover_seat.specs.Made.{Makes}
use Rattle.mover_seat.specs.NextEvent.{applier_event, applier_from}
use Rattle.mover_seat.specs.Pass.{HasCome, Comes, begins}
use Rattle.mover_seat.specs.declared.stage.Stage.{Stage}
use Rattle.mover_seat.proofs.Own.{step_is, waiting_more}
use Rattle.mover_seat.proofs.Passes.{come_more, begun_more, entry_by, few_passes}
use Rattle.mover_seat.proofs.applier_seat.ApplierSeat.next.Goals as goal

pub returns-in_err-made-clause-none : goal.returns-in_err-made-clause-none
returns-in_err-made-clause-none c = λ config k g f stands none.
    let s = c.args.self.now in
    let m = mover_at config (Applier k) g in
    let done = c.args.done in
    let then_begun = c.next_of.new.begun in
    let A : Stage → Type 0 = λ at. HasCome config s.tablet s.begun m f s.pass at in
    let at_tablet = subst (λ (x : ℕ). HasCome config x s.begun m f s.pass s.stage) (sym stands.tablet) stands.come in
    let may = c.begins-begins.ensures s.tablet ∙ ap (λ (x : ℕ). begins s.tablet x s.begun done) stands.passes in
    let over = c.in_err-made.ensures.none config done m f (subst A (sym c.replace-stage.ensures.value) at_tablet) may refl in
    let same : then_begun ≡ s.begun = c.in_err-made.ensures.same refl in
    let at : ℕ → ℕ → Bool = λ x n. is_left (applier_from done config.passes x n m f) in
    let B : Stage → Type 0 = λ at. HasCome config s.tablet then_begun m f c.next_of.new.pass at in (
      ap (λ (x : ℕ). at x (started (Applier k) g)) (sym stands.tablet) ∙ ap (at s.tablet) (sym stands.begun) ∙ over.0,
      record {
        tablet = stands.tablet;
        passes = stands.passes;
        begun = same ∙ stands.begun;
        come = subst (λ (x : ℕ). HasCome config x then_begun m f c.next_of.new.pass c.replace-stage.new.dest) stands.tablet (subst B (sym c.replace-stage.ensures.after) over.1);
        waiting = stands.waiting;
      },
    )

pub invariant_of-self-2-clause-counted : goal.invariant_of-self-2-clause-counted
invariant_of-self-2-clause-counted c =
    let s = c.args.self.now in
    few_passes s.tablet s.passes s.begun c.next_of.new.begun c.args.done c.begins-begins.result (c.begins-begins.ensures s.tablet) c.next_of.ensures.few s.counted

pub returns-clause-some : goal.returns-clause-some
returns-clause-some c = λ config k g f stands.
    let s = c.args.self.now in
    let a = Applier k in
    let m = mover_at config a g in
    let done = c.args.done in
    let made = c.in_ok-made.made in
    let then_begun = c.next_of.new.begun in
    let pass = c.next_of.new.pass in
    let A : Stage → Type 0 = λ at. HasCome config s.tablet s.begun m f s.pass at in
    let at_tablet = subst (λ (x : ℕ). HasCome config x s.begun m f s.pass s.stage) (sym stands.tablet) stands.come in
    let may = c.begins-begins.ensures s.tablet ∙ ap (λ (x : ℕ). begins s.tablet x s.begun done) stands.passes in
    let comes = subst (λ (x : ℕ). Comes config x done s.begun m f made then_begun pass) stands.tablet (c.in_ok-made.ensures.some config done m f (subst A (sym c.replace-stage.ensures.value) at_tablet) may) in
    λ reading. (
      step_is config a (Applier s.tablet) (applier_event done config k g f) reading g f made (ap Applier stands.tablet) stands.waiting
          (subst (λ (n : ℕ). Makes config a (applier_from done config.passes k n m f) m f reading made) stands.begun (comes.0 reading)),
      record {
        tablet = stands.tablet;
        passes = stands.passes;
        begun = begun_more k s.tablet s.begun then_begun g made stands.tablet stands.begun comes.2;
        come = come_more config k s.tablet then_begun g (flight_after a f a made.event) pass made stands.tablet comes.1;
        waiting = waiting_more config a m f (entry_by s.tablet made) g stands.waiting (comes.0 reading).may;
      },
    )
