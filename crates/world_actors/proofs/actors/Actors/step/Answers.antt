use Rattle.std.proofs.Common.{◌≡◌, true, false, Some, is_some, reverse, refl, sym, ◌∙◌, ap, subst}
use Rattle.world_movers.specs.Movers as movers
use Rattle.world_movers.specs.Movers.{awaits_of, takes_lists}
use Rattle.world_actors.proofs.Stepping.{not_enabled}
use Rattle.world_actors.proofs.actors.Actors.step.Goals as goal

pub returns-then-not-has_event-clause-steps : goal.returns-then-not-has_event-clause-steps
returns-then-not-has_event-clause-steps g c = λ config given start spare stands.
    let h = reverse c.args.entries.now.items in
    let inside = subst (λ a. movers.StandsFor config given h a.movers) (sym c.self.view_is) stands.movers in
    not_enabled config given start spare c.args.readings.now c.args.who h c.args.self.now stands (sym (c.has_event.ensures config given h inside) ∙ c.if-not-has_event.true)

pub ask-requires-clause-awaits : goal.ask-requires-clause-awaits
ask-requires-clause-awaits g c = record {
  value = subst (λ a. awaits_of a.movers c.args.who ≡ Some c.in-Some.asking) c.self.view_is (sym c.awaits.ensures.value ∙ c.in-Some.is);
  asks = λ config given stands. c.in-Some.ensures.some config given (reverse c.args.entries.now.items) (subst (λ a. movers.StandsFor config given (reverse c.args.entries.now.items) a.movers) (sym c.self.view_is) stands);
  listing = λ config given to asked stands flies lists.
      subst (λ a. takes_lists a.movers c.args.who ≡ true) c.self.view_is
      (c.awaits.ensures.listing config given (reverse c.args.entries.now.items) to asked (subst (λ a. movers.StandsFor config given (reverse c.args.entries.now.items) a.movers) (sym c.self.view_is) stands) flies lists);
}

pub go_on-requires-clause-awaits : goal.go_on-requires-clause-awaits
go_on-requires-clause-awaits g c = record {
  value = subst (λ a. is_some (awaits_of a.movers c.args.who) ≡ false) c.self.view_is (ap is_some (sym c.awaits.ensures.value ∙ c.in-None.is));
  none = λ config given stands. c.in-None.ensures.none config given (reverse c.args.entries.now.items) (subst (λ a. movers.StandsFor config given (reverse c.args.entries.now.items) a.movers) (sym c.self.view_is) stands) refl;
}
