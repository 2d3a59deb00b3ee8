use Rattle.std.proofs.Common.{◌≡◌, true, refl}
use Rattle.read_plan.specs.Rest.{rest, asked, progress, ahead}
use Rattle.read_plan.specs.Stage.{is_listing}
use Rattle.read_plan.proofs.Rounds.{round_ends, fates_end, fates_asks}
use Rattle.read_plan.proofs.read_plan.ReadPlan.next.Goals as goal

pub returns-in-None-clause-turn : goal.returns-in-None-clause-turn
unfolding rest
returns-in-None-clause-turn c =
    let self = c.args.self.now in
    let listing : is_listing self.stage ≡ true = rw c.in-Listing.is refl in
    let none : self.first ≡ true → self.restarts ≡ 0 = λ first. self.rounds first listing c.in-None.ensures.past in
    rw (c.in-Listing.is, c.in-None.ensures.none, round_ends self.first (asked self) (progress self) none) c.done.ensures.turn

pub returns-in-Some-next_found-clause-turn : goal.returns-in-Some-next_found-clause-turn
unfolding rest
returns-in-Some-next_found-clause-turn c = rw (c.in-Asking.is, c.in-Some-next_found.ensures.some, fates_asks) refl

pub returns-in-None-next_found-clause-turn : goal.returns-in-None-next_found-clause-turn
unfolding rest
returns-in-None-next_found-clause-turn c = rw (c.in-Asking.is, c.in-None-next_found.ensures.none, fates_end) (c.collect_request.ensures.turn (ahead c.args.self.now))

pub returns-in-None-clause-room : goal.returns-in-None-clause-room
unfolding rest
returns-in-None-clause-room c =
    let self = c.args.self.now in
    let listing : is_listing self.stage ≡ true = rw c.in-Listing.is refl in
    let none : self.first ≡ true → self.restarts ≡ 0 = λ first. self.rounds first listing c.in-None.ensures.past in
    rw (c.in-Listing.is, c.in-None.ensures.none, round_ends self.first (asked self) (progress self) none) c.done.ensures.room

pub returns-in-None-next_found-clause-room : goal.returns-in-None-next_found-clause-room
unfolding rest
returns-in-None-next_found-clause-room c = rw (c.in-Asking.is, c.in-None-next_found.ensures.none, fates_end) (c.collect_request.ensures.room (ahead c.args.self.now))
