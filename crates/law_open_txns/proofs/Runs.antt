-- What the requests of an open transaction are answered in every run.
use Rattle.std.proofs.Common.{ℕ, Option}
use Rattle.txn_data.specs.declared.actor.Actor.{Actor}
use Rattle.txn_data.specs.declared.request.Request.TheVariants as request
use Rattle.txn_data.specs.declared.event.Event.{Event}
use Rattle.txn_data.specs.declared.event.Event.TheVariants.{Serve}
use Rattle.txn_types.specs.History.{History, own}
use Rattle.law_machines.specs.Own.{ServesNext}
use Rattle.law_machines.proofs.Owns.{serves_at, member_stands}
use Rattle.law_open_txns.specs.Laws.{WriteIsAnswered, WritesAreAnswered, EndIsAnswered, EndsAreAnswered}
use Rattle.law_open_txns.proofs.Tables.{write_is, commit_is, abort_is}

write_answer : (lease : ℕ) (a : Actor) (o : History) (reading : Option ℕ) (event : Event) → ServesNext lease a o reading event → WriteIsAnswered event
write_answer lease a o reading (Serve from (request.Write meta number path op read seen fates) r time append) served =
    write_is lease a o reading meta number path op read seen fates r time append served
write_answer lease a o reading event served = tt

pub writes_answered : WritesAreAnswered
writes_answered config h e run m =
    let place = member_stands e h m in
    write_answer config.lease_us e.actor (own e.actor place.0) e.reading e.event (serves_at config e place.0 h run.1 place.1)

end_answer : (lease : ℕ) (a : Actor) (o : History) (reading : Option ℕ) (event : Event) → ServesNext lease a o reading event → EndIsAnswered event
end_answer lease a o reading (Serve from (request.Commit x floor tablets) r time append) served = commit_is lease a o reading x floor tablets r time append served
end_answer lease a o reading (Serve from (request.Abort x) r time append) served = abort_is lease a o reading x r time append served
end_answer lease a o reading event served = tt

pub ends_answered : EndsAreAnswered
ends_answered config h e run m =
    let place = member_stands e h m in
    end_answer config.lease_us e.actor (own e.actor place.0) e.reading e.event (serves_at config e place.0 h run.1 place.1)
