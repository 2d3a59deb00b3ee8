-- The laws of accepted writes in every run.
use Rattle.std.proofs.Common.{◌≡◌, ℕ, Option, Some, None, sym, subst, arith}
use Rattle.txn_data.specs.declared.request.Request.TheVariants as request
use Rattle.txn_data.specs.declared.reply.Reply.TheVariants as reply
use Rattle.txn_data.specs.declared.actor.Actor.{Actor}
use Rattle.txn_data.specs.declared.event.Event.{Event}
use Rattle.txn_data.specs.declared.event.Event.TheVariants.{Serve}
use Rattle.txn_data.specs.declared.actor.Actor.TheVariants.{Session}
use Rattle.txn_data.specs.declared.command.Command.{Command}
use Rattle.txn_data.specs.declared.config.Config.{Config}
use Rattle.txn_types.specs.History.{History}
use Rattle.txn_types.specs.Reads.{before_start}
use Rattle.txn_types.specs.Session.{Opened, writes_of}
use Rattle.txn_types.specs.Run.{Mover, Flight, Quiet, Asked, Answered, mover_at, flight}
use Rattle.law_messages.proofs.Flights.{idle_quiet}
use Rattle.law_messages.proofs.Rules.{GoodServe, Now, stage_of}
use Rattle.law_messages.proofs.Safe.{MoverIs}
use Rattle.law_messages.proofs.Runs.{good_of, kept_by}
use Rattle.law_write_numbers.specs.Laws.{IsNumbered, NumbersRise, OpenKeepsItsWrites}
use Rattle.law_write_numbers.proofs.Numbers.{accepted_writes}
use Rattle.law_write_numbers.proofs.Claims.{AreBelow, Holds, claim_of, rules}
use Rattle.law_write_numbers.proofs.Lines.{keeping}

below_event : (before : History) (a : Actor) (x k : ℕ) (event : Event) → GoodServe rules before a event → IsNumbered x k event → AreBelow x k before
below_event before a x k (Serve from (request.Write meta number path op read seen fates) (reply.Written w) time append) good is = λ e m n numbered.
    let low = good e m n (subst (λ (y : ℕ). IsNumbered y n e.event) (sym is.0) numbered) in
    let same = is.1 in
    omega (arith, low, same)
below_event before a x k event good is = absurd is

pub rise : NumbersRise
rise config h before e f x n k run stands member one two =
    below_event before f.actor x k f.event (good_of rules config (keeping config run.0) h before f run.1 stands) two e member n one

-- ## what a session keeps

rests : (config : Config) (h z : History) (m : Actor) (s : Mover) (line : Option Command) (f : Flight) → line ≡ None → f ≡ Quiet → MoverIs rules config m z (stage_of s) h s.rest line f → Holds h m (claim_of s.keeps.opened)
rests config h z m s None Quiet is quiet at = at h Now
rests config h z m s None (Asked a q) is quiet at = absurd at
rests config h z m s None (Answered by r) is quiet at = absurd at
rests config h z m s (Some line) f is quiet at = cc

pub keeps : OpenKeepsItsWrites
keeps config h i x run idle opened =
    let m = Session i in
    let s = mover_at config m h in
    let at = (kept_by rules config (keeping config run.0) h run.1).movers m in
    let holds : Holds h m (claim_of s.keeps.opened) = rests config h (before_start m h) m s s.line (flight m h) idle (idle_quiet config h m run idle) at in
    let own = subst (λ (o : Option Opened). Holds h m (claim_of o)) opened holds in
    accepted_writes x.meta.txn h (writes_of x.writes) own.1
