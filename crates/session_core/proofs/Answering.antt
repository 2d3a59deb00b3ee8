-- What a call makes of a mover.
use Rattle.std.proofs.Common.{◌≡◌, ℕ, ◌%◌, false, Some, None, sym, ap, ◌∙◌}
use Rattle.std.specs.Prelude.{Result, Ok, Err, IfOk}
use Rattle.txn_data.specs.declared.actor.Actor.{Actor}
use Rattle.txn_data.specs.declared.actor.Actor.TheVariants.{Session}
use Rattle.txn_data.specs.declared.config.Config.{Config}
use Rattle.txn_data.specs.declared.event.Event.TheVariants as event
use Rattle.txn_data.specs.declared.reply.Reply.{Reply}
use Rattle.txn_data.specs.declared.told.Told.{Told}
use Rattle.txn_types.specs.Lists.{or_else}
use Rattle.txn_types.specs.Program.{turn, turn_with, with_reading}
use Rattle.txn_types.specs.Run.{Mover, mover_after, limits_after}
use Rattle.txn_types.specs.Session.{Keeps, keeps_after}
use Rattle.session_core.specs.Core.{Answered, Went}
use Rattle.session_core.specs.SessionState.{IsOf, IsNamed}
use Rattle.session_core.specs.Mover.{between, within}
use Rattle.session_core.specs.Turn.{is_wanting}
use Rattle.session_core.specs.CommandInFlight.{limits_under}
use Rattle.session_core.specs.declared.session_state.SessionState.{SessionState}
use Rattle.session_core.specs.declared.turn.Turn.{Turn as Made}
use Rattle.session_core.specs.declared.turn.Turn.TheVariants as made
use Rattle.session_core.specs.declared.command_in_flight.CommandInFlight.{CommandInFlight}
use Rattle.session_core.proofs.Programs.{with_none, turn_none}

pub same_of : (config : Config) (old new : SessionState) → IsNamed old new → IsOf config old → IsOf config new
same_of config old new named is = record { status = named.status ∙ is.status ∙ ap (λ j. j % config.status) (sym named.session); skew = named.skew ∙ is.skew }

-- a call that takes no reading
pub answered_none : {E : Type 0} (config : Config) (a : Actor) (m after : Mover) (r : Result Made E) → Went config a m None after r → Answered config a m None after r
answered_none config a m after (Ok made.Reading) w = (w.0 ∙ sym (turn_none m.rest), w.1)
answered_none config a m after (Ok (made.Ask to request)) w =
    (w.0 ∙ sym (turn_none m.rest), w.1 ∙ ap (λ p. let x : Mover = record m { rest = p; reading = or_else m.reading None } in x) (sym (with_none m.rest)))
answered_none config a m after (Ok (made.Tell t)) w = (w.0 ∙ sym (turn_none m.rest), w.1)
answered_none config a m after (Err e) w = w

-- it has taken the reading that it wanted
abbrev pub read : Mover → ℕ → Mover
read m reading = record m { rest = with_reading m.rest (Some reading) }

pub answered_given : {E : Type 0} (config : Config) (a : Actor) (m after : Mover) (reading : ℕ) (r : Result Made E) → turn (with_reading m.rest (Some reading)) ≡ turn_with m.rest (Some reading)
    → IfOk r (λ t. is_wanting t ≡ false) → Went config a (read m reading) (Some reading) after r → Answered config a m (Some reading) after r
answered_given config a m after reading (Ok made.Reading) e asks w = cc
answered_given config a m after reading (Ok (made.Ask to request)) e asks w = (w.0 ∙ e, w.1)
answered_given config a m after reading (Ok (made.Tell t)) e asks w = (w.0 ∙ e, w.1)
answered_given config a m after reading (Err err) e asks w = w

-- what is told after a reply that was heard in vain
pub lost_within : (config : Config) (i : ℕ) (s : Keeps) (n k h : ℕ) (u v : CommandInFlight) (told : Told) (from : Actor) (r : Reply) → v.line ≡ u.line → v.reading ≡ u.reading → limits_under s v ≡ limits_after (limits_under s u) from r
    → mover_after config (Session i) (within config i s n v) None (event.Tell k told)
    ≡ mover_after config (Session i) (mover_after config (Session i) (within config i s n u) None (event.Hear from r)) None (event.Tell h told)
lost_within config i s n k h u v told from r two three four =
    ap (λ x. between (keeps_after config i s x v.reading (limits_under s v) told) n) two
    ∙ ap (λ x. between (keeps_after config i s u.line x (limits_under s v) told) n) three
    ∙ ap (λ x. between (keeps_after config i s u.line u.reading x told) n) four
