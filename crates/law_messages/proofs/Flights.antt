-- Messages in flight: what a mover has in flight is what its program asks next.
use Rattle.std.proofs.Common.{◌≡◌, ◌∷◌, Option, Some, None, refl, ◌∙◌, ap, subst}
use Rattle.txn_data.specs.declared.actor.Actor.{Actor}
use Rattle.txn_data.specs.declared.request.Request.{Request}
use Rattle.txn_data.specs.declared.reply.Reply.{Reply}
use Rattle.txn_data.specs.declared.told.Told.{Told}
use Rattle.txn_data.specs.declared.command.Command.{Command}
use Rattle.txn_data.specs.declared.config.Config.{Config}
use Rattle.txn_data.specs.declared.reply.Reply.TheVariants as reply
use Rattle.txn_data.specs.declared.event.Event.TheVariants.{Serve, Restarted}
use Rattle.txn_types.specs.History.{History}
use Rattle.txn_types.specs.Program.{Program, Done, Asks, Reads}
use Rattle.txn_types.specs.Reads.{before_start}
use Rattle.txn_types.specs.Run.{mover_at, Flight, Quiet, Asked, Answered, flight, program_of}
use Rattle.law_messages.specs.Laws.{IdleIsQuiet, AskedIsNext, AnsweredIsNext}
use Rattle.law_messages.proofs.Rules.{Rules, Stage, stage_of, hears, with_own, no_memory, entry}
use Rattle.law_messages.proofs.Safe.{Safe, Keeping, Waits, Hears, MoverIs}
use Rattle.law_messages.proofs.Runs.{kept_by}

-- rules that ask nothing
abbrev no_rules : Rules
no_rules = record {
  Base = λ h. Unit {0};
  Good = λ h m a asked. Unit {0};
  Idle = λ h m keeps. Unit {0};
  Ends = λ z m h c t. Unit {0};
}

any_safe : (config : Config) (m : Actor) (z : History) (p : Program Told) (c : Stage) (h : History) → Safe no_rules config m z c h p
any_safe config m z (Done t) c h = (λ may g later. (tt, tt), λ g later. (tt, tt))
any_safe config m z (Asks to asked next) c h = (
  λ may g later. (tt, tt),
  λ g later steps base. (
    tt,
    λ reading r time append allowed after. any_safe config m z (next r) (hears m c to r) (entry to reading (Serve m asked r time append) ∷ g),
    λ reading k is after. any_safe config m z (next (reply.Restarted k)) (hears m c to (reply.Restarted k)) (entry to reading (Restarted m k) ∷ g),
    any_safe config m z (next no_memory) (hears m c to no_memory) g,
  ),
)
any_safe config m z (Reads given) c h = (λ may g later. (tt, tt), λ reading g later own. (any_safe config m z (given reading) (with_own c (Some reading)) g, λ t is f on. (tt, tt)))

no_keeping : (config : Config) → Keeping no_rules config
no_keeping config = record {
  first_base = tt;
  base = λ h e base fine. tt;
  first_idle = λ m. tt;
  idle = λ h e m keeps base fine other idle. tt;
  starts = λ h m s number line steps base is may idle. any_safe config m h (program_of config m s.keeps line) _ _;
}

quiet_line : (R : Rules) (config : Config) (m : Actor) (z : History) (c : Stage) (h : History) (p : Program Told) (line : Option Command) (f : Flight) → MoverIs R config m z c h p line f → line ≡ None → f ≡ Quiet
quiet_line R config m z c h p None Quiet at is = refl
quiet_line R config m z c h p None (Asked a q) at is = absurd at
quiet_line R config m z c h p None (Answered by r) at is = absurd at
quiet_line R config m z c h p (Some line) f at is = cc

waits_next : (R : Rules) (config : Config) (m : Actor) (z : History) (c : Stage) (h : History) (p : Program Told) (a : Actor) (q : Request) → Waits R config m z c h p a q →
    (next : Reply → Program Told) × (p ≡ Asks a q next)
waits_next R config m z c h (Done t) a q w = absurd w
waits_next R config m z c h (Reads given) a q w = absurd w
waits_next R config m z c h (Asks to asked next) a q w = (next, ap (λ (b : Actor). Asks b asked next) w.0 ∙ ap (λ (x : Request). Asks a x next) w.1)

asked_line : (R : Rules) (config : Config) (m : Actor) (z : History) (c : Stage) (h : History) (p : Program Told) (line : Option Command) (f : Flight) (a : Actor) (q : Request) → MoverIs R config m z c h p line f →
    f ≡ Asked a q → (next : Reply → Program Told) × (p ≡ Asks a q next)
asked_line R config m z c h p None Quiet a q at is = cc
asked_line R config m z c h p None (Asked b r) a q at is = absurd at
asked_line R config m z c h p None (Answered by r) a q at is = absurd at
asked_line R config m z c h p (Some line) Quiet a q at is = cc
asked_line R config m z c h p (Some line) (Asked b r) a q at is =
    let eb : b ≡ a = cc in let er : r ≡ q = cc in
    subst (λ (x : Request). (next : Reply → Program Told) × (p ≡ Asks a x next)) er (subst (λ (x : Actor). (next : Reply → Program Told) × (p ≡ Asks x r next)) eb (waits_next R config m z c h p b r at))
asked_line R config m z c h p (Some line) (Answered by r) a q at is = cc

hears_next : (R : Rules) (config : Config) (m : Actor) (z : History) (c : Stage) (h : History) (p : Program Told) (by : Actor) (r : Reply) → Hears R config m z c h p by r →
    (asked : Request) × (next : Reply → Program Told) × (p ≡ Asks by asked next)
hears_next R config m z c h (Done t) by r at = absurd at
hears_next R config m z c h (Reads given) by r at = absurd at
hears_next R config m z c h (Asks to asked next) by r at = (asked, next, ap (λ (b : Actor). Asks b asked next) at.0)

answered_line : (R : Rules) (config : Config) (m : Actor) (z : History) (c : Stage) (h : History) (p : Program Told) (line : Option Command) (f : Flight) (by : Actor) (r : Reply) → MoverIs R config m z c h p line f →
    f ≡ Answered by r → (asked : Request) × (next : Reply → Program Told) × (p ≡ Asks by asked next)
answered_line R config m z c h p None Quiet by r at is = cc
answered_line R config m z c h p None (Asked b q) by r at is = absurd at
answered_line R config m z c h p None (Answered b q) by r at is = absurd at
answered_line R config m z c h p (Some line) Quiet by r at is = cc
answered_line R config m z c h p (Some line) (Asked b q) by r at is = cc
answered_line R config m z c h p (Some line) (Answered b q) by r at is =
    let eb : b ≡ by = cc in subst (λ (x : Actor). (asked : Request) × (next : Reply → Program Told) × (p ≡ Asks x asked next)) eb (hears_next R config m z c h p b q at)

pub idle_quiet : IdleIsQuiet
idle_quiet config h m run is =
    let s = mover_at config m h in
    quiet_line no_rules config m (before_start m h) (stage_of s) h s.rest s.line (flight m h) ((kept_by no_rules config (no_keeping config) h run.1).movers m) is

pub asked_next : AskedIsNext
asked_next config h m to asked run is =
    let s = mover_at config m h in
    asked_line no_rules config m (before_start m h) (stage_of s) h s.rest s.line (flight m h) to asked ((kept_by no_rules config (no_keeping config) h run.1).movers m) is

pub answered_next : AnsweredIsNext
answered_next config h m by r run is =
    let s = mover_at config m h in
    answered_line no_rules config m (before_start m h) (stage_of s) h s.rest s.line (flight m h) by r ((kept_by no_rules config (no_keeping config) h run.1).movers m) is
