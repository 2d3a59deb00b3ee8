-- Each told command came about by its program.
use Rattle.std.proofs.Common.{◌≡◌, ℕ, true, ◌∷◌, Option, Some, None, refl, sym, subst, inl, inr, ◌⊎◌}
use Rattle.txn_data.specs.declared.actor.Actor.{Actor}
use Rattle.txn_data.specs.declared.command.Command.{Command}
use Rattle.txn_data.specs.declared.config.Config.{Config}
use Rattle.txn_data.specs.declared.reply.Reply.TheVariants as reply
use Rattle.txn_data.specs.declared.told.Told.{Told}
use Rattle.txn_data.specs.declared.event.Event.{Event}
use Rattle.txn_data.specs.declared.event.Event.TheVariants.{Start, Serve, Tell, Restarted}
use Rattle.txn_types.specs.Lists.{or_else}
use Rattle.txn_types.specs.History.{History}
use Rattle.txn_types.specs.Program.{Program, Done, Asks, Reads}
use Rattle.txn_types.specs.Run.{Run, limits_of, program_of}
use Rattle.law_machines.specs.Own.{StandsOver}
use Rattle.law_messages.proofs.Rules.{Rules, Stage, hears, with_own, no_memory, told_memory, entry, Later, lasts}
use Rattle.law_messages.proofs.Safe.{Safe, Keeping}
use Rattle.law_messages.proofs.Runs.{ends_of}
use Rattle.law_courses.specs.Course.{IsPart, Came}
use Rattle.law_courses.specs.Laws.{CouldStart, CameAbout, CameAt, ToldCommandsCameAbout}
use Rattle.law_courses.proofs.Parts.{part_refl, part_more, part_trans, part_tail, part_stands, came_lower}

abbrev pub rules : Config → Rules
rules config = record {
  Base = λ h. Unit {0};
  Good = λ h m a asked. Unit {0};
  Idle = λ h m keeps. Unit {0};
  Ends = λ z m h c t. CameAbout config m h z c.keeps c.reading c.line t;
}

later_part : (config : Config) (m : Actor) (h g : History) → Later (rules config) config m h g → IsPart h g
later_part config m h g later = lasts (rules config) config m (λ (k : History). IsPart h k) (λ k e base fine other part. part_more h e k part) h g later (part_refl h)

-- what comes of the program from here on is what comes of the whole command
abbrev Leads : Actor → History → Option ℕ → History → Program Told → Program Told → Type 0
Leads m z had h whole p = (g : History) (own : Option ℕ) (t : Told) → IsPart h g → Came m g own h had p t → Came m g own z None whole t

-- a command with this line
pub record Under (config : Config) (m : Actor) (c : Stage) (whole : Program Told) : Type 0 where
  pub line : Command
  pub is : c.line ≡ Some line
  pub program : whole ≡ program_of config m c.keeps line
  pub may : CouldStart config m c.keeps line

came_about : (config : Config) (m : Actor) (g z : History) (c : Stage) (whole : Program Told) (t : Told) → Under config m c whole → Came m g c.reading z None whole t ⊎ (t ≡ told_memory) → CameAbout config m g z c.keeps c.reading c.line t
came_about config m g z c whole t under came =
    subst (λ (l : Option Command). CameAbout config m g z c.keeps c.reading l t) (sym under.is)
    (under.may, subst (λ (p : Program Told). Came m g c.reading z None p t ⊎ (t ≡ told_memory)) under.program came)

all_safe : (config : Config) (m : Actor) (z : History) (whole p : Program Told) (c : Stage) (h : History) → Under config m c whole → Leads m z c.reading h whole p → Safe (rules config) config m z c h p
unfolding Came
all_safe config m z whole (Done t) c h under leads = (
  λ may g later. (came_about config m g z c whole told_memory under (inr refl), tt),
  λ g later. (came_about config m g z c whole t under (inl (leads g c.reading t (later_part config m h g later) (refl, refl))), tt),
)
all_safe config m z whole (Asks to asked next) c h under leads = (
  λ may g later. (came_about config m g z c whole told_memory under (inr refl), tt),
  λ g later steps base.
      let part = later_part config m h g later in (
        tt,
        λ reading r time append allowed after.
            let e = entry to reading (Serve m asked r time append) in
            all_safe config m z whole (next r) (hears m c to r) (e ∷ g) (record { line = under.line; is = under.is; program = under.program; may = under.may })
            (λ f own t on came. leads f own t (part_trans h g f part (part_tail e g f on)) (inl (record { reading = reading; reply = r; time = time; append = append; before = g; stands = part_stands e g f on; later = part }, came))),
        λ reading k is after.
            let e = entry to reading (Restarted m k) in
            all_safe config m z whole (next (reply.Restarted k)) (hears m c to (reply.Restarted k)) (e ∷ g) (record { line = under.line; is = under.is; program = under.program; may = under.may })
            (λ f own t on came. leads f own t (part_trans h g f part (part_tail e g f on)) (inr (inl (is, (k, came_lower m f own h (e ∷ g) c.reading (next (reply.Restarted k)) t (part_more h e g part) came))))),
        all_safe config m z whole (next no_memory) (hears m c to no_memory) g (record { line = under.line; is = under.is; program = under.program; may = under.may })
            (λ f own t on came. leads f own t (part_trans h g f part on) (inr (inr (came_lower m f own h g c.reading (next no_memory) t part came)))),
      ),
)
all_safe config m z whole (Reads given) c h under leads = (
  λ may g later. (came_about config m g z c whole told_memory under (inr refl), tt),
  λ reading g later recorded.
      let part = later_part config m h g later in (
        all_safe config m z whole (given reading) (with_own c (Some reading)) g (record { line = under.line; is = under.is; program = under.program; may = under.may })
            (λ f own t on came. leads f own t (part_trans h g f part on) (reading, inl (came_lower m f own h g (or_else c.reading (Some reading)) (given reading) t part came))),
        λ t is f on. (came_about config m f z c whole t under (inl (leads f c.reading t (part_trans h g f part (later_part config m g f on)) (reading, inr is))), tt),
      ),
)

pub keeping : (config : Config) → Keeping (rules config) config
keeping config = record {
  first_base = tt;
  base = λ h e base fine. tt;
  first_idle = λ m. tt;
  idle = λ h e m keeps base fine other idle. tt;
  starts = λ h m s number line steps base is may idle.
      let e = entry m None (Start number line) in
      all_safe config m h (program_of config m s.keeps line) (program_of config m s.keeps line) (record { keeps = s.keeps; line = Some line; reading = None; limits = limits_of s.keeps.opened; may_lose = true }) (e ∷ h)
      (record { line = line; is = refl; program = refl; may = (s, refl, may) })
      (λ g own t on came. came_lower m g own h (e ∷ h) None (program_of config m s.keeps line) t (part_more h e h (part_refl h)) came);
}

came_event : (config : Config) (h before : History) (m : Actor) (reading : Option ℕ) (event : Event) → Run config h → StandsOver (entry m reading event) before h → CameAt config before event m (entry m reading event ∷ before)
came_event config h before m reading (Tell number t) run stands = ends_of (rules config) config (keeping config) h before m reading number t run.1 stands
came_event config h before m reading event run stands = tt

pub told_came_about : ToldCommandsCameAbout
told_came_about config h before e run stands = came_event config h before e.actor e.reading e.event run stands
