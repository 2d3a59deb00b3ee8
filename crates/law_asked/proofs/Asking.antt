-- What a mover asks is of its line, and so is all that it asked since its start.
use Rattle.std.proofs.Common.{◌≡◌, ℕ, List, [], ◌∷◌, Option, Some, None, refl, sym, subst, inl, inr, if◌then◌else◌}
use Rattle.txn_data.specs.declared.actor.Actor.{Actor}
use Rattle.txn_data.specs.declared.command.Command.{Command}
use Rattle.txn_data.specs.declared.config.Config.{Config}
use Rattle.txn_data.specs.declared.request.Request.{Request}
use Rattle.txn_data.specs.declared.reply.Reply.{Reply}
use Rattle.txn_data.specs.declared.told.Told.{Told}
use Rattle.txn_data.specs.declared.event.Event.{Event}
use Rattle.txn_data.specs.declared.event.Event.TheVariants.{Start, Ask, Serve, Hear, Tell, Restarted}
use Rattle.txn_types.specs.Lists.{Member}
use Rattle.txn_types.specs.History.{History, is_start}
use Rattle.txn_types.specs.Program as program
use Rattle.txn_types.specs.Program.{Program, Done, Asks, Reads, turn, turn_with, heard, with_reading}
use Rattle.txn_types.specs.Run.{Mover, MayStart, Allowed, Steps, mover_at, mover_after, program_of}
use Rattle.txn_promises.specs.Lines.{is_write}
use Rattle.txn_promises.specs.Leaves.{asked_by, asked_since}
use Rattle.law_machines.proofs.Basics.{same_cases}
use Rattle.law_heard.proofs.Heeds.{Asking, heeds_asking}
use Rattle.law_heard.proofs.Means.{IsAsked, Closes, Means}
use Rattle.law_heard.proofs.Lines.{Stops, line_heeds}

-- ## what is left to ask

after_ask : (P : Actor → Request → Type 0) (p : Program Told) (reading : Option ℕ) → Asking P p → Asking P (with_reading p reading)
after_ask P (Done t) reading asks = asks
after_ask P (Asks to asked next) reading asks = asks
after_ask P (Reads given) None asks = asks
after_ask P (Reads given) (Some n) asks = asks n

after_hear : (P : Actor → Request → Type 0) (p : Program Told) (r : Reply) → Asking P p → Asking P (heard p r)
after_hear P (Done t) r asks = asks
after_hear P (Asks to asked next) r asks = asks.1 r
after_hear P (Reads given) r asks = asks

-- what a mover under way still asks
abbrev pub AsksOn : Mover → Type 0
AsksOn s = (line : Command) → s.line ≡ Some line → Asking (IsAsked (Some line) s.keeps.opened) s.rest

own_asks : (config : Config) (h : History) (m : Actor) (s : Mover) (reading : Option ℕ) (event : Event) → mover_at config m h ≡ s → Allowed config h m reading event → AsksOn s → AsksOn (mover_after config m s reading event)
own_asks config h m s reading (Start number line) same ok asks given is =
    let e : line ≡ given = cc in
    subst (λ (l : Command). Asking (IsAsked (Some l) s.keeps.opened) (program_of config m s.keeps line)) e
    (heeds_asking (IsAsked (Some line) s.keeps.opened) (Closes (is_write (Some line))) (Means (is_write (Some line)) (Stops s.keeps line)) (program_of config m s.keeps line) (line_heeds config m s line (subst (λ (t : Mover). MayStart config m t line) same ok.3)))
own_asks config h m s reading (Ask to asked) same ok asks line is = after_ask (IsAsked (Some line) s.keeps.opened) s.rest reading (asks line is)
own_asks config h m s reading (Hear from r) same ok asks line is = after_hear (IsAsked (Some line) s.keeps.opened) s.rest r (asks line is)
own_asks config h m s reading (Tell number t) same ok asks line is = cc
own_asks config h m s reading (Serve from asked r time append) same ok asks line is = asks line is
own_asks config h m s reading (Restarted from kept) same ok asks line is = asks line is

pub asks_at : (config : Config) (m : Actor) (h : History) → Steps config h → AsksOn (mover_at config m h)
unfolding mover_at Steps
asks_at config m [] steps = λ line is. cc
asks_at config m (e ∷ h) steps = elim (same_cases e.actor m) [
  | inl same ↦ rw same.0 (own_asks config h m (mover_at config m h) e.reading e.event refl (subst (λ (a : Actor). Allowed config h a e.reading e.event) same.1 steps.1) (asks_at config m h steps.0))
  | inr other ↦ rw other.0 (asks_at config m h steps.0)
]

-- ## what was asked

turn_asks : (P : Actor → Request → Type 0) (p : Program Told) (to : Actor) (asked : Request) → Asking P p → turn p ≡ program.Ask to asked → P to asked
turn_asks P (Done t) to asked asks is = cc
turn_asks P (Asks a q next) to asked asks is =
    let one : a ≡ to = cc in let two : q ≡ asked = cc in
    subst (λ (b : Actor). P b asked) one (subst (λ (r : Request). P a r) two asks.0)
turn_asks P (Reads given) to asked asks is = cc

asks_now : (P : Actor → Request → Type 0) (p : Program Told) (reading : Option ℕ) (to : Actor) (asked : Request) → Asking P p → turn_with p reading ≡ program.Ask to asked → P to asked
asks_now P (Done t) None to asked asks is = cc
asks_now P (Done t) (Some n) to asked asks is = cc
asks_now P (Asks a q next) None to asked asks is = turn_asks P (Asks a q next) to asked asks is
asks_now P (Asks a q next) (Some n) to asked asks is = cc
asks_now P (Reads given) None to asked asks is = cc
asks_now P (Reads given) (Some n) to asked asks is = turn_asks P (given n) to asked (asks n) is

-- all that a mover under way asked so far
abbrev AskedOn : Mover → List Request → Type 0
AskedOn s asks = (line : Command) → s.line ≡ Some line → (asked : Request) → Member asked asks → (to : Actor) × IsAsked (Some line) s.keeps.opened to asked

own_asked : (config : Config) (h : History) (m : Actor) (s : Mover) (reading : Option ℕ) (event : Event) (asks : List Request) → mover_at config m h ≡ s → Allowed config h m reading event → AsksOn s → AskedOn s asks →
    AskedOn (mover_after config m s reading event) (if is_start event then [] else elim (asked_by event) [ [] ↦ asks | asked ∷ more ↦ asked ∷ asks ])
own_asked config h m s reading (Start number l) asks same ok on before line is asked here = absurd here
own_asked config h m s reading (Ask to q) asks same ok on before line is asked here = elim here [
  | inl now ↦ (to, subst (λ (r : Request). IsAsked (Some line) s.keeps.opened to r) (sym now) (asks_now (IsAsked (Some line) s.keeps.opened) s.rest reading to q (on line is) (subst (λ (t : Mover). turn_with t.rest reading ≡ program.Ask to q) same ok.2)))
  | inr more ↦ before line is asked more
]
own_asked config h m s reading (Hear from r) asks same ok on before line is asked here = before line is asked here
own_asked config h m s reading (Tell number t) asks same ok on before line is asked here = cc
own_asked config h m s reading (Serve from q r time append) asks same ok on before line is asked here = before line is asked here
own_asked config h m s reading (Restarted from kept) asks same ok on before line is asked here = before line is asked here

pub asked_at : (config : Config) (m : Actor) (h : History) → Steps config h → AskedOn (mover_at config m h) (asked_since m h)
unfolding mover_at Steps asked_since
asked_at config m [] steps = λ line is. cc
asked_at config m (e ∷ h) steps = elim (same_cases e.actor m) [
  | inl same ↦ rw same.0 (own_asked config h m (mover_at config m h) e.reading e.event (asked_since m h) refl (subst (λ (a : Actor). Allowed config h a e.reading e.event) same.1 steps.1) (asks_at config m h steps.0) (asked_at config m h steps.0))
  | inr other ↦ rw other.0 (asked_at config m h steps.0)
]
