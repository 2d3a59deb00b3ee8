-- A commit that is served was asked by a session that commits its open transaction.
use Rattle.std.proofs.Common.{◌≡◌, ℕ, Bool, true, false, ◌&&◌, List, [], ◌∷◌, Option, Some, None, refl, sym, ◌∙◌, subst, inl, inr, ◌⊎◌}
use Rattle.txn_data.specs.declared.actor.Actor.{Actor}
use Rattle.txn_data.specs.declared.append.Append.{Append}
use Rattle.txn_data.specs.declared.command.Command.{Command}
use Rattle.txn_data.specs.declared.command.Command.TheVariants as command
use Rattle.txn_data.specs.declared.config.Config.{Config}
use Rattle.txn_data.specs.declared.request.Request.{Request}
use Rattle.txn_data.specs.declared.request.Request.TheVariants as request
use Rattle.txn_data.specs.declared.reply.Reply.{Reply}
use Rattle.txn_data.specs.declared.told.Told.{Told}
use Rattle.txn_data.specs.declared.event.Event.{Event}
use Rattle.txn_data.specs.declared.event.Event.TheVariants.{Start, Ask, Serve, Hear, Tell, Restarted}
use Rattle.txn_data.specs.declared.entry.Entry.{Entry}
use Rattle.txn_types.specs.Lists.{Member}
use Rattle.txn_types.specs.History.{History, same_actor, is_start}
use Rattle.txn_types.specs.Program.{Program, Asks}
use Rattle.txn_types.specs.Reads.{before_start, open_txn}
use Rattle.txn_types.specs.Run.{Run, Allowed, Quiet, Asked, flight, mover_at, mover_after}
use Rattle.law_machines.specs.Own.{StandsOver}
use Rattle.law_machines.proofs.Basics.{same_cases, test_cases}
use Rattle.law_machines.proofs.Owns.{stands_member}
use Rattle.law_messages.proofs.Flights.{idle_quiet, asked_next}
use Rattle.law_heard.proofs.Heeds.{Asking}
use Rattle.law_heard.proofs.Means.{IsAsked}
use Rattle.law_asked.proofs.Asking.{asks_at}

-- the mover of a request that is served asked it with its line
asked_kind : (config : Config) (h : History) (m to : Actor) (asked : Request) (o : Option Command) → Run config h → flight m h ≡ Asked to asked → (mover_at config m h).line ≡ o → IsAsked (mover_at config m h).line (mover_at config m h).keeps.opened to asked
asked_kind config h m to asked None run flies is = let quiet : flight m h ≡ Quiet = idle_quiet config h m run is in let wrong : Quiet ≡ Asked to asked = sym quiet ∙ flies in cc
asked_kind config h m to asked (Some line) run flies is =
    let next = asked_next config h m to asked run flies in
    let asks : Asking (IsAsked (Some line) (mover_at config m h).keeps.opened) (Asks to asked next.0) = subst (λ (p : Program Told). Asking (IsAsked (Some line) (mover_at config m h).keeps.opened) p) next.1 (asks_at config m h run.1 line is) in
    subst (λ (l : Option Command). IsAsked l (mover_at config m h).keeps.opened to asked) (sym is) asks.0

pub commit_kind : (config : Config) (h : History) (m to : Actor) (reading : Option ℕ) (x floor : ℕ) (tablets : List ℕ) (r : Reply) (time : Option ℕ) (append : Append) → Run config h → Allowed config h to reading (Serve m (request.Commit x floor tablets) r time append) →
    ((mover_at config m h).line ≡ Some command.Commit) × (open_txn (mover_at config m h).keeps.opened ≡ Some x)
commit_kind config h m to reading x floor tablets r time append run ok = asked_kind config h m to (request.Commit x floor tablets) (mover_at config m h).line run ok.1 refl

-- ## while a command is under way

-- an entry since its start finds its line
own_way : (config : Config) (m : Actor) (h : History) (reading : Option ℕ) (event : Event) (line : Command) → is_start event ≡ false → (mover_after config m (mover_at config m h) reading event).line ≡ Some line → (mover_at config m h).line ≡ Some line
own_way config m h reading (Start number l) line other is = cc
own_way config m h reading (Ask to asked) line other is = is
own_way config m h reading (Hear from r) line other is = is
own_way config m h reading (Tell number t) line other is = cc
own_way config m h reading (Serve from asked r time append) line other is = is
own_way config m h reading (Restarted from kept) line other is = is

before_way : (config : Config) (m : Actor) (e : Entry) (h : History) (line : Command) → (same_actor e.actor m && is_start e.event) ≡ false → (mover_at config m (e ∷ h)).line ≡ Some line → (mover_at config m h).line ≡ Some line
unfolding mover_at
before_way config m e h line other is = elim (same_cases e.actor m) [
  | inl same ↦ own_way config m h e.reading e.event line (rw same.0 at other) (rw same.0 at is)
  | inr differ ↦ rw differ.0 at is
]

pub under_way : (config : Config) (m : Actor) (f : Entry) (c h : History) (line : Command) → is_start f.event ≡ false → (mover_at config m h).line ≡ Some line → StandsOver f c h → Member f (before_start m h) ⊎ ((mover_at config m c).line ≡ Some line)
unfolding before_start
under_way config m f c [] line other is stands = absurd stands
under_way config m f c (e ∷ h) line other is stands = elim (test_cases (same_actor e.actor m && is_start e.event)) [
  | inl starts ↦ elim stands [
    | inl here ↦ absurd (not_start (same_actor e.actor m) (is_start e.event) starts (subst (λ (g : Entry). is_start g.event ≡ false) (sym here.0) other))
    | inr deeper ↦ rw starts (inl (stands_member f c h deeper))
  ]
  | inr going ↦
      let was = before_way config m e h line going is in
      elim stands [
        | inl here ↦ inr (subst (λ (l : History). (mover_at config m l).line ≡ Some line) here.1 was)
        | inr deeper ↦ rw going (under_way config m f c h line other was deeper)
      ]
]
  where
    not_start : (a b : Bool) → (a && b) ≡ true → b ≡ false → ⊥
    not_start true b holds fails = let wrong : true ≡ false = sym holds ∙ fails in cc
    not_start false b holds fails = cc

-- ## two entries of a history

pub one_or_other : (e f : Entry) (b c h : History) → StandsOver e b h → StandsOver f c h → StandsOver e b c ⊎ (StandsOver f c b ⊎ ((e ≡ f) × (b ≡ c)))
one_or_other e f b c [] first second = absurd first
one_or_other e f b c (g ∷ h) first second = elim first [
  | inl here ↦ elim second [
    | inl there ↦ inr (inr (sym here.0 ∙ there.0, sym here.1 ∙ there.1))
    | inr below ↦ inr (inl (subst (λ (l : History). StandsOver f c l) here.1 below))
  ]
  | inr deeper ↦ elim second [
    | inl there ↦ inl (subst (λ (l : History). StandsOver e b l) there.1 deeper)
    | inr below ↦ one_or_other e f b c h deeper below
  ]
]
