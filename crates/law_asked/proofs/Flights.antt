-- What the entries of others leave of a mover's message on its way.
use Rattle.std.proofs.Common.{◌≡◌, ℕ, Bool, true, false, ◌∷◌, Option, refl, sym, ◌∙◌, subst, inl, inr, if◌then◌else◌}
use Rattle.txn_data.specs.declared.actor.Actor.{Actor}
use Rattle.txn_data.specs.declared.config.Config.{Config}
use Rattle.txn_data.specs.declared.request.Request.{Request}
use Rattle.txn_data.specs.declared.request.Request.TheVariants as request
use Rattle.txn_data.specs.declared.reply.Reply.{Reply}
use Rattle.txn_data.specs.declared.reply.Reply.TheVariants as reply
use Rattle.txn_data.specs.declared.event.Event.{Event}
use Rattle.txn_data.specs.declared.event.Event.TheVariants.{Start, Ask, Serve, Hear, Tell, Restarted}
use Rattle.txn_data.specs.declared.entry.Entry.{Entry}
use Rattle.txn_types.specs.History.{History, same_actor, own}
use Rattle.txn_types.specs.Run.{Allowed, Serves, CanHear, Flight, Quiet, Asked, Answered, flight, flight_after, is_settling}
use Rattle.law_machines.proofs.Basics.{same_cases, same_refl}
use Rattle.law_refusal_rows.proofs.Shapes.{abort_settles}

abbrev pub Busy : Flight → Type 0
Busy Quiet = ⊥
Busy f = Unit {0}

pub busy_not : (f : Flight) → Busy f → f ≡ Quiet → ⊥
busy_not f busy is = subst Busy is busy

choice_same : (b : Bool) (f g : Flight) → b ≡ false → (if b then f else g) ≡ g
choice_same b f g is = rw is refl

-- an entry of another, where nothing is on its way
quiet_event : (config : Config) (h : History) (m a : Actor) (reading : Option ℕ) (event : Event) → same_actor a m ≡ false → Allowed config h a reading event → flight m h ≡ Quiet → flight_after m (flight m h) a event ≡ Quiet
quiet_event config h m a reading (Start number line) other ok quiet = quiet
quiet_event config h m a reading (Ask to asked) other ok quiet = choice_same (same_actor a m) (Asked to asked) (flight m h) other ∙ quiet
quiet_event config h m a reading (Hear from r) other ok quiet = choice_same (same_actor a m) Quiet (flight m h) other ∙ quiet
quiet_event config h m a reading (Tell number t) other ok quiet = quiet
quiet_event config h m a reading (Serve from asked r time append) other ok quiet = elim (same_cases from m) [
  | inl same ↦ let flies : flight m h ≡ Asked a asked = subst (λ (b : Actor). flight b h ≡ Asked a asked) same.1 ok.1 in let wrong : Quiet ≡ Asked a asked = sym quiet ∙ flies in cc
  | inr differ ↦ choice_same (same_actor from m) (Answered a r) (flight m h) differ.0 ∙ quiet
]
quiet_event config h m a reading (Restarted from kept) other ok quiet = elim (same_cases from m) [
  | inl same ↦ let flies : flight m h ≡ Asked a request.Restart = subst (λ (b : Actor). flight b h ≡ Asked a request.Restart) same.1 ok.1 in let wrong : Quiet ≡ Asked a request.Restart = sym quiet ∙ flies in cc
  | inr differ ↦ choice_same (same_actor from m) (Answered a (reply.Restarted kept)) (flight m h) differ.0 ∙ quiet
]

pub quiet_more : (config : Config) (m : Actor) (e : Entry) (h : History) → same_actor e.actor m ≡ false → Allowed config h e.actor e.reading e.event → flight m h ≡ Quiet → flight m (e ∷ h) ≡ Quiet
unfolding flight
quiet_more config m e h other ok quiet = quiet_event config h m e.actor e.reading e.event other ok quiet

busy_choice : (b : Bool) (f g : Flight) → Busy f → Busy g → Busy (if b then f else g)
busy_choice true f g one two = one
busy_choice false f g one two = two

busy_event : (m a : Actor) (f : Flight) (event : Event) → same_actor a m ≡ false → Busy f → Busy (flight_after m f a event)
busy_event m a f (Start number line) other busy = busy
busy_event m a f (Ask to asked) other busy = busy_choice (same_actor a m) (Asked to asked) f tt busy
busy_event m a f (Hear from r) other busy = subst Busy (sym (choice_same (same_actor a m) Quiet f other)) busy
busy_event m a f (Tell number t) other busy = busy
busy_event m a f (Serve from asked r time append) other busy = busy_choice (same_actor from m) (Answered a r) f tt busy
busy_event m a f (Restarted from kept) other busy = busy_choice (same_actor from m) (Answered a (reply.Restarted kept)) f tt busy

pub busy_more : (m : Actor) (e : Entry) (h : History) → same_actor e.actor m ≡ false → Busy (flight m h) → Busy (flight m (e ∷ h))
unfolding flight
busy_more m e h other busy = busy_event m e.actor (flight m h) e.event other busy

-- its own entries
pub asks_flies : (m : Actor) (f : Flight) (to : Actor) (asked : Request) → flight_after m f m (Ask to asked) ≡ Asked to asked
asks_flies m f to asked = chosen (same_refl m)
  where
    chosen : same_actor m m ≡ true → (if same_actor m m then Asked to asked else f) ≡ Asked to asked
    chosen is = rw is refl

pub hears_quiet : (m : Actor) (f : Flight) (from : Actor) (r : Reply) → flight_after m f m (Hear from r) ≡ Quiet
hears_quiet m f from r = chosen (same_refl m)
  where
    chosen : same_actor m m ≡ true → (if same_actor m m then Quiet else f) ≡ Quiet
    chosen is = rw is refl

-- ## an Abort on its way

-- it was asked; or it was answered so that the command is settled
abbrev pub AbortFlies : ℕ → Flight → Type 0
AbortFlies x Quiet = ⊥
AbortFlies x (Asked to asked) = asked ≡ request.Abort x
AbortFlies x (Answered by r) = is_settling r ≡ true

pub flies_not : (x : ℕ) (f : Flight) → AbortFlies x f → f ≡ Quiet → ⊥
flies_not x f flies is = subst (AbortFlies x) is flies

-- whatever is heard then settles
pub flies_heard : (x : ℕ) (f : Flight) (from : Actor) (r : Reply) → AbortFlies x f → CanHear f from r → is_settling r ≡ true
flies_heard x Quiet from r flies can = absurd flies
flies_heard x (Asked to asked) from r flies can = rw can.1 refl
flies_heard x (Answered by answer) from r flies can = rw can.1 flies

-- an entry of another
flies_event : (config : Config) (h : History) (m a : Actor) (x : ℕ) (reading : Option ℕ) (event : Event) → same_actor a m ≡ false → Allowed config h a reading event → AbortFlies x (flight m h) → AbortFlies x (flight_after m (flight m h) a event)
flies_event config h m a x reading (Start number line) other ok flies = flies
flies_event config h m a x reading (Ask to asked) other ok flies = subst (AbortFlies x) (sym (choice_same (same_actor a m) (Asked to asked) (flight m h) other)) flies
flies_event config h m a x reading (Hear from r) other ok flies = subst (AbortFlies x) (sym (choice_same (same_actor a m) Quiet (flight m h) other)) flies
flies_event config h m a x reading (Tell number t) other ok flies = flies
flies_event config h m a x reading (Serve from asked r time append) other ok flies = elim (same_cases from m) [
  | inl same ↦
      let was : flight m h ≡ Asked a asked = subst (λ (b : Actor). flight b h ≡ Asked a asked) same.1 ok.1 in
      let is : asked ≡ request.Abort x = subst (AbortFlies x) was flies in
      rw same.0 (abort_settles config.lease_us a (own a h) reading x r time append (subst (λ (q : Request). Serves config.lease_us a (own a h) reading q r time append) is ok.2))
  | inr differ ↦ subst (AbortFlies x) (sym (choice_same (same_actor from m) (Answered a r) (flight m h) differ.0)) flies
]
flies_event config h m a x reading (Restarted from kept) other ok flies = elim (same_cases from m) [
  | inl same ↦
      let was : flight m h ≡ Asked a request.Restart = subst (λ (b : Actor). flight b h ≡ Asked a request.Restart) same.1 ok.1 in
      let wrong : request.Restart ≡ request.Abort x = subst (AbortFlies x) was flies in cc
  | inr differ ↦ subst (AbortFlies x) (sym (choice_same (same_actor from m) (Answered a (reply.Restarted kept)) (flight m h) differ.0)) flies
]

pub flies_more : (config : Config) (m : Actor) (x : ℕ) (e : Entry) (h : History) → same_actor e.actor m ≡ false → Allowed config h e.actor e.reading e.event → AbortFlies x (flight m h) → AbortFlies x (flight m (e ∷ h))
unfolding flight
flies_more config m x e h other ok flies = flies_event config h m e.actor x e.reading e.event other ok flies
