-- A session's command that asks once: what was served for it, and what it is told.
use Rattle.std.proofs.Common.{◌≡◌, ℕ, Bool, true, false, ◌&&◌, List, [], ◌∷◌, ◌++◌, Option, Some, None, refl, sym, ◌∙◌, ap, subst, inl, inr, if◌then◌else◌}
use Rattle.txn_data.specs.declared.actor.Actor.{Actor}
use Rattle.txn_data.specs.declared.actor.Actor.TheVariants.{Session}
use Rattle.txn_data.specs.declared.append.Append.{Append}
use Rattle.txn_data.specs.declared.command.Command.{Command}
use Rattle.txn_data.specs.declared.config.Config.{Config}
use Rattle.txn_data.specs.declared.request.Request.{Request}
use Rattle.txn_data.specs.declared.request.Request.TheVariants as request
use Rattle.txn_data.specs.declared.reply.Reply.{Reply}
use Rattle.txn_data.specs.declared.told.Told.{Told}
use Rattle.txn_data.specs.declared.event.Event.{Event}
use Rattle.txn_data.specs.declared.event.Event.TheVariants.{Start, Ask, Serve, Hear, Tell, Restarted}
use Rattle.txn_data.specs.declared.entry.Entry.{Entry}
use Rattle.txn_types.specs.History.{History, same_actor, is_start}
use Rattle.txn_types.specs.Program as program
use Rattle.txn_types.specs.Program.{Program, Done, Asks, Reads, turn_with, with_reading, heard}
use Rattle.txn_types.specs.Run.{Mover, Allowed, Steps, Run, CanHear, CanTell, Flight, Quiet, Asked, Answered, flight, flight_after, mover_at, mover_after, program_of, is_settling, may_lose_after}
use Rattle.txn_types.specs.Cause.{ServedAt, served_by, served_since}
use Rattle.law_machines.proofs.Basics.{same_cases, same_refl}
use Rattle.law_messages.proofs.Rules.{no_memory, told_memory, entry}
use Rattle.law_messages.proofs.Flights.{idle_quiet}

-- how far it has come: what is left, what is on its way, what was served, and whether it may still be told out of memory
pub data Trace (to : Actor) (asked : Request) (next : Reply → Program Told) (rest : Program Told) (f : Flight) (served : List ServedAt) (lose : Bool) : Type 0 where
  Unasked : rest ≡ Asks to asked next → f ≡ Quiet → served ≡ [] → Trace to asked next rest f served lose
  Waits : rest ≡ Asks to asked next → f ≡ Asked to asked → served ≡ [] → Trace to asked next rest f served lose
  Served : (s : ServedAt) → rest ≡ Asks to asked next → f ≡ Answered to s.reply → served ≡ s ∷ [] → s.asked ≡ asked → Trace to asked next rest f served lose
  Heard : (s : ServedAt) → rest ≡ next s.reply → f ≡ Quiet → served ≡ s ∷ [] → s.asked ≡ asked → (is_settling s.reply ≡ true → lose ≡ false) → Trace to asked next rest f served lose
  Lost : rest ≡ next no_memory → f ≡ Quiet → served ≡ [] → Trace to asked next rest f served lose

-- out of memory, and nothing was served; or one answer alone was served, and it is told what comes of that
pub data Outcome (asked : Request) (next : Reply → Program Told) (served : List ServedAt) (t : Told) : Type 0 where
  OfNone : served ≡ [] → t ≡ told_memory → Outcome asked next served t
  OfOne : (s : ServedAt) → served ≡ s ∷ [] → s.asked ≡ asked → next s.reply ≡ Done t → Outcome asked next served t
  Unsettled : (s : ServedAt) → served ≡ s ∷ [] → s.asked ≡ asked → (is_settling s.reply ≡ true → ⊥) → t ≡ told_memory → Outcome asked next served t

flight_more : (m : Actor) (h : History) (e : Entry) → flight m (e ∷ h) ≡ flight_after m (flight m h) e.actor e.event
unfolding flight
flight_more m h e = refl

served_start : (m : Actor) (h : History) (e : Entry) → (same_actor e.actor m && is_start e.event) ≡ true → served_since m (e ∷ h) ≡ []
unfolding served_since
served_start m h e is = rw is refl

served_more : (m : Actor) (h : History) (e : Entry) → (same_actor e.actor m && is_start e.event) ≡ false → served_since m (e ∷ h) ≡ served_by m h e ++ served_since m h
unfolding served_since
served_more m h e is = rw is refl

and_false : (b : Bool) → (b && false) ≡ false
and_false true = refl
and_false false = refl

asked_same : (a b : Actor) (p q : Request) → Asked a p ≡ Asked b q → (a ≡ b) × (p ≡ q)
asked_same a b p q is = (cc, cc)

answered_same : (a b : Actor) (p q : Reply) → Answered a p ≡ Answered b q → (a ≡ b) × (p ≡ q)
answered_same a b p q is = (cc, cc)

asks_turn : (to a : Actor) (asked q : Request) (next : Reply → Program Told) (reading : Option ℕ) → turn_with (Asks to asked next) reading ≡ program.Ask a q → (to ≡ a) × (asked ≡ q) × (with_reading (Asks to asked next) reading ≡ Asks to asked next)
asks_turn to a asked q next None is = (cc, cc, refl)
asks_turn to a asked q next (Some n) is = cc

done_turn : (t : Told) (reading : Option ℕ) (a : Actor) (q : Request) → turn_with (Done t) reading ≡ program.Ask a q → ⊥
done_turn t None a q is = cc
done_turn t (Some n) a q is = cc

settled_lose : (i : ℕ) (b : Bool) (r : Reply) → is_settling r ≡ true → (b && may_lose_after (Session i) r) ≡ false
settled_lose i true r is = let wrong : may_lose_after (Session i) r ≡ false = rw is refl in wrong
settled_lose i false r is = refl

module _ (to : Actor) (asked : Request) (next : Reply → Program Told) (ends : (r : Reply) → (t : Told) × (next r ≡ Done t)) (never : asked ≡ request.Restart → ⊥) (i : ℕ) where
  abbrev m : Actor
  m = Session i

  abbrev At : Mover → Flight → List ServedAt → Type 0
  At s f served = Trace to asked next s.rest f served s.may_lose

  -- ## an entry of its own

  own_ask : (s : Mover) (f : Flight) (served : List ServedAt) (reading : Option ℕ) (a : Actor) (q : Request) → f ≡ Quiet → turn_with s.rest reading ≡ program.Ask a q → At s f served →
      Trace to asked next (with_reading s.rest reading) (Asked a q) served s.may_lose
  own_ask s f served reading a q quiet turn (Unasked rest at none) =
      let same = asks_turn to a asked q next reading (subst (λ (p : Program Told). turn_with p reading ≡ program.Ask a q) rest turn) in
      Waits (ap (λ (p : Program Told). with_reading p reading) rest ∙ same.2) (ap (λ (b : Actor). Asked b q) (sym same.0) ∙ ap (λ (p : Request). Asked to p) (sym same.1)) none
  own_ask s f served reading a q quiet turn (Waits rest at none) = cc
  own_ask s f served reading a q quiet turn (Served t rest at one of) = cc
  own_ask s f served reading a q quiet turn (Heard t rest at one of settled) =
      let end = ends t.reply in absurd (done_turn end.0 reading a q (subst (λ (p : Program Told). turn_with p reading ≡ program.Ask a q) (rest ∙ end.1) turn))
  own_ask s f served reading a q quiet turn (Lost rest at none) =
      let end = ends no_memory in absurd (done_turn end.0 reading a q (subst (λ (p : Program Told). turn_with p reading ≡ program.Ask a q) (rest ∙ end.1) turn))

  own_hear : (s : Mover) (f : Flight) (served : List ServedAt) (from : Actor) (r : Reply) → CanHear f from r → At s f served → Trace to asked next (heard s.rest r) Quiet served (s.may_lose && may_lose_after m r)
  own_hear s f served from r can (Unasked rest at none) = absurd (subst (λ (g : Flight). CanHear g from r) at can)
  own_hear s f served from r can (Waits rest at none) =
      let is = subst (λ (g : Flight). CanHear g from r) at can in
      Lost (ap (λ (p : Program Told). heard p r) rest ∙ ap next is.1) refl none
  own_hear s f served from r can (Served t rest at one of) =
      let is = subst (λ (g : Flight). CanHear g from r) at can in
      Heard t (ap (λ (p : Program Told). heard p r) rest ∙ ap next is.1) refl one of (λ settles. settled_lose i s.may_lose r (ap is_settling is.1 ∙ settles))
  own_hear s f served from r can (Heard t rest at one of settled) = absurd (subst (λ (g : Flight). CanHear g from r) at can)
  own_hear s f served from r can (Lost rest at none) = absurd (subst (λ (g : Flight). CanHear g from r) at can)

  -- ## an entry of another that answers it, or does not

  other_serve : (s : Mover) (f : Flight) (served : List ServedAt) (g : History) (a : Actor) (reading : Option ℕ) (q : Request) (r : Reply) (time : Option ℕ) (append : Append) → f ≡ Asked a q → At s f served →
      Trace to asked next s.rest (Answered a r) ((record { by = a; reading = reading; asked = q; reply = r; append = append; before = g }) ∷ served) s.may_lose
  other_serve s f served g a reading q r time append is (Unasked rest at none) = cc
  other_serve s f served g a reading q r time append is (Waits rest at none) =
      let same = asked_same to a asked q (sym at ∙ is) in
      Served (record { by = a; reading = reading; asked = q; reply = r; append = append; before = g }) rest (ap (λ (b : Actor). Answered b r) (sym same.0)) (ap (λ (l : List ServedAt). (record { by = a; reading = reading; asked = q; reply = r; append = append; before = g }) ∷ l) none) (sym same.1)
  other_serve s f served g a reading q r time append is (Served t rest at one of) = cc
  other_serve s f served g a reading q r time append is (Heard t rest at one of settled) = cc
  other_serve s f served g a reading q r time append is (Lost rest at none) = cc

  no_restart : (s : Mover) (f : Flight) (served : List ServedAt) (a : Actor) → f ≡ Asked a request.Restart → At s f served → ⊥
  no_restart s f served a is (Unasked rest at none) = cc
  no_restart s f served a is (Waits rest at none) = never (asked_same to a asked request.Restart (sym at ∙ is)).1
  no_restart s f served a is (Served t rest at one of) = cc
  no_restart s f served a is (Heard t rest at one of settled) = cc
  no_restart s f served a is (Lost rest at none) = cc

  -- ## each entry

  abbrev Claim : Config → History → Type 0
  Claim config h = (line : Command) → (mover_at config m h).line ≡ Some line → program_of config m (mover_at config m h).keeps line ≡ Asks to asked next → At (mover_at config m h) (flight m h) (served_since m h)

  -- the three folds after one more entry
  abbrev ClaimOf : Config → Mover → Flight → List ServedAt → Type 0
  ClaimOf config s f served = (line : Command) → s.line ≡ Some line → program_of config m s.keeps line ≡ Asks to asked next → At s f served

  shaped : (config : Config) (h : History) (s : Mover) (f : Flight) (served : List ServedAt) → mover_at config m h ≡ s → flight m h ≡ f → served_since m h ≡ served → ClaimOf config s f served → Claim config h
  shaped config h s f served es ef ev claim =
      subst (λ (t : Mover). ClaimOf config t (flight m h) (served_since m h)) (sym es)
      (subst (λ (g : Flight). ClaimOf config s g (served_since m h)) (sym ef)
      (subst (λ (l : List ServedAt). ClaimOf config s f l) (sym ev) claim))

  own_step : (config : Config) (h : History) (reading : Option ℕ) (event : Event) → Run config h → Allowed config h m reading event → Claim config h →
      ClaimOf config (mover_after config m (mover_at config m h) reading event) (flight_after m (flight m h) m event) (if is_start event then [] else served_by m h (entry m reading event) ++ served_since m h)
  own_step config h reading (Start number given) run ok before line is asks =
      let same : given ≡ line = cc in
      Unasked (ap (λ (l : Command). program_of config m (mover_at config m h).keeps l) same ∙ asks) (idle_quiet config h m run ok.0) refl
  own_step config h reading (Ask a q) run ok before line is asks =
      subst (λ (f : Flight). Trace to asked next (with_reading (mover_at config m h).rest reading) f (served_since m h) (mover_at config m h).may_lose) (sym (here (Asked a q) (flight m h)))
      (own_ask (mover_at config m h) (flight m h) (served_since m h) reading a q ok.1 ok.2 (before line is asks))
    where
      here : (one two : Flight) → (if same_actor m m then one else two) ≡ one
      here one two = rw (same_refl m) refl
  own_step config h reading (Hear from r) run ok before line is asks =
      subst (λ (f : Flight). Trace to asked next (heard (mover_at config m h).rest r) f (served_since m h) ((mover_at config m h).may_lose && may_lose_after m r)) (sym (here Quiet (flight m h)))
      (own_hear (mover_at config m h) (flight m h) (served_since m h) from r ok.1 (before line is asks))
    where
      here : (one two : Flight) → (if same_actor m m then one else two) ≡ one
      here one two = rw (same_refl m) refl
  own_step config h reading (Tell number t) run ok before line is asks = cc
  own_step config h reading (Serve from q r time append) run ok before line is asks = absurd ok.0
  own_step config h reading (Restarted from kept) run ok before line is asks = absurd ok.0

  other_step : (config : Config) (h : History) (a : Actor) (reading : Option ℕ) (event : Event) → same_actor a m ≡ false → Allowed config h a reading event → Claim config h →
      ClaimOf config (mover_at config m h) (flight_after m (flight m h) a event) (served_by m h (entry a reading event) ++ served_since m h)
  other_step config h a reading (Start number given) other ok before line is asks = before line is asks
  other_step config h a reading (Tell number t) other ok before line is asks = before line is asks
  other_step config h a reading (Ask b q) other ok before line is asks = rw other (before line is asks)
  other_step config h a reading (Hear from r) other ok before line is asks = rw other (before line is asks)
  other_step config h a reading (Serve from q r time append) other ok before line is asks = elim (same_cases from m) [
    | inl s ↦ rw s.0 (other_serve (mover_at config m h) (flight m h) (served_since m h) h a reading q r time append (subst (λ (b : Actor). flight b h ≡ Asked a q) s.1 ok.1) (before line is asks))
    | inr s ↦ rw s.0 (before line is asks)
  ]
  other_step config h a reading (Restarted from kept) other ok before line is asks = elim (same_cases from m) [
    | inl s ↦ absurd (no_restart (mover_at config m h) (flight m h) (served_since m h) a (subst (λ (b : Actor). flight b h ≡ Asked a request.Restart) s.1 ok.1) (before line is asks))
    | inr s ↦ rw s.0 (before line is asks)
  ]

  mover_same : (config : Config) (h : History) (e : Entry) → same_actor e.actor m ≡ true → mover_at config m (e ∷ h) ≡ mover_after config m (mover_at config m h) e.reading e.event
  unfolding mover_at
  mover_same config h e same = rw same refl

  mover_other : (config : Config) (h : History) (e : Entry) → same_actor e.actor m ≡ false → mover_at config m (e ∷ h) ≡ mover_at config m h
  unfolding mover_at
  mover_other config h e same = rw same refl

  served_own : (h : History) (reading : Option ℕ) (event : Event) → served_since m (entry m reading event ∷ h) ≡ (if is_start event then [] else served_by m h (entry m reading event) ++ served_since m h)
  unfolding served_since
  served_own h reading event = rw (same_refl m) refl

  pub trace : (config : Config) (h : History) → Run config h → Claim config h
  unfolding Steps mover_at
  trace config [] run = λ line is asks. cc
  trace config (e ∷ h) run =
      let before = trace config h (run.0, run.1.0) in
      elim (same_cases e.actor m) [
        | inl s ↦
            let ok : Allowed config h m e.reading e.event = subst (λ (b : Actor). Allowed config h b e.reading e.event) s.1 run.1.1 in
            subst (λ (b : Actor). Claim config (entry b e.reading e.event ∷ h)) (sym s.1)
            (shaped config (entry m e.reading e.event ∷ h) _ _ _ (mover_same config h (entry m e.reading e.event) (same_refl m)) (flight_more m h (entry m e.reading e.event)) (served_own h e.reading e.event)
            (own_step config h e.reading e.event (run.0, run.1.0) ok before))
        | inr s ↦ shaped config (e ∷ h) _ _ _ (mover_other config h e s.0) (flight_more m h e) (served_more m h e (rw s.0 refl)) (other_step config h e.actor e.reading e.event s.0 run.1.1 before)
      ]

  -- ## what it is told

  asks_tell : (reading : Option ℕ) (t : Told) → turn_with (Asks to asked next) reading ≡ program.Tell t → ⊥
  asks_tell None t is = cc
  asks_tell (Some n) t is = cc

  done_tell : (reading : Option ℕ) (u t : Told) → turn_with (Done u) reading ≡ program.Tell t → u ≡ t
  done_tell None u t is = cc
  done_tell (Some n) u t is = cc

  comes : (s : Mover) (f : Flight) (served : List ServedAt) (reading : Option ℕ) (t : Told) → f ≡ Quiet → CanTell s reading t → next no_memory ≡ Done told_memory → At s f served → Outcome asked next served t
  comes s f served reading t quiet can memory (Unasked rest at none) = OfNone none (elim can [
    | inl turn ↦ absurd (asks_tell reading t (subst (λ (p : Program Told). turn_with p reading ≡ program.Tell t) rest turn))
    | inr lost ↦ lost.0
  ])
  comes s f served reading t quiet can memory (Waits rest at none) = cc
  comes s f served reading t quiet can memory (Served u rest at one of) = cc
  comes s f served reading t quiet can memory (Heard u rest at one of settled) = elim can [
    | inl turn ↦
        let end = ends u.reply in
        OfOne u one of (end.1 ∙ ap Done (done_tell reading end.0 t (subst (λ (p : Program Told). turn_with p reading ≡ program.Tell t) (rest ∙ end.1) turn)))
    | inr lost ↦ Unsettled u one of (λ settles. let wrong = settled settles in let lost_it = lost.1 in cc) lost.0
  ]
  comes s f served reading t quiet can memory (Lost rest at none) = OfNone none (elim can [
    | inl turn ↦ sym (done_tell reading told_memory t (subst (λ (p : Program Told). turn_with p reading ≡ program.Tell t) (rest ∙ memory) turn))
    | inr lost ↦ lost.0
  ])

  pub told_one : (config : Config) (h : History) (reading : Option ℕ) (number : ℕ) (t : Told) (line : Command) → Run config h → Allowed config h m reading (Tell number t) → (mover_at config m h).line ≡ Some line →
      program_of config m (mover_at config m h).keeps line ≡ Asks to asked next → next no_memory ≡ Done told_memory → Outcome asked next (served_since m h) t
  told_one config h reading number t line run ok is asks memory = comes (mover_at config m h) (flight m h) (served_since m h) reading t ok.1 ok.3 memory (trace config h run line is asks)
