-- What is served and heard, by the messages that were used.
use Rattle.std.proofs.Common.{◌≡◌, ◌⊎◌, ℕ, zero, suc, ◌<◌, ◌≤◌, List, [], ◌∷◌, ◌++◌, map, reverse, take, length, Option, Some, refl, sym, ◌∙◌, ap, subst, inl, inr, ⊎_elim, arith}
use Rattle.std.proofs.lemmas.List.{map_push, reverse-append, take_all}
use mathlib.Core.Option.{some, some-injective}
use mathlib.Core.Logic.{dite}
use native.Mathlib.Decide.{ℕ_discrete}
use lib.ListN.{get_elem?}
use Rattle.txn_data.specs.declared.actor.Actor.{Actor}
use Rattle.txn_data.specs.declared.event.Event.{Event}
use Rattle.txn_data.specs.declared.event.Event.TheVariants.{Start, Ask, Serve, Hear, Tell, Restarted}
use Rattle.txn_data.specs.declared.entry.Entry.{Entry}
use Rattle.txn_data.specs.declared.config.Config.{Config}
use Rattle.txn_data.specs.declared.request.Request.{Request}
use Rattle.txn_data.specs.declared.request.Request.TheVariants as request
use Rattle.txn_data.specs.declared.reply.Reply.TheVariants as reply
use Rattle.txn_types.specs.History.{History, own}
use Rattle.txn_types.specs.Script.{asker}
use Rattle.txn_types.specs.Run.{Flight, Quiet, Asked, Answered, flight, flight_after, CanHear}
use Rattle.law_machines.proofs.Basics.{same_cases, same_refl}
use Rattle.law_parts.specs.Parts.{OwnAllowed, OwnSteps, Matches, MessagesMatch}
use Rattle.law_parts.proofs.Own.{flight_other, moving_is, quiet_of}
use Rattle.law_stamps.proofs.Own.{own_before, own_last}
use Rattle.actor_table.specs.declared.message.Message.{Message}
use Rattle.actor_table.specs.History.{HistoryEntry, IsHistory, IsMessage, UsesEarlier}
use Rattle.actor_table.proofs.Histories.{no_elem, get_there}
use Rattle.law_stamps.specs.Uses.{Sends, Uses, UsesAnswered}
use Rattle.law_stamps.specs.Stamps.{merged, StampsMatch}

-- ## the history before a stamp

abbrev before : ℕ → List HistoryEntry → History
before n history = merged (take n history)

take_snoc : {A : Type 0} (l : List A) (n : ℕ) (a : A) → get_elem? l n ≡ some a → take (suc n) l ≡ take n l ++ a ∷ []
take_snoc [] n a is = absurd (no_elem n a is)
take_snoc (x ∷ xs) zero a is = ap (λ y. y ∷ []) (some-injective x a is)
take_snoc (x ∷ xs) (suc n) a is = ap (λ l. x ∷ l) (take_snoc xs n a is)

merged_snoc : (l : List HistoryEntry) (e : HistoryEntry) → merged (l ++ e ∷ []) ≡ e.entry ∷ merged l
merged_snoc l e = ap reverse (map_push (λ (x : HistoryEntry). x.entry) l e) ∙ reverse-append (map (λ (x : HistoryEntry). x.entry) l) (e.entry ∷ [])

before_next : (history : List HistoryEntry) (n : ℕ) (e : HistoryEntry) → get_elem? history n ≡ some e → before (suc n) history ≡ e.entry ∷ before n history
before_next history n e is = ap merged (take_snoc history n e is) ∙ merged_snoc (take n history) e

-- ## messages that were used

-- an entry with a stamp below n used the message of stamp i
record IsUsed (history : List HistoryEntry) (n i : ℕ) : Type 0 where
  pub at : ℕ
  pub entry : HistoryEntry
  pub message : Message
  pub below : at < n
  pub there : get_elem? history at ≡ some entry
  pub used : entry.used ≡ Some message
  pub stamp : message.stamp ≡ i

-- each message of a mover was used, except the one on its way, which the entry at this place made
record Left (history : List HistoryEntry) (n : ℕ) (mover : Actor) (f : Flight) : Type 0 where
  pub place : ℕ
  pub rest : (i : ℕ) (e : HistoryEntry) (g : Flight) → i < n → get_elem? history i ≡ some e → Sends e.entry.actor e.entry.event mover g → IsUsed history n i ⊎ ((i ≡ place) × (g ≡ f))

later : (history : List HistoryEntry) (n i : ℕ) → IsUsed history n i → IsUsed history (suc n) i
later history n i u = record { at = u.at; entry = u.entry; message = u.message; below = omega (arith, u.below); there = u.there; used = u.used; stamp = u.stamp }

pub below_or_at : (i n : ℕ) → i < suc n → (i < n) ⊎ (i ≡ n)
below_or_at i n lt = dite (ℕ_discrete i n) (λ q. inr q) (λ ne. inl (omega (arith, lt, ne)))

same_there : (history : List HistoryEntry) (i n : ℕ) (x e : HistoryEntry) → get_elem? history i ≡ some x → get_elem? history n ≡ some e → i ≡ n → x ≡ e
same_there history i n x e p q is = some-injective x e (sym p ∙ ap (get_elem? history) is ∙ q)

-- an entry that makes no message of the mover, or one more that is on its way where all others were used
keeps : (history : List HistoryEntry) (n : ℕ) (e : HistoryEntry) (mover : Actor) (f : Flight) → get_elem? history n ≡ some e → ((g : Flight) → Sends e.entry.actor e.entry.event mover g → ⊥) → Left history n mover f → Left history (suc n) mover f
keeps history n e mover f here none left = record {
  place = left.place;
  rest = λ i x g lt there sends.
      ⊎_elim
      (λ low. ⊎_elim (λ u. inl (later history n i u)) (λ r. inr r) (left.rest i x g low there sends))
      (λ is. absurd (none g (subst (λ (y : HistoryEntry). Sends y.entry.actor y.entry.event mover g) (same_there history i n x e there here is) sends)))
      (below_or_at i n lt);
}

turns : (history : List HistoryEntry) (n : ℕ) (e : HistoryEntry) (mover : Actor) (f now : Flight) → get_elem? history n ≡ some e
    → ((g : Flight) → Sends e.entry.actor e.entry.event mover g → g ≡ now)
    → (left : Left history n mover f)
    → ((i : ℕ) (x : HistoryEntry) → i ≡ left.place → Sends x.entry.actor x.entry.event mover f → IsUsed history (suc n) i)
    → Left history (suc n) mover now
turns history n e mover f now here last left gone = record {
  place = n;
  rest = λ i x g lt there sends.
      ⊎_elim
      (λ low. ⊎_elim (λ u. inl (later history n i u)) (λ r. inl (gone i x r.0 (subst (Sends x.entry.actor x.entry.event mover) r.1 sends))) (left.rest i x g low there sends))
      (λ is. inr (is, last g (subst (λ (y : HistoryEntry). Sends y.entry.actor y.entry.event mover g) (same_there history i n x e there here is) sends)))
      (below_or_at i n lt);
}

-- the message that an entry used is the one on its way
found : (actors : ℕ) (history : List HistoryEntry) (n : ℕ) (e : HistoryEntry) (mover : Actor) (f g : Flight) → IsHistory actors history → get_elem? history n ≡ some e → (left : Left history n mover f) → (u : Uses e.used mover g) → (u.message.stamp ≡ left.place) × (g ≡ f)
found actors history n e mover f g is here left u =
    let m = u.message in
    let earlier : IsMessage history m × (m.stamp < n) = subst (UsesEarlier history n) u.is (is.earlier n e here) in
    let maker = earlier.0.0 in
    let same : m.entry ≡ maker.entry = ap (λ (x : Message). x.entry) earlier.0.2 in
    ⊎_elim
    (λ (used : IsUsed history n m.stamp).
    let once : used.at ≡ n = is.once used.at n used.entry e used.message m used.there here used.used u.is used.stamp in
    absurd (omega (arith, once, used.below)))
    (λ r. r)
    (left.rest m.stamp maker g earlier.1 earlier.0.1 (subst (λ (x : Entry). Sends x.actor x.event mover g) same u.sends))

-- and then it is used
gone_now : (history : List HistoryEntry) (n : ℕ) (e : HistoryEntry) (mover : Actor) (f g : Flight) → get_elem? history n ≡ some e → (left : Left history n mover f) → (u : Uses e.used mover g) → u.message.stamp ≡ left.place
    → (i : ℕ) (x : HistoryEntry) → i ≡ left.place → Sends x.entry.actor x.entry.event mover f → IsUsed history (suc n) i
gone_now history n e mover f g here left u is i x at sends = record { at = n; entry = e; message = u.message; below = omega arith; there = here; used = u.is; stamp = is ∙ sym at }

sends_quiet : (by : Actor) (event : Event) (mover : Actor) → Sends by event mover Quiet → ⊥
sends_quiet by (Start number line) mover s = s
sends_quiet by (Ask to asked) mover s = let never : Quiet ≡ Asked to asked = s.1 in cc
sends_quiet by (Serve from asked r time append) mover s = let never : Quiet ≡ Answered by r = s.1 in cc
sends_quiet by (Hear from r) mover s = s
sends_quiet by (Tell number t) mover s = s
sends_quiet by (Restarted from kept) mover s = let never : Quiet ≡ Answered by (reply.Restarted kept) = s.1 in cc

-- ## one more entry

abbrev asker_of : Actor → Event → Actor
asker_of by event = elim event [ Serve from asked r time append ↦ from | Restarted from kept ↦ from | _ ↦ by ]

sends_asker : (by : Actor) (event : Event) (mover : Actor) (g : Flight) → Sends by event mover g → asker_of by event ≡ mover
sends_asker by (Start number line) mover g s = absurd s
sends_asker by (Ask to asked) mover g s = s.0
sends_asker by (Serve from asked r time append) mover g s = s.0
sends_asker by (Hear from r) mover g s = absurd s
sends_asker by (Tell number t) mover g s = absurd s
sends_asker by (Restarted from kept) mover g s = s.0

-- the entry of stamp n, whose actor and event are these
abbrev SendsAs : HistoryEntry → Actor → Event → Type 0
SendsAs e by event = (mover : Actor) (g : Flight) → Sends e.entry.actor e.entry.event mover g → Sends by event mover g

own_turn : (actors : ℕ) (history : List HistoryEntry) (n : ℕ) (e : HistoryEntry) (h : History) (by : Actor) (event : Event) → IsHistory actors history → get_elem? history n ≡ some e → SendsAs e by event
    → UsesAnswered by event e.used → ((to : Actor) (asked : Request) → event ≡ Ask to asked → flight by h ≡ Quiet)
    → ((mover : Actor) → Left history n mover (flight mover h))
    → Matches by event h × Left history (suc n) (asker_of by event) (flight_after (asker_of by event) (flight (asker_of by event) h) by event)
own_turn actors history n e h by (Start number line) is here like uses quiet left =
    (tt, keeps history n e by (flight by h) here (λ g s. like by g s) (left by))
own_turn actors history n e h by (Tell number t) is here like uses quiet left =
    (tt, keeps history n e by (flight by h) here (λ g s. like by g s) (left by))
own_turn actors history n e h by (Ask to asked) is here like uses quiet left =
    let still = quiet to asked refl in
    let turned : Left history (suc n) by (Asked to asked) = turns history n e by (flight by h) (Asked to asked) here (λ g s. (like by g s).1) (left by)
    (λ i x at s. absurd (sends_quiet x.entry.actor x.entry.event by (subst (Sends x.entry.actor x.entry.event by) still s))) in
    (tt, rw (same_refl by) turned)
own_turn actors history n e h by (Serve from asked r time append) is here like uses quiet left =
    let f = found actors history n e from (flight from h) (Asked by asked) is here (left from) uses in
    let turned : Left history (suc n) from (Answered by r) = turns history n e from (flight from h) (Answered by r) here (λ g s. (like from g s).1) (left from)
    (gone_now history n e from (flight from h) (Asked by asked) here (left from) uses f.0) in
    (sym f.1, rw (same_refl from) turned)
own_turn actors history n e h by (Restarted from kept) is here like uses quiet left =
    let f = found actors history n e from (flight from h) (Asked by request.Restart) is here (left from) uses in
    let turned : Left history (suc n) from (Answered by (reply.Restarted kept)) = turns history n e from (flight from h) (Answered by (reply.Restarted kept)) here (λ g s. (like from g s).1) (left from)
    (gone_now history n e from (flight from h) (Asked by request.Restart) here (left from) uses f.0) in
    (sym f.1, rw (same_refl from) turned)
own_turn actors history n e h by (Hear from r) is here like uses quiet left =
    let f = found actors history n e by (flight by h) uses.flight is here (left by) uses.uses in
    let turned : Left history (suc n) by Quiet = turns history n e by (flight by h) Quiet here (λ g s. absurd (like by g s)) (left by)
    (gone_now history n e by (flight by h) uses.flight here (left by) uses.uses f.0) in
    (subst (λ (g : Flight). CanHear g from r) f.1 uses.hears, rw (same_refl by) turned)

flight_step : (a : Actor) (e : Entry) (h : History) → flight_after a (flight a h) e.actor e.event ≡ flight a (e ∷ h)
unfolding flight
flight_step a e h = refl

-- what holds of the entries with stamps below n
record Goes (history : List HistoryEntry) (n : ℕ) (h : History) : Type 0 where
  pub matches : MessagesMatch h
  pub left : (mover : Actor) → Left history n mover (flight mover h)

more_match : (e : Entry) (h : History) → MessagesMatch h → Matches e.actor e.event h → MessagesMatch (e ∷ h)
unfolding MessagesMatch
more_match e h all is = (all, is)

is_quiet : (config : Config) (h : History) (a : Actor) (reading : Option ℕ) (event : Event) → MessagesMatch h → OwnAllowed config a (own a h) reading event → (to : Actor) (asked : Request) → event ≡ Ask to asked → flight a h ≡ Quiet
is_quiet config h a reading event fit allowed to asked is =
    let ask = subst (OwnAllowed config a (own a h) reading) is allowed in
    quiet_of (flight a h) (moving_is a h fit ∙ ask.1)

one_on : (config : Config) (actors : ℕ) (history : List HistoryEntry) (n : ℕ) (e : HistoryEntry) (h : History) → IsHistory actors history → get_elem? history n ≡ some e → UsesAnswered e.entry.actor e.entry.event e.used
    → OwnAllowed config e.entry.actor (own e.entry.actor h) e.entry.reading e.entry.event → Goes history n h → Goes history (suc n) (e.entry ∷ h)
one_on config actors history n e h is here uses allowed goes =
    let x = e.entry in
    let turn = own_turn actors history n e h x.actor x.event is here (λ mover g s. s) uses (is_quiet config h x.actor x.reading x.event goes.matches allowed) goes.left in
    record {
      matches = more_match x h goes.matches turn.0;
      left = λ mover. elim (same_cases (asker x) mover) [
        | inl mine ↦
            subst (λ (m : Actor). Left history (suc n) m (flight m (x ∷ h))) mine.1
            (subst (Left history (suc n) (asker x)) (flight_step (asker x) x h) turn.1)
        | inr other ↦
            subst (Left history (suc n) mover) (sym (flight_other mover x h other.0))
            (keeps history n e mover (flight mover h) here (λ g s. other.1 (sends_asker x.actor x.event mover g s)) (goes.left mover))
      ];
    }

none_match : MessagesMatch []
unfolding MessagesMatch
none_match = tt

goes_on : (config : Config) (actors : ℕ) (history : List HistoryEntry) → IsHistory actors history
    → ((k : ℕ) (e : HistoryEntry) → get_elem? history k ≡ some e → UsesAnswered e.entry.actor e.entry.event e.used)
    → (n : ℕ) → n ≤ length history → ((a : Actor) → OwnSteps config a (own a (before n history))) → Goes history n (before n history)
goes_on config actors history is uses zero le steps = record {
  matches = none_match;
  left = λ mover. record { place = 0; rest = λ i e g lt there sends. absurd (omega (arith, lt)) };
}
goes_on config actors history is uses (suc n) le steps =
    let at = get_there history n (omega (arith, le)) in
    let e = at.0 in
    let next = before_next history n e at.1 in
    let h = before n history in
    let all : (a : Actor) → OwnSteps config a (own a (e.entry ∷ h)) = λ a. subst (λ (l : History). OwnSteps config a (own a l)) next (steps a) in
    subst (Goes history (suc n)) (sym next)
    (one_on config actors history n e h is at.1 (uses n e at.1) (own_last config e.entry h all)
    (goes_on config actors history is uses n (omega (arith, le)) (own_before config e.entry h all)))

pub stamps_match : StampsMatch
stamps_match config actors history is keeps =
    let whole : take (length history) history ≡ history = take_all (length history) history (omega arith) in
    let all : (a : Actor) → OwnSteps config a (own a (before (length history) history)) = λ a. subst (λ (l : List HistoryEntry). OwnSteps config a (own a (merged l))) (sym whole) (keeps.steps a) in
    subst (λ (l : List HistoryEntry). MessagesMatch (merged l)) whole (goes_on config actors history is keeps.uses (length history) (omega arith) all).matches
