-- A transaction that a tablet has applied has no provisional write there any more.
use Rattle.std.proofs.Common.{◌≡◌, ℕ, Bool, true, false, not, ◌||◌, List, [], ◌∷◌, Option, Some, None, filter, nat_eq, refl, sym, subst, inl, inr, ◌⊎◌}
use Rattle.std.specs.List.{list_any}
use Rattle.txn_data.specs.declared.actor.Actor.{Actor}
use Rattle.txn_data.specs.declared.actor.Actor.TheVariants.{Tablet}
use Rattle.txn_data.specs.declared.append.Append.{Append}
use Rattle.txn_data.specs.declared.append.Append.TheVariants.{Nothing, Took, Failed}
use Rattle.txn_data.specs.declared.config.Config.{Config}
use Rattle.txn_data.specs.declared.request.Request.TheVariants as request
use Rattle.txn_data.specs.declared.reply.Reply.TheVariants as reply
use Rattle.txn_data.specs.declared.event.Event.{Event}
use Rattle.txn_data.specs.declared.event.Event.TheVariants.{Serve}
use Rattle.txn_data.specs.declared.entry.Entry.{Entry}
use Rattle.txn_types.specs.Lists.{Member}
use Rattle.txn_types.specs.History.{History, own, standing}
use Rattle.txn_types.specs.Tablet.{Intent, is_of, has_any, provisional, provisional_over, provisional_after}
use Rattle.txn_types.specs.Run.{Run}
use Rattle.law_machines.specs.Own.{piece, landed, StandsOver, ServesNext}
use Rattle.law_machines.proofs.Basics.{eq_refl, member_cases, filter_member}
use Rattle.law_machines.proofs.Counted.{own_all}
use Rattle.law_machines.proofs.Pieces.{no_piece}
use Rattle.law_machines.proofs.Owns.{serves_own, serves_at, stands_own, member_stands, run_until}
use Rattle.law_machines.proofs.Landed.{logged, standing_landed}
use Rattle.law_machines.proofs.Since.{Since, PieceIs, IsLanding, since_from, own_stands}
use Rattle.law_clocks.proofs.Runs.{member_before}
use Rattle.law_open_txns.specs.Transaction.{IsWriteOf}
use Rattle.law_session_order.proofs.Runs.{commit_of, no_write_after}
use Rattle.law_carried_fates.specs.Laws.{AppliesAt, HasApplied}
use Rattle.law_carried_fates.proofs.Runs.{applies_committed}
use Rattle.law_intents.specs.Laws.{AppliedStaysApplied}
use Rattle.law_intents.proofs.Table.{applied_by}

abbrev pub NoneIn : ℕ → List Intent → Type 0
NoneIn x ps = (p : Intent) → Member p ps → p.meta.txn ≡ x → ⊥

abbrev pub NoneOver : ℕ → History → Type 0
NoneOver x l = NoneIn x (provisional_over l)

abbrev pub NoWrite : ℕ → Event → Type 0
NoWrite x event = IsWriteOf x event → ⊥

none_event : (x : ℕ) (ps : List Intent) (event : Event) → NoWrite x event → NoneIn x ps → NoneIn x (provisional_after ps event)
none_event x ps (Serve from (request.Write meta number path op read seen fates) r (Some w) append) never none = λ p m is.
    elim (member_cases p ps ((record { meta = meta; number = number; path = path; op = op; wrote = w }) ∷ []) m) [
      | inl old ↦ none p old is
      | inr new ↦ elim new [
        | inl same ↦ never (subst (λ (q : Intent). q.meta.txn ≡ x) same is)
        | inr nothing ↦ nothing
      ]
    ]
none_event x ps (Serve from (request.Apply y at) r time append) never none = λ p m is. none p (filter_member _ p ps m).0 is
none_event x ps (Serve from (request.Clean y) r time append) never none = λ p m is. none p (filter_member _ p ps m).0 is
none_event x ps event never none = none

none_lands : (x : ℕ) → IsLanding (NoneOver x) (NoWrite x)
unfolding provisional_over
none_lands x l e never none = none_event x (provisional_over l) e.event never none

-- ## at the answer itself

any_choice : (b : Bool) (x : ℕ) (ps : List Intent) → b ≡ true → (b || list_any (is_of x) ps) ≡ true
any_choice true x ps is = refl
any_choice false x ps is = cc

any_later : (b : Bool) (x : ℕ) (ps : List Intent) → list_any (is_of x) ps ≡ true → (b || list_any (is_of x) ps) ≡ true
any_later true x ps is = refl
any_later false x ps is = is

any_member : (x : ℕ) (ps : List Intent) (p : Intent) → Member p ps → p.meta.txn ≡ x → has_any x ps ≡ true
any_member x [] p m is = absurd m
any_member x (q ∷ ps) p m is = elim m [
  | inl same ↦ any_choice (is_of x q) x ps (subst (λ (r : Intent). is_of x r ≡ true) same (subst (λ (y : ℕ). nat_eq p.meta.txn y ≡ true) is (eq_refl p.meta.txn)))
  | inr more ↦ any_later (is_of x q) x ps (any_member x ps p more is)
]

none_any : (x : ℕ) (ps : List Intent) → has_any x ps ≡ false → NoneIn x ps
none_any x ps none p m is = let any : has_any x ps ≡ true = any_member x ps p m is in cc

filtered_none : (x : ℕ) (ps : List Intent) → NoneIn x (filter (λ (p : Intent). not (is_of x p)) ps)
filtered_none x ps p m is =
    let f = filter_member (λ (q : Intent). not (is_of x q)) p ps m in
    let own : is_of x p ≡ true = subst (λ (y : ℕ). nat_eq p.meta.txn y ≡ true) is (eq_refl p.meta.txn) in
    let kept : not (is_of x p) ≡ true = f.1 in
    not_both (is_of x p) own kept
  where
    not_both : (b : Bool) → b ≡ true → not b ≡ true → ⊥
    not_both true one two = cc
    not_both false one two = cc

abbrev at_entry : Actor → Option ℕ → Event → Entry
at_entry a reading event = record { actor = a; reading = reading; event = event }

applied_now : (x : ℕ) (a : Actor) (reading : Option ℕ) (from : Actor) (at : ℕ) (time : Option ℕ) (append : Append) (o : History) → piece o ≡ None → standing o ≡ logged (landed o) →
    (append ≡ Took) ⊎ ((append ≡ Nothing) × (has_any x (provisional o) ≡ false)) →
    Since (NoneOver x) (NoWrite x) (at_entry a reading (Serve from (request.Apply x at) reply.AppliedHere time append) ∷ o)
unfolding landed piece provisional_over
applied_now x a reading from at time Took o whole stands is = record {
  now = filtered_none x (provisional_over (logged (landed o)));
  piece_is = subst (λ (q : Option Entry). PieceIs (NoWrite x) q) (sym whole) tt;
}
applied_now x a reading from at time Nothing o whole stands is = record {
  now = elim is [
    | inl took ↦ cc
    | inr none ↦ subst (λ (l : History). NoneIn x (provisional_over l)) stands (none_any x (provisional o) none.1)
  ];
  piece_is = subst (λ (q : Option Entry). PieceIs (NoWrite x) q) (sym whole) tt;
}
applied_now x a reading from at time Failed o whole stands is = elim is [ inl took ↦ cc | inr none ↦ cc ]

applied_at : (lease k x : ℕ) (reading : Option ℕ) (event : Event) (o : History) → ServesNext lease (Tablet k) o reading event → HasApplied x event → standing o ≡ logged (landed o) →
    Since (NoneOver x) (NoWrite x) (at_entry (Tablet k) reading event ∷ o)
applied_at lease k x reading (Serve from (request.Apply y at) reply.AppliedHere time append) o served is stands =
    let a = applied_by lease k o reading y at time append served in
    subst (λ (z : ℕ). Since (NoneOver x) (NoWrite x) (at_entry (Tablet k) reading (Serve from (request.Apply z at) reply.AppliedHere time append) ∷ o)) (sym is)
    (applied_now x (Tablet k) reading from at time append o (no_piece o a.up) stands
    (subst (λ (z : ℕ). (append ≡ Took) ⊎ ((append ≡ Nothing) × (has_any z (provisional o) ≡ false))) is a.took))
applied_at lease k x reading event o served is stands = absurd is

-- ## and after it

applies_of : (x : ℕ) (event : Event) → HasApplied x event → (c : ℕ) × AppliesAt x c event
applies_of x (Serve from (request.Apply y at) reply.AppliedHere time append) is = (at, (is, refl))
applies_of x event is = absurd is

-- after the answer nothing of the transaction is written
no_write : (config : Config) (h b : History) (s e : Entry) (x : ℕ) (before : History) → Run config h → HasApplied x s.event → StandsOver e before h → StandsOver s b before → NoWrite x e.event
no_write config h b s e x before run applied at below write =
    let apply = applies_of x s.event applied in
    let until = run_until config h before e run at in
    let at_s = run_until config before b s until below in
    let k = commit_of config b x apply.0 at_s (applies_committed config before b s x apply.0 until below apply.1) in
    no_write_after config h before e k.entry x run at write (member_before k.entry s b before k.member below) k.end

pub applied_stays : AppliedStaysApplied
applied_stays config h s x k run member at applied =
    let a = Tablet k in
    let lease = config.lease_us in
    let place = member_stands s h member in
    let b = own a place.0 in
    let o = own a h in
    let until = run_until config h place.0 s run place.1 in
    let served : ServesNext lease a b s.reading s.event = subst (λ (c : Actor). ServesNext lease c (own c place.0) s.reading s.event) at (serves_at config s place.0 h run.1 place.1) in
    let first : Since (NoneOver x) (NoWrite x) (at_entry a s.reading s.event ∷ b) =
    applied_at lease k x s.reading s.event b served applied (standing_landed lease a b (serves_own config a place.0 until.1) (own_all a place.0)) in
    let since : Since (NoneOver x) (NoWrite x) o = since_from (NoneOver x) (NoWrite x) (none_lands x) s b o (stands_own a s place.0 h at place.1)
    (subst (λ (c : Actor). Since (NoneOver x) (NoWrite x) (at_entry c s.reading s.event ∷ b)) (sym at) first)
    (λ e c there below logged_now.
    let up = own_stands a e c h there in
    let down : StandsOver s b (own a up.0) = subst (λ (l : History). StandsOver s b l) (sym up.2) below in
    let low = own_stands a s b up.0 down in
    no_write config h low.0 s e x up.0 run applied up.1 low.1) in
    subst (λ (l : History). NoneIn x (provisional_over l)) (sym (standing_landed lease a o (serves_own config a h run.1) (own_all a h))) since.now
