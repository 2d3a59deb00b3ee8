-- What is noted at a status tablet, and what it takes to forget.
use Rattle.std.proofs.Common.{◌≡◌, ℕ, Bool, true, false, List, [], ◌∷◌, Option, Some, None, nat_eq, refl, sym, ◌∙◌, ap, subst, inl, inr, ◌⊎◌, if◌then◌else◌}
use Rattle.std.proofs.lemmas.Bool.{or_cases, and_parts}
use Rattle.std.specs.List.{list_all}
use Rattle.txn_data.specs.declared.actor.Actor.TheVariants.{Status}
use Rattle.txn_data.specs.declared.append.Append.{Append}
use Rattle.txn_data.specs.declared.append.Append.TheVariants.{Took}
use Rattle.txn_data.specs.declared.isolation.Isolation.{Isolation}
use Rattle.txn_data.specs.declared.request.Request.TheVariants as request
use Rattle.txn_data.specs.declared.reply.Reply.{Reply}
use Rattle.txn_data.specs.declared.reply.Reply.TheVariants as reply
use Rattle.txn_data.specs.declared.event.Event.{Event}
use Rattle.txn_data.specs.declared.event.Event.TheVariants.{Serve, Restarted}
use Rattle.txn_data.specs.declared.entry.Entry.{Entry}
use Rattle.txn_types.specs.Lists.{Member, has_number, or_zero}
use Rattle.txn_types.specs.History.{History}
use Rattle.txn_types.specs.Clock.{Answer, logged, down_since}
use Rattle.txn_types.specs.Status.{Record, NoRecord, Pending, Committed, AbortedBy, record_of, noted, noted_after, is_sure, may_forget, status_up, status_standing}
use Rattle.txn_types.specs.Run.{Serves}
use Rattle.law_machines.proofs.Basics.{eq_true}
use Rattle.law_fates.proofs.Table.{logged_due}
use Rattle.law_open_txns.specs.Transaction.{IsLogged}
use Rattle.law_carried_fates.specs.Laws.{NotesOf}

note_choice : (b : Bool) (x y tablet k : ℕ) (ns : List ℕ) → nat_eq y x ≡ b → has_number k (if b then tablet ∷ ns else ns) ≡ true → (has_number k ns ≡ true) ⊎ ((y ≡ x) × (tablet ≡ k))
note_choice true x y tablet k ns same is = elim (or_cases (nat_eq k tablet) (has_number k ns) is) [
  | inl now ↦ inr (eq_true y x same, sym (eq_true k tablet now))
  | inr old ↦ inl old
]
note_choice false x y tablet k ns same is = inl is

empty_choice : (b : Bool) (k : ℕ) (ns : List ℕ) → has_number k (if b then [] else ns) ≡ true → has_number k ns ≡ true
empty_choice true k ns is = cc
empty_choice false k ns is = is

note_event : (x k : ℕ) (ns : List ℕ) (event : Event) → has_number k (noted_after x ns event) ≡ true → (has_number k ns ≡ true) ⊎ NotesOf x k event
note_event x k ns (Serve from (request.Applied y tablet) reply.Noted time append) is = note_choice (nat_eq y x) x y tablet k ns refl is
note_event x k ns (Serve from (request.Commit y floor tablets) r (Some c) Took) is = inl (empty_choice (nat_eq y x) k ns is)
note_event x k ns (Restarted from kept) is = cc
note_event x k ns event is = inl is

-- a tablet that is noted was noted by an entry
pub noted_member : (x k : ℕ) (o : History) → has_number k (noted x o) ≡ true → (e : Entry) × Member e o × NotesOf x k e.event
unfolding noted
noted_member x k [] is = cc
noted_member x k (e ∷ o) is = elim (note_event x k (noted x o) e.event is) [
  | inl old ↦ let r = noted_member x k o old in (r.0, inr r.1, r.2)
  | inr new ↦ (e, inl refl, new)
]

-- ## what it takes to forget

pub record Forgets (o : History) (x k : ℕ) : Type 0 where
  pub at : ℕ
  pub tablets : List ℕ
  pub is : record_of x o ≡ Committed at tablets
  pub all : (t : ℕ) → Member t tablets → has_number t (k ∷ noted x o) ≡ true

all_member : (test : ℕ → Bool) (ts : List ℕ) (t : ℕ) → list_all test ts ≡ true → Member t ts → test t ≡ true
all_member test [] t all m = absurd m
all_member test (u ∷ ts) t all m =
    let p = and_parts (test u) (list_all test ts) all in
    elim m [ inl is ↦ ap test is ∙ p.0 | inr more ↦ all_member test ts t p.1 more ]

forget_record : (o : History) (x k : ℕ) (sure : Bool) (r : Record) → record_of x o ≡ r → may_forget sure (k ∷ noted x o) r ≡ true → Forgets o x k
forget_record o x k sure (Committed c []) is may = cc
forget_record o x k sure (Committed c (t ∷ ts)) is may = record {
  at = c;
  tablets = t ∷ ts;
  is = is;
  all = λ u m. all_member (λ n. has_number n (k ∷ noted x o)) (t ∷ ts) u (and_parts sure (list_all (λ n. has_number n (k ∷ noted x o)) (t ∷ ts)) may).1 m;
}
forget_record o x k sure NoRecord is may = cc
forget_record o x k sure (Pending own) is may = cc
forget_record o x k sure (AbortedBy by) is may = cc

up_of : (d : Option ℕ) (up : Answer) → IsLogged (status_standing d up).append → IsLogged up.append
up_of (Some n) up is = absurd is
up_of None up is = is

pub forgets : (lease j : ℕ) (o : History) (reading : Option ℕ) (x k : ℕ) (r : Reply) (time : Option ℕ) (append : Append) → Serves lease (Status j) o reading (request.Applied x k) r time append → IsLogged append → Forgets o x k
forgets lease j o reading x k r time append served is =
    forget_record o x k (is_sure x o) (record_of x o) refl
    (logged_due served.fails (may_forget (is_sure x o) (k ∷ noted x o) (record_of x o)) None reply.Noted
    (up_of (down_since o) (status_up lease o served.fails (or_zero reading) (request.Applied x k)) (subst (λ (a : Append). IsLogged a) served.logged is)))

-- ## a Begin that was answered

abbrev IsBegun : Reply → Type 0
IsBegun reply.Begun = Unit {0}
IsBegun r = ⊥

begun_logged : (fails : Bool) → IsBegun (logged fails true None reply.Begun).reply → (logged fails true None reply.Begun).append ≡ Took
begun_logged false is = refl
begun_logged true is = absurd is

begun_standing : (d : Option ℕ) (fails : Bool) → IsBegun (status_standing d (logged fails true None reply.Begun)).reply → (status_standing d (logged fails true None reply.Begun)).append ≡ Took
begun_standing (Some n) fails is = absurd is
begun_standing None fails is = begun_logged fails is

pub begun_taken : (lease j : ℕ) (o : History) (reading : Option ℕ) (x : ℕ) (isolation : Isolation) (priority : ℕ) (time : Option ℕ) (append : Append) →
    Serves lease (Status j) o reading (request.Begin x isolation priority) reply.Begun time append → append ≡ Took
begun_taken lease j o reading x isolation priority time append served =
    served.logged ∙ begun_standing (down_since o) served.fails (subst (λ (r : Reply). IsBegun r) served.replied tt)
