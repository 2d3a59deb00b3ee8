-- What the first walk knows, with one more entry.
use Rattle.std.proofs.Common.{◌≡◌, ℕ, ◌<◌, ◌≤◌, max, Bool, true, false, List, [], ◌∷◌, Option, Some, None, nat_le, if◌then◌else◌, length, get_or, set, replicate, refl, sym, ◌∙◌, ap, subst, inl, inr, arith}
use Rattle.std.specs.Option.{unwrap_or}
use Rattle.std.proofs.lemmas.Bool.{leb-true, leb-false}
use Rattle.std.proofs.lemmas.List.{get_or-replicate, length-replicate, get_or-set_same, get_or-set_other, length-set}
use Rattle.txn_data.specs.declared.actor.Actor.{Actor}
use Rattle.txn_data.specs.declared.actor.Actor.TheVariants.{Session}
use Rattle.txn_data.specs.declared.entry.Entry.{Entry}
use Rattle.txn_types.specs.Lists.{or_zero}
use Rattle.txn_types.specs.History.{History, same_actor}
use Rattle.txn_types.specs.Reads.{reads}
use Rattle.law_machines.proofs.Basics.{same_cases, eq_cases}
use Rattle.trace_merge.specs.Seen.{greatest, session_row, JudgedFirst}
use Rattle.trace_merge.specs.Tracks.{Tracks}
use Rattle.trace_merge.specs.Walked.{Walked}
use Rattle.trace_merge.specs.declared.failed_read.FailedRead.{FailedRead}
use Rattle.trace_merge.specs.declared.session_clocks.SessionClocks.{SessionClocks}
use Rattle.trace_merge.specs.declared.walk.Walk.{Walk}
use Rattle.trace_merge.proofs.Tracking.{tracks_other}
use Rattle.trace_merge.proofs.Judging.{judged_outside}

pub walked_first : (skew : ℕ) (c : SessionClocks) (w : Walk) → ((i : ℕ) → Tracks i [] c) → w.sessions ≡ replicate 1001 c → w.greatest ≡ 0 → w.failed ≡ None → Walked skew [] w
unfolding greatest reads
walked_first skew c w tracks sessions most failed = record {
  rows = ap length sessions ∙ length-replicate 1001 c;
  sessions = λ i any lt. subst (λ (d : SessionClocks). Tracks i [] d) (sym (ap (λ (cs : List SessionClocks). get_or cs i any) sessions ∙ get_or-replicate 1001 i c any lt)) (tracks i);
  greatest = most;
  failed = subst (λ (o : Option FailedRead). JudgedFirst skew [] o) (sym failed) (λ read m in_table. absurd m);
}

reading_zero : (o : Option ℕ) → unwrap_or o 0 ≡ or_zero o
reading_zero None = refl
reading_zero (Some r) = refl

greatest_more : (e : Entry) (h : History) → greatest (e ∷ h) ≡ max (greatest h) (or_zero e.reading)
unfolding greatest
greatest_more e h = refl

greatest_is : (e : Entry) (h : History) (most now : ℕ) → most ≡ greatest h → now ≡ max most (unwrap_or e.reading 0) → now ≡ greatest (e ∷ h)
greatest_is e h most now was is = is ∙ (ap (λ (n : ℕ). max n (unwrap_or e.reading 0)) was ∙ (ap (λ (n : ℕ). max (greatest h) n) (reading_zero e.reading) ∙ sym (greatest_more e h)))

not_same : (i : ℕ) (a : Actor) → (a ≡ Session i → ⊥) → same_actor a (Session i) ≡ false
not_same i a other = elim (same_cases a (Session i)) [ inl s ↦ absurd (other s.1) | inr s ↦ s.0 ]

below : (i : ℕ) → i < 1001 → i ≤ 1000
below i lt = omega (arith, lt)

-- a row is that of a session of this number, and an actor without a row is no session in the table
row_choice : (i n : ℕ) (b : Bool) → nat_le i 1000 ≡ b → (if b then Some i else None) ≡ Some n → (i ≡ n) × (i ≤ 1000)
row_choice i n true is some = (cc, leb-true i 1000 is)
row_choice i n false is some = cc

pub row_session : (a : Actor) (n : ℕ) → session_row a ≡ Some n → (a ≡ Session n) × (n ≤ 1000)
row_session (Session i) n is = let r = row_choice i n (nat_le i 1000) refl is in (ap Session r.0, subst (λ (k : ℕ). k ≤ 1000) r.0 r.1)
row_session a n is = cc

none_choice : (i : ℕ) (b : Bool) → nat_le i 1000 ≡ b → (if b then Some i else None) ≡ None → i ≤ 1000 → ⊥
none_choice i true is none le = cc
none_choice i false is none le = let lt = leb-false i 1000 is in omega (arith, lt, le)

pub row_none : (a : Actor) → session_row a ≡ None → (i : ℕ) → i ≤ 1000 → a ≡ Session i → ⊥
row_none a none i le is = none_choice i (nat_le i 1000) refl (sym (ap session_row is) ∙ none) le

-- an entry of no session in the table
pub walked_outside : (skew : ℕ) (e : Entry) (h : History) (w v : Walk) → ((i : ℕ) → i ≤ 1000 → e.actor ≡ Session i → ⊥) → Walked skew h w → v.sessions ≡ w.sessions → v.failed ≡ w.failed → v.greatest ≡ max w.greatest (unwrap_or e.reading 0) → Walked skew (e ∷ h) v
walked_outside skew e h w v outside walked sessions failed most = record {
  rows = ap length sessions ∙ walked.rows;
  sessions = λ i any lt. subst (λ (d : SessionClocks). Tracks i (e ∷ h) d) (sym (ap (λ (cs : List SessionClocks). get_or cs i any) sessions))
      (tracks_other i e h (get_or w.sessions i any) (not_same i e.actor (outside i (below i lt))) (walked.sessions i any lt));
  greatest = greatest_is e h w.greatest v.greatest walked.greatest most;
  failed = subst (λ (o : Option FailedRead). JudgedFirst skew (e ∷ h) o) (sym failed) (judged_outside skew e h w.failed outside walked.failed);
}

session_is : (i n : ℕ) → Session n ≡ Session i → i ≡ n
session_is i n is = cc

-- an entry of session n
pub walked_own : (skew n : ℕ) (e : Entry) (h : History) (w v : Walk) (d : SessionClocks) → n ≤ 1000 → e.actor ≡ Session n → Walked skew h w → v.sessions ≡ set w.sessions n d → Tracks n (e ∷ h) d → JudgedFirst skew (e ∷ h) v.failed →
    v.greatest ≡ max w.greatest (unwrap_or e.reading 0) → Walked skew (e ∷ h) v
walked_own skew n e h w v d numbered mine walked sessions tracks failed most = record {
  rows = ap length sessions ∙ (length-set w.sessions n d ∙ walked.rows);
  sessions = λ i any lt. subst (λ (c : SessionClocks). Tracks i (e ∷ h) c) (sym (ap (λ (cs : List SessionClocks). get_or cs i any) sessions)) (row i any lt);
  greatest = greatest_is e h w.greatest v.greatest walked.greatest most;
  failed = failed;
}
  where
    row : (i : ℕ) (any : SessionClocks) → i < 1001 → Tracks i (e ∷ h) (get_or (set w.sessions n d) i any)
    row i any lt = elim (eq_cases i n) [
      | inl same ↦
          let size = walked.rows in
          let room : n < length w.sessions = omega (arith, size, numbered) in
          subst (λ (k : ℕ). Tracks k (e ∷ h) (get_or (set w.sessions n d) k any)) (sym same.1) (subst (λ (c : SessionClocks). Tracks n (e ∷ h) c) (sym (get_or-set_same w.sessions n d any room)) tracks)
      | inr other ↦
          subst (λ (c : SessionClocks). Tracks i (e ∷ h) c) (sym (get_or-set_other w.sessions n i d any other.1))
          (tracks_other i e h (get_or w.sessions i any) (not_same i e.actor (λ is. other.1 (session_is i n (sym mine ∙ is)))) (walked.sessions i any lt))
    ]
