-- What a pass that was told Passed heard, and what is left by it.
use Rattle.std.proofs.Common.{◌≡◌, ℕ, ◌+◌, Bool, true, false, List, [], ◌∷◌, Option, map, filter, length, refl, sym, subst, inl, inr, arith}
use Rattle.txn_data.specs.declared.actor.Actor.{Actor}
use Rattle.txn_data.specs.declared.actor.Actor.TheVariants.{Tablet, Status}
use Rattle.txn_data.specs.declared.append.Append.{Append}
use Rattle.txn_data.specs.declared.config.Config.{Config}
use Rattle.txn_data.specs.declared.fate.Fate.{Fate}
use Rattle.txn_data.specs.declared.fate.Fate.TheVariants as fate
use Rattle.txn_data.specs.declared.found.Found.{Found}
use Rattle.txn_data.specs.declared.request.Request.{Request}
use Rattle.txn_data.specs.declared.request.Request.TheVariants as request
use Rattle.txn_data.specs.declared.reply.Reply.{Reply}
use Rattle.txn_data.specs.declared.reply.Reply.TheVariants as reply
use Rattle.txn_data.specs.declared.told.Told.{Told}
use Rattle.txn_data.specs.declared.told.Told.TheVariants as told
use Rattle.txn_data.specs.declared.event.Event.TheVariants.{Serve}
use Rattle.txn_types.specs.Lists.{Member}
use Rattle.txn_types.specs.History.{History}
use Rattle.txn_types.specs.PassProgram.{Counts, apply_then, clean_then, pass_over, pass_program}
use Rattle.txn_types.specs.Run.{Run}
use Rattle.law_machines.specs.Own.{StandsOver}
use Rattle.law_machines.proofs.Owns.{stands_member}
use Rattle.law_courses.specs.Course.{IsPart, entry_of}
use Rattle.law_intents.specs.Laws.{NoneAt}
use Rattle.law_intents.proofs.Cleared.{applied_stays}
use Rattle.txn_promises.specs.Left.{RestSince}
use Rattle.law_left.proofs.Fates.{is_open_at, is_pending_fate, asked_open}
use Rattle.law_left.proofs.Cleared.{cleaned_none}
use Rattle.law_left.proofs.Goes.{Goes, goes_on}

-- an answer to the mover, later than this front part of the history
pub record Seen (m : Actor) (h low : History) (a : Actor) (asked : Request) (r : Reply) : Type 0 where
  pub reading : Option ℕ
  pub time : Option ℕ
  pub append : Append
  pub before : History
  pub stands : StandsOver (entry_of a reading (Serve m asked r time append)) before h
  pub later : IsPart low before

abbrev pub ids : List Found → List ℕ
ids fs = map (λ (f : Found). f.txn) fs

abbrev one_if : Bool → ℕ
one_if true = 1
one_if false = 0

module _ (config : Config) (h low : History) (m : Actor) (k : ℕ) (run : Run config h) (rest : RestSince config low h) where
  abbrev test : ℕ → Bool
  test x = is_open_at config h x

  -- of what was found, all that is not open in the end has nothing at the tablet
  abbrev pub AreGone : List Found → Type 0
  AreGone fs = (f : Found) → Member f fs → is_open_at config h f.txn ≡ false → NoneAt h k f.txn

  abbrev OverIs : Counts → List Found → Told → Type 0
  OverIs n fs (told.Passed applied cleaned left) = AreGone fs × (left ≡ n.left + length (filter (is_open_at config h) (ids fs)))
  OverIs n fs t = Unit {0}

  count_first : (b : Bool) (x : ℕ) (ns : List ℕ) → is_open_at config h x ≡ b → length (filter (is_open_at config h) (x ∷ ns)) ≡ one_if b + length (filter (is_open_at config h) ns)
  count_first true x ns is = rw is (omega arith)
  count_first false x ns is = rw is (omega arith)

  -- one more that was found
  over_more : (b : Bool) (n next : Counts) (f : Found) (fs : List Found) → is_open_at config h f.txn ≡ b → next.left ≡ n.left + one_if b → (is_open_at config h f.txn ≡ false → NoneAt h k f.txn) → (t : Told) → OverIs next fs t → OverIs n (f ∷ fs) t
  over_more b n next f fs is more gone (told.Passed applied cleaned left) over =
      let count = count_first b f.txn (ids fs) is in
      let rest_is = over.1 in (
        λ g m. elim m [
          | inl here ↦ subst (λ (e : Found). is_open_at config h e.txn ≡ false → NoneAt h k e.txn) (sym here) gone
          | inr later ↦ over.0 g later
        ],
        omega (arith, more, count, rest_is),
      )
  over_more b n next f fs is more gone t over = tt

  abbrev Heard : Actor → Request → Reply → Type 0
  Heard a asked r = Seen m h low a asked r

  fate_is : (f : Found) (told_fate : Fate) → Heard (Status f.status) (request.AskFate f.txn 0) (reply.FateIs told_fate) → is_open_at config h f.txn ≡ is_pending_fate told_fate
  fate_is f told_fate s = asked_open config h low s.before f.status f.txn 0 m s.reading told_fate s.time s.append run rest s.later s.stands

  none_applied : (x c : ℕ) → Heard (Tablet k) (request.Apply x c) reply.AppliedHere → NoneAt h k x
  none_applied x c s = applied_stays config h (entry_of (Tablet k) s.reading (Serve m (request.Apply x c) reply.AppliedHere s.time s.append)) x k run (stands_member _ s.before h s.stands) refl refl

  none_cleaned : (x : ℕ) → Heard (Tablet k) (request.Clean x) reply.Cleaned → NoneAt h k x
  none_cleaned x s = cleaned_none config h low s.before k x m s.reading s.time s.append run rest s.later s.stands

  -- a transaction that is not open is applied and noted, or cleaned
  apply_goes : (n next : Counts) (f : Found) (c : ℕ) (fs : List Found) → is_open_at config h f.txn ≡ false → next.left ≡ n.left → Goes Heard (OverIs next fs) (pass_over k next fs) → Goes Heard (OverIs n (f ∷ fs)) (apply_then k f c (pass_over k next fs))
  apply_goes n next f c fs is same goes = (
    elim [
      | reply.AppliedHere ↦ λ s. (
        elim [
          | reply.Noted ↦ λ noted. goes_on Heard (OverIs next fs) (OverIs n (f ∷ fs)) (over_more false n next f fs is (omega (arith, same)) (λ shut. none_applied f.txn c s)) (pass_over k next fs) goes
          | reply.Refused why ↦ λ noted. tt
          | _ ↦ λ noted. tt
        ],
        λ never. cc,
        tt,
      )
      | reply.Refused why ↦ λ s. tt
      | _ ↦ λ s. tt
    ],
    λ never. cc,
    tt,
  )

  clean_goes : (n next : Counts) (f : Found) (fs : List Found) → is_open_at config h f.txn ≡ false → next.left ≡ n.left → Goes Heard (OverIs next fs) (pass_over k next fs) → Goes Heard (OverIs n (f ∷ fs)) (clean_then k f (pass_over k next fs))
  clean_goes n next f fs is same goes = (
    elim [
      | reply.Cleaned ↦ λ s. goes_on Heard (OverIs next fs) (OverIs n (f ∷ fs)) (over_more false n next f fs is (omega (arith, same)) (λ shut. none_cleaned f.txn s)) (pass_over k next fs) goes
      | reply.Refused why ↦ λ s. tt
      | _ ↦ λ s. tt
    ],
    λ never. cc,
    tt,
  )

  over_goes : (n : Counts) (fs : List Found) → Goes Heard (OverIs n fs) (pass_over k n fs)
  unfolding pass_over
  over_goes n [] = (λ f none. absurd none, omega arith)
  over_goes n (f ∷ fs) = (
    elim [
      | reply.FateIs fate.Pending ↦ λ s.
          let next : Counts = record n { left = n.left + 1 } in
          goes_on Heard (OverIs next fs) (OverIs n (f ∷ fs)) (over_more true n next f fs (fate_is f fate.Pending s) refl (λ shut. let up = fate_is f fate.Pending s in cc)) (pass_over k next fs) (over_goes next fs)
      | reply.FateIs (fate.Committed c) ↦ λ s. let next : Counts = record n { applied = n.applied + 1 } in apply_goes n next f c fs (fate_is f (fate.Committed c) s) refl (over_goes next fs)
      | reply.FateIs fate.Aborted ↦ λ s. let next : Counts = record n { cleaned = n.cleaned + 1 } in clean_goes n next f fs (fate_is f fate.Aborted s) refl (over_goes next fs)
      | reply.FateIs fate.Absent ↦ λ s. let next : Counts = record n { cleaned = n.cleaned + 1 } in clean_goes n next f fs (fate_is f fate.Absent s) refl (over_goes next fs)
      | reply.Refused why ↦ λ s. tt
      | _ ↦ λ s. tt
    ],
    λ never. cc,
    tt,
  )

  -- what a pass that was told Passed found, and what became of it
  pub record Tally (left : ℕ) : Type 0 where
    pub found : List Found
    pub listed : Seen m h low (Tablet k) request.ListIntents (reply.Intents found)
    pub gone : AreGone found
    pub number : left ≡ length (filter (is_open_at config h) (ids found))

  abbrev pub PassIs : Told → Type 0
  PassIs (told.Passed applied cleaned left) = Tally left
  PassIs t = Unit {0}

  tally : (found : List Found) → Seen m h low (Tablet k) request.ListIntents (reply.Intents found) → (t : Told) → OverIs (record { applied = 0; cleaned = 0; left = 0 }) found t → PassIs t
  tally found s (told.Passed applied cleaned left) over = record { found = found; listed = s; gone = over.0; number = let is = over.1 in omega (arith, is) }
  tally found s t over = tt

  pub pass_goes : Goes Heard PassIs (pass_program k)
  pass_goes = (
    elim [
      | reply.Intents found ↦ λ s. goes_on Heard (OverIs (record { applied = 0; cleaned = 0; left = 0 }) found) PassIs (tally found s) (pass_over k (record { applied = 0; cleaned = 0; left = 0 }) found)
          (over_goes (record { applied = 0; cleaned = 0; left = 0 }) found)
      | reply.Refused why ↦ λ s. tt
      | _ ↦ λ s. tt
    ],
    λ never. cc,
    tt,
  )
