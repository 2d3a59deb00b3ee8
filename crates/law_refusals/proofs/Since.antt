-- What was served for a mover since its last start.
use Rattle.std.proofs.Common.{◌≡◌, ℕ, ◌<◌, ◌≤◌, Bool, true, false, ◌&&◌, [], ◌∷◌, Option, length, refl, sym, subst, inl, inr, if◌then◌else◌, arith}
use Rattle.txn_data.specs.declared.actor.Actor.{Actor}
use Rattle.txn_data.specs.declared.append.Append.{Append}
use Rattle.txn_data.specs.declared.request.Request.{Request}
use Rattle.txn_data.specs.declared.reply.Reply.{Reply}
use Rattle.txn_data.specs.declared.event.Event.{Event}
use Rattle.txn_data.specs.declared.event.Event.TheVariants.{Serve}
use Rattle.txn_data.specs.declared.entry.Entry.{Entry}
use Rattle.txn_types.specs.Lists.{Member}
use Rattle.txn_types.specs.History.{History, same_actor, is_start}
use Rattle.txn_types.specs.Reads.{before_start}
use Rattle.txn_types.specs.Cause.{ServedAt, served_by, served_since}
use Rattle.law_machines.specs.Own.{StandsOver}
use Rattle.law_machines.proofs.Basics.{test_cases, same_refl, member_left, member_right}
use Rattle.law_courses.specs.Course.{IsPart, entry_of}

part_length : (low h : History) → IsPart low h → length low ≤ length h
unfolding IsPart
part_length low [] part = subst (λ (l : History). length l ≤ 0) (sym part) (omega arith)
part_length low (e ∷ h) part = elim part [
  | inl is ↦ subst (λ (l : History). length l ≤ length (e ∷ h)) (sym is) (omega arith)
  | inr more ↦ let l : length low ≤ length h = part_length low h more in omega arith
]

stands_length : (e : Entry) (before h : History) → StandsOver e before h → length before < length h
stands_length e before [] stands = absurd stands
stands_length e before (f ∷ h) stands = elim stands [
  | inl here ↦ subst (λ (l : History). length l < length (f ∷ h)) here.1 (omega arith)
  | inr deeper ↦ let l : length before < length h = stands_length e before h deeper in omega arith
]

and_false : (a : Bool) → (a && false) ≡ true → ⊥
and_false true is = cc
and_false false is = cc

-- an entry that serves a request of the mover, later than its last start
module _ (m a : Actor) (reading : Option ℕ) (asked : Request) (r : Reply) (time : Option ℕ) (append : Append) (before : History) where
  abbrev served : ServedAt
  served = record { by = a; reading = reading; asked = asked; reply = r; append = append; before = before }

  abbrev event : Event
  event = Serve m asked r time append

  no_start : (f : Entry) → f ≡ entry_of a reading event → (same_actor f.actor m && is_start f.event) ≡ true → ⊥
  no_start f is test = and_false (same_actor a m) (subst (λ (g : Entry). (same_actor g.actor m && is_start g.event) ≡ true) is test)

  served_here : (f : Entry) (h : History) → f ≡ entry_of a reading event → h ≡ before → Member served (served_by m h f)
  served_here f h is same =
      let base : Member served (if same_actor m m then served ∷ [] else []) = rw (same_refl m) (inl refl) in
      subst (λ (g : History). Member served (served_by m g f)) (sym same) (subst (λ (g : Entry). Member served (served_by m before g)) (sym is) base)

  too_short : (h : History) → IsPart h before → StandsOver (entry_of a reading event) before h → ⊥
  too_short h part stands =
      let one : length h ≤ length before = part_length h before part in
      let two : length before < length h = stands_length (entry_of a reading event) before h stands in
      let wrong : ⊥ = omega arith in absurd wrong

  pub in_since : (h : History) → StandsOver (entry_of a reading event) before h → IsPart (before_start m h) before → Member served (served_since m h)
  unfolding served_since before_start
  in_since [] stands part = absurd stands
  in_since (f ∷ h) stands part = elim (test_cases (same_actor f.actor m && is_start f.event)) [
    | inl starts ↦ elim stands [
      | inl here ↦ absurd (no_start f here.0 starts)
      | inr deeper ↦ absurd (too_short h (rw starts at part) deeper)
    ]
    | inr other ↦ rw other (elim stands [
      | inl here ↦ member_left served (served_by m h f) (served_since m h) (served_here f h here.0 here.1)
      | inr deeper ↦ member_right served (served_by m h f) (served_since m h) (in_since h deeper (rw other at part))
    ])
  ]
