-- A pass since whose Start no session had a command under way settles its tablet.
use Rattle.std.proofs.Common.{◌≡◌, ℕ, Bool, true, false, List, [], ◌∷◌, Option, Some, None, map, filter, length, refl, sym, ◌∙◌, ap, subst, inl, inr}
use Rattle.txn_data.specs.declared.actor.Actor.{Actor}
use Rattle.txn_data.specs.declared.actor.Actor.TheVariants.{Tablet, Status, Applier}
use Rattle.txn_data.specs.declared.append.Append.{Append}
use Rattle.txn_data.specs.declared.command.Command.{Command}
use Rattle.txn_data.specs.declared.command.Command.TheVariants as command
use Rattle.txn_data.specs.declared.config.Config.{Config}
use Rattle.txn_data.specs.declared.found.Found.{Found}
use Rattle.txn_data.specs.declared.request.Request.{Request}
use Rattle.txn_data.specs.declared.request.Request.TheVariants as request
use Rattle.txn_data.specs.declared.reply.Reply.TheVariants as reply
use Rattle.txn_data.specs.declared.told.Told.TheVariants as told
use Rattle.txn_data.specs.declared.event.Event.TheVariants.{Serve, Tell}
use Rattle.txn_data.specs.declared.entry.Entry.{Entry}
use Rattle.txn_types.specs.Lists.{Member, rising}
use Rattle.txn_types.specs.History.{History, own}
use Rattle.txn_types.specs.Clock.{told_only, down_since}
use Rattle.txn_types.specs.Status as status
use Rattle.txn_types.specs.Status.{record_of}
use Rattle.txn_types.specs.Tablet.{Intent, txn_of, founds, home_in, tablet_standing, provisional}
use Rattle.txn_types.specs.PassProgram.{pass_program}
use Rattle.txn_types.specs.Reads.{before_start}
use Rattle.txn_types.specs.Run.{Run, Serves, program_of, mover_at}
use Rattle.txn_types.specs.Session.{Keeps}
use Rattle.txn_types.specs.Settled.{Settled, left_at}
use Rattle.law_machines.specs.Own.{StandsOver, ServesNext}
use Rattle.law_machines.proofs.Basics.{test_cases, member_map, member_rising}
use Rattle.law_machines.proofs.Owns.{serves_at, run_until, stands_trans, own_member}
use Rattle.law_courses.specs.Course.{IsPart, Answer, entry_of, Came}
use Rattle.law_courses.specs.Laws.{CameAbout}
use Rattle.law_courses.proofs.Courses.{told_came_about}
use Rattle.law_courses.proofs.Parts.{part_refl}
use Rattle.law_owners.specs.Owner.{home_of}
use Rattle.law_owners.proofs.Founds.{tablet_homed}
use Rattle.law_owners.proofs.Runs.{requests_homed}
use Rattle.txn_promises.specs.Left.{RestSince}
use Rattle.law_left.specs.Laws.{PassesSettle}
use Rattle.law_left.proofs.Rests.{stands_in}
use Rattle.law_left.proofs.Fates.{is_open_at, IsPendingRecord, record_pending}
use Rattle.law_left.proofs.Numbers.{rising_filter, map_filter, filter_all}
use Rattle.law_left.proofs.Intents.{left_over, nothing_added, open_stays, passing}
use Rattle.law_left.proofs.Goes.{goes_came}
use Rattle.law_left.proofs.Passes.{Seen, ids, Tally, PassIs, pass_goes}

-- ## what a tablet lists

same_intents : (fs gs : List Found) → reply.Intents fs ≡ reply.Intents gs → fs ≡ gs
same_intents fs gs is = cc

listed_standing : (d : Option ℕ) (fs gs : List Found) → reply.Intents fs ≡ (tablet_standing d (told_only (reply.Intents gs))).reply → fs ≡ gs
listed_standing (Some n) fs gs is = cc
listed_standing None fs gs is = same_intents fs gs is

listed_is : (lease k : ℕ) (o : List Entry) (reading : Option ℕ) (fs : List Found) (time : Option ℕ) (append : Append) → Serves lease (Tablet k) o reading request.ListIntents (reply.Intents fs) time append →
    fs ≡ founds (provisional o) (provisional o)
listed_is lease k o reading fs time append served = listed_standing (down_since o) fs (founds (provisional o) (provisional o)) served.replied

ids_of : (ps : List Intent) (ns : List ℕ) → ids (map (λ (x : ℕ). let f : Found = record { txn = x; status = home_in x ps } in f) ns) ≡ ns
ids_of ps [] = refl
ids_of ps (n ∷ ns) = ap (λ (l : List ℕ). n ∷ l) (ids_of ps ns)

ids_found : (ps : List Intent) → ids (founds ps ps) ≡ rising (map txn_of ps)
ids_found ps = ids_of ps (rising (map txn_of ps))

found_of : (ps : List Intent) (p : Intent) → Member p ps → (f : Found) × Member f (founds ps ps) × (f.txn ≡ txn_of p)
found_of ps p m =
    let named : Member (txn_of p) (rising (map txn_of ps)) = member_rising (txn_of p) (map txn_of ps) (member_map txn_of p ps m) in
    (record { txn = txn_of p; status = home_in (txn_of p) ps }, member_map (λ (x : ℕ). let f : Found = record { txn = x; status = home_in x ps } in f) (txn_of p) (rising (map txn_of ps)) named, refl)

-- ## what is left

module _ (config : Config) (h low : History) (k left : ℕ) (run : Run config h) (rest : RestSince config low h) (t : Tally config h low (Applier k) k run rest left) where
  abbrev b : History
  b = t.listed.before

  abbrev part : IsPart b h
  part = stands_in (entry_of (Tablet k) t.listed.reading (Serve (Applier k) request.ListIntents (reply.Intents t.found) t.listed.time t.listed.append)) b h t.listed.stands

  abbrev until : Run config b
  until = run_until config h b (entry_of (Tablet k) t.listed.reading (Serve (Applier k) request.ListIntents (reply.Intents t.found) t.listed.time t.listed.append)) run t.listed.stands

  abbrev test : ℕ → Bool
  test x = is_open_at config h x

  found_is : t.found ≡ founds (left_over k b) (left_over k b)
  found_is =
      let e = entry_of (Tablet k) t.listed.reading (Serve (Applier k) request.ListIntents (reply.Intents t.found) t.listed.time t.listed.append) in
      let served : ServesNext config.lease_us (Tablet k) (own (Tablet k) b) t.listed.reading e.event = serves_at config e b h run.1 t.listed.stands in
      listed_is config.lease_us k (own (Tablet k) b) t.listed.reading t.found t.listed.time t.listed.append served

  all_open : (p : Intent) → Member p (left_over k h) → is_open_at config h (txn_of p) ≡ true
  all_open p m = elim (test_cases (is_open_at config h (txn_of p))) [
    | inl holds ↦ holds
    | inr fails ↦
        let f = found_of (left_over k b) p (nothing_added config h low b k run until rest t.listed.later part p m) in
        let here : Member f.0 t.found = subst (λ (l : List Found). Member f.0 l) (sym found_is) f.1 in
        absurd (t.gone f.0 here (subst (λ (x : ℕ). is_open_at config h x ≡ false) (sym f.2) fails) p m (sym f.2))
  ]

  left_is : left_over k h ≡ passing (is_open_at config h) (left_over k b)
  left_is = sym (filter_all (λ (p : Intent). is_open_at config h (txn_of p)) (left_over k h) all_open) ∙ open_stays config h low b k run until rest t.listed.later part

  numbers_are : rising (map txn_of (left_over k h)) ≡ filter (is_open_at config h) (ids t.found)
  numbers_are =
      ap (λ (ps : List Intent). rising (map txn_of ps)) left_is
      ∙ (ap rising (map_filter (is_open_at config h) txn_of (left_over k b))
      ∙ (rising_filter (is_open_at config h) (map txn_of (left_over k b))
      ∙ ap (λ (l : List ℕ). filter (is_open_at config h) l) (sym (ap ids found_is ∙ ids_found (left_over k b)))))

  is_pending : (p : Intent) → Member p (left_at k h) → (priority : ℕ) × (record_of p.meta.txn (own (Status p.meta.status) h) ≡ status.Pending priority)
  is_pending p m =
      let home : p.meta.status ≡ home_of config p.meta.txn = tablet_homed config (own (Tablet k) h) (λ e member. requests_homed config h e run (own_member e (Tablet k) h member)) p m in
      subst (λ (j : ℕ). IsPendingRecord (record_of p.meta.txn (own (Status j) h))) (sym home) (record_pending config h p.meta.txn run (all_open p m))

  settled : Settled h k left
  settled = record { pending = is_pending; number = ap (λ (l : List ℕ). length l) numbers_are ∙ sym t.number }

-- ## from what it was told

tell_not : (config : Config) (h low before : History) (k : ℕ) (e : Entry) (to : Actor) (asked : Request) (a : Answer (Applier k) to asked (e ∷ before) low) → StandsOver e before h → Seen (Applier k) h low to asked a.reply
tell_not config h low before k e to asked a stands = record {
  reading = a.reading;
  time = a.time;
  append = a.append;
  before = a.before;
  stands = in_all (entry_of to a.reading (Serve (Applier k) asked a.reply a.time a.append)) a.before a.stands;
  later = a.later;
}
  where
    in_all : (f : Entry) (c : History) → StandsOver f c (e ∷ before) → StandsOver f c h
    in_all f c there = elim there [
      | inl here ↦ subst (λ (g : Entry). StandsOver g c h) here.0 (subst (λ (l : History). StandsOver e l h) here.1 stands)
      | inr deeper ↦ stands_trans f e c before h deeper stands
    ]

tally_of : (config : Config) (h low before : History) (k : ℕ) (e : Entry) (keeps : Keeps) (reading : Option ℕ) (o : Option Command) (applied cleaned left : ℕ) (run : Run config h) (rest : RestSince config low h) → StandsOver e before h →
    CameAbout config (Applier k) (e ∷ before) low keeps reading o (told.Passed applied cleaned left) → Tally config h low (Applier k) k run rest left
tally_of config h low before k e keeps reading None applied cleaned left run rest stands came = absurd came
tally_of config h low before k e keeps reading (Some line) applied cleaned left run rest stands came =
    let is_apply : line ≡ command.Apply k = came.0.2.1 in
    elim came.1 [
      | inl way ↦ goes_came (λ a asked r. Seen (Applier k) h low a asked r) (PassIs config h low (Applier k) k run rest) (Applier k) (e ∷ before) low reading low None (pass_program k) (told.Passed applied cleaned left)
          (λ to asked a. tell_not config h low before k e to asked a stands) (part_refl low) (pass_goes config h low (Applier k) k run rest)
          (subst (λ (l : Command). Came (Applier k) (e ∷ before) reading low None (program_of config (Applier k) keeps l) (told.Passed applied cleaned left)) is_apply way)
      | inr memory ↦ cc
    ]

pub passes_settle : PassesSettle
passes_settle config h before k reading number applied cleaned left run stands rest =
    let e : Entry = record { actor = Applier k; reading = reading; event = Tell number (told.Passed applied cleaned left) } in
    let s = mover_at config (Applier k) before in
    let low = before_start (Applier k) before in
    settled config h low k left run rest (tally_of config h low before k e s.keeps s.reading s.line applied cleaned left run rest stands (told_came_about config h before e run stands))
