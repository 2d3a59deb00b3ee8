-- After the entries of a run, a wrong one is not allowed.
use Rattle.std.proofs.Common.{◌≡◌, ℕ, Bool, true, false, Some, None, Option, inl, inr, arith}
use Rattle.txn_data.specs.declared.actor.Actor.{Actor}
use Rattle.txn_data.specs.declared.reply.Reply.{Reply}
use Rattle.txn_data.specs.declared.reply.Reply.TheVariants as reply
use Rattle.txn_data.specs.declared.event.Event.{Event}
use Rattle.txn_data.specs.declared.event.Event.TheVariants.{Serve}
use Rattle.txn_data.specs.declared.request.Request.TheVariants as request
use Rattle.txn_data.specs.declared.told.Told.{Told}
use Rattle.txn_types.specs.History.{own}
use Rattle.txn_types.specs.Program as program
use Rattle.txn_types.specs.Program.{Turn}
use Rattle.txn_types.specs.Run.{Allowed, machine_answer}
use Rattle.law_witness.specs.Witness.{small, late_at, x, tablet, status, write_request, commit_request, committing, list_request, fate_request, collect_request, apply_request, listing, up_again, collecting, met, learned}
use Rattle.law_witness.specs.Branches.{put_again, listed_first, asking_late, promised, over_request, overwriting}
use Rattle.law_witness.specs.Wrong as wrong
use Rattle.law_witness.specs.Wrong.{RefusedAfter}
use Rattle.worked_cases.proofs.Tables.{tables}
use Rattle.law_witness.proofs.Allowed.{run_of, last_allowed}
use Rattle.law_witness.proofs.Entries.{committing_allowed, listing_allowed, up_again_allowed, collecting_allowed, met_allowed, learned_allowed}
use Rattle.law_witness.proofs.Branches.{put_again_allowed, listed_first_allowed, asking_late_allowed, promised_allowed, overwriting_allowed}

-- the time and the reply of what is served
abbrev time_in : Event → Option ℕ
time_in (Serve from asked r time append) = time
time_in event = None

abbrev pub reply_in : Event → Reply
reply_in (Serve from asked r time append) = r
reply_in event = reply.Begun

same_time : (b c : ℕ) → ◌≡◌ {A = Option ℕ} (Some b) (Some c) → b ≡ c
same_time b c is = cc

same_apply : (k : Actor) (b c : ℕ) → ◌≡◌ {A = Turn Told} (program.Ask k (apply_request b)) (program.Ask k (apply_request c)) → b ≡ c
same_apply k b c is = cc

clock_left_below_not : (fails : Bool) → time_in wrong.clock_left_below.event ≡ (machine_answer small.lease_us status (own status asking_late) fails 1000000 (request.AskFate x late_at)).time → ⊥
unfolding tables
clock_left_below_not true is = let same = same_time _ _ is in omega (arith, same)
clock_left_below_not false is = let same = same_time _ _ is in omega (arith, same)

commit_below_promise_not : (fails : Bool) → time_in wrong.commit_below_promise.event ≡ (machine_answer small.lease_us status (own status promised) fails 1000000 commit_request).time → ⊥
unfolding tables
commit_below_promise_not true is = let same = same_time _ _ is in omega (arith, same)
commit_below_promise_not false is = let same = same_time _ _ is in omega (arith, same)

commit_below_write_not : (fails : Bool) → time_in wrong.commit_below_write.event ≡ (machine_answer small.lease_us status (own status committing) fails 1000000 commit_request).time → ⊥
unfolding tables
commit_below_write_not true is = let same = same_time _ _ is in omega (arith, same)
commit_below_write_not false is = let same = same_time _ _ is in omega (arith, same)

write_after_commit_not : Allowed small put_again wrong.write_after_commit.actor wrong.write_after_commit.reading wrong.write_after_commit.event → ⊥
unfolding tables
write_after_commit_not allowed = let is = allowed.2 in cc

write_below_listing_not : (fails : Bool) → time_in wrong.write_below_listing.event ≡ (machine_answer small.lease_us tablet (own tablet listed_first) fails 1000000 write_request).time → ⊥
unfolding tables
write_below_listing_not true is = let same = same_time _ _ is in omega (arith, same)
write_below_listing_not false is = let same = same_time _ _ is in omega (arith, same)

read_ignores_record_not : (fails : Bool) → reply_in wrong.read_ignores_record.event ≡ (machine_answer small.lease_us tablet (own tablet listing) fails 1000000 list_request).reply → ⊥
unfolding tables
read_ignores_record_not true is = cc
read_ignores_record_not false is = cc

forgotten_too_early_not : (fails : Bool) → reply_in wrong.forgotten_too_early.event ≡ (machine_answer small.lease_us status (own status up_again) fails 3000001 fate_request).reply → ⊥
unfolding tables
forgotten_too_early_not true is = cc
forgotten_too_early_not false is = cc

limit_on_commit_times_not : (fails : Bool) → reply_in wrong.limit_on_commit_times.event ≡ (machine_answer small.lease_us tablet (own tablet collecting) fails 0 collect_request).reply → ⊥
unfolding tables
limit_on_commit_times_not true is = cc
limit_on_commit_times_not false is = cc

read_without_second_round_not : Allowed small met wrong.read_without_second_round.actor wrong.read_without_second_round.reading wrong.read_without_second_round.event → ⊥
unfolding tables
read_without_second_round_not allowed = elim allowed.3 [ inl is ↦ cc | inr memory ↦ let is = memory.0 in cc ]

applied_elsewhen_not : Allowed small learned wrong.applied_elsewhen.actor wrong.applied_elsewhen.reading wrong.applied_elsewhen.event → ⊥
unfolding tables
applied_elsewhen_not allowed = let same = same_apply tablet _ _ allowed.2 in omega (arith, same)

write_over_later_version_not : (fails : Bool) → reply_in wrong.write_over_later_version.event ≡ (machine_answer small.lease_us tablet (own tablet overwriting) fails 3000001 over_request).reply → ⊥
unfolding tables
write_over_later_version_not true is = cc
write_over_later_version_not false is = cc

pub clock_left_below : RefusedAfter asking_late wrong.clock_left_below
clock_left_below = record { before = run_of asking_late asking_late_allowed; refused = λ run. let s = (last_allowed asking_late wrong.clock_left_below run).2 in clock_left_below_not s.fails s.took }

pub commit_below_promise : RefusedAfter promised wrong.commit_below_promise
commit_below_promise = record { before = run_of promised promised_allowed; refused = λ run. let s = (last_allowed promised wrong.commit_below_promise run).2 in commit_below_promise_not s.fails s.took }

pub commit_below_write : RefusedAfter committing wrong.commit_below_write
commit_below_write = record { before = run_of committing committing_allowed; refused = λ run. let s = (last_allowed committing wrong.commit_below_write run).2 in commit_below_write_not s.fails s.took }

pub write_after_commit : RefusedAfter put_again wrong.write_after_commit
write_after_commit = record { before = run_of put_again put_again_allowed; refused = λ run. write_after_commit_not (last_allowed put_again wrong.write_after_commit run) }

pub write_below_listing : RefusedAfter listed_first wrong.write_below_listing
write_below_listing = record { before = run_of listed_first listed_first_allowed; refused = λ run. let s = (last_allowed listed_first wrong.write_below_listing run).2 in write_below_listing_not s.fails s.took }

pub read_ignores_record : RefusedAfter listing wrong.read_ignores_record
read_ignores_record = record { before = run_of listing listing_allowed; refused = λ run. let s = (last_allowed listing wrong.read_ignores_record run).2 in read_ignores_record_not s.fails s.replied }

pub forgotten_too_early : RefusedAfter up_again wrong.forgotten_too_early
forgotten_too_early = record { before = run_of up_again up_again_allowed; refused = λ run. let s = (last_allowed up_again wrong.forgotten_too_early run).2 in forgotten_too_early_not s.fails s.replied }

pub limit_on_commit_times : RefusedAfter collecting wrong.limit_on_commit_times
limit_on_commit_times = record { before = run_of collecting collecting_allowed; refused = λ run. let s = (last_allowed collecting wrong.limit_on_commit_times run).2 in limit_on_commit_times_not s.fails s.replied }

pub read_without_second_round : RefusedAfter met wrong.read_without_second_round
read_without_second_round = record { before = run_of met met_allowed; refused = λ run. read_without_second_round_not (last_allowed met wrong.read_without_second_round run) }

pub applied_elsewhen : RefusedAfter learned wrong.applied_elsewhen
applied_elsewhen = record { before = run_of learned learned_allowed; refused = λ run. applied_elsewhen_not (last_allowed learned wrong.applied_elsewhen run) }

pub write_over_later_version : RefusedAfter overwriting wrong.write_over_later_version
write_over_later_version = record { before = run_of overwriting overwriting_allowed; refused = λ run. let s = (last_allowed overwriting wrong.write_over_later_version run).2 in write_over_later_version_not s.fails s.replied }
