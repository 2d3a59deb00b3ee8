-- After the entries of a run, a refusal or a tell with another cause is not allowed.
use Rattle.std.proofs.Common.{◌≡◌, ℕ, zero, suc, Bool, true, false, List, [], ◌∷◌, refl, inl, inr, arith}
use Rattle.std.specs.Prelude.{drop}
use Rattle.txn_data.specs.declared.entry.Entry.{Entry}
use Rattle.txn_data.specs.declared.refusal.Refusal.TheVariants as refusal
use Rattle.txn_data.specs.declared.reply.Reply.{Reply}
use Rattle.txn_data.specs.declared.reply.Reply.TheVariants as reply
use Rattle.txn_data.specs.declared.row.Row.{Row}
use Rattle.txn_data.specs.declared.told.Told.{Told}
use Rattle.txn_data.specs.declared.told.Told.TheVariants as told
use Rattle.txn_data.specs.declared.told_refusal.ToldRefusal.{ToldRefusal}
use Rattle.txn_data.specs.declared.told_refusal.ToldRefusal.TheVariants as why
use Rattle.txn_types.specs.History.{History, own}
use Rattle.txn_types.specs.Program as program
use Rattle.txn_types.specs.Program.{Turn}
use Rattle.txn_types.specs.Run.{Allowed, Run, Steps, machine_answer}
use Rattle.worked_cases.specs.Simulated.{no_fault, all_done}
use Rattle.worked_cases.proofs.Tables.{tables}
use Rattle.law_witness.specs.Scripts.{run_of, lost}
use Rattle.law_witness.specs.Witness.{small, begun_at, doc, tablet, status, write_request}
use Rattle.law_refusal_witness.specs.Refused.{step}
use Rattle.law_refusal_witness.specs.WrongRefusals as wrong
use Rattle.law_refusal_witness.specs.WrongRefusals.{no_value, strict_alone, nothing_met, over_aborted, asks_over_aborted, over_aborted_request, equals, equals_request, resolving, over_three, asks_over_three, two_leases, in_second_lease, put_after_down, put_heard, read_while_down, down_heard, WrongRefusalsAreRefused}
use Rattle.law_witness.proofs.Allowed.{last_allowed}
use Rattle.law_witness.proofs.Endings.{run_earlier}
use Rattle.law_witness.proofs.Simulated.{done_is_run}
use Rattle.law_witness.proofs.Wrong.{reply_in}

run_dropped : (n : ℕ) (h : History) → Run small h → Run small (drop n h)
unfolding Steps
run_dropped zero h run = run
run_dropped (suc n) [] run = run
run_dropped (suc n) (e ∷ h) run = run_dropped n h (run.0, run.1.0)

-- what is told in the one is not told in the other
same_end : (b c : ℕ) → ◌≡◌ {A = Turn Told} (program.Tell (told.Refused (why.LeaseHeld tablet b))) (program.Tell (told.Refused (why.LeaseHeld tablet c))) → b ≡ c
same_end b c is = cc

same_overlap : (b c : ℕ) → ◌≡◌ {A = Reply} (reply.Refused (refusal.Overlap b)) (reply.Refused (refusal.Overlap c)) → b ≡ c
same_overlap b c is = cc

values_or_refused : (c : ℕ) (rows : List Row) (cause : ToldRefusal) → ◌≡◌ {A = Turn Told} (program.Tell (told.Values c 0 rows)) (program.Tell (told.Refused cause)) → ⊥
values_or_refused c rows cause is = cc

refused_or_values : (c : ℕ) (rows : List Row) (cause : ToldRefusal) → ◌≡◌ {A = Turn Told} (program.Tell (told.Refused cause)) (program.Tell (told.Values c 0 rows)) → ⊥
refused_or_values c rows cause is = cc

written_or_refused : (c : ℕ) (cause : ToldRefusal) → ◌≡◌ {A = Turn Told} (program.Tell (told.Written c)) (program.Tell (told.Refused cause)) → ⊥
written_or_refused c cause is = cc

abbrev not_allowed : Entry → History → Type 0
not_allowed e h = Allowed small h e.actor e.reading e.event → ⊥

restart_not : not_allowed wrong.restart_for_nothing nothing_met
unfolding tables
restart_not allowed = elim allowed.3 [ inl is ↦ values_or_refused begun_at no_value (why.Restart begun_at doc) is | inr memory ↦ let is = memory.0 in cc ]

in_doubt_not : not_allowed wrong.in_doubt_after_down put_heard
unfolding tables
in_doubt_not allowed = elim allowed.3 [ inl is ↦ written_or_refused (step 1) why.InDoubt is | inr memory ↦ let is = memory.0 in cc ]

values_not : not_allowed wrong.values_while_down down_heard
unfolding tables
values_not allowed = elim allowed.3 [ inl is ↦ refused_or_values begun_at no_value (why.Down status 2) is | inr memory ↦ let is = memory.0 in cc ]

end_not : not_allowed wrong.end_of_first_lease in_second_lease
unfolding tables
end_not allowed = elim allowed.3 [
  | inl is ↦ let same = same_end 5000001 3000000 is in omega (arith, same)
  | inr memory ↦ let is = memory.0 in cc
]

conflict_not : (fails : Bool) → reply_in wrong.conflict_with_aborted.event ≡ (machine_answer small.lease_us tablet (own tablet asks_over_aborted) fails 1000000 over_aborted_request).reply → ⊥
unfolding tables
conflict_not true is = cc
conflict_not false is = cc

aborted_not : (fails : Bool) → reply_in wrong.aborted_by_equal.event ≡ (machine_answer small.lease_us status (own status resolving) fails 0 equals_request).reply → ⊥
unfolding tables
aborted_not true is = cc
aborted_not false is = cc

overlap_not : (fails : Bool) → reply_in wrong.overlap_below_greatest.event ≡ (machine_answer small.lease_us tablet (own tablet asks_over_three) fails 1000000 write_request).reply → ⊥
unfolding tables
overlap_not true is = let same = same_overlap (step 1) (step 2) is in omega (arith, same)
overlap_not false is = let same = same_overlap (step 1) (step 2) is in omega (arith, same)

pub wrong_refusals_refused : WrongRefusalsAreRefused
unfolding tables
wrong_refusals_refused = record {
  restart_for_nothing = record {
    before = run_earlier (run_of small strict_alone) (done_is_run small no_fault strict_alone refl refl);
    refused = λ run. restart_not (last_allowed nothing_met wrong.restart_for_nothing run);
  };
  conflict_with_aborted = record {
    in_flight = refl;
    answer = record {
      before = run_dropped 3 (run_of small over_aborted) (done_is_run small no_fault over_aborted refl refl);
      refused = λ run. let s = (last_allowed asks_over_aborted wrong.conflict_with_aborted run).2 in conflict_not s.fails s.replied;
    };
  };
  aborted_by_equal = record {
    in_flight = refl;
    answer = record {
      before = run_dropped 6 (run_of small equals) (done_is_run small no_fault equals refl refl);
      refused = λ run. let s = (last_allowed resolving wrong.aborted_by_equal run).2 in aborted_not s.fails s.replied;
    };
  };
  overlap_below_greatest = record {
    in_flight = refl;
    answer = record {
      before = run_dropped 6 (run_of small over_three) (done_is_run small no_fault over_three refl refl);
      refused = λ run. let s = (last_allowed asks_over_three wrong.overlap_below_greatest run).2 in overlap_not s.fails s.replied;
    };
  };
  end_of_first_lease = record {
    before = run_earlier (run_of small two_leases) (done_is_run small no_fault two_leases refl refl);
    refused = λ run. end_not (last_allowed in_second_lease wrong.end_of_first_lease run);
  };
  in_doubt_after_down = record {
    before = run_earlier (all_done small lost put_after_down []) (done_is_run small lost put_after_down refl refl);
    refused = λ run. in_doubt_not (last_allowed put_heard wrong.in_doubt_after_down run);
  };
  values_while_down = record {
    before = run_earlier (all_done small lost read_while_down []) (done_is_run small lost read_while_down refl refl);
    refused = λ run. values_not (last_allowed down_heard wrong.values_while_down run);
  };
}
