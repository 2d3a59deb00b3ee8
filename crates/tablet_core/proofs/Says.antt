-- What the table says where something is decided.
use Rattle.std.proofs.Common.{◌≡◌, ℕ, Bool, ◌||◌, List, Option, Some, None, Result, Ok, refl, sym, ap, ◌∙◌}
use Rattle.std.specs.Prelude.{is_some, option_to_list}
use Rattle.doc_path.specs.Path.{Parts}
use Rattle.txn_data.specs.Time.{takes_time}
use Rattle.txn_data.specs.declared.request.Request.{Request}
use Rattle.txn_data.specs.declared.request.Request.TheVariants as request
use Rattle.txn_data.specs.declared.reply.Reply.{Reply}
use Rattle.txn_data.specs.declared.reply.Reply.TheVariants as reply
use Rattle.txn_data.specs.declared.version.Version.{Version}
use Rattle.txn_types.specs.History.{History}
use Rattle.txn_types.specs.Lists.{or_zero}
use Rattle.txn_types.specs.Run.{ReadingFits}
use Rattle.txn_types.specs.Clock.{Answer, told_only, logged, timed, down_since}
use Rattle.txn_types.specs.Tablet.{provisional, versions, write_answer, tablet_up, tablet_standing, tablet_answer}
use Rattle.safe_time.specs.declared.step.Step.{Step}
use Rattle.safe_time.specs.declared.clock_refusal.ClockRefusal.{ClockRefusal}
use Rattle.safe_time.specs.ActorClock.{ClockState, kind_of, served, clock_of, answer_over}
use Rattle.log_record.specs.declared.log_record.LogRecord.{LogRecord}
use Rattle.tablet_log.specs.Entries.{own_record}
use Rattle.conflict_matrix.specs.declared.write_decision.WriteDecision.TheVariants as write_decision
use Rattle.conflict_matrix.specs.Decide.{decision}
use Rattle.leased_log.specs.Decides.{IsPlain, IsTold}
use Rattle.tablet_records.specs.Keeps.{Keeps, IsRead}
use Rattle.tablet_core.specs.Stands.{CoreState, Stands}
use Rattle.tablet_core.specs.Decisions.{Says, IsLoggable, IsDecided}

-- what the law on the clock of the tables says
abbrev pub Timed : Type 0
Timed = (lease : ℕ) (h : History) (fails : Bool) (tick : Bool) (floor reading : ℕ) (records : Bool) (r : ℕ → Reply)
    → timed lease h fails (kind_of tick) floor reading records r ≡ answer_over fails records r (served (clock_of lease h) reading floor tick)

plain_answer : (lease : ℕ) (h : History) (fails : Bool) (reading : ℕ) (asked : Request) → IsPlain asked
    → tablet_answer lease h fails reading asked ≡ tablet_standing (down_since h) (tablet_up lease h fails reading asked)
plain_answer lease h fails reading request.Restart plain = absurd plain
plain_answer lease h fails reading _ plain = refl

up_answer : (lease : ℕ) (h : History) (fails : Bool) (reading : ℕ) (asked : Request) → IsPlain asked → down_since h ≡ None
    → tablet_answer lease h fails reading asked ≡ tablet_up lease h fails reading asked
up_answer lease h fails reading asked plain up =
    plain_answer lease h fails reading asked plain ∙ ap (λ (d : Option ℕ). tablet_standing d (tablet_up lease h fails reading asked)) up

-- ---- a write that meets others

pub goes : (c o : Option ℕ) (done : Answer) → write_decision.Go ≡ decision c o → write_answer c o done ≡ done
goes (Some y) o done e = cc
goes None (Some at) done e = cc
goes None None done e = refl

pub read_told : (r : Reply) → IsRead r → IsTold r
read_told (reply.Met at path) read = tt
read_told (reply.Collected rows) read = tt
read_told _ read = absurd read

module _ {V : Type 0} (holds : V → List Version → Type 0) (s : CoreState V) where
  up_of : (bytes : List ℕ) (faults : ℕ) (h : History) → Stands holds s bytes faults h → s.log.down ≡ None → down_since h ≡ None
  up_of bytes faults h st down = sym st.log.down ∙ down

  -- the reply is told, no time is taken and nothing is logged
  tells : (reading : Option ℕ) (asked : Request) (r : Reply) → IsPlain asked → IsTold r → ReadingFits (takes_time asked) reading
      → ((h : History) → Keeps holds s.records (provisional h) (versions h) → (fails : Bool) → tablet_up s.log.clock.lease h fails (or_zero reading) asked ≡ told_only r)
      → s.log.down ≡ None → Says holds s reading asked (record { reply = r; step = None; own = None })
  tells reading asked r plain told fits up down = record {
    told = told;
    decides = λ bytes faults h st. record {
      plain = plain;
      told = told;
      fits = fits;
      says = λ fails. up_answer s.log.clock.lease h fails (or_zero reading) asked plain (up_of bytes faults h st down)
          ∙ up h (st.records (up_of bytes faults h st down)) fails;
      step = tt;
      own = λ e. cc;
    };
  }

  module _ (law : Timed) (reading floor : ℕ) (tick : Bool) where
    served_is : (bytes : List ℕ) (faults : ℕ) (h : History) → Stands holds s bytes faults h → s.log.down ≡ None → (got : Result Step ClockRefusal)
        → served s.log.clock reading floor tick ≡ got → served (clock_of s.log.clock.lease h) reading floor tick ≡ got
    served_is bytes faults h st down got is = ap (λ (c : ClockState). served c reading floor tick) (sym (st.log.clock (up_of bytes faults h st down))) ∙ is

    timed_is : (bytes : List ℕ) (faults : ℕ) (h : History) → Stands holds s bytes faults h → s.log.down ≡ None → (fails : Bool) (records : Bool) (r : ℕ → Reply) (got : Result Step ClockRefusal)
        → served s.log.clock reading floor tick ≡ got
        → timed s.log.clock.lease h fails (kind_of tick) floor reading records r ≡ answer_over fails records r got
    timed_is bytes faults h st down fails records r got is =
        law s.log.clock.lease h fails tick floor reading records r ∙ ap (answer_over fails records r) (served_is bytes faults h st down got is)

    -- the time is given, with a record of its own or without
    steps : (step : Step) → served s.log.clock reading floor tick ≡ Ok step → (asked : Request) (own : Option LogRecord) (r : History → ℕ → Reply) (told : Reply) → IsPlain asked → IsTold told
        → ReadingFits (takes_time asked) (Some reading) → own_record asked (Some step.time) ≡ option_to_list own
        → ((h : History) → Keeps holds s.records (provisional h) (versions h) → r h step.time ≡ told)
        → ((h : History) → Keeps holds s.records (provisional h) (versions h) → (fails : Bool) → tablet_up s.log.clock.lease h fails reading asked ≡ timed s.log.clock.lease h fails (kind_of tick) floor reading (is_some own) (r h))
        → s.log.down ≡ None → Says holds s (Some reading) asked (record { reply = told; step = Some step; own = own })
    steps step is asked own r told plain is_told fits logs replies up down = record {
      told = is_told;
      decides = λ bytes faults h st. record {
        plain = plain;
        told = is_told;
        fits = fits;
        says = λ fails. up_answer s.log.clock.lease h fails reading asked plain (up_of bytes faults h st down)
            ∙ up h (st.records (up_of bytes faults h st down)) fails
            ∙ timed_is bytes faults h st down fails (is_some own) (r h) (Ok step) is
            ∙ ap (λ (q : Reply). logged fails (is_some own || is_some step.lease) (Some step.time) q) (replies h (st.records (up_of bytes faults h st down)));
        step = (reading, floor, tick, served_is bytes faults h st down (Ok step) is);
        own = λ e. logs;
      };
    }

  -- ---- decisions

  pub told_decided : (fits : Parts → Type 0) (reading : Option ℕ) (asked : Request) (r : Reply) → IsPlain asked → IsTold r → ReadingFits (takes_time asked) reading
      → ((h : History) → Keeps holds s.records (provisional h) (versions h) → (fails : Bool) → tablet_up s.log.clock.lease h fails (or_zero reading) asked ≡ told_only r)
      → s.log.down ≡ None → IsDecided holds fits s reading asked (Ok (record { reply = r; step = None; own = None }))
  told_decided fits reading asked r plain told good up down =
      record { loggable = record { spelled = tt; fit = tt }; says = tells reading asked r plain told good up down; undecided = tt }

  module _ (fits : Parts → Type 0) (law : Timed) (reading floor : ℕ) (tick : Bool) where
    pub stepped_decided : (step : Step) → served s.log.clock reading floor tick ≡ Ok step → (asked : Request) (own : Option LogRecord) (r : History → ℕ → Reply) (told : Reply) → IsLoggable fits (record { reply = told; step = Some step; own = own }) → IsPlain asked → IsTold told
        → ReadingFits (takes_time asked) (Some reading) → own_record asked (Some step.time) ≡ option_to_list own
        → ((h : History) → Keeps holds s.records (provisional h) (versions h) → r h step.time ≡ told)
        → ((h : History) → Keeps holds s.records (provisional h) (versions h) → (fails : Bool) → tablet_up s.log.clock.lease h fails reading asked ≡ timed s.log.clock.lease h fails (kind_of tick) floor reading (is_some own) (r h))
        → s.log.down ≡ None → IsDecided holds fits s (Some reading) asked (Ok (record { reply = told; step = Some step; own = own }))
    stepped_decided step is asked own r told loggable plain is_told good logs replies up down =
        record { loggable = loggable; says = steps law reading floor tick step is asked own r told plain is_told good logs replies up down; undecided = tt }
