-- Why a log is not read.
use Rattle.std.specs.Prelude.{ℕ}
use Rattle.log_record.specs.declared.record_refusal.RecordRefusal.{RecordRefusal}
use Rattle.log_record.specs.declared.record_refusal.RecordRefusal.TheVariants as record_refusal
use Rattle.docdb_outside.specs.declared.load_fault.LoadFault.{LoadFault}
use Rattle.docdb_outside.specs.declared.load_fault.LoadFault.TheVariants as load_fault
use Rattle.tablet_log.specs.declared.replay_refusal.ReplayRefusal.{ReplayRefusal}
use Rattle.tablet_log.specs.declared.replay_refusal.ReplayRefusal.TheVariants.{LogFault, LogBad, Memory}

-- its store does not load it
abbrev pub refused_by : LoadFault → ReplayRefusal
refused_by load_fault.Failed = LogFault
refused_by load_fault.Memory = Memory

-- a payload does not decode, of the frame at this offset
abbrev pub unread : ℕ → RecordRefusal → ReplayRefusal
unread offset record_refusal.Memory = Memory
unread offset fault = LogBad offset
