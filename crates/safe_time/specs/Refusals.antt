-- Why a clock gives no time, where its rule gives none.
use Rattle.hybrid_time.specs.declared.time_refusal.TimeRefusal.{TimeRefusal}
use Rattle.hybrid_time.specs.declared.time_refusal.TimeRefusal.TheVariants as time_refusal
use Rattle.safe_time.specs.declared.clock_refusal.ClockRefusal.{ClockRefusal}
use Rattle.safe_time.specs.declared.clock_refusal.ClockRefusal.TheVariants.{ClockRange, ClockFull}

abbrev pub refused_by : TimeRefusal → ClockRefusal
refused_by (time_refusal.ClockRange reading) = ClockRange reading
refused_by (time_refusal.ClockFull at) = ClockFull at
