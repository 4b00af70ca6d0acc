-- What each case that the code answers stands for.
use Rattle.std.specs.Prelude.{ℕ, ◌<◌, Option, Some, None}
use Rattle.std.proofs.Math.Option as math
use Rattle.std.proofs.Math.Option.{none, some}
use Rattle.machine.specs.Step.{Step, Body, start, rfork, name, sched, yield, sleep, tsleep, wakeup, qlock, canqlock, qunlock, cond, clock, tadd, tdel, intr, due, exit, wait}
use Rattle.decode.specs.declared.TsleepFields.{TsleepFields}
use Rattle.decode.specs.declared.TaddFields.{TaddFields}
use Rattle.decode.specs.declared.Call.{Call}
use Rattle.decode.specs.declared.Call.TheVariants.{Start, Rfork, Name, Sched, Yield, Sleep, Tsleep, Wakeup, Qlock, Canqlock, Qunlock, Cond, Clock, Tadd, Tdel, Intr, Due, Exit, Wait}
use Rattle.decode.specs.declared.Decoded.{Decoded}

-- The steps of many fields.
abbrev pub tsleep_of : TsleepFields → Body
tsleep_of f = tsleep f.rendez f.condition f.seconds f.nanoseconds f.reading

abbrev pub tadd_of : TaddFields → Body
tadd_of f = tadd f.timer f.kind f.seconds f.nanoseconds f.rendez f.reading

-- What a case asks.
unfoldable pub body_of : Call → Body
body_of (Start m) = start m
body_of (Rfork f m) = rfork f m
body_of (Name bytes) = name bytes.now
body_of Sched = sched
body_of Yield = yield
body_of (Sleep r c) = sleep r c
body_of (Tsleep f) = tsleep_of f
body_of (Wakeup r) = wakeup r
body_of (Qlock q) = qlock q
body_of (Canqlock q) = canqlock q
body_of (Qunlock q) = qunlock q
body_of (Cond c v) = cond c v
body_of (Clock now) = clock now
body_of (Tadd f) = tadd_of f
body_of (Tdel t) = tdel t
body_of (Intr now) = intr now
body_of Due = due
body_of (Exit status) = exit status.now
body_of Wait = wait

-- The step that the code's answer stands for; none where the bytes are no step.
unfoldable pub step_of : Option Decoded → math.Option Step
step_of None = none
step_of (Some d) = some (record { marked = d.marked; body = body_of d.call })

-- A number of 64 bits.
abbrev pub Below : ℕ → Type 0
Below n = n < 18446744073709551616

-- Numbers have 64 bits.
unfoldable pub Ranged : Call → Type 0
Ranged (Start m) = Below m
Ranged (Rfork f m) = Below f × Below m
Ranged (Name bytes) = Unit {0}
Ranged Sched = Unit {0}
Ranged Yield = Unit {0}
Ranged (Sleep r c) = Below r × Below c
Ranged (Tsleep f) = Below f.rendez × Below f.condition × Below f.seconds × Below f.nanoseconds × Below f.reading
Ranged (Wakeup r) = Below r
Ranged (Qlock q) = Below q
Ranged (Canqlock q) = Below q
Ranged (Qunlock q) = Below q
Ranged (Cond c v) = Below c × Below v
Ranged (Clock now) = Below now
Ranged (Tadd f) = Below f.timer × Below f.kind × Below f.seconds × Below f.nanoseconds × Below f.rendez × Below f.reading
Ranged (Tdel t) = Below t
Ranged (Intr now) = Below now
Ranged Due = Unit {0}
Ranged (Exit status) = Unit {0}
Ranged Wait = Unit {0}
