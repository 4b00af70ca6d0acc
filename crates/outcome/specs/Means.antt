-- What each case of an answer stands for.
use Rattle.std.specs.Prelude.{true, false, List, [], ℕ, take, Result, Ok, Err}
use Rattle.machine.specs.Step.{Body, start, rfork, name, sched, yield, sleep, tsleep, wakeup, qlock, canqlock, qunlock, cond, clock, tadd, tdel, intr, due, exit, wait}
use Rattle.machine.specs.Outcome as machine
use Rattle.outcome.specs.declared.Reply.{Reply}
use Rattle.outcome.specs.declared.Reply.TheVariants.{Pid, Run, RunChild, Done, Asleep, Yes, No, Fired, Exit, Child, Idle, End}
use Rattle.outcome.specs.declared.Refusal.{Refusal}
use Rattle.outcome.specs.declared.Refusal.TheVariants.{NotWellFormed, NoSuchStep, InInterrupt, NoneRuns, RendezTaken, NotLocked, ShortDuration, BadReading, TooManyCounts, BadArg, NoVmem, NoFreeRecord, NoFreeCell, InUse, NoChild, NoPidLeft, OneRuns}

-- The number that the table of refusals gives each.
abbrev pub number : Refusal → ℕ
number NotWellFormed = 1
number NoSuchStep = 2
number InInterrupt = 3
number NoneRuns = 4
number RendezTaken = 5
number NotLocked = 6
number ShortDuration = 7
number BadReading = 8
number TooManyCounts = 9
number BadArg = 10
number NoVmem = 11
number NoFreeRecord = 12
number NoFreeCell = 13
number InUse = 14
number NoChild = 15
number NoPidLeft = 16
number OneRuns = 17

-- The status that an `exit` was given.
unfoldable pub status_of : Body → List ℕ
status_of (start M) = []
status_of (rfork F M) = []
status_of (name BYTES) = []
status_of sched = []
status_of yield = []
status_of (sleep R C) = []
status_of (tsleep R C S N NOW) = []
status_of (wakeup R) = []
status_of (qlock Q) = []
status_of (canqlock Q) = []
status_of (qunlock Q) = []
status_of (cond C v) = []
status_of (clock NOW) = []
status_of (tadd T KIND S N R NOW) = []
status_of (tdel T) = []
status_of (intr NOW) = []
status_of due = []
status_of (exit BYTES) = BYTES
status_of wait = []

-- The reply that a result stands for, with the message buffer after the step and the status given.
unfoldable pub means : Result Reply Refusal → (buffer status : List ℕ) → machine.Reply
means (Ok (Pid n)) b st = machine.answer (machine.Answer.pid n)
means (Ok (Run n)) b st = machine.answer (machine.Answer.run n)
means (Ok (RunChild n c l)) b st = machine.answer (machine.Answer.run_child n c (take l b))
means (Ok Done) b st = machine.answer machine.Answer.done
means (Ok Asleep) b st = machine.answer machine.Answer.asleep
means (Ok Yes) b st = machine.answer (machine.Answer.yes_no true)
means (Ok No) b st = machine.answer (machine.Answer.yes_no false)
means (Ok (Fired f k)) b st = machine.answer (machine.Answer.fired f k)
means (Ok (Exit n)) b st = machine.answer (machine.Answer.exit n st)
means (Ok (Child n l)) b st = machine.answer (machine.Answer.child n (take l b))
means (Ok Idle) b st = machine.answer machine.Answer.idle
means (Ok End) b st = machine.answer machine.Answer.end
means (Err e) b st = machine.refused (number e)

-- The message that a reply tells: what is written at the front of the message buffer.
unfoldable pub told : machine.Reply → List ℕ
told (machine.answer (machine.Answer.pid n)) = []
told (machine.answer (machine.Answer.run n)) = []
told (machine.answer (machine.Answer.run_child n c m)) = m
told (machine.answer machine.Answer.done) = []
told (machine.answer machine.Answer.asleep) = []
told (machine.answer (machine.Answer.yes_no b)) = []
told (machine.answer (machine.Answer.fired f k)) = []
told (machine.answer (machine.Answer.exit n st)) = []
told (machine.answer (machine.Answer.child n m)) = m
told (machine.answer machine.Answer.idle) = []
told (machine.answer machine.Answer.end) = []
told (machine.refused n) = []
