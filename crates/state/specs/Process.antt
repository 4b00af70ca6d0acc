-- The states of a process and the kinds of calls, and their numbers.
use Rattle.std.specs.Prelude.{ℕ}
use Rattle.state.specs.declared.process.ProcState.{ProcState}
use Rattle.state.specs.declared.process.ProcState.TheVariants.{Free, Running, Ready, Asleep}
use Rattle.state.specs.declared.process.CallKind.{CallKind}
use Rattle.state.specs.declared.process.CallKind.TheVariants.{Nothing, Sleep, Tsleep, Qlock, Wait}

-- The number of a state: docs/MACHINE.md says what each means.
abbrev pub state_number : ProcState → ℕ
state_number Free = 0
state_number Running = 1
state_number Ready = 2
state_number Asleep = 3

-- The number of a kind.
abbrev pub call_number : CallKind → ℕ
call_number Nothing = 0
call_number Sleep = 1
call_number Tsleep = 2
call_number Qlock = 3
call_number Wait = 4
