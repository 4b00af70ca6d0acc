-- How long a message an answer says that it has.
use Rattle.std.specs.Prelude.{ℕ, Result, Ok, Err}
use Rattle.outcome.specs.declared.Reply.{Reply}
use Rattle.outcome.specs.declared.Refusal.{Refusal}
use Rattle.outcome.specs.declared.Reply.TheVariants.{Pid, Run, RunChild, Done, Asleep, Yes, No, Fired, Exit, Child, Idle, End}

-- The length of `Child` and `RunChild`, and 0 of any other answer and of a refusal.
abbrev pub length_of : Result Reply Refusal → ℕ
length_of (Ok (Pid n)) = 0
length_of (Ok (Run n)) = 0
length_of (Ok (RunChild n c l)) = l
length_of (Ok Done) = 0
length_of (Ok Asleep) = 0
length_of (Ok Yes) = 0
length_of (Ok No) = 0
length_of (Ok (Fired f k)) = 0
length_of (Ok (Exit n)) = 0
length_of (Ok (Child n l)) = l
length_of (Ok Idle) = 0
length_of (Ok End) = 0
length_of (Err e) = 0
