-- What a line of the listing asks and ensures.
use Rattle.std.specs.Prelude.{◌≡◌, List, ◌++◌, ℕ, ◌+◌, ◌*◌, ◌≤◌, length, drop}
use Rattle.std.proofs.Math.Option.{Option}
use Rattle.machine.specs.Step.{Step}
use Rattle.machine.specs.Outcome as machine
use Rattle.machine.specs.StepOf.{outcome_of}
use Rattle.machine.specs.Print.{print_line}
use Rattle.state.specs.declared.Sizes.{Sizes}
use Rattle.holds.specs.Did.{machine_in}
use Rattle.holds.specs.Touched.{Spares}
use Rattle.outcome.specs.Means.{told}
use Rattle.outcome.specs.Stepped.{Well}
use Rattle.print.specs.Put.{Put}
use Rattle.parse.specs.Parsed.{Parsed}

-- The most bytes of a step, and of a line.
abbrev pub step_most : ℕ
step_most = 4128

abbrev pub line_most : Sizes → ℕ
line_most z = 4266 + 21 * z.processes

-- A message buffer of 127 bytes, and room for a line.
pub record StepAsks (z : Sizes) (s b m out : List ℕ) (at : ℕ) : Type 0 where
  pub well : Well z s
  pub short : length b ≤ step_most
  pub message : length m ≡ 127
  pub room : at + line_most z ≤ length out

-- The same, of a line.
pub record LineAsks (z : Sizes) (s out : List ℕ) (at : ℕ) : Type 0 where
  pub well : Well z s
  pub room : at + line_most z ≤ length out

-- The message buffer m after a reply: the message told at its front, its other bytes as they were.
abbrev pub with_message : machine.Reply → List ℕ → List ℕ
with_message r m = told r ++ drop (length (told r)) m

-- The step, or none, was taken, and its line stands in out from `at` to r. No byte of the state is written but of fields, and what the
-- machine then neither uses nor has cleared stays; the message buffer m became m'.
pub record LineTook (z : Sizes) (s s' : List ℕ) (n : ℕ) (x : Option Step) (m m' out : List ℕ) (at : ℕ) (out' : List ℕ) (r : ℕ) : Type 0 where
  pub well : Well z s'
  pub spares : Spares z s s'
  pub machine : machine_in z s' ≡ (outcome_of (machine_in z s) x 127).after
  pub message : m' ≡ with_message (outcome_of (machine_in z s) x 127).reply m
  pub put : Put (line_most z) out at (print_line n (outcome_of (machine_in z s) x 127).reply (machine_in z s')) out' r

-- The same for a line: the bytes of its step stand at the front of b, and the others of b stay.
pub record LineTaken (z : Sizes) (s s' : List ℕ) (n : ℕ) (x : Option Step) (b b' m m' out : List ℕ) (at : ℕ) (out' : List ℕ) (r : ℕ) : Type 0 where
  pub took : LineTook z s s' n x m m' out at out' r
  pub many : ℕ
  pub parsed : Parsed x b b' many
