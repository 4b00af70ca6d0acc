-- The bytes of the standard input of `steps` to the bytes of its standard output.
use Rattle.std.specs.Prelude.{List, [], ◌∷◌, ◌++◌, ℕ, suc}
use Rattle.clock.specs.Counts.{nanos_of, counts_of, zero_duration, shorter}
use Rattle.machine.specs.Basics.{ascii, open_basics}
use Rattle.machine.specs.Machine.{Machine, Sizes, fresh, open_machine}
use Rattle.machine.specs.Update.{open_update}
use Rattle.machine.specs.Step.{open_step}
use Rattle.machine.specs.Message.{open_message}
use Rattle.machine.specs.Flags.{open_flags}
use Rattle.machine.specs.Places.{open_places}
use Rattle.machine.specs.Exits.{open_exits}
use Rattle.machine.specs.Timers.{open_timers}
use Rattle.machine.specs.Table.{open_table}
use Rattle.machine.specs.Outcome.{Outcome, open_outcome}
use Rattle.machine.specs.Perform.{open_perform}
use Rattle.machine.specs.StepOf.{outcome_of, open_step_of}
use Rattle.machine.specs.Parse.{lines_of, parse_line, open_parse}
use Rattle.machine.specs.Print.{print_line, open_print}

-- Each step works on the machine that the last one left. The message buffer holds 127 bytes.
unfoldable pub print_from : ℕ → Machine → List (List ℕ) → List ℕ
print_from n m [] = []
print_from n m (l ∷ ls) =
    let o : Outcome = outcome_of m (parse_line l) 127 in print_line n o.reply o.after ++ print_from (suc n) o.after ls

-- The first line names the fields.
unfoldable pub header : List ℕ
header = ascii "step;answer;up;queue;asleep;ticks" ++ 10 ∷ []

-- All definitions that a listing computes with.
unfoldable pub open_definitions : Unit {0}
unfolding nanos_of counts_of zero_duration shorter open_basics open_machine open_update open_step open_message open_flags open_places open_exits open_timers open_table open_outcome open_perform open_step_of open_parse open_print print_from header
open_definitions = tt

-- The listing of an input, from a fresh machine of these sizes.
unfoldable pub listing_at : Sizes → List ℕ → List ℕ
unfolding open_definitions
listing_at z input = header ++ print_from 1 (fresh z) (lines_of input)

-- `steps` uses P, R, Q, K = 16, C = 256, hz = 1,000,000.
unfoldable pub steps_sizes : Sizes
steps_sizes = record { processes = 16; rendez = 16; locks = 16; timers = 16; cells = 256; hz = 1000000 }

-- The listing that `steps` writes.
unfoldable pub listing : List ℕ → List ℕ
unfolding listing_at steps_sizes
listing input = listing_at steps_sizes input
