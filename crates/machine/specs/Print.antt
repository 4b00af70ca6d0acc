-- A line of the listing.
use Rattle.std.specs.Prelude.{true, false, List, [], ◌∷◌, ◌++◌, ℕ}
use Rattle.std.proofs.Math.Option.{none, some}
use Rattle.machine.specs.Basics.{ascii}
use Rattle.machine.specs.Machine.{Machine, pid_of, asleep}
use Rattle.machine.specs.Outcome.{Answer, Reply, answer, refused}
use Rattle.machine.specs.Message.{decimal}

-- Bytes are printed as they are.
unfoldable pub print_answer : Answer → List ℕ
print_answer (Answer.pid n) = ascii "pid " ++ decimal n
print_answer (Answer.run n) = ascii "run " ++ decimal n
print_answer (Answer.run_child n child message) = ascii "run " ++ decimal n ++ ascii " child " ++ decimal child ++ ascii " " ++ message
print_answer Answer.done = ascii "done"
print_answer Answer.asleep = ascii "asleep"
print_answer (Answer.yes_no true) = ascii "yes"
print_answer (Answer.yes_no false) = ascii "no"
print_answer (Answer.fired f stuck) = ascii "fired " ++ decimal f ++ ascii " " ++ decimal stuck
print_answer (Answer.exit n status) = ascii "exit " ++ decimal n ++ ascii " " ++ status
print_answer (Answer.child n message) = ascii "child " ++ decimal n ++ ascii " " ++ message
print_answer Answer.idle = ascii "idle"
print_answer Answer.end = ascii "end"

-- An answer, or `refused N`.
unfoldable pub print_reply : Reply → List ℕ
print_reply (answer a) = print_answer a
print_reply (refused n) = ascii "refused " ++ decimal n

-- The running pid or 0.
unfoldable pub print_up : Machine → List ℕ
print_up m = elim m.up [ none ↦ ascii "0" | some i ↦ decimal (pid_of m i) ]

-- Pids, a comma before each.
unfoldable pub comma_before : List ℕ → Machine → List ℕ
comma_before [] m = []
comma_before (i ∷ is) m = ascii "," ++ decimal (pid_of m i) ++ comma_before is m

-- The run queue or -.
unfoldable pub print_queue : Machine → List ℕ
print_queue m = elim m.run [ [] ↦ ascii "-" | i ∷ is ↦ decimal (pid_of m i) ++ comma_before is m ]

-- Fields: step, answer, running pid or 0, run queue or -, asleep, ticks.
unfoldable pub print_line : ℕ → Reply → Machine → List ℕ
print_line step reply m =
    decimal step ++ ascii ";" ++ print_reply reply ++ ascii ";" ++ print_up m ++ ascii ";" ++ print_queue m ++ ascii ";" ++ decimal (asleep m)
    ++ ascii ";"
    ++ decimal m.ticks
    ++ 10 ∷ []

-- All of this module, for whoever computes with it.
unfoldable pub open_print : Unit {0}
unfolding print_answer print_reply print_up comma_before print_queue print_line
open_print = tt
