-- docs/MACHINE.md, "Starred examples": one table, and one theorem that each of its rows holds.
use Rattle.std.specs.Prelude.{◌≡◌, refl, false, List, [], ◌∷◌, ◌++◌, ℕ, ◌-◌, ◌^◌, replicate}
use Rattle.clock.specs.Counts.{counts_of}
use Rattle.machine.specs.Basics.{ascii}
use Rattle.machine.specs.Machine.{Machine, fresh}
use Rattle.machine.specs.Step.{Body, start, rfork, sched}
use Rattle.machine.specs.Outcome.{Answer, Reply, Outcome, answer, refused}
use Rattle.machine.specs.Message.{message}
use Rattle.machine.specs.StepOf.{step_of}
use Rattle.machine.specs.Listing.{open_definitions, steps_sizes}

-- An example is about the counts of a duration at a frequency, about a message, or about the replies to steps without a mark
-- that follow one another on a fresh machine.
pub data Example : Type 0 where
  counts_of_duration : (seconds nanoseconds hz counts : ℕ) → Example
  message_for : (name : List ℕ) (pid : ℕ) (status bytes : List ℕ) → Example
  replies_to : (steps : List Body) (replies : List Reply) → Example

-- The replies to steps that follow one another from a machine.
unfoldable pub replies_from : Machine → List Body → List Reply
replies_from m [] = []
replies_from m (b ∷ bs) =
    let o : Outcome = step_of m (record { marked = false; body = b }) in o.reply ∷ replies_from o.after bs

-- What an example says.
abbrev pub Holds : Example → Type 0
Holds (counts_of_duration seconds nanoseconds hz counts) = counts_of hz seconds nanoseconds ≡ counts
Holds (message_for name pid status bytes) = message name pid status ≡ bytes
Holds (replies_to steps replies) = replies_from (fresh steps_sizes) steps ≡ replies

-- What a list of examples says.
abbrev pub AllHold : List Example → Type 0
AllHold [] = Unit {0}
AllHold (e ∷ es) = Holds e × AllHold es

-- The letter z, n times.
unfoldable pub letters : ℕ → List ℕ
letters n = replicate n 122

-- The steps that make process 1 and run it.
unfoldable pub one_runs : List Body
one_runs = start 0 ∷ sched ∷ []

-- And their replies.
unfoldable pub it_runs : List Reply
it_runs = answer (Answer.pid 1) ∷ answer (Answer.run 1) ∷ []

-- The table.
unfoldable pub starred : List Example
unfolding letters one_runs it_runs
starred =
    -- 1 ns at 1,000,000 Hz is 1; 10 ms is 10,000; 1,500 ns is 2; 1 s and 1 ns at 3 Hz is 4; 2^64 − 1 s at 1,000 Hz is 2^64 − 1
    counts_of_duration 0 1 1000000 1
    ∷ counts_of_duration 0 10000000 1000000 10000
    ∷ counts_of_duration 0 1500 1000000 2
    ∷ counts_of_duration 1 1 3 4
    ∷ counts_of_duration (2 ^ 64 - 1) 0 1000 (2 ^ 64 - 1)
    -- "stow", 7, "mass": "stow 7: mass"
    ∷ message_for (ascii "stow") 7 (ascii "mass") (ascii "stow 7: mass")
    -- "a", 5, 122 letters: 127 bytes, whole
    ∷ message_for (ascii "a") 5 (letters 122) (ascii "a 5: " ++ letters 122)
    -- "a", 5, 121 letters and C3 A9 (hexadecimal): 126 bytes
    ∷ message_for (ascii "a") 5 (letters 121 ++ 0xc3 ∷ 0xa9 ∷ []) (ascii "a 5: " ++ letters 121)
    -- "a", 5, 200 bytes 80: "a 5:"
    ∷ message_for (ascii "a") 5 (replicate 200 0x80) (ascii "a 5:")
    -- flags 4,100: 10; 64: 10; 80: a pid; 8,192: 0
    ∷ replies_to (one_runs ++ rfork 4100 0 ∷ []) (it_runs ++ refused 10 ∷ [])
    ∷ replies_to (one_runs ++ rfork 64 0 ∷ []) (it_runs ++ refused 10 ∷ [])
    ∷ replies_to (one_runs ++ rfork 80 0 ∷ []) (it_runs ++ answer (Answer.pid 2) ∷ [])
    ∷ replies_to (one_runs ++ rfork 8192 0 ∷ []) (it_runs ++ answer (Answer.pid 0) ∷ [])
    -- Pid 1 forks with M = 3, then with M = 0: the child is 3
    ∷ replies_to (one_runs ++ rfork 16 3 ∷ rfork 16 0 ∷ []) (it_runs ++ refused 11 ∷ answer (Answer.pid 3) ∷ [])
    ∷ []

pub starred_hold : AllHold starred
unfolding open_definitions steps_sizes replies_from letters one_runs it_runs starred
starred_hold = (refl, (refl, (refl, (refl, (refl, (refl, (refl, (refl, (refl, (refl, (refl, (refl, (refl, (refl, tt))))))))))))))
