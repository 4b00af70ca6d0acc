-- What a listing does not print, by computed examples: which records and cells are taken, whom a step readies and dispatches, how
-- often timer 0 fires, the message buffer, and the numbers 14 and 16. One table, and one theorem that each of its rows holds.
use Rattle.std.specs.Prelude.{◌≡◌, refl, true, false, List, [], ◌∷◌, ◌++◌, ℕ, ◌-◌, ◌^◌}
use Rattle.std.proofs.Math.Option.{some}
use Rattle.machine.specs.Machine.{Machine, Sizes, in_wait, fresh, process, asleep}
use Rattle.machine.specs.Update.{with_next_pid, with_process, with_resume}
use Rattle.machine.specs.Step.{Step, Body, start, rfork, sched, yield, sleep, tsleep, wakeup, qlock, qunlock, clock, tadd, intr, due, exit, wait}
use Rattle.machine.specs.Outcome.{Answer, Reply, Outcome, answer, refused}
use Rattle.machine.specs.Exits.{cells_used}
use Rattle.machine.specs.StepOf.{step_of, outcome_of}
use Rattle.machine.specs.Listing.{open_definitions}
use Rattle.machine.specs.Good.{running_in, places}

-- What a step did, beside its answer: whom it readied, whom it dispatched, and how often timer 0 fired.
pub record Deed : Type 0 where
  pub readied : List ℕ
  pub dispatched : List ℕ
  pub fired : ℕ

-- A deed, by its parts.
abbrev deed : List ℕ → List ℕ → ℕ → Deed
deed r d f = record { readied = r; dispatched = d; fired = f }

-- An example is about one of these.
pub data Example : Type 0 where
  -- after steps on a fresh machine of these sizes: the record numbers of the run queue, and the cells in use
  run_queue_is : Sizes → List Body → List ℕ → Example
  cells_are : Sizes → List Body → List ℕ → Example
  -- after such steps: everybody who is in a place, place by place, and how many are asleep
  places_are : Sizes → List Body → List ℕ → Example
  asleep_is : Sizes → List Body → ℕ → Example
  -- what the last of these steps did
  last_did : Sizes → List Body → Body → Deed → Example
  -- the reply to a step on a machine, with a message buffer of so many bytes
  reply_is : Machine → Body → (buffer : ℕ) → Reply → Example

-- A step without a mark.
unfoldable pub plain : Body → Step
plain b = record { marked = false; body = b }

-- The machine after steps.
unfoldable pub after : Machine → List Body → Machine
after m [] = m
after m (b ∷ bs) = after (step_of m (plain b)).after bs

-- What an outcome tells of the step.
unfoldable pub did : Outcome → Deed
did o = record { readied = o.readied; dispatched = o.dispatched; fired = o.fired }

-- What an example says.
abbrev pub Holds : Example → Type 0
Holds (run_queue_is z bs run) = (after (fresh z) bs).run ≡ run
Holds (cells_are z bs cells) = cells_used (after (fresh z) bs) ≡ cells
Holds (places_are z bs is) = places (after (fresh z) bs) ≡ is
Holds (asleep_is z bs n) = asleep (after (fresh z) bs) ≡ n
Holds (last_did z bs b d) = did (step_of (after (fresh z) bs) (plain b)) ≡ d
Holds (reply_is m b buffer r) = (outcome_of m (some (plain b)) buffer).reply ≡ r

-- What a list of examples says.
abbrev pub AllHold : List Example → Type 0
AllHold [] = Unit {0}
AllHold (e ∷ es) = Holds e × AllHold es

-- Sizes: four processes, two Rendez, locks and timers, three cells; 100 Hz, so that a tick is one count.
unfoldable pub small : Sizes
small = record { processes = 4; rendez = 2; locks = 2; timers = 2; cells = 3; hz = 100 }

-- Pid 1 runs, with children 2 and 3 ready behind it.
unfoldable pub family : List Body
family = start 0 ∷ sched ∷ rfork 16 0 ∷ rfork 16 0 ∷ []

-- The table.
unfoldable pub unlisted : List Example
unfolding small family
unlisted =
    -- a new process takes the free record of the highest number: 3, then 2; a record that was freed is taken again
    run_queue_is small (start 0 ∷ start 0 ∷ []) (3 ∷ 2 ∷ [])
    ∷ run_queue_is small (start 0 ∷ start 0 ∷ sched ∷ exit [] ∷ start 0 ∷ []) (2 ∷ 3 ∷ [])
    -- a message takes the free cell of the highest number
    ∷ cells_are small (family ++ yield ∷ sched ∷ exit [] ∷ []) (2 ∷ [])
    ∷ cells_are small (family ++ yield ∷ sched ∷ exit [] ∷ sched ∷ exit [] ∷ []) (1 ∷ 2 ∷ [])
    -- once the exiting process's own are freed: pid 2 holds cell 2 when it exits, and its own message takes cell 2
    ∷ cells_are small (start 0 ∷ sched ∷ rfork 16 0 ∷ yield ∷ sched ∷ rfork 16 0 ∷ yield ∷ sched ∷ yield ∷ sched ∷ exit [] ∷ sched ∷ exit [] ∷ []) (2 ∷ [])
    -- who yields, and who is woken, is in the run queue and nowhere else, and is not asleep
    ∷ places_are small (start 0 ∷ sched ∷ yield ∷ []) (3 ∷ [])
    ∷ places_are small (start 0 ∷ sched ∷ sleep 0 0 ∷ wakeup 0 ∷ []) (3 ∷ [])
    ∷ asleep_is small (start 0 ∷ sched ∷ sleep 0 0 ∷ []) 1
    ∷ asleep_is small (start 0 ∷ sched ∷ sleep 0 0 ∷ wakeup 0 ∷ []) 0
    -- a quantum is ten ticks
    ∷ reply_is (after (fresh small) (start 0 ∷ start 0 ∷ clock 0 ∷ sched ∷ intr 9 ∷ [])) due 127 (answer (Answer.yes_no false))
    ∷ reply_is (after (fresh small) (start 0 ∷ start 0 ∷ clock 0 ∷ sched ∷ intr 10 ∷ [])) due 127 (answer (Answer.yes_no true))
    -- whom steps ready and dispatch
    ∷ last_did small [] (start 0) (deed (1 ∷ []) [] 0)
    ∷ last_did small (start 0 ∷ []) sched (deed [] (1 ∷ []) 0)
    ∷ last_did small (start 0 ∷ sched ∷ []) (rfork 16 0) (deed (2 ∷ []) [] 0)
    ∷ last_did small (start 0 ∷ sched ∷ []) (rfork 0 0) (deed [] [] 0)
    ∷ last_did small (start 0 ∷ sched ∷ []) yield (deed (1 ∷ []) [] 0)
    ∷ last_did small (start 0 ∷ sched ∷ []) (sleep 0 0) (deed [] [] 0)
    ∷ last_did small (start 0 ∷ sched ∷ sleep 0 0 ∷ []) (wakeup 0) (deed (1 ∷ []) [] 0)
    ∷ last_did small (start 0 ∷ sched ∷ sleep 0 0 ∷ []) (wakeup 1) (deed [] [] 0)
    -- a `sched` answering `asleep` dispatches the process that sleeps again
    ∷ last_did small (start 0 ∷ sched ∷ sleep 0 0 ∷ wakeup 0 ∷ []) sched (deed [] (1 ∷ []) 0)
    ∷ last_did small (start 0 ∷ sched ∷ qlock 0 ∷ qlock 0 ∷ []) (qunlock 0) (deed (1 ∷ []) [] 0)
    -- an exit readies the parent that waits, and nobody where it does not
    ∷ last_did small (family ++ wait ∷ sched ∷ []) (exit []) (deed (1 ∷ []) [] 0)
    ∷ last_did small (family ++ yield ∷ sched ∷ []) (exit []) (deed [] [] 0)
    -- `intr` readies in firing order: the timeout of pid 2 at 2 counts, then timer 1 at 3; timer 0 fires three times
    ∷ last_did small (start 0 ∷ start 0 ∷ clock 0 ∷ tadd 1 0 0 30000000 0 0 ∷ sched ∷ sleep 0 0 ∷ sched ∷ tsleep 1 0 0 20000000 0 ∷ []) (intr 3) (deed (2 ∷ 1 ∷ []) [] 3)
    -- message buffer under 127
    ∷ reply_is (fresh small) sched 126 (refused 2)
    ∷ reply_is (fresh small) sched 127 (answer Answer.end)
    -- a process to be made, next pid is 2^64 − 1: before 11, and after 12
    ∷ reply_is (with_next_pid (2 ^ 64 - 1) (fresh small)) (start 0) 127 (refused 16)
    ∷ reply_is (with_next_pid (2 ^ 64 - 1) (fresh small)) (start 1) 127 (refused 16)
    ∷ reply_is (with_next_pid (2 ^ 64 - 2) (fresh small)) (start 0) 127 (answer (Answer.pid (2 ^ 64 - 2)))
    ∷ reply_is (with_next_pid (2 ^ 64 - 1) (after (fresh small) (start 0 ∷ start 0 ∷ start 0 ∷ start 0 ∷ []))) (start 0) 127 (refused 12)
    -- a wait record with qwaitr held: before 15
    ∷ reply_is (with_process 3 (with_resume in_wait (process (after (fresh small) (start 0 ∷ sched ∷ [])) 3)) (after (fresh small) (start 0 ∷ sched ∷ []))) wait 127 (refused 14)
    ∷ []

pub unlisted_hold : AllHold unlisted
unfolding open_definitions running_in places plain after did small family unlisted
unlisted_hold = (refl, (refl, (refl, (refl, (refl, (refl, (refl, (refl, (refl, (refl, (refl, (refl, (refl, (refl, (refl, (refl, (refl, (refl, (refl, (refl, (refl, (refl, (refl, (refl, (refl, (refl, (refl, (refl, (refl, (refl, (refl, tt)))))))))))))))))))))))))))))))
