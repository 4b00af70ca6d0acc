-- The number that yield, sched, sleep, wakeup and cond meet.
use Rattle.std.specs.Prelude.{if◌then◌else◌, ◌≡◌, Bool, true, not, ◌&&◌, ◌||◌, ℕ, List, [], ◌∷◌}
use Rattle.std.proofs.Math.Path.{ap}
use Rattle.std.proofs.Common.{◌∙◌}
use Rattle.std.proofs.Math.Bool.{false, and-false, and-true, or-false}
use Rattle.std.proofs.Math.Option.{none, some}
use Rattle.machine.specs.Basics.{is_some, is_none}
use Rattle.machine.specs.Machine.{Machine, process, sleeper, condition}
use Rattle.machine.specs.Step.{sched, yield, sleep, wakeup, cond, open_step}
use Rattle.machine.specs.Table.{refusal, in_range, taken, taken_again, head_taken, open_table}
use Rattle.outcome.specs.Refusals.{step, refusal-tests}

-- wakeup, cond: a field out of range.
module _ (m : Machine) (k : Bool) where
  pub refusal-wakeup : (R : ℕ) → refusal m (step k (wakeup R)) ≡ (if not (in_range m.sizes (wakeup R)) then some 2 else none)
  unfolding open_table open_step
  refusal-wakeup R = refusal-tests m (step k (wakeup R)) ∙ rw (and-false k, and-false (is_none m.up))

  pub allowed-wakeup : (R : ℕ) → in_range m.sizes (wakeup R) ≡ true → refusal m (step k (wakeup R)) ≡ none
  allowed-wakeup R range = refusal-wakeup R ∙ rw range

  pub refusal-cond : (C v : ℕ) → refusal m (step k (cond C v)) ≡ (if not (in_range m.sizes (cond C v)) then some 2 else none)
  unfolding open_table open_step
  refusal-cond C v = refusal-tests m (step k (cond C v)) ∙ rw (and-false k, and-false (is_none m.up))

  pub allowed-cond : (C v : ℕ) → in_range m.sizes (cond C v) ≡ true → refusal m (step k (cond C v)) ≡ none
  allowed-cond C v range = refusal-cond C v ∙ rw range

-- yield: marked, or nobody runs.
module _ (m : Machine) (k : Bool) where
  pub refusal-yield : refusal m (step k yield) ≡ (if k then some 3 else if is_none m.up then some 4 else none)
  unfolding open_table open_step
  refusal-yield = refusal-tests m (step k yield) ∙ rw (and-true k, and-true (is_none m.up))

  pub refused-yield_3 : k ≡ true → refusal m (step k yield) ≡ some 3
  refused-yield_3 marked = refusal-yield ∙ rw marked

  pub refused-yield_4 : k ≡ false → m.up ≡ none → refusal m (step k yield) ≡ some 4
  refused-yield_4 marked up = refusal-yield ∙ rw (marked, up)

  pub allowed-yield : {i : ℕ} → k ≡ false → m.up ≡ some i → refusal m (step k yield) ≡ none
  allowed-yield marked up = refusal-yield ∙ rw (marked, up)

-- sched: marked, somebody runs, or the first in line would sleep where another does.
module _ (m : Machine) (k : Bool) where
  pub refusal-sched : refusal m (step k sched) ≡ (if k then some 3 else if is_some m.up then some 17 else if head_taken m then some 5 else none)
  unfolding open_table open_step
  refusal-sched = refusal-tests m (step k sched) ∙ rw (and-true k, and-false (is_none m.up))

  pub refused-sched_3 : k ≡ true → refusal m (step k sched) ≡ some 3
  refused-sched_3 marked = refusal-sched ∙ rw marked

  pub refused-sched_17 : {i : ℕ} → k ≡ false → m.up ≡ some i → refusal m (step k sched) ≡ some 17
  refused-sched_17 marked up = refusal-sched ∙ rw (marked, up)

  pub refused-sched_5 : k ≡ false → m.up ≡ none → head_taken m ≡ true → refusal m (step k sched) ≡ some 5
  refused-sched_5 marked up head = refusal-sched ∙ rw (marked, head, up)

  pub allowed-sched : k ≡ false → m.up ≡ none → head_taken m ≡ false → refusal m (step k sched) ≡ none
  allowed-sched marked up head = refusal-sched ∙ rw (marked, head, up)

-- Whether the first in line would sleep so, by the run queue.
module _ (m : Machine) where
  pub head-nobody : m.run ≡ [] → head_taken m ≡ false
  unfolding head_taken
  head-nobody e = rw (e, head_taken)

  pub head_first : {i : ℕ} {rest : List ℕ} → m.run ≡ i ∷ rest → head_taken m ≡ taken_again m i (process m i).resume
  unfolding head_taken
  head_first e = ap (λ (q : List ℕ). elim q [ [] ↦ false | j ∷ js ↦ taken_again m j (process m j).resume ]) e

-- Whether another is asleep there, by the condition and the Rendez.
module _ (m : Machine) (R C : ℕ) where
  pub taken_true : condition m C ≡ true → taken m R C ≡ false
  unfolding taken
  taken_true e = rw e

  pub taken_free : sleeper m R ≡ none → taken m R C ≡ false
  unfolding taken
  taken_free e = rw e (and-false (not (condition m C)))

  pub taken-there : {j : ℕ} → condition m C ≡ false → sleeper m R ≡ some j → taken m R C ≡ true
  unfolding taken
  taken-there e s = rw (e, s)

-- sleep: out of range, marked, or a false condition where another is asleep there or nobody runs.
module _ (m : Machine) (k : Bool) (R C : ℕ) where
  pub refusal-sleep
      : refusal m (step k (sleep R C))
      ≡ (if not (in_range m.sizes (sleep R C)) then some 2
      else if k then some 3
      else if taken m R C then some 5
      else if is_none m.up && not (condition m C) then some 4
      else none)
  unfolding open_table open_step
  refusal-sleep = refusal-tests m (step k (sleep R C)) ∙ rw (and-true k, or-false (taken m R C || false), or-false (taken m R C))

  pub refused-sleep_3 : in_range m.sizes (sleep R C) ≡ true → k ≡ true → refusal m (step k (sleep R C)) ≡ some 3
  refused-sleep_3 range marked = refusal-sleep ∙ rw (range, marked)

  pub refused-sleep-5
      : in_range m.sizes (sleep R C) ≡ true → k ≡ false → taken m R C ≡ true
      → refusal m (step k (sleep R C)) ≡ some 5
  refused-sleep-5 range marked another = refusal-sleep ∙ rw (range, marked, another)

  pub refused-sleep-4
      : in_range m.sizes (sleep R C) ≡ true → k ≡ false → taken m R C ≡ false → m.up ≡ none → condition m C ≡ false
      → refusal m (step k (sleep R C)) ≡ some 4
  refused-sleep-4 range marked another up untrue = refusal-sleep ∙ rw (range, marked, another, untrue, up)

  pub allowed-sleep
      : {i : ℕ} → in_range m.sizes (sleep R C) ≡ true → k ≡ false → taken m R C ≡ false → m.up ≡ some i
      → refusal m (step k (sleep R C)) ≡ none
  allowed-sleep range marked another up = refusal-sleep ∙ rw (range, marked, another, up)

  -- A true condition: nobody is to sleep, whoever runs.
  pub allowed-sleep-true
      : in_range m.sizes (sleep R C) ≡ true → k ≡ false → condition m C ≡ true
      → refusal m (step k (sleep R C)) ≡ none
  allowed-sleep-true range marked holds = refusal-sleep ∙ rw (range, marked, taken_true m R C holds, holds, and-false (is_none m.up))
