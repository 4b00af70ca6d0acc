-- The number that name, exit and wait meet.
use Rattle.std.specs.Prelude.{if◌then◌else◌, ◌≡◌, Bool, true, false, not, ◌&&◌, List, ℕ, eqb}
use Rattle.std.proofs.Common.{◌∙◌}
use Rattle.std.proofs.Math.Bool.{and-true}
use Rattle.std.proofs.Math.Option.{none, some}
use Rattle.machine.specs.Basics.{is_none, is_empty}
use Rattle.machine.specs.Machine.{Machine, Resume, nothing, in_sleep, in_tsleep, in_qlock, in_wait, process}
use Rattle.machine.specs.Step.{name, exit, wait, open_step}
use Rattle.machine.specs.Exits.{free_cell, without, message_due}
use Rattle.machine.specs.Table.{refusal, in_range, running, open_table}
use Rattle.outcome.specs.Refusals.{step, refusal-tests, running-some}

-- name: out of range, marked, or nobody runs.
module _ (m : Machine) (k : Bool) (BYTES : List ℕ) where
  pub refusal-name
      : refusal m (step k (name BYTES))
      ≡ (if not (in_range m.sizes (name BYTES)) then some 2 else if k then some 3 else if is_none m.up then some 4 else none)
  unfolding open_table open_step
  refusal-name = refusal-tests m (step k (name BYTES)) ∙ rw (and-true k, and-true (is_none m.up))

  pub refused-name_3 : in_range m.sizes (name BYTES) ≡ true → k ≡ true → refusal m (step k (name BYTES)) ≡ some 3
  refused-name_3 range marked = refusal-name ∙ rw (range, marked)

  pub refused-name_4 : in_range m.sizes (name BYTES) ≡ true → k ≡ false → m.up ≡ none → refusal m (step k (name BYTES)) ≡ some 4
  refused-name_4 range marked up = refusal-name ∙ rw (range, marked, up)

  pub allowed-name
      : {i : ℕ} → in_range m.sizes (name BYTES) ≡ true → k ≡ false → m.up ≡ some i
      → refusal m (step k (name BYTES)) ≡ none
  allowed-name range marked up = refusal-name ∙ rw (range, marked, up)

-- A message is due at the exit of process i, and no cell is free for it.
abbrev pub no_cell : Machine → ℕ → Bool
no_cell m i = message_due i m && is_none (free_cell (without i m))

-- exit: out of range, marked, nobody runs, or that of the process that runs.
module _ (m : Machine) (k : Bool) (BYTES : List ℕ) where
  pub refusal-exit
      : refusal m (step k (exit BYTES))
      ≡ (if not (in_range m.sizes (exit BYTES)) then some 2
      else if k then some 3
      else if is_none m.up then some 4
      else if running (no_cell m) m then some 13
      else none)
  unfolding open_table open_step
  refusal-exit = refusal-tests m (step k (exit BYTES)) ∙ rw (and-true k, and-true (is_none m.up))

  pub refused-exit_3 : in_range m.sizes (exit BYTES) ≡ true → k ≡ true → refusal m (step k (exit BYTES)) ≡ some 3
  refused-exit_3 range marked = refusal-exit ∙ rw (range, marked)

  pub refused-exit_4 : in_range m.sizes (exit BYTES) ≡ true → k ≡ false → m.up ≡ none → refusal m (step k (exit BYTES)) ≡ some 4
  refused-exit_4 range marked up = refusal-exit ∙ rw (range, marked, up)

  pub refused-exit-13
      : {i : ℕ} → in_range m.sizes (exit BYTES) ≡ true → k ≡ false → m.up ≡ some i → no_cell m i ≡ true
      → refusal m (step k (exit BYTES)) ≡ some 13
  refused-exit-13 range marked up cell = refusal-exit ∙ rw (range, marked, running-some m (no_cell m) up ∙ cell, up)

  pub allowed-exit
      : {i : ℕ} → in_range m.sizes (exit BYTES) ≡ true → k ≡ false → m.up ≡ some i → no_cell m i ≡ false
      → refusal m (step k (exit BYTES)) ≡ none
  allowed-exit range marked up cell = refusal-exit ∙ rw (range, marked, running-some m (no_cell m) up ∙ cell, up)

-- A `wait` not returned, as in the table.
abbrev pub is_waiting : Resume → Bool
is_waiting nothing = false
is_waiting (in_sleep r c) = false
is_waiting (in_tsleep r c) = false
is_waiting (in_qlock q) = false
is_waiting in_wait = true

-- The process i has one.
abbrev pub waiting : Machine → ℕ → Bool
waiting m i = is_waiting (process m i).resume

-- The process i has no child, and no exit of one.
abbrev pub no_child : Machine → ℕ → Bool
no_child m i = eqb (process m i).nchild 0 && is_empty (process m i).exits

-- wait: marked, nobody runs, and of the process that runs: its `wait` has not returned, or it has no child.
module _ (m : Machine) (k : Bool) where
  pub refusal-wait
      : refusal m (step k wait)
      ≡ (if k then some 3
      else if is_none m.up then some 4
      else if running (waiting m) m then some 14
      else if running (no_child m) m then some 15
      else none)
  unfolding open_table open_step
  refusal-wait = refusal-tests m (step k wait) ∙ rw (and-true k, and-true (is_none m.up))

  pub refused-wait_3 : k ≡ true → refusal m (step k wait) ≡ some 3
  refused-wait_3 marked = refusal-wait ∙ rw marked

  pub refused-wait_4 : k ≡ false → m.up ≡ none → refusal m (step k wait) ≡ some 4
  refused-wait_4 marked up = refusal-wait ∙ rw (marked, up)

  pub refused-wait_14 : {i : ℕ} → k ≡ false → m.up ≡ some i → waiting m i ≡ true → refusal m (step k wait) ≡ some 14
  refused-wait_14 marked up waits = refusal-wait ∙ rw (marked, running-some m (waiting m) up ∙ waits, up)

  pub refused-wait-15
      : {i : ℕ} → k ≡ false → m.up ≡ some i → waiting m i ≡ false → no_child m i ≡ true
      → refusal m (step k wait) ≡ some 15
  refused-wait-15 marked up waits child = refusal-wait ∙ rw (marked, running-some m (waiting m) up ∙ waits, running-some m (no_child m) up ∙ child, up)

  pub allowed-wait
      : {i : ℕ} → k ≡ false → m.up ≡ some i → waiting m i ≡ false → no_child m i ≡ false
      → refusal m (step k wait) ≡ none
  allowed-wait marked up waits child = refusal-wait ∙ rw (marked, running-some m (waiting m) up ∙ waits, running-some m (no_child m) up ∙ child, up)
