-- The number that qlock, canqlock and qunlock meet.
use Rattle.std.specs.Prelude.{if◌then◌else◌, ◌≡◌, Bool, true, false, not, ◌&&◌, ℕ}
use Rattle.std.proofs.Common.{◌∙◌}
use Rattle.std.proofs.Math.Bool.{and-false, or-false}
use Rattle.std.proofs.Math.Option.{none, some}
use Rattle.machine.specs.Basics.{is_none}
use Rattle.machine.specs.Machine.{Machine}
use Rattle.machine.specs.Step.{qlock, canqlock, qunlock, open_step}
use Rattle.machine.specs.Table.{refusal, in_range, held_lock, open_table}
use Rattle.outcome.specs.Refusals.{step, refusal-tests}

-- canqlock: a field out of range.
module _ (m : Machine) (k : Bool) (Q : ℕ) where
  pub refusal-canqlock : refusal m (step k (canqlock Q)) ≡ (if not (in_range m.sizes (canqlock Q)) then some 2 else none)
  unfolding open_table open_step
  refusal-canqlock = refusal-tests m (step k (canqlock Q)) ∙ rw (and-false k, and-false (is_none m.up))

  pub allowed-canqlock : in_range m.sizes (canqlock Q) ≡ true → refusal m (step k (canqlock Q)) ≡ none
  allowed-canqlock range = refusal-canqlock ∙ rw range

-- qunlock: that, or a lock that is not held.
module _ (m : Machine) (k : Bool) (Q : ℕ) where
  pub refusal-qunlock
      : refusal m (step k (qunlock Q)) ≡ (if not (in_range m.sizes (qunlock Q)) then some 2 else if not (held_lock m Q) then some 6 else none)
  unfolding open_table open_step
  refusal-qunlock = refusal-tests m (step k (qunlock Q)) ∙ rw (and-false k, and-false (is_none m.up))

  pub refused-qunlock_6 : in_range m.sizes (qunlock Q) ≡ true → held_lock m Q ≡ false → refusal m (step k (qunlock Q)) ≡ some 6
  refused-qunlock_6 range held = refusal-qunlock ∙ rw (range, held)

  pub allowed-qunlock : in_range m.sizes (qunlock Q) ≡ true → held_lock m Q ≡ true → refusal m (step k (qunlock Q)) ≡ none
  allowed-qunlock range held = refusal-qunlock ∙ rw (range, held)

-- qlock: out of range, or a held lock where the step is marked or nobody runs.
module _ (m : Machine) (k : Bool) (Q : ℕ) where
  pub refusal-qlock
      : refusal m (step k (qlock Q))
      ≡ (if not (in_range m.sizes (qlock Q)) then some 2
      else if k && held_lock m Q then some 3
      else if is_none m.up && held_lock m Q then some 4
      else none)
  unfolding open_table open_step
  refusal-qlock = refusal-tests m (step k (qlock Q)) ∙ rw (or-false (held_lock m Q))

  pub refused-qlock_3 : in_range m.sizes (qlock Q) ≡ true → k ≡ true → held_lock m Q ≡ true → refusal m (step k (qlock Q)) ≡ some 3
  refused-qlock_3 range marked held = refusal-qlock ∙ rw (range, marked, held)

  pub refused-qlock-4
      : in_range m.sizes (qlock Q) ≡ true → k ≡ false → m.up ≡ none → held_lock m Q ≡ true → refusal m (step k (qlock Q)) ≡ some 4
  refused-qlock-4 range marked up held = refusal-qlock ∙ rw (range, marked, held, up)

  -- Somebody runs: he takes the lock or waits for it.
  pub allowed-qlock
      : {i : ℕ} → in_range m.sizes (qlock Q) ≡ true → k ≡ false → m.up ≡ some i
      → refusal m (step k (qlock Q)) ≡ none
  allowed-qlock range marked up = refusal-qlock ∙ rw (range, marked, up)

  -- A lock that is not held is taken, whoever runs.
  pub allowed-qlock-free : in_range m.sizes (qlock Q) ≡ true → held_lock m Q ≡ false → refusal m (step k (qlock Q)) ≡ none
  allowed-qlock-free range held = refusal-qlock ∙ rw (range, held, and-false k, and-false (is_none m.up))
