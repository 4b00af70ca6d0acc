-- The number that start and rfork meet.
use Rattle.std.specs.Prelude.{if◌then◌else◌, ◌≡◌, Bool, true, false, not, ◌&&◌, ℕ, ◌-◌, ◌^◌, eqb}
use Rattle.std.proofs.Common.{◌∙◌}
use Rattle.std.proofs.Math.Bool.{and-false, and-true, or-false}
use Rattle.std.proofs.Math.Option.{none, some}
use Rattle.machine.specs.Basics.{is_none}
use Rattle.machine.specs.Machine.{Machine}
use Rattle.machine.specs.Step.{start, rfork, open_step}
use Rattle.machine.specs.Flags.{has, bad, RFPROC}
use Rattle.machine.specs.Exits.{free_record}
use Rattle.machine.specs.Table.{refusal, in_range, open_table}
use Rattle.outcome.specs.Refusals.{step, refusal-tests}

-- start: out of range, marked, no free record, no pid left, or the process cannot be made.
module _ (m : Machine) (k : Bool) (M : ℕ) where
  pub refusal-start
      : refusal m (step k (start M))
      ≡ (if not (in_range m.sizes (start M)) then some 2
      else if k then some 3
      else if is_none (free_record m) then some 12
      else if eqb m.next_pid (2 ^ 64 - 1) then some 16
      else if not (eqb M 0) then some 11
      else none)
  unfolding open_table open_step
  refusal-start = refusal-tests m (step k (start M)) ∙ rw (and-true k, and-false (is_none m.up), or-false (not (eqb M 0)))

  pub refused-start_3 : in_range m.sizes (start M) ≡ true → k ≡ true → refusal m (step k (start M)) ≡ some 3
  refused-start_3 range marked = refusal-start ∙ rw (range, marked)

  pub refused-start-12
      : in_range m.sizes (start M) ≡ true → k ≡ false → free_record m ≡ none
      → refusal m (step k (start M)) ≡ some 12
  refused-start-12 range marked room = refusal-start ∙ rw (range, marked, room)

  pub refused-start-16
      : {j : ℕ} → in_range m.sizes (start M) ≡ true → k ≡ false → free_record m ≡ some j → eqb m.next_pid (2 ^ 64 - 1) ≡ true
      → refusal m (step k (start M)) ≡ some 16
  refused-start-16 range marked room pids = refusal-start ∙ rw (range, marked, room, pids)

  pub refused-start-11
      : {j : ℕ} → in_range m.sizes (start M) ≡ true → k ≡ false → free_record m ≡ some j → eqb m.next_pid (2 ^ 64 - 1) ≡ false
      → eqb M 0 ≡ false
      → refusal m (step k (start M)) ≡ some 11
  refused-start-11 range marked room pids made = refusal-start ∙ rw (range, marked, room, pids, made)

  pub allowed-start
      : {j : ℕ} → in_range m.sizes (start M) ≡ true → k ≡ false → free_record m ≡ some j → eqb m.next_pid (2 ^ 64 - 1) ≡ false
      → eqb M 0 ≡ true
      → refusal m (step k (start M)) ≡ none
  allowed-start range marked room pids made = refusal-start ∙ rw (range, marked, room, pids, made)

-- rfork: out of range, marked, bad flags, nobody runs, and with RFPROC what start meets.
module _ (m : Machine) (k : Bool) (F M : ℕ) where
  pub refusal-rfork
      : refusal m (step k (rfork F M))
      ≡ (if not (in_range m.sizes (rfork F M)) then some 2
      else if k then some 3
      else if bad F then some 10
      else if is_none m.up then some 4
      else if has F RFPROC && is_none (free_record m) then some 12
      else if has F RFPROC && eqb m.next_pid (2 ^ 64 - 1) then some 16
      else if has F RFPROC && not (eqb M 0) then some 11
      else none)
  unfolding open_table open_step
  refusal-rfork = refusal-tests m (step k (rfork F M)) ∙ rw (and-true k, and-true (is_none m.up))

  pub refused-rfork_3 : in_range m.sizes (rfork F M) ≡ true → k ≡ true → refusal m (step k (rfork F M)) ≡ some 3
  refused-rfork_3 range marked = refusal-rfork ∙ rw (range, marked)

  pub refused-rfork_10 : in_range m.sizes (rfork F M) ≡ true → k ≡ false → bad F ≡ true → refusal m (step k (rfork F M)) ≡ some 10
  refused-rfork_10 range marked flags = refusal-rfork ∙ rw (range, marked, flags)

  pub refused-rfork-4
      : in_range m.sizes (rfork F M) ≡ true → k ≡ false → bad F ≡ false → m.up ≡ none
      → refusal m (step k (rfork F M)) ≡ some 4
  refused-rfork-4 range marked flags up = refusal-rfork ∙ rw (range, marked, flags, up)

  pub refused-rfork-12
      : {i : ℕ} → in_range m.sizes (rfork F M) ≡ true → k ≡ false → bad F ≡ false → m.up ≡ some i → has F RFPROC ≡ true
      → free_record m ≡ none
      → refusal m (step k (rfork F M)) ≡ some 12
  refused-rfork-12 range marked flags up child room = refusal-rfork ∙ rw (range, marked, flags, child, room, up)

  pub refused-rfork-16
      : {i j : ℕ} → in_range m.sizes (rfork F M) ≡ true → k ≡ false → bad F ≡ false → m.up ≡ some i → has F RFPROC ≡ true
      → free_record m ≡ some j → eqb m.next_pid (2 ^ 64 - 1) ≡ true
      → refusal m (step k (rfork F M)) ≡ some 16
  refused-rfork-16 range marked flags up child room pids = refusal-rfork ∙ rw (range, marked, flags, child, room, pids, up)

  pub refused-rfork-11
      : {i j : ℕ} → in_range m.sizes (rfork F M) ≡ true → k ≡ false → bad F ≡ false → m.up ≡ some i → has F RFPROC ≡ true
      → free_record m ≡ some j → eqb m.next_pid (2 ^ 64 - 1) ≡ false → eqb M 0 ≡ false
      → refusal m (step k (rfork F M)) ≡ some 11
  refused-rfork-11 range marked flags up child room pids made = refusal-rfork ∙ rw (range, marked, flags, child, room, pids, made, up)

  -- RFPROC: a process is made.
  pub allowed-rfork
      : {i j : ℕ} → in_range m.sizes (rfork F M) ≡ true → k ≡ false → bad F ≡ false → m.up ≡ some i → has F RFPROC ≡ true
      → free_record m ≡ some j → eqb m.next_pid (2 ^ 64 - 1) ≡ false → eqb M 0 ≡ true
      → refusal m (step k (rfork F M)) ≡ none
  allowed-rfork range marked flags up child room pids made = refusal-rfork ∙ rw (range, marked, flags, child, room, pids, made, up)

  -- No RFPROC: no process is to be made.
  pub allowed-rfork-same
      : {i : ℕ} → in_range m.sizes (rfork F M) ≡ true → k ≡ false → bad F ≡ false → m.up ≡ some i → has F RFPROC ≡ false
      → refusal m (step k (rfork F M)) ≡ none
  allowed-rfork-same range marked flags up child = refusal-rfork ∙ rw (range, marked, flags, child, up)
