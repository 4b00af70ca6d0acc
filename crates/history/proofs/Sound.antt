-- What of `Good` the proof of `Demand3` rests on. (`Kept.antt` proves it of every machine that steps make from a fresh one.)
use Rattle.std.specs.Prelude.{◌≡◌, ℕ, ◌+◌, ◌≤◌, ◌<◌, length}
use Rattle.machine.specs.Machine.{Machine, Resume, nothing, in_sleep, in_tsleep, in_qlock, in_wait, process, pid_of}
use Rattle.machine.specs.Good.{InOnePlace}

-- A call that has not returned names a Rendez, or a lock, that there is.
abbrev pub CallFits : (rendezs lock_count : ℕ) → Resume → Type 0
CallFits rendezs lock_count nothing = Unit {0}
CallFits rendezs lock_count (in_sleep r c) = r < rendezs
CallFits rendezs lock_count (in_tsleep r c) = r < rendezs
CallFits rendezs lock_count (in_qlock q) = q < lock_count
CallFits rendezs lock_count in_wait = Unit {0}

pub record Sound (m : Machine) : Type 0 where
  pub rendez : length m.sleepers ≡ m.sizes.rendez
  pub locks : length m.locks ≡ m.sizes.locks
  pub calls : (i : ℕ) → CallFits (length m.sleepers) (length m.locks) (process m i).resume
  pub next_pid : 1 ≤ m.next_pid
  pub in_one_place : InOnePlace m
  pub apart : (i j : ℕ) → 0 < pid_of m i → pid_of m i ≡ pid_of m j → i ≡ j
  pub below : (i : ℕ) → pid_of m i < m.next_pid
  pub quantum : (i : ℕ) → (process m i).quantum_end ≤ m.ticks + 10
