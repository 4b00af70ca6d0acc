-- The fields that the machine shows as they are, in two memories of one machine.
use Rattle.std.specs.Prelude.{◌≡◌, ℕ, zero, suc, ◌<◌}
use Rattle.std.proofs.Math.Path.{refl, ap}
use Rattle.std.proofs.Common.{sym, ◌∙◌, arith}
use Rattle.machine.specs.Machine.{Sizes, Machine, Lock, Setting, sleeper, lock, setting, pid_of, asleep}
use Rattle.layout.specs.Memory.{Memory}
use Rattle.state.specs.Fields as fields
use Rattle.state.specs.Abs.{link_to, is_set, run_list, waiter_list, machine_of}
use Rattle.exact.specs.Parts.{pid_of_lem, sleeper_of_lem, lock_of, setting_of_lem}
use Rattle.exact.specs.Tables.{some-link}
use Rattle.determined.specs.Chains.{table_at}
use Rattle.determined.specs.Twins.{Twins, Same, within, bits-same}

-- Links that name the same are the same.
link-same : (l l' : ℕ) → link_to l' ≡ link_to l → l' ≡ l
link-same zero zero e = refl
link-same zero (suc i) e = cc
link-same (suc i) zero e = cc
link-same (suc i) (suc j) e = some-link (suc j) i e

-- What a kernel timer does.
abbrev setting_at : Memory → ℕ → Setting
setting_at m t = record { period = m fields.period t; rendez = m fields.timer_rendez t }

module _ {z : Sizes} {m m' : Memory} (w : Twins z m m') where
  -- The pid of each record, and 0 where it is free.
  pub same-pid : Same m m' fields.pid
  same-pid i = sym (pid_of_lem w.two.bounds i) ∙ ap (λ (x : Machine). pid_of x i) w.machine ∙ pid_of_lem w.one.bounds i

  -- The header: who runs, the next pid, ticks, the last NOW.
  pub same_up : m' fields.up 0 ≡ m fields.up 0
  unfolding machine_of
  same_up = link-same (m fields.up 0) (m' fields.up 0) (ap (λ (x : Machine). x.up) w.machine)

  pub same-next_pid : m' fields.next_pid 0 ≡ m fields.next_pid 0
  unfolding machine_of
  same-next_pid = ap (λ (x : Machine). x.next_pid) w.machine

  pub same-ticks : m' fields.ticks 0 ≡ m fields.ticks 0
  unfolding machine_of
  same-ticks = ap (λ (x : Machine). x.ticks) w.machine

  pub same-last_now : m' fields.last_now 0 ≡ m fields.last_now 0
  unfolding machine_of
  same-last_now = ap (λ (x : Machine). x.last_now) w.machine

  -- asleep counts the machine's sleepers.
  pub same-asleep : m' fields.asleep_count 0 ≡ m fields.asleep_count 0
  same-asleep = omega (arith, w.one.keeps.placed.asleep, w.two.keeps.placed.asleep, ap asleep w.machine)

  -- The run queue as a list.
  pub same-run : run_list z m' ≡ run_list z m
  unfolding machine_of
  same-run = ap (λ (x : Machine). x.run) w.machine

  -- Who sleeps on each Rendez.
  pub same-sleeper : Same m m' fields.sleeper_of
  same-sleeper r =
      link-same (m fields.sleeper_of r) (m' fields.sleeper_of r)
      (sym (sleeper_of_lem w.two.bounds r) ∙ ap (λ (x : Machine). sleeper x r) w.machine ∙ sleeper_of_lem w.one.bounds r)

  -- Whether each lock is held, and who waits for it.
  lock-same : (q : ℕ) → (is_set (m' fields.held q) ≡ is_set (m fields.held q)) × (waiter_list z m' q ≡ waiter_list z m q)
  lock-same q =
      let e : lock (machine_of z m') q ≡ lock (machine_of z m) q = ap (λ (x : Machine). lock x q) w.machine in (
        ap (λ (l : Lock). l.held) (sym (lock_of w.two.bounds q) ∙ e ∙ lock_of w.one.bounds q),
        ap (λ (l : Lock). l.waiters) (sym (lock_of w.two.bounds q) ∙ e ∙ lock_of w.one.bounds q),
      )

  pub same-held : Same m m' fields.held
  same-held q = bits-same w fields.held q refl (lock-same q).0

  pub same-waiters : (q : ℕ) → waiter_list z m' q ≡ waiter_list z m q
  same-waiters q = (lock-same q).1

  -- What each kernel timer does.
  setting_same : (t : ℕ) → t < z.timers → setting_at m' t ≡ setting_at m t
  setting_same t l = sym (setting_of_lem w.two.bounds t l) ∙ ap (λ (x : Machine). setting x t) w.machine ∙ setting_of_lem w.one.bounds t l

  pub same-period : (t : ℕ) → t < z.timers → m' fields.period t ≡ m fields.period t
  same-period t l = ap (λ (x : Setting). x.period) (setting_same t l)

  pub same-rendez : (t : ℕ) → t < z.timers → m' fields.timer_rendez t ≡ m fields.timer_rendez t
  same-rendez t l = ap (λ (x : Setting). x.rendez) (setting_same t l)

  -- The conditions.
  pub same-condition : Same m m' fields.condition_bit
  unfolding machine_of
  same-condition =
      within w fields.condition_bit
      (λ c l. bits-same w fields.condition_bit c refl
      (table_at 256 (λ (c : ℕ). is_set (m fields.condition_bit c)) (λ (c : ℕ). is_set (m' fields.condition_bit c)) (ap (λ (x : Machine). x.conditions) w.machine) c l))
