-- The clock: how many ticks it has made, and the last reading of it.
use Rattle.std.specs.Prelude.{◌≡◌, refl, List, [], ◌∷◌, ℕ, suc, ◌+◌, ◌<◌}
use Rattle.std.proofs.Common.{arith, Fits, lit<}
use Rattle.std.specs.Int.{w64}
use Rattle.machine.specs.Machine.{Machine}
use Rattle.machine.specs.Update.{with_ticks, with_last_now}
use Rattle.layout.specs.Memory.{Memory}
use Rattle.layout.specs.Table.{slot}
use Rattle.layout.specs.Writes.{Write, to, updates}
use Rattle.state.specs.Fields as fields
use Rattle.state.specs.Abs.{run_list, waiter_list, timer_list, exit_list, waits_on, exit_at, process_at, machine_of}
use Rattle.state.specs.Places.{sizes_in, mem_in, PutIn}
use Rattle.state.specs.declared.Sizes.{Sizes}
use Rattle.holds.specs.Use.{used_by, none, more, before}
use Rattle.timer.specs.Only.{Owing}
use Rattle.timer.specs.Del.{machine_in}
use Rattle.clockwork.specs.Stores.{Became, became}

-- The machine's ticks.
pub record Ticks (z : Sizes) (s : List ℕ) (r : ℕ) : Type 0 where
  pub answer : r ≡ (machine_in z s).ticks

pub ticks_are : {z : Sizes} {s : List ℕ} {v : ℕ} → v ≡ mem_in z s fields.ticks 0 → Ticks z s v
unfolding machine_of
ticks_are e = record { answer = e }

-- One tick more.
abbrev pub tick_stores : Memory → List Write
tick_stores m = to fields.ticks 0 (suc (m fields.ticks 0)) ∷ []

abbrev pub ticked : Machine → Machine
ticked M = with_ticks (suc M.ticks) M

pub record TickAsks (z : Sizes) (s : List ℕ) : Type 0 where
  pub owing : Owing z s
  pub room : mem_in z s fields.ticks 0 < 18446744073709551615

machine-ticks : (z : Sizes) (m : Memory) (v : ℕ) → machine_of (sizes_in z) (updates m (to fields.ticks 0 v ∷ [])) ≡ with_ticks v (machine_of (sizes_in z) m)
unfolding machine_of with_ticks run_list waiter_list timer_list process_at exit_list exit_at waits_on
machine-ticks z m v = refl

pub tick-made
    : {z : Sizes} {s s' : List ℕ} {v : ℕ}
    → TickAsks z s
    → v ≡ mem_in z s fields.ticks 0
    → PutIn z s s' (slot 0 48 8) 0 (v + 1)
    → Became z s s' (tick_stores (mem_in z s)) (ticked (machine_in z s))
unfolding machine_of used_by
tick-made {z} {s} {s'} {v} a e p =
    let w : suc (mem_in z s fields.ticks 0) ≡ v + 1 = omega (arith, e) in
    became a.owing (record { bytes = rw w p.bytes; long = p.long }) (omega (arith, a.room)) (refl, tt) (more (before (lit< tt)) none)
    (machine-ticks z (mem_in z s) (suc (mem_in z s fields.ticks 0)))

-- The last reading.
abbrev pub now_stores : ℕ → List Write
now_stores v = to fields.last_now 0 v ∷ []

machine_now : (z : Sizes) (m : Memory) (v : ℕ) → machine_of (sizes_in z) (updates m (now_stores v)) ≡ with_last_now v (machine_of (sizes_in z) m)
unfolding machine_of with_last_now run_list waiter_list timer_list process_at exit_list exit_at waits_on
machine_now z m v = refl

pub now_set
    : {z : Sizes} {s s' : List ℕ} {v : ℕ}
    → Owing z s
    → PutIn z s s' (slot 0 56 8) 0 v
    → Fits w64 v
    → Became z s s' (now_stores v) (with_last_now v (machine_in z s))
unfolding used_by
now_set {z} {s} {s'} {v} o p b =
    became o (record { bytes = p.bytes; long = p.long }) (omega (arith, b)) (refl, tt) (more (before (lit< tt)) none) (machine_now z (mem_in z s) v)
