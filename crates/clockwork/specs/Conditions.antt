-- Conditions: what sleepers wait for.
use Rattle.std.specs.Prelude.{◌≡◌, refl, Bool, true, false, List, [], ◌∷◌, ℕ}
use Rattle.std.proofs.Common.{sym, ap, ◌∙◌, arith, Fits, eq-eqb, ne_eqb, lit<}
use Rattle.std.specs.Int.{w8}
use Rattle.machine.specs.Machine.{Machine, condition}
use Rattle.machine.specs.Update.{with_condition}
use Rattle.layout.specs.Memory.{Memory}
use Rattle.layout.specs.Table.{slot}
use Rattle.layout.specs.Writes.{Write, to, updates}
use Rattle.state.specs.Fields as fields
use Rattle.state.specs.Abs.{is_set, run_list, waiter_list, timer_list, exit_list, waits_on, exit_at, process_at, machine_of}
use Rattle.state.specs.Tables.{table-get}
use Rattle.state.specs.Places.{sizes_in, mem_in, PutIn}
use Rattle.state.specs.declared.Sizes.{Sizes}
use Rattle.holds.specs.Parts.{table-set}
use Rattle.holds.specs.Use.{used_by, none, more, before}
use Rattle.lists.specs.Lists.{bit, bit-small}
use Rattle.timer.specs.Only.{Owing}
use Rattle.timer.specs.Del.{machine_in}
use Rattle.clockwork.specs.Stores.{Became, became}

-- The machine's condition c.
pub record Condition (z : Sizes) (s : List ℕ) (c : ℕ) (r : Bool) : Type 0 where
  pub answer : r ≡ condition (machine_in z s) c

pub condition-is
    : {z : Sizes} {s : List ℕ} {c v : ℕ} → Owing z s → Fits w8 c → v ≡ mem_in z s fields.condition_bit c → Condition z s c (is_set v)
unfolding condition machine_of
condition-is {z} {s} {c} o b e =
    record {
      answer =
          ap (λ (k : ℕ). is_set k) e ∙ sym (table-get 256 (λ k. is_set (mem_in z s fields.condition_bit k)) c false (omega (arith, b)));
    }

-- It becomes v.
abbrev pub condition_stores : ℕ → Bool → List Write
condition_stores c v = to fields.condition_bit c (bit v) ∷ []

set_bit : (v : Bool) → is_set (bit v) ≡ v
set_bit true = refl
set_bit false = refl

machine-condition
    : (z : Sizes) (m : Memory) (c : ℕ) (v : Bool)
    → machine_of (sizes_in z) (updates m (condition_stores c v)) ≡ with_condition c v (machine_of (sizes_in z) m)
unfolding machine_of with_condition run_list waiter_list timer_list process_at exit_list exit_at waits_on
machine-condition z m c v =
    let M : Machine = machine_of (sizes_in z) m in
    ap (λ (x : List Bool). record {
      sizes = M.sizes;
      next_pid = M.next_pid;
      ticks = M.ticks;
      last_now = M.last_now;
      up = M.up;
      run = M.run;
      processes = M.processes;
      sleepers = M.sleepers;
      locks = M.locks;
      settings = M.settings;
      queued = M.queued;
      conditions = x;
    })
    (table-set 256 (λ k. is_set (m fields.condition_bit k)) (λ k. is_set (updates m (condition_stores c v) fields.condition_bit k)) c v
    (rw (eq-eqb c c refl) (set_bit v)) (λ k l ne. rw (ne_eqb c k ne)))

pub condition-set
    : {z : Sizes} {s s' : List ℕ} {c w : ℕ} (v : Bool)
    → Owing z s
    → Fits w8 c
    → w ≡ bit v
    → PutIn z s s' (slot 8 0 1) c w
    → Became z s s' (condition_stores c v) (with_condition c v (machine_in z s))
unfolding used_by
condition-set {z} {s} {s'} {c} {w} v o b e p =
    became o (record { bytes = rw e at p.bytes; long = p.long }) (omega (arith, b, bit-small v)) (refl, tt) (more (before (lit< tt)) none) (machine-condition z (mem_in z s) c v)
