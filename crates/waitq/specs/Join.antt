-- One change of a record's exits after another, and none.
use Rattle.std.specs.Prelude.{◌≡◌, refl, List, map, length, ℕ, ◌<◌}
use Rattle.std.proofs.Common.{sym, subst, ◌∙◌, arith, get_or-set_same, set-set}
use Rattle.std.proofs.Math.Path.{ap}
use Rattle.machine.specs.Machine as machine
use Rattle.machine.specs.Machine.{Machine, Process, Exit, free, process}
use Rattle.machine.specs.Update.{with_process, with_exits}
use Rattle.layout.specs.Memory.{Memory}
use Rattle.state.specs.Fields as fields
use Rattle.state.specs.Abs.{exit_at, exit_list, process_at, machine_of}
use Rattle.state.specs.Tables.{table-length}
use Rattle.state.specs.WellFormed.{Used, Cells}
use Rattle.exact.specs.Bounds.{InBounds, at_most}
use Rattle.waitq.specs.Change.{Changed, changed}

-- A record that is replaced twice.
replaced_twice
    : (m : Machine) (i : ℕ) (p q : Process)
    → with_process i q (with_process i p m) ≡ with_process i q m
unfolding with_process
replaced_twice m i p q =
    λ j. record {
      sizes = m.sizes;
      next_pid = m.next_pid;
      ticks = m.ticks;
      last_now = m.last_now;
      up = m.up;
      run = m.run;
      processes = set-set m.processes i p q j;
      sleepers = m.sleepers;
      locks = m.locks;
      settings = m.settings;
      queued = m.queued;
      conditions = m.conditions;
    }

replaced : (m : Machine) (i : ℕ) (p : Process) → i < length m.processes → process (with_process i p m) i ≡ p
unfolding with_process process
replaced m i p l = get_or-set_same m.processes i p free l

exits_twice
    : (m : Machine) (i : ℕ) (es fs : List Exit)
    → i < length m.processes
    → with_process i (with_exits fs (process (with_process i (with_exits es (process m i)) m) i)) (with_process i (with_exits es (process m i)) m)
    ≡ with_process i (with_exits fs (process m i)) m
unfolding with_exits
exits_twice m i es fs l =
    let p : Process = with_exits es (process m i) in
    ap (λ (q : Process). with_process i (with_exits fs q) (with_process i p m)) (replaced m i p l) ∙ replaced_twice m i p (with_exits fs p)

module _ {z : machine.Sizes} {m m₁ m₂ : Memory} {i : ℕ} {xs ys : List ℕ} (l : i < z.processes) (d : Changed z m m₁ i xs) (e : Changed z m₁ m₂ i ys) where
  machine_join : machine_of z m₂ ≡ with_process i (with_exits (map (exit_at m₂) ys) (process (machine_of z m) i)) (machine_of z m)
  unfolding machine_of
  machine_join =
      e.machine
      ∙ ap (λ (k : Machine). with_process i (with_exits (map (exit_at m₂) ys) (process k i)) k) d.machine
      ∙ exits_twice (machine_of z m) i (map (exit_at m₁) xs) (map (exit_at m₂) ys) (rw (table-length z.processes (process_at m)) l)

  pub changed_join : Changed z m m₂ i ys
  unfolding with_exits
  changed_join =
      record {
        cells = e.cells;
        pids = e.pids ∙ d.pids;
        list = e.list;
        others = λ j u ne. e.others j (subst (λ (g : ℕ → ℕ). 0 < g j) (sym d.pids) u) ne ∙ d.others j u ne;
        at = e.at ∙ ap (with_exits (map (exit_at m₂) ys)) d.at;
        apart = λ j ne. e.apart j ne ∙ d.apart j ne;
        machine = machine_join;
      }

pub changed-none : {z : machine.Sizes} {m : Memory} {i : ℕ} → InBounds z m → Cells z m → Used m i → Changed z m m i (exit_list m i)
changed-none {z} {m} {i} b h u =
    changed b h (λ f e. refl)
    (record {
      used = u;
      first = λ j ne. refl;
      number = λ j ne. refl;
      next = λ c j ne o. refl;
      stays = λ c j ne o. o;
      stayed = λ c j ne o. o;
      holds = λ c j ne o. refl;
      chain = h.chain i u;
      counted = h.counted i u;
      room = omega (arith, h.counted i u, at_most b fields.nexits i);
      owned = h.owned i u;
      named = λ c o. (h.owner c i o).1;
    })
