-- A machine stays fine when one part of it is replaced and the groups that read the part are kept.
use Rattle.std.specs.Prelude.{◌≡◌, refl, Bool, true, ◌⊎◌, ℕ, suc, ◌+◌, ◌-◌, ◌^◌, ◌≤◌, ◌<◌, set, List, map}
use Rattle.std.proofs.Common.{sym, ◌∙◌, inl, arith}
use Rattle.std.proofs.Math.Path.{ap, subst}
use Rattle.std.proofs.Math.Option.{Option}
use Rattle.std.proofs.Math.ListN.{length, length-set}
use Rattle.machine.specs.Basics.{count, concat_map}
use Rattle.machine.specs.Machine.{Resume, in_wait, Process, Lock, Setting, Queued, Machine, living}
use Rattle.machine.specs.Update.{with_next_pid, with_ticks, with_last_now, with_up, with_run, with_process, with_sleeper, with_lock, with_setting, with_queued, with_condition}
use Rattle.machine.specs.Good.{ProcessInRange, IsTsleep, running_in}
use Rattle.lists.specs.Lists.{bit}
use Rattle.kept.specs.Fine.{at, cells_in, waiters_of, timers_of, Records, Clockwork, Tsleeping, Spots, Fine}
use Rattle.kept.specs.SpotsLaws.{lives-pid, pid-low, pid-lives, spots-process}
use Rattle.kept.specs.KinLaws.{records-set, kin-owed, kin-next, kin_change}
use Rattle.kept.specs.ClockLaws.{own-process}

module _ {o : Option ℕ} {w : List ℕ} (m : Machine) (f : Fine o w m) where
  -- A condition is set.
  pub fine-condition : (c : ℕ) (v : Bool) → Fine o w (with_condition c v m)
  unfolding with_condition
  fine-condition c v =
      record { sizes = f.sizes; next = f.next; conditions = length-set m.conditions c v ∙ f.conditions; records = f.records; kin = f.kin; clockwork = f.clockwork; tsleeping = f.tsleeping; spots = f.spots }

  -- The next pid rises where it is not the last one.
  pub fine-next : m.next_pid < 2 ^ 64 - 1 → Fine o w (with_next_pid (suc m.next_pid) m)
  unfolding with_next_pid
  fine-next l =
      record { sizes = f.sizes; next = (omega arith, omega arith); conditions = f.conditions; records = f.records; kin = kin-next f.kin; clockwork = f.clockwork; tsleeping = f.tsleeping; spots = f.spots }

  -- Nobody lives who has a pid to which something else is owed now.
  pub fine-owed : (w' : List ℕ) → ((k : ℕ) → 0 < (at m.processes k).pid → count (at m.processes k).pid w' ≡ count (at m.processes k).pid w) → Fine o w' m
  fine-owed w' h =
      record { sizes = f.sizes; next = f.next; conditions = f.conditions; records = f.records; kin = kin-owed f.kin w' h; clockwork = f.clockwork; tsleeping = f.tsleeping; spots = f.spots }

  -- The clock's parts.
  pub fine-queued : (qd : List Queued) → Clockwork m.sizes m.settings qd m.ticks m.last_now → Tsleeping m.sizes m.processes qd → Fine o w (with_queued qd m)
  unfolding with_queued
  fine-queued qd c t =
      record { sizes = f.sizes; next = f.next; conditions = f.conditions; records = f.records; kin = f.kin; clockwork = c; tsleeping = t; spots = f.spots }

  -- the last NOW
  pub fine_now : (now : ℕ) → Clockwork m.sizes m.settings m.queued m.ticks now → Fine o w (with_last_now now m)
  unfolding with_last_now
  fine_now now c =
      record { sizes = f.sizes; next = f.next; conditions = f.conditions; records = f.records; kin = f.kin; clockwork = c; tsleeping = f.tsleeping; spots = f.spots }

  -- the setting of a timer
  pub fine-setting : (t : ℕ) (v : Setting) → Clockwork m.sizes (set m.settings t v) m.queued m.ticks m.last_now → Fine o w (with_setting t v m)
  unfolding with_setting
  fine-setting t v c =
      record { sizes = f.sizes; next = f.next; conditions = f.conditions; records = f.records; kin = f.kin; clockwork = c; tsleeping = f.tsleeping; spots = f.spots }

  -- the ticks, which the quanta of the records read too
  pub fine-ticks : (n : ℕ) → Clockwork m.sizes m.settings m.queued n m.last_now → Records m.sizes m.processes n → Fine o w (with_ticks n m)
  unfolding with_ticks
  fine-ticks n c r =
      record { sizes = f.sizes; next = f.next; conditions = f.conditions; records = r; kin = f.kin; clockwork = c; tsleeping = f.tsleeping; spots = f.spots }

  -- The places other than the own waitrs.
  pub fine_up : (o' up : Option ℕ) → Spots m.sizes o' up m.run m.sleepers m.processes m.locks → Fine o' w (with_up up m)
  unfolding with_up
  fine_up o' up s =
      record { sizes = f.sizes; next = f.next; conditions = f.conditions; records = f.records; kin = f.kin; clockwork = f.clockwork; tsleeping = f.tsleeping; spots = s }

  -- the run queue
  pub fine-run : (o' : Option ℕ) (run : List ℕ) → Spots m.sizes o' m.up run m.sleepers m.processes m.locks → Fine o' w (with_run run m)
  unfolding with_run
  fine-run o' run s =
      record { sizes = f.sizes; next = f.next; conditions = f.conditions; records = f.records; kin = f.kin; clockwork = f.clockwork; tsleeping = f.tsleeping; spots = s }

  -- a Rendez
  pub fine-sleeper : (o' : Option ℕ) (r : ℕ) (v : Option ℕ) → Spots m.sizes o' m.up m.run (set m.sleepers r v) m.processes m.locks → Fine o' w (with_sleeper r v m)
  unfolding with_sleeper
  fine-sleeper o' r v s =
      record { sizes = f.sizes; next = f.next; conditions = f.conditions; records = f.records; kin = f.kin; clockwork = f.clockwork; tsleeping = f.tsleeping; spots = s }

  -- a lock
  pub fine-lock : (o' : Option ℕ) (q : ℕ) (v : Lock) → Spots m.sizes o' m.up m.run m.sleepers m.processes (set m.locks q v) → Fine o' w (with_lock q v m)
  unfolding with_lock
  fine-lock o' q v s =
      record { sizes = f.sizes; next = f.next; conditions = f.conditions; records = f.records; kin = f.kin; clockwork = f.clockwork; tsleeping = f.tsleeping; spots = s }

  -- A record of a living process keeps its pid, its parent and its call, and what else it holds is in order.
  pub fine-body : (w' : List ℕ) (i : ℕ) (v : Process)
      → 0 < (at m.processes i).pid
      → v.pid ≡ (at m.processes i).pid
      → v.parent ≡ (at m.processes i).parent
      → v.resume ≡ (at m.processes i).resume
      → v.on_waitr ≡ (at m.processes i).on_waitr
      → ProcessInRange m.sizes v
      → v.quantum_end ≤ m.ticks + 10
      → ((c : ℕ) → count c (concat_map cells_in m.processes) + count c (cells_in v) ≤ 1 + count c (cells_in (at m.processes i)))
      → v.nchild + count (at m.processes i).pid w ≡ (at m.processes i).nchild + count (at m.processes i).pid w'
      → ((k : ℕ) → (k ≡ i → ⊥) → 0 < (at m.processes k).pid → count (at m.processes k).pid w' ≡ count (at m.processes k).pid w)
      → Fine o w' (with_process i v m)
  unfolding with_process living
  fine-body w' i v a pe qe re we p q c n k =
      let ps : List Process = m.processes in
      let l : i < length ps = pid-low ps i a in
      record {
        sizes = f.sizes;
        next = f.next;
        conditions = f.conditions;
        records = records-set f.records i v l p (λ e. absurd (omega arith)) c q;
        kin = kin_change f.kin w' i v l pe qe (λ z. n) k;
        clockwork = f.clockwork;
        tsleeping = own-process m.sizes ps m.queued i v f.tsleeping l (λ h. subst (λ (r : Resume). IsTsleep r) (sym re) (f.tsleeping i h));
        spots = spots-process f.spots o i v l (λ k d. refl) (omega (arith, ap bit we, ap bit (pid-lives (at ps i) a), ap bit (pid-lives v (omega arith)))) (inl re) (λ e. re ∙ f.spots.waiter i (sym we ∙ e));
      }

  -- A record of a living process gets another call, and goes to or from its waitr.
  pub fine-call : (o' : Option ℕ) (i : ℕ) (v : Process)
      → 0 < (at m.processes i).pid
      → v.pid ≡ (at m.processes i).pid
      → v.parent ≡ (at m.processes i).parent
      → v.nchild ≡ (at m.processes i).nchild
      → v.exits ≡ (at m.processes i).exits
      → v.quantum_end ≡ (at m.processes i).quantum_end
      → ProcessInRange m.sizes v
      → (1 ≤ count (m.sizes.timers + i) (timers_of m.queued) → IsTsleep v.resume)
      → ((k : ℕ) → (k ≡ i → ⊥) → count k (running_in o') ≡ count k (running_in o))
      → count i (running_in o') + bit v.on_waitr ≡ count i (running_in o) + bit (at m.processes i).on_waitr
      → (v.resume ≡ (at m.processes i).resume) ⊎ (count i (running_in m.up) + count i (concat_map running_in m.sleepers) + count i (concat_map waiters_of m.locks) ≡ 0)
      → (v.on_waitr ≡ true → v.resume ≡ in_wait)
      → Fine o' w (with_process i v m)
  unfolding with_process
  fine-call o' i v a pe qe ne ee te p own k c r x =
      let ps : List Process = m.processes in
      let l : i < length ps = pid-low ps i a in
      record {
        sizes = f.sizes;
        next = f.next;
        conditions = f.conditions;
        records = records-set f.records i v l p (λ e. absurd (omega arith)) (λ c. omega (arith, f.records.cells c, ap {B = ℕ} (λ es. count c (map (λ e. e.cell) es)) ee)) (omega (arith, f.records.quantum i));
        kin = kin_change f.kin w i v l pe qe (λ z. omega arith) (λ k d z. refl);
        clockwork = f.clockwork;
        tsleeping = own-process m.sizes ps m.queued i v f.tsleeping l own;
        spots = spots-process f.spots o' i v l k (omega (arith, ap bit (pid-lives (at ps i) a), ap bit (pid-lives v (omega arith)))) r x;
      }

  -- Whoever is counted somewhere lives.
  pub counted-lives : (i : ℕ)
      → 1 ≤ count i (running_in o) + count i (running_in m.up) + count i m.run + count i (concat_map running_in m.sleepers) + bit (at m.processes i).on_waitr + count i (concat_map waiters_of m.locks)
      → 0 < (at m.processes i).pid
  counted-lives i h = lives-pid (at m.processes i) (omega (arith, f.spots.placed i))
