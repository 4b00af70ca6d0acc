-- The steps that make a process: start and rfork.
use Rattle.std.specs.Prelude.{◌≡◌, refl, Bool, true, false, not, List, [], ◌∷◌, ℕ, suc, ◌+◌, ◌-◌, ◌^◌, ◌<◌, eqb, length, replicate}
use Rattle.std.proofs.Common.{sym, ap, ◌∙◌, subst, inr, arith, eqb-true, length-set}
use Rattle.std.proofs.Math.Option.{Option, none, some}
use Rattle.machine.specs.Basics.{elem, count, concat_map}
use Rattle.machine.specs.Machine.{nothing, Machine, Process, free, process, living}
use Rattle.machine.specs.Update.{with_next_pid, with_process, with_nchild}
use Rattle.machine.specs.Step.{start, rfork, open_step}
use Rattle.machine.specs.Outcome.{open_outcome}
use Rattle.machine.specs.Flags.{has, RFPROC, RFNOWAIT}
use Rattle.machine.specs.Exits.{free_record}
use Rattle.machine.specs.Table.{refusal, open_table}
use Rattle.machine.specs.Perform.{perform, made, start_of, rfork_of}
use Rattle.machine.specs.Good.{Each, Byte, ProcessInRange, IsTsleep, running_in}
use Rattle.lists.specs.Lists.{bit, highest-some, highest-none, count_self, count-other}
use Rattle.kept.specs.Fine.{at, waiters_of, Fine}
use Rattle.kept.specs.Fresh.{each-replicate}
use Rattle.kept.specs.SpotsLaws.{get_cases, pid-lives, pid_dead, spots-process, pid-low}
use Rattle.kept.specs.KinLaws.{records-set, kin-born}
use Rattle.kept.specs.ClockLaws.{own-process}
use Rattle.kept.specs.FineLaws.{fine-body}
use Rattle.kept.specs.Moves.{count_none, count-some, up-lives, enter_run}
use Rattle.kept.specs.Allowed.{allowed, step, runner, room, pid-left}
use Rattle.kept.specs.Simple.{current-is, record_range}

-- A new process's record.
newborn : (pid : ℕ) (text : List ℕ) (parent : ℕ) → Process
newborn p text parent =
    record {
      pid = p;
      name = text;
      parent = parent;
      nchild = 0;
      exits = [];
      quantum_end = 0;
      resume = nothing;
      on_waitr = false;
    }

-- A process is born into limbo, in a free record.
born : {w : List ℕ} (m : Machine) → Fine none w m → (i : ℕ) (text : List ℕ) (q : ℕ)
    → i < length m.processes
    → (at m.processes i).pid ≡ 0
    → m.next_pid < 2 ^ 64 - 1
    → length text ≡ 28
    → Each Byte text
    → q < m.next_pid
    → ((a : ℕ) → 0 < a → count a w ≡ count a (q ∷ []))
    → Fine (some i) [] (with_process i (newborn m.next_pid text q) (with_next_pid (suc m.next_pid) m))
unfolding newborn with_process with_next_pid count free
born {w} m f i text q l z n t b p owed =
    let ps : List Process = m.processes in
    let v : Process = newborn m.next_pid text q in
    let d : bit (living (at ps i)) ≡ 0 = ap bit (pid_dead (at ps i) z) in
    let gone : at ps i ≡ free = f.records.freed i z in
    let s : count i (running_in none) + count i (running_in m.up) + count i m.run + count i (concat_map running_in m.sleepers) + bit (at ps i).on_waitr + count i (concat_map waiters_of m.locks) ≡ bit (living (at ps i)) = f.spots.placed i in
    record {
      sizes = f.sizes;
      next = (omega arith, omega arith);
      conditions = f.conditions;
      records = records-set f.records i v l (record { name = t; bytes = b; exits = omega arith; each = tt; resume = tt }) (λ e. absurd (omega (arith, f.next.0))) (λ c. omega (arith, f.records.cells c)) (omega arith);
      kin = kin-born f.kin i v l z f.next.0 refl refl p owed;
      clockwork = f.clockwork;
      tsleeping = own-process m.sizes ps m.queued i v f.tsleeping l (λ c. subst (λ (x : Process). IsTsleep x.resume) gone (f.tsleeping i c));
      spots = spots-process f.spots (some i) i v l
          (λ k e. count-some k i ∙ count-other k i e ∙ sym (count_none k))
          (omega (arith, count-some i i, count_self i, count_none i, ap bit (pid-lives v f.next.0)))
          (inr (omega arith))
          (λ e. let x : ◌≡◌ {A = ℕ} 0 1 = cc in absurd (omega arith));
    }

-- The record that is found free is free; and where one is, one is found.
free_dead : (m : Machine) (i : ℕ) → free_record m ≡ some i → (i < length m.processes) × ((at m.processes i).pid ≡ 0)
unfolding free_record process living
free_dead m i e = go (highest-some (length m.processes) (λ i. not (living (process m i))) i e)
  where
    dead : (b : Bool) → eqb (at m.processes i).pid 0 ≡ b → not (not b) ≡ true → (at m.processes i).pid ≡ 0
    dead true p h = eqb-true (at m.processes i).pid 0 p
    dead false p h = let x : ◌≡◌ {A = ℕ} 0 1 = cc in absurd (omega arith)

    go : (i < length m.processes) × (not (living (process m i)) ≡ true) → (i < length m.processes) × ((at m.processes i).pid ≡ 0)
    go h = (h.0, dead (eqb (at m.processes i).pid 0) refl h.1)

-- Where a record is free, one is found.
free-found : (m : Machine) (i : ℕ) → i < length m.processes → (at m.processes i).pid ≡ 0 → (j : ℕ) × (free_record m ≡ some j)
unfolding free_record process
free-found m i l z = go (free_record m) refl
  where
    go : (o : Option ℕ) → free_record m ≡ o → (j : ℕ) × (free_record m ≡ some j)
    go none e =
        let a : not (living (at m.processes i)) ≡ false = highest-none (length m.processes) (λ i. not (living (process m i))) e i l in
        let b : not (living (at m.processes i)) ≡ true = ap not (pid_dead (at m.processes i) z) in
        let x : ◌≡◌ {A = ℕ} 0 1 = cc in
        absurd (omega arith)
    go (some j) e = (j, e)

-- It is born and ready.
fine-made : {w : List ℕ} (m : Machine) → Fine none w m → (i : ℕ) (text : List ℕ) (q : ℕ)
    → free_record m ≡ some i
    → m.next_pid < 2 ^ 64 - 1
    → length text ≡ 28
    → Each Byte text
    → q < m.next_pid
    → ((a : ℕ) → 0 < a → count a w ≡ count a (q ∷ []))
    → Fine none [] (made text q m)
unfolding made newborn
fine-made m f i text q e n t b p owed =
    let d : (i < length m.processes) × ((at m.processes i).pid ≡ 0) = free_dead m i e in
    rw (e, made) (enter_run (with_process i (newborn m.next_pid text q) (with_next_pid (suc m.next_pid) m)) (born m f i text q d.0 d.1 n t b p owed))

-- Nothing is owed to nobody.
owed_none : (a : ℕ) → 0 < a → count a [] ≡ count a (0 ∷ [])
unfolding count
owed_none a l = sym (count-other a 0 (λ e. omega arith))

-- `start`: 12 and 16 were tested.
pub kept-start : (m : Machine) (k : Bool) (M : ℕ) → refusal m (step k (start M)) ≡ none → Fine none [] m → Fine none [] (perform (start M) m).after
unfolding perform start_of open_outcome open_table open_step elem
kept-start m k M e f =
    let r : (i : ℕ) × (free_record m ≡ some i) = room m k (start M) e refl refl in
    let n : (m.next_pid ≡ 2 ^ 64 - 1 → ⊥) = pid-left m k (start M) (allowed m (step k (start M)) e 16 refl) refl in
    fine-made m f r.0 (replicate 28 0) 0 r.1 (omega (arith, n, f.next.1)) refl (each-replicate Byte 28 0 (omega arith)) f.next.0 owed_none

-- The parent counts one child more, which is owed to it.
expecting : (m : Machine) → Fine none [] m → (i : ℕ) → 0 < (at m.processes i).pid → Fine none ((at m.processes i).pid ∷ []) (with_process i (with_nchild (suc (process m i).nchild) (process m i)) m)
unfolding with_nchild process count
expecting m f i a =
    let r : ProcessInRange m.sizes (at m.processes i) = record_range m f i a in
    fine-body m f ((at m.processes i).pid ∷ []) i (with_nchild (suc (process m i).nchild) (process m i)) a refl refl refl refl
    (record { name = r.name; bytes = r.bytes; exits = r.exits; each = r.each; resume = r.resume })
    (f.records.quantum i) (λ c. omega (arith, f.records.cells c))
    (omega (arith, count_self (at m.processes i).pid))
    (λ k d l. count-other (at m.processes k).pid (at m.processes i).pid (λ e. d (f.kin.apart k i l e)))

-- `rfork`: without RFPROC nothing changes; with RFNOWAIT nobody is owed the child; else the parent counts it first.
pub kept-rfork : (m : Machine) (k : Bool) (F M : ℕ) → refusal m (step k (rfork F M)) ≡ none → Fine none [] m → Fine none [] (perform (rfork F M) m).after
unfolding perform rfork_of with_process with_nchild process open_outcome open_table open_step elem
kept-rfork m k F M e f = go (has F RFPROC) refl (has F RFNOWAIT) refl
  where
    u : (i : ℕ) × (m.up ≡ some i)
    u = runner m k (rfork F M) e refl refl

    i : ℕ
    i = u.0

    a : 0 < (at m.processes i).pid
    a = up-lives m f i u.1

    r : ProcessInRange m.sizes (at m.processes i)
    r = record_range m f i a

    v : Process
    v = with_nchild (suc (process m i).nchild) (process m i)

    n : Machine
    n = with_process i v m

    -- the record that is free stays so
    again : (j : ℕ) → free_record m ≡ some j → (j : ℕ) × (free_record n ≡ some j)
    again j h =
        let d : (j < length m.processes) × ((at m.processes j).pid ≡ 0) = free_dead m j h in
        free-found n j (omega (arith, d, length-set m.processes i v))
        (get_cases (λ (k : ℕ) (x : Process). (at m.processes k).pid ≡ 0 → x.pid ≡ 0) m.processes i v free j (pid-low m.processes i a) (λ z. z) (λ d z. z) d.1)

    go : (p : Bool) → has F RFPROC ≡ p → (w : Bool) → has F RFNOWAIT ≡ w → Fine none [] (rfork_of F m).after
    go false p w h = rw (p, rfork_of) f
    go true p w h =
        let t : (j : ℕ) × (free_record m ≡ some j) = room m k (rfork F M) e refl (rw p) in
        let l : m.next_pid < 2 ^ 64 - 1 = omega (arith, pid-left m k (rfork F M) (allowed m (step k (rfork F M)) e 16 refl) (rw p), f.next.1) in
        how w h t l
      where
        how : (w : Bool) → has F RFNOWAIT ≡ w → (j : ℕ) × (free_record m ≡ some j) → m.next_pid < 2 ^ 64 - 1 → Fine none [] (rfork_of F m).after
        how true h t l = rw (p, rfork_of, h, current-is m i u.1) (fine-made m f t.0 (process m i).name 0 t.1 l r.name r.bytes f.next.0 owed_none)
        how false h t l =
            let s : (j : ℕ) × (free_record n ≡ some j) = again t.0 t.1 in
            rw (p, rfork_of, h, current-is m i u.1) (fine-made n (expecting m f i a) s.0 (process m i).name (process m i).pid s.1 l r.name r.bytes (f.kin.below i) (λ b l. refl))
