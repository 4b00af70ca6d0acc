-- A new process takes the free record of the highest number and the next pid: what `alloc` asks and ensures.
use Rattle.std.specs.Prelude.{◌≡◌, List, ◌++◌, ℕ, suc, ◌-◌, ◌≤◌, ◌<◌}
use Rattle.std.proofs.Math.Path.{refl, sym, ap, subst}
use Rattle.std.proofs.Common.{◌∙◌, arith}
use Rattle.std.proofs.Math.Option.{none, some, get_or}
use Rattle.machine.specs.Machine.{Machine}
use Rattle.machine.specs.Update.{with_next_pid, with_process}
use Rattle.machine.specs.Exits.{free_record}
use Rattle.machine.specs.Places.{ready}
use Rattle.machine.specs.Perform.{made}
use Rattle.memory.specs.Link.{link}
use Rattle.layout.specs.Memory.{Memory}
use Rattle.layout.specs.Writes.{Write}
use Rattle.state.specs.Fields as fields
use Rattle.state.specs.Abs.{link_to, machine_of}
use Rattle.state.specs.Places.{sizes_in, mem_in}
use Rattle.state.specs.declared.Sizes.{Sizes}
use Rattle.record.specs.declared.Proc.{Proc}
use Rattle.holds.specs.Holds.{Holds}
use Rattle.holds.specs.Use.{same_use}
use Rattle.holds.specs.Leftover.{Ceased, ceased_join, quiet_calm, Alive, alive-kin, alive_join}
use Rattle.holds.specs.Touched.{Touched, touched-did}
use Rattle.holds.specs.Did.{Did, did_join, did_as, machine_in, same}
use Rattle.places.specs.Nowhere.{Nowhere}
use Rattle.free.specs.Asks.{RecordsIn, records_in}
use Rattle.free.specs.FindRecord.{RecordFound}
use Rattle.records.specs.Names.{IsName}
use Rattle.records.specs.New.{new_process, Newcomer, newcomer_same}
use Rattle.records.specs.Occupy.{occupy_stores, occupy_mem}
use Rattle.records.specs.OccupyCode.{OccupyAsks, Occupied}
use Rattle.records.specs.InUse.{occupy-alive, occupy-ceased}
use Rattle.records.specs.Pid.{pid_stores, pid_mem, NextPidAsks, PidTaken}

-- The machine with a new process, that takes the next pid, in record i.
abbrev pub born : ℕ → Proc → Machine → Machine
born i p m = with_process i (new_process m.next_pid p) (with_next_pid (suc m.next_pid) m)

-- Ready, it is the one that a step makes.
pub born-made : (m : Machine) (i : ℕ) (p : Proc) → free_record m ≡ some i → ready i (born i p m) ≡ made p.text p.parent m
unfolding made
born-made m i p e = ap (λ (o : ℕ). ready o (born o p m)) (ap (λ o. get_or o 0) (sym e))

-- The stores: the next pid, then the record.
abbrev pub alloc_stores : ℕ → Memory → ℕ → Proc → List Write
alloc_stores n m i p = pid_stores m ++ occupy_stores n (pid_mem m) i p (m fields.next_pid 0)

abbrev pub alloc_mem : ℕ → Memory → ℕ → Proc → Memory
alloc_mem n m i p = occupy_mem n (pid_mem m) i p (m fields.next_pid 0)

-- The next pid is a newcomer's, and can rise. The parent, the link to it and the name are those of p.
pub record AllocAsks (z : Sizes) (s : List ℕ) (p : Proc) : Type 0 where
  pub owed : ℕ
  pub holds : Holds z s owed
  pub new : Newcomer (mem_in z s) p (mem_in z s fields.next_pid 0)
  pub room : mem_in z s fields.next_pid 0 < 18446744073709551615
  pub link : link p.parent_at ≤ z.processes
  pub text : IsName p.text

-- Record i, the free one of the highest number, has the new process, which is nowhere.
pub record AllocOne (z : Sizes) (s s' : List ℕ) (p : Proc) (i : ℕ) : Type 0 where
  pub found : free_record (machine_in z s) ≡ some i
  pub did
      : Did z s s' same same (alloc_stores z.processes (mem_in z s) i p) (alloc_mem z.processes (mem_in z s) i p) (born i p (machine_in z s))
  pub nowhere : Nowhere (sizes_in z) (mem_in z s') i
  pub ceased : Ceased z (mem_in z s) (mem_in z s')
  pub alive : Alive (mem_in z s) (mem_in z s')

-- The link r names it; it is 0 where no record is free, and then nothing is stored.
pub record Allocated (z : Sizes) (s s' : List ℕ) (p : Proc) (r : ℕ) : Type 0 where
  pub none : r ≡ 0 → (free_record (machine_in z s) ≡ none) × (s' ≡ s)
  pub one : (r ≡ 0 → ⊥) → AllocOne z s s' p (r - 1)
  pub range : r ≤ z.processes

module _ {z : Sizes} {s : List ℕ} {p : Proc} (a : AllocAsks z s p) where
  -- What the calls ask.
  pub alloc_find : RecordsIn z s (mem_in z s fields.pid)
  alloc_find = records_in a.holds.sizes a.holds.state a.holds.keeps.index

  pub alloc-pid : NextPidAsks z s
  alloc-pid = record { owed = a.owed; holds = a.holds; room = a.room }

  module _ {r : ℕ} (f : RecordFound z s r) where
    -- What the code shows where no record is free.
    pub alloc-none : r ≡ 0 → Allocated z s s p 0
    alloc-none e =
        record {
          none = λ d. (sym f.machine ∙ ap link_to e, refl);
          one = λ ne. absurd (ne refl);
          range = omega arith;
        }

  module _ {i : ℕ} (f : RecordFound z s (suc i)) {s₁ : List ℕ} {v : ℕ} (t : PidTaken z s s₁ v) where
    here : (i < z.processes) × (mem_in z s fields.pid i ≡ 0)
    here = f.free i refl

    -- The pids are as they were.
    newcomer : Newcomer (mem_in z s₁) p v
    newcomer =
        rw t.pid
        (newcomer_same (ap (λ (x : Memory). x fields.pid) t.did.memory) (ap (λ (x : Memory). x fields.parent) t.did.memory) a.new)

    pub alloc-occupy : OccupyAsks z s₁ i p v
    alloc-occupy =
        record {
          owed = a.owed;
          holds = t.did.holds a.owed a.holds;
          index = here.0;
          free = ap (λ (x : Memory). x fields.pid i) t.did.memory ∙ here.1;
          new = newcomer;
          high = omega (arith, t.pid, a.room);
          link = a.link;
          text = a.text;
        }

    -- What the code shows where one is.
    pub alloc-one : {s₂ : List ℕ} → Occupied z s₁ s₂ i p v → Allocated z s s₂ p (suc i)
    unfolding machine_of
    alloc-one {s₂} d =
        let n : ℕ = z.processes in
        let above : 0 < v = omega (arith, newcomer.above i) in
        let first : Touched z s s₁ = touched-did t.did (same_use refl refl refl refl refl refl refl refl refl) in
        let one : AllocOne z s s₂ p i =
        record {
          found = sym f.machine;
          did =
              did_as (did_join t.did d.did (same_use refl refl refl refl refl refl refl refl refl))
              (λ k. pid_stores (mem_in z s) ++ occupy_stores n (t.did.memory k) i p (t.pid k))
              (λ k. occupy_mem n (t.did.memory k) i p (t.pid k))
              (λ k. with_process i (new_process (t.pid k) p) (t.did.machine k));
          nowhere = d.nowhere;
          ceased =
              subst (Ceased z (mem_in z s)) (sym d.did.memory)
              (ceased_join first.spares.ceased d.did.spared
              (occupy-ceased n (mem_in z s₁) i p v (ap (λ (x : Memory). x fields.pid i) t.did.memory ∙ here.1) above)
              (quiet_calm first.same.calm (occupy-alive n (mem_in z s₁) i p v above)));
          alive =
              subst (Alive (mem_in z s)) (sym d.did.memory)
              (alive_join (alive-kin first.same.kin) (occupy-alive n (mem_in z s₁) i p v above));
        }
        in
        record {
          none = λ e. absurd (omega (arith, e));
          one = λ x. subst (AllocOne z s s₂ p) (omega arith) one;
          range = f.range;
        }
