-- A new process in a free record: what it makes of the memory, of the machine and of what is kept.
use Rattle.std.specs.Prelude.{◌≡◌, ℕ, ◌<◌, length, List, ◌++◌, map}
use Rattle.std.proofs.Math.Path.{refl, sym}
use Rattle.std.proofs.Common.{ap, ◌∙◌, arith}
use Rattle.machine.specs.Basics.{elem}
use Rattle.machine.specs.Machine as machine
use Rattle.machine.specs.Machine.{Process, free}
use Rattle.machine.specs.Update.{with_process}
use Rattle.memory.specs.Link.{link}
use Rattle.layout.specs.Memory.{Memory}
use Rattle.layout.specs.Writes.{Write}
use Rattle.chain.specs.Links.{alter-same}
use Rattle.state.specs.Fields as fields
use Rattle.state.specs.Abs.{resume_of, exit_at, process_at, machine_of}
use Rattle.state.specs.WellFormed.{Used, Ages, Index}
use Rattle.state.specs.Blanks.{blank-both}
use Rattle.record.specs.declared.Proc.{Proc}
use Rattle.record.specs.Stores.{record_stores}
use Rattle.exact.specs.Bounds.{InBounds}
use Rattle.exact.specs.Parts.{used_at_lem, free-at, process_of}
use Rattle.holds.specs.Holds.{Placed, Keeps}
use Rattle.places.specs.Nowhere.{Nowhere, waits-state}
use Rattle.free.specs.UseRecord.{use_record_writes, use_record_mem}
use Rattle.ages.specs.In.{age_in_stores, age_in_mem}
use Rattle.ages.specs.Newest.{ages_in}
use Rattle.records.specs.Names.{name-here}
use Rattle.records.specs.Else.{part_of, Else, else_none, else_mark}
use Rattle.records.specs.Parts.{else_machine, else-asleep, else_header, else_timed}
use Rattle.records.specs.Off.{free_off, else_nowhere, else-placed}
use Rattle.records.specs.Exits.{free_owns, no-exits, else_cells}
use Rattle.records.specs.Store.{stored_mem, stored_else}
use Rattle.records.specs.New.{new_record, new_process, orphan-link, Newcomer}

-- Record i of n, marked as in use and the youngest; and then with its process.
abbrev pub taken_mem : ℕ → Memory → ℕ → Memory
taken_mem n m i = age_in_mem (use_record_mem n m i) i

abbrev pub occupy_mem : ℕ → Memory → ℕ → Proc → ℕ → Memory
occupy_mem n m i p v = stored_mem (taken_mem n m i) i (new_record (taken_mem n m i) i p v)

-- The stores: the marks, then the whole record.
abbrev pub occupy_stores : ℕ → Memory → ℕ → Proc → ℕ → List Write
occupy_stores n m i p v = use_record_writes n m i ++ age_in_stores m i ++ record_stores i (new_record (taken_mem n m i) i p v)

module _ (n : ℕ) (m : Memory) (i : ℕ) (p : Proc) (v : ℕ) where
  -- The other records are as they were.
  pub occupy_else : length p.text ≡ 28 → Else m (occupy_mem n m i p v) i
  unfolding part_of elem
  occupy_else w =
      let a : Else m (use_record_mem n m i) i = else_mark (else_mark (else_none m i) fields.used_records _ refl) fields.full_records _ refl in
      let b : Else m (taken_mem n m i) i =
      else_mark (else_mark (else_mark (else_mark a fields.older _ refl) fields.younger _ refl) fields.oldest _ refl) fields.youngest _ refl
      in
      stored_else (new_record (taken_mem n m i) i p v) b w

  -- Record i has the process.
  occupy-pid : occupy_mem n m i p v fields.pid i ≡ v
  occupy-pid = alter-same (m fields.pid) i v

  occupy-state : occupy_mem n m i p v fields.state_of i ≡ 2
  occupy-state = alter-same (m fields.state_of) i 2

  occupy-awake : occupy_mem n m i p v fields.state_of i ≡ 3 → ⊥
  occupy-awake e = omega (arith, occupy-state, e)

  pub occupy-process : length p.text ≡ 28 → 0 < v → process_at (occupy_mem n m i p v) i ≡ new_process v p
  unfolding resume_of
  occupy-process w h =
      used_at_lem (occupy_mem n m i p v) i (omega (arith, occupy-pid, h))
      ∙ (λ k. record {
        pid = occupy-pid k;
        name = name-here (m fields.name_byte) i p.text w k;
        parent = alter-same (m fields.parent) i p.parent k;
        nchild = alter-same (m fields.nchild) i 0 k;
        exits = map (exit_at (occupy_mem n m i p v)) (no-exits (occupy_mem n m i p v) i (alter-same (m fields.exits) i 0) k);
        quantum_end = alter-same (m fields.quantum_end) i 0 k;
        resume =
            resume_of (alter-same (m fields.resume_kind) i 0 k) (alter-same (m fields.resume_object) i 0 k) (alter-same (m fields.resume_condition) i 0 k);
        on_waitr = waits-state (occupy_mem n m i p v) i occupy-awake k;
      })

module _ {z : machine.Sizes} {m : Memory} {i : ℕ} {p : Proc} {v : ℕ} (b : InBounds z m) (l : i < z.processes) (off : m fields.pid i ≡ 0) (w : length p.text ≡ 28) (c : Newcomer m p v) where
  abbrev k : Memory
  k = occupy_mem z.processes m i p v

  e : Else m k i
  e = occupy_else z.processes m i p v w

  new : process_at k i ≡ new_process v p
  new = occupy-process z.processes m i p v w (omega (arith, c.above i))

  pub occupy-machine : machine_of z k ≡ with_process i (new_process v p) (machine_of z m)
  occupy-machine = else_machine z e ∙ ap (λ (x : Process). with_process i x (machine_of z m)) new

  used : Used k i
  used = omega (arith, occupy-pid z.processes m i p v, c.above i)

  pub occupy-nowhere : {n : ℕ} → Placed z m n → Nowhere z k i
  occupy-nowhere q = else_nowhere e (free_off i q off) used (occupy-awake z.processes m i p v)

  occupy-placed : {n : ℕ} → Placed z m n → Placed z k n
  unfolding free
  occupy-placed q =
      else-placed e (free_off i q off) q (λ d. absurd (omega (arith, d, used))) (λ u. omega (arith, occupy-state z.processes m i p v))
      (λ u. blank-both (alter-same (m fields.resume_object) i 0) (alter-same (m fields.resume_condition) i 0))
      (else-asleep z e l (ap (λ (x : Process). x.on_waitr) new ∙ sym (ap (λ (x : Process). x.on_waitr) (process_of b i ∙ free-at m i off))))

  occupy-ages : Ages z m → Ages z k
  unfolding part_of elem
  occupy-ages a =
      (ages_in {m'' = k} a l off
      (record {
        younger = refl;
        older = refl;
        oldest = refl;
        youngest = refl;
        pid = λ j ne. e.other fields.pid j refl ne;
        parent = λ j ne. e.other fields.parent j refl ne;
        parent_at = λ j ne. e.other fields.parent_at j refl ne;
      })
      (record {
        above = λ j. omega (arith, occupy-pid z.processes m i p v, c.above j);
        parents = λ j u. omega (arith, occupy-pid z.processes m i p v, c.parents j u);
        parent = omega (arith, occupy-pid z.processes m i p v, alter-same (m fields.parent) i p.parent, c.parent);
        link = λ j u d. alter-same (m fields.parent_at) i (link p.parent_at) ∙ c.link j u (sym (alter-same (m fields.parent) i p.parent) ∙ d);
        orphan = λ d.
            alter-same (m fields.parent_at) i (link p.parent_at)
            ∙ orphan-link c.kin (sym (alter-same (m fields.parent) i p.parent) ∙ d);
      })
      ).ages

  -- All is kept, where the words of the records in use are right.
  pub occupy-keeps : {n : ℕ} → Keeps z m n → Index z k → Keeps z k n
  occupy-keeps q x =
      record {
        header = else_header z e q.header;
        placed = occupy-placed q.placed;
        timed = else_timed z e q.timed;
        cells =
            else_cells e (free_owns q.cells off)
            (λ u. (alter-same (m fields.exits) i 0, alter-same (m fields.nexits) i 0))
            q.cells;
        ages = occupy-ages q.ages;
        index = x;
      }
