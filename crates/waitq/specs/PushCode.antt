-- What `exits::push` asks and ensures, and what its code shows.
use Rattle.std.specs.Prelude.{◌≡◌, List, ◌∷◌, ℕ, suc, ◌+◌, ◌≤◌, ◌<◌}
use Rattle.std.proofs.Common.{ap, ◌∙◌, arith, add-one}
use Rattle.machine.specs.Machine.{process}
use Rattle.machine.specs.Update.{with_process, with_exits}
use Rattle.layout.specs.Memory.{Memory}
use Rattle.layout.specs.Writes.{Writable}
use Rattle.state.specs.Fields as fields
use Rattle.state.specs.Abs.{exit_list, machine_of}
use Rattle.state.specs.Places.{sizes_in, mem_in, Wrote, wrote_join}
use Rattle.state.specs.declared.Sizes.{Sizes}
use Rattle.exact.specs.Bounds.{at_most}
use Rattle.waitq.specs.Stored.{ExitsIn, cells-bounds, used-index, Stored, stored_by}
use Rattle.waitq.specs.Push.{cell_stores, head_stores, push_stores, pushed_exit, Pushable, push-changed, push-machine, Filled}

-- What the code asks: i and c are such, in a state in range whose cells are sound.
pub record PushAsks (z : Sizes) (s : List ℕ) (i c n : ℕ) : Type 0 where
  pub cells : ExitsIn z s
  pub pushable : Pushable (sizes_in z) (mem_in z s) i c n

-- c is the newest exit of i, and the rest is as it was.
pub record PushDone (z : Sizes) (s s' : List ℕ) (i c pid n : ℕ) : Type 0 where
  pub stored : Stored z s s' (push_stores (mem_in z s) i c pid n) i (c ∷ exit_list (mem_in z s) i)
  pub machine : machine_of (sizes_in z) (mem_in z s')
      ≡ with_process i
      (with_exits (pushed_exit (mem_in z s) c pid n ∷ (process (machine_of (sizes_in z) (mem_in z s)) i).exits)
      (process (machine_of (sizes_in z) (mem_in z s)) i))
      (machine_of (sizes_in z) (mem_in z s))

-- Record i is there.
pub push-index : {z : Sizes} {s : List ℕ} {i c n : ℕ} → PushAsks z s i c n → i < z.processes
push-index a = used-index a.cells a.pushable.used

push-writable
    : {z : Sizes} {s : List ℕ} {i c n : ℕ}
    → PushAsks z s i c n
    → (pid : ℕ)
    → pid ≤ 18446744073709551615
    → Writable fields.layout1 (fields.most_of (sizes_in z)) (fields.counts (sizes_in z)) (push_stores (mem_in z s) i c pid n)
unfolding cell_stores head_stores push_stores
push-writable {z} {s} {i} {c} {n} a pid w =
    let l : i < z.processes = used-index a.cells a.pushable.used in
    let e : mem_in z s fields.exits i ≤ z.cells = at_most (cells-bounds a.cells) fields.exits i in
    let p : Pushable (sizes_in z) (mem_in z s) i c n = a.pushable in (
      record { listed = omega arith; index = p.index },
      w,
      (record { listed = omega arith; index = p.index }, e, (record { listed = omega arith; index = p.index }, l, (record { listed = omega arith; index = p.index }, p.short, (record { listed = omega arith; index = l }, p.index, (record { listed = omega arith; index = l }, p.room, tt))))),
    )

-- What the code shows at its return.
pub pushed
    : {z : Sizes} {s s₁ s₂ : List ℕ} {i c pid n first number : ℕ}
    → PushAsks z s i c n
    → Filled z s s₁ c pid first (i + 1) n
    → Wrote z s₁ s₂ (head_stores i (c + 1) (number + 1))
    → first ≡ mem_in z s fields.exits i
    → number ≡ mem_in z s fields.nexits i
    → PushDone z s s₂ i c pid n
unfolding push_stores
pushed {z} {s} {s₁} {s₂} {i} {c} {pid} {n} {first} {number} a f w₂ e d =
    let m : Memory = mem_in z s in
    let w₁' : Wrote z s s₁ (cell_stores c pid (m fields.exits i) (suc i) n) = rw (← e, ← add-one i) f.wrote in
    let w₂' : Wrote z s₁ s₂ (head_stores i (suc c) (suc (m fields.nexits i))) = rw (← d, ← add-one c, ← add-one number) w₂ in
    let both : Wrote z s s₂ (push_stores m i c pid n) =
    wrote_join z (cell_stores c pid (m fields.exits i) (suc i) n) (head_stores i (suc c) (suc (m fields.nexits i))) w₁' w₂'
    in
    let st : Stored z s s₂ (push_stores m i c pid n) i (c ∷ exit_list m i) =
    stored_by a.cells both (push-writable a pid f.wide) (push-changed (cells-bounds a.cells) a.cells.cells a.pushable pid)
    in
    record {
      stored = st;
      machine = ap (machine_of (sizes_in z)) st.memory ∙ push-machine (cells-bounds a.cells) a.cells.cells a.pushable pid;
    }
