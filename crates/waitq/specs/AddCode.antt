-- What the code of `exits::add` shows.
use Rattle.std.specs.Prelude.{◌≡◌, refl, List, ◌∷◌, ◌++◌, ℕ, suc, ◌*◌, ◌≤◌, ◌<◌, length}
use Rattle.std.proofs.Common.{sym, ap, ◌∙◌, arith}
use Rattle.std.proofs.Math.Path.{subst}
use Rattle.std.proofs.Math.Option.{Option, get_or}
use Rattle.machine.specs.Machine.{process}
use Rattle.machine.specs.Update.{with_process, with_exits}
use Rattle.machine.specs.Message.{message}
use Rattle.layout.specs.Memory.{Memory}
use Rattle.state.specs.Fields as fields
use Rattle.state.specs.Abs.{exit_list, machine_of}
use Rattle.state.specs.Places.{sizes_in, mem_in, Wrote, wrote_join}
use Rattle.state.specs.WellFormed.{Cells, Index}
use Rattle.state.specs.declared.Sizes.{Sizes}
use Rattle.exact.specs.Tables.{some-link}
use Rattle.holds.specs.Whole.{holds-bounds}
use Rattle.holds.specs.Frames.{cells_same}
use Rattle.holds.specs.Leftover.{Ceased}
use Rattle.holds.specs.Did.{Did, machine_in, same, WritableIn, spared-stores, writable_join}
use Rattle.free.specs.Asks.{CellsIn, cells_in}
use Rattle.free.specs.FindCell.{CellFound}
use Rattle.free.specs.UseCell.{use_cell_writes, use_cell_mem, UseCellAsks, UseCellDone, use_cell-asks}
use Rattle.free.specs.Restored.{ButOwner, used-cell}
use Rattle.waitq.specs.Same.{Same}
use Rattle.waitq.specs.Change.{Changed}
use Rattle.waitq.specs.Push.{cell_stores, head_stores, push_stores, push_mem, Pushable}
use Rattle.waitq.specs.PushCode.{PushAsks, PushDone}
use Rattle.waitq.specs.Messages.{message_stores, message_mem}
use Rattle.waitq.specs.WriteCode.{WriteAsks, MessageIn}
use Rattle.waitq.specs.Marks.{used_cells_lem, changed-keeps}
use Rattle.waitq.specs.Add.{add_stores, add_mem, add_same, add-changed, add-machine, add_but, add-owned}
use Rattle.waitq.specs.InUse.{add-in_use, add-ceased}
use Rattle.waitq.specs.Added.{AddAsks, cell_for, AddDone}

module _ {z : Sizes} {s : List ℕ} {i : ℕ} (a : AddAsks z s i) where
  -- What the calls ask.
  pub add_words : CellsIn z s (mem_in z s fields.owner)
  add_words = cells_in a.holds.sizes a.holds.state a.holds.keeps.index

  add-link : {link : ℕ} → CellFound z s link → link ≡ suc a.cell
  add-link {link} f =
      some-link link a.cell (f.machine a.holds.keeps.cells ∙ a.free)

  cell-there : {c : ℕ} → CellFound z s (suc c) → (c < z.cells) × (mem_in z s fields.owner c ≡ 0)
  cell-there {c} f = f.free c refl

  pub add_use : {c : ℕ} → CellFound z s (suc c) → UseCellAsks z s c
  add_use f = use_cell-asks add_words (cell-there f).0 (cell-there f).1

  pub add-write : {c : ℕ} {s₁ : List ℕ} → CellFound z s (suc c) → UseCellDone z s s₁ c → WriteAsks z s₁ c
  add-write f u = record { sizes = a.holds.sizes; state = u.state; index = (cell-there f).0 }

  -- The memory before the exit is pushed.
  module _ {c : ℕ} {s₁ s₂ : List ℕ} {name : List ℕ} {pid : ℕ} {status : List ℕ} {n : ℕ} (f : CellFound z s (suc c)) (u : UseCellDone z s s₁ c) (w : MessageIn z s₁ s₂ c name pid status n) where
    before-push : mem_in z s₂ ≡ message_mem (use_cell_mem z.cells (mem_in z s) c) c (message name pid status)
    before-push = w.memory ∙ ap (λ (k : Memory). message_mem k c (message name pid status)) u.memory

    pushable : (k : ℕ) → k ≤ 127 → Pushable (sizes_in z) (mem_in z s) i c k
    pushable k l = record { used = a.used; index = (cell-there f).0; free = (cell-there f).1; room = a.room; short = l }

    pub add_push : {l : ℕ} → l ≤ 127 → PushAsks z s₂ i c l
    add_push {l} short =
        let p : Pushable (sizes_in z) (mem_in z s) i c l = pushable l short in
        let k : Memory = use_cell_mem z.cells (mem_in z s) c in
        record {
          cells =
              record {
                sizes = a.holds.sizes;
                state = w.state;
                cells =
                    subst (Cells (sizes_in z)) (sym before-push)
                    (cells_same refl refl refl refl refl (used_cells_lem (sizes_in z) z.cells (mem_in z s) c a.holds.keeps.cells));
              };
          pushable =
              subst (λ (x : Memory). Pushable (sizes_in z) x i c l) (sym before-push)
              (record { used = p.used; index = p.index; free = p.free; room = p.room; short = p.short });
        }

    -- What the code shows at its return.
    module _ {s₃ : List ℕ} (d : PushDone z s₂ s₃ i c pid n) where
      here : Pushable (sizes_in z) (mem_in z s) i c (length (message name pid status))
      here = pushable (length (message name pid status)) (omega (arith, w.answer, w.within))

      memory_then : mem_in z s₃ ≡ add_mem z.cells (mem_in z s) i c pid (message name pid status)
      memory_then =
          d.stored.memory
          ∙ ap (λ (k : ℕ). push_mem (mem_in z s₂) i c pid k) w.answer
          ∙ ap (λ (k : Memory). push_mem k i c pid (length (message name pid status))) before-push

      changed_then : Changed (sizes_in z) (mem_in z s) (mem_in z s₃) i (c ∷ exit_list (mem_in z s) i)
      changed_then =
          subst (λ (k : Memory). Changed (sizes_in z) (mem_in z s) k i (c ∷ exit_list (mem_in z s) i)) (sym memory_then)
          (add-changed (message name pid status) (holds-bounds a.holds) a.holds.keeps.cells here pid)

      same_then : Same (mem_in z s) (mem_in z s₃)
      same_then = rw memory_then (add_same (message name pid status) (holds-bounds a.holds) a.holds.keeps.cells here pid)

      index_then : Index (sizes_in z) (mem_in z s₃)
      index_then =
          let q : mem_in z s₃ ≡ push_mem (message_mem (mem_in z s₁) c (message name pid status)) i c pid n =
          d.stored.memory ∙ ap (λ (k : Memory). push_mem k i c pid n) w.memory
          in
          used-cell a.holds.sizes a.holds.state a.holds.keeps.index (mem_in z s₃) u (cell-there f).1
          (subst (λ (k : Memory). ButOwner (mem_in z s₁) k c) (sym q) (add_but (mem_in z s₁) i c pid (message name pid status) n))
          (subst (λ (k : Memory). 0 < k fields.owner c) (sym q) (add-owned (mem_in z s₁) i c pid (message name pid status) n))

      wrote_then : Wrote z s s₃ (add_stores z.cells (mem_in z s) i c pid (message name pid status))
      unfolding add_stores cell_stores head_stores push_stores
      wrote_then =
          let p : Wrote z s₂ s₃ (push_stores (mem_in z s) i c pid (length (message name pid status))) =
          subst (λ (k : Memory). Wrote z s₂ s₃ (push_stores k i c pid (length (message name pid status)))) before-push
          (subst (λ (k : ℕ). Wrote z s₂ s₃ (push_stores (mem_in z s₂) i c pid k)) w.answer d.stored.wrote)
          in
          wrote_join z (use_cell_writes z.cells (mem_in z s) c)
          (message_stores (127 * c) (message name pid status) ++ push_stores (mem_in z s) i c pid (length (message name pid status)))
          (record { bytes = u.bytes; long = u.state.long })
          (wrote_join z (message_stores (127 * c) (message name pid status)) (push_stores (mem_in z s) i c pid (length (message name pid status))) w.wrote p)

      writable_then : WritableIn z (add_stores z.cells (mem_in z s) i c pid (message name pid status))
      unfolding add_stores cell_stores head_stores push_stores
      writable_then =
          let p : WritableIn z (push_stores (mem_in z s) i c pid (length (message name pid status))) =
          subst (λ (k : Memory). WritableIn z (push_stores k i c pid (length (message name pid status)))) before-push
          (subst (λ (k : ℕ). WritableIn z (push_stores (mem_in z s₂) i c pid k)) w.answer d.stored.writable)
          in
          writable_join z (use_cell_writes z.cells (mem_in z s) c)
          (message_stores (127 * c) (message name pid status) ++ push_stores (mem_in z s) i c pid (length (message name pid status)))
          u.writable
          (writable_join z (message_stores (127 * c) (message name pid status)) (push_stores (mem_in z s) i c pid (length (message name pid status))) w.writable p)

      did_then
          : Did z s s₃ same same (add_stores z.cells (mem_in z s) i c pid (message name pid status))
          (add_mem z.cells (mem_in z s) i c pid (message name pid status))
          (with_process i
          (with_exits (record { cell = c; pid = pid; message = message name pid status } ∷ (process (machine_in z s) i).exits) (process (machine_in z s) i))
          (machine_in z s))
      did_then =
          record {
            holds = λ k h.
                record {
                  sizes = h.sizes;
                  state = d.stored.cells.state;
                  keeps = changed-keeps (holds-bounds h) h.keeps a.used same_then changed_then index_then;
                };
            bytes = wrote_then.bytes;
            writable = writable_then;
            memory = memory_then;
            machine =
                ap (machine_of (sizes_in z)) memory_then
                ∙ add-machine (message name pid status) (holds-bounds a.holds) a.holds.keeps.cells here pid;
            spared =
                spared-stores a.holds wrote_then.bytes writable_then memory_then
                (add-in_use z.cells i c pid (message name pid status) here.short a.used);
          }

      the_cell : c ≡ cell_for z s
      the_cell = omega (arith, add-link f) ∙ sym (ap (λ (o : Option ℕ). get_or o 0) a.free)

      pub added : AddDone z s s₃ i pid name status
      added =
          record {
            did =
                subst
                (λ (x : ℕ). Did z s s₃ same same (add_stores z.cells (mem_in z s) i x pid (message name pid status))
                (add_mem z.cells (mem_in z s) i x pid (message name pid status))
                (with_process i
                (with_exits (record { cell = x; pid = pid; message = message name pid status } ∷ (process (machine_in z s) i).exits) (process (machine_in z s) i))
                (machine_in z s)))
                the_cell did_then;
            changed = subst (λ (x : ℕ). Changed (sizes_in z) (mem_in z s) (mem_in z s₃) i (x ∷ exit_list (mem_in z s) i)) the_cell changed_then;
            ceased =
                subst (Ceased z (mem_in z s)) (sym memory_then) (add-ceased z.cells (mem_in z s) i c pid (message name pid status) here.free);
          }
