-- What `exits::add` does to the memory and the machine: the highest free cell takes the message, and is the newest exit.
use Rattle.std.specs.Prelude.{◌≡◌, refl, Bool, true, false, List, ◌∷◌, ◌++◌, map, ◌⊎◌, ℕ, suc, ◌+◌, ◌*◌, ◌<◌, ltb, length}
use Rattle.std.proofs.Common.{sym, ap, ◌∙◌, inl, inr, ⊎_elim, arith, ltb-true, ltb-false}
use Rattle.machine.specs.Machine as machine
use Rattle.machine.specs.Machine.{Process, Exit, process}
use Rattle.machine.specs.Update.{with_process, with_exits}
use Rattle.layout.specs.Memory.{Memory}
use Rattle.layout.specs.Writes.{Write}
use Rattle.chain.specs.Lists.{all_map}
use Rattle.chain.specs.Links.{alter-same, alter-other}
use Rattle.state.specs.Fields as fields
use Rattle.state.specs.Abs.{table, exit_at, exit_list, machine_of}
use Rattle.state.specs.WellFormed.{Cells}
use Rattle.exact.specs.Bounds.{InBounds, at_most}
use Rattle.exact.specs.Parts.{used_of}
use Rattle.holds.specs.Parts.{table_same}
use Rattle.free.specs.UseCell.{use_cell_writes, use_cell_mem}
use Rattle.free.specs.Restored.{ButOwner}
use Rattle.waitq.specs.Same.{Same, same_join, same-updates}
use Rattle.waitq.specs.Change.{map_same, Change, Changed, changed}
use Rattle.waitq.specs.Push.{cell_stores, head_stores, push_stores, push_mem, Pushable, free-apart, push_change}
use Rattle.waitq.specs.Messages.{message_stores, message_mem, overlay, overlay-before, overlay-behind, overlay-table}
use Rattle.waitq.specs.Marks.{same_set, used-same}

-- The stores, n being how many cells there are: the mark of cell c, the message bs, and the exit; and the memory then.
unfoldable pub add_stores : ℕ → Memory → ℕ → ℕ → ℕ → List ℕ → List Write
add_stores n m i c pid bs = use_cell_writes n m c ++ (message_stores (127 * c) bs ++ push_stores m i c pid (length bs))

abbrev pub add_mem : ℕ → Memory → ℕ → ℕ → ℕ → List ℕ → Memory
add_mem n m i c pid bs = push_mem (message_mem (use_cell_mem n m c) c bs) i c pid (length bs)

module _ {z : machine.Sizes} {m : Memory} {i c : ℕ} (bs : List ℕ) (b : InBounds z m) (h : Cells z m) (a : Pushable z m i c (length bs)) (pid : ℕ) where
  -- The bytes of another cell's message are as they were.
  other_byte : (x j : ℕ) → (c ≡ x → ⊥) → j < 127 → overlay (m fields.message_byte) (127 * c) bs (127 * x + j) ≡ m fields.message_byte (127 * x + j)
  other_byte x j ne l =
      ⊎_elim (λ k. overlay-before (m fields.message_byte) (127 * c) bs (127 * x + j) (omega (arith, k)))
      (λ k. overlay-behind (m fields.message_byte) (127 * c) bs (127 * x + j) (omega (arith, a.short, k)))
      (either (ltb x c) refl)
    where
      either : (t : Bool) → ltb x c ≡ t → (x < c) ⊎ (c < x)
      either true e = inl (ltb-true x c e)
      either false e = inr (omega (arith, ne, ltb-false x c e))

  add_exit-other : (x j : ℕ) → m fields.owner x ≡ suc j → exit_at (add_mem z.cells m i c pid bs) x ≡ exit_at m x
  unfolding exit_at cell_stores head_stores push_stores
  add_exit-other x j e =
      let ne : c ≡ x → ⊥ = free-apart b h a pid x j e in
      λ y. record {
        cell = x;
        pid = alter-other (m fields.exit_pid) c pid x ne y;
        message =
            (ap (λ (k : ℕ). table k (λ w. overlay (m fields.message_byte) (127 * c) bs (127 * x + w))) (alter-other (m fields.message_length) c (length bs) x ne)
            ∙ table_same (m fields.message_length x) (λ w. m fields.message_byte (127 * x + w)) (λ w. overlay (m fields.message_byte) (127 * c) bs (127 * x + w))
            (λ w l. other_byte x w ne (omega (arith, l, at_most b fields.message_length x)))) y;
      }

  add_exit-here : exit_at (add_mem z.cells m i c pid bs) c ≡ record { cell = c; pid = pid; message = bs }
  unfolding exit_at cell_stores head_stores push_stores
  add_exit-here =
      λ y. record {
        cell = c;
        pid = alter-same (m fields.exit_pid) c pid y;
        message =
            (ap (λ (k : ℕ). table k (λ w. overlay (m fields.message_byte) (127 * c) bs (127 * c + w))) (alter-same (m fields.message_length) c (length bs))
            ∙ overlay-table (m fields.message_byte) (127 * c) bs) y;
      }

  add_change : Change z m (add_mem z.cells m i c pid bs) i (c ∷ exit_list m i)
  unfolding cell_stores head_stores push_stores
  add_change =
      let p : Change z m (push_mem m i c pid (length bs)) i (c ∷ exit_list m i) = push_change b h a pid in
      record {
        used = p.used;
        first = p.first;
        number = p.number;
        next = p.next;
        stays = p.stays;
        stayed = p.stayed;
        holds = λ x j ne e. add_exit-other x j e;
        chain = p.chain;
        counted = p.counted;
        room = p.room;
        owned = p.owned;
        named = p.named;
      }

  pub add_same : Same m (add_mem z.cells m i c pid bs)
  unfolding cell_stores head_stores push_stores
  add_same =
      let k : Memory = use_cell_mem z.cells m c in
      let k' : Memory = message_mem k c bs in
      same_join (used-same z z.cells m c)
      (same_join (same_set k fields.message_byte (overlay (m fields.message_byte) (127 * c) bs) refl)
      (same-updates k' (push_stores k' i c pid (length bs)) (refl, (refl, (refl, (refl, (refl, (refl, tt))))))))

  pub add-changed : Changed z m (add_mem z.cells m i c pid bs) i (c ∷ exit_list m i)
  add-changed = changed b h add_same add_change

  -- The exits of the record: the new one in front of those that it had.
  add-exits : map (exit_at (add_mem z.cells m i c pid bs)) (c ∷ exit_list m i) ≡ record { cell = c; pid = pid; message = bs } ∷ (process (machine_of z m) i).exits
  add-exits =
      λ y. add_exit-here y
      ∷ (map_same (exit_at m) (exit_at (add_mem z.cells m i c pid bs)) (exit_list m i) (all_map (λ x e. add_exit-other x i e) (exit_list m i) (h.owned i a.used))
      ∙ sym (ap (λ (p : Process). p.exits) (used_of b i a.used))) y

  pub add-machine
      : machine_of z (add_mem z.cells m i c pid bs)
      ≡ with_process i (with_exits (record { cell = c; pid = pid; message = bs } ∷ (process (machine_of z m) i).exits) (process (machine_of z m) i)) (machine_of z m)
  add-machine =
      add-changed.machine
      ∙ ap (λ (es : List Exit). with_process i (with_exits es (process (machine_of z m) i)) (machine_of z m)) add-exits

-- Message and exit change no word, and of the owners only the cell's.
pub add_but : (k : Memory) (i c pid : ℕ) (bs : List ℕ) (n : ℕ) → ButOwner k (push_mem (message_mem k c bs) i c pid n) c
unfolding cell_stores head_stores push_stores
add_but k i c pid bs n =
    record {
      records = record { words = refl; full = refl };
      cells = record { words = refl; middle = refl; full = refl };
      pid = refl;
      owner = λ j ne. alter-other (k fields.owner) c (suc i) j (λ e. ne (sym e));
    }

pub add-owned : (k : Memory) (i c pid : ℕ) (bs : List ℕ) (n : ℕ) → 0 < push_mem (message_mem k c bs) i c pid n fields.owner c
unfolding cell_stores head_stores push_stores
add-owned k i c pid bs n = rw (alter-same (k fields.owner) c (suc i)) (omega arith)
