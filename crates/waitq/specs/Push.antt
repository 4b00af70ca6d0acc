-- What `exits::push` does to the memory: to the record's exits, and to the machine.
use Rattle.std.specs.Prelude.{if◌then◌else◌, ◌≡◌, Bool, List, [], ◌∷◌, ◌++◌, map, ℕ, suc, ◌+◌, ◌*◌, ◌≤◌, ◌<◌}
use Rattle.std.proofs.Math.Path.{refl, sym, ap}
use Rattle.std.proofs.Common.{◌∙◌, arith, eqb-true, eq-eqb}
use Rattle.std.proofs.Math.Bool.{true, false}
use Rattle.std.proofs.Math.Dec.{eqb}
use Rattle.machine.specs.Basics.{count}
use Rattle.machine.specs.Machine as machine
use Rattle.machine.specs.Machine.{Process, Exit, process}
use Rattle.machine.specs.Update.{with_process, with_exits}
use Rattle.layout.specs.Memory.{Memory, alter}
use Rattle.layout.specs.Writes.{Write, to, updates}
use Rattle.chain.specs.Lists.{Absent, all_map}
use Rattle.chain.specs.Links.{alter-same, alter-other, chain-front}
use Rattle.state.specs.Fields as fields
use Rattle.state.specs.Abs.{table, exit_at, exit_list, machine_of}
use Rattle.state.specs.Places.{Wrote}
use Rattle.state.specs.WellFormed.{Used, Cells}
use Rattle.state.specs.declared.Sizes.{Sizes}
use Rattle.exact.specs.Bounds.{InBounds}
use Rattle.exact.specs.Parts.{used_of}
use Rattle.waitq.specs.Same.{same-updates}
use Rattle.waitq.specs.Change.{map_same, Change, Changed, changed}

-- The stores to a cell: the child's pid, the next older exit, whose it is, and how long its message is.
unfoldable pub cell_stores : ℕ → ℕ → ℕ → ℕ → ℕ → List Write
cell_stores c pid next owner n =
    to fields.exit_pid c pid ∷ to fields.cell_next c next ∷ to fields.owner c owner ∷ to fields.message_length c n ∷ []

-- They are made, and the pid is one of 64 bits.
pub record Filled (z : Sizes) (s s' : List ℕ) (c pid next owner n : ℕ) : Type 0 where
  pub wrote : Wrote z s s' (cell_stores c pid next owner n)
  pub wide : pid ≤ 18446744073709551615

-- The stores to the record that heads the queue.
unfoldable pub head_stores : ℕ → ℕ → ℕ → List Write
head_stores i first n = to fields.exits i first ∷ to fields.nexits i n ∷ []

-- Cell c in front of the exits of record i.
unfoldable pub push_stores : Memory → ℕ → ℕ → ℕ → ℕ → List Write
push_stores m i c pid n = cell_stores c pid (m fields.exits i) (suc i) n ++ head_stores i (suc c) (suc (m fields.nexits i))

abbrev pub push_mem : Memory → ℕ → ℕ → ℕ → ℕ → Memory
push_mem m i c pid n = updates m (push_stores m i c pid n)

-- The exit that cell c then holds: its message is what its bytes are already.
abbrev pub pushed_exit : Memory → ℕ → ℕ → ℕ → Exit
pushed_exit m c pid n = record { cell = c; pid = pid; message = table n (λ j. m fields.message_byte (127 * c + j)) }

-- Of the memory: i lives and has room, c is a free cell.
pub record Pushable (z : machine.Sizes) (m : Memory) (i c n : ℕ) : Type 0 where
  pub used : Used m i
  pub index : c < z.cells
  pub free : m fields.owner c ≡ 0
  pub room : m fields.nexits i < 128
  pub short : n ≤ 127

module _ {z : machine.Sizes} {m : Memory} {i c n : ℕ} (b : InBounds z m) (h : Cells z m) (a : Pushable z m i c n) (pid : ℕ) where
  -- c is in nobody's chain
  pub free-apart : (x j : ℕ) → m fields.owner x ≡ suc j → c ≡ x → ⊥
  free-apart x j e d = absurd (omega (arith, ap (m fields.owner) d, a.free))

  free-absent : Absent c (exit_list m i)
  free-absent = all_map (λ x e. free-apart x i e) (exit_list m i) (h.owned i a.used)

  owned-apart : (x j : ℕ) → (i ≡ j → ⊥) → alter (m fields.owner) c (suc i) x ≡ suc j → m fields.owner x ≡ suc j
  owned-apart x j ne e = go (eqb c x) refl e
    where
      go : (b : Bool) → eqb c x ≡ b → (if b then suc i else m fields.owner x) ≡ suc j → m fields.owner x ≡ suc j
      go true q d = absurd (ne (omega (arith, d)))
      go false q d = d

  named-cell : (x : ℕ) → alter (m fields.owner) c (suc i) x ≡ suc i → 1 ≤ count x (c ∷ exit_list m i)
  unfolding count
  named-cell x e = go (eqb c x) refl e
    where
      go : (b : Bool) → eqb c x ≡ b → (if b then suc i else m fields.owner x) ≡ suc i → 1 ≤ (if eqb x c then 1 else 0) + count x (exit_list m i)
      go true q d = rw (eq-eqb x c (sym (eqb-true c x q))) (omega arith)
      go false q d = omega (arith, (h.owner x i d).1)

  same-exit : (x j : ℕ) → m fields.owner x ≡ suc j → exit_at (push_mem m i c pid n) x ≡ exit_at m x
  unfolding exit_at cell_stores head_stores push_stores
  same-exit x j e =
      let ne : c ≡ x → ⊥ = free-apart x j e in
      λ y. record {
        cell = x;
        pid = alter-other (m fields.exit_pid) c pid x ne y;
        message = table (alter-other (m fields.message_length) c n x ne y) (λ k. m fields.message_byte (127 * x + k));
      }

  pub push_change : Change z m (push_mem m i c pid n) i (c ∷ exit_list m i)
  unfolding cell_stores head_stores push_stores
  push_change =
      record {
        used = a.used;
        first = λ j ne. alter-other (m fields.exits) i (suc c) j ne;
        number = λ j ne. alter-other (m fields.nexits) i (suc (m fields.nexits i)) j ne;
        next = λ x j ne e. alter-other (m fields.cell_next) c (m fields.exits i) x (free-apart x j e);
        stays = λ x j ne e. alter-other (m fields.owner) c (suc i) x (free-apart x j e) ∙ e;
        stayed = owned-apart;
        holds = λ x j ne e. same-exit x j e;
        chain = rw (alter-same (m fields.exits) i (suc c)) (chain-front c a.index free-absent (h.chain i a.used));
        counted = ap suc (h.counted i a.used) ∙ sym (alter-same (m fields.nexits) i (suc (m fields.nexits i)));
        room = omega (arith, h.counted i a.used, a.room);
        owned = (
          alter-same (m fields.owner) c (suc i),
          all_map (λ x e. alter-other (m fields.owner) c (suc i) x (free-apart x i e) ∙ e) (exit_list m i) (h.owned i a.used),
        );
        named = named-cell;
      }

  pub push-changed : Changed z m (push_mem m i c pid n) i (c ∷ exit_list m i)
  unfolding cell_stores head_stores push_stores
  push-changed =
      changed b h (same-updates m (push_stores m i c pid n) (refl, (refl, (refl, (refl, (refl, (refl, tt))))))) push_change

  -- The exits of the record: the new one in front of those that it had.
  pushed-exits : map (exit_at (push_mem m i c pid n)) (c ∷ exit_list m i) ≡ pushed_exit m c pid n ∷ (process (machine_of z m) i).exits
  unfolding exit_at cell_stores head_stores push_stores
  pushed-exits =
      λ y. record {
        cell = c;
        pid = alter-same (m fields.exit_pid) c pid y;
        message = table (alter-same (m fields.message_length) c n y) (λ k. m fields.message_byte (127 * c + k));
      }
      ∷ (map_same (exit_at m) (exit_at (push_mem m i c pid n)) (exit_list m i) (all_map (λ x e. same-exit x i e) (exit_list m i) (h.owned i a.used))
      ∙ sym (ap (λ (p : Process). p.exits) (used_of b i a.used))) y

  pub push-machine
      : machine_of z (push_mem m i c pid n)
      ≡ with_process i (with_exits (pushed_exit m c pid n ∷ (process (machine_of z m) i).exits) (process (machine_of z m) i)) (machine_of z m)
  push-machine =
      push-changed.machine
      ∙ ap (λ (es : List Exit). with_process i (with_exits es (process (machine_of z m) i)) (machine_of z m)) pushed-exits
