-- One record's exits become others: what that makes of the cells, of each record, and of the machine.
use Rattle.std.specs.Prelude.{◌≡◌, refl, Bool, true, false, eqb, List, [], ◌∷◌, map, ℕ, zero, suc, ◌≤◌}
use Rattle.std.proofs.Math.Path.{sym, ap}
use Rattle.std.proofs.Common.{subst, ◌∙◌, eqb-true}
use Rattle.std.proofs.lemmas.Bool.{eqb-false}
use Rattle.std.proofs.Math.ListN.{length}
use Rattle.machine.specs.Basics.{count}
use Rattle.machine.specs.Machine.{Sizes, Process, Exit, process}
use Rattle.machine.specs.Update.{with_process, with_exits}
use Rattle.machine.specs.Good.{Each}
use Rattle.layout.specs.Memory.{Memory}
use Rattle.chain.specs.Lists.{all_map}
use Rattle.chain.specs.Links.{walk, Chain, walk-links, links-frame}
use Rattle.state.specs.Fields as fields
use Rattle.state.specs.Abs.{table, link_to, is_set, exit_at, exit_list, process_at, machine_of, run_list, waiter_list, timer_list, waits_on}
use Rattle.state.specs.WellFormed.{Used, Cells}
use Rattle.exact.specs.Bounds.{InBounds}
use Rattle.exact.specs.Parts.{used_at, used_at_lem, free-at, either-at, process_of}
use Rattle.holds.specs.Parts.{table-set}
use Rattle.waitq.specs.Same.{merge, Same, same-merge}

-- Walks agree where the links of what is walked agree.
pub walk-frame : (n : ℕ) (g k : ℕ → ℕ) (h : ℕ) → Each (λ c. k c ≡ g c) (walk n g h) → walk n k h ≡ walk n g h
unfolding walk
walk-frame zero g k h a = refl
walk-frame (suc n) g k zero a = refl
walk-frame (suc n) g k (suc c) a = ap (λ (l : List ℕ). c ∷ l) (rw a.0 (walk-frame n g k (g c) a.1))

pub map_same : {A B : Type 0} (f g : A → B) (xs : List A) → Each (λ x. g x ≡ f x) xs → map g xs ≡ map f xs
map_same f g [] a = refl
map_same f g (x ∷ xs) a = λ j. a.0 j ∷ map_same f g xs a.1 j

-- The exits of record i are the cells ys in k, which says the same as m of every cell of another record.
pub record Change (z : Sizes) (m k : Memory) (i : ℕ) (ys : List ℕ) : Type 0 where
  pub used : Used m i
  pub first : (j : ℕ) → (i ≡ j → ⊥) → k fields.exits j ≡ m fields.exits j
  pub number : (j : ℕ) → (i ≡ j → ⊥) → k fields.nexits j ≡ m fields.nexits j
  pub next : (c j : ℕ) → (i ≡ j → ⊥) → m fields.owner c ≡ suc j → k fields.cell_next c ≡ m fields.cell_next c
  pub stays : (c j : ℕ) → (i ≡ j → ⊥) → m fields.owner c ≡ suc j → k fields.owner c ≡ suc j
  pub stayed : (c j : ℕ) → (i ≡ j → ⊥) → k fields.owner c ≡ suc j → m fields.owner c ≡ suc j
  pub holds : (c j : ℕ) → (i ≡ j → ⊥) → m fields.owner c ≡ suc j → exit_at k c ≡ exit_at m c
  pub chain : Chain z.cells (k fields.cell_next) (k fields.exits i) ys
  pub counted : length ys ≡ k fields.nexits i
  pub room : length ys ≤ 128
  pub owned : Each (λ c. k fields.owner c ≡ suc i) ys
  pub named : (c : ℕ) → k fields.owner c ≡ suc i → 1 ≤ count c ys

module _ {z : Sizes} {m k : Memory} {i : ℕ} {ys : List ℕ} (h : Cells z m) (d : Change z m k i ys) where
  -- The cells of i, and those of another record.
  pub change_list : exit_list k i ≡ ys
  unfolding exit_list
  change_list = walk-links 128 (k fields.cell_next) (k fields.exits i) ys d.chain.links d.room

  pub change_other : (j : ℕ) → Used m j → (i ≡ j → ⊥) → exit_list k j ≡ exit_list m j
  unfolding exit_list
  change_other j u ne =
      ap (walk 128 (k fields.cell_next)) (d.first j ne)
      ∙ walk-frame 128 (m fields.cell_next) (k fields.cell_next) (m fields.exits j)
      (all_map (λ c e. d.next c j ne e) (walk 128 (m fields.cell_next) (m fields.exits j)) (h.owned j u))

  chain-other : (j : ℕ) → Used m j → (i ≡ j → ⊥) → Chain z.cells (k fields.cell_next) (k fields.exits j) (exit_list k j)
  chain-other j u ne =
      rw (change_other j u ne, d.first j ne)
      (record {
        links =
            links-frame (m fields.cell_next) (k fields.cell_next) (m fields.exits j) (exit_list m j)
            (all_map (λ c e. d.next c j ne e) (exit_list m j) (h.owned j u))
            (h.chain j u).links;
        distinct = (h.chain j u).distinct;
        below = (h.chain j u).below;
      })

  -- What holds of record i and of each other.
  by_record : (P : ℕ → Type 0) → P i → ((j : ℕ) → (i ≡ j → ⊥) → P j) → (j : ℕ) → P j
  by_record P a b j = go (eqb i j) refl
    where
      go : (c : Bool) → eqb i j ≡ c → P j
      go true e = subst P (eqb-true i j e) a
      go false e = b j (eqb-false i j e)

  pub change_cells : Cells z (merge m k)
  unfolding exit_list
  change_cells =
      record {
        chain = by_record (λ j. Used m j → Chain z.cells (k fields.cell_next) (k fields.exits j) (exit_list k j)) (λ u. rw change_list d.chain) (λ j ne u. chain-other j u ne);
        counted =
            by_record (λ j. Used m j → length (exit_list k j) ≡ k fields.nexits j) (λ u. ap length change_list ∙ d.counted)
            (λ j ne u. ap length (change_other j u ne) ∙ h.counted j u ∙ sym (d.number j ne));
        owned =
            by_record (λ j. Used m j → Each (λ c. k fields.owner c ≡ suc j) (exit_list k j)) (λ u. rw change_list d.owned)
            (λ j ne u. rw (change_other j u ne) (all_map (λ c e. d.stays c j ne e) (exit_list m j) (h.owned j u)));
        owner = λ c.
            by_record (λ j. k fields.owner c ≡ suc j → Used m j × (1 ≤ count c (exit_list k j))) (λ e. (d.used, rw change_list (d.named c e)))
            (λ j ne e.
            let o : Used m j × (1 ≤ count c (exit_list m j)) = h.owner c j (d.stayed c j ne e) in
            (o.0, rw (change_other j o.0 ne) o.1));
      }

  -- The record i, and another.
  pub change_at : process_at (merge m k) i ≡ with_exits (map (exit_at k) ys) (process_at m i)
  unfolding with_exits exit_list waits_on exit_at
  change_at = rw (used_at_lem m i d.used, used_at_lem (merge m k) i d.used, change_list)

  pub change_apart : (j : ℕ) → (i ≡ j → ⊥) → process_at (merge m k) j ≡ process_at m j
  unfolding exit_list waits_on exit_at with_exits
  change_apart j ne =
      either-at (λ (p : Process). process_at (merge m k) j ≡ p) m j (λ e. free-at (merge m k) j e)
      (λ u.
      used_at_lem (merge m k) j u
      ∙ ap (λ (es : List Exit). with_exits es (used_at m j))
      (ap (map (exit_at k)) (change_other j u ne)
      ∙ map_same (exit_at m) (exit_at k) (exit_list m j) (all_map (λ c e. d.holds c j ne e) (exit_list m j) (h.owned j u))))

  -- The machine.
  merged-machine
      : InBounds z m
      → machine_of z (merge m k) ≡ with_process i (with_exits (map (exit_at k) ys) (process (machine_of z m) i)) (machine_of z m)
  unfolding machine_of with_process run_list waiter_list timer_list
  merged-machine b =
      λ j. record {
        sizes = z;
        next_pid = m fields.next_pid 0;
        ticks = m fields.ticks 0;
        last_now = m fields.last_now 0;
        up = link_to (m fields.up 0);
        run = run_list z m;
        processes =
            table-set z.processes (process_at m) (process_at (merge m k)) i (with_exits (map (exit_at k) ys) (process (machine_of z m) i))
            (change_at ∙ ap (with_exits (map (exit_at k) ys)) (sym (process_of b i))) (λ x l ne. change_apart x ne) j;
        sleepers = table z.rendez (λ r. link_to (m fields.sleeper_of r));
        locks = table z.locks (λ q. record { held = is_set (m fields.held q); waiters = waiter_list z m q });
        settings = table z.timers (λ t. record { period = m fields.period t; rendez = m fields.timer_rendez t });
        queued = map (λ t. record { timer = t; deadline = m fields.deadline t }) (timer_list z m);
        conditions = table 256 (λ c. is_set (m fields.condition_bit c));
      }

-- The same of a memory m' whose other fields are m's.
pub record Changed (z : Sizes) (m m' : Memory) (i : ℕ) (ys : List ℕ) : Type 0 where
  pub cells : Cells z m'
  pub pids : m' fields.pid ≡ m fields.pid
  pub list : exit_list m' i ≡ ys
  pub others : (j : ℕ) → Used m j → (i ≡ j → ⊥) → exit_list m' j ≡ exit_list m j
  pub at : process_at m' i ≡ with_exits (map (exit_at m') ys) (process_at m i)
  pub apart : (j : ℕ) → (i ≡ j → ⊥) → process_at m' j ≡ process_at m j
  pub machine : machine_of z m' ≡ with_process i (with_exits (map (exit_at m') ys) (process (machine_of z m) i)) (machine_of z m)

pub changed
    : {z : Sizes} {m m' : Memory} {i : ℕ} {ys : List ℕ}
    → InBounds z m
    → Cells z m
    → Same m m'
    → Change z m m' i ys
    → Changed z m m' i ys
changed {z} {m} {m'} {i} {ys} b h e d =
    let q : m' ≡ merge m m' = same-merge e in
    record {
      cells = subst (Cells z) (sym q) (change_cells h d);
      pids = e fields.pid refl;
      list = change_list h d;
      others = change_other h d;
      at = ap (λ (k : Memory). process_at k i) q ∙ change_at h d;
      apart = λ j ne. ap (λ (k : Memory). process_at k j) q ∙ change_apart h d j ne;
      machine = ap (machine_of z) q ∙ merged-machine h d b;
    }
