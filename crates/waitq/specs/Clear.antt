-- What `exits::take_all` does: the exits are taken one after another.
use Rattle.std.specs.Prelude.{◌≡◌, refl, List, [], ◌++◌, ℕ, zero, suc, ◌-◌, ◌≤◌, ◌<◌, length}
use Rattle.std.proofs.Common.{sym, ap, ap₂, subst, ◌∙◌, arith}
use Rattle.std.proofs.lemmas.List.{nil_from_length}
use Rattle.machine.specs.Machine.{process}
use Rattle.machine.specs.Update.{with_process, with_exits}
use Rattle.layout.specs.Table.{slot}
use Rattle.layout.specs.Memory.{Memory}
use Rattle.layout.specs.Writes.{Write, writes_join, length-writes}
use Rattle.chain.specs.Links.{alter-same}
use Rattle.state.specs.Fields as fields
use Rattle.state.specs.Abs.{exit_list}
use Rattle.state.specs.Places.{sizes_in, mem_in, ReachIn}
use Rattle.state.specs.WellFormed.{Used}
use Rattle.state.specs.declared.Sizes.{Sizes}
use Rattle.exact.specs.Bounds.{inside}
use Rattle.holds.specs.Holds.{Holds}
use Rattle.holds.specs.Whole.{holds-bounds}
use Rattle.holds.specs.Use.{Fewer, fewer-same, same_use, fewer_join, between_first}
use Rattle.holds.specs.Leftover.{Spared, spared_join, Ceased, ceased-lasts, ceased_join, quiet_calm, alive-kin, Steady, steady-none, steady_join}
use Rattle.holds.specs.Did.{Did, writes_in, WritableIn, writable_join, machine_in, same}
use Rattle.waitq.specs.Change.{Changed}
use Rattle.waitq.specs.Join.{changed_join, changed-none}
use Rattle.waitq.specs.Stored.{nexits-reach}
use Rattle.waitq.specs.Push.{head_stores}
use Rattle.waitq.specs.Pop.{unlink_stores, pop_stores}
use Rattle.waitq.specs.Marks.{holds-cells}
use Rattle.waitq.specs.Take.{take_stores, take_mem, TakeAsks, TakeDone}
use Rattle.waitq.specs.InUse.{take-steady}

-- The newest k exits of record i are taken, n being how many cells there are: the memory then, and the stores.
unfoldable pub takes_mem : ℕ → ℕ → Memory → ℕ → Memory
takes_mem n zero m i = m
takes_mem n (suc k) m i = take_mem n (takes_mem n k m i) i (takes_mem n k m i fields.exits i - 1)

unfoldable pub takes_stores : ℕ → ℕ → Memory → ℕ → List Write
takes_stores n zero m i = []
takes_stores n (suc k) m i = takes_stores n k m i ++ take_stores n (takes_mem n k m i) i (takes_mem n k m i fields.exits i - 1)

-- The cells keep what they kept.
takes_steady : (n k : ℕ) (m : Memory) (i : ℕ) → Steady m (takes_mem n k m i)
unfolding takes_mem
takes_steady n zero m i = steady-none
takes_steady n (suc k) m i = steady_join (takes_steady n k m i) (take-steady n (takes_mem n k m i) i (takes_mem n k m i fields.exits i - 1))

-- What the code asks: every group holds, and the record is in use.
pub record ClearAsks (z : Sizes) (s : List ℕ) (i : ℕ) : Type 0 where
  pub owed : ℕ
  pub holds : Holds z s owed
  pub used : Used (mem_in z s) i

-- All of them are taken; the record has none.
pub record ClearDone (z : Sizes) (s s' : List ℕ) (i : ℕ) : Type 0 where
  pub did : Did z s s' same same (takes_stores z.cells (mem_in z s fields.nexits i) (mem_in z s) i)
      (takes_mem z.cells (mem_in z s fields.nexits i) (mem_in z s) i)
      (with_process i (with_exits [] (process (machine_in z s) i)) (machine_in z s))
  pub number : mem_in z s' fields.nexits i ≡ 0
  pub changed : Changed (sizes_in z) (mem_in z s) (mem_in z s') i []
  pub fewer : Fewer z (mem_in z s) (mem_in z s')
  pub ceased : Ceased z (mem_in z s) (mem_in z s')
  pub steady : Steady (mem_in z s) (mem_in z s')

-- As it goes: k are left.
pub record Clearing (z : Sizes) (s₀ s : List ℕ) (i k : ℕ) : Type 0 where
  pub asks : ClearAsks z s i
  pub left : mem_in z s fields.nexits i ≡ k
  pub within : k ≤ mem_in z s₀ fields.nexits i
  pub long : length s ≡ length s₀
  pub holds : (n : ℕ) → Holds z s₀ n → Holds z s n
  pub bytes : s ≡ writes_in z s₀ (takes_stores z.cells (mem_in z s₀ fields.nexits i - k) (mem_in z s₀) i)
  pub writable : WritableIn z (takes_stores z.cells (mem_in z s₀ fields.nexits i - k) (mem_in z s₀) i)
  pub memory : mem_in z s ≡ takes_mem z.cells (mem_in z s₀ fields.nexits i - k) (mem_in z s₀) i
  pub changed : Changed (sizes_in z) (mem_in z s₀) (mem_in z s) i (exit_list (mem_in z s) i)
  pub spared : Spared z (mem_in z s₀) (mem_in z s)
  pub ceased : Ceased z (mem_in z s₀) (mem_in z s)
  pub fewer : Fewer z (mem_in z s₀) (mem_in z s)

pub clear-reach : {z : Sizes} {s : List ℕ} {i : ℕ} → ClearAsks z s i → ReachIn z s (slot 1 36 1) i
clear-reach a = nexits-reach (holds-cells a.holds) a.used

pub clear-start : {z : Sizes} {s : List ℕ} {i k : ℕ} → ClearAsks z s i → k ≡ mem_in z s fields.nexits i → Clearing z s s i k
unfolding takes_mem takes_stores
clear-start {z} {s} {i} {k} a e =
    let d : mem_in z s fields.nexits i - k ≡ 0 = omega (arith, e) in
    record {
      asks = a;
      left = sym e;
      within = omega (arith, e);
      long = refl;
      holds = λ n h. h;
      bytes = rw d;
      writable = rw d tt;
      memory = rw d;
      changed = changed-none (holds-bounds a.holds) a.holds.keeps.cells a.used;
      spared = record { spared = λ f j a b. refl };
      ceased = ceased-lasts (record { lasts = λ f j u. u });
      fewer = fewer-same (same_use refl refl refl refl refl refl refl refl refl);
    }

pub clear-take : {z : Sizes} {s₀ s : List ℕ} {i k : ℕ} → Clearing z s₀ s i k → 0 < k → TakeAsks z s i
clear-take c l = record { owed = c.asks.owed; holds = c.asks.holds; used = c.asks.used; some = omega (arith, c.left, l) }

-- One fewer.
take-number : (n : ℕ) (m : Memory) (i c : ℕ) → take_mem n m i c fields.nexits i ≡ m fields.nexits i - 1
unfolding pop_stores unlink_stores head_stores
take-number n m i c = alter-same (m fields.nexits) i (m fields.nexits i - 1)

pub clear_step
    : {z : Sizes} {s₀ s s' : List ℕ} {i k k' r : ℕ}
    → Clearing z s₀ s i k
    → 0 < k
    → TakeDone z s s' i r
    → k' ≡ k - 1
    → Clearing z s₀ s' i k'
unfolding takes_mem takes_stores
clear_step {z} {s₀} {s} {s'} {i} {k} {k'} {r} c l t e =
    let N : ℕ = mem_in z s₀ fields.nexits i in
    let m : Memory = takes_mem z.cells (N - k) (mem_in z s₀) i in
    let q : N - k' ≡ suc (N - k) = omega (arith, e, l, c.within) in
    let f : r - 1 ≡ m fields.exits i - 1 = ap (λ (x : ℕ). x - 1) (t.link ∙ ap (λ (y : Memory). y fields.exits i) c.memory) in
    let g : Changed (sizes_in z) (mem_in z s) (mem_in z s') i (exit_list (mem_in z s') i) =
    subst (λ (ys : List ℕ). Changed (sizes_in z) (mem_in z s) (mem_in z s') i ys) (sym t.changed.list) t.changed
    in
    let w : take_stores z.cells (mem_in z s) i (r - 1) ≡ take_stores z.cells m i (m fields.exits i - 1) =
    ap₂ (λ (y : Memory) (x : ℕ). take_stores z.cells y i x) c.memory f
    in
    let u : Spared z (mem_in z s) (mem_in z s') = subst (Spared z (mem_in z s)) (sym t.did.memory) t.did.spared in
    record {
      asks =
          record {
            owed = c.asks.owed;
            holds = t.did.holds c.asks.owed c.asks.holds;
            used = subst (λ (x : ℕ → ℕ). 0 < x i) (sym t.changed.pids) c.asks.used;
          };
      left = ap (λ (y : Memory). y fields.nexits i) t.did.memory ∙ take-number z.cells (mem_in z s) i (r - 1) ∙ omega (arith, c.left, e);
      within = omega (arith, e, c.within);
      long =
          ap length t.did.bytes
          ∙ length-writes fields.layout1 (fields.counts (sizes_in z)) s (take_stores z.cells (mem_in z s) i (r - 1))
          ∙ c.long;
      holds = λ n h. t.did.holds n (c.holds n h);
      bytes =
          rw q
          (t.did.bytes
          ∙ ap (writes_in z s) w
          ∙ ap (λ (x : List ℕ). writes_in z x (take_stores z.cells m i (m fields.exits i - 1))) c.bytes
          ∙ sym
          (writes_join fields.layout1 (fields.counts (sizes_in z)) s₀ (takes_stores z.cells (N - k) (mem_in z s₀) i)
          (take_stores z.cells m i (m fields.exits i - 1))));
      writable =
          rw q
          (writable_join z (takes_stores z.cells (N - k) (mem_in z s₀) i) (take_stores z.cells m i (m fields.exits i - 1)) c.writable
          (subst (WritableIn z) w t.did.writable));
      memory = rw q (t.did.memory ∙ ap₂ (λ (y : Memory) (x : ℕ). take_mem z.cells y i x) c.memory f);
      changed = changed_join (inside (holds-bounds c.asks.holds) fields.pid i c.asks.used) c.changed g;
      spared = spared_join c.spared u (between_first c.fewer);
      ceased = ceased_join c.ceased u t.ceased (quiet_calm c.fewer.calm (alive-kin t.fewer.kin));
      fewer = fewer_join c.fewer t.fewer;
    }

pub clear-end : {z : Sizes} {s₀ s : List ℕ} {i k : ℕ} → Clearing z s₀ s i k → k ≤ 0 → ClearDone z s₀ s i
clear-end {z} {s₀} {s} {i} {k} c l =
    let m : Memory = mem_in z s₀ in
    let q : m fields.nexits i - k ≡ m fields.nexits i = omega arith in
    let none : exit_list (mem_in z s) i ≡ [] =
    nil_from_length (exit_list (mem_in z s) i) (omega (arith, c.asks.holds.keeps.cells.counted i c.asks.used, c.left, l))
    in
    let d : Changed (sizes_in z) m (mem_in z s) i [] = subst (λ (ys : List ℕ). Changed (sizes_in z) m (mem_in z s) i ys) none c.changed in
    record {
      did =
          record {
            holds = c.holds;
            bytes = rw q at c.bytes;
            writable = rw q at c.writable;
            memory = rw q at c.memory;
            machine = d.machine;
            spared = subst (Spared z m) (rw q at c.memory) c.spared;
          };
      number = omega (arith, c.left, l);
      changed = d;
      fewer = c.fewer;
      ceased = c.ceased;
      steady = subst (Steady m) (sym c.memory) (takes_steady z.cells (m fields.nexits i - k) m i);
    }
