-- The name of a process: what `set_name` asks and ensures.
use Rattle.std.specs.Prelude.{◌≡◌, refl, List, ℕ, ◌*◌, ◌<◌, length}
use Rattle.std.proofs.Common.{sym, ap, ◌∙◌, arith}
use Rattle.machine.specs.Machine as machine
use Rattle.machine.specs.Machine.{process}
use Rattle.machine.specs.Update.{with_process, with_name}
use Rattle.layout.specs.Memory.{Memory, set_field}
use Rattle.state.specs.Fields as fields
use Rattle.state.specs.Abs.{exit_list, waits_on, exit_at, process_at, machine_of}
use Rattle.state.specs.Places.{sizes_in, mem_in, Wrote}
use Rattle.state.specs.WellFormed.{Used}
use Rattle.state.specs.declared.Sizes.{Sizes}
use Rattle.record.specs.Loads.{LoadAsks}
use Rattle.record.specs.Stores.{name_stores}
use Rattle.exact.specs.Bounds.{InBounds}
use Rattle.exact.specs.Parts.{used_at, used_at_lem, used_of}
use Rattle.holds.specs.Holds.{Holds}
use Rattle.holds.specs.Whole.{holds-bounds}
use Rattle.holds.specs.Frames.{placed_same}
use Rattle.holds.specs.Did.{Did, did, machine_in, same}
use Rattle.places.specs.Others.{others, keeps_with}
use Rattle.records.specs.Names.{IsName, names_with, name-here, spelled-stores, spelled-writable}
use Rattle.records.specs.Else.{Else, else_none, else_name}
use Rattle.records.specs.InUse.{name-in_use}
use Rattle.records.specs.Own.{LivingAsks, living-low, own-machine, own-asleep}

-- The name is stored.
abbrev pub rename_mem : Memory → ℕ → List ℕ → Memory
rename_mem m i text = set_field m fields.name_byte (names_with (m fields.name_byte) i text)

pub record NameAsks (z : Sizes) (s : List ℕ) (i : ℕ) (text : List ℕ) : Type 0 where
  pub living : LivingAsks z s i
  pub named : IsName text

pub record NameSet (z : Sizes) (s s' : List ℕ) (i : ℕ) (text : List ℕ) : Type 0 where
  pub did
      : Did z s s' same same (name_stores (28 * i) text) (rename_mem (mem_in z s) i text)
      (with_process i (with_name text (process (machine_in z s) i)) (machine_in z s))

pub name-load : {z : Sizes} {s : List ℕ} {i : ℕ} {text : List ℕ} → NameAsks z s i text → LoadAsks z s i
name-load a = record { index = living-low a.living; long = a.living.holds.state.long }

name-process
    : {z : machine.Sizes} {m : Memory} {i : ℕ} (text : List ℕ)
    → InBounds z m
    → Used m i
    → length text ≡ 28
    → process_at (rename_mem m i text) i ≡ with_name text (process (machine_of z m) i)
unfolding with_name exit_list exit_at waits_on
name-process {z} {m} {i} text b u w =
    used_at_lem (rename_mem m i text) i u
    ∙ (λ k. record {
      pid = m fields.pid i;
      name = name-here (m fields.name_byte) i text w k;
      parent = m fields.parent i;
      nchild = m fields.nchild i;
      exits = (used_at m i).exits;
      quantum_end = m fields.quantum_end i;
      resume = (used_at m i).resume;
      on_waitr = (used_at m i).on_waitr;
    })
    ∙ ap (with_name text) (sym (used_of b i u))

-- What the code shows.
pub name_set : {z : Sizes} {s s₁ : List ℕ} {i : ℕ} {text : List ℕ} → NameAsks z s i text → Wrote z s s₁ (name_stores (28 * i) text) → NameSet z s s₁ i text
unfolding with_name
name_set {z} {s} {s₁} {i} {text} a q =
    let m : Memory = mem_in z s in
    let h : Holds z s a.living.owed = a.living.holds in
    let b : InBounds (sizes_in z) m = holds-bounds h in
    let w : length text ≡ 28 = a.named.length in
    let l : i < z.processes = living-low a.living in
    let p : process_at (rename_mem m i text) i ≡ with_name text (process (machine_in z s) i) = name-process text b a.living.used w in
    let e : Else m (rename_mem m i text) i = else_name (else_none m i) text w in
    record {
      did =
          did (name_stores (28 * i) text) (rename_mem m i text) (with_process i (with_name text (process (machine_in z s) i)) (machine_in z s)) h
          q.bytes
          (spelled-writable z (28 * i) text (omega (arith, w, l)) a.named.bytes)
          (spelled-stores m (28 * i) text)
          (λ n x.
          keeps_with (others x)
          (placed_same n refl refl refl refl refl refl refl refl refl refl refl refl refl (own-asleep b a.living.used e p refl) x.placed))
          (own-machine b a.living.used e p)
          (name-in_use i (28 * i) 0 text a.living.used (omega arith) (omega arith));
    }
