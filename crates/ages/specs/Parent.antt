-- What `find_parent` finds: the living parent of a process.
use Rattle.std.specs.Prelude.{◌≡◌, List, ℕ, suc, ◌≤◌}
use Rattle.std.proofs.Common.{sym, ap, ◌∙◌, arith}
use Rattle.machine.specs.Machine.{Machine, Process, process}
use Rattle.machine.specs.Exits.{found}
use Rattle.layout.specs.Table.{slot}
use Rattle.layout.specs.Memory.{Ranged}
use Rattle.state.specs.Fields as fields
use Rattle.state.specs.Abs.{link_to, machine_of}
use Rattle.state.specs.Places.{sizes_in, mem_in, ReachIn}
use Rattle.state.specs.declared.Sizes.{Sizes}
use Rattle.exact.specs.Bounds.{in_bounds}
use Rattle.exact.specs.Parts.{used_of}
use Rattle.ages.specs.Kept.{LivingIn, used-below}
use Rattle.ages.specs.Found.{Named, found_none, found_some}

-- The machine of the bytes.
abbrev machine_in : Sizes → List ℕ → Machine
machine_in z s = machine_of (sizes_in z) (mem_in z s)

-- The link names the living process with the parent's pid, and is 0 where there is none.
pub record ParentFound (z : Sizes) (s : List ℕ) (i r : ℕ) : Type 0 where
  pub link : link_to r ≡ found (process (machine_in z s) i).parent (machine_in z s)
  pub range : r ≤ z.processes
  pub some : (j : ℕ) → r ≡ suc j → Named (mem_in z s) (mem_in z s fields.parent i) j
  pub none : r ≡ 0 → (j : ℕ) → Named (mem_in z s) (mem_in z s fields.parent i) j → ⊥

module _ {z : Sizes} {s : List ℕ} {i : ℕ} (a : LivingIn z s i) where
  -- The parent's pid is what the record says.
  parent-pid : (process (machine_in z s) i).parent ≡ mem_in z s fields.parent i
  parent-pid =
      ap (λ (p : Process). p.parent) (used_of (in_bounds a.aged.whole.sizes a.aged.whole.state) i a.used)

  -- Nobody lives with the parent's pid, or record j does.
  nobody : ((j : ℕ) → Named (mem_in z s) (mem_in z s fields.parent i) j → ⊥) → ParentFound z s i 0
  nobody h =
      record {
        link = sym (ap (λ (p : ℕ). found p (machine_in z s)) parent-pid ∙ found_none (sizes_in z) (mem_in z s) (mem_in z s fields.parent i) h);
        range = omega arith;
        some = λ j e. absurd (omega (arith, e));
        none = λ e. h;
      }

  somebody : (j : ℕ) → Named (mem_in z s) (mem_in z s fields.parent i) j → ParentFound z s i (suc j)
  somebody j n =
      record {
        link = sym (ap (λ (p : ℕ). found p (machine_in z s)) parent-pid ∙ found_some a.aged.ages (mem_in z s fields.parent i) j n);
        range = used-below a.aged.ages j n.used;
        some = λ k e. let d : j ≡ k = omega (arith, e) in rw d at n;
        none = λ e. absurd (omega (arith, e));
      }

  -- Where the parent lives, the record's link names it.
  linked : (j : ℕ) → Named (mem_in z s) (mem_in z s fields.parent i) j → mem_in z s fields.parent_at i ≡ suc j
  linked j n = a.aged.ages.parent_at i j a.used n.used (sym n.pid)

-- What the last read asks.
pub parent-reach
    : {z : Sizes} {s : List ℕ} {i j : ℕ}
    → LivingIn z s i
    → suc j ≡ mem_in z s fields.parent_at i
    → ReachIn z s (slot 1 0 8) j
unfolding Ranged
parent-reach {z} {s} {i} {j} a e =
    record {
      inside = record { region = omega arith; end = omega arith };
      index = omega (arith, e, a.aged.whole.state.ranged fields.parent_at i);
      long = a.aged.whole.state.long;
    }

-- What the code shows at each return: q is the parent's pid, j the record that the parent had, and v the pid there.
pub parent-none : {z : Sizes} {s : List ℕ} {i q : ℕ} → LivingIn z s i → q ≡ mem_in z s fields.parent i → q ≡ 0 → ParentFound z s i 0
parent-none a e d = nobody a (λ j n. absurd (omega (arith, e, d, n.used, n.pid)))

pub parent-unlinked : {z : Sizes} {s : List ℕ} {i : ℕ} → LivingIn z s i → 0 ≡ mem_in z s fields.parent_at i → ParentFound z s i 0
parent-unlinked a e = nobody a (λ j n. absurd (omega (arith, e, linked a j n)))

pub parent-gone
    : {z : Sizes} {s : List ℕ} {i j q v : ℕ}
    → LivingIn z s i
    → q ≡ mem_in z s fields.parent i
    → suc j ≡ mem_in z s fields.parent_at i
    → v ≡ mem_in z s fields.pid j
    → (v ≡ q → ⊥)
    → ParentFound z s i 0
parent-gone {z} {s} {i} {j} {q} {v} a e d h ne =
    nobody a
    (λ k n.
    let w : j ≡ k = omega (arith, d, linked a k n) in
    ne (h ∙ ap (mem_in z s fields.pid) w ∙ n.pid ∙ sym e))

pub parent-here
    : {z : Sizes} {s : List ℕ} {i j q v : ℕ}
    → LivingIn z s i
    → q ≡ mem_in z s fields.parent i
    → (q ≡ 0 → ⊥)
    → suc j ≡ mem_in z s fields.parent_at i
    → v ≡ mem_in z s fields.pid j
    → v ≡ q
    → ParentFound z s i (suc j)
parent-here {z} {s} {i} {j} {q} {v} a e ne d h w = somebody a j (record { used = omega (arith, h, w); pid = sym h ∙ w ∙ e })
