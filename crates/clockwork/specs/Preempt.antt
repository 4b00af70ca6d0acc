-- Whether who runs should yield.
use Rattle.std.specs.Prelude.{if◌then◌else◌, ◌≡◌, refl, Bool, true, false, not, List, [], ◌∷◌, ℕ, zero, suc, ◌-◌, ◌≤◌, ◌<◌, leb}
use Rattle.std.proofs.Common.{sym, ap, ◌∙◌, arith, ne_eqb, le-leb, lit<}
use Rattle.std.proofs.Math.Option.{some}
use Rattle.std.proofs.lemmas.Bool.{lt-leb}
use Rattle.machine.specs.Basics.{is_empty}
use Rattle.machine.specs.Machine.{Machine, Process, process}
use Rattle.machine.specs.Perform.{preempt_due}
use Rattle.layout.specs.Memory.{Memory, Ranged}
use Rattle.layout.specs.Table.{slot}
use Rattle.chain.specs.Links.{Chain, Links}
use Rattle.state.specs.Fields as fields
use Rattle.state.specs.Abs.{is_set, link_to, run_list, machine_of}
use Rattle.state.specs.WellFormed.{Used}
use Rattle.state.specs.Places.{sizes_in, mem_in, ReachIn}
use Rattle.state.specs.declared.Sizes.{Sizes}
use Rattle.exact.specs.Parts.{used_of}
use Rattle.holds.specs.Whole.{holds-bounds}
use Rattle.timer.specs.Only.{Owing}
use Rattle.timer.specs.Del.{machine_in}

-- Whether who runs should yield: the machine's answer.
pub record PreemptDue (z : Sizes) (s : List ℕ) (r : Bool) : Type 0 where
  pub answer : r ≡ preempt_due (machine_in z s)

-- Who runs lives, and has a record.
up-used : {z : Sizes} {s : List ℕ} {i : ℕ} → Owing z s → mem_in z s fields.up 0 ≡ suc i → Used (mem_in z s) i
up-used {z} {s} {i} o e = go (mem_in z s fields.pid i) refl
  where
    go : (p : ℕ) → mem_in z s fields.pid i ≡ p → 0 < mem_in z s fields.pid i
    go zero q = absurd (omega (arith, o.holds.keeps.placed.free i q, o.holds.keeps.placed.running i e))
    go (suc p) q = omega (arith, q)

pub up-reach : {z : Sizes} {s : List ℕ} {up : ℕ} → Owing z s → up ≡ mem_in z s fields.up 0 → (up ≡ 0 → ⊥) → ReachIn z s (slot 1 16 8) (up - 1)
unfolding Ranged
up-reach o e ne =
    record {
      inside = record { region = lit< tt; end = lit< tt };
      index = omega (arith, e, o.holds.state.ranged fields.up 0);
      long = o.holds.state.long;
    }

-- The run queue has a head where it is not empty.
run_head_lem : {n : ℕ} {g : ℕ → ℕ} {h : ℕ} {xs : List ℕ} → Chain n g h xs → not (is_empty xs) ≡ is_set h
run_head_lem {n} {g} {h} {xs} c = go xs c.links
  where
    go : (ys : List ℕ) → Links g h ys → not (is_empty ys) ≡ is_set h
    go [] e = rw e
    go (y ∷ ys) e = rw (e.0, ne_eqb (suc y) 0 (λ d. absurd (omega (arith, d))))

preempt_up
    : (M : Machine) (i : ℕ)
    → M.up ≡ some i
    → preempt_due M ≡ (if leb (process M i).quantum_end M.ticks then not (is_empty M.run) else false)
unfolding preempt_due
preempt_up M i e = rw e

preempt_of
    : (z : Sizes) (s : List ℕ) (i : ℕ)
    → Owing z s
    → mem_in z s fields.up 0 ≡ suc i
    → preempt_due (machine_in z s)
    ≡ (if leb (mem_in z s fields.quantum_end i) (mem_in z s fields.ticks 0) then is_set (mem_in z s fields.run_head 0) else false)
unfolding machine_of
preempt_of z s i o e =
    let m : Memory = mem_in z s in
    let q : (process (machine_in z s) i).quantum_end ≡ m fields.quantum_end i =
    ap (λ (p : Process). p.quantum_end) (used_of (holds-bounds o.holds) i (up-used o e))
    in
    preempt_up (machine_in z s) i (ap link_to e)
    ∙ ap (λ (k : ℕ). if leb k (m fields.ticks 0) then not (is_empty (run_list (sizes_in z) m)) else false) q
    ∙ ap (λ (b : Bool). if leb (m fields.quantum_end i) (m fields.ticks 0) then b else false) (run_head_lem o.holds.keeps.placed.run.queue.chain)

-- What the code of `preempt_due` shows: nobody runs, the quantum is not over, and the run queue decides.
pub due-nobody : {z : Sizes} {s : List ℕ} {up : ℕ} → up ≡ mem_in z s fields.up 0 → up ≡ 0 → PreemptDue z s false
unfolding preempt_due machine_of
due-nobody e n = record { answer = rw (sym e ∙ n) }

pub due_early
    : {z : Sizes} {s : List ℕ} {up end ticks : ℕ}
    → Owing z s
    → up ≡ mem_in z s fields.up 0
    → (up ≡ 0 → ⊥)
    → end ≡ mem_in z s fields.quantum_end (up - 1)
    → ticks ≡ mem_in z s fields.ticks 0
    → ticks < end
    → PreemptDue z s false
due_early {z} {s} {up} o e ne q t l =
    let m : Memory = mem_in z s in
    let b : leb (m fields.quantum_end (up - 1)) (m fields.ticks 0) ≡ false =
    lt-leb (m fields.quantum_end (up - 1)) (m fields.ticks 0) (omega (arith, q, t))
    in
    record { answer = sym (preempt_of z s (up - 1) o (sym e ∙ omega arith) ∙ rw b) }

pub due-queued
    : {z : Sizes} {s : List ℕ} {up end ticks first : ℕ}
    → Owing z s
    → up ≡ mem_in z s fields.up 0
    → (up ≡ 0 → ⊥)
    → end ≡ mem_in z s fields.quantum_end (up - 1)
    → ticks ≡ mem_in z s fields.ticks 0
    → end ≤ ticks
    → first ≡ mem_in z s fields.run_head 0
    → PreemptDue z s (is_set first)
due-queued {z} {s} {up} o e ne q t l f =
    let m : Memory = mem_in z s in
    let b : leb (m fields.quantum_end (up - 1)) (m fields.ticks 0) ≡ true =
    le-leb (m fields.quantum_end (up - 1)) (m fields.ticks 0) (omega (arith, q, t))
    in
    record { answer = ap (λ (k : ℕ). is_set k) f ∙ sym (preempt_of z s (up - 1) o (sym e ∙ omega arith) ∙ rw b) }
