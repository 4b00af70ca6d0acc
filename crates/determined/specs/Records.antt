-- What a record in use holds in two memories of one machine.
use Rattle.std.specs.Prelude.{◌≡◌, ℕ, ◌+◌, ◌*◌, ◌/◌, ◌%◌}
use Rattle.std.proofs.Common.{sym, ap, subst, ◌∙◌, arith}
use Rattle.std.proofs.Math.Nat.{div-add-mod}
use Rattle.machine.specs.Basics.{count}
use Rattle.machine.specs.Machine.{Sizes, Machine, Process, process}
use Rattle.machine.specs.Good.{running_in}
use Rattle.layout.specs.Memory.{Memory}
use Rattle.state.specs.Fields as fields
use Rattle.state.specs.Abs.{link_to, is_set}
use Rattle.state.specs.WellFormed.{Used}
use Rattle.exact.specs.Bounds.{at_most}
use Rattle.exact.specs.Parts.{used_at, used_of}
use Rattle.exact.specs.Spots.{Spots, tags-set}
use Rattle.lists.specs.Lists.{bit}
use Rattle.determined.specs.Chains.{table_at}
use Rattle.determined.specs.Calls.{CallSame, call_same, state-same}
use Rattle.determined.specs.Twins.{Twins, Same, formed-spots}
use Rattle.determined.specs.Plain.{same-pid, same_up, same-run}

module _ {z : Sizes} {m m' : Memory} (w : Twins z m m') where
  -- The record is in use in both, and holds the same process.
  pub same_use : (i : ℕ) → Used m i → Used m' i
  same_use i u = omega (arith, same-pid w i)

  pub same-process : (i : ℕ) → Used m i → used_at m' i ≡ used_at m i
  same-process i u = sym (used_of w.two.bounds i (same_use i u)) ∙ ap (λ (x : Machine). process x i) w.machine ∙ used_of w.one.bounds i u

  -- Its parent, its quantum and its living children.
  pub same-parent : (i : ℕ) → Used m i → m' fields.parent i ≡ m fields.parent i
  same-parent i u = ap (λ (p : Process). p.parent) (same-process i u)

  pub same-quantum : (i : ℕ) → Used m i → m' fields.quantum_end i ≡ m fields.quantum_end i
  same-quantum i u = ap (λ (p : Process). p.quantum_end) (same-process i u)

  pub same-nchild : (i : ℕ) → Used m i → m' fields.nchild i ≡ m fields.nchild i
  same-nchild i u = ap (λ (p : Process). p.nchild) (same-process i u)

  -- Byte i is one of the name of record i / 28.
  pub same_name : (i : ℕ) → Used m (i / 28) → m' fields.name_byte i ≡ m fields.name_byte i
  same_name i u =
      subst (λ (k : ℕ). m' fields.name_byte k ≡ m fields.name_byte k) (div-add-mod i 28)
      (table_at 28 (λ (j : ℕ). m fields.name_byte (28 * (i / 28) + j)) (λ (j : ℕ). m' fields.name_byte (28 * (i / 28) + j))
      (ap (λ (p : Process). p.name) (same-process (i / 28) u)) (i % 28) (omega arith))

  -- The call: its kind, its object and its condition.
  pub same-call
      : (i : ℕ)
      → Used m i
      → CallSame (m fields.resume_kind i) (m fields.resume_object i) (m fields.resume_condition i) (m' fields.resume_kind i) (m' fields.resume_object i) (m' fields.resume_condition i)
  same-call i u =
      call_same (at_most w.one.bounds fields.resume_kind i) (at_most w.two.bounds fields.resume_kind i)
      (w.one.keeps.placed.blanks i u) (w.two.keeps.placed.blanks i (same_use i u))
      (ap (λ (p : Process). p.resume) (same-process i u))

  -- The state: 1 for who runs, 2 in the run queue, and 3 for who else lives.
  pub same-state : Same m m' fields.state_of
  same-state i =
      let s : Spots z m = formed-spots w.one in
      let s' : Spots z m' = formed-spots w.two in
      state-same (m fields.state_of i) (m' fields.state_of i) (at_most w.one.bounds fields.state_of i) (at_most w.two.bounds fields.state_of i)
      (sym (s'.running i) ∙ ap (λ (l : ℕ). count i (running_in (link_to l))) (same_up w) ∙ s.running i)
      (sym (s'.ready i) ∙ ap (count i) (same-run w) ∙ s.ready i)
      (sym (tags-set s'.tags i) ∙ ap (λ (p : ℕ). bit (is_set p)) (same-pid w i) ∙ tags-set s.tags i)
