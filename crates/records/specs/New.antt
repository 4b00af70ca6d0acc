-- A new process: its record, and what its pid must be.
use Rattle.std.specs.Prelude.{◌≡◌, refl, Option, None, Some, false, [], ℕ, zero, suc, ◌-◌, ◌≤◌, ◌<◌}
use Rattle.std.proofs.Common.{sym, arith}
use Rattle.memory.specs.Link as links
use Rattle.memory.specs.Link.{link, IsLink}
use Rattle.machine.specs.Machine.{Process, nothing}
use Rattle.layout.specs.Memory.{Memory}
use Rattle.state.specs.Fields as fields
use Rattle.state.specs.WellFormed.{Used}
use Rattle.record.specs.declared.Proc.{Proc}
use Rattle.record.specs.declared.Resume.TheVariants.{Nothing}

-- The link that a number says.
abbrev pub link_of : ℕ → Option ℕ
link_of zero = None
link_of (suc i) = Some i

pub number-of : (n : ℕ) → link (link_of n) ≡ n
number-of zero = refl
number-of (suc i) = refl

pub of-number : (l : Option ℕ) {n : ℕ} → link l ≡ n → l ≡ link_of n
of-number None e = rw (sym e) refl
of-number (Some i) e = rw (sym e) refl

-- It fits where its number does.
pub link-fits : (l : Option ℕ) {n : ℕ} → link l ≤ n → n ≤ 65535 → IsLink l
link-fits None h m = tt
link-fits (Some i) h m = omega (arith, h, m)

-- The record of a new process with the pid v, and with three links: its parent, the link to that and its name are those of p; it is
-- ready, with no children, no exits, no quantum and no call.
abbrev pub newborn : (next older younger : Option ℕ) → Proc → ℕ → Proc
newborn next older younger p v =
    record {
      pid = v;
      parent = p.parent;
      quantum_end = 0;
      next = next;
      older = older;
      younger = younger;
      parent_at = p.parent_at;
      nchild = 0;
      exits = None;
      nexits = 0;
      state = 2;
      resume = Nothing;
      text = p.text;
    }

-- With the links of record i.
abbrev pub new_record : Memory → ℕ → Proc → ℕ → Proc
new_record m i p v = newborn (link_of (m fields.next i)) (link_of (m fields.older i)) (link_of (m fields.younger i)) p v

-- The process.
abbrev pub new_process : ℕ → Proc → Process
new_process v p =
    record {
      pid = v;
      name = p.text;
      parent = p.parent;
      nchild = 0;
      exits = [];
      quantum_end = 0;
      resume = nothing;
      on_waitr = false;
    }

-- Either there is no parent and no link, or the link names the record with the parent's pid.
pub data HasKin (pids : ℕ → ℕ) (parent link : ℕ) : Type 0 where
  orphan : parent ≡ 0 → link ≡ 0 → HasKin pids parent link
  child : 0 < parent → pids (link - 1) ≡ parent → HasKin pids parent link

pub orphan-link : {g : ℕ → ℕ} {p l : ℕ} → HasKin g p l → p ≡ 0 → l ≡ 0
orphan-link (orphan e n) d = n
orphan-link (child h e) d = absurd (omega (arith, h, d))

-- The pid is above every other, and above those of all parents; and the link names the parent, where that lives.
pub record Newcomer (m : Memory) (p : Proc) (v : ℕ) : Type 0 where
  pub above : (j : ℕ) → m fields.pid j < v
  pub parents : (j : ℕ) → Used m j → m fields.parent j < v
  pub parent : p.parent < v
  pub link : (j : ℕ) → Used m j → p.parent ≡ m fields.pid j → link p.parent_at ≡ suc j
  pub kin : HasKin (m fields.pid) p.parent (links.link p.parent_at)

-- It is one as long as the pids and the parents stay.
pub newcomer_same
    : {m m' : Memory} {p : Proc} {v : ℕ} → m' fields.pid ≡ m fields.pid → m' fields.parent ≡ m fields.parent → Newcomer m p v → Newcomer m' p v
newcomer_same a b c =
    record { above = rw a c.above; parents = rw (a, b) c.parents; parent = c.parent; link = rw a c.link; kin = rw a c.kin }
