-- A process goes, and its parent, where it lives, is told.
use Rattle.std.specs.Prelude.{◌≡◌, false, List, ℕ, suc, ◌<◌}
use Rattle.std.proofs.Math.Path.{sym, ap, subst}
use Rattle.std.proofs.Common.{◌∙◌, arith, lt-ltb}
use Rattle.std.proofs.Math.Bool.{true}
use Rattle.std.proofs.Math.Option.{some}
use Rattle.std.proofs.Math.ListN.{length}
use Rattle.machine.specs.Basics.{is_none}
use Rattle.machine.specs.Machine.{Machine, Process, process, pid_of}
use Rattle.machine.specs.Good.{Lives, children}
use Rattle.machine.specs.Exits.{found, free_cell, without, has_room, message_due, tell_parent}
use Rattle.state.specs.Fields as fields
use Rattle.state.specs.Abs.{link_to, process_at, machine_of}
use Rattle.state.specs.Tables.{table-length}
use Rattle.state.specs.Places.{sizes_in, mem_in}
use Rattle.state.specs.WellFormed.{Used}
use Rattle.state.specs.declared.Sizes.{Sizes}
use Rattle.record.specs.Loads.{name_of, LoadAsks, Loaded}
use Rattle.record.specs.declared.Proc.{Proc}
use Rattle.kept.specs.Allowed.{and_off, there}
use Rattle.exact.specs.Bounds.{inside}
use Rattle.exact.specs.Parts.{used_of, pid_of_lem}
use Rattle.holds.specs.Holds.{Holds}
use Rattle.holds.specs.Whole.{holds-bounds}
use Rattle.holds.specs.Did.{machine_in}
use Rattle.holds.specs.Leftover.{alive-kin}
use Rattle.holds.specs.Touched.{Spares, spares-gone}
use Rattle.ages.specs.Found.{found-named}
use Rattle.ages.specs.Parent.{ParentFound}
use Rattle.waitq.specs.Marks.{exits-number}
use Rattle.outcome.specs.Stepped.{Well}
use Rattle.outcome.specs.RefusalsExit.{no_cell}
use Rattle.proc_exit.specs.Leave.{LeaveAsks, Left, leave-used}
use Rattle.proc_exit.specs.Tell.{TellAsks, ToldParent}
use Rattle.proc_exit.specs.FreeCells.{due-some}
use Rattle.proc_exit.specs.Told.{told-nobody, others, counted}

-- Process i runs, the link names its living parent, and a cell is free where a message is due.
pub record DepartAsks (z : Sizes) (s : List ℕ) (i l : ℕ) : Type 0 where
  pub well : Well z s
  pub runs : mem_in z s fields.up 0 ≡ suc i
  pub parent : ParentFound z s i l
  pub cell : no_cell (machine_in z s) i ≡ false

-- The answer is its pid; the machine is the definition's.
pub record Departed (z : Sizes) (s s' : List ℕ) (i : ℕ) (status : List ℕ) (r : ℕ) : Type 0 where
  pub holds : Holds z s' 0
  pub pid : r ≡ pid_of (machine_in z s) i
  pub machine : machine_in z s' ≡ (tell_parent (process (machine_in z s) i) status (without i (machine_in z s))).machine
  pub spares : Spares z s s'

module _ {z : Sizes} {s : List ℕ} {i l : ℕ} (a : DepartAsks z s i l) where
  -- What the first calls ask.
  pub depart-leave : LeaveAsks z s i
  depart-leave = record { holds = a.well.holds; runs = a.runs }

  used : Used (mem_in z s) i
  used = leave-used depart-leave

  low : i < z.processes
  low = inside (holds-bounds a.well.holds) fields.pid i used

  pub depart-load : LoadAsks z s i
  depart-load = record { index = low; long = a.well.holds.state.long }

  abbrev M : Machine
  M = machine_in z s

  pid : pid_of M i ≡ mem_in z s fields.pid i
  pid = pid_of_lem (holds-bounds a.well.holds) i

  lives : Lives M i
  lives = omega (arith, pid, used)

  -- The parent's pid is another's.
  apart : mem_in z s fields.pid i ≡ (process M i).parent → ⊥
  apart e = omega (arith, e, pid, a.well.good.parent i lives)

  inside-list : i < length M.processes
  unfolding machine_of
  inside-list = omega (arith, table-length z.processes (process_at (mem_in z s)), low)

  module _ {s₁ : List ℕ} (d : Left z s s₁ i) where
    still : found (process M i).parent (machine_in z s₁) ≡ link_to l
    still = d.found (process M i).parent apart ∙ sym a.parent.link

    -- Nobody is told.
    pub departed_alone : {status : List ℕ} {p : Proc} → Loaded z s i p → l ≡ 0 → Departed z s s₁ i status p.pid
    departed_alone {status} {p} o e =
        record {
          holds = d.holds;
          pid = o.pid ∙ sym pid;
          machine =
              sym (told-nobody (machine_in z s₁) (process M i) status (still ∙ ap link_to e))
              ∙ ap (λ (x : Machine). (tell_parent (process M i) status x).machine) d.machine;
          spares = d.spares;
        }

module _ {z : Sizes} {s s₁ : List ℕ} {i j : ℕ} (a : DepartAsks z s i (suc j)) (d : Left z s s₁ i) where
  abbrev N : Machine
  N = machine_in z s

  here : found (process N i).parent (machine_in z s₁) ≡ some j
  here = still a d

  before : found (process N i).parent N ≡ some j
  before = sym a.parent.link

  parent-used : Used (mem_in z s) j
  parent-used = (found-named (sizes_in z) (mem_in z s) (process N i).parent j before).used

  used_then : Used (mem_in z s₁) j
  used_then = (found-named (sizes_in z) (mem_in z s₁) (process N i).parent j here).used

  parent-pid : pid_of N j ≡ (process N i).parent
  parent-pid =
      pid_of_lem (holds-bounds a.well.holds) j
      ∙ (found-named (sizes_in z) (mem_in z s) (process N i).parent j before).pid

  other : j ≡ i → ⊥
  other e = apart a (sym (pid a) ∙ ap (pid_of N) (sym e) ∙ parent-pid)

  same : process (machine_in z s₁) j ≡ process N j
  same = ap (λ (x : Machine). process x j) d.machine ∙ others N i j other

  child : 0 < mem_in z s₁ fields.nchild j
  child =
      let n : mem_in z s₁ fields.nchild j ≡ (process N j).nchild =
      ap (λ (p : Process). p.nchild) (sym (used_of (holds-bounds d.holds) j used_then) ∙ same)
      in
      let k : (process N j).nchild ≡ children N (process N i).parent =
      a.well.good.nchild j (omega (arith, pid_of_lem (holds-bounds a.well.holds) j, parent-used)) ∙ ap (children N) parent-pid
      in
      omega (arith, n, k, counted N i (inside-list a) (lives a))

  cell : mem_in z s₁ fields.nexits j < 128 → (c : ℕ) × (free_cell (machine_in z s₁) ≡ some c)
  unfolding has_room
  cell l =
      let n : length (process N j).exits ≡ mem_in z s₁ fields.nexits j =
      ap (λ (p : Process). length p.exits) (sym same) ∙ exits-number d.holds j used_then
      in
      let due : message_due i N ≡ true = due-some N i j before ∙ lt-ltb (length (process N j).exits) 128 (omega (arith, n, l)) in
      subst (λ (x : Machine). (c : ℕ) × (free_cell x ≡ some c)) (sym d.machine)
      (there (free_cell (without i N)) (and_off (message_due i N) (is_none (free_cell (without i N))) a.cell due))

  pub depart-tell : TellAsks z s₁ j
  depart-tell = record { holds = d.holds; used = used_then; child = child; cell = cell }

  -- The parent is told.
  pub departed-told
      : {s₂ status : List ℕ} {p : Proc}
      → Loaded z s i p
      → ToldParent z s₁ s₂ j p.pid p.text status
      → Departed z s s₂ i status p.pid
  unfolding name_of process pid_of
  departed-told {s₂} {status} {p} o t =
      record {
        holds = t.holds;
        pid = o.pid ∙ sym (pid a);
        machine =
            t.machine (process N i) (pid a ∙ sym o.pid)
            (ap (λ (x : Process). x.name) (used_of (holds-bounds a.well.holds) i (used a)) ∙ sym o.text)
            here
            ∙ ap (λ (x : Machine). (tell_parent (process N i) status x).machine) d.machine;
        spares = spares-gone d.spares d.smaller t.spares (alive-kin t.kin);
      }
