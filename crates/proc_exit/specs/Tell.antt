-- The parent is told: it has one child less, and below 128 exits one more, for which its waitr is woken.
use Rattle.std.specs.Prelude.{◌≡◌, Bool, ℕ, ◌-◌, ◌≤◌, ◌<◌, length, List, ◌∷◌}
use Rattle.std.proofs.Math.Path.{refl, sym, ap, ap₂}
use Rattle.std.proofs.Common.{subst, ◌∙◌, arith, lt-ltb, le-ltb, lit<}
use Rattle.std.proofs.Math.Option.{Option, some}
use Rattle.machine.specs.Machine.{Machine, Process, process}
use Rattle.machine.specs.Update.{with_process, with_nchild, with_exits}
use Rattle.machine.specs.Exits.{found, free_cell, has_room, wake_waitr, tell_parent}
use Rattle.layout.specs.Table.{slot}
use Rattle.layout.specs.Memory.{Memory}
use Rattle.state.specs.Fields as fields
use Rattle.state.specs.Abs.{process_at, machine_of}
use Rattle.state.specs.Tables.{table-length}
use Rattle.state.specs.Places.{mem_in, ReachIn}
use Rattle.state.specs.WellFormed.{Used}
use Rattle.state.specs.declared.Sizes.{Sizes}
use Rattle.exact.specs.Bounds.{at_most, inside}
use Rattle.exact.specs.Parts.{used_of}
use Rattle.holds.specs.Holds.{Holds}
use Rattle.holds.specs.Whole.{holds-bounds}
use Rattle.holds.specs.Did.{machine_in}
use Rattle.holds.specs.Use.{SameKin, kin_at, kin_join, same_use}
use Rattle.holds.specs.Leftover.{alive-kin}
use Rattle.holds.specs.Touched.{Spares, spares-after, spares-before, spares-did, touched-did}
use Rattle.free.specs.Highest.{highest_free}
use Rattle.free.specs.FreeCell.{free_cell_lem}
use Rattle.dat.specs.Waitr.{OwnAsks, WokeOwn}
use Rattle.machine.specs.Message.{message}
use Rattle.waitq.specs.Add.{add_mem}
use Rattle.waitq.specs.Added.{cell_for, AddAsks, AddDone}
use Rattle.waitq.specs.InUse.{add-kin}
use Rattle.waitq.specs.Marks.{exits-number}
use Rattle.records.specs.Nchild.{NchildSet}
use Rattle.proc_exit.specs.Told.{new_exit, with_exit, fewer, queued, told-room, told-full, queue-again}

-- The exit is queued at j, and j's waitr is woken.
pub record QueuedExit (z : Sizes) (s s' : List ℕ) (j pid : ℕ) (name status : List ℕ) : Type 0 where
  pub holds : (n : ℕ) → Holds z s n → Holds z s' n
  pub machine : machine_in z s' ≡ (wake_waitr j (with_exit (machine_in z s) j pid name status)).machine
  pub spares : Spares z s s'
  pub kin : SameKin (mem_in z s) (mem_in z s')

module _ {z : Sizes} {s s₁ : List ℕ} {j pid : ℕ} {name status : List ℕ} (a : AddAsks z s j) (q : AddDone z s s₁ j pid name status) where
  pub queue-wake : OwnAsks z s₁ j
  queue-wake = record { owed = a.owed; holds = q.did.holds a.owed a.holds; index = inside (holds-bounds a.holds) fields.pid j a.used }

  added-kin : SameKin (mem_in z s) (add_mem z.cells (mem_in z s) j (cell_for z s) pid (message name pid status))
  added-kin = add-kin z.cells (mem_in z s) j (cell_for z s) pid (message name pid status)

  pub queued-exit : {s₂ : List ℕ} {t : Bool} → WokeOwn z s₁ s₂ j t → QueuedExit z s s₂ j pid name status
  queued-exit w =
      record {
        holds = λ n h. w.holds n (q.did.holds n h);
        machine = w.machine ∙ ap (λ (y : Machine). (wake_waitr j y).machine) q.did.machine;
        spares = spares-before (spares-did q.did q.ceased) w.touched;
        kin = kin_join (kin_at q.did.memory added-kin) w.touched.same.kin;
      }

-- Record j has a living process with a child, and a cell is free where it has room for an exit.
pub record TellAsks (z : Sizes) (s : List ℕ) (j : ℕ) : Type 0 where
  pub holds : Holds z s 0
  pub used : Used (mem_in z s) j
  pub child : 0 < mem_in z s fields.nchild j
  pub cell : mem_in z s fields.nexits j < 128 → (c : ℕ) × (free_cell (machine_in z s) ≡ some c)

-- The machine is `tell_parent`'s, for a child of j with this pid and name.
pub record ToldParent (z : Sizes) (s s' : List ℕ) (j pid : ℕ) (name status : List ℕ) : Type 0 where
  pub holds : Holds z s' 0
  pub machine
      : (child : Process) → child.pid ≡ pid → child.name ≡ name → found child.parent (machine_in z s) ≡ some j
      → machine_in z s' ≡ (tell_parent child status (machine_in z s)).machine
  pub spares : Spares z s s'
  pub kin : SameKin (mem_in z s) (mem_in z s')

-- The free cell, by the owners.
cell-kept : {z : Sizes} {s s₁ : List ℕ} {n : ℕ} → Holds z s n → Holds z s₁ n → mem_in z s₁ fields.owner ≡ mem_in z s fields.owner → free_cell (machine_in z s₁) ≡ free_cell (machine_in z s)
cell-kept {z} {s} {s₁} h h₁ e =
    free_cell_lem h₁.keeps.cells (λ c. at_most (holds-bounds h₁) fields.owner c)
    ∙ ap (λ (g : ℕ → ℕ). highest_free z.cells g) e
    ∙ sym (free_cell_lem h.keeps.cells (λ c. at_most (holds-bounds h) fields.owner c))

module _ {z : Sizes} {s : List ℕ} {j : ℕ} (a : TellAsks z s j) where
  low : j < z.processes
  low = inside (holds-bounds a.holds) fields.pid j a.used

  -- What the calls ask.
  pub tell-nchild : ReachIn z s (slot 1 32 2) j
  tell-nchild = record { inside = record { region = lit< tt; end = lit< tt }; index = low; long = a.holds.state.long }

  pub tell-nexits : ReachIn z s (slot 1 36 1) j
  tell-nexits = record { inside = record { region = lit< tt; end = lit< tt }; index = low; long = a.holds.state.long }

  module _ {s₁ : List ℕ} {n k : ℕ} (e : n ≡ mem_in z s fields.nchild j) (d : k ≡ mem_in z s fields.nexits j) (p : NchildSet z s s₁ j (n - 1)) where
    h₁ : Holds z s₁ 0
    h₁ = p.did.holds 0 a.holds

    same-cell : free_cell (machine_in z s₁) ≡ free_cell (machine_in z s)
    same-cell = cell-kept a.holds h₁ (ap (λ (m : Memory). m fields.owner) p.did.memory)

    then : machine_in z s₁ ≡ with_process j (fewer (machine_in z s) j) (machine_in z s)
    then =
        p.did.machine
        ∙ ap (λ (v : ℕ). with_process j (with_nchild (v - 1) (process (machine_in z s) j)) (machine_in z s))
        (e ∙ sym (ap (λ (q : Process). q.nchild) (used_of (holds-bounds a.holds) j a.used)))

    number : length (process (machine_in z s) j).exits ≡ k
    number = exits-number a.holds j a.used ∙ sym d

    added : (pid : ℕ) (name status : List ℕ) → with_exit (machine_in z s₁) j pid name status ≡ with_process j (queued (machine_in z s) j pid name status) (machine_in z s)
    unfolding machine_of with_nchild
    added pid name status =
        queue-again (machine_in z s) (machine_in z s₁) j (fewer (machine_in z s) j)
        (new_exit (free_cell (machine_in z s₁)) pid name status)
        then
        (omega (arith, table-length z.processes (process_at (mem_in z s)), low))
        ∙ ap (λ (o : Option ℕ). with_process j (with_exits (new_exit o pid name status ∷ (process (machine_in z s) j).exits) (fewer (machine_in z s) j)) (machine_in z s))
        same-cell

    -- Where there is no room, that is all.
    pub told-fewer : {pid : ℕ} {name status : List ℕ} → 128 ≤ k → ToldParent z s s₁ j pid name status
    unfolding has_room
    told-fewer {pid} {name} {status} l =
        record {
          holds = h₁;
          machine = λ child f g q.
              then ∙ sym (told-full (machine_in z s) child status j q (le-ltb (length (process (machine_in z s) j).exits) 128 (omega (arith, number, l))));
          spares = (touched-did p.did (same_use refl refl refl refl refl refl refl refl refl)).spares;
          kin = kin_at p.did.memory (record { pids = refl });
        }

    pub tell-add : k < 128 → AddAsks z s₁ j
    tell-add l =
        let c : (c : ℕ) × (free_cell (machine_in z s) ≡ some c) = a.cell (omega (arith, d, l)) in
        record {
          owed = 0;
          holds = h₁;
          used = subst (λ (m : Memory). Used m j) (sym p.did.memory) a.used;
          room = omega (arith, ap (λ (m : Memory). m fields.nexits j) p.did.memory, d, l);
          cell = c.0;
          free = same-cell ∙ c.1;
        }

    -- With room, one more exit is queued.
    pub told-queued : {s₂ : List ℕ} {pid : ℕ} {name status : List ℕ} → k < 128 → QueuedExit z s₁ s₂ j pid name status → ToldParent z s s₂ j pid name status
    unfolding has_room
    told-queued {s₂} {pid} {name} {status} l q =
        record {
          holds = q.holds 0 h₁;
          machine = λ child f g x.
              q.machine
              ∙ ap (λ (y : Machine). (wake_waitr j y).machine) (added pid name status)
              ∙ ap₂ (λ (v : ℕ) (w : List ℕ). (wake_waitr j (with_process j (queued (machine_in z s) j v w status) (machine_in z s))).machine) (sym f) (sym g)
              ∙ sym (told-room (machine_in z s) child status j x (lt-ltb (length (process (machine_in z s) j).exits) 128 (omega (arith, number, l))));
          spares = spares-after (touched-did p.did (same_use refl refl refl refl refl refl refl refl refl)) q.spares (alive-kin q.kin);
          kin = kin_join (kin_at p.did.memory (record { pids = refl })) q.kin;
        }
