-- A process's pid, and that of the process that runs.
use Rattle.std.specs.Prelude.{◌≡◌, List, [], ◌∷◌, ℕ, suc, ◌<◌}
use Rattle.std.proofs.Math.Path.{sym}
use Rattle.std.proofs.Common.{ap, ◌∙◌, arith}
use Rattle.machine.specs.Basics.{ascii}
use Rattle.machine.specs.Machine.{pid_of}
use Rattle.machine.specs.Message.{decimal}
use Rattle.machine.specs.Print.{print_up}
use Rattle.state.specs.Fields as fields
use Rattle.state.specs.Abs.{machine_of}
use Rattle.state.specs.Places.{mem_in}
use Rattle.state.specs.declared.Sizes.{Sizes}
use Rattle.exact.specs.Bounds.{at_most}
use Rattle.exact.specs.Parts.{pid_of_lem}
use Rattle.holds.specs.Holds.{Holds}
use Rattle.holds.specs.Whole.{holds-bounds}
use Rattle.holds.specs.Did.{machine_in}
use Rattle.print.specs.Put.{Room, Put, put_as}

-- There is a process with this number, and room for its pid; its pid is put.
pub record PidAsks (z : Sizes) (s : List ℕ) (i : ℕ) (out : List ℕ) (at : ℕ) : Type 0 where
  pub holds : Holds z s 0
  pub index : i < z.processes
  pub room : Room 20 out at

pub record PidPut (z : Sizes) (s : List ℕ) (i : ℕ) (out : List ℕ) (at : ℕ) (out' : List ℕ) (r : ℕ) : Type 0 where
  pub put : Put 20 out at (decimal (pid_of (machine_in z s) i)) out' r

pub pid-put
    : {z : Sizes} {s : List ℕ} {i : ℕ} {out : List ℕ} {at v : ℕ} {out' : List ℕ} {r : ℕ}
    → PidAsks z s i out at
    → v ≡ mem_in z s fields.pid i
    → Put 20 out at (decimal v) out' r
    → PidPut z s i out at out' r
pid-put {i = i} a e p = record { put = put_as p (ap decimal (e ∙ sym (pid_of_lem (holds-bounds a.holds) i))) (omega arith) }

-- There is room for the running pid; it, or 0, is put.
pub record UpAsks (z : Sizes) (s out : List ℕ) (at : ℕ) : Type 0 where
  pub holds : Holds z s 0
  pub room : Room 20 out at

pub record UpPut (z : Sizes) (s out : List ℕ) (at : ℕ) (out' : List ℕ) (r : ℕ) : Type 0 where
  pub put : Put 20 out at (print_up (machine_in z s)) out' r

-- Nobody runs.
pub up_none : {z : Sizes} {s out : List ℕ} {at : ℕ} {out' : List ℕ} {r : ℕ} → 0 ≡ mem_in z s fields.up 0 → Put 1 out at (48 ∷ []) out' r → UpPut z s out at out' r
unfolding print_up machine_of ascii
up_none e p = record { put = put_as p (rw (sym e)) (omega arith) }

-- Process i runs.
module _ {z : Sizes} {s out : List ℕ} {at i : ℕ} (e : suc i ≡ mem_in z s fields.up 0) where
  pub up-asks : UpAsks z s out at → PidAsks z s i out at
  up-asks a =
      record { holds = a.holds; index = omega (arith, e, at_most (holds-bounds a.holds) fields.up 0); room = a.room }

  pub up-some : {out' : List ℕ} {r : ℕ} → PidPut z s i out at out' r → UpPut z s out at out' r
  unfolding print_up machine_of
  up-some p = record { put = put_as p.put (rw (sym e)) (omega arith) }
