-- A new process, ready: what `begin` asks and ensures.
use Rattle.std.specs.Prelude.{◌≡◌, refl, List, ℕ, suc, ◌≤◌, ◌<◌}
use Rattle.std.proofs.Common.{sym, ap, subst, ◌∙◌, arith}
use Rattle.std.proofs.Math.Option.{some, none-ne-some}
use Rattle.machine.specs.Exits.{free_record}
use Rattle.machine.specs.Places.{ready}
use Rattle.machine.specs.Perform.{made}
use Rattle.memory.specs.Link.{link}
use Rattle.state.specs.Fields as fields
use Rattle.state.specs.Places.{mem_in}
use Rattle.state.specs.declared.Sizes.{Sizes}
use Rattle.record.specs.declared.Proc.{Proc}
use Rattle.holds.specs.Holds.{Holds}
use Rattle.holds.specs.Did.{machine_in}
use Rattle.holds.specs.Use.{same_use}
use Rattle.holds.specs.Leftover.{Alive, alive-kin, alive_join}
use Rattle.holds.specs.Touched.{Touched, Spares, spares-before, spares-did, touched-did}
use Rattle.dat.specs.Run.{ReadyAsks, Readied}
use Rattle.records.specs.Names.{IsName}
use Rattle.records.specs.New.{Newcomer}
use Rattle.records.specs.Alloc.{born-made, AllocAsks, AllocOne, Allocated}

-- There is a free record, and a pid, which is a newcomer's. The parent, the link to it and the name are those of p.
pub record BeginAsks (z : Sizes) (s : List ℕ) (p : Proc) : Type 0 where
  pub holds : Holds z s 0
  pub new : Newcomer (mem_in z s) p (mem_in z s fields.next_pid 0)
  pub at : ℕ
  pub free : free_record (machine_in z s) ≡ some at
  pub pid : mem_in z s fields.next_pid 0 < 18446744073709551615
  pub link : link p.parent_at ≤ z.processes
  pub text : IsName p.text

pub record Begun (z : Sizes) (s s' : List ℕ) (p : Proc) : Type 0 where
  pub holds : Holds z s' 0
  pub machine : machine_in z s' ≡ made p.text p.parent (machine_in z s)
  pub spares : Spares z s s'
  pub alive : Alive (mem_in z s) (mem_in z s')

pub begin-alloc : {z : Sizes} {s : List ℕ} {p : Proc} → BeginAsks z s p → AllocAsks z s p
begin-alloc a = record { owed = 0; holds = a.holds; new = a.new; room = a.pid; link = a.link; text = a.text }

-- A record is free, so `alloc` finds one.
pub begin-link : {z : Sizes} {s s₁ : List ℕ} {p : Proc} {r : ℕ} → BeginAsks z s p → Allocated z s s₁ p r → r ≡ 0 → ⊥
begin-link a l e = none-ne-some a.at (sym (l.none e).0 ∙ a.free)

module _ {z : Sizes} {s s₁ : List ℕ} {p : Proc} {i : ℕ} (a : BeginAsks z s p) (l : Allocated z s s₁ p (suc i)) where
  made_one : AllocOne z s s₁ p i
  made_one = subst (AllocOne z s s₁ p) (omega arith) (l.one (begin-link a l))

  pub begin-ready : ReadyAsks z s₁ i
  begin-ready = record { owed = 0; holds = made_one.did.holds 0 a.holds; nowhere = made_one.nowhere }

  pub begun : {s₂ : List ℕ} → Readied z s₁ s₂ i → Begun z s s₂ p
  begun {s₂} d =
      let y : Touched z s₁ s₂ = touched-did d.did (same_use refl refl refl refl refl refl refl refl refl) in
      record {
        holds = d.did.holds 0 (made_one.did.holds 0 a.holds);
        machine =
            d.did.machine
            ∙ ap (ready i) made_one.did.machine
            ∙ born-made (machine_in z s) i p made_one.found;
        spares = spares-before (spares-did made_one.did made_one.ceased) y;
        alive = alive_join made_one.alive (alive-kin y.same.kin);
      }
