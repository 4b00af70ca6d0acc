-- Room for a new process: a free record, and a pid.
use Rattle.std.specs.Prelude.{◌≡◌, Bool, true, false, List, [], ◌⊎◌, ℕ, suc, ◌-◌, ◌^◌, ◌<◌, eqb, Err}
use Rattle.std.proofs.Common.{subst, sym, ap, ◌∙◌, inl, inr, arith, eq-eqb, ne_eqb}
use Rattle.std.proofs.Math.Option.{none, some}
use Rattle.std.proofs.Math.Path.{refl}
use Rattle.machine.specs.Step.{Body}
use Rattle.machine.specs.Table.{refusal}
use Rattle.machine.specs.Exits.{free_record}
use Rattle.machine.specs.StepOf.{left_by}
use Rattle.state.specs.Fields as fields
use Rattle.state.specs.Abs.{link_to, machine_of}
use Rattle.state.specs.Places.{mem_in}
use Rattle.state.specs.declared.Sizes.{Sizes}
use Rattle.exact.specs.Bounds.{at_most}
use Rattle.holds.specs.Holds.{Holds}
use Rattle.holds.specs.Whole.{holds-bounds}
use Rattle.holds.specs.Did.{machine_in}
use Rattle.free.specs.Asks.{RecordsIn, records_in}
use Rattle.free.specs.FindRecord.{RecordFound}
use Rattle.outcome.specs.declared.Refusal.{Refusal}
use Rattle.outcome.specs.declared.Refusal.TheVariants.{NoFreeRecord, NoPidLeft}
use Rattle.outcome.specs.Stepped.{Well, Stepped, left_bytes}
use Rattle.outcome.specs.Laws.{stepped-refused}
use Rattle.outcome.specs.Refusals.{step}

-- A record is free, and p is the next pid.
pub record Room (z : Sizes) (s : List ℕ) (p : ℕ) : Type 0 where
  pub at : ℕ
  pub free : free_record (machine_in z s) ≡ some at
  pub next : mem_in z s fields.next_pid 0 ≡ p
  pub left : p < 18446744073709551615

-- No record is free, or else no pid is left.
abbrev pub NoRoom : Sizes → List ℕ → Refusal → Type 0
NoRoom z s e =
    ((e ≡ NoFreeRecord) × (free_record (machine_in z s) ≡ none))
    ⊎ ((e ≡ NoPidLeft) × ((at : ℕ) × (free_record (machine_in z s) ≡ some at)) × (mem_in z s fields.next_pid 0 ≡ 18446744073709551615))

pub start_find : {z : Sizes} {s : List ℕ} → Well z s → RecordsIn z s (mem_in z s fields.pid)
start_find w = records_in w.holds.sizes w.holds.state w.holds.keeps.index

pub found_some : {z : Sizes} {s : List ℕ} {l : ℕ} → RecordFound z s l → (l ≡ 0 → ⊥) → free_record (machine_in z s) ≡ some (l - 1)
found_some {z} {s} {l} r ne = sym r.machine ∙ ap link_to next
  where
    next : l ≡ suc (l - 1)
    next = omega arith

pub pid_in : (z : Sizes) (s : List ℕ) → (machine_in z s).next_pid ≡ mem_in z s fields.next_pid 0
unfolding machine_of
pid_in z s = refl

-- What the code shows where both are there.
pub room-left
    : {z : Sizes} {s : List ℕ} {l p : ℕ}
    → Well z s → RecordFound z s l → (l ≡ 0 → ⊥) → p ≡ mem_in z s fields.next_pid 0 → (p ≡ 18446744073709551615 → ⊥) → Room z s p
room-left {z} {s} {l} {p} w r ne e d =
    record {
      at = l - 1;
      free = found_some r ne;
      next = sym e;
      left = omega (arith, e, d, at_most (holds-bounds w.holds) fields.next_pid 0);
    }

-- A pid is left.
pub not_last : {z : Sizes} {s : List ℕ} {p : ℕ} → Room z s p → eqb (machine_in z s).next_pid (2 ^ 64 - 1) ≡ false
not_last {z} {s} {p} r = ne_eqb (machine_in z s).next_pid (2 ^ 64 - 1) (λ d. omega (arith, r.left, r.next, pid_in z s, d))

-- What a step meets that makes a process, where there is no room for one.
pub no-room
    : {z : Sizes} {s : List ℕ} {k : Bool} {b : Body} {e : Refusal}
    → Holds z s 0
    → (free_record (machine_in z s) ≡ none → refusal (machine_in z s) (step k b) ≡ some 12)
    → ((at : ℕ)
    → free_record (machine_in z s) ≡ some at
    → eqb (machine_in z s).next_pid (2 ^ 64 - 1) ≡ true
    → refusal (machine_in z s) (step k b) ≡ some 16)
    → NoRoom z s e
    → Stepped z s s (step k b) [] (Err e)
unfolding left_by left_bytes
no-room {z} {s} {k} {b} {e} h full last (inl (x, m)) =
    subst (λ (y : Refusal). Stepped z s s (step k b) [] (Err y)) (sym x) (stepped-refused (full m) h refl refl)
no-room {z} {s} {k} {b} {e} h full last (inr (x, (at, f), d)) =
    subst (λ (y : Refusal). Stepped z s s (step k b) [] (Err y)) (sym x)
    (stepped-refused (last at f (eq-eqb (machine_in z s).next_pid (2 ^ 64 - 1) (pid_in z s ∙ d))) h refl refl)
