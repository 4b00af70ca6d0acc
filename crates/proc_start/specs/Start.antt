-- start: what the code shows at each return.
use Rattle.std.specs.Prelude.{◌≡◌, refl, Bool, true, false, None, List, [], ℕ, ◌≤◌, replicate, Result, Ok, Err}
use Rattle.std.proofs.Common.{sym, ap, ap₂, subst, ◌∙◌, arith, eq-eqb, ne_eqb, le-leb}
use Rattle.machine.specs.Step.{start, open_step}
use Rattle.machine.specs.Table.{in_range, open_table}
use Rattle.machine.specs.Outcome.{Answer, answer, open_outcome}
use Rattle.machine.specs.Perform.{made, open_perform}
use Rattle.machine.specs.StepOf.{left_by}
use Rattle.memory.specs.Link.{link}
use Rattle.state.specs.declared.Sizes.{Sizes}
use Rattle.record.specs.declared.Proc.{Proc}
use Rattle.holds.specs.Whole.{holds-bounds}
use Rattle.holds.specs.Did.{machine_in}
use Rattle.records.specs.GoodPids.{newcomer_orphan}
use Rattle.records.specs.Names.{IsName, empty_name}
use Rattle.outcome.specs.declared.Reply as code
use Rattle.outcome.specs.declared.Reply.TheVariants.{Pid}
use Rattle.outcome.specs.declared.Refusal.{Refusal}
use Rattle.outcome.specs.declared.Refusal.TheVariants.{InInterrupt, NoVmem}
use Rattle.outcome.specs.Means.{means, told}
use Rattle.outcome.specs.Stepped.{Well, Stepped, left_bytes}
use Rattle.outcome.specs.Laws.{stepped-done, stepped-refused}
use Rattle.outcome.specs.Refusals.{step}
use Rattle.outcome.specs.RefusalsMake.{refused-start_3, refused-start-12, refused-start-16, refused-start-11, allowed-start}
use Rattle.proc_start.specs.declared.Making.{Making}
use Rattle.proc_start.specs.Making.{number}
use Rattle.proc_start.specs.Room.{Room, NoRoom, pid_in, not_last, no-room}
use Rattle.proc_start.specs.Begin.{BeginAsks, Begun}

-- No parent, and a name of zeros.
pub record Orphan (p : Proc) : Type 0 where
  pub parent : p.parent ≡ 0
  pub link : p.parent_at ≡ None
  pub text : p.text ≡ replicate 28 0

-- start
pub record StartAsks (z : Sizes) (s : List ℕ) (how : Making) : Type 0 where
  pub well : Well z s
  pub range : number how ≤ 2

pub record Started (z : Sizes) (s s' : List ℕ) (k : Bool) (M : ℕ) (a : Result code.Reply Refusal) : Type 0 where
  pub stepped : Stepped z s s' (step k (start M)) [] a

pub start-well : {z : Sizes} {s : List ℕ} {how : Making} → StartAsks z s how → Well z s
start-well a = a.well

in_range_lem : {z : Sizes} {s : List ℕ} {how : Making} → StartAsks z s how → in_range (machine_in z s).sizes (start (number how)) ≡ true
unfolding in_range
in_range_lem {how = how} a = le-leb (number how) 2 a.range

pub start-marked : {z : Sizes} {s : List ℕ} {how : Making} {k : Bool} → StartAsks z s how → k ≡ true → Started z s s k (number how) (Err InInterrupt)
unfolding left_by left_bytes
start-marked {z} {s} {how} {k} a e =
    record { stepped = stepped-refused (refused-start_3 (machine_in z s) k (number how) (in_range_lem a) e) a.well.holds refl refl }

pub start-full
    : {z : Sizes} {s : List ℕ} {how : Making} {k : Bool} {e : Refusal}
    → StartAsks z s how → k ≡ false → NoRoom z s e → Started z s s k (number how) (Err e)
start-full {z} {s} {how} {k} a f n =
    record {
      stepped =
          no-room a.well.holds (refused-start-12 (machine_in z s) k (number how) (in_range_lem a) f)
          (λ at r d. refused-start-16 (machine_in z s) k (number how) (in_range_lem a) f r d) n;
    }

module _ {z : Sizes} {s : List ℕ} {how : Making} {k : Bool} {p : ℕ} (a : StartAsks z s how) (f : k ≡ false) (r : Room z s p) where
  pub start_unmade : {e : Refusal} → e ≡ NoVmem → 1 ≤ number how → Started z s s k (number how) (Err e)
  unfolding left_by left_bytes open_table open_step
  start_unmade {e} x w =
      record {
        stepped =
            subst (λ (y : Refusal). Stepped z s s (step k (start (number how))) [] (Err y)) (sym x)
            (stepped-refused
            (refused-start-11 (machine_in z s) k (number how) (in_range_lem a) f r.free (not_last r) (ne_eqb (number how) 0 (λ d. omega (arith, w, d))))
            a.well.holds refl refl);
      }

  pub start-begin : {q : Proc} → Orphan q → BeginAsks z s q
  start-begin {q} o =
      record {
        holds = a.well.holds;
        new = newcomer_orphan (holds-bounds a.well.holds) a.well.good o.parent (ap link o.link);
        at = r.at;
        free = r.free;
        pid = omega (arith, r.next, r.left);
        link = omega (arith, ap link o.link);
        text = subst IsName (sym o.text) empty_name;
      }

  pub start-done
      : {s₁ : List ℕ} {q : Proc} → number how ≡ 0 → Orphan q → Begun z s s₁ q → Started z s s₁ k (number how) (Ok (Pid p))
  unfolding open_perform open_outcome means told
  start-done {s₁} {q} w o b =
      record {
        stepped =
            stepped-done
            (allowed-start (machine_in z s) k (number how) (in_range_lem a) f r.free (not_last r) (eq-eqb (number how) 0 w))
            b.holds b.spares (ap (λ (n : ℕ). answer (Answer.pid n)) (sym r.next ∙ sym (pid_in z s))) refl
            (b.machine ∙ ap₂ (λ (x : List ℕ) (y : ℕ). made x y (machine_in z s)) o.text o.parent);
      }
