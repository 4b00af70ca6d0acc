-- rfork with RFPROC: what the code shows at each return.
use Rattle.std.specs.Prelude.{if◌then◌else◌, ◌≡◌, Bool, true, List, [], ◌∷◌, ℕ, suc, ◌≤◌, ◌<◌, eqb, Result, Ok, Err}
use Rattle.std.proofs.Math.Path.{refl, sym, ap}
use Rattle.std.proofs.Common.{subst, ◌∙◌, arith, eq-eqb, ne_eqb}
use Rattle.std.proofs.Math.Bool.{false}
use Rattle.std.proofs.Math.Option.{some}
use Rattle.machine.specs.Machine.{Machine}
use Rattle.machine.specs.Step.{rfork, open_step}
use Rattle.machine.specs.Flags.{has, bad, RFPROC, RFNOWAIT}
use Rattle.machine.specs.Table.{in_range, open_table}
use Rattle.machine.specs.Outcome.{Outcome, Answer, answer, readying}
use Rattle.machine.specs.Update.{with_next_pid}
use Rattle.machine.specs.Perform.{perform, current, rfork_of}
use Rattle.machine.specs.StepOf.{left_by}
use Rattle.state.specs.Fields as fields
use Rattle.state.specs.Places.{mem_in}
use Rattle.state.specs.declared.Sizes.{Sizes}
use Rattle.holds.specs.Holds.{Holds}
use Rattle.holds.specs.Did.{machine_in, writes_in}
use Rattle.holds.specs.Use.{same_use}
use Rattle.holds.specs.Touched.{Touched, touched_none, touched-did}
use Rattle.records.specs.Pid.{pid_stores, PidTaken}
use Rattle.outcome.specs.declared.Reply as code
use Rattle.outcome.specs.declared.Reply.TheVariants.{Pid}
use Rattle.outcome.specs.declared.Refusal.{Refusal}
use Rattle.outcome.specs.declared.Refusal.TheVariants.{NoVmem}
use Rattle.outcome.specs.Means.{means, told}
use Rattle.outcome.specs.Stepped.{Well, Stepped, left_bytes}
use Rattle.outcome.specs.Laws.{stepped-done, stepped-left}
use Rattle.outcome.specs.Refusals.{step}
use Rattle.outcome.specs.RefusalsMake.{refused-rfork-12, refused-rfork-16, refused-rfork-11, allowed-rfork}
use Rattle.proc_start.specs.declared.Making.{Making}
use Rattle.proc_start.specs.declared.Making.TheVariants.{NoCopy}
use Rattle.proc_start.specs.Making.{number}
use Rattle.proc_start.specs.Room.{Room, NoRoom, pid_in, not_last, no-room}
use Rattle.outcome.specs.Running.{somebody-up, current-is}
use Rattle.proc_fork.specs.Flags.{Has}
use Rattle.proc_fork.specs.Child.{ForkAsks, Forked, child_made}

-- A pid can be spent.
pub record SpendAsks (z : Sizes) (s : List ℕ) : Type 0 where
  pub holds : Holds z s 0
  pub room : mem_in z s fields.next_pid 0 < 18446744073709551615

-- The next pid has risen where M is 3.
pub record Spent (z : Sizes) (s s' : List ℕ) (M : ℕ) : Type 0 where
  pub holds : Holds z s' 0
  pub bytes : s' ≡ (if eqb M 3 then writes_in z s (pid_stores (mem_in z s)) else s)
  pub machine : machine_in z s' ≡ (if eqb M 3 then with_next_pid (suc (machine_in z s).next_pid) (machine_in z s) else machine_in z s)
  pub touched : Touched z s s'

module _ {z : Sizes} {s : List ℕ} (how : Making) (a : SpendAsks z s) where
  pub spend-some : {s₁ : List ℕ} {v : ℕ} → how ≡ NoCopy → PidTaken z s s₁ v → Spent z s s₁ (number how)
  spend-some {s₁} e t =
      subst (λ (x : Making). Spent z s s₁ (number x)) (sym e)
      (record {
        holds = t.did.holds 0 a.holds;
        bytes = t.did.bytes;
        machine = t.did.machine;
        touched = touched-did t.did (same_use refl refl refl refl refl refl refl refl refl);
      })

-- And it has not where M is another.
module _ {z : Sizes} {s : List ℕ} {M : ℕ} (a : SpendAsks z s) where
  pub spend-none : (M ≡ 3 → ⊥) → Spent z s s M
  spend-none ne = record { holds = a.holds; bytes = rw (ne_eqb M 3 ne); machine = rw (ne_eqb M 3 ne); touched = touched_none }

pub record RforkTook (z : Sizes) (s s' : List ℕ) (k : Bool) (F M : ℕ) (a : Result code.Reply Refusal) : Type 0 where
  pub stepped : Stepped z s s' (step k (rfork F M)) [] a

-- Process i runs, and the flags have RFPROC.
pub record MakeAsks (z : Sizes) (s : List ℕ) (F M i : ℕ) : Type 0 where
  pub well : Well z s
  pub range : in_range (machine_in z s).sizes (rfork F M) ≡ true
  pub flags : bad F ≡ false
  pub runs : mem_in z s fields.up 0 ≡ suc i
  pub child : has F RFPROC ≡ true

-- What rfork does where process i runs.
rfork-child
    : (F i : ℕ) (m : Machine) (off : Bool)
    → current m ≡ i
    → has F RFPROC ≡ true
    → has F RFNOWAIT ≡ off
    → rfork_of F m ≡ readying (m.next_pid ∷ []) (Answer.pid m.next_pid) (child_made off i m)
unfolding rfork_of
rfork-child F i m true e h x = rw (h, x, e) refl
rfork-child F i m false e h x = rw (h, x, e) refl

module _ {z : Sizes} {s : List ℕ} {F M i : ℕ} (a : MakeAsks z s F M i) where
  up : (machine_in z s).up ≡ some i
  up = somebody-up z s a.runs

  pub make-full : {e : Refusal} → NoRoom z s e → RforkTook z s s false F M (Err e)
  make-full n =
      record {
        stepped =
            no-room a.well.holds (refused-rfork-12 (machine_in z s) false F M a.range refl a.flags up a.child)
            (λ at r d. refused-rfork-16 (machine_in z s) false F M a.range refl a.flags up a.child r d) n;
      }

  module _ {p : ℕ} (r : Room z s p) where
    pub make-spend : SpendAsks z s
    make-spend = record { holds = a.well.holds; room = omega (arith, r.next, r.left) }

    module _ {s₁ : List ℕ} (t : Spent z s s₁ M) where
      pub make_unmade : {e : Refusal} → (e ≡ NoVmem) × (1 ≤ M) → RforkTook z s s₁ false F M (Err e)
      unfolding left_by left_bytes open_table open_step
      make_unmade {e} (x, w) =
          record {
            stepped =
                subst (λ (y : Refusal). Stepped z s s₁ (step false (rfork F M)) [] (Err y)) (sym x)
                (stepped-left
                (refused-rfork-11 (machine_in z s) false F M a.range refl a.flags up a.child r.free (not_last r)
                (ne_eqb M 0 (λ d. omega (arith, w, d))))
                t.holds t.touched.spares (sym t.machine) (sym t.bytes));
          }

      module _ (e : M ≡ 0) where
        same : s₁ ≡ s
        same = rw e at t.bytes

        pub make-fork : ForkAsks z s₁ i
        make-fork =
            subst (λ (x : List ℕ). ForkAsks z x i) (sym same)
            (record { well = a.well; runs = a.runs; at = r.at; free = r.free; pid = omega (arith, r.next, r.left) })

        pub make-done : {s₂ : List ℕ} {off : Bool} → Has F 64 off → Forked z s₁ s₂ i off → RforkTook z s s₂ false F M (Ok (Pid p))
        unfolding perform readying means told has
        make-done {s₂} {off} h g =
            let m : Machine = machine_in z s in
            let f : Forked z s s₂ i off = subst (λ (x : List ℕ). Forked z x s₂ i off) same g in
            let q : rfork_of F m ≡ readying (m.next_pid ∷ []) (Answer.pid m.next_pid) (child_made off i m) =
            rfork-child F i m off (current-is m i up) a.child (sym h.bit) in
            record {
              stepped =
                  stepped-done
                  (allowed-rfork m false F M a.range refl a.flags up a.child r.free (not_last r) (eq-eqb M 0 e))
                  f.holds f.spares
                  (ap (λ (n : ℕ). answer (Answer.pid n)) (sym r.next ∙ sym (pid_in z s)) ∙ ap (λ (o : Outcome). o.reply) (sym q))
                  (ap (λ (o : Outcome). told o.reply) (sym q))
                  (f.machine ∙ ap (λ (o : Outcome). o.after) (sym q));
            }
