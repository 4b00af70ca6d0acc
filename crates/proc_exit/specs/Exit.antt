-- exit: what the code shows at each return.
use Rattle.std.specs.Prelude.{◌≡◌, Bool, true, List, [], ◌∷◌, ℕ, suc, ◌<◌, ltb, get_or, Result, Ok, Err}
use Rattle.std.proofs.Math.Path.{refl, sym}
use Rattle.std.proofs.Common.{ap, subst, ◌∙◌, lt-ltb}
use Rattle.std.proofs.Math.Bool.{false}
use Rattle.std.proofs.Math.Option.{some}
use Rattle.machine.specs.Basics.{all}
use Rattle.machine.specs.Machine.{Machine, process, pid_of}
use Rattle.machine.specs.Step.{exit}
use Rattle.machine.specs.Table.{in_range, all_bytes}
use Rattle.machine.specs.Outcome.{Answer, answer, open_outcome}
use Rattle.machine.specs.Exits.{without, tell_parent}
use Rattle.machine.specs.Perform.{perform, exit_of}
use Rattle.machine.specs.StepOf.{left_by}
use Rattle.state.specs.Fields as fields
use Rattle.state.specs.Places.{mem_in}
use Rattle.state.specs.declared.Sizes.{Sizes}
use Rattle.holds.specs.Did.{machine_in}
use Rattle.ages.specs.Kept.{LivingIn, holds-ages, living_in}
use Rattle.ages.specs.Parent.{ParentFound}
use Rattle.outcome.specs.declared.Reply as code
use Rattle.outcome.specs.declared.Reply.TheVariants.{Exit}
use Rattle.outcome.specs.declared.Refusal.{Refusal}
use Rattle.outcome.specs.declared.Refusal.TheVariants.{NoFreeCell}
use Rattle.outcome.specs.Means.{means, told, status_of}
use Rattle.outcome.specs.Stepped.{Well, Stepped, left_bytes}
use Rattle.outcome.specs.Laws.{stepped-done, stepped-refused}
use Rattle.outcome.specs.Refusals.{step}
use Rattle.outcome.specs.RefusalsExit.{refused-exit_3, refused-exit_4, refused-exit-13, allowed-exit}
use Rattle.outcome.specs.Running.{IsRunning, NotRunning, somebody-up, current-is, not-running}
use Rattle.proc_exit.specs.Leave.{LeaveAsks, leave-used}
use Rattle.proc_exit.specs.Cell.{NoCellAsks, NoCellIs}
use Rattle.proc_exit.specs.Depart.{DepartAsks, Departed}

pub record ExitAsks (z : Sizes) (s : List ℕ) : Type 0 where
  pub well : Well z s

-- Process i runs; the status is of bytes.
pub record PexitAsks (z : Sizes) (s : List ℕ) (i : ℕ) (status : List ℕ) : Type 0 where
  pub well : Well z s
  pub bytes : all_bytes status ≡ true
  pub runs : mem_in z s fields.up 0 ≡ suc i

pub record Exited (z : Sizes) (s s' : List ℕ) (k : Bool) (status : List ℕ) (a : Result code.Reply Refusal) : Type 0 where
  pub stepped : Stepped z s s' (step k (exit status)) [] a

-- A slice of bytes is one.
all-below : (bs : List ℕ) → ((k : ℕ) → get_or bs k 0 < 256) → all (λ b. ltb b 256) bs ≡ true
unfolding all
all-below [] h = refl
all-below (b ∷ bs) h = rw (lt-ltb b 256 (h 0)) (all-below bs (λ k. h (suc k)))

all_bytes_lem : (bs : List ℕ) → ((k : ℕ) → get_or bs k 0 < 256) → all_bytes bs ≡ true
unfolding all_bytes
all_bytes_lem bs h = all-below bs h

in_range_lem : (m : Machine) (status : List ℕ) → all_bytes status ≡ true → in_range m.sizes (exit status) ≡ true
unfolding in_range
in_range_lem m status e = e

-- Where the mark was tested.
pub exit-rest : {z : Sizes} {s s₁ status : List ℕ} {k : Bool} {r : Result code.Reply Refusal} → k ≡ false → Exited z s s₁ false status r → Exited z s s₁ k status r
exit-rest {z} {s} {s₁} {status} {k} {r} f x = subst (λ (b : Bool). Exited z s s₁ b status r) (sym f) x

-- What an exit does and answers, where process i runs.
exit-reply : (m : Machine) (i : ℕ) (status : List ℕ) → m.up ≡ some i → (perform (exit status) m).reply ≡ answer (Answer.exit (pid_of m i) status)
unfolding perform exit_of open_outcome
exit-reply m i status e = rw (current-is m i e)

exit-after : (m : Machine) (i : ℕ) (status : List ℕ) → m.up ≡ some i → (perform (exit status) m).after ≡ (tell_parent (process m i) status (without i m)).machine
unfolding perform exit_of open_outcome
exit-after m i status e = rw (current-is m i e)

module _ {z : Sizes} {s status : List ℕ} (a : ExitAsks z s) (b : (k : ℕ) → get_or status k 0 < 256) where
  pub exit-refused : {k : Bool} {e : Refusal} → NotRunning z s k e → Exited z s s k status (Err e)
  exit-refused {k} n =
      let y : in_range (machine_in z s).sizes (exit status) ≡ true = in_range_lem (machine_in z s) status (all_bytes_lem status b) in
      record { stepped = not-running a.well.holds (refused-exit_3 (machine_in z s) k status y) (refused-exit_4 (machine_in z s) k status y) n }

  pub exit-pexit : {k : Bool} {i : ℕ} → IsRunning z s k i → PexitAsks z s i status
  exit-pexit u = record { well = a.well; bytes = all_bytes_lem status b; runs = u.runs }

module _ {z : Sizes} {s : List ℕ} {i : ℕ} {status : List ℕ} (a : PexitAsks z s i status) where
  runner : (machine_in z s).up ≡ some i
  runner = somebody-up z s a.runs

  leaves : LeaveAsks z s i
  leaves = record { holds = a.well.holds; runs = a.runs }

  -- What the calls ask.
  pub pexit-parent : LivingIn z s i
  pexit-parent = living_in (holds-ages a.well.holds) (leave-used leaves)

  module _ {link : ℕ} (p : ParentFound z s i link) where
    pub pexit-cell : NoCellAsks z s i link
    pexit-cell = record { well = a.well; used = leave-used leaves; parent = p }

    pub pexit-depart : {r : Bool} → NoCellIs z s i r → r ≡ false → DepartAsks z s i link
    pexit-depart n e = record { well = a.well; runs = a.runs; parent = p; cell = sym n.answer ∙ e }

  -- No cell is free for the message that is due; or it goes.
  pub pexit-full : {r : Bool} → NoCellIs z s i r → r ≡ true → Exited z s s false status (Err NoFreeCell)
  unfolding left_by left_bytes
  pexit-full n e =
      record {
        stepped =
            stepped-refused
            (refused-exit-13 (machine_in z s) false status (in_range_lem (machine_in z s) status a.bytes) refl runner (sym n.answer ∙ e))
            a.well.holds refl refl;
      }

  pub pexit-gone : {s₁ : List ℕ} {r : Bool} {pid : ℕ} → NoCellIs z s i r → r ≡ false → Departed z s s₁ i status pid → Exited z s s₁ false status (Ok (Exit pid))
  unfolding means told status_of
  pexit-gone {s₁} {r} {pid} n e d =
      let q : (perform (exit status) (machine_in z s)).reply ≡ answer (Answer.exit (pid_of (machine_in z s) i) status) = exit-reply (machine_in z s) i status runner in
      record {
        stepped =
            stepped-done
            (allowed-exit (machine_in z s) false status (in_range_lem (machine_in z s) status a.bytes) refl runner (sym n.answer ∙ e))
            d.holds d.spares
            (ap (λ (x : ℕ). answer (Answer.exit x status)) d.pid ∙ sym q)
            (ap told (sym q))
            (d.machine ∙ sym (exit-after (machine_in z s) i status runner));
      }
