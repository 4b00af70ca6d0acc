-- sched: what the code shows at each return.
use Rattle.std.specs.Prelude.{if◌then◌else◌, ◌≡◌, Bool, true, List, [], ◌++◌, ℕ, suc, ◌-◌, ◌≤◌, eqb, length, drop, Result, Ok, Err}
use Rattle.std.proofs.Math.Path.{refl, ap}
use Rattle.std.proofs.Common.{sym, subst, ◌∙◌, arith, eq-eqb, ne_eqb}
use Rattle.std.proofs.Math.Bool.{false}
use Rattle.machine.specs.Machine.{Machine, asleep}
use Rattle.machine.specs.Step.{sched}
use Rattle.machine.specs.Outcome.{Answer, Outcome, answer, answered, open_outcome}
use Rattle.machine.specs.Perform.{perform, sched_of}
use Rattle.machine.specs.StepOf.{left_by}
use Rattle.chain.specs.Links.{queue-none}
use Rattle.state.specs.Fields as fields
use Rattle.state.specs.Abs.{machine_of}
use Rattle.state.specs.Places.{mem_in}
use Rattle.state.specs.declared.Sizes.{Sizes}
use Rattle.holds.specs.Did.{machine_in}
use Rattle.holds.specs.Touched.{spares-none}
use Rattle.outcome.specs.Length.{length_of}
use Rattle.outcome.specs.declared.Reply as code
use Rattle.outcome.specs.declared.Reply.TheVariants.{Idle, End}
use Rattle.outcome.specs.declared.Refusal.{Refusal}
use Rattle.outcome.specs.declared.Refusal.TheVariants.{InInterrupt, OneRuns}
use Rattle.outcome.specs.Means.{means, told, status_of}
use Rattle.outcome.specs.Stepped.{Well, Stepped, left_bytes}
use Rattle.outcome.specs.Laws.{stepped-done, stepped-refused}
use Rattle.outcome.specs.Refusals.{step}
use Rattle.outcome.specs.RefusalsRun.{refused-sched_3, refused-sched_17, allowed-sched, head-nobody}
use Rattle.outcome.specs.Running.{nobody-up, somebody-up}
use Rattle.proc_sched.specs.Turning.{sched-nobody}

-- The message buffer then: the message told at its front, and behind it what stood there.
pub record SchedTook (z : Sizes) (s s' : List ℕ) (k : Bool) (b b' : List ℕ) (r : Result code.Reply Refusal) : Type 0 where
  pub message : List ℕ
  pub stepped : Stepped z s s' (step k sched) message r
  pub long : length_of r ≡ length message
  pub buffer : b' ≡ message ++ drop (length message) b

pub record SchedAsks (z : Sizes) (s b : List ℕ) : Type 0 where
  pub well : Well z s
  pub room : 127 ≤ length b

-- Nobody runs, and nobody is ready.
pub record RestAsks (z : Sizes) (s : List ℕ) : Type 0 where
  pub well : Well z s
  pub idle : mem_in z s fields.up 0 ≡ 0
  pub empty : mem_in z s fields.run_head 0 ≡ 0

pub record Rested (z : Sizes) (s : List ℕ) (r : Result code.Reply Refusal) : Type 0 where
  pub stepped : Stepped z s s (step false sched) [] r
  pub long : length_of r ≡ 0

-- Nobody runs, and i is the first in line.
pub record FirstAsks (z : Sizes) (s : List ℕ) (i : ℕ) (b : List ℕ) : Type 0 where
  pub well : Well z s
  pub idle : mem_in z s fields.up 0 ≡ 0
  pub first : mem_in z s fields.run_head 0 ≡ suc i
  pub room : 127 ≤ length b

-- The step is one turn.
pub sched-done : (m : Machine) → perform sched m ≡ sched_of m
unfolding perform
sched-done m = refl

-- Nobody is ready: all have ended, or somebody is asleep.
module _ {z : Sizes} {s : List ℕ} {n : ℕ} (a : RestAsks z s) (e : n ≡ mem_in z s fields.asleep_count 0) where
  nobody : (machine_in z s).run ≡ []
  unfolding machine_of
  nobody = (queue-none a.well.holds.keeps.placed.run.queue a.empty).0

  counted : n ≡ asleep (machine_in z s)
  counted = omega (arith, e, a.well.holds.keeps.placed.asleep)

  rests : (x : Answer) (r : Result code.Reply Refusal) → (if eqb (asleep (machine_in z s)) 0 then Answer.end else Answer.idle) ≡ x
      → means r [] [] ≡ answer x → [] ≡ told (answer x) → length_of r ≡ 0 → Rested z s r
  unfolding open_outcome status_of
  rests x r q p t l =
      let o : perform sched (machine_in z s) ≡ answered x (machine_in z s) =
      sched-done (machine_in z s) ∙ sched-nobody (machine_in z s) nobody ∙ ap (λ (y : Answer). answered y (machine_in z s)) q
      in
      record {
        stepped =
            stepped-done (allowed-sched (machine_in z s) false refl (nobody-up z s a.idle) (head-nobody (machine_in z s) nobody))
            a.well.holds spares-none
            (p ∙ ap (λ (y : Outcome). y.reply) (sym o))
            (t ∙ ap (λ (y : Outcome). told y.reply) (sym o))
            (ap (λ (y : Outcome). y.after) (sym o));
        long = l;
      }

  pub rest_end : n ≡ 0 → Rested z s (Ok End)
  unfolding means told
  rest_end d = rests Answer.end (Ok End) (rw (eq-eqb (asleep (machine_in z s)) 0 (sym counted ∙ d)) refl) refl refl refl

  pub rest-idle : (n ≡ 0 → ⊥) → Rested z s (Ok Idle)
  unfolding means told
  rest-idle d = rests Answer.idle (Ok Idle) (rw (ne_eqb (asleep (machine_in z s)) 0 (λ q. d (counted ∙ q))) refl) refl refl refl

-- What the code of `sched` shows.
module _ {z : Sizes} {s b : List ℕ} {k : Bool} (a : SchedAsks z s b) where
  pub sched-marked : k ≡ true → SchedTook z s s k b b (Err InInterrupt)
  unfolding left_by left_bytes
  sched-marked e =
      record { message = []; stepped = stepped-refused (refused-sched_3 (machine_in z s) k e) a.well.holds refl refl; long = refl; buffer = refl }

  pub sched-runs : {u : ℕ} → k ≡ false → u ≡ mem_in z s fields.up 0 → (u ≡ 0 → ⊥) → SchedTook z s s k b b (Err OneRuns)
  unfolding left_by left_bytes
  sched-runs {u} f e ne =
      record {
        message = [];
        stepped = stepped-refused (refused-sched_17 (machine_in z s) k f (somebody-up z s {i = u - 1} (sym e ∙ omega (arith, ne)))) a.well.holds refl refl;
        long = refl;
        buffer = refl;
      }

  pub sched_rests : {r : Result code.Reply Refusal} → k ≡ false → Rested z s r → SchedTook z s s k b b r
  sched_rests {r} f w =
      record { message = []; stepped = subst (λ (x : Bool). Stepped z s s (step x sched) [] r) (sym f) w.stepped; long = w.long; buffer = refl }

  pub sched-turns : {s₁ b₁ : List ℕ} {r : Result code.Reply Refusal} → k ≡ false → SchedTook z s s₁ false b b₁ r → SchedTook z s s₁ k b b₁ r
  sched-turns {s₁} {b₁} {r} f w = subst (λ (x : Bool). SchedTook z s s₁ x b b₁ r) (sym f) w

module _ {z : Sizes} {s b : List ℕ} {u : ℕ} (a : SchedAsks z s b) (e : u ≡ mem_in z s fields.up 0) (d : u ≡ 0) where
  pub sched-rest : 0 ≡ mem_in z s fields.run_head 0 → RestAsks z s
  sched-rest q = record { well = a.well; idle = sym e ∙ d; empty = sym q }

  pub sched_first : {i : ℕ} → suc i ≡ mem_in z s fields.run_head 0 → FirstAsks z s i b
  sched_first q = record { well = a.well; idle = sym e ∙ d; first = sym q; room = a.room }
