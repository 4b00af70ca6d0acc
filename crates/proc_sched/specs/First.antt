-- The first in line: what the code of `sched_first` shows at each return.
use Rattle.std.specs.Prelude.{◌≡◌, Bool, true, List, [], ◌∷◌, ℕ, ◌<◌, Result, Err}
use Rattle.std.proofs.Math.Path.{refl, sym, ap}
use Rattle.std.proofs.Common.{subst, ◌∙◌, arith}
use Rattle.std.proofs.Math.Bool.{false}
use Rattle.std.proofs.Math.Option.{none}
use Rattle.machine.specs.Machine as machine
use Rattle.machine.specs.Machine.{process}
use Rattle.machine.specs.Good.{ResumeInRange, Each}
use Rattle.machine.specs.Step.{sched}
use Rattle.machine.specs.Table.{head_taken, taken_again}
use Rattle.machine.specs.Outcome.{Outcome}
use Rattle.machine.specs.Perform.{perform, sched_of}
use Rattle.machine.specs.StepOf.{left_by}
use Rattle.chain.specs.Links.{first_link, chain_first}
use Rattle.state.specs.Fields as fields
use Rattle.state.specs.Abs.{run_list, machine_of}
use Rattle.state.specs.Places.{sizes_in, mem_in}
use Rattle.state.specs.WellFormed.{Used}
use Rattle.state.specs.declared.Sizes.{Sizes}
use Rattle.record.specs.declared.Resume.{Resume}
use Rattle.record.specs.Resumes.{meaning}
use Rattle.record.specs.Loads.{LoadAsks, ResumeLoaded}
use Rattle.exact.specs.Parts.{resume_of_lem}
use Rattle.holds.specs.Whole.{holds-bounds}
use Rattle.holds.specs.Did.{machine_in}
use Rattle.places.specs.Nowhere.{state-used}
use Rattle.outcome.specs.declared.Reply as code
use Rattle.outcome.specs.declared.Refusal.{Refusal}
use Rattle.outcome.specs.declared.Refusal.TheVariants.{RendezTaken}
use Rattle.outcome.specs.Means.{told, status_of}
use Rattle.outcome.specs.Stepped.{left_bytes}
use Rattle.outcome.specs.Laws.{stepped-done, stepped-refused}
use Rattle.outcome.specs.RefusalsRun.{refused-sched_5, allowed-sched, head_first}
use Rattle.outcome.specs.Running.{nobody-up}
use Rattle.proc_sched.specs.Taken.{TakenAgainAsks, TakenAgain}
use Rattle.proc_sched.specs.Turn.{TurnAsks, Turned, head-link, call-range}
use Rattle.proc_sched.specs.Sched.{SchedTook, FirstAsks, sched-done}

-- The run queue begins with i.
record Line (z : Sizes) (s : List ℕ) (i : ℕ) : Type 0 where
  rest : List ℕ
  split : run_list (sizes_in z) (mem_in z s) ≡ i ∷ rest

-- The first in line.
module _ {z : Sizes} {s : List ℕ} {i : ℕ} {b : List ℕ} (a : FirstAsks z s i b) where
  pub first-low : i < z.processes
  first-low = omega (arith, a.first, chain_first a.well.holds.keeps.placed.run.queue.chain)

  pub first_load : LoadAsks z s i
  first_load = record { index = first-low; long = a.well.holds.state.long }

  line : Line z s i
  line = go (run_list (sizes_in z) (mem_in z s)) refl
    where
      go : (xs : List ℕ) → run_list (sizes_in z) (mem_in z s) ≡ xs → Line z s i
      go [] e = absurd (omega (arith, a.first, head-link a.well.holds, ap first_link e))
      go (j ∷ js) e =
          let q : j ≡ i = omega (arith, a.first, head-link a.well.holds, ap first_link e) in
          record { rest = js; split = e ∙ ap (λ (k : ℕ). k ∷ js) q }

  used : Used (mem_in z s) i
  used =
      let r : mem_in z s fields.state_of i ≡ 2 =
      (subst (λ (ys : List ℕ). Each (λ j. mem_in z s fields.state_of j ≡ 2) ys) line.split a.well.holds.keeps.placed.run.ready).0
      in
      state-used a.well.holds.keeps.placed i (omega (arith, r))

  up : (machine_in z s).up ≡ none
  up = nobody-up z s a.idle

  run : (machine_in z s).run ≡ i ∷ line.rest
  unfolding machine_of
  run = line.split

  module _ {c : Resume} (h : ResumeLoaded z s i c) where
    call : meaning c ≡ (process (machine_in z s) i).resume
    call = h.resume.means ∙ sym (resume_of_lem (holds-bounds a.well.holds) i used)

    head : head_taken (machine_in z s) ≡ taken_again (machine_in z s) i (meaning c)
    head = head_first (machine_in z s) run ∙ ap (λ (x : machine.Resume). taken_again (machine_in z s) i x) (sym call)

    pub first-again : TakenAgainAsks z s i c
    first-again =
        record {
          holds = a.well.holds;
          index = first-low;
          range = subst (ResumeInRange (sizes_in z)) (sym call) (call-range i a.well first-low);
        }

    pub first_taken : {t : Bool} → TakenAgain z s i c t → t ≡ true → SchedTook z s s false b b (Err RendezTaken)
    unfolding left_by left_bytes
    first_taken g e =
        record {
          message = [];
          stepped = stepped-refused (refused-sched_5 (machine_in z s) false refl up (head ∙ sym g.answer ∙ e)) a.well.holds refl refl;
          long = refl;
          buffer = refl;
        }

    pub first-turn : {t : Bool} → TakenAgain z s i c t → t ≡ false → TurnAsks z s i c b
    first-turn g e =
        record { well = a.well; idle = a.idle; first = a.first; call = call; free = sym g.answer ∙ e; room = a.room }

    pub first-turned
        : {t : Bool} {s₁ b₁ : List ℕ} {r : Result code.Reply Refusal} → TakenAgain z s i c t → t ≡ false → Turned z s s₁ b b₁ r → SchedTook z s s₁ false b b₁ r
    unfolding status_of
    first-turned g e w =
        let o : sched_of (machine_in z s) ≡ perform sched (machine_in z s) = sym (sched-done (machine_in z s)) in
        record {
          message = w.message;
          stepped =
              stepped-done (allowed-sched (machine_in z s) false refl up (head ∙ sym g.answer ∙ e)) w.went.holds w.went.spares
              (w.went.reply ∙ ap (λ (y : Outcome). y.reply) o)
              (w.went.told ∙ ap (λ (y : Outcome). told y.reply) o)
              (w.went.machine ∙ ap (λ (y : Outcome). y.after) o);
          long = w.went.long;
          buffer = w.buffer;
        }
