-- How a step's contract is met: it is done, or refused.
use Rattle.std.specs.Prelude.{◌≡◌, List, [], ℕ, Result, Err}
use Rattle.std.proofs.Common.{sym, ap, ◌∙◌}
use Rattle.std.proofs.Math.Option.{none, some, none-ne-some}
use Rattle.machine.specs.Machine.{Machine}
use Rattle.machine.specs.Step.{Step}
use Rattle.machine.specs.Table.{refusal}
use Rattle.machine.specs.Outcome.{Outcome, refused}
use Rattle.machine.specs.Perform.{perform}
use Rattle.machine.specs.StepOf.{step_of, left_by, refusing}
use Rattle.state.specs.declared.Sizes.{Sizes}
use Rattle.kept.specs.Refused.{refused_by_lem}
use Rattle.holds.specs.Holds.{Holds}
use Rattle.holds.specs.Did.{machine_in}
use Rattle.holds.specs.Touched.{Spares, spares-none}
use Rattle.outcome.specs.declared.Reply.{Reply}
use Rattle.outcome.specs.declared.Refusal.{Refusal}
use Rattle.outcome.specs.Means.{number, means, told, status_of}
use Rattle.outcome.specs.Stepped.{Stepped, left_bytes}

step-done : (m : Machine) (x : Step) → refusal m x ≡ none → step_of m x ≡ perform x.body m
unfolding step_of
step-done m x e = rw e

step-refused : (m : Machine) (x : Step) (n : ℕ) → refusal m x ≡ some n → step_of m x ≡ refusing n (left_by n x.body m)
unfolding step_of
step-refused m x n e = rw e

-- What the table does not refuse is done.
pub stepped-done
    : {z : Sizes} {s s' : List ℕ} {x : Step} {m : List ℕ} {r : Result Reply Refusal}
    → refusal (machine_in z s) x ≡ none
    → Holds z s' 0
    → Spares z s s'
    → means r m (status_of x.body) ≡ (perform x.body (machine_in z s)).reply
    → m ≡ told (perform x.body (machine_in z s)).reply
    → machine_in z s' ≡ (perform x.body (machine_in z s)).after
    → Stepped z s s' x m r
stepped-done {z} {s} {s'} {x} {m} {r} e h w a t k =
    let d : step_of (machine_in z s) x ≡ perform x.body (machine_in z s) = step-done (machine_in z s) x e in
    record {
      holds = h;
      reply = a ∙ ap (λ (o : Outcome). o.reply) (sym d);
      told = t ∙ ap (λ (o : Outcome). told o.reply) (sym d);
      machine = k ∙ ap (λ (o : Outcome). o.after) (sym d);
      spares = w;
      left = λ n q. absurd (none-ne-some n (sym e ∙ refused_by_lem (machine_in z s) x n q));
    }

-- A refusal with its number.
pub stepped-left
    : {z : Sizes} {s s' : List ℕ} {x : Step} {e : Refusal}
    → refusal (machine_in z s) x ≡ some (number e)
    → Holds z s' 0
    → Spares z s s'
    → left_by (number e) x.body (machine_in z s) ≡ machine_in z s'
    → left_bytes z s (number e) x.body ≡ s'
    → Stepped z s s' x [] (Err e)
unfolding means told refusing
stepped-left {z} {s} {s'} {x} {e} r h t l b =
    let n : ℕ = number e in
    let d : step_of (machine_in z s) x ≡ refusing n (left_by n x.body (machine_in z s)) = step-refused (machine_in z s) x n r in
    record {
      holds = h;
      reply = ap (λ (o : Outcome). o.reply) (sym d);
      told = ap (λ (o : Outcome). told o.reply) (sym d);
      machine = sym l ∙ ap (λ (o : Outcome). o.after) (sym d);
      spares = t;
      left = λ k q.
          let w : refused n ≡ refused k = sym (ap (λ (o : Outcome). o.reply) d) ∙ q in
          let y : n ≡ k = cc in
          sym b ∙ ap (λ (j : ℕ). left_bytes z s j x.body) y;
    }

-- The same, where it leaves everything.
pub stepped-refused
    : {z : Sizes} {s : List ℕ} {x : Step} {e : Refusal}
    → refusal (machine_in z s) x ≡ some (number e)
    → Holds z s 0
    → left_by (number e) x.body (machine_in z s) ≡ machine_in z s
    → left_bytes z s (number e) x.body ≡ s
    → Stepped z s s x [] (Err e)
stepped-refused r h l b = stepped-left r h spares-none l b
