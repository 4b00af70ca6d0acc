-- What a step of any kind asks and ensures.
use Rattle.std.specs.Prelude.{◌≡◌, refl, Bool, false, List, [], ◌++◌, ℕ, ◌≤◌, ◌<◌, length, take, drop, Result, Ok, Err}
use Rattle.std.proofs.Common.{sym, ap, ◌∙◌, true≢false, lt-ltb, le-ltb}
use Rattle.std.proofs.Math.Option.{Option, none, some}
use Rattle.std.proofs.Math.Seq.{take-append_seam, take-length}
use Rattle.machine.specs.Step.{Step, Body}
use Rattle.machine.specs.Outcome as reply
use Rattle.machine.specs.Outcome.{Outcome, refused}
use Rattle.machine.specs.StepOf.{step_of, outcome_of, refusing}
use Rattle.state.specs.declared.Sizes.{Sizes}
use Rattle.holds.specs.Holds.{Holds}
use Rattle.holds.specs.Did.{machine_in}
use Rattle.holds.specs.Touched.{Spares, spares-none}
use Rattle.outcome.specs.declared.Reply.{Reply}
use Rattle.outcome.specs.declared.Reply.TheVariants.{Pid, Run, RunChild, Done, Asleep, Yes, No, Fired, Exit, Child, Idle, End}
use Rattle.outcome.specs.declared.Refusal.{Refusal}
use Rattle.outcome.specs.declared.Refusal.TheVariants.{NoSuchStep}
use Rattle.outcome.specs.Means.{means, told, status_of}
use Rattle.outcome.specs.Stepped.{Well, Stepped, left_bytes}
use Rattle.outcome.specs.Refusals.{step}
use Rattle.outcome.specs.Length.{length_of}
use Rattle.proc.specs.Plain.{Plain}
use Rattle.proc.specs.Silent.{tells, is_child, silent}

-- The status that an `exit` was given; none of what is no step.
unfoldable pub status_in : Option Step → List ℕ
status_in none = []
status_in (some x) = status_of x.body

-- The bytes that a refusal with n leaves.
unfoldable pub left_in : Sizes → List ℕ → ℕ → Option Step → List ℕ
left_in z s n none = s
left_in z s n (some x) = left_bytes z s n x.body

-- What is handed in, a step or none, with the message buffer b, gives this on the machine of the bytes s.
abbrev pub given : Sizes → List ℕ → Option Step → List ℕ → Outcome
given z s x b = outcome_of (machine_in z s) x (length b)

-- It took the state s to s' and the message buffer b to b', with the result r: answer and machine are the definition's, the message told
-- is at the front of the message buffer and no other byte of it is written, no byte of the state is written but of fields, what the machine then
-- neither uses nor has cleared stays, and a refusal leaves the bytes.
pub record Taken (z : Sizes) (s s' : List ℕ) (x : Option Step) (b b' : List ℕ) (r : Result Reply Refusal) : Type 0 where
  pub holds : Holds z s' 0
  pub reply : means r b' (status_in x) ≡ (given z s x b).reply
  pub long : length_of r ≡ length (told (given z s x b).reply)
  pub spares : Spares z s s'
  pub machine : machine_in z s' ≡ (given z s x b).after
  pub message : b' ≡ told (given z s x b).reply ++ drop (length (told (given z s x b).reply)) b
  pub left : (n : ℕ) → (given z s x b).reply ≡ refused n → s' ≡ left_in z s n x

-- The front of a list with more behind it.
seam : {l : ℕ} (m rest : List ℕ) → l ≡ length m → take l (m ++ rest) ≡ take l m
seam m rest e = rw e (take-append_seam m rest ∙ sym (take-length m))

-- A reply means the same with bytes behind its message.
behind : (r : Result Reply Refusal) (m rest st : List ℕ) → length_of r ≡ length m → means r (m ++ rest) st ≡ means r m st
unfolding means
behind (Ok (Pid n)) m rest st e = refl
behind (Ok (Run n)) m rest st e = refl
behind (Ok (RunChild n c l)) m rest st e = ap (λ (t : List ℕ). reply.answer (reply.Answer.run_child n c t)) (seam m rest e)
behind (Ok Done) m rest st e = refl
behind (Ok Asleep) m rest st e = refl
behind (Ok Yes) m rest st e = refl
behind (Ok No) m rest st e = refl
behind (Ok (Fired f k)) m rest st e = refl
behind (Ok (Exit n)) m rest st e = refl
behind (Ok (Child n l)) m rest st e = ap (λ (t : List ℕ). reply.answer (reply.Answer.child n t)) (seam m rest e)
behind (Ok Idle) m rest st e = refl
behind (Ok End) m rest st e = refl
behind (Err x) m rest st e = refl

-- A step, with a message buffer that is long enough.
pub taken-step
    : {z : Sizes} {s s' : List ℕ} {x : Step} {b b' m : List ℕ} {r : Result Reply Refusal}
    → 127 ≤ length b
    → Stepped z s s' x m r
    → length_of r ≡ length m
    → b' ≡ m ++ drop (length m) b
    → Taken z s s' (some x) b b' r
unfolding outcome_of status_in left_in
taken-step {z} {s} {s'} {x} {b} {b'} {m} {r} h t l e =
    let g : given z s (some x) b ≡ step_of (machine_in z s) x = rw (le-ltb (length b) 127 h) in
    let d : m ≡ told (given z s (some x) b).reply = t.told ∙ ap (λ (o : Outcome). told o.reply) (sym g) in
    record {
      holds = t.holds;
      reply =
          ap (λ (y : List ℕ). means r y (status_of x.body)) e
          ∙ behind r m (drop (length m) b) (status_of x.body) l
          ∙ t.reply
          ∙ ap (λ (o : Outcome). o.reply) (sym g);
      long = l ∙ ap (λ (y : List ℕ). length y) d;
      spares = t.spares;
      machine = t.machine ∙ ap (λ (o : Outcome). o.after) (sym g);
      message = e ∙ ap (λ (y : List ℕ). y ++ drop (length y) b) d;
      left = λ n q. t.left n (ap (λ (o : Outcome). o.reply) (sym g) ∙ q);
    }

-- A reply that tells no message has no length.
no_length : (r : Result Reply Refusal) (st : List ℕ) → is_child (means r [] st) ≡ false → length_of r ≡ 0
unfolding means
no_length (Ok (Pid n)) st e = refl
no_length (Ok (Run n)) st e = refl
no_length (Ok (RunChild n c l)) st e = absurd (true≢false e)
no_length (Ok Done) st e = refl
no_length (Ok Asleep) st e = refl
no_length (Ok Yes) st e = refl
no_length (Ok No) st e = refl
no_length (Ok (Fired f k)) st e = refl
no_length (Ok (Exit n)) st e = refl
no_length (Ok (Child n l)) st e = absurd (true≢false e)
no_length (Ok Idle) st e = refl
no_length (Ok End) st e = refl
no_length (Err x) st e = refl

-- A step that tells no message leaves the message buffer.
pub taken-plain
    : {z : Sizes} {s s' : List ℕ} {k : Bool} {y : Body} {b : List ℕ} {r : Result Reply Refusal}
    → 127 ≤ length b
    → tells y ≡ false
    → Plain z s s' k y r
    → Taken z s s' (some (step k y)) b b r
taken-plain {z} {s} {s'} {k} {y} {b} {r} h e p =
    taken-step h p.stepped
    (no_length r (status_of y) (ap is_child p.stepped.reply ∙ silent (machine_in z s) (step k y) e))
    refl

-- What is no step, and any step with a message buffer that is too short.
nothing-done
    : {z : Sizes} {s : List ℕ} {x : Option Step} {b : List ℕ}
    → Well z s
    → given z s x b ≡ refusing 2 (machine_in z s)
    → (means (Err NoSuchStep) b (status_in x) ≡ refused 2)
    → left_in z s 2 x ≡ s
    → Taken z s s x b b (Err NoSuchStep)
unfolding refusing told
nothing-done {z} {s} {x} {b} w g m l =
    record {
      holds = w.holds;
      reply = m ∙ ap (λ (o : Outcome). o.reply) (sym g);
      long = ap (λ (o : Outcome). length (told o.reply)) (sym g);
      spares = spares-none;
      machine = ap (λ (o : Outcome). o.after) (sym g);
      message = ap (λ (o : Outcome). told o.reply ++ drop (length (told o.reply)) b) (sym g);
      left = λ n q.
          let y : refused 2 ≡ refused n = ap (λ (o : Outcome). o.reply) (sym g) ∙ q in
          let d : 2 ≡ n = cc in
          sym l ∙ ap (λ (j : ℕ). left_in z s j x) d;
    }

pub taken_none : {z : Sizes} {s b : List ℕ} → Well z s → Taken z s s none b b (Err NoSuchStep)
unfolding outcome_of means left_in
taken_none w = nothing-done w refl refl refl

pub taken-short : {z : Sizes} {s b : List ℕ} {x : Option Step} → Well z s → length b < 127 → Taken z s s x b b (Err NoSuchStep)
unfolding outcome_of means left_in left_bytes
taken-short {x = none} w h = taken_none w
taken-short {b = b} {x = some x} w h = nothing-done w (rw (lt-ltb (length b) 127 h)) refl refl
