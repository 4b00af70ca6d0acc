-- The dispatched process goes on where its call left off: what the code shows at each return.
use Rattle.std.specs.Prelude.{◌≡◌, refl, Bool, ◌&&◌, ℕ, zero, suc, ◌≤◌, length, drop, List, [], ◌++◌, Result}
use Rattle.std.proofs.Common.{sym, ap, ◌∙◌, arith}
use Rattle.std.proofs.Math.Path.{subst}
use Rattle.std.proofs.Math.Bool.{false}
use Rattle.machine.specs.Machine as machine
use Rattle.machine.specs.Machine.{process, condition}
use Rattle.machine.specs.Good.{SleepsOn, ResumeInRange}
use Rattle.machine.specs.Table.{taken, taken_again}
use Rattle.machine.specs.Timers.{is_queued, own_timer}
use Rattle.machine.specs.Perform.{resumes}
use Rattle.state.specs.Fields as fields
use Rattle.state.specs.Abs.{link_to, resume_of}
use Rattle.state.specs.Places.{sizes_in, mem_in}
use Rattle.state.specs.declared.Sizes.{Sizes}
use Rattle.record.specs.declared.Resume.{Resume}
use Rattle.record.specs.declared.Resume.TheVariants.{Nothing, Sleep, Tsleep, Qlock, Wait}
use Rattle.record.specs.Resumes.{meaning}
use Rattle.exact.specs.Sums.{true-false}
use Rattle.exact.specs.Bounds.{InBounds, at_most}
use Rattle.exact.specs.Parts.{resume_at, resume_of_lem, sleeper_of_lem}
use Rattle.exact.specs.Resumes.{Sleeps, sleeps-resume}
use Rattle.holds.specs.Whole.{holds-bounds}
use Rattle.holds.specs.Did.{machine_in}
use Rattle.places.specs.Rendez.{CallsRendez}
use Rattle.outcome.specs.declared.Reply as code
use Rattle.outcome.specs.declared.Refusal.{Refusal}
use Rattle.outcome.specs.RefusalsRun.{taken-there}
use Rattle.proc_sched.specs.Limbo.{Limbo, Went, RunsOn}
use Rattle.proc_sched.specs.Check.{CheckAsks, Checked, TsleepAsks, TsleepChecked}
use Rattle.proc_sched.specs.Waits.{WaitCheckAsks, WaitChecked}

-- The call of i is c, in range, and it would not sleep where another does; there is room for a message.
pub record GoAsks (z : Sizes) (s : List ℕ) (i : ℕ) (c : Resume) (b : List ℕ) : Type 0 where
  pub limbo : Limbo z s i
  pub call : meaning c ≡ (process (machine_in z s) i).resume
  pub range : ResumeInRange (sizes_in z) (meaning c)
  pub free : taken_again (machine_in z s) i (meaning c) ≡ false
  pub room : 127 ≤ length b

-- It has gone on there, and its message, if any, stands at the front of the buffer.
pub record WentOn (z : Sizes) (s s' : List ℕ) (i : ℕ) (c : Resume) (b b' : List ℕ) (a : Result code.Reply Refusal) : Type 0 where
  pub message : List ℕ
  pub went : Went z s s' (resumes (meaning c) i (machine_in z s)) message a
  pub buffer : b' ≡ message ++ drop (length message) b

-- A `wait` has the number 4.
wait_number_lem : (k o c : ℕ) → k ≤ 4 → resume_of k o c ≡ machine.in_wait → k ≡ 4
unfolding resume_of
wait_number_lem zero o c l e = absurd (let z : ◌≡◌ {A = ℕ} 0 1 = cc in omega arith)
wait_number_lem (suc zero) o c l e = absurd (let z : ◌≡◌ {A = ℕ} 0 1 = cc in omega arith)
wait_number_lem (suc (suc zero)) o c l e = absurd (let z : ◌≡◌ {A = ℕ} 0 1 = cc in omega arith)
wait_number_lem (suc (suc (suc zero))) o c l e = absurd (let z : ◌≡◌ {A = ℕ} 0 1 = cc in omega arith)
wait_number_lem (suc (suc (suc (suc zero)))) o c l e = refl
wait_number_lem (suc (suc (suc (suc (suc k))))) o c l e = absurd (omega arith)

module _ {z : Sizes} {s : List ℕ} {i : ℕ} {c : Resume} {b : List ℕ} (k : GoAsks z s i c b) where
  bounds : InBounds (sizes_in z) (mem_in z s)
  bounds = holds-bounds k.limbo.holds

  -- the call as the memory holds it
  stored : meaning c ≡ resume_at (mem_in z s) i
  stored = k.call ∙ resume_of_lem bounds i k.limbo.nowhere.used

  calls : (r : ℕ) → SleepsOn r (meaning c) → CallsRendez (mem_in z s) r i
  calls r h =
      let p : Sleeps (mem_in z s fields.resume_kind i) × (mem_in z s fields.resume_object i ≡ r) =
      sleeps-resume (mem_in z s fields.resume_kind i) (mem_in z s fields.resume_object i) (mem_in z s fields.resume_condition i) r
      (at_most bounds fields.resume_kind i) (subst (SleepsOn r) stored h)
      in
      record { kind = p.0; object = p.1 }

  -- nobody is where it would sleep
  nobody : (r d : ℕ) → taken (machine_in z s) r d ≡ false → condition (machine_in z s) d ≡ false → mem_in z s fields.sleeper_of r ≡ 0
  nobody r d t e = go (mem_in z s fields.sleeper_of r) refl
    where
      go : (l : ℕ) → mem_in z s fields.sleeper_of r ≡ l → mem_in z s fields.sleeper_of r ≡ 0
      go zero q = q
      go (suc j) q = absurd (true-false (sym (taken-there (machine_in z s) r d e (sleeper_of_lem bounds r ∙ ap link_to q)) ∙ t))

  pub go-sleep : {r d : ℕ} → c ≡ Sleep r d → CheckAsks z s i r d
  unfolding taken_again
  go-sleep {r} {d} e =
      record {
        limbo = k.limbo;
        call = calls r (subst (λ (x : Resume). SleepsOn r (meaning x)) (sym e) refl);
        index = (subst (λ (x : Resume). ResumeInRange (sizes_in z) (meaning x)) e k.range).0;
        empty = nobody r d (subst (λ (x : Resume). taken_again (machine_in z s) i (meaning x) ≡ false) e k.free);
      }

  pub go-tsleep : {r d : ℕ} → c ≡ Tsleep r d → TsleepAsks z s i r d
  unfolding taken_again
  go-tsleep {r} {d} e =
      let f : (is_queued (own_timer i (machine_in z s)) (machine_in z s) && taken (machine_in z s) r d) ≡ false =
      subst (λ (x : Resume). taken_again (machine_in z s) i (meaning x) ≡ false) e k.free
      in
      record {
        limbo = k.limbo;
        call = calls r (subst (λ (x : Resume). SleepsOn r (meaning x)) (sym e) refl);
        index = (subst (λ (x : Resume). ResumeInRange (sizes_in z) (meaning x)) e k.range).0;
        empty = λ q. nobody r d (subst (λ (x : Bool). (x && taken (machine_in z s) r d) ≡ false) q f);
      }

  pub go-wait : c ≡ Wait → WaitCheckAsks z s i b
  go-wait e =
      record {
        limbo = k.limbo;
        call =
            wait_number_lem (mem_in z s fields.resume_kind i) (mem_in z s fields.resume_object i) (mem_in z s fields.resume_condition i)
            (at_most bounds fields.resume_kind i) (sym stored ∙ ap meaning e);
        room = k.room;
      }

-- What each case of the call shows.
module _ {z : Sizes} {s s₁ : List ℕ} {i : ℕ} {c : Resume} {b : List ℕ} {a : Result code.Reply Refusal} where
  pub went-nothing : GoAsks z s i c b → c ≡ Nothing → RunsOn z s s₁ i a → WentOn z s s₁ i c b b a
  unfolding resumes
  went-nothing k e o =
      record {
        message = [];
        went = subst (λ (x : Resume). Went z s s₁ (resumes (meaning x) i (machine_in z s)) [] a) (sym e) o.went;
        buffer = refl;
      }

  pub went-qlock : {q : ℕ} → GoAsks z s i c b → c ≡ Qlock q → RunsOn z s s₁ i a → WentOn z s s₁ i c b b a
  unfolding resumes
  went-qlock k e o =
      record {
        message = [];
        went = subst (λ (x : Resume). Went z s s₁ (resumes (meaning x) i (machine_in z s)) [] a) (sym e) o.went;
        buffer = refl;
      }

  pub went-sleep : {r d : ℕ} → GoAsks z s i c b → c ≡ Sleep r d → Checked z s s₁ i r d a → WentOn z s s₁ i c b b a
  unfolding resumes
  went-sleep k e o =
      record {
        message = [];
        went = subst (λ (x : Resume). Went z s s₁ (resumes (meaning x) i (machine_in z s)) [] a) (sym e) o.went;
        buffer = refl;
      }

  pub went-tsleep : {r d : ℕ} → GoAsks z s i c b → c ≡ Tsleep r d → TsleepChecked z s s₁ i r d a → WentOn z s s₁ i c b b a
  unfolding resumes
  went-tsleep k e o =
      record {
        message = [];
        went = subst (λ (x : Resume). Went z s s₁ (resumes (meaning x) i (machine_in z s)) [] a) (sym e) o.went;
        buffer = refl;
      }

  pub went-wait : {b₁ : List ℕ} → GoAsks z s i c b → c ≡ Wait → WaitChecked z s s₁ i b b₁ a → WentOn z s s₁ i c b b₁ a
  unfolding resumes
  went-wait k e o =
      record {
        message = o.message;
        went = subst (λ (x : Resume). Went z s s₁ (resumes (meaning x) i (machine_in z s)) o.message a) (sym e) o.went;
        buffer = o.buffer;
      }
