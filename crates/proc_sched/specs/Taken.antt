-- Whether a woken sleeper would sleep again where another is asleep: what the code shows at each return.
use Rattle.std.specs.Prelude.{◌≡◌, Option, None, Some, is_some, Bool, true, false, List, ℕ, ◌+◌, ◌<◌}
use Rattle.std.proofs.Math.Path.{refl}
use Rattle.std.proofs.Common.{sym, ap, subst, ◌∙◌, arith}
use Rattle.memory.specs.Link.{link}
use Rattle.machine.specs.Good.{ResumeInRange}
use Rattle.machine.specs.Table as table
use Rattle.state.specs.Fields as fields
use Rattle.state.specs.Abs.{link_to}
use Rattle.state.specs.Places.{sizes_in, mem_in}
use Rattle.state.specs.declared.Sizes.{Sizes}
use Rattle.record.specs.declared.Resume.{Resume}
use Rattle.record.specs.declared.Resume.TheVariants.{Nothing, Sleep, Tsleep, Qlock, Wait}
use Rattle.record.specs.Resumes.{meaning}
use Rattle.exact.specs.Parts.{sleeper_of_lem}
use Rattle.holds.specs.Holds.{Holds}
use Rattle.holds.specs.Whole.{holds-bounds}
use Rattle.holds.specs.Did.{machine_in}
use Rattle.timer.specs.Del.{TimerAsks}
use Rattle.timer.specs.Queued.{IsQueued}
use Rattle.clockwork.specs.Conditions.{Condition}
use Rattle.outcome.specs.RefusalsRun.{taken_true, taken_free, taken-there}
use Rattle.proc_sched.specs.Check.{own-queued}

-- There is a Rendez r.
pub record TakenAsks (z : Sizes) (s : List ℕ) (r : ℕ) : Type 0 where
  pub holds : Holds z s 0
  pub index : r < z.rendez

pub record Taken (z : Sizes) (s : List ℕ) (r c : ℕ) (t : Bool) : Type 0 where
  pub answer : t ≡ table.taken (machine_in z s) r c

pub taken_yes : {z : Sizes} {s : List ℕ} {r c : ℕ} {t : Bool} → TakenAsks z s r → Condition z s c t → t ≡ true → Taken z s r c false
taken_yes {z} {s} {r} {c} a h e = record { answer = sym (taken_true (machine_in z s) r c (sym h.answer ∙ e)) }

pub taken-no
    : {z : Sizes} {s : List ℕ} {r c : ℕ} {t b : Bool} (o : Option ℕ)
    → TakenAsks z s r → Condition z s c t → t ≡ false → link o ≡ mem_in z s fields.sleeper_of r → b ≡ is_some o → Taken z s r c b
taken-no {z} {s} {r} {c} o a h e d q = record { answer = q ∙ go o d }
  where
    go : (o : Option ℕ) → link o ≡ mem_in z s fields.sleeper_of r → is_some o ≡ table.taken (machine_in z s) r c
    go None f = sym (taken_free (machine_in z s) r c (sleeper_of_lem (holds-bounds a.holds) r ∙ ap link_to (sym f)))
    go (Some j) f = sym (taken-there (machine_in z s) r c (sym h.answer ∙ e) (sleeper_of_lem (holds-bounds a.holds) r ∙ ap link_to (sym f)))

-- There is a record i, and its call is in range.
pub record TakenAgainAsks (z : Sizes) (s : List ℕ) (i : ℕ) (c : Resume) : Type 0 where
  pub holds : Holds z s 0
  pub index : i < z.processes
  pub range : ResumeInRange (sizes_in z) (meaning c)

pub record TakenAgain (z : Sizes) (s : List ℕ) (i : ℕ) (c : Resume) (t : Bool) : Type 0 where
  pub answer : t ≡ table.taken_again (machine_in z s) i (meaning c)

module _ {z : Sizes} {s : List ℕ} {i : ℕ} {c : Resume} (a : TakenAgainAsks z s i c) where
  pub again-own : TimerAsks z s (z.timers + i)
  again-own = record { owing = record { owed = 0; holds = a.holds }; index = omega (arith, a.index) }

  pub again-small : z.timers + i < 65536
  again-small = omega (arith, a.index, a.holds.sizes.processes.1, a.holds.sizes.timers.1)

  pub again-sleep : {r d : ℕ} → c ≡ Sleep r d → TakenAsks z s r
  again-sleep e = record { holds = a.holds; index = (subst (λ (x : Resume). ResumeInRange (sizes_in z) (meaning x)) e a.range).0 }

  pub again-tsleep : {r d : ℕ} → c ≡ Tsleep r d → TakenAsks z s r
  again-tsleep e = record { holds = a.holds; index = (subst (λ (x : Resume). ResumeInRange (sizes_in z) (meaning x)) e a.range).0 }

  shown : {t : Bool} (x : Resume) → c ≡ x → t ≡ table.taken_again (machine_in z s) i (meaning x) → TakenAgain z s i c t
  shown {t} x e q = record { answer = q ∙ ap (λ (y : Resume). table.taken_again (machine_in z s) i (meaning y)) (sym e) }

  pub again-nothing : c ≡ Nothing → TakenAgain z s i c false
  unfolding table.taken_again
  again-nothing e = shown Nothing e refl

  pub again-qlock : {q : ℕ} → c ≡ Qlock q → TakenAgain z s i c false
  unfolding table.taken_again
  again-qlock {q} e = shown (Qlock q) e refl

  pub again-wait : c ≡ Wait → TakenAgain z s i c false
  unfolding table.taken_again
  again-wait e = shown Wait e refl

  pub again-slept : {r d : ℕ} {t : Bool} → c ≡ Sleep r d → Taken z s r d t → TakenAgain z s i c t
  unfolding table.taken_again
  again-slept {r} {d} e h = shown (Sleep r d) e h.answer

  pub again-fired : {r d : ℕ} {q : Bool} → c ≡ Tsleep r d → IsQueued z s (z.timers + i) q → q ≡ false → TakenAgain z s i c false
  unfolding table.taken_again
  again-fired {r} {d} {q} e h n = shown (Tsleep r d) e (rw (own-queued i h ∙ n) refl)

  pub again-queued
      : {r d : ℕ} {q t : Bool} → c ≡ Tsleep r d → IsQueued z s (z.timers + i) q → q ≡ true → Taken z s r d t → TakenAgain z s i c t
  unfolding table.taken_again
  again-queued {r} {d} {q} e h n k = shown (Tsleep r d) e (rw (own-queued i h ∙ n) k.answer)
