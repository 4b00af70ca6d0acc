-- The head of the queue fires where it is due.
use Rattle.std.specs.Prelude.{◌≡◌, refl, Bool, true, false, List, [], ◌∷◌, ℕ, suc, ◌+◌, ◌-◌, ◌<◌, eqb}
use Rattle.std.proofs.Common.{sym, ap, subst, ◌∙◌, arith, eqb-true}
use Rattle.std.proofs.lemmas.Bool.{eqb-false}
use Rattle.machine.specs.Machine.{Machine, Queued, pid_of}
use Rattle.machine.specs.Timers.{callback, readd}
use Rattle.machine.specs.NoneDue.{NoneDue}
use Rattle.machine.specs.Good.{Good}
use Rattle.state.specs.Fields as fields
use Rattle.state.specs.Abs.{machine_of}
use Rattle.state.specs.Places.{mem_in}
use Rattle.state.specs.declared.Sizes.{Sizes}
use Rattle.exact.specs.Sums.{true-false}
use Rattle.exact.specs.Parts.{pid_of_lem}
use Rattle.holds.specs.Holds.{Holds}
use Rattle.holds.specs.Whole.{holds-bounds}
use Rattle.holds.specs.Did.{machine_in}
use Rattle.holds.specs.Use.{used, kin_join, Calm}
use Rattle.holds.specs.Leftover.{alive-kin}
use Rattle.holds.specs.Touched.{Spares, spares-fewer}
use Rattle.timer.specs.Rounds.{period_in, period-same, Rounds, rounds-same}
use Rattle.timer.specs.Due.{Later, HeadDue, PoppedDue}
use Rattle.outcome.specs.Stepped.{Well}
use Rattle.proc_intr.specs.Fire.{timer_at, FireAsks, Fired}
use Rattle.proc_intr.specs.OneFired.{OneFired, rest-good, head-lives, one-good}

-- A firing at the last reading, as `interrupt` does one after another.
pub record DueAsks (z : Sizes) (s : List ℕ) (reading : ℕ) : Type 0 where
  pub well : Well z s
  pub last : (machine_in z s).last_now ≡ reading

-- The head fired, or nothing is due and nothing was done.
pub record FiredDue (z : Sizes) (s s' : List ℕ) (reading : ℕ) (b : Bool) : Type 0 where
  pub again : DueAsks z s' reading
  pub bytes : b ≡ false → s' ≡ s
  pub later : b ≡ false → NoneDue reading (machine_in z s).queued
  pub fires : b ≡ true → OneFired (machine_in z s) (machine_in z s') reading
  pub spares : Spares z s s'
  -- nothing more is used
  pub fewer : (f i : ℕ) → used z (mem_in z s) f i ≡ 0 → used z (mem_in z s') f i ≡ 0
  pub rounds : Rounds z (mem_in z s) (mem_in z s')

none-due : (reading : ℕ) (q : List Queued) → Later reading q → NoneDue reading q
none-due reading [] l = tt
none-due reading (x ∷ rest) l = l

-- What one turn of `interrupt` shows: nothing is due, or the head, timer t, is taken off and fires.
pub due-none : {z : Sizes} {s s₁ : List ℕ} {reading : ℕ} → DueAsks z s reading → PoppedDue z s s₁ reading 0 → FiredDue z s s₁ reading false
due-none {z} {s} {s₁} {reading} a p =
    let b : s₁ ≡ s = p.wrote.bytes in
    record {
      again = subst (λ (x : List ℕ). DueAsks z x reading) (sym b) a;
      bytes = λ _. b;
      later = λ _. none-due reading (machine_in z s).queued (p.later refl);
      fires = λ x. absurd (true-false (sym x));
      spares = p.spares;
      fewer = p.fewer.fewer;
      rounds = rounds-same (ap (mem_in z) b);
    }

pub due-fire : {z : Sizes} {s s₁ : List ℕ} {reading t : ℕ} → DueAsks z s reading → PoppedDue z s s₁ reading (suc t) → FireAsks z s₁ t
unfolding machine_of
due-fire {z} {s} {s₁} {reading} {t} a p =
    let M : Machine = machine_in z s in
    let d : ℕ = mem_in z s fields.deadline t in
    let h : HeadDue M (machine_in z s₁) reading t d = p.head t refl in
    let holds : Holds z s₁ 0 = p.holds 0 a.well.holds in
    let g : Good (machine_in z s₁) = subst Good (sym h.machine) (rest-good M (record { timer = t; deadline = d }) h.rest a.well.good h.queue) in
    record {
      call = record {
        well = record { holds = holds; good = g };
        index = omega (arith, p.range);
        lives = λ k.
            let x : z.timers + (t - z.timers) ≡ t = omega (arith, k) in
            let v : 0 < pid_of (machine_in z s₁) (t - z.timers) =
            subst (λ (y : Machine). 0 < pid_of y (t - z.timers)) (sym h.machine)
            (head-lives M (record { timer = t; deadline = d }) h.rest (t - z.timers) a.well.good h.queue x)
            in
            subst (λ (y : ℕ). 0 < y) (pid_of_lem (holds-bounds holds) (t - z.timers)) v;
      };
      off = p.off t refl;
      small = omega (arith, ap (λ (k : ℕ → ℕ). k t) p.fewer.calm.deadlines, h.due, a.last, a.well.good.in_range.last_now);
    }

-- The machine after the head fired, as the definition has it.
fires_as : {z : Sizes} {s s₁ s₂ : List ℕ} {reading t : ℕ} → PoppedDue z s s₁ reading (suc t) → Fired z s₁ s₂ t → OneFired (machine_in z s) (machine_in z s₂) reading
fires_as {z} {s} {s₁} {s₂} {reading} {t} p f =
    let h : HeadDue (machine_in z s) (machine_in z s₁) reading t (mem_in z s fields.deadline t) = p.head t refl in
    record {
      head = timer_at (mem_in z s) t;
      rest = h.rest;
      queue = h.queue;
      due = h.due;
      machine =
          f.machine
          ∙ ap (λ (k : ℕ → ℕ). readd (record { timer = t; deadline = k t }) (callback t (machine_in z s₁)).machine) p.fewer.calm.deadlines
          ∙ ap (λ (y : Machine). readd (timer_at (mem_in z s) t) (callback t y).machine) h.machine;
    }

-- The head, taken off, fires: where it is periodic it returns.
fired-rounds
    : {z : Sizes} {s s₁ s₂ : List ℕ} {reading t : ℕ} → PoppedDue z s s₁ reading (suc t) → Fired z s₁ s₂ t → Rounds z (mem_in z s) (mem_in z s₂)
fired-rounds {z} {s} {s₁} {s₂} {reading} {t} p f =
    let c : Calm (mem_in z s) (mem_in z s₁) = p.fewer.calm in
    record {
      periods = f.rounds.periods ∙ p.periods;
      once = λ x e. f.rounds.once x (same x ∙ e) ∙ ap (λ (g : ℕ → ℕ). g x) c.deadlines;
      stays = λ x d u. stays x (λ e. d (sym (same x) ∙ e)) u (eqb t x) refl;
      kin = kin_join p.fewer.kin f.rounds.kin;
      parents = f.rounds.parents ∙ c.parents;
      exit_pids = f.rounds.exit_pids ∙ c.exit_pids;
      lengths = f.rounds.lengths ∙ c.lengths;
      bytes = f.rounds.bytes ∙ c.bytes;
    }
  where
    same : (x : ℕ) → period_in z (mem_in z s₁) x ≡ period_in z (mem_in z s) x
    same x = period-same z (mem_in z s) (mem_in z s₁) x p.periods

    stays
        : (x : ℕ)
        → (period_in z (mem_in z s₁) x ≡ 0 → ⊥)
        → 0 < mem_in z s fields.is_queued x
        → (b : Bool)
        → eqb t x ≡ b
        → 0 < mem_in z s₂ fields.is_queued x
    stays x d u true e =
        let q : t ≡ x = eqb-true t x e in
        subst (λ (y : ℕ). 0 < mem_in z s₂ fields.is_queued y) q (f.back (λ y. d (ap (period_in z (mem_in z s₁)) (sym q) ∙ y)))
    stays x d u false e =
        f.rounds.stays x d (omega (arith, u, p.others x (λ y. eqb-false t x e (omega (arith, y)))))

pub due-fired
    : {z : Sizes} {s s₁ s₂ : List ℕ} {reading t : ℕ}
    → DueAsks z s reading
    → PoppedDue z s s₁ reading (suc t)
    → Fired z s₁ s₂ t
    → FiredDue z s s₂ reading true
due-fired {z} {s} {s₁} {s₂} {reading} {t} a p f =
    let o : OneFired (machine_in z s) (machine_in z s₂) reading = fires_as p f in
    let k : (Good (machine_in z s₂)) × ((machine_in z s₂).last_now ≡ reading) = one-good (machine_in z s) (machine_in z s₂) reading a.well.good a.last o in
    record {
      again = record { well = record { holds = f.holds 0 (p.holds 0 a.well.holds); good = k.0 }; last = k.1 };
      bytes = λ x. absurd (true-false x);
      later = λ x. absurd (true-false x);
      fires = λ _. o;
      spares = spares-fewer p.spares p.fewer f.spares (alive-kin f.rounds.kin);
      fewer = λ g i x. (f.uses (mem_in z s) (p.on t refl)).between g i x (p.fewer.fewer g i x);
      rounds = fired-rounds p f;
    }
