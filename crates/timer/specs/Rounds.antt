-- What timers keep while they fire, round after round.
use Rattle.std.specs.Prelude.{if◌then◌else◌, ◌≡◌, refl, Bool, true, false, ℕ, ◌/◌, ◌<◌, eqb, ltb}
use Rattle.std.proofs.Common.{sym, ap, subst, ◌∙◌, arith, eqb-true}
use Rattle.std.proofs.lemmas.Bool.{eqb-false}
use Rattle.machine.specs.Basics.{elem}
use Rattle.layout.specs.Memory.{Memory}
use Rattle.state.specs.Fields as fields
use Rattle.state.specs.declared.Sizes.{Sizes}
use Rattle.holds.specs.Use.{SameKin, kin_join, Calm}
use Rattle.holds.specs.Leftover.{cleared, leftover, Quiet, alive-kin, by_fields}

-- The period of timer t; a process's own timer fires once, whatever its bytes.
abbrev pub period_in : Sizes → Memory → ℕ → ℕ
period_in z m t = if ltb t z.timers then m fields.period t else 0

-- The periods stay, and the deadline of a timer that fires once; a periodic one stays queued. Nobody is freed, and the links to parents and
-- what the cells keep stay.
pub record Rounds (z : Sizes) (m m' : Memory) : Type 0 where
  pub periods : m' fields.period ≡ m fields.period
  pub once : (t : ℕ) → period_in z m t ≡ 0 → m' fields.deadline t ≡ m fields.deadline t
  pub stays : (t : ℕ) → (period_in z m t ≡ 0 → ⊥) → 0 < m fields.is_queued t → 0 < m' fields.is_queued t
  pub kin : SameKin m m'
  pub parents : m' fields.parent_at ≡ m fields.parent_at
  pub exit_pids : m' fields.exit_pid ≡ m fields.exit_pid
  pub lengths : m' fields.message_length ≡ m fields.message_length
  pub bytes : m' fields.message_byte ≡ m fields.message_byte

pub period-same : (z : Sizes) (m m' : Memory) (t : ℕ) → m' fields.period ≡ m fields.period → period_in z m' t ≡ period_in z m t
period-same z m m' t e = ap (λ (g : ℕ → ℕ). if ltb t z.timers then g t else 0) e

pub rounds_join : {z : Sizes} {m m₁ m₂ : Memory} → Rounds z m m₁ → Rounds z m₁ m₂ → Rounds z m m₂
rounds_join {z} {m} {m₁} p q =
    record {
      periods = q.periods ∙ p.periods;
      once = λ t e. q.once t (period-same z m m₁ t p.periods ∙ e) ∙ p.once t e;
      stays = λ t ne u. q.stays t (λ e. ne (sym (period-same z m m₁ t p.periods) ∙ e)) (p.stays t ne u);
      kin = kin_join p.kin q.kin;
      parents = q.parents ∙ p.parents;
      exit_pids = q.exit_pids ∙ p.exit_pids;
      lengths = q.lengths ∙ p.lengths;
      bytes = q.bytes ∙ p.bytes;
    }

-- Where no timer is touched.
pub rounds-calm
    : {z : Sizes} {m m' : Memory} → SameKin m m' → Calm m m' → m' fields.period ≡ m fields.period → m' fields.is_queued ≡ m fields.is_queued → Rounds z m m'
rounds-calm k c p f =
    record {
      periods = p;
      once = λ t e. ap (λ (g : ℕ → ℕ). g t) c.deadlines;
      stays = λ t ne u. subst (λ (g : ℕ → ℕ). 0 < g t) (sym f) u;
      kin = k;
      parents = c.parents;
      exit_pids = c.exit_pids;
      lengths = c.lengths;
      bytes = c.bytes;
    }

pub rounds-same : {z : Sizes} {m m' : Memory} → m' ≡ m → Rounds z m m'
rounds-same {z} {m} e =
    subst (Rounds z m) (sym e)
    (rounds-calm (record { pids = refl }) (record { parents = refl; deadlines = refl; exit_pids = refl; lengths = refl; bytes = refl }) refl refl)

-- A timer that leaves the queue for good in later rounds fires once: earlier ones left its deadline.
pub rounds-quiet : {z : Sizes} {m m₁ m₂ : Memory} → Rounds z m m₁ → Rounds z m₁ m₂ → Quiet z m m₁ m₂
unfolding cleared leftover elem
rounds-quiet {z} {m} {m₁} {m₂} p q =
    record {
      quiet = by_fields {m = m₁} {m' = m₂} {P = λ f i. leftover f (m₁ f i) ≡ leftover f (m f i)}
          (record {
            records = λ f i r u v. absurd (omega (arith, (alive-kin q.kin).alive i u, v));
            parents = λ i u. ap (λ (g : ℕ → ℕ). g i) p.parents;
            names = λ i u v. absurd (omega (arith, (alive-kin q.kin).alive (i / 28) u, v));
            deadlines = λ t u v. deadline t u v (eqb (period_in z m t) 0) refl;
            timer_links = λ t u v. refl;
            flags = λ t u v. refl;
            exit_pids = λ c u v. ap (λ (g : ℕ → ℕ). g c) p.exit_pids;
            cell_links = λ c u v. refl;
            owners = λ c u v. refl;
            lengths = λ c u v. ap (λ (g : ℕ → ℕ). g c) p.lengths;
            bytes = λ i u v. ap (λ (g : ℕ → ℕ). g i) p.bytes;
          })
          z;
    }
  where
    deadline : (t : ℕ) → 0 < m₁ fields.is_queued t → m₂ fields.is_queued t ≡ 0 → (b : Bool) → eqb (period_in z m t) 0 ≡ b → m₁ fields.deadline t ≡ m fields.deadline t
    deadline t u v true e = p.once t (eqb-true (period_in z m t) 0 e)
    deadline t u v false e =
        absurd (omega (arith, q.stays t (λ d. eqb-false (period_in z m t) 0 e (sym (period-same z m m₁ t p.periods) ∙ d)) u, v))
