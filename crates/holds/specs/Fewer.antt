-- When nothing more is used: what is used goes by six fields.
use Rattle.std.specs.Prelude.{if◌then◌else◌, ◌≡◌, refl, Bool, true, false, ◌||◌, ◌⊎◌, ℕ, zero, suc, ◌-◌, ◌/◌, ◌%◌, eqb}
use Rattle.std.proofs.Common.{sym, ap, ◌∙◌, inl, inr, ⊎_elim, eqb-true, eq-eqb, arith}
use Rattle.std.proofs.lemmas.Bool.{eqb-false}
use Rattle.layout.specs.Memory.{Memory, alter}
use Rattle.state.specs.Fields as fields
use Rattle.state.specs.Abs.{is_set}
use Rattle.state.specs.declared.Sizes.{Sizes}
use Rattle.exact.specs.Resumes.{set_test}
use Rattle.holds.specs.Use.{from_to, kin_use, used_by, Calm, Fewer, Smaller}

-- What is 0 in g is 0 in k.
abbrev pub Zeros : (g k : ℕ → ℕ) → Type 0
Zeros g k = (i : ℕ) → g i ≡ 0 → k i ≡ 0

-- One number made 0.
pub zeros-alter : (g : ℕ → ℕ) (t : ℕ) → Zeros g (alter g t 0)
zeros-alter g t i e = go (eqb t i)
  where
    go : (b : Bool) → (if b then 0 else g i) ≡ 0
    go true = refl
    go false = e

-- What is not 0 in k is as in g.
abbrev pub Shrunk : (g k : ℕ → ℕ) → Type 0
Shrunk g k = (i : ℕ) → (k i ≡ 0) ⊎ (k i ≡ g i)

pub shrunk_alter : (g : ℕ → ℕ) (t : ℕ) → Shrunk g (alter g t 0)
shrunk_alter g t i = go (eqb t i)
  where
    go : (b : Bool) → ((if b then 0 else g i) ≡ 0) ⊎ ((if b then 0 else g i) ≡ g i)
    go true = inl refl
    go false = inr refl

shrunk_zeros : {g k : ℕ → ℕ} → Shrunk g k → Zeros g k
shrunk_zeros h i e = ⊎_elim (λ a. a) (λ a. a ∙ e) (h i)

-- The link to a parent, where records are freed.
kin-fewer
    : (g k p l : ℕ → ℕ) (i : ℕ) → Shrunk g k → kin_use g p l i ≡ 0 → kin_use k p l i ≡ 0
kin-fewer g k p l i h e = go (eqb (p i) 0) refl (eqb (k (l i - 1)) (p i)) refl
  where
    none : g i ≡ 0 → k i ≡ 0
    none = shrunk_zeros h i

    lives : (p i ≡ 0 → ⊥) → k (l i - 1) ≡ p i → g (l i - 1) ≡ p i
    lives ne d = ⊎_elim (λ a. absurd (ne (sym d ∙ a))) (λ a. sym a ∙ d) (h (l i - 1))

    go : (b : Bool) → eqb (p i) 0 ≡ b → (c : Bool) → eqb (k (l i - 1)) (p i) ≡ c → (if b || c then k i else 0) ≡ 0
    go true b c q = none (rw b at e)
    go false b true q =
        none (rw (b, eq-eqb (g (l i - 1)) (p i) (lives (eqb-false (p i) 0 b) (eqb-true (k (l i - 1)) (p i) q))) at e)
    go false b false q = refl

by_test : (b : Bool) {x x' y y' : ℕ} → (x ≡ 0 → x' ≡ 0) → (y ≡ 0 → y' ≡ 0) → (if b then x else y) ≡ 0 → (if b then x' else y') ≡ 0
by_test true p q e = p e
by_test false p q e = q e

-- The bytes of a message whose cell is freed, or not.
byte-zero : (o o' n n' j : ℕ) → (o ≡ 0 → o' ≡ 0) → n' ≡ n → (if is_set o then n - j else 0) ≡ 0 → (if is_set o' then n' - j else 0) ≡ 0
byte-zero o zero n n' j p q e = refl
byte-zero zero (suc o') n n' j p q e = absurd (omega (arith, p refl))
byte-zero (suc o) (suc o') n n' j p q e =
    rw (set_test (suc o') (omega arith)) (omega (arith, q, rw (set_test (suc o) (omega arith)) at e))

-- No record or cell is made, and no timer queued.
pub smaller_by
    : {z : Sizes} {m m' : Memory}
    → Shrunk (m fields.pid) (m' fields.pid)
    → m' fields.parent ≡ m fields.parent
    → Zeros (m fields.is_queued) (m' fields.is_queued)
    → Zeros (m fields.owner) (m' fields.owner)
    → Calm m m'
    → Smaller z m m'
unfolding used_by
smaller_by {z} {m} {m'} p r q o l =
    record {
      calm = l;
      smaller = λ f i.
          by_test (eqb f fields.parent_at) (kin i)
          (by_test (from_to fields.pid fields.resume_object f) (zeros i)
          (by_test (eqb f fields.name_byte) (zeros (i / 28))
          (by_test (eqb f fields.period || eqb f fields.timer_rendez) (λ e. e)
          (by_test (from_to fields.deadline fields.is_queued f) (q i)
          (by_test (from_to fields.exit_pid fields.message_length f) (o i)
          (by_test (eqb f fields.message_byte)
          (byte-zero (m fields.owner (i / 127)) (m' fields.owner (i / 127)) (m fields.message_length (i / 127)) (m' fields.message_length (i / 127)) (i % 127) (o (i / 127)) (ap (λ (g : ℕ → ℕ). g (i / 127)) l.lengths))
          (λ e. e)))))));
    }
  where
    zeros : Zeros (m fields.pid) (m' fields.pid)
    zeros = shrunk_zeros p

    kin : (i : ℕ) → kin_use (m fields.pid) (m fields.parent) (m fields.parent_at) i ≡ 0 → kin_use (m' fields.pid) (m' fields.parent) (m' fields.parent_at) i ≡ 0
    kin i e = rw (r, l.parents) (kin-fewer (m fields.pid) (m' fields.pid) (m fields.parent) (m fields.parent_at) i p e)

-- And no record is freed.
pub fewer_by
    : {z : Sizes} {m m' : Memory}
    → m' fields.pid ≡ m fields.pid
    → m' fields.parent ≡ m fields.parent
    → Zeros (m fields.is_queued) (m' fields.is_queued)
    → Zeros (m fields.owner) (m' fields.owner)
    → Calm m m'
    → Fewer z m m'
fewer_by {z} {m} {m'} p r q o l =
    record {
      fewer = (smaller_by {z = z} {m = m} {m' = m'} (λ i. inr (ap (λ (g : ℕ → ℕ). g i) p)) r q o l).smaller;
      kin = record { pids = p };
      calm = l;
    }
