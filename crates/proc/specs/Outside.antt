-- Each test of the code that finds a field out of range.
use Rattle.std.specs.Prelude.{◌≡◌, ◌⊎◌, refl, Bool, false, ◌&&◌, List, ℕ, ◌^◌, ◌≤◌, ◌<◌, leb, ltb, length, Err}
use Rattle.std.proofs.Common.{◌∙◌, inl, inr, arith, le-ltb}
use Rattle.std.proofs.lemmas.Bool.{lt-leb, and_left, and_right}
use Rattle.machine.specs.Step.{start, rfork, name, sleep, tsleep, wakeup, qlock, canqlock, qunlock, cond, tadd, tdel}
use Rattle.machine.specs.Table.{all_bytes}
use Rattle.state.specs.Places.{sizes_in}
use Rattle.state.specs.declared.Sizes.{Sizes}
use Rattle.outcome.specs.declared.Refusal.{Refusal}
use Rattle.outcome.specs.declared.Refusal.TheVariants.{NoSuchStep}
use Rattle.outcome.specs.Stepped.{Well}
use Rattle.outcome.specs.Took.{Took}
use Rattle.outcome.specs.RefusalsRange.{range-start, range-rfork, range-name, range-sleep, range-tsleep, range-wakeup, range-qlock, range-canqlock, range-qunlock, range-cond, range-tadd, range-tdel}
use Rattle.proc.specs.Ranges.{Beyond, NotKernel}
use Rattle.proc.specs.Plain.{Plain, outside, outside-took}

no_kernel : {n T : ℕ} {e : Refusal} → NotKernel n T e → (leb 1 T && ltb T n) ≡ false
no_kernel {n} {T} h = go h.out
  where
    go : (T < 1) ⊎ (n ≤ T) → (leb 1 T && ltb T n) ≡ false
    go (inl l) = and_left _ (ltb T n) (lt-leb 1 T l)
    go (inr l) = and_right (leb 1 T) _ (le-ltb T n l)

module _ {z : Sizes} {s : List ℕ} {k : Bool} (w : Well z s) where
  pub start_outside : {M : ℕ} → 2 < M → Plain z s s k (start M) (Err NoSuchStep)
  start_outside {M} h = outside w refl (range-start (sizes_in z) M ∙ lt-leb M 2 h)

  pub start_how : {M : ℕ} {e : Refusal} → (e ≡ NoSuchStep) × (3 < M) → Plain z s s k (start M) (Err e)
  start_how {M} (c, h) = outside w c (range-start (sizes_in z) M ∙ lt-leb M 2 (omega (arith, h)))

  pub rfork-flags : {F M : ℕ} → (F < 4294967296 → ⊥) → Plain z s s k (rfork F M) (Err NoSuchStep)
  rfork-flags {F} {M} h = outside w refl (range-rfork (sizes_in z) F M ∙ and_left _ (leb M 3) (le-ltb F (2 ^ 32) (omega (arith, h))))

  pub rfork_how : {F M : ℕ} {e : Refusal} → (e ≡ NoSuchStep) × (3 < M) → Plain z s s k (rfork F M) (Err e)
  rfork_how {F} {M} (c, h) = outside w c (range-rfork (sizes_in z) F M ∙ and_right (ltb F (2 ^ 32)) _ (lt-leb M 3 h))

  pub name-outside : {BYTES : List ℕ} → 28 < length BYTES → Plain z s s k (name BYTES) (Err NoSuchStep)
  name-outside {BYTES} h = outside w refl (range-name (sizes_in z) BYTES ∙ and_left _ (all_bytes BYTES) (lt-leb (length BYTES) 28 h))

  pub sleep-rendez : {R C : ℕ} {e : Refusal} → Beyond z.rendez R e → Plain z s s k (sleep R C) (Err e)
  sleep-rendez {R} {C} h = outside w h.cause (range-sleep (sizes_in z) R C ∙ and_left _ (ltb C 256) (le-ltb R z.rendez h.high))

  pub sleep-condition : {R C : ℕ} {e : Refusal} → Beyond 256 C e → Plain z s s k (sleep R C) (Err e)
  sleep-condition {R} {C} h = outside w h.cause (range-sleep (sizes_in z) R C ∙ and_right (ltb R z.rendez) _ (le-ltb C 256 (omega (arith, h.high))))

  pub qlock-outside : {Q : ℕ} {e : Refusal} → Beyond z.locks Q e → Plain z s s k (qlock Q) (Err e)
  qlock-outside {Q} h = outside w h.cause (range-qlock (sizes_in z) Q ∙ le-ltb Q z.locks h.high)

  -- The tests of tsleep, one by one.
  module _ {R C S N NOW : ℕ} where
    pub tsleep-rendez : {e : Refusal} → Beyond z.rendez R e → Plain z s s k (tsleep R C S N NOW) (Err e)
    tsleep-rendez h = outside w h.cause (range-tsleep (sizes_in z) R C S N NOW ∙ and_left _ (ltb NOW (2 ^ 64)) (and_left _ (ltb N 1000000000) (and_left _ (ltb S (2 ^ 64)) (and_left _ (ltb C 256) (le-ltb R z.rendez h.high)))))

    pub tsleep-condition : {e : Refusal} → Beyond 256 C e → Plain z s s k (tsleep R C S N NOW) (Err e)
    tsleep-condition h = outside w h.cause (range-tsleep (sizes_in z) R C S N NOW ∙ and_left _ (ltb NOW (2 ^ 64)) (and_left _ (ltb N 1000000000) (and_left _ (ltb S (2 ^ 64)) (and_right (ltb R z.rendez) _ (le-ltb C 256 (omega (arith, h.high)))))))

    pub tsleep-nanoseconds : {e : Refusal} → Beyond 1000000000 N e → Plain z s s k (tsleep R C S N NOW) (Err e)
    tsleep-nanoseconds h = outside w h.cause (range-tsleep (sizes_in z) R C S N NOW ∙ and_left _ (ltb NOW (2 ^ 64)) (and_right (ltb R z.rendez && ltb C 256 && ltb S (2 ^ 64)) _ (le-ltb N 1000000000 h.high)))

-- The same of the steps that ask nothing of the mark.
module _ {z : Sizes} {s : List ℕ} (w : Well z s) where
  pub wakeup-outside : {R : ℕ} {e : Refusal} → Beyond z.rendez R e → Took z s s (wakeup R) (Err e)
  wakeup-outside {R} h = outside-took w h.cause (range-wakeup (sizes_in z) R ∙ le-ltb R z.rendez h.high)

  pub canqlock-outside : {Q : ℕ} {e : Refusal} → Beyond z.locks Q e → Took z s s (canqlock Q) (Err e)
  canqlock-outside {Q} h = outside-took w h.cause (range-canqlock (sizes_in z) Q ∙ le-ltb Q z.locks h.high)

  pub qunlock-outside : {Q : ℕ} {e : Refusal} → Beyond z.locks Q e → Took z s s (qunlock Q) (Err e)
  qunlock-outside {Q} h = outside-took w h.cause (range-qunlock (sizes_in z) Q ∙ le-ltb Q z.locks h.high)

  pub cond-condition : {C v : ℕ} {e : Refusal} → Beyond 256 C e → Took z s s (cond C v) (Err e)
  cond-condition {C} {v} h = outside-took w h.cause (range-cond (sizes_in z) C v ∙ and_left _ (leb v 1) (le-ltb C 256 (omega (arith, h.high))))

  pub cond_value : {C v : ℕ} {e : Refusal} → Beyond 2 v e → Took z s s (cond C v) (Err e)
  cond_value {C} {v} h = outside-took w h.cause (range-cond (sizes_in z) C v ∙ and_right (ltb C 256) _ (lt-leb v 1 h.high))

  pub tdel-outside : {T : ℕ} {e : Refusal} → NotKernel z.timers T e → Took z s s (tdel T) (Err e)
  tdel-outside {T} h = outside-took w h.cause (range-tdel (sizes_in z) T ∙ no_kernel h)

  -- The tests of tadd, one by one.
  module _ {T KIND S N R NOW : ℕ} where
    pub tadd-timer : {e : Refusal} → NotKernel z.timers T e → Took z s s (tadd T KIND S N R NOW) (Err e)
    tadd-timer h = outside-took w h.cause (range-tadd (sizes_in z) T KIND S N R NOW ∙ and_left _ (ltb NOW (2 ^ 64)) (and_left _ (ltb R z.rendez) (and_left _ (ltb N 1000000000) (and_left _ (ltb S (2 ^ 64)) (and_left _ (leb KIND 1) (no_kernel h))))))

    pub tadd-kind : {e : Refusal} → (e ≡ NoSuchStep) × (1 < KIND) → Took z s s (tadd T KIND S N R NOW) (Err e)
    tadd-kind (c, h) = outside-took w c (range-tadd (sizes_in z) T KIND S N R NOW ∙ and_left _ (ltb NOW (2 ^ 64)) (and_left _ (ltb R z.rendez) (and_left _ (ltb N 1000000000) (and_left _ (ltb S (2 ^ 64)) (and_right (leb 1 T && ltb T z.timers) _ (lt-leb KIND 1 h))))))

    pub tadd-nanoseconds : {e : Refusal} → Beyond 1000000000 N e → Took z s s (tadd T KIND S N R NOW) (Err e)
    tadd-nanoseconds h = outside-took w h.cause (range-tadd (sizes_in z) T KIND S N R NOW ∙ and_left _ (ltb NOW (2 ^ 64)) (and_left _ (ltb R z.rendez) (and_right (leb 1 T && ltb T z.timers && leb KIND 1 && ltb S (2 ^ 64)) _ (le-ltb N 1000000000 h.high))))

    pub tadd-rendez : {e : Refusal} → Beyond z.rendez R e → Took z s s (tadd T KIND S N R NOW) (Err e)
    tadd-rendez h = outside-took w h.cause (range-tadd (sizes_in z) T KIND S N R NOW ∙ and_left _ (ltb NOW (2 ^ 64)) (and_right (leb 1 T && ltb T z.timers && leb KIND 1 && ltb S (2 ^ 64) && ltb N 1000000000) _ (le-ltb R z.rendez h.high)))
