-- Counting records in a loop.
use Rattle.std.specs.Prelude.{if◌then◌else◌, ◌≡◌, refl, Bool, ℕ, ◌+◌, ◌≤◌}
use Rattle.std.proofs.Common.{add-one, arith}
use Rattle.layout.specs.Memory.{Memory}
use Rattle.state.specs.declared.Sizes.{Sizes}
use Rattle.rules.specs.Facts.{count_below, is_ready, is_asleep, is_queueing}
use Rattle.scan.specs.declared.Counts.{Counts}

-- One that is counted where a test holds.
pub record Tally (b : Bool) (r : ℕ) : Type 0 where
  pub value : r ≡ (if b then 1 else 0)
  pub low : r ≤ 1

-- What was counted of the numbers below i.
pub record Tallied (test : ℕ → Bool) (i r : ℕ) : Type 0 where
  pub count : r ≡ count_below i test
  pub few : r ≤ i

tallied_start : {test : ℕ → Bool} → Tallied test 0 0
unfolding count_below
tallied_start = record { count = refl; few = omega arith }

tallied_more : {test : ℕ → Bool} {i r t : ℕ} → Tallied test i r → Tally (test i) t → Tallied test (i + 1) (r + t)
unfolding count_below
tallied_more {test} {i} {r} {t} p h =
    record { count = rw (add-one i) (rw (← p.count, ← h.value) refl); few = omega (arith, p.few, h.low) }

pub record Counting (m : Memory) (r a q i : ℕ) : Type 0 where
  pub ready : Tallied (is_ready m) i r
  pub asleep : Tallied (is_asleep m) i a
  pub queueing : Tallied (is_queueing m) i q

pub counting_start : {m : Memory} → Counting m 0 0 0 0
counting_start = record { ready = tallied_start; asleep = tallied_start; queueing = tallied_start }

pub counting_more
    : {m : Memory} {ready asleep queueing i a b c : ℕ}
    → Counting m ready asleep queueing i
    → Tally (is_ready m i) a
    → Tally (is_asleep m i) b
    → Tally (is_queueing m i) c
    → Counting m (ready + a) (asleep + b) (queueing + c) (i + 1)
counting_more p x y w =
    record {
      ready = tallied_more p.ready x;
      asleep = tallied_more p.asleep y;
      queueing = tallied_more p.queueing w;
    }

-- The three counts of all records.
pub record Counted (z : Sizes) (m : Memory) (r : Counts) : Type 0 where
  pub ready : r.ready ≡ count_below z.processes (is_ready m)
  pub asleep : r.asleep ≡ count_below z.processes (is_asleep m)
  pub queueing : r.queueing ≡ count_below z.processes (is_queueing m)
  pub few_ready : r.ready ≤ z.processes
  pub few_asleep : r.asleep ≤ z.processes
  pub few_queueing : r.queueing ≤ z.processes

pub counting_end
    : {z : Sizes} {m : Memory} {ready asleep queueing : ℕ}
    → Counting m ready asleep queueing z.processes
    → Counted z m (record { ready = ready; asleep = asleep; queueing = queueing })
counting_end p =
    record {
      ready = p.ready.count;
      asleep = p.asleep.count;
      queueing = p.queueing.count;
      few_ready = p.ready.few;
      few_asleep = p.asleep.few;
      few_queueing = p.queueing.few;
    }
