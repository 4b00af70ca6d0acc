-- The number that tsleep meets.
use Rattle.std.specs.Prelude.{if◌then◌else◌, ◌≡◌, Bool, true, not, ◌||◌, ℕ}
use Rattle.std.proofs.Common.{◌∙◌}
use Rattle.std.proofs.Math.Bool.{false, and-true, or-false}
use Rattle.std.proofs.Math.Option.{none, some}
use Rattle.clock.specs.Counts.{zero_duration}
use Rattle.machine.specs.Basics.{is_none}
use Rattle.machine.specs.Machine.{Machine}
use Rattle.machine.specs.Step.{tsleep, open_step}
use Rattle.machine.specs.Table.{refusal, in_range, taken, bad_now, long_counts, open_table}
use Rattle.outcome.specs.Refusals.{step, refusal-tests}

-- tsleep: out of range, marked, nobody runs, no duration, NOW, counts over 2^63 − 1, or another asleep there.
module _ (m : Machine) (k : Bool) (R C S N NOW : ℕ) where
  pub refusal-tsleep
      : refusal m (step k (tsleep R C S N NOW))
      ≡ (if not (in_range m.sizes (tsleep R C S N NOW)) then some 2
      else if k then some 3
      else if is_none m.up then some 4
      else if zero_duration S N then some 7
      else if bad_now m NOW then some 8
      else if long_counts m S N then some 9
      else if taken m R C then some 5
      else none)
  unfolding open_table open_step
  refusal-tsleep =
      refusal-tests m (step k (tsleep R C S N NOW))
      ∙ rw (and-true k, and-true (is_none m.up), or-false (zero_duration S N), or-false (long_counts m S N), or-false (taken m R C))
      (rw (or-false (bad_now m NOW || false || false), or-false (bad_now m NOW || false), or-false (bad_now m NOW)))

  pub refused-tsleep-3
      : in_range m.sizes (tsleep R C S N NOW) ≡ true → k ≡ true
      → refusal m (step k (tsleep R C S N NOW)) ≡ some 3
  refused-tsleep-3 range marked = refusal-tsleep ∙ rw (range, marked)

  pub refused-tsleep-4
      : in_range m.sizes (tsleep R C S N NOW) ≡ true → k ≡ false → m.up ≡ none
      → refusal m (step k (tsleep R C S N NOW)) ≡ some 4
  refused-tsleep-4 range marked up = refusal-tsleep ∙ rw (range, marked, up)

  pub refused-tsleep-7
      : {i : ℕ} → in_range m.sizes (tsleep R C S N NOW) ≡ true → k ≡ false → m.up ≡ some i → zero_duration S N ≡ true
      → refusal m (step k (tsleep R C S N NOW)) ≡ some 7
  refused-tsleep-7 range marked up zero = refusal-tsleep ∙ rw (range, marked, zero, up)

  pub refused-tsleep-8
      : {i : ℕ} → in_range m.sizes (tsleep R C S N NOW) ≡ true → k ≡ false → m.up ≡ some i → zero_duration S N ≡ false
      → bad_now m NOW ≡ true
      → refusal m (step k (tsleep R C S N NOW)) ≡ some 8
  refused-tsleep-8 range marked up zero now = refusal-tsleep ∙ rw (range, marked, zero, now, up)

  pub refused-tsleep-9
      : {i : ℕ} → in_range m.sizes (tsleep R C S N NOW) ≡ true → k ≡ false → m.up ≡ some i → zero_duration S N ≡ false
      → bad_now m NOW ≡ false → long_counts m S N ≡ true
      → refusal m (step k (tsleep R C S N NOW)) ≡ some 9
  refused-tsleep-9 range marked up zero now long = refusal-tsleep ∙ rw (range, marked, zero, now, long, up)

  pub refused-tsleep-5
      : {i : ℕ} → in_range m.sizes (tsleep R C S N NOW) ≡ true → k ≡ false → m.up ≡ some i → zero_duration S N ≡ false
      → bad_now m NOW ≡ false → long_counts m S N ≡ false → taken m R C ≡ true
      → refusal m (step k (tsleep R C S N NOW)) ≡ some 5
  refused-tsleep-5 range marked up zero now long another = refusal-tsleep ∙ rw (range, marked, zero, now, long, another, up)

  pub allowed-tsleep
      : {i : ℕ} → in_range m.sizes (tsleep R C S N NOW) ≡ true → k ≡ false → m.up ≡ some i → zero_duration S N ≡ false
      → bad_now m NOW ≡ false → long_counts m S N ≡ false → taken m R C ≡ false
      → refusal m (step k (tsleep R C S N NOW)) ≡ none
  allowed-tsleep range marked up zero now long another = refusal-tsleep ∙ rw (range, marked, zero, now, long, another, up)
