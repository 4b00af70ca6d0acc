-- The number that clock, intr, due, tadd and tdel meet.
use Rattle.std.specs.Prelude.{if◌then◌else◌, ◌≡◌, Bool, true, false, not, ◌||◌, ℕ, eqb}
use Rattle.std.proofs.Common.{◌∙◌}
use Rattle.std.proofs.Math.Bool.{and-false, or-false}
use Rattle.std.proofs.Math.Option.{none, some}
use Rattle.clock.specs.Counts.{zero_duration, shorter}
use Rattle.machine.specs.Basics.{is_none}
use Rattle.machine.specs.Machine.{Machine}
use Rattle.machine.specs.Step.{clock, tadd, tdel, intr, due, open_step}
use Rattle.machine.specs.Table.{refusal, in_range, bad_now, long_counts, open_table}
use Rattle.outcome.specs.Refusals.{step, refusal-tests}

-- due: nothing. tdel: a field out of range.
module _ (m : Machine) (k : Bool) where
  pub refusal-due : refusal m (step k due) ≡ none
  unfolding open_table open_step
  refusal-due = refusal-tests m (step k due) ∙ rw (and-false k, and-false (is_none m.up))

  pub refusal-tdel : (T : ℕ) → refusal m (step k (tdel T)) ≡ (if not (in_range m.sizes (tdel T)) then some 2 else none)
  unfolding open_table open_step
  refusal-tdel T = refusal-tests m (step k (tdel T)) ∙ rw (and-false k, and-false (is_none m.up))

  pub allowed-tdel : (T : ℕ) → in_range m.sizes (tdel T) ≡ true → refusal m (step k (tdel T)) ≡ none
  allowed-tdel T range = refusal-tdel T ∙ rw range

-- clock, intr: that, or a NOW that is not accepted.
module _ (m : Machine) (k : Bool) (NOW : ℕ) where
  pub refusal-clock
      : refusal m (step k (clock NOW)) ≡ (if not (in_range m.sizes (clock NOW)) then some 2 else if bad_now m NOW then some 8 else none)
  unfolding open_table open_step
  refusal-clock =
      refusal-tests m (step k (clock NOW))
      ∙ rw (and-false k, and-false (is_none m.up), or-false (bad_now m NOW || false), or-false (bad_now m NOW))

  pub refused-clock_8 : in_range m.sizes (clock NOW) ≡ true → bad_now m NOW ≡ true → refusal m (step k (clock NOW)) ≡ some 8
  refused-clock_8 range now = refusal-clock ∙ rw (range, now)

  pub allowed-clock : in_range m.sizes (clock NOW) ≡ true → bad_now m NOW ≡ false → refusal m (step k (clock NOW)) ≡ none
  allowed-clock range now = refusal-clock ∙ rw (range, now)

  pub refusal-intr
      : refusal m (step k (intr NOW)) ≡ (if not (in_range m.sizes (intr NOW)) then some 2 else if bad_now m NOW then some 8 else none)
  unfolding open_table open_step
  refusal-intr = refusal-tests m (step k (intr NOW)) ∙ rw (and-false k, and-false (is_none m.up))

  pub refused-intr_8 : in_range m.sizes (intr NOW) ≡ true → bad_now m NOW ≡ true → refusal m (step k (intr NOW)) ≡ some 8
  refused-intr_8 range now = refusal-intr ∙ rw (range, now)

  pub allowed-intr : in_range m.sizes (intr NOW) ≡ true → bad_now m NOW ≡ false → refusal m (step k (intr NOW)) ≡ none
  allowed-intr range now = refusal-intr ∙ rw (range, now)

-- A duration that tadd refuses: none at all, or a period under 100 µs.
abbrev pub too_short : (KIND S N : ℕ) → Bool
too_short KIND S N = if eqb KIND 0 then zero_duration S N else shorter S N 0 100000

-- tadd: out of range, the duration, NOW, or counts over 2^63 − 1.
module _ (m : Machine) (k : Bool) (T KIND S N R NOW : ℕ) where
  pub refusal-tadd
      : refusal m (step k (tadd T KIND S N R NOW))
      ≡ (if not (in_range m.sizes (tadd T KIND S N R NOW)) then some 2
      else if too_short KIND S N then some 7
      else if bad_now m NOW then some 8
      else if long_counts m S N then some 9
      else none)
  unfolding open_table open_step
  refusal-tadd =
      refusal-tests m (step k (tadd T KIND S N R NOW)) ∙ rw (and-false k, and-false (is_none m.up), or-false (bad_now m NOW))

  pub refused-tadd-7
      : in_range m.sizes (tadd T KIND S N R NOW) ≡ true → too_short KIND S N ≡ true → refusal m (step k (tadd T KIND S N R NOW)) ≡ some 7
  refused-tadd-7 range short = refusal-tadd ∙ rw (range, short)

  pub refused-tadd-8
      : in_range m.sizes (tadd T KIND S N R NOW) ≡ true → too_short KIND S N ≡ false → bad_now m NOW ≡ true
      → refusal m (step k (tadd T KIND S N R NOW)) ≡ some 8
  refused-tadd-8 range short now = refusal-tadd ∙ rw (range, short, now)

  pub refused-tadd-9
      : in_range m.sizes (tadd T KIND S N R NOW) ≡ true → too_short KIND S N ≡ false → bad_now m NOW ≡ false → long_counts m S N ≡ true
      → refusal m (step k (tadd T KIND S N R NOW)) ≡ some 9
  refused-tadd-9 range short now long = refusal-tadd ∙ rw (range, short, now, long)

  pub allowed-tadd
      : in_range m.sizes (tadd T KIND S N R NOW) ≡ true → too_short KIND S N ≡ false → bad_now m NOW ≡ false → long_counts m S N ≡ false
      → refusal m (step k (tadd T KIND S N R NOW)) ≡ none
  allowed-tadd range short now long = refusal-tadd ∙ rw (range, short, now, long)
