-- How many counts a duration takes, or the number that it and a reading of the clock meet.
use Rattle.std.specs.Prelude.{if◌then◌else◌, ◌≡◌, refl, Bool, true, false, List, ℕ, ◌≤◌, ◌<◌, ltb}
use Rattle.std.proofs.Common.{sym, ap, ◌∙◌, Fits, subst, lt-ltb, le-ltb}
use Rattle.std.proofs.Math.Option.{Option, none, some}
use Rattle.std.specs.Int.{w64}
use Rattle.clock.specs.Counts.{counts_of, zero_duration, shorter}
use Rattle.clock.specs.declared.Duration.{Duration}
use Rattle.machine.specs.Machine.{Machine}
use Rattle.machine.specs.Table.{bad_now, long_counts}
use Rattle.state.specs.Abs.{machine_of}
use Rattle.state.specs.declared.Sizes.{Sizes}
use Rattle.holds.specs.Did.{machine_in}
use Rattle.clockwork.specs.Reading.{BadNow}
use Rattle.outcome.specs.declared.Refusal.{Refusal}
use Rattle.outcome.specs.declared.Refusal.TheVariants.{ShortDuration, BadReading, TooManyCounts}
use Rattle.outcome.specs.Means.{number}
use Rattle.outcome.specs.RefusalsTime.{too_short}
use Rattle.proc_timer.specs.declared.Deadline.{Deadline}
use Rattle.proc_timer.specs.declared.Kind.{Kind}
use Rattle.proc_timer.specs.declared.Kind.TheVariants.{Relative, Periodic}
use Rattle.proc_timer.specs.Kinds.{kind_number}

-- The duration is too short for its kind.
pub record TooShort (kind : ℕ) (d : Duration) (b : Bool) : Type 0 where
  pub answer : b ≡ too_short kind d.secs d.nanos

pub short-once : {kind : Kind} {d : Duration} {b : Bool} → kind ≡ Relative → b ≡ zero_duration d.secs d.nanos → TooShort (kind_number kind) d b
short-once {kind} {d} {b} e q = subst (λ (x : Kind). TooShort (kind_number x) d b) (sym e) (record { answer = q })

pub short-period : {kind : Kind} {d : Duration} {b : Bool} → kind ≡ Periodic → b ≡ shorter d.secs d.nanos 0 100000 → TooShort (kind_number kind) d b
short-period {kind} {d} {b} e q = subst (λ (x : Kind). TooShort (kind_number x) d b) (sym e) (record { answer = q })

-- The number that a duration for a timer of a kind meets, and the reading of the clock with it: 7, 8 or 9, in this order.
abbrev pub number_for : Machine → (kind S N NOW : ℕ) → Option ℕ
number_for m kind S N NOW = if too_short kind S N then some 7 else if bad_now m NOW then some 8 else if long_counts m S N then some 9 else none

-- The counts are the duration's, and a deadline so many after the reading has 64 bits.
pub record Lasts (z : Sizes) (d : Duration) (n c : ℕ) : Type 0 where
  pub counts : c ≡ counts_of z.hz d.secs d.nanos
  pub few : c ≤ 9223372036854775807
  pub small : n ≤ 2251799813685247

-- No number is met, and the counts are so many.
pub record CountedTo (z : Sizes) (s : List ℕ) (kind : ℕ) (d : Duration) (n c : ℕ) : Type 0 where
  pub number : number_for (machine_in z s) kind d.secs d.nanos n ≡ none
  pub lasts : Lasts z d n c
  pub secs : Fits w64 d.secs
  pub reading : Fits w64 n

-- The deadline is so many counts after the reading.
pub record DeadlineFor (z : Sizes) (s : List ℕ) (kind : ℕ) (d : Duration) (n : ℕ) (at : Deadline) : Type 0 where
  pub reading : at.reading ≡ n
  pub counted : CountedTo z s kind d n at.counts

-- The number of a refusal is met.
pub record NotCounted (z : Sizes) (s : List ℕ) (kind : ℕ) (d : Duration) (n : ℕ) (e : Refusal) : Type 0 where
  pub number : number_for (machine_in z s) kind d.secs d.nanos n ≡ some (number e)
  pub secs : Fits w64 d.secs
  pub reading : Fits w64 n

-- Whether the counts are too many.
long-is
    : (z : Sizes) (s : List ℕ) (d : Duration) {c : ℕ} {b : Bool}
    → c ≡ counts_of z.hz d.secs d.nanos
    → ltb 9223372036854775807 c ≡ b
    → long_counts (machine_in z s) d.secs d.nanos ≡ b
unfolding machine_of long_counts
long-is z s d e p = ap (λ (x : ℕ). ltb 9223372036854775807 x) (sym e) ∙ p

-- What the code of `deadline_of` shows at each return.
pub counted_7
    : {z : Sizes} {s : List ℕ} {kind : ℕ} {d : Duration} {n : ℕ} {b : Bool}
    → Fits w64 d.secs
    → Fits w64 n
    → TooShort kind d b
    → b ≡ true
    → NotCounted z s kind d n ShortDuration
counted_7 x y h e = record { number = rw (sym h.answer ∙ e); secs = x; reading = y }

pub counted_8
    : {z : Sizes} {s : List ℕ} {kind : ℕ} {d : Duration} {n : ℕ} {b c : Bool}
    → Fits w64 d.secs
    → Fits w64 n
    → TooShort kind d b
    → b ≡ false
    → BadNow z s n c
    → c ≡ true
    → NotCounted z s kind d n BadReading
counted_8 x y h e q f = record { number = rw (sym h.answer ∙ e, sym q.answer ∙ f); secs = x; reading = y }

pub counted_9
    : {z : Sizes} {s : List ℕ} {kind : ℕ} {d : Duration} {n counts : ℕ} {b c : Bool}
    → Fits w64 d.secs
    → Fits w64 n
    → TooShort kind d b
    → b ≡ false
    → BadNow z s n c
    → c ≡ false
    → counts ≡ counts_of z.hz d.secs d.nanos
    → 9223372036854775807 < counts
    → NotCounted z s kind d n TooManyCounts
counted_9 {z} {s} {kind} {d} {n} {counts} x y h e q f v l =
    record {
      number = rw (sym h.answer ∙ e, sym q.answer ∙ f, long-is z s d v (lt-ltb 9223372036854775807 counts l));
      secs = x;
      reading = y;
    }

pub counted-all
    : {z : Sizes} {s : List ℕ} {kind : ℕ} {d : Duration} {n counts : ℕ} {b c : Bool}
    → Fits w64 d.secs
    → Fits w64 n
    → TooShort kind d b
    → b ≡ false
    → BadNow z s n c
    → c ≡ false
    → counts ≡ counts_of z.hz d.secs d.nanos
    → counts ≤ 9223372036854775807
    → DeadlineFor z s kind d n (record { reading = n; counts = counts })
counted-all {z} {s} {kind} {d} {n} {counts} x y h e q f v l =
    record {
      reading = refl;
      counted =
          record {
            number = rw (sym h.answer ∙ e, sym q.answer ∙ f, long-is z s d v (le-ltb 9223372036854775807 counts l));
            lasts = record { counts = v; few = l; small = q.small f };
            secs = x;
            reading = y;
          };
    }

-- What the answers of `too_short` and of `deadline_of` come to.
pub ruleset short = (short-once, short-period)

pub ruleset counting = (counted_7, counted_8, counted_9, counted-all)
