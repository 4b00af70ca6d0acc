-- The fields of the timers, the clock and the conditions, and memories that differ in no others.
use Rattle.std.specs.Prelude.{if◌then◌else◌, ◌≡◌, refl, Bool, true, false, ◌||◌, List, ℕ, T, eqb}
use Rattle.std.proofs.Common.{sym, ap, subst, ◌∙◌, eqb-true}
use Rattle.layout.specs.Memory.{Memory, set_field}
use Rattle.state.specs.Fields as fields
use Rattle.state.specs.declared.Sizes.{Sizes}
use Rattle.holds.specs.Holds.{Holds}

-- The bytes hold a state, with some number of processes owed. A caller that knows how many reads `holds` of what it called.
pub record Owing (z : Sizes) (s : List ℕ) : Type 0 where
  pub owed : ℕ
  pub holds : Holds z s owed

pub owing-after : {z : Sizes} {s s' : List ℕ} → Owing z s → ((n : ℕ) → Holds z s n → Holds z s' n) → Owing z s'
owing-after o h = record { owed = o.owed; holds = h o.owed o.holds }

-- The fields of the timer queue, those that no group reads, and both.
abbrev pub of_queue : ℕ → Bool
of_queue f = eqb f fields.timer_head || eqb f fields.deadline || eqb f fields.timer_next || eqb f fields.is_queued

abbrev pub plain : ℕ → Bool
plain f =
    eqb f fields.ticks
    || eqb f fields.last_now
    || eqb f fields.quantum_end
    || eqb f fields.period
    || eqb f fields.timer_rendez
    || eqb f fields.condition_bit

abbrev pub aside : ℕ → Bool
aside f = plain f || of_queue f

-- Only fields that pass a test have changed.
pub record Only (test : ℕ → Bool) (m m' : Memory) : Type 0 where
  pub same : (f : ℕ) → test f ≡ false → m' f ≡ m f

pub only_none : (test : ℕ → Bool) (m : Memory) → Only test m m
only_none test m = record { same = λ f e. refl }

pub only_set : {test : ℕ → Bool} {m m' : Memory} (f : ℕ) (k : ℕ → ℕ) → test f ≡ true → Only test m m' → Only test m (set_field m' f k)
only_set {test} {m} {m'} f k a b = record { same = λ g e. go g e (eqb f g) refl }
  where
    go : (g : ℕ) → test g ≡ false → (c : Bool) → eqb f g ≡ c → (if c then k else m' g) ≡ m g
    go g e true q = absurd (subst T (sym a ∙ ap test (eqb-true f g q) ∙ e) tt)
    go g e false q = b.same g e
