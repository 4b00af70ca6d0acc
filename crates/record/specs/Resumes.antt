-- The cases of `resume`, their numbers, and what they stand for.
use Rattle.std.specs.Prelude.{◌≡◌, refl, ℕ, ◌<◌}
use Rattle.std.proofs.Common.{inl, inr, ne_eqb, arith}
use Rattle.machine.specs.Machine as machine
use Rattle.state.specs.Abs.{resume_number, resume_of}
use Rattle.state.specs.WellFormed.{Blank}
use Rattle.state.specs.Blanks.{blank-sleep, blank-lock, blank-both}
use Rattle.record.specs.declared.Resume.{Resume}
use Rattle.record.specs.declared.Resume.TheVariants.{Nothing, Sleep, Tsleep, Qlock, Wait}

-- The number of each case, and its object and condition, 0 where it has none.
abbrev pub number_of : Resume → ℕ
number_of Nothing = 0
number_of (Sleep r c) = 1
number_of (Tsleep r c) = 2
number_of (Qlock q) = 3
number_of Wait = 4

abbrev pub object_of : Resume → ℕ
object_of Nothing = 0
object_of (Sleep r c) = r
object_of (Tsleep r c) = r
object_of (Qlock q) = q
object_of Wait = 0

abbrev pub condition_of : Resume → ℕ
condition_of Nothing = 0
condition_of (Sleep r c) = c
condition_of (Tsleep r c) = c
condition_of (Qlock q) = 0
condition_of Wait = 0

-- What a case means.
abbrev pub meaning : Resume → machine.Resume
meaning Nothing = machine.nothing
meaning (Sleep r c) = machine.in_sleep r c
meaning (Tsleep r c) = machine.in_tsleep r c
meaning (Qlock q) = machine.in_qlock q
meaning Wait = machine.in_wait

-- A case is what the three numbers in a record say.
pub record resume_is (kind object condition : ℕ) (r : Resume) : Type 0 where
  pub means : meaning r ≡ resume_of kind object condition

-- Each case of `resume_of`.
pub is-sleep : {k o c : ℕ} → k ≡ 1 → resume_is k o c (Sleep o c)
unfolding resume_of
is-sleep e = record { means = rw e }

pub is-tsleep : {k o c : ℕ} → k ≡ 2 → resume_is k o c (Tsleep o c)
unfolding resume_of
is-tsleep e = record { means = rw e }

pub is-qlock : {k o c : ℕ} → k ≡ 3 → resume_is k o c (Qlock o)
unfolding resume_of
is-qlock e = record { means = rw e }

pub is-wait : {k o c : ℕ} → k ≡ 4 → resume_is k o c Wait
unfolding resume_of
is-wait e = record { means = rw e }

pub is-nothing : {k o c : ℕ} → (k ≡ 1 → ⊥) → (k ≡ 2 → ⊥) → (k ≡ 3 → ⊥) → (k ≡ 4 → ⊥) → resume_is k o c Nothing
unfolding resume_of
is-nothing {k} a b c d = record { means = rw (ne_eqb k 1 a, ne_eqb k 2 b, ne_eqb k 3 c, ne_eqb k 4 d) }

pub is-zero : {k o c : ℕ} → k ≡ 0 → resume_is k o c Nothing
is-zero e = is-nothing (λ d. omega (arith, d, e)) (λ d. omega (arith, d, e)) (λ d. omega (arith, d, e)) (λ d. omega (arith, d, e))

pub is-other : {k o c : ℕ} → 4 < k → resume_is k o c Nothing
is-other h = is-nothing (λ e. omega (arith, h, e)) (λ e. omega (arith, h, e)) (λ e. omega (arith, h, e)) (λ e. omega (arith, h, e))

-- The numbers, the object and the condition of a case say that case again, and are those that the state's layout gives it.
pub says-again : (r : Resume) → resume_of (number_of r) (object_of r) (condition_of r) ≡ meaning r
unfolding resume_of
says-again Nothing = refl
says-again (Sleep r c) = refl
says-again (Tsleep r c) = refl
says-again (Qlock q) = refl
says-again Wait = refl

pub same_number : (r : Resume) → number_of r ≡ resume_number (meaning r)
unfolding resume_number
same_number Nothing = refl
same_number (Sleep r c) = refl
same_number (Tsleep r c) = refl
same_number (Qlock q) = refl
same_number Wait = refl

-- A case holds 0 for what it does not have.
pub case_blank : (r : Resume) → Blank (number_of r) (object_of r) (condition_of r)
case_blank Nothing = blank-both refl refl
case_blank (Sleep r c) = blank-sleep (inl refl)
case_blank (Tsleep r c) = blank-sleep (inr refl)
case_blank (Qlock q) = blank-lock refl refl
case_blank Wait = blank-both refl refl
