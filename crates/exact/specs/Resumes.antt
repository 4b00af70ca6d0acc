-- What the numbers of a switched-out call say of the call, and the other way round.
use Rattle.std.specs.Prelude.{◌≡◌, refl, Bool, true, false, ◌&&◌, ◌||◌, ◌⊎◌, ℕ, zero, suc, ◌+◌, ◌≤◌, ◌<◌, eqb}
use Rattle.std.proofs.Common.{sym, subst, inl, inr, ⊎_elim, arith, eqb-true, eq-eqb}
use Rattle.std.proofs.lemmas.Bool.{and_parts}
use Rattle.machine.specs.Machine.{Sizes, nothing, in_qlock, in_wait}
use Rattle.machine.specs.Good.{SleepsOn, IsTsleep, ResumeInRange}
use Rattle.state.specs.Abs.{resume_of, is_set}
pub use Rattle.rules.specs.Tests.{set_test, unset_test, test_set, test_unset}
use Rattle.lists.specs.Lists.{bit}

abbrev pub Sleeps : ℕ → Type 0
Sleeps k = (k ≡ 1) ⊎ (k ≡ 2)

pub resume-nothing : (k o c : ℕ) → k ≡ 0 → resume_of k o c ≡ nothing
unfolding resume_of
resume-nothing k o c e = subst (λ (x : ℕ). resume_of x o c ≡ nothing) (sym e) refl

pub nothing-resume : (k o c : ℕ) → k ≤ 4 → resume_of k o c ≡ nothing → k ≡ 0
unfolding resume_of
nothing-resume zero o c l e = refl
nothing-resume (suc zero) o c l e = cc
nothing-resume (suc (suc zero)) o c l e = cc
nothing-resume (suc (suc (suc zero))) o c l e = cc
nothing-resume (suc (suc (suc (suc zero)))) o c l e = cc
nothing-resume (suc (suc (suc (suc (suc k))))) o c l e = absurd (omega arith)

pub resume-sleeps : (k o c r : ℕ) → Sleeps k → o ≡ r → SleepsOn r (resume_of k o c)
unfolding resume_of
resume-sleeps k o c r (inl e) d = subst (λ (x : ℕ). SleepsOn r (resume_of x o c)) (sym e) d
resume-sleeps k o c r (inr e) d = subst (λ (x : ℕ). SleepsOn r (resume_of x o c)) (sym e) d

pub sleeps-resume : (k o c r : ℕ) → k ≤ 4 → SleepsOn r (resume_of k o c) → Sleeps k × (o ≡ r)
unfolding resume_of
sleeps-resume zero o c r l h = absurd h
sleeps-resume (suc zero) o c r l h = (inl refl, h)
sleeps-resume (suc (suc zero)) o c r l h = (inr refl, h)
sleeps-resume (suc (suc (suc zero))) o c r l h = absurd h
sleeps-resume (suc (suc (suc (suc zero)))) o c r l h = absurd h
sleeps-resume (suc (suc (suc (suc (suc k))))) o c r l h = absurd (omega arith)

pub resume-lock : (k o c q : ℕ) → k ≡ 3 → o ≡ q → resume_of k o c ≡ in_qlock q
unfolding resume_of
resume-lock k o c q e d = subst (λ (x : ℕ). resume_of x o c ≡ in_qlock q) (sym e) (rw d)

pub lock-resume : (k o c q : ℕ) → k ≤ 4 → resume_of k o c ≡ in_qlock q → (k ≡ 3) × (o ≡ q)
unfolding resume_of
lock-resume zero o c q l e = absurd (let z : ◌≡◌ {A = ℕ} 0 1 = cc in omega arith)
lock-resume (suc zero) o c q l e = absurd (let z : ◌≡◌ {A = ℕ} 0 1 = cc in omega arith)
lock-resume (suc (suc zero)) o c q l e = absurd (let z : ◌≡◌ {A = ℕ} 0 1 = cc in omega arith)
lock-resume (suc (suc (suc zero))) o c q l e = (refl, cc)
lock-resume (suc (suc (suc (suc zero)))) o c q l e = absurd (let z : ◌≡◌ {A = ℕ} 0 1 = cc in omega arith)
lock-resume (suc (suc (suc (suc (suc k))))) o c q l e = absurd (omega arith)

pub resume-wait : (k o c : ℕ) → k ≡ 4 → resume_of k o c ≡ in_wait
unfolding resume_of
resume-wait k o c e = subst (λ (x : ℕ). resume_of x o c ≡ in_wait) (sym e) refl

pub resume-tsleep : (k o c : ℕ) → k ≡ 2 → IsTsleep (resume_of k o c)
unfolding resume_of
resume-tsleep k o c e = subst (λ (x : ℕ). IsTsleep (resume_of x o c)) (sym e) tt

pub tsleep-resume : (k o c : ℕ) → k ≤ 4 → IsTsleep (resume_of k o c) → k ≡ 2
unfolding resume_of
tsleep-resume zero o c l h = absurd h
tsleep-resume (suc zero) o c l h = absurd h
tsleep-resume (suc (suc zero)) o c l h = refl
tsleep-resume (suc (suc (suc zero))) o c l h = absurd h
tsleep-resume (suc (suc (suc (suc zero)))) o c l h = absurd h
tsleep-resume (suc (suc (suc (suc (suc k))))) o c l h = absurd (omega arith)

pub resume-range : (z : Sizes) (k o c : ℕ) → k ≤ 4 → c < 256 → (Sleeps k → o < z.rendez) → (k ≡ 3 → o < z.locks) → ResumeInRange z (resume_of k o c)
unfolding resume_of
resume-range z zero o c l h a b = tt
resume-range z (suc zero) o c l h a b = (a (inl refl), h)
resume-range z (suc (suc zero)) o c l h a b = (a (inr refl), h)
resume-range z (suc (suc (suc zero))) o c l h a b = b refl
resume-range z (suc (suc (suc (suc zero)))) o c l h a b = tt
resume-range z (suc (suc (suc (suc (suc k))))) o c l h a b = absurd (omega arith)

pub range-rendez : (z : Sizes) (k o c : ℕ) → ResumeInRange z (resume_of k o c) → Sleeps k → o < z.rendez
unfolding resume_of
range-rendez z k o c h (inl e) = (subst (λ (x : ℕ). ResumeInRange z (resume_of x o c)) e h).0
range-rendez z k o c h (inr e) = (subst (λ (x : ℕ). ResumeInRange z (resume_of x o c)) e h).0

pub range-lock : (z : Sizes) (k o c : ℕ) → ResumeInRange z (resume_of k o c) → k ≡ 3 → o < z.locks
unfolding resume_of
range-lock z k o c h e = subst (λ (x : ℕ). ResumeInRange z (resume_of x o c)) e h

-- The tests of the five places, of a state and a kind of call.
abbrev pub in_sleeps : ℕ → ℕ → Bool
in_sleeps s k = eqb s 3 && (eqb k 1 || eqb k 2)

abbrev pub five : ℕ → ℕ → ℕ
five s k = bit (eqb s 1) + (bit (eqb s 2) + (bit (in_sleeps s k) + (bit (eqb s 3 && eqb k 4) + bit (eqb s 3 && eqb k 3))))

-- At most one passes, and exactly one of a state that is not 0, unless it is 3 with no call.
three : (k : ℕ) → k ≤ 4 → (five 3 k ≤ 1) × (five 3 k ≡ bit (is_set k))
three zero l = (omega arith, refl)
three (suc zero) l = (omega arith, refl)
three (suc (suc zero)) l = (omega arith, refl)
three (suc (suc (suc zero))) l = (omega arith, refl)
three (suc (suc (suc (suc zero)))) l = (omega arith, refl)
three (suc (suc (suc (suc (suc k))))) l = absurd (omega arith)

pub five-most : (s k : ℕ) → s ≤ 3 → k ≤ 4 → five s k ≤ bit (is_set s)
five-most zero k h l = omega arith
five-most (suc zero) k h l = omega arith
five-most (suc (suc zero)) k h l = omega arith
five-most (suc (suc (suc zero))) k h l = (three k l).0
five-most (suc (suc (suc (suc s)))) k h l = absurd (omega arith)

set_bit : (k : ℕ) → (k ≡ 0 → ⊥) → k ≤ 4 → bit (is_set k) ≡ 1
set_bit zero h l = absurd (h refl)
set_bit (suc zero) h l = refl
set_bit (suc (suc zero)) h l = refl
set_bit (suc (suc (suc zero))) h l = refl
set_bit (suc (suc (suc (suc zero)))) h l = refl
set_bit (suc (suc (suc (suc (suc k))))) h l = absurd (omega arith)

pub five-all : (s k : ℕ) → s ≤ 3 → k ≤ 4 → (s ≡ 3 → k ≡ 0 → ⊥) → five s k ≡ bit (is_set s)
five-all zero k h l n = refl
five-all (suc zero) k h l n = refl
five-all (suc (suc zero)) k h l n = refl
five-all (suc (suc (suc zero))) k h l n = omega (arith, (three k l).1, set_bit k (n refl) l)
five-all (suc (suc (suc (suc s)))) k h l n = absurd (omega arith)

pub five-kind : (s k : ℕ) → s ≤ 3 → five s k ≡ bit (is_set s) → s ≡ 3 → k ≡ 0 → ⊥
five-kind s k h e a b = omega (arith, subst (λ (y : ℕ). five 3 y ≡ 1) b (subst (λ (x : ℕ). five x k ≡ bit (is_set x)) a e))

-- Who is asleep is in the last three.
pub asleep-three : (s k : ℕ) → s ≤ 3 → five s k ≡ bit (is_set s) → bit (in_sleeps s k) + (bit (eqb s 3 && eqb k 4) + bit (eqb s 3 && eqb k 3)) ≡ bit (eqb s 3)
asleep-three zero k h e = refl
asleep-three (suc zero) k h e = refl
asleep-three (suc (suc zero)) k h e = refl
asleep-three (suc (suc (suc zero))) k h e = omega arith
asleep-three (suc (suc (suc (suc s)))) k h e = absurd (omega arith)

-- The tests from what they say, and back.
pub sleeps_test : (s k : ℕ) → s ≡ 3 → Sleeps k → in_sleeps s k ≡ true
sleeps_test s k e (inl d) = rw (e, d)
sleeps_test s k e (inr d) = rw (e, d)

pub or_true : (a b : Bool) → (a || b) ≡ true → (a ≡ true) ⊎ (b ≡ true)
or_true true b e = inl refl
or_true false b e = inr e

pub test_sleeps : (s k : ℕ) → in_sleeps s k ≡ true → (s ≡ 3) × Sleeps k
test_sleeps s k e =
    let p : (eqb s 3 ≡ true) × ((eqb k 1 || eqb k 2) ≡ true) = and_parts (eqb s 3) (eqb k 1 || eqb k 2) e in
    (eqb-true s 3 p.0, ⊎_elim (λ d. inl (eqb-true k 1 d)) (λ d. inr (eqb-true k 2 d)) (or_true (eqb k 1) (eqb k 2) p.1))

pub test_both : (s k v : ℕ) → (eqb s 3 && eqb k v) ≡ true → (s ≡ 3) × (k ≡ v)
test_both s k v e =
    let p : (eqb s 3 ≡ true) × (eqb k v ≡ true) = and_parts (eqb s 3) (eqb k v) e in
    (eqb-true s 3 p.0, eqb-true k v p.1)

pub both_test : (s k v : ℕ) → s ≡ 3 → k ≡ v → (eqb s 3 && eqb k v) ≡ true
both_test s k v e d = rw (eq-eqb s 3 e, eq-eqb k v d)
