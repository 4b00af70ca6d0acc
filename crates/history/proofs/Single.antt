-- A well-formed machine holds each process in one place: whoever is held in two is held in one and the same.
use Rattle.std.specs.Prelude.{if◌then◌else◌, ◌≡◌, refl, Bool, true, false, List, [], ◌∷◌, ◌++◌, ℕ, zero, suc, ◌+◌, ◌*◌, ◌≤◌, get_or}
use Rattle.std.proofs.Common.{sym, ap, ◌∙◌, subst, zero-add, arith}
use Rattle.std.proofs.Math.Option.{Option, none, some}
use Rattle.machine.specs.Basics.{count, present, numbers_from, concat_map}
use Rattle.machine.specs.Machine.{Machine, Process, Lock, free, process, sleeper, lock, asleep_on, open_machine}
use Rattle.machine.specs.Good.{InOnePlace, running_in}
use Rattle.history.specs.History.{Place, absent, running, in_run_queue, on_rendez, on_own_waitr, in_lock_queue}
use Rattle.history.specs.Demand3.{HeldIn, is_asleep}
use Rattle.history.proofs.Lists.{count-here}
use Rattle.history.proofs.Facts.{in_places, places-at_most, up-count}
use Rattle.lists.specs.Lists.{count-append}

-- sleepers
present-hit : (i : ℕ) (o : Option ℕ) (l : List (Option ℕ)) → o ≡ some i → count i (present (o ∷ l)) ≡ suc (count i (present l))
unfolding present
present-hit i o l e = subst (λ (x : Option ℕ). count i (present (x ∷ l)) ≡ suc (count i (present l))) (sym e) (count-here i (present l))

present-more : (i : ℕ) (o : Option ℕ) (l : List (Option ℕ)) → count i (present l) ≤ count i (present (o ∷ l))
unfolding present count
present-more i none l = omega arith
present-more i (some a) l = omega arith

present-count : (i : ℕ) (l : List (Option ℕ)) (r : ℕ) → get_or l r none ≡ some i → 1 ≤ count i (present l)
present-count i [] r e = absurd (let z : ◌≡◌ {A = ℕ} 0 1 = cc in omega arith)
present-count i (o ∷ l) zero e = omega (arith, present-hit i o l e)
present-count i (o ∷ l) (suc r) e = omega (arith, present-count i l r e, present-more i o l)

present-one : (i : ℕ) (l : List (Option ℕ)) (r s : ℕ) → count i (present l) ≤ 1 → get_or l r none ≡ some i → get_or l s none ≡ some i → r ≡ s
present-one i [] r s h d e = absurd (let z : ◌≡◌ {A = ℕ} 0 1 = cc in omega arith)
present-one i (o ∷ l) zero zero h d e = refl
present-one i (o ∷ l) zero (suc s) h d e = absurd (omega (arith, present-hit i o l d, present-count i l s e))
present-one i (o ∷ l) (suc r) zero h d e = absurd (omega (arith, present-hit i o l e, present-count i l r d))
present-one i (o ∷ l) (suc r) (suc s) h d e = ap suc (present-one i l r s (omega (arith, present-more i o l)) d e)

-- who sleeps on the own waitr
numbers_more : {A : Type 0} (k n : ℕ) (test : A → Bool) (x : A) (xs : List A) → count k (numbers_from (suc n) test xs) ≤ count k (numbers_from n test (x ∷ xs))
unfolding numbers_from count
numbers_more k n test x xs = go (test x)
  where
    go : (b : Bool) → count k (numbers_from (suc n) test xs) ≤ count k (if b then n ∷ numbers_from (suc n) test xs else numbers_from (suc n) test xs)
    go true = omega arith
    go false = omega arith

numbers-count : {A : Type 0} (n : ℕ) (test : A → Bool) (l : List A) (i : ℕ) (d : A) → test d ≡ false → test (get_or l i d) ≡ true → 1 ≤ count (n + i) (numbers_from n test l)
unfolding numbers_from
numbers-count n test [] i d f t = absurd (let z : ◌≡◌ {A = ℕ} 0 1 = cc in omega arith)
numbers-count n test (x ∷ xs) zero d f t =
    let e : n ≡ n + 0 = omega arith in
    rw t (subst (λ (k : ℕ). 1 ≤ count k (n ∷ numbers_from (suc n) test xs)) e (omega (arith, count-here n (numbers_from (suc n) test xs))))
numbers-count n test (x ∷ xs) (suc i) d f t =
    let e : suc n + i ≡ n + suc i = omega arith in
    let h : 1 ≤ count (n + suc i) (numbers_from (suc n) test xs) = subst (λ (k : ℕ). 1 ≤ count k (numbers_from (suc n) test xs)) e (numbers-count (suc n) test xs i d f t) in
    omega (arith, numbers_more (n + suc i) n test x xs)

-- who waits for a lock
lock_count_lem : (i : ℕ) (l : List Lock) (q : ℕ) (d : Lock) → count i d.waiters ≡ 0 → count i (get_or l q d).waiters ≤ count i (concat_map (λ (x : Lock). x.waiters) l)
unfolding concat_map
lock_count_lem i [] q d z = omega arith
lock_count_lem i (x ∷ xs) zero d z = omega (arith, count-append i x.waiters (concat_map (λ (y : Lock). y.waiters) xs))
lock_count_lem i (x ∷ xs) (suc q) d z = omega (arith, lock_count_lem i xs q d z, count-append i x.waiters (concat_map (λ (y : Lock). y.waiters) xs))

lock-one : (i : ℕ) (l : List Lock) (q s : ℕ) (d : Lock) → count i d.waiters ≡ 0 → count i (concat_map (λ (x : Lock). x.waiters) l) ≤ 1
    → 1 ≤ count i (get_or l q d).waiters → 1 ≤ count i (get_or l s d).waiters → q ≡ s
unfolding concat_map
lock-one i [] q s d z h a b = absurd (omega arith)
lock-one i (x ∷ xs) zero zero d z h a b = refl
lock-one i (x ∷ xs) zero (suc s) d z h a b = absurd (omega (arith, lock_count_lem i xs s d z, count-append i x.waiters (concat_map (λ (y : Lock). y.waiters) xs)))
lock-one i (x ∷ xs) (suc q) zero d z h a b = absurd (omega (arith, lock_count_lem i xs q d z, count-append i x.waiters (concat_map (λ (y : Lock). y.waiters) xs)))
lock-one i (x ∷ xs) (suc q) (suc s) d z h a b = ap suc (lock-one i xs q s d z (omega (arith, count-append i x.waiters (concat_map (λ (y : Lock). y.waiters) xs))) a b)

-- The parts of asleep.
unfoldable pub on_rendezs : Machine → ℕ → ℕ
on_rendezs m i = count i (present m.sleepers)

unfoldable pub on_waitrs : Machine → ℕ → ℕ
on_waitrs m i = count i (numbers_from 0 (λ (p : Process). p.on_waitr) m.processes)

unfoldable pub in_locks : Machine → ℕ → ℕ
in_locks m i = count i (concat_map (λ (l : Lock). l.waiters) m.locks)

pub asleep_parts : (m : Machine) (i : ℕ) → count i (asleep_on m) ≡ on_rendezs m i + on_waitrs m i + in_locks m i
unfolding asleep_on on_rendezs on_waitrs in_locks
asleep_parts m i =
    count-append i (present m.sleepers ++ numbers_from 0 (λ (p : Process). p.on_waitr) m.processes) (concat_map (λ (l : Lock). l.waiters) m.locks)
    ∙ ap (λ (k : ℕ). k + in_locks m i) (count-append i (present m.sleepers) (numbers_from 0 (λ (p : Process). p.on_waitr) m.processes))

rendez_part : (m : Machine) (i r : ℕ) → sleeper m r ≡ some i → 1 ≤ on_rendezs m i
unfolding sleeper on_rendezs
rendez_part m i r e = present-count i m.sleepers r e

waitr_part : (m : Machine) (i : ℕ) → (process m i).on_waitr ≡ true → 1 ≤ on_waitrs m i
unfolding process on_waitrs open_machine
waitr_part m i e =
    subst (λ (k : ℕ). 1 ≤ count k (numbers_from 0 (λ (p : Process). p.on_waitr) m.processes)) (zero-add i)
    (numbers-count 0 (λ (p : Process). p.on_waitr) m.processes i free refl e)

lock_part : (m : Machine) (i q : ℕ) → 1 ≤ count i (lock m q).waiters → 1 ≤ in_locks m i
unfolding lock in_locks count
lock_part m i q h = omega (arith, lock_count_lem i m.locks q (record { held = false; waiters = [] }) refl)

-- whoever is held somewhere is in a place
pub held-places : (m : Machine) (i : ℕ) (p : Place) → HeldIn m i p → 1 ≤ in_places m i
held-places m i absent h = absurd h
held-places m i running h = omega (arith, up-count m i h)
held-places m i in_run_queue h = omega arith
held-places m i (on_rendez r) h = omega (arith, asleep_parts m i, rendez_part m i r h)
held-places m i on_own_waitr h = omega (arith, asleep_parts m i, waitr_part m i h)
held-places m i (in_lock_queue q) h = omega (arith, asleep_parts m i, lock_part m i q h)

-- asleep exactly where the place is one of the last two
pub held-asleep : (m : Machine) → InOnePlace m → (i : ℕ) (p : Place) → HeldIn m i p → count i (asleep_on m) ≡ (if is_asleep p then 1 else 0)
held-asleep m g i absent h = absurd h
held-asleep m g i running h = omega (arith, up-count m i h, places-at_most m i g)
held-asleep m g i in_run_queue h = omega (arith, places-at_most m i g)
held-asleep m g i (on_rendez r) h = omega (arith, asleep_parts m i, rendez_part m i r h, places-at_most m i g)
held-asleep m g i on_own_waitr h = omega (arith, asleep_parts m i, waitr_part m i h, places-at_most m i g)
held-asleep m g i (in_lock_queue q) h = omega (arith, asleep_parts m i, lock_part m i q h, places-at_most m i g)

-- The five places numbered, and the number of the one that a record is in: two places with different numbers are never both.
abbrev spot : Place → ℕ
spot absent = 0
spot running = 1
spot in_run_queue = 2
spot (on_rendez r) = 3
spot on_own_waitr = 4
spot (in_lock_queue q) = 5

spot_of : Machine → ℕ → ℕ
spot_of m i = count i (running_in m.up) + 2 * count i m.run + 3 * on_rendezs m i + 4 * on_waitrs m i + 5 * in_locks m i

held-spot : (m : Machine) → InOnePlace m → (i : ℕ) (p : Place) → HeldIn m i p → spot_of m i ≡ spot p
unfolding spot_of
held-spot m g i absent h = absurd h
held-spot m g i running h = omega (arith, up-count m i h, asleep_parts m i, places-at_most m i g)
held-spot m g i in_run_queue h = omega (arith, asleep_parts m i, places-at_most m i g)
held-spot m g i (on_rendez r) h = omega (arith, asleep_parts m i, rendez_part m i r h, places-at_most m i g)
held-spot m g i on_own_waitr h = omega (arith, asleep_parts m i, waitr_part m i h, places-at_most m i g)
held-spot m g i (in_lock_queue q) h = omega (arith, asleep_parts m i, lock_part m i q h, places-at_most m i g)

rendez-same : (m : Machine) → InOnePlace m → (i r s : ℕ) → sleeper m r ≡ some i → sleeper m s ≡ some i → r ≡ s
unfolding sleeper on_rendezs
rendez-same m g i r s h k = present-one i m.sleepers r s (omega (arith, asleep_parts m i, places-at_most m i g)) h k

lock-same : (m : Machine) → InOnePlace m → (i q s : ℕ) → 1 ≤ count i (lock m q).waiters → 1 ≤ count i (lock m s).waiters → q ≡ s
unfolding lock in_locks count
lock-same m g i q s h k = lock-one i m.locks q s (record { held = false; waiters = [] }) refl (omega (arith, asleep_parts m i, places-at_most m i g)) h k

same_place : (m : Machine) → InOnePlace m → (i : ℕ) (p q : Place) → spot p ≡ spot q → HeldIn m i p → HeldIn m i q → p ≡ q
same_place m g i absent q e h k = absurd h
same_place m g i running absent e h k = absurd k
same_place m g i running running e h k = refl
same_place m g i running in_run_queue e h k = absurd (omega arith)
same_place m g i running (on_rendez s) e h k = absurd (omega arith)
same_place m g i running on_own_waitr e h k = absurd (omega arith)
same_place m g i running (in_lock_queue b) e h k = absurd (omega arith)
same_place m g i in_run_queue absent e h k = absurd k
same_place m g i in_run_queue running e h k = absurd (omega arith)
same_place m g i in_run_queue in_run_queue e h k = refl
same_place m g i in_run_queue (on_rendez s) e h k = absurd (omega arith)
same_place m g i in_run_queue on_own_waitr e h k = absurd (omega arith)
same_place m g i in_run_queue (in_lock_queue b) e h k = absurd (omega arith)
same_place m g i (on_rendez r) absent e h k = absurd k
same_place m g i (on_rendez r) running e h k = absurd (omega arith)
same_place m g i (on_rendez r) in_run_queue e h k = absurd (omega arith)
same_place m g i (on_rendez r) (on_rendez s) e h k = ap on_rendez (rendez-same m g i r s h k)
same_place m g i (on_rendez r) on_own_waitr e h k = absurd (omega arith)
same_place m g i (on_rendez r) (in_lock_queue b) e h k = absurd (omega arith)
same_place m g i on_own_waitr absent e h k = absurd k
same_place m g i on_own_waitr running e h k = absurd (omega arith)
same_place m g i on_own_waitr in_run_queue e h k = absurd (omega arith)
same_place m g i on_own_waitr (on_rendez s) e h k = absurd (omega arith)
same_place m g i on_own_waitr on_own_waitr e h k = refl
same_place m g i on_own_waitr (in_lock_queue b) e h k = absurd (omega arith)
same_place m g i (in_lock_queue a) absent e h k = absurd k
same_place m g i (in_lock_queue a) running e h k = absurd (omega arith)
same_place m g i (in_lock_queue a) in_run_queue e h k = absurd (omega arith)
same_place m g i (in_lock_queue a) (on_rendez s) e h k = absurd (omega arith)
same_place m g i (in_lock_queue a) on_own_waitr e h k = absurd (omega arith)
same_place m g i (in_lock_queue a) (in_lock_queue b) e h k = ap in_lock_queue (lock-same m g i a b h k)

-- In no other place.
pub single : (m : Machine) → InOnePlace m → (i : ℕ) (p q : Place) → HeldIn m i p → HeldIn m i q → p ≡ q
single m g i p q h k = same_place m g i p q (sym (held-spot m g i p h) ∙ held-spot m g i q k) h k
