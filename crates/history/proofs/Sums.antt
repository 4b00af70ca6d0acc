-- The places counted by a view: sums over the Rendez and over the locks, and what a change at one of them adds.
use Rattle.std.specs.Prelude.{if◌then◌else◌, ◌≡◌, refl, Bool, false, not, List, [], ◌∷◌, ℕ, zero, suc, ◌+◌, ◌<◌, eqb, length, get_or}
use Rattle.std.proofs.Common.{sym, ap, ◌∙◌, suc-ne-zero, arith}
use Rattle.std.proofs.Math.Option.{Option, none, some}
use Rattle.std.proofs.Math.Nat.{suc_inj}
use Rattle.machine.specs.Basics.{count, present, concat_map}
use Rattle.machine.specs.Machine.{Machine, Process, Lock, free, open_machine}
use Rattle.machine.specs.Good.{InOnePlace, running_in, places}
use Rattle.history.specs.History.{at}
use Rattle.history.proofs.Lists.{at_same, at_other}
use Rattle.history.proofs.View.{View, view}
use Rattle.history.proofs.Facts.{in_places_lem}
use Rattle.history.proofs.Single.{on_rendezs, on_waitrs, in_locks, asleep_parts}
use Rattle.lists.specs.Lists.{count-append, count-numbers}

-- f 0 + f 1 + .. , n of them
unfoldable pub sum_to : ℕ → (ℕ → ℕ) → ℕ
sum_to zero f = 0
sum_to (suc n) f = f 0 + sum_to n (λ k. f (suc k))

sum_ext : (n : ℕ) (f g : ℕ → ℕ) → ((k : ℕ) → f k ≡ g k) → sum_to n f ≡ sum_to n g
sum_ext n f g h = λ t. sum_to n (λ k. h k t)

-- one summand changes
pub sum_change : (n r : ℕ) (f h : ℕ → ℕ) → r < n → ((k : ℕ) → (r ≡ k → ⊥) → h k ≡ f k) → sum_to n h + f r ≡ sum_to n f + h r
unfolding sum_to
sum_change zero r f h l same = absurd (omega arith)
sum_change (suc n) zero f h l same =
    let e : sum_to n (λ k. h (suc k)) ≡ sum_to n (λ k. f (suc k)) =
    sum_ext n (λ k. h (suc k)) (λ k. f (suc k)) (λ k. same (suc k) (λ (d : 0 ≡ suc k). suc-ne-zero k (sym d))) in
    omega arith
sum_change (suc n) (suc r) f h l same =
    let e = sum_change n r (λ k. f (suc k)) (λ k. h (suc k)) (omega arith) (λ k d. same (suc k) (λ (x : suc r ≡ suc k). d (suc_inj x))) in
    let z : h 0 ≡ f 0 = same 0 (suc-ne-zero r) in
    omega arith

-- whether the process asleep on a Rendez is i
unfoldable pub hit : ℕ → Option ℕ → ℕ
hit i none = 0
hit i (some j) = count i (j ∷ [])

abbrev pub bit : Bool → ℕ
bit b = if b then 1 else 0

present-sum : (i : ℕ) (l : List (Option ℕ)) → count i (present l) ≡ sum_to (length l) (λ r. hit i (get_or l r none))
unfolding present sum_to hit count
present-sum i [] = refl
present-sum i (none ∷ l) = omega (arith, present-sum i l)
present-sum i (some a ∷ l) = omega (arith, present-sum i l)

concat_sum : (i : ℕ) (l : List Lock) (d : Lock) → count i (concat_map (λ (x : Lock). x.waiters) l) ≡ sum_to (length l) (λ q. count i (get_or l q d).waiters)
unfolding concat_map sum_to count
concat_sum i [] d = refl
concat_sum i (x ∷ xs) d = count-append i x.waiters (concat_map (λ (y : Lock). y.waiters) xs) ∙ ap (λ (k : ℕ). count i x.waiters + k) (concat_sum i xs d)

-- How often record i stands in the places of a view.
unfoldable pub asleep_in : View → ℕ → ℕ
asleep_in v i = sum_to v.rendezs (λ r. hit i (v.sleeper r)) + bit (v.on_waitr i) + sum_to v.lock_count (λ q. count i (v.waiters q))

unfoldable pub in_view : View → ℕ → ℕ
in_view v i = count i (running_in v.up) + count i v.run + asleep_in v i

abbrev pub OnePlace : View → Type 0
OnePlace v = (i : ℕ) → in_view v i ≡ bit (not (eqb (v.pid i) 0))

same_count : (m : Machine) (i : ℕ) → count i (places m) ≡ in_view (view m) i
unfolding open_machine in_view asleep_in on_rendezs on_waitrs in_locks
same_count m i =
    let a : on_rendezs m i ≡ sum_to (length m.sleepers) (λ r. hit i (get_or m.sleepers r none)) = present-sum i m.sleepers in
    let b : on_waitrs m i ≡ bit (get_or m.processes i free).on_waitr =
    count-numbers (λ (p : Process). p.on_waitr) free refl m.processes i in
    let c : in_locks m i ≡ sum_to (length m.locks) (λ q. count i (get_or m.locks q (record { held = false; waiters = [] })).waiters) =
    concat_sum i m.locks (record { held = false; waiters = [] }) in
    omega (arith, in_places_lem m i, asleep_parts m i)

-- One place in the machine is one in its view.
pub to-view : (m : Machine) → InOnePlace m → OnePlace (view m)
unfolding open_machine
to-view m h i = sym (same_count m i) ∙ h i

pub from_view : (m : Machine) → OnePlace (view m) → InOnePlace m
unfolding open_machine
from_view m h i = same_count m i ∙ h i

-- A change on one Rendez, or at one lock.
pub sleepers-at : (v : View) (r : ℕ) (o : Option ℕ) (j : ℕ) → r < v.rendezs
    → sum_to v.rendezs (λ s. hit j (at r o v.sleeper s)) + hit j (v.sleeper r) ≡ sum_to v.rendezs (λ s. hit j (v.sleeper s)) + hit j o
sleepers-at v r o j l =
    sum_change v.rendezs r (λ s. hit j (v.sleeper s)) (λ s. hit j (at r o v.sleeper s)) l (λ k d. ap (hit j) (at_other r o v.sleeper k d))
    ∙ ap (λ (x : Option ℕ). sum_to v.rendezs (λ s. hit j (v.sleeper s)) + hit j x) (at_same r o v.sleeper)

pub waiters-at : (v : View) (q : ℕ) (l : List ℕ) (j : ℕ) → q < v.lock_count
    → sum_to v.lock_count (λ s. count j (at q l v.waiters s)) + count j (v.waiters q) ≡ sum_to v.lock_count (λ s. count j (v.waiters s)) + count j l
waiters-at v q l j h =
    sum_change v.lock_count q (λ s. count j (v.waiters s)) (λ s. count j (at q l v.waiters s)) h (λ k d. ap (count j) (at_other q l v.waiters k d))
    ∙ ap (λ (x : List ℕ). sum_to v.lock_count (λ s. count j (v.waiters s)) + count j x) (at_same q l v.waiters)
