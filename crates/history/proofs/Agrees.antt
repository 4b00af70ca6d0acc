-- What is read agrees with what the machine holds: the relation, and that it outlasts any waking.
use Rattle.std.specs.Prelude.{◌≡◌, refl, Bool, true, false, List, [], ◌∷◌, ◌++◌, ◌⊎◌, ℕ, ◌≤◌, ◌<◌, eqb}
use Rattle.std.proofs.Common.{sym, ap, ◌∙◌, subst, inl, inr, arith, eqb-true}
use Rattle.std.proofs.Math.Option.{Option, none, some}
use Rattle.std.proofs.lemmas.Bool.{eqb-false}
use Rattle.machine.specs.Basics.{count}
use Rattle.machine.specs.Machine.{Resume, nothing, in_sleep, in_tsleep, in_qlock, in_wait}
use Rattle.history.specs.History.{Place, absent, running, in_run_queue, on_rendez, on_own_waitr, in_lock_queue, Reading, enters, readies, at}
use Rattle.history.proofs.Lists.{at_other, at_cases, count-here, count-other}
use Rattle.history.proofs.View.{View, from_rendez_v, from_lock_v, from_waitr_v}
use Rattle.lists.specs.Lists.{count-append}

-- a view holds record i in a place
abbrev pub Held : View → ℕ → Place → Type 0
Held v i absent = ⊥
Held v i running = v.up ≡ some i
Held v i in_run_queue = 1 ≤ count i v.run
Held v i (on_rendez r) = v.sleeper r ≡ some i
Held v i on_own_waitr = v.on_waitr i ≡ true
Held v i (in_lock_queue q) = 1 ≤ count i (v.waiters q)

-- where a call that has not returned would sleep again
abbrev pub OldFits : Resume → Place → Type 0
OldFits nothing p = Unit {0}
OldFits (in_sleep r c) p = p ≡ on_rendez r
OldFits (in_tsleep r c) p = p ≡ on_rendez r
OldFits (in_qlock q) p = Unit {0}
OldFits in_wait p = p ≡ on_own_waitr

abbrev pub HeldAll : View → (ℕ → Place) → Type 0
HeldAll v place = (i : ℕ) → 0 < v.pid i → Held v i (place (v.pid i))

abbrev pub LivesAll : (ℕ → ℕ) → (ℕ → Place) → Type 0
LivesAll pid place = (n : ℕ) → (place n ≡ absent) ⊎ ((i : ℕ) × (pid i ≡ n) × (0 < n))

abbrev pub up_pid : (ℕ → ℕ) → Option ℕ → ℕ
up_pid pid none = 0
up_pid pid (some i) = pid i

pub record Agrees (r : Reading) (v : View) : Type 0 where
  pub held : HeldAll v r.place
  pub lives : LivesAll v.pid r.place
  pub up : r.up ≡ up_pid v.pid v.up
  pub old : (i : ℕ) → 0 < v.pid i → OldFits (v.resume i) (r.old (v.pid i))

-- living pids differ; nobody else in any place
abbrev pub Apart : View → Type 0
Apart v = (i j : ℕ) → 0 < v.pid i → v.pid i ≡ v.pid j → i ≡ j

abbrev pub Lively : View → Type 0
Lively v = (i : ℕ) (p : Place) → Held v i p → 0 < v.pid i

-- record i moves to a place, and nobody else moves
module _ (v w : View) (apart : Apart v) (i : ℕ) (l : 0 < v.pid i) (same : w.pid ≡ v.pid) where
  pub held_move : (p : Place) → Held w i p → ((j : ℕ) (q : Place) → (j ≡ i → ⊥) → Held v j q → Held w j q)
      → (place : ℕ → Place) → HeldAll v place → HeldAll w (at (v.pid i) p place)
  held_move p here others place h j lj =
      let e : w.pid j ≡ v.pid j = ap (λ (f : ℕ → ℕ). f j) same in
      let lj' : 0 < v.pid j = subst (λ (k : ℕ). 0 < k) e lj in
      subst (λ (k : ℕ). Held w j (at (v.pid i) p place k)) (sym e)
      (at_cases (Held w j) (v.pid i) p place (v.pid j)
      (λ d. subst (λ (k : ℕ). Held w k p) (apart i j l d) here)
      (λ d. others j (place (v.pid j)) (λ (x : j ≡ i). d (ap v.pid (sym x))) (h j lj')))

  pub lives_move : (p : Place) (place : ℕ → Place) → LivesAll v.pid place → LivesAll w.pid (at (v.pid i) p place)
  lives_move p place h n =
      at_cases (λ (q : Place). (q ≡ absent) ⊎ ((k : ℕ) × (w.pid k ≡ n) × (0 < n))) (v.pid i) p place n
      (λ d. inr (i, ap (λ (f : ℕ → ℕ). f i) same ∙ d, subst (λ (k : ℕ). 0 < k) d l))
      (λ d. subst (λ (f : ℕ → ℕ). (place n ≡ absent) ⊎ ((k : ℕ) × (f k ≡ n) × (0 < n))) (sym same) (h n))

-- whoever is held somewhere enters the run queue
pub enters-held : (v : View) (i : ℕ) (p : Place) → Held v i p → enters p ≡ in_run_queue
enters-held v i absent h = absurd h
enters-held v i running h = refl
enters-held v i in_run_queue h = refl
enters-held v i (on_rendez r) h = refl
enters-held v i on_own_waitr h = refl
enters-held v i (in_lock_queue q) h = refl

-- in the run queue with one more
pub last_in : (i : ℕ) (l : List ℕ) → 1 ≤ count i (l ++ i ∷ [])
last_in i l = omega (arith, count-append i l (i ∷ []), count-here i [])

pub still_in : (j i : ℕ) (l : List ℕ) → 1 ≤ count j l → 1 ≤ count j (l ++ i ∷ [])
still_in j i l h = omega (arith, count-append j l (i ∷ []))

-- in the list with one more: in the list, or that one
pub in_snoc : (j i : ℕ) (l : List ℕ) → 1 ≤ count j (l ++ i ∷ []) → (1 ≤ count j l) ⊎ (j ≡ i)
unfolding count
in_snoc j i l h = go (eqb j i) refl
  where
    go : (b : Bool) → eqb j i ≡ b → (1 ≤ count j l) ⊎ (j ≡ i)
    go true e = inr (eqb-true j i e)
    go false e = inl (let z : count j (i ∷ []) ≡ count j [] = count-other j i [] (eqb-false j i e) in omega (arith, count-append j l (i ∷ [])))

pub in_tail : (j i : ℕ) (l : List ℕ) → (j ≡ i → ⊥) → 1 ≤ count j (i ∷ l) → 1 ≤ count j l
in_tail j i l n h = omega (arith, count-other j i l n)

-- what is readied, read
abbrev pub readied : List ℕ → Reading → Reading
readied rs r = record { up = r.up; place = readies rs r.place; old = r.old }

pub readies-append : (rs ss : List ℕ) (place : ℕ → Place) → readies (rs ++ ss) place ≡ readies ss (readies rs place)
unfolding readies
readies-append [] ss place = refl
readies-append (n ∷ rs) ss place = readies-append rs ss (at n (enters (place n)) place)

-- One woken, read and done.
pub woken-agrees : (v w : View) → Apart v → (i : ℕ) → 0 < v.pid i → w.pid ≡ v.pid
    → Held w i in_run_queue
    → ((j : ℕ) (q : Place) → (j ≡ i → ⊥) → Held v j q → Held w j q)
    → (place : ℕ → Place) → HeldAll v place → LivesAll v.pid place
    → HeldAll w (readies (v.pid i ∷ []) place) × LivesAll w.pid (readies (v.pid i ∷ []) place)
unfolding readies
woken-agrees v w apart i l same here others place h k =
    let e : enters (place (v.pid i)) ≡ in_run_queue = enters-held v i (place (v.pid i)) (h i l) in (
      subst (λ (p : Place). HeldAll w (at (v.pid i) p place)) (sym e) (held_move v w apart i l same in_run_queue here others place h),
      lives_move v w apart i l same (enters (place (v.pid i))) place k,
    )

-- nobody but i moves
pub rendez-others : (v : View) (r i : ℕ) → v.sleeper r ≡ some i → (j : ℕ) (q : Place) → (j ≡ i → ⊥) → Held v j q → Held (from_rendez_v r i v) j q
rendez-others v r i e j absent n h = h
rendez-others v r i e j running n h = h
rendez-others v r i e j in_run_queue n h = still_in j i v.run h
rendez-others v r i e j (on_rendez s) n h =
    at_other r none v.sleeper s (λ (d : r ≡ s). n (let z : v.sleeper r ≡ some j = ap v.sleeper d ∙ h in cc)) ∙ h
rendez-others v r i e j on_own_waitr n h = h
rendez-others v r i e j (in_lock_queue q) n h = h

pub lock-others : (v : View) (q i : ℕ) (rest : List ℕ) → v.waiters q ≡ i ∷ rest → (j : ℕ) (p : Place) → (j ≡ i → ⊥) → Held v j p → Held (from_lock_v q i rest v) j p
lock-others v q i rest e j absent n h = h
lock-others v q i rest e j running n h = h
lock-others v q i rest e j in_run_queue n h = still_in j i v.run h
lock-others v q i rest e j (on_rendez r) n h = h
lock-others v q i rest e j on_own_waitr n h = h
lock-others v q i rest e j (in_lock_queue s) n h =
    at_cases (λ (l : List ℕ). 1 ≤ count j l) q rest v.waiters s
    (λ d. in_tail j i rest n (subst (λ (l : List ℕ). 1 ≤ count j l) (ap v.waiters (sym d) ∙ e) h))
    (λ d. h)

pub waitr-others : (v : View) (i : ℕ) (j : ℕ) (p : Place) → (j ≡ i → ⊥) → Held v j p → Held (from_waitr_v i v) j p
waitr-others v i j absent n h = h
waitr-others v i j running n h = h
waitr-others v i j in_run_queue n h = still_in j i v.run h
waitr-others v i j (on_rendez r) n h = h
waitr-others v i j on_own_waitr n h = at_other i false v.on_waitr j (λ (d : i ≡ j). n (sym d)) ∙ h
waitr-others v i j (in_lock_queue q) n h = h
