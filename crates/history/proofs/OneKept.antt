-- Each living process in one place, and nobody else in any: kept by every change.
use Rattle.std.specs.Prelude.{◌≡◌, refl, Bool, true, false, not, List, [], ◌∷◌, ◌++◌, ◌⊎◌, ℕ, ◌+◌, ◌≤◌, ◌<◌, eqb}
use Rattle.std.proofs.Common.{sym, ap, ◌∙◌, subst, inl, inr, arith, eq-eqb, ne_eqb}
use Rattle.std.proofs.Math.Option.{Option, none, some}
use Rattle.machine.specs.Basics.{count}
use Rattle.machine.specs.Good.{running_in}
use Rattle.history.specs.History.{Says, at}
use Rattle.history.proofs.Lists.{at_cases, at-kept, count-here, count-other}
use Rattle.history.proofs.View.{View, gone_v, Wakes, nobody, ticking, from_rendez, from_lock, from_waitr, ◌next◌, Change, wakes, makes, dispatches, dozes, waits_on, gives_way, goes_asleep, waits, queues, leaves, spends}
use Rattle.history.proofs.Sums.{hit, bit, asleep_in, in_view, OnePlace, sleepers-at, waiters-at}
use Rattle.lists.specs.Lists.{bit-small, count-append}

-- one for j and nothing for anybody else
abbrev one : ℕ → ℕ → ℕ
one j i = count j (i ∷ [])

one-here : (i j : ℕ) → i ≡ j → one j i ≡ 1
unfolding count
one-here i j e = subst (λ (k : ℕ). one k i ≡ 1) e (count-here i [])

one-not : (i j : ℕ) → (i ≡ j → ⊥) → one j i ≡ 0
unfolding count
one-not i j d = count-other j i [] (λ (e : j ≡ i). d (sym e))

-- a bit set, and a bit cleared
bit-on : (f : ℕ → Bool) (i j : ℕ) → f i ≡ false → bit (at i true f j) ≡ bit (f j) + one j i
bit-on f i j z =
    at_cases (λ (b : Bool). bit b ≡ bit (f j) + one j i) i true f j
    (λ d. let e : bit (f j) ≡ 0 = ap bit (ap f (sym d) ∙ z) in omega (arith, one-here i j d))
    (λ d. omega (arith, one-not i j d))

bit-off : (f : ℕ → Bool) (i j : ℕ) → f i ≡ true → bit (at i false f j) + one j i ≡ bit (f j)
bit-off f i j z =
    at_cases (λ (b : Bool). bit b + one j i ≡ bit (f j)) i false f j
    (λ d. let e : bit (f j) ≡ 1 = ap bit (ap f (sym d) ∙ z) in omega (arith, one-here i j d))
    (λ d. omega (arith, one-not i j d))

abbrev alive : ℕ → ℕ
alive pid = bit (not (eqb pid 0))

alive-one : (n : ℕ) → 0 < n → alive n ≡ 1
alive-one n l = rw (ne_eqb n 0 (λ (e : n ≡ 0). omega arith))

alive-not : (n : ℕ) → n ≡ 0 → alive n ≡ 0
alive-not n e = rw (eq-eqb n 0 e)

alive-on : (pid : ℕ → ℕ) (i n j : ℕ) → pid i ≡ 0 → 0 < n → alive (at i n pid j) ≡ alive (pid j) + one j i
alive-on pid i n j z l =
    at_cases (λ (k : ℕ). alive k ≡ alive (pid j) + one j i) i n pid j
    (λ d. let e : alive (pid j) ≡ 0 = alive-not (pid j) (ap pid (sym d) ∙ z) in omega (arith, one-here i j d, alive-one n l))
    (λ d. omega (arith, one-not i j d))

alive-off : (pid : ℕ → ℕ) (i j : ℕ) → 0 < pid i → alive (at i 0 pid j) + one j i ≡ alive (pid j)
alive-off pid i j l =
    at_cases (λ (k : ℕ). alive k + one j i ≡ alive (pid j)) i 0 pid j
    (λ d. let e : alive (pid j) ≡ 1 = subst (λ (k : ℕ). alive (pid k) ≡ 1) d (alive-one (pid i) l) in omega (arith, one-here i j d, alive-not 0 refl))
    (λ d. omega (arith, one-not i j d))

-- whoever runs, is queued, or does not live is not on its waitr
off-waitr : (v : View) → OnePlace v → (i : ℕ) → (alive (v.pid i) ≡ 0) ⊎ (1 ≤ count i (running_in v.up) + count i v.run) → v.on_waitr i ≡ false
unfolding in_view asleep_in
off-waitr v h i c = go (v.on_waitr i) refl c
  where
    go : (b : Bool) → v.on_waitr i ≡ b → (alive (v.pid i) ≡ 0) ⊎ (1 ≤ count i (running_in v.up) + count i v.run) → b ≡ false
    go true e (inl z) = absurd (let d : bit (v.on_waitr i) ≡ 1 = ap bit e in omega (arith, h i))
    go true e (inr l) = absurd (let d : bit (v.on_waitr i) ≡ 1 = ap bit e in omega (arith, h i, bit-small (not (eqb (v.pid i) 0))))
    go false e c' = refl

up_one : (v : View) (i j : ℕ) → v.up ≡ some i → count j (running_in v.up) ≡ one j i
unfolding running_in
up_one v i j e = ap (λ (o : Option ℕ). count j (running_in o)) e

up_none : (v : View) (j : ℕ) → v.up ≡ none → count j (running_in v.up) ≡ 0
unfolding running_in count
up_none v j e = ap (λ (o : Option ℕ). count j (running_in o)) e

cons_one : (i j : ℕ) (l rest : List ℕ) → l ≡ i ∷ rest → count j l ≡ one j i + count j rest
cons_one i j l rest e = ap (count j) e ∙ count-append j (i ∷ []) rest

wakes-one : {v w : View} {rs : List ℕ} {f : ℕ} → Wakes v rs f w → OnePlace v → OnePlace w
unfolding in_view asleep_in hit
wakes-one nobody h j = h j
wakes-one ticking h j = h j
wakes-one {v} (from_rendez r i there e) h j =
    let a = sleepers-at v r none j there in
    let b : hit j (v.sleeper r) ≡ one j i = ap (hit j) e in
    omega (arith, h j, count-append j v.run (i ∷ []))
wakes-one {v} (from_lock q i rest there e) h j =
    let a = waiters-at v q rest j there in
    let b = cons_one i j (v.waiters q) rest e in
    omega (arith, h j, count-append j v.run (i ∷ []))
wakes-one {v} (from_waitr i e) h j =
    let a = bit-off v.on_waitr i j e in
    omega (arith, h j, count-append j v.run (i ∷ []))
wakes-one (a next b) h j = wakes-one b (λ k. wakes-one a h k) j

-- Who runs is gone.
gone_one : (v : View) → OnePlace v → (i : ℕ) → v.up ≡ some i → 0 < v.pid i → OnePlace (gone_v i v)
unfolding in_view asleep_in running_in count
gone_one v h i u l j =
    let a = up_one v i j u in
    let z : v.on_waitr i ≡ false = off-waitr v h i (inr (omega (arith, up_one v i i u, one-here i i refl))) in
    let b : bit (at i false v.on_waitr j) ≡ bit (v.on_waitr j) = ap bit (at-kept i false v.on_waitr j (sym z)) in
    omega (arith, h j, alive-off v.pid i j l)

-- Every change.
pub change_one : {v w : View} {says : Says} {rs ds : List ℕ} {f : ℕ} → Change v says rs ds f w → OnePlace v → OnePlace w
unfolding in_view asleep_in hit running_in count
change_one (wakes a) h j = wakes-one a h j
change_one {v} (makes i n same pos unused under out) h j =
    let z : v.on_waitr i ≡ false = off-waitr v h i (inl (alive-not (v.pid i) unused)) in
    let b : bit (at i false v.on_waitr j) ≡ bit (v.on_waitr j) = ap bit (at-kept i false v.on_waitr j (sym z)) in
    omega (arith, h j, alive-on v.pid i n j unused pos, count-append j v.run (i ∷ []))
change_one {v} (dispatches i rest u e l) h j = omega (arith, h j, up_none v j u, cons_one i j v.run rest e)
change_one {v} (dozes i rest r there u e l s t) h j =
    let a = sleepers-at v r (some i) j there in
    let b : hit j (v.sleeper r) ≡ 0 = ap (hit j) s in
    omega (arith, h j, up_none v j u, cons_one i j v.run rest e)
change_one {v} (waits_on i rest u e l t) h j =
    let z : v.on_waitr i ≡ false = off-waitr v h i (inr (omega (arith, cons_one i i v.run rest e, one-here i i refl))) in
    let b = bit-on v.on_waitr i j z in
    omega (arith, h j, up_none v j u, cons_one i j v.run rest e)
change_one {v} (gives_way i u l) h j = omega (arith, h j, up_one v i j u, count-append j v.run (i ∷ []))
change_one {v} (goes_asleep i r call there u l s t) h j =
    let a = sleepers-at v r (some i) j there in
    let b : hit j (v.sleeper r) ≡ 0 = ap (hit j) s in
    omega (arith, h j, up_one v i j u)
change_one {v} (waits i u l) h j =
    let z : v.on_waitr i ≡ false = off-waitr v h i (inr (omega (arith, up_one v i i u, one-here i i refl))) in
    let b = bit-on v.on_waitr i j z in
    omega (arith, h j, up_one v i j u)
change_one {v} (queues i q there u l) h j =
    let a = waiters-at v q (v.waiters q ++ i ∷ []) j there in
    omega (arith, h j, up_one v i j u, count-append j (v.waiters q) (i ∷ []))
change_one {v} (leaves i u l out a) h j = wakes-one a (λ k. gone_one v h i u l k) j
change_one spends h j = h j
