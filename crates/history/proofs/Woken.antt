-- Any waking: whoever it readies was asleep, whoever is asleep afterwards was so before, and what is read still agrees.
use Rattle.std.specs.Prelude.{◌≡◌, refl, Bool, true, false, List, [], ◌∷◌, ◌++◌, ◌⊎◌, ℕ, ◌≤◌, ◌<◌, eqb}
use Rattle.std.proofs.Common.{sym, ap, ◌∙◌, subst, inl, inr, ⊎_elim, arith, eqb-true}
use Rattle.std.proofs.Math.Option.{Option, none, some}
use Rattle.std.proofs.lemmas.Bool.{eqb-false}
use Rattle.machine.specs.Basics.{count}
use Rattle.machine.specs.Good.{Each}
use Rattle.history.specs.History.{Place, absent, running, in_run_queue, on_rendez, on_own_waitr, in_lock_queue, Reading, readies}
use Rattle.history.specs.Demand3.{is_asleep}
use Rattle.history.proofs.Lists.{at_cases, count-here, count-other}
use Rattle.history.proofs.View.{View, tick_v, from_rendez_v, from_lock_v, from_waitr_v, Wakes, nobody, ticking, from_rendez, from_lock, from_waitr, ◌next◌}
use Rattle.history.proofs.Queue.{wakes-pid}
use Rattle.history.proofs.Agrees.{Held, HeldAll, Agrees, Apart, Lively, last_in, in_snoc, readied, readies-append, woken-agrees, rendez-others, lock-others, waitr-others}

-- a list's head and the rest stand in it
pub head_in : (i : ℕ) (l rest : List ℕ) → l ≡ i ∷ rest → 1 ≤ count i l
head_in i l rest e = subst (λ (x : List ℕ). 1 ≤ count i x) (sym e) (omega (arith, count-here i rest))

rest_in : (j i : ℕ) (l rest : List ℕ) → l ≡ i ∷ rest → 1 ≤ count j rest → 1 ≤ count j l
rest_in j i l rest e c = subst (λ (x : List ℕ). 1 ≤ count j x) (sym e) (go (eqb j i) refl)
  where
    go : (b : Bool) → eqb j i ≡ b → 1 ≤ count j (i ∷ rest)
    go true t = subst (λ (x : ℕ). 1 ≤ count j (x ∷ rest)) (eqb-true j i t) (omega (arith, count-here j rest))
    go false t = omega (arith, count-other j i rest (eqb-false j i t))

pub wakes-up : {v w : View} {rs : List ℕ} {f : ℕ} → Wakes v rs f w → w.up ≡ v.up
wakes-up nobody = refl
wakes-up ticking = refl
wakes-up (from_rendez r i there e) = refl
wakes-up (from_lock q i rest there e) = refl
wakes-up (from_waitr i e) = refl
wakes-up (a next b) = wakes-up b ∙ wakes-up a

-- nobody goes asleep
wakes-sleeper : {v w : View} {rs : List ℕ} {f : ℕ} → Wakes v rs f w → (i s : ℕ) → w.sleeper s ≡ some i → v.sleeper s ≡ some i
wakes-sleeper nobody i s h = h
wakes-sleeper ticking i s h = h
wakes-sleeper {v} (from_rendez r k there e) i s h =
    at_cases (λ (o : Option ℕ). o ≡ some i → v.sleeper s ≡ some i) r none v.sleeper s
    (λ t c. absurd (let z : ◌≡◌ {A = ℕ} 0 1 = cc in omega arith)) (λ t c. c) h
wakes-sleeper (from_lock q k rest there e) i s h = h
wakes-sleeper (from_waitr k e) i s h = h
wakes-sleeper (a next b) i s h = wakes-sleeper a i s (wakes-sleeper b i s h)

wakes-waitr : {v w : View} {rs : List ℕ} {f : ℕ} → Wakes v rs f w → (i : ℕ) → w.on_waitr i ≡ true → v.on_waitr i ≡ true
wakes-waitr nobody i h = h
wakes-waitr ticking i h = h
wakes-waitr (from_rendez r k there e) i h = h
wakes-waitr (from_lock q k rest there e) i h = h
wakes-waitr {v} (from_waitr k e) i h =
    at_cases (λ (b : Bool). b ≡ true → v.on_waitr i ≡ true) k false v.on_waitr i
    (λ t c. absurd (let z : ◌≡◌ {A = ℕ} 0 1 = cc in omega arith)) (λ t c. c) h
wakes-waitr (a next b) i h = wakes-waitr a i (wakes-waitr b i h)

wakes-waiters : {v w : View} {rs : List ℕ} {f : ℕ} → Wakes v rs f w → (i s : ℕ) → 1 ≤ count i (w.waiters s) → 1 ≤ count i (v.waiters s)
wakes-waiters nobody i s h = h
wakes-waiters ticking i s h = h
wakes-waiters (from_rendez r k there e) i s h = h
wakes-waiters {v} (from_lock q k rest there e) i s h =
    at_cases (λ (l : List ℕ). 1 ≤ count i l → 1 ≤ count i (v.waiters s)) q rest v.waiters s
    (λ t c. rest_in i k (v.waiters s) rest (ap v.waiters (sym t) ∙ e) c) (λ t c. c) h
wakes-waiters (from_waitr k e) i s h = h
wakes-waiters (a next b) i s h = wakes-waiters a i s (wakes-waiters b i s h)

-- record i is asleep
pub record Asleep (v : View) (i : ℕ) : Type 0 where
  pub place : Place
  pub asleep : is_asleep place ≡ true
  pub held : Held v i place

wakes-asleep : {v w : View} {rs : List ℕ} {f : ℕ} → Wakes v rs f w → (i : ℕ) → Asleep w i → Asleep v i
wakes-asleep {v} {w} b i a = record { place = a.place; asleep = a.asleep; held = go a.place a.asleep a.held }
  where
    go : (p : Place) → is_asleep p ≡ true → Held w i p → Held v i p
    go absent t h = absurd h
    go running t h = absurd (let z : ◌≡◌ {A = ℕ} 0 1 = cc in omega arith)
    go in_run_queue t h = absurd (let z : ◌≡◌ {A = ℕ} 0 1 = cc in omega arith)
    go (on_rendez s) t h = wakes-sleeper b i s h
    go on_own_waitr t h = wakes-waitr b i h
    go (in_lock_queue q) t h = wakes-waiters b i q h

-- whoever enters the run queue was asleep
last-asleep : (v : View) (i k : ℕ) → Asleep v k → (1 ≤ count i v.run) ⊎ (i ≡ k) → (1 ≤ count i v.run) ⊎ Asleep v i
last-asleep v i k a (inl c) = inl c
last-asleep v i k a (inr c) = inr (subst (Asleep v) (sym c) a)

wakes-run : {v w : View} {rs : List ℕ} {f : ℕ} → Wakes v rs f w → (i : ℕ) → 1 ≤ count i w.run → (1 ≤ count i v.run) ⊎ Asleep v i
wakes-run nobody i h = inl h
wakes-run ticking i h = inl h
wakes-run {v} (from_rendez r k there e) i h = last-asleep v i k (record { place = on_rendez r; asleep = refl; held = e }) (in_snoc i k v.run h)
wakes-run {v} (from_lock q k rest there e) i h = last-asleep v i k (record { place = in_lock_queue q; asleep = refl; held = head_in k (v.waiters q) rest e }) (in_snoc i k v.run h)
wakes-run {v} (from_waitr k e) i h = last-asleep v i k (record { place = on_own_waitr; asleep = refl; held = e }) (in_snoc i k v.run h)
wakes-run (a next b) i h = ⊎_elim (λ c. wakes-run a i c) (λ c. inr (wakes-asleep a i c)) (wakes-run b i h)

-- whoever is readied was asleep
pub record PidAsleep (v : View) (n : ℕ) : Type 0 where
  pub record_of : ℕ
  pub pid : v.pid record_of ≡ n
  pub was : Asleep v record_of

each_append : {A : Type 0} (P : A → Type 0) (xs ys : List A) → Each P xs → Each P ys → Each P (xs ++ ys)
each_append P [] ys a b = b
each_append P (x ∷ xs) ys a b = (a.0, each_append P xs ys a.1 b)

pub each_map : {A : Type 0} (P Q : A → Type 0) → ((x : A) → P x → Q x) → (xs : List A) → Each P xs → Each Q xs
each_map P Q f [] a = tt
each_map P Q f (x ∷ xs) a = (f x a.0, each_map P Q f xs a.1)

pub wakes_whom : {v w : View} {rs : List ℕ} {f : ℕ} → Wakes v rs f w → Each (PidAsleep v) rs
wakes_whom nobody = tt
wakes_whom ticking = tt
wakes_whom (from_rendez r k there e) = (record { record_of = k; pid = refl; was = record { place = on_rendez r; asleep = refl; held = e } }, tt)
wakes_whom {v} (from_lock q k rest there e) = (record { record_of = k; pid = refl; was = record { place = in_lock_queue q; asleep = refl; held = head_in k (v.waiters q) rest e } }, tt)
wakes_whom (from_waitr k e) = (record { record_of = k; pid = refl; was = record { place = on_own_waitr; asleep = refl; held = e } }, tt)
wakes_whom {v} (◌next◌ {v = u} {rs = rs} {ss = ss} a b) =
    each_append (PidAsleep v) rs ss (wakes_whom a) (each_map (PidAsleep u) (PidAsleep v) earlier ss (wakes_whom b))
  where
    earlier : (n : ℕ) → PidAsleep u n → PidAsleep v n
    earlier n p = record { record_of = p.record_of; pid = sym (ap (λ (g : ℕ → ℕ). g p.record_of) (wakes-pid a)) ∙ p.pid; was = wakes-asleep a p.record_of p.was }

-- whoever is in a place after a waking was in one before
wakes_lively : {v w : View} {rs : List ℕ} {f : ℕ} → Wakes v rs f w → Lively v → Lively w
wakes_lively {v} {w} a h i p d = subst (λ (g : ℕ → ℕ). 0 < g i) (sym (wakes-pid a)) (go p d)
  where
    slept : Asleep v i → 0 < v.pid i
    slept s = h i s.place s.held

    go : (q : Place) → Held w i q → 0 < v.pid i
    go absent t = absurd t
    go running t = h i running (sym (wakes-up a) ∙ t)
    go in_run_queue t = ⊎_elim (λ c. h i in_run_queue c) slept (wakes-run a i t)
    go (on_rendez s) t = h i (on_rendez s) (wakes-sleeper a i s t)
    go on_own_waitr t = h i on_own_waitr (wakes-waitr a i t)
    go (in_lock_queue q) t = h i (in_lock_queue q) (wakes-waiters a i q t)

pub wakes-apart : {v w : View} {rs : List ℕ} {f : ℕ} → Wakes v rs f w → Apart v → Apart w
wakes-apart {v} {w} a h = subst (λ (pid : ℕ → ℕ). (i j : ℕ) → 0 < pid i → pid i ≡ pid j → i ≡ j) (sym (wakes-pid a)) h

-- A waking, read and done.
pub wakes-agrees : {v w : View} {rs : List ℕ} {f : ℕ} → Wakes v rs f w → Apart v → Lively v → (r : Reading) → Agrees r v → Agrees (readied rs r) w
unfolding readies
wakes-agrees nobody p l r a = a
wakes-agrees {v} ticking p l r a = record { held = go; lives = a.lives; up = a.up; old = a.old }
  where
    same : (i : ℕ) (q : Place) → Held v i q → Held (tick_v v) i q
    same i absent d = d
    same i running d = d
    same i in_run_queue d = d
    same i (on_rendez s) d = d
    same i on_own_waitr d = d
    same i (in_lock_queue q) d = d

    go : HeldAll (tick_v v) r.place
    go i c = same i (r.place (v.pid i)) (a.held i c)
wakes-agrees {v} (from_rendez s i there e) p l r a =
    let w : View = from_rendez_v s i v in
    let h = woken-agrees v w p i (l i (on_rendez s) e) refl (last_in i v.run) (rendez-others v s i e) r.place a.held a.lives in
    record { held = h.0; lives = h.1; up = a.up; old = a.old }
wakes-agrees {v} (from_lock q i rest there e) p l r a =
    let w : View = from_lock_v q i rest v in
    let first : 1 ≤ count i (v.waiters q) = subst (λ (x : List ℕ). 1 ≤ count i x) (sym e) (omega (arith, count-here i rest)) in
    let h = woken-agrees v w p i (l i (in_lock_queue q) first) refl (last_in i v.run) (lock-others v q i rest e) r.place a.held a.lives in
    record { held = h.0; lives = h.1; up = a.up; old = a.old }
wakes-agrees {v} (from_waitr i e) p l r a =
    let w : View = from_waitr_v i v in
    let h = woken-agrees v w p i (l i on_own_waitr e) refl (last_in i v.run) (waitr-others v i) r.place a.held a.lives in
    record { held = h.0; lives = h.1; up = a.up; old = a.old }
wakes-agrees {v} {w} (◌next◌ {rs = rs} {ss = ss} b c) p l r a =
    let d : Agrees (readied ss (readied rs r)) w = wakes-agrees c (wakes-apart b p) (wakes_lively b l) (readied rs r) (wakes-agrees b p l r a) in
    subst (λ (place : ℕ → Place). Agrees (record { up = r.up; place = place; old = r.old }) w) (sym (readies-append rs ss r.place)) d
