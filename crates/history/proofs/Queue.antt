-- The run queue over a list of steps: whom a step readies enters last, whom it dispatches leaves in front, and nothing else moves.
use Rattle.std.specs.Prelude.{◌≡◌, refl, Bool, true, false, ◌⊎◌, ℕ, suc, ◌≤◌, eqb, length, drop, List, [], ◌∷◌, ◌++◌, map}
use Rattle.std.proofs.Common.{sym, ap, ap₂, ◌∙◌, subst, inl, inr, arith, eqb-true, append_assoc, append-nil}
use mathlib.Core.List.{tail}
use Rattle.std.proofs.lemmas.Bool.{eqb-false}
use Rattle.std.proofs.Math.Seq.{drop-append_seam}
use Rattle.machine.specs.Basics.{count}
use Rattle.machine.specs.Machine.{Machine, pid_of}
use Rattle.history.proofs.Sound.{Sound}
use Rattle.history.specs.History.{Input, gives, Says, says_of, at}
use Rattle.history.specs.Demand3.{Dispatches}
use Rattle.history.proofs.Lists.{at_same, map-append, map_at, count-here, count-other}
use Rattle.history.proofs.View.{View, Wakes, nobody, ticking, from_rendez, from_lock, from_waitr, ◌next◌, Change, wakes, makes, dispatches, dozes, waits_on, gives_way, goes_asleep, waits, queues, leaves, spends}
use Rattle.history.proofs.Facts.{lives_of, places-at_most}
use Rattle.history.proofs.Gives.{gives_changes}

-- the pids of the run queue
abbrev pub pids_of : View → List ℕ
pids_of v = map v.pid v.run

abbrev pub queue_pids : Machine → List ℕ
queue_pids m = map (pid_of m) m.run

pub wakes-pid : {v w : View} {rs : List ℕ} {f : ℕ} → Wakes v rs f w → w.pid ≡ v.pid
wakes-pid nobody = refl
wakes-pid ticking = refl
wakes-pid (from_rendez r i there e) = refl
wakes-pid (from_lock q i rest there e) = refl
wakes-pid (from_waitr i e) = refl
wakes-pid (a next b) = wakes-pid b ∙ wakes-pid a

wakes-queue : {v w : View} {rs : List ℕ} {f : ℕ} → Wakes v rs f w → pids_of w ≡ pids_of v ++ rs
wakes-queue {v} nobody = sym (append-nil (pids_of v))
wakes-queue {v} ticking = sym (append-nil (pids_of v))
wakes-queue {v} (from_rendez r i there e) = map-append v.pid v.run (i ∷ [])
wakes-queue {v} (from_lock q i rest there e) = map-append v.pid v.run (i ∷ [])
wakes-queue {v} (from_waitr i e) = map-append v.pid v.run (i ∷ [])
wakes-queue {v} (◌next◌ {rs = rs} {ss = ss} a b) = wakes-queue b ∙ ap (λ (l : List ℕ). l ++ ss) (wakes-queue a) ∙ append_assoc (pids_of v) rs ss

-- The key law: dispatched in front, readied behind.
change_queue : {v w : View} {says : Says} {rs ds : List ℕ} {f : ℕ} → Change v says rs ds f w → ds ++ pids_of w ≡ pids_of v ++ rs
change_queue (wakes a) = wakes-queue a
change_queue {v} (makes i n same pos free-there fresh-pid out) =
    map-append (at i n v.pid) v.run (i ∷ []) ∙ ap₂ (λ (a : List ℕ) (b : ℕ). a ++ b ∷ []) (map_at i n v.pid v.run out) (at_same i n v.pid)
change_queue {v} (dispatches i rest u e l) = ap (map v.pid) (sym e) ∙ sym (append-nil (pids_of v))
change_queue {v} (dozes i rest r there u e l s t) = ap (map v.pid) (sym e) ∙ sym (append-nil (pids_of v))
change_queue {v} (waits_on i rest u e l t) = ap (map v.pid) (sym e) ∙ sym (append-nil (pids_of v))
change_queue {v} (gives_way i u l) = map-append v.pid v.run (i ∷ [])
change_queue {v} (goes_asleep i r call there u l s t) = sym (append-nil (pids_of v))
change_queue {v} (waits i u l) = sym (append-nil (pids_of v))
change_queue {v} (queues i q there u l) = sym (append-nil (pids_of v))
change_queue {v} (leaves {rs = rs} i u l out a) = wakes-queue a ∙ ap (λ (x : List ℕ). x ++ rs) (map_at i 0 v.pid v.run out)
change_queue {v} spends = sym (append-nil (pids_of v))

-- a step that readies dispatches nobody
change_either : {v w : View} {says : Says} {rs ds : List ℕ} {f : ℕ} → Change v says rs ds f w → (rs ≡ []) ⊎ (ds ≡ [])
change_either (wakes a) = inr refl
change_either (makes i n same pos free-there fresh-pid out) = inr refl
change_either (dispatches i rest u e l) = inl refl
change_either (dozes i rest r there u e l s t) = inl refl
change_either (waits_on i rest u e l t) = inl refl
change_either (gives_way i u l) = inr refl
change_either (goes_asleep i r call there u l s t) = inl refl
change_either (waits i u l) = inl refl
change_either (queues i q there u l) = inl refl
change_either (leaves i u l out a) = inr refl
change_either spends = inl refl

change_dispatches : {v w : View} {says : Says} {rs ds : List ℕ} {f : ℕ} → Change v says rs ds f w → Dispatches says ds
change_dispatches (wakes a) = refl
change_dispatches (makes i n same pos free-there fresh-pid out) = refl
change_dispatches (dispatches i rest u e l) = refl
change_dispatches (dozes i rest r there u e l s t) = refl
change_dispatches (waits_on i rest u e l t) = refl
change_dispatches (gives_way i u l) = refl
change_dispatches (goes_asleep i r call there u l s t) = refl
change_dispatches (waits i u l) = refl
change_dispatches (queues i q there u l) = refl
change_dispatches (leaves i u l out a) = refl
change_dispatches spends = refl

pub dispatch_law : (m : Machine) → Sound m → (x : Input) → Dispatches (says_of x.step (gives m x).reply) (gives m x).dispatched
dispatch_law m g x = change_dispatches (gives_changes m g x)

pub key_law : (m : Machine) → Sound m → (x : Input) → (gives m x).dispatched ++ queue_pids (gives m x).after ≡ queue_pids m ++ (gives m x).readied
key_law m g x = change_queue (gives_changes m g x)

pub either_law : (m : Machine) → Sound m → (x : Input) → ((gives m x).readied ≡ []) ⊎ ((gives m x).dispatched ≡ [])
either_law m g x = change_either (gives_changes m g x)

-- the run queue read after one more event
pub queue-next : (m : Machine) → Sound m → (x : Input) → drop (length (gives m x).dispatched) (queue_pids m ++ (gives m x).readied) ≡ queue_pids (gives m x).after
queue-next m g x =
    ap (drop (length (gives m x).dispatched)) (sym (key_law m g x)) ∙ drop-append_seam (gives m x).dispatched (queue_pids (gives m x).after)

-- Who is dispatched before n stood ahead of n.
pub cut : (n : ℕ) (ds ahead behind q : List ℕ) → ds ++ q ≡ ahead ++ n ∷ behind → count n ds ≡ 0 → (left : List ℕ) × (ds ++ left ≡ ahead) × (q ≡ left ++ n ∷ behind)
cut n [] ahead behind q e c = (ahead, refl, e)
cut n (d ∷ ds) [] behind q e c =
    absurd (let same : n ≡ d = cc in let one : count n (d ∷ ds) ≡ suc (count n ds) = ap (λ (x : ℕ). count n (x ∷ ds)) (sym same) ∙ count-here n ds in omega arith)
cut n (d ∷ ds) (a ∷ ahead) behind q e c =
    let same : d ≡ a = cc in
    let r : (left : List ℕ) × (ds ++ left ≡ ahead) × (q ≡ left ++ n ∷ behind) = cut n ds ahead behind q (ap tail e) (fewer (eqb n d) refl) in
    (r.0, ap₂ (λ (x : ℕ) (l : List ℕ). x ∷ l) same r.1, r.2)
  where
    fewer : (b : Bool) → eqb n d ≡ b → count n ds ≡ 0
    fewer true t = absurd (let one : count n (d ∷ ds) ≡ suc (count n ds) = ap (λ (x : ℕ). count n (x ∷ ds)) (sym (eqb-true n d t)) ∙ count-here n ds in omega arith)
    fewer false t = sym (count-other n d ds (eqb-false n d t)) ∙ c

-- A pid stands in the run queue at most once.
pub absent_in : (f : ℕ → ℕ) (p : ℕ) (l : List ℕ) → ((i : ℕ) → 1 ≤ count i l → f i ≡ p → ⊥) → count p (map f l) ≡ 0
unfolding count
absent_in f p [] h = refl
absent_in f p (x ∷ xs) h =
    count-other p (f x) (map f xs) (λ (e : p ≡ f x). h x (omega (arith, count-here x xs)) (sym e))
    ∙ absent_in f p xs (λ i c. h i (omega arith))

pub differ_in : (f : ℕ → ℕ) (l : List ℕ) → ((i j : ℕ) → 1 ≤ count i l → f i ≡ f j → i ≡ j) → ((i : ℕ) → count i l ≤ 1) → (p : ℕ) → count p (map f l) ≤ 1
unfolding count
differ_in f [] h o p = omega arith
differ_in f (x ∷ xs) h o p =
    go (eqb p (f x)) refl (differ_in f xs (λ i j c e. h i j (omega arith) e) (λ i. omega (arith, o i)) p)
  where
    go : (b : Bool) → eqb p (f x) ≡ b → count p (map f xs) ≤ 1 → count p (map f (x ∷ xs)) ≤ 1
    go true t more =
        let z : count p (map f xs) ≡ 0 =
        absent_in f p xs
        (λ i c e. let same : x ≡ i = h x i (omega (arith, count-here x xs)) (sym (eqb-true p (f x) t) ∙ sym e) in
        let two : count x (x ∷ xs) ≡ suc (count x xs) = count-here x xs in
        let c' : 1 ≤ count x xs = subst (λ (k : ℕ). 1 ≤ count k xs) (sym same) c in
        omega (arith, o x)) in
        rw t (omega arith)
    go false t more = rw t (omega arith)

pub queue_differs : (m : Machine) → Sound m → (p : ℕ) → count p (queue_pids m) ≤ 1
queue_differs m g p =
    differ_in (pid_of m) m.run
    (λ i j c e. g.apart i j (lives_of m i g.in_one_place (omega arith)) e)
    (λ i. omega (arith, places-at_most m i g.in_one_place))
    p
