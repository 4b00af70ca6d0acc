-- Over a list: the places read are the places held, and asleep is their number.
use Rattle.std.specs.Prelude.{if◌then◌else◌, ◌≡◌, refl, Bool, true, false, ◌⊎◌, ℕ, ◌≤◌, ◌<◌, eqb, List, [], ◌∷◌, map}
use Rattle.std.proofs.Common.{sym, ap, ◌∙◌, subst, inl, inr, arith, eqb-true, eq-eqb, ne_eqb}
use Rattle.std.proofs.Math.Option.{Option, none, some}
use Rattle.std.proofs.lemmas.Bool.{eqb-false}
use Rattle.std.proofs.Math.ListN.{length-map}
use Rattle.machine.specs.Basics.{count}
use Rattle.machine.specs.Machine.{Machine, Sizes, fresh, pid_of, asleep_on, asleep}
use Rattle.history.proofs.Sound.{Sound}
use Rattle.history.specs.History.{Input, Event, gives, event_of, history_from, machine_after, Place, absent, running, in_run_queue, on_rendez, on_own_waitr, in_lock_queue, Reading, reads, read_from, blank, place_after, runner_after, queue_after}
use Rattle.history.specs.Demand3.{HeldIn, is_asleep, Number, pid_up, PlacesRead}
use Rattle.history.proofs.Lists.{count-here}
use Rattle.history.proofs.View.{view}
use Rattle.history.proofs.Facts.{lives_of}
use Rattle.history.proofs.Gives.{gives_changes}
use Rattle.history.proofs.Queue.{queue_pids, absent_in}
use Rattle.history.proofs.Kept.{sound-gives}
use Rattle.history.proofs.Fresh.{fresh-pid}
use Rattle.history.proofs.Agrees.{Held, up_pid, Agrees, Apart, Lively}
use Rattle.history.proofs.Reading.{Alone}
use Rattle.history.proofs.Follows.{change_agrees}
use Rattle.history.proofs.Single.{held-places, held-asleep, single}

-- what a view holds is what its machine holds
pub to_held : (m : Machine) (i : ℕ) (p : Place) → Held (view m) i p → HeldIn m i p
to_held m i absent h = h
to_held m i running h = h
to_held m i in_run_queue h = h
to_held m i (on_rendez r) h = h
to_held m i on_own_waitr h = h
to_held m i (in_lock_queue q) h = h

good-apart : (m : Machine) → Sound m → Apart (view m)
good-apart m g i j l e = g.apart i j l e

pub good_lively : (m : Machine) → Sound m → Lively (view m)
good_lively m g i p h = lives_of m i g.in_one_place (held-places m i p (to_held m i p h))

pub good-alone : (m : Machine) → Sound m → Alone (view m)
good-alone m g i p u h = single m g.in_one_place i p running (to_held m i p h) u

-- one event
pub step-agrees : (m : Machine) → Sound m → (x : Input) (r : Reading) → Agrees r (view m) → Agrees (reads r (event_of x (gives m x))) (view (gives m x).after)
unfolding reads
step-agrees m g x r a = change_agrees (gives_changes m g x) (good-apart m g) (good_lively m g) (good-alone m g) r a

pub blank-agrees : (z : Sizes) → Agrees blank (view (fresh z))
unfolding blank fresh
blank-agrees z =
    record {
      held = λ i l. absurd (omega (arith, fresh-pid z i));
      lives = λ n. inl refl;
      up = refl;
      old = λ i l. absurd (omega (arith, fresh-pid z i));
    }

-- each pid of the list once: its count is its record's
map-count : (f : ℕ → ℕ) (l : List ℕ) (i : ℕ) → ((j : ℕ) → 1 ≤ count j l → f j ≡ f i → j ≡ i) → count (f i) (map f l) ≡ count i l
unfolding count
map-count f [] i h = refl
map-count f (x ∷ xs) i h = go (eqb i x) refl (map-count f xs i (λ j c e. h j (omega arith) e))
  where
    go : (b : Bool) → eqb i x ≡ b → count (f i) (map f xs) ≡ count i xs → count (f i) (map f (x ∷ xs)) ≡ count i (x ∷ xs)
    go true t more = rw (t, eq-eqb (f i) (f x) (ap f (eqb-true i x t)), more)
    go false t more =
        rw (t, ne_eqb (f i) (f x) (λ (e : f i ≡ f x). eqb-false i x t (sym (h x (omega (arith, count-here x xs)) (sym e)))), more)

-- asleep, counted
module _ (m : Machine) (g : Sound m) (r : Reading) (a : Agrees r (view m)) where
  held_in : (i : ℕ) → 0 < pid_of m i → HeldIn m i (r.place (pid_of m i))
  held_in i l = to_held m i (r.place (pid_of m i)) (a.held i l)

  sleeper-lives : (i : ℕ) → 1 ≤ count i (asleep_on m) → 0 < pid_of m i
  sleeper-lives i c = lives_of m i g.in_one_place (omega arith)

  counted : (n : ℕ) → (r.place n ≡ absent) ⊎ ((i : ℕ) × (pid_of m i ≡ n) × (0 < n)) → count n (map (pid_of m) (asleep_on m)) ≡ (if is_asleep (r.place n) then 1 else 0)
  counted n (inl e) =
      rw e
      (absent_in (pid_of m) n (asleep_on m)
      (λ i c d. subst (λ (p : Place). HeldIn m i p) (ap r.place d ∙ e) (held_in i (sleeper-lives i c))))
  counted n (inr t) =
      let i : ℕ = t.0 in
      let l : 0 < pid_of m i = subst (λ (k : ℕ). 0 < k) (sym t.1) t.2 in
      subst (λ (k : ℕ). count k (map (pid_of m) (asleep_on m)) ≡ (if is_asleep (r.place k) then 1 else 0)) t.1
      (map-count (pid_of m) (asleep_on m) i (λ j c e. g.apart j i (sleeper-lives j c) e) ∙ held-asleep m g.in_one_place i (r.place (pid_of m i)) (held_in i l))

  sleepers-number : Number (λ n. is_asleep (r.place n)) (asleep m)
  unfolding asleep
  sleepers-number = record { them = map (pid_of m) (asleep_on m); each = λ n. counted n (a.lives n); many = length-map (asleep_on m) (pid_of m) }

up_same : (m : Machine) (o : Option ℕ) → up_pid (view m).pid o ≡ pid_up m o
up_same m none = refl
up_same m (some i) = refl

-- What is read agrees, and so do the places.
pub places-read : (m : Machine) → Sound m → (h : List Event) → Agrees (read_from blank h) (view m) → queue_after h ≡ queue_pids m → PlacesRead m h
unfolding place_after runner_after
places-read m g h a q =
    let r : Reading = read_from blank h in
    record {
      held = held_in m g r a;
      only = λ i p k.
          let l : 0 < pid_of m i = lives_of m i g.in_one_place (held-places m i p k) in
          (l, single m g.in_one_place i p (r.place (pid_of m i)) k (held_in m g r a i l));
      once = g.in_one_place;
      lives = a.lives;
      alone = g.apart;
      runner = a.up ∙ up_same m m.up;
      queue = q;
      sleepers = sleepers-number m g r a;
    }

pub agrees_from : (m : Machine) → Sound m → (xs : List Input) (r : Reading) → Agrees r (view m) → Agrees (read_from r (history_from m xs)) (view (machine_after m xs))
unfolding read_from
agrees_from m g [] r a = a
agrees_from m g (x ∷ xs) r a =
    agrees_from (gives m x).after (sound-gives m g x) xs (reads r (event_of x (gives m x))) (step-agrees m g x r a)
