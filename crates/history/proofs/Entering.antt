-- Whoever enters the run queue was made, was asleep, or yields.
use Rattle.std.specs.Prelude.{◌≡◌, true, List, [], ◌∷◌, ℕ, ◌<◌}
use Rattle.std.proofs.Math.Path.{refl, ap, subst}
use Rattle.std.proofs.Common.{sym, ◌∙◌, arith}
use Rattle.std.proofs.Math.Logic.{⊎_elim}
use Rattle.std.proofs.Math.Option.{some}
use Rattle.machine.specs.Machine.{Machine, pid_of}
use Rattle.history.proofs.Sound.{Sound}
use Rattle.history.specs.History.{Input, Event, gives, Place, absent, running, Says, says_of, read_from, blank, place_after, runner_after}
use Rattle.history.specs.Demand3.{is_asleep, Enters}
use Rattle.history.proofs.Lists.{at_other}
use Rattle.history.proofs.View.{View, view, gone_v, Change, wakes, makes, dispatches, dozes, waits_on, gives_way, goes_asleep, waits, queues, leaves, spends}
use Rattle.history.proofs.Gives.{gives_changes}
use Rattle.history.proofs.Agrees.{Held, up_pid, Agrees}
use Rattle.history.proofs.Woken.{PidAsleep, each_map, wakes_whom}
use Rattle.history.proofs.Reading.{Alone}
use Rattle.history.proofs.Follows.{gone-before}
use Rattle.history.proofs.Single.{single}
use Rattle.history.proofs.Placed.{to_held, good_lively, good-alone}

-- asleep once another is gone: asleep before
gone-asleep : (v : View) → Alone v → (i : ℕ) → v.up ≡ some i → (n : ℕ) → PidAsleep (gone_v i v) n → PidAsleep v n
gone-asleep v alone i u n a =
    let j : ℕ = a.record_of in
    let h : Held v j a.was.place = gone-before v i j a.was.place a.was.held in
    let other : i ≡ j → ⊥ = λ d. let p : a.was.place ≡ running = alone j a.was.place (u ∙ ap some d) h in
    let q : is_asleep running ≡ true = subst (λ (x : Place). is_asleep x ≡ true) p a.was.asleep in
    let z : ◌≡◌ {A = ℕ} 0 1 = cc in omega arith in
    record { record_of = j; pid = sym (at_other i 0 v.pid j other) ∙ a.pid; was = record { place = a.was.place; asleep = a.was.asleep; held = h } }

module _ (m : Machine) (g : Sound m) (h : List Event) (a : Agrees (read_from blank h) (view m)) where
  -- asleep, and so read
  asleep-read : (n : ℕ) → PidAsleep (view m) n → is_asleep (place_after h n) ≡ true
  unfolding place_after
  asleep-read n s =
      let i : ℕ = s.record_of in
      let p : Place = s.was.place in
      let l : 0 < pid_of m i = good_lively m g i p s.was.held in
      let q : Place = (read_from blank h).place (pid_of m i) in
      let e : p ≡ q = single m g.in_one_place i p q (to_held m i p s.was.held) (to_held m i q (a.held i l)) in
      subst (λ (k : ℕ). is_asleep ((read_from blank h).place k) ≡ true) s.pid (subst (λ (x : Place). is_asleep x ≡ true) e s.was.asleep)

  unread : (n : ℕ) → ((j : ℕ) → pid_of m j < n) → place_after h n ≡ absent
  unfolding place_after
  unread n under = ⊎_elim (λ e. e) (λ t. absurd (omega (arith, under t.0, t.1))) (a.lives n)

  change_enters : {w : View} {says : Says} {rs ds : List ℕ} {f : ℕ} → Change (view m) says rs ds f w → Enters h says rs
  unfolding runner_after
  change_enters (wakes {rs = rs} c) = each_map (PidAsleep (view m)) (λ n. is_asleep (place_after h n) ≡ true) asleep-read rs (wakes_whom c)
  change_enters (makes i n same pos unused under out) = (unread n under, refl)
  change_enters (dispatches i rest u e l) = refl
  change_enters (dozes i rest r there u e l s t) = refl
  change_enters (waits_on i rest u e l t) = refl
  change_enters (gives_way i u l) = ap (λ (n : ℕ). n ∷ []) (sym (a.up ∙ ap (up_pid (view m).pid) u))
  change_enters (goes_asleep i r call there u l s t) = refl
  change_enters (waits i u l) = refl
  change_enters (queues i q there u l) = refl
  change_enters (leaves {rs = rs} i u l out c) =
      each_map (PidAsleep (gone_v i (view m))) (λ n. is_asleep (place_after h n) ≡ true) (λ n p. asleep-read n (gone-asleep (view m) (good-alone m g) i u n p)) rs (wakes_whom c)
  change_enters spends = tt

  pub gives-enters : (x : Input) → Enters h (says_of x.step (gives m x).reply) (gives m x).readied
  gives-enters x = change_enters (gives_changes m g x)
