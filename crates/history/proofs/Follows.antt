-- Each change, read from its event, leaves what is read in agreement with what is held: change by change.
use Rattle.std.specs.Prelude.{◌≡◌, Bool, true, false, List, [], ◌∷◌, ◌++◌, ◌⊎◌, eqb, ℕ, ◌≤◌, ◌<◌}
use Rattle.std.proofs.Math.Path.{refl, sym, ap, subst}
use Rattle.std.proofs.Common.{◌∙◌, arith, eqb-true}
use Rattle.std.proofs.Math.Logic.{inl, inr}
use Rattle.std.proofs.Math.Option.{Option, none, some}
use Rattle.std.proofs.lemmas.Bool.{eqb-false}
use Rattle.machine.specs.Basics.{count}
use Rattle.machine.specs.Machine.{Resume, nothing, in_qlock, in_wait}
use Rattle.machine.specs.Good.{SleepsOn}
use Rattle.history.specs.History.{Place, absent, running, in_run_queue, on_rendez, on_own_waitr, in_lock_queue, Says, Reading, enters, again, told, readies, at}
use Rattle.history.proofs.Lists.{at_same, at_other, at_cases}
use Rattle.history.proofs.View.{View, made_v, runs_v, again_v, waits_again_v, yields_v, sleeps_v, waits_v, queues_v, gone_v, spent_v, Change, wakes, makes, dispatches, dozes, waits_on, gives_way, goes_asleep, waits, queues, leaves, spends}
use Rattle.history.proofs.Agrees.{Held, OldFits, HeldAll, LivesAll, up_pid, Agrees, Apart, Lively, held_move, lives_move, last_in, still_in, readied, woken-agrees}
use Rattle.history.proofs.Woken.{wakes-agrees}
use Rattle.history.proofs.Reading.{Alone, not_none, run-others, doze_others, waitr-others, yield-others, sleep-others, wait-others, queue-others, gone-others, old_move, old-gone, fits-rendez, old-rendez}

-- whoever is in a place once another is gone was there before
pub gone-before : (v : View) (i j : ℕ) (q : Place) → Held (gone_v i v) j q → Held v j q
gone-before v i j absent t = t
gone-before v i j running t = absurd (not_none none j refl t)
gone-before v i j in_run_queue t = t
gone-before v i j (on_rendez s) t = t
gone-before v i j on_own_waitr t =
    at_cases (λ (b : Bool). b ≡ true → v.on_waitr j ≡ true) i false v.on_waitr j
    (λ d c. absurd (let z : ◌≡◌ {A = ℕ} 0 1 = cc in omega arith)) (λ d c. c) t
gone-before v i j (in_lock_queue q) t = t

module _ (v : View) (apart : Apart v) (lively : Lively v) (r : Reading) (a : Agrees r v) where
  -- made
  module _ (i n : ℕ) (pos : 0 < n) (unused : v.pid i ≡ 0) (under : (j : ℕ) → v.pid j < n) where
    made-others : (j : ℕ) (p : Place) → (j ≡ i → ⊥) → Held v j p → Held (made_v i n v) j p
    made-others j absent d h = h
    made-others j running d h = h
    made-others j in_run_queue d h = still_in j i v.run h
    made-others j (on_rendez t) d h = h
    made-others j on_own_waitr d h = at_other i false v.on_waitr j (λ (e : i ≡ j). d (sym e)) ∙ h
    made-others j (in_lock_queue q) d h = h

    -- read at n, whatever was read there before
    made_held : (place : ℕ → Place) → place n ≡ in_run_queue → ((k : ℕ) → (n ≡ k → ⊥) → place k ≡ r.place k) → HeldAll (made_v i n v) place
    made_held place here others j lj =
        at_cases (λ (k : ℕ). 0 < k → Held (made_v i n v) j (place k)) i n v.pid j
        (λ d l. subst (λ (p : Place). Held (made_v i n v) j p) (sym here) (subst (λ (x : ℕ). 1 ≤ count x (v.run ++ i ∷ [])) d (last_in i v.run)))
        (λ d l. subst (λ (p : Place). Held (made_v i n v) j p) (sym (others (v.pid j) (λ (e : n ≡ v.pid j). omega (arith, under j)))) (made-others j (r.place (v.pid j)) (λ (e : j ≡ i). d (sym e)) (a.held j l)))
        lj

    made-lives : (place : ℕ → Place) → ((k : ℕ) → (n ≡ k → ⊥) → place k ≡ r.place k) → LivesAll (at i n v.pid) place
    made-lives place others k = go (eqb n k) refl
      where
        elsewhere : (n ≡ k → ⊥) → (r.place k ≡ absent) ⊎ ((j : ℕ) × (v.pid j ≡ k) × (0 < k)) → (place k ≡ absent) ⊎ ((j : ℕ) × (at i n v.pid j ≡ k) × (0 < k))
        elsewhere d (inl z) = inl (others k d ∙ z)
        elsewhere d (inr t) = inr (t.0, at_other i n v.pid t.0 (λ (e : i ≡ t.0). let z : v.pid i ≡ k = ap v.pid e ∙ t.1 in let l : 0 < k = t.2 in omega arith) ∙ t.1, t.2)

        go : (b : Bool) → eqb n k ≡ b → (place k ≡ absent) ⊎ ((j : ℕ) × (at i n v.pid j ≡ k) × (0 < k))
        go true e = inr (i, at_same i n v.pid ∙ eqb-true n k e, subst (λ (x : ℕ). 0 < x) (eqb-true n k e) pos)
        go false e = elsewhere (eqb-false n k e) (a.lives k)

    made_up : (o : Option ℕ) → v.up ≡ o → up_pid v.pid o ≡ up_pid (at i n v.pid) o
    made_up none e = refl
    made_up (some k) e = sym (at_other i n v.pid k (λ (d : i ≡ k). let z : v.pid k ≡ 0 = ap v.pid (sym d) ∙ unused in omega (arith, lively k running e)))

    made-old : (j : ℕ) → 0 < at i n v.pid j → OldFits (at i nothing v.resume j) (r.old (at i n v.pid j))
    made-old j l =
        at_cases (λ (c : Resume). OldFits c (r.old (at i n v.pid j))) i nothing v.resume j (λ d. tt)
        (λ d. let e : at i n v.pid j ≡ v.pid j = at_other i n v.pid j d in
        subst (λ (k : ℕ). OldFits (v.resume j) (r.old k)) (sym e) (a.old j (subst (λ (k : ℕ). 0 < k) e l)))

    made-agrees : Agrees (readied (n ∷ []) (told (Says.made n) [] r)) (made_v i n v)
    unfolding told readies
    made-agrees =
        let one : ℕ → Place = at n in_run_queue r.place in
        let two : ℕ → Place = at n (enters (one n)) one in
        let here : two n ≡ in_run_queue = at_same n (enters (one n)) one ∙ ap enters (at_same n in_run_queue r.place) in
        let others : (k : ℕ) → (n ≡ k → ⊥) → two k ≡ r.place k = λ k d. at_other n (enters (one n)) one k d ∙ at_other n in_run_queue r.place k d in
        record { held = made_held two here others; lives = made-lives two others; up = a.up ∙ made_up v.up refl; old = made-old }

  -- dispatched
  module _ (i : ℕ) (rest : List ℕ) (u : v.up ≡ none) (e : v.run ≡ i ∷ rest) (l : 0 < v.pid i) where
    runs-agrees : Agrees (readied [] (told (Says.runs (v.pid i)) (v.pid i ∷ []) r)) (runs_v i rest v)
    unfolding told readies
    runs-agrees =
        record {
          held = held_move v (runs_v i rest v) apart i l refl running refl (run-others v i rest u e) r.place a.held;
          lives = lives_move v (runs_v i rest v) apart i l refl running r.place a.lives;
          up = refl;
          old = old-gone v i r.old a.old;
        }

    -- back where it last went asleep
    back-agrees : (w : View) → w.pid ≡ v.pid → w.up ≡ none → w.resume ≡ v.resume
        → Held w i (r.old (v.pid i))
        → ((j : ℕ) (q : Place) → (j ≡ i → ⊥) → Held v j q → Held w j q)
        → Agrees (readied [] (told Says.sleeps_again (v.pid i ∷ []) r)) w
    unfolding told readies again
    back-agrees w same up_none calls here others =
        record {
          held = held_move v w apart i l same (r.old (v.pid i)) here others r.place a.held;
          lives = lives_move v w apart i l same (r.old (v.pid i)) r.place a.lives;
          up = a.up ∙ ap (up_pid v.pid) u ∙ sym (ap (up_pid w.pid) up_none);
          old = λ j lj.
              let f : w.pid j ≡ v.pid j = ap (λ (g : ℕ → ℕ). g j) same in
              subst (λ (k : ℕ). OldFits (w.resume j) (r.old k)) (sym f)
              (subst (λ (g : ℕ → Resume). OldFits (g j) (r.old (v.pid j))) (sym calls) (a.old j (subst (λ (k : ℕ). 0 < k) f lj)));
        }

    doze_agrees : (s : ℕ) → v.sleeper s ≡ none → SleepsOn s (v.resume i) → Agrees (readied [] (told Says.sleeps_again (v.pid i ∷ []) r)) (again_v i rest s v)
    doze_agrees s free-there fits =
        back-agrees (again_v i rest s v) refl refl refl
        (subst (λ (p : Place). Held (again_v i rest s v) i p) (sym (old-rendez s (v.resume i) (r.old (v.pid i)) fits (a.old i l))) (at_same s (some i) v.sleeper))
        (doze_others v i rest u e s free-there)

    waits_on-agrees : v.resume i ≡ in_wait → Agrees (readied [] (told Says.sleeps_again (v.pid i ∷ []) r)) (waits_again_v i rest v)
    waits_on-agrees c =
        let o : r.old (v.pid i) ≡ on_own_waitr = subst (λ (call : Resume). OldFits call (r.old (v.pid i))) c (a.old i l) in
        back-agrees (waits_again_v i rest v) refl refl refl
        (subst (λ (p : Place). Held (waits_again_v i rest v) i p) (sym o) (at_same i true v.on_waitr))
        (waitr-others v i rest u e)

  -- who runs goes somewhere
  module _ (i : ℕ) (u : v.up ≡ some i) (l : 0 < v.pid i) where
    yield-agrees : Agrees (readied (v.pid i ∷ []) (told Says.yields [] r)) (yields_v i v)
    unfolding told
    yield-agrees =
        let h = woken-agrees v (yields_v i v) apart i l refl (last_in i v.run) (yield-others v i u) r.place a.held a.lives in
        record { held = h.0; lives = h.1; up = refl; old = a.old }

    sleeps-agrees : (w : View) (call : Resume) (p : Place) → w.pid ≡ v.pid → w.up ≡ none → w.resume ≡ at i call v.resume
        → OldFits call p
        → Held w i p
        → ((j : ℕ) (q : Place) → (j ≡ i → ⊥) → Held v j q → Held w j q)
        → Agrees (readied [] (told (Says.sleeps p) [] r)) w
    unfolding told readies
    sleeps-agrees w call p same up_none calls fits here others =
        let n : r.up ≡ v.pid i = a.up ∙ ap (up_pid v.pid) u in
        record {
          held = subst (λ (k : ℕ). HeldAll w (at k p r.place)) (sym n) (held_move v w apart i l same p here others r.place a.held);
          lives = subst (λ (k : ℕ). LivesAll w.pid (at k p r.place)) (sym n) (lives_move v w apart i l same p r.place a.lives);
          up = sym (ap (up_pid w.pid) up_none);
          old = λ j lj.
              let f : w.pid j ≡ v.pid j = ap (λ (g : ℕ → ℕ). g j) same in
              subst (λ (k : ℕ). OldFits (w.resume j) (at k p r.old (w.pid j))) (sym n)
              (subst (λ (k : ℕ). OldFits (w.resume j) (at (v.pid i) p r.old k)) (sym f)
              (subst (λ (g : ℕ → Resume). OldFits (g j) (at (v.pid i) p r.old (v.pid j))) (sym calls)
              (old_move v apart i l call p fits r.old a.old j (subst (λ (k : ℕ). 0 < k) f lj))));
        }

    -- gone
    gone-read : Reading
    gone-read = record { up = 0; place = at (v.pid i) absent r.place; old = r.old }

    not_i : (j : ℕ) → 0 < at i 0 v.pid j → i ≡ j → ⊥
    not_i j lj d = let z : at i 0 v.pid j ≡ 0 = ap (at i 0 v.pid) (sym d) ∙ at_same i 0 v.pid in omega arith

    gone-pid : (j : ℕ) → 0 < at i 0 v.pid j → at i 0 v.pid j ≡ v.pid j
    gone-pid j lj = at_other i 0 v.pid j (not_i j lj)

    gone-agrees : Agrees gone-read (gone_v i v)
    unfolding gone-read
    gone-agrees =
        record {
          held = λ j lj.
              let f : at i 0 v.pid j ≡ v.pid j = gone-pid j lj in
              let lj' : 0 < v.pid j = subst (λ (k : ℕ). 0 < k) f lj in
              subst (λ (k : ℕ). Held (gone_v i v) j (at (v.pid i) absent r.place k)) (sym f)
              (subst (λ (p : Place). Held (gone_v i v) j p) (sym (at_other (v.pid i) absent r.place (v.pid j) (λ (d : v.pid i ≡ v.pid j). not_i j lj (apart i j l d))))
              (gone-others v i u j (r.place (v.pid j)) (λ (d : j ≡ i). not_i j lj (sym d)) (a.held j lj')));
          lives = λ n.
              at_cases (λ (p : Place). (p ≡ absent) ⊎ ((k : ℕ) × (at i 0 v.pid k ≡ n) × (0 < n))) (v.pid i) absent r.place n (λ d. inl refl) (λ d. still n d (a.lives n));
          up = refl;
          old = λ j lj.
              let f : at i 0 v.pid j ≡ v.pid j = gone-pid j lj in
              subst (λ (k : ℕ). OldFits (at i nothing v.resume j) (r.old k)) (sym f) (old-gone v i r.old a.old j (subst (λ (k : ℕ). 0 < k) f lj));
        }
      where
        still : (n : ℕ) → (v.pid i ≡ n → ⊥) → (r.place n ≡ absent) ⊎ ((k : ℕ) × (v.pid k ≡ n) × (0 < n)) → (r.place n ≡ absent) ⊎ ((k : ℕ) × (at i 0 v.pid k ≡ n) × (0 < n))
        still n d (inl z) = inl z
        still n d (inr t) = inr (t.0, at_other i 0 v.pid t.0 (λ (x : i ≡ t.0). d (ap v.pid x ∙ t.1)) ∙ t.1, t.2)

    gone-apart : Apart (gone_v i v)
    gone-apart j k lj e =
        let f : at i 0 v.pid j ≡ v.pid j = gone-pid j lj in
        let lk : 0 < at i 0 v.pid k = subst (λ (x : ℕ). 0 < x) e lj in
        apart j k (subst (λ (x : ℕ). 0 < x) f lj) (sym f ∙ e ∙ gone-pid k lk)

    gone_lively : Alone v → Lively (gone_v i v)
    gone_lively alone j p h = at_cases (λ (k : ℕ). 0 < k) i 0 v.pid j (λ d. absurd (gone-not p d h)) (λ d. lively j p (gone-before v i j p h))
      where
        gone-not : (q : Place) → i ≡ j → Held (gone_v i v) j q → ⊥
        gone-not q d t = not_none none j refl (subst (λ (x : Place). Held (gone_v i v) j x) (alone j q (u ∙ ap some d) (gone-before v i j q t)) t)

-- Every change.
pub change_agrees : {v w : View} {says : Says} {rs ds : List ℕ} {f : ℕ} → Change v says rs ds f w → Apart v → Lively v → Alone v → (r : Reading) → Agrees r v → Agrees (readied rs (told says ds r)) w
unfolding told readies gone-read
change_agrees (wakes c) p l o r a = wakes-agrees c p l r a
change_agrees {v} (makes i n same pos unused under out) p l o r a = made-agrees v p l r a i n pos unused under
change_agrees {v} (dispatches i rest u e h) p l o r a = runs-agrees v p l r a i rest u e h
change_agrees {v} (dozes i rest s there u e h free-there fits) p l o r a = doze_agrees v p l r a i rest u e h s free-there fits
change_agrees {v} (waits_on i rest u e h c) p l o r a = waits_on-agrees v p l r a i rest u e h c
change_agrees {v} (gives_way i u h) p l o r a = yield-agrees v p l r a i u h
change_agrees {v} (goes_asleep i s call there u h free-there fits) p l o r a =
    sleeps-agrees v p l r a i u h (sleeps_v i s call v) call (on_rendez s) refl refl refl (fits-rendez s call fits) (at_same s (some i) v.sleeper) (sleep-others v i u s call free-there)
change_agrees {v} (waits i u h) p l o r a =
    sleeps-agrees v p l r a i u h (waits_v i v) in_wait on_own_waitr refl refl refl refl (at_same i true v.on_waitr) (wait-others v i u)
change_agrees {v} (queues i q there u h) p l o r a =
    sleeps-agrees v p l r a i u h (queues_v i q v) (in_qlock q) (in_lock_queue q) refl refl refl tt
    (subst (λ (x : List ℕ). 1 ≤ count i x) (sym (at_same q (v.waiters q ++ i ∷ []) v.waiters)) (last_in i (v.waiters q))) (queue-others v i u q)
change_agrees {v} (leaves i u h out c) p l o r a =
    wakes-agrees c (gone-apart v p l r a i u h) (gone_lively v p l r a i u h o) (gone-read v p l r a i u h) (gone-agrees v p l r a i u h)
change_agrees {v} spends p l o r a = record { held = λ i h. spent i (r.place (v.pid i)) (a.held i h); lives = a.lives; up = a.up; old = a.old }
  where
    spent : (i : ℕ) (q : Place) → Held v i q → Held (spent_v v) i q
    spent i absent d = d
    spent i running d = d
    spent i in_run_queue d = d
    spent i (on_rendez s) d = d
    spent i on_own_waitr d = d
    spent i (in_lock_queue q) d = d
