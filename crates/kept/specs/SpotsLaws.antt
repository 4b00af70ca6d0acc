-- The places, when one of them changes.
use Rattle.std.specs.Prelude.{◌≡◌, refl, Bool, false, not, List, [], ◌⊎◌, ℕ, ◌+◌, ◌≤◌, ◌<◌, eqb, ltb, length, get_or, set}
use Rattle.std.proofs.Common.{sym, ap, ◌∙◌, subst, inl, inr, arith, eqb-true, eq-eqb, ne_eqb, ltb-true, ltb-false, length-set, get_or-set_same, get_or-set_other}
use Rattle.std.proofs.Math.Bool.{true}
use Rattle.std.proofs.Math.Option.{Option, none}
use Rattle.std.proofs.lemmas.Bool.{eqb-false}
use Rattle.std.proofs.Math.ListN.{get_or-eq_default}
use Rattle.machine.specs.Basics.{count, concat_map}
use Rattle.machine.specs.Machine.{Sizes, Resume, nothing, in_qlock, in_wait, Process, Lock, free, living}
use Rattle.machine.specs.Good.{SleepsOn, running_in}
use Rattle.lists.specs.Lists.{bit, count_concat_set, count_concat_get}
use Rattle.kept.specs.Fine.{at, unheld, lock_at, waiters_of, Spots}

-- What holds of the new element at its number, and of the others at theirs, holds after `set`.
pub get_cases : {A : Type 0} (P : ℕ → A → Type 0) (xs : List A) (i : ℕ) (v d : A) (k : ℕ)
    → i < length xs
    → P i v
    → ((k ≡ i → ⊥) → P k (get_or xs k d))
    → P k (get_or (set xs i v) k d)
get_cases P xs i v d k h p q = go (eqb k i) refl
  where
    go : (b : Bool) → eqb k i ≡ b → P k (get_or (set xs i v) k d)
    go true e = subst (λ (j : ℕ). P j (get_or (set xs i v) j d)) (sym (eqb-true k i e)) (rw (get_or-set_same xs i v d h) p)
    go false e = rw (get_or-set_other xs i k v d (eqb-false k i e)) (q (eqb-false k i e))

-- An element that is not the default has a number below the length.
pub low : {A : Type 0} (xs : List A) (i : ℕ) (d : A) → (get_or xs i d ≡ d → ⊥) → i < length xs
low xs i d h = go (ltb i (length xs)) refl
  where
    go : (b : Bool) → ltb i (length xs) ≡ b → i < length xs
    go true e = ltb-true i (length xs) e
    go false e = absurd (h (get_or-eq_default xs d {n = i} (ltb-false i (length xs) e)))

-- Who lives has a pid, and a record in the list.
pub lives-pid : (p : Process) → 1 ≤ bit (living p) → 0 < p.pid
unfolding living
lives-pid p h = go (eqb p.pid 0) refl
  where
    go : (b : Bool) → eqb p.pid 0 ≡ b → 0 < p.pid
    go true e = absurd (omega (arith, ap {B = ℕ} (λ b. bit (not b)) e))
    go false e = omega (arith, eqb-false p.pid 0 e)

-- Who has a pid lives.
pub pid-lives : (p : Process) → 0 < p.pid → living p ≡ true
unfolding living
pid-lives p h = ap not (ne_eqb p.pid 0 (λ e. omega arith))

-- Who has none does not.
pub pid_dead : (p : Process) → p.pid ≡ 0 → living p ≡ false
unfolding living
pid_dead p h = ap not (eq-eqb p.pid 0 h)

-- Who has a pid has a record in the list.
pub pid-low : (ps : List Process) (i : ℕ) → 0 < (at ps i).pid → i < length ps
unfolding free
pid-low ps i h = low ps i free (λ e. omega (arith, ap {B = ℕ} (λ p. p.pid) e))

module _ {z : Sizes} {o up : Option ℕ} {run : List ℕ} {sl : List (Option ℕ)} {ps : List Process} {ls : List Lock} (s : Spots z o up run sl ps ls) where
  -- Limbo, the runner and the run queue, as long as everybody is counted as before.
  pub spots-run : (o' up' : Option ℕ) (run' : List ℕ)
      → ((k : ℕ) → count k (running_in o') + count k (running_in up') + count k run' ≡ count k (running_in o) + count k (running_in up) + count k run)
      → ((k : ℕ) → 1 ≤ count k (running_in up') → (at ps k).resume ≡ nothing)
      → Spots z o' up' run' sl ps ls
  spots-run o' up' run' h r =
      record {
        rendez = s.rendez;
        locks = s.locks;
        placed = λ k. omega (arith, h k, s.placed k);
        runner = r;
        sleeper = s.sleeper;
        waiter = s.waiter;
        queuer = s.queuer;
        held = s.held;
      }

  -- A Rendez, where whoever is there then sleeps there.
  pub spots-sleeper : (o' : Option ℕ) (r : ℕ) (v : Option ℕ)
      → r < length sl
      → ((k : ℕ) → count k (running_in o') + count k (running_in v) ≡ count k (running_in o) + count k (running_in (get_or sl r none)))
      → ((k : ℕ) → 1 ≤ count k (running_in v) → SleepsOn r (at ps k).resume)
      → Spots z o' up run (set sl r v) ps ls
  spots-sleeper o' r v l h f =
      record {
        rendez = length-set sl r v ∙ s.rendez;
        locks = s.locks;
        placed = λ k. omega (arith, h k, s.placed k, count_concat_set running_in sl r v none k l);
        runner = s.runner;
        sleeper = λ q k. get_cases (λ (q : ℕ) (x : Option ℕ). 1 ≤ count k (running_in x) → SleepsOn q (at ps k).resume) sl r v none q l (f k) (λ n. s.sleeper q k);
        waiter = s.waiter;
        queuer = s.queuer;
        held = s.held;
      }

  -- A lock, where whoever waits there has a `qlock` of it, and it is held if somebody does.
  pub spots-lock : (o' : Option ℕ) (q : ℕ) (v : Lock)
      → q < length ls
      → ((k : ℕ) → count k (running_in o') + count k v.waiters ≡ count k (running_in o) + count k (lock_at ls q).waiters)
      → ((k : ℕ) → 1 ≤ count k v.waiters → (at ps k).resume ≡ in_qlock q)
      → (v.held ≡ false → v.waiters ≡ [])
      → Spots z o' up run sl ps (set ls q v)
  spots-lock o' q v l h f e =
      record {
        rendez = s.rendez;
        locks = length-set ls q v ∙ s.locks;
        placed = λ k. omega (arith, h k, s.placed k, count_concat_set waiters_of ls q v unheld k l);
        runner = s.runner;
        sleeper = s.sleeper;
        waiter = s.waiter;
        queuer = λ j k. get_cases (λ (j : ℕ) (x : Lock). 1 ≤ count k x.waiters → (at ps k).resume ≡ in_qlock j) ls q v unheld j l (f k) (λ n. s.queuer j k);
        held = λ j. get_cases (λ (j : ℕ) (x : Lock). x.held ≡ false → x.waiters ≡ []) ls q v unheld j l e (λ n. s.held j);
      }

  -- A record, where its call is as before or its process is in no place that a call must fit.
  pub spots-process : (o' : Option ℕ) (i : ℕ) (v : Process)
      → i < length ps
      → ((k : ℕ) → (k ≡ i → ⊥) → count k (running_in o') ≡ count k (running_in o))
      → count i (running_in o') + bit v.on_waitr + bit (living (at ps i)) ≡ count i (running_in o) + bit (at ps i).on_waitr + bit (living v)
      → (v.resume ≡ (at ps i).resume) ⊎ (count i (running_in up) + count i (concat_map running_in sl) + count i (concat_map waiters_of ls) ≡ 0)
      → (v.on_waitr ≡ true → v.resume ≡ in_wait)
      → Spots z o' up run sl (set ps i v) ls
  unfolding running_in
  spots-process o' i v l h c f w =
      record {
        rendez = s.rendez;
        locks = s.locks;
        placed = λ k. get_cases (λ (k : ℕ) (p : Process). count k (running_in o') + count k (running_in up) + count k run + count k (concat_map running_in sl) + bit p.on_waitr + count k (concat_map waiters_of ls) ≡ bit (living p)) ps i v free k l (omega (arith, c, s.placed i)) (λ n. omega (arith, h k n, s.placed k));
        runner = λ k. get_cases (λ (k : ℕ) (p : Process). 1 ≤ count k (running_in up) → p.resume ≡ nothing) ps i v free k l (runs f) (λ n. s.runner k);
        sleeper = λ r k. get_cases (λ (k : ℕ) (p : Process). 1 ≤ count k (running_in (get_or sl r none)) → SleepsOn r p.resume) ps i v free k l (sleeps r f) (λ n. s.sleeper r k);
        waiter = λ k. get_cases (λ (k : ℕ) (p : Process). p.on_waitr ≡ true → p.resume ≡ in_wait) ps i v free k l w (λ n. s.waiter k);
        queuer = λ q k. get_cases (λ (k : ℕ) (p : Process). 1 ≤ count k (lock_at ls q).waiters → p.resume ≡ in_qlock q) ps i v free k l (queues q f) (λ n. s.queuer q k);
        held = s.held;
      }
    where
      Calls : Type 0
      Calls = (v.resume ≡ (at ps i).resume) ⊎ (count i (running_in up) + count i (concat_map running_in sl) + count i (concat_map waiters_of ls) ≡ 0)

      runs : Calls → 1 ≤ count i (running_in up) → v.resume ≡ nothing
      runs (inl e) a = e ∙ s.runner i a
      runs (inr n) a = absurd (omega arith)

      sleeps : (r : ℕ) → Calls → 1 ≤ count i (running_in (get_or sl r none)) → SleepsOn r v.resume
      sleeps r (inl e) a = subst (λ (x : Resume). SleepsOn r x) (sym e) (s.sleeper r i a)
      sleeps r (inr n) a = absurd (omega (arith, count_concat_get running_in sl r none i refl))

      queues : (q : ℕ) → Calls → 1 ≤ count i (lock_at ls q).waiters → v.resume ≡ in_qlock q
      queues q (inl e) a = e ∙ s.queuer q i a
      queues q (inr n) a = absurd (omega (arith, count_concat_get waiters_of ls q unheld i refl))
