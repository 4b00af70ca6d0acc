-- What is used as timers enter the queue and leave it, and that the stores go to it.
use Rattle.std.specs.Prelude.{if◌then◌else◌, ◌≡◌, refl, Bool, true, false, ◌||◌, ℕ, zero, suc, ◌<◌, eqb}
use Rattle.std.proofs.Common.{ap, subst, arith, eqb-true, lit<}
use Rattle.std.proofs.lemmas.Bool.{eqb-false}
use Rattle.layout.specs.Memory.{Memory, alter}
use Rattle.chain.specs.Links.{alter-same, alter-other}
use Rattle.state.specs.Fields as fields
use Rattle.state.specs.declared.Sizes.{Sizes}
use Rattle.timers.specs.Insert.{insert_stores, insert_mem}
use Rattle.timers.specs.Remove.{remove_stores, remove_mem, links_out}
use Rattle.timers.specs.Linked.{LinkQueued}
use Rattle.holds.specs.Use.{from_to, used_by, Calm, Fewer, Between, EachInUse, none, more, before, after}
use Rattle.holds.specs.Fewer.{zeros-alter, fewer_by}
use Rattle.holds.specs.Leftover.{Ceased, ceased_by, ceased_grown}

-- A removal takes from what is used, and leaves the deadlines.
remove-calm : (m : Memory) (flag p t : ℕ) → Calm m (remove_mem m flag p t)
remove-calm m flag p t = record { parents = refl; deadlines = refl; exit_pids = refl; lengths = refl; bytes = refl }

pub remove-fewer : (z : Sizes) (m : Memory) (flag p t : ℕ) → Fewer z m (remove_mem m flag p t)
remove-fewer z m flag p t = fewer_by refl refl (zeros-alter (m fields.is_queued) t) (λ i e. e) (remove-calm m flag p t)

-- Its link is cleared.
pub remove-ceased : {z : Sizes} (m : Memory) (flag p t : ℕ) → m fields.is_queued t ≡ flag → Ceased z m (remove_mem m flag p t)
remove-ceased m flag p t e =
    ceased_by (remove-calm m flag p t) refl (λ f i r u v. absurd (omega (arith, u, v))) (λ i u v. go i u v (eqb t i) refl) (λ c u v. absurd (omega (arith, u, v)))
  where
    -- the last store but the flag's
    out : (flag p : ℕ) → 0 < flag → links_out m flag p t t ≡ 0
    out zero p h = absurd (omega arith)
    out (suc flag) zero h = alter-same (m fields.timer_next) t 0
    out (suc flag) (suc p) h = alter-same (alter (m fields.timer_next) p (m fields.timer_next t)) t 0

    go : (i : ℕ) → 0 < m fields.is_queued i → alter (m fields.is_queued) t 0 i ≡ 0 → (b : Bool) → eqb t i ≡ b → links_out m flag p t i ≡ 0
    go i u v true q =
        let d : t ≡ i = eqb-true t i q in
        subst (λ (k : ℕ). links_out m flag p t k ≡ 0) d (out flag p (omega (arith, e, u, ap (m fields.is_queued) d)))
    go i u v false q = absurd (omega (arith, u, v, alter-other (m fields.is_queued) t 0 i (eqb-false t i q)))

-- An insertion adds no more to it than what is used where the timer is queued.
by_test
    : (b : Bool) {x x₁ x₂ y y₁ y₂ : ℕ}
    → (x ≡ 0 → x₁ ≡ 0 → x₂ ≡ 0)
    → (y ≡ 0 → y₁ ≡ 0 → y₂ ≡ 0)
    → (if b then x else y) ≡ 0
    → (if b then x₁ else y₁) ≡ 0
    → (if b then x₂ else y₂) ≡ 0
by_test true p q a b = p a b
by_test false p q a b = q a b

pub insert-uses
    : (z : Sizes) (m : Memory) (p t d : ℕ) (k : Memory) → 0 < k fields.is_queued t → Between z k (insert_mem m p t d) m
unfolding used_by
insert-uses z m p t d k h =
    record {
      between = λ f i.
          by_test (eqb f fields.parent_at) (λ a b. b)
          (by_test (from_to fields.pid fields.resume_object f) (λ a b. b)
          (by_test (eqb f fields.name_byte) (λ a b. b)
          (by_test (eqb f fields.period || eqb f fields.timer_rendez) (λ a b. b)
          (by_test (from_to fields.deadline fields.is_queued f) (λ a b. go i a b (eqb t i) refl) (λ a b. b)))));
    }
  where
    go : (i : ℕ) → k fields.is_queued i ≡ 0 → m fields.is_queued i ≡ 0 → (b : Bool) → eqb t i ≡ b → (if b then 1 else m fields.is_queued i) ≡ 0
    go i x y true e = absurd (omega (arith, h, ap (k fields.is_queued) (eqb-true t i e), x))
    go i x y false e = y

-- It ceases to use nothing.
pub insert-on : (m : Memory) (p t d i : ℕ) → 0 < m fields.is_queued i → 0 < insert_mem m p t d fields.is_queued i
insert-on m p t d i u = go (eqb t i)
  where
    go : (b : Bool) → 0 < (if b then 1 else m fields.is_queued i)
    go true = lit< tt
    go false = u

pub insert-ceased : {z : Sizes} (m : Memory) (p t d : ℕ) → Ceased z m (insert_mem m p t d)
insert-ceased m p t d = ceased_grown (record { alive = λ j u. u }) (λ j u. refl) (insert-on m p t d) (λ c u. u) (λ c u. refl)

-- The stores of both.
pub insert-in_use
    : (z : Sizes) (m : Memory) (p t d : ℕ) → LinkQueued (m fields.is_queued) p → EachInUse z m (insert_mem m p t d) (insert_stores m p t d)
unfolding used_by
insert-in_use z m p t d l = go p l
  where
    on : 0 < alter (m fields.is_queued) t 1 t
    on = omega (arith, alter-same (m fields.is_queued) t 1)

    go : (p : ℕ) → LinkQueued (m fields.is_queued) p → EachInUse z m (insert_mem m p t d) (insert_stores m p t d)
    go zero l = more (after on) (more (before (lit< tt)) (more (after on) (more (after on) none)))
    go (suc p) l = more (after on) (more (before l) (more (after on) (more (after on) none)))

pub remove-in_use
    : (z : Sizes) (m : Memory) (flag p t : ℕ)
    → m fields.is_queued t ≡ flag
    → LinkQueued (m fields.is_queued) p
    → EachInUse z m (remove_mem m flag p t) (remove_stores m flag p t)
unfolding used_by
remove-in_use z m zero p t e l = none
remove-in_use z m (suc flag) p t e l = go p l
  where
    on : 0 < m fields.is_queued t
    on = omega (arith, e)

    go : (p : ℕ) → LinkQueued (m fields.is_queued) p → EachInUse z m (remove_mem m (suc flag) p t) (remove_stores m (suc flag) p t)
    go zero l = more (before (lit< tt)) (more (before on) (more (before on) none))
    go (suc p) l = more (before l) (more (before on) (more (before on) none))
