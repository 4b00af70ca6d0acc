-- The stores that push to and pop from a queue of processes go to records that are in use.
use Rattle.std.specs.Prelude.{◌≡◌, refl, List, [], ◌∷◌, ℕ, zero, suc}
use Rattle.std.proofs.Common.{sym, subst, ◌∙◌, arith}
use Rattle.machine.specs.Machine.{Sizes}
use Rattle.machine.specs.Good.{Each}
use Rattle.layout.specs.Memory.{Memory}
use Rattle.chain.specs.Lists.{all_map}
use Rattle.chain.specs.Links.{Queue, final}
use Rattle.state.specs.Fields as fields
use Rattle.state.specs.Abs.{run_list, waiter_list}
use Rattle.state.specs.WellFormed.{Used}
use Rattle.state.specs.declared.Sizes as code
use Rattle.rules.specs.Facts.{WaitsHere}
use Rattle.queue.specs.Push.{push_writes}
use Rattle.holds.specs.Holds.{Placed}
use Rattle.holds.specs.Use.{used_by, EachInUse, before}
use Rattle.places.specs.Nowhere.{state-used}

-- What holds of each in a queue holds of its last.
final-each : (P : ℕ → Type 0) (d : ℕ) (xs : List ℕ) → ((u : ℕ) → d ≡ suc u → P u) → Each P xs → (u : ℕ) → final d xs ≡ suc u → P u
final-each P d [] h e u q = h u q
final-each P d (x ∷ xs) h e u q = final-each P (suc x) xs (λ v y. subst P (omega (arith, y)) e.0) e.1 u q

queue-last
    : {n : ℕ} {g : ℕ → ℕ} {h t : ℕ} {xs : List ℕ} (P : ℕ → Type 0) → Queue n g h t xs → Each P xs → (u : ℕ) → t ≡ suc u → P u
queue-last {xs = xs} P q e u y = final-each P 0 xs (λ v z. absurd (omega (arith, z))) e u (sym q.ends ∙ y)

module _ {z : Sizes} {m : Memory} {n : ℕ} (p : Placed z m n) where
  -- The last of the run queue, and of a lock's queue, lives.
  pub run-last-used : (u : ℕ) → m fields.run_tail 0 ≡ suc u → Used m u
  run-last-used u e =
      queue-last (Used m) p.run.queue (all_map (λ i (h : m fields.state_of i ≡ 2). state-used p i (omega (arith, h))) (run_list z m) p.run.ready) u e

  pub lock-last-used : (q u : ℕ) → m fields.lock_tail q ≡ suc u → Used m u
  lock-last-used q u e =
      queue-last (Used m) (p.locks q)
      (all_map (λ i (h : WaitsHere m q i). state-used p i (omega (arith, h.state))) (waiter_list z m q) (p.waiting q)) u e

-- i, who lives, is put behind the last.
pub push-in_use
    : {z : code.Sizes} {m m' : Memory} (t i : ℕ) → Used m i → ((u : ℕ) → t ≡ suc u → Used m u) → EachInUse z m m' (push_writes t i)
unfolding used_by
push-in_use zero i h g = EachInUse.more (before h) EachInUse.none
push-in_use (suc t) i h g = EachInUse.more (before h) (EachInUse.more (before (g t refl)) EachInUse.none)
