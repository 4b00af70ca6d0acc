-- A queue whose first and last stand in the fields a and b of record r: somebody is put last, and the first is taken off.
use Rattle.std.specs.Prelude.{◌≡◌, Option, Some, None, List, ℕ, ◌≤◌}
use Rattle.std.proofs.Common.{arith}
use Rattle.memory.specs.Link.{link, IsLink}
use Rattle.layout.specs.Table.{Slot}
use Rattle.state.specs.declared.Sizes.{Sizes}
use Rattle.queue.specs.Ends.{Ends, popped}
use Rattle.queue.specs.Held.{HeldAsks, Held, HeldStored}
use Rattle.queue.specs.Push.{PushAsks, PushDone}
use Rattle.queue.specs.Pop.{PopAsks, PopDone}

-- The fields lie within the bytes, and the queue that they hold may have i last.
pub record PushAtAsks (z : Sizes) (s : List ℕ) (a b : Slot) (r i : ℕ) : Type 0 where
  pub held : HeldAsks z s a b r
  pub asks : {q : Ends} → Held z s a b r q → PushAsks z s q i

-- i is put last in the queue that they hold, and then they hold that queue.
pub record PushedAt (z : Sizes) (s s' : List ℕ) (a b : Slot) (r i : ℕ) : Type 0 where
  pub before : Ends
  pub after : Ends
  pub linked : List ℕ
  pub held : Held z s a b r before
  pub pushed : PushDone z s linked before i after
  pub stored : HeldStored z linked s' a b r after

-- The same of whom is taken off.
pub record PopAtAsks (z : Sizes) (s : List ℕ) (a b : Slot) (r : ℕ) : Type 0 where
  pub held : HeldAsks z s a b r
  pub asks : {q : Ends} → Held z s a b r q → PopAsks z s q

-- The link l names the first of the queue, who is taken off; it is 0 where nobody is in the queue, and then nothing is stored.
pub record PoppedAt (z : Sizes) (s s' : List ℕ) (a b : Slot) (r l : ℕ) : Type 0 where
  pub before : Ends
  pub after : Ends
  pub linked : List ℕ
  pub held : Held z s a b r before
  pub popped : PopDone z s linked before (popped l after)
  pub none : l ≡ 0 → s' ≡ linked
  pub one : (l ≡ 0 → ⊥) → HeldStored z linked s' a b r after

-- A link to a record fits two bytes.
pub fits-link : {n : ℕ} (o : Option ℕ) → link o ≤ n → n ≤ 4096 → IsLink o
fits-link None l b = tt
fits-link (Some i) l b = omega (arith, l, b)
