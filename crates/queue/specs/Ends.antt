-- A queue's ends as numbers, and what `pop` gives.
use Rattle.std.specs.Prelude.{Option, Some, None, ℕ, suc}
use Rattle.memory.specs.Link.{link}
use Rattle.queue.specs.declared.RunQueue.{RunQueue}

-- `head` and `tail` are links: 0 for none, and i + 1 for record i.
pub record Ends : Type 0 where
  pub head : ℕ
  pub tail : ℕ
  pub asleep : ℕ

abbrev pub ends : RunQueue → Ends
ends q = record { head = link q.head; tail = link q.tail; asleep = q.asleep }

-- The link to the process taken off, 0 for none, and the queue after.
pub record Popped : Type 0 where
  pub link : ℕ
  pub queue : Ends

-- A link and a queue as one answer.
abbrev pub popped : ℕ → Ends → Popped
popped l q = record { link = l; queue = q }

-- Of nobody and the queue as it was, or of the first and the rest.
abbrev pub taken : RunQueue → Option (ℕ × RunQueue) → Popped
taken q None = popped 0 (ends q)
taken q (Some x) = popped (suc x.0) (ends x.1)
