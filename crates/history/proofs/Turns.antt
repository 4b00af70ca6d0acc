-- Over a list: whoever stays in the run queue is passed only by those ahead.
use Rattle.std.specs.Prelude.{◌≡◌, refl, List, [], ◌∷◌, ◌++◌, ◌⊎◌, ℕ, ◌+◌, ◌≤◌, length, drop}
use Rattle.std.proofs.Common.{sym, ap, ◌∙◌, append_assoc, inl, inr, arith}
use Rattle.machine.specs.Basics.{count}
use Rattle.machine.specs.Machine.{Machine}
use Rattle.machine.specs.Good.{Each}
use Rattle.history.proofs.Sound.{Sound}
use Rattle.history.specs.History.{Input, Event, gives, event_of, history_from, machine_after, says_of, queue_from, queue_after, dispatched_in}
use Rattle.history.specs.Demand3.{Stay, InTurn, Dispatches}
use Rattle.history.proofs.Kept.{sound-gives}
use Rattle.history.proofs.Queue.{queue_pids, key_law, either_law, dispatch_law, queue-next, cut, queue_differs}
use Rattle.lists.specs.Lists.{count-append}

-- The run queue read over one history and then another, and over one event more.
queue-append : (q : List ℕ) (h k : List Event) → queue_from q (h ++ k) ≡ queue_from (queue_from q h) k
queue-append q [] k = refl
queue-append q (e ∷ h) k = queue-append (drop (length e.dispatched) (q ++ e.readied)) h k

pub queue-one : (m : Machine) → Sound m → (x : Input) (h : List Event) → queue_after h ≡ queue_pids m → queue_after (h ++ event_of x (gives m x) ∷ []) ≡ queue_pids (gives m x).after
queue-one m g x h q =
    queue-append [] h (event_of x (gives m x) ∷ [])
    ∙ ap (λ (l : List ℕ). drop (length (gives m x).dispatched) (l ++ (gives m x).readied)) q
    ∙ queue-next m g x

-- First in, first out.
pub fifo : (m : Machine) → Sound m → (x : Input) (h : List Event) → queue_after h ≡ queue_pids m
    → (gives m x).dispatched ++ queue_after (h ++ event_of x (gives m x) ∷ []) ≡ queue_after h ++ (gives m x).readied
fifo m g x h q =
    ap (λ (l : List ℕ). (gives m x).dispatched ++ l) (queue-one m g x h q) ∙ key_law m g x ∙ ap (λ (l : List ℕ). l ++ (gives m x).readied) (sym q)

front : (p n : ℕ) (ahead others : List ℕ) → count p ahead + count p (n ∷ others) ≤ 1 → count p (n ∷ ahead) ≤ 1
unfolding count
front p n ahead others h = omega arith

pub sound-after : (m : Machine) → Sound m → (xs : List Input) → Sound (machine_after m xs)
sound-after m g [] = g
sound-after m g (x ∷ xs) = sound-after (gives m x).after (sound-gives m g x) xs

-- The run queue read from the history is the machine's.
pub queue_from_lem : (m : Machine) → Sound m → (xs : List Input) → queue_from (queue_pids m) (history_from m xs) ≡ queue_pids (machine_after m xs)
queue_from_lem m g [] = refl
queue_from_lem m g (x ∷ xs) =
    ap (λ (q : List ℕ). queue_from q (history_from (gives m x).after xs)) (queue-next m g x) ∙ queue_from_lem (gives m x).after (sound-gives m g x) xs

-- One step of a stay: who is dispatched stood ahead.
pub passes : (m : Machine) → Sound m → (x : Input) (n : ℕ) (ahead behind : List ℕ)
    → queue_pids m ≡ ahead ++ n ∷ behind
    → count n (gives m x).dispatched ≡ 0
    → (left : List ℕ) × ((gives m x).dispatched ++ left ≡ ahead) × (queue_pids (gives m x).after ≡ left ++ n ∷ (behind ++ (gives m x).readied))
passes m g x n ahead behind e c =
    cut n (gives m x).dispatched ahead (behind ++ (gives m x).readied) (queue_pids (gives m x).after)
    (key_law m g x ∙ ap (λ (q : List ℕ). q ++ (gives m x).readied) e ∙ append_assoc ahead (n ∷ behind) (gives m x).readied) c

-- All the steps of a stay.
pub served : (m : Machine) → Sound m → (xs : List Input) (n : ℕ) (ahead behind : List ℕ)
    → queue_pids m ≡ ahead ++ n ∷ behind
    → Each (λ (d : Event). count n d.dispatched ≡ 0) (history_from m xs)
    → (left : List ℕ) × (dispatched_in (history_from m xs) ++ left ≡ ahead) × (since : List ℕ) × (queue_pids (machine_after m xs) ≡ left ++ n ∷ since)
served m g [] n ahead behind e h = (ahead, refl, behind, e)
served m g (x ∷ xs) n ahead behind e h =
    let ds : List ℕ = (gives m x).dispatched in
    let p = passes m g x n ahead behind e h.0 in
    let r = served (gives m x).after (sound-gives m g x) xs n p.0 (behind ++ (gives m x).readied) p.2 h.1 in
    (r.0, append_assoc ds (dispatched_in (history_from (gives m x).after xs)) r.0 ∙ ap (λ (l : List ℕ). ds ++ l) r.1 ∙ p.1, r.2, r.3)

-- Who is dispatched, event by event.
pub dispatched-from : (m : Machine) → Sound m → (xs : List Input) → Each (λ (e : Event). Dispatches (says_of e.asked.step e.reply) e.dispatched) (history_from m xs)
dispatched-from m g [] = tt
dispatched-from m g (x ∷ xs) = (dispatch_law m g x, dispatched-from (gives m x).after (sound-gives m g x) xs)

-- The entering step: behind the queue and whom it readied before.
pub entered : (m : Machine) → Sound m → (x : Input) (n : ℕ) (first others : List ℕ)
    → (gives m x).readied ≡ first ++ n ∷ others
    → queue_pids (gives m x).after ≡ (queue_pids m ++ first) ++ n ∷ others
entered m g x n first others e = go (either_law m g x)
  where
    go : ((gives m x).readied ≡ []) ⊎ ((gives m x).dispatched ≡ []) → queue_pids (gives m x).after ≡ (queue_pids m ++ first) ++ n ∷ others
    go (inl z) = absurd (none_in first (sym z ∙ e))
      where
        none_in : (l : List ℕ) → [] ≡ l ++ n ∷ others → ⊥
        none_in [] d = let y : ◌≡◌ {A = ℕ} 0 1 = cc in omega arith
        none_in (a ∷ l) d = let y : ◌≡◌ {A = ℕ} 0 1 = cc in omega arith
    go (inr z) =
        ap (λ (ds : List ℕ). ds ++ queue_pids (gives m x).after) (sym z)
        ∙ key_law m g x
        ∙ ap (λ (rs : List ℕ). queue_pids m ++ rs) e
        ∙ sym (append_assoc (queue_pids m) first (n ∷ others))

-- A stay, from any machine whose run queue is as read.
pub turns : (h : List Event) (m : Machine) → Sound m → queue_after h ≡ queue_pids m → (x : Input) (stay : List Input) (n : ℕ) (ahead : List ℕ)
    → Stay h (event_of x (gives m x)) (history_from (gives m x).after stay) n ahead
    → InTurn (h ++ event_of x (gives m x) ∷ []) (history_from (gives m x).after stay) n ahead
turns h m g q x stay n ahead s =
    let after : Machine = (gives m x).after in
    let e : queue_pids after ≡ ahead ++ n ∷ s.others =
    entered m g x n s.first s.others s.enters
    ∙ ap (λ (l : List ℕ). l ++ n ∷ s.others) (ap (λ (l : List ℕ). l ++ s.first) (sym q) ∙ sym s.stands) in
    let r = served after (sound-gives m g x) stay n ahead s.others e s.stays in
    record {
      left = r.0;
      behind = r.2;
      served = r.1;
      differ = λ p.
          let c : count p (queue_pids after) ≡ count p ahead + count p (n ∷ s.others) = ap (count p) e ∙ count-append p ahead (n ∷ s.others) in
          let one : count p (queue_pids after) ≤ 1 = queue_differs after (sound-gives m g x) p in
          front p n ahead s.others (omega arith);
      waits =
          queue-append [] (h ++ event_of x (gives m x) ∷ []) (history_from after stay)
          ∙ ap (λ (l : List ℕ). queue_from l (history_from after stay)) (queue-one m g x h q)
          ∙ queue_from_lem after (sound-gives m g x) stay
          ∙ r.3;
    }
