-- The tick bound over a list.
use Rattle.std.specs.Prelude.{◌≡◌, Bool, List, [], ◌∷◌, ◌++◌, ℕ, ◌+◌, ◌*◌, ◌≤◌, length}
use Rattle.std.proofs.Math.Path.{refl}
use Rattle.std.proofs.Common.{sym, ap, ◌∙◌, subst, inl, inr, length-append, arith, leb-false}
use Rattle.std.proofs.Math.Bool.{true, false}
use Rattle.std.proofs.Math.Option.{Option, none, some}
use Rattle.std.proofs.Math.Dec.{leb}
use Rattle.machine.specs.Basics.{count}
use Rattle.machine.specs.Machine.{Machine, process}
use Rattle.machine.specs.Good.{Each}
use Rattle.history.proofs.Sound.{Sound}
use Rattle.history.specs.History.{Input, Event, gives, event_of, history_from, machine_after, Reading, reads, read_from, blank, runner_after, queue_after, dispatched_in, fired_in}
use Rattle.history.specs.Demand3.{Stay, InTurn, Attends, Attended}
use Rattle.history.proofs.View.{view}
use Rattle.history.proofs.Gives.{gives_changes}
use Rattle.history.proofs.Queue.{queue_pids}
use Rattle.history.proofs.Kept.{sound-gives}
use Rattle.history.proofs.Turns.{queue-one, passes, entered, turns}
use Rattle.history.proofs.Agrees.{up_pid, Agrees}
use Rattle.history.proofs.Placed.{step-agrees}
use Rattle.history.proofs.Ticks.{Ran, change_ticks, change_runner, sched-quiet, yield-quiet, due_now, not-empty, queue-busy}

-- one more event read
read_snoc : (r : Reading) (h : List Event) (e : Event) → read_from r (h ++ e ∷ []) ≡ reads (read_from r h) e
unfolding read_from
read_snoc r [] e = refl
read_snoc r (d ∷ h) e = read_snoc (reads r d) h e

-- What has been read of a history is what a machine holds.
pub record Tells (h : List Event) (m : Machine) : Type 0 where
  pub agrees : Agrees (read_from blank h) (view m)
  pub queue : queue_after h ≡ queue_pids m

pub tells-next : (h : List Event) (m : Machine) → Sound m → (x : Input) → Tells h m → Tells (h ++ event_of x (gives m x) ∷ []) (gives m x).after
tells-next h m g x t =
    let e : Event = event_of x (gives m x) in
    record {
      agrees = subst (λ (r : Reading). Agrees r (view (gives m x).after)) (sym (read_snoc blank h e)) (step-agrees m g x (read_from blank h) t.agrees);
      queue = queue-one m g x h t.queue;
    }

-- One step of a stay. B is past the ticks and past the quantum of who runs.
module _ (h : List Event) (m : Machine) (t : Tells h m) (x : Input) (n : ℕ) (ahead behind : List ℕ) (stands : queue_pids m ≡ ahead ++ n ∷ behind) (w : Attends h m x)
    (B : ℕ) (under : m.ticks ≤ B) (runner : (i : ℕ) → m.up ≡ some i → (process m i).quantum_end ≤ B)
  where
    step-ticks : m.ticks + (gives m x).fired ≤ B
    unfolding runner_after
    step-ticks = go m.up refl
      where
        late : (i : ℕ) → m.up ≡ some i → (b : Bool) → leb (process m i).quantum_end m.ticks ≡ b → m.ticks + (gives m x).fired ≤ B
        late i u true e =
            let z : (gives m x).fired ≡ 0 = yield-quiet m x (w.yields (due_now m i u e (queue-busy m ahead n behind stands))) in
            omega arith
        late i u false e = omega (arith, leb-false (process m i).quantum_end m.ticks e, runner i u, w.ticks)

        go : (o : Option ℕ) → m.up ≡ o → m.ticks + (gives m x).fired ≤ B
        go none u =
            let z : (gives m x).fired ≡ 0 =
            sched-quiet m x
            (w.scheds (t.agrees.up ∙ ap (up_pid (view m).pid) u) (λ (e : queue_after h ≡ []). not-empty ahead n behind (sym e ∙ t.queue ∙ stands))) in
            omega arith
        go (some i) u = late i u (leb (process m i).quantum_end m.ticks) refl

    -- who runs afterwards has no longer quantum than ten ticks for each dispatch on top
    step-runner : Sound m → (i : ℕ) → (gives m x).after.up ≡ some i → (process (gives m x).after i).quantum_end ≤ B + 10 * length (gives m x).dispatched
    step-runner g i u = go (change_runner (gives_changes m g x) i u)
      where
        go : Ran (view m) (gives m x).dispatched (view (gives m x).after) i → (process (gives m x).after i).quantum_end ≤ B + 10 * length (gives m x).dispatched
        go (inl r) = let a = r.1 in let b = runner i r.0 in omega arith
        go (inr r) = let a = r.0 in let b = r.1 in omega arith

-- The ticks are the firings.
pub ticks-from : (m : Machine) → Sound m → (xs : List Input) → (machine_after m xs).ticks ≡ m.ticks + fired_in (history_from m xs)
ticks-from m g [] = omega arith
ticks-from m g (x ∷ xs) =
    omega (arith, change_ticks (gives_changes m g x), ticks-from (gives m x).after (sound-gives m g x) xs)

bound : (h : List Event) (m : Machine) → Sound m → Tells h m → (xs : List Input) (n : ℕ) (ahead behind : List ℕ)
    → queue_pids m ≡ ahead ++ n ∷ behind
    → Each (λ (d : Event). count n d.dispatched ≡ 0) (history_from m xs)
    → Attended h m xs
    → (B : ℕ) → m.ticks ≤ B → ((i : ℕ) → m.up ≡ some i → (process m i).quantum_end ≤ B)
    → fired_in (history_from m xs) + m.ticks ≤ B + 10 * length (dispatched_in (history_from m xs))
bound h m g t [] n ahead behind e s w B a b = omega arith
bound h m g t (x ∷ xs) n ahead behind e s w B a b =
    let after : Machine = (gives m x).after in
    let ds : List ℕ = (gives m x).dispatched in
    let more : List Event = history_from after xs in
    let p = passes m g x n ahead behind e s.0 in
    let ticks : after.ticks ≡ m.ticks + (gives m x).fired = change_ticks (gives_changes m g x) in
    let k : m.ticks + (gives m x).fired ≤ B = step-ticks h m t x n ahead behind e w.0 B a b in
    let rest : fired_in more + after.ticks ≤ (B + 10 * length ds) + 10 * length (dispatched_in more) =
    bound (h ++ event_of x (gives m x) ∷ []) after (sound-gives m g x) (tells-next h m g x t) xs n p.0 (behind ++ (gives m x).readied) p.2 s.1 w.1
    (B + 10 * length ds) (omega arith) (step-runner h m t x n ahead behind e w.0 B a b g) in
    let long : length (ds ++ dispatched_in more) ≡ length ds + length (dispatched_in more) = length-append ds (dispatched_in more) in
    omega arith

-- The bound for a stay, from any machine that the history tells.
pub ticks-bound : (h : List Event) (m : Machine) → Sound m → Tells h m → (x : Input) (stay : List Input) (n : ℕ) (ahead : List ℕ)
    → Stay h (event_of x (gives m x)) (history_from (gives m x).after stay) n ahead
    → (gives m x).fired ≤ 1
    → Attended (h ++ event_of x (gives m x) ∷ []) (gives m x).after stay
    → (gives m x).fired + fired_in (history_from (gives m x).after stay) ≤ 10 * (length ahead + 1)
ticks-bound h m g t x stay n ahead s one w =
    let after : Machine = (gives m x).after in
    let more : List Event = history_from after stay in
    let e : queue_pids after ≡ ahead ++ n ∷ s.others =
    entered m g x n s.first s.others s.enters
    ∙ ap (λ (l : List ℕ). l ++ n ∷ s.others) (ap (λ (l : List ℕ). l ++ s.first) (sym t.queue) ∙ sym s.stands) in
    let ticks : after.ticks ≡ m.ticks + (gives m x).fired = change_ticks (gives_changes m g x) in
    let b : fired_in more + after.ticks ≤ (m.ticks + 10) + 10 * length (dispatched_in more) =
    bound (h ++ event_of x (gives m x) ∷ []) after (sound-gives m g x) (tells-next h m g x t) stay n ahead s.others e s.stays w (m.ticks + 10) (omega arith) (first) in
    let turn : InTurn (h ++ event_of x (gives m x) ∷ []) more n ahead = turns h m g t.queue x stay n ahead s in
    let long : length (dispatched_in more ++ turn.left) ≡ length (dispatched_in more) + length turn.left = length-append (dispatched_in more) turn.left in
    let k : length (dispatched_in more ++ turn.left) ≡ length ahead = ap length turn.served in
    omega arith
  where
    first : (i : ℕ) → (gives m x).after.up ≡ some i → (process (gives m x).after i).quantum_end ≤ m.ticks + 10
    first i u = go (change_runner (gives_changes m g x) i u)
      where
        go : Ran (view m) (gives m x).dispatched (view (gives m x).after) i → (process (gives m x).after i).quantum_end ≤ m.ticks + 10
        go (inl r) = let a = r.1 in let q = g.quantum i in omega arith
        go (inr r) = let a = r.1 in omega arith
