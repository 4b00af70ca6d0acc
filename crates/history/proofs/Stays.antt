-- Stays in the run queue on a small machine, and a test of what the tick bound asks of them.
use Rattle.std.specs.Prelude.{◌≡◌, refl, Bool, true, false, not, ◌&&◌, List, [], ◌∷◌, ◌++◌, map, ℕ, eqb, leb}
use Rattle.std.proofs.Math.Option.{some}
use Rattle.std.proofs.Common.{arith, leb-true, eq-eqb}
use Rattle.std.proofs.lemmas.Bool.{and_parts}
use Rattle.machine.specs.Machine.{Machine, Sizes}
use Rattle.machine.specs.Step.{Body, start, sched, yield, clock, intr}
use Rattle.machine.specs.Outcome.{Answer, Reply, answer, refused}
use Rattle.machine.specs.Perform.{preempt_due}
use Rattle.history.specs.History.{Input, Event, gives, event_of, runner_after}
use Rattle.history.specs.Demand3.{Attends, Attended}

-- 10 ms are one count.
abbrev pub small : Sizes
small = record { processes = 3; rendez = 1; locks = 1; timers = 1; cells = 1; hz = 100 }

abbrev pub asked : Body → Input
asked b = record { step = some (record { marked = false; body = b }); buffer = 127 }

-- 1 runs and 2 is ready when 3 enters.
abbrev pub before : List Input
before = map asked (clock 0 ∷ start 0 ∷ sched ∷ start 0 ∷ [])

abbrev pub entering : Input
entering = asked (start 0)

-- What is done in the stay: timer 0 fires while someone runs who is not due; who is due yields; the next is dispatched.
pub data Does : Type 0 where
  ticks : (NOW : ℕ) → Does
  gives_way : Does
  is_next : Does

abbrev pub does : Does → Input
does (ticks NOW) = asked (intr NOW)
does gives_way = asked yield
does is_next = asked sched

-- The tick bound's conditions as a test.
unfoldable pub accepted : Reply → Bool
accepted (answer a) = true
accepted (refused number) = false

unfoldable pub passes : List Event → Machine → Does → Bool
passes h m (ticks NOW) = leb (gives m (does (ticks NOW))).fired 1 && not (eqb (runner_after h) 0) && not (preempt_due m)
passes h m gives_way = leb (gives m (does gives_way)).fired 1 && not (eqb (runner_after h) 0) && accepted (gives m (does gives_way)).reply
passes h m is_next = leb (gives m (does is_next)).fired 1 && accepted (gives m (does is_next)).reply && not (preempt_due m)

unfoldable pub all_pass : List Event → Machine → List Does → Bool
all_pass h m [] = true
all_pass h m (d ∷ ds) = passes h m d && all_pass (h ++ event_of (does d) (gives m (does d)) ∷ []) (gives m (does d)).after ds

never : {A : Type 0} (b : Bool) → not b ≡ true → b ≡ true → A
never true e d = absurd (let z : ◌≡◌ {A = ℕ} 0 1 = cc in omega arith)
never false e d = absurd (let z : ◌≡◌ {A = ℕ} 0 1 = cc in omega arith)

an_answer : (r : Reply) → accepted r ≡ true → (a : Answer) × (r ≡ answer a)
unfolding accepted
an_answer (answer a) e = (a, refl)
an_answer (refused number) e = absurd (let z : ◌≡◌ {A = ℕ} 0 1 = cc in omega arith)

attends : (h : List Event) (m : Machine) (d : Does) → passes h m d ≡ true → Attends h m (does d)
unfolding passes
attends h m (ticks NOW) e =
    let p = and_parts (leb (gives m (does (ticks NOW))).fired 1 && not (eqb (runner_after h) 0)) (not (preempt_due m)) e in
    let q = and_parts (leb (gives m (does (ticks NOW))).fired 1) (not (eqb (runner_after h) 0)) p.0 in
    record {
      ticks = leb-true (gives m (does (ticks NOW))).fired 1 q.0;
      scheds = λ u n. never (eqb (runner_after h) 0) q.1 (eq-eqb (runner_after h) 0 u);
      yields = λ u. never (preempt_due m) p.1 u;
    }
attends h m gives_way e =
    let p = and_parts (leb (gives m (does gives_way)).fired 1 && not (eqb (runner_after h) 0)) (accepted (gives m (does gives_way)).reply) e in
    let q = and_parts (leb (gives m (does gives_way)).fired 1) (not (eqb (runner_after h) 0)) p.0 in
    let a = an_answer (gives m (does gives_way)).reply p.1 in
    record {
      ticks = leb-true (gives m (does gives_way)).fired 1 q.0;
      scheds = λ u n. never (eqb (runner_after h) 0) q.1 (eq-eqb (runner_after h) 0 u);
      yields = λ u. record { marked = false; asked = refl; reply = a.0; done = a.1 };
    }
attends h m is_next e =
    let p = and_parts (leb (gives m (does is_next)).fired 1 && accepted (gives m (does is_next)).reply) (not (preempt_due m)) e in
    let q = and_parts (leb (gives m (does is_next)).fired 1) (accepted (gives m (does is_next)).reply) p.0 in
    let a = an_answer (gives m (does is_next)).reply q.1 in
    record {
      ticks = leb-true (gives m (does is_next)).fired 1 q.0;
      scheds = λ u n. record { marked = false; asked = refl; reply = a.0; done = a.1 };
      yields = λ u. never (preempt_due m) p.1 u;
    }

pub attended : (ds : List Does) (h : List Event) (m : Machine) → all_pass h m ds ≡ true → Attended h m (map does ds)
unfolding all_pass
attended [] h m e = tt
attended (d ∷ ds) h m e =
    let p = and_parts (passes h m d) (all_pass (h ++ event_of (does d) (gives m (does d)) ∷ []) (gives m (does d)).after ds) e in
    (attends h m d p.0, attended ds (h ++ event_of (does d) (gives m (does d)) ∷ []) (gives m (does d)).after p.1)
