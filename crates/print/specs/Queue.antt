-- The run queue: a pid for each, a comma before each but the first.
use Rattle.std.specs.Prelude.{◌≡◌, refl, ℕ, suc, ◌*◌, ◌≤◌, length, List, [], ◌∷◌}
use Rattle.std.proofs.Common.{ap, ◌∙◌, arith}
use Rattle.machine.specs.Basics.{ascii}
use Rattle.machine.specs.Print.{print_queue}
use Rattle.chain.specs.Lists.{distinct-fits}
use Rattle.chain.specs.Links.{chain_first}
use Rattle.state.specs.Fields as fields
use Rattle.state.specs.Abs.{run_list, machine_of}
use Rattle.state.specs.Places.{mem_in}
use Rattle.state.specs.declared.Sizes.{Sizes}
use Rattle.exact.specs.Parts.{walk_none}
use Rattle.holds.specs.Holds.{Holds}
use Rattle.holds.specs.Did.{machine_in}
use Rattle.print.specs.Put.{Room, Put, put_join, put_as}
use Rattle.print.specs.Pids.{PidAsks, PidPut}
use Rattle.print.specs.Rest.{from, behind, Leads, First, first, RestAsks, RestPut}

-- There is room for the run queue; it, or -, is put.
pub record QueueAsks (z : Sizes) (s out : List ℕ) (at : ℕ) : Type 0 where
  pub holds : Holds z s 0
  pub room : Room (21 * z.processes) out at

pub record QueuePut (z : Sizes) (s out : List ℕ) (at : ℕ) (out' : List ℕ) (r : ℕ) : Type 0 where
  pub put : Put (21 * z.processes) out at (print_queue (machine_in z s)) out' r

-- The run queue, by the link l to its first.
module _ {z : Sizes} {s out : List ℕ} {at : ℕ} (a : QueueAsks z s out at) {l : ℕ} (e : l ≡ mem_in z s fields.run_head 0) where
  run : (machine_in z s).run ≡ from z s l
  unfolding machine_of run_list
  run = rw e

  queue : Leads z s l
  unfolding run_list
  queue = rw e a.holds.keeps.placed.run.queue.chain

  few : length (from z s l) ≤ z.processes
  few = distinct-fits z.processes (from z s l) queue.distinct queue.below

-- Nobody is in it.
pub queue-none : {z : Sizes} {s out : List ℕ} {at : ℕ} {out' : List ℕ} {r : ℕ} → QueueAsks z s out at → 0 ≡ mem_in z s fields.run_head 0
    → Put 1 out at (45 ∷ []) out' r → QueuePut z s out at out' r
unfolding print_queue ascii
queue-none {z} {s} a e p =
    let n : (machine_in z s).run ≡ [] = run a e ∙ walk_none z.processes (mem_in z s fields.next) 0 refl in
    record { put = put_as p (rw n) (omega (arith, a.holds.sizes.processes.0)) }

-- Process i is its first.
module _ {z : Sizes} {s out : List ℕ} {at : ℕ} (a : QueueAsks z s out at) {i : ℕ} (e : suc i ≡ mem_in z s fields.run_head 0) where
  head : First z s i
  head = first z s i (queue a e)

  fit : suc (length (behind z s i)) ≤ z.processes
  fit = omega (arith, few a e, ap length head.split)

  pub queue-first : PidAsks z s i out at
  queue-first = record { holds = a.holds; index = omega (arith, chain_first (queue a e)); room = omega (arith, a.room, fit) }

  module _ {out₁ : List ℕ} {r₁ : ℕ} (p : PidPut z s i out at out₁ r₁) where
    pub queue-rest : RestAsks z s i out₁ r₁
    queue-rest =
        record {
          holds = a.holds;
          index = omega (arith, chain_first (queue a e));
          leads = head.leads;
          room = omega (arith, a.room, fit, p.put.ends, p.put.few, p.put.long);
        }

    pub queue-some : {out₂ : List ℕ} {r₂ : ℕ} → RestPut z s i out₁ r₁ out₂ r₂ → QueuePut z s out at out₂ r₂
    unfolding print_queue
    queue-some q = record { put = put_as (put_join p.put q.put) (rw (run a e ∙ head.split)) (omega (arith, fit)) }
