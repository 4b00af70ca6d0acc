-- A well-formed state keeps every group; and bytes that keep them, with nobody owed, represent their machine.
use Rattle.std.specs.Prelude.{◌≡◌, Bool, List, ℕ, ◌≤◌}
use Rattle.std.proofs.Math.Path.{refl, sym, ap}
use Rattle.std.proofs.Common.{subst, ◌∙◌, zero-add, lit<, ltb-true, ltb-false}
use Rattle.std.proofs.Math.Bool.{true, false}
use Rattle.std.proofs.Math.Dec.{ltb}
use Rattle.machine.specs.Machine as machine
use Rattle.machine.specs.Good.{SizesInRange, Good}
use Rattle.layout.specs.Table.{slot, start}
use Rattle.layout.specs.Memory.{Memory, mem, cell_in_lem}
use Rattle.layout.specs.Writes.{State}
use Rattle.chain.specs.Lists.{all_map}
use Rattle.chain.specs.Links.{walk, Queue}
use Rattle.state.specs.Fields as fields
use Rattle.state.specs.Abs.{sizes_of, memory_of, waiter_list, machine_of, abs}
use Rattle.state.specs.Places.{sizes_in, mem_in}
use Rattle.state.specs.WellFormed.{mark_value, Queues, Tagged, Idle, Rep, WellFormed}
use Rattle.state.specs.declared.Sizes.{Sizes}
use Rattle.exact.specs.Bounds.{InBounds, in_bounds}
use Rattle.exact.specs.Parts.{walk_none}
use Rattle.exact.specs.WellSpots.{well-sleeps, well-waits}
use Rattle.holds.specs.Holds.{Header, Placed, Timed, Keeps, Holds}

module _ {z : Sizes} {s : List ℕ} {n : ℕ} (h : Holds z s n) where
  pub holds-bounds : InBounds (sizes_in z) (mem_in z s)
  holds-bounds = in_bounds h.sizes h.state

  pub holds-sizes : sizes_of s ≡ sizes_in z
  unfolding sizes_of start
  holds-sizes =
      let k : Header (sizes_in z) (mem_in z s) = h.keeps.header in
      λ j. record {
        processes = (cell_in_lem fields.layout1 (fields.counts (sizes_in z)) s (slot 0 16 2) 0 (lit< tt) ∙ k.processes) j;
        rendez = (cell_in_lem fields.layout1 (fields.counts (sizes_in z)) s (slot 0 18 2) 0 (lit< tt) ∙ k.rendez) j;
        locks = (cell_in_lem fields.layout1 (fields.counts (sizes_in z)) s (slot 0 20 2) 0 (lit< tt) ∙ k.locks) j;
        timers = (cell_in_lem fields.layout1 (fields.counts (sizes_in z)) s (slot 0 22 2) 0 (lit< tt) ∙ k.timers) j;
        cells = (cell_in_lem fields.layout1 (fields.counts (sizes_in z)) s (slot 0 24 2) 0 (lit< tt) ∙ k.cells) j;
        hz = (cell_in_lem fields.layout1 (fields.counts (sizes_in z)) s (slot 0 12 4) 0 (lit< tt) ∙ k.hz) j;
      }

  pub holds-memory : memory_of s ≡ mem_in z s
  holds-memory = ap (λ (v : machine.Sizes). mem fields.layout1 (fields.counts v) s) holds-sizes

  -- The machine of the bytes.
  pub holds-machine : abs s ≡ machine_of (sizes_in z) (mem_in z s)
  unfolding abs
  holds-machine = ap (λ (v : machine.Sizes). machine_of v (mem fields.layout1 (fields.counts v) s)) holds-sizes

-- The two groups of queues and tags as `Rep` has them.
queues_of : {z : machine.Sizes} {m : Memory} → Placed z m 0 → Timed z m → Queues z m
queues_of p t =
    record { run = p.run.queue; locks = λ q l. p.locks q; timers = t.chain; queued = t.queued; asleep = p.asleep ∙ zero-add _ }

pub tagged_of : {z : machine.Sizes} {m : Memory} → Placed z m 0 → Tagged z m
tagged_of {z} {m} p =
    record {
      free = p.free;
      used = p.used;
      running = p.running;
      ready = p.run.ready;
      sleeping = λ r i e. (p.rendez r i e).state;
      queueing = λ q. all_map (λ i w. w.state) (waiter_list z m q) (p.waiting q);
      unlinked = p.unlinked;
      blanks = p.blanks;
    }

-- `Rep` at sizes that are not yet known to be the header's.
record RepAt (s : List ℕ) (v : machine.Sizes) : Type 0 where
  sizes : SizesInRange v
  state : State fields.layout1 (fields.most_of v) (fields.counts v) s
  keeps : Keeps v (mem fields.layout1 (fields.counts v) s) 0
  idle : Idle (mem fields.layout1 (fields.counts v) s)

rep_at : (s : List ℕ) → RepAt s (sizes_of s) → Rep s
rep_at s r =
    record {
      sizes = r.sizes;
      state = r.state;
      mark = r.keeps.header.mark;
      layout = r.keeps.header.layout;
      queues = queues_of r.keeps.placed r.keeps.timed;
      tagged = tagged_of r.keeps.placed;
      cells = r.keeps.cells;
      ages = r.keeps.ages;
      index = r.keeps.index;
      idle = r.idle;
    }

-- With nobody owed, and nothing in what is free, the bytes represent their machine.
pub holds-rep : {z : Sizes} {s : List ℕ} → Holds z s 0 → Idle (mem_in z s) → Rep s
holds-rep {z} {s} h i =
    rep_at s (subst (RepAt s) (sym (holds-sizes h)) (record { sizes = h.sizes; state = h.state; keeps = h.keeps; idle = i }))

-- A well-formed state keeps every group, at the sizes that its header names.
module _ {z : machine.Sizes} {m : Memory} (b : InBounds z m) (q : Queues z m) (t : Tagged z m) (g : Good (machine_of z m)) where
  placed_of : Placed z m 0
  unfolding waiter_list
  placed_of =
      record {
        free = t.free;
        used = t.used;
        running = t.running;
        run = record { queue = q.run; ready = t.ready };
        rendez = well-sleeps b t g;
        locks = every;
        waiting = well-waits b t g;
        asleep = q.asleep ∙ sym (zero-add _);
        unlinked = t.unlinked;
        blanks = t.blanks;
      }
    where
      -- past the last lock nobody waits
      every : (k : ℕ) → Queue z.processes (m fields.next) (m fields.lock_head k) (m fields.lock_tail k) (waiter_list z m k)
      every k = go (ltb k z.locks) refl
        where
          go : (c : Bool) → ltb k z.locks ≡ c → Queue z.processes (m fields.next) (m fields.lock_head k) (m fields.lock_tail k) (walk z.processes (m fields.next) (m fields.lock_head k))
          go true e = q.locks k (ltb-true k z.locks e)
          go false e =
              let l : z.locks ≤ k = ltb-false k z.locks e in
              let h : m fields.lock_head k ≡ 0 = b.past fields.lock_head k l in
              let t : m fields.lock_tail k ≡ 0 = b.past fields.lock_tail k l in
              rw (walk_none z.processes (m fields.next) (m fields.lock_head k) h) (record { chain = record { links = h; distinct = tt; below = tt }; ends = t })

header_of : (s : List ℕ) → memory_of s fields.mark 0 ≡ mark_value → memory_of s fields.layout_number 0 ≡ 1 → Header (sizes_of s) (memory_of s)
unfolding sizes_of start
header_of s k l =
    let ns : List ℕ = fields.counts (sizes_of s) in
    record {
      mark = k;
      layout = l;
      processes = sym (cell_in_lem fields.layout1 ns s (slot 0 16 2) 0 (lit< tt));
      rendez = sym (cell_in_lem fields.layout1 ns s (slot 0 18 2) 0 (lit< tt));
      locks = sym (cell_in_lem fields.layout1 ns s (slot 0 20 2) 0 (lit< tt));
      timers = sym (cell_in_lem fields.layout1 ns s (slot 0 22 2) 0 (lit< tt));
      cells = sym (cell_in_lem fields.layout1 ns s (slot 0 24 2) 0 (lit< tt));
      hz = sym (cell_in_lem fields.layout1 ns s (slot 0 12 4) 0 (lit< tt));
    }

well-keeps : (s : List ℕ) → WellFormed s → RepAt s (sizes_of s)
unfolding abs
well-keeps s w =
    record {
      sizes = w.rep.sizes;
      state = w.rep.state;
      keeps =
          record {
            header = header_of s w.rep.mark w.rep.layout;
            placed = placed_of (in_bounds w.rep.sizes w.rep.state) w.rep.queues w.rep.tagged w.good;
            timed = record { chain = w.rep.queues.timers; queued = w.rep.queues.queued };
            cells = w.rep.cells;
            ages = w.rep.ages;
            index = w.rep.index;
          };
      idle = w.rep.idle;
    }

pub well-holds : {z : Sizes} {s : List ℕ} → sizes_in z ≡ sizes_of s → WellFormed s → Holds z s 0
well-holds {z} {s} e w =
    let r : RepAt s (sizes_in z) = subst (RepAt s) (sym e) (well-keeps s w) in
    record { sizes = r.sizes; state = r.state; keeps = r.keeps }

pub well-idle : {z : Sizes} {s : List ℕ} → sizes_in z ≡ sizes_of s → WellFormed s → Idle (mem_in z s)
well-idle {s = s} e w = subst (λ (v : machine.Sizes). Idle (mem fields.layout1 (fields.counts v) s)) (sym e) w.rep.idle
