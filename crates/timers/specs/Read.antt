-- A timer's record by the link to it.
use Rattle.std.specs.Prelude.{◌≡◌, List, ℕ, ◌+◌, ◌-◌, ◌*◌, ◌≤◌, ◌<◌, length}
use Rattle.std.proofs.Common.{◌∙◌, arith}
use Rattle.memory.specs.Le.{le}
use Rattle.layout.specs.Table.{start, slot}
use Rattle.layout.specs.Memory.{cell_in_lem}
use Rattle.state.specs.Fields as fields
use Rattle.state.specs.Places.{sizes_in, start_in, mem_in}
use Rattle.state.specs.declared.Sizes.{Sizes}
use Rattle.timers.specs.Find.{timers_in, TimersIn, Finding, DeadlineOf, NextOf, next-near}

-- Where a record of link 0 would lie, in a region with records of so many bytes: one record before the region.
pub record Origin (z : Sizes) (region bytes from : ℕ) : Type 0 where
  pub place : from + bytes ≡ start_in z region
  pub small : from < 33554432

pub record ReadAsks (z : Sizes) (s : List ℕ) (region bytes from link : ℕ) : Type 0 where
  pub timers : TimersIn z s
  pub origin : Origin z region bytes from
  pub near : link ≤ timers_in z

-- There is a record before the timers, and one before their links.
pub records-room : (z : Sizes) → 24 ≤ start_in z 5
unfolding start
records-room z = omega arith

pub links-room : (z : Sizes) → 2 ≤ start_in z 12
unfolding start
links-room z = omega arith

pub records_of : {z : Sizes} {r : ℕ} → (r ≡ start_in z 5) × (r < 33554432) → Origin z 5 24 (r - 24)
records_of {z} h = record { place = omega (arith, h.0, records-room z); small = omega (arith, h.1) }

pub links_of : {z : Sizes} {r : ℕ} → (r ≡ start_in z 12) × (r < 33554432) → Origin z 12 2 (r - 2)
links_of {z} h = record { place = omega (arith, h.0, links-room z); small = omega (arith, h.1) }

-- The record of a link lies within the bytes, and so does its link.
pub record_within : {z : Sizes} {s : List ℕ} {from link : ℕ} → ReadAsks z s 5 24 from link → from + link * 24 + 24 ≤ length s
unfolding start
record_within a = omega (arith, a.timers.state.long, a.origin.place, a.near)

pub link-within : {z : Sizes} {s : List ℕ} {from link : ℕ} → ReadAsks z s 12 2 from link → from + link * 2 + 2 ≤ length s
unfolding start
link-within a = omega (arith, a.timers.state.long, a.origin.place, a.near)

pub deadline_of
    : {z : Sizes} {s : List ℕ} {from link r : ℕ}
    → ReadAsks z s 5 24 from link
    → r ≡ le 8 s (from + link * 24)
    → DeadlineOf (mem_in z s) link r
deadline_of {z} {s} {from} {link} {r} a e =
    record {
      known =
          λ ne.
          let p : from + link * 24 ≡ start_in z 5 + (link - 1) * 24 + 0 = omega (arith, a.origin.place) in
          e ∙ rw p (cell_in_lem fields.layout1 (fields.counts (sizes_in z)) s (slot 5 0 8) (link - 1) (omega (arith, a.near)));
    }

pub next_of
    : {z : Sizes} {s : List ℕ} {from link r : ℕ}
    → ReadAsks z s 12 2 from link
    → r ≡ le 2 s (from + link * 2)
    → NextOf (mem_in z s) link r
next_of {z} {s} {from} {link} {r} a e =
    record {
      known =
          λ ne.
          let p : from + link * 2 ≡ start_in z 12 + (link - 1) * 2 + 0 = omega (arith, a.origin.place) in
          e ∙ rw p (cell_in_lem fields.layout1 (fields.counts (sizes_in z)) s (slot 12 0 2) (link - 1) (omega (arith, a.near)));
    }

-- The record behind that of a link is read too.
pub read_next
    : {z : Sizes} {s : List ℕ} {k region bytes from prev link link' : ℕ}
    → ReadAsks z s region bytes from link
    → Finding z (mem_in z s) k prev link
    → (link ≡ 0 → ⊥)
    → NextOf (mem_in z s) link link'
    → ReadAsks z s region bytes from link'
read_next a f ne n = record { timers = a.timers; origin = a.origin; near = next-near f.left ne n }
