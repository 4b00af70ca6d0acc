-- The table of layout 1 passes its test, and the maxima of its fields fit their widths.
use Rattle.std.specs.Prelude.{◌≡◌, refl, Bool, List, [], ◌∷◌, ℕ, zero, suc, ◌^◌, ◌≤◌, ◌<◌, T, ltb, length, get_or}
use Rattle.std.proofs.Common.{arith, le_of_suc-le-suc, not-suc-le-zero, ltb→lt}
use Rattle.machine.specs.Basics.{all}
use Rattle.machine.specs.Machine.{Sizes}
use Rattle.machine.specs.Good.{SizesInRange}
use Rattle.layout.specs.Tests.{all-at}
use Rattle.layout.specs.Table.{Slot, slot, inside, split, pairwise, sound}
use Rattle.layout.specs.Writes.{Ranges}
use Rattle.state.specs.Fields.{Kind, a_byte, a_half, a_word4, a_word, a_bit, to_process, to_timer, to_cell, a_rendez, exit_count, a_state, a_resume, a_length, a_period, Row, row, rows, slots, layout1, most, most_of}

layout1-sound : T (sound layout1)
unfolding sound inside split pairwise all
layout1-sound = tt

-- a bound of the maxima that holds at all sizes in range
abbrev bound : Kind → ℕ
bound a_byte = 255
bound a_half = 65535
bound a_word4 = 4294967295
bound a_word = 18446744073709551615
bound a_bit = 1
bound to_process = 4096
bound to_timer = 8192
bound to_cell = 65000
bound a_rendez = 4096
bound exit_count = 128
bound a_state = 3
bound a_resume = 4
bound a_length = 127
bound a_period = 9223372036854775807

most-bound : (z : Sizes) → SizesInRange z → (k : Kind) → most z k ≤ bound k
most-bound z h a_byte = omega arith
most-bound z h a_half = omega arith
most-bound z h a_word4 = omega arith
most-bound z h a_word = omega arith
most-bound z h a_bit = omega arith
most-bound z h to_process = h.processes.1
most-bound z h to_timer = omega (arith, h.processes.1, h.timers.1)
most-bound z h to_cell = h.cells.1
most-bound z h a_rendez = omega (arith, h.rendez.1)
most-bound z h exit_count = omega arith
most-bound z h a_state = omega arith
most-bound z h a_resume = omega arith
most-bound z h a_length = omega arith
most-bound z h a_period = omega arith

abbrev fitting : Row → Bool
fitting r = ltb (bound r.kind) (256 ^ r.place.width)

all_fit : T (all fitting rows)
unfolding all
all_fit = tt

slots_length : (rs : List Row) → length (slots rs) ≡ length rs
slots_length [] = refl
slots_length (r ∷ rs) = rw (slots_length rs)

slots_at : (rs : List Row) (d : Slot) (e : Row) (f : ℕ) → f < length rs → get_or (slots rs) f d ≡ (get_or rs f e).place
slots_at [] d e f h = absurd (not-suc-le-zero h)
slots_at (r ∷ rs) d e zero h = refl
slots_at (r ∷ rs) d e (suc f) h = slots_at rs d e f (le_of_suc-le-suc h)

pub ranges : (z : Sizes) → SizesInRange z → Ranges layout1 (most_of z)
ranges z h =
    record {
      sound = layout1-sound;
      wide = λ f l.
          let k : f < length rows = omega arith in
          let w : bound (get_or rows f (row 13 0 0 a_bit)).kind < 256 ^ (get_or rows f (row 13 0 0 a_bit)).place.width =
          ltb→lt (bound (get_or rows f (row 13 0 0 a_bit)).kind) (256 ^ (get_or rows f (row 13 0 0 a_bit)).place.width)
          (all-at fitting (row 13 0 0 a_bit) rows all_fit f k)
          in
          rw (slots_at rows (slot 13 0 0) (row 13 0 0 a_bit) f k) (omega (arith, most-bound z h (get_or rows f (row 13 0 0 a_bit)).kind));
    }
