-- Two memories of one machine hold the same wherever the machine uses it: field by field.
use Rattle.std.specs.Prelude.{if◌then◌else◌, ◌≡◌, Bool, ℕ, ◌-◌, ◌/◌, ◌%◌, ◌<◌}
use Rattle.std.proofs.Math.Path.{refl, sym}
use Rattle.std.proofs.Common.{◌∙◌, arith}
use Rattle.std.proofs.Math.Bool.{true, false}
use Rattle.machine.specs.Machine.{Sizes}
use Rattle.layout.specs.Memory.{Memory}
use Rattle.state.specs.Fields as fields
use Rattle.state.specs.Abs.{is_set}
use Rattle.exact.specs.Bounds.{count_of}
use Rattle.exact.specs.Resumes.{test_set}
use Rattle.holds.specs.Holds.{Header}
use Rattle.holds.specs.Use.{used_by, used_in}
use Rattle.holds.specs.Leftover.{EachFrom, none, ◌and◌, from_at}
use Rattle.determined.specs.Twins.{Twins, Same, in_header}
use Rattle.determined.specs.Plain.{same-pid, same_up, same-next_pid, same-ticks, same-last_now, same-asleep, same-sleeper, same-held, same-period, same-rendez, same-condition}
use Rattle.determined.specs.Records.{same-parent, same-quantum, same-nchild, same_name, same-call, same-state}
use Rattle.determined.specs.Queues.{run-links, same-run_tail, lock-links, same-lock_tail, same_next, timer_links_lem, same-queued, same-timer_next, same-deadline}
use Rattle.determined.specs.Cells.{exit-links, same-nexits, same-owner, same-cell_next, same-exit_pid, same_length, same_byte}
use Rattle.determined.specs.Ages.{younger-links, older-links, same-younger, same-older, same-parent_at}
use Rattle.determined.specs.Index.{same-used_records, same-used_cells, same-full_records, same-full_cell_words, same-full_cells}
use Rattle.determined.specs.Every.{Agrees}

module _ {z : Sizes} {m m' : Memory} (w : Twins z m m') where
  -- A field that is the same everywhere, and one of the header.
  always : (f : ℕ) → Same m m' f → Agrees z m m' f
  always f h i u = h i

  header : (f : ℕ) → count_of z f ≡ 1 → m' f 0 ≡ m f 0 → Agrees z m m' f
  header f c e = always f (in_header w f c e)

  -- What each header says.
  one : Header z m
  one = w.one.keeps.header

  two : Header z m'
  two = w.two.keeps.header

  -- A byte of a message of a cell in use.
  byte : Agrees z m m' fields.message_byte
  unfolding used_by
  byte i = go (is_set (m fields.owner (i / 127))) refl
    where
      go
          : (b : Bool)
          → is_set (m fields.owner (i / 127)) ≡ b
          → 0 < (if b then m fields.message_length (i / 127) - i % 127 else 0)
          → m' fields.message_byte i ≡ m fields.message_byte i
      go true e u = same_byte w i (test_set (m fields.owner (i / 127)) e) (omega arith)
      go false e u = absurd (omega arith)

  -- The table of fields from its first to its last.
  every : EachFrom (Agrees z m m') 0 53
  unfolding used_by
  every =
      none
      and header fields.mark refl (two.mark ∙ sym one.mark)
      and header fields.layout_number refl (two.layout ∙ sym one.layout)
      and header fields.hz refl (two.hz ∙ sym one.hz)
      and header fields.size_processes refl (two.processes ∙ sym one.processes)
      and header fields.size_rendez refl (two.rendez ∙ sym one.rendez)
      and header fields.size_locks refl (two.locks ∙ sym one.locks)
      and header fields.size_timers refl (two.timers ∙ sym one.timers)
      and header fields.size_cells refl (two.cells ∙ sym one.cells)
      and header fields.up refl (same_up w)
      and header fields.run_head refl (run-links w).head
      and header fields.run_tail refl (same-run_tail w)
      and header fields.asleep_count refl (same-asleep w)
      and header fields.timer_head refl (timer_links_lem w).head
      and header fields.oldest refl (younger-links w).head
      and header fields.youngest refl (older-links w).head
      and header fields.next_pid refl (same-next_pid w)
      and header fields.ticks refl (same-ticks w)
      and header fields.last_now refl (same-last_now w)
      and header fields.full_records refl (same-full_records w)
      and header fields.full_cells refl (same-full_cells w)
      and always fields.pid (same-pid w)
      and same-parent w
      and same-quantum w
      and same_next w
      and same-older w
      and same-younger w
      and same-parent_at w
      and same-nchild w
      and (λ i u. (exit-links w i u).head)
      and same-nexits w
      and always fields.state_of (same-state w)
      and (λ i u. (same-call w i u).kind)
      and (λ i u. (same-call w i u).condition)
      and (λ i u. (same-call w i u).object)
      and same_name w
      and always fields.sleeper_of (same-sleeper w)
      and always fields.held (same-held w)
      and always fields.lock_head (λ q. (lock-links w q).head)
      and always fields.lock_tail (same-lock_tail w)
      and same-deadline w
      and (λ t u. same-period w t (omega arith))
      and (λ t u. same-rendez w t (omega arith))
      and same-timer_next w
      and always fields.is_queued (same-queued w)
      and same-exit_pid w
      and same-cell_next w
      and always fields.owner (same-owner w)
      and same_length w
      and byte
      and always fields.condition_bit (same-condition w)
      and always fields.used_records (same-used_records w)
      and always fields.used_cells (same-used_cells w)
      and always fields.full_cell_words (same-full_cell_words w)

  -- So of every field of the table.
  pub agrees : (f i : ℕ) → f < 53 → 0 < used_in z m f i → m' f i ≡ m f i
  agrees f i l = from_at every f (omega arith) l i
