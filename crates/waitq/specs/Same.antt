-- The fields of the wait queues and their cells, and memories that agree on every other.
use Rattle.std.specs.Prelude.{if◌then◌else◌, ◌≡◌, refl, Bool, true, false, ◌||◌, List, [], ◌∷◌, ℕ, eqb}
use Rattle.std.proofs.Common.{sym, ap, ◌∙◌, arith, eqb-true}
use Rattle.std.proofs.Math.Path.{fun_ext}
use Rattle.machine.specs.Machine.{Sizes, asleep}
use Rattle.machine.specs.Good.{Each}
use Rattle.layout.specs.Memory.{Memory, upd}
use Rattle.layout.specs.Writes.{Write, updates}
use Rattle.state.specs.Fields as fields
use Rattle.state.specs.Abs.{machine_of}
use Rattle.state.specs.WellFormed.{Cells, Index}
use Rattle.holds.specs.Holds.{Keeps}
use Rattle.holds.specs.Frames.{header-same, placed_same, timed-same, ages-same}

-- The fields that say which cells are in use and what is in them, and those of the wait queues: no other part of the machine reads them.
abbrev pub of_exits : ℕ → Bool
of_exits f =
    eqb f fields.full_cells
    || (eqb f fields.exits
    || (eqb f fields.nexits
    || (eqb f fields.exit_pid
    || (eqb f fields.cell_next
    || (eqb f fields.owner
    || (eqb f fields.message_length || (eqb f fields.message_byte || (eqb f fields.used_cells || eqb f fields.full_cell_words))))))))

-- The memory m with these fields of k.
abbrev pub merge : Memory → Memory → Memory
merge m k f = if of_exits f then k f else m f

-- Every other field is as it was.
abbrev pub Same : Memory → Memory → Type 0
Same m m' = (f : ℕ) → of_exits f ≡ false → m' f ≡ m f

pub same-merge : {m m' : Memory} → Same m m' → m' ≡ merge m m'
same-merge {m} {m'} h = fun_ext (λ f. go f (of_exits f) refl)
  where
    go : (f : ℕ) (b : Bool) → of_exits f ≡ b → m' f ≡ (if b then m' f else m f)
    go f true e = refl
    go f false e = h f e

pub same_join : {m m' m'' : Memory} → Same m m' → Same m' m'' → Same m m''
same_join a b f e = b f e ∙ a f e

-- Stores to these fields.
pub same-updates : (m : Memory) (ws : List Write) → Each (λ (w : Write). of_exits w.field ≡ true) ws → Same m (updates m ws)
same-updates m [] a f e = refl
same-updates m (w ∷ ws) a f e = same-updates (upd m w.field w.index w.value) ws a.1 f e ∙ go (eqb w.field f) refl
  where
    go : (b : Bool) → eqb w.field f ≡ b → (if b then (λ j. if eqb w.index j then w.value else m w.field j) else m f) ≡ m f
    go true q = absurd (let d : true ≡ false = sym a.0 ∙ ap of_exits (eqb-true w.field f q) ∙ e in let x : ◌≡◌ {A = ℕ} 0 1 = cc in omega arith)
    go false q = refl

-- The other groups do not read those fields.
pub same-keeps
    : {z : Sizes} {m m' : Memory} {n : ℕ}
    → Same m m'
    → Keeps z m n
    → Cells z m'
    → Index z m'
    → asleep (machine_of z m') ≡ asleep (machine_of z m)
    → Keeps z m' n
same-keeps {z} {m} {m'} {n} e k c x a =
    record {
      header =
          header-same (e fields.mark refl) (e fields.layout_number refl) (e fields.size_processes refl) (e fields.size_rendez refl) (e fields.size_locks refl)
          (e fields.size_timers refl)
          (e fields.size_cells refl)
          (e fields.hz refl)
          k.header;
      placed =
          placed_same n (e fields.pid refl) (e fields.state_of refl) (e fields.resume_kind refl) (e fields.resume_object refl) (e fields.resume_condition refl) (e fields.up refl)
          (e fields.next refl)
          (e fields.run_head refl)
          (e fields.run_tail refl)
          (e fields.sleeper_of refl)
          (e fields.lock_head refl)
          (e fields.lock_tail refl)
          (e fields.asleep_count refl)
          a
          k.placed;
      timed = timed-same (e fields.timer_next refl) (e fields.timer_head refl) (e fields.is_queued refl) k.timed;
      cells = c;
      ages =
          ages-same (e fields.pid refl) (e fields.younger refl) (e fields.older refl) (e fields.oldest refl) (e fields.youngest refl)
          (e fields.parent refl)
          (e fields.parent_at refl)
          k.ages;
      index = x;
    }
