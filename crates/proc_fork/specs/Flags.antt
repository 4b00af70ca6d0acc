-- The flags of rfork, as the code tests them.
use Rattle.std.specs.Prelude.{◌≡◌, refl, Bool, not, ◌&&◌, ◌||◌, ℕ, ◌/◌, ◌%◌, eqb}
use Rattle.machine.specs.Flags as machine
use Rattle.machine.specs.Flags.{has, bad}
use Rattle.proc_fork.specs.declared.flags.Flag.{Flag}
use Rattle.proc_fork.specs.declared.flags.Flag.TheVariants.{Rfnameg, Rfenvg, Rffdg, Rfproc, Rfmem, Rfnowait, Rfcnameg, Rfcenvg, Rfcfdg, Rfnomnt}

-- The bit of a flag: its number in docs/MACHINE.md.
abbrev pub bit : Flag → ℕ
bit Rfnameg = machine.RFNAMEG
bit Rfenvg = machine.RFENVG
bit Rffdg = machine.RFFDG
bit Rfproc = machine.RFPROC
bit Rfmem = machine.RFMEM
bit Rfnowait = machine.RFNOWAIT
bit Rfcnameg = machine.RFCNAMEG
bit Rfcenvg = machine.RFCENVG
bit Rfcfdg = machine.RFCFDG
bit Rfnomnt = machine.RFNOMNT

-- A test for one flag, by its value.
pub record Has (F flag : ℕ) (r : Bool) : Type 0 where
  pub bit : r ≡ eqb (F / flag % 2) 1

pub record Bad (F : ℕ) (r : Bool) : Type 0 where
  pub is : r ≡ bad F

-- What the code shows.
pub bad-is
    : {F : ℕ} {a b c d e f g h p g₂ d₂ f₂ n : Bool}
    → Has F 4 a → Has F 4096 b → Has F 1 c → Has F 1024 d → Has F 2 e → Has F 2048 f → Has F 32 g → Has F 64 h → Has F 16 p
    → Has F 32 g₂ → Has F 1024 d₂ → Has F 2048 f₂ → Has F 16384 n
    → Bad F (((((a && b) || (c && d)) || (e && f)) || ((g || h) && not p)) || (((g₂ || d₂) || f₂) || n))
unfolding bad has
bad-is {F} a b c d e f g h p g₂ d₂ f₂ n =
    record { is = rw (a.bit, b.bit, c.bit, d.bit, e.bit, f.bit, g.bit, h.bit, p.bit, g₂.bit, d₂.bit, f₂.bit, n.bit) refl }
