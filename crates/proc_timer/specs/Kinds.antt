-- The kinds of kernel timers, as `tadd` numbers them.
use Rattle.std.specs.Prelude.{ℕ, ◌≤◌}
use Rattle.std.proofs.Common.{arith}
use Rattle.proc_timer.specs.declared.Kind.{Kind}
use Rattle.proc_timer.specs.declared.Kind.TheVariants.{Relative, Periodic}

abbrev pub kind_number : Kind → ℕ
kind_number Relative = 0
kind_number Periodic = 1

pub kind_low : (kind : Kind) → kind_number kind ≤ 1
kind_low Relative = omega arith
kind_low Periodic = omega arith
