-- `verify::check` meets its contract: by each way out.
use Rattle.std.proofs.Common.{arith}
use Rattle.exact.proofs.Exact.{decides-well}
use Rattle.state.specs.Places.{sizes_in}
use Rattle.verify.specs.Ways.{decided, well-long}
use Rattle.verify.proofs.check.Goals as goal

pub returns-then-s-lt-HEADER_BYTES : goal.returns-then-s-lt-HEADER_BYTES
returns-then-s-lt-HEADER_BYTES c = λ w. omega (arith, well-long w)

pub returns-then-total-s : goal.returns-then-total-s
returns-then-total-s c = decides-well (sizes_in c.load_sizes-z.result) _ c.state_ok.result c.load_sizes-z.ensures.same (decided c.state_ok.result c.state_ok.ensures)
