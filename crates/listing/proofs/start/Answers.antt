-- `listing::start` meets its contract.
use Rattle.machine.specs.Listing.{steps_sizes}
use Rattle.listing.specs.Start.{started}
use Rattle.std.specs.Prelude.{refl}
use Rattle.listing.proofs.start.Goals as goal

pub returns : goal.returns
unfolding steps_sizes
returns c =
    started c.requires
    (rw (c.from.ensures, c.from-2.ensures, c.from-3.ensures, c.from-4.ensures, c.from-5.ensures, c.from-6.ensures) at c.make.ensures)
    refl
