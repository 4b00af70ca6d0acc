-- `verify::load_sizes` meets its contract: each size at its place in the header.
use Rattle.state.specs.Abs.{sizes_of}
use Rattle.verify.proofs.load_sizes.Goals as goal

pub returns : goal.returns
unfolding sizes_of
returns c =
    record {
      same = λ j. record {
        processes = c.load.ensures.value j;
        rendez = c.load-2.ensures.value j;
        locks = c.load-3.ensures.value j;
        timers = c.load-4.ensures.value j;
        cells = c.load-5.ensures.value j;
        hz = c.load-6.ensures.value j;
      };
    }
