-- `index::index_ok` meets its contract, by its three parts.
use Rattle.rules.specs.Reach.{records-few, cells-few}
use Rattle.index.specs.Words.{index-all, index-full}
use Rattle.index.proofs.index_ok.Goals as goal

pub full_ok-requires : goal.full_ok-requires
full_ok-requires c =
    record {
      few_records = rw c.view-v.ensures.sizes (records-few c.args.v.now.whole);
      few_cells = rw c.view-v.ensures.sizes (cells-few c.args.v.now.whole);
      long = c.view-v.result.long;
      records = c.used_ok.ensures.0 c.if-used_ok.true;
      cells = c.used_ok-then-used_ok.ensures.0 c.if-used_ok-2.true;
    }

pub returns-then-used_ok-2 : goal.returns-then-used_ok-2
returns-then-used_ok-2 c = (
  λ t.
      rw (c.view-v.ensures.sizes, c.view-v.ensures.bytes)
      at (index-all (c.used_ok.ensures.0 c.if-used_ok.true) (c.used_ok-then-used_ok.ensures.0 c.if-used_ok-2.true) (c.full_ok.ensures.0 t)),
  λ i. c.full_ok.ensures.1 (index-full (rw (← c.view-v.ensures.sizes, ← c.view-v.ensures.bytes) at i)),
)
