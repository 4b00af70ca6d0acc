-- `index::full_ok` meets its contract: only the words that have a bit for a record, or cell, may be full.
use Rattle.index.specs.Words.{full_records_lem, full_cells_lem, full-words}
use Rattle.index.proofs.full_ok.Goals as goal

pub full_word-requires-clause-reach : goal.full_word-requires-clause-reach
full_word-requires-clause-reach c = full_records_lem c.requires c.words_for-records.ensures.words

pub full_word-requires-then-get-full_word-clause-reach :
    goal.full_word-requires-then-get-full_word-clause-reach
full_word-requires-then-get-full_word-clause-reach c = full-words c.requires

pub full_words_ok-requires : goal.full_words_ok-requires
full_words_ok-requires c = full_cells_lem c.requires c.words_for-cells.ensures.words
