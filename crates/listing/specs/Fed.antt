-- How far a listing has got.
use Rattle.std.specs.Prelude.{ℕ}

-- The place in the chunk, how many bytes of the line begun are held, the number of the next step, and how many bytes of the buffer for the
-- listing are used.
pub record Fed : Type 0 where
  pub from : ℕ
  pub have : ℕ
  pub n : ℕ
  pub used : ℕ

abbrev pub fed : (from have n used : ℕ) → Fed
fed from have n used = record { from = from; have = have; n = n; used = used }
