-- Links to records as numbers.
use Rattle.std.specs.Prelude.{◌≡◌, refl, true, false, Option, Some, None, is_some, ℕ, suc, ◌<◌}
use Rattle.std.proofs.Common.{sym, arith}
use Rattle.std.proofs.lemmas.Bool.{true≢false}

-- The number of a link: 0 is none, and i + 1 leads to record i.
abbrev pub link : Option ℕ → ℕ
link None = 0
link (Some i) = suc i

-- Whether a link's number fits two bytes.
abbrev pub IsLink : Option ℕ → Type 0
IsLink None = Unit {0}
IsLink (Some i) = i < 65535

-- A link that leads somewhere is not 0, and one that leads nowhere is.
pub link_there : (o : Option ℕ) → is_some o ≡ true → link o ≡ 0 → ⊥
link_there None e d = true≢false (sym e)
link_there (Some i) e d = omega (arith, d)

pub link_nowhere : (o : Option ℕ) → is_some o ≡ false → link o ≡ 0
link_nowhere None e = refl
link_nowhere (Some i) e = absurd (true≢false e)
