-- The memory of bytes that are zero as far as the state goes.
use Rattle.std.specs.Prelude.{if◌then◌else◌, ◌≡◌, refl, Bool, true, false, List, ◌++◌, ℕ, zero, suc, ◌+◌, ◌≤◌, ◌<◌, T, ltb, length, get_or, replicate}
use Rattle.std.proofs.Common.{ap, arith, ltb-true, ltb-false}
use Rattle.std.proofs.Math.Path.{fun_ext}
use Rattle.std.proofs.Math.ListN.{get_or-append}
use Rattle.memory.specs.Le.{le}
use Rattle.layout.specs.Table.{Layout, field, count, total, place, sound}
use Rattle.layout.specs.Place.{inside-at, below_total}
use Rattle.layout.specs.Memory.{Memory, mem, cell, mem-past}

pub length-zeros : (n : ℕ) → length {A = ℕ} (replicate n 0) ≡ n
length-zeros zero = refl
length-zeros (suc n) = ap suc (length-zeros n)

pub zeros-at : (n i : ℕ) → get_or {A = ℕ} (replicate n 0) i 0 ≡ 0
zeros-at zero i = refl
zeros-at (suc n) zero = refl
zeros-at (suc n) (suc i) = zeros-at n i

-- a number within zero bytes is 0
pub zeros-le : (w n at : ℕ) (rest : List ℕ) → at + w ≤ n → le w (replicate n 0 ++ rest) at ≡ 0
unfolding le
zeros-le zero n at rest h = refl
zeros-le (suc w) n at rest h =
    let l : at < length {A = ℕ} (replicate n 0) = omega (arith, length-zeros n) in
    omega (arith, get_or-append (replicate n 0) rest 0 at l, zeros-at n at, zeros-le w n (suc at) rest (omega arith))

-- the memory that is 0 everywhere
abbrev pub nothing : Memory
nothing f i = 0

pub mem-zeros : (l : Layout) → T (sound l) → (ns rest : List ℕ) → mem l ns (replicate (total l ns) 0 ++ rest) ≡ nothing
unfolding cell
mem-zeros l ok ns rest = fun_ext (λ f. fun_ext (λ i. listed f i (ltb f (length l.fields)) refl))
  where
    s : List ℕ
    s = replicate (total l ns) 0 ++ rest

    within : (f i : ℕ) → f < length l.fields → (b : Bool) → ltb i (count l ns (field l f).region) ≡ b → (if b then le (field l f).width s (place l ns (field l f) i) else 0) ≡ 0
    within f i h true e =
        zeros-le (field l f).width (total l ns) (place l ns (field l f) i) rest
        (below_total l ns (field l f) (inside-at l ok f h) i (ltb-true i (count l ns (field l f).region) e))
    within f i h false e = refl

    listed : (f i : ℕ) (b : Bool) → ltb f (length l.fields) ≡ b → mem l ns s f i ≡ 0
    listed f i true e = within f i (ltb-true f (length l.fields) e) (ltb i (count l ns (field l f).region)) refl
    listed f i false e = mem-past l ns s f i (ltb-false f (length l.fields) e)
