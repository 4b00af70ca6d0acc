-- Two memories that hold one machine.
use Rattle.std.specs.Prelude.{◌≡◌, refl, Bool, true, false, ℕ, zero, suc, ◌≤◌, ◌<◌, ltb}
use Rattle.std.proofs.Common.{sym, ap, ◌∙◌, arith, ltb-true, ltb-false}
use Rattle.machine.specs.Machine.{Sizes}
use Rattle.machine.specs.Good.{Good}
use Rattle.layout.specs.Memory.{Memory}
use Rattle.state.specs.Fields as fields
use Rattle.state.specs.Abs.{is_set, machine_of}
use Rattle.exact.specs.Bounds.{count_of, InBounds, at_most}
use Rattle.exact.specs.Spots.{Spots}
use Rattle.exact.specs.WellSpots.{well-spots}
use Rattle.holds.specs.Holds.{Keeps}
use Rattle.holds.specs.Whole.{tagged_of}
use Rattle.lists.specs.Lists.{bit}

-- A memory as a well-formed state has it.
pub record Formed (z : Sizes) (m : Memory) : Type 0 where
  pub bounds : InBounds z m
  pub keeps : Keeps z m 0
  pub good : Good (machine_of z m)

-- Each record is in the place that its state and call name.
pub formed-spots : {z : Sizes} {m : Memory} → Formed z m → Spots z m
formed-spots f = well-spots f.bounds (tagged_of f.keeps.placed) f.good

-- Two such memories that hold one machine.
pub record Twins (z : Sizes) (m m' : Memory) : Type 0 where
  pub one : Formed z m
  pub two : Formed z m'
  pub machine : machine_of z m' ≡ machine_of z m

-- The other way round.
pub twins_back : {z : Sizes} {m m' : Memory} → Twins z m m' → Twins z m' m
twins_back w = record { one = w.two; two = w.one; machine = sym w.machine }

-- Field f holds the same in both.
abbrev pub Same : Memory → Memory → ℕ → Type 0
Same m m' f = (i : ℕ) → m' f i ≡ m f i

-- Bits that are both set or neither are the same.
bit-same : (b b' : ℕ) → b ≤ 1 → b' ≤ 1 → is_set b' ≡ is_set b → b' ≡ b
bit-same b b' l l' e = omega (arith, ap bit e, set_bit b l, set_bit b' l')
  where
    set_bit : (v : ℕ) → v ≤ 1 → bit (is_set v) ≡ v
    set_bit zero l = refl
    set_bit (suc zero) l = refl
    set_bit (suc (suc v)) l = absurd (omega arith)

module _ {z : Sizes} {m m' : Memory} (w : Twins z m m') where
  -- A field that is the same at each number that has it is the same: past those it is 0.
  pub within : (f : ℕ) → ((i : ℕ) → i < count_of z f → m' f i ≡ m f i) → Same m m' f
  within f h i = go (ltb i (count_of z f)) refl
    where
      go : (c : Bool) → ltb i (count_of z f) ≡ c → m' f i ≡ m f i
      go true e = h i (ltb-true i (count_of z f) e)
      go false e =
          let l : count_of z f ≤ i = ltb-false i (count_of z f) e in
          w.two.bounds.past f i l ∙ sym (w.one.bounds.past f i l)

  -- The same of a field of the header.
  pub in_header : (f : ℕ) → count_of z f ≡ 1 → m' f 0 ≡ m f 0 → Same m m' f
  in_header f c e = within f (λ i l. at i (omega arith))
    where
      at : (i : ℕ) → i ≡ 0 → m' f i ≡ m f i
      at i d = ap (m' f) d ∙ e ∙ ap (m f) (sym d)

  -- A bit that is set in both or in neither.
  pub bits-same : (f i : ℕ) → fields.most_of z f ≡ 1 → is_set (m' f i) ≡ is_set (m f i) → m' f i ≡ m f i
  bits-same f i o e =
      bit-same (m f i) (m' f i) (omega (arith, at_most w.one.bounds f i)) (omega (arith, at_most w.two.bounds f i)) e
