-- Which places the machine uses is the same in two memories of one machine.
use Rattle.std.specs.Prelude.{if◌then◌else◌, ◌≡◌, Bool, ◌||◌, ℕ, ◌-◌, ◌/◌, ◌%◌, ◌<◌, ltb}
use Rattle.std.proofs.Math.Path.{refl}
use Rattle.std.proofs.Common.{sym, ap, ◌∙◌, arith, ltb-true, ltb-false}
use Rattle.std.proofs.Math.Bool.{true, false}
use Rattle.std.proofs.Math.Dec.{eqb}
use Rattle.machine.specs.Machine.{Sizes}
use Rattle.layout.specs.Memory.{Memory}
use Rattle.state.specs.Fields as fields
use Rattle.state.specs.Abs.{is_set}
use Rattle.state.specs.WellFormed.{Used}
use Rattle.exact.specs.Resumes.{test_set}
use Rattle.holds.specs.Use.{from_to, kin_use, used_by, used_in}
use Rattle.determined.specs.Twins.{Twins, twins_back}
use Rattle.determined.specs.Plain.{same-pid}
use Rattle.determined.specs.Records.{same-parent}
use Rattle.determined.specs.Queues.{same-queued}
use Rattle.determined.specs.Cells.{same-owner, same_length}
use Rattle.determined.specs.Ages.{same-parent_at}

-- The use of a link to a parent.
abbrev kin_of : Memory → ℕ → ℕ
kin_of m i = kin_use (m fields.pid) (m fields.parent) (m fields.parent_at) i

-- The record of a link in use is in use.
kin-used : (m : Memory) (i : ℕ) → 0 < kin_of m i → Used m i
kin-used m i = go (eqb (m fields.parent i) 0 || eqb (m fields.pid (m fields.parent_at i - 1)) (m fields.parent i))
  where
    go : (b : Bool) → 0 < (if b then m fields.pid i else 0) → Used m i
    go true u = u
    go false u = absurd (omega arith)

-- Where the one uses it, the other does.
kin_too : {z : Sizes} {m m' : Memory} → Twins z m m' → (i : ℕ) → 0 < kin_of m i → kin_of m' i ≡ kin_of m i
kin_too {z} {m} {m'} w i u =
    let p : m' fields.parent i ≡ m fields.parent i = same-parent w i (kin-used m i u) in
    let q : m' fields.pid (m' fields.parent_at i - 1) ≡ m fields.pid (m fields.parent_at i - 1) =
    same-pid w (m' fields.parent_at i - 1) ∙ ap (λ (l : ℕ). m fields.pid (l - 1)) (same-parent_at w i u)
    in
    λ j. if eqb (p j) 0 || eqb (q j) (p j) then same-pid w i j else 0

-- So both use it or neither.
kin-same : {z : Sizes} {m m' : Memory} → Twins z m m' → (i : ℕ) → kin_of m' i ≡ kin_of m i
kin-same {z} {m} {m'} w i = go (ltb 0 (kin_of m i)) refl (ltb 0 (kin_of m' i)) refl
  where
    go : (b : Bool) → ltb 0 (kin_of m i) ≡ b → (c : Bool) → ltb 0 (kin_of m' i) ≡ c → kin_of m' i ≡ kin_of m i
    go true e c d = kin_too w i (ltb-true 0 (kin_of m i) e)
    go false e true d = sym (kin_too (twins_back w) i (ltb-true 0 (kin_of m' i) d))
    go false e false d = omega (arith, ltb-false 0 (kin_of m i) e, ltb-false 0 (kin_of m' i) d)

module _ {z : Sizes} {m m' : Memory} (w : Twins z m m') where
  -- The use of byte j of the message of cell c.
  byte-same
      : (c j : ℕ) → (if is_set (m' fields.owner c) then m' fields.message_length c - j else 0) ≡ (if is_set (m fields.owner c) then m fields.message_length c - j else 0)
  byte-same c j =
      ap (λ (o : ℕ). if is_set o then m' fields.message_length c - j else 0) (same-owner w c) ∙ go (is_set (m fields.owner c)) refl
    where
      go
          : (b : Bool)
          → is_set (m fields.owner c) ≡ b
          → (if b then m' fields.message_length c - j else 0) ≡ (if b then m fields.message_length c - j else 0)
      go true e = ap (λ (n : ℕ). n - j) (same_length w c (test_set (m fields.owner c) e))
      go false e = refl

  -- Each case of `used_by`.
  pub uses-same : (f i : ℕ) → used_in z m' f i ≡ used_in z m f i
  unfolding used_by
  uses-same f i =
      by (eqb f fields.parent_at) (kin-same w i)
      (by (from_to fields.pid fields.resume_object f) (same-pid w i)
      (by (eqb f fields.name_byte) (same-pid w (i / 28))
      (by (eqb f fields.period || eqb f fields.timer_rendez) refl
      (by (from_to fields.deadline fields.is_queued f) (same-queued w i)
      (by (from_to fields.exit_pid fields.message_length f) (same-owner w i) (by (eqb f fields.message_byte) (byte-same (i / 127) (i % 127)) refl))))))
    where
      by : (b : Bool) {x x' y y' : ℕ} → x' ≡ x → y' ≡ y → (if b then x' else y') ≡ (if b then x else y)
      by true p q = p
      by false p q = q
