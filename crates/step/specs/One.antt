-- What is lent to the exported step comes back in one way: every byte is determined.
use Rattle.std.specs.Prelude.{◌≡◌, refl, Bool, true, false, List, [], ◌∷◌, ℕ, zero, suc}
use Rattle.std.proofs.Common.{sym, ap, subst, ◌∙◌, arith}
use Rattle.std.proofs.Math.Option.{Option}
use Rattle.machine.specs.Machine as machine
use Rattle.machine.specs.Step.{Step}
use Rattle.machine.specs.Outcome.{Outcome}
use Rattle.layout.specs.Memory.{mem}
use Rattle.state.specs.Fields as fields
use Rattle.state.specs.Abs.{sizes_of, memory_of, abs}
use Rattle.determined.specs.Bytes.{Bytes, bytes-writes, same_bytes}
use Rattle.holds.specs.Use.{used_in}
use Rattle.holds.specs.Leftover.{cleared}
use Rattle.determined.proofs.Determined.{determined, used_alike, determined-cleared}
use Rattle.step.specs.Words.{Lent}
use Rattle.step.specs.After.{After}
use Rattle.step.specs.Exported.{Exported, formed, malformed}
use Rattle.step.specs.Demands.{Handed, Back, Course}

-- Two states after the same step hold the same numbers: some the machine determines, and the rest stays.
module _ {s s₁ s₂ : List ℕ} {x : Option Step} {o : Outcome} (p : After s s₁ x o) (q : After s s₂ x o) where
  same : abs s₁ ≡ abs s₂
  same = p.machine ∙ sym q.machine

  alike : (f i : ℕ) → memory_of s₁ f i ≡ memory_of s₂ f i
  alike f i = go (cleared f) refl (used_in (sizes_of s₁) (memory_of s₁) f i) refl
    where
      -- a number that is neither cleared nor used
      left : {t : List ℕ} → After s t x o → cleared f ≡ false → used_in (sizes_of t) (memory_of t) f i ≡ 0 → memory_of t f i ≡ memory_of s f i
      left r c e = r.stays f i (rw c e)

      go : (c : Bool) → cleared f ≡ c → (u : ℕ) → used_in (sizes_of s₁) (memory_of s₁) f i ≡ u → memory_of s₁ f i ≡ memory_of s₂ f i
      go true c u e = sym (determined-cleared s₁ s₂ p.well_formed q.well_formed same f i c)
      go false c zero e =
          left p c e ∙ sym (left q c (used_alike s₁ s₂ p.well_formed q.well_formed same f i ∙ e))
      go false c (suc u) e = sym (determined s₁ s₂ p.well_formed q.well_formed same f i (omega (arith, e)))

  -- The same, read at the sizes of the state before.
  at-sizes : (f i : ℕ) → mem fields.layout1 (fields.counts (sizes_of s)) s₁ f i ≡ mem fields.layout1 (fields.counts (sizes_of s)) s₂ f i
  at-sizes f i =
      ap (λ (v : machine.Sizes). mem fields.layout1 (fields.counts v) s₁ f i) (sym p.sizes)
      ∙ alike f i
      ∙ ap (λ (v : machine.Sizes). mem fields.layout1 (fields.counts v) s₂ f i) q.sizes

  -- So they are the same bytes.
  pub after_one : Bytes s → s₁ ≡ s₂
  after_one b =
      p.bytes
      ∙ same_bytes fields.layout1 (fields.most_of (sizes_of s)) (fields.counts (sizes_of s)) s p.stores q.stores b p.writable q.writable
      (λ f i.
      ap (λ (t : List ℕ). mem fields.layout1 (fields.counts (sizes_of s)) t f i) (sym p.bytes)
      ∙ at-sizes f i
      ∙ ap (λ (t : List ℕ). mem fields.layout1 (fields.counts (sizes_of s)) t f i) q.bytes)
      ∙ sym q.bytes

-- Bytes come back as bytes.
pub exported_bytes
    : {s s' b m m' : List ℕ} {w w' : Lent} {n : ℕ} → Bytes s → Exported s s' b m m' w w' n → Bytes s'
exported_bytes {s} h (formed f a) =
    subst Bytes (sym a.state.bytes) (bytes-writes fields.layout1 (fields.counts (sizes_of s)) a.state.stores h)
exported_bytes h (malformed f a) = subst Bytes (sym a.state) h

-- The number, the state, the message buffer and the words of two calls on the same bytes are the same.
pub record SameBack (s₁ s₂ m₁ m₂ : List ℕ) (w₁ w₂ : Lent) (n₁ n₂ : ℕ) : Type 0 where
  pub number : n₁ ≡ n₂
  pub state : s₁ ≡ s₂
  pub message : m₁ ≡ m₂
  pub words : w₁ ≡ w₂

pub exported_one
    : {s s₁ s₂ b m m₁ m₂ : List ℕ} {w w₁ w₂ : Lent} {n₁ n₂ : ℕ}
    → Bytes s
    → Exported s s₁ b m m₁ w w₁ n₁
    → Exported s s₂ b m m₂ w w₂ n₂
    → SameBack s₁ s₂ m₁ m₂ w₁ w₂ n₁ n₂
exported_one h (formed f a) (formed g c) =
    record {
      number = a.number ∙ sym c.number;
      state = after_one a.state c.state h;
      message = a.message ∙ sym c.message;
      words = a.words ∙ sym c.words;
    }
exported_one h (formed f a) (malformed g c) = absurd (g f)
exported_one h (malformed f a) (formed g c) = absurd (f g)
exported_one h (malformed f a) (malformed g c) =
    record {
      number = a.number ∙ sym c.number;
      state = a.state ∙ sym c.state;
      message = a.message ∙ sym c.message;
      words = a.words ∙ sym c.words;
    }

-- So are those of two courses of the same calls from the same bytes.
pub course-one
    : (s : List ℕ) (xs : List Handed) (ys zs : List Back) (s₁ s₂ : List ℕ)
    → Bytes s
    → Course s xs ys s₁
    → Course s xs zs s₂
    → (ys ≡ zs) × (s₁ ≡ s₂)
course-one s [] ys zs s₁ s₂ h (e, d) (e', d') = (e ∙ sym e', d ∙ sym d')
course-one s (x ∷ xs) [] zs s₁ s₂ h c k = absurd c
course-one s (x ∷ xs) (y ∷ ys) [] s₁ s₂ h c k = absurd k
course-one s (x ∷ xs) (y ∷ ys) (z ∷ zs) s₁ s₂ h (e, c) (d, k) =
    let b : SameBack y.state z.state y.message z.message y.words z.words y.number z.number = exported_one h e d in
    let r : (ys ≡ zs) × (s₁ ≡ s₂) =
    course-one y.state xs ys zs s₁ s₂ (exported_bytes h e) c (subst (λ (t : List ℕ). Course t xs zs s₂) (sym b.state) k)
    in (
      λ j. record { number = b.number j; state = b.state j; message = b.message j; words = b.words j } ∷ r.0 j,
      r.1,
    )
