-- What the machine uses of a well-formed state, the machine determines.
use Rattle.std.specs.Prelude.{◌≡◌, refl, Bool, true, false, List, [], ◌∷◌, ℕ, ◌≤◌, ◌<◌, eqb, ltb}
use Rattle.std.proofs.Math.Path.{sym, subst}
use Rattle.std.proofs.Common.{ap, ◌∙◌, arith, eqb-true, ltb-true, ltb-false}
use Rattle.std.proofs.lemmas.Bool.{false≢true}
use Rattle.machine.specs.Basics.{elem}
use Rattle.machine.specs.Machine.{Sizes, Machine}
use Rattle.machine.specs.Good.{Each}
use Rattle.layout.specs.Memory.{Memory, mem, mem-past}
use Rattle.state.specs.Fields as fields
use Rattle.state.specs.Abs.{sizes_of, memory_of, machine_of, abs}
use Rattle.state.specs.WellFormed.{is_linked, WellFormed}
use Rattle.state.specs.declared.Sizes as declared
use Rattle.holds.specs.Holds.{Holds}
use Rattle.holds.specs.Use.{used_by, used_in}
use Rattle.holds.specs.Leftover.{cleared_fields, cleared}
use Rattle.holds.specs.Whole.{well-holds, holds-bounds}
use Rattle.determined.specs.Twins.{Formed, Twins}
use Rattle.determined.proofs.Every.{agrees}
use Rattle.determined.specs.Uses.{uses-same}

-- The memory of bytes at sizes v.
abbrev mem_at : Sizes → List ℕ → Memory
mem_at v s = mem fields.layout1 (fields.counts v) s

-- Bytes that hold machine x at sizes v.
record Holding (s : List ℕ) (x : Machine) (v : Sizes) : Type 0 where
  formed : Formed v (mem_at v s)
  machine : machine_of v (mem_at v s) ≡ x

-- Well-formed bytes are such bytes, at the sizes that their header names.
well_formed_lem : {s : List ℕ} → WellFormed s → Formed (sizes_of s) (memory_of s)
unfolding abs
well_formed_lem {s} w =
    let v : Sizes = sizes_of s in
    let z : declared.Sizes =
    record { processes = v.processes; rendez = v.rendez; locks = v.locks; timers = v.timers; cells = v.cells; hz = v.hz }
    in
    let h : Holds z s 0 = well-holds refl w in
    record { bounds = holds-bounds h; keeps = h.keeps; good = w.good }

-- The same machine has the same sizes.
same-sizes : (s s' : List ℕ) → abs s ≡ abs s' → sizes_of s' ≡ sizes_of s
unfolding abs machine_of
same-sizes s s' e = sym (ap (λ (x : Machine). x.sizes) e)

-- Two well-formed states of one machine, at the sizes of the first.
module _ {s s' : List ℕ} (w : WellFormed s) (w' : WellFormed s') (e : abs s ≡ abs s') where
  holding : Holding s' (abs s) (sizes_of s)
  unfolding abs
  holding = subst (Holding s' (abs s)) (same-sizes s s' e) (record { formed = well_formed_lem w'; machine = sym e })

  twins : Twins (sizes_of s) (memory_of s) (mem_at (sizes_of s) s')
  unfolding abs
  twins = record { one = well_formed_lem w; two = holding.formed; machine = holding.machine }

-- Two well-formed states that hold the same machine hold the same number in every place that the machine uses.
pub determined
    : (s s' : List ℕ)
    → WellFormed s
    → WellFormed s'
    → abs s ≡ abs s'
    → (f i : ℕ)
    → 0 < used_in (sizes_of s) (memory_of s) f i
    → memory_of s' f i ≡ memory_of s f i
determined s s' w w' e f i u = ap (λ (v : Sizes). mem_at v s' f i) (same-sizes s s' e) ∙ go (ltb f 53) refl
  where
    -- past the table's end there is 0
    past : (t : List ℕ) → 53 ≤ f → mem_at (sizes_of s) t f i ≡ 0
    past t l = mem-past fields.layout1 (fields.counts (sizes_of s)) t f i l

    go : (b : Bool) → ltb f 53 ≡ b → mem_at (sizes_of s) s' f i ≡ memory_of s f i
    go true l = agrees (twins w w' e) f i (ltb-true f 53 l) u
    go false l = past s' (ltb-false f 53 l) ∙ sym (past s (ltb-false f 53 l))

-- And it uses the same places of both.
pub used_alike
    : (s s' : List ℕ)
    → WellFormed s
    → WellFormed s'
    → abs s ≡ abs s'
    → (f i : ℕ)
    → used_in (sizes_of s') (memory_of s') f i ≡ used_in (sizes_of s) (memory_of s) f i
used_alike s s' w w' e f i = ap (λ (v : Sizes). used_in v (mem_at v s') f i) (same-sizes s s' e) ∙ uses-same (twins w w' e) f i

-- What each of a list has, one that is in it has.
each-elem : (P : ℕ → Type 0) (f : ℕ) (xs : List ℕ) → elem f xs ≡ true → Each P xs → P f
unfolding elem
each-elem P f [] e a = absurd (false≢true e)
each-elem P f (x ∷ xs) e a = go (eqb f x) refl (λ d. each-elem P f xs d a.1)
  where
    go : (b : Bool) → eqb f x ≡ b → (elem f xs ≡ true → P f) → P f
    go true d again = subst P (sym (eqb-true f x d)) a.0
    go false d again = again (rw d at e)

-- A field that is cleared is 0 where the machine does not use it.
unused-zero
    : (s : List ℕ) → WellFormed s → (f i : ℕ) → cleared f ≡ true → used_in (sizes_of s) (memory_of s) f i ≡ 0 → memory_of s f i ≡ 0
unfolding cleared used_by
unused-zero s w f i c =
    each-elem (λ f. used_in (sizes_of s) (memory_of s) f i ≡ 0 → memory_of s f i ≡ 0) f cleared_fields c (
      (λ e. e),
      (
        (λ e. (w.rep.tagged.unlinked i).zero (ap (λ (x : ℕ). is_linked x (memory_of s fields.resume_kind i)) (w.rep.tagged.free i e))),
        (
          (λ e. (w.rep.idle.records i e).older),
          (
            (λ e. (w.rep.idle.records i e).younger),
            (
              (λ e. (w.rep.idle.records i e).exits),
              (
                (λ e. (w.rep.idle.records i e).nexits),
                (
                  (λ e. w.rep.tagged.free i e),
                  (
                    (λ e. w.rep.idle.timers i e),
                    (
                      (λ e. e),
                      (
                        (λ e. w.rep.idle.cells i e),
                        (
                          (λ e. e),
                          tt,
                        ),
                      ),
                    ),
                  ),
                ),
              ),
            ),
          ),
        ),
      ),
    )

-- So two well-formed states that hold the same machine hold the same number in every place of such a field.
pub determined-cleared
    : (s s' : List ℕ)
    → WellFormed s
    → WellFormed s'
    → abs s ≡ abs s'
    → (f i : ℕ)
    → cleared f ≡ true
    → memory_of s' f i ≡ memory_of s f i
determined-cleared s s' w w' e f i c = go (ltb 0 (used_in (sizes_of s) (memory_of s) f i)) refl
  where
    go : (b : Bool) → ltb 0 (used_in (sizes_of s) (memory_of s) f i) ≡ b → memory_of s' f i ≡ memory_of s f i
    go true d = determined s s' w w' e f i (ltb-true 0 (used_in (sizes_of s) (memory_of s) f i) d)
    go false d =
        let u : used_in (sizes_of s) (memory_of s) f i ≡ 0 = omega (arith, ltb-false 0 (used_in (sizes_of s) (memory_of s) f i) d) in
        unused-zero s' w' f i c (used_alike s s' w w' e f i ∙ u) ∙ sym (unused-zero s w f i c u)
