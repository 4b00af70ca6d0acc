-- The step that bytes are.
use Rattle.std.specs.Prelude.{if◌then◌else◌, ◌≡◌, refl, Bool, true, false, List, ℕ, ◌≤◌, ◌<◌, eqb, length, get_or, Option, Some, None, MatchOption, ⊤}
use Rattle.std.proofs.Common.{sym, ap, ◌∙◌, arith, eq-eqb, ne_eqb, lt-ltb, le-ltb, eqb-true}
use Rattle.std.proofs.lemmas.Bool.{eqb-false}
use Rattle.std.proofs.Math.Option as math
use Rattle.std.proofs.Math.Option.{none, some}
use Rattle.machine.specs.Step.{Step, Body, kinds}
use Rattle.machine.specs.Bytes.{marking, decode_body, decode}
use Rattle.decode.specs.declared.Call.{Call}
use Rattle.decode.specs.declared.Decoded.{Decoded}
use Rattle.decode.specs.Means.{body_of, step_of, Ranged}
use Rattle.decode.specs.Calls.{asked, Read}

-- The answer stands for the step that the bytes are.
pub record Decodes (b : List ℕ) (d : Option Decoded) : Type 0 where
  pub step : step_of d ≡ decode b
  pub ranged : MatchOption d ⊤ (λ x. Ranged x.call)

-- No step: two bytes are missing, the mark is neither 0 nor 1, or the bytes do not fit their kind.
pub decodes-short : {b : List ℕ} → length b < 2 → Decodes b None
unfolding decode step_of
decodes-short {b} h = record { step = rw (lt-ltb (length b) 2 h); ranged = tt }

marking-other : (m : ℕ) (x : math.Option Body) → 1 < m → marking m x ≡ none
unfolding marking
marking-other m none h = refl
marking-other m (some x) h = rw (ne_eqb m 0 (λ e. omega arith), ne_eqb m 1 (λ e. omega arith))

pub decodes_unmarked : {b : List ℕ} → 2 ≤ length b → 1 < get_or b 1 0 → Decodes b None
unfolding decode step_of
decodes_unmarked {b} l h =
    record { step = rw (le-ltb (length b) 2 l, marking-other (get_or b 1 0) (decode_body kinds b) h); ranged = tt }

pub decodes-unfit : {b : List ℕ} → 2 ≤ length b → Read b None → Decodes b None
unfolding decode marking step_of asked
decodes-unfit {b} l h = record { step = rw (le-ltb (length b) 2 l, ← h.body); ranged = tt }

-- A step, marked where the mark is 1.
marking_as : (m : ℕ) (x : Body) → m ≤ 1 → ◌≡◌ {A = math.Option Step} (some (record { marked = eqb m 1; body = x })) (marking m (some x))
unfolding marking
marking_as m x h = go (eqb m 1) refl
  where
    go : (c : Bool) → eqb m 1 ≡ c
        → ◌≡◌ {A = math.Option Step} (some (record { marked = c; body = x }))
        (if eqb m 0
        then some (record { marked = false; body = x })
        else if c then some (record { marked = true; body = x }) else none)
    go true e = rw (ne_eqb m 0 (λ z. omega (arith, eqb-true m 1 e)))
    go false e = rw (eq-eqb m 0 (omega (arith, eqb-false m 1 e)))

pub decodes-step
    : {b : List ℕ} {r : Call}
    → 2 ≤ length b
    → get_or b 1 0 ≤ 1
    → Read b (Some r)
    → Decodes b (Some (record { marked = eqb (get_or b 1 0) 1; call = r }))
unfolding decode step_of asked
decodes-step {b} {r} l m h =
    record { step = rw (le-ltb (length b) 2 l, ← h.body) (marking_as (get_or b 1 0) (body_of r) m); ranged = h.ranged }

-- For whoever goes by cases on the answer: the step that it is, and none.
pub is-step
    : {b : List ℕ} {o : Option Decoded} {d : Decoded}
    → Decodes b o
    → o ≡ Some d
    → decode b ≡ some (record { marked = d.marked; body = body_of d.call })
unfolding step_of
is-step {b} h e = sym h.step ∙ ap (λ (x : Option Decoded). step_of x) e

pub is_none : {b : List ℕ} {o : Option Decoded} → Decodes b o → o ≡ None → decode b ≡ none
unfolding step_of
is_none {b} h e = sym h.step ∙ ap (λ (x : Option Decoded). step_of x) e
