-- One step, with its answer in the record.
use Rattle.std.specs.Prelude.{◌≡◌, refl, Bool, true, false, List, [], ◌++◌, ℕ, ◌+◌, ◌-◌, ◌≤◌, ltb, length, take, drop, Result, Err}
use Rattle.std.proofs.Common.{sym, ap, subst, ◌∙◌, append-nil, arith, ltb-true, ltb-false, length-append, length-drop, drop_of_length-le, length-take-le, take_all, get_or-take, drop_at}
use Rattle.std.proofs.Math.ListN.{get_or-append}
use Rattle.memory.specs.Le.{le, le_ext}
use Rattle.machine.specs.Bytes.{decode}
use Rattle.state.specs.WellFormed.{WellFormed}
use Rattle.state.specs.declared.Sizes.{Sizes}
use Rattle.outcome.specs.declared.Reply.{Reply}
use Rattle.outcome.specs.declared.Refusal.{Refusal}
use Rattle.outcome.specs.declared.Refusal.TheVariants.{NotWellFormed}
use Rattle.proc.specs.Taken.{Taken}
use Rattle.step.specs.declared.Words.{Words}
use Rattle.step.specs.Words.{Lent, lent, WordsAre}
use Rattle.step.specs.After.{WellIn, formed_of, well-after}
use Rattle.step.specs.Exported.{Exported, Replied, replies, refuses, replies_of, exported_answer, exported_refused}
use Rattle.run.specs.Ran.{words_at, OneRan}
use Rattle.run.specs.Record.{Written}

-- A state and a record for one step.
pub record OneAsks (z : Sizes) (s r : List ℕ) : Type 0 where
  pub well : WellIn z s
  pub room : 32 ≤ length r

-- The step is taken and its answer stands in the record; the state is well formed again.
pub record OneDone (z : Sizes) (s s' b r r' : List ℕ) : Type 0 where
  pub ran : OneRan s s' b r r'
  pub well : WellIn z s'

-- Numbers in the first 32 bytes, with other bytes behind those.
le-front : (r x : List ℕ) (i : ℕ) → 32 ≤ length r → i + 8 ≤ 32 → le 8 (take 32 r ++ x) i ≡ le 8 r i
le-front r x i l h =
    le_ext 8 (take 32 r ++ x) r i
    (λ j a b. get_or-append (take 32 r) x 0 j (omega (arith, length-take-le 32 r l)) ∙ get_or-take 32 r j 0 (omega arith))

-- The exported step, from an answer that is written into the record.
exported_record
    : {s s' b m m' r₁ r' : List ℕ} {p : Result Reply Refusal} {w : Words} (r : List ℕ)
    → Replied s s' b m m' p
    → WordsAre p w
    → words_at r₁ ≡ words_at r
    → Written r₁ r' w
    → Exported s s' b m m' (words_at r) (words_at r') (le 8 r' 0)
exported_record {s} {s'} {b} {m} {m'} {r₁} {r'} {p} {w} r t q e a = go (ltb w.number 32) refl
  where
    go : (x : Bool) → ltb w.number 32 ≡ x → Exported s s' b m m' (words_at r) (words_at r') (le 8 r' 0)
    go true d =
        let f : words_at r' ≡ words_at r = rw d at a.words ∙ e in
        subst (λ (n : ℕ). Exported s s' b m m' (words_at r) (words_at r') n) (sym a.number)
        (subst (λ (v : Lent). Exported s s' b m m' (words_at r) v w.number) (sym f) (exported_refused t q (ltb-true w.number 32 d)))
    go false d =
        let f : words_at r' ≡ lent w.first w.second w.length = rw d at a.words in
        subst (λ (n : ℕ). Exported s s' b m m' (words_at r) (words_at r') n) (sym a.number)
        (subst (λ (v : Lent). Exported s s' b m m' (words_at r) v w.number) (sym f) (exported_answer t q (ltb-false w.number 32 d)))

-- What the code does for one step: it lends the record behind its words as the message buffer, and then writes the words.
pub one-done
    : {z : Sizes} {s s' b m' r r₁ r' : List ℕ} {p : Result Reply Refusal} {w : Words}
    → OneAsks z s r
    → Taken z s s' (decode b) (take (length r - 32) (drop 32 r)) m' p
    → length m' ≡ length (take (length r - 32) (drop 32 r))
    → r₁ ≡ take 32 r ++ (m' ++ drop (length r - 32) (drop 32 r))
    → WordsAre p w
    → Written r₁ r' w
    → OneDone z s s' b r r'
one-done {z} {s} {s'} {b} {m'} {r} {r₁} {r'} {p} {w} a t k e q d =
    let m : List ℕ = drop 32 r in
    let l : length m ≡ length r - 32 = length-drop 32 r in
    let f : take (length r - 32) m ≡ m = take_all (length r - 32) m (omega arith) in
    let g : drop (length r - 32) m ≡ [] = drop_of_length-le m {i = length r - 32} (omega arith) in
    let e₁ : r₁ ≡ take 32 r ++ m' = e ∙ ap (λ (x : List ℕ). take 32 r ++ x) (ap (λ (x : List ℕ). m' ++ x) g ∙ append-nil m') in
    let t₁ : Taken z s s' (decode b) m m' p = rw f at t in
    let n : length (take 32 r) ≡ 32 = length-take-le 32 r a.room in
    let h : drop 32 r' ≡ m' = d.message ∙ ap (drop 32) e₁ ∙ drop_at (take 32 r) m' 32 n in
    let y : words_at r₁ ≡ words_at r =
    ap words_at e₁ ∙ rw (le-front r m' 8 a.room (omega arith), le-front r m' 16 a.room (omega arith), le-front r m' 24 a.room (omega arith)) in
    let v : Replied s s' b m m' p =
    replies (formed_of a.well) (replies_of a.well t₁)
    in
    record {
      ran =
          record {
            step =
                subst (λ (x : List ℕ). Exported s s' b m x (words_at r) (words_at r') (le 8 r' 0)) (sym h)
                (exported_record r v q y d);
            long = d.long ∙ ap length e₁ ∙ length-append (take 32 r) m' ∙ omega (arith, k, ap length f);
          };
      well = well-after a.well t₁;
    }

-- On a state that is not well formed: 1.
pub one-refused
    : {s b r r' : List ℕ} {w : Words} → (WellFormed s → ⊥) → WordsAre (Err NotWellFormed) w → Written r r' w → OneRan s s b r r'
one-refused {s} {b} {r} {r'} n q d =
    let v : Replied s s b (drop 32 r) (drop 32 r) (Err NotWellFormed) =
    refuses n (record { reply = refl; message = refl; state = refl })
    in
    record {
      step =
          subst (λ (x : List ℕ). Exported s s b (drop 32 r) x (words_at r) (words_at r') (le 8 r' 0)) (sym d.message)
          (exported_record r v q refl d);
      long = d.long;
    }
