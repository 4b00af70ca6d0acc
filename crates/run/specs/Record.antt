-- The words of an answer, written into its record.
use Rattle.std.specs.Prelude.{if◌then◌else◌, ◌≡◌, List, ◌⊎◌, ℕ, ◌+◌, ◌-◌, ◌^◌, ◌≤◌, ◌<◌, ltb, length, drop}
use Rattle.std.proofs.Common.{sym, ap, ◌∙◌, inl, inr, arith, lt-ltb, le-ltb, length-drop, get_or-drop, ext_get_or}
use Rattle.memory.specs.Le.{le, put, length-put, get-put, le-put-same, le-put-other}
use Rattle.step.specs.declared.Words.{Words}
use Rattle.step.specs.Words.{lent}
use Rattle.run.specs.Ran.{words_at}

-- The answer w stands in the record: its number, and where that is no refusal's its words. No other byte is written.
pub record Written (r r' : List ℕ) (w : Words) : Type 0 where
  pub number : le 8 r' 0 ≡ w.number
  pub words : words_at r' ≡ (if ltb w.number 32 then words_at r else lent w.first w.second w.length)
  pub message : drop 32 r' ≡ drop 32 r
  pub long : length r' ≡ length r

-- One word of the answer is put into the record, at `at`.
record Word (r r' : List ℕ) (at v : ℕ) : Type 0 where
  here : le 8 r' at ≡ v
  other : (b : ℕ) → (b + 8 ≤ at) ⊎ (at + 8 ≤ b) → le 8 r' b ≡ le 8 r b
  message : drop 32 r' ≡ drop 32 r
  long : length r' ≡ length r

word : {r r' : List ℕ} (at v : ℕ) → 32 ≤ length r → at + 8 ≤ 32 → v < 2 ^ 64 → r' ≡ put 8 r at v → Word r r' at v
word {r} {r'} at v l h f e =
    record {
      here = ap (λ (x : List ℕ). le 8 x at) e ∙ le-put-same 8 r at v (omega arith) (omega arith);
      other = λ b o. ap (λ (x : List ℕ). le 8 x b) e ∙ le-put-other 8 8 r at v b o;
      message =
          ap (drop 32) e
          ∙ ext_get_or 0 (drop 32 (put 8 r at v)) (drop 32 r)
          (length-drop 32 (put 8 r at v) ∙ ap (λ (n : ℕ). n - 32) (length-put 8 r at v) ∙ sym (length-drop 32 r))
          (λ i g. get_or-drop 32 (put 8 r at v) i 0 ∙ get-put 8 r at v (32 + i) (inr (omega arith)) ∙ sym (get_or-drop 32 r i 0));
      long = ap length e ∙ length-put 8 r at v;
    }

-- A refusal: the number alone.
pub written-refused : {r r' : List ℕ} {w : Words} → 32 ≤ length r → w.number < 32 → r' ≡ put 8 r 0 w.number → Written r r' w
written-refused {r} {r'} {w} l h e =
    let n : Word r r' 0 w.number = word 0 w.number l (omega arith) (omega arith) e in
    record {
      number = n.here;
      words = rw (lt-ltb w.number 32 h, n.other 8 (inr (omega arith)), n.other 16 (inr (omega arith)), n.other 24 (inr (omega arith)));
      message = n.message;
      long = n.long;
    }

-- Any other answer: all four words.
pub written-words
    : {r r₁ r₂ r₃ r' : List ℕ} {w : Words}
    → 32 ≤ length r
    → 32 ≤ w.number
    → w.number < 2 ^ 64
    → w.first < 2 ^ 64
    → w.second < 2 ^ 64
    → w.length < 2 ^ 64
    → r₁ ≡ put 8 r 0 w.number
    → r₂ ≡ put 8 r₁ 8 w.first
    → r₃ ≡ put 8 r₂ 16 w.second
    → r' ≡ put 8 r₃ 24 w.length
    → Written r r' w
written-words {r} {r₁} {r₂} {r₃} {r'} {w} l h fn ff fs fl e₁ e₂ e₃ e₄ =
    let n : Word r r₁ 0 w.number = word 0 w.number l (omega arith) fn e₁ in
    let f : Word r₁ r₂ 8 w.first = word 8 w.first (omega (arith, n.long)) (omega arith) ff e₂ in
    let s : Word r₂ r₃ 16 w.second = word 16 w.second (omega (arith, n.long, f.long)) (omega arith) fs e₃ in
    let m : Word r₃ r' 24 w.length = word 24 w.length (omega (arith, n.long, f.long, s.long)) (omega arith) fl e₄ in
    let first : le 8 r' 8 ≡ w.first = m.other 8 (inl (omega arith)) ∙ s.other 8 (inl (omega arith)) ∙ f.here in
    let second : le 8 r' 16 ≡ w.second = m.other 16 (inl (omega arith)) ∙ s.here in
    record {
      number = m.other 0 (inl (omega arith)) ∙ s.other 0 (inl (omega arith)) ∙ f.other 0 (inl (omega arith)) ∙ n.here;
      words = rw (le-ltb w.number 32 h, first, second, m.here);
      message = m.message ∙ s.message ∙ f.message ∙ n.message;
      long = m.long ∙ s.long ∙ f.long ∙ n.long;
    }
