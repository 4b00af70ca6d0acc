-- Bytes put into a lent buffer, and a text put there.
use Rattle.std.specs.Prelude.{◌≡◌, refl, List, [], ◌++◌, ℕ, ◌+◌, ◌≤◌, length, take, drop}
use Rattle.std.proofs.Common.{sym, ap, ◌∙◌, append_assoc, arith, length-append, length-drop, length-take-le, take_at, drop_at, drop-drop}
use Rattle.std.proofs.Math.Seq.{take-length, paste, paste-zero}

-- From `at` on there is room for so many bytes.
abbrev pub Room : ℕ → List ℕ → ℕ → Type 0
Room most out at = at + most ≤ length out

-- The bytes xs, at most so many, stand in out from `at` to r; before and behind them are those that were there.
pub record Put (most : ℕ) (out : List ℕ) (at : ℕ) (xs out' : List ℕ) (r : ℕ) : Type 0 where
  pub bytes : out' ≡ take at out ++ xs ++ drop (at + length xs) out
  pub ends : r ≡ at + length xs
  pub few : length xs ≤ most
  pub within : r ≤ length out
  pub long : length out' ≡ length out

-- the length of what was there and what is put
put_front : (out : List ℕ) (at : ℕ) (xs : List ℕ) → at ≤ length out → length (take at out ++ xs) ≡ at + length xs
put_front out at xs h = length-append (take at out) xs ∙ ap (λ (k : ℕ). k + length xs) (length-take-le at out h)

put-long : (out : List ℕ) (at : ℕ) (xs : List ℕ) → at + length xs ≤ length out → length (take at out ++ xs ++ drop (at + length xs) out) ≡ length out
put-long out at xs h =
    omega (
      arith,
      length-append (take at out ++ xs) (drop (at + length xs) out),
      put_front out at xs (omega arith),
      length-drop (at + length xs) out,
    )

-- Bytes that stand there are put.
pub put_of
    : {most : ℕ} {out : List ℕ} {at : ℕ} {xs out' : List ℕ} {r : ℕ}
    → out' ≡ take at out ++ xs ++ drop (at + length xs) out
    → r ≡ at + length xs
    → length xs ≤ most
    → at + length xs ≤ length out
    → Put most out at xs out' r
put_of {most} {out} {at} {xs} {out'} {r} e q f h =
    record { bytes = e; ends = q; few = f; within = omega arith; long = ap length e ∙ put-long out at xs h }

-- One after another.
pub put_join
    : {m n : ℕ} {out : List ℕ} {at : ℕ} {xs out₁ : List ℕ} {r₁ : ℕ} {ys out₂ : List ℕ} {r₂ : ℕ}
    → Put m out at xs out₁ r₁
    → Put n out₁ r₁ ys out₂ r₂
    → Put (m + n) out at (xs ++ ys) out₂ r₂
put_join {m} {n} {out} {at} {xs} {out₁} {r₁} {ys} {out₂} {r₂} p q =
    let l : length (xs ++ ys) ≡ length xs + length ys = length-append xs ys in
    let a : List ℕ = take at out ++ xs in
    let d : List ℕ = drop (at + length xs) out in
    let e : out₁ ≡ a ++ d = p.bytes in
    let k : length a ≡ r₁ = put_front out at xs (omega (arith, p.ends, p.within)) ∙ sym p.ends in
    let t : take r₁ out₁ ≡ a = ap (take r₁) e ∙ take_at a d r₁ k in
    let w : at + length xs + length ys ≡ at + length (xs ++ ys) = omega arith in
    let u : drop (r₁ + length ys) out₁ ≡ drop (at + length (xs ++ ys)) out =
    sym (drop-drop (length ys) r₁ out₁)
    ∙ ap (drop (length ys)) (ap (drop r₁) e ∙ drop_at a d r₁ k)
    ∙ drop-drop (length ys) (at + length xs) out
    ∙ ap (λ (j : ℕ). drop j out) w
    in
    put_of
    (q.bytes ∙ rw (t, u, append_assoc (take at out) xs ys))
    (omega (arith, p.ends, q.ends))
    (omega (arith, p.few, q.few))
    (omega (arith, p.ends, q.ends, q.within, p.long))

-- The same, said of other bytes that are the same, and of a larger bound.
pub put_as
    : {m n : ℕ} {out : List ℕ} {at : ℕ} {xs ys out' : List ℕ} {r : ℕ}
    → Put m out at xs out' r
    → xs ≡ ys
    → m ≤ n
    → Put n out at ys out' r
put_as p e h =
    rw (← e) (record { bytes = p.bytes; ends = p.ends; few = omega (arith, p.few); within = p.within; long = p.long })

-- Nothing.
pub put-none : {out : List ℕ} {at : ℕ} → at ≤ length out → Put 0 out at [] out at
put-none {out} {at} h = put_of (paste-zero out at []) (omega arith) (omega arith) (omega arith)

-- A text.
pub put_text : {out : List ℕ} {at : ℕ} {text out' : List ℕ} → Room (length text) out at → out' ≡ paste out at text (length text)
    → Put (length text) out at text out' (at + length text)
put_text {out} {at} {text} room e = put_of (e ∙ rw (take-length text)) refl (omega arith) room
