-- The digits of a number put from the last to the first.
use Rattle.std.specs.Prelude.{◌≡◌, refl, Bool, true, false, List, [], ◌∷◌, ◌++◌, ℕ, suc, ◌+◌, ◌-◌, ◌/◌, ◌%◌, ◌≤◌, ◌<◌, ltb, length, take, drop, set, get_or}
use Rattle.std.proofs.Common.{sym, ap, ◌∙◌, append_assoc, append-nil, arith, ltb-true, ltb-false, length-append, length-set, take-append-drop, take_all, drop-drop, drop_of_length-le, length-drop, length-take-le, take-suc}
use Rattle.std.proofs.lemmas.List.{set_at}
use Rattle.machine.specs.Message.{decimal}
use Rattle.message.specs.Digits.{decimal-small, decimal-more}
use Rattle.print.specs.Put.{Room, Put, put_of}
use Rattle.print.specs.Width.{Wide}

-- The digits of n stand at the front of out, r bytes; behind them are those that were there.
pub record Fronted (out : List ℕ) (n : ℕ) (out' : List ℕ) (r : ℕ) : Type 0 where
  pub bytes : out' ≡ decimal n ++ drop (length (decimal n)) out
  pub ends : r ≡ length (decimal n)
  pub few : r ≤ 20

-- They are being put: those of m are left, to end at i.
pub record Filling (out : List ℕ) (n : ℕ) (out' : List ℕ) (i m : ℕ) : Type 0 where
  pub there : List ℕ
  pub left : decimal m ++ there ≡ decimal n
  pub bytes : out' ≡ take i out ++ there ++ drop (length (decimal n)) out
  pub here : i ≡ length (decimal m)
  pub before : 0 < i
  pub fits : i ≤ length out
  pub long : length out' ≡ length out

decimal-some : (n : ℕ) → 1 ≤ length (decimal n)
decimal-some n = go (ltb n 10) refl
  where
    go : (b : Bool) → ltb n 10 ≡ b → 1 ≤ length (decimal n)
    go true e = omega (arith, ap length (decimal-small n (ltb-true n 10 e)))
    go false e =
        omega (arith, ap length (decimal-more n (ltb-false n 10 e)), length-append (decimal (n / 10)) ((48 + n % 10) ∷ []))

-- one byte more before what is there
put-before
    : (out : List ℕ) (i v : ℕ) (there rest : List ℕ) → i < length out
    → set (take (suc i) out ++ there ++ rest) i v ≡ take i out ++ (v ∷ there) ++ rest
put-before out i v there rest h =
    let x : ℕ = get_or out i 0 in
    let e : take (suc i) out ++ there ++ rest ≡ take i out ++ x ∷ there ++ rest =
    rw (take-suc out i 0 h, append_assoc (take i out) (x ∷ []) there)
    in
    ap (λ (l : List ℕ). set l i v) (e ∙ append_assoc (take i out) (x ∷ there) rest)
    ∙ set_at (take i out) x (there ++ rest) v i (length-take-le i out (omega arith))
    ∙ sym (append_assoc (take i out) (v ∷ there) rest)

pub fill_start : {out : List ℕ} {n w : ℕ} → 20 ≤ length out → Wide n w → Filling out n out w n
fill_start {out} {n} {w} room h =
    record {
      there = [];
      left = append-nil (decimal n);
      bytes = rw (h.digits, append-nil) (sym (take-append-drop (length (decimal n)) out));
      here = h.digits;
      before = omega (arith, h.some);
      fits = omega (arith, h.few);
      long = refl;
    }

pub fill_more
    : {out : List ℕ} {n : ℕ} {out₁ out₂ : List ℕ} {i m : ℕ}
    → Filling out n out₁ i m
    → 10 ≤ m
    → out₂ ≡ set out₁ (i - 1) (48 + m % 10)
    → Filling out n out₂ (i - 1) (m / 10)
fill_more {out} {n} {out₁} {out₂} {i} {m} w h e =
    let v : ℕ = 48 + m % 10 in
    let q : i ≡ suc (i - 1) = omega (arith, w.before) in
    let l : decimal m ≡ decimal (m / 10) ++ v ∷ [] = decimal-more m h in
    let k : length (decimal m) ≡ length (decimal (m / 10)) + 1 = ap length l ∙ length-append (decimal (m / 10)) (v ∷ []) in
    let rest : List ℕ = drop (length (decimal n)) out in
    record {
      there = v ∷ w.there;
      left = sym (append_assoc (decimal (m / 10)) (v ∷ []) w.there) ∙ ap (λ (x : List ℕ). x ++ w.there) (sym l) ∙ w.left;
      bytes =
          e
          ∙ ap (λ (x : List ℕ). set x (i - 1) v) (w.bytes ∙ ap (λ (j : ℕ). take j out ++ w.there ++ rest) q)
          ∙ put-before out (i - 1) v w.there rest (omega (arith, w.fits));
      here = omega (arith, w.here);
      before = omega (arith, w.here, decimal-some (m / 10));
      fits = omega (arith, w.fits);
      long = rw e (length-set out₁ (i - 1) v ∙ w.long);
    }

pub fill_end
    : {out : List ℕ} {n : ℕ} {out₁ out₂ : List ℕ} {i m w : ℕ}
    → Wide n w
    → Filling out n out₁ i m
    → m < 10
    → out₂ ≡ set out₁ 0 (48 + m)
    → Fronted out n out₂ w
fill_end {out} {n} {out₁} {out₂} {i} {m} {w} g f h e =
    let l : decimal m ≡ (48 + m) ∷ [] = decimal-small m h in
    let q : i ≡ suc 0 = omega (arith, f.here, ap length l) in
    let t : (48 + m) ∷ f.there ≡ decimal n = ap (λ (x : List ℕ). x ++ f.there) (sym l) ∙ f.left in
    let rest : List ℕ = drop (length (decimal n)) out in
    record {
      bytes =
          e
          ∙ ap (λ (x : List ℕ). set x 0 (48 + m)) (f.bytes ∙ ap (λ (j : ℕ). take j out ++ f.there ++ rest) q)
          ∙ put-before out 0 (48 + m) f.there rest (omega (arith, f.fits, q))
          ∙ ap (λ (x : List ℕ). x ++ rest) t;
      ends = g.digits;
      few = g.few;
    }

-- At the front of the l bytes from `at` on, which are all that are left.
pub digits_put
    : {out out' : List ℕ} {at l n r : ℕ}
    → Room 20 out at
    → l ≡ length out - at
    → Fronted (take l (drop at out)) n out' r
    → Put 20 out at (decimal n) (take at out ++ (out' ++ drop l (drop at out))) (at + r)
digits_put {out} {out'} {at} {l} {n} {r} room e f =
    let k : ℕ = length (decimal n) in
    let h : length (drop at out) ≤ l = omega (arith, length-drop at out) in
    let a : take l (drop at out) ≡ drop at out = take_all l (drop at out) h in
    let z : drop l (drop at out) ≡ [] = drop_of_length-le (drop at out) {i = l} h in
    let b : out' ≡ decimal n ++ drop (at + k) out =
    f.bytes ∙ ap (λ (x : List ℕ). decimal n ++ x) (ap (drop k) a ∙ drop-drop k at out)
    in
    put_of
    (ap (λ (x : List ℕ). take at out ++ (out' ++ x)) z
    ∙ ap (λ (x : List ℕ). take at out ++ x) (append-nil out' ∙ b)
    ∙ sym (append_assoc (take at out) (decimal n) (drop (at + k) out)))
    (omega (arith, f.ends))
    (omega (arith, f.ends, f.few))
    (omega (arith, f.ends, f.few))
