-- The bytes of a step, written at the front of others.
use Rattle.std.specs.Prelude.{◌≡◌, refl, List, [], ◌∷◌, ◌++◌, ℕ, zero, suc, ◌+◌, ◌*◌, ◌/◌, ◌%◌, ◌^◌, ◌≤◌, ◌<◌, length, get_or, take, drop, set}
use Rattle.std.proofs.Common.{sym, ap, ◌∙◌, append_assoc, append-nil, add-one, add-zero, add-suc, suc-add, arith, length-append, length-drop, length-set, take-append-drop, length-take-le, take-suc-set, take-suc, drop-set-lt, take_at, drop-drop}
use Rattle.std.proofs.Math.Seq.{append_snoc, drop-append-add, take_all}
use Rattle.memory.specs.Le.{put, length-put}
use Rattle.machine.specs.Basics.{concat_map}
use Rattle.machine.specs.Bytes.{bytes_of}
use Rattle.machine.proofs.BytesLaws.{length_fields}

-- The bytes of a step with numbers as its fields, and with a byte string.
unfoldable pub number_bytes : ℕ → ℕ → List ℕ → List ℕ
number_bytes kind mark xs = kind ∷ mark ∷ concat_map (bytes_of 8) xs

unfoldable pub text_bytes : ℕ → ℕ → List ℕ → List ℕ
text_bytes kind mark text = kind ∷ mark ∷ (bytes_of 4 (length text) ++ text)

-- The bytes are at the front, so many, and the others stay.
pub record Put (bytes out out' : List ℕ) (r : ℕ) : Type 0 where
  pub size : r ≡ length bytes
  pub fits : r ≤ length out
  pub held : out' ≡ bytes ++ drop r out

-- The kind byte and the context byte.
pub head-put : (out : List ℕ) {kind mark : ℕ} → 2 ≤ length out → set (set out 0 kind) 1 mark ≡ kind ∷ mark ∷ drop 2 out
head-put [] h = absurd (omega arith)
head-put (x ∷ []) h = absurd (omega arith)
head-put (x ∷ y ∷ out) h = refl

-- A number put at a place, in bytes.
put_is : (n : ℕ) (s : List ℕ) (at v : ℕ) → at + n ≤ length s → put n s at v ≡ take at s ++ bytes_of n v ++ drop (at + n) s
unfolding put bytes_of
put_is zero s at v h = rw (append-nil (take at s), add-zero at) (sym (take-append-drop at s))
put_is (suc n) s at v h =
    let x : ℕ = v % 256 in
    let t : take (suc at) (set s at x) ≡ take at s ++ (x ∷ []) = take-suc-set s at x (omega arith) in
    let d : drop (suc at + n) (set s at x) ≡ drop (suc at + n) s = drop-set-lt (suc at + n) s at x (omega arith) in
    put_is n (set s at x) (suc at) (v / 256) (omega (arith, length-set s at x))
    ∙ (rw (t, d, append_snoc (take at s) x (bytes_of n (v / 256)), suc-add at n, add-suc at n))

-- A number put behind what is written.
drop-behind : (front out : List ℕ) (at n : ℕ) → length front ≡ at → drop (at + n) (front ++ drop at out) ≡ drop (at + n) out
drop-behind front out at n e =
    ap (λ (k : ℕ). drop (k + n) (front ++ drop at out)) (sym e) ∙ drop-append-add front (drop at out) n ∙ drop-drop n at out

put-behind : (n : ℕ) (front out : List ℕ) (at v : ℕ) → length front ≡ at → at + n ≤ length out
    → put n (front ++ drop at out) at v ≡ front ++ bytes_of n v ++ drop (at + n) out
put-behind n front out at v e h =
    let d : drop (at + n) (front ++ drop at out) ≡ drop (at + n) out = drop-behind front out at n e in
    put_is n (front ++ drop at out) at v (omega (arith, length-append front (drop at out), length-drop at out))
    ∙ (rw (take_at front (drop at out) at e, d))

concat_last : (xs : List ℕ) (v : ℕ) → concat_map (bytes_of 8) (xs ++ v ∷ []) ≡ concat_map (bytes_of 8) xs ++ bytes_of 8 v
unfolding concat_map
concat_last [] v = append-nil (bytes_of 8 v)
concat_last (x ∷ xs) v = rw (concat_last xs v) (sym (append_assoc (bytes_of 8 x) (concat_map (bytes_of 8) xs) (bytes_of 8 v)))

-- Numbers written from byte 2 on; and the first j of them.
pub record Stored (numbers out out' : List ℕ) : Type 0 where
  pub held : out' ≡ take 2 out ++ concat_map (bytes_of 8) numbers ++ drop (2 + 8 * length numbers) out

pub record Storing (numbers out out' : List ℕ) (j : ℕ) : Type 0 where
  pub long : length out' ≡ length out
  pub held : out' ≡ take 2 out ++ concat_map (bytes_of 8) (take j numbers) ++ drop (2 + 8 * j) out

pub storing_start : {numbers out : List ℕ} → Storing numbers out out 0
unfolding concat_map
storing_start {numbers} {out} = record { long = refl; held = rw (append-nil (take 2 out)) (sym (take-append-drop 2 out)) }

module _ {numbers out out' : List ℕ} {j : ℕ} (w : Storing numbers out out' j) (room : 2 + 8 * length numbers ≤ length out) where
  written : j ≤ length numbers → length (take 2 out ++ concat_map (bytes_of 8) (take j numbers)) ≡ 2 + 8 * j
  written h =
      length-append (take 2 out) (concat_map (bytes_of 8) (take j numbers))
      ∙ omega (arith, length-take-le 2 out (omega arith), length_fields (take j numbers), length-take-le j numbers h)

  pub storing_more : {out'' : List ℕ} → j < length numbers → out'' ≡ put 8 out' (2 + 8 * j) (get_or numbers j 0) → Storing numbers out out'' (j + 1)
  storing_more {out''} h e =
      let v : ℕ = get_or numbers j 0 in
      let front : List ℕ = take 2 out ++ concat_map (bytes_of 8) (take j numbers) in
      let t : take (j + 1) numbers ≡ take j numbers ++ v ∷ [] = rw (add-one j) (take-suc numbers j 0 h) in
      let a : 2 + 8 * (j + 1) ≡ 2 + 8 * j + 8 = omega arith in
      record {
        long = rw e (length-put 8 out' (2 + 8 * j) v ∙ w.long);
        held =
            rw (e, w.held, t, concat_last (take j numbers) v, a)
            (put-behind 8 front out (2 + 8 * j) v (written (omega arith)) (omega arith)
            ∙ ap (λ (l : List ℕ). l ++ drop (2 + 8 * j + 8) out) (append_assoc (take 2 out) (concat_map (bytes_of 8) (take j numbers)) (bytes_of 8 v)));
      }

  pub stored : j ≡ length numbers → Stored numbers out out'
  stored h =
      let t : take j numbers ≡ numbers = take_all j numbers (omega arith) in
      record { held = w.held ∙ rw (t, h) }

-- The numbers behind the kind and the mark.
pub numbers-put : {kind mark : ℕ} {numbers out out₁ out₂ : List ℕ} → 2 + 8 * length numbers ≤ length out
    → out₁ ≡ kind ∷ mark ∷ drop 2 out
    → Stored numbers out₁ out₂
    → Put (number_bytes kind mark numbers) out out₂ (2 + 8 * length numbers)
unfolding number_bytes
numbers-put {kind} {mark} {numbers} {out} {out₁} {out₂} a f k =
    record {
      size = sym (omega (arith, length_fields numbers));
      fits = a;
      held = k.held ∙ (rw (f, drop-behind (kind ∷ mark ∷ []) out 2 (8 * length numbers) refl));
    }

-- What the writing of a byte string asks.
pub record TextAsks (out text : List ℕ) : Type 0 where
  pub room : 6 + length text ≤ length out
  pub short : length text < 2 ^ 32

-- The kind, the mark, the length and the bytes.
pub text-put : {kind mark : ℕ} {text out out₀ out₁ out₂ : List ℕ} → TextAsks out text
    → out₀ ≡ kind ∷ mark ∷ drop 2 out
    → out₁ ≡ put 4 out₀ 2 (length text)
    → out₂ ≡ take 6 out₁ ++ text ++ drop (6 + length text) out₁
    → Put (text_bytes kind mark text) out out₂ (6 + length text)
unfolding text_bytes bytes_of
text-put {kind} {mark} {text} {out} {out₀} {out₁} {out₂} a e₀ e k =
    let n : ℕ = length text in
    let front : List ℕ = (kind ∷ mark ∷ []) ++ bytes_of 4 n in
    let f : out₁ ≡ front ++ drop 6 out =
    e ∙ (rw e₀ (put-behind 4 (kind ∷ mark ∷ []) out 2 n refl (omega (arith, a.room)))) in
    record {
      size = sym (omega (arith, length-append (bytes_of 4 n) text));
      fits = a.room;
      held = k ∙ (rw (f, drop-behind front out 6 n refl));
    }
