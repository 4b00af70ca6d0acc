-- Decoding what was encoded gives the step back.
use Rattle.std.specs.Prelude.{◌≡◌, refl, Bool, true, false, List, [], ◌∷◌, ◌++◌, ℕ, zero, suc, ◌+◌, ◌*◌, ◌/◌, ◌%◌, ◌^◌, ◌<◌, length, drop}
use Rattle.std.proofs.Common.{sym, ap, ap₂, ◌∙◌, arith, add-suc, eq-eqb, le-leb, le-ltb, length-append, get_or-append-add, drop_at}
use Rattle.std.proofs.Math.Option.{some}
use Rattle.memory.specs.Le.{le}
use Rattle.machine.specs.Basics.{concat_map}
use Rattle.machine.specs.Step.{Step, Body, Takes, takes_numbers, takes_bytes, start, rfork, name, sched, yield, sleep, tsleep, wakeup, qlock, canqlock, qunlock, cond, clock, tadd, tdel, intr, due, exit, wait, kinds, fill, word_of, fields_of}
use Rattle.machine.specs.Encodable.{AllBelow, Encodable}
use Rattle.machine.specs.Bytes.{bytes_of, kind_number, encode_fields, encode, numbers_at, decode_form, decode_body, marking, decode}

-- A number in the bytes behind another list is the number there.
le_skip : (n : ℕ) (pre s : List ℕ) (at : ℕ) → le n (pre ++ s) (length pre + at) ≡ le n s at
unfolding le
le_skip zero pre s at = refl
le_skip (suc n) pre s at =
    ap₂ (λ (a b : ℕ). a + 256 * b) (get_or-append-add pre s at 0)
    (ap (λ (k : ℕ). le n (pre ++ s) k) (sym (add-suc (length pre) at)) ∙ le_skip n pre s (suc at))

-- The bytes of a number, read, are the number.
le_bytes : (n v : ℕ) (post : List ℕ) → v < 256 ^ n → le n (bytes_of n v ++ post) 0 ≡ v
unfolding le bytes_of
le_bytes zero v post h = omega arith
le_bytes (suc n) v post h =
    let e : le n (v % 256 ∷ (bytes_of n (v / 256) ++ post)) 1 ≡ le n (bytes_of n (v / 256) ++ post) 0 = le_skip n (v % 256 ∷ []) (bytes_of n (v / 256) ++ post) 0 in
    let q : le n (bytes_of n (v / 256) ++ post) 0 ≡ v / 256 = le_bytes n (v / 256) post (omega arith) in
    omega arith

length-bytes : (n v : ℕ) → length (bytes_of n v) ≡ n
unfolding bytes_of
length-bytes zero v = refl
length-bytes (suc n) v = ap suc (length-bytes n (v / 256))

numbers_skip : (n : ℕ) (pre s : List ℕ) (at : ℕ) → numbers_at n (pre ++ s) (length pre + at) ≡ numbers_at n s at
unfolding numbers_at
numbers_skip zero pre s at = refl
numbers_skip (suc n) pre s at =
    ap₂ (λ (a : ℕ) (b : List ℕ). a ∷ b) (le_skip 8 pre s at)
    (ap (λ (k : ℕ). numbers_at n (pre ++ s) k) (omega arith) ∙ numbers_skip n pre s (at + 8))

-- The numbers in the bytes of the fields are the fields.
numbers-back : (xs : List ℕ) → AllBelow (2 ^ 64) xs → numbers_at (length xs) (concat_map (bytes_of 8) xs) 0 ≡ xs
unfolding numbers_at concat_map
numbers-back [] h = refl
numbers-back (x ∷ xs) h =
    ap₂ (λ (a : ℕ) (b : List ℕ). a ∷ b) (le_bytes 8 x (concat_map (bytes_of 8) xs) h.0)
    (ap (λ (k : ℕ). numbers_at (length xs) (bytes_of 8 x ++ concat_map (bytes_of 8) xs) k) (omega (arith, length-bytes 8 x))
    ∙ numbers_skip (length xs) (bytes_of 8 x) (concat_map (bytes_of 8) xs) 0
    ∙ numbers-back xs h.1)

-- The numbers behind a kind and a context byte.
pub fields_back : (k c : ℕ) (xs : List ℕ) → AllBelow (2 ^ 64) xs → numbers_at (length xs) (k ∷ c ∷ concat_map (bytes_of 8) xs) 2 ≡ xs
fields_back k c xs h = numbers_skip (length xs) (k ∷ c ∷ []) (concat_map (bytes_of 8) xs) 0 ∙ numbers-back xs h

pub length_fields : (xs : List ℕ) → length (concat_map (bytes_of 8) xs) ≡ 8 * length xs
unfolding concat_map
length_fields [] = refl
length_fields (x ∷ xs) = length-append (bytes_of 8 x) (concat_map (bytes_of 8) xs) ∙ omega (arith, length-bytes 8 x, length_fields xs)

-- A body whose fields are numbers, and one whose field is a byte string, from the bytes behind the kind and the context.
numbers-form : (k c : ℕ) (xs : List ℕ) (f : Takes (length xs)) (b : Body)
    → AllBelow (2 ^ 64) xs
    → fill (length xs) f xs ≡ some b
    → decode_form (takes_numbers (length xs) f) (k ∷ c ∷ concat_map (bytes_of 8) xs) ≡ some b
unfolding decode_form
numbers-form k c xs f b h e =
    rw (eq-eqb (suc (suc (length (concat_map (bytes_of 8) xs)))) (2 + 8 * length xs) (omega (arith, length_fields xs)), fields_back k c xs h) e

pub bytes-form : (k c : ℕ) (bs : List ℕ) (f : List ℕ → Body)
    → length bs < 2 ^ 32
    → decode_form (takes_bytes f) (k ∷ c ∷ (bytes_of 4 (length bs) ++ bs)) ≡ some (f bs)
unfolding decode_form
bytes-form k c bs f h =
    let s : List ℕ = bytes_of 4 (length bs) ++ bs in
    let n : length s ≡ 4 + length bs = length-append (bytes_of 4 (length bs)) bs ∙ omega (arith, length-bytes 4 (length bs)) in
    let e : le 4 (k ∷ c ∷ s) 2 ≡ length bs = le_skip 4 (k ∷ c ∷ []) s 0 ∙ le_bytes 4 (length bs) bs h in
    let d : drop 4 s ≡ bs = drop_at (bytes_of 4 (length bs)) bs 4 (length-bytes 4 (length bs)) in
    rw (le-leb 6 (suc (suc (length s))) (omega arith), eq-eqb (suc (suc (length s))) (6 + le 4 (k ∷ c ∷ s) 2) (omega arith), d)

-- The bytes of each kind of step.
body_back : (b : Body) (c : ℕ) → Encodable (fields_of b) → decode_body kinds (kind_number kinds b ∷ c ∷ encode_fields (fields_of b)) ≡ some b
unfolding decode_body kind_number kinds word_of fields_of encode_fields fill
body_back (start M) c h = numbers-form 1 c (M ∷ []) start (start M) h refl
body_back (rfork F M) c h = numbers-form 2 c (F ∷ M ∷ []) rfork (rfork F M) h refl
body_back (name BYTES) c h = bytes-form 3 c BYTES name h
body_back sched c h = numbers-form 4 c [] sched sched h refl
body_back yield c h = numbers-form 5 c [] yield yield h refl
body_back (sleep R C) c h = numbers-form 6 c (R ∷ C ∷ []) sleep (sleep R C) h refl
body_back (tsleep R C S N NOW) c h = numbers-form 7 c (R ∷ C ∷ S ∷ N ∷ NOW ∷ []) tsleep (tsleep R C S N NOW) h refl
body_back (wakeup R) c h = numbers-form 8 c (R ∷ []) wakeup (wakeup R) h refl
body_back (qlock Q) c h = numbers-form 9 c (Q ∷ []) qlock (qlock Q) h refl
body_back (canqlock Q) c h = numbers-form 10 c (Q ∷ []) canqlock (canqlock Q) h refl
body_back (qunlock Q) c h = numbers-form 11 c (Q ∷ []) qunlock (qunlock Q) h refl
body_back (cond C v) c h = numbers-form 12 c (C ∷ v ∷ []) cond (cond C v) h refl
body_back (clock NOW) c h = numbers-form 13 c (NOW ∷ []) clock (clock NOW) h refl
body_back (tadd T KIND S N R NOW) c h =
    numbers-form 14 c (T ∷ KIND ∷ S ∷ N ∷ R ∷ NOW ∷ []) tadd (tadd T KIND S N R NOW) h refl
body_back (tdel T) c h = numbers-form 15 c (T ∷ []) tdel (tdel T) h refl
body_back (intr NOW) c h = numbers-form 16 c (NOW ∷ []) intr (intr NOW) h refl
body_back due c h = numbers-form 17 c [] due due h refl
body_back (exit BYTES) c h = bytes-form 18 c BYTES exit h
body_back wait c h = numbers-form 19 c [] wait wait h refl

marked-back : (mark : Bool) (b : Body) → Encodable (fields_of b) → decode (encode (record { marked = mark; body = b })) ≡ some (record { marked = mark; body = b })
unfolding decode encode marking
marked-back true b h = rw (le-ltb (suc (suc (length (encode_fields (fields_of b))))) 2 (omega arith), body_back b 1 h)
marked-back false b h = rw (le-ltb (suc (suc (length (encode_fields (fields_of b))))) 2 (omega arith), body_back b 0 h)

pub decode-encode : (s : Step) → Encodable (fields_of s.body) → decode (encode s) ≡ some s
decode-encode s h = marked-back s.marked s.body h
