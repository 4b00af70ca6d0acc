-- Pieces of a chunk, and where a line ends in it.
use Rattle.std.specs.Prelude.{◌≡◌, refl, Bool, true, false, not, cond, ◌==◌, List, [], ◌∷◌, ◌++◌, ℕ, suc, ◌+◌, ◌-◌, ◌≤◌, ◌<◌, eqb, ltb, length, get_or, take, drop, Option, Some, None, MatchOption}
use Rattle.std.specs.List.{position, position_or_len}
use Rattle.std.proofs.Common.{sym, ap, ◌∙◌, arith, eqb-true, ltb-true, ltb-false, length-drop, length-take-le, take_all, drop-drop, drop-cons, take-add, get_or-drop}
use Rattle.std.proofs.lemmas.Bool.{eqb-false}
use Rattle.listing.specs.Lines.{NoEnd}

-- The bytes of a chunk from one place to another.
abbrev pub piece : List ℕ → ℕ → ℕ → List ℕ
piece chunk from to = take (to - from) (drop from chunk)

pub length-piece : (chunk : List ℕ) (from to : ℕ) → from ≤ to → to ≤ length chunk → length (piece chunk from to) ≡ to - from
length-piece chunk from to h k = length-take-le (to - from) (drop from chunk) (omega (arith, length-drop from chunk))

-- A piece and the next one.
pub piece_join
    : (chunk : List ℕ) (a b c : ℕ) → a ≤ b → b ≤ c → piece chunk a b ++ piece chunk b c ≡ piece chunk a c
piece_join chunk a b c h k =
    let e : a + (b - a) ≡ b = omega arith in
    let f : b - a + (c - b) ≡ c - a = omega arith in
    ap (λ (xs : List ℕ). piece chunk a b ++ take (c - b) xs) (sym (ap (λ (i : ℕ). drop i chunk) e) ∙ sym (drop-drop (b - a) a chunk))
    ∙ sym (take-add (b - a) (c - b) (drop a chunk))
    ∙ ap (λ (n : ℕ). take n (drop a chunk)) f

-- Nothing.
pub piece-none : (chunk : List ℕ) (i : ℕ) → piece chunk i i ≡ []
piece-none chunk i = let e : i - i ≡ 0 = omega arith in ap (λ (n : ℕ). take n (drop i chunk)) e

-- One byte.
pub piece-one : (chunk : List ℕ) (i : ℕ) → i < length chunk → piece chunk i (i + 1) ≡ get_or chunk i 0 ∷ []
piece-one chunk i h =
    let e : i + 1 - i ≡ 1 = omega arith in
    ap (λ (n : ℕ). take n (drop i chunk)) e ∙ ap (take 1) (drop-cons chunk i 0 h)

-- All that follows.
pub piece-rest : (chunk : List ℕ) (from : ℕ) → piece chunk from (length chunk) ≡ drop from chunk
piece-rest chunk from = take_all (length chunk - from) (drop from chunk) (omega (arith, length-drop from chunk))

-- No line ends from `from` to i.
pub record Seeking (chunk : List ℕ) (from i : ℕ) : Type 0 where
  pub low : from ≤ i
  pub high : i ≤ length chunk
  pub none : NoEnd (piece chunk from i)

-- The first line end from `from` on is at r; r is the chunk's length where there is none.
pub record LineEnd (chunk : List ℕ) (from r : ℕ) : Type 0 where
  pub before : Seeking chunk from r
  pub found : r < length chunk → get_or chunk r 0 ≡ 10

-- The place of the first line end in some bytes, or their length.
abbrev end_in : List ℕ → ℕ
end_in xs = position_or_len (λ (b : ℕ). b == 10) xs

none_before : (xs : List ℕ) → NoEnd (take (end_in xs) xs)
none_before [] = tt
none_before (b ∷ bs) = go (eqb b 10) refl (none_before bs)
  where
    go : (c : Bool) → eqb b 10 ≡ c → NoEnd (take (end_in bs) bs) → NoEnd (take (cond (not c) (1 + end_in bs) 0) (b ∷ bs))
    go true e r = tt
    go false e r = let n : 1 + end_in bs ≡ suc (end_in bs) = omega arith in rw n (eqb-false b 10 e, r)

end-there : (xs : List ℕ) → end_in xs < length xs → get_or xs (end_in xs) 0 ≡ 10
end-there [] h = absurd (omega arith)
end-there (b ∷ bs) h = go (eqb b 10) refl h (end-there bs)
  where
    go : (c : Bool) → eqb b 10 ≡ c → cond (not c) (1 + end_in bs) 0 < suc (length bs)
        → (end_in bs < length bs → get_or bs (end_in bs) 0 ≡ 10)
        → get_or (b ∷ bs) (cond (not c) (1 + end_in bs) 0) 0 ≡ 10
    go true e k r = eqb-true b 10 e
    go false e k r = let n : 1 + end_in bs ≡ suc (end_in bs) = omega arith in rw n (r (omega arith))

-- The place of the first line end is within.
pub ends-within : (xs : List ℕ) (o : Option ℕ) → o ≡ position (λ (b : ℕ). b == 10) xs → MatchOption o (Unit {0}) (λ i. i < length xs)
ends-within xs o e = rw e (go (ltb (end_in xs) (length xs)) refl)
  where
    go : (c : Bool) → ltb (end_in xs) (length xs) ≡ c → MatchOption (cond c (Some (end_in xs)) None) (Unit {0}) (λ i. i < length xs)
    go true t = ltb-true (end_in xs) (length xs) t
    go false t = tt

-- What the place of the first line end from `from` on says of a chunk.
pub line_ends : (chunk : List ℕ) (from : ℕ) (o : Option ℕ) → from ≤ length chunk → o ≡ position (λ (b : ℕ). b == 10) (drop from chunk)
    → MatchOption o (LineEnd chunk from (length chunk)) (λ i. LineEnd chunk from (from + i))
line_ends chunk from o h e = rw e (go (ltb (end_in xs) (length xs)) refl)
  where
    xs : List ℕ
    xs = drop from chunk

    go : (c : Bool) → ltb (end_in xs) (length xs) ≡ c
        → MatchOption (cond c (Some (end_in xs)) None) (LineEnd chunk from (length chunk)) (λ i. LineEnd chunk from (from + i))
    go true t =
        let l : end_in xs < length xs = ltb-true (end_in xs) (length xs) t in
        let n : from + end_in xs - from ≡ end_in xs = omega arith in
        record {
          before =
              record {
                low = omega arith;
                high = omega (arith, length-drop from chunk);
                none = rw n (none_before xs);
              };
          found = λ k. sym (get_or-drop from chunk (end_in xs) 0) ∙ end-there xs l;
        }
    go false t =
        let l : length xs ≤ end_in xs = ltb-false (end_in xs) (length xs) t in
        let all : take (end_in xs) xs ≡ xs = take_all (end_in xs) xs l in
        record {
          before =
              record {
                low = h;
                high = omega arith;
                none = rw (piece-rest chunk from) (rw all at (none_before xs));
              };
          found = λ k. absurd (omega arith);
        }
