-- The cut of a text, its length, and the copy of its first bytes.
use Rattle.std.specs.Prelude.{◌≡◌, refl, Bool, true, false, List, [], ◌∷◌, ◌++◌, ℕ, zero, suc, ◌+◌, ◌-◌, ◌≤◌, ◌<◌, length, get_or, take, drop, set}
use Rattle.std.proofs.Common.{sym, ap, ◌∙◌, add-one, append-nil, arith, drop_of_length-le, not-suc-le-zero, le_of_suc-le-suc, lt-ltb, le-ltb, le-leb, length-set, length-take-le}
use Rattle.std.proofs.lemmas.Bool.{lt-leb}
use Rattle.std.proofs.Math.ListN.{get_or-eq_default}
use Rattle.std.proofs.Math.Seq.{take-length}
use Rattle.machine.specs.Message.{move_back, continuation, cut}
use Rattle.message.specs.Text.{text, text-length, TextAt}

back-zero : (bytes : List ℕ) → move_back bytes 0 ≡ 0
unfolding move_back
back-zero bytes = refl

back-stay : (bytes : List ℕ) (n : ℕ) → 0 < n → continuation (get_or bytes n 0) ≡ false → move_back bytes n ≡ n
unfolding move_back
back-stay bytes zero h d = absurd (omega arith)
back-stay bytes (suc n) h d = rw (d, move_back)

back_more : (bytes : List ℕ) (n : ℕ) → 0 < n → continuation (get_or bytes n 0) ≡ true → move_back bytes n ≡ move_back bytes (n - 1)
unfolding move_back
back_more bytes zero h d = absurd (omega arith)
back_more bytes (suc n) h d = let q : suc n - 1 ≡ n = omega arith in rw (q, d, move_back)

low : (b : ℕ) → b < 128 → continuation b ≡ false
unfolding continuation
low b h = rw (lt-leb 128 b h)

high : (b : ℕ) → 192 ≤ b → continuation b ≡ false
unfolding continuation
high b h = rw (le-leb 128 b (omega arith), le-ltb b 192 h)

middle : (b : ℕ) → 128 ≤ b → b < 192 → continuation b ≡ true
unfolding continuation
middle b h l = rw (le-leb 128 b h, lt-ltb b 192 l)

-- Whether byte k goes on a character; what is past the end does not.
pub record GoesOn (name digits status : List ℕ) (k : ℕ) (t : Bool) : Type 0 where
  pub answer : t ≡ continuation (get_or (text name digits status) k 0)

module _ {name digits status : List ℕ} {k b : ℕ} (t : TextAt name digits status k b) where
  pub goes_low : b < 128 → GoesOn name digits status k false
  goes_low l = record { answer = sym (low b l) ∙ ap continuation t.byte }

  pub goes_high : 192 ≤ b → GoesOn name digits status k false
  goes_high l = record { answer = sym (high b l) ∙ ap continuation t.byte }

  pub goes_middle : 128 ≤ b → b < 192 → GoesOn name digits status k true
  goes_middle l m = record { answer = sym (middle b l m) ∙ ap continuation t.byte }

pub goes-none : {name digits status : List ℕ} {k : ℕ} → length (text name digits status) ≤ k → GoesOn name digits status k false
goes-none {name} {digits} {status} h =
    record { answer = sym (low 0 (omega arith)) ∙ ap continuation (sym (get_or-eq_default (text name digits status) 0 h)) }

-- Where the text is cut.
pub record MovedBack (name digits status : List ℕ) (r : ℕ) : Type 0 where
  pub place : r ≡ move_back (text name digits status) 127
  pub within : r ≤ 127

-- still moving back, at n
pub record Moving (name digits status : List ℕ) (n : ℕ) : Type 0 where
  pub within : n ≤ 127
  pub same : move_back (text name digits status) n ≡ move_back (text name digits status) 127

pub move_start : {name digits status : List ℕ} → Moving name digits status 127
move_start = record { within = omega arith; same = refl }

pub move_zero : {name digits status : List ℕ} {n : ℕ} → Moving name digits status n → n ≤ 0 → MovedBack name digits status 0
move_zero {name} {digits} {status} {n} w h =
    let e : n ≡ 0 = omega arith in
    record { place = sym (back-zero (text name digits status)) ∙ (rw e at w.same); within = omega arith }

module _ {name digits status : List ℕ} {n : ℕ} {t : Bool} (w : Moving name digits status n) (h : 0 < n) (g : GoesOn name digits status n t) where
  pub move_stop : t ≡ false → MovedBack name digits status n
  move_stop e = record { place = sym (back-stay (text name digits status) n h (sym g.answer ∙ e)) ∙ w.same; within = w.within }

  pub move_more : t ≡ true → Moving name digits status (n - 1)
  move_more e =
      record { within = omega (arith, w.within); same = sym (back_more (text name digits status) n h (sym g.answer ∙ e)) ∙ w.same }

-- The length of the text once it is cut; what is left of it is its first r bytes.
pub record CutLength (name digits status : List ℕ) (r : ℕ) : Type 0 where
  pub size : r ≡ length (cut (text name digits status))
  pub within : r ≤ 127
  pub fits : r ≤ length (text name digits status)
  pub front : take r (text name digits status) ≡ cut (text name digits status)

pub record CutAsks (name digits : List ℕ) : Type 0 where
  pub name_fits : length name ≤ 28
  pub digits_fit : length digits ≤ 20

cut_short : (bytes : List ℕ) → length bytes ≤ 127 → cut bytes ≡ bytes
unfolding cut
cut_short bytes h = rw (le-leb (length bytes) 127 h)

cut-long : (bytes : List ℕ) → 127 < length bytes → cut bytes ≡ take (move_back bytes 127) bytes
unfolding cut
cut-long bytes h = rw (lt-leb (length bytes) 127 h)

shortened : {name digits status : List ℕ} {r : ℕ} → MovedBack name digits status r → 127 < length (text name digits status) → CutLength name digits status r
shortened {name} {digits} {status} {r} m h =
    let bytes : List ℕ = text name digits status in
    let c : cut bytes ≡ take (move_back bytes 127) bytes = cut-long bytes h in
    let f : r ≤ length bytes = omega (arith, m.within) in
    record {
      size = rw (c, ← m.place) (sym (length-take-le r bytes f));
      within = m.within;
      fits = f;
      front = rw (c, ← m.place);
    }

-- each way out of `cut_len`
pub cut-whole : {name digits status : List ℕ} {r : ℕ} → CutAsks name digits → r ≡ length name + length digits + length status + 3 → r ≤ 127
    → CutLength name digits status r
cut-whole {name} {digits} {status} {r} a q h =
    let bytes : List ℕ = text name digits status in
    let e : r ≡ length bytes = q ∙ sym (text-length name digits status) in
    let c : cut bytes ≡ bytes = cut_short bytes (omega arith) in
    record { size = rw c e; within = h; fits = omega arith; front = rw (c, e) (take-length bytes) }

pub cut_sum : {name digits status : List ℕ} {r n : ℕ} → MovedBack name digits status r → n ≡ length name + length digits + length status + 3 → 127 < n
    → CutLength name digits status r
cut_sum {name} {digits} {status} m e h = shortened m (omega (arith, text-length name digits status))

pub cut_status : {name digits status : List ℕ} {r : ℕ} → MovedBack name digits status r → 127 < length status → CutLength name digits status r
cut_status {name} {digits} {status} m h = shortened m (omega (arith, text-length name digits status))

-- What a copy of the first n bytes asks and does.
pub record CopyAsks (cell name digits status : List ℕ) (n : ℕ) : Type 0 where
  pub room : n ≤ length cell
  pub fits : n ≤ length (text name digits status)

pub record Copied (cell name digits status : List ℕ) (n : ℕ) (cell' : List ℕ) : Type 0 where
  pub bytes : cell' ≡ take n (text name digits status) ++ drop n cell

-- the first i bytes are there
pub record Copying (cell name digits status : List ℕ) (n : ℕ) (cell' : List ℕ) (i : ℕ) : Type 0 where
  pub within : i ≤ n
  pub asks : CopyAsks cell name digits status n
  pub bytes : cell' ≡ take i (text name digits status) ++ drop i cell
  pub long : length cell' ≡ length cell

pub copy_start : {cell name digits status : List ℕ} {n : ℕ} → CopyAsks cell name digits status n → Copying cell name digits status n cell 0
copy_start a = record { within = omega arith; asks = a; bytes = refl; long = refl }

-- one byte more
pub copy_step : (i : ℕ) (bytes cell : List ℕ) → i < length bytes → i < length cell
    → set (take i bytes ++ drop i cell) i (get_or bytes i 0) ≡ take (suc i) bytes ++ drop (suc i) cell
copy_step i [] cell h l = absurd (not-suc-le-zero h)
copy_step i (x ∷ bytes) [] h l = absurd (not-suc-le-zero l)
copy_step zero (x ∷ bytes) (y ∷ cell) h l = refl
copy_step (suc i) (x ∷ bytes) (y ∷ cell) h l = ap (λ (r : List ℕ). x ∷ r) (copy_step i bytes cell (le_of_suc-le-suc h) (le_of_suc-le-suc l))

pub copy_more : {cell name digits status cell₁ cell₂ : List ℕ} {n i b : ℕ} → Copying cell name digits status n cell₁ i → i < n
    → TextAt name digits status i b → cell₂ ≡ set cell₁ i b → Copying cell name digits status n cell₂ (i + 1)
copy_more {cell} {name} {digits} {status} {cell₁} {cell₂} {n} {i} {b} w h t e =
    record {
      within = omega arith;
      asks = w.asks;
      bytes = rw (add-one, e, w.bytes, t.byte) (copy_step i (text name digits status) cell (omega (arith, w.asks.fits)) (omega (arith, w.asks.room)));
      long = rw e (length-set cell₁ i b ∙ w.long);
    }

pub copy-end : {cell name digits status cell₁ : List ℕ} {n i : ℕ} → Copying cell name digits status n cell₁ i → n ≤ i → Copied cell name digits status n cell₁
copy-end {n = n} {i = i} w h = let e : i ≡ n = omega (arith, w.within) in record { bytes = rw (← e) w.bytes }

-- The same in the front of a longer cell, and what is behind it.
pub copied_front : {cell name digits status part : List ℕ} {n : ℕ} → n ≤ length cell → Copied (take n cell) name digits status (length (take n cell)) part
    → Copied cell name digits status n (part ++ drop n cell)
copied_front {cell} {name} {digits} {status} {part} {n} h c =
    let e : length (take n cell) ≡ n = length-take-le n cell h in
    let d : drop n (take n cell) ≡ [] = drop_of_length-le (take n cell) {i = n} (omega (arith, e)) in
    let b : part ≡ take n (text name digits status) ++ drop n (take n cell) =
    c.bytes ∙ ap (λ (k : ℕ). take k (text name digits status) ++ drop k (take n cell)) e
    in
    record {
      bytes =
          ap (λ (xs : List ℕ). xs ++ drop n cell)
          (b ∙ ap (λ (xs : List ℕ). take n (text name digits status) ++ xs) d ∙ append-nil (take n (text name digits status)));
    }
