-- The digits of a number, written from the last to the first.
use Rattle.std.specs.Prelude.{◌≡◌, refl, Bool, true, false, List, [], ◌∷◌, ◌++◌, ℕ, zero, suc, ◌+◌, ◌-◌, ◌*◌, ◌/◌, ◌%◌, ◌≤◌, ◌<◌, ltb, length, drop, set}
use Rattle.std.proofs.Common.{sym, ap, ◌∙◌, append_assoc, append-nil, arith, lt-ltb, le-ltb, ltb-false, length-set, drop_of_length-le, drop-cons, drop-set-lt, get_or-set_same}
use Rattle.machine.specs.Message.{digits, decimal}

-- more fuel than the number needs changes nothing
digits_fuel : (f g n : ℕ) → n ≤ f → n ≤ g → digits f n ≡ digits g n
unfolding digits
digits_fuel zero zero n h l = refl
digits_fuel zero (suc g) n h l = rw (lt-ltb n 10 (omega arith), digits)
digits_fuel (suc f) zero n h l = rw (lt-ltb n 10 (omega arith), digits)
digits_fuel (suc f) (suc g) n h l = go (ltb n 10) refl (λ t. digits_fuel f g (n / 10) (omega arith) (omega arith))
  where
    go : (b : Bool) → ltb n 10 ≡ b → (10 ≤ n → digits f (n / 10) ≡ digits g (n / 10)) → digits (suc f) n ≡ digits (suc g) n
    go true e k = rw (e, digits)
    go false e k = rw (e, digits) (ap (λ (l : List ℕ). l ++ (48 + n % 10) ∷ []) (k (ltb-false n 10 e)))

pub decimal-small : (n : ℕ) → n < 10 → decimal n ≡ (48 + n) ∷ []
unfolding decimal digits
decimal-small zero h = refl
decimal-small (suc m) h = rw (decimal, digits, lt-ltb (suc m) 10 h)

pub decimal-more : (n : ℕ) → 10 ≤ n → decimal n ≡ decimal (n / 10) ++ (48 + n % 10) ∷ []
unfolding decimal digits
decimal-more zero h = absurd (omega arith)
decimal-more (suc m) h =
    rw (decimal, digits, le-ltb (suc m) 10 h) (ap (λ (l : List ℕ). l ++ (48 + suc m % 10) ∷ []) (digits_fuel m (suc m / 10) (suc m / 10) (omega arith) (omega arith)))

-- 10 to the power of k
abbrev pub tens : ℕ → ℕ
tens zero = 1
tens (suc k) = 10 * tens k

-- The digits of pid are being written into s, of twenty bytes: those from at are there, and those of n are left.
pub record Writing (pid : ℕ) (s : List ℕ) (at n : ℕ) : Type 0 where
  pub room : 1 ≤ at
  pub within : at ≤ 20
  pub long : length s ≡ 20
  pub small : n < tens at
  pub left : decimal n ++ drop at s ≡ decimal pid

-- All are written, from r.
pub record Written (pid : ℕ) (s : List ℕ) (r : ℕ) : Type 0 where
  pub within : r < 20
  pub long : length s ≡ 20
  pub digits : drop r s ≡ decimal pid

-- a number of 64 bits has at most twenty digits
pub digits-start : (pid : ℕ) {s : List ℕ} → pid < 18446744073709551616 → length s ≡ 20 → Writing pid s 20 pid
digits-start pid {s} h l =
    record {
      room = omega arith;
      within = omega arith;
      long = l;
      small = omega arith;
      left = rw (drop_all s l) (append-nil (decimal pid));
    }
  where
    drop_all : (s : List ℕ) → length s ≡ 20 → drop 20 s ≡ []
    drop_all s l = drop_of_length-le s {i = 20} (omega arith)

-- one digit more stands at the end of the rest
put-digit : (s : List ℕ) (at v : ℕ) → 1 ≤ at → at ≤ length s → drop (at - 1) (set s (at - 1) v) ≡ v ∷ drop at s
put-digit s at v h l =
    let e : at ≡ suc (at - 1) = omega arith in
    drop-cons (set s (at - 1) v) (at - 1) 0 (rw length-set (omega arith))
    ∙ rw (get_or-set_same s (at - 1) v 0 (omega arith), drop-set-lt (suc (at - 1)) s (at - 1) v (omega arith))
    (ap (λ (k : ℕ). v ∷ drop k s) (sym e))

-- there is room for two digits where there are two left
two-left : (at n : ℕ) → 10 ≤ n → n < tens at → (2 ≤ at) × (n / 10 < tens (at - 1))
two-left zero n h l = absurd (omega arith)
two-left (suc zero) n h l = absurd (omega arith)
two-left (suc (suc k)) n h l =
    let e : suc (suc k) - 1 ≡ suc k = omega arith in
    (omega arith, rw e (omega arith))

pub digits_more : {pid : ℕ} {s s' : List ℕ} {at n v : ℕ} → Writing pid s at n → 10 ≤ n → v ≡ 48 + n % 10 → s' ≡ set s (at - 1) v
    → Writing pid s' (at - 1) (n / 10)
digits_more {pid} {s} {s'} {at} {n} {v} w h d e =
    let t : (2 ≤ at) × (n / 10 < tens (at - 1)) = two-left at n h w.small in
    record {
      room = omega (arith, t.0);
      within = omega (arith, w.within);
      long = rw e (length-set s (at - 1) v ∙ w.long);
      small = t.1;
      left =
          rw (e, put-digit s at v w.room (omega (arith, w.within, w.long)), d)
          (sym (append_assoc (decimal (n / 10)) ((48 + n % 10) ∷ []) (drop at s))
          ∙ ap (λ (l : List ℕ). l ++ drop at s) (sym (decimal-more n h))
          ∙ w.left);
    }

pub digits-end : {pid : ℕ} {s s' : List ℕ} {at n v : ℕ} → Writing pid s at n → n < 10 → v ≡ 48 + n % 10 → s' ≡ set s (at - 1) v
    → Written pid s' (at - 1)
digits-end {pid} {s} {s'} {at} {n} {v} w h d e =
    let q : v ≡ 48 + n = omega arith in
    record {
      within = omega (arith, w.within, w.room);
      long = rw e (length-set s (at - 1) v ∙ w.long);
      digits =
          rw (e, put-digit s at v w.room (omega (arith, w.within, w.long)), q)
          (ap (λ (l : List ℕ). l ++ drop at s) (sym (decimal-small n h)) ∙ w.left);
    }
