-- What `size` and `make` ensure, and what the code shows at each way out.
use Rattle.std.specs.Prelude.{◌≡◌, refl, Some, Bool, true, false, ◌&&◌, List, ℕ, ◌≤◌, ◌<◌, leb, length}
use Rattle.std.proofs.Math.Path.{sym, ap}
use Rattle.std.proofs.Common.{◌∙◌, arith, le-ltb, lt-ltb, leb-true}
use Rattle.std.proofs.lemmas.Bool.{and_parts}
use Rattle.machine.specs.Machine as machine
use Rattle.machine.specs.Good.{SizesInRange}
use Rattle.state.specs.Places.{sizes_in, total_in}
use Rattle.state.specs.declared.Sizes.{Sizes}
use Rattle.make.specs.Fresh.{between, counts_fit, sizes_fit, sizes_for, total_for, size_answer, fresh_bytes, make_answer, make_bytes}
use Rattle.make.specs.Code.{SizesFor}

pub record Sized (p r q k c n : ℕ) : Type 0 where
  pub answer : n ≡ size_answer p r q k c

-- The answer of `make`, and the final bytes of the buffer lent to it.
pub record MakeAnswers (p r q k c hz : ℕ) (s s' : List ℕ) (n : ℕ) : Type 0 where
  pub answer : n ≡ make_answer p r q k c hz s
  pub bytes : s' ≡ make_bytes p r q k c hz s

between-true : (a b v : ℕ) → between a b v ≡ true → (a ≤ v) × (v ≤ b)
between-true a b v e = let x : (leb a v ≡ true) × (leb v b ≡ true) = and_parts (leb a v) (leb v b) e in (leb-true a v x.0, leb-true v b x.1)

pub record CountsIn (p r q k c : ℕ) : Type 0 where
  pub processes : (1 ≤ p) × (p ≤ 4096)
  pub rendez : (1 ≤ r) × (r ≤ 4096)
  pub locks : (1 ≤ q) × (q ≤ 4096)
  pub timers : (1 ≤ k) × (k ≤ 4096)
  pub cells : (1 ≤ c) × (c ≤ 65000)

counts_in : (p r q k c : ℕ) → counts_fit p r q k c ≡ true → CountsIn p r q k c
unfolding counts_fit
counts_in p r q k c e =
    let a : Bool = between 1 4096 p in
    let b : Bool = between 1 4096 r in
    let d : Bool = between 1 4096 q in
    let f : Bool = between 1 4096 k in
    let x : ((a && b && d && f) ≡ true) × (between 1 65000 c ≡ true) = and_parts (a && b && d && f) (between 1 65000 c) e in
    let y : ((a && b && d) ≡ true) × (f ≡ true) = and_parts (a && b && d) f x.0 in
    let w : ((a && b) ≡ true) × (d ≡ true) = and_parts (a && b) d y.0 in
    let v : (a ≡ true) × (b ≡ true) = and_parts a b w.0 in
    record {
      processes = between-true 1 4096 p v.0;
      rendez = between-true 1 4096 r v.1;
      locks = between-true 1 4096 q w.1;
      timers = between-true 1 4096 k y.1;
      cells = between-true 1 65000 c x.1;
    }

-- sizes that fit are in range
pub sizes_fit_lem : (p r q k c hz : ℕ) → sizes_fit p r q k c hz ≡ true → SizesInRange (sizes_for p r q k c hz)
unfolding sizes_fit
sizes_fit_lem p r q k c hz e =
    let x : (counts_fit p r q k c ≡ true) × (between 1 4294967295 hz ≡ true) = and_parts (counts_fit p r q k c) (between 1 4294967295 hz) e in
    let h : CountsIn p r q k c = counts_in p r q k c x.0 in
    record { processes = h.processes; rendez = h.rendez; locks = h.locks; timers = h.timers; cells = h.cells; hz = between-true 1 4294967295 hz x.1 }

-- each way out of `size`
fits-any : (p r q k c : ℕ) → sizes_fit p r q k c 1 ≡ counts_fit p r q k c
unfolding sizes_fit
fits-any p r q k c = go (counts_fit p r q k c)
  where
    go : (b : Bool) → (b && true) ≡ b
    go true = refl
    go false = refl

pub size-no : {p r q k c : ℕ} → sizes_fit p r q k c 1 ≡ false → Sized p r q k c 2
unfolding size_answer
size-no {p} {r} {q} {k} {c} e = record { answer = rw (sym (fits-any p r q k c) ∙ e) }

pub size-yes : (z : Sizes) {p r q k c n : ℕ} → SizesFor p r q k c 1 (Some z) → n ≡ total_in z → Sized p r q k c n
unfolding size_answer
size-yes z {p} {r} {q} {k} {c} f d = record { answer = rw (sym (fits-any p r q k c) ∙ f.1) (d ∙ ap total_for f.0) }

-- each way out of `make`
pub make-unfit : {p r q k c hz : ℕ} {s : List ℕ} → sizes_fit p r q k c hz ≡ false → MakeAnswers p r q k c hz s s 2
unfolding make_answer make_bytes
make-unfit f = record { answer = rw f; bytes = rw f }

module _ (z : Sizes) {p r q k c hz : ℕ} {n : ℕ} (f : SizesFor p r q k c hz (Some z)) (x : n ≡ total_in z) where
  total-is : n ≡ total_for (sizes_for p r q k c hz)
  total-is = x ∙ ap total_for f.0

  pub make-short : {s : List ℕ} → length s < n → MakeAnswers p r q k c hz s s 1
  unfolding make_answer make_bytes
  make-short {s} l =
      let m = lt-ltb (length s) (total_for (sizes_for p r q k c hz)) (omega (arith, total-is)) in
      record { answer = rw (f.1, m); bytes = rw (f.1, m) }

  pub make-done : {s s' : List ℕ} → n ≤ length s → s' ≡ fresh_bytes (sizes_in z) s → MakeAnswers p r q k c hz s s' 0
  unfolding make_answer make_bytes
  make-done {s} l b =
      let m = le-ltb (length s) (total_for (sizes_for p r q k c hz)) (omega (arith, total-is)) in
      record { answer = rw (f.1, m); bytes = rw (f.1, m) (b ∙ ap (λ (v : machine.Sizes). fresh_bytes v s) f.0) }

-- the sizes that were found fit a state
pub sizes-ranged : (p r q k c hz : ℕ) (z : Sizes) → SizesFor p r q k c hz (Some z) → SizesInRange (sizes_in z)
sizes-ranged p r q k c hz z f = rw f.0 (sizes_fit_lem p r q k c hz f.1)
