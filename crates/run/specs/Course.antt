-- A run is a course of exported steps, so `Demand3` is said of it.
use Rattle.std.specs.Prelude.{◌≡◌, refl, List, [], ◌∷◌, ◌++◌, map, ℕ, suc, length, take, drop}
use Rattle.std.proofs.Common.{sym, ap, subst, ◌∙◌, length-take-le, take_at, drop_at}
use Rattle.memory.specs.Le.{le}
use Rattle.step.specs.Demands.{Handed, Back, Course, Demanded, demanded}
use Rattle.make.specs.Fresh.{make_answer, make_bytes}
use Rattle.run.specs.Ran.{words_at, Ran, ended, full, onward}

-- The records of the answers, of 160 bytes each: what was handed in stood in them before the run, in a, and what came back stands in them after
-- it, in a'. Behind them nothing changes.
abbrev pub Records : List ℕ → List ℕ → List Handed → List Back → Type 0
Records a a' [] [] = a' ≡ a
Records a a' [] (y ∷ ys) = ⊥
Records a a' (x ∷ xs) [] = ⊥
Records a a' (x ∷ xs) (y ∷ ys) =
    (x.message ≡ drop 32 (take 160 a))
    × (x.words ≡ words_at (take 160 a))
    × (y.number ≡ le 8 (take 160 a') 0)
    × (y.message ≡ drop 32 (take 160 a'))
    × (y.words ≡ words_at (take 160 a'))
    × Records (drop 160 a) (drop 160 a') xs ys

-- What is handed in, the first n of the steps bs, and what comes back, step by step.
pub record AsCourse (bs : List (List ℕ)) (s s' a a' : List ℕ) (n : ℕ) : Type 0 where
  pub handed : List Handed
  pub back : List Back
  pub steps : map (λ (x : Handed). x.bytes) handed ≡ take n bs
  pub many : length back ≡ n
  pub records : Records a a' handed back
  pub course : Course s handed back s'

pub run-course : {bs : List (List ℕ)} {s s' a a' : List ℕ} {n : ℕ} → Ran bs s s' a a' n → AsCourse bs s s' a a' n
run-course ended = record { handed = []; back = []; steps = refl; many = refl; records = refl; course = (refl, refl) }
run-course (full h) = record { handed = []; back = []; steps = refl; many = refl; records = refl; course = (refl, refl) }
run-course {bs = b ∷ bs} {s = s} {a = a} (onward {s₁ = s₁} {r = r} {a₂ = a₂} h o rest) =
    let c = run-course rest in
    let l : length r ≡ 160 = o.long ∙ length-take-le 160 a h in
    let t : take 160 (r ++ a₂) ≡ r = take_at r a₂ 160 l in
    let d : drop 160 (r ++ a₂) ≡ a₂ = drop_at r a₂ 160 l in
    record {
      handed = record { bytes = b; message = drop 32 (take 160 a); words = words_at (take 160 a) } ∷ c.handed;
      back = record { number = le 8 r 0; state = s₁; message = drop 32 r; words = words_at r } ∷ c.back;
      steps = λ j. b ∷ c.steps j;
      many = ap suc c.many;
      records = (
        refl,
        refl,
        ap (λ (x : List ℕ). le 8 x 0) (sym t),
        ap (drop 32) (sym t),
        ap words_at (sym t),
        subst (λ (x : List ℕ). Records (drop 160 a) x c.handed c.back) (sym d) c.records,
      );
      course = (o.step, c.course);
    }

-- `Demanded`, of a run from what `make` wrote: of what its records held and hold.
pub record RunDemanded (p r q k c hz : ℕ) (bs : List (List ℕ)) (s s' a a' : List ℕ) (n : ℕ) : Type 0 where
  pub run : AsCourse bs (make_bytes p r q k c hz s) s' a a' n
  pub demanded : Demanded p r q k c hz run.handed run.back s'

pub run-demanded
    : (p r q k c hz : ℕ) (s : List ℕ) {bs : List (List ℕ)} {s' a a' : List ℕ} {n : ℕ}
    → make_answer p r q k c hz s ≡ 0
    → Ran bs (make_bytes p r q k c hz s) s' a a' n
    → RunDemanded p r q k c hz bs s s' a a' n
run-demanded p r q k c hz s {s' = s'} e h =
    let x = run-course h in
    record { run = x; demanded = demanded p r q k c hz s x.handed x.back s' e x.course }
