-- docs/MACHINE.md, "Promises", 1 and 3, said of the exported step and the bytes that are lent to it.
use Rattle.std.specs.Prelude.{if◌then◌else◌, ◌≡◌, refl, Bool, true, false, List, [], ◌∷◌, map, ℕ, ltb, length}
use Rattle.std.proofs.Common.{sym, ap, subst, ◌∙◌, arith}
use Rattle.std.proofs.lemmas.Bool.{false≢true}
use Rattle.std.proofs.Math.Option.{Option, none, some}
use Rattle.machine.specs.Basics.{elem}
use Rattle.machine.specs.Machine.{Machine, fresh, asleep}
use Rattle.machine.specs.Good.{Each}
use Rattle.machine.specs.Table.{table, holds}
use Rattle.machine.specs.Bytes.{decode}
use Rattle.machine.specs.Step.{Step}
use Rattle.machine.specs.Outcome.{Answer, Reply, answer, refused}
use Rattle.machine.specs.StepOf.{outcome_of, refusing, step_of}
use Rattle.kept.specs.Allowed.{caused}
use Rattle.kept.specs.Refused.{refused_by_lem}
use Rattle.kept.specs.Total.{numbers, Comes, total-outcome}
use Rattle.history.specs.History.{Input, Event, gives, history_from, machine_after}
use Rattle.history.specs.Demand3.{Demand3, PlacesRead}
use Rattle.history.proofs.Proved.{demand3}
use Rattle.state.specs.Fields as fields
use Rattle.state.specs.Abs.{memory_of, abs}
use Rattle.state.specs.WellFormed.{WellFormed}
use Rattle.make.specs.Fresh.{sizes_for, make_answer, make_bytes}
use Rattle.make.specs.Holds.{Made, make-made}
use Rattle.outcome.specs.Means.{told}
use Rattle.step.specs.Words.{number_of, answer_number, Lent, words_after}
use Rattle.step.specs.After.{left_of}
use Rattle.step.specs.Exported.{outcome, message_after, Answered, Exported, formed, malformed}

-- The first: a step, handed in with whatever bytes, comes back with an answer or with one number of the table; a refused one changes
-- nothing lent to it, save the one pid that a failed page copy uses up.
pub data Demand1 (s s' b m m' : List ℕ) (w w' : Lent) (n : ℕ) : Type 0 where
  answers : (a : Answer) → n ≡ number_of (answer a) → Demand1 s s' b m m' w w' n
  refuses : elem n (numbers table) ≡ true → s' ≡ left_of s n (decode b) → m' ≡ m → w' ≡ w → Demand1 s s' b m m' w w' n

one_left : (s b : List ℕ) → left_of s 1 (decode b) ≡ s
unfolding left_of
one_left s b = go (decode b)
  where
    go : (x : Option Step) → left_of s 1 x ≡ s
    go none = refl
    go (some x) = refl

pub demand1 : {s s' b m m' : List ℕ} {w w' : Lent} {n : ℕ} → Exported s s' b m m' w w' n → Demand1 s s' b m m' w w' n
unfolding number_of words_after message_after told elem table
demand1 {s} {s'} {b} {m} {m'} {w} {w'} {n} (formed f a) = go (total-outcome (abs s) (decode b) (length m))
  where
    go : Comes (outcome s b m).reply → Demand1 s s' b m m' w w' n
    go (Comes.done x e) = answers x (a.number ∙ ap number_of e)
    go (Comes.with_number k e l) =
        let d : n ≡ k = a.number ∙ ap number_of e in
        refuses (subst (λ (j : ℕ). elem j (numbers table) ≡ true) (sym d) l)
        (a.state.left k e ∙ ap (λ (j : ℕ). left_of s j (decode b)) (sym d))
        (a.message ∙ ap (λ (r : Reply). message_after r m) e)
        (a.words ∙ ap (λ (r : Reply). words_after r w) e)
demand1 {s} {b = b} (malformed f a) =
    refuses (ap (λ (j : ℕ). elem j (numbers table)) a.number) (a.state ∙ sym (one_left s b) ∙ ap (λ (j : ℕ). left_of s j (decode b)) (sym a.number)) a.message a.words

-- What is handed in: the step's bytes, a message buffer and words; and what comes back, with the bytes of the state then.
pub record Handed : Type 0 where
  pub bytes : List ℕ
  pub message : List ℕ
  pub words : Lent

pub record Back : Type 0 where
  pub number : ℕ
  pub state : List ℕ
  pub message : List ℕ
  pub words : Lent

-- One exported step after another, each working on the bytes that the last one left, and nobody else writing them.
abbrev pub Course : List ℕ → List Handed → List Back → List ℕ → Type 0
Course s [] ys s' = (ys ≡ []) × (s' ≡ s)
Course s (x ∷ xs) [] s' = ⊥
Course s (x ∷ xs) (y ∷ ys) s' =
    Exported s y.state x.bytes x.message y.message x.words y.words y.number × Course y.state xs ys s'

-- What the history is told of it.
abbrev pub input_of : Handed → Input
input_of x = record { step = decode x.bytes; buffer = length x.message }

-- What came back of each step is what the history tells: the number, the words and the message buffer.
abbrev pub Answers : List Handed → List Back → List Event → Type 0
Answers [] [] [] = Unit {0}
Answers [] [] (e ∷ es) = ⊥
Answers [] (y ∷ ys) es = ⊥
Answers (x ∷ xs) [] es = ⊥
Answers (x ∷ xs) (y ∷ ys) [] = ⊥
Answers (x ∷ xs) (y ∷ ys) (e ∷ es) =
    (y.number ≡ number_of e.reply)
    × (y.words ≡ words_after e.reply x.words)
    × (y.message ≡ message_after e.reply x.message)
    × Answers xs ys es

-- A course from a well-formed state follows the definition: its answers are the definition's, and the bytes hold its machine.
pub record Follows (m : Machine) (xs : List Handed) (ys : List Back) (s' : List ℕ) : Type 0 where
  pub well_formed : WellFormed s'
  pub machine : abs s' ≡ machine_after m (map input_of xs)
  pub answers : Answers xs ys (history_from m (map input_of xs))

step-formed
    : {s s' b m m' : List ℕ} {w w' : Lent} {n : ℕ} → WellFormed s → Exported s s' b m m' w w' n → Answered s s' b m m' w w' n
step-formed f (formed g a) = a
step-formed f (malformed n a) = absurd (n f)

pub follows : (s : List ℕ) (xs : List Handed) (ys : List Back) (s' : List ℕ) → WellFormed s → Course s xs ys s' → Follows (abs s) xs ys s'
follows s [] ys s' f (e, d) =
    record {
      well_formed = subst WellFormed (sym d) f;
      machine = ap abs d;
      answers = subst (λ (z : List Back). Answers [] z []) (sym e) tt;
    }
follows s (x ∷ xs) [] s' f c = absurd c
follows s (x ∷ xs) (y ∷ ys) s' f (e, c) =
    let a = step-formed f e in
    let g : Follows (abs y.state) xs ys s' = follows y.state xs ys s' a.state.well_formed c in
    let d : abs y.state ≡ (gives (abs s) (input_of x)).after = a.state.machine in
    let h : Follows (gives (abs s) (input_of x)).after xs ys s' = subst (λ (k : Machine). Follows k xs ys s') d g in
    record {
      well_formed = h.well_formed;
      machine = h.machine;
      answers = (a.number, a.words, a.message, h.answers);
    }

-- Number 1 is about bytes alone: no step meets it on a machine.
never_1 : (m : Machine) (o : Option Step) (k : ℕ) → (outcome_of m o k).reply ≡ refused 1 → ⊥
unfolding outcome_of refusing holds table
never_1 m none k e = let d : ◌≡◌ {A = ℕ} 2 1 = cc in omega (arith, d)
never_1 m (some x) k e = go (ltb k 127) e
  where
    go : (b : Bool) → (if b then refusing 2 m else step_of m x).reply ≡ refused 1 → ⊥
    go true d = let q : ◌≡◌ {A = ℕ} 2 1 = cc in omega (arith, q)
    go false d = false≢true (caused m x 1 (refused_by_lem m x 1 d))

number_1 : (r : Reply) → number_of r ≡ 1 → r ≡ refused 1
unfolding number_of answer_number
number_1 (answer (Answer.pid n)) e = absurd (omega (arith, e))
number_1 (answer (Answer.run n)) e = absurd (omega (arith, e))
number_1 (answer (Answer.run_child n c m)) e = absurd (omega (arith, e))
number_1 (answer Answer.done) e = absurd (omega (arith, e))
number_1 (answer Answer.asleep) e = absurd (omega (arith, e))
number_1 (answer (Answer.yes_no true)) e = absurd (omega (arith, e))
number_1 (answer (Answer.yes_no false)) e = absurd (omega (arith, e))
number_1 (answer (Answer.fired f k)) e = absurd (omega (arith, e))
number_1 (answer (Answer.exit n st)) e = absurd (omega (arith, e))
number_1 (answer (Answer.child n m)) e = absurd (omega (arith, e))
number_1 (answer Answer.idle) e = absurd (omega (arith, e))
number_1 (answer Answer.end) e = absurd (omega (arith, e))
number_1 (refused n) e = ap refused e

-- From a well-formed state it never comes.
pub never-one
    : (s : List ℕ) (xs : List Handed) (ys : List Back) (s' : List ℕ)
    → WellFormed s
    → Course s xs ys s'
    → Each (λ (y : Back). y.number ≡ 1 → ⊥) ys
never-one s [] ys s' f (e, d) = subst (Each (λ (y : Back). y.number ≡ 1 → ⊥)) (sym e) tt
never-one s (x ∷ xs) [] s' f c = absurd c
never-one s (x ∷ xs) (y ∷ ys) s' f (e, c) =
    let a = step-formed f e in (
      λ q. never_1 (abs s) (decode x.bytes) (length x.message) (number_1 _ (sym a.number ∙ q)),
      never-one y.state xs ys s' a.state.well_formed c,
    )

-- The third and more, of a course from what `make` wrote: the answers, with their words and messages, are those of the history, number 1 never
-- comes, and the lent state holds each living process in the place that the history tells. The claim about the list is `Demand3`, whose parts speak
-- of every list, so of every point of this one.
pub record Demanded (p r q k c hz : ℕ) (xs : List Handed) (ys : List Back) (s' : List ℕ) : Type 0 where
  pub follows : Follows (fresh (sizes_for p r q k c hz)) xs ys s'
  pub never1 : Each (λ (y : Back). y.number ≡ 1 → ⊥) ys
  pub places : PlacesRead (abs s') (history_from (fresh (sizes_for p r q k c hz)) (map input_of xs))
  pub asleep : memory_of s' fields.asleep_count 0 ≡ asleep (abs s')
  pub list : Demand3 (sizes_for p r q k c hz) (map input_of xs)

-- The count that the state keeps is the machine's.
stored-asleep : {s : List ℕ} → WellFormed s → memory_of s fields.asleep_count 0 ≡ asleep (abs s)
unfolding abs
stored-asleep f = f.rep.queues.asleep

pub demanded
    : (p r q k c hz : ℕ) (s : List ℕ) (xs : List Handed) (ys : List Back) (s' : List ℕ)
    → make_answer p r q k c hz s ≡ 0
    → Course (make_bytes p r q k c hz s) xs ys s'
    → Demanded p r q k c hz xs ys s'
demanded p r q k c hz s xs ys s' e course =
    let made : Made p r q k c hz (make_bytes p r q k c hz s) = make-made p r q k c hz s e in
    let f = subst (λ (m : Machine). Follows m xs ys s') made.machine (follows (make_bytes p r q k c hz s) xs ys s' made.well_formed course) in
    let d : Demand3 (sizes_for p r q k c hz) (map input_of xs) = demand3 (sizes_for p r q k c hz) (map input_of xs) in
    record {
      follows = f;
      never1 = never-one (make_bytes p r q k c hz s) xs ys s' made.well_formed course;
      places =
          subst (λ (m : Machine). PlacesRead m (history_from (fresh (sizes_for p r q k c hz)) (map input_of xs))) (sym f.machine)
          d.places;
      asleep = stored-asleep f.well_formed;
      list = d;
    }
