-- The kinds of step by their words and their numbers.
use Rattle.std.specs.Prelude.{if◌then◌else◌, ◌≡◌, ◌≢◌, refl, Bool, true, false, ◌&&◌, List, [], ◌∷◌, ℕ, ◌≤◌, ◌<◌, eqb, length, codes}
use Rattle.std.proofs.Common.{ap, ◌∙◌, arith, eqb-true}
use Rattle.std.proofs.Math.Option.{Option, none, some}
use Rattle.std.proofs.lemmas.Bool.{false≢true}
use Rattle.machine.specs.Basics.{same, ascii}
use Rattle.machine.specs.Step as step
use Rattle.machine.specs.Step.{Body, Form, takes_numbers, takes_bytes, kinds}
use Rattle.machine.specs.Parse.{first_word, after_space, body_in, parse_body}
use Rattle.parse.specs.declared.Fields.{Fields}
use Rattle.parse.specs.declared.Fields.TheVariants.{Numbers, Bytes}
use Rattle.parse.specs.declared.Kind.{Kind}
use Rattle.parse.specs.declared.Kind.TheVariants.{Start, Rfork, Name, Sched, Yield, Sleep, Tsleep, Wakeup, Qlock, Canqlock, Qunlock, Cond, Clock, Tadd, Tdel, Intr, Due, Exit, Wait}

-- The number of a kind.
abbrev pub number : Kind → ℕ
number Start = 1
number Rfork = 2
number Name = 3
number Sched = 4
number Yield = 5
number Sleep = 6
number Tsleep = 7
number Wakeup = 8
number Qlock = 9
number Canqlock = 10
number Qunlock = 11
number Cond = 12
number Clock = 13
number Tadd = 14
number Tdel = 15
number Intr = 16
number Due = 17
number Exit = 18
number Wait = 19

-- The word of a kind.
abbrev pub word_of : Kind → List ℕ
word_of Start = codes "start"
word_of Rfork = codes "rfork"
word_of Name = codes "name"
word_of Sched = codes "sched"
word_of Yield = codes "yield"
word_of Sleep = codes "sleep"
word_of Tsleep = codes "tsleep"
word_of Wakeup = codes "wakeup"
word_of Qlock = codes "qlock"
word_of Canqlock = codes "canqlock"
word_of Qunlock = codes "qunlock"
word_of Cond = codes "cond"
word_of Clock = codes "clock"
word_of Tadd = codes "tadd"
word_of Tdel = codes "tdel"
word_of Intr = codes "intr"
word_of Due = codes "due"
word_of Exit = codes "exit"
word_of Wait = codes "wait"

-- No kind has this word.
abbrev pub IsNoWord : List ℕ → Type 0
IsNoWord w = (k : Kind) → w ≢ word_of k

-- A kind's word has at most eight bytes, so that a longer word is none.
word-short : (k : Kind) → length (word_of k) ≤ 8
word-short Start = omega arith
word-short Rfork = omega arith
word-short Name = omega arith
word-short Sched = omega arith
word-short Yield = omega arith
word-short Sleep = omega arith
word-short Tsleep = omega arith
word-short Wakeup = omega arith
word-short Qlock = omega arith
word-short Canqlock = omega arith
word-short Qunlock = omega arith
word-short Cond = omega arith
word-short Clock = omega arith
word-short Tadd = omega arith
word-short Tdel = omega arith
word-short Intr = omega arith
word-short Due = omega arith
word-short Exit = omega arith
word-short Wait = omega arith

pub long-other : (w : List ℕ) → 8 < length w → IsNoWord w
long-other w h k e = omega (arith, ap length e, word-short k)

-- The form of the kind with a number.
unfoldable pub form_of : List step.Kind → ℕ → Option Form
form_of [] n = none
form_of (k ∷ ks) n = if eqb k.number n then some k.form else form_of ks n

-- The form of the kind with a word.
unfoldable pub form_named : List step.Kind → List ℕ → Option Form
form_named [] w = none
form_named (k ∷ ks) w = elim (same w (ascii k.word)) [ true ↦ some k.form | false ↦ form_named ks w ]

-- The body that a form has with what follows the word.
unfoldable pub body_as : Option Form → Option (List ℕ) → Option Body
body_as none rest = none
body_as (some f) rest = body_in f rest

-- These fields are those of a form, at most six numbers.
abbrev pub IsOfForm : Fields → Option Form → Type 0
IsOfForm (Numbers n) none = ⊥
IsOfForm (Numbers n) (some (takes_numbers m f)) = (m ≡ n) × (n ≤ 6)
IsOfForm (Numbers n) (some (takes_bytes f)) = ⊥
IsOfForm Bytes none = ⊥
IsOfForm Bytes (some (takes_numbers m f)) = ⊥
IsOfForm Bytes (some (takes_bytes f)) = Unit {0}

pub few : (n : ℕ) (o : Option Form) → IsOfForm (Numbers n) o → n ≤ 6
few n none h = absurd h
few n (some (takes_numbers m f)) h = h.1
few n (some (takes_bytes f)) h = absurd h

-- A line asks what the kind asks whose word it begins with.
bodies : (ks : List step.Kind) (line : List ℕ) → parse_body ks line ≡ body_as (form_named ks (first_word line)) (after_space line)
unfolding parse_body body_as form_named
bodies [] line = refl
bodies (k ∷ ks) line = go (same (first_word line) (ascii k.word)) (bodies ks line)
  where
    go : (c : Bool)
        → (parse_body ks line ≡ body_as (form_named ks (first_word line)) (after_space line))
        → (elim c [ true ↦ body_in k.form (after_space line) | false ↦ parse_body ks line ])
        ≡ body_as (elim c [ true ↦ some k.form | false ↦ form_named ks (first_word line) ]) (after_space line)
    go true r = refl
    go false r = r

form-word : (k : Kind) → form_named kinds (word_of k) ≡ form_of kinds (number k)
unfolding form_named form_of kinds ascii same
form-word Start = refl
form-word Rfork = refl
form-word Name = refl
form-word Sched = refl
form-word Yield = refl
form-word Sleep = refl
form-word Tsleep = refl
form-word Wakeup = refl
form-word Qlock = refl
form-word Canqlock = refl
form-word Qunlock = refl
form-word Cond = refl
form-word Clock = refl
form-word Tadd = refl
form-word Tdel = refl
form-word Intr = refl
form-word Due = refl
form-word Exit = refl
form-word Wait = refl

-- Two words that pass as the same are.
same_is : (xs ys : List ℕ) → same xs ys ≡ true → xs ≡ ys
unfolding same
same_is [] [] e = refl
same_is [] (y ∷ ys) e = absurd (false≢true e)
same_is (x ∷ xs) [] e = absurd (false≢true e)
same_is (x ∷ xs) (y ∷ ys) e = go (eqb x y) refl e (same_is xs ys)
  where
    go : (c : Bool) → eqb x y ≡ c → (c && same xs ys) ≡ true → (same xs ys ≡ true → xs ≡ ys) → x ∷ xs ≡ y ∷ ys
    go true p q r = ap (λ (a : ℕ). a ∷ xs) (eqb-true x y p) ∙ ap (λ (zs : List ℕ). y ∷ zs) (r q)
    go false p q r = absurd (false≢true q)

other-word : (w : List ℕ) → IsNoWord w → (k : Kind) → same w (word_of k) ≡ false
other-word w h k = go (same w (word_of k)) refl
  where
    go : (c : Bool) → same w (word_of k) ≡ c → c ≡ false
    go true e = absurd (h k (same_is w (word_of k) e))
    go false e = refl

-- A word is none of some kinds'.
NoneSame : List step.Kind → List ℕ → Type 0
NoneSame [] w = Unit {0}
NoneSame (k ∷ ks) w = (same w (ascii k.word) ≡ false) × NoneSame ks w

none-named : (ks : List step.Kind) (w : List ℕ) → NoneSame ks w → form_named ks w ≡ none
unfolding NoneSame form_named
none-named [] w h = refl
none-named (k ∷ ks) w h = ap (λ (c : Bool). elim c [ true ↦ some k.form | false ↦ form_named ks w ]) h.0 ∙ none-named ks w h.1

no-form : (w : List ℕ) → IsNoWord w → form_named kinds w ≡ none
unfolding NoneSame kinds ascii
no-form w h =
    let f : (k : Kind) → same w (word_of k) ≡ false = other-word w h in
    none-named kinds w
    (f Start, (f Rfork, (f Name, (f Sched, (f Yield, (f Sleep, (f Tsleep, (f Wakeup, (f Qlock, (f Canqlock, (f Qunlock, (f Cond, (f Clock, (f Tadd, (f Tdel, (f Intr, (f Due, (f Exit, (f Wait, tt)))))))))))))))))))

-- The body of a line whose first word is a kind's, and of one whose first word is none.
pub body-kind : (line : List ℕ) (k : Kind) → first_word line ≡ word_of k → parse_body kinds line ≡ body_as (form_of kinds (number k)) (after_space line)
body-kind line k e = bodies kinds line ∙ ap (λ (o : Option Form). body_as o (after_space line)) (ap (form_named kinds) e ∙ form-word k)

pub body-other : (line : List ℕ) → IsNoWord (first_word line) → parse_body kinds line ≡ none
unfolding body_as
body-other line h = bodies kinds line ∙ ap (λ (o : Option Form). body_as o (after_space line)) (no-form (first_word line) h)
