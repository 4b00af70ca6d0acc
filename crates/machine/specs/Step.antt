-- The nineteen steps, their fields and their numbers.
use Rattle.std.specs.Prelude.{Bool, List, [], ◌∷◌, ℕ, zero, suc}
use Rattle.std.proofs.Math.Option.{Option, none, some}
use Prim.Native.String.{String}

-- What a step asks. M: 0 works, 1 no address space, 2 no stack, 3 page copy fails (rfork only). F: flags. R, C, Q, T: one
-- Rendez, condition, lock, timer. V: 0 or 1. S and N: seconds, nanoseconds. KIND: 0 relative, 1 periodic.
pub data Body : Type 0 where
  start : (M : ℕ) → Body
  rfork : (F M : ℕ) → Body
  name : (BYTES : List ℕ) → Body
  sched : Body
  yield : Body
  sleep : (R C : ℕ) → Body
  tsleep : (R C S N NOW : ℕ) → Body
  wakeup : (R : ℕ) → Body
  qlock : (Q : ℕ) → Body
  canqlock : (Q : ℕ) → Body
  qunlock : (Q : ℕ) → Body
  cond : (C v : ℕ) → Body
  clock : (NOW : ℕ) → Body
  tadd : (T KIND S N R NOW : ℕ) → Body
  tdel : (T : ℕ) → Body
  intr : (NOW : ℕ) → Body
  due : Body
  exit : (BYTES : List ℕ) → Body
  wait : Body

-- A step, and whether it is marked as taken in interrupt context.
pub record Step : Type 0 where
  pub marked : Bool
  pub body : Body

-- A step's fields are so many numbers, or one string of bytes.
abbrev pub Takes : ℕ → Type 0
Takes zero = Body
Takes (suc n) = ℕ → Takes n

-- What fields a kind of step has.
pub data Form : Type 0 where
  takes_numbers : (n : ℕ) → Takes n → Form
  takes_bytes : (List ℕ → Body) → Form

-- Each kind of step: the number that its kind byte holds, the word that its line begins with, and its fields.
pub record Kind : Type 0 where
  pub number : ℕ
  pub word : String
  pub form : Form

-- The nineteen kinds, in the order of docs/MACHINE.md, "The nineteen steps".
unfoldable pub kinds : List Kind
kinds =
    record { number = 1; word = "start"; form = takes_numbers 1 start }
    ∷ record { number = 2; word = "rfork"; form = takes_numbers 2 rfork }
    ∷ record { number = 3; word = "name"; form = takes_bytes name }
    ∷ record { number = 4; word = "sched"; form = takes_numbers 0 sched }
    ∷ record { number = 5; word = "yield"; form = takes_numbers 0 yield }
    ∷ record { number = 6; word = "sleep"; form = takes_numbers 2 sleep }
    ∷ record { number = 7; word = "tsleep"; form = takes_numbers 5 tsleep }
    ∷ record { number = 8; word = "wakeup"; form = takes_numbers 1 wakeup }
    ∷ record { number = 9; word = "qlock"; form = takes_numbers 1 qlock }
    ∷ record { number = 10; word = "canqlock"; form = takes_numbers 1 canqlock }
    ∷ record { number = 11; word = "qunlock"; form = takes_numbers 1 qunlock }
    ∷ record { number = 12; word = "cond"; form = takes_numbers 2 cond }
    ∷ record { number = 13; word = "clock"; form = takes_numbers 1 clock }
    ∷ record { number = 14; word = "tadd"; form = takes_numbers 6 tadd }
    ∷ record { number = 15; word = "tdel"; form = takes_numbers 1 tdel }
    ∷ record { number = 16; word = "intr"; form = takes_numbers 1 intr }
    ∷ record { number = 17; word = "due"; form = takes_numbers 0 due }
    ∷ record { number = 18; word = "exit"; form = takes_bytes exit }
    ∷ record { number = 19; word = "wait"; form = takes_numbers 0 wait }
    ∷ []

-- The body with these numbers as its fields, where they are as many as it takes.
unfoldable pub fill : (n : ℕ) → Takes n → List ℕ → Option Body
fill zero b [] = some b
fill zero b (x ∷ xs) = none
fill (suc n) f [] = none
fill (suc n) f (x ∷ xs) = fill n (f x) xs

-- The word of a body, and its fields.
unfoldable pub word_of : Body → String
word_of (start M) = "start"
word_of (rfork F M) = "rfork"
word_of (name BYTES) = "name"
word_of sched = "sched"
word_of yield = "yield"
word_of (sleep R C) = "sleep"
word_of (tsleep R C S N NOW) = "tsleep"
word_of (wakeup R) = "wakeup"
word_of (qlock Q) = "qlock"
word_of (canqlock Q) = "canqlock"
word_of (qunlock Q) = "qunlock"
word_of (cond C v) = "cond"
word_of (clock NOW) = "clock"
word_of (tadd T KIND S N R NOW) = "tadd"
word_of (tdel T) = "tdel"
word_of (intr NOW) = "intr"
word_of due = "due"
word_of (exit BYTES) = "exit"
word_of wait = "wait"

-- The fields of a step: numbers, or one string of bytes.
pub data Fields : Type 0 where
  numbers : List ℕ → Fields
  bytes : List ℕ → Fields

-- The fields of a body.
unfoldable pub fields_of : Body → Fields
fields_of (start M) = numbers (M ∷ [])
fields_of (rfork F M) = numbers (F ∷ M ∷ [])
fields_of (name BYTES) = bytes BYTES
fields_of sched = numbers []
fields_of yield = numbers []
fields_of (sleep R C) = numbers (R ∷ C ∷ [])
fields_of (tsleep R C S N NOW) = numbers (R ∷ C ∷ S ∷ N ∷ NOW ∷ [])
fields_of (wakeup R) = numbers (R ∷ [])
fields_of (qlock Q) = numbers (Q ∷ [])
fields_of (canqlock Q) = numbers (Q ∷ [])
fields_of (qunlock Q) = numbers (Q ∷ [])
fields_of (cond C v) = numbers (C ∷ v ∷ [])
fields_of (clock NOW) = numbers (NOW ∷ [])
fields_of (tadd T KIND S N R NOW) = numbers (T ∷ KIND ∷ S ∷ N ∷ R ∷ NOW ∷ [])
fields_of (tdel T) = numbers (T ∷ [])
fields_of (intr NOW) = numbers (NOW ∷ [])
fields_of due = numbers []
fields_of (exit BYTES) = bytes BYTES
fields_of wait = numbers []

-- All of this module, for whoever computes with it.
unfoldable pub open_step : Unit {0}
unfolding kinds fill word_of fields_of
open_step = tt
