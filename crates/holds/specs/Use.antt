-- What of a state's memory the machine uses, and stores that keep to it.
use Rattle.std.specs.Prelude.{if◌then◌else◌, ◌≡◌, refl, Bool, true, false, not, ◌&&◌, ◌||◌, List, [], ◌∷◌, ◌++◌, ℕ, ◌-◌, ◌/◌, ◌%◌, ◌<◌, eqb, ltb}
use Rattle.std.proofs.Common.{sym, ap, subst, ◌∙◌, arith, eqb-true}
use Rattle.machine.specs.Machine as machine
use Rattle.layout.specs.Memory.{Memory, upd}
use Rattle.layout.specs.Writes.{Write, updates}
use Rattle.state.specs.Fields as fields
use Rattle.state.specs.Abs.{is_set}
use Rattle.state.specs.Places.{sizes_in}
use Rattle.state.specs.declared.Sizes.{Sizes}

-- The fields from one to another in the table.
abbrev pub from_to : ℕ → ℕ → ℕ → Bool
from_to first last f = not (ltb f first) && not (ltb last f)

-- The link to the parent is used where there is no parent (it is 0 then), and where the parent lives.
abbrev pub kin_use : (pids parents links : ℕ → ℕ) → ℕ → ℕ
kin_use pids parents links i = if eqb (parents i) 0 || eqb (pids (links i - 1)) (parents i) then pids i else 0

-- The bytes of a message that has so many.
abbrev pub byte_use : (owners lengths : ℕ → ℕ) → ℕ → ℕ
byte_use owners lengths i = if is_set (owners (i / 127)) then lengths (i / 127) - i % 127 else 0

-- Whether the machine may use field f of number i: 0 where it does not. It does not use the fields and the name of a free record, what a
-- free cell keeps, the bytes behind a message, the deadline and the link of a timer that is not queued, and a setting of a process's own
-- timer. Of a record in use it uses all but the link to a parent that has gone; what else such a record does not need is 0 (`Blank`, `NoLink`).
unfoldable pub used_by : (timers : ℕ) → (pids parents links queued owners lengths : ℕ → ℕ) → ℕ → ℕ → ℕ
used_by timers pids parents links queued owners lengths f i =
    if eqb f fields.parent_at
    then kin_use pids parents links i
    else if from_to fields.pid fields.resume_object f
    then pids i
    else if eqb f fields.name_byte
    then pids (i / 28)
    else if eqb f fields.period || eqb f fields.timer_rendez
    then timers - i
    else if from_to fields.deadline fields.is_queued f
    then queued i
    else if from_to fields.exit_pid fields.message_length f
    then owners i
    else if eqb f fields.message_byte then byte_use owners lengths i else 1

-- At the machine's sizes, and at those that the code carries.
abbrev pub used_in : machine.Sizes → Memory → ℕ → ℕ → ℕ
used_in z m = used_by z.timers (m fields.pid) (m fields.parent) (m fields.parent_at) (m fields.is_queued) (m fields.owner) (m fields.message_length)

abbrev pub used : Sizes → Memory → ℕ → ℕ → ℕ
used z m = used_in (sizes_in z) m

-- Nobody is made or freed.
pub record SameKin (m m' : Memory) : Type 0 where
  pub pids : m' fields.pid ≡ m fields.pid

pub kin_join : {m m₁ m₂ : Memory} → SameKin m m₁ → SameKin m₁ m₂ → SameKin m m₂
kin_join p q = record { pids = q.pids ∙ p.pids }

pub kin-same : {m m' : Memory} → m' ≡ m → SameKin m m'
kin-same e = record { pids = ap (λ (x : Memory). x fields.pid) e }

pub kin_at : {m k m' : Memory} → m' ≡ k → SameKin m k → SameKin m m'
kin_at {m} e h = subst (SameKin m) (sym e) h

-- The links to parents stay, and the deadlines and what the cells keep.
pub record Calm (m m' : Memory) : Type 0 where
  pub parents : m' fields.parent_at ≡ m fields.parent_at
  pub deadlines : m' fields.deadline ≡ m fields.deadline
  pub exit_pids : m' fields.exit_pid ≡ m fields.exit_pid
  pub lengths : m' fields.message_length ≡ m fields.message_length
  pub bytes : m' fields.message_byte ≡ m fields.message_byte

pub calm_join : {m m₁ m₂ : Memory} → Calm m m₁ → Calm m₁ m₂ → Calm m m₂
calm_join p q =
    record {
      parents = q.parents ∙ p.parents;
      deadlines = q.deadlines ∙ p.deadlines;
      exit_pids = q.exit_pids ∙ p.exit_pids;
      lengths = q.lengths ∙ p.lengths;
      bytes = q.bytes ∙ p.bytes;
    }

pub calm-none : {m : Memory} → Calm m m
calm-none = record { parents = refl; deadlines = refl; exit_pids = refl; lengths = refl; bytes = refl }

pub calm-same : {m m' : Memory} → m' ≡ m → Calm m m'
calm-same {m} e = subst (Calm m) (sym e) calm-none

-- The same is used in m' as in m; no more than in m, with nobody freed, or with somebody; and in m₁ no more than in m and m₂ together.
pub record SameUse (z : Sizes) (m m' : Memory) : Type 0 where
  pub same : used z m' ≡ used z m
  pub kin : SameKin m m'
  pub calm : Calm m m'

pub record Fewer (z : Sizes) (m m' : Memory) : Type 0 where
  pub fewer : (f i : ℕ) → used z m f i ≡ 0 → used z m' f i ≡ 0
  pub kin : SameKin m m'
  pub calm : Calm m m'

pub record Smaller (z : Sizes) (m m' : Memory) : Type 0 where
  pub smaller : (f i : ℕ) → used z m f i ≡ 0 → used z m' f i ≡ 0
  pub calm : Calm m m'

pub record Between (z : Sizes) (m m₁ m₂ : Memory) : Type 0 where
  pub between : (f i : ℕ) → used z m f i ≡ 0 → used z m₂ f i ≡ 0 → used z m₁ f i ≡ 0

-- What is used goes by six fields; three more are not read where something ceases to be used.
pub same_use
    : {z : Sizes} {m m' : Memory}
    → m' fields.pid ≡ m fields.pid
    → m' fields.parent ≡ m fields.parent
    → m' fields.parent_at ≡ m fields.parent_at
    → m' fields.is_queued ≡ m fields.is_queued
    → m' fields.owner ≡ m fields.owner
    → m' fields.message_length ≡ m fields.message_length
    → m' fields.deadline ≡ m fields.deadline
    → m' fields.exit_pid ≡ m fields.exit_pid
    → m' fields.message_byte ≡ m fields.message_byte
    → SameUse z m m'
same_use {z} a p l b c d t e x =
    record {
      same = λ j. used_by z.timers (a j) (p j) (l j) (b j) (c j) (d j);
      kin = record { pids = a };
      calm = record { parents = l; deadlines = t; exit_pids = e; lengths = d; bytes = x };
    }

pub same_join : {z : Sizes} {m m₁ m₂ : Memory} → SameUse z m m₁ → SameUse z m₁ m₂ → SameUse z m m₂
same_join p q = record { same = q.same ∙ p.same; kin = kin_join p.kin q.kin; calm = calm_join p.calm q.calm }

pub fewer-same : {z : Sizes} {m m' : Memory} → SameUse z m m' → Fewer z m m'
fewer-same e = record { fewer = λ f i a. ap (λ (g : ℕ → ℕ → ℕ). g f i) e.same ∙ a; kin = e.kin; calm = e.calm }

pub fewer_join : {z : Sizes} {m m₁ m₂ : Memory} → Fewer z m m₁ → Fewer z m₁ m₂ → Fewer z m m₂
fewer_join p q =
    record { fewer = λ f i a. q.fewer f i (p.fewer f i a); kin = kin_join p.kin q.kin; calm = calm_join p.calm q.calm }

pub smaller_join : {z : Sizes} {m m₁ m₂ : Memory} → Fewer z m m₁ → Smaller z m₁ m₂ → Smaller z m m₂
smaller_join p q = record { smaller = λ f i a. q.smaller f i (p.fewer f i a); calm = calm_join p.calm q.calm }

pub between-smaller : {z : Sizes} {m m₁ m₂ : Memory} → Smaller z m m₁ → Between z m m₁ m₂
between-smaller p = record { between = λ f i a b. p.smaller f i a }

pub between_first : {z : Sizes} {m m₁ m₂ : Memory} → Fewer z m m₁ → Between z m m₁ m₂
between_first p = record { between = λ f i a b. p.fewer f i a }

pub between-last : {z : Sizes} {m m₁ m₂ : Memory} → SameUse z m₁ m₂ → Between z m m₁ m₂
between-last e = record { between = λ f i a b. ap (λ (g : ℕ → ℕ → ℕ). g f i) (sym e.same) ∙ b }

-- A store goes to what is used in memory m, or in memory m'.
pub record InUse (z : Sizes) (m m' : Memory) (w : Write) : Type 0 where
  pub either : used z m w.field w.index ≡ 0 → used z m' w.field w.index ≡ 0 → ⊥

pub data EachInUse (z : Sizes) (m m' : Memory) : List Write → Type 0 where
  none : EachInUse z m m' []
  more : {w : Write} {ws : List Write} → InUse z m m' w → EachInUse z m m' ws → EachInUse z m m' (w ∷ ws)

-- In the one, and in the other.
pub before : {z : Sizes} {m m' : Memory} {w : Write} → 0 < used z m w.field w.index → InUse z m m' w
before h = record { either = λ a b. omega (arith, h, a) }

pub after : {z : Sizes} {m m' : Memory} {w : Write} → 0 < used z m' w.field w.index → InUse z m m' w
after h = record { either = λ a b. omega (arith, h, b) }

-- Two runs of stores of one operation.
pub in_use-runs : {z : Sizes} {m m' : Memory} {ws ws' : List Write} → EachInUse z m m' ws → EachInUse z m m' ws' → EachInUse z m m' (ws ++ ws')
in_use-runs none q = q
in_use-runs (more u us) q = more u (in_use-runs us q)

-- A store leaves every other number.
upd_other : (m : Memory) (f i v g j : ℕ) → (f ≡ g → i ≡ j → ⊥) → upd m f i v g j ≡ m g j
upd_other m f i v g j ne = go (eqb f g) refl
  where
    by_index : f ≡ g → (b : Bool) → eqb i j ≡ b → (if b then v else m f j) ≡ m g j
    by_index e true q = absurd (ne e (eqb-true i j q))
    by_index e false q = ap (λ (h : ℕ). m h j) e

    go : (b : Bool) → eqb f g ≡ b → (if b then (λ k. if eqb i k then v else m f k) else m g) j ≡ m g j
    go true e = by_index (eqb-true f g e) (eqb i j) refl
    go false e = refl

-- Stores to what is used leave every number that is used neither before nor after.
pub updates_spare
    : {z : Sizes} {m m' : Memory} {ws : List Write} (k : Memory) → EachInUse z m m' ws → (f i : ℕ) → used z m f i ≡ 0 → used z m' f i ≡ 0 → updates k ws f i ≡ k f i
updates_spare k none f i a b = refl
updates_spare {z} {m} {m'} k (more {w = w} u us) f i a b =
    updates_spare (upd k w.field w.index w.value) us f i a b
    ∙ upd_other k w.field w.index w.value f i
    (λ p q. u.either (ap (λ (g : ℕ). used z m g w.index) p ∙ ap (used z m f) q ∙ a) (ap (λ (g : ℕ). used z m' g w.index) p ∙ ap (used z m' f) q ∙ b))
