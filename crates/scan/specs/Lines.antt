-- The run queue and the locks' queues, as one walk decides them.
use Rattle.std.specs.Prelude.{◌≡◌, refl, Option, Some, None, List, ℕ, suc, ◌+◌, ◌-◌, ◌≤◌, length}
use Rattle.std.proofs.Common.{sym, ap, subst, ◌∙◌, arith}
use Rattle.machine.specs.Good.{Each}
use Rattle.layout.specs.Memory.{Memory}
use Rattle.chain.specs.Links.{walk, Queue}
use Rattle.chain.specs.Prefix.{prefix-end}
use Rattle.state.specs.Fields as fields
use Rattle.state.specs.Places.{mem_in}
use Rattle.state.specs.declared.Sizes.{Sizes}
use Rattle.rules.specs.Code.{Whole}
use Rattle.rules.specs.Facts.{WaitsHere}
use Rattle.rules.specs.Walk.{Walking, walk_start, walk-more, walk-bad, Walked as Ended, walk_end}
use Rattle.rules.specs.Read.{field-most}
use Rattle.scan.specs.declared.Line.{Line}
use Rattle.scan.specs.declared.Line.TheVariants.{Run, Lock}

-- Who may stand in a queue.
abbrev pub Member : Memory → Line → ℕ → Type 0
Member m Run i = m fields.state_of i ≡ 2
Member m (Lock q) i = WaitsHere m q i

-- The links from h to t spell a queue of at most so many that may stand in it.
pub record Lined (n : ℕ) (m : Memory) (line : Line) (most h t : ℕ) : Type 0 where
  pub queue : Queue n (m fields.next) h t (walk n (m fields.next) h)
  pub each : Each (Member m line) (walk n (m fields.next) h)
  pub few : length (walk n (m fields.next) h) ≤ most

-- What a walk answers: how many stand in the queue, where it is one.
abbrev pub LineWalked : ℕ → Memory → Line → ℕ → ℕ → ℕ → Option ℕ → Type 0
LineWalked n m line most h t None = Lined n m line most h t → ⊥
LineWalked n m line most h t (Some k) = Lined n m line most h t × (length (walk n (m fields.next) h) ≡ k)

-- The walk so far.
pub record Lining (n : ℕ) (m : Memory) (line : Line) (most h link last k : ℕ) : Type 0 where
  pub walking : Walking (m fields.next) (Member m line) h link last k
  pub range : link ≤ n
  pub few : k ≤ most

pub line-start : {n : ℕ} {m : Memory} {line : Line} {most h : ℕ} → h ≤ n → Lining n m line most h h 0 0
line-start l = record { walking = walk_start; range = l; few = omega arith }

pub line-more
    : {n : ℕ} {m : Memory} {line : Line} {most h i last k link' : ℕ}
    → Lining n m line most h (suc i) last k
    → (k ≡ most → ⊥)
    → Member m line i
    → link' ≡ m fields.next i
    → link' ≤ n
    → Lining n m line most h link' (suc i) (k + 1)
line-more {m = m} {line = line} {i = i} p f h e r =
    let d : suc i - 1 ≡ i = omega arith in
    record {
      walking = walk-more p.walking (λ q. absurd (omega arith)) (subst (Member m line) (sym d) h) (e ∙ ap (m fields.next) (sym d)) refl;
      range = r;
      few = omega (arith, p.few);
    }

-- each way out
pub line-long
    : {n : ℕ} {m : Memory} {line : Line} {most h i last k t : ℕ}
    → Lining n m line most h (suc i) last k
    → k ≡ most
    → Lined n m line most h t
    → ⊥
line-long {n} {m} {line} {most} {h} {i} p e o =
    let d : suc i ≡ 0 =
    prefix-end (m fields.next) h p.walking.seen (walk n (m fields.next) h) (suc i) p.walking.prefix o.queue.chain.links
    (omega (arith, o.few, p.walking.count))
    in
    omega arith

pub line-bad
    : {n : ℕ} {m : Memory} {line : Line} {most h i last k t : ℕ}
    → Lining n m line most h (suc i) last k
    → (Member m line i → ⊥)
    → Lined n m line most h t
    → ⊥
line-bad {m = m} {line = line} {i = i} p b o =
    let d : suc i - 1 ≡ i = omega arith in
    walk-bad p.walking (λ q. absurd (omega arith)) (λ h. b (subst (Member m line) d h)) o.queue.chain o.each

-- The end: the links ran out.
pub line-ended
    : {z : Sizes} {s : List ℕ} {line : Line} {most h last k : ℕ}
    → ∥ Whole z s ∥₁
    → h ≤ z.processes
    → Lining z.processes (mem_in z s) line most h 0 last k
    → Ended z.processes (mem_in z s fields.next) (Member (mem_in z s) line) h last k
line-ended w l p = walk_end p.walking refl l (λ i. field-most w fields.next i)

pub line-tail
    : {n : ℕ} {m : Memory} {line : Line} {most h last k t : ℕ}
    → Ended n (m fields.next) (Member m line) h last k
    → (last ≡ t → ⊥)
    → Lined n m line most h t
    → ⊥
line-tail w d o = d (w.ends ∙ sym o.queue.ends)

pub line-yes
    : {n : ℕ} {m : Memory} {line : Line} {most h last k t : ℕ}
    → Ended n (m fields.next) (Member m line) h last k
    → k ≤ most
    → last ≡ t
    → LineWalked n m line most h t (Some k)
line-yes w f d = (
  record {
    queue = record { chain = w.chain; ends = sym d ∙ w.ends };
    each = w.each;
    few = omega (arith, w.count);
  },
  w.count,
)
