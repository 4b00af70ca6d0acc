-- What `push` and `pop` leave as it was: every other queue of processes.
use Rattle.std.specs.Prelude.{◌≡◌, refl, List, [], ◌∷◌, ℕ, zero, suc}
use Rattle.std.proofs.Common.{sym, ap, subst, ◌∙◌, arith}
use Rattle.machine.specs.Good.{Each}
use Rattle.layout.specs.Memory.{Memory, alter}
use Rattle.chain.specs.Lists.{Absent, all_map}
use Rattle.chain.specs.Links.{Queue, chain-frame, chain-walk, chain_head, final, first_link, push_links, pop_links}
use Rattle.state.specs.Fields as fields
use Rattle.state.specs.Places.{mem_in}
use Rattle.state.specs.declared.Sizes.{Sizes}
use Rattle.queue.specs.Ends.{Ends, Popped}
use Rattle.queue.specs.List.{list_of, Linked}
use Rattle.queue.specs.Push.{PushAsks, PushDone}
use Rattle.queue.specs.Pop.{PopAsks, PopDone}

-- No number is in both lists.
abbrev pub Apart : List ℕ → List ℕ → Type 0
Apart xs ys = Each (λ x. Absent x ys) xs

-- By a field that tells them apart, as the state or the lock of a process.
pub absent_by : (f : ℕ → ℕ) (a b : ℕ) → (a ≡ b → ⊥) → (i : ℕ) → f i ≡ a → (ys : List ℕ) → Each (λ y. f y ≡ b) ys → Absent i ys
absent_by f a b ne i e ys h = all_map (λ y g k. ne (sym e ∙ ap f k ∙ g)) ys h

pub apart_by : (f : ℕ → ℕ) (a b : ℕ) → (a ≡ b → ⊥) → (xs ys : List ℕ) → Each (λ x. f x ≡ a) xs → Each (λ y. f y ≡ b) ys → Apart xs ys
apart_by f a b ne xs ys h k = all_map (λ x e. absent_by f a b ne x e ys k) xs h

-- The number of a link is not in ys.
abbrev pub LinkAbsent : ℕ → List ℕ → Type 0
LinkAbsent h ys = (i : ℕ) → h ≡ suc i → Absent i ys

link-absent : (x : ℕ) (ys : List ℕ) → Absent x ys → LinkAbsent (suc x) ys
link-absent x ys a i e = subst (λ (k : ℕ). Absent k ys) (omega (arith, e)) a

pub final-absent : (d : ℕ) (xs ys : List ℕ) → LinkAbsent d ys → Apart xs ys → LinkAbsent (final d xs) ys
final-absent d [] ys h a = h
final-absent d (x ∷ xs) ys h a = final-absent (suc x) xs ys (link-absent x ys a.0) a.1

pub first_absent : (xs ys : List ℕ) → Apart xs ys → LinkAbsent (first_link xs) ys
first_absent [] ys a i e = absurd (omega (arith, e))
first_absent (x ∷ xs) ys a i e = link-absent x ys a.0 i e

pub queue-alter : {n : ℕ} {g : ℕ → ℕ} {h t : ℕ} {ys : List ℕ} (i v : ℕ) → Absent i ys → Queue n g h t ys → Queue n (alter g i v) h t ys
queue-alter i v a q = record { chain = chain-frame i v a q.chain; ends = q.ends }

pub after_push
    : {n : ℕ} {g : ℕ → ℕ} {h t : ℕ} {ys : List ℕ} (u i : ℕ)
    → LinkAbsent u ys
    → Absent i ys
    → Queue n g h t ys
    → Queue n (push_links g u i) h t ys
after_push zero i b a q = queue-alter i 0 a q
after_push (suc u) i b a q = queue-alter u (suc i) (b u refl) (queue-alter i 0 a q)

pub after-pop : {n : ℕ} {g : ℕ → ℕ} {h t : ℕ} {ys : List ℕ} (u : ℕ) → LinkAbsent u ys → Queue n g h t ys → Queue n (pop_links g u) h t ys
after-pop zero b q = q
after-pop (suc u) b q = queue-alter u 0 (b u refl) q

-- The queue o holds in m' the list that it holds in m, and its links are sound there.
pub record Kept (z : Sizes) (m m' : Memory) (o : Ends) : Type 0 where
  pub linked : Linked z m' o
  pub list : list_of z m' o ≡ list_of z m o

kept
    : (z : Sizes) (m m' : Memory) (o : Ends)
    → Queue z.processes (m' fields.next) o.head o.tail (list_of z m o)
    → Kept z m m' o
kept z m m' o c =
    let w : list_of z m' o ≡ list_of z m o = chain-walk c.chain in
    record { linked = record { queue = rw w c }; list = w }

pub push-other
    : {z : Sizes} {s s' : List ℕ} {q r : Ends} {i : ℕ}
    → PushAsks z s q i
    → PushDone z s s' q i r
    → (o : Ends)
    → Linked z (mem_in z s) o
    → Absent i (list_of z (mem_in z s) o)
    → Apart (list_of z (mem_in z s) q) (list_of z (mem_in z s) o)
    → Kept z (mem_in z s) (mem_in z s') o
push-other {z} {s} {s'} {q} {r} {i} a d o l b e =
    let ys : List ℕ = list_of z (mem_in z s) o in
    let u : LinkAbsent q.tail ys =
    subst (λ (k : ℕ). LinkAbsent k ys) (sym a.linked.queue.ends)
    (final-absent 0 (list_of z (mem_in z s) q) ys (λ j p. absurd (omega (arith, p))) e)
    in
    kept z (mem_in z s) (mem_in z s') o
    (subst (λ (k : Memory). Queue z.processes (k fields.next) o.head o.tail ys) (sym d.memory)
    (after_push q.tail i u b l.queue))

pub pop-other
    : {z : Sizes} {s s' : List ℕ} {q : Ends} {r : Popped}
    → PopAsks z s q
    → PopDone z s s' q r
    → (o : Ends)
    → Linked z (mem_in z s) o
    → Apart (list_of z (mem_in z s) q) (list_of z (mem_in z s) o)
    → Kept z (mem_in z s) (mem_in z s') o
pop-other {z} {s} {s'} {q} {r} a d o l e =
    let ys : List ℕ = list_of z (mem_in z s) o in
    let u : LinkAbsent q.head ys =
    subst (λ (k : ℕ). LinkAbsent k ys) (sym (chain_head a.linked.queue.chain)) (first_absent (list_of z (mem_in z s) q) ys e)
    in
    kept z (mem_in z s) (mem_in z s') o
    (subst (λ (k : Memory). Queue z.processes (k fields.next) o.head o.tail ys) (sym d.memory) (after-pop q.head u l.queue))
