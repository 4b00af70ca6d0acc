-- What the stores to the wait queues go to: the machine uses it.
use Rattle.std.specs.Prelude.{if◌then◌else◌, ◌≡◌, Bool, List, [], ◌∷◌, ℕ, suc, ◌+◌, ◌*◌, ◌/◌, ◌%◌, ◌^◌, ◌≤◌, ◌<◌, eqb, length}
use Rattle.std.proofs.Math.Path.{refl}
use Rattle.std.proofs.Common.{ap, arith, lit<}
use Rattle.std.proofs.Math.Bool.{true, false}
use Rattle.layout.specs.Memory.{Memory}
use Rattle.layout.specs.Writes.{to}
use Rattle.chain.specs.Links.{alter-same, alter-other}
use Rattle.state.specs.Fields as fields
use Rattle.state.specs.WellFormed.{is_full}
use Rattle.state.specs.declared.Sizes.{Sizes}
use Rattle.exact.specs.Resumes.{set_test}
use Rattle.holds.specs.Use.{SameKin, used_by, EachInUse, none, more, before, after, in_use-runs, Fewer}
use Rattle.holds.specs.Fewer.{zeros-alter, fewer_by}
use Rattle.holds.specs.Leftover.{Ceased, ceased_by, ceased_grown, Steady}
use Rattle.free.specs.Record.{word_of, bit_of}
use Rattle.free.specs.Cell.{above_of, above_bit}
use Rattle.free.specs.UseCell.{cell_writes, use_cell_writes, drop_cell_writes}
use Rattle.waitq.specs.Push.{cell_stores, head_stores, push_stores}
use Rattle.waitq.specs.Pop.{unlink_stores, pop_stores}
use Rattle.waitq.specs.Messages.{message_stores}
use Rattle.waitq.specs.Take.{take_stores, take_mem}
use Rattle.waitq.specs.Add.{add_stores, add_mem}

-- The words of the cells always.
words_in_use : {z : Sizes} {m m' : Memory} (w v : ℕ) (t : Bool) (c y : ℕ) (t₁ : Bool) (u : ℕ) → EachInUse z m m' (cell_writes w v t c y t₁ u)
unfolding used_by
words_in_use w v true c y true u = more (before (lit< tt)) (more (before (lit< tt)) (more (before (lit< tt)) none))
words_in_use w v true c y false u = more (before (lit< tt)) (more (before (lit< tt)) none)
words_in_use w v false c y t₁ u = more (before (lit< tt)) none

mark-in_use : {z : Sizes} {m' : Memory} (n : ℕ) (m : Memory) (c : ℕ) → EachInUse z m m' (use_cell_writes n m c)
mark-in_use n m c =
    words_in_use _ _ (is_full (m fields.used_cells (word_of n c) + 2 ^ bit_of n c)) _ _ (is_full (m fields.full_cell_words (above_of n c) + 2 ^ above_bit n c)) _

unmark_in_use : {z : Sizes} {m' : Memory} (n : ℕ) (m : Memory) (c : ℕ) → EachInUse z m m' (drop_cell_writes n m c)
unmark_in_use n m c =
    words_in_use _ _ (is_full (m fields.used_cells (word_of n c))) _ _ (is_full (m fields.full_cell_words (above_of n c))) _

-- The bytes of a message from number j of it on, x being where that is, in a cell that has it then.
message_in_use
    : {z : Sizes} {m m' : Memory} (c x j : ℕ) (bs : List ℕ)
    → 0 < m' fields.owner c
    → x ≡ 127 * c + j
    → j + length bs ≤ m' fields.message_length c
    → m' fields.message_length c ≤ 127
    → EachInUse z m m' (message_stores x bs)
unfolding used_by message_stores
message_in_use c x j [] o e l h = none
message_in_use {m' = m'} c x j (b ∷ bs) o e l h =
    let q : x / 127 ≡ c = omega arith in
    let r : x % 127 ≡ j = omega arith in
    more {w = to fields.message_byte x b} (after (rw (q, r, set_test (m' fields.owner c) o) (omega arith))) (message_in_use c (suc x) (suc j) bs o (omega arith) (omega arith) h)

-- A cell that is taken, and the record that heads the queue.
push-in_use : {z : Sizes} {m m' : Memory} (k : Memory) (i c pid n : ℕ) → 0 < m' fields.owner c → 0 < m fields.pid i → EachInUse z m m' (push_stores k i c pid n)
unfolding used_by cell_stores head_stores push_stores
push-in_use k i c pid n o u = more (after o) (more (after o) (more (after o) (more (after o) (more (before u) (more (before u) none)))))

pub add-in_use
    : {z : Sizes} {m : Memory} (n i c pid : ℕ) (bs : List ℕ) → length bs ≤ 127 → 0 < m fields.pid i
    → EachInUse z m (add_mem n m i c pid bs) (add_stores n m i c pid bs)
unfolding add_stores cell_stores head_stores push_stores
add-in_use {m = m} n i c pid bs l u =
    let o : 0 < add_mem n m i c pid bs fields.owner c = rw (alter-same (m fields.owner) c (suc i)) (omega arith) in
    let e : add_mem n m i c pid bs fields.message_length c ≡ length bs = alter-same (m fields.message_length) c (length bs) in
    in_use-runs (mark-in_use n m c)
    (in_use-runs (message_in_use c (127 * c) 0 bs o (omega arith) (omega (arith, e)) (omega (arith, e))) (push-in_use m i c pid (length bs) o u))

-- A cell that is freed keeps what it kept.
pub take-steady : (n : ℕ) (m : Memory) (i c : ℕ) → Steady m (take_mem n m i c)
unfolding pop_stores unlink_stores head_stores
take-steady n m i c =
    record {
      calm = record { parents = refl; deadlines = refl; exit_pids = refl; lengths = refl; bytes = refl };
      parents = refl;
      quanta = refl;
      children = refl;
      kinds = refl;
      conditions = refl;
      objects = refl;
      names = refl;
    }

-- It was used, and nothing more is used then.
module _ {z : Sizes} {m : Memory} (n i c : ℕ) where
  pop-in_use : {m' : Memory} → 0 < m fields.owner c → 0 < m fields.pid i → EachInUse z m m' (pop_stores m i c)
  unfolding used_by pop_stores unlink_stores head_stores
  pop-in_use o u = more (before o) (more (before o) (more (before u) (more (before u) none)))

  pub take-in_use : {m' : Memory} → 0 < m fields.owner c → 0 < m fields.pid i → EachInUse z m m' (take_stores n m i c)
  unfolding take_stores
  take-in_use o u = in_use-runs (unmark_in_use n m c) (pop-in_use o u)

  pub take-fewer : Fewer z m (take_mem n m i c)
  unfolding pop_stores unlink_stores head_stores
  take-fewer = fewer_by refl refl (λ j e. e) (zeros-alter (m fields.owner) c) (take-steady n m i c).calm

  pub take-ceased : Ceased z m (take_mem n m i c)
  unfolding pop_stores unlink_stores head_stores
  take-ceased =
      ceased_by (take-steady n m i c).calm refl (λ f j r u v. absurd (omega (arith, u, v))) (λ t u v. absurd (omega (arith, u, v))) (λ x u v. go x u (eqb c x) v)
    where
      go : (x : ℕ) → 0 < m fields.owner x → (b : Bool) → (if b then 0 else m fields.owner x) ≡ 0 → (if b then 0 else m fields.cell_next x) ≡ 0
      go x u true v = refl
      go x u false v = absurd (omega (arith, u, v))

-- An exit that is queued in a free cell ceases to use nothing, and leaves the pids of all.
pub add-ceased : {z : Sizes} (n : ℕ) (m : Memory) (i c pid : ℕ) (bs : List ℕ) → m fields.owner c ≡ 0 → Ceased z m (add_mem n m i c pid bs)
unfolding cell_stores head_stores push_stores
add-ceased {z} n m i c pid bs e =
    ceased_grown (record { alive = λ j u. u }) (λ j u. refl) (λ t u. u) (λ x u. owned x u (eqb c x))
    (λ x u. alter-other (m fields.message_length) c (length bs) x (λ q. omega (arith, u, e, ap (m fields.owner) q)))
  where
    owned : (x : ℕ) → 0 < m fields.owner x → (b : Bool) → 0 < (if b then suc i else m fields.owner x)
    owned x u true = omega arith
    owned x u false = u

pub add-kin : (n : ℕ) (m : Memory) (i c pid : ℕ) (bs : List ℕ) → SameKin m (add_mem n m i c pid bs)
unfolding cell_stores head_stores push_stores
add-kin n m i c pid bs = record { pids = refl }
