-- What an operation leaves in what the machine does not use after it.
use Rattle.std.specs.Prelude.{if◌then◌else◌, ◌≡◌, List, [], ◌∷◌, Bool, ◌||◌, ℕ, zero, suc, ◌-◌, ◌/◌, ◌%◌, ◌≤◌, ◌<◌, ltb}
use Rattle.std.proofs.Math.Path.{refl}
use Rattle.std.proofs.Common.{sym, ap, subst, ◌∙◌, arith, eqb-true, ltb-true, ltb-false}
use Rattle.std.proofs.Math.Bool.{true, false}
use Rattle.std.proofs.lemmas.Bool.{false≢true, eqb-false, or_parts}
use Rattle.std.proofs.Math.Dec.{eqb}
use Rattle.machine.specs.Basics.{elem}
use Rattle.layout.specs.Memory.{Memory}
use Rattle.state.specs.Fields as fields
use Rattle.state.specs.Abs.{is_set}
use Rattle.state.specs.WellFormed.{Idle}
use Rattle.state.specs.declared.Sizes.{Sizes}
use Rattle.exact.specs.Resumes.{set_test}
use Rattle.holds.specs.Use.{from_to, byte_use, used_by, used, SameKin, Calm, calm-none, calm_join, SameUse, Between}

-- What is 0 where the machine does not use it: whose a record, a cell or a timer is, its state, its count and its links.
abbrev pub cleared_fields : List ℕ
cleared_fields =
    fields.pid
    ∷ fields.next
    ∷ fields.older
    ∷ fields.younger
    ∷ fields.exits
    ∷ fields.nexits
    ∷ fields.state_of
    ∷ fields.timer_next
    ∷ fields.is_queued
    ∷ fields.cell_next
    ∷ fields.owner
    ∷ []

unfoldable pub cleared : ℕ → Bool
cleared f = elem f cleared_fields

-- What is left there of the number v of field f: all else stays.
unfoldable pub leftover : ℕ → ℕ → ℕ
leftover f v = if cleared f then 0 else v

-- Neither of two holds.
-- What is used neither in m nor in m' stays.
pub record Spared (z : Sizes) (m m' : Memory) : Type 0 where
  pub spared : (f i : ℕ) → used z m f i ≡ 0 → used z m' f i ≡ 0 → m' f i ≡ m f i

-- What is used in m and no longer in m' stays, or is 0 where its field is cleared.
pub record Ceased (z : Sizes) (m m' : Memory) : Type 0 where
  pub ceased : (f i : ℕ) → 0 < used z m f i → used z m' f i ≡ 0 → m' f i ≡ leftover f (m f i)

-- What m₁ uses and m₂ no longer, m₁ has as m.
pub record Quiet (z : Sizes) (m m₁ m₂ : Memory) : Type 0 where
  pub quiet : (f i : ℕ) → 0 < used z m₁ f i → used z m₂ f i ≡ 0 → leftover f (m₁ f i) ≡ leftover f (m f i)

-- One after another.
pub spared_join : {z : Sizes} {m m₁ m₂ : Memory} → Spared z m m₁ → Spared z m₁ m₂ → Between z m m₁ m₂ → Spared z m m₂
spared_join p q t =
    record { spared = λ f i a b. let c = t.between f i a b in q.spared f i c b ∙ p.spared f i a c }

pub ceased_join : {z : Sizes} {m m₁ m₂ : Memory} → Ceased z m m₁ → Spared z m₁ m₂ → Ceased z m₁ m₂ → Quiet z m m₁ m₂ → Ceased z m m₂
ceased_join {z} {m} {m₁} {m₂} p s q t = record { ceased = λ f i u v. go f i u v (ltb 0 (used z m₁ f i)) refl }
  where
    go : (f i : ℕ) → 0 < used z m f i → used z m₂ f i ≡ 0 → (b : Bool) → ltb 0 (used z m₁ f i) ≡ b → m₂ f i ≡ leftover f (m f i)
    go f i u v true e = let w = ltb-true 0 (used z m₁ f i) e in q.ceased f i w v ∙ t.quiet f i w v
    go f i u v false e =
        let w : used z m₁ f i ≡ 0 = omega (arith, ltb-false 0 (used z m₁ f i) e) in s.spared f i w v ∙ p.ceased f i u w

-- Where nothing ceases to be used.
pub record Lasts (z : Sizes) (m m' : Memory) : Type 0 where
  pub lasts : (f i : ℕ) → 0 < used z m f i → 0 < used z m' f i

pub lasts-same : {z : Sizes} {m m' : Memory} → SameUse z m m' → Lasts z m m'
lasts-same e = record { lasts = λ f i u. subst (λ (g : ℕ → ℕ → ℕ). 0 < g f i) (sym e.same) u }

pub ceased-lasts : {z : Sizes} {m m' : Memory} → Lasts z m m' → Ceased z m m'
ceased-lasts l = record { ceased = λ f i u v. absurd (omega (arith, l.lasts f i u, v)) }

pub quiet-lasts : {z : Sizes} {m m₁ m₂ : Memory} → Lasts z m₁ m₂ → Quiet z m m₁ m₂
quiet-lasts l = record { quiet = λ f i u v. absurd (omega (arith, l.lasts f i u, v)) }

infixl 5 ◌and◌
-- What each number from a on has, up to n.
pub data EachFrom (P : ℕ → Type 0) (a : ℕ) : ℕ → Type 0 where
  none : EachFrom P a a
  ◌and◌ : {n : ℕ} → EachFrom P a n → P n → EachFrom P a (suc n)

-- And one of them.
pub from_at : {P : ℕ → Type 0} {a n : ℕ} → EachFrom P a n → (f : ℕ) → a ≤ f → f < n → P f
from_at none f k l = absurd (omega (arith, k, l))
from_at {P} (◌and◌ {n = n} e p) f k l = go (eqb f n) refl (λ x. from_at e f k x)
  where
    go : (b : Bool) → eqb f n ≡ b → (f < n → P f) → P f
    go true q rec = subst P (sym (eqb-true f n q)) p
    go false q rec = rec (omega (arith, eqb-false f n q, l))

-- Nobody is freed.
pub record Alive (m m' : Memory) : Type 0 where
  pub alive : (i : ℕ) → 0 < m fields.pid i → 0 < m' fields.pid i

pub alive_join : {m m₁ m₂ : Memory} → Alive m m₁ → Alive m₁ m₂ → Alive m m₂
alive_join p q = record { alive = λ i u. q.alive i (p.alive i u) }

pub alive-kin : {m m' : Memory} → SameKin m m' → Alive m m'
alive-kin k = record { alive = λ i u. subst (λ (g : ℕ → ℕ). 0 < g i) (sym k.pids) u }

-- What holds where m uses field f of number i and m' no longer does, field by field.
pub record Handled (m m' : Memory) (P : ℕ → ℕ → Type 0) : Type 0 where
  pub records : (f i : ℕ) → from_to fields.pid fields.resume_object f ≡ true → 0 < m fields.pid i → m' fields.pid i ≡ 0 → P f i
  pub parents : (i : ℕ) → 0 < m fields.pid i → P fields.parent_at i
  pub names : (i : ℕ) → 0 < m fields.pid (i / 28) → m' fields.pid (i / 28) ≡ 0 → P fields.name_byte i
  pub deadlines : (t : ℕ) → 0 < m fields.is_queued t → m' fields.is_queued t ≡ 0 → P fields.deadline t
  pub timer_links : (t : ℕ) → 0 < m fields.is_queued t → m' fields.is_queued t ≡ 0 → P fields.timer_next t
  pub flags : (t : ℕ) → 0 < m fields.is_queued t → m' fields.is_queued t ≡ 0 → P fields.is_queued t
  pub exit_pids : (c : ℕ) → 0 < m fields.owner c → m' fields.owner c ≡ 0 → P fields.exit_pid c
  pub cell_links : (c : ℕ) → 0 < m fields.owner c → m' fields.owner c ≡ 0 → P fields.cell_next c
  pub owners : (c : ℕ) → 0 < m fields.owner c → m' fields.owner c ≡ 0 → P fields.owner c
  pub lengths : (c : ℕ) → 0 < m fields.owner c → m' fields.owner c ≡ 0 → P fields.message_length c
  pub bytes
      : (i : ℕ) → 0 < byte_use (m fields.owner) (m fields.message_length) i → byte_use (m' fields.owner) (m' fields.message_length) i ≡ 0 → P fields.message_byte i

-- A field between two others; a number under a test.
pub in_range_lem : (a b f : ℕ) → from_to a b f ≡ true → (a ≤ f) × (f ≤ b)
in_range_lem a b f e = go (ltb f a) refl (ltb b f) refl
  where
    go : (x : Bool) → ltb f a ≡ x → (y : Bool) → ltb b f ≡ y → (a ≤ f) × (f ≤ b)
    go true d y q = absurd (false≢true (rw d at e))
    go false d true q = absurd (false≢true (rw (d, q) at e))
    go false d false q = (ltb-false f a d, ltb-false b f q)

where_true : (b : Bool) (n : ℕ) → 0 < (if b then n else 0) → 0 < n
where_true true n u = u
where_true false n u = absurd (omega arith)

cell-owned : (o n : ℕ) → 0 < (if is_set o then n else 0) → 0 < o
cell-owned zero n u = absurd (omega arith)
cell-owned (suc o) n u = omega arith

module _ {m m' : Memory} {P : ℕ → ℕ → Type 0} (h : Handled m m' P) where
  -- Field f is field g.
  at : (f i g : ℕ) → eqb f g ≡ true → P g i → P f i
  at f i g e p = subst (λ (x : ℕ). P x i) (sym (eqb-true f g e)) p

  -- The fields of timers, and of cells.
  of-timer
      : (f t : ℕ) → from_to fields.deadline fields.is_queued f ≡ true → (eqb f fields.period || eqb f fields.timer_rendez) ≡ false
      → 0 < m fields.is_queued t → m' fields.is_queued t ≡ 0 → P f t
  of-timer f t r n u v = go (eqb f fields.deadline) refl (eqb f fields.timer_next) refl (eqb f fields.is_queued) refl
    where
      go : (a : Bool) → eqb f fields.deadline ≡ a → (b : Bool) → eqb f fields.timer_next ≡ b → (c : Bool) → eqb f fields.is_queued ≡ c → P f t
      go true a b d c e = at f t fields.deadline a (h.deadlines t u v)
      go false a true d c e = at f t fields.timer_next d (h.timer_links t u v)
      go false a false d true e = at f t fields.is_queued e (h.flags t u v)
      go false a false d false e =
          let q : (39 ≤ f) × (f ≤ 43) = in_range_lem fields.deadline fields.is_queued f r in
          let k : (eqb f 40 ≡ false) × (eqb f 41 ≡ false) = or_parts (eqb f 40) (eqb f 41) n in
          absurd (omega (arith, q.0, q.1, eqb-false f 39 a, eqb-false f 40 k.0, eqb-false f 41 k.1, eqb-false f 42 d, eqb-false f 43 e))

  of_cell : (f c : ℕ) → from_to fields.exit_pid fields.message_length f ≡ true → 0 < m fields.owner c → m' fields.owner c ≡ 0 → P f c
  of_cell f c r u v = go (eqb f fields.exit_pid) refl (eqb f fields.cell_next) refl (eqb f fields.owner) refl (eqb f fields.message_length) refl
    where
      go
          : (a : Bool) → eqb f fields.exit_pid ≡ a → (b : Bool) → eqb f fields.cell_next ≡ b → (x : Bool) → eqb f fields.owner ≡ x → (y : Bool) → eqb f fields.message_length ≡ y → P f c
      go true a b d x e y g = at f c fields.exit_pid a (h.exit_pids c u v)
      go false a true d x e y g = at f c fields.cell_next d (h.cell_links c u v)
      go false a false d true e y g = at f c fields.owner e (h.owners c u v)
      go false a false d false e true g = at f c fields.message_length g (h.lengths c u v)
      go false a false d false e false g =
          let q : (44 ≤ f) × (f ≤ 47) = in_range_lem fields.exit_pid fields.message_length f r in
          absurd (omega (arith, q.0, q.1, eqb-false f 44 a, eqb-false f 45 d, eqb-false f 46 e, eqb-false f 47 g))

  -- So wherever it ceases to be used.
  pub by_fields : (z : Sizes) (f i : ℕ) → 0 < used z m f i → used z m' f i ≡ 0 → P f i
  unfolding used_by
  by_fields z f i =
      by (eqb f fields.parent_at)
      (λ e u v. at f i fields.parent_at e (h.parents i (where_true (eqb (m fields.parent i) 0 || eqb (m fields.pid (m fields.parent_at i - 1)) (m fields.parent i)) (m fields.pid i) u)))
      (by (from_to fields.pid fields.resume_object f) (λ e. h.records f i e)
      (by (eqb f fields.name_byte) (λ e u v. at f i fields.name_byte e (h.names i u v))
      (by' (eqb f fields.period || eqb f fields.timer_rendez) (λ u v. absurd (omega (arith, u, v)))
      (λ n. by (from_to fields.deadline fields.is_queued f) (λ e. of-timer f i e n)
      (by (from_to fields.exit_pid fields.message_length f) (λ e. of_cell f i e)
      (by (eqb f fields.message_byte)
      (λ e u v. at f i fields.message_byte e (h.bytes i u v))
      (λ u v. absurd (omega (arith, u, v)))))))))
    where
      by : (b : Bool) {x x' y y' : ℕ} → (b ≡ true → 0 < x → x' ≡ 0 → P f i) → (0 < y → y' ≡ 0 → P f i) → 0 < (if b then x else y) → (if b then x' else y') ≡ 0 → P f i
      by true p q = p refl
      by false p q = q

      by' : (b : Bool) {x x' y y' : ℕ} → (0 < x → x' ≡ 0 → P f i) → (b ≡ false → 0 < y → y' ≡ 0 → P f i) → 0 < (if b then x else y) → (if b then x' else y') ≡ 0 → P f i
      by' true p q = p
      by' false p q = q refl

-- Who frees nobody ceases to use nothing of records, and leaves what the first of two left calm.
pub quiet_calm : {z : Sizes} {m m₁ m₂ : Memory} → Calm m m₁ → Alive m₁ m₂ → Quiet z m m₁ m₂
unfolding cleared leftover elem
quiet_calm {z} {m} {m₁} {m₂} c a =
    record {
      quiet = by_fields {m = m₁} {m' = m₂} {P = λ f i. leftover f (m₁ f i) ≡ leftover f (m f i)}
          (record {
            records = λ f i r u v. absurd (omega (arith, a.alive i u, v));
            parents = λ i u. ap (λ (g : ℕ → ℕ). g i) c.parents;
            names = λ i u v. absurd (omega (arith, a.alive (i / 28) u, v));
            deadlines = λ t u v. ap (λ (g : ℕ → ℕ). g t) c.deadlines;
            timer_links = λ t u v. refl;
            flags = λ t u v. refl;
            exit_pids = λ t u v. ap (λ (g : ℕ → ℕ). g t) c.exit_pids;
            cell_links = λ t u v. refl;
            owners = λ t u v. refl;
            lengths = λ t u v. ap (λ (g : ℕ → ℕ). g t) c.lengths;
            bytes = λ i u v. ap (λ (g : ℕ → ℕ). g i) c.bytes;
          })
          z;
    }

-- What calm stores cease to use: of records what is told here, and timers and cells whose links are cleared.
pub ceased_by
    : {z : Sizes} {m m' : Memory}
    → Calm m m'
    → m' fields.name_byte ≡ m fields.name_byte
    → ((f i : ℕ) → from_to fields.pid fields.resume_object f ≡ true → 0 < m fields.pid i → m' fields.pid i ≡ 0 → m' f i ≡ leftover f (m f i))
    → ((t : ℕ) → 0 < m fields.is_queued t → m' fields.is_queued t ≡ 0 → m' fields.timer_next t ≡ 0)
    → ((c : ℕ) → 0 < m fields.owner c → m' fields.owner c ≡ 0 → m' fields.cell_next c ≡ 0)
    → Ceased z m m'
unfolding cleared leftover elem
ceased_by {z} {m} {m'} c n r t l =
    record {
      ceased = by_fields {m = m} {m' = m'} {P = λ f i. m' f i ≡ leftover f (m f i)}
          (record {
            records = r;
            parents = λ i u. ap (λ (g : ℕ → ℕ). g i) c.parents;
            names = λ i u v. ap (λ (g : ℕ → ℕ). g i) n;
            deadlines = λ t u v. ap (λ (g : ℕ → ℕ). g t) c.deadlines;
            timer_links = t;
            flags = λ t u v. v;
            exit_pids = λ t u v. ap (λ (g : ℕ → ℕ). g t) c.exit_pids;
            cell_links = l;
            owners = λ t u v. v;
            lengths = λ t u v. ap (λ (g : ℕ → ℕ). g t) c.lengths;
            bytes = λ i u v. ap (λ (g : ℕ → ℕ). g i) c.bytes;
          })
          z;
    }

-- Stores by which nobody is freed, no timer leaves and no cell is given back cease to use nothing.
pub ceased_grown
    : {z : Sizes} {m m' : Memory}
    → Alive m m'
    → ((i : ℕ) → 0 < m fields.pid i → m' fields.parent_at i ≡ m fields.parent_at i)
    → ((t : ℕ) → 0 < m fields.is_queued t → 0 < m' fields.is_queued t)
    → ((c : ℕ) → 0 < m fields.owner c → 0 < m' fields.owner c)
    → ((c : ℕ) → 0 < m fields.owner c → m' fields.message_length c ≡ m fields.message_length c)
    → Ceased z m m'
unfolding cleared leftover elem
ceased_grown {z} {m} {m'} a p t o l =
    record {
      ceased = by_fields {m = m} {m' = m'} {P = λ f i. m' f i ≡ leftover f (m f i)}
          (record {
            records = λ f i r u v. absurd (omega (arith, a.alive i u, v));
            parents = p;
            names = λ i u v. absurd (omega (arith, a.alive (i / 28) u, v));
            deadlines = λ k u v. absurd (omega (arith, t k u, v));
            timer_links = λ k u v. absurd (omega (arith, t k u, v));
            flags = λ k u v. absurd (omega (arith, t k u, v));
            exit_pids = λ c u v. absurd (omega (arith, o c u, v));
            cell_links = λ c u v. absurd (omega (arith, o c u, v));
            owners = λ c u v. absurd (omega (arith, o c u, v));
            lengths = λ c u v. absurd (omega (arith, o c u, v));
            bytes = λ i u v. absurd (byte (i / 127) (i % 127) u v);
          })
          z;
    }
  where
    byte
        : (c j : ℕ) → 0 < (if is_set (m fields.owner c) then m fields.message_length c - j else 0) → (if is_set (m' fields.owner c) then m' fields.message_length c - j else 0) ≡ 0 → ⊥
    byte c j u v =
        let n : 0 < m fields.owner c = cell-owned (m fields.owner c) (m fields.message_length c - j) u in
        let w : 0 < m fields.message_length c - j = rw (set_test (m fields.owner c) n) at u in
        let x : m' fields.message_length c - j ≡ 0 = rw (set_test (m' fields.owner c) (o c n)) at v in
        omega (arith, w, x, l c n)

-- What of records is not cleared stays too.
pub record Steady (m m' : Memory) : Type 0 where
  pub calm : Calm m m'
  pub parents : m' fields.parent ≡ m fields.parent
  pub quanta : m' fields.quantum_end ≡ m fields.quantum_end
  pub children : m' fields.nchild ≡ m fields.nchild
  pub kinds : m' fields.resume_kind ≡ m fields.resume_kind
  pub conditions : m' fields.resume_condition ≡ m fields.resume_condition
  pub objects : m' fields.resume_object ≡ m fields.resume_object
  pub names : m' fields.name_byte ≡ m fields.name_byte

pub steady-none : {m : Memory} → Steady m m
steady-none =
    record { calm = calm-none; parents = refl; quanta = refl; children = refl; kinds = refl; conditions = refl; objects = refl; names = refl }

pub steady_join : {m m₁ m₂ : Memory} → Steady m m₁ → Steady m₁ m₂ → Steady m m₂
steady_join p q =
    record {
      calm = calm_join p.calm q.calm;
      parents = q.parents ∙ p.parents;
      quanta = q.quanta ∙ p.quanta;
      children = q.children ∙ p.children;
      kinds = q.kinds ∙ p.kinds;
      conditions = q.conditions ∙ p.conditions;
      objects = q.objects ∙ p.objects;
      names = q.names ∙ p.names;
    }

-- What such stores leave of the fields of a record.
pub steady_record : {m m' : Memory} → Steady m m' → (f i : ℕ) → from_to fields.pid fields.resume_object f ≡ true → leftover f (m' f i) ≡ leftover f (m f i)
unfolding cleared leftover elem
steady_record {m} {m'} s f i r =
    let q : (20 ≤ f) × (f ≤ 33) = in_range_lem fields.pid fields.resume_object f r in
    from_at {P = λ f. leftover f (m' f i) ≡ leftover f (m f i)}
    (none
    and refl
    and ap (λ (g : ℕ → ℕ). g i) s.parents
    and ap (λ (g : ℕ → ℕ). g i) s.quanta
    and refl
    and refl
    and refl
    and ap (λ (g : ℕ → ℕ). g i) s.calm.parents
    and ap (λ (g : ℕ → ℕ). g i) s.children
    and refl
    and refl
    and refl
    and ap (λ (g : ℕ → ℕ). g i) s.kinds
    and ap (λ (g : ℕ → ℕ). g i) s.conditions
    and ap (λ (g : ℕ → ℕ). g i) s.objects)
    f q.0 (omega (arith, q.1))

-- Whatever the second of two ceases to use, the first left.
pub quiet-steady : {z : Sizes} {m m₁ m₂ : Memory} → Steady m m₁ → Quiet z m m₁ m₂
unfolding cleared leftover elem
quiet-steady {z} {m} {m₁} {m₂} s =
    record {
      quiet = by_fields {m = m₁} {m' = m₂} {P = λ f i. leftover f (m₁ f i) ≡ leftover f (m f i)}
          (record {
            records = λ f i r u v. steady_record s f i r;
            parents = λ i u. ap (λ (g : ℕ → ℕ). g i) s.calm.parents;
            names = λ i u v. ap (λ (g : ℕ → ℕ). g i) s.names;
            deadlines = λ t u v. ap (λ (g : ℕ → ℕ). g t) s.calm.deadlines;
            timer_links = λ t u v. refl;
            flags = λ t u v. refl;
            exit_pids = λ t u v. ap (λ (g : ℕ → ℕ). g t) s.calm.exit_pids;
            cell_links = λ t u v. refl;
            owners = λ t u v. refl;
            lengths = λ t u v. ap (λ (g : ℕ → ℕ). g t) s.calm.lengths;
            bytes = λ i u v. ap (λ (g : ℕ → ℕ). g i) s.calm.bytes;
          })
          z;
    }

-- A cleared field that was 0 where it was not used is 0 again where it is not.
pub cleared-zero
    : {z : Sizes} {m m' : Memory} (f i : ℕ)
    → Spared z m m'
    → Ceased z m m'
    → cleared f ≡ true
    → (used z m f i ≡ 0 → m f i ≡ 0)
    → used z m' f i ≡ 0
    → m' f i ≡ 0
unfolding leftover
cleared-zero {z} {m} {m'} f i s c e h v = go (ltb 0 (used z m f i)) refl
  where
    go : (b : Bool) → ltb 0 (used z m f i) ≡ b → m' f i ≡ 0
    go true q = rw e at (c.ceased f i (ltb-true 0 (used z m f i) q) v)
    go false q = let u : used z m f i ≡ 0 = omega (arith, ltb-false 0 (used z m f i) q) in s.spared f i u v ∙ h u

-- So what is free has nothing, where it had nothing before.
pub idle-kept : {z : Sizes} {m m' : Memory} → Spared z m m' → Ceased z m m' → Idle m → Idle m'
unfolding used_by cleared elem
idle-kept {z} {m} {m'} s c h =
    record {
      records = λ i e.
          record {
            older = cleared-zero fields.older i s c refl (λ u. (h.records i u).older) e;
            younger = cleared-zero fields.younger i s c refl (λ u. (h.records i u).younger) e;
            exits = cleared-zero fields.exits i s c refl (λ u. (h.records i u).exits) e;
            nexits = cleared-zero fields.nexits i s c refl (λ u. (h.records i u).nexits) e;
          };
      cells = λ x e. cleared-zero fields.cell_next x s c refl (h.cells x) e;
      timers = λ t e. cleared-zero fields.timer_next t s c refl (h.timers t) e;
    }
