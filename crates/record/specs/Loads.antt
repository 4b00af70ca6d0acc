-- Loading and storing a whole record.
use Rattle.std.specs.Prelude.{◌≡◌, List, ℕ, ◌+◌, ◌-◌, ◌*◌, ◌≤◌, ◌<◌, length, get_or, take, drop}
use Rattle.std.proofs.Common.{sym, ap, ◌∙◌, arith, lit<, length-take-le, length-drop, ext_get_or}
use Rattle.std.proofs.lemmas.List.{get_or-take, get_or-drop}
use Rattle.std.proofs.Math.Path.{subst₃}
use Rattle.memory.specs.Le.{le, le-one}
use Rattle.memory.specs.Link.{link}
use Rattle.layout.specs.Table.{slot}
use Rattle.layout.specs.Memory.{Memory, Reach, reach-end, cell_in_lem}
use Rattle.state.specs.Fields as fields
use Rattle.state.specs.Abs.{table}
use Rattle.state.specs.Tables.{table-length, table-get}
use Rattle.state.specs.Places.{sizes_in, total_in, start_in, mem_in}
use Rattle.state.specs.declared.Sizes.{Sizes}
use Rattle.record.specs.declared.Proc.{Proc}
use Rattle.record.specs.declared.Resume.{Resume}
use Rattle.record.specs.Resumes.{resume_is}

-- There is a record i in the bytes.
pub record LoadAsks (z : Sizes) (s : List ℕ) (i : ℕ) : Type 0 where
  pub index : i < z.processes
  pub long : total_in z ≤ length s

-- The name of record i.
unfoldable pub name_of : Memory → ℕ → List ℕ
name_of m i = table 28 (λ j. m fields.name_byte (28 * i + j))

-- A record that was loaded is what the memory holds, field by field.
pub record Loaded (z : Sizes) (s : List ℕ) (i : ℕ) (p : Proc) : Type 0 where
  pub pid : p.pid ≡ mem_in z s fields.pid i
  pub parent : p.parent ≡ mem_in z s fields.parent i
  pub quantum_end : p.quantum_end ≡ mem_in z s fields.quantum_end i
  pub next : link p.next ≡ mem_in z s fields.next i
  pub older : link p.older ≡ mem_in z s fields.older i
  pub younger : link p.younger ≡ mem_in z s fields.younger i
  pub parent_at : link p.parent_at ≡ mem_in z s fields.parent_at i
  pub nchild : p.nchild ≡ mem_in z s fields.nchild i
  pub exits : link p.exits ≡ mem_in z s fields.exits i
  pub nexits : p.nexits ≡ mem_in z s fields.nexits i
  pub state : p.state ≡ mem_in z s fields.state_of i
  pub resume : resume_is (mem_in z s fields.resume_kind i) (mem_in z s fields.resume_object i) (mem_in z s fields.resume_condition i) p.resume
  pub text : p.text ≡ name_of (mem_in z s) i

-- The name of record i was read.
pub record Named (z : Sizes) (s : List ℕ) (i : ℕ) (r : List ℕ) : Type 0 where
  pub text : r ≡ name_of (mem_in z s) i

-- the bytes of record i's name lie within the bytes, and each is one of the memory's
name-reach : {z : Sizes} {s : List ℕ} {i : ℕ} (j : ℕ) → LoadAsks z s i → j < 28 → Reach fields.layout1 (fields.counts (sizes_in z)) s (slot 2 0 1) (28 * i + j)
name-reach j a l = record { inside = record { region = lit< tt; end = lit< tt }; index = omega (arith, a.index); long = a.long }

pub name_byte_lem : (z : Sizes) (s : List ℕ) (i j : ℕ) → LoadAsks z s i → j < 28 → get_or s (start_in z 2 + i * 28 + j) 0 ≡ mem_in z s fields.name_byte (28 * i + j)
name_byte_lem z s i j a l =
    sym (le-one s (start_in z 2 + i * 28 + j))
    ∙ ap (λ (k : ℕ). le 1 s k) (omega arith)
    ∙ cell_in_lem fields.layout1 (fields.counts (sizes_in z)) s (slot 2 0 1) (28 * i + j) (omega (arith, a.index))

pub name-within : (z : Sizes) (s : List ℕ) (i j : ℕ) → LoadAsks z s i → j < 28 → start_in z 2 + i * 28 + j < length s
name-within z s i j a l = omega (arith, reach-end (name-reach {z = z} j a l))

-- The part that is record i's name ends within the bytes.
pub name-end : (z : Sizes) (s : List ℕ) {i at : ℕ} → i < z.processes → total_in z ≤ length s → at ≡ start_in z 2 + i * 28 → at + 28 ≤ length s
name-end z s {i} h l e = omega (arith, name-within z s i 27 (record { index = h; long = l }) (lit< tt))

-- That part is the name.
pub named
    : {z : Sizes} {s text : List ℕ} {i at : ℕ}
    → i < z.processes
    → total_in z ≤ length s
    → at ≡ start_in z 2 + i * 28
    → text ≡ take (at + 28 - at) (drop at s)
    → Named z s i text
unfolding name_of
named {z} {s} {text} {i} {at} h l e d =
    let m : Memory = mem_in z s in
    let a : LoadAsks z s i = record { index = h; long = l } in
    let n : at + 28 - at ≡ 28 = omega arith in
    let w : length (take 28 (drop at s)) ≡ 28 = length-take-le 28 (drop at s) (simp length-drop (omega (arith, name-end z s h l e))) in
    record {
      text =
          d
          ∙ ap (λ (k : ℕ). take k (drop at s)) n
          ∙ ext_get_or 0 (take 28 (drop at s)) (table 28 (λ k. m fields.name_byte (28 * i + k)))
          (w ∙ sym (table-length 28 (λ k. m fields.name_byte (28 * i + k))))
          (λ k b.
          let c : k < 28 = omega (arith, w) in
          get_or-take 28 (drop at s) k 0 c
          ∙ get_or-drop at s k 0
          ∙ rw e (name_byte_lem z s i k a c)
          ∙ sym (table-get 28 (λ x. m fields.name_byte (28 * i + x)) k 0 c));
    }

-- The call of record i was loaded.
pub record ResumeLoaded (z : Sizes) (s : List ℕ) (i : ℕ) (r : Resume) : Type 0 where
  pub resume : resume_is (mem_in z s fields.resume_kind i) (mem_in z s fields.resume_object i) (mem_in z s fields.resume_condition i) r

pub resume-loaded
    : {z : Sizes} {s : List ℕ} {i k o c : ℕ} {r : Resume}
    → k ≡ mem_in z s fields.resume_kind i
    → o ≡ mem_in z s fields.resume_object i
    → c ≡ mem_in z s fields.resume_condition i
    → resume_is k o c r
    → ResumeLoaded z s i r
resume-loaded {z} {s} {i} {k} {o} {c} {r} a b d e =
    record { resume = subst₃ (λ (x y w : ℕ). resume_is x y w r) a b d e }
