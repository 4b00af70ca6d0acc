-- Storing a whole record: the stores, in the order in which the code makes them.
use Rattle.std.specs.Prelude.{◌≡◌, refl, List, [], ◌∷◌, ◌++◌, ℕ, suc, ◌+◌, ◌-◌, ◌*◌, ◌≤◌, ◌<◌, length, get_or, set, take, drop}
use Rattle.std.proofs.Common.{sym, ap, subst, ◌∙◌, arith, append_assoc, drop-drop}
use Rattle.std.proofs.Math.Seq.{length-sets}
use Rattle.std.proofs.lemmas.List.Edits.{sets, sets-eq}
use Rattle.memory.specs.Le.{put, put_one}
use Rattle.memory.specs.Link.{link, IsLink}
use Rattle.machine.specs.Good.{Each}
use Rattle.layout.specs.Memory.{write}
use Rattle.layout.specs.Writes.{Write, to, writes}
use Rattle.chain.specs.Lists.{part_below}
use Rattle.state.specs.Fields as fields
use Rattle.state.specs.Places.{sizes_in, start_in, total_in, PutIn, Wrote, wrote_3}
use Rattle.layout.specs.Table.{slot}
use Rattle.state.specs.declared.Sizes.{Sizes}
use Rattle.record.specs.declared.Proc.{Proc}
use Rattle.record.specs.declared.Resume.{Resume}
use Rattle.record.specs.Resumes.{number_of, object_of, condition_of}
use Rattle.record.specs.Loads.{name-end}

-- Each link of a record fits two bytes.
pub record LinksFit (p : Proc) : Type 0 where
  pub next : IsLink p.next
  pub older : IsLink p.older
  pub younger : IsLink p.younger
  pub parent_at : IsLink p.parent_at
  pub exits : IsLink p.exits

abbrev pub id_stores : ℕ → Proc → List Write
id_stores i p = to fields.pid i p.pid ∷ to fields.parent i p.parent ∷ to fields.quantum_end i p.quantum_end ∷ []

abbrev pub tie_stores : ℕ → Proc → List Write
tie_stores i p = to fields.next i (link p.next) ∷ to fields.older i (link p.older) ∷ to fields.younger i (link p.younger) ∷ to fields.parent_at i (link p.parent_at) ∷ []

abbrev pub count_stores : ℕ → Proc → List Write
count_stores i p = to fields.nchild i p.nchild ∷ to fields.exits i (link p.exits) ∷ to fields.nexits i p.nexits ∷ to fields.state_of i p.state ∷ []

abbrev pub resume_stores : ℕ → Resume → List Write
resume_stores i r = to fields.resume_kind i (number_of r) ∷ to fields.resume_object i (object_of r) ∷ to fields.resume_condition i (condition_of r) ∷ []

-- The bytes of a name, from number k of the names on.
unfoldable pub name_stores : ℕ → List ℕ → List Write
name_stores k [] = []
name_stores k (b ∷ bs) = to fields.name_byte k b ∷ name_stores (suc k) bs

-- The numbers of a record, and all of it.
abbrev pub number_stores : ℕ → Proc → List Write
number_stores i p = id_stores i p ++ tie_stores i p ++ count_stores i p

abbrev pub record_stores : ℕ → Proc → List Write
record_stores i p = number_stores i p ++ resume_stores i p.resume ++ name_stores (28 * i) p.text

-- They are those bytes set one after another.
names-set
    : (z : Sizes) (s : List ℕ) (k : ℕ) (bs : List ℕ)
    → Each (λ b. b < 256) bs
    → writes fields.layout1 (fields.counts (sizes_in z)) s (name_stores k bs) ≡ sets s (start_in z 2 + k) bs
unfolding name_stores write
names-set z s k [] a = refl
names-set z s k (b ∷ bs) a =
    names-set z (put 1 s (start_in z 2 + k * 1 + 0) b) (suc k) bs a.1
    ∙ ap (λ (t : List ℕ). sets t (start_in z 2 + suc k) bs) (put_one s (start_in z 2 + k * 1 + 0) b a.0)
    ∙ ap (λ (x : ℕ). sets (set s x b) (start_in z 2 + suc k) bs) (omega arith)
    ∙ ap (λ (x : ℕ). sets (set s (start_in z 2 + k) b) x bs) (omega arith)

-- The part of the bytes that is record i's name is replaced by a text.
pub name-stored
    : (text : List ℕ) {z : Sizes} {s s' : List ℕ} {i at : ℕ}
    → i < z.processes
    → total_in z ≤ length s
    → at ≡ start_in z 2 + i * 28
    → length text ≡ 28
    → s' ≡ take at s ++ (text ++ drop (at + 28 - at) (drop at s))
    → ((k : ℕ) → get_or s' k 0 < 256)
    → Wrote z s s' (name_stores (28 * i) text)
name-stored text {z} {s} {s'} {i} {at} h l e w d f =
    let n : at + 28 - at ≡ length text = omega (arith, w) in
    let g : Each (λ b. b < 256) text = part_below 256 (take at s) text (drop (at + 28 - at) (drop at s)) (λ k. subst (λ (x : List ℕ). get_or x k 0 < 256) d (f k)) in
    let b : s' ≡ sets s at text =
    d
    ∙ ap (λ (k : ℕ). take at s ++ (text ++ drop k (drop at s))) n
    ∙ ap (λ (x : List ℕ). take at s ++ (text ++ x)) (drop-drop (length text) at s)
    ∙ sym (append_assoc (take at s) text (drop (at + length text) s))
    ∙ sym (sets-eq text s at (omega (arith, name-end z s h l e, w)))
    in
    record {
      bytes = b ∙ ap (λ (k : ℕ). sets s k text) (e ∙ omega arith) ∙ sym (names-set z s (28 * i) text g);
      long = rw b (omega (arith, l, length-sets s at text));
    }

pub resume-stored
    : (r : Resume) {z : Sizes} {s s₁ s₂ s₃ : List ℕ} {i k o c : ℕ}
    → k ≡ number_of r
    → o ≡ object_of r
    → c ≡ condition_of r
    → PutIn z s s₁ (slot 1 38 1) i k
    → PutIn z s₁ s₂ (slot 1 40 2) i o
    → PutIn z s₂ s₃ (slot 1 39 1) i c
    → Wrote z s s₃ (resume_stores i r)
resume-stored r {z} {s} {s₁} {s₂} {s₃} {i} a b d p₁ p₂ p₃ =
    wrote_3 (subst (λ (v : ℕ). PutIn z s s₁ (slot 1 38 1) i v) a p₁) (subst (λ (v : ℕ). PutIn z s₁ s₂ (slot 1 40 2) i v) b p₂)
    (subst (λ (v : ℕ). PutIn z s₂ s₃ (slot 1 39 1) i v) d p₃)
