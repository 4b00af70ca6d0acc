-- What `exits::write_message` asks and ensures, and what its code shows.
use Rattle.std.specs.Prelude.{◌≡◌, refl, List, [], ◌∷◌, ◌++◌, ℕ, suc, ◌+◌, ◌-◌, ◌*◌, ◌≤◌, ◌<◌, length, get_or, set, take, drop}
use Rattle.std.proofs.Common.{sym, ap, subst, ◌∙◌, append_assoc, arith, lit<, take-append-drop, length-drop, drop-drop, length-take-le}
use Rattle.std.proofs.lemmas.List.Edits.{sets, sets-eq}
use Rattle.std.proofs.lemmas.List.{drop-append-le}
use Rattle.memory.specs.Le.{put, put_one}
use Rattle.machine.specs.Message.{message}
use Rattle.machine.specs.Good.{SizesInRange, Each}
use Rattle.layout.specs.Table.{slot}
use Rattle.layout.specs.Memory.{write, Reach, reach-end}
use Rattle.layout.specs.Writes.{State, writes, Writable, written, state-writes}
use Rattle.chain.specs.Lists.{part_below}
use Rattle.state.specs.Fields as fields
use Rattle.state.proofs.Ranges.{ranges}
use Rattle.state.specs.Places.{sizes_in, start_in, mem_in, Wrote}
use Rattle.state.specs.declared.Sizes.{Sizes}
use Rattle.message.specs.Answers.{MessageWritten}
use Rattle.waitq.specs.Messages.{message_stores, message_mem, updates-message}

-- The stores are those bytes set one after another.
stores-set
    : (z : Sizes) (s : List ℕ) (k : ℕ) (bs : List ℕ)
    → Each (λ b. b < 256) bs
    → writes fields.layout1 (fields.counts (sizes_in z)) s (message_stores k bs) ≡ sets s (start_in z 7 + k) bs
unfolding message_stores write
stores-set z s k [] a = refl
stores-set z s k (b ∷ bs) a =
    stores-set z (put 1 s (start_in z 7 + k * 1 + 0) b) (suc k) bs a.1
    ∙ ap (λ (t : List ℕ). sets t (start_in z 7 + suc k) bs) (put_one s (start_in z 7 + k * 1 + 0) b a.0)
    ∙ ap (λ (x : ℕ). sets (set s x b) (start_in z 7 + suc k) bs) (omega arith)
    ∙ ap (λ (x : ℕ). sets (set s (start_in z 7 + k) b) x bs) (omega arith)

writable-message
    : (z : Sizes) (k : ℕ) (bs : List ℕ)
    → Each (λ b. b < 256) bs
    → k + length bs ≤ 127 * z.cells
    → Writable fields.layout1 (fields.most_of (sizes_in z)) (fields.counts (sizes_in z)) (message_stores k bs)
unfolding message_stores
writable-message z k [] a l = tt
writable-message z k (b ∷ bs) a l =
    (record { listed = omega arith; index = omega arith }, omega (arith, a.0), writable-message z (suc k) bs a.1 (omega arith))

-- What the code asks: a state in range that has a cell c.
pub record WriteAsks (z : Sizes) (s : List ℕ) (c : ℕ) : Type 0 where
  pub sizes : SizesInRange (sizes_in z)
  pub state : State fields.layout1 (fields.most_of (sizes_in z)) (fields.counts (sizes_in z)) s
  pub index : c < z.cells

-- The state is in range after; the message stands over the front of the cell's part of the bytes, and every other byte is as it was; the
-- answer is its length.
pub record MessageIn (z : Sizes) (s s' : List ℕ) (c : ℕ) (name : List ℕ) (pid : ℕ) (status : List ℕ) (r : ℕ) : Type 0 where
  pub state : State fields.layout1 (fields.most_of (sizes_in z)) (fields.counts (sizes_in z)) s'
  pub bytes : s' ≡ sets s (start_in z 7 + 127 * c) (message name pid status)
  pub wrote : Wrote z s s' (message_stores (127 * c) (message name pid status))
  pub writable : Writable fields.layout1 (fields.most_of (sizes_in z)) (fields.counts (sizes_in z)) (message_stores (127 * c) (message name pid status))
  pub memory : mem_in z s' ≡ message_mem (mem_in z s) c (message name pid status)
  pub answer : r ≡ length (message name pid status)
  pub within : r ≤ 127

-- The cell's part lies within the bytes.
pub part_end : {z : Sizes} {s : List ℕ} {c at : ℕ} → WriteAsks z s c → at ≡ start_in z 7 + c * 127 → at + 127 ≤ length s
part_end {z} {s} {c} {at} a e =
    let r : Reach fields.layout1 (fields.counts (sizes_in z)) s (slot 7 0 1) (c * 127 + 126) =
    record { inside = record { region = lit< tt; end = lit< tt }; index = omega (arith, a.index); long = a.state.long }
    in
    omega (arith, reach-end r)

-- A part of the bytes whose front is replaced by bs.
over_part
    : (s : List ℕ) (at : ℕ) (bs : List ℕ)
    → at + 127 ≤ length s
    → length bs ≤ 127
    → take at s ++ ((bs ++ drop (length bs) (take 127 (drop at s))) ++ drop 127 (drop at s)) ≡ sets s at bs
over_part s at bs l h =
    let t : List ℕ = drop at s in
    let n : ℕ = length bs in
    let w : length (take 127 t) ≡ 127 = length-take-le 127 t (simp length-drop (omega arith)) in
    let e : drop n (take 127 t) ++ drop 127 t ≡ drop n t =
    sym (drop-append-le n (take 127 t) (drop 127 t) (omega arith)) ∙ ap (drop n) (take-append-drop 127 t)
    in
    sym
    (sets-eq bs s at (omega arith)
    ∙ append_assoc (take at s) bs (drop (at + n) s)
    ∙ ap (λ (x : List ℕ). take at s ++ (bs ++ x)) (sym (drop-drop n at s) ∙ sym e)
    ∙ ap (λ (x : List ℕ). take at s ++ x) (sym (append_assoc bs (drop n (take 127 t)) (drop 127 t))))

-- What the code shows at its return.
pub message_in_lem
    : {z : Sizes} {s s' part : List ℕ} {c at : ℕ} {name : List ℕ} {pid : ℕ} {status : List ℕ} {r : ℕ}
    → WriteAsks z s c
    → at ≡ start_in z 7 + c * 127
    → MessageWritten (take (at + 127 - at) (drop at s)) part name pid status r
    → s' ≡ take at s ++ (part ++ drop (at + 127 - at) (drop at s))
    → ((k : ℕ) → get_or s' k 0 < 256)
    → MessageIn z s s' c name pid status r
message_in_lem {z} {s} {s'} {part} {c} {at} {name} {pid} {status} {r} a e w d f =
    let bs : List ℕ = message name pid status in
    let n : at + 127 - at ≡ 127 = omega arith in
    let p : part ≡ bs ++ drop (length bs) (take 127 (drop at s)) = rw n at w.bytes in
    let l : length bs ≤ 127 = omega (arith, w.answer, w.within) in
    let d₀ : s' ≡ take at s ++ (part ++ drop 127 (drop at s)) = rw n at d in
    let d₁ : s' ≡ take at s ++ ((bs ++ drop (length bs) (take 127 (drop at s))) ++ drop 127 (drop at s)) = rw p at d₀ in
    let g : Each (λ b. b < 256) bs =
    part_below 256 (take at s) bs (drop (length bs) (take 127 (drop at s)) ++ drop 127 (drop at s))
    (λ k. subst (λ (x : List ℕ). get_or x k 0 < 256) (d₁ ∙ ap (λ (x : List ℕ). take at s ++ x) (append_assoc bs (drop (length bs) (take 127 (drop at s))) (drop 127 (drop at s)))) (f k))
    in
    let b : s' ≡ sets s (start_in z 7 + 127 * c) bs =
    d₁ ∙ over_part s at bs (part_end {z = z} a e) l ∙ ap (λ (x : ℕ). sets s x bs) (e ∙ omega arith)
    in
    let v : s' ≡ writes fields.layout1 (fields.counts (sizes_in z)) s (message_stores (127 * c) bs) = b ∙ sym (stores-set z s (127 * c) bs g) in
    let x : Writable fields.layout1 (fields.most_of (sizes_in z)) (fields.counts (sizes_in z)) (message_stores (127 * c) bs) =
    writable-message z (127 * c) bs g (omega (arith, a.index))
    in
    let st : State fields.layout1 (fields.most_of (sizes_in z)) (fields.counts (sizes_in z)) s' =
    rw v (state-writes (ranges (sizes_in z) a.sizes) a.state (message_stores (127 * c) bs) x)
    in
    record {
      state = st;
      bytes = b;
      wrote = record { bytes = v; long = st.long };
      writable = x;
      memory = rw v (written (ranges (sizes_in z) a.sizes) a.state (message_stores (127 * c) bs) x ∙ updates-message (mem_in z s) (127 * c) bs);
      answer = w.answer;
      within = w.within;
    }
