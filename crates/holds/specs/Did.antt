-- What an operation on the lent state does: to the bytes, to the memory, to what is kept, and to the machine.
use Rattle.std.specs.Prelude.{◌≡◌, refl, List, [], ◌∷◌, ◌++◌, ℕ, suc}
use Rattle.std.proofs.Common.{sym, ap, subst, ◌∙◌}
use Rattle.machine.specs.Machine.{Machine}
use Rattle.layout.specs.Table.{field}
use Rattle.layout.specs.Memory.{Memory}
use Rattle.layout.specs.Writes.{State, Write, to, writes, updates, Writable, written, state-writes, writes_join}
use Rattle.state.specs.Fields as fields
use Rattle.state.specs.Abs.{machine_of}
use Rattle.state.proofs.Ranges.{ranges}
use Rattle.state.specs.Places.{sizes_in, mem_in, PutIn, Wrote, wrote-more}
use Rattle.state.specs.declared.Sizes.{Sizes}
use Rattle.holds.specs.Holds.{Keeps, Holds}
use Rattle.holds.specs.Use.{EachInUse, SameUse, fewer-same, between_first, updates_spare}
use Rattle.holds.specs.Leftover.{Spared, spared_join}

-- The bytes after stores, and that stores are in range.
abbrev pub writes_in : Sizes → List ℕ → List Write → List ℕ
writes_in z s ws = writes fields.layout1 (fields.counts (sizes_in z)) s ws

abbrev pub WritableIn : Sizes → List Write → Type 0
WritableIn z ws = Writable fields.layout1 (fields.most_of (sizes_in z)) (fields.counts (sizes_in z)) ws

abbrev pub machine_in : Sizes → List ℕ → Machine
machine_in z s = machine_of (sizes_in z) (mem_in z s)

-- As many owed as before; one more.
abbrev pub same : ℕ → ℕ
same n = n

abbrev pub more : ℕ → ℕ
more n = suc n

-- The operation took bytes s to s' by the stores ws, each in range: then the memory is k and the machine a; what was kept is kept, with
-- `after n` owed where `before n` were; and what the machine uses neither before nor after stays.
pub record Did (z : Sizes) (s s' : List ℕ) (before after : ℕ → ℕ) (ws : List Write) (k : Memory) (a : Machine) : Type 0 where
  pub holds : (n : ℕ) → Holds z s (before n) → Holds z s' (after n)
  pub bytes : s' ≡ writes_in z s ws
  pub writable : WritableIn z ws
  pub memory : mem_in z s' ≡ k
  pub machine : machine_in z s' ≡ a
  pub spared : Spared z (mem_in z s) k

-- Stores to what is used leave the rest.
pub spared_by : {z : Sizes} {m k : Memory} {ws : List Write} → updates m ws ≡ k → EachInUse z m k ws → Spared z m k
spared_by {m = m} e u = record { spared = λ f i a b. ap (λ (x : Memory). x f i) (sym e) ∙ updates_spare m u f i a b }

-- And stores to bytes, that leave the memory k.
pub spared-stores
    : {z : Sizes} {s s' : List ℕ} {n : ℕ} {ws : List Write} {k : Memory}
    → Holds z s n
    → s' ≡ writes_in z s ws
    → WritableIn z ws
    → mem_in z s' ≡ k
    → EachInUse z (mem_in z s) k ws
    → Spared z (mem_in z s) k
spared-stores {z} {ws = ws} h b ok e u =
    spared_by (sym (written (ranges (sizes_in z) h.sizes) h.state ws ok) ∙ ap (mem_in z) (sym b) ∙ e) u

-- From the stores: that they are in range, what they make of the memory, that this keeps all, its machine, and that they go to what is used.
pub did
    : {z : Sizes} {s s' : List ℕ} {owed : ℕ} {before after : ℕ → ℕ} (ws : List Write) (k : Memory) (a : Machine)
    → Holds z s owed
    → s' ≡ writes_in z s ws
    → WritableIn z ws
    → updates (mem_in z s) ws ≡ k
    → ((n : ℕ) → Keeps (sizes_in z) (mem_in z s) (before n) → Keeps (sizes_in z) k (after n))
    → machine_of (sizes_in z) k ≡ a
    → EachInUse z (mem_in z s) k ws
    → Did z s s' before after ws k a
did {z} {s} {s'} {owed} {before} {after} ws k a h b ok e keeps m u =
    let x : mem_in z s' ≡ k =
    ap (λ (t : List ℕ). mem_in z t) b ∙ written (ranges (sizes_in z) h.sizes) h.state ws ok ∙ e
    in
    record {
      holds = λ n g.
          record {
            sizes = g.sizes;
            state =
                subst (λ (t : List ℕ). State fields.layout1 (fields.most_of (sizes_in z)) (fields.counts (sizes_in z)) t) (sym b)
                (state-writes (ranges (sizes_in z) g.sizes) g.state ws ok);
            keeps = subst (λ (y : Memory). Keeps (sizes_in z) y (after n)) (sym x) (keeps n g.keeps);
          };
      bytes = b;
      writable = ok;
      memory = x;
      machine = ap (machine_of (sizes_in z)) x ∙ m;
      spared = spared_by e u;
    }

-- Stores in range, one run after another.
pub writable_join : (z : Sizes) (ws ws' : List Write) → WritableIn z ws → WritableIn z ws' → WritableIn z (ws ++ ws')
writable_join z [] ws' a b = b
writable_join z (w ∷ ws) ws' a b = (a.0, a.1, writable_join z ws ws' a.2 b)

-- One operation after another; the first leaves what is used.
pub did_join
    : {z : Sizes} {s s₁ s₂ : List ℕ} {f g h : ℕ → ℕ} {ws ws' : List Write} {k k' : Memory} {a b : Machine}
    → Did z s s₁ f g ws k a
    → Did z s₁ s₂ g h ws' k' b
    → SameUse z (mem_in z s) k
    → Did z s s₂ f h (ws ++ ws') k' b
did_join {z} {s} {s₁} {s₂} {ws = ws} {ws' = ws'} {k = k} {k' = k'} p q u =
    record {
      holds = λ n x. q.holds n (p.holds n x);
      bytes =
          q.bytes
          ∙ ap (λ (t : List ℕ). writes_in z t ws') p.bytes
          ∙ sym (writes_join fields.layout1 (fields.counts (sizes_in z)) s ws ws');
      writable = writable_join z ws ws' p.writable q.writable;
      memory = q.memory;
      machine = q.machine;
      spared =
          spared_join p.spared (subst (λ (m : Memory). Spared z m k') p.memory q.spared) (between_first (fewer-same u));
    }

-- The same, said of other stores, memory and machine.
pub did_as
    : {z : Sizes} {s s' : List ℕ} {f g : ℕ → ℕ} {ws ws' : List Write} {k k' : Memory} {a b : Machine}
    → Did z s s' f g ws k a
    → ws ≡ ws'
    → k ≡ k'
    → a ≡ b
    → Did z s s' f g ws' k' b
did_as {z} {s} {ws = ws} {k' = k'} p e d c =
    record {
      holds = p.holds;
      bytes = p.bytes ∙ ap (writes_in z s) e;
      writable = subst (WritableIn z) e p.writable;
      memory = p.memory ∙ d;
      machine = p.machine ∙ c;
      spared = subst (Spared z (mem_in z s)) d p.spared;
    }

-- Nothing done.
pub did_nothing : {z : Sizes} {s : List ℕ} {f : ℕ → ℕ} → Did z s s f f [] (mem_in z s) (machine_in z s)
did_nothing = record { holds = λ n x. x; bytes = refl; writable = tt; memory = refl; machine = refl; spared = record { spared = λ f i a b. refl } }

-- A store as a run of one, and of two.
pub wrote_1 : {z : Sizes} {s s₁ : List ℕ} {f i v : ℕ} → PutIn z s s₁ (field fields.layout1 f) i v → Wrote z s s₁ (to f i v ∷ [])
wrote_1 p = record { bytes = p.bytes; long = p.long }

pub wrote_2
    : {z : Sizes} {s s₁ s₂ : List ℕ} {f₁ f₂ i₁ i₂ v₁ v₂ : ℕ}
    → PutIn z s s₁ (field fields.layout1 f₁) i₁ v₁
    → PutIn z s₁ s₂ (field fields.layout1 f₂) i₂ v₂
    → Wrote z s s₂ (to f₁ i₁ v₁ ∷ to f₂ i₂ v₂ ∷ [])
wrote_2 {z} p₁ p₂ = record { bytes = wrote-more z _ p₁.bytes p₂; long = p₂.long }
