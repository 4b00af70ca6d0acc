-- Which bytes an operation or a step writes: those of the layout's fields that the machine uses, and no other but what it clears.
use Rattle.std.specs.Prelude.{◌≡◌, refl, Bool, true, false, List, [], ◌∷◌, ◌++◌, ℕ, zero, suc, ◌+◌, ◌/◌, ◌%◌, ◌≤◌, ltb, length, drop, set}
use Rattle.std.proofs.Common.{sym, ap, subst, ◌∙◌, arith, ltb-true, ltb-false, drop-set-lt}
use Rattle.memory.specs.Le.{put}
use Rattle.machine.specs.Machine.{Machine}
use Rattle.layout.specs.Table.{field, place}
use Rattle.layout.specs.Place.{inside-at, below_total}
use Rattle.layout.specs.Memory.{Memory, store, write, In}
use Rattle.layout.specs.Writes.{Write, writes_join, length-writes}
use Rattle.state.specs.Fields as fields
use Rattle.state.proofs.Ranges.{ranges}
use Rattle.state.specs.Places.{sizes_in, mem_in, total_in}
use Rattle.state.specs.WellFormed.{Idle}
use Rattle.state.specs.declared.Sizes.{Sizes}
use Rattle.holds.specs.Holds.{Holds}
use Rattle.holds.specs.Use.{used, EachInUse, kin-same, calm-same, SameUse, same_join, Fewer, fewer-same, Smaller, between-smaller, Between, between_first, between-last}
use Rattle.holds.specs.Leftover.{cleared, leftover, idle-kept, Spared, spared_join, Ceased, ceased_join, ceased-lasts, Quiet, quiet-lasts, quiet_calm, lasts-same, Alive}
use Rattle.holds.specs.Did.{Did, writes_in, WritableIn, spared-stores, writable_join}

-- The bytes s became s' by stores to fields, each in range. What the machine uses neither before nor after stays; what it ceases to use stays, or is 0
-- where its field is cleared (`leftover`).
pub record Spares (z : Sizes) (s s' : List ℕ) : Type 0 where
  pub stores : List Write
  pub writable : WritableIn z stores
  pub bytes : s' ≡ writes_in z s stores
  pub spared : Spared z (mem_in z s) (mem_in z s')
  pub ceased : Ceased z (mem_in z s) (mem_in z s')

-- And what is used stays: nobody is made or freed, and no timer queued or taken off.
pub record Touched (z : Sizes) (s s' : List ℕ) : Type 0 where
  pub spares : Spares z s s'
  pub same : SameUse z (mem_in z s) (mem_in z s')

-- By none.
same_memory : {z : Sizes} {s s' : List ℕ} → s' ≡ s → SameUse z (mem_in z s) (mem_in z s')
same_memory {z} e =
    record { same = ap (λ (t : List ℕ). used z (mem_in z t)) e; kin = kin-same (ap (mem_in z) e); calm = calm-same (ap (mem_in z) e) }

pub touched-same : {z : Sizes} {s s' : List ℕ} → s' ≡ s → Touched z s s'
touched-same {z} e =
    record {
      spares =
          record {
            stores = [];
            writable = tt;
            bytes = e;
            spared = record { spared = λ f i a b. ap (λ (t : List ℕ). mem_in z t f i) e };
            ceased = ceased-lasts (lasts-same (same_memory e));
          };
      same = same_memory e;
    }

pub touched_none : {z : Sizes} {s : List ℕ} → Touched z s s
touched_none = touched-same refl

pub spares-none : {z : Sizes} {s : List ℕ} → Spares z s s
spares-none = touched_none.spares

-- By those of an operation.
pub spares-did
    : {z : Sizes} {s s' : List ℕ} {f g : ℕ → ℕ} {ws : List Write} {k : Memory} {a : Machine}
    → Did z s s' f g ws k a
    → Ceased z (mem_in z s) (mem_in z s')
    → Spares z s s'
spares-did {z} {s} {ws = ws} d l =
    record {
      stores = ws;
      writable = d.writable;
      bytes = d.bytes;
      spared = subst (Spared z (mem_in z s)) (sym d.memory) d.spared;
      ceased = l;
    }

pub spares-stores
    : {z : Sizes} {s s' : List ℕ} {n : ℕ} {ws : List Write} {k : Memory}
    → Holds z s n
    → s' ≡ writes_in z s ws
    → WritableIn z ws
    → mem_in z s' ≡ k
    → EachInUse z (mem_in z s) k ws
    → Ceased z (mem_in z s) k
    → Spares z s s'
spares-stores {z} {s} {ws = ws} h b ok e u c =
    record {
      stores = ws;
      writable = ok;
      bytes = b;
      spared = subst (Spared z (mem_in z s)) (sym e) (spared-stores h b ok e u);
      ceased = subst (Ceased z (mem_in z s)) (sym e) c;
    }

pub touched-did
    : {z : Sizes} {s s' : List ℕ} {f g : ℕ → ℕ} {ws : List Write} {k : Memory} {a : Machine}
    → Did z s s' f g ws k a
    → SameUse z (mem_in z s) k
    → Touched z s s'
touched-did {z} {s} {s'} d u =
    let v : SameUse z (mem_in z s) (mem_in z s') = subst (λ (m : Memory). SameUse z (mem_in z s) m) (sym d.memory) u in
    record { spares = spares-did d (ceased-lasts (lasts-same v)); same = v }

-- By some after others.
pub spares_join
    : {z : Sizes} {s s₁ s₂ : List ℕ}
    → Spares z s s₁
    → Spares z s₁ s₂
    → Between z (mem_in z s) (mem_in z s₁) (mem_in z s₂)
    → Quiet z (mem_in z s) (mem_in z s₁) (mem_in z s₂)
    → Spares z s s₂
spares_join {z} {s} p q t l =
    record {
      stores = p.stores ++ q.stores;
      writable = writable_join z p.stores q.stores p.writable q.writable;
      bytes =
          q.bytes
          ∙ ap (λ (t : List ℕ). writes_in z t q.stores) p.bytes
          ∙ sym (writes_join fields.layout1 (fields.counts (sizes_in z)) s p.stores q.stores);
      spared = spared_join p.spared q.spared t;
      ceased = ceased_join p.ceased q.spared q.ceased l;
    }

pub touched_join : {z : Sizes} {s s₁ s₂ : List ℕ} → Touched z s s₁ → Touched z s₁ s₂ → Touched z s s₂
touched_join p q =
    record {
      spares = spares_join p.spares q.spares (between_first (fewer-same p.same)) (quiet-lasts (lasts-same q.same));
      same = same_join p.same q.same;
    }

-- Where the first of two leaves what is used, or takes from it, and the second frees nobody; and where the second leaves it.
pub spares-after
    : {z : Sizes} {s s₁ s₂ : List ℕ} → Touched z s s₁ → Spares z s₁ s₂ → Alive (mem_in z s₁) (mem_in z s₂) → Spares z s s₂
spares-after p q a = spares_join p.spares q (between_first (fewer-same p.same)) (quiet_calm p.same.calm a)

pub spares-fewer
    : {z : Sizes} {s s₁ s₂ : List ℕ}
    → Spares z s s₁
    → Fewer z (mem_in z s) (mem_in z s₁)
    → Spares z s₁ s₂
    → Alive (mem_in z s₁) (mem_in z s₂)
    → Spares z s s₂
spares-fewer p u q a = spares_join p q (between_first u) (quiet_calm u.calm a)

-- Also where the first frees somebody.
pub spares-gone
    : {z : Sizes} {s s₁ s₂ : List ℕ}
    → Spares z s s₁
    → Smaller z (mem_in z s) (mem_in z s₁)
    → Spares z s₁ s₂
    → Alive (mem_in z s₁) (mem_in z s₂)
    → Spares z s s₂
spares-gone p u q a = spares_join p q (between-smaller u) (quiet_calm u.calm a)

pub spares-before : {z : Sizes} {s s₁ s₂ : List ℕ} → Spares z s s₁ → Touched z s₁ s₂ → Spares z s s₂
spares-before p q = spares_join p q.spares (between-last q.same) (quiet-lasts (lasts-same q.same))

-- The length stays.
pub spares-length : {z : Sizes} {s s' : List ℕ} → Spares z s s' → length s' ≡ length s
spares-length {z} {s} t = ap length t.bytes ∙ length-writes fields.layout1 (fields.counts (sizes_in z)) s t.stores

-- A number put before k leaves the bytes from k on.
behind-put : (n : ℕ) (s : List ℕ) (at v k : ℕ) → at + n ≤ k → drop k (put n s at v) ≡ drop k s
unfolding put
behind-put zero s at v k h = refl
behind-put (suc n) s at v k h =
    behind-put n (set s at (v % 256)) (suc at) (v / 256) k (omega arith) ∙ drop-set-lt k s at (v % 256) (omega arith)

-- A store leaves the bytes behind the state, and so do stores.
behind-store
    : {z : Sizes} {s₀ : List ℕ} {n : ℕ} → Holds z s₀ n → (s : List ℕ) (w : Write)
    → In fields.layout1 (fields.counts (sizes_in z)) w.field w.index
    → drop (total_in z) (store fields.layout1 (fields.counts (sizes_in z)) s w.field w.index w.value) ≡ drop (total_in z) s
unfolding write
behind-store {z} h s w i =
    behind-put (field fields.layout1 w.field).width s (place fields.layout1 (fields.counts (sizes_in z)) (field fields.layout1 w.field) w.index) w.value (total_in z)
    (below_total fields.layout1 (fields.counts (sizes_in z)) (field fields.layout1 w.field)
    (inside-at fields.layout1 (ranges (sizes_in z) h.sizes).sound w.field i.listed) w.index i.index)

behind-writes
    : {z : Sizes} {s₀ : List ℕ} {n : ℕ} → Holds z s₀ n → (s : List ℕ) (ws : List Write) → WritableIn z ws → drop (total_in z) (writes_in z s ws) ≡ drop (total_in z) s
behind-writes h s [] ok = refl
behind-writes {z} h s (w ∷ ws) ok =
    behind-writes h (store fields.layout1 (fields.counts (sizes_in z)) s w.field w.index w.value) ws ok.2 ∙ behind-store h s w ok.0

-- Every byte behind the state stays.
pub spares-behind : {z : Sizes} {s s' : List ℕ} {n : ℕ} → Holds z s n → Spares z s s' → drop (total_in z) s' ≡ drop (total_in z) s
spares-behind {z} {s} h t = ap (drop (total_in z)) t.bytes ∙ behind-writes h s t.stores t.writable

-- Every number that is neither cleared nor used after stays.
pub spares-unused
    : {z : Sizes} {s s' : List ℕ} → Spares z s s' → (f i : ℕ) → cleared f ≡ false → used z (mem_in z s') f i ≡ 0 → mem_in z s' f i ≡ mem_in z s f i
unfolding leftover
spares-unused {z} {s} {s'} t f i c b = go (ltb 0 (used z (mem_in z s) f i)) refl
  where
    go : (x : Bool) → ltb 0 (used z (mem_in z s) f i) ≡ x → mem_in z s' f i ≡ mem_in z s f i
    go true e = rw c at (t.ceased.ceased f i (ltb-true 0 (used z (mem_in z s) f i) e) b)
    go false e = t.spared.spared f i (omega (arith, ltb-false 0 (used z (mem_in z s) f i) e)) b

-- And what is free has nothing, where it had nothing before.
pub spares-idle : {z : Sizes} {s s' : List ℕ} → Spares z s s' → Idle (mem_in z s) → Idle (mem_in z s')
spares-idle t h = idle-kept t.spared t.ceased h
