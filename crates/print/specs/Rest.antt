-- What is put of the run queue behind a process: a comma and a pid for each.
use Rattle.std.specs.Prelude.{◌≡◌, refl, List, [], ◌∷◌, ◌++◌, ℕ, suc, ◌+◌, ◌*◌, ◌≤◌, ◌<◌, length}
use Rattle.std.proofs.Common.{sym, ap, subst, ◌∙◌, append_assoc, append-nil, arith}
use Rattle.machine.specs.Basics.{ascii}
use Rattle.machine.specs.Machine.{Machine, pid_of}
use Rattle.machine.specs.Message.{decimal}
use Rattle.machine.specs.Print.{comma_before}
use Rattle.chain.specs.Links.{walk, Chain, chain-walk, chain-tail, chain_first}
use Rattle.state.specs.Fields as fields
use Rattle.state.specs.Places.{mem_in}
use Rattle.state.specs.declared.Sizes.{Sizes}
use Rattle.exact.specs.Parts.{walk_none}
use Rattle.holds.specs.Holds.{Holds}
use Rattle.holds.specs.Did.{machine_in}
use Rattle.print.specs.Put.{Room, Put, put-none, put_join, put_as}
use Rattle.print.specs.Pids.{PidAsks, PidPut}

-- The list that a link leads to; that behind process i; and that it is a chain.
abbrev pub from : Sizes → List ℕ → ℕ → List ℕ
from z s l = walk z.processes (mem_in z s fields.next) l

abbrev pub behind : Sizes → List ℕ → ℕ → List ℕ
behind z s i = from z s (mem_in z s fields.next i)

abbrev pub Leads : Sizes → List ℕ → ℕ → Type 0
Leads z s l = Chain z.processes (mem_in z s fields.next) l (from z s l)

-- A link to a number leads to it and those behind it.
pub record First (z : Sizes) (s : List ℕ) (i : ℕ) : Type 0 where
  pub split : from z s (suc i) ≡ i ∷ behind z s i
  pub leads : Leads z s (mem_in z s fields.next i)

pub first : (z : Sizes) (s : List ℕ) (i : ℕ) → Leads z s (suc i) → First z s i
first z s i c = go (from z s (suc i)) refl c
  where
    go : (xs : List ℕ) → from z s (suc i) ≡ xs → Chain z.processes (mem_in z s fields.next) (suc i) xs → First z s i
    go [] e k = let q : suc i ≡ 0 = k.links in absurd (omega (arith, q))
    go (j ∷ js) e k =
        let d : j ≡ i = omega (arith, k.links.0) in
        let t : Chain z.processes (mem_in z s fields.next) (mem_in z s fields.next i) js =
        subst (λ (i : ℕ). Chain z.processes (mem_in z s fields.next) (mem_in z s fields.next i) js) d (chain-tail k)
        in
        let w : behind z s i ≡ js = chain-walk t in
        record { split = e ∙ rw (d, w); leads = rw w t }

-- There is a process with this number, links lead on from it, and there is room for what they lead to; a comma and a pid
-- for each are put.
pub record RestAsks (z : Sizes) (s : List ℕ) (i : ℕ) (out : List ℕ) (at : ℕ) : Type 0 where
  pub holds : Holds z s 0
  pub index : i < z.processes
  pub leads : Leads z s (mem_in z s fields.next i)
  pub room : Room (21 * length (behind z s i)) out at

pub record RestPut (z : Sizes) (s : List ℕ) (i : ℕ) (out : List ℕ) (at : ℕ) (out' : List ℕ) (r : ℕ) : Type 0 where
  pub put : Put (21 * length (behind z s i)) out at (comma_before (behind z s i) (machine_in z s)) out' r

-- The queue is being put: so many are shown, and the link l leads to those that are left.
pub record Walking (z : Sizes) (s : List ℕ) (i : ℕ) (out : List ℕ) (at : ℕ) (out' : List ℕ) (r l : ℕ) : Type 0 where
  pub many : ℕ
  pub shown : List ℕ
  pub put : Put (21 * many) out at shown out' r
  pub leads : Leads z s l
  pub range : l ≤ z.processes
  pub count : many + length (from z s l) ≡ length (behind z s i)
  pub spells : shown ++ comma_before (from z s l) (machine_in z s) ≡ comma_before (behind z s i) (machine_in z s)

comma_one : (i : ℕ) (is : List ℕ) (m : Machine) → comma_before (i ∷ is) m ≡ 44 ∷ [] ++ decimal (pid_of m i) ++ comma_before is m
unfolding comma_before ascii
comma_one i is m = refl

comma_none : (m : Machine) → comma_before [] m ≡ []
unfolding comma_before
comma_none m = refl

module _ {z : Sizes} {s : List ℕ} {i : ℕ} {out : List ℕ} {at : ℕ} (a : RestAsks z s i out at) where
  pub rest-start : {l : ℕ} → l ≡ mem_in z s fields.next i → Walking z s i out at out at l
  rest-start {l} e =
      rw e
      (record {
        many = 0;
        shown = [];
        put = put-none (omega (arith, a.room));
        leads = a.leads;
        range = chain_first a.leads;
        count = omega arith;
        spells = refl;
      })

  pub rest_end : {out₁ : List ℕ} {r₁ : ℕ} → Walking z s i out at out₁ r₁ 0 → RestPut z s i out at out₁ r₁
  rest_end w =
      let n : from z s 0 ≡ [] = walk_none z.processes (mem_in z s fields.next) 0 refl in
      let q : comma_before (from z s 0) (machine_in z s) ≡ [] = rw n (comma_none (machine_in z s)) in
      record {
        put =
            put_as w.put (sym (append-nil w.shown) ∙ ap (λ (x : List ℕ). w.shown ++ x) (sym q) ∙ w.spells)
            (omega (arith, w.count));
      }

  -- One more, j.
  module _ {out₁ : List ℕ} {r₁ j : ℕ} (w : Walking z s i out at out₁ r₁ (suc j)) where
    long : length (from z s (suc j)) ≡ suc (length (behind z s j))
    long = ap length (first z s j w.leads).split

    pub rest_comma : Room 1 out₁ r₁
    rest_comma = omega (arith, a.room, w.put.ends, w.put.few, w.put.long, w.count, long)

    pub rest_index : j < z.processes
    rest_index = omega (arith, w.range)

    module _ {out₂ : List ℕ} {r₂ : ℕ} (p : Put 1 out₁ r₁ (44 ∷ []) out₂ r₂) where
      pub rest-pid : PidAsks z s j out₂ r₂
      rest-pid =
          record {
            holds = a.holds;
            index = rest_index;
            room = omega (arith, a.room, w.put.ends, w.put.few, w.put.long, w.count, long, p.ends, p.long);
          }

      module _ {out₃ : List ℕ} {r₃ l' : ℕ} (q : PidPut z s j out₂ r₂ out₃ r₃) (e : l' ≡ mem_in z s fields.next j) where
        pub rest_more : Walking z s i out at out₃ r₃ l'
        rest_more =
            let m : Machine = machine_in z s in
            let f : First z s j = first z s j w.leads in
            let pid : List ℕ = decimal (pid_of m j) in
            rw e
            (record {
              many = w.many + 1;
              shown = w.shown ++ 44 ∷ [] ++ pid;
              put = put_as (put_join (put_join w.put p) q.put) refl (omega arith);
              leads = f.leads;
              range = chain_first f.leads;
              count = omega (arith, w.count, long);
              spells =
                  append_assoc (w.shown ++ 44 ∷ []) pid (comma_before (behind z s j) m)
                  ∙ append_assoc w.shown (44 ∷ []) (pid ++ comma_before (behind z s j) m)
                  ∙ ap (λ (x : List ℕ). w.shown ++ x)
                  (sym (append_assoc (44 ∷ []) pid (comma_before (behind z s j) m)) ∙ sym (comma_one j (behind z s j) m) ∙ ap (λ (xs : List ℕ). comma_before xs m) (sym f.split))
                  ∙ w.spells;
            })

        pub rest-less : length (from z s l') < length (from z s (suc j))
        rest-less = rw e (omega (arith, long))
