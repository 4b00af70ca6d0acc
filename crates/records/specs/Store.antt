-- A record stored whole, with the links that it had: what that makes of the memory and of the process.
use Rattle.std.specs.Prelude.{if◌then◌else◌, ◌≡◌, refl, Bool, true, false, List, ◌++◌, ℕ, ◌*◌, ◌≤◌, ◌<◌, eqb, length}
use Rattle.std.proofs.Common.{sym, ap, subst, ◌∙◌, arith, eqb-true}
use Rattle.std.proofs.Math.Path.{fun_ext}
use Rattle.machine.specs.Basics.{elem}
use Rattle.layout.specs.Memory.{Memory, set_field, upd, set_same}
use Rattle.layout.specs.Writes.{Write, updates}
use Rattle.machine.specs.Machine.{Machine}
use Rattle.memory.specs.Link.{link}
use Rattle.state.specs.Fields as fields
use Rattle.state.specs.Abs.{machine_of}
use Rattle.state.specs.Places.{sizes_in, mem_in}
use Rattle.state.specs.declared.Sizes.{Sizes}
use Rattle.record.specs.declared.Proc.{Proc}
use Rattle.record.specs.Resumes.{number_of, object_of, condition_of}
use Rattle.record.specs.Stores.{id_stores, tie_stores, count_stores, name_stores, number_stores, resume_stores, record_stores}
use Rattle.holds.specs.Holds.{Keeps, Holds}
use Rattle.holds.specs.Use.{EachInUse}
use Rattle.holds.specs.Did.{Did, same, writes_in, WritableIn, spared-stores, writable_join}
use Rattle.free.specs.Asks.{StateIn}
use Rattle.records.specs.Names.{IsName, names_with, spelled-stores, spelled-writable}
use Rattle.records.specs.Else.{part_of, Else, else_put, else_name}

-- The first three numbers of record i, its links, and the rest.
abbrev id_mem : Memory → ℕ → Proc → Memory
id_mem m i p = upd (upd (upd m fields.pid i p.pid) fields.parent i p.parent) fields.quantum_end i p.quantum_end

abbrev tie_mem : Memory → ℕ → Proc → Memory
tie_mem m i p = upd (upd (upd m fields.next i (link p.next)) fields.older i (link p.older)) fields.younger i (link p.younger)

abbrev count_mem : Memory → ℕ → Proc → Memory
count_mem m i p =
    upd (upd (upd (upd (upd m fields.parent_at i (link p.parent_at)) fields.nchild i p.nchild) fields.exits i (link p.exits)) fields.nexits i p.nexits) fields.state_of i p.state

abbrev call_mem : Memory → ℕ → Proc → Memory
call_mem m i p =
    upd
    (upd (upd m fields.resume_kind i (number_of p.resume)) fields.resume_object i (object_of p.resume))
    fields.resume_condition i (condition_of p.resume)

abbrev name_mem : Memory → ℕ → Proc → Memory
name_mem m i p = set_field m fields.name_byte (names_with (m fields.name_byte) i p.text)

-- The memory with the record p for record i, whose links are as they were.
abbrev pub stored_mem : Memory → ℕ → Proc → Memory
stored_mem m i p = name_mem (call_mem (count_mem (id_mem m i p) i p) i p) i p

-- The record has the links that are there.
pub record TiesKept (m : Memory) (i : ℕ) (p : Proc) : Type 0 where
  pub next : link p.next ≡ m fields.next i
  pub older : link p.older ≡ m fields.older i
  pub younger : link p.younger ≡ m fields.younger i

-- A store of what is there changes nothing.
put-kept : (m : Memory) (f i v : ℕ) → v ≡ m f i → upd m f i v ≡ m
put-kept m f i v e = ap (set_field m f) (fun_ext (λ j. go j (eqb i j) refl)) ∙ set_same m f
  where
    go : (j : ℕ) (b : Bool) → eqb i j ≡ b → (if b then v else m f j) ≡ m f j
    go j true q = e ∙ ap (m f) (eqb-true i j q)
    go j false q = refl

ties_kept : (m : Memory) (i : ℕ) (p : Proc) → TiesKept m i p → tie_mem (id_mem m i p) i p ≡ id_mem m i p
ties_kept m i p t =
    let n : Memory = id_mem m i p in
    ap (λ (x : Memory). upd (upd x fields.older i (link p.older)) fields.younger i (link p.younger)) (put-kept n fields.next i (link p.next) t.next)
    ∙ ap (λ (x : Memory). upd x fields.younger i (link p.younger)) (put-kept n fields.older i (link p.older) t.older)
    ∙ put-kept n fields.younger i (link p.younger) t.younger

pub stored_mem_lem : (m : Memory) (i : ℕ) (p : Proc) → TiesKept m i p → updates m (record_stores i p) ≡ stored_mem m i p
stored_mem_lem m i p t =
    spelled-stores (call_mem (count_mem (tie_mem (id_mem m i p) i p) i p) i p) (28 * i) p.text
    ∙ ap (λ (x : Memory). name_mem (call_mem (count_mem x i p) i p) i p) (ties_kept m i p t)

-- Each number is in range.
pub record Fits (z : Sizes) (p : Proc) : Type 0 where
  pub pid : p.pid ≤ 18446744073709551615
  pub parent : p.parent ≤ 18446744073709551615
  pub quantum_end : p.quantum_end ≤ 18446744073709551615
  pub next : link p.next ≤ z.processes
  pub older : link p.older ≤ z.processes
  pub younger : link p.younger ≤ z.processes
  pub parent_at : link p.parent_at ≤ z.processes
  pub nchild : p.nchild ≤ 65535
  pub exits : link p.exits ≤ z.cells
  pub nexits : p.nexits ≤ 128
  pub state : p.state ≤ 3
  pub call : number_of p.resume ≤ 4
  pub object : object_of p.resume ≤ 65535
  pub condition : condition_of p.resume ≤ 255
  pub text : IsName p.text

pub stored-writable : (z : Sizes) (i : ℕ) (p : Proc) → i < z.processes → Fits z p → WritableIn z (record_stores i p)
stored-writable z i p l f =
    writable_join z (number_stores i p ++ resume_stores i p.resume) (name_stores (28 * i) p.text) numbers
    (spelled-writable z (28 * i) p.text (omega (arith, f.text.length)) f.text.bytes)
  where
    ids : WritableIn z (id_stores i p)
    ids = omega arith

    ties : WritableIn z (tie_stores i p)
    ties = omega arith

    counts : WritableIn z (count_stores i p)
    counts = omega arith

    calls : WritableIn z (resume_stores i p.resume)
    calls = omega arith

    numbers : WritableIn z (number_stores i p ++ resume_stores i p.resume)
    numbers =
        writable_join z (id_stores i p) (tie_stores i p ++ count_stores i p ++ resume_stores i p.resume) ids
        (writable_join z (tie_stores i p) (count_stores i p ++ resume_stores i p.resume) ties
        (writable_join z (count_stores i p) (resume_stores i p.resume) counts calls))

-- The other records are as they were.
pub stored_else : {m m' : Memory} {i : ℕ} (p : Proc) → Else m m' i → length p.text ≡ 28 → Else m (stored_mem m' i p) i
unfolding part_of elem
stored_else p e w =
    let a = else_put (else_put (else_put e fields.pid p.pid refl) fields.parent p.parent refl) fields.quantum_end p.quantum_end refl in
    let b = else_put (else_put (else_put a fields.parent_at (link p.parent_at) refl) fields.nchild p.nchild refl) fields.exits (link p.exits) refl in
    let c = else_put (else_put b fields.nexits p.nexits refl) fields.state_of p.state refl in
    let d = else_put (else_put c fields.resume_kind (number_of p.resume) refl) fields.resume_object (object_of p.resume) refl in
    else_name (else_put d fields.resume_condition (condition_of p.resume) refl) p.text w

-- Bytes that are in range, and whose memory keeps all.
pub did-stored
    : {z : Sizes} {s s' : List ℕ} {n : ℕ} {ws : List Write} {k : Memory} {a : Machine}
    → Holds z s n
    → StateIn z s'
    → s' ≡ writes_in z s ws
    → WritableIn z ws
    → mem_in z s' ≡ k
    → ((n : ℕ) → Keeps (sizes_in z) (mem_in z s) n → Keeps (sizes_in z) k n)
    → machine_of (sizes_in z) k ≡ a
    → EachInUse z (mem_in z s) k ws
    → Did z s s' same same ws k a
did-stored {z} h t b ok e keeps m u =
    record {
      holds = λ n g. record { sizes = g.sizes; state = t; keeps = subst (λ (y : Memory). Keeps (sizes_in z) y n) (sym e) (keeps n g.keeps) };
      bytes = b;
      writable = ok;
      memory = e;
      machine = ap (machine_of (sizes_in z)) e ∙ m;
      spared = spared-stores h b ok e u;
    }
