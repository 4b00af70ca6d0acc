-- `exit`: the process goes, and its parent is told.
use Rattle.std.specs.Prelude.{◌≡◌, refl, Bool, true, false, not, ◌&&◌, List, [], ◌∷◌, map, ℕ, ◌+◌, ◌-◌, ◌^◌, ◌≤◌, ◌<◌, eqb, length, set}
use Rattle.std.proofs.Common.{sym, ap, ◌∙◌, inr, arith, eqb-true, ltb-true, get_or-set_same, get_or-set_other}
use Rattle.std.proofs.Math.Option.{Option, none, some}
use Rattle.std.proofs.lemmas.Bool.{eqb-false, not-true}
use Rattle.machine.specs.Basics.{is_none, elem, count, concat_map, first_that}
use Rattle.machine.specs.Machine.{Exit, Machine, Process, free, process}
use Rattle.machine.specs.Update.{with_up, with_process, with_nchild, with_exits, with_on_waitr}
use Rattle.machine.specs.Step.{exit, open_step}
use Rattle.machine.specs.Outcome.{open_outcome}
use Rattle.machine.specs.Message.{message}
use Rattle.machine.specs.Exits.{found, cells_used, free_cell, without, has_room, message_due, wake_waitr, tell_parent}
use Rattle.machine.specs.Table.{refusal, running, open_table}
use Rattle.machine.specs.Perform.{perform, exit_of}
use Rattle.machine.specs.Good.{Each, Byte, ExitInRange, ProcessInRange, running_in}
use Rattle.lists.specs.Lists.{bit, first_some, first-none, highest-some, elem-none, count_self, count-other}
use Rattle.kept.specs.Fine.{at, cells_in, waiters_of, timers_of, Fine}
use Rattle.kept.specs.Fresh.{free-fine}
use Rattle.kept.specs.SpotsLaws.{pid-low, pid-lives, pid_dead, spots-process}
use Rattle.kept.specs.KinLaws.{records-set, kin-die}
use Rattle.kept.specs.ClockLaws.{own-process}
use Rattle.kept.specs.FineLaws.{fine-body, fine-owed}
use Rattle.kept.specs.Moves.{count_none, count-some, up-lives, leave-up, leave-waitr, limbo-lives, limbo-only, enter_run}
use Rattle.kept.specs.Allowed.{and_off, allowed, there, step, in_range_lem, runner}
use Rattle.kept.specs.Simple.{current-is, record_range, all_bytes_lem}
use Rattle.kept.specs.Sleeping.{runner-own}
use Rattle.kept.specs.Messages.{message_length_lem}
use Rattle.kept.proofs.Messages.{message_bytes_lem}

-- Who is in limbo goes: its record and its cells are free, and its parent is owed.
die : {i : ℕ} (m : Machine) → Fine (some i) [] m → (1 ≤ count (m.sizes.timers + i) (timers_of m.queued) → ⊥) → Fine none ((at m.processes i).parent ∷ []) (with_process i free m)
unfolding with_process free count
die {i} m f own =
    let ps : List Process = m.processes in
    let a : 0 < (at ps i).pid = limbo-lives m f in
    let l : i < length ps = pid-low ps i a in
    let s : count i (running_in m.up) + count i m.run + count i (concat_map running_in m.sleepers) + bit (at ps i).on_waitr + count i (concat_map waiters_of m.locks) ≡ 0 = limbo-only m f in
    record {
      sizes = f.sizes;
      next = f.next;
      conditions = f.conditions;
      records = records-set f.records i free l (free-fine m.sizes) (λ e. refl) (λ c. omega (arith, f.records.cells c)) (omega arith);
      kin = kin-die f.kin i free l a refl (λ b. refl);
      clockwork = f.clockwork;
      tsleeping = own-process m.sizes ps m.queued i free f.tsleeping l own;
      spots = spots-process f.spots none i free l
          (λ k e. sym (count-some k i ∙ count-other k i e ∙ sym (count_none k)))
          (omega (arith, count-some i i, count_self i, count_none i, ap bit (pid-lives (at ps i) a), ap bit (pid_dead free refl)))
          (inr (omega arith))
          (λ e. let x : ◌≡◌ {A = ℕ} 0 1 = cc in absurd (omega arith));
    }

-- The runner goes: no timer of its own is queued.
gone : (m : Machine) → Fine none [] m → (i : ℕ) → m.up ≡ some i → Fine none ((process m i).parent ∷ []) (without i m)
unfolding without with_up with_process process
gone m f i e = die (with_up none m) (leave-up m f i e) (runner-own m f i e)

-- Who is found has the pid, which is not 0; where nobody is, nobody has it.
found_some : (p : ℕ) (m : Machine) (j : ℕ) → found p m ≡ some j → (0 < p) × ((at m.processes j).pid ≡ p)
unfolding found
found_some p m j e = go (eqb p 0) refl
  where
    test : Process → Bool
    test x = eqb x.pid p

    go : (b : Bool) → eqb p 0 ≡ b → (0 < p) × ((at m.processes j).pid ≡ p)
    go true h = absurd (let y : none ≡ some j = rw (h, found) at e in let x : ◌≡◌ {A = ℕ} 0 1 = cc in omega arith)
    go false h =
        let y : first_that test m.processes ≡ some j = rw (h, found) at e in
        (omega (arith, eqb-false p 0 h), eqb-true (at m.processes j).pid p (first_some test free m.processes j y).1)

-- Where nobody is found, nobody living has the pid.
found_none : (p : ℕ) (m : Machine) → found p m ≡ none → (k : ℕ) → 0 < (at m.processes k).pid → (at m.processes k).pid ≡ p → ⊥
unfolding found
found_none p m e k l q = go (eqb p 0) refl
  where
    test : Process → Bool
    test x = eqb x.pid p

    go : (b : Bool) → eqb p 0 ≡ b → ⊥
    go true h = omega (arith, eqb-true p 0 h)
    go false h =
        let y : first_that test m.processes ≡ none = rw (h, found) at e in
        eqb-false (at m.processes k).pid p (first-none test free m.processes y k (pid-low m.processes k l)) q

-- The parent that is found once its child has gone was found before.
found_before : (m : Machine) → Fine none [] m → (i p j : ℕ) → 0 < (at m.processes i).pid → found p (without i m) ≡ some j → (found p m ≡ some j) × (process (without i m) j ≡ process m j)
unfolding without with_up with_process process free
found_before m f i p j a e = go (eqb j i) refl (found p m) refl
  where
    ps : List Process
    ps = m.processes

    h : (0 < p) × ((at (set ps i free) j).pid ≡ p)
    h = found_some p (without i m) j e

    go : (b : Bool) → eqb j i ≡ b → (o : Option ℕ) → found p m ≡ o → (found p m ≡ some j) × (at (set ps i free) j ≡ at ps j)
    go true d o g = absurd (omega (arith, h, ap {B = ℕ} (λ x. x.pid) (get_or-set_same ps i free free (pid-low ps i a)), ap {B = ℕ} (λ x. (at (set ps i free) x).pid) (eqb-true j i d), dead))
      where
        dead : free.pid ≡ 0
        dead = refl
    go false d none g =
        let s : at (set ps i free) j ≡ at ps j = get_or-set_other ps i j free free (eqb-false j i d) in
        absurd (found_none p m g j (omega (arith, h, ap {B = ℕ} (λ x. x.pid) s)) (omega (arith, h, ap {B = ℕ} (λ x. x.pid) s)))
    go false d (some n) g =
        let s : at (set ps i free) j ≡ at ps j = get_or-set_other ps i j free free (eqb-false j i d) in
        let q : (0 < p) × ((at ps n).pid ≡ p) = found_some p m n g in
        let t : n ≡ j = f.kin.apart n j (omega arith) (omega (arith, h, q, ap {B = ℕ} (λ x. x.pid) s)) in
        (g ∙ ap {B = Option ℕ} some t, s)

-- A free cell is one, and nobody's.
free_cell_lem : (m : Machine) (c : ℕ) → free_cell m ≡ some c → (c < m.sizes.cells) × (count c (concat_map cells_in m.processes) ≡ 0)
unfolding free_cell cells_used
free_cell_lem m c e =
    let h : (c < m.sizes.cells) × (not (elem c (cells_used m)) ≡ true) = highest-some m.sizes.cells (λ c. not (elem c (cells_used m))) c e in
    (h.0, elem-none c (cells_used m) (not-true (elem c (cells_used m)) h.1))

-- waitr is woken.
fine-waitr : (m : Machine) → Fine none [] m → (j : ℕ) → Fine none [] (wake_waitr j m).machine
unfolding wake_waitr process
fine-waitr m f j = go (process m j).on_waitr refl
  where
    go : (b : Bool) → (process m j).on_waitr ≡ b → Fine none [] (wake_waitr j m).machine
    go true e = rw (e, wake_waitr) (enter_run (with_process j (with_on_waitr false (process m j)) m) (leave-waitr m f j e))
    go false e = rw (e, wake_waitr) f

-- The parent j counts one child less, which was owed to it, and holds these exits.
told : {q : ℕ} (m : Machine) → Fine none (q ∷ []) m → (j : ℕ) (es : List Exit)
    → 0 < q
    → (at m.processes j).pid ≡ q
    → length es ≤ 128
    → Each (ExitInRange m.sizes) es
    → ((c : ℕ) → count c (concat_map cells_in m.processes) + count c (map (λ (e : Exit). e.cell) es) ≤ 1 + count c (cells_in (at m.processes j)))
    → Fine none [] (with_process j (with_exits es (with_nchild ((process m j).nchild - 1) (process m j))) m)
unfolding with_exits with_nchild process count
told {q} m f j es z p l h c =
    let a : 0 < (at m.processes j).pid = omega arith in
    let r : ProcessInRange m.sizes (at m.processes j) = record_range m f j a in
    let o : count (at m.processes j).pid (q ∷ []) ≡ 1 = ap {B = ℕ} (λ x. count x (q ∷ [])) p ∙ count_self q in
    fine-body m f [] j (with_exits es (with_nchild ((process m j).nchild - 1) (process m j))) a refl refl refl refl
    (record { name = r.name; bytes = r.bytes; exits = l; each = h; resume = r.resume })
    (f.records.quantum j) c
    (omega (arith, f.kin.nchild j a))
    (λ k d b. sym (count-other (at m.processes k).pid q (λ e. d (f.kin.apart k j b (e ∙ sym p)))))

-- The parent of one who has gone is told, where a cell is free if its parent has room.
tell : (m : Machine) (child : Process) (status : List ℕ) → Fine none (child.parent ∷ []) m
    → child.pid < 2 ^ 64
    → Each Byte child.name
    → Each Byte status
    → ((j : ℕ) → found child.parent m ≡ some j → has_room (process m j) ≡ true → (c : ℕ) × (free_cell m ≡ some c))
    → Fine none [] (tell_parent child status m).machine
unfolding tell_parent has_room with_nchild with_exits process count
tell m child status f p n s cell = go (found child.parent m) refl
  where
    go : (o : Option ℕ) → found child.parent m ≡ o → Fine none [] (tell_parent child status m).machine
    go none e = rw (e, tell_parent) (fine-owed m f [] (λ k l. sym (count-other (at m.processes k).pid child.parent (found_none child.parent m e k l))))
    go (some j) e = rooms (has_room (process m j)) refl
      where
        h : (0 < child.parent) × ((at m.processes j).pid ≡ child.parent)
        h = found_some child.parent m j e

        r : ProcessInRange m.sizes (at m.processes j)
        r = record_range m f j (omega (arith, h))

        -- the free cell is counted nowhere, and any other as before
        spare : (c : ℕ) → free_cell m ≡ some c → (k : ℕ) (b : Bool) → eqb k c ≡ b → count k (concat_map cells_in m.processes) + bit b ≤ 1
        spare c g k true q = omega (arith, (free_cell_lem m c g).1, ap {B = ℕ} (λ x. count x (concat_map cells_in m.processes)) (eqb-true k c q))
        spare c g k false q = omega (arith, f.records.cells k)

        rooms : (b : Bool) → has_room (process m j) ≡ b → Fine none [] (tell_parent child status m).machine
        rooms true b =
            let g : (c : ℕ) × (free_cell m ≡ some c) = cell j e b in
            let x : Exit = record { cell = g.0; pid = child.pid; message = message child.name child.pid status } in
            let es : List Exit = x ∷ (process m j).exits in
            rw (e, tell_parent, b, g.1)
            (fine-waitr (with_process j (with_exits es (with_nchild ((process m j).nchild - 1) (process m j))) m)
            (told m f j es h.0 h.1 (ltb-true (length (process m j).exits) 128 b)
            (record { cell = (free_cell_lem m g.0 g.1).0; pid = p; length = message_length_lem child.name child.pid status; bytes = message_bytes_lem child.name child.pid status n s }, r.each)
            (λ k. omega (arith, spare g.0 g.1 k (eqb k g.0) refl)))
            j)
        rooms false b = rw (e, tell_parent, b) (told m f j (process m j).exits h.0 h.1 r.exits r.each (λ c. omega (arith, f.records.cells c)))

-- `exit`: the cell that the message takes is free, for 13 was tested and the parent found after is the one found before.
pub kept-exit : (m : Machine) (k : Bool) (bs : List ℕ) → refusal m (step k (exit bs)) ≡ none → Fine none [] m → Fine none [] (perform (exit bs) m).after
unfolding perform exit_of process message_due open_outcome open_table open_step elem
kept-exit m k bs e f = rw (current-is m u.0 u.1) (tell (without i m) (process m i) bs (gone m f i u.1) small (record_range m f i a).bytes (all_bytes_lem bs (in_range_lem m k (exit bs) e refl)) cell)
  where
    u : (i : ℕ) × (m.up ≡ some i)
    u = runner m k (exit bs) e refl refl

    i : ℕ
    i = u.0

    a : 0 < (at m.processes i).pid
    a = up-lives m f i u.1

    small : (at m.processes i).pid < 2 ^ 64
    small = omega (arith, f.kin.below i, f.next.1)

    due : message_due i m && is_none (free_cell (without i m)) ≡ false
    due = rw (u.1, running) at (allowed m (step k (exit bs)) e 13 refl)

    cell : (j : ℕ) → found (process m i).parent (without i m) ≡ some j → has_room (process (without i m) j) ≡ true → (c : ℕ) × (free_cell (without i m) ≡ some c)
    cell j g h =
        let b : (found (process m i).parent m ≡ some j) × (process (without i m) j ≡ process m j) = found_before m f i (process m i).parent j a g in
        there (free_cell (without i m)) (and_off (message_due i m) (is_none (free_cell (without i m))) due (rw (b.0, message_due) (rw b.1 at h)))
