-- Every step that is not refused is a change of `View.antt`: the steps that make, wake, run or change nothing that `Demand3` looks at.
use Rattle.std.specs.Prelude.{◌≡◌, refl, Bool, true, false, not, List, [], ◌∷◌, ℕ, suc, ◌<◌, eqb, length, replicate}
use Rattle.std.proofs.Common.{sym, ap, ◌∙◌, subst, arith, ne_eqb, length-set}
use Rattle.std.proofs.Math.Option.{Option, none, some, get_or}
use Rattle.machine.specs.Basics.{is_none, elem, count, highest_below}
use Rattle.machine.specs.Machine.{Machine, Process, nothing, free, process, pid_of, living, open_machine}
use Rattle.machine.specs.Update.{with_process, with_nchild, open_update}
use Rattle.machine.specs.Step.{Step, Body, start, rfork, open_step}
use Rattle.machine.specs.Outcome.{Answer, Outcome, answer, open_outcome}
use Rattle.machine.specs.Flags.{has, RFPROC, RFNOWAIT}
use Rattle.machine.specs.Places.{open_places}
use Rattle.machine.specs.Exits.{free_record}
use Rattle.machine.specs.Table.{one_of, refusal, open_table}
use Rattle.machine.specs.Perform.{current, made, start_of, rfork_of}
use Rattle.kept.specs.Allowed.{there, allowed}
use Rattle.history.proofs.Sound.{Sound}
use Rattle.history.specs.History.{Says, silent, says_of, open_history}
use Rattle.history.proofs.Lists.{get_or-set, get_or-set_kept}
use Rattle.history.proofs.View.{View, view, made_v, nobody, Change, wakes, makes}
use Rattle.history.proofs.Facts.{lives_of, none_of, places-at_most, up-count, free_record_lem}
use Rattle.history.proofs.Waking.{view_ext, view-kept}

-- What a step's outcome is, seen from the machine before.
abbrev pub Changes : Machine → Step → Outcome → Type 0
Changes m s o = Change (view m) (says_of (some s) o.reply) o.readied o.dispatched o.fired (view o.after)

pub into : {v w x : View} {says : Says} {rs ds : List ℕ} {f : ℕ} → x ≡ w → Change v says rs ds f w → Change v says rs ds f x
into {v} {w} {x} {says} {rs} {ds} {f} e c = subst (λ (u : View). Change v says rs ds f u) (sym e) c

-- nothing that `Demand3` looks at has changed
pub unseen : {v w : View} → w ≡ v → Change v silent [] [] 0 w
unseen e = into e (wakes nobody)

-- who runs
pub up-current : (m : Machine) → is_none m.up ≡ false → m.up ≡ some (current m)
unfolding current
up-current m h = go m.up h
  where
    go : (o : Option ℕ) → is_none o ≡ false → o ≡ some (get_or o 0)
    go none e = absurd (let z : ◌≡◌ {A = ℕ} 0 1 = cc in omega arith)
    go (some i) e = refl

-- who runs lives, and is not in the run queue
pub up-lives : (m : Machine) → Sound m → (i : ℕ) → m.up ≡ some i → 0 < pid_of m i
up-lives m g i e = lives_of m i g.in_one_place (omega (arith, up-count m i e))

pub up-not-queued : (m : Machine) → Sound m → (i : ℕ) → m.up ≡ some i → count i m.run ≡ 0
up-not-queued m g i e = omega (arith, up-count m i e, places-at_most m i g.in_one_place)

-- a process made
made-view : (text : List ℕ) (parent : ℕ) (m : Machine) (i : ℕ) → free_record m ≡ some i → view (made text parent m) ≡ made_v i m.next_pid (view m)
unfolding open_machine open_update open_places made
made-view text parent m i e =
    let j : ℕ = get_or (free_record m) 0 in
    let same : j ≡ i = ap (λ (o : Option ℕ). get_or o 0) e in
    let there : j < length m.processes = omega (arith, (free_record_lem m i e).0) in
    let p : Process = record { pid = m.next_pid; name = text; parent = parent; nchild = 0; exits = []; quantum_end = 0; resume = nothing; on_waitr = false } in
    subst (λ (k : ℕ). view (made text parent m) ≡ made_v k m.next_pid (view m)) same
    (view_ext refl refl (λ r. refl) (λ q. refl)
    (λ k. get_or-set (λ (x : Process). x.on_waitr) m.processes j p free k there)
    (λ k. get_or-set (λ (x : Process). x.pid) m.processes j p free k there)
    (λ k. get_or-set (λ (x : Process). x.resume) m.processes j p free k there)
    (λ k. get_or-set (λ (x : Process). x.quantum_end) m.processes j p free k there)
    refl refl refl refl refl)

-- the counting of a child changes no free record
free-kept : (i : ℕ) (p : Process) (m : Machine) → p.pid ≡ (process m i).pid → free_record (with_process i p m) ≡ free_record m
unfolding open_machine open_update free_record
free-kept i p m e =
    ap (λ (n : ℕ). highest_below n (λ k. not (living (process (with_process i p m) k)))) (length-set m.processes i p)
    ∙ ap (highest_below (length m.processes))
    (λ t k. not (not (eqb (get_or-set_kept (λ (x : Process). x.pid) m.processes i p free k e t) 0)))

-- `start`, and `rfork` with RFPROC: n is a machine that `Demand3` cannot tell from m
made_changes : (m n : Machine) → Sound m → (says : Says) (text : List ℕ) (parent : ℕ)
    → view n ≡ view m
    → n.next_pid ≡ m.next_pid
    → free_record n ≡ free_record m
    → is_none (free_record m) ≡ false
    → says ≡ Says.made m.next_pid
    → Change (view m) says (m.next_pid ∷ []) [] 0 (view (made text parent n))
made_changes m n g says text parent same next-same free-same room e =
    let f : (i : ℕ) × (free_record m ≡ some i) = there (free_record m) room in
    let i : ℕ = f.0 in
    let z : pid_of m i ≡ 0 = (free_record_lem m i f.1).1 in
    let made-is : view (made text parent n) ≡ made_v i m.next_pid (view m) =
    made-view text parent n i (free-same ∙ f.1)
    ∙ ap (λ (k : ℕ). made_v i k (view n)) next-same
    ∙ ap (made_v i m.next_pid) same in
    rw e
    (into made-is
    (makes i m.next_pid refl (omega (arith, g.next_pid)) z g.below (omega (arith, none_of m i g.in_one_place z))))

says-made : (s : Step) (m : Machine) → Sound m → one_of ("start" ∷ "rfork" ∷ []) s.body ≡ true → says_of (some s) (answer (Answer.pid m.next_pid)) ≡ Says.made m.next_pid
unfolding open_history
says-made s m g e = rw (e, ne_eqb m.next_pid 0 (λ (z : m.next_pid ≡ 0). omega (arith, g.next_pid)))

-- A step with its mark.
abbrev pub step : Bool → Body → Step
step k b = record { marked = k; body = b }

start-room : (m : Machine) (k : Bool) (M : ℕ) → refusal m (step k (start M)) ≡ none → is_none (free_record m) ≡ false
unfolding open_table open_step elem
start-room m k M h = allowed m (step k (start M)) h 12 refl

pub start_changes : (m : Machine) → Sound m → (k : Bool) (M : ℕ) → refusal m (step k (start M)) ≡ none → Changes m (step k (start M)) (start_of m)
unfolding start_of open_outcome open_history
start_changes m g k M h =
    made_changes m m g (says_of (some (step k (start M))) (answer (Answer.pid m.next_pid))) (replicate 28 0) 0 refl refl refl (start-room m k M h) (says-made (step k (start M)) m g refl)

rfork-room : (m : Machine) (k : Bool) (F M : ℕ) → refusal m (step k (rfork F M)) ≡ none → has F RFPROC ≡ true → is_none (free_record m) ≡ false
unfolding open_table open_step elem
rfork-room m k F M h e = rw e at (allowed m (step k (rfork F M)) h 12 refl)

pub rfork_changes : (m : Machine) → Sound m → (k : Bool) (F M : ℕ) → refusal m (step k (rfork F M)) ≡ none → Changes m (step k (rfork F M)) (rfork_of F m)
unfolding rfork_of open_outcome open_history open_update
rfork_changes m g k F M h = go (has F RFPROC) refl (has F RFNOWAIT) refl
  where
    p : Process
    p = with_nchild (suc (process m (current m)).nchild) (process m (current m))

    says : Says
    says = says_of (some (step k (rfork F M))) (answer (Answer.pid m.next_pid))

    go : (a : Bool) → has F RFPROC ≡ a → (b : Bool) → has F RFNOWAIT ≡ b → Changes m (step k (rfork F M)) (rfork_of F m)
    go false e b d = rw (e, rfork_of) (wakes nobody)
    go true e true d =
        rw (e, d, rfork_of)
        (made_changes m m g says (process m (current m)).name 0 refl refl refl (rfork-room m k F M h e) (says-made (step k (rfork F M)) m g refl))
    go true e false d =
        rw (e, d, rfork_of)
        (made_changes m (with_process (current m) p m) g says (process m (current m)).name (process m (current m)).pid
        (view-kept (current m) p m refl refl refl refl) refl (free-kept (current m) p m refl) (rfork-room m k F M h e) (says-made (step k (rfork F M)) m g refl))
