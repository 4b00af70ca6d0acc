-- The bound is met behind one other: a stay with all that the tick bound asks, in which 20 = 10 × (1 + 1) ticks pass.
use Rattle.std.specs.Prelude.{◌≡◌, refl, List, [], ◌∷◌, ◌++◌, map, ◌+◌, ◌*◌, ◌≤◌}
use Rattle.std.proofs.Common.{arith}
use Rattle.machine.specs.Machine.{Machine, fresh}
use Rattle.machine.specs.Listing.{open_definitions}
use Rattle.history.specs.History.{Event, gives, event_of, history_from, machine_after, fired_in, open_history}
use Rattle.history.specs.Demand3.{Stay, Attended}
use Rattle.history.proofs.Stays.{small, before, entering, Does, ticks, gives_way, is_next, does, accepted, passes, all_pass, attended}

-- Ten ticks of 1, who yields, then ten of 2.
abbrev pub doing : List Does
doing =
    ticks 1 ∷ ticks 2 ∷ ticks 3 ∷ ticks 4 ∷ ticks 5 ∷ ticks 6 ∷ ticks 7 ∷ ticks 8 ∷ ticks 9 ∷ ticks 10 ∷ gives_way ∷ is_next
    ∷ ticks 11 ∷ ticks 12 ∷ ticks 13 ∷ ticks 14 ∷ ticks 15 ∷ ticks 16 ∷ ticks 17 ∷ ticks 18 ∷ ticks 19 ∷ ticks 20 ∷ []

-- The machine and the history when 3 enters, and the stay.
abbrev pub machine : Machine
machine = machine_after (fresh small) before

abbrev pub history : List Event
history = history_from (fresh small) before

abbrev pub event : Event
event = event_of entering (gives machine entering)

abbrev pub after : Machine
after = (gives machine entering).after

abbrev pub stay : List Event
stay = history_from after (map does doing)

pub tight-stay : Stay history event stay 3 (2 ∷ [])
unfolding open_definitions open_history
tight-stay = record { first = []; others = []; enters = refl; stands = refl; stays = (refl, (refl, (refl, (refl, (refl, (refl, (refl, (refl, (refl, (refl, (refl, (refl, (refl, (refl, (refl, (refl, (refl, (refl, (refl, (refl, (refl, (refl, tt)))))))))))))))))))))) }

pub tight-entering : (gives machine entering).fired ≤ 1
unfolding open_definitions
tight-entering = omega arith

pub tight-attended : Attended (history ++ event ∷ []) after (map does doing)
unfolding open_definitions open_history passes all_pass accepted
tight-attended = attended doing (history ++ event ∷ []) after refl

pub tight : fired_in (event ∷ stay) ≡ 10 * (1 + 1)
unfolding open_definitions open_history
tight = refl
