-- The flags of rfork, from Plan 9's libc.h, as bit numbers.
use Rattle.std.specs.Prelude.{Bool, not, ◌&&◌, ◌||◌, ℕ, ◌/◌, ◌%◌, ◌^◌, eqb}

-- Whether flags F have the bit n.
unfoldable pub has : ℕ → ℕ → Bool
has F n = eqb (F / 2 ^ n % 2) 1

-- fork(2): copy the name space
abbrev pub RFNAMEG : ℕ
RFNAMEG = 0

-- fork(2): copy the environment
abbrev pub RFENVG : ℕ
RFENVG = 1

-- fork(2): copy the descriptor table
abbrev pub RFFDG : ℕ
RFFDG = 2

-- fork(2): make a new process
abbrev pub RFPROC : ℕ
RFPROC = 4

-- fork(2): share memory
abbrev pub RFMEM : ℕ
RFMEM = 5

-- fork(2): the child is dissociated: its exit leaves no message for the parent
abbrev pub RFNOWAIT : ℕ
RFNOWAIT = 6

-- fork(2): clean name space
abbrev pub RFCNAMEG : ℕ
RFCNAMEG = 10

-- fork(2): empty environment
abbrev pub RFCENVG : ℕ
RFCENVG = 11

-- fork(2): empty descriptor table
abbrev pub RFCFDG : ℕ
RFCFDG = 12

-- fork(2): no later mounts
abbrev pub RFNOMNT : ℕ
RFNOMNT = 14

-- Bad: both of RFFDG/RFCFDG, RFNAMEG/RFCNAMEG or RFENVG/RFCENVG; RFMEM or RFNOWAIT without RFPROC; any of RFMEM, RFCNAMEG,
-- RFCENVG, RFNOMNT. Other bits (RFNOTEG 3, RFREND 13 and all above) are ignored.
unfoldable pub bad : ℕ → Bool
bad F =
    has F RFFDG && has F RFCFDG
    || has F RFNAMEG && has F RFCNAMEG
    || has F RFENVG && has F RFCENVG
    || (has F RFMEM || has F RFNOWAIT) && not (has F RFPROC)
    || (has F RFMEM || has F RFCNAMEG || has F RFCENVG || has F RFNOMNT)

-- All of this module, for whoever computes with it.
unfoldable pub open_flags : Unit {0}
unfolding has bad
open_flags = tt
