-- The table of fields of layout 1. A field is named by its number; docs/STATE.md shows the same table.
use Rattle.std.specs.Prelude.{List, [], ◌∷◌, ℕ, ◌+◌, ◌-◌, ◌*◌, get_or}
use Rattle.machine.specs.Machine.{Sizes}
use Rattle.layout.specs.Table.{Layout, Slot, slot}

-- Regions follow one another: the header, process records, their names, Rendez, locks, timers (the K kernel timers, then one of each
-- process), message cells, their messages, conditions, the words that say which records and cells are in use, and the timers' links. The
-- bytes that one record of each takes:
abbrev pub strides : List ℕ
strides = 80 ∷ 48 ∷ 1 ∷ 2 ∷ 6 ∷ 24 ∷ 16 ∷ 1 ∷ 1 ∷ 8 ∷ 8 ∷ 8 ∷ 2 ∷ []

-- and how many records each has.
abbrev pub counts : Sizes → List ℕ
counts z =
    1
    ∷ z.processes
    ∷ (28 * z.processes)
    ∷ z.rendez
    ∷ z.locks
    ∷ (z.timers + z.processes)
    ∷ z.cells
    ∷ (127 * z.cells)
    ∷ 256
    ∷ 64
    ∷ 1016
    ∷ 16
    ∷ (z.timers + z.processes)
    ∷ []

-- tells a state of this kind from other bytes
abbrev pub mark : ℕ
mark = 0

-- which layout this is
abbrev pub layout_number : ℕ
layout_number = 1

-- the frequency
abbrev pub hz : ℕ
hz = 2

-- P
abbrev pub size_processes : ℕ
size_processes = 3

-- R
abbrev pub size_rendez : ℕ
size_rendez = 4

-- Q
abbrev pub size_locks : ℕ
size_locks = 5

-- K
abbrev pub size_timers : ℕ
size_timers = 6

-- C
abbrev pub size_cells : ℕ
size_cells = 7

-- who runs
abbrev pub up : ℕ
up = 8

-- the run queue: first
abbrev pub run_head : ℕ
run_head = 9

-- last
abbrev pub run_tail : ℕ
run_tail = 10

-- how many are asleep
abbrev pub asleep_count : ℕ
asleep_count = 11

-- the timer queue: first
abbrev pub timer_head : ℕ
timer_head = 12

-- the living by age: first
abbrev pub oldest : ℕ
oldest = 13

-- last
abbrev pub youngest : ℕ
youngest = 14

-- the next pid
abbrev pub next_pid : ℕ
next_pid = 15

abbrev pub ticks : ℕ
ticks = 16

-- the last accepted NOW
abbrev pub last_now : ℕ
last_now = 17

-- a bit for each word of used_records that is full
abbrev pub full_records : ℕ
full_records = 18

-- a bit for each word of full_cell_words that is full
abbrev pub full_cells : ℕ
full_cells = 19

-- 0 in a free record
abbrev pub pid : ℕ
pid = 20

-- the parent's pid, 0 for none
abbrev pub parent : ℕ
parent = 21

abbrev pub quantum_end : ℕ
quantum_end = 22

-- the next in the run queue or in a lock's queue
abbrev pub next : ℕ
next = 23

-- the next older of the living
abbrev pub older : ℕ
older = 24

-- the next younger
abbrev pub younger : ℕ
younger = 25

-- the record that the parent had
abbrev pub parent_at : ℕ
parent_at = 26

-- living children
abbrev pub nchild : ℕ
nchild = 27

-- the newest exit in the wait queue
abbrev pub exits : ℕ
exits = 28

-- how many exits
abbrev pub nexits : ℕ
nexits = 29

-- 0 free, 1 running, 2 ready, 3 asleep
abbrev pub state_of : ℕ
state_of = 30

-- 0 nothing, 1 sleep, 2 tsleep, 3 qlock, 4 wait
abbrev pub resume_kind : ℕ
resume_kind = 31

-- the condition of a sleep or tsleep
abbrev pub resume_condition : ℕ
resume_condition = 32

-- the Rendez of a sleep or tsleep, the lock of a qlock
abbrev pub resume_object : ℕ
resume_object = 33

-- the names, 28 bytes a record
abbrev pub name_byte : ℕ
name_byte = 34

-- who sleeps on the Rendez
abbrev pub sleeper_of : ℕ
sleeper_of = 35

-- whether the lock is held
abbrev pub held : ℕ
held = 36

-- its waiters: first
abbrev pub lock_head : ℕ
lock_head = 37

-- last
abbrev pub lock_tail : ℕ
lock_tail = 38

abbrev pub deadline : ℕ
deadline = 39

-- in counts, 0: fires once
abbrev pub period : ℕ
period = 40

-- the Rendez it wakes
abbrev pub timer_rendez : ℕ
timer_rendez = 41

-- the next in the timer queue
abbrev pub timer_next : ℕ
timer_next = 42

-- whether it is queued
abbrev pub is_queued : ℕ
is_queued = 43

-- the exited child's pid
abbrev pub exit_pid : ℕ
exit_pid = 44

-- the next older exit
abbrev pub cell_next : ℕ
cell_next = 45

-- in whose wait queue, 0: a free cell
abbrev pub owner : ℕ
owner = 46

abbrev pub message_length : ℕ
message_length = 47

-- the messages, 127 bytes a cell
abbrev pub message_byte : ℕ
message_byte = 48

abbrev pub condition_bit : ℕ
condition_bit = 49

-- a bit for each record that is in use
abbrev pub used_records : ℕ
used_records = 50

-- a bit for each cell that is in use
abbrev pub used_cells : ℕ
used_cells = 51

-- a bit for each word of used_cells that is full
abbrev pub full_cell_words : ℕ
full_cell_words = 52

-- What values a field takes: numbers of so many bytes, a bit, a link (0 for none, and i + 1 for number i), and some smaller ranges.
pub data Kind : Type 0 where
  a_byte a_half a_word4 a_word a_bit to_process to_timer to_cell a_rendez exit_count a_state a_resume a_length a_period : Kind

abbrev pub most : Sizes → Kind → ℕ
most z a_byte = 255
most z a_half = 65535
most z a_word4 = 4294967295
most z a_word = 18446744073709551615
most z a_bit = 1
most z to_process = z.processes
most z to_timer = z.timers + z.processes
most z to_cell = z.cells
most z a_rendez = z.rendez - 1
most z exit_count = 128
most z a_state = 3
most z a_resume = 4
most z a_length = 127
most z a_period = 9223372036854775807

pub record Row : Type 0 where
  pub place : Slot
  pub kind : Kind

abbrev pub row : ℕ → ℕ → ℕ → Kind → Row
row r o w k = record { place = slot r o w; kind = k }

abbrev pub rows : List Row
rows =
    row 0 0 8 a_word
    ∷ row 0 8 4 a_word4
    ∷ row 0 12 4 a_word4
    ∷ row 0 16 2 a_half
    ∷ row 0 18 2 a_half
    ∷ row 0 20 2 a_half
    ∷ row 0 22 2 a_half
    ∷ row 0 24 2 a_half
    ∷ row 0 26 2 to_process
    ∷ row 0 28 2 to_process
    ∷ row 0 30 2 to_process
    ∷ row 0 32 2 a_half
    ∷ row 0 34 2 to_timer
    ∷ row 0 36 2 to_process
    ∷ row 0 38 2 to_process
    ∷ row 0 40 8 a_word
    ∷ row 0 48 8 a_word
    ∷ row 0 56 8 a_word
    ∷ row 0 64 8 a_word
    ∷ row 0 72 8 a_word
    ∷ row 1 0 8 a_word
    ∷ row 1 8 8 a_word
    ∷ row 1 16 8 a_word
    ∷ row 1 24 2 to_process
    ∷ row 1 26 2 to_process
    ∷ row 1 28 2 to_process
    ∷ row 1 30 2 to_process
    ∷ row 1 32 2 a_half
    ∷ row 1 34 2 to_cell
    ∷ row 1 36 1 exit_count
    ∷ row 1 37 1 a_state
    ∷ row 1 38 1 a_resume
    ∷ row 1 39 1 a_byte
    ∷ row 1 40 2 a_half
    ∷ row 2 0 1 a_byte
    ∷ row 3 0 2 to_process
    ∷ row 4 0 2 a_bit
    ∷ row 4 2 2 to_process
    ∷ row 4 4 2 to_process
    ∷ row 5 0 8 a_word
    ∷ row 5 8 8 a_period
    ∷ row 5 16 2 a_rendez
    ∷ row 12 0 2 to_timer
    ∷ row 5 20 1 a_bit
    ∷ row 6 0 8 a_word
    ∷ row 6 8 2 to_cell
    ∷ row 6 10 2 to_process
    ∷ row 6 12 1 a_length
    ∷ row 7 0 1 a_byte
    ∷ row 8 0 1 a_bit
    ∷ row 9 0 8 a_word
    ∷ row 10 0 8 a_word
    ∷ row 11 0 8 a_word
    ∷ []

abbrev pub slots : List Row → List Slot
slots [] = []
slots (r ∷ rs) = r.place ∷ slots rs

abbrev pub layout1 : Layout
layout1 = record { strides = strides; fields = slots rows }

-- The largest value of a field.
abbrev pub most_of : Sizes → ℕ → ℕ
most_of z f = most z (get_or rows f (row 13 0 0 a_bit)).kind
