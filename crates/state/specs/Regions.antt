-- Regions and fields as the code names them.
use Rattle.std.specs.Prelude.{ℕ}
use Rattle.layout.specs.Table.{Slot, slot}
use Rattle.state.specs.declared.field.Region.{Region}
use Rattle.state.specs.declared.field.Region.TheVariants.{Header, Process, Name, Rendez, Lock, Timer, Cell, Message, Condition, RecordWord, CellWord, FullWord, TimerLink}
use Rattle.state.specs.declared.field.Field.{Field}

-- The number of a region in the layout.
abbrev pub region_number : Region → ℕ
region_number Header = 0
region_number Process = 1
region_number Name = 2
region_number Rendez = 3
region_number Lock = 4
region_number Timer = 5
region_number Cell = 6
region_number Message = 7
region_number Condition = 8
region_number RecordWord = 9
region_number CellWord = 10
region_number FullWord = 11
region_number TimerLink = 12

-- The slot of a field whose numbers take w bytes.
abbrev pub slot_of : {T : Type 0} → Field T → ℕ → Slot
slot_of f w = slot (region_number f.0) f.1 w
