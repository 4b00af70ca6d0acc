-- A layout is a table: regions that follow one another, each an array of records of one size, and the fields in those records.
use Rattle.std.specs.Prelude.{if◌then◌else◌, Bool, true, not, ◌&&◌, ◌||◌, List, [], ◌∷◌, ℕ, zero, suc, ◌+◌, ◌*◌, eqb, leb, ltb, length, get_or}
use Rattle.machine.specs.Basics.{all}

-- A field: the region whose records have it, where in the record it begins, and how many bytes it takes.
pub record Slot : Type 0 where
  pub region : ℕ
  pub inner : ℕ
  pub width : ℕ

abbrev pub slot : ℕ → ℕ → ℕ → Slot
slot r o w = record { region = r; inner = o; width = w }

-- The bytes that a record of each region takes, and the fields. A field is named by its number in the list.
pub record Layout : Type 0 where
  pub strides : List ℕ
  pub fields : List Slot

abbrev pub stride : Layout → ℕ → ℕ
stride l r = get_or l.strides r 0

-- The field with a number; past the end of the table, one of no region.
abbrev pub field : Layout → ℕ → Slot
field l f = get_or l.fields f (slot (length l.strides) 0 0)

-- How many records a region has, ns being the list of these.
abbrev pub count : Layout → List ℕ → ℕ → ℕ
count l ns r = if ltb r (length l.strides) then get_or ns r 0 else 0

-- Where the region r starts: after those before it.
unfoldable pub start : Layout → List ℕ → ℕ → ℕ
start l ns zero = 0
start l ns (suc r) = start l ns r + count l ns r * stride l r

-- How many bytes a state takes.
abbrev pub total : Layout → List ℕ → ℕ
total l ns = start l ns (length l.strides)

-- Where a field lies of record i.
abbrev pub place : Layout → List ℕ → Slot → ℕ → ℕ
place l ns a i = start l ns a.region + i * stride l a.region + a.inner

-- The test of a table: each field lies within its record, and two fields of one region lie apart.
unfoldable pub inside : Layout → Slot → Bool
inside l a = ltb a.region (length l.strides) && leb (a.inner + a.width) (stride l a.region)

unfoldable pub split : Slot → Slot → Bool
split a b = not (eqb a.region b.region) || (leb (a.inner + a.width) b.inner || leb (b.inner + b.width) a.inner)

unfoldable pub pairwise : List Slot → Bool
pairwise [] = true
pairwise (a ∷ as') = all (split a) as' && pairwise as'

unfoldable pub sound : Layout → Bool
sound l = all (inside l) l.fields && pairwise l.fields
