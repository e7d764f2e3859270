-- The rows of a sheet by the bytes that they stand at, and what lies at an address. Header word n is at byte 2n. From word 12 on stand
-- the area rows, of four words each, and behind them the item rows, of six. Assumes nothing.
use Rattle.std.specs.Prelude.{◌≡◌, List, ◌⊎◌, ℕ, ◌+◌, ◌-◌, ◌*◌, ◌≤◌, ◌<◌}
use Rattle.plain.specs.Numbers.{word}

-- word 1: how many areas; word 3: how many items
abbrev pub area_rows : List ℕ → ℕ
area_rows sheet = word sheet 2

abbrev pub item_rows : List ℕ → ℕ
item_rows sheet = word sheet 6

-- there is an area row of this first and last address, first place and access
pub record AreaRow (sheet : List ℕ) (first last place access : ℕ) : Type 0 where
  pub index : ℕ
  pub counted : index < area_rows sheet
  pub its_first : word sheet (24 + 8 * index) ≡ first
  pub its_last : word sheet (26 + 8 * index) ≡ last
  pub its_place : word sheet (28 + 8 * index) ≡ place
  pub its_access : word sheet (30 + 8 * index) ≡ access

-- there is an item row of this kind, first place, low and high bound
pub record ItemRow (sheet : List ℕ) (kind place low high : ℕ) : Type 0 where
  pub index : ℕ
  pub counted : index < item_rows sheet
  pub its_kind : word sheet (24 + 8 * area_rows sheet + 12 * index) ≡ kind
  pub its_place : word sheet (26 + 8 * area_rows sheet + 12 * index) ≡ place
  pub its_low : 65536 * word sheet (28 + 8 * area_rows sheet + 12 * index) + word sheet (30 + 8 * area_rows sheet + 12 * index) ≡ low
  pub its_high : 65536 * word sheet (32 + 8 * area_rows sheet + 12 * index) + word sheet (34 + 8 * area_rows sheet + 12 * index) ≡ high

-- an address lies in an area of this access, and has this place in the bank
pub record LiesAt (sheet : List ℕ) (address place access : ℕ) : Type 0 where
  pub first : ℕ
  pub last : ℕ
  pub begins : ℕ
  pub row : AreaRow sheet first last begins access
  pub not_before : first ≤ address
  pub not_behind : address ≤ last
  pub there : place ≡ begins + (address - first)

-- rule J61: an address of a register that can be written has this place in the bank, in an area of access 2 or 3
pub record WritableAt (sheet : List ℕ) (address place : ℕ) : Type 0 where
  pub access : ℕ
  pub lies : LiesAt sheet address place access
  pub permitted : (access ≡ 2) ⊎ (access ≡ 3)
