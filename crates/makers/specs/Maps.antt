-- The makers' maps, rules M10 to M27, row by row in the order of their addresses: first address, kind, low and high bound, access. Every number here is
-- hexadecimal, as rule G6 has it. Assumes nothing.
use Rattle.std.specs.Prelude.{ℕ, ◌+◌, List, [], ◌∷◌, ◌++◌}
use Rattle.range.specs.Range.{unsigned_word, signed_word, unsigned_pair}
use Rattle.sheet_rules.specs.Rules.{first_version, second_version, bit_of03, bit_of05, bit_of06, bit_of10, write_only, read_and_write}

-- an item of a map; its bounds are the words that a sheet holds, so signed FFF6 is 0xFFF6
pub record Row : Type 0 where
  pub first : ℕ
  pub kind : ℕ
  pub low : ℕ
  pub high : ℕ
  pub access : ℕ

-- rule M2: a word without sign
abbrev pub plain : ℕ → ℕ → ℕ → Row
plain address low high = record { first = address; kind = unsigned_word; low = low; high = high; access = read_and_write }

-- rule M2: a word with sign
abbrev pub signed : ℕ → ℕ → ℕ → Row
signed address low high = record { first = address; kind = signed_word; low = low; high = high; access = read_and_write }

-- rule M2: a pair
abbrev pub pair : ℕ → ℕ → ℕ → Row
pair address low high = record { first = address; kind = unsigned_pair; low = low; high = high; access = read_and_write }

-- rule M2: a rate
abbrev pub rate : ℕ → Row
rate address = plain address 0x0 0x1

-- rule M4: a row that is written and cannot be read
abbrev pub preset : Row → Row
preset row = record { first = row.first; kind = row.kind; low = row.low; high = row.high; access = write_only }

-- a meter's map: the version of its sheet, its rows, the first and the last address of its access 1 area, the functions that it allows, its clear address
-- (0 where 05 is not among them), and the addresses of the rows that are its address and its rate
pub record Map : Type 0 where
  pub version : ℕ
  pub rows : List Row
  pub read_only_first : ℕ
  pub read_only_last : ℕ
  pub functions : ℕ
  pub clear_address : ℕ
  pub address : ℕ
  pub rate : ℕ

-- rules M10 and M32
abbrev pub ux_rows : List Row
ux_rows =
    signed 0x0100 0xFFF6 0x003C
    ∷ plain 0x0101 0x0 0x4
    ∷ plain 0x0102 0x0 0x1
    ∷ pair 0x0103 0x0 0x0001869F
    ∷ pair 0x0105 0x0 0x0001869F
    ∷ pair 0x0107 0x0 0x0001869F
    ∷ plain 0x0109 0x1 0x10
    ∷ pair 0x010A 0x0 0x0001869F
    ∷ plain 0x010C 0x0 0x1
    ∷ rate 0x010D
    ∷ plain 0x010E 0x1 0xF7
    ∷ plain 0x010F 0x0 0x1
    ∷ plain 0x0110 0x0 0x2710
    ∷ plain 0x0111 0x0 0x2
    ∷ plain 0x0112 0x0 0x03E8
    ∷ pair 0x0113 0x0 0x000F423F
    ∷ plain 0x0115 0x0 0x1
    ∷ plain 0x0116 0x0 0x4
    ∷ []

-- rules M11 to M13, of UX15/25
abbrev pub ux : Map
ux =
    record {
      version = first_version;
      rows = ux_rows;
      read_only_first = 0x0200;
      read_only_last = 0x020A;
      functions = bit_of03 + bit_of05 + bit_of06 + bit_of10;
      clear_address = 0x0300;
      address = 0x010E;
      rate = 0x010D;
    }

-- rules M20 and M30, up to 0116; `bore` is the high bound of 0109. The maker's table has 0 to FF at 0108: rule X13
abbrev pub aswe_rows_in_front : ℕ → List Row
aswe_rows_in_front bore =
    plain 0x00FF 0x0 0x1
    ∷ plain 0x0100 0x0 0x1
    ∷ plain 0x0101 0x0 0x2710
    ∷ plain 0x0102 0x0 0x6
    ∷ plain 0x0103 0x0 0x1
    ∷ plain 0x0104 0x0 0x1
    ∷ plain 0x0105 0x1 0x10
    ∷ plain 0x0106 0x0320 0x04B0
    ∷ rate 0x0107
    ∷ plain 0x0108 0x1 0xF7
    ∷ plain 0x0109 0x0 bore
    ∷ plain 0x010D 0x01F4 0x07CF
    ∷ plain 0x010E 0x0 0xFFFF
    ∷ plain 0x010F 0x1 0xC
    ∷ plain 0x0110 0x1 0x1F
    ∷ plain 0x0111 0x0 0x17
    ∷ plain 0x0112 0x0 0x3B
    ∷ plain 0x0113 0x1 0x0120
    ∷ plain 0x0115 0x0 0x5
    ∷ plain 0x0116 0x1 0x4
    ∷ []

-- rule M20, from 0123 on
abbrev pub aswe_rows_behind : List Row
aswe_rows_behind =
    signed 0x0123 0xFF9C 0x0258
    ∷ plain 0x0124 0x0 0x03E8
    ∷ []

-- rule M26: the presets of bore 40, which stand between the two
abbrev pub presets : List Row
presets =
    preset (plain 0x0118 0x0 0x9)
    ∷ preset (plain 0x0119 0x0 0x270F)
    ∷ preset (plain 0x011A 0x0 0x270F)
    ∷ preset (pair 0x011B 0x0 0xFFFFFFFF)
    ∷ preset (pair 0x011D 0x0 0xFFFFFFFF)
    ∷ []

-- rules M21, M23 and M24, of AS-WE with these rows, in a sheet of this version
abbrev pub aswe_with : ℕ → List Row → Map
aswe_with version rows =
    record {
      version = version;
      rows = rows;
      read_only_first = 0x01FF;
      read_only_last = 0x020E;
      functions = bit_of03 + bit_of06 + bit_of10;
      clear_address = 0x0;
      address = 0x0108;
      rate = 0x0107;
    }

-- rules M20 and M22: bores 50 and 80, by the high bound of 0109
abbrev pub aswe : ℕ → Map
aswe bore = aswe_with first_version (aswe_rows_in_front bore ++ aswe_rows_behind)

-- rules M22 and G2: the high bound of 0109 for each bore
abbrev pub bore40 : ℕ
bore40 = 0x10

abbrev pub bore50 : ℕ
bore50 = 0x1E

abbrev pub bore80 : ℕ
bore80 = 0x3C

-- rules M20, M22 and M26: bore 40
abbrev pub aswe40 : Map
aswe40 = aswe_with second_version (aswe_rows_in_front bore40 ++ (presets ++ aswe_rows_behind))
