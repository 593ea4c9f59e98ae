-- Records of a GDSII stream: their bytes, lists of them, and what a place of a byte list holds.
use Rattle.std.specs.Prelude.{◌≡◌, ◌≤◌, ◌<◌, ◌^◌, ◌+◌, ℕ, Bool, ◌==◌, ◌||◌, not, nat_lt, ◌%◌, List}
use Rattle.std.specs.Prelude.{[], ◌∷◌, ◌++◌, length, drop, slice_index, slice_range, Option, Some}
use Rattle.std.specs.Prelude.{None, if◌then◌else◌, IsTrue, ◌⊎◌}
use Rattle.std.specs.List.{list_any}
use Rattle.std.specs.Int.{w16, to_be_bytes, from_be_bytes}
use Rattle.gds_records.specs.Kinds.{kinds}
use Rattle.gds_records.specs.declared.reading.Record.{Record}
use Rattle.gds_records.specs.declared.reading.RecordFault.{RecordFault}
use Rattle.gds_records.specs.declared.reading.RecordFault.TheVariants.{Truncated, BadLength}
use Rattle.gds_records.specs.declared.reading.RecordFault.TheVariants.{UnknownType}

-- a record: its kind, its form and its data
pub record Rec : Type 0 where
  pub kind : ℕ
  pub form : ℕ
  pub body : List ℕ

-- a length that counts its own four bytes, a kind, a form and the data
abbrev pub record_bytes : Rec → List ℕ
record_bytes r = to_be_bytes w16 (length r.body + 4) ++ r.kind ∷ r.form ∷ r.body

-- the format has records of the kind
abbrev pub is_listed : ℕ → Bool
is_listed kind = list_any (λ k. k == kind) kinds

-- each number is a byte
abbrev pub IsBytes : List ℕ → Type 0
IsBytes bytes = (i : ℕ) → slice_index bytes i < 256

-- a record of the format: of a known kind, with an even number of data bytes that its length can
-- count
pub record IsRecord (r : Rec) : Type 0 where
  pub kind : IsTrue (is_listed r.kind)
  pub form : r.form < 256
  pub even : length r.body % 2 ≡ 0
  pub short : length r.body + 4 < 2 ^ 16
  pub bytes : IsBytes r.body

-- the length that the bytes begin with
abbrev pub declared_length : List ℕ → ℕ
declared_length bytes = from_be_bytes w16 bytes

-- the first test of framing that the bytes fail: 1 too few bytes, 2 a bad length, 3 an unknown kind
abbrev pub framing : List ℕ → Option ℕ
framing bytes =
    if nat_lt (length bytes) 4 then Some 1
    else if nat_lt (declared_length bytes) 4 || not ((declared_length bytes % 2) == 0) then Some 2
    else if nat_lt (length bytes) (declared_length bytes) then Some 1
    else if is_listed (slice_index bytes 2) then None
    else Some 3

-- the record whose data lies at a place of the bytes
abbrev pub record_at : List ℕ → Record → Rec
record_at bytes r = record { kind = r.kind; form = r.form; body = slice_range bytes r.start r.end }

-- the bytes from the place on begin with this record
pub record IsNext (bytes : List ℕ) (place : ℕ) (r : Record) : Type 0 where
  pub sound : framing (drop place bytes) ≡ None
  pub start : r.start ≡ place + 4
  pub end : r.end ≤ length bytes
  pub order : r.start ≤ r.end
  pub first : drop place bytes ≡ record_bytes (record_at bytes r) ++ drop r.end bytes
  pub proper : IsRecord (record_at bytes r)

-- the bytes from the place on fail this test of framing first
abbrev pub IsFramingFault : List ℕ → ℕ → RecordFault → Type 0
IsFramingFault bytes place (Truncated at) = (at ≡ place) × (framing (drop place bytes) ≡ Some 1)
IsFramingFault bytes place (BadLength at) = (at ≡ place) × (framing (drop place bytes) ≡ Some 2)
IsFramingFault bytes place (UnknownType at) = (at ≡ place) × (framing (drop place bytes) ≡ Some 3)

-- a record list, by its last record
pub data Records : Type 0 where
  NoRecords : Records
  ◌▸◌ : (before : Records) (r : Rec) → Records

infixl 12 ◌▸◌
-- the records' bytes, joined
abbrev pub bytes_of : Records → List ℕ
bytes_of NoRecords = []
bytes_of (before ▸ r) = bytes_of before ++ record_bytes r

-- how many records there are
abbrev pub count_of : Records → ℕ
count_of NoRecords = 0
count_of (before ▸ r) = count_of before + 1

-- each is a record of the format
abbrev pub AreRecords : Records → Type 0
AreRecords NoRecords = Unit {0}
AreRecords (before ▸ r) = AreRecords before × IsRecord r

-- the bytes start with the records, whose bytes, joined, are a prefix of them
pub record StartsWithRecords (bytes : List ℕ) (rs : Records) : Type 0 where
  pub rest : List ℕ
  pub whole : bytes ≡ bytes_of rs ++ rest
  pub each : AreRecords rs

-- a record list and more records behind it
abbrev pub followed_by_all : Records → List Rec → Records
followed_by_all rs [] = rs
followed_by_all rs (x ∷ xs) = followed_by_all (rs ▸ x) xs

-- the second list is the first, or goes on from it
abbrev pub GoesOnFrom : Records → Records → Type 0
GoesOnFrom rs ss = (more : List Rec) × (ss ≡ followed_by_all rs more)

-- of two record lists that bytes start with, one goes on from the other
abbrev pub OneReadingLaw : Type 0
OneReadingLaw = (bytes : List ℕ) (rs ss : Records) → StartsWithRecords bytes rs
    → StartsWithRecords bytes ss → GoesOnFrom rs ss ⊎ GoesOnFrom ss rs
