-- A header list: any number of headers, each with the eight bytes of its magic in front.
use Rattle.std.specs.Prelude.{ℕ, ◌+◌, ◌-◌, ◌*◌, List, [], ◌∷◌, length, take, drop, not, nat_eq, nat_lt}
use Rattle.std.specs.Prelude.{if◌then◌else◌, Option, Some, None, Result, Ok, Err}
use Rattle.std.specs.List.{starts_with}
use Rattle.std.specs.Int.{w32}
use Rattle.rpm_header.specs.Header.{max_data, max_entries}
use Rattle.rpm_header.specs.Bytes.{number_at}
use Rattle.rpm_header.specs.Digest.{magic}
use Rattle.rpm_file.specs.declared.fault.ListFault.{ListFault}
use Rattle.rpm_file.specs.declared.fault.ListFault.TheVariants.{Short, BadMagic, TooManyEntries, TooMuchData}

infixl 10 ◌>>=◌
-- goes on with what was found, and stops at a fault
abbrev pub ◌>>=◌ : {A B E : Type 0} → Result A E → (A → Result B E) → Result B E
r >>= f = elim r [ Ok x ↦ f x | Err e ↦ Err e ]

-- a header's own bytes, and those that follow it
pub record BlobAndRest : Type 0 where
  pub blob : List ℕ
  pub rest : List ℕ

-- the length that the first 16 bytes give a header without its magic, or what is wrong with them: after the magic
-- stand, at 8, the number of entries and, at 12, the number of bytes of data
unfoldable pub size_in : List ℕ → Result ℕ ListFault
size_in bytes =
    if not (starts_with nat_eq bytes magic) then Err BadMagic
    else if nat_lt max_entries (number_at w32 bytes 8) then Err TooManyEntries
    else if nat_lt max_data (number_at w32 bytes 12) then Err TooMuchData
    else Ok (8 + 16 * number_at w32 bytes 8 + number_at w32 bytes 12)

-- how many bytes follow the first 16 of a header, whose length these give: none where they have a fault
abbrev pub body_length : Result ℕ ListFault → ℕ
body_length (Err fault) = 0
body_length (Ok size) = size - 8

-- how far the header reaches that stands in front of a list: its first 16 bytes tell, or have a fault and are all of it
unfoldable pub header_extent : List ℕ → ℕ
header_extent bytes = 16 + body_length (size_in bytes)

-- the header that stands in front of a list, or its first fault
unfoldable pub front_header : List ℕ → Result BlobAndRest ListFault
front_header bytes = if nat_lt (length bytes) 16 then Err Short else (size_in bytes >>= λ size.
    if nat_lt (length bytes) (8 + size) then Err Short
    else Ok (record { blob = take size (drop 8 bytes); rest = drop (8 + size) bytes }))

-- the next header of a list, None at its end, or its first fault
abbrev pub list_head : List ℕ → Result (Option BlobAndRest) ListFault
list_head [] = Ok None
list_head (byte ∷ bytes) = front_header (byte ∷ bytes) >>= λ found. Ok (Some found)
