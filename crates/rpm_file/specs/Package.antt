-- A package file: a lead, a signature header, padding, the main header, and a payload that isn't looked at.
use Rattle.std.specs.Prelude.{ℕ, ◌+◌, ◌-◌, List, [], ◌∷◌, length, drop, ◌==◌, ◌&&◌, nat_eq, nat_lt}
use Rattle.std.specs.Prelude.{if◌then◌else◌, Result, Ok, Err}
use Rattle.std.specs.List.{starts_with}
use Rattle.std.specs.Int.{w16, next_multiple_of}
use Rattle.std.specs.Result.{result_map_both}
use Rattle.rpm_header.specs.declared.form.HeaderFault.{HeaderFault}
use Rattle.rpm_header.specs.declared.form.HeaderFault.TheVariants as of_header
use Rattle.rpm_header.specs.Bytes.{number_at}
use Rattle.rpm_header.specs.Header.{Item, Header, header}
use Rattle.rpm_file.specs.declared.fault.ListFault.{ListFault}
use Rattle.rpm_file.specs.declared.fault.ListFault.TheVariants as of_list
use Rattle.rpm_file.specs.declared.fault.FileFault.{FileFault}
use Rattle.rpm_file.specs.declared.fault.FileFault.TheVariants.{Short, NotAPackage, BadMagic, Signature, Main}
use Rattle.rpm_file.specs.declared.fault.FileFault.TheVariants.{ReadFault, NoMemory}
use Rattle.rpm_file.specs.declared.fault.HeaderKind.{HeaderKind}
use Rattle.rpm_file.specs.declared.fault.HeaderKind.TheVariants as part
use Rattle.rpm_file.specs.List.{front_header, header_extent, ◌>>=◌}
use Rattle.rpm_file.specs.Merging.{merged_header, header_with_entries}

-- ---- the lead

-- what follows the lead, which has its magic in front, and the number 5 for the type of its signature at 78; nothing
-- else of it is looked at
unfoldable pub behind_lead : List ℕ → Result (List ℕ) FileFault
behind_lead bytes =
    if nat_lt (length bytes) 96 then Err Short
    else if starts_with nat_eq bytes (0xed ∷ 0xab ∷ 0xee ∷ 0xdb ∷ []) && number_at w16 bytes 78 == 5
    then Ok (drop 96 bytes)
    else Err NotAPackage

-- ---- the two headers

-- a fault of a header, which tells the one of the two that has it
abbrev pub fault_in : HeaderKind → HeaderFault → FileFault
fault_in part.Signature fault = Signature fault
fault_in part.Main fault = Main fault

-- a fault that is found before the header's body is read
abbrev pub early_fault : HeaderKind → ListFault → FileFault
early_fault p of_list.Short = Short
early_fault p of_list.BadMagic = BadMagic
early_fault p of_list.TooManyEntries = fault_in p of_header.TooManyEntries
early_fault p of_list.TooMuchData = fault_in p of_header.TooMuchData
early_fault p of_list.ReadFault = ReadFault
early_fault p of_list.NoMemory = NoMemory

-- a header, and the bytes that follow it
pub record HeaderAndRest : Type 0 where
  pub header : Header
  pub rest : List ℕ

-- a header with its magic, which has no fault, and the bytes that follow it
unfoldable pub headed_part : HeaderKind → List ℕ → Result HeaderAndRest FileFault
headed_part p bytes = do
  found ← result_map_both (λ x. x) (early_fault p) (front_header bytes)
  h ← result_map_both (λ x. x) (fault_in p) (header found.blob)
  Ok (record { header = h; rest = found.rest })

-- what these bytes are as a header, which says something only where they are one and nothing follows it
abbrev pub entries_or_none : Result Header HeaderFault → List Item
entries_or_none (Ok h) = h.entries
entries_or_none (Err fault) = []

-- the header that these bytes are
abbrev pub read_again : List ℕ → Header
read_again bytes = record { blob = bytes; entries = entries_or_none (header bytes) }

-- ---- what stands between them

-- a header's own bytes and the eight of its magic are filled up to a multiple of 8
abbrev pub padding_of : List ℕ → ℕ
padding_of blob = next_multiple_of (length blob) 8 - length blob

-- what follows the padding of this header
unfoldable pub behind_padding : List ℕ → List ℕ → Result (List ℕ) FileFault
behind_padding blob bytes =
    if nat_lt (length bytes) (padding_of blob) then Err Short
    else Ok (drop (padding_of blob) bytes)

-- ---- all of it

-- the main header, joined by those entries of the signature header that belong to it, and the bytes that follow it in
-- the file; or the first fault
unfoldable pub package_header : List ℕ → Result HeaderAndRest FileFault
package_header bytes = do
  behind ← behind_lead bytes
  signature ← headed_part part.Signature behind
  body ← behind_padding signature.header.blob signature.rest
  main ← headed_part part.Main body
  merged ← merged_header signature.header.entries main.header
  Ok (record { header = merged; rest = main.rest })

-- a header that was found with these entries after its own
abbrev pub headed_with : List Item → Result HeaderAndRest FileFault → Result HeaderAndRest FileFault
headed_with more r = do
  found ← r
  h ← header_with_entries found.header more
  Ok (record { header = h; rest = found.rest })

-- a package file's header with these entries after all others
abbrev pub package_with : List Item → List ℕ → Result HeaderAndRest FileFault
package_with more bytes = headed_with more (package_header bytes)

-- ---- how far it is read

-- the main header where the padding ends, of which nothing is read where the padding is cut
abbrev pub main_extent : Result (List ℕ) FileFault → ℕ
main_extent (Err fault) = 0
main_extent (Ok bytes) = header_extent bytes

-- the padding after this signature header, and the main header
unfoldable pub extent_behind : Header → List ℕ → ℕ
extent_behind signature bytes = padding_of signature.blob + main_extent (behind_padding signature.blob bytes)

-- what is read after a signature header, which is nothing where it has a fault
abbrev pub extent_after : Result HeaderAndRest FileFault → ℕ
extent_after (Err fault) = 0
extent_after (Ok signature) = extent_behind signature.header signature.rest

-- what is read after the lead, which is nothing where that has a fault
abbrev pub signature_extent : Result (List ℕ) FileFault → ℕ
signature_extent (Err fault) = 0
signature_extent (Ok bytes) = header_extent bytes + extent_after (headed_part part.Signature bytes)

-- a package file is read to the end of its main header, or of the part that has its first fault
unfoldable pub package_extent : List ℕ → ℕ
package_extent bytes = 96 + signature_extent (behind_lead bytes)
