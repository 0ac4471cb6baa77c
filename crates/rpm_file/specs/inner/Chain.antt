-- The steps by which a package file's header is found, each with what the one before it found.
use Rattle.std.specs.Prelude.{ℕ, List, [], ◌∷◌, Bool, ◌==◌, ◌&&◌, nat_eq, Result, Ok, Err}
use Rattle.std.specs.List.{starts_with}
use Rattle.std.specs.Int.{w16}
use Rattle.std.specs.Result.{result_map_both}
use Rattle.rpm_header.specs.declared.form.HeaderFault.{HeaderFault}
use Rattle.rpm_header.specs.Bytes.{number_at}
use Rattle.rpm_header.specs.Header.{Item, Header, header}
use Rattle.rpm_file.specs.declared.fault.ListFault.{ListFault}
use Rattle.rpm_file.specs.declared.fault.FileFault.{FileFault}
use Rattle.rpm_file.specs.declared.fault.HeaderKind.{HeaderKind}
use Rattle.rpm_file.specs.declared.fault.HeaderKind.TheVariants as part
use Rattle.rpm_file.specs.List.{BlobAndRest, ◌>>=◌}
use Rattle.rpm_file.specs.Merging.{merged_header}
use Rattle.rpm_file.specs.Package.{HeaderAndRest, behind_padding, early_fault, fault_in, headed_part}

-- the first four bytes of each package file
abbrev pub lead_magic : List ℕ
lead_magic = 0xed ∷ 0xab ∷ 0xee ∷ 0xdb ∷ []

-- a lead has its magic in front, and the number 5 for the type of its signature at 78; nothing else is looked at
abbrev pub is_lead : List ℕ → Bool
is_lead bytes = starts_with nat_eq bytes lead_magic && number_at w16 bytes 78 == 5

-- a header that has no fault, with the bytes that follow it
abbrev pub with_rest : {E : Type 0} → Result Header E → List ℕ → Result HeaderAndRest E
with_rest r rest = elim r [ Ok h ↦ Ok (record { header = h; rest = rest }) | Err fault ↦ Err fault ]

-- what has no fault as it is, and a fault of a header as one of the file
abbrev pub or_fault_in : {X : Type 0} → HeaderKind → Result X HeaderFault → Result X FileFault
or_fault_in p (Ok x) = Ok x
or_fault_in p (Err fault) = Err (fault_in p fault)

-- the bytes that were found, as a header and what follows it
abbrev pub headed_of : HeaderKind → Result BlobAndRest ListFault → Result HeaderAndRest FileFault
headed_of p r = do
  found ← result_map_both (λ x. x) (early_fault p) r
  h ← result_map_both (λ x. x) (fault_in p) (header found.blob)
  Ok (record { header = h; rest = found.rest })

-- a main header is joined by those entries of the signature header that belong to it
abbrev pub joined_by : List Item → Result HeaderAndRest FileFault → Result HeaderAndRest FileFault
joined_by signature (Err fault) = Err fault
joined_by signature (Ok main) = with_rest (merged_header signature main.header) main.rest

-- the main header where the padding ends
abbrev pub main_at : List Item → Result (List ℕ) FileFault → Result HeaderAndRest FileFault
main_at signature (Err fault) = Err fault
main_at signature (Ok bytes) = joined_by signature (headed_part part.Main bytes)

-- what follows the signature header
unfoldable pub behind_signature : Header → List ℕ → Result HeaderAndRest FileFault
behind_signature signature bytes = main_at signature.entries (behind_padding signature.blob bytes)

-- a package file goes on with its main header after a signature header without a fault
abbrev pub after_signature : Result HeaderAndRest FileFault → Result HeaderAndRest FileFault
after_signature (Err fault) = Err fault
after_signature (Ok signature) = behind_signature signature.header signature.rest

-- a package file's signature header stands where the lead ends
abbrev pub signature_at : Result (List ℕ) FileFault → Result HeaderAndRest FileFault
signature_at (Err fault) = Err fault
signature_at (Ok bytes) = after_signature (headed_part part.Signature bytes)
