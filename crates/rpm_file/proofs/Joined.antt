-- The parts of a package file together.
use Rattle.std.proofs.Common.{◌≡◌, ℕ, List, [], Option, Result, Ok, Err, refl, sym, ap, ◌∙◌}
use Rattle.std.proofs.lemmas.List.{append-nil}
use Rattle.rpm_file.proofs.Vocabulary.{after_signature, and_entries, AnswersBy, AnswersMade, behind_lead, behind_padding, behind_signature, dribbles}
use Rattle.rpm_file.proofs.Vocabulary.{FileFault, BlobAndRest, front_header, HasIndexBytes}
use Rattle.rpm_file.proofs.Vocabulary.{HeaderAndRest, headed_part, headed_of, headed_with, Header, header, HeaderFault, HeaderKind, IsFileFault, Item, joined_by}
use Rattle.rpm_file.proofs.Vocabulary.{bytes_left, ListFault, main_at, merged_header}
use Rattle.rpm_file.proofs.Vocabulary.{or_fault_in, package_header, package_with, signature_at, header_with_entries, with_rest}
use Rattle.rpm_file.proofs.Layers.{has_index, laid_once}
use Rattle.rpm_file.specs.declared.fault.FileFault.TheVariants as fault
use Rattle.rpm_file.specs.declared.fault.HeaderKind.TheVariants as part

-- a fault that ends what goes on is the fault of the whole
pub passed : {X Y : Type 0} (found : Result X FileFault) (whole : Result Y FileFault) (e : FileFault)
    → ((f : FileFault) → found ≡ Err f → whole ≡ Err f) → IsFileFault found e → IsFileFault whole e
passed found whole fault.Short on is = on fault.Short is
passed found whole fault.NotAPackage on is = on fault.NotAPackage is
passed found whole fault.BadMagic on is = on fault.BadMagic is
passed found whole (fault.Signature f) on is = on (fault.Signature f) is
passed found whole (fault.Main f) on is = on (fault.Main f) is
passed found whole fault.TooLarge on is = on fault.TooLarge is
passed found whole fault.ReadFault on is = tt
passed found whole fault.NoMemory on is = tt

-- a header with its magic
pub headed_is : (p : HeaderKind) (bytes blob rest : List ℕ) (r : Result Header HeaderFault) → front_header bytes ≡ Ok (record { blob = blob; rest = rest })
    → r ≡ header blob → headed_part p bytes ≡ with_rest (or_fault_in p r) rest
unfolding headed_part
headed_is p bytes blob rest r front is = ap (headed_of p) front ∙ ap (λ (h : Result Header HeaderFault). with_rest (or_fault_in p h) rest) (sym is)

-- ---- after the signature header

pub padding_fault : (s : Header) (bytes : List ℕ) (f : FileFault) → behind_padding s.blob bytes ≡ Err f → behind_signature s bytes ≡ Err f
unfolding behind_signature
padding_fault s bytes f is = ap (main_at s.entries) is

behind_is : (s : Header) (bytes rest : List ℕ) → behind_padding s.blob bytes ≡ Ok rest
    → behind_signature s bytes ≡ joined_by s.entries (headed_part part.Main rest)
unfolding behind_signature
behind_is s bytes rest is = ap (main_at s.entries) is

pub main_fault : (s : Header) (bytes rest : List ℕ) (f : FileFault) → behind_padding s.blob bytes ≡ Ok rest → headed_part part.Main rest ≡ Err f
    → behind_signature s bytes ≡ Err f
main_fault s bytes rest f skipped is = behind_is s bytes rest skipped ∙ ap (joined_by s.entries) is

module _ (s : Header) (bytes mid blob rest : List ℕ) (skipped : behind_padding s.blob bytes ≡ Ok mid)
    (front : front_header mid ≡ Ok (record { blob = blob; rest = rest })) where
  pub main_bad : (f : HeaderFault) → Err f ≡ header blob → behind_signature s bytes ≡ Err (fault.Main f)
  main_bad f is = main_fault s bytes mid (fault.Main f) skipped (headed_is part.Main mid blob rest (Err f) front is)

  pub main_good : (main : Header) → Ok main ≡ header blob → behind_signature s bytes ≡ with_rest (merged_header s.entries main) rest
  main_good main is = behind_is s bytes mid skipped ∙ ap (joined_by s.entries) (headed_is part.Main mid blob rest (Ok main) front is)

-- entries after a header that is found are entries after that header
pub with_layer : (more : List Item) (made : Result Header FileFault) (rest : List ℕ)
    → headed_with more (with_rest made rest) ≡ with_rest (and_entries more made) rest
with_layer more (Ok h) rest = refl
with_layer more (Err f) rest = refl

pub made_answers : (found : List ℕ → Result HeaderAndRest FileFault) (made : Result Header FileFault) (old new : Option (List ℕ))
    (r : Result Header FileFault) → found (bytes_left old) ≡ with_rest made (bytes_left new) → AnswersMade made r → AnswersBy found old new r
made_answers found made old new (Ok h) is a = is ∙ ap (λ (m : Result Header FileFault). with_rest m (bytes_left new)) a
made_answers found made old new (Err fault.TooLarge) is a = is ∙ ap (λ (m : Result Header FileFault). with_rest m (bytes_left new)) a
made_answers found made old new (Err fault.NoMemory) is a = tt
made_answers found made old new (Err fault.Short) is a = absurd a
made_answers found made old new (Err fault.NotAPackage) is a = absurd a
made_answers found made old new (Err fault.BadMagic) is a = absurd a
made_answers found made old new (Err (fault.Signature f)) is a = absurd a
made_answers found made old new (Err (fault.Main f)) is a = absurd a
made_answers found made old new (Err fault.ReadFault) is a = absurd a

pub made_reads : (made r : Result Header FileFault) → AnswersMade made r → r ≡ Err fault.ReadFault → ⊥
made_reads made (Ok h) a is = cc
made_reads made (Err fault.ReadFault) a is = a
made_reads made (Err fault.TooLarge) a is = cc
made_reads made (Err fault.NoMemory) a is = cc
made_reads made (Err fault.Short) a is = cc
made_reads made (Err fault.NotAPackage) a is = cc
made_reads made (Err fault.BadMagic) a is = cc
made_reads made (Err (fault.Signature f)) a is = cc
made_reads made (Err (fault.Main f)) a is = cc

-- ---- the whole file

pub lead_fault : (bytes : List ℕ) (f : FileFault) → behind_lead bytes ≡ Err f → package_header bytes ≡ Err f
unfolding package_header behind_signature
lead_fault bytes f is = ap signature_at is

file_is : (bytes rest : List ℕ) → behind_lead bytes ≡ Ok rest → package_header bytes ≡ after_signature (headed_part part.Signature rest)
unfolding package_header behind_signature
file_is bytes rest is = ap signature_at is

pub signature_fault : (bytes rest : List ℕ) (f : FileFault) → behind_lead bytes ≡ Ok rest → headed_part part.Signature rest ≡ Err f
    → package_header bytes ≡ Err f
signature_fault bytes rest f lead is = file_is bytes rest lead ∙ ap after_signature is

module _ (bytes mid blob rest : List ℕ) (lead : behind_lead bytes ≡ Ok mid) (front : front_header mid ≡ Ok (record { blob = blob; rest = rest })) where
  pub signature_bad : (f : HeaderFault) → Err f ≡ header blob → package_header bytes ≡ Err (fault.Signature f)
  signature_bad f is = signature_fault bytes mid (fault.Signature f) lead (headed_is part.Signature mid blob rest (Err f) front is)

  pub signature_good : (s : Header) → Ok s ≡ header blob → package_header bytes ≡ behind_signature s rest
  signature_good s is = file_is bytes mid lead ∙ ap after_signature (headed_is part.Signature mid blob rest (Ok s) front is)

-- what goes on is the whole
pub whole_answers : (found whole : List ℕ → Result HeaderAndRest FileFault) (old mid new : Option (List ℕ)) (r : Result Header FileFault)
    → whole (bytes_left old) ≡ found (bytes_left mid) → AnswersBy found mid new r → AnswersBy whole old new r
whole_answers found whole old mid new (Ok h) same a = same ∙ a
whole_answers found whole old mid new (Err e) same a = passed (found (bytes_left mid)) (whole (bytes_left old)) e (λ f is. same ∙ is) a

-- ---- with no entries more

-- a header that was laid out is laid out again as it is
none_more : (main : Header) (es : List Item) → HasIndexBytes main → and_entries [] (header_with_entries main es) ≡ header_with_entries main es
none_more main es room = laid_once main es [] room ∙ ap (header_with_entries main) (append-nil es)

none_made : (signature : List Item) (blob rest : List ℕ) (r : Result Header HeaderFault) → header blob ≡ r
    → headed_with [] (joined_by signature (with_rest (or_fault_in part.Main r) rest)) ≡ joined_by signature (with_rest (or_fault_in part.Main r) rest)
unfolding merged_header
none_made signature blob rest (Err f) is = refl
none_made signature blob rest (Ok h) is =
    with_layer [] (merged_header signature h) rest
    ∙ ap (λ (m : Result Header FileFault). with_rest m rest) (none_more h (dribbles h.entries signature) (has_index blob h is))

none_found : (signature : List Item) (r : Result BlobAndRest ListFault)
    → headed_with [] (joined_by signature (headed_of part.Main r)) ≡ joined_by signature (headed_of part.Main r)
none_found signature (Err f) = refl
none_found signature (Ok found) = none_made signature found.blob found.rest (header found.blob) refl

none_main : (signature : List Item) (r : Result (List ℕ) FileFault) → headed_with [] (main_at signature r) ≡ main_at signature r
unfolding headed_part
none_main signature (Err f) = refl
none_main signature (Ok bytes) = none_found signature (front_header bytes)

none_after : (r : Result HeaderAndRest FileFault) → headed_with [] (after_signature r) ≡ after_signature r
unfolding behind_signature
none_after (Err f) = refl
none_after (Ok signature) = none_main signature.header.entries (behind_padding signature.header.blob signature.rest)

none_at : (r : Result (List ℕ) FileFault) → headed_with [] (signature_at r) ≡ signature_at r
none_at (Err f) = refl
none_at (Ok bytes) = none_after (headed_part part.Signature bytes)

-- so the package's header with no entries more is the package's header
pub none_with : (bytes : List ℕ) → package_header bytes ≡ package_with [] bytes
unfolding package_header behind_signature
none_with bytes = sym (none_at (behind_lead bytes))
