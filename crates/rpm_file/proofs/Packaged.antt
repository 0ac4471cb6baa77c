-- The parts of a package file, one after the other.
use Rattle.std.proofs.Common.{◌≡◌, ℕ, ◌≤◌, ◌<◌, List, [], ◌∷◌, ◌++◌, Option, None, Result, Ok, Err, length, take, drop, true, false, refl, ap, ◌∙◌, arith, length-append, le-ltb, lt-ltb}
use Rattle.std.specs.Prelude.{nat_lt, nat_eq}
use Rattle.rpm_file.proofs.Vocabulary.{AnswersSkip, AnswersTake, behind_lead, behind_padding, early_fault, FileFault, BlobAndRest, front_header, headed_part, headed_of}
use Rattle.rpm_file.proofs.Vocabulary.{HeaderKind, is_lead, IsFileFault, IsListFault, lead_magic, bytes_left, list_head, ListFault, number_longer, padding_of}
use Rattle.rpm_file.proofs.Vocabulary.{pointwise, some_found, w16}
use Rattle.std.proofs.lemmas.List.{take-append-le, drop_at}
use Rattle.rpm_file.specs.declared.fault.FileFault.TheVariants as fault
use Rattle.rpm_file.specs.declared.fault.ListFault.TheVariants as of_list
use Rattle.rpm_file.specs.declared.fault.HeaderKind.TheVariants as part

-- ---- what is skipped

lead_longer : (lead rest : List ℕ) → 80 ≤ length lead → is_lead (lead ++ rest) ≡ is_lead lead
lead_longer lead rest long =
    let front : take 4 (lead ++ rest) ≡ take 4 lead = take-append-le 4 lead rest (omega arith) in
    let magic = ap (pointwise nat_eq lead_magic) front in
    let type = number_longer w16 lead rest 78 (omega arith) (omega arith) in
    rw (front, type) refl

module _ (bytes lead rest : List ℕ) (whole : bytes ≡ lead ++ rest) (long : length lead ≡ 96) where
  enough : nat_lt (length bytes) 96 ≡ false
  enough = le-ltb (length bytes) 96 (omega (arith, ap length whole, length-append lead rest))

  same : is_lead bytes ≡ is_lead lead
  same = ap is_lead whole ∙ lead_longer lead rest (omega arith)

  pub lead_taken : is_lead lead ≡ true → behind_lead bytes ≡ Ok rest
  unfolding behind_lead
  lead_taken is =
      let behind : drop 96 bytes ≡ rest = ap (drop 96) whole ∙ drop_at lead rest 96 long in
      rw (enough, same, is, behind) refl

  pub lead_wrong : is_lead lead ≡ false → behind_lead bytes ≡ Err fault.NotAPackage
  unfolding behind_lead
  lead_wrong is = rw (enough, same, is) refl

pub lead_short : (bytes lead : List ℕ) → length lead ≡ 96 → length bytes < length lead → behind_lead bytes ≡ Err fault.Short
unfolding behind_lead
lead_short bytes lead long few =
    let short : nat_lt (length bytes) 96 ≡ true = lt-ltb (length bytes) 96 (omega arith) in
    rw short refl

pub padding_taken : (blob bytes padding rest : List ℕ) → bytes ≡ padding ++ rest → length padding ≡ padding_of blob → behind_padding blob bytes ≡ Ok rest
unfolding behind_padding
padding_taken blob bytes padding rest whole long =
    let enough : nat_lt (length bytes) (padding_of blob) ≡ false =
    le-ltb (length bytes) (padding_of blob) (omega (arith, ap length whole, length-append padding rest, long)) in
    let behind : drop (padding_of blob) bytes ≡ rest = ap (drop (padding_of blob)) whole ∙ drop_at padding rest (padding_of blob) long in
    rw (enough, behind) refl

pub padding_short : (blob bytes padding : List ℕ) → length padding ≡ padding_of blob → length bytes < length padding
    → behind_padding blob bytes ≡ Err fault.Short
unfolding behind_padding
padding_short blob bytes padding long few =
    let short : nat_lt (length bytes) (padding_of blob) ≡ true = lt-ltb (length bytes) (padding_of blob) (omega (arith, long)) in
    rw short refl

-- a fault of what was to be taken
pub taken_fault : (X : Type 0) (found : Result (List ℕ) FileFault) (old new : Option (List ℕ)) (into : List ℕ) (e : FileFault)
    → (length (bytes_left old) < length into → found ≡ Err fault.Short) → AnswersTake {X = X} old new into (Err e) → IsFileFault found e
taken_fault X found old new into fault.Short short t = short t
taken_fault X found old new into fault.ReadFault short t = tt
taken_fault X found old new into fault.NotAPackage short t = absurd t
taken_fault X found old new into fault.BadMagic short t = absurd t
taken_fault X found old new into (fault.Signature e) short t = absurd t
taken_fault X found old new into (fault.Main e) short t = absurd t
taken_fault X found old new into fault.TooLarge short t = absurd t
taken_fault X found old new into fault.NoMemory short t = absurd t

pub padding_skipped : {X : Type 0} (blob : List ℕ) (old new : Option (List ℕ)) (into : List ℕ) (r : Result X FileFault)
    → length into ≡ padding_of blob → AnswersTake old new into r → AnswersSkip (behind_padding blob) old new r
padding_skipped blob old new into (Ok done) long t = padding_taken blob (bytes_left old) into (bytes_left new) t.front long
padding_skipped {X} blob old new into (Err e) long t =
    taken_fault X (behind_padding blob (bytes_left old)) old new into e (padding_short blob (bytes_left old) into long) t

-- ---- one of the two headers

front_none : front_header [] ≡ Err of_list.Short
unfolding front_header
front_none = refl

front_of_found : (r : Result BlobAndRest ListFault) (e : ListFault) → some_found r ≡ Err e → r ≡ Err e
front_of_found (Ok f) e is = absurd cc
front_of_found (Err f) e is = cc

front_fault : (bytes : List ℕ) (e : ListFault) → list_head bytes ≡ Err e → front_header bytes ≡ Err e
front_fault [] e is = absurd cc
front_fault (b ∷ bytes) e is = front_of_found (front_header (b ∷ bytes)) e is

not_none : (r : Result BlobAndRest ListFault) → some_found r ≡ Ok None → ⊥
not_none (Ok f) is = cc
not_none (Err e) is = cc

pub headed_none : (p : HeaderKind) (bytes : List ℕ) → list_head bytes ≡ Ok None → headed_part p bytes ≡ Err fault.Short
unfolding headed_part
headed_none p [] is = ap (headed_of p) front_none
headed_none p (b ∷ bytes) is = absurd (not_none (front_header (b ∷ bytes)) is)

headed_early : (p : HeaderKind) (bytes : List ℕ) (e : ListFault) → list_head bytes ≡ Err e → headed_part p bytes ≡ Err (early_fault p e)
unfolding headed_part
headed_early p bytes e is = ap (headed_of p) (front_fault bytes e is)

pub headed_fault : (p : HeaderKind) (bytes : List ℕ) (e : ListFault) → IsListFault (list_head bytes) e → IsFileFault (headed_part p bytes) (early_fault p e)
headed_fault p bytes of_list.ReadFault is = tt
headed_fault p bytes of_list.NoMemory is = tt
headed_fault p bytes of_list.Short is = headed_early p bytes of_list.Short is
headed_fault p bytes of_list.BadMagic is = headed_early p bytes of_list.BadMagic is
headed_fault part.Signature bytes of_list.TooManyEntries is = headed_early part.Signature bytes of_list.TooManyEntries is
headed_fault part.Main bytes of_list.TooManyEntries is = headed_early part.Main bytes of_list.TooManyEntries is
headed_fault part.Signature bytes of_list.TooMuchData is = headed_early part.Signature bytes of_list.TooMuchData is
headed_fault part.Main bytes of_list.TooMuchData is = headed_early part.Main bytes of_list.TooMuchData is
