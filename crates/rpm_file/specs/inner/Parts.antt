-- What the calls for one part answer.
use Rattle.std.specs.Prelude.{◌≡◌, ℕ, ◌<◌, List, ◌++◌, length, take, Bool, true, false, Option, Some, None, Result, Ok}
use Rattle.std.specs.Prelude.{Err, Vec}
use Rattle.std.specs.declared.alloc.Global.{Global}
use Rattle.rpm_header.specs.Header.{Header, header}
use Rattle.rpm_file.specs.declared.fault.ListFault.{ListFault}
use Rattle.rpm_file.specs.declared.fault.FileFault.{FileFault}
use Rattle.rpm_file.specs.declared.fault.FileFault.TheVariants as of_file
use Rattle.rpm_file.specs.declared.fault.HeaderKind.{HeaderKind}
use Rattle.rpm_outside.specs.Browses.{bytes_left, Takes}
use Rattle.rpm_file.specs.List.{front_header, list_head}
use Rattle.rpm_file.specs.Package.{headed_part, read_again}
use Rattle.rpm_file.specs.Answers.{IsListFault, IsFileFault}

-- the bytes in front of a header of a list are taken, or the list is at its end and nothing is taken
abbrev pub AnswersIntro : Option (List ℕ) → Option (List ℕ) → List ℕ → Result Bool ListFault → Type 0
AnswersIntro old new intro (Ok true) = Takes old new intro
AnswersIntro old new intro (Ok false) = (list_head (bytes_left old) ≡ Ok None) × (new ≡ old)
AnswersIntro old new intro (Err fault) = IsListFault (list_head (bytes_left old)) fault

-- a list's next header comes into a row, when its first 16 bytes were taken before and its own bytes are put in front
-- of the row
abbrev pub AnswersBehind : List ℕ → Option (List ℕ) → Option (List ℕ) → List ℕ → Result (Option ℕ) ListFault → Type 0
AnswersBehind intro old new room (Ok None) = ⊥
AnswersBehind intro old new room (Ok (Some size)) =
    front_header (intro ++ bytes_left old) ≡ Ok (record { blob = take size room; rest = bytes_left new })
AnswersBehind intro old new room (Err fault) = IsListFault (front_header (intro ++ bytes_left old)) fault

-- exactly these bytes are taken, where there are so many
abbrev pub AnswersTake : {X : Type 0} → Option (List ℕ) → Option (List ℕ) → List ℕ → Result X FileFault → Type 0
AnswersTake old new into (Ok done) = Takes old new into
AnswersTake old new into (Err of_file.Short) = length (bytes_left old) < length into
AnswersTake old new into (Err of_file.ReadFault) = Unit {0}
AnswersTake old new into (Err fault) = ⊥

-- a part is taken that only has to be there, and what follows it is left
abbrev pub AnswersSkip : {X : Type 0} → (List ℕ → Result (List ℕ) FileFault) → Option (List ℕ) → Option (List ℕ)
    → Result X FileFault → Type 0
AnswersSkip behind old new (Ok done) = behind (bytes_left old) ≡ Ok (bytes_left new)
AnswersSkip behind old new (Err fault) = IsFileFault (behind (bytes_left old)) fault

-- the bytes of one of the two headers are taken
abbrev pub AnswersPart : HeaderKind → Option (List ℕ) → Option (List ℕ) → Result (Vec ℕ Global) FileFault → Type 0
AnswersPart part old new (Ok blob) =
    front_header (bytes_left old) ≡ Ok (record { blob = blob.items; rest = bytes_left new })
AnswersPart part old new (Err fault) = IsFileFault (headed_part part (bytes_left old)) fault

-- a header that is made is too large, or there is no memory for it
abbrev pub IsMadeFault : Result Header FileFault → FileFault → Type 0
IsMadeFault made of_file.NoMemory = Unit {0}
IsMadeFault made of_file.TooLarge = made ≡ Err of_file.TooLarge
IsMadeFault made _ = ⊥

-- the header is the one that is to be made, or there is a fault
abbrev pub AnswersMade : Result Header FileFault → Result Header FileFault → Type 0
AnswersMade made (Ok h) = made ≡ Ok h
AnswersMade made (Err fault) = IsMadeFault made fault

-- a header was made, and these are its bytes
abbrev pub AnswersBytes : Result Header FileFault → Result (Vec ℕ Global) FileFault → Type 0
AnswersBytes made (Ok blob) = (made ≡ Ok (read_again blob.items)) × (header blob.items ≡ Ok (read_again blob.items))
AnswersBytes made (Err fault) = IsMadeFault made fault
