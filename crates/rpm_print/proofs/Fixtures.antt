-- The definitions, computed on a small package and its blocks: what they say doesn't come from the code.
use Rattle.std.specs.Prelude.{◌≡◌, ℕ, List, [], ◌∷◌, ◌++◌, replicate, Option, Some, None, Err, codes, refl}
use Rattle.rpm_print.proofs.Vocabulary.{are_ended, Bad, BadMagic, BadPages, BadRange, BadSlot, BadType, blob_in, entry_fault, entry_of, fault_at, frame_of}
use Rattle.rpm_print.proofs.Vocabulary.{head_reason, header, header_of, is_head, is_tail, number_at, numbers, option_map, Overlap, own_reason, package_of}
use Rattle.rpm_print.proofs.Vocabulary.{read_as, Reason, SameNumber, shared_reason, slot_of, texts, Units, units_of, word}
use Rattle.rpm_header.specs.Header.{entries}

-- the name a, the version 1, the release 2 and the architecture x; the first entry has this type
unfoldable pub small : ℕ → List ℕ
small kind =
    0 ∷ 0 ∷ 0 ∷ 4 ∷ 0 ∷ 0 ∷ 0 ∷ 8 ∷ 0 ∷ 0 ∷ 3 ∷ 232 ∷ 0 ∷ 0 ∷ 0 ∷ kind ∷ 0 ∷ 0 ∷ 0 ∷ 0 ∷ 0 ∷ 0 ∷ 0 ∷ 1 ∷ 0 ∷ 0 ∷ 3
    ∷ 233 ∷ 0 ∷ 0 ∷ 0 ∷ 6 ∷ 0 ∷ 0 ∷ 0 ∷ 2 ∷ 0 ∷ 0 ∷ 0 ∷ 1 ∷ 0 ∷ 0 ∷ 3 ∷ 234 ∷ 0 ∷ 0 ∷ 0 ∷ 6 ∷ 0 ∷ 0 ∷ 0 ∷ 4 ∷ 0 ∷ 0
    ∷ 0 ∷ 1 ∷ 0 ∷ 0 ∷ 3 ∷ 254 ∷ 0 ∷ 0 ∷ 0 ∷ 6 ∷ 0 ∷ 0 ∷ 0 ∷ 6 ∷ 0 ∷ 0 ∷ 0 ∷ 1 ∷ 97 ∷ 0 ∷ 49 ∷ 0 ∷ 50 ∷ 0 ∷ 120 ∷ 0
    ∷ []

-- there are no types above 9
no_type : header (small 10) ≡ Err (BadType 0)
unfolding small header header_of entries entry_of entry_fault fault_at number_at numbers texts are_ended
no_type = refl

-- the numbers that stand after a magic, the lowest byte first; none is above 65,535
low : ℕ → ℕ → List ℕ
low first second = first ∷ second ∷ 0 ∷ 0 ∷ []

head : ℕ → List ℕ
head pages = codes "RpmP" ++ low 0 0 ++ low 1 0 ++ low pages 0

made : (head_reason 263 (head 1) ≡ None) × (head_reason 263 (head 2) ≡ Some BadPages) × (head_reason 263 (replicate 16 1) ≡ Some BadMagic)
unfolding head low head_reason word
made = (refl, refl, refl)

-- a slot of seven blocks from block 256 + first on
slot : ℕ → ℕ → List ℕ
slot number first = codes "Slot" ++ low number 0 ++ low first 1 ++ low 7 0

whole : (own_reason 1 263 (slot 2 0) ≡ None) × (own_reason 1 262 (slot 2 0) ≡ Some BadRange) × (own_reason 1 263 (replicate 16 0) ≡ Some BadSlot)
unfolding slot low own_reason word
whole = (refl, refl, refl)

-- beside the slot of number 3 in the seven blocks before
beside : List ℕ → Option Reason
beside unit = shared_reason (slot_of (slot 3 0) ∷ []) (slot_of unit)

alone : (beside (slot 2 7) ≡ None) × (beside (slot 3 7) ≡ Some SameNumber) × (beside (slot 2 6) ≡ Some Overlap) × (beside (slot 3 6) ≡ Some SameNumber)
unfolding beside slot low shared_reason word
alone = (refl, refl, refl, refl)

-- the blocks of number 2, of which the last ends in this byte
blocks : ℕ → Units
blocks last =
    (codes "BlbS" ++ low 2 0 ++ low 1 0 ++ low 80 0)
    ∷ units_of (small 6) ++ ((0 ∷ 0 ∷ 0 ∷ 0 ∷ 236 ∷ 6 ∷ 209 ∷ 112 ∷ []) ++ low 80 0 ++ codes "Blb" ++ (last ∷ [])) ∷ []

-- they follow one unit of something else
read : ℕ → ℕ → Option (List ℕ)
read n last = option_map blob_in (frame_of n (record { number = n; offset = 1; count = 7 }) (replicate 16 0 ∷ blocks last))

framed : (read 2 69 ≡ Some (small 6)) × (read 2 70 ≡ None) × (read 3 69 ≡ None)
unfolding read blocks small low is_head is_tail word
framed = (refl, refl, refl)

-- a package whose last byte is another can't be read, nor one whose header has a fault
broken : (package_of (read 2 70) ≡ Bad) × (read_as (header (small 10)) ≡ Bad)
unfolding read blocks small low is_head is_tail word header header_of entries entry_of entry_fault fault_at number_at numbers texts are_ended
broken = (refl, refl)
