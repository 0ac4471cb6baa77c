-- What the exercise tells of the packages that are left.
use Rattle.std.specs.Prelude.{◌≡◌, ℕ, List, [], ◌∷◌, ◌++◌, length, codes, decimal}
use Rattle.std.specs.List.{flat_map, range_with_len}
use Rattle.std.specs.Ordering.{nat_cmp}
use Rattle.std.specs.FinMap.{FinMap}
use Rattle.hex.specs.Hex.{encode_lower}
use Rattle.sha2.specs.Sha256.{sha256}
use Rattle.rpm_header.specs.Digest.{magic}
use Rattle.rpm_version.specs.Capability.{CapabilityParts}
use Rattle.rpm_db.specs.State.{State, Package, Good, Bad}
use Rattle.rpm_select.specs.declared.selection.Selection.{Selection}
use Rattle.rpm_select.specs.declared.selection.Selection.TheVariants as question
use Rattle.rpm_select.specs.Selections.{picks}
use Rattle.rpm_exercise.specs.Headers.{numbered_word}
use Rattle.rpm_effects.specs.Steps.{Course, ToOut, whole_step, apply_all}
use Rattle.rpm_exercise.specs.declared.survey.Found.{Found}
use Rattle.rpm_exercise.specs.Rounds.{changes}

-- ---- the export

-- a Good header as it is exported, after the magic; of a Bad one nothing goes out
abbrev pub exported_bytes : ℕ × Package → List ℕ
exported_bytes (n, Good bytes) = magic ++ bytes
exported_bytes (n, Bad) = []

-- all packages, by rising number
abbrev pub export_bytes : FinMap nat_cmp Package → List ℕ
export_bytes packages = flat_map exported_bytes (picks packages question.All)

-- ---- a question

-- how many packages a question picks
abbrev pub picked_count : FinMap nat_cmp Package → Selection → ℕ
picked_count packages sel = length (picks packages sel)

-- what is found of it: how many it picks, and the digest of what an export of these would write
abbrev pub IsFound : FinMap nat_cmp Package → Selection → Found → Type 0
IsFound packages sel found = (found.count ≡ picked_count packages sel)
    × (found.digest ≡ sha256 (flat_map exported_bytes (picks packages sel)))

-- ---- the lines

-- a word and how many
abbrev pub count_line : List ℕ → ℕ → List ℕ
count_line word n = word ++ (codes " " ++ (decimal n ++ codes "\n"))

-- a capability of this name, in any version
abbrev pub capability_named : List ℕ → CapabilityParts
capability_named name = record { name = name; flags = 0; evr = [] }

-- the seven capabilities, and how many packages provide each
abbrev pub capability_line : FinMap nat_cmp Package → ℕ → List ℕ
capability_line packages c =
    count_line (numbered_word (codes "cap") c) (picked_count packages
    (question.Provides (capability_named (numbered_word (codes "cap") c))))

-- one line each, by their numbers from 0 to 6
abbrev pub capability_lines : FinMap nat_cmp Package → List ℕ
capability_lines packages = flat_map (capability_line packages) (range_with_len 0 7)

-- a digest in lower-case hex
abbrev pub digest_text : List ℕ → List ℕ
digest_text digest = codes "sha256 " ++ (encode_lower digest ++ codes "\n")

-- a database's digest line is that of what an export writes
abbrev pub digest_line : FinMap nat_cmp Package → List ℕ
digest_line packages = digest_text (sha256 (export_bytes packages))

-- how many packages there are, how many provide each capability, and the digest
unfoldable pub summary : FinMap nat_cmp Package → List ℕ
summary packages = count_line (codes "packages") (picked_count packages question.All)
    ++ (capability_lines packages ++ digest_line packages)

-- ---- the course

-- an exercise makes its changes, and then tells in one step of the packages that they leave
abbrev pub exercise : ℕ → State → Course
exercise n s = record {
  steps = ToOut (whole_step 0) (summary (apply_all (changes n s) s).packages) ∷ [];
  failed = 0;
  changes = changes n s;
}
