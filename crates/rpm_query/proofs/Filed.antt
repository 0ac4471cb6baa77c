-- What is said of package files.
use Rattle.std.proofs.Common.{◌≡◌, ℕ, Bool, true, false, not, ◌||◌, List, [], Option, Some, None, Result, Err, refl, sym, ap, ◌∙◌, subst}
use Rattle.rpm_query.proofs.Vocabulary.{Anywhere, file_part, FileFault, HeaderAndRest, is_bad, is_out}
use Rattle.rpm_query.proofs.Vocabulary.{IsFileFault, bytes_left, Outputs, package_header, PartIs, Paths, PartProgress, Portion, read_part, Step, Halt, Through, Tree, whole_step}
use Rattle.rpm_effects.specs.Endings.{stop_in}
use Rattle.rpm_effects.specs.Portions.{fails}
use Rattle.rpm_effects.specs.Steps.{ToErr}
use Rattle.rpm_effects.specs.Texts.{absent_line}
use Rattle.rpm_file.specs.declared.fault.FileFault.TheVariants as file
use Rattle.rpm_effects.specs.declared.tally.Halt.TheVariants as halt
use Rattle.rpm_effects.proofs.laws.Reaching.{not_begun}

-- what is printed of a package file, a line where it isn't there
abbrev pub found_part : Tree → ℕ → List ℕ → Option (List ℕ) → Portion
found_part tree j path None = fails (ToErr (whole_step j) (absent_line path))
found_part tree j path (Some bytes) = read_part tree j path (package_header bytes)

pub found_open : (tree : Tree) (j : ℕ) (path : List ℕ) (found rest : Option (List ℕ)) → rest ≡ found → (found ≡ None → ⊥)
    → found_part tree j path found ≡ read_part tree j path (package_header (bytes_left rest))
found_open tree j path None rest is some = absurd (some refl)
found_open tree j path (Some bytes) rest is some = ap (λ (r : Option (List ℕ)). read_part tree j path (package_header (bytes_left r))) (sym is)

-- where a read stops a command, nothing was written
pub unread : (fault : FileFault) (h : Halt) (all : List Step) (old new : Outputs) → stop_in fault ≡ Some h → Through [] old new
    → PartProgress {T = Bool} all (Err h) old new Anywhere
unread file.ReadFault h all old new is t =
    let same : halt.ShelfFault ≡ h = cc in subst (λ (k : Halt). PartProgress {T = Bool} all (Err k) old new Anywhere) same (not_begun t)
unread file.NoMemory h all old new is t =
    let same : halt.NoMemory ≡ h = cc in subst (λ (k : Halt). PartProgress {T = Bool} all (Err k) old new Anywhere) same (not_begun t)
unread others h all old new is t = absurd cc

pub read_stop : (fault : FileFault) → stop_in fault ≡ Some halt.ShelfFault → fault ≡ file.ReadFault
read_stop file.ReadFault is = refl
read_stop others is = absurd cc

-- the others are the file's own
pub own_fault : (found : Result HeaderAndRest FileFault) (fault : FileFault) → stop_in fault ≡ None → IsFileFault found fault → found ≡ Err fault
own_fault found file.ReadFault none is = absurd cc
own_fault found file.NoMemory none is = absurd cc
own_fault found others none is = is

pub fails_one : (s : Step) (to_out : Bool) → is_out s ≡ to_out → (is_bad s || false) ≡ not to_out
fails_one s to_out is = or_false (not (is_out s)) ∙ ap not is
  where
    or_false : (b : Bool) → (b || false) ≡ b
    or_false true = refl
    or_false false = refl

-- what is said of the paths as they are is said of them as they were
pub file_here : (tree : Tree) (j : ℕ) {now old : Paths} {path word : List ℕ} {r : Result Bool Halt} {x y : Outputs} → now ≡ old → path ≡ word
    → PartIs (file_part tree now j path) r x y Anywhere → PartIs (file_part tree old j word) r x y Anywhere
file_here tree j {now = now} {word = word} {r = r} {x = x} {y = y} same is part =
    subst (λ (ps : Paths). PartIs (file_part tree ps j word) r x y Anywhere) same
    (subst (λ (text : List ℕ). PartIs (file_part tree now j text) r x y Anywhere) is part)
