-- A package file that is read, or refused.
use Rattle.std.proofs.Common.{◌≡◌, ℕ, Bor, List, [], Option, Some, None, Result, Err, refl}
use Rattle.rpm_change.proofs.Vocabulary.{FileFault, GivesInstalled, Header, bytes_left, stop_in}
use Rattle.rpm_file.specs.declared.fault.FileFault.TheVariants as file

-- a path that was opened
pub opened_is : (found rest : Option (List ℕ)) → rest ≡ found → (found ≡ None → ⊥) → found ≡ Some (bytes_left rest)
opened_is None rest is some = absurd (some refl)
opened_is (Some bytes) rest is some = rw is refl

-- the faults that aren't a stop are the file's own
pub own_fault : (said : Result Header FileFault) (f : FileFault) → stop_in f ≡ None → GivesInstalled said (Err f) → said ≡ Err f
own_fault said file.ReadFault none is = absurd cc
own_fault said file.NoMemory none is = absurd cc
own_fault said others none is = is

-- ---- paths

abbrev pub bytes : Bor (List ℕ) → List ℕ
bytes path = path.now

abbrev pub nothing : Bor (List ℕ)
nothing = record { ref_ptr = (0, 0); now = [] }
