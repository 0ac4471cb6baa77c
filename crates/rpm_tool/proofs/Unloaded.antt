-- What is said where the log's changes can't be loaded, or the database not be opened.
use Rattle.std.proofs.Common.{◌≡◌, ◌+◌, ◌≤◌, ℕ, false, List, [], Result, Err, refl, sym, subst}
use Rattle.rpm_tool.proofs.Vocabulary.{AskParts, request_of, PlainProgress, is_foreign, is_of_streams, LogAnswer, LogState, StoreAnswer, Outputs}
use Rattle.rpm_tool.proofs.Vocabulary.{read_to, store, Store, Through, Tree, Units}
use Rattle.rpm_effects.specs.Endings.{why_of_load, why_of_open}
use Rattle.rpm_db.specs.declared.open_fault.DbOpenFault.{DbOpenFault}
use Rattle.rpm_db.specs.declared.open_fault.DbOpenFault.TheVariants as opening
use Rattle.rpm_group.specs.Loads.{LoadSays}
use Rattle.rpm_group.specs.declared.load.LoadFault.{LoadFault}
use Rattle.rpm_group.specs.declared.load.LoadFault.TheVariants as load
use Rattle.rpm_effects.specs.declared.answer.Why.TheVariants as why
use Rattle.rpm_tool.proofs.Requests.{does_fault, does_memory}
use Rattle.rpm_tool.proofs.Loading.{loaded_fault, loaded_memory, opened_fault, opened_memory}

pub unloaded : (tree : Tree) (words : List (List ℕ)) (a : AskParts) (file : Units) (before now : ℕ) (x : Outputs) → Through [] x x → (log : LogState)
    (fault : LoadFault) → LoadSays log (Err fault) → LogAnswer (PlainProgress tree words a file before now) (store file) log (why_of_load fault) x x
unloaded tree words a file before now x none log (load.BadLog unit) says =
    subst (λ (l : LogState). LogAnswer (PlainProgress tree words a file before now) (store file) l (why.BadLog unit) x x) (sym says) (refl, none)
unloaded tree words a file before now x none log load.DiskFault says =
    loaded_fault (PlainProgress tree words a file before now) (store file) x none
    (λ (s : Store). does_fault tree file s words a (λ for. now ≤ before + read_to file words a s for) x none (request_of a.mode)) log
unloaded tree words a file before now x none log load.NoMemory says =
    loaded_memory (PlainProgress tree words a file before now) (store file) x none
    (λ (s : Store). does_memory tree file s words a (λ for. now ≤ before + read_to file words a s for) x none (request_of a.mode)) log

pub load_own : (fault : LoadFault) → is_foreign (why_of_load fault) ≡ false
load_own (load.BadLog unit) = refl
load_own load.DiskFault = refl
load_own load.NoMemory = refl

pub load_streams : (fault : LoadFault) → is_of_streams (why_of_load fault) ≡ false
load_streams (load.BadLog unit) = refl
load_streams load.DiskFault = refl
load_streams load.NoMemory = refl

abbrev pub IsFault : Result (Unit {0}) LoadFault → Type 0
IsFault result = result ≡ Err load.DiskFault

pub load_fault : (fault : LoadFault) → why_of_load fault ≡ why.DiskFault → IsFault (Err fault)
load_fault (load.BadLog unit) is = absurd cc
load_fault load.DiskFault is = refl
load_fault load.NoMemory is = absurd cc

-- ---- the database

pub open_own : (fault : DbOpenFault) → is_foreign (why_of_open fault) ≡ false
open_own (opening.Damaged d) = refl
open_own (opening.IndexFull n) = refl
open_own opening.DiskFault = refl
open_own opening.NoMemory = refl

pub open_streams : (fault : DbOpenFault) → is_of_streams (why_of_open fault) ≡ false
open_streams (opening.Damaged d) = refl
open_streams (opening.IndexFull n) = refl
open_streams opening.DiskFault = refl
open_streams opening.NoMemory = refl

module _ (tree : Tree) (words : List (List ℕ)) (a : AskParts) (file : Units) (before now : ℕ) (x : Outputs) (none : Through [] x x) where
  pub unopened_fault : StoreAnswer (PlainProgress tree words a file before now) (store file) why.DiskFault x x
  unopened_fault = opened_fault (PlainProgress tree words a file before now) (store file) x none
      (λ (s : Store). does_fault tree file s words a (λ for. now ≤ before + read_to file words a s for) x none (request_of a.mode)) (store file)

  pub unopened_memory : StoreAnswer (PlainProgress tree words a file before now) (store file) why.NoMemory x x
  unopened_memory = opened_memory (PlainProgress tree words a file before now) (store file) x none
      (λ (s : Store). does_memory tree file s words a (λ for. now ≤ before + read_to file words a s for) x none (request_of a.mode)) (store file)
