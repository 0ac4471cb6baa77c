-- Whether a command found packages where it asks for none, up to its ending.
use Rattle.std.proofs.Common.{◌≡◌, ℕ, Bool, true, false, Result, Ok, Err, refl, subst, Option, Some, None, is_some, ◌∙◌}
use Rattle.std.specs.Prelude.{IfOk}
use Rattle.std.specs.FinMap.{FinMap}
use Rattle.std.specs.Ordering.{nat_cmp}
use Rattle.std.specs.FinMap as finite
use Rattle.rpm_effects.specs.declared.tally.Halt.{Halt}
use Rattle.rpm_db.specs.Database.{Database, holds, IsNext}
use Rattle.rpm_exercise.specs.declared.running.ExerciseFault.{ExerciseFault}
use Rattle.rpm_exercise.specs.declared.running.ExerciseFault.TheVariants.{Halted, NotEmpty}
use Rattle.rpm_outside.specs.Files.{Files, Units}
use Rattle.rpm_pkgdb.specs.declared.slot.Damage.{Damage}
use Rattle.rpm_commit.specs.Changing.{EmptyBy, EmptyIs}
use Rattle.rpm_commit.specs.laws.Words.{EmptyOn}
use Rattle.rpm_commit.specs.Working.{done_why, TransactionCount, OpensBy, OpensIn, why_of, why_of_exercise}
use Rattle.rpm_commit.specs.Stages.{FoundStore}
use Rattle.rpm_db.specs.Database.{store_of}
use Rattle.rpm_db.specs.Openings.{must_rebuild, units_needed}
use Rattle.rpm_db.proofs.laws.PackageLaws.{is_there}
use Rattle.rpm_db.specs.State.{Package, packages, State, state}
use Rattle.rpm_exercise.specs.Endings.{IsRefused}
use Rattle.rpm_effects.specs.Classes.{is_not_empty}
use Rattle.rpm_effects.specs.declared.tally.Tally.{Tally}
use Rattle.rpm_pkgdb.specs.Store.{Store, store}
use Rattle.rpm_effects.specs.Endings.{why_of_halt}
use Rattle.rpm_effects.specs.declared.answer.Why.{Why}
use Rattle.rpm_commit.proofs.laws.Standing.{if_ok, if_ok_at}
use Rattle.rpm_commit.proofs.laws.ByEnding.{by_ends, by_opening, by_uncommitted}
use Rattle.rpm_commit.proofs.laws.Outcomes.{by_done_why}
use Rattle.rpm_commit.proofs.laws.Works.{if_found}
use Rattle.rpm_effects.specs.declared.answer.Why.TheVariants as why
use Rattle.rpm_effects.specs.declared.tally.Halt.TheVariants as halt

-- a command that was done isn't refused so
pub done_unheld : (k : ℕ) → is_not_empty (done_why k) ≡ false
done_unheld k = by_done_why (λ (w : Why). is_not_empty w ≡ false) k (λ zero. refl) (λ some. refl)

-- files with the same packages
pub same_empty : (asks : Bool) (f g : Files) (w : Why) → f.pkg ≡ g.pkg → EmptyBy asks f w → EmptyBy asks g w
same_empty true f g w same empty =
    subst (λ (u : Units). IfOk (store u) (λ value. EmptyIs (packages u value) w)) same empty
same_empty false f g w same empty = empty

-- where one ending says it the other does
empty_as : (v w : Why) → ((map : FinMap nat_cmp Package) → EmptyIs map v → EmptyIs map w) → is_not_empty w ≡ false
    → (asks : Bool) (files : Files)
    → EmptyBy asks files v → EmptyBy asks files w
empty_as v w each other true files empty =
    if_ok (store files.pkg) (λ value is. each (packages files.pkg value) (if_ok_at _ (store files.pkg) value is empty))
empty_as v w each other false files empty = other

-- a command that didn't begin
pub memory_empty : (asks : Bool) (files : Files) → EmptyBy asks files why.NoMemory
memory_empty true files = if_ok (store files.pkg) (λ value is. tt)
memory_empty false files = refl

-- how the transaction ends: a log that is full is told of one that was done
pub transaction_empty : (asks : Bool) (files : Files) (ended : Result Tally Why) (given : Why) (n : ℕ)
    → TransactionCount ended given n → EmptyBy asks files (why_of ended)
    → EmptyBy asks files given
transaction_empty asks files =
    by_ends (λ ended given n. EmptyBy asks files (why_of ended) → EmptyBy asks files given) (λ tally empty. empty)
    (λ tally. by_uncommitted (λ (w : Why). EmptyBy asks files (done_why tally.failed) → EmptyBy asks files w)
    (λ u. empty_as (done_why tally.failed) (why.LogFull u)
    (λ map. by_done_why (λ (w : Why). EmptyIs map w → EmptyIs map (why.LogFull u)) tally.failed (λ zero done. done)
    (λ some done. done)) refl asks files)
    (empty_as (done_why tally.failed) why.DiskFault (λ map done. tt) refl asks files) (λ done. memory_empty asks files))
    (λ w empty. empty) (λ empty. memory_empty asks files)

empty_in : (packages : finite.FinMap nat_cmp Package) (making : _) (needed : ℕ) (s : State) (new : Files) (w : Why)
    → OpensIn making needed s new (Err w)
    → EmptyIs packages w
empty_in packages making needed s new w opens =
    by_opening making needed s new (EmptyIs packages) (λ u full. tt) tt tt w opens

pub empty_unopened : (old new : Files) (w : Why) → OpensBy old (store old.pkg) new (Err w) → EmptyOn old w
empty_unopened old new w opens = if_ok (store old.pkg)
    (λ s is. empty_in (packages old.pkg s) (must_rebuild old.idx (Ok s)) (units_needed old.pkg (Ok s))
    (state old.pkg s) new w
    (subst (λ (sr : Result Store Damage). OpensBy old sr new (Err w)) is opens))

-- a database that was opened says it as its packages do
next_there : (file : Units) (db : Database) (o : Option ℕ) → IsNext (λ m. holds m db) 0 o
    → IsNext (λ n. is_some (finite.get (packages file (store_of db)) n)) 0 o
next_there file db None none = λ k above. is_there file db k ∙ none k above
next_there file db (Some m) next =
    (next.0, is_there file db m ∙ next.1, λ k above below. is_there file db k ∙ next.2 k above below)

empty_halt : (packages : finite.FinMap nat_cmp Package) (h : Halt)
    → IsNext (λ n. is_some (finite.get packages n)) 0 None → EmptyIs packages (why_of_halt h)
empty_halt packages (halt.IndexFull u) none = tt
empty_halt packages halt.DiskFault none = tt
empty_halt packages halt.NoMemory none = tt
empty_halt packages others none = none

module _ (old mid : Files) (db : Database) (opens : OpensBy old (store old.pkg) mid (Ok db))
    (is : FoundStore old mid db) where
  empty_at : (w : Why) → EmptyIs (packages mid.pkg (store_of db)) w → EmptyOn old w
  empty_at w empty = if_found old mid db opens is (λ value s v. EmptyIs s.packages w) empty

  pub empty_stopped : (fault : ExerciseFault) → IsRefused (IsNext (λ m. holds m db) 0) (Err fault)
      → EmptyOn old (why_of_exercise fault)
  empty_stopped (NotEmpty held) next = empty_at (why.NotEmpty held) (next_there mid.pkg db (Some held) next)
  empty_stopped (Halted h) none =
      empty_at (why_of_halt h) (empty_halt (packages mid.pkg (store_of db)) h (next_there mid.pkg db None none))

  pub empty_done : (k : ℕ) → IsNext (λ m. holds m db) 0 None → EmptyOn old (done_why k)
  empty_done k none =
      let there = next_there mid.pkg db None none in
      empty_at (done_why k) (by_done_why (EmptyIs (packages mid.pkg (store_of db))) k (λ zero. there) (λ some. there))
