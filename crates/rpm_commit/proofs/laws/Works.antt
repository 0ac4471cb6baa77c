-- From the opening of a database to the last change of a command: how its courses end.
use Rattle.std.proofs.Common.{◌≡◌, ◌^◌, ◌≤◌, Bool, true, false, Option, Result, Ok, Err, refl, sym, subst}
use Rattle.std.specs.Prelude.{IfOk}
use Rattle.rpm_effects.specs.Progress.{CourseProgress, Outputs}
use Rattle.rpm_change.specs.Limits.{limit_of_changes, MeetsLimit}
use Rattle.rpm_effects.specs.Steps.{Course}
use Rattle.rpm_effects.specs.declared.tally.Halt.{Halt}
use Rattle.rpm_db.specs.Database.{Database}
use Rattle.rpm_outside.specs.Files.{Files, Units}
use Rattle.rpm_pkgdb.specs.Blobs.{blobs}
use Rattle.rpm_pkgdb.specs.Store.{in_file, Store, store}
use Rattle.rpm_pkgdb.specs.declared.slot.Damage.{Damage}
use Rattle.rpm_commit.specs.laws.Words.{command_limit}
use Rattle.rpm_commit.specs.Reaches.{begun_store}
use Rattle.rpm_commit.specs.Stages.{FoundStore}
use Rattle.rpm_db.specs.Database.{store_of}
use Rattle.rpm_db.specs.Openings.{must_rebuild, units_needed}
use Rattle.rpm_db.specs.Rows.{rows}
use Rattle.rpm_db.specs.State.{packages, State, state}
use Rattle.rpm_commit.specs.laws.Words.{is_rebuilt}
use Rattle.rpm_commit.specs.Working.{OpensBy, UncommittedProgress, WorkBy, WorkOnStore}
use Rattle.rpm_effects.specs.declared.tally.Tally.{Tally}
use Rattle.rpm_hindex.specs.Sizes.{units_for}
use Rattle.rpm_effects.specs.Endings.{why_of_halt}
use Rattle.rpm_effects.specs.declared.answer.Why.{Why}
use Rattle.rpm_effects.specs.declared.tally.Halt.TheVariants as halt
use Rattle.rpm_commit.proofs.laws.Limited.{small_command}
use Rattle.rpm_commit.proofs.laws.Standing.{ok_is}

-- a store says the same as what its file says of it
pub state-in_file : (file : Units) (value : Store) → state file (in_file value) ≡ state file value
unfolding packages blobs
state-in_file file value = refl

pub halt_stopped : (c : Course) (s t : State) (h : Halt) (before now : Outputs)
    → CourseProgress c s t (Err h) before now → UncommittedProgress c (why_of_halt h) before now
halt_stopped c s t halt.NumbersSpent before now ended = ended
halt_stopped c s t others before now ended = ended

module _ (old mid : Files) (db : Database) (opens : OpensBy old (store old.pkg) mid (Ok db))
    (is : FoundStore old mid db) where
  -- the state that was opened
  abbrev found_state : State
  found_state = state mid.pkg (store_of db)

  pub opened : (found_state ≡ state old.pkg is.value)
      × (must_rebuild old.idx (Ok is.value) ≡ true → units_needed old.pkg (Ok is.value) ≤ 2 ^ 28)
  opened = subst (λ (sr : Result Store Damage). OpensBy old sr mid (Ok db)) is.undamaged opens

  -- what holds of it and of its store holds of those that are found
  at_found : (P : State → Store → Type 0) → P found_state (store_of db)
      → P (state old.pkg is.value) (begun_store is.value)
  at_found P holds = subst (λ (s : State). P s (begun_store is.value)) opened.0
      (subst (λ (v : Store). P found_state v) is.store_is holds)

  pub if_found : (P : Store → State → Store → Type 0) → P is.value found_state (store_of db)
      → IfOk (store old.pkg) (λ value. P value (state old.pkg value) (begun_store value))
  if_found P holds =
      ok_is (λ (value : Store). P value (state old.pkg value) (begun_store value)) (store old.pkg) is.value is.undamaged
      (at_found (P is.value) holds)

  pub worked_by : (course : State → Course) (new : Files) (ended : Result Tally Why) (before now : Outputs)
      → WorkOnStore (course found_state) found_state new ended before now
      → WorkBy course old.pkg (store old.pkg) new ended before now
  worked_by course new ended before now worked =
      subst (λ (sr : Result Store Damage). WorkBy course old.pkg sr new ended before now)
      (sym is.undamaged) (at_found (λ s v. WorkOnStore (course s) s new ended before now) worked)

  -- of a command that makes no index anew: where opening made one it had room
  pub plain_stops : (indexed : Bool) (course : State → Course) (r : Result Tally Halt)
      → MeetsLimit indexed (limit_of_changes indexed found_state (store_of db) (course found_state).changes) r
      → MeetsLimit indexed (command_limit indexed (is_rebuilt false old.idx is.value) found_state (store_of db)
      (course found_state).changes) r
  plain_stops indexed course r stops = subst (λ (first : Option Halt). MeetsLimit indexed first r)
      (sym (small_command indexed (is_rebuilt false old.idx is.value) found_state (store_of db)
      (course found_state).changes
      (λ made. subst (λ (s : State). units_for (rows s.packages) ≤ 2 ^ 28) (sym opened.0) (opened.1 made)))) stops
