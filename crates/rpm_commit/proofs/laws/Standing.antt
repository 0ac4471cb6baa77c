-- What holds of a result or a part of it, and images that represent lawful files.
use Rattle.std.proofs.Common.{◌≡◌, ◌∙◌, Bool, true, false, eqb, Result, Ok, Err, refl, sym, ap, subst, inl, inr}
use Rattle.std.proofs.Common.{⊎_elim, arith}
use Rattle.std.specs.Prelude.{IfOk}
use Rattle.std.proofs.lemmas.Bool.{and_parts, eqb-true}
use Rattle.rpm_db.specs.Lawful.{HasRows, IsLawful, is_current_at}
use Rattle.rpm_db.specs.State.{packages}
use Rattle.rpm_group.specs.Loads.{IsSound}
use Rattle.rpm_hindex.specs.State.{is_current, is_in_order, sealed_generation, opened_state}
use Rattle.rpm_outside.specs.Files.{Files, unit_at, Units}
use Rattle.rpm_outside.specs.Logs.{Closed, log_state, LogState, reopened_files, without_log, with_state}
use Rattle.rpm_pkgdb.specs.Store.{blank_store, Store, store}
use Rattle.rpm_commit.specs.Changing.{IsDatabaseMade}
use Rattle.rpm_commit.specs.Lawful.{HasUsableIndex, IsLawfulDatabase, MayBegin}
use Rattle.rpm_group.specs.Crashes.{ReopensAs}

pub if_ok : {T E : Type 0} {P : T → Type 0} (x : Result T E) → ((t : T) → x ≡ Ok t → P t) → IfOk x P
if_ok (Ok t) each = each t refl
if_ok (Err e) each = tt

pub if_ok_at : {T E : Type 0} (P : T → Type 0) (x : Result T E) (t : T) → x ≡ Ok t → IfOk x P → P t
if_ok_at P x t is each = subst (λ (y : _). IfOk y P) is each

pub ok_is : {T E : Type 0} (P : T → Type 0) (x : Result T E) (t : T) → x ≡ Ok t → P t → IfOk x P
ok_is P x t is here = subst (λ (y : _). IfOk y P) (sym is) here

-- what is asked of the files at the start, and of a part of them
pub begins : {Lawful : Type 0} (anew : Bool) → Lawful → MayBegin anew Lawful
begins true lawful = tt
begins false lawful = lawful

pub may_begin : {A B : Type 0} (anew : Bool) → (A → B) → MayBegin anew A → MayBegin anew B
may_begin true f may = tt
may_begin false f may = f may

-- files with a closed log represent themselves
pub shut_stands : (files : Files) → log_state files.log ≡ Closed → reopened_files files ≡ without_log files
shut_stands files closed = ap (λ (l : LogState). with_state l (without_log files)) closed

-- a database that was made has its index, where it has a usable one
made_index : (pkg idx : Units) → IsDatabaseMade pkg → (has : HasUsableIndex pkg idx)
    → (is_current_at has.value.generation idx ≡ true) × HasRows (packages pkg has.value) idx
made_index pkg idx made has =
    let both = sym made.undamaged ∙ has.undamaged in
    let same : made.value ≡ has.value = cc in
    ⊎_elim (λ none. absurd (omega (arith, made.paged, ap (λ (s : Store). s.pages) same, none))) (λ index. index)
    has.index

-- files with such an index are lawful
pub usable_lawful : (pkg idx : Units) → IsDatabaseMade pkg → HasUsableIndex pkg idx → IsLawful pkg idx
unfolding is_current
usable_lawful pkg idx made has =
    let index = made_index pkg idx made has in inr (
      has.value,
      has.undamaged,
      record {
        rows_are = λ current. index.1;
        no_later =
            (let same = eqb-true (sealed_generation (unit_at idx 0)) has.value.generation
            (and_parts (eqb (sealed_generation (unit_at idx 0)) has.value.generation)
            (is_in_order (opened_state idx)) index.0).0 in
            omega (arith, same));
      },
    )

pub lawful_store : (pkg idx : Units) → IsLawful pkg idx → (s : Store) × (store pkg ≡ Ok s)
lawful_store pkg idx (inl blank) = (blank_store, blank)
lawful_store pkg idx (inr made) = (made.0, made.1)

-- an image that represents lawful files
pub stands_lawful : (files image : Files) → ReopensAs files image → IsLawful files.pkg files.idx
    → IsLawfulDatabase image
stands_lawful files image stands lawful = record {
  sound = stands.sound;
  lawful = subst (λ (f : Files). IsLawful f.pkg f.idx) (sym stands.same) lawful;
}

-- files with a closed log are, where they are lawful
pub shut_lawful : (files : Files) → log_state files.log ≡ Closed → IsLawful files.pkg files.idx → IsLawfulDatabase files
shut_lawful files closed = stands_lawful (without_log files) files
    (record { same = shut_stands files closed; sound = subst IsSound (sym closed) tt })
