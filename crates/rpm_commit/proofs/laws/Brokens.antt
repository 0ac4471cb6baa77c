-- A command that finds the index bad: it was broken when the command found it.
use Rattle.std.proofs.Common.{◌≡◌, ◌⊎◌, ℕ, Bool, true, false, Result, Ok, Err, refl, sym, ◌∙◌, subst, inl, inr}
use Rattle.rpm_effects.specs.declared.tally.Halt.{Halt}
use Rattle.rpm_db.specs.Database.{Database, is_blank_database}
use Rattle.rpm_db.specs.Lawful.{IsWholeIndex}
use Rattle.rpm_db.specs.Openings.{IsOpened, must_rebuild}
use Rattle.rpm_outside.specs.Files.{Files, Units}
use Rattle.rpm_pkgdb.specs.declared.slot.Damage.{Damage}
use Rattle.rpm_commit.specs.Changing.{HasBrokenIndex}
use Rattle.rpm_commit.specs.Working.{done_why, OpensBy}
use Rattle.rpm_change.specs.Progress.{BadTurn, IsBlamed, WholeTurn}
use Rattle.rpm_db.specs.Database.{store_of}
use Rattle.rpm_db.proofs.laws.RoomLaws.{kept_current}
use Rattle.rpm_pkgdb.specs.Store.{Store, store}
use Rattle.rpm_effects.specs.Endings.{why_of_halt}
use Rattle.rpm_effects.specs.declared.answer.Why.{Why}
use Rattle.rpm_effects.specs.declared.tally.Halt.TheVariants as halt
use Rattle.rpm_effects.specs.declared.answer.Why.TheVariants as why
use Rattle.rpm_commit.proofs.laws.Outcomes.{by_done_why}

-- ---- it isn't bad

pub done_unbroken : (n unit : ℕ) → done_why n ≡ why.BadIndex unit → ⊥
done_unbroken n unit = by_done_why (λ (w : Why). w ≡ why.BadIndex unit → ⊥) n (λ none is. cc) (λ some is. cc)

pub open_unbroken : (old new : Files) (sr : Result Store Damage) (w : Why) (unit : ℕ) → OpensBy old sr new (Err w)
    → w ≡ why.BadIndex unit → ⊥
open_unbroken old new (Ok s) w unit opens is = subst (λ (v : Why). OpensBy old (Ok s) new (Err v)) is opens
open_unbroken old new (Err d) w unit opens is = subst (λ (v : Why). OpensBy old (Err d) new (Err v)) is opens

pub halt_unbroken : (idx : Units) (h : Halt) (unit : ℕ) → WholeTurn idx (Err h) → why_of_halt h ≡ why.BadIndex unit → ⊥
halt_unbroken idx (halt.BadIndex u) unit turn is = turn
halt_unbroken idx others unit turn is = cc

-- ---- what opening finds

pub by_bool : {X : Type 0} (b : Bool) → (b ≡ true → X) → (b ≡ false → X) → X
by_bool true holds fails = holds refl
by_bool false holds fails = fails refl

-- an index that isn't well formed after the opening was neither made there nor at first
pub open_broken : (old mid new : Files) (db : Database) → IsOpened old mid (Ok db)
    → ((is_blank_database db ≡ false → IsWholeIndex mid.idx) → IsWholeIndex new.idx)
    → ¬ IsWholeIndex new.idx → HasBrokenIndex old.pkg old.idx
open_broken old mid new db opened goes broken =
    by_bool (must_rebuild old.idx (store old.pkg))
    (λ making. absurd (broken (goes (λ some. (opened.made making).rows_are.whole))))
    (λ making. by_bool (is_blank_database db) (λ blank. absurd
    (broken (goes (λ some. absurd (let wrong : true ≡ false = sym blank ∙ some in cc)))))
    (λ some. record {
      value = (store_of db);
      undamaged = opened.store_is;
      current = kept_current old.idx (store old.pkg) db opened.store_is some making;
      broken = λ whole. broken (goes (λ _. subst (λ (f : Files). IsWholeIndex f.idx) (sym (opened.same making)) whole));
    }))

-- and so is the one that was found, where one that was made would be well formed
pub found_unmade : {X : Type 0} (old new : Units) → (X → IsWholeIndex new) → X ⊎ (new ≡ old) → ¬ IsWholeIndex new
    → new ≡ old
found_unmade old new whole (inl made) broken = absurd (broken (whole made))
found_unmade old new whole (inr same) broken = same

-- it blames a unit of that one
pub halt_blames : (idx : Units) (h : Halt) (unit : ℕ) → BadTurn idx (Err h) → why_of_halt h ≡ why.BadIndex unit
    → IsBlamed idx unit
halt_blames idx (halt.BadIndex u) unit turn is = let same : u ≡ unit = cc in subst (IsBlamed idx) same turn
halt_blames idx others unit turn is = absurd cc
