-- A database that is opened with its index, and then asked.
use Rattle.rpm_tool.proofs.Vocabulary.{asked_reaches, AskParts, BadIs, Bearer, blank_unpaged, CauseIs, Database, Files, has_index, HasUsableIndex}
use Rattle.rpm_tool.proofs.Vocabulary.{HasIndexRows, is_blank_database, is_indexed, IsOpened, IsUsable, kept_current, made_paged, must_rebuild, no_index_rows}
use Rattle.rpm_tool.proofs.Vocabulary.{packages, OnlyReadsIndexed, Reach, reach_sum, reached_by, store_of, Runs, Store, store, without_index, Units, Why}
use Rattle.rpm_db.specs.Database.{IsIndexed}
use Rattle.rpm_db.specs.Lawful.{HasRows, is_current_at}
use Rattle.rpm_outside.specs.declared.disk.Disk as disk
use Rattle.rpm_outside.specs.Frame.{CrashLeaves}
use Rattle.std.proofs.Common.{◌≡◌, ℕ, ◌≤◌, Bool, true, false, not, List, Ok, refl, sym, ap, ◌∙◌, subst, inl, inr, arith}
use Rattle.std.specs.Prelude.{IsTrue, ◌⊎◌}
use Rattle.std.proofs.lemmas.Bool.{cases_Bool}
use Rattle.rpm_effects.specs.declared.answer.Why.TheVariants as why
use Rattle.rpm_query.proofs.laws.Sums.{store_by, store_sum}

-- ---- a run of calls that opened the database, and then looked things up

module _ {D : Type 0} (d : disk.Ghosts D) {indexed : Bool} {a b c : D} (peeks : OnlyReadsIndexed d indexed b c) where
  pub leaves_peeks : {P : Files → Type 0} → IsTrue d.tells → CrashLeaves d a b P → CrashLeaves d a c P
  leaves_peeks told first = record {
    later = omega (arith, first.later, peeks.moment_stays);
    each = λ image is. first.each image ((peeks.untouched told).images (d.moment a) image is);
    before = λ t image le is. first.before t image le ((peeks.untouched told).images t image is);
  }

  pub runs_peeks : ((x y z : D) → d.follows x y → d.follows y z → d.follows x z) → {P : Files → Files → Type 0} → Runs d P a b → Runs d P a c
  runs_peeks goes {P = P} runs = record {
    reads_as = λ told. subst (λ (f : Files). P (d.files a) f) (sym (peeks.untouched told).same) (runs.reads_as told);
    now = λ told image is.
        runs.now told image (subst (λ (t : ℕ). d.left_since b t image) peeks.moment_stays ((peeks.untouched told).images (d.moment c) image is));
    any_moment = λ told. leaves_peeks told (runs.any_moment told);
    reads = record { no_less = λ f. omega (arith, runs.reads.no_less f, peeks.no_less f); log = omega (arith, runs.reads.log, peeks.log) };
    goes_on = goes a b c runs.goes_on peeks.goes_on;
  }

-- ---- what is read

-- up to a step of an argument, and of all arguments: what a question by key goes over
module _ (file : Units) (db : Database) (indexed : is_indexed db ≡ not (is_blank_database db)) (words : List (List ℕ)) (a : AskParts) where
  abbrev over : List Reach
  over = asked_reaches (has_index (store_of db)) file (store_of db) words a

  pub keyed_by : (for : Bearer) → reached_by (asked_reaches (is_indexed db) file (store_of db) words a) db for
      ≤ reached_by over (without_index (store_of db)) for
  keyed_by for = rw indexed (omega (arith, store_by over db for))

  pub keyed_sum : reach_sum (asked_reaches (is_indexed db) file (store_of db) words a) db ≤ reach_sum over (without_index (store_of db))
  keyed_sum = rw indexed (omega (arith, store_sum over db))

-- ---- what opening says of the index

not_not : (b : Bool) → not b ≡ true → b ≡ false
not_not true is = absurd cc
not_not false is = refl

module _ (old new : Files) (db : Database) (opened : IsOpened old new (Ok db)) (pkg : new.pkg ≡ old.pkg)
    (indexed : is_indexed db ≡ not (is_blank_database db)) where
  not_blank : is_indexed db ≡ true → is_blank_database db ≡ false
  not_blank some = not_not (is_blank_database db) (sym indexed ∙ some)

  -- an index that is kept has the rows
  module _ (some : is_blank_database db ≡ false) (usable : IsUsable old.pkg old.idx) where
    room_is : usable.value ≡ store_of db
    room_is = let both : Ok usable.value ≡ Ok (store_of db) = sym usable.undamaged ∙ opened.store_is in cc

    paged_rows : ((store_of db).pages ≡ 0) ⊎ HasRows (packages old.pkg (store_of db)) old.idx → HasRows (packages old.pkg (store_of db)) old.idx
    paged_rows (inl none) = absurd (omega (arith, made_paged db some, none))
    paged_rows (inr rows) = rows

    kept_indexed : must_rebuild old.idx (store old.pkg) ≡ false → IsIndexed new.pkg new.idx db
    kept_indexed kept =
        let current = kept_current old.idx (store old.pkg) db opened.store_is some kept in
        subst (λ (f : Files). IsIndexed f.pkg f.idx db) (sym (opened.same kept)) (record {
          current = current;
          rows_are = paged_rows (subst (λ (s : Store). is_current_at s.generation old.idx ≡ true
              → (s.pages ≡ 0) ⊎ HasRows (packages old.pkg s) old.idx) room_is usable.index current);
        })

    opened_indexed : IsIndexed new.pkg new.idx db
    opened_indexed = elim (cases_Bool (must_rebuild old.idx (store old.pkg))) [
      | inl making ↦ opened.made making
      | inr kept ↦ kept_indexed kept
    ]

  pub opened_rows : IsUsable old.pkg old.idx → HasIndexRows db new.pkg new.idx
  opened_rows usable = λ some. (opened_indexed (not_blank some) usable).rows_are

  -- it is there, and holds the rows
  pub opened_index : IsUsable old.pkg old.idx → HasUsableIndex new.pkg new.idx
  opened_index usable = record {
    value = (store_of db);
    undamaged = ap store pkg ∙ opened.store_is;
    index = elim (cases_Bool (is_blank_database db)) [
      | inl blank ↦ inl (blank_unpaged db blank)
      | inr some ↦ (let is = opened_indexed some usable in inr (is.current, is.rows_are))
    ];
  }

  -- where it was current, nothing changes; where it wasn't, it holds the rows
  module _ (words : List (List ℕ)) (a : AskParts) where
    broken : (unit : ℕ) → (HasIndexRows db new.pkg new.idx → ⊥) → CauseIs words a new.idx (why.BadIndex unit) → BadIs words a old (why.BadIndex unit)
    broken unit lawful cause = elim (cases_Bool (is_blank_database db)) [
      | inl blank ↦ absurd (lawful (no_index_rows db new.pkg new.idx (indexed ∙ ap not blank)))
      | inr some ↦ elim (cases_Bool (must_rebuild old.idx (store old.pkg))) [
        | inl making ↦ absurd (lawful (λ is. (opened.made making).rows_are))
        | inr kept ↦ (
          (store_of db),
          opened.store_is,
          kept_current old.idx (store old.pkg) db opened.store_is some kept,
          subst (λ (f : Files). CauseIs words a f.idx (why.BadIndex unit)) (opened.same kept) cause,
        )
      ]
    ]

    pub bad_opened : (w : Why) → ((unit : ℕ) → w ≡ why.BadIndex unit → HasIndexRows db new.pkg new.idx → ⊥) → CauseIs words a new.idx w → BadIs words a old w
    bad_opened (why.BadIndex unit) lawful cause = broken unit (lawful unit refl) cause
    bad_opened others lawful cause = tt
