-- What is said of an argument once a picker goes over what its question picks.
use Rattle.std.proofs.Common.{◌≡◌, ℕ, ◌+◌, ◌≤◌, Bool, false, Bor, List, Result, Some, refl, sym, subst, arith}
use Rattle.std.specs.Prelude.{IsTrue}
use Rattle.rpm_outside.specs.declared.disk.Disk as disk
use Rattle.rpm_outside.specs.Frame.{OnlyReads, OnlyReadsFile}
use Rattle.rpm_select.specs.Reach.{asks_index}
use Rattle.rpm_select.specs.Frame.{HasKeptRows}
use Rattle.rpm_query.proofs.Vocabulary.{answered_part, argument_part, argument_reach, Chosen, Database, Files, Halt, Idx, is_indexed, not_asked, Outputs}
use Rattle.rpm_query.proofs.Vocabulary.{packages, packages_in, PartIs, OnlyReadsIndexed, picks, Pkg, pkg_read, question_of, reach, Reach, reach_all, ReadsOf}
use Rattle.rpm_query.proofs.Vocabulary.{Recalls, Recent, store_of}
use Rattle.rpm_query.proofs.Vocabulary.{Selection, Serves, Tree}
use Rattle.rpm_effects.proofs.laws.Parts.{part_reads}
use Rattle.rpm_print.proofs.laws.Peeking.{peeks_index, peeks_packages, peeks_then}
use Rattle.rpm_query.proofs.Questions.{picked_is, reach_is}
use Rattle.rpm_print.proofs.laws.Reached.{served}

module _ {D : Type 0} (d : disk.Ghosts D) (db : Database) (chosen : Chosen) (text : Bor (List ℕ)) {x y : D} {sel : Selection} {p : Reach}
    (asked : question_of chosen text ≡ Some sel) (looks : OnlyReadsFile d Idx x y)
    (over : IsTrue d.tells → HasKeptRows d x db → p ≡ reach (asks_index db sel) sel (packages_in d x db)) where
  pub picking_part : (IsTrue d.tells → HasKeptRows d x db → Serves p (packages_in d x db) sel) → (tree : Tree) (after now : ℕ) (recent : Recent)
      {r : Result Bool Halt} {old new : Outputs} → (IsTrue d.tells → Serves p (packages_in d y db) sel → Recalls (packages_in d y db) recent → (j : ℕ)
      → PartIs (answered_part tree chosen after j text.now (picks (packages_in d y db) sel)) r old new (ReadsOf j p db (pkg_read d y) now))
      → IsTrue d.tells → HasKeptRows d x db → Recalls (packages_in d x db) recent → (j : ℕ)
      → PartIs (argument_part tree (packages_in d x db) chosen after j text.now) r old new
      (ReadsOf j (argument_reach (is_indexed db) (packages_in d x db) chosen text.now) db (pkg_read d x) now)
  picking_part serves tree after now recent {r = r} {old = old} {new = new} went told rows holds j =
      let map = packages_in d x db in
      let same = (looks.untouched told).same in
      rw (picked_is map chosen text asked, reach_is map chosen text asked (is_indexed db), ← over told rows)
      (part_reads _ _ old new (ReadsOf j p db (pkg_read d y) now) _ (λ b read. (read.0, omega (arith, read.1, looks.reads.pkg)))
      (subst (λ (f : Files). PartIs (answered_part tree chosen after j text.now (picks (packages f.pkg (store_of db)) sel)) r old new
      (ReadsOf j p db (pkg_read d y) now))
      same (went told (served sel (store_of db) p p (d.files y) (d.files x) refl same (serves told rows))
      (subst (λ (f : Files). Recalls (packages f.pkg (store_of db)) recent) (sym same) holds) j)))

  pub picking_reads : {now : ℕ} → now ≤ pkg_read d y + reach_all p db → IsTrue d.tells → HasKeptRows d x db
      → now ≤ pkg_read d x + reach_all (argument_reach (is_indexed db) (packages_in d x db) chosen text.now) db
  picking_reads le told rows = rw (reach_is (packages_in d x db) chosen text asked (is_indexed db), ← over told rows) (omega (arith, looks.reads.pkg, le))

-- the index is read for keys alone, and then packages
module _ {D : Type 0} (d : disk.Ghosts D) (trans : (a b c : D) → d.follows a b → d.follows b c → d.follows a c) (db : Database) (sel : Selection)
    {most : ℕ} {x y z : D} (asked : OnlyReadsFile d Idx x y) (unread : asks_index db sel ≡ false → OnlyReads d Pkg 0 x y)
    (first : OnlyReads d Pkg most y z) where
  pub picking_peeks : OnlyReadsIndexed d (is_indexed db) x z
  picking_peeks = peeks_then d trans (peeks_index d asked (λ none. unread (not_asked db sel none))) (peeks_packages d first)

  pub picking_peeks_both : {more : ℕ} {end : D} → OnlyReads d Pkg more z end → OnlyReadsIndexed d (is_indexed db) x end
  picking_peeks_both second = peeks_then d trans picking_peeks (peeks_packages d second)
