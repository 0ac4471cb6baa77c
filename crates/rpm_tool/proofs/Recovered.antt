-- A question by key: what it did with the database that it opened, or without one, and that on files that were recovered first.
use Rattle.std.proofs.Common.{◌≡◌, ℕ, ◌+◌, ◌≤◌, Bool, not, true, false, List, [], Result, Ok, Err, refl, sym, ap, ◌∙◌, subst, arith}
use Rattle.std.specs.Prelude.{IsTrue}
use Rattle.rpm_outside.specs.declared.disk.Disk as disk
use Rattle.rpm_outside.specs.Frame.{CrashLeaves}
use Rattle.rpm_tool.proofs.Vocabulary.{AnswersKeyed, AreLawful, AreLawfulDatabases, AreDurable, asked_reaches, AskParts, BadIs, Bearer, blocks_cost, Closed}
use Rattle.rpm_tool.proofs.Vocabulary.{Damage, Database, request_of, StoreAnswerBy, KeyedProgress, RequestProgress, Files, FullByUnits, IndexFullIs, has_index, HasUsableIndex, images, is_blank_database}
use Rattle.rpm_tool.proofs.Vocabulary.{is_done, is_foreign, is_indexed, is_of_opening, is_query, IsAtRest, IsLawful, IsLawfulStill, IsOpened, IsSound}
use Rattle.rpm_tool.proofs.Vocabulary.{IsUsable, keyed_cost, keyed_to, KeepsLog, KeepsPackages, leaves_then, leaves_weaker, log_state, LogState, must_rebuild}
use Rattle.rpm_tool.proofs.Vocabulary.{OnUsable, StoreAnswer, Outputs, outputs, pkg_read, ran, reach_sum, reached_by, RecoverKeeps, RecoverSays, Remade, reopened_files}
use Rattle.rpm_tool.proofs.Vocabulary.{ReopensAsOneOf, store_of, IsLawfulAndSame, started, Store, store, Through, Tree, Units, units_needed, without_log, Why}
use Rattle.rpm_db.specs.Openings.{FullOpenIs, OpeningReads, OpensAs, WritesNothing}
use Rattle.rpm_db.specs.Runs.{ImageFrom}
use Rattle.rpm_group.proofs.laws.KeptLogs.{same_kept, sound_kept}
use Rattle.rpm_db.specs.declared.open_fault.DbOpenFault.{DbOpenFault}
use Rattle.rpm_db.specs.declared.open_fault.DbOpenFault.TheVariants as opening
use Rattle.rpm_tool.specs.Keyed.{OpenedAnswer}
use Rattle.rpm_effects.specs.Endings.{why_of_open}
use Rattle.rpm_effects.specs.declared.answer.Why.TheVariants as why
use Rattle.rpm_tool.proofs.Completed.{completes}
use Rattle.rpm_tool.proofs.Requests.{does_fault, does_memory, does_reads, does_unbroken, query_request}
use Rattle.rpm_tool.proofs.Endings.{full_opened, unrefused, went_by}
use Rattle.rpm_tool.proofs.Loading.{loaded_memory, opened_fault, opened_memory}
use Rattle.rpm_tool.proofs.OpeningLaws.{bad_opened, keyed_by, keyed_sum, opened_index, opened_rows}
use Rattle.rpm_effects.proofs.laws.Reaching.{through_none}
use Rattle.rpm_commit.proofs.laws.Recovered.{recovered_sound, recovering_packages, recovering_still}
use Rattle.rpm_commit.proofs.laws.Standing.{shut_lawful, shut_stands}
use Rattle.rpm_tool.proofs.Unrecovered.{loaded_by}

module _ (tree : Tree) (words : List (List ℕ)) (a : AskParts) where
  abbrev pub requests : Files → ℕ → ℕ → StoreAnswerBy
  requests files first now = OnUsable (IsUsable files.pkg files.idx) (KeyedProgress tree words a files first now)

  -- what was done on these files, of whose packages so many bytes were read before and then, and what it left
  pub record DidIndexed (files new : Files) (given : Why) (before after : Outputs) (first now : ℕ) : Type 0 where
    pub went : StoreAnswer (requests files first now) (store files.pkg) given before after
    pub reads : is_query a.mode ≡ true → IsUsable files.pkg files.idx → now ≤ first + keyed_cost files words a
    pub kind : is_foreign given ≡ false
    pub full : IndexFullIs files given
    pub bad : BadIs words a files given
    pub index : IsUsable files.pkg files.idx → is_done given ≡ true → HasUsableIndex new.pkg new.idx

  -- ---- nothing was done

  module _ (x : Outputs) (none : Through [] x x) (files : Files) (first now : ℕ) where
    pub undone_fault : (s : Store) → requests files first now s why.DiskFault x x
    undone_fault s = (refl, λ usable. does_fault tree files.pkg s words a (λ for. now ≤ first + keyed_to files words a s for) x none (request_of a.mode))

    pub undone_memory : (s : Store) → requests files first now s why.NoMemory x x
    undone_memory s = (refl, λ usable. does_memory tree files.pkg s words a (λ for. now ≤ first + keyed_to files words a s for) x none (request_of a.mode))

    -- since it wasn't opened
    unopened : (s : Result Store Damage) (fault : DbOpenFault) → OpensAs s (Err fault)
        → FullOpenIs {A = Unit {0}} (must_rebuild files.idx s) (units_needed files.pkg s) (Err fault)
        → StoreAnswer (requests files first now) s (why_of_open fault) x x
        × FullByUnits (must_rebuild files.idx s) (units_needed files.pkg s) (why_of_open fault)
        × (is_foreign (why_of_open fault) ≡ false) × (is_done (why_of_open fault) ≡ false) × BadIs words a files (why_of_open fault)
    unopened (Ok s) (opening.Damaged d) opens full = absurd cc
    unopened (Err e) (opening.Damaged d) opens full = ((cc, none), (λ making. absurd cc), refl, refl, tt)
    unopened (Ok s) (opening.IndexFull n) opens full = ((refl, λ usable. none), full, refl, refl, tt)
    unopened (Err e) (opening.IndexFull n) opens full = absurd (let no : false ≡ true = full.0 in cc)
    unopened s opening.DiskFault opens full = (opened_fault (requests files first now) s x none undone_fault s, tt, refl, refl, tt)
    unopened s opening.NoMemory opens full = (opened_memory (requests files first now) s x none undone_memory s, tt, refl, refl, tt)

    pub did_unopened : (new : Files) (fault : DbOpenFault) → IsOpened files new (Err fault) → OpeningReads files first now
        → DidIndexed files new (why_of_open fault) x x first now
    did_unopened new fault opened reads =
        let not_done = unopened (store files.pkg) fault opened.store_is opened.full in
        record {
          went = not_done.0;
          reads = λ query usable. omega (arith, reads);
          kind = not_done.2;
          full = not_done.1;
          bad = not_done.4;
          index = λ usable done. absurd (let no = not_done.3 in cc);
        }

  -- ---- it was done with the database that was opened

  module _ {D : Type 0} (d : disk.Ghosts D) (mid ready new : D) (db : Database) (given : Why) (before after : Outputs) where
    pub did_opened : IsTrue d.tells → IsOpened (d.files mid) (d.files ready) (Ok db) → Remade (d.files mid) (d.files ready)
        → is_indexed db ≡ not (is_blank_database db) → OpeningReads (d.files mid) (pkg_read d mid) (pkg_read d ready)
        → OpenedAnswer d (request_of a.mode) tree db words a given before after ready new → is_foreign given ≡ false → is_of_opening given ≡ false
        → DidIndexed (d.files mid) (d.files new) given before after (pkg_read d mid) (pkg_read d new)
    did_opened told opened made indexed reads does own none =
        let files = d.files mid in
        let s = store_of db in
        let first = pkg_read d mid in
        let between = pkg_read d ready in
        let now = pkg_read d new in
        let read : Units → Bearer → Type 0 = λ u for. now ≤ between + reached_by (asked_reaches (is_indexed db) u s words a) db for in
        let rows = opened_rows files (d.files ready) db opened made.pkg indexed in
        let most = ap (λ (r : Result Store Damage). blocks_cost has_index files.pkg r words a) opened.store_is in
        record {
          went = subst (λ (r : Result Store Damage). StoreAnswer (requests files first now) r given before after) (sym opened.store_is) (
            unrefused given none,
            λ usable. went_by (KeyedProgress tree words a files first now s) given before after none
                (does_reads tree files.pkg s words a (request_of a.mode) (read files.pkg) (λ for. now ≤ first + keyed_to files words a s for)
                (λ for le. omega (arith, le, reads, keyed_by files.pkg db indexed words a for)) given before after
                (subst (λ (u : Units). RequestProgress (request_of a.mode) tree u s words a (read u) given before after) made.pkg
                (does.went told (rows usable)))),
          );
          reads = λ query usable.
              (let sum : now ≤ between + reach_sum (asked_reaches (is_indexed db) files.pkg s words a) db =
              subst (λ (u : Units). now ≤ between + reach_sum (asked_reaches (is_indexed db) u s words a) db) made.pkg
              (does.reads (query_request a.mode query) told (rows usable)) in
              omega (arith, sum, most, reads, keyed_sum files.pkg db indexed words a));
          kind = own;
          full = full_opened _ _ given none opened.full;
          bad = bad_opened files (d.files ready) db opened made.pkg indexed words a given (λ unit is rows. does_unbroken tree (d.files ready).pkg s words a
              (read (d.files ready).pkg) before after (request_of a.mode) unit
              (subst (λ (w : Why). RequestProgress (request_of a.mode) tree (d.files ready).pkg s words a (read (d.files ready).pkg) w before after) is
              (does.went told rows)))
              (does.bad told);
          index = λ usable done. subst (λ (f : Files). HasUsableIndex f.pkg f.idx) (sym (does.looks.untouched told).same)
              (opened_index files (d.files ready) db opened made.pkg indexed usable);
        }

-- ---- what it leaves

-- where no index must be made, none is written
pub unwritten : (making : Bool) (fault : DbOpenFault) → making ≡ false → WritesNothing {A = Database} making (Err fault)
unwritten making opening.DiskFault is = is
unwritten making (opening.Damaged d) is = tt
unwritten making (opening.IndexFull n) is = tt
unwritten making opening.NoMemory is = tt

-- recovery leaves files at rest
pub rest_same : (old new : Files) → RecoverKeeps (log_state old.log) old new → IsAtRest old → new ≡ old
rest_same old new keeps rest = subst (λ (l : LogState). RecoverKeeps l old new) rest.closed keeps

-- on files that were recovered, and that have been made durable
module _ {D : Type 0} (d : disk.Ghosts D) {old mid : D} (first : CrashLeaves d old mid (ReopensAsOneOf (images d old))) (here : images d old (d.files old))
    (finished : Bool) (says : RecoverSays (log_state (d.files old).log) (Ok finished))
    (keeps : RecoverKeeps (log_state (d.files old).log) (d.files old) (d.files mid))
    (closed : log_state (d.files mid).log ≡ Closed) (stand : without_log (d.files mid) ≡ reopened_files (d.files old))
    (durable : AreDurable (d.files mid) (images d mid)) where
  -- whose log is that of the files as they were then
  module _ (image : Files) (log : image.log ≡ (d.files mid).log) (pkg : image.pkg ≡ (d.files mid).pkg) where
    shut : log_state image.log ≡ Closed
    shut = ap log_state log ∙ closed

    same_packages : (reopened_files image).pkg ≡ (reopened_files (d.files old)).pkg
    same_packages = ap (λ (f : Files). f.pkg) (shut_stands image shut) ∙ pkg ∙ ap (λ (f : Files). f.pkg) stand

    keeps_log : KeepsLog (d.files old) image
    keeps_log = sound_kept (d.files old) image (recovered_sound (log_state (d.files old).log) finished says) (subst IsSound (sym shut) tt)

  opened_packages : (image : Files) → ImageFrom Remade (images d mid) image → KeepsPackages (images d old) image
  opened_packages image c =
      let as_read = durable c.from c.was in
      let log = c.came.log ∙ ap (λ (f : Files). f.log) as_read in
      let pkg = c.came.pkg ∙ ap (λ (f : Files). f.pkg) as_read in
      record { from = d.files old; was = here; pkg = same_packages image log pkg; log = keeps_log image log pkg }

  opened_still : (image : Files) → IsLawfulStill (images d mid) image → IsLawfulAndSame (images d old) image
  opened_still image still =
      let as_read = durable still.from still.was in
      let log = still.log ∙ ap (λ (f : Files). f.log) as_read in
      let pkg = still.pkg ∙ ap (λ (f : Files). f.pkg) as_read in
      record {
        from = d.files old;
        was = here;
        pkg = same_packages image log pkg;
        lawful = shut_lawful image (shut image log pkg) still.lawful;
      }

  still_lawful : AreLawfulDatabases (images d old) → AreLawful (images d mid)
  still_lawful lawful image is = subst (λ (f : Files). IsLawful f.pkg f.idx) (sym (durable image is))
      (subst (λ (f : Files). IsLawful f.pkg f.idx) (sym stand) (lawful (d.files old) here).lawful)

  still_at : (new : Files) → (must_rebuild (d.files mid).idx (store (d.files mid).pkg) ≡ false → new ≡ d.files mid) → IsAtRest (d.files old)
      → new ≡ d.files old
  still_at new stays rest =
      let same = rest_same (d.files old) (d.files mid) keeps rest in
      stays (subst (λ (f : Files). must_rebuild f.idx (store f.pkg) ≡ false) (sym same) rest.made) ∙ same

  -- ---- what was done there is what the command does
  pub recovered : (tree : Tree) (words : List (List ℕ)) (a : AskParts) (new : D) (given : Why) (before after : Outputs)
      → pkg_read d mid ≡ pkg_read d old → Remade (d.files mid) (d.files new) → CrashLeaves d mid new (ImageFrom Remade (images d mid))
      → (AreLawful (images d mid) → CrashLeaves d mid new (IsLawfulStill (images d mid)))
      → (must_rebuild (d.files mid).idx (store (d.files mid).pkg) ≡ false → d.files new ≡ d.files mid)
      → DidIndexed tree words a (d.files mid) (d.files new) given before after (pkg_read d mid) (pkg_read d new)
      → AnswersKeyed (ran d words given 0 (old, new) (before, after)) a tree
  recovered tree words a new given before after same made any stops stays here =
      let r = reopened_files (d.files old) in
      let now = pkg_read d new in
      let did : DidIndexed tree words a r (d.files new) given before after (pkg_read d old) now =
      subst (λ (n : ℕ). DidIndexed tree words a r (d.files new) given before after n now) same
      (subst (λ (f : Files). DidIndexed tree words a f (d.files new) given before after (pkg_read d mid) now) stand
      (record { went = here.went; reads = here.reads; kind = here.kind; full = here.full; bad = here.bad; index = here.index })) in
      let went = loaded_by (requests tree words a r (pkg_read d old) now) (store r.pkg)
      (log_state (d.files old).log) finished given before after says did.went in
      record {
        went = went;
        reads = λ query group. did.reads query group.usable;
        kind = did.kind;
        index_full = did.full;
        complete = completes tree words a (d.files old) given before after (pkg_read d old) now did.kind went did.full;
        bad_index = did.bad;
        index = λ group done. record { closed = shut (d.files new) made.log made.pkg; indexed = did.index group.usable done };
        packages = same_packages (d.files new) made.log made.pkg;
        kept = keeps_log (d.files new) made.log made.pkg;
        still = still_at (d.files new) stays;
        leaves = leaves_then d old mid new (KeepsPackages (images d old)) (recovering_packages d old mid first)
            (leaves_weaker d mid new (ImageFrom Remade (images d mid)) (KeepsPackages (images d old)) opened_packages any);
        crashes = λ lawful. leaves_then d old mid new (IsLawfulAndSame (images d old)) (recovering_still d old mid first lawful)
            (leaves_weaker d mid new (IsLawfulStill (images d mid)) (IsLawfulAndSame (images d old)) opened_still
            (stops (still_lawful lawful)));
      }

-- ---- nothing was begun

-- each lawful image represents itself
still_here : (images : Files → Type 0) → AreLawfulDatabases images → (image : Files) → images image → IsLawfulAndSame images image
still_here images lawful image is = record { from = image; was = is; pkg = refl; lawful = lawful image is }

pub unbegun : {D : Type 0} (d : disk.Ghosts D) (tree : Tree) (words : List (List ℕ)) (a : AskParts) (ot et : Bool) (o e : List ℕ) (it : D)
    → AnswersKeyed (ran d words why.NoMemory 0 (it, it) (outputs ot o et e, outputs ot o et e)) a tree
unbegun d tree words a ot et o e it = record {
  went =
      (let r = reopened_files (d.files it) in
      let n = pkg_read d it in
      let none : Through [] (outputs ot o et e) (outputs ot o et e) = through_none {ot = ot} {et = et} o e in
      loaded_memory (requests tree words a r n n) (store r.pkg) (outputs ot o et e) none (undone_memory tree words a (outputs ot o et e) none r n n)
      (log_state (d.files it).log));
  reads = λ query group. omega arith;
  kind = refl;
  index_full = tt;
  bad_index = tt;
  complete = λ group room. refl;
  index = λ group done. absurd cc;
  packages = refl;
  kept = same_kept (d.files it);
  still = λ rest. refl;
  leaves = started d it (KeepsPackages (images d it)) (λ image is. record { from = image; was = is; pkg = refl; log = same_kept image });
  crashes = λ lawful. started d it (IsLawfulAndSame (images d it)) (still_here (images d it) lawful);
}
