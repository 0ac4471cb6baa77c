-- The changes of a command as one transaction: what they leave of a disk that was recovered.
use Rattle.std.proofs.Common.{◌≡◌, ℕ, List, ◌^◌, ◌≤◌, Bool, true, false, None, Result, Ok, Err, refl, sym, ◌∙◌, subst, inl, inr, ⊎_elim}
use Rattle.std.specs.Prelude.{IfOk, IfErr}
use Rattle.rpm_commit.proofs.Vocabulary.{after, AllRowsFit, AreLawfulDatabases, BeforeOrAfter, begun_store, changes_index, command_limit, Course}
use Rattle.rpm_commit.proofs.Vocabulary.{Damage, ChangeProgress, ChangeProgressOnLog, ChangeProgressOn, ChangeProgressOnStore, done_why, TransactionEnding, Files, HasUsableIndex}
use Rattle.rpm_commit.proofs.Vocabulary.{HasChanges, HasState, HasStore, images, is_anew, is_done_or_fault, is_halt, is_of_lawful, IsAllOrNone}
use Rattle.rpm_commit.proofs.Vocabulary.{IsLawful, IsLawfulDatabase, IsSound, KeepsLog, LengthsOn, ReachesBy}
use Rattle.rpm_commit.proofs.Vocabulary.{IsDatabaseMade, IsShut, IsUncommitted, leaves_then, leaves_weaker, CrashLeaves, LimitsBy, Log, log_state, LogIs, LogOn, LogState}
use Rattle.rpm_commit.proofs.Vocabulary.{is_rebuilt, MayBegin, AnswersChange, at_index, by_index, Outputs, ran, RecoverSays, reopened_files, ReopensAs}
use Rattle.rpm_commit.proofs.Vocabulary.{ReopensAsOneOf, rows, RowsFit, Says, IsLawfulAndSameOr, State, state, Store, store, Tally, TaskParts, Through, Units}
use Rattle.rpm_commit.proofs.Vocabulary.{units_for, units_needed, without_log, Why, why_of, with_file, WorkBy, WorkOnStore, Work}
use Rattle.rpm_commit.proofs.laws.Brokens.{done_unbroken}
use Rattle.rpm_commit.proofs.laws.ByEnding.{by_ends, by_uncommitted}
use Rattle.rpm_effects.proofs.laws.Reaching.{some_all}
use Rattle.rpm_commit.proofs.laws.Outcomes.{by_done_why, done_did, fault_done_why, is_done_why, lawful_ending, leaves_done, stopped_did}
use Rattle.rpm_commit.proofs.Ends.{halt_undone}
use Rattle.rpm_commit.proofs.Fitting.{limit_fits}
use Rattle.rpm_commit.proofs.laws.Limited.{none_done}
use Rattle.rpm_commit.proofs.laws.Recovered.{recovered_fits, recovered_sound, recovered_still}
use Rattle.rpm_commit.proofs.laws.Standing.{begins, if_ok, if_ok_at, lawful_store, may_begin, ok_is, shut_lawful, shut_stands, stands_lawful, usable_lawful}
use Rattle.rpm_commit.proofs.laws.Unmade.{still_one}
use Rattle.rpm_group.proofs.laws.KeptLogs.{sound_kept}
use Rattle.rpm_outside.specs.declared.disk.Disk as disk
use Rattle.rpm_effects.specs.declared.answer.Why.TheVariants as why

-- what was done was done of a database that can be read
worked_store : (course : State → Course) (pkg : Units) (new : Files) (tally : Tally) (before now : Outputs) (sr : Result Store Damage)
    → WorkBy course pkg sr new (Ok tally) before now → (s : Store) × (sr ≡ Ok s)
worked_store course pkg new tally before now (Ok s) worked = (s, refl)
worked_store course pkg new tally before now (Err d) worked = absurd worked

-- a database that is recovered is told as one that was
recovered_by : (course : Store → Course) (sr : Result Store Damage) (log : LogState) (finished : Bool) (given : Why) (old new : Outputs)
    → RecoverSays log (Ok finished) → ChangeProgressOnStore course sr given old new → ChangeProgressOnLog course sr log given old new
recovered_by course sr log true given old new says did = subst (λ (l : LogState). ChangeProgressOnLog course sr l given old new) (sym says) did
recovered_by course sr log false given old new says did = subst (λ (l : LogState). ChangeProgressOnLog course sr l given old new) (sym says) did

-- what stopped a command is told of it
stopped_opened : (course : State → Course) (pkg : Units) (new : Files) (was : Why) (before now : Outputs) (sr : Result Store Damage)
    → WorkBy course pkg sr new (Err was) before now → ChangeProgressOnStore (λ s. course (state pkg s)) sr was before now
stopped_opened course pkg new was before now (Ok s) worked = stopped_did (course (state pkg s)) was before now worked
stopped_opened course pkg new was before now (Err e) worked = worked

starved_opened : (course : State → Course) (pkg : Units) (new : Files) (before now : Outputs) (sr : Result Store Damage)
    → WorkBy course pkg sr new (Err why.DiskFault) before now → ChangeProgressOnStore (λ s. course (state pkg s)) sr why.NoMemory before now
starved_opened course pkg new before now (Ok s) worked = worked
starved_opened course pkg new before now (Err e) worked = (tt, worked.1)

-- no log of it is too long
halt_unlogged : (indexed : Bool) (course : State → Course) (files : Files) (w : Why) → is_halt w ≡ true → LogOn indexed course files w
halt_unlogged indexed course files (why.LogFull u) halts = absurd cc
halt_unlogged indexed course files others halts = tt

module _ {D : Type 0} (d : disk.Ghosts D) (words : List (List ℕ)) (task : TaskParts) (course : State → Course) (old last final : D) (log : Units) (new : Files)
    (before now : Outputs) (here : images d old (d.files old)) (finished : Bool) (says : RecoverSays (log_state (d.files old).log) (Ok finished))
    (run : CrashLeaves d old last (ReopensAsOneOf (images d old))) (same : without_log (d.files last) ≡ reopened_files (d.files old))
    (as_read : d.left_since final (d.moment last) (d.files final)) where
  abbrev r : Files
  r = reopened_files (d.files old)

  abbrev past : Files → Type 0
  past = images d old

  abbrev Lawful : Type 0
  Lawful = IsLawfulDatabase (d.files old)

  abbrev anew : Bool
  anew = is_anew task

  abbrev s0 : Store → State
  s0 s = state r.pkg s

  abbrev One : Why → ℕ → Type 0
  One w n = AnswersChange (ran d words w n (old, final) (before, now)) task course

  abbrev Worked : Result Tally Why → Type 0
  Worked ended = Work anew (changes_index task) course (with_file Log log r) new ended before now

  -- what its command met
  abbrev Meets : Why → Type 0
  Meets w = LimitsBy anew Lawful course r w

  did_by : (w : Why) → ChangeProgressOnStore (λ s. course (s0 s)) (store r.pkg) w before now → ChangeProgressOn course (d.files old) w before now
  did_by w did = recovered_by (λ s. course (s0 s)) (store r.pkg) (log_state (d.files old).log) finished w before now says did

  -- a log that was recovered is kept, where the one that is left isn't malformed
  sound_log : (image : Files) → IsSound (log_state image.log) → KeepsLog (d.files old) image
  sound_log image = sound_kept (d.files old) image (recovered_sound (log_state (d.files old).log) finished says)

  -- ---- stopped, or not committed

  still_before : (image : Files) → ReopensAs (without_log (d.files last)) image → ReopensAsOneOf past image
  still_before image stands = (d.files old, here, record { same = stands.same ∙ same; log = sound_log image stands.sound })

  module _ (left : CrashLeaves d last final (ReopensAs (without_log (d.files last)))) where
    still_final : reopened_files (d.files final) ≡ r
    still_final = (left.each (d.files final) as_read).same ∙ same

    still_log : KeepsLog (d.files old) (d.files final)
    still_log = sound_log (d.files final) (left.each (d.files final) as_read).sound

    still_run : CrashLeaves d old final (ReopensAsOneOf past)
    still_run = leaves_then d old last final (ReopensAsOneOf past) run
        (leaves_weaker d last final (ReopensAs (without_log (d.files last))) (ReopensAsOneOf past) still_before left)

    halted_one : (was : Why) → is_halt was ≡ true → Worked (Err was) → Meets was → One was 0
    halted_one was halts worked met =
        let told = stopped_opened course r.pkg new was before now (store r.pkg) worked.went in
        still_one d words task course old final still_final still_log still_run was before now (halt_undone was halts) (did_by was told) worked.bad
        (λ lawful. (let is = lawful_store r.pkg r.idx lawful.lawful in
        lawful_ending (course (s0 is.0)) _ was before now
        (subst (λ (sr : Result Store Damage). ChangeProgressOnStore (λ s. course (s0 s)) sr was before now) is.1 told)
        (if_ok_at _ (store r.pkg) is.0 is.1 (met.indexed (begins anew lawful)))))
        met (by_index (λ indexed may. halt_unlogged indexed course r was halts))

    starved_one : Worked (Err why.DiskFault) → One why.NoMemory 0
    starved_one worked = still_one d words task course old final still_final still_log still_run why.NoMemory before now (λ is. cc)
        (did_by why.NoMemory (starved_opened course r.pkg new before now (store r.pkg) worked.went)) (λ unit is. absurd cc) (λ lawful. refl)
        (by_index (λ indexed may. if_ok (store r.pkg) (λ s is. tt))) (by_index (λ indexed may. tt))

  -- ---- gone through to its end

  module _ (tally : Tally) (worked : Worked (Ok tally)) (met : Meets (done_why tally.failed)) (s : Store) (is : store r.pkg ≡ Ok s)
      (left : CrashLeaves d last final (BeforeOrAfter (without_log (d.files last)) (without_log new))) where
    on : WorkOnStore (course (s0 s)) (s0 s) new (Ok tally) before now
    on = subst (λ (sr : Result Store Damage). WorkBy course r.pkg sr new (Ok tally) before now) is worked.went

    -- the state after all changes
    abbrev made : State
    made = after course (s0 s)

    has : Says (λ t. t ≡ made) new.pkg
    has = record { value = on.0; undamaged = on.1; is = on.2.state_is }

    has_made : (image : Files) → reopened_files image ≡ without_log new → HasState made image
    has_made image stands = subst (λ (f : Files). Says (λ t. t ≡ made) f.pkg) (sym stands) has

    current : MayBegin anew Lawful → HasUsableIndex new.pkg new.idx
    current may = worked.index (may_begin anew (λ group. group.lawful) may)

    none : (indexed : Bool) → (indexed ≡ true → MayBegin anew Lawful)
        → command_limit indexed (is_rebuilt anew r.idx s) (s0 s) (begun_store s) (course (s0 s)).changes ≡ None
    none indexed may = none_done indexed _ tally.failed (if_ok_at _ (store r.pkg) s is (at_index met indexed may))

    did_all : (w : Why) → ((c : Course) → Through c.steps before now → c.failed ≡ tally.failed → ChangeProgress c w before now)
        → ChangeProgressOn course (d.files old) w before now
    did_all w each = did_by w (subst (λ (sr : Result Store Damage). ChangeProgressOnStore (λ t. course (s0 t)) sr w before now) (sym is)
        (each (course (s0 s)) on.2.steps on.2.failed))

    transaction_run : (P : Files → Type 0) → ((image : Files) → ReopensAsOneOf past image → P image)
        → ((image : Files) → ReopensAs (without_log new) image → P image) → CrashLeaves d old final P
    transaction_run P still after_it = leaves_then d old last final P
        (leaves_weaker d old last (ReopensAsOneOf past) P still run)
        (leaves_weaker d last final (BeforeOrAfter (without_log (d.files last)) (without_log new)) P
        (λ image. ⊎_elim (λ was. still image (still_before image was)) (after_it image)) left)

    reached : (indexed : Bool) → (indexed ≡ true → MayBegin anew Lawful) → LengthsOn indexed r.pkg r.idx s (s0 s) (course (s0 s)).changes new
    reached indexed may = if_ok_at _ (store r.pkg) s is (at_index worked.reached indexed (λ asked. may_begin anew (λ group. group.lawful) (may asked)))

    reaches_made : ReachesBy anew Lawful course r (without_log new)
    reaches_made = by_index (λ indexed may.
        let it = reached indexed may in ok_is _ (store r.pkg) s is (record { pkg_is = it.pkg_is; idx_is = it.idx_is; idx_most = it.idx_most }))

    -- an image that represents what was made has all changes
    changes_in : (image : Files) → ReopensAs (without_log new) image → HasChanges anew Lawful course r image
    changes_in image stands = record {
      value = s;
      undamaged = is;
      sound = stands.sound;
      has = has_made image stands.same;
      stored = subst (λ (f : Files). HasStore (begun_store s) (course (s0 s)).changes f.pkg) (sym stands.same) (if_ok_at _ (store r.pkg) s is worked.stored);
      reaches = subst (λ (f : Files). ReachesBy anew Lawful course r f) (sym stands.same) reaches_made;
      lawful = λ may. stands_lawful (without_log new) image stands (usable_lawful new.pkg new.idx worked.made (current may));
    }

    transaction_images : (w : Why) → is_done_or_fault w ≡ true → CrashLeaves d old final (IsAllOrNone past w (HasChanges anew Lawful course r))
    transaction_images w may = transaction_run (IsAllOrNone past w (HasChanges anew Lawful course r)) (λ image was. inl was)
        (λ image stands. inr (may, changes_in image stands))

    -- the log of what is left isn't malformed
    final_sound : (image : Files) → BeforeOrAfter (without_log (d.files last)) (without_log new) image → IsSound (log_state image.log)
    final_sound image = ⊎_elim (λ was. was.sound) (λ made. made.sound)

    transaction_log : KeepsLog (d.files old) (d.files final)
    transaction_log = sound_log (d.files final) (final_sound (d.files final) (left.each (d.files final) as_read))

    transaction_crashes : AreLawfulDatabases past → IfOk (store r.pkg) (λ s. CrashLeaves d old final (IsLawfulAndSameOr past (after course (s0 s))))
    transaction_crashes lawful =
        ok_is _ (store r.pkg) s is (transaction_run (IsLawfulAndSameOr past made) (λ image was. inl (recovered_still past lawful image was))
        (λ image stands. inr (
          stands_lawful (without_log new) image stands (usable_lawful new.pkg new.idx worked.made (current (begins anew (lawful (d.files old) here)))),
          has_made image stands.same,
        )))

    transaction_fits : AreLawfulDatabases past → AllRowsFit past → CrashLeaves d old final RowsFit
    transaction_fits lawful fit =
        let first_fits : units_for (rows (s0 s).packages) ≤ 2 ^ 28 =
        subst (λ (sr : Result Store Damage). units_needed r.pkg sr ≤ 2 ^ 28) is (fit (d.files old) here) in
        let last_fits : units_needed new.pkg (store new.pkg) ≤ 2 ^ 28 =
        subst (λ (sr : Result Store Damage). units_needed new.pkg sr ≤ 2 ^ 28) (sym on.1)
        (subst (λ (t : State). units_for (rows t.packages) ≤ 2 ^ 28) (sym on.2.state_is)
        (limit_fits (is_rebuilt anew r.idx s) (s0 s) (begun_store s) (course (s0 s)).changes (none true (λ asked. begins anew (lawful (d.files old) here)))
        first_fits)) in
        transaction_run RowsFit (recovered_fits past fit)
        (λ image stands. subst (λ (f : Files). units_needed f.pkg (store f.pkg) ≤ 2 ^ 28) (sym stands.same) last_fits)

    -- the disk failed as it was committed
    faulted : One why.DiskFault 0
    faulted = record {
      did = did_all why.DiskFault (λ c through failed. some_all through);
      changed = record {
        counted = λ not. refl;
        state_is = ok_is _ (store r.pkg) s is (
          refl,
          ⊎_elim (λ was. inl (subst (λ (f : Files). Says (λ t. t ≡ s0 s) f.pkg) (sym (was.same ∙ same)) (record { value = s; undamaged = is; is = refl })))
              (λ stands. inr (has_made (d.files final) stands.same)) (left.each (d.files final) as_read),
        );
        refused = λ not. absurd cc;
        made = λ done. absurd cc;
        index = λ may done. absurd cc;
        durable = λ done. absurd cc;
        lawful = λ may done. absurd cc;
        bad = λ unit bad. absurd cc;
        complete = λ lawful. refl;
        crashes = transaction_crashes;
        unmade = λ not. absurd cc;
        fits = transaction_fits;
        held = λ done. absurd cc;
        kept = transaction_log;
        next = λ done. absurd cc;
        images = transaction_images why.DiskFault refl;
      };
      limits = by_index (λ indexed may. if_ok (store r.pkg) (λ t stored. tt));
      fault = λ faulted. inr (
        record { value = s; undamaged = is; is = on.2.steps },
        by_index (λ indexed may. ok_is _ (store r.pkg) s is (none indexed may)),
      );
      log = by_index (λ indexed may. tt);
    }

    -- it wasn't committed
    uncommitted : (w : Why) → IsUncommitted w → (is_done_or_fault w ≡ false → CrashLeaves d last final (ReopensAs (without_log (d.files last)))) → LogIs new w
        → One w 0
    uncommitted = by_uncommitted
        (λ (w : Why). (is_done_or_fault w ≡ false → CrashLeaves d last final (ReopensAs (without_log (d.files last)))) → LogIs new w → One w 0)
        (λ u unmade long. still_one d words task course old final (still_final (unmade refl)) (still_log (unmade refl)) (still_run (unmade refl))
        (why.LogFull u)
        before now (λ done. cc) (did_all (why.LogFull u) (λ c through failed. some_all through)) (λ unit bad. absurd cc) (λ lawful. refl)
        (by_index (λ indexed may. ok_is _ (store r.pkg) s is (none indexed may)))
        (by_index (λ indexed may. ok_is _ (store r.pkg) s is (
          new,
          has,
          reached indexed may,
          long.0,
          long.1,
        ))))
        (λ unmade long. faulted)
        (λ unmade long. still_one d words task course old final (still_final (unmade refl)) (still_log (unmade refl)) (still_run (unmade refl)) why.NoMemory
        before now (λ done. cc) (did_all why.NoMemory (λ c through failed. some_all through)) (λ unit bad. absurd cc) (λ lawful. refl)
        (by_index (λ indexed may. if_ok (store r.pkg) (λ t stored. tt))) (by_index (λ indexed may. tt)))

    -- it was
    module _ (done : without_log (d.files final) ≡ without_log new) (shut : IsShut d final) where
      final_is : reopened_files (d.files final) ≡ without_log new
      final_is = shut_stands (d.files final) shut.closed ∙ done

      committed : One (done_why tally.failed) tally.changes
      committed = record {
        did = did_all (done_why tally.failed) (λ c through failed. done_did c tally.failed before now through failed);
        changed = record {
          counted = λ not. absurd (let wrong : true ≡ false = sym (is_done_why tally.failed) ∙ not in cc);
          state_is = ok_is _ (store r.pkg) s is (leaves_done course (s0 s) tally.failed tally.changes (d.files final) (sym on.2.changes)
              (has_made (d.files final) final_is));
          refused = λ not. absurd (let wrong : true ≡ false = sym (fault_done_why tally.failed) ∙ not in cc);
          made = λ _. subst (λ (f : Files). IsDatabaseMade f.pkg) (sym final_is) worked.made;
          index = λ may _. record { closed = shut.closed; indexed = subst (λ (f : Files). HasUsableIndex f.pkg f.idx) (sym done) (current may) };
          durable = λ _. shut.durable;
          lawful = λ may _ image left. subst IsLawfulDatabase (sym (shut.durable image left)) (shut_lawful (d.files final) shut.closed
              (subst (λ (f : Files). IsLawful f.pkg f.idx) (sym done) (usable_lawful new.pkg new.idx worked.made (current may))));
          bad = λ unit bad. absurd (done_unbroken tally.failed unit bad);
          complete = λ _. by_done_why (λ (w : Why). is_of_lawful w ≡ true) tally.failed (λ _. refl) (λ _. refl);
          crashes = transaction_crashes;
          unmade = λ not. absurd (let wrong : true ≡ false = sym (fault_done_why tally.failed) ∙ not in cc);
          fits = transaction_fits;
          held = λ _. ok_is _ (store r.pkg) s is
              (λ image left. subst (λ (f : Files). HasState made f) (sym (shut.durable image left)) (has_made (d.files final) final_is));
          kept = transaction_log;
          next = λ _. changes_in (d.files final) (record { same = final_is; sound = subst IsSound (sym shut.closed) tt });
          images = transaction_images (done_why tally.failed) (fault_done_why tally.failed);
        };
        limits = met;
        fault = λ faulted. absurd (by_done_why (λ (w : Why). w ≡ why.DiskFault → ⊥) tally.failed (λ _ is. cc) (λ _ is. cc) faulted);
        log = by_index (λ indexed may. by_done_why (LogOn indexed course r) tally.failed (λ _. tt) (λ _. tt));
      }

  -- ---- however it went

  abbrev Ends : Result Tally Why → Why → ℕ → Type 0
  Ends ended given n = Worked ended → Meets (why_of ended) → IfErr ended (λ was. is_halt was ≡ true)
      → TransactionEnding d ended given n (without_log new) last final
      → LogIs new given → One given n

  pub transaction_one : (ended : Result Tally Why) (given : Why) (n : ℕ) → Worked ended → LimitsBy anew (IsLawful r.pkg r.idx) course r (why_of ended)
      → IfErr ended (λ was. is_halt was ≡ true) → TransactionEnding d ended given n (without_log new) last final → LogIs new given → One given n
  transaction_one ended given n worked met halted ends = by_ends Ends
      (λ tally worked met halted ends long. (let at = worked_store course r.pkg new tally before now (store r.pkg) worked.went in
      committed tally worked met at.0 at.1 ends.leaves (ends.done (is_done_why tally.failed)) (ends.shut (is_done_why tally.failed))))
      (λ tally w un worked met halted ends long. (let at = worked_store course r.pkg new tally before now (store r.pkg) worked.went in
      uncommitted tally worked met at.0 at.1 ends.leaves w un ends.unmade long))
      (λ was worked met halted ends long. halted_one ends.leaves was halted worked met)
      (λ worked met halted ends long. starved_one ends.leaves worked)
      ended given n ends.says worked (by_index (λ indexed may. at_index met indexed (λ asked. may_begin anew (λ group. group.lawful) (may asked)))) halted ends
