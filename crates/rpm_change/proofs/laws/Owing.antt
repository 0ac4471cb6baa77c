-- A batch, whose rows are gathered: what is left of it, as it begins, from one change to the next, and once it is over.
use Rattle.std.proofs.Common.{◌≡◌, ◌≤◌, ◌==◌, ◌++◌, List, Bool, true, false, length, Result, Ok, Err, refl, ap, ◌∙◌}
use Rattle.std.proofs.Common.{subst, arith}
use Rattle.std.proofs.lemmas.Bool.Decides.{nat_tests}
use Rattle.std.proofs.lemmas.List.{length-replicate}
use Rattle.std.specs.Prelude.{IsTrue}
use Rattle.rpm_outside.specs.declared.disk.Disk as disk
use Rattle.rpm_outside.specs.Causes.{Rose}
use Rattle.rpm_outside.specs.Files.{Units, blank}
use Rattle.rpm_hindex.specs.Rows.{Row, times}
use Rattle.rpm_db.specs.declared.change_fault.ChangeFault.{ChangeFault}
use Rattle.rpm_db.specs.declared.change_fault.ChangeFault.TheVariants as fault
use Rattle.rpm_db.specs.declared.netting.RowChange.{RowChange}
use Rattle.rpm_db.specs.Changed.{IsReady}
use Rattle.rpm_db.specs.Database.{Database, generation_of, has_failed, is_indexed}
use Rattle.rpm_db.specs.Frame.{IsIndexed, Runs, state_in}
use Rattle.rpm_db.specs.Database.{store_of}
use Rattle.rpm_db.specs.Gathering.{IsGathering, IsOrdered, HasItsRows, OwesOn, due, due_units, no_row_changes}
use Rattle.rpm_db.specs.Gathering.{sealed_in}
use Rattle.rpm_db.specs.Gathering.{suspended_database}
use Rattle.rpm_db.specs.Lawful.{IsWholeIndex}
use Rattle.rpm_db.specs.Reaches.{Gains}
use Rattle.rpm_db.specs.Refusals.{BadCause, IsOfIndex, IsOfReading, WholeCause}
use Rattle.rpm_db.proofs.laws.RowLaws.{times_none}
use Rattle.rpm_db.specs.Runs.{SameLog}
use Rattle.rpm_db.specs.State.{State, packages}
use Rattle.rpm_effects.specs.declared.tally.Tally.{Tally}
use Rattle.rpm_effects.specs.declared.tally.Halt.{Halt}
use Rattle.rpm_effects.specs.Progress.{halt_of}
use Rattle.rpm_change.specs.Limits.{is_limit}
use Rattle.rpm_change.specs.Reaches.{all_added}
use Rattle.rpm_effects.specs.Steps.{Course}
use Rattle.rpm_change.specs.Progress.{IsChangeable, IsOwing, ProgressInBoth, ProgressOwing}
use Rattle.rpm_change.specs.inner.IndexLaws.{at_index, by_index}
use Rattle.rpm_change.proofs.laws.Leaving.{halt_bad, halted_by, then_by, whole_halt}
use Rattle.rpm_change.proofs.laws.ReachLaws.{idx_more}
use Rattle.rpm_change.proofs.laws.Single.{other_stop}

-- a fault of the index is no limit where the index held the rows, and none of the lines and the shelf
pub end_limit : (i : Bool) (f : ChangeFault) → IsOfIndex f → (i ≡ true → IsOfReading f) → is_limit i (halt_of f) ≡ false
end_limit true (fault.IndexFull needed) kind other = absurd (other refl)
end_limit true (fault.BadIndex unit) kind other = absurd (other refl)
end_limit false (fault.IndexFull needed) kind other = refl
end_limit false (fault.BadIndex unit) kind other = refl
end_limit i fault.DiskFault kind other = refl
end_limit i fault.NoMemory kind other = refl
end_limit i others kind other = absurd kind

module _ {D : Type 0} (d : disk.Ghosts D) where
  pub owing_none : {at : D} {db : Database} {owed : RowChange} → IsGathering d at db owed
      → IsOwing d (OwesOn d at db owed) (d.files at).idx at db owed
  owing_none g = record { gathering = g; stays = λ told. refl; owes = λ told has. has }

  pub owing_then : {Asked : Type 0} {found : Units} {mid new : D} {before after : Database} {owed more : RowChange}
      → IsOwing d Asked found mid before owed → IsOwing d (OwesOn d mid before owed) (d.files mid).idx new after more
      → IsOwing d Asked found new after more
  owing_then first second = record {
    gathering = second.gathering;
    stays = λ told. second.stays told ∙ first.stays told;
    owes = λ told asked. second.owes told (first.owes told asked);
  }

-- ---- changes that were gone through, from the begin of the batch on

module _ {D : Type 0} (d : disk.Ghosts D) {a : D} {db : Database} {owed : RowChange} (ready : IsReady d a db)
    (going : has_failed db ≡ false)
    (ordered : IsOrdered db.index) (sealed : sealed_in db.index ≡ generation_of db) (none : owed ≡ no_row_changes) where
  pub owing_begun : IsOwing d (IsIndexed d a db) (d.files a).idx a (suspended_database db) owed
  owing_begun = record {
    gathering = record {
      indexed = ready.indexed;
      suspends = refl;
      going = going;
      ordered = ordered;
      behind = omega (arith, sealed);
      clear = λ is. none;
      serving = λ told. (let s = ready.serving told in
          record { keeps = s.keeps; index = s.index; quiet = s.quiet; durable = s.durable });
    };
    stays = λ told. refl;
    owes = λ told was. record {
      from = packages (d.files a).pkg (store_of db);
      has = was.rows_are;
      balances = λ row.
          (let drops : times row owed.drops ≡ 0 = ap (λ (o : RowChange). times row o.drops) none ∙ times_none row in
          let adds : times row owed.adds ≡ 0 = ap (λ (o : RowChange). times row o.adds) none ∙ times_none row in
          omega (arith, drops, adds));
      fits = λ other. absurd (other sealed);
    };
  }

  module _ {T : Type 0} (tells : T → IsTrue d.tells) {m : D} {mid : Database} {more : RowChange}
      {E : Course → State → State → Result Tally Halt → Type 0}
      {course : Course} where
    -- it was stopped
    pub list_stopped : {h : Halt} → ProgressOwing d T a m (suspended_database db) mid owed more (Err h) E course
        → ProgressInBoth d T a m db mid (Err h) E course
    list_stopped w = record {
      ended = w.ended;
      limits = λ told. by_index (λ i rows.
          (let l = at_index (w.limits told) i (λ asked. owing_begun.owes (tells told) (rows asked)) in
          record { first = l.first; stores = tt; raised = tt; reached = tt }));
      whole = w.whole;
      bad = w.bad;
      given = λ told. tt;
      left = record { carried = tt; indexed = w.left.indexed; runs = w.left.runs; disk = w.left.disk };
    }

    module _ (joins : (x y z : D) → d.follows x y → d.follows y z → d.follows x z) {e : D} (after : Database)
        {tally : Tally}
        (w : ProgressOwing d T a m (suspended_database db) mid owed more (Ok tally) E course)
        (indexed : is_indexed after ≡ true) (runs : Runs d SameLog m e)
        (later : d.faults m ≤ d.faults e) where
      owes_last : IsTrue d.tells → IsIndexed d a db → OwesOn d m mid more
      owes_last told rows = w.left.carried.owes told (owing_begun.owes told rows)

      begins : length (due (d.files a) (suspended_database db) owed).idx ≡ length (d.files a).idx
      begins =
          let test : (sealed_in db.index == generation_of db) ≡ true = grind (arith, nat_tests, sealed) in
          length-replicate (due_units (d.files a).pkg (d.files a).idx (suspended_database db) owed) blank ∙ rw test refl

      -- the index has all rows
      pub list_finished : store_of after ≡ store_of mid → (IsTrue d.tells → (d.files e).pkg ≡ (d.files m).pkg)
          → HasItsRows d m e mid after more
          → (IsTrue d.tells → IsWholeIndex (d.files m).idx → IsWholeIndex (d.files e).idx)
          → ProgressInBoth d T a e db after (Ok tally) E course
      list_finished store pkg durable whole = record {
        ended = λ told. rw (pkg (tells told), store) (w.ended told);
        limits = λ told. by_index (λ i rows.
            let l = at_index (w.limits told) i (λ asked. owing_begun.owes (tells told) (rows asked)) in
            record {
              first = l.first;
              stores = rw store l.stores;
              raised = rw store l.raised;
              reached = record {
                pkg = omega (arith, l.reached.pkg, ap length (pkg (tells told)));
                idx = λ asked.
                    omega (
                      arith,
                      durable.reach (tells told) (owes_last (tells told) (rows asked)),
                      length-replicate (due_units (d.files m).pkg (d.files m).idx mid more) blank,
                      l.reached.idx asked,
                      idx_more course.changes (length (due (d.files a) (suspended_database db) owed).idx)
                          (length (d.files a).idx) (state_in d a db)
                          (omega (arith, begins)),
                    );
              };
            });
        whole = λ told was. whole told (w.whole told was);
        bad = λ told. tt;
        given = λ told.
            let adds : more.adds ≡ all_added (state_in d a db) course.changes =
            (w.given told).adds ∙ ap (λ (o : RowChange). o.adds ++ all_added (state_in d a db) course.changes) none in
            subst (λ (rows : List Row). Gains rows (d.files a).idx (d.files e).idx) adds
            (subst (λ (idx : Units). Gains more.adds idx (d.files e).idx) (w.left.carried.stays (tells told))
            (durable.grows (tells told)));
        left = then_by d joins _ (HasItsRows d m e mid after more) (IsChangeable d a e db after)
            (λ first second. record {
              going = second.going;
              serving = second.serving;
              index = λ told rows. second.index told (first.owes told (owing_begun.owes told rows));
            }) a m e mid after tally (Ok tally) w.left
            (record {
              carried = durable;
              indexed = indexed;
              runs = runs;
              disk = record { later = later; rose = λ same. absurd cc };
            });
      }

      -- or it hasn't
      pub list_unfinished : (f : ChangeFault) → ((s t u : State) → E course s t (Ok tally)
          → E course s u (Err (halt_of f))) → IsOfIndex f
          → (IsTrue d.tells → OwesOn d m mid more → IsOfReading f)
          → (IsTrue d.tells → IsWholeIndex (d.files m).idx → WholeCause f)
          → (IsTrue d.tells → BadCause more.drops (d.files m).idx f)
          → (f ≡ fault.DiskFault → Rose (d.faults m) (d.faults e))
          → ProgressInBoth d T a e db after (Err (halt_of f)) E course
      list_unfinished f stops kinds full whole bad rose =
          let C = IsChangeable d a e db after in
          record {
            ended = λ told. stops (state_in d a db) (state_in d m mid) (state_in d e after) (w.ended told);
            limits = λ told. by_index (λ i rows.
                other_stop i (state_in d a db) (store_of db) (store_of after) course.changes (halt_of f)
                (end_limit i f kinds (λ asked. full (tells told) (owes_last (tells told) (rows asked)))));
            whole = λ told was. whole_halt (d.files e).idx f (whole told (w.whole told was));
            bad = λ told. halt_bad more.drops (d.files a).idx f
                (subst (λ (idx : Units). BadCause more.drops idx f) (w.left.carried.stays told) (bad told));
            given = λ told. tt;
            left = then_by d joins _ C C (λ x y. y) a m e mid after tally (Err (halt_of f)) w.left
                (halted_by d C m e after runs later indexed f rose);
          }
