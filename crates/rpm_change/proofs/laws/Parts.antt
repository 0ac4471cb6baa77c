-- A course on a disk and a database that is gone through part by part.
use Rattle.std.proofs.Common.{◌≡◌, ◌+◌, Ok, Err, Result, refl, sym, ap, ◌∙◌}
use Rattle.std.specs.Prelude.{IsTrue}
use Rattle.rpm_outside.specs.declared.disk.Disk as disk
use Rattle.rpm_outside.specs.Files.{Files}
use Rattle.rpm_db.specs.Database.{Database}
use Rattle.rpm_db.specs.Frame.{state_in}
use Rattle.rpm_db.specs.State.{State}
use Rattle.rpm_db.specs.declared.netting.RowChange.{RowChange}
use Rattle.rpm_effects.specs.declared.tally.Tally.{Tally}
use Rattle.rpm_effects.specs.declared.tally.Halt.{Halt}
use Rattle.rpm_effects.specs.Steps.{Course, idle, joined_courses, apply_all}
use Rattle.rpm_effects.proofs.laws.Courses.{joined_idle, idle_joined, joined_assoc}
use Rattle.rpm_effects.proofs.laws.Joins.{PartsJoined, no_tally}
use Rattle.rpm_change.specs.Progress.{OwesAdded, ProgressBy}
use Rattle.rpm_change.proofs.laws.Going.{went_ahead, went_as, went_then}

module _ {D : Type 0} (d : disk.Ghosts D) where
  -- a part of a course was gone through, and this is left of it
  pub record Going (C A T : Type 0) (owed more : RowChange) (from to : Files) (old new : D) (before after : Database)
      (tally : Tally)
      (E : Course → State → State → Result Tally Halt → Type 0) (all left : Course) : Type 0 where
    pub done : Course
    pub all_is : T → all ≡ joined_courses done left
    pub went : ProgressBy d C A T (OwesAdded owed more) from to old new before after (Ok tally) E done

  pub going_begin : {C A T : Type 0} {owed : RowChange} {from : Files} {at : D} {db : Database}
      {E : Course → State → State → Result Tally Halt → Type 0}
      (all left : Course) → (T → all ≡ left) → ProgressBy d C A T (OwesAdded owed owed) from from at at db db
      (Ok no_tally) E idle
      → Going C A T owed owed from from at at db db no_tally E all left
  going_begin all left same w = record { done = idle; all_is = λ told. same told ∙ sym (idle_joined left); went = w }

  pub going_start : {C A T : Type 0} {owed : RowChange} {from : Files} {at : D} {db : Database}
      {E : Course → State → State → Result Tally Halt → Type 0}
      (all : Course) → ProgressBy d C A T (OwesAdded owed owed) from from at at db db (Ok no_tally) E idle
      → Going C A T owed owed from from at at db db no_tally E all all
  going_start all = going_begin all all (λ told. refl)

  pub going_end : {C A T : Type 0} {owed more : RowChange} {from to : Files} {old new : D} {before after : Database}
      {tally : Tally}
      {E : Course → State → State → Result Tally Halt → Type 0} {all left : Course} → (T → left ≡ idle)
      → Going C A T owed more from to old new before after tally E all left
      → ProgressBy d C A T (OwesAdded owed more) from to old new before after (Ok tally) E all
  going_end {all = all} none g =
      went_as d g.done all (λ told. told) (λ told. sym
      (g.all_is told ∙ ap (joined_courses g.done) (none told) ∙ joined_idle g.done)) (λ s t e. e) g.went

  module _ (joins : (x y z : D) → d.follows x y → d.follows y z → d.follows x z) {A B C P Q T : Type 0}
      {owed some more : RowChange}
      {from mid to : Files} {old at new : D} {before db after : Database} {one : Tally}
      {E F G : Course → State → State → Result Tally Halt → Type 0} {all left : Course}
      (ends : PartsJoined E F G) (carries : A → B → C) (asks : A → T → P → Q)
      (stays : A → IsTrue d.tells → (d.files at).idx ≡ (d.files old).idx)
      (turn rest : Course) (g : Going A P T owed some from mid old at before db one E all left)
    where
      pub going_more : {next : Tally} → (T → state_in d new after ≡ apply_all turn.changes (state_in d at db)
          → left ≡ joined_courses turn rest)
          → ProgressBy d B Q T (OwesAdded some more) mid to at new db after (Ok next) F turn
          → Going C P T owed more from to old new before after
          (record { failed = one.failed + next.failed; changes = one.changes + next.changes }) G all
          rest
      going_more {next = next} split w = record {
        done = joined_courses g.done turn;
        all_is = λ told.
            let after_it = ends.next_is turn (state_in d at db) (state_in d new after) next (w.ended told) in
            g.all_is told ∙ ap (joined_courses g.done) (split told after_it) ∙ sym (joined_assoc g.done turn rest);
        went = went_then d joins ends carries asks stays g.done g.went turn (Ok next) w;
      }

      -- the next part was stopped
      pub going_stop : {h : Halt} → (T → left ≡ joined_courses turn rest)
          → ProgressBy d B Q T (OwesAdded some more) mid to at new db after (Err h) F turn
          → ProgressBy d C P T (OwesAdded owed more) from to old new before after (Err h) G all
      going_stop {h = h} split w =
          let ahead = went_ahead d ends.ahead turn rest w in
          went_as d (joined_courses g.done (joined_courses turn rest)) all (λ told. told)
          (λ told. sym (g.all_is told ∙ ap (joined_courses g.done) (split told))) (λ s t e. e)
          (went_then d joins ends carries asks stays g.done g.went (joined_courses turn rest) (Err h) ahead)
