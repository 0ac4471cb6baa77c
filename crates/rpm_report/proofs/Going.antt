-- A loop whose calls read the database and write steps to out.
use Rattle.std.proofs.Common.{◌≡◌, ℕ, ◌++◌, Bool, List, [], Result, Ok, Err, refl, subst}
use Rattle.std.specs.Prelude.{IsTrue}
use Rattle.rpm_outside.specs.declared.disk.Disk as disk
use Rattle.rpm_outside.specs.declared.sink.Sink as sink
use Rattle.rpm_report.proofs.Vocabulary.{Anywhere, Buffered, Files, Halt, inner, outputs, OutTakes, PartProgress, Step, TellsOut, Through}
use Rattle.rpm_effects.proofs.laws.Reaching.{StepsSoFar, goes_start, goes_more, goes_stop, goes_end}
use Rattle.rpm_report.proofs.SoFar.{SoFar, so_far_none, so_far_more, so_far_stops, so_far_ends}

module _ {D S : Type 0} (d : disk.Ghosts D) (s : sink.Ghosts S) where
  -- what was read and written so far, and of all steps, which the files at the start give, those that are left
  pub record Going (all left : Files → List Step) (old new : D) (from to : Buffered S) : Type 0 where
    pub far : SoFar d s old new from to
    pub goes : IsTrue d.tells → (et : Bool) (e : List ℕ)
        → StepsSoFar s.tells et (all (d.files old)) (left (d.files old)) (s.taken (inner from)) e (s.taken (inner to)) e

  pub going_none : ((x : D) → d.follows x x) → ((x : S) → s.follows x x) → (all : Files → List Step) (at : D) (to : Buffered S) → Going all all at at to to
  going_none stays keeps all at to = record {
    far = so_far_none d s stays keeps at to;
    goes = λ told et e. goes_start s.tells et (all (d.files at)) (all (d.files at)) (s.taken (inner to)) e refl;
  }

  module _ (goes : (x y z : D) → d.follows x y → d.follows y z → d.follows x z) (joins : (x y z : S) → s.follows x y → s.follows y z → s.follows x z)
      {all left : Files → List Step} (front : Files → List Step) (rest : Files → List Step) (is : (f : Files) → left f ≡ front f ++ rest f)
      {a b c : D} {x y z : Buffered S} (g : Going all left a b x y) where
    -- one call more
    pub going_more : {T : Type 0} {r : Result T Halt} → TellsOut d s r b c y z → (IsTrue d.tells → OutTakes s (Through (front (d.files b))) y z)
        → Going all rest a c x z
    going_more more went = record {
      far = so_far_more d s goes joins g.far more;
      goes = λ told et e.
          let f = d.files a in
          let old = outputs s.tells (s.taken (inner y)) et e in
          let new = outputs s.tells (s.taken (inner z)) et e in
          goes_more s.tells et (all f) (left f) (front f) (rest f) (s.taken (inner x)) (s.taken (inner y)) (s.taken (inner z)) e e e (is f) (g.goes told et e)
          (subst (λ (h : Files). Through (front h) old new) (g.far.looks.untouched told).same (went told et e));
    }

    -- a call that stops
    pub going_stop : {T : Type 0} (T' : Type 0) {what : Halt} → TellsOut d {T = T} s (Err what) b c y z
        → (IsTrue d.tells → OutTakes s (λ old new. PartProgress {T = T} (front (d.files b)) (Err what) old new Anywhere) y z)
        → (IsTrue d.tells → OutTakes s (λ old new. PartProgress {T = T'} (all (d.files a)) (Err what) old new Anywhere) x z)
        × TellsOut d {T = T'} s (Err what) a c x z
    going_stop {T = T} T' {what = what} tells went = (
      λ told et e.
          let f = d.files a in
          let old = outputs s.tells (s.taken (inner y)) et e in
          let new = outputs s.tells (s.taken (inner z)) et e in
          goes_stop s.tells et (all f) (left f) (front f) (rest f) (s.taken (inner x)) (s.taken (inner y)) (s.taken (inner z)) e e e (is f) (g.goes told et e)
          T T' what Anywhere
          (subst (λ (h : Files). PartProgress {T = T} (front h) (Err what) old new Anywhere) (g.far.looks.untouched told).same (went told et e)),
      so_far_stops d s goes joins g.far tells,
    )

  -- all were made
  pub going_end : {all left : Files → List Step} {a b : D} {x y : Buffered S} → ((f : Files) → left f ≡ []) → Going all left a b x y → {T : Type 0} {t : T}
      → (IsTrue d.tells → OutTakes s (Through (all (d.files a))) x y) × TellsOut d {T = T} s (Ok t) a b x y
  going_end {all = all} {left = left} {a = a} {x = x} {y = y} none g = (
    λ told et e.
        let f = d.files a in
        goes_end s.tells et (all f) (left f) (s.taken (inner x)) (s.taken (inner y)) e e (none f) (g.goes told et e),
    so_far_ends d s g.far,
  )
