-- Runs of calls that may change both files, one after the other.
use Rattle.std.proofs.Common.{◌≡◌, inl, ℕ, sym, subst, arith}
use Rattle.std.specs.Prelude.{IsTrue}
use Rattle.rpm_outside.specs.declared.disk.File.{File}
use Rattle.rpm_outside.specs.declared.disk.File.TheVariants.{Idx, Log}
use Rattle.rpm_outside.specs.Files.{Units, Files}
use Rattle.rpm_outside.specs.Crash.{Elapses, bytes_for}
use Rattle.rpm_outside.specs.Changes.{IsImageOfChange}
use Rattle.rpm_outside.proofs.laws.Moments.{started, one_more, leaves_then, leaves_weaker}
use Rattle.rpm_db.specs.Runs.{ImageFrom}
use Rattle.rpm_outside.specs.declared.disk.Disk as disk
use Rattle.rpm_outside.specs.Frame.{images, Changes, OnlyReads}
use Rattle.rpm_db.specs.Frame.{Runs}

came_weaker : (P Q : Files → Files → Type 0) (images : Files → Type 0) (image : Files)
    → ((from : Files) → images from → P from image → Q from image)
    → ImageFrom P images image → ImageFrom Q images image
came_weaker P Q images image weaker c = record { from = c.from; was = c.was; came = weaker c.from c.was c.came }

came_then : (P Q S : Files → Files → Type 0) (first second : Files → Type 0) (image : Files)
    → ((a b : Files) → P a b → second b → Q b image → S a image)
    → ((b : Files) → second b → ImageFrom P first b) → ImageFrom Q second image → ImageFrom S first image
came_then P Q S first second image join before c =
    let b = before c.from c.was in
    record { from = b.from; was = b.was; came = join b.from c.from b.came c.was c.came }

module _ {D : Type 0} (d : disk.Ghosts D) where
  abbrev RunsHere : (Files → Files → Type 0) → D → D → Type 0
  RunsHere = Runs d

  pub runs_none : ((e : D) → d.follows e e) → (P : Files → Files → Type 0) → ((f : Files) → P f f) → (e : D) → RunsHere P e e
  runs_none stays P same e = record {
    reads_as = λ told. same (d.files e);
    now = λ told image here. record { from = image; was = here; came = same image };
    any_moment =
        λ told. started d e (ImageFrom P (images d e))
        (λ image here. record { from = image; was = here; came = same image });
    reads = record { no_less = λ f. omega arith; log = omega arith };
    goes_on = stays e;
  }

  -- what a run does, told by less
  pub runs_weaker : (P Q : Files → Files → Type 0) (a b : D) → ((x y : Files) → P x y → Q x y) → RunsHere P a b → RunsHere Q a b
  runs_weaker P Q a b weaker run = record {
    reads_as = λ told. weaker (d.files a) (d.files b) (run.reads_as told);
    now =
        λ told image left. came_weaker P Q (images d a) image (λ from was. weaker from image) (run.now told image left);
    any_moment = λ told. leaves_weaker d a b (ImageFrom P (images d a)) (ImageFrom Q (images d a))
        (λ image. came_weaker P Q (images d a) image (λ from was. weaker from image)) (run.any_moment told);
    reads = run.reads;
    goes_on = run.goes_on;
  }

  -- a run that only reads one of the two files
  pub runs_looks : (P : Files → Files → Type 0) → ((f : Files) → P f f) → (file : File) (most : ℕ) (a b : D)
      → bytes_for file Log most ≡ 0
      → OnlyReads d file most a b → RunsHere P a b
  runs_looks P same file most a b none looks = record {
    reads_as = λ told. subst (P (d.files a)) (sym (looks.untouched told).same) (same (d.files a));
    now = λ told image here. record {
      from = image;
      was = subst (λ (t : ℕ). d.left_since a t image) looks.moment_stays
          ((looks.untouched told).images (d.moment b) image here);
      came = same image;
    };
    any_moment = λ told. record {
      later = omega (arith, looks.moment_stays);
      each =
          λ image left. record {
            from = image;
            was = (looks.untouched told).images (d.moment a) image left;
            came = same image;
          };
      before = λ t image le left. inl ((looks.untouched told).images t image left);
    };
    reads = record { no_less = looks.reads.no_less; log = omega (arith, looks.reads.log, none) };
    goes_on = looks.goes_on;
  }

  -- a sync
  pub runs_sync : (P : Files → Files → Type 0) → ((f : Files) → P f f) → (a b : D)
      → (IsTrue d.tells → d.files b ≡ d.files a)
      → (IsTrue d.tells → (image : Files) → images d b image → images d a image)
      → (IsTrue d.tells → Elapses (d.moment a) (d.moment b) (d.left_since a) (d.left_since b))
      → ((f : File) → d.bytes_read b f ≡ d.bytes_read a f) →
      d.follows a b
      → RunsHere P a b
  runs_sync P same a b files_same left time reads goes =
      let now : IsTrue d.tells → (image : Files) → images d b image → ImageFrom P (images d a) image =
      λ told image here. record { from = image; was = left told image here; came = same image } in
      record {
        reads_as = λ told. subst (P (d.files a)) (sym (files_same told)) (same (d.files a));
        now = now;
        any_moment = λ told.
            one_more d a a b (ImageFrom P (images d a))
            (started d a (ImageFrom P (images d a)) (λ image here.
            record { from = image; was = here; came = same image }))
            (time told) (now told);
        reads = record { no_less = λ f. omega (arith, reads f); log = omega (arith, reads Log) };
        goes_on = goes;
      }

  -- a run that changes the index alone, where M holds of the files and their images before it
  pub runs_index : (P : Files → Files → Type 0) (R : Units → Units → Type 0) (M : Files → Type 0) (most : ℕ) (a b : D)
      → ((x y : Files) → M x → y.pkg ≡ x.pkg → R x.idx y.idx → y.log ≡ x.log → P x y)
      → (IsTrue d.tells → M (d.files a)) → (IsTrue d.tells → (image : Files) → images d a image → M image)
      → Changes d Idx R most a b → RunsHere P a b
  runs_index P R M most a b from here each run =
      let later : IsTrue d.tells → (image : Files) → IsImageOfChange Idx R (images d a) image
      → ImageFrom P (images d a) image =
      λ told image c. record {
        from = c.from;
        was = c.was;
        came = from c.from image
            (each told c.from c.was) c.pkg c.idx c.log;
      } in
      record {
        reads_as = λ told. from (d.files a) (d.files b) (here told) (run.pkg told) (run.idx told) (run.log told);
        now = λ told image left. later told image (run.now told image left);
        any_moment =
            λ told. leaves_weaker d a b (IsImageOfChange Idx R (images d a)) (ImageFrom P (images d a)) (later told)
            (run.any_moment told);
        reads = record { no_less = run.reads.no_less; log = omega (arith, run.reads.log) };
        goes_on = run.goes_on;
      }

  -- two runs, one after the other
  pub runs_then : ((a b c : D) → d.follows a b → d.follows b c → d.follows a c)
      → (P Q S : Files → Files → Type 0) (a b c : D)
      → ((x y : Files) → P x y → S x y) → ((x y z : Files) → P x y → Q y z → S x z) → RunsHere P a b → RunsHere Q b c → RunsHere S a c
  runs_then trans P Q S a b c weaker joined first second =
      let later : IsTrue d.tells → (image : Files) → ImageFrom Q (images d b) image → ImageFrom S (images d a) image =
      λ told image. came_then P Q S (images d a) (images d b) image (λ x y p here q. joined x y image p q)
      (first.now told) in
      record {
        reads_as = λ told. joined (d.files a) (d.files b) (d.files c) (first.reads_as told) (second.reads_as told);
        now = λ told image left. later told image (second.now told image left);
        any_moment = λ told.
            leaves_then d a b c (ImageFrom S (images d a))
            (leaves_weaker d a b (ImageFrom P (images d a)) (ImageFrom S (images d a))
            (λ image. came_weaker P S (images d a) image (λ from was. weaker from image)) (first.any_moment told))
            (leaves_weaker d b c (ImageFrom Q (images d b)) (ImageFrom S (images d a)) (later told)
            (second.any_moment told));
        reads = record {
          no_less = λ f. omega (arith, first.reads.no_less f, second.reads.no_less f);
          log = omega (arith, first.reads.log, second.reads.log);
        };
        goes_on = trans a b c first.goes_on second.goes_on;
      }
