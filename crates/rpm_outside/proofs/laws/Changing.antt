-- Runs of calls that write one file, one after the other.
use Rattle.std.proofs.Common.{◌≡◌, inl, ℕ, ◌+◌, ◌≤◌, refl, sym, ◌∙◌, ap, subst, arith}
use Rattle.rpm_outside.specs.declared.disk.Disk as disk
use Rattle.std.specs.Prelude.{IsTrue}
use Rattle.rpm_outside.specs.declared.disk.File.{File}
use Rattle.rpm_outside.specs.declared.disk.File.TheVariants.{Pkg, Idx, Log}
use Rattle.rpm_outside.specs.Files.{Units, Files, file_of}
use Rattle.rpm_outside.specs.Crash.{Torn, TornFile, OnlyAfter, Elapses}
use Rattle.rpm_outside.specs.Leaves.{CrashLeavesOnly}
use Rattle.rpm_outside.specs.laws.History.{torn_none}
use Rattle.rpm_outside.specs.Looks.{OnlyReads}
use Rattle.rpm_outside.specs.Changes.{OnlyIn, IsImageOfChange, IsTornOnly, Changes}
use Rattle.rpm_outside.proofs.laws.Looking.{read_none, read_same, read_then, read_more}
use Rattle.rpm_outside.proofs.laws.Moments.{started, one_more, leaves_then, leaves_weaker}

only_none : (file f : File) (R : Units → Units → Type 0) → ((a : Units) → R a a) → (a : Units) → OnlyIn file R f a a
only_none Pkg Pkg R same a = same a
only_none Idx Idx R same a = same a
only_none Log Log R same a = same a
only_none Pkg Idx R same a = refl
only_none Pkg Log R same a = refl
only_none Idx Pkg R same a = refl
only_none Idx Log R same a = refl
only_none Log Pkg R same a = refl
only_none Log Idx R same a = refl

only_weaker : (file f : File) (R S : Units → Units → Type 0) (a b : Files)
    → (R (file_of file a) (file_of file b) → S (file_of file a) (file_of file b))
    → OnlyIn file R f (file_of f a) (file_of f b) → OnlyIn file S f (file_of f a) (file_of f b)
only_weaker Pkg Pkg R S a b weaker r = weaker r
only_weaker Idx Idx R S a b weaker r = weaker r
only_weaker Log Log R S a b weaker r = weaker r
only_weaker Pkg Idx R S a b weaker r = r
only_weaker Pkg Log R S a b weaker r = r
only_weaker Idx Pkg R S a b weaker r = r
only_weaker Idx Log R S a b weaker r = r
only_weaker Log Pkg R S a b weaker r = r
only_weaker Log Idx R S a b weaker r = r

-- M holds of the one file between
only_then : (file f : File) (R S T : Units → Units → Type 0) (M : Units → Type 0)
    → ((a b c : Units) → R a b → M b → S b c → T a c) → (a b c : Files)
    → M (file_of file b)
    → OnlyIn file R f (file_of f a) (file_of f b) → OnlyIn file S f (file_of f b) (file_of f c)
    → OnlyIn file T f (file_of f a) (file_of f c)
only_then Pkg Pkg R S T M join a b c m r s = join a.pkg b.pkg c.pkg r m s
only_then Idx Idx R S T M join a b c m r s = join a.idx b.idx c.idx r m s
only_then Log Log R S T M join a b c m r s = join a.log b.log c.log r m s
only_then Pkg Idx R S T M join a b c m r s = s ∙ r
only_then Pkg Log R S T M join a b c m r s = s ∙ r
only_then Idx Pkg R S T M join a b c m r s = s ∙ r
only_then Idx Log R S T M join a b c m r s = s ∙ r
only_then Log Pkg R S T M join a b c m r s = s ∙ r
only_then Log Idx R S T M join a b c m r s = s ∙ r

only_torn : (file f : File) (at : ℕ) (units : Units) (a b : Files) → TornFile file at units a b
    → OnlyIn file (Torn at units) f (file_of f a) (file_of f b)
only_torn Pkg Pkg at units a b torn = torn.torn
only_torn Idx Idx at units a b torn = torn.torn
only_torn Log Log at units a b torn = torn.torn
only_torn Pkg Idx at units a b torn = ap (λ (g : Files). g.idx) torn.others
only_torn Pkg Log at units a b torn = ap (λ (g : Files). g.log) torn.others
only_torn Idx Pkg at units a b torn = ap (λ (g : Files). g.pkg) torn.others
only_torn Idx Log at units a b torn = ap (λ (g : Files). g.log) torn.others
only_torn Log Pkg at units a b torn = ap (λ (g : Files). g.pkg) torn.others
only_torn Log Idx at units a b torn = ap (λ (g : Files). g.idx) torn.others

module _ (file : File) where
  pub changed_none : (R : Units → Units → Type 0) (images : Files → Type 0) (image : Files) → ((a : Units) → R a a)
      → images image → IsImageOfChange file R images image
  changed_none R images image same was = record {
    from = image;
    was = was;
    pkg = only_none file Pkg R same image.pkg;
    idx = only_none file Idx R same image.idx;
    log = only_none file Log R same image.log;
  }

  pub changed_map : (R S : Units → Units → Type 0) (images : Files → Type 0) (image : Files)
      (c : IsImageOfChange file R images image)
      → (R (file_of file c.from) (file_of file image) → S (file_of file c.from) (file_of file image))
      → IsImageOfChange file S images image
  changed_map R S images image c weaker = record {
    from = c.from;
    was = c.was;
    pkg = only_weaker file Pkg R S c.from image weaker c.pkg;
    idx = only_weaker file Idx R S c.from image weaker c.idx;
    log = only_weaker file Log R S c.from image weaker c.log;
  }

  pub changed_weaker : (R S : Units → Units → Type 0) (images : Files → Type 0) (image : Files)
      → ((a b : Units) → R a b → S a b)
      → IsImageOfChange file R images image → IsImageOfChange file S images image
  changed_weaker R S images image weaker c =
      changed_map R S images image c (weaker (file_of file c.from) (file_of file image))

  pub changed_between : (R S T : Units → Units → Type 0) (M : Units → Type 0) (first second : Files → Type 0)
      (image : Files)
      → ((a b c : Units) → R a b → M b → S b c → T a c)
      → ((i : Files) → second i → M (file_of file i)) → ((i : Files) → second i → IsImageOfChange file R first i)
      → IsImageOfChange file S second image → IsImageOfChange file
      T first image
  changed_between R S T M first second image join between before c =
      let b = before c.from c.was in
      let m = between c.from c.was in
      record {
        from = b.from;
        was = b.was;
        pkg = only_then file Pkg R S T M join b.from c.from image m b.pkg c.pkg;
        idx = only_then file Idx R S T M join b.from c.from image m b.idx c.idx;
        log = only_then file Log R S T M join b.from c.from image m b.log c.log;
      }

  pub changed_torn : (at : ℕ) (units : Units) (images : Files → Type 0) (image from : Files) → images from
      → TornFile file at units from image
      → IsImageOfChange file (Torn at units) images image
  changed_torn at units images image from was torn = record {
    from = from;
    was = was;
    pkg = only_torn file Pkg at units from image torn;
    idx = only_torn file Idx at units from image torn;
    log = only_torn file Log at units from image torn;
  }

module _ {D : Type 0} (g : disk.Ghosts D) (file : File) where
  abbrev images : D → Files → Type 0
  images d = g.left_since d (g.moment d)

  abbrev ChangesHere : (Units → Units → Type 0) → ℕ → D → D → Type 0
  ChangesHere = Changes g file

  pub changes_none : ((d : D) → g.follows d d) → (R : Units → Units → Type 0) → ((a : Units) → R a a) → (d : D)
      → ChangesHere R 0 d d
  changes_none stays R same d = record {
    pkg = λ told. only_none file Pkg R same (g.files d).pkg;
    idx = λ told. only_none file Idx R same (g.files d).idx;
    log = λ told. only_none file Log R same (g.files d).log;
    now = λ told image here. changed_none file R (images d) image same here;
    any_moment =
        λ told. started g d (IsImageOfChange file R (images d))
        (λ image here. changed_none file R (images d) image same here);
    reads = read_none file 0 (g.bytes_read d);
    goes_on = stays d;
  }

  pub changes_weaker : (R S : Units → Units → Type 0) (m n : ℕ) (a b : D) → m ≤ n → ((x y : Units) → R x y → S x y)
      → ChangesHere R m a b → ChangesHere S n a b
  changes_weaker R S m n a b le weaker run = record {
    pkg = λ told. only_weaker file Pkg R S (g.files a) (g.files b)
        (weaker (file_of file (g.files a)) (file_of file (g.files b))) (run.pkg told);
    idx = λ told. only_weaker file Idx R S (g.files a) (g.files b)
        (weaker (file_of file (g.files a)) (file_of file (g.files b))) (run.idx told);
    log = λ told. only_weaker file Log R S (g.files a) (g.files b)
        (weaker (file_of file (g.files a)) (file_of file (g.files b))) (run.log told);
    now = λ told image here. changed_weaker file R S (images a) image weaker (run.now told image here);
    any_moment = λ told. leaves_weaker g a b (IsImageOfChange file R (images a)) (IsImageOfChange file S (images a))
        (λ image. changed_weaker file R S (images a) image weaker) (run.any_moment told);
    reads = read_more file m n (g.bytes_read a) (g.bytes_read b) le run.reads;
    goes_on = run.goes_on;
  }

  -- two runs, one after the other, where M holds of the file in each image between them, and as it reads there
  pub changes_between : ((a b c : D) → g.follows a b → g.follows b c → g.follows a c)
      → (R S T : Units → Units → Type 0) (M : Units → Type 0) (m n most : ℕ)
      (a b c : D) → m + n ≤ most
      → ((x y : Units) → R x y → T x y) → ((x y z : Units) → R x y → M y → S y z → T x z)
      → (IsTrue g.tells → M (file_of file (g.files b)))
      → (IsTrue g.tells → (image : Files) → g.left_since b (g.moment b) image → M (file_of file image))
      → ChangesHere R m a b → ChangesHere S n b c → ChangesHere T most a c
  changes_between trans R S T M m n most a b c le weaker joined here between first second =
      let later : IsTrue g.tells → (image : Files) → IsImageOfChange file S (images b) image
      → IsImageOfChange file T (images a) image =
      λ told image. changed_between file R S T M (images a) (images b) image joined (between told) (first.now told) in
      record {
        pkg = λ told. only_then file Pkg R S T M joined (g.files a) (g.files b) (g.files c) (here told) (first.pkg told)
            (second.pkg told);
        idx = λ told. only_then file Idx R S T M joined (g.files a) (g.files b) (g.files c) (here told) (first.idx told)
            (second.idx told);
        log = λ told. only_then file Log R S T M joined (g.files a) (g.files b) (g.files c) (here told) (first.log told)
            (second.log told);
        now = λ told image left. later told image (second.now told image left);
        any_moment = λ told.
            leaves_then g a b c (IsImageOfChange file T (images a))
            (leaves_weaker g a b (IsImageOfChange file R (images a)) (IsImageOfChange file T (images a))
            (λ image. changed_weaker file R T (images a) image weaker) (first.any_moment told))
            (leaves_weaker g b c (IsImageOfChange file S (images b)) (IsImageOfChange file T (images a)) (later told)
            (second.any_moment told));
        reads = read_then file m n most (g.bytes_read a) (g.bytes_read b) (g.bytes_read c) le first.reads second.reads;
        goes_on = trans a b c first.goes_on second.goes_on;
      }

  -- two runs, one after the other
  pub changes_then : ((a b c : D) → g.follows a b → g.follows b c → g.follows a c)
      → (R S T : Units → Units → Type 0) (m n most : ℕ) (a b c : D) → m + n ≤ most
      → ((x y : Units) → R x y → T x y) → ((x y z : Units) → R x y → S y z → T x z) → ChangesHere R m a b → ChangesHere S n b c
      → ChangesHere T most a c
  changes_then trans R S T m n most a b c le weaker joined =
      changes_between trans R S T (λ u. Unit {0}) m n most a b c le weaker (λ x y z r here s. joined x y z r s)
      (λ told. tt) (λ told image left. tt)

  -- one write, whole or cut short
  pub changes_write : (at : ℕ) (units : Units) (a b : D)
      → (IsTrue g.tells → TornFile file at units (g.files a) (g.files b))
      → (IsTrue g.tells → OnlyAfter (TornFile file at units) (images a) (images b))
      → (IsTrue g.tells → Elapses (g.moment a) (g.moment b) (g.left_since a) (g.left_since b))
      → ((f : File) → g.bytes_read b f ≡ g.bytes_read a f) → g.follows a b
      → ChangesHere (Torn at units) 0 a b
  changes_write at units a b torn left time reads goes =
      let now : IsTrue g.tells → (image : Files) → images b image
      → IsImageOfChange file (Torn at units) (images a) image =
      λ told image here. (let l = left told image here in changed_torn file at units (images a) image l.0 l.1 l.2) in
      record {
        pkg = λ told. only_torn file Pkg at units (g.files a) (g.files b) (torn told);
        idx = λ told. only_torn file Idx at units (g.files a) (g.files b) (torn told);
        log = λ told. only_torn file Log at units (g.files a) (g.files b) (torn told);
        now = now;
        any_moment = λ told.
            one_more g a a b (IsImageOfChange file (Torn at units) (images a))
            (started g a (IsImageOfChange file (Torn at units) (images a))
            (λ image here. changed_none file (Torn at units) (images a) image
            (torn_none at units) here))
            (time told) (now told);
        reads = read_same file 0 (g.bytes_read a) (g.bytes_read b) reads;
        goes_on = goes;
      }

  only_files : (R : Units → Units → Type 0) → ((x : Units) → R x x) → (f : File) (a b : Files) → b ≡ a
      → OnlyIn file R f (file_of f a) (file_of f b)
  only_files R same f a b is =
      subst (λ (g : Files). OnlyIn file R f (file_of f a) (file_of f g)) (sym is)
      (only_none file f R same (file_of f a))

  -- one sync
  pub changes_sync : (R : Units → Units → Type 0) → ((x : Units) → R x x) → (a b : D)
      → (IsTrue g.tells → g.files b ≡ g.files a)
      → (IsTrue g.tells → (image : Files) → images b image → images a image)
      → (IsTrue g.tells → Elapses (g.moment a) (g.moment b) (g.left_since a) (g.left_since b))
      → ((f : File) → g.bytes_read b f ≡ g.bytes_read a f) → g.follows a b
      → ChangesHere R 0 a b
  changes_sync R same a b files_same left time reads goes =
      let now : IsTrue g.tells → (image : Files) → images b image → IsImageOfChange file R (images a) image =
      λ told image here. changed_none file R (images a) image same (left told image here) in
      record {
        pkg = λ told. only_files R same Pkg (g.files a) (g.files b) (files_same told);
        idx = λ told. only_files R same Idx (g.files a) (g.files b) (files_same told);
        log = λ told. only_files R same Log (g.files a) (g.files b) (files_same told);
        now = now;
        any_moment = λ told.
            one_more g a a b (IsImageOfChange file R (images a))
            (started g a (IsImageOfChange file R (images a))
            (λ image here. changed_none file R (images a) image same here))
            (time told) (now told);
        reads = read_same file 0 (g.bytes_read a) (g.bytes_read b) reads;
        goes_on = goes;
      }

  -- a run that only reads
  pub changes_looks : (R : Units → Units → Type 0) → ((x : Units) → R x x) → (most : ℕ) (a b : D) → OnlyReads g
      file most a b → ChangesHere R most a b
  changes_looks R same most a b looks = record {
    pkg = λ told. only_files R same Pkg (g.files a) (g.files b) (looks.untouched told).same;
    idx = λ told. only_files R same Idx (g.files a) (g.files b) (looks.untouched told).same;
    log = λ told. only_files R same Log (g.files a) (g.files b) (looks.untouched told).same;
    now = λ told image here. changed_none file R (images a) image same
        (subst (λ (t : ℕ). g.left_since a t image) looks.moment_stays
        ((looks.untouched told).images (g.moment b) image here));
    any_moment = λ told. record {
      later = omega (arith, looks.moment_stays);
      each =
          λ image left. changed_none file R (images a) image same
          ((looks.untouched told).images (g.moment a) image left);
      before = λ t image le left. inl ((looks.untouched told).images t image left);
    };
    reads = looks.reads;
    goes_on = looks.goes_on;
  }

  -- what crashes leave that fall into a run
  pub crashes_from : IsTrue g.tells → (R : Units → Units → Type 0) (P : Units → Type 0) (most : ℕ) (a b : D)
      → ChangesHere R most a b
      → ((from image : Files) → images a from → R (file_of file from) (file_of file image) → P (file_of file image))
      → CrashLeavesOnly g a
      b (IsTornOnly file P (images a))
  crashes_from told R P most a b run each =
      leaves_weaker g a b (IsImageOfChange file R (images a)) (IsTornOnly file P (images a))
      (λ image c. changed_map file R (λ x y. P y) (images a) image c (each c.from image c.was)) (run.any_moment told)

  -- and in two runs, one after the other
  pub crashes_then : IsTrue g.tells → (R : Units → Units → Type 0) (P : Units → Type 0) (most : ℕ) (a b c : D)
      → ChangesHere R most a b
      → CrashLeavesOnly g a b (IsTornOnly file P (images a)) → CrashLeavesOnly g b c (IsTornOnly file P (images b))
      → CrashLeavesOnly g a c (IsTornOnly file P (images a))
  crashes_then told R P most a b c run first second = leaves_then g a b c (IsTornOnly file P (images a)) first
      (leaves_weaker g b c (IsTornOnly file P (images b)) (IsTornOnly file P (images a))
      (λ image s. changed_between file R (λ x y. P y) (λ x y. P y) (λ u. Unit {0}) (images a) (images b) image
      (λ x y z r m p. p) (λ i left. tt)
      (run.now told) s) second)

pub crashes_weaker : {D : Type 0} (g : disk.Ghosts D) (file : File) (P Q : Units → Type 0) (a b : D)
    → ((image : Units) → P image → Q image)
    → CrashLeavesOnly g a b (IsTornOnly file P (g.left_since a (g.moment a)))
    → CrashLeavesOnly g a b (IsTornOnly file Q (g.left_since a (g.moment a)))
crashes_weaker g file P Q a b weaker =
    leaves_weaker g a b (IsTornOnly file P (g.left_since a (g.moment a)))
    (IsTornOnly file Q (g.left_since a (g.moment a)))
    (λ image s. changed_weaker file (λ x y. P y) (λ x y. Q y) (g.left_since a (g.moment a)) image (λ x y. weaker y) s)
