-- What a crash leaves while a database is made.
use Rattle.std.proofs.Common.{◌≡◌, ◌≤◌, ℕ, Ok, sym, ap, ◌∙◌, subst, inl, inr, arith}
use Rattle.rpm_db.proofs.Vocabulary.{blank, blank_store, ImageFrom, CanMake, Files, images, in_file, IsEmpty, IsEmptyIndex, IsEmptyStill, IsQuiet, leaves_then}
use Rattle.rpm_db.proofs.Vocabulary.{leaves_weaker, CrashLeaves, MakesTo, Pkg, Remade, remade_lawful, Runs, IsTornOnly, Store, store, unit_at, Units, void_agrees}
use Rattle.rpm_hindex.specs.State as hindex
use Rattle.rpm_db.proofs.Opened.{durable_quiet, still_durable}
use Rattle.std.specs.Prelude.{IsTrue}
use Rattle.rpm_db.proofs.Emptied.{blank_empty, blank_is}
use Rattle.rpm_outside.specs.declared.disk.Disk as disk

module _ (first : Files → Type 0) where
  -- while the index is made
  pub index_crash : (file : Units) → store file ≡ Ok blank_store → ((i : Files) → first i → i.pkg ≡ file) → (image : Files) → ImageFrom Remade first image
      → IsEmptyStill first image
  index_crash file none durable image c =
      let is : store image.pkg ≡ Ok blank_store = ap store (c.came.pkg ∙ durable c.from c.was) ∙ none in
      record { from = c.from; was = c.was; log = c.came.log; lawful = inl is; empty = blank_empty image.pkg is }

  -- while the store is
  pub make_crash : (second : Files → Type 0) (idx : Units) → unit_at idx 0 ≡ blank → ((i : Files) → second i → ImageFrom Remade first i)
      → ((i : Files) → second i → i.idx ≡ idx) → (image : Files) → IsTornOnly Pkg MakesTo second image → IsEmptyStill first image
  make_crash second idx void before durable image s =
      let b = before s.from s.was in
      let zeros : unit_at image.idx 0 ≡ blank = ap (λ (u : Units). unit_at u 0) (s.idx ∙ durable s.from s.was) ∙ void in
      either zeros b s.pkg
    where
      either : unit_at image.idx 0 ≡ blank → ImageFrom Remade first s.from → MakesTo image.pkg → IsEmptyStill first image
      either zeros b (inl none) = record {
        from = b.from;
        was = b.was;
        log = s.log ∙ b.came.log;
        lawful = inl none;
        empty = blank_empty image.pkg none;
      }
      either zeros b (inr stands) = record {
        from = b.from;
        was = b.was;
        log = s.log ∙ b.came.log;
        lawful = inr (stands.value, stands.undamaged, void_agrees stands.value image.pkg image.idx zeros);
        empty = record { value = stands.value; undamaged = stands.undamaged; none = stands.blobs_are; field_is = stands.field_is };
      }

  -- and while the index is sealed
  pub seal_crash : (third : Files → Type 0) → ((i : Files) → third i → IsEmptyStill first i) → (image : Files) → ImageFrom Remade third image
      → IsEmptyStill first image
  seal_crash third each image c =
      let e = each c.from c.was in
      record {
        from = e.from;
        was = e.was;
        log = c.came.log ∙ e.log;
        lawful = remade_lawful c.from image c.came e.lawful;
        empty = subst IsEmpty (sym c.came.pkg) e.empty;
      }

module _ {D : Type 0} (d : disk.Ghosts D) (a : D) where
  abbrev Leaves : D → D → Type 0
  Leaves x y = CrashLeaves d x y (IsEmptyStill (images d a))

  -- the index is made of a blank database
  pub crashes_first : IsTrue d.tells → (value : Store) (b : D) → CanMake d a value → Runs d Remade a b → Leaves a b
  crashes_first told value b can run =
      leaves_weaker d a b (ImageFrom Remade (images d a)) (IsEmptyStill (images d a)) (index_crash (images d a) (d.files a).pkg
      (blank_is (d.files a).pkg (in_file value) (can.keeps told) can.blank) (can.pkg told)) (run.any_moment told)

  -- and then the store
  module _ (told : IsTrue d.tells) (value : Store) (index : hindex.IndexState) (b c : D) (can : CanMake d a value) (run : Runs d Remade a b)
      (empty : IsEmptyIndex d a b index) (crashes : IsQuiet value (d.files b) (images d b) → CrashLeaves d b c (IsTornOnly Pkg MakesTo (images d b))) where
    made : Leaves b c
    made =
        let keeps = ap store (run.reads_as told).pkg ∙ can.keeps told in
        let quiet = durable_quiet value (d.files b) (images d b) keeps (still_durable d a b told run (can.pkg told)) in
        leaves_weaker d b c (IsTornOnly Pkg MakesTo (images d b)) (IsEmptyStill (images d a)) (make_crash (images d a) (images d b)
        (d.files b).idx (sym (empty.kept told).first ∙ empty.voided) (run.now told) (empty.durable told)) (crashes quiet)

    pub crashes_both : Leaves a c
    crashes_both = leaves_then d a b c (IsEmptyStill (images d a)) (crashes_first told value b can run) made

    -- and then the index is sealed
    pub crashes_all : ((at : D) (s t : ℕ) (i : Files) → IsTrue d.tells → s ≤ t → t ≤ d.moment at → d.left_since at t i → d.left_since at s i) → (e : D)
        → CrashLeaves d c e (ImageFrom Remade (images d c)) → Leaves a e
    crashes_all earlier e sealing =
        leaves_then d a c e (IsEmptyStill (images d a)) crashes_both
        (leaves_weaker d c e (ImageFrom Remade (images d c)) (IsEmptyStill (images d a)) (seal_crash (images d a) (images d c) (λ i here.
        made.each i (earlier c (d.moment b) (d.moment c) i told made.later (omega arith) here))) sealing)
