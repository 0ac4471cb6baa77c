use Rattle.std.proofs.Common.{rules, ◌≡◌, ℕ, ◌+◌, ◌/◌, ◌≤◌, true, false, length, take, drop, refl, sym, ap, subst, ◌∙◌, arith}
use Rattle.rpm_group.proofs.Vocabulary.{AreHeld, IsHeldBelow, File, laid_units, laid_files, Layers, pages_of, file_of, file_of-laid, Files, laid_file, Pages, read_none, ReadsOver, Units}
use Rattle.rpm_group.proofs.Laids.{length-laid, laid_none}
use Rattle.rpm_group.proofs.Readouts.{on_ok_map, read_laid}
use Rattle.rpm_group.proofs.Spares.{counts_below, counts_spared}
use Rattle.rpm_group.proofs.over.read_over.Goals as goal

-- a file of which nothing is held reads as below
alone : (file : File) (layers : Layers) (files : Files) (pages : Pages) → pages ≡ pages_of file layers → pages.end ≡ 0
    → file_of file (laid_files layers files) ≡ file_of file files
alone file layers files pages is none =
    file_of-laid file layers files
    ∙ ap (λ (p : Pages). laid_file p (file_of file files)) (sym is)
    ∙ ap (λ (e : ℕ). laid_units pages.table.items e (file_of file files)) none
    ∙ laid_none pages.table.items (file_of file files) (subst (IsHeldBelow pages.table.items) none pages.past)

pub read_at-requires-clause-within : goal.read_at-requires-clause-within
read_at-requires-clause-within g c = λ told.
    let same = alone c.args.file c.args.layers.now (g.D.Disk.files c.args.below.now) c.file-pages.result.now c.file-pages.ensures c.if-pages-eq0.true in
    subst (λ (us : Units). c.args.unit + length c.args.into.now / 16 ≤ length us) same (c.requires.within told)

pub returns-then-pages-eq0 : goal.returns-then-pages-eq0
returns-then-pages-eq0 g c =
    let same = alone c.args.file c.args.layers.now (g.D.Disk.files c.args.below.now) c.file-pages.result.now c.file-pages.ensures c.if-pages-eq0.true in
    record {
      units =
          on_ok_map c.read_at.result c.read_at.ensures.units
          (λ read told. read told ∙ ap (λ (us : Units). take (length c.args.into.now / 16) (drop c.args.unit us)) (sym same));
      counts = counts_below g.D.Disk c.args.file _ c.args.below.now c.read_at.new.self c.args.spared.now c.read_at.ensures.reads;
      reads = search rules;
    }

pub returns-then-copy_held : goal.returns-then-copy_held
returns-then-copy_held g c = record {
  units = λ told.
      let files : Files = g.D.Disk.files c.args.below.now in
      let unit = c.args.unit in
      let n = length c.args.into.now / 16 in
      let pages = c.file-pages.result.now in
      let file : Units = file_of c.args.file files in
      let held : AreHeld pages.table.items unit (unit + n) = c.if-copy_held.ensures.held refl in
      read_laid pages.table.items pages.end file unit n c.args.into.now c.copy_held.new.into pages.past
      (omega (arith, c.copy_held.auto.into)) (sym c.copy_held.auto.into)
      (omega (arith, length-laid pages.table.items pages.end file, c.if-copy_held.ensures.within refl))
      (λ k below unheld. absurd (let e : true ≡ false = sym (held (unit + k) (omega arith) (omega arith)) ∙ unheld in cc))
      (c.if-copy_held.ensures.lays refl)
      ∙ ap (λ (p : Pages). take n (drop unit (laid_file p file))) c.file-pages.ensures
      ∙ ap (λ (us : Units). take n (drop unit us)) (sym (file_of-laid c.args.file c.args.layers.now files));
  counts = counts_spared g.D.Disk c.args.file _ _ c.args.below.now c.args.below.now c.args.spared.now c.add.new.self c.copy_held.auto.into (λ f.
      refl) c.add.ensures;
  reads = record {
    looks = record {
      untouched = λ told. record { same = refl; images = λ t image left. left; kept = λ t image left. left };
      moment_stays = refl;
      reads = read_none c.args.file (length c.args.into.now) (g.D.Disk.bytes_read c.args.below.now);
      goes_on = g.met.D.Disk.follows_refl c.args.below.now;
    };
    cause = record { later = omega arith; failed = tt };
  };
}

pub returns : goal.returns
returns g c = subst (λ (n : ℕ). ReadsOver g.D.Disk c.args.layers.now c.args.file c.args.unit n c.read_units.new.into c.read_units.result
    c.args.below.now c.read_units.new.below c.args.spared.now c.read_units.new.spared) c.copy_held.auto.into c.read_units.ensures
