use Rattle.std.proofs.Common.{◌≡◌, ◌+◌, ◌/◌, true, false, length, take, drop, refl, sym, ap, ◌∙◌, arith}
use Rattle.rpm_group.proofs.Vocabulary.{AreHeld, file_of, file_of-laid, Files, laid_file, Pages, read_none, Units}
use Rattle.rpm_group.proofs.Laids.{length-laid}
use Rattle.rpm_group.proofs.Readouts.{read_laid}
use Rattle.rpm_group.proofs.Spares.{counts_spared}
use Rattle.rpm_group.proofs.over.read_units.Goals as goal

pub returns-then-covers : goal.returns-then-covers
returns-then-covers g c = record {
  units = λ told.
      let files : Files = g.D.Disk.files c.args.below.now in
      let unit = c.args.unit in
      let n = length c.args.into.now / 16 in
      let pages = c.file-pages.result.now in
      let file : Units = file_of c.args.file files in
      let held : AreHeld pages.table.items unit (unit + n) = λ i low high. c.if-covers.ensures.held refl i low (omega (arith, high)) in
      read_laid pages.table.items pages.end file unit n c.args.into.now c.lay.new.into pages.past
      (omega (arith, c.lay.auto.into)) (sym c.lay.auto.into)
      (omega (arith, length-laid pages.table.items pages.end file, c.if-covers.ensures.within refl))
      (λ k below unheld. absurd (let e : true ≡ false = sym (held (unit + k) (omega arith) (omega arith)) ∙ unheld in cc))
      c.lay.ensures
      ∙ ap (λ (p : Pages). take n (drop unit (laid_file p file))) c.file-pages.ensures
      ∙ ap (λ (us : Units). take n (drop unit us)) (sym (file_of-laid c.args.file c.args.layers.now files));
  counts = counts_spared g.D.Disk c.args.file _ _ c.args.below.now c.args.below.now c.args.spared.now c.add.new.self refl (λ f. refl) c.add.ensures;
  reads = record {
    looks = record {
      untouched = λ told. record { same = refl; images = λ t image left. left; kept = λ t image left. left };
      moment_stays = refl;
      reads = read_none c.args.file (length c.args.into.now) (g.D.Disk.bytes_read c.args.below.now);
      goes_on = g.met.D.Disk.follows_refl c.args.below.now;
    };
    cause = record { later = omega arith; failed = tt };
  };
}

pub returns : goal.returns
returns g c =
    let partly = c.read_partly.ensures in record { units = partly.units; counts = partly.counts; reads = partly.reads }
