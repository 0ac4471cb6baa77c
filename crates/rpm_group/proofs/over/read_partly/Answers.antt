use Rattle.std.proofs.Common.{◌≡◌, ℕ, ◌+◌, ◌/◌, ◌≤◌, max, length, take, drop, refl, sym, ap, ◌∙◌, arith}
use Rattle.rpm_group.proofs.Vocabulary.{File, file_of, file_of-laid, Files, laid_file, laid_files, Layers, Pages, pages_of, unit_at, Units}
use Rattle.rpm_group.proofs.Laids.{length-laid}
use Rattle.rpm_group.proofs.Spares.{counts_below, counts_spared, counts_after}
use Rattle.rpm_group.proofs.Readouts.{on_ok_map, read_laid}
use Rattle.rpm_group.proofs.over.read_partly.Goals as goal
use Rattle.rpm_group.proofs.over.read_partly.Goals.{then-unit-whole-via-then-unit-whole, then-unit-whole-via-else-unit-whole+then-into-whole}

-- how long a file is under what is held
length_over : (file : File) (layers : Layers) (files : Files) → length (file_of file (laid_files layers files)) ≡ max (length (file_of file files))
    (pages_of file layers).end
length_over file layers files = ap length (file_of-laid file layers files) ∙ length-laid (pages_of file layers).table.items (pages_of file layers).end
    (file_of file files)

never : (unit n below whole : ℕ) (file : File) (layers : Layers) (files : Files) (pages : Pages) → below ≡ length (file_of file files)
    → pages ≡ pages_of file layers → whole ≡ max below pages.end → unit + n ≤ length (file_of file (laid_files layers files)) → unit + n ≤ whole
never unit n below whole file layers files pages long is max_is within =
    omega (arith, within, length_over file layers files, long, max_is, ap (λ (p : Pages). p.end) is)

pub read_at-requires-clause-within : goal.read_at-requires-clause-within
read_at-requires-clause-within g c = λ told.
    let fits = never c.args.unit (length c.args.into.now / 16) c.in-Ok.end c.max-whole.result c.args.file c.args.layers.now
    (g.D.Disk.files c.args.below.now) c.file-pages.result.now (c.in-Ok.ensures.length told) c.file-pages.ensures c.max-whole.ensures
    (c.requires.within told) in
    elim c.then-unit-whole.branch [
      | then-unit-whole-via-then-unit-whole w ↦ absurd (omega (arith, fits, w.if-unit-whole.true))
      | then-unit-whole-via-else-unit-whole+then-into-whole w ↦ absurd (omega (arith, fits, w.if-unit-whole.false, w.if-into-whole.true))
    ]

pub returns-then-unit-whole-clause-units : goal.returns-then-unit-whole-clause-units
returns-then-unit-whole-clause-units g c =
    on_ok_map c.read_at.result c.read_at.ensures.units
    (λ read told.
    let fits = never c.args.unit (length c.args.into.now / 16) c.in-Ok.end c.max-whole.result c.args.file c.args.layers.now
    (g.D.Disk.files c.args.below.now) c.file-pages.result.now (c.in-Ok.ensures.length told) c.file-pages.ensures c.max-whole.ensures
    (c.requires.within told) in
    elim c.then-unit-whole.branch [
      | then-unit-whole-via-then-unit-whole w ↦ absurd (omega (arith, fits, w.if-unit-whole.true))
      | then-unit-whole-via-else-unit-whole+then-into-whole w ↦ absurd (omega (arith, fits, w.if-unit-whole.false, w.if-into-whole.true))
    ])

pub returns-clause-units : goal.returns-clause-units
returns-clause-units g c = λ told.
    let D = g.D.Disk in
    let files : Files = D.files c.args.below.now in
    let n = length c.args.into.now / 16 in
    let pages = c.file-pages.result.now in
    let file : Units = file_of c.args.file files in
    let fits = never c.args.unit n c.in-Ok.end c.max-whole.result c.args.file c.args.layers.now files pages (c.in-Ok.ensures.length told)
    c.file-pages.ensures c.max-whole.ensures (c.requires.within told) in
    let same = (c.in-Ok.ensures.untouched told).same in
    read_laid pages.table.items pages.end file c.args.unit n c.read_below.new.into c.lay.new.into pages.past
    (omega (arith, c.lay.auto.into, c.read_below.auto.into)) (sym c.lay.auto.into)
    (omega (arith, fits, length-laid pages.table.items pages.end file, c.max-whole.ensures, c.in-Ok.ensures.length told))
    (λ k below unheld. c.in_ok-read_below.ensures.units told k below ∙ ap (λ (f : Files). unit_at (file_of c.args.file f) (c.args.unit + k)) same)
    c.lay.ensures
    ∙ ap (λ (p : Pages). take n (drop c.args.unit (laid_file p file))) c.file-pages.ensures
    ∙ ap (λ (us : Units). take n (drop c.args.unit us)) (sym (file_of-laid c.args.file c.args.layers.now files))

pub returns-in_default-clause-counts : goal.returns-in_default-clause-counts
returns-in_default-clause-counts g c = counts_spared g.D.Disk c.args.file _ _ c.args.below.now c.len.new.self c.args.spared.now
    c.add.new.self refl c.in_default.ensures.reads c.add.ensures

pub returns-then-unit-whole-clause-counts : goal.returns-then-unit-whole-clause-counts
returns-then-unit-whole-clause-counts g c = counts_after g.D.Disk c.args.file _ c.args.below.now c.len.new.self
    c.read_at.new.self c.args.spared.now c.args.spared.now c.in-Ok.ensures.reads
    (counts_below g.D.Disk c.args.file _ c.len.new.self c.read_at.new.self c.args.spared.now
    c.read_at.ensures.reads)

pub returns-in_err-read_below-clause-counts : goal.returns-in_err-read_below-clause-counts
returns-in_err-read_below-clause-counts g c = counts_after g.D.Disk c.args.file _ c.args.below.now c.len.new.self c.read_below.new.below
    c.args.spared.now c.read_below.new.spared c.in-Ok.ensures.reads c.in_err-read_below.ensures.counts

pub returns-clause-counts : goal.returns-clause-counts
returns-clause-counts g c = counts_after g.D.Disk c.args.file _ c.args.below.now c.len.new.self c.read_below.new.below
    c.args.spared.now c.read_below.new.spared c.in-Ok.ensures.reads c.in_ok-read_below.ensures.counts
