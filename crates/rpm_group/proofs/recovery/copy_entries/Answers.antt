use Rattle.std.proofs.Common.{◌≡◌, ℕ, ◌+◌, ◌-◌, [], Option, None, IfSome, refl, sym, ap, subst, ◌∙◌, arith}
use Rattle.rpm_group.proofs.Vocabulary.{entries_of, Files, Head, HeadIs, heads, heads_behind, HeadSays, Idx, IsHead, Pkg, reads_none, reads_then, started}
use Rattle.rpm_group.proofs.Vocabulary.{then_look, WasWithin, within_none}
use Rattle.rpm_group.proofs.Copies.{log_stays}
use Rattle.rpm_group.proofs.Applied.{Done, left_wrong, head_covers, done_more, done_all, within_more}
use Rattle.rpm_group.proofs.recovery.copy_entries.Goals as goal

less : (n : ℕ) → n ≡ n - 0
less n = omega arith

pub loop-k-init : goal.loop-k-init
loop-k-init g c =
    let D = g.D.Disk in
    let files = D.files c.args.disk.now in
    let entries = entries_of (heads_behind c.args.commit_record files.log) in
    record {
      place = omega arith;
      so_far = λ told. record {
        done = [];
        rest = entries;
        all = refl;
        heads_left = ap (λ (n : ℕ). heads n 1 c.args.commit_record.last files.log) (sym (less c.args.commit_record.entries)) ∙ c.requires.open told;
        files = refl;
      };
      log = λ told. refl;
      images = λ told. started D c.args.disk.now (WasWithin entries (D.left_since c.args.disk.now (D.moment c.args.disk.now)))
          (λ image left. (image, left, within_none entries image));
      reads = reads_none _ g.met.D.Disk.follows_refl c.args.disk.now;
      faults = omega arith;
    }

pub loop-k-preserved : goal.loop-k-preserved
loop-k-preserved g c =
    let D = g.D.Disk in
    let inv = c.loop-k.invariant in
    let head = c.in-Some.head in
    let files : Files = D.files c.args.disk.now in
    let mid : Files = D.files c.read_head.new.disk in
    let entries = entries_of (heads_behind c.args.commit_record files.log) in
    let is_head : IsHead c.args.commit_record.last c.loop-k.p head = subst (λ (h : Option Head). IfSome h (λ x. IsHead c.args.commit_record.last c.loop-k.p x))
    c.in-Some.is c.in_ok-head.ensures.head in
    let looks = c.read_head.ensures.reads.looks in
    let old = c.args.disk.now in
    record {
      place = omega (arith, is_head.within);
      so_far = λ told.
          let same : mid ≡ D.files c.loop-k.disk = (looks.untouched told).same in
          let log : mid.log ≡ files.log = ap (λ (f : Files). f.log) same ∙ inv.log told in
          let so_far : Done entries (c.args.commit_record.entries - c.loop-k._k) c.loop-k.p c.args.commit_record.last files.log files mid =
          subst (λ (f : Files). Done entries (c.args.commit_record.entries - c.loop-k._k) c.loop-k.p c.args.commit_record.last files.log files f) (sym same)
          (inv.so_far told) in
          let says : HeadIs c.args.commit_record.last c.loop-k.p files.log head = subst (λ us. HeadIs c.args.commit_record.last c.loop-k.p us head)
          (inv.log told)
          (subst (λ (h : Option Head). HeadSays c.args.commit_record.last c.loop-k.p (D.files c.loop-k.disk).log h) c.in-Some.is
          (c.in_ok-head.ensures.says told)) in
          done_more entries (c.args.commit_record.entries - c.loop-k._k) c.loop-k.p c.args.commit_record.last files.log files mid
          (D.files c.copy_units.new.disk)
          (c.args.commit_record.entries - c.loop-k._k - 1) head so_far (omega arith) says (c.requires.last told)
          (c.args.commit_record.entries - (c.loop-k._k + 1)) (c.loop-k.p + (1 + head.count)) mid.log (omega arith) (omega (arith, says.count)) log
          (c.in_ok-copy_units.ensures.written told);
      log = λ told. log_stays head.file _ mid (D.files c.copy_units.new.disk) is_head.not_log (c.in_ok-copy_units.ensures.written told)
          ∙ ap (λ (f : Files). f.log) (looks.untouched told).same ∙ inv.log told;
      images = λ told.
          let says : HeadIs c.args.commit_record.last c.loop-k.p files.log head = subst (λ us. HeadIs c.args.commit_record.last c.loop-k.p us head)
          (inv.log told)
          (subst (λ (h : Option Head). HeadSays c.args.commit_record.last c.loop-k.p (D.files c.loop-k.disk).log h) c.in-Some.is
          (c.in_ok-head.ensures.says told)) in
          within_more D entries head.file head.first (head.first + head.count) old c.read_head.new.disk c.copy_units.new.disk
          (omega (arith, is_head.some))
          (head_covers entries (c.args.commit_record.entries - c.loop-k._k) c.loop-k.p c.args.commit_record.last files.log files (D.files c.loop-k.disk) mid
          (c.args.commit_record.entries - c.loop-k._k - 1) head (inv.so_far told) (omega arith) says (c.requires.last told))
          (λ image left. g.met.D.Disk.earlier c.read_head.new.disk (D.moment old) (D.moment c.read_head.new.disk) image told
          (omega (arith, inv.reads.later, looks.moment_stays)) (omega arith) left)
          (then_look D old c.loop-k.disk c.read_head.new.disk (WasWithin entries (D.left_since old (D.moment old))) _ _
          (inv.images told) (looks.untouched told) looks.moment_stays)
          (c.copy_units.ensures.images told);
      reads =
          reads_then _ g.met.D.Disk.follows_trans old c.read_head.new.disk c.copy_units.new.disk
          (record {
            later = omega (arith, inv.reads.later, looks.moment_stays);
            pkg = omega (arith, looks.reads.no_less Pkg, looks.reads.pkg, inv.reads.pkg);
            idx = omega (arith, looks.reads.no_less Idx, looks.reads.idx, inv.reads.idx);
            goes_on = g.met.D.Disk.follows_trans old c.loop-k.disk c.read_head.new.disk inv.reads.goes_on looks.goes_on;
          })
          c.copy_units.ensures.reads.log;
      faults = omega (arith, inv.faults, c.read_head.ensures.reads.cause.later, c.copy_units.ensures.reads.cause.later);
    }

pub returns-in_err-copy_units-clause-images : goal.returns-in_err-copy_units-clause-images
returns-in_err-copy_units-clause-images g c = λ told.
    let D = g.D.Disk in
    let inv = c.loop-k.invariant in
    let head = c.in-Some.head in
    let files : Files = D.files c.args.disk.now in
    let mid : Files = D.files c.read_head.new.disk in
    let entries = entries_of (heads_behind c.args.commit_record files.log) in
    let is_head : IsHead c.args.commit_record.last c.loop-k.p head = subst (λ (h : Option Head). IfSome h (λ x. IsHead c.args.commit_record.last c.loop-k.p x))
    c.in-Some.is c.in_ok-head.ensures.head in
    let looks = c.read_head.ensures.reads.looks in
    let old = c.args.disk.now in
    let says : HeadIs c.args.commit_record.last c.loop-k.p files.log head = subst (λ us. HeadIs c.args.commit_record.last c.loop-k.p us head) (inv.log told)
    (subst (λ (h : Option Head). HeadSays c.args.commit_record.last c.loop-k.p (D.files c.loop-k.disk).log h) c.in-Some.is (c.in_ok-head.ensures.says told)) in
    within_more D entries head.file head.first (head.first + head.count) old c.read_head.new.disk c.copy_units.new.disk
    (omega (arith, is_head.some))
    (head_covers entries (c.args.commit_record.entries - c.loop-k._k) c.loop-k.p c.args.commit_record.last files.log files (D.files c.loop-k.disk) mid
    (c.args.commit_record.entries - c.loop-k._k - 1) head (inv.so_far told) (omega arith) says (c.requires.last told))
    (λ image left. g.met.D.Disk.earlier c.read_head.new.disk (D.moment old) (D.moment c.read_head.new.disk) image told
    (omega (arith, inv.reads.later, looks.moment_stays)) (omega arith) left)
    (then_look D old c.loop-k.disk c.read_head.new.disk (WasWithin entries (D.left_since old (D.moment old))) _ _
    (inv.images told) (looks.untouched told) looks.moment_stays)
    (c.copy_units.ensures.images told)

pub returns-in_default-clause-none : goal.returns-in_default-clause-none
returns-in_default-clause-none g c = λ told.
    let D = g.D.Disk in
    let files : Files = D.files c.args.disk.now in
    let so_far = c.loop-k.invariant.so_far told in
    absurd (left_wrong (c.args.commit_record.entries - c.loop-k._k) c.loop-k.p c.args.commit_record.last files.log
    (c.args.commit_record.entries - c.loop-k._k - 1) so_far.rest
    (omega arith) so_far.heads_left
    (subst (λ us. HeadSays c.args.commit_record.last c.loop-k.p us None) (c.loop-k.invariant.log told)
    (subst (λ (h : Option Head). HeadSays c.args.commit_record.last c.loop-k.p (D.files c.loop-k.disk).log h) c.in_default.is
    (c.in_ok-head.ensures.says told))))

pub returns-in_default-clause-written : goal.returns-in_default-clause-written
returns-in_default-clause-written g c = λ told. let never = returns-in_default-clause-none g c told in absurd cc

pub returns-clause-written : goal.returns-clause-written
returns-clause-written g c = λ told.
    let files : Files = g.D.Disk.files c.args.disk.now in
    done_all (entries_of (heads_behind c.args.commit_record files.log))
    (c.args.commit_record.entries - c.loop-k._k) c.loop-k.p c.args.commit_record.last files.log files
    (g.D.Disk.files c.loop-k.disk) (omega arith) (c.loop-k.invariant.so_far told)
