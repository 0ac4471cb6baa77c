use Rattle.std.proofs.Common.{ℕ, ◌<◌, ap, sym, ◌∙◌, refl, arith}
use Rattle.rpm_hindex.proofs.Vocabulary.{Index, index_in, word}
use Rattle.rpm_hindex.proofs.Chains.{follow_bad, unsound_place, placed_parts}
use Rattle.rpm_hindex.proofs.FollowedLinks.{within, behind_front}
use Rattle.rpm_hindex.proofs.AsRead.{alone}
use Rattle.rpm_hindex.proofs.heads.read_head.Goals as goal

pub returns-then-not-is_placed-clause-fault : goal.returns-then-not-is_placed-clause-fault
returns-then-not-is_placed-clause-fault g c = λ told b.
    let x : Index = index_in c.args.extent.buckets (g.D.Disk.files c.args.disk.now).idx in
    let bad = sym (c.is_placed.ensures x refl (c.requires.open.is_open told).used (c.in-Ok.ensures.unit told)) ∙ c.if-not-is_placed.true in
    follow_bad x b c.args.at c.args.at c.requires.some_at (omega arith) (unsound_place x b c.args.at bad)

pub returns-clause-next : goal.returns-clause-next
returns-clause-next g c =
    let x : Index = alone c.args.extent.buckets c.args.extent.used c.in-Ok.unit in
    let placed = placed_parts x c.args.at (sym (c.is_placed.ensures x refl refl refl) ∙ c.if-not-is_placed.false) in
    record {
      falls = omega (arith, placed.falls, c.word-4.ensures);
      linked = λ some.
          let next : ℕ = word 0 c.in-Ok.unit in
          let positive : 0 < next = omega (arith, some, c.word-4.ensures) in
          (omega (arith, behind_front x next placed.link positive, c.word-4.ensures), omega (arith, within x next placed.link positive, c.word-4.ensures));
    }

pub returns-clause-ahead : goal.returns-clause-ahead
returns-clause-ahead g c = λ told.
    let x : Index = index_in c.args.extent.buckets (g.D.Disk.files c.args.disk.now).idx in
    let first = c.in-Ok.ensures.unit told in
    record {
      placed = sym (c.is_placed.ensures x refl (c.requires.open.is_open told).used first) ∙ c.if-not-is_placed.false;
      next = c.word-4.ensures ∙ ap (word 0) first;
      head = record {
        packed = sym (c.word.ensures ∙ ap (word 1) first);
        number = sym (c.word-2.ensures ∙ ap (word 2) first);
        «in» = sym (c.word-3.ensures ∙ ap (word 3) first);
      };
    }
