use Rattle.std.proofs.Common.{ℕ, length, sym, ap, ◌∙◌, arith, subst}
use Rattle.rpm_hindex.proofs.Vocabulary.{Extent, is_bucket_count, HasBuckets, IsWellFormed, IndexState, word}
use Rattle.rpm_hindex.proofs.Orders.{started, open_from}
use Rattle.rpm_hindex.proofs.Placing.{started as placed_start}
use Rattle.rpm_hindex.proofs.Honest.{starts_honest}
use Rattle.rpm_hindex.proofs.index.Hindex.start.Goals as goal

pub new-requires : goal.new-requires
new-requires c =
    let s = started c.args.self.now c.extent.result c.requires.order c.extent.ensures in
    record {
      fours = s.fours;
      some = s.some;
      few = s.few;
      front = s.front;
      room = s.room;
      live = omega (arith, s.live, c.word-live.ensures, ap (λ (s : IndexState). word 2 s.second) c.self.view_is);
      records = omega (arith, s.records, c.word-records.ensures, ap (λ (s : IndexState). word 1 s.second) c.self.view_is);
    }

pub returns-clause-fits : goal.returns-clause-fits
returns-clause-fits c = omega (
  arith,
  (started c.args.self.now c.extent.result c.requires.order c.extent.ensures).fits,
  ap (λ (e : Extent). e.used) c.new.ensures.begins.extent,
)

pub returns-clause-open : goal.returns-clause-open
returns-clause-open c = λ file keeps. subst (λ (e : Extent). HasBuckets e file) (sym (c.new.ensures.begins.extent ∙ c.extent.ensures))
    (open_from c.args.self.now file c.requires.order keeps)

pub returns-clause-whole : goal.returns-clause-whole
returns-clause-whole c = λ file keeps whole.
    let extent = c.new.ensures.begins.extent ∙ c.extent.ensures in
    let first = ap (λ (s : IndexState). s.second) c.self.view_is ∙ keeps.second in
    placed_start c.new.result file c.new.ensures.begins.units (ap length c.new.ensures.begins.tail) (ap (word 0) (sym keeps.second)
    ∙ sym (ap (λ (e : Extent). e.used) extent))
    (c.new.ensures.begins.records ∙ c.word-records.ensures ∙ ap (word 1) first) (c.new.ensures.begins.live ∙ c.word-live.ensures ∙ ap (word 2) first)
    c.new.ensures.begins.dropped
    (subst (λ (n : ℕ). IsWellFormed n file) (sym (ap (λ (e : Extent). e.buckets) extent)) whole)

pub returns-clause-count : goal.returns-clause-count
returns-clause-count c = ap (λ (e : Extent). is_bucket_count e.buckets) c.new.ensures.begins.extent
    ∙ (started c.args.self.now c.extent.result c.requires.order c.extent.ensures).count

pub returns-clause-honest : goal.returns-clause-honest
returns-clause-honest c = λ file keeps.
    let first = ap (λ (s : IndexState). s.second) c.self.view_is ∙ keeps.second in
    starts_honest c.new.result file c.new.ensures.begins.units (c.new.ensures.begins.records ∙ c.word-records.ensures ∙ ap (word 1) first)
    (c.new.ensures.begins.live ∙ c.word-live.ensures ∙ ap (word 2) first)

pub returns-clause-fresh : goal.returns-clause-fresh
returns-clause-fresh c = λ file keeps.
    let first = ap (λ (s : IndexState). s.second) c.self.view_is ∙ keeps.second in
    record {
      records = c.new.ensures.begins.records ∙ c.word-records.ensures ∙ ap (word 1) first;
      live = c.new.ensures.begins.live ∙ c.word-live.ensures ∙ ap (word 2) first;
      kept = c.new.ensures.begins.dropped;
    }
