use Rattle.std.proofs.Common.{◌≡◌, ℕ, ◌+◌, ◌/◌, ◌%◌, ◌<◌, false, length, length-append, refl, sym, ap, ◌∙◌, arith}
use Rattle.rpm_hindex.proofs.Vocabulary.{Change, index_after, Files, is_link, word}
use Rattle.rpm_hindex.proofs.Made.{length-bytes}
use Rattle.rpm_hindex.proofs.Going.{go_on, bucket_within}
use Rattle.rpm_hindex.proofs.Adding.{row_added}
use Rattle.rpm_hindex.proofs.Honest.{bad_head, bad_memory, adds_honest}
use Rattle.rpm_hindex.proofs.Results.{on_ok, if_err}
use Rattle.rpm_hindex.proofs.change.Change.add_row.Goals as goal

pub returns-clause-grows : goal.returns-clause-grows
returns-clause-grows g c =
    let s = c.args.self.now in
    let go = c.requires.go in
    let row = c.args.row in
    let long = ap length c.in-Ok.ensures
    ∙ length-append s.tail.items _
    ∙ ap (λ (n : ℕ). length s.tail.items + n) (length-bytes c.word-next.result row.kind row.key.now row.number row.place) in
    let d : Change = record {
      extent = s.extent;
      units = c.put_unit.new.units;
      dropped = s.dropped;
      tail = c.push_record.new.bytes;
      records = s.records + 1;
      live = s.live + c.record_units.result;
    } in
    on_ok c.put_unit.result _ _ (λ put. record {
      go = go_on s d go refl (bucket_within s go c.bucket_of-bucket.result c.bucket_of-bucket.ensures.within _ _ put)
          (omega (arith, long, go.whole)) (omega (arith, long, go.whole, c.requires.room)) (omega (arith, long, go.whole, go.live, c.record_units.ensures))
          (omega (arith, c.requires.count));
      extent = refl;
      tail = omega (arith, long, go.whole);
      records = refl;
      live = ap (λ (n : ℕ). s.live + n) c.record_units.ensures;
    }) c.put_unit.ensures.put

pub returns-clause-added : goal.returns-clause-added
returns-clause-added g c = on_ok c.put_unit.result _ _ (λ put told.
    let s = c.args.self.now in
    let row = c.args.row in
    let file : Files = g.D.Disk.files c.args.disk.now in
    let d : Change = record {
      extent = s.extent;
      units = c.put_unit.new.units;
      dropped = s.dropped;
      tail = c.push_record.new.bytes;
      records = s.records + 1;
      live = s.live + c.record_units.result;
    } in
    let long = ap length c.in-Ok.ensures
    ∙ length-append s.tail.items _
    ∙ ap (λ (n : ℕ). length s.tail.items + n) (length-bytes c.word-next.result row.kind row.key.now row.number row.place) in
    let longer : length s.tail.items / 16 < length c.push_record.new.bytes.items / 16 = omega (arith, long, c.requires.go.whole) in
    record {
      rows = λ whole. row_added s d file.idx c.requires.go row.kind row.key.now row.number row.place c.bucket_of-bucket.result
          c.used-used.result c.word-next.result c.in_ok-words.words c.with_word.result
          c.bucket_of-bucket.ensures.bucket c.bucket_of-bucket.ensures.within (c.in_ok-words.ensures.words told) c.used-used.ensures c.with_word.ensures put
          c.word-next.ensures
          c.in-Ok.ensures refl refl (ap (λ (n : ℕ). s.live + n) c.record_units.ensures) c.requires.kind c.requires.short
          (omega (arith, c.ranges.row)) (omega (arith, c.ranges.row)) whole;
      honest = λ honest. adds_honest s file.idx c.requires.go c.bucket_of-bucket.result c.bucket_of-bucket.ensures.within c.put_unit.new.units
          c.push_record.new.bytes c.record_units.result
          c.in_ok-words.words c.with_word.result c.used-used.result (c.in_ok-words.ensures.words told) c.used-used.ensures c.with_word.ensures put longer
          honest;
    }) c.put_unit.ensures.put

pub returns-clause-bad : goal.returns-clause-bad
returns-clause-bad g c = if_err c.put_unit.result _ _ (λ e is told honest. bad_memory c.args.self.now.extent.buckets
    (g.D.Disk.files c.args.disk.now).idx e is) c.put_unit.ensures.memory

pub returns-then-not-is_link-clause-bad : goal.returns-then-not-is_link-clause-bad
returns-then-not-is_link-clause-bad g c = λ told honest.
    let s = c.args.self.now in
    let file : Files = g.D.Disk.files c.args.disk.now in
    let b = c.bucket_of-bucket.result in
    let at : c.used-used.result ≡ s.extent.used + length s.tail.items / 16 = c.used-used.ensures in
    let no' : is_link (index_after s file.idx) c.word-next.result ≡ false = sym (c.is_link.ensures (index_after s file.idx) refl (sym at))
    ∙ c.if-not-is_link.true in
    bad_head s file.idx (c.requires.open told) honest b c.word-next.result c.bucket_of-bucket.ensures.within (c.word-next.ensures ∙ ap (word (b % 4))
    (c.in_ok-words.ensures.words told)) no'
