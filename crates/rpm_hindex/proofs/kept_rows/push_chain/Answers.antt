use Rattle.std.proofs.Common.{◌≡◌, ◌++◌, ℕ, List, map, sym, subst}
use Rattle.rpm_hindex.proofs.Vocabulary.{contains, Files, filter, FindIs, follow, index_in, is_kept, nat_cmp, row_at, unit_at}
use Rattle.rpm_hindex.proofs.Ways.{chain_is}
use Rattle.rpm_hindex.proofs.kept_rows.push_chain.Goals as goal

pub returns-clause-told : goal.returns-clause-told
returns-clause-told g c = λ told.
    let B = c.args.extent.buckets in
    let file : Files = g.D.Disk.files c.args.disk.now in
    let at = c.in_ok-found.found.at in
    let word = c.in_ok-found.ensures.word told in
    let P : Files → List ℕ → Unit {0} → Type 0 = λ f places done. c.push_from.new.rows ≡ c.args.rows.now ++ map (row_at (unit_at f.idx))
    (filter (is_kept (λ p. contains nat_cmp c.args.dropped.now p)) places) in
    let here = subst (λ (f : Files). FindIs (P f) (follow (index_in B f.idx) c.args.bucket at at) c.push_from.result)
    ((c.in_ok-found.ensures.reads.looks.untouched told).same) (c.push_from.ensures.told told) in
    subst (λ (s : _). FindIs (P file) s c.push_from.result) (sym (chain_is (index_in B file.idx) c.args.bucket at word.0 word.1)) here
