use Rattle.std.proofs.Common.{◌≡◌, ℕ, ◌%◌, List, map, true, Vec, Global, sym, ap, ◌∙◌, arith, subst}
use Rattle.rpm_hindex.proofs.Vocabulary.{AsOften, chain, ChainCosts, Files, FindIs, follow, hash_of, Hit, Idx, Index, index_in, is_link, row_at, unit_at}
use Rattle.rpm_hindex.proofs.Vocabulary.{units_at}
use Rattle.rpm_hindex.proofs.Chains.{chain_from}
use Rattle.rpm_hindex.proofs.chain.gather.Goals as goal

-- a chain that begins with this word
chain_is : (x : Index) (b k at : ℕ) → k ≡ b → at ≡ x.head k → is_link x at ≡ true → chain x b ≡ follow x b at at
chain_is x b k at is word link =
    let here = word ∙ ap x.head is in
    chain_from x b (ap (is_link x) (sym here) ∙ link) ∙ ap (λ (n : ℕ). follow x b n n) (sym here)

pub collect-requires-clause-within : goal.collect-requires-clause-within
collect-requires-clause-within g c = λ some. (c.in_ok-found.ensures.linked some).1

pub returns-clause-told : goal.returns-clause-told
returns-clause-told g c = λ told.
    let B = c.args.extent.buckets in
    let b = hash_of c.args.kind c.args.key.now % B in
    let file : Files = g.D.Disk.files c.args.disk.now in
    let word = c.in_ok-found.ensures.word told in
    let P : Files → List ℕ → Vec Hit Global → Type 0 = λ f places hits. AsOften c.args.kind c.args.key.now (map (row_at (unit_at f.idx)) places) hits.items in
    let here = subst (λ (f : Files). FindIs (P f) (follow (index_in B f.idx) b c.in_ok-found.found.at c.in_ok-found.found.at) c.collect.result)
    ((c.in_ok-found.ensures.reads.looks.untouched told).same) (c.collect.ensures.told told) in
    subst (λ (s : _). FindIs (P file) s c.collect.result) (sym (chain_is (index_in B file.idx) b c.bucket_of-bucket.result c.in_ok-found.found.at
    c.bucket_of-bucket.ensures.bucket word.0 word.1)) here

pub returns-clause-cost : goal.returns-clause-cost
returns-clause-cost g c = λ told places e.
    let B = c.args.extent.buckets in
    let b = hash_of c.args.kind c.args.key.now % B in
    let file : Files = g.D.Disk.files c.args.disk.now in
    let word = c.in_ok-found.ensures.word told in
    let cost = subst (λ (f : Files). ChainCosts (follow (index_in B f.idx) b c.in_ok-found.found.at c.in_ok-found.found.at) (units_at (unit_at f.idx))
    (g.D.Disk.bytes_read c.read_bucket.new.disk Idx) (g.D.Disk.bytes_read c.collect.new.disk Idx)) ((c.in_ok-found.ensures.reads.looks.untouched told).same)
    (c.collect.ensures.cost told) in
    let is = chain_is (index_in B file.idx) b c.bucket_of-bucket.result c.in_ok-found.found.at c.bucket_of-bucket.ensures.bucket word.0 word.1 in
    let more = cost places (sym is ∙ e) in
    omega (arith, more, c.in_ok-found.ensures.reads.looks.reads.idx)
