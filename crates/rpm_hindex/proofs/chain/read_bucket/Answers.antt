use Rattle.std.proofs.Common.{◌%◌, ap, sym, ◌∙◌, refl, []}
use Rattle.rpm_hindex.proofs.Vocabulary.{Index, index_in, is_link, word}
use Rattle.rpm_hindex.proofs.Chains.{chain_bad}
use Rattle.rpm_hindex.proofs.FollowedLinks.{within, behind_front}
use Rattle.rpm_hindex.proofs.chain.read_bucket.Goals as goal

pub returns-then-not-is_link-clause-fault : goal.returns-then-not-is_link-clause-fault
returns-then-not-is_link-clause-fault g c = λ told.
    let x : Index = index_in c.args.extent.buckets (g.D.Disk.files c.args.disk.now).idx in
    let at = c.word-at.ensures ∙ ap (word (c.args.bucket % 4)) (c.in-Ok.ensures.unit told) in
    chain_bad x c.args.bucket (ap (is_link x) (sym at) ∙ sym (c.is_link.ensures x refl ((c.requires.open.is_open told).used)) ∙ c.if-not-is_link.true)

pub returns-clause-word : goal.returns-clause-word
returns-clause-word g c = λ told.
    let x : Index = index_in c.args.extent.buckets (g.D.Disk.files c.args.disk.now).idx in
    let at = c.word-at.ensures ∙ ap (word (c.args.bucket % 4)) (c.in-Ok.ensures.unit told) in
    (at, sym (c.is_link.ensures x refl ((c.requires.open.is_open told).used)) ∙ c.if-not-is_link.false)

pub returns-clause-linked : goal.returns-clause-linked
returns-clause-linked g c = λ some.
    let x : Index = record { buckets = c.args.extent.buckets; used = c.args.extent.used; head = λ b. 0; unit = λ i. [] } in
    let link = sym (c.is_link.ensures x refl refl) ∙ c.if-not-is_link.false in
    (behind_front x c.word-at.result link some, within x c.word-at.result link some)
