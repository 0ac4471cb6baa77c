use Rattle.std.proofs.Common.{◌≡◌, ℕ, ◌+◌, ◌^◌, List, length, sym, ap, ◌∙◌, arith, subst}
use Rattle.std.proofs.lemmas.Bool.{leb-true}
use Rattle.rpm_hindex.proofs.Vocabulary.{buckets_of, index_in, index_units, IsWhole, live_of, IndexState, word}
use Rattle.rpm_hindex.proofs.Fitting.{room_by_counts}
use Rattle.rpm_hindex.proofs.index.Hindex.has_room_for.Goals as goal

pub returns : goal.returns
returns c = λ is file keeps whole.
    let second = c.args.self.now.second in
    let adds = c.args.adds.now in
    let x = index_in (buckets_of c.args.self.now.first) file in
    let same : c.self.inside.second ≡ second = ap (λ (s : IndexState). s.second) c.self.view_is in
    let records : c.word.result + c.len.result ≡ word 1 second + length adds = omega (arith, c.word.ensures, c.len.ensures, ap (word 1) same) in
    let live : c.word-2.result + c.live-2.result ≡ word 2 second + live_of adds = omega (arith, c.word-2.ensures, c.live-2.ensures.live, ap (word 2) same) in
    let needed : c.index_units.result ≡ index_units (word 1 second + length adds) (word 2 second + live_of adds) =
    c.index_units.ensures ∙ ap (λ (n : ℕ). index_units n (c.word-2.result + c.live-2.result)) records
    ∙ ap (index_units (word 1 second + length adds)) live in
    room_by_counts x (word 1 second) (word 2 second) adds (subst (λ (u : List ℕ). IsWhole (word 1 u) (word 2 u) x) (sym keeps.second) whole)
    (omega (arith, leb-true c.index_units.result (2 ^ 28) is, needed))
