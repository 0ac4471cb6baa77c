use Rattle.std.proofs.Common.{◌≡◌, ◌+◌, ◌++◌, [], ◌∷◌, ℕ, List, length, ◌∙◌, sym, ap, refl, arith}
use Rattle.std.proofs.lemmas.List.FromFn.{map-range_with_len_more}
use Rattle.rpm_outside.proofs.Vocabulary.{mixed_unit, units_of_pick, with_units, Units}
use Rattle.rpm_outside.proofs.Mixing.{mixed_units, mixed_whole}
use Rattle.rpm_outside.proofs.steps.mixed.Goals as goal

pub loop-k-preserved : goal.loop-k-preserved
loop-k-preserved c =
    let at = c.args.at in
    let units = c.args.units.now in
    let file = c.args.file.now in
    let k = c.loop-k.k in
    c.in_ok-push.ensures.items
    ∙ ap (λ (us : Units). us ++ c.mixed_unit.result ∷ []) c.loop-k.invariant
    ∙ ap (λ (u : List ℕ). mixed_units c.args.seed at units file k ++ u ∷ []) c.mixed_unit.ensures
    ∙ sym (map-range_with_len_more (mixed_unit c.args.seed file (with_units at units file)) at k (at + k) refl)

pub returns : goal.returns
unfolding units_of_pick
returns c =
    let at = c.args.at in
    let units = c.args.units.now in
    let file = c.args.file.now in
    let all : c.loop-k.k ≡ length units = omega arith in
    ap (λ (us : Units). with_units at us file) (c.loop-k.invariant ∙ ap (λ (n : ℕ). mixed_units c.args.seed at units file n) all) ∙ mixed_whole c.args.seed
    at units file
