use Rattle.std.proofs.Common.{◌≡◌, ℕ, Option, None, IsSome, ap, subst}
use Rattle.rpm_pkgdb.proofs.Place.{in_gap}
use Rattle.rpm_pkgdb.proofs.Removed.{removed_drops}
use Rattle.rpm_pkgdb.proofs.Vocabulary.{find_in, SlotIndex, IsStrictlySorted}
use Rattle.rpm_pkgdb.proofs.numbers.Numbers.remove.Goals as goal

not_none : (o : Option ℕ) → IsSome o → o ≡ None → ⊥
not_none o some none = (let e : IsSome {T = ℕ} None = subst IsSome none some in cc)

pub unreachable-requires : goal.unreachable-requires
unreachable-requires c =
    let sorted = subst IsStrictlySorted (ap (λ (v : SlotIndex). v.pairs) c.self.view_is) c.self.invariant in
    not_none (find_in c.args.self.now.pairs c.args.n) c.requires (in_gap c.args.self.now.pairs sorted c.args.n c.in-Err.field-0 c.in-Err.ensures.absent)

pub returns-clause-drops : goal.returns-clause-drops
returns-clause-drops c =
    let l = c.args.self.now.pairs in
    let is : c.self.inside.pairs.items ≡ l = ap (λ (v : SlotIndex). v.pairs) c.self.view_is in
    let sorted = subst IsStrictlySorted is c.self.invariant in
    let found = c.in-Ok.ensures.found in
    rw c.remove.ensures.items (rw is (removed_drops l c.in-Ok.at found.in_range sorted c.args.n found.has_key))
