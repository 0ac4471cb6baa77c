use Rattle.std.proofs.Common.{◌≡◌, true, false, refl, sym, ap, ◌∙◌, subst}
use Rattle.std.proofs.lemmas.List.{drop_all}
use Rattle.std.specs.Prelude.{string_bytes, IsSome}
use Rattle.rpm_outside.proofs.Vocabulary.{bytes_eq}
use Rattle.rpm_outside.proofs.Shelving.{find_in, paths_find, bytes_here, found, passed}
use Rattle.rpm_outside.proofs.mem_shelf.place_of.Goals as goal

pub returns-then-eq : goal.returns-then-eq
returns-then-eq c =
    let items = c.args.items.now in
    let path = c.args.path.now in
    let item = c.index-items-i.result in
    let same : bytes_eq path (string_bytes item.path) ≡ true = ap (bytes_eq path) (sym c.as_str.ensures.value) ∙ sym c.eq.ensures ∙ c.if-eq.true in
    let here = bytes_here path items c.loop-i.i item c.loop-i-test.true c.index-items-i.is in (
      subst IsSome (sym here) refl,
      here ∙ sym (found path items c.loop-i.i item c.loop-i-test.true c.index-items-i.is same) ∙ c.loop-i.invariant
          ∙ sym (paths_find path items),
    )

pub loop-i-preserved : goal.loop-i-preserved
loop-i-preserved c =
    let items = c.args.items.now in
    let path = c.args.path.now in
    let item = c.index-items-i.result in
    let other : bytes_eq path (string_bytes item.path) ≡ false = ap (bytes_eq path) (sym c.as_str.ensures.value) ∙ sym c.eq.ensures ∙ c.if-eq.false in
    passed path items c.loop-i.i item c.loop-i-test.true c.index-items-i.is other ∙ c.loop-i.invariant

pub returns : goal.returns
returns c =
    let items = c.args.items.now in
    let path = c.args.path.now in
    paths_find path items ∙ sym c.loop-i.invariant ∙ ap (find_in path) (drop_all c.loop-i.i items c.loop-i-test.false)
