use Rattle.std.proofs.Common.{◌≡◌, ◌<◌, ◌==◌, ℕ, true, false, List, [], ◌∷◌, ◌++◌, length, refl, sym, ◌∙◌, ap, subst, arith}
use Rattle.std.proofs.lemmas.List.{nil_from_length}
use Rattle.std.proofs.lemmas.Bool.Decides.{nat_tests}
use Rattle.rpm_outside.proofs.Vocabulary.{file_of, held_files, part_of, with_units, Step, Units, units_of, with_file, Wrote, WroteAny}
use Rattle.rpm_outside.proofs.Replays.{once_any}
use Rattle.rpm_outside.proofs.steps.write_units.Goals as goal

zero_length : (n : ℕ) → true ≡ (n == 0) → n ≡ 0
zero_length n is = grind (arith, nat_tests)

some_length : (n : ℕ) → false ≡ (n == 0) → 0 < n
some_length n is = grind (arith, nat_tests)

pub returns-then-is_empty-clause-ok : goal.returns-then-is_empty-clause-ok
returns-then-is_empty-clause-ok c =
    let old = held_files c.args.now.now in
    let steps = c.args.steps.now.items in
    let units = c.in_ok-units.units in
    let none : units.items ≡ [] = nil_from_length units.items (omega (arith, units.ok.0, zero_length units.len c.if-is_empty.ensures)) in
    subst (λ (us : Units). WroteAny old old steps steps c.args.file c.args.unit us) (sym none ∙ c.in_ok-units.ensures.units)
    (record { files = refl; none = refl })

pub returns-clause-ok : goal.returns-clause-ok
returns-clause-ok c =
    let old = held_files c.args.now.now in
    let file = c.args.file in
    let part = part_of c.args.half (units_of c.args.bytes.now) in
    let is = c.in_ok-units.ensures.units in
    let units = c.in_ok-units.units in
    let some : 0 < length part = omega (arith, ap length is, units.ok.0, some_length units.len c.if-is_empty.ensures) in
    once_any old (held_files c.write.new.self) c.args.steps.now.items c.push.new.self.items file c.args.unit part some (record {
      kept = c.in_ok-units.units;
      is = is;
      step = c.in_ok-push.ensures.items ∙ ap (λ (s : List Step). s ++ Wrote file c.args.unit units ∷ []) c.reserve.ensures.items;
      files = c.in_ok-write.ensures.ok ∙ ap (λ (us : Units). with_file file (with_units c.args.unit us (file_of file old)) old) (c.deref.ensures.value ∙ is);
    })
