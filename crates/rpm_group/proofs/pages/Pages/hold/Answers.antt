use Rattle.std.proofs.Common.{◌/◌, length, Result, Ok, Err, ◌∙◌, arith, refl}
use Rattle.std.specs.Prelude.{OnErr}
use Rattle.rpm_group.proofs.Laids.{ends_later, laid_more, laid_same, last_held}
use Rattle.rpm_group.proofs.pages.Pages.hold.Goals as goal

on_err : {T E : Type 0} {P : Type 0} (r : Result T E) → P → OnErr r P
on_err (Ok x) p = tt
on_err (Err e) p = p

pub returns-in_err-hold_all-clause-err : goal.returns-in_err-hold_all-clause-err
returns-in_err-hold_all-clause-err c =
    let self = c.args.self.now in
    let same = c.in_err-hold_all.ensures.err in
    on_err c.from_residual.result (λ file. laid_same self.table.items c.hold_all.new.table.items self.end file self.past (λ i from. same i
    ∙ self.past i from) same)

pub invariant_of-self-2 : goal.invariant_of-self-2
invariant_of-self-2 c =
    let self = c.args.self.now in
    record {
      small = omega (arith, self.small, c.requires.room, c.max-self.ensures);
      past = ends_later c.args.unit c.args.bytes.now self.table.items c.hold_all.new.table.items self.end c.max-self.result
          c.in_ok-hold_all.ensures.ok self.past c.max-self.ensures;
      last = λ some. last_held c.args.unit (length c.args.bytes.now / 16) c.args.bytes.now self.table.items c.hold_all.new.table.items self.end
          c.max-self.result c.in_ok-hold_all.ensures.ok c.max-self.ensures refl (omega (arith, c.requires.some, c.requires.whole)) self.last;
    }

pub returns-clause-ok : goal.returns-clause-ok
returns-clause-ok c =
    let self = c.args.self.now in
    λ file. laid_more c.args.unit c.args.bytes.now self.table.items c.hold_all.new.table.items self.end c.max-self.result c.in_ok-hold_all.ensures.ok
    self.past c.max-self.ensures file
