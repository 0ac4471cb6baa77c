use Rattle.std.proofs.Common.{inl, inr, false, get_or, sym, ◌∙◌, arith}
use Rattle.std.proofs.lemmas.Bool.{cases_lt, le-ltb, lt-ltb}
use Rattle.std.proofs.lemmas.List.{get_or_past}
use Rattle.rpm_group.proofs.Marks.{differs}
use Rattle.rpm_group.proofs.page.are_all.Goals as goal

pub returns : goal.returns
returns c = λ is k. elim (cases_lt k 256) [
  | inl below ↦
      differs (get_or c.args.marks.now k false) false (c.if-contains.ensures.cases k false (omega arith) (omega (arith, c.requires)))
      ∙ sym (lt-ltb k 256 below)
  | inr past ↦ get_or_past c.args.marks.now k false (omega (arith, c.requires)) ∙ sym (le-ltb k 256 past)
]
