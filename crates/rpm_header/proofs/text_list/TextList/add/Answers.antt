use Rattle.std.proofs.Common.{arith, ◌+◌, ◌∙◌, ap, List, ℕ, ◌++◌, ◌∷◌, [], length, refl, length-append}
use Rattle.rpm_header.proofs.TextsAgain.{joined_more, few_joined}
use Rattle.rpm_header.proofs.text_list.TextList.add.Goals as goal

pub overflow_add-self : goal.overflow_add-self
overflow_add-self c =
    omega (
      arith,
      few_joined c.self.inside.count c.self.inside.bytes.items c.self.invariant,
      c.append_text.new.bytes.ok,
      c.append_text.new.bytes.small,
      ap length c.in_ok-append_text.ensures.ok,
      length-append (c.self.inside.bytes.items ++ c.args.text.now) (0 ∷ []),
      length-append c.self.inside.bytes.items c.args.text.now,
    )

pub invariant_of-self-2 : goal.invariant_of-self-2
invariant_of-self-2 c =
    (joined_more c.self.inside.count (c.self.inside.count + 1) c.self.inside.bytes.items c.append_text.new.bytes.items c.args.text.now c.self.invariant
    c.requires refl c.in_ok-append_text.ensures.ok).1

pub returns-clause-ok : goal.returns-clause-ok
returns-clause-ok c =
    (joined_more c.self.inside.count (c.self.inside.count + 1) c.self.inside.bytes.items c.append_text.new.bytes.items c.args.text.now c.self.invariant
    c.requires refl c.in_ok-append_text.ensures.ok).0 ∙ ap (λ (ts : List (List ℕ)). ts ++ c.args.text.now ∷ []) c.self.view_is
