use Rattle.std.proofs.Common.{◌≡◌, inl, inr, ℕ, false, replicate, get_or, ap, ◌∙◌, arith}
use Rattle.std.proofs.lemmas.List.{get_or-replicate, get_or_past, length-replicate}
use Rattle.std.proofs.lemmas.Bool.{cases_lt}
use Rattle.rpm_group.proofs.Vocabulary.{unit_in}
use Rattle.rpm_group.proofs.ByteLaws.{unmarked}
use Rattle.rpm_group.proofs.page.empty_page.Goals as goal

no_mark : (n k : ℕ) → get_or (replicate n false) k false ≡ false
no_mark n k = elim (cases_lt k n) [
  | inl below ↦ get_or-replicate n k false false below
  | inr past ↦ get_or_past (replicate n false) k false (omega (arith, length-replicate n false))
]

pub returns : goal.returns
returns c = λ k.
    let marks = c.in_ok-new.field-0.value in
    unmarked (get_or marks k false) (unit_in (replicate 4096 0) k) (ap (λ ms. get_or ms k false) c.in_ok-new.ensures.ok ∙ no_mark 256 k)
