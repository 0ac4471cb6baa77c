use Rattle.std.proofs.Common.{◌≡◌, ℕ, ◌+◌, ◌-◌, ◌*◌, ◌/◌, ◌%◌, ◌==◌, true, None, get_or, ap, ◌∙◌, arith}
use Rattle.std.proofs.lemmas.Bool.Decides.{nat_tests}
use Rattle.std.proofs.lemmas.List.{get_or_past}
use Rattle.rpm_group.proofs.Vocabulary.{held_at}
use Rattle.rpm_group.proofs.Tables.{held_in_page, page_read, page_past}
use Rattle.rpm_group.proofs.table.absent.Goals as goal
use Rattle.rpm_group.proofs.table.absent.Goals.{then-q-len-via-then-q-len, then-q-len-via-else-q-len+then-is_empty}

zero_length : (n : ℕ) → true ≡ (n == 0) → n ≡ 0
zero_length n is = grind (arith, nat_tests)

pub returns-then-q-len-clause-none : goal.returns-then-q-len-clause-none
returns-then-q-len-clause-none c = λ i low high.
    let table = c.args.table.now.items in
    let q : ℕ = i / 256 in
    let k : ℕ = i % 256 in
    let place : i ≡ 256 * q + k = omega arith in
    let same : c.args.q / 256 ≡ q / 256 = omega (arith, low, high) in
    ap (λ (j : ℕ). held_at table j) place
    ∙ held_in_page table q k None (omega arith) (elim c.then-q-len.branch [
      | then-q-len-via-then-q-len w ↦ page_past table q (omega (arith, w.if-q-len.true, c.len.ensures, same))
      | then-q-len-via-else-q-len+then-is_empty w ↦
          (let leaf = w.index.result.now in
          page_read table q leaf (omega (arith, w.if-q-len.false, c.len.ensures, same)) (w.index.ensures ∙ ap (λ (g : ℕ). get_or table g leaf) same)
          ∙ get_or_past leaf.items (q % 256) None (omega (arith, zero_length leaf.len w.if-is_empty.ensures)))
    ])

pub returns-in-None-clause-none : goal.returns-in-None-clause-none
returns-in-None-clause-none c = λ i low high.
    let table = c.args.table.now.items in
    let k : ℕ = i - 256 * c.args.q in
    let place : i ≡ 256 * c.args.q + k = omega (arith, low) in
    ap (λ (j : ℕ). held_at table j) place ∙ c.in-None.ensures k (omega (arith, high))
