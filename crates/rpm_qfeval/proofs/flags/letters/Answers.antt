use Rattle.std.proofs.Common.{◌≡◌, ℕ, ◌+◌, List, [], ◌∷◌, ◌++◌, length, drop, get_or}
use Rattle.std.proofs.Common.{true, false, refl, sym, ap, ◌∙◌, arith, append_assoc, append-nil, length-append}
use Rattle.rpm_qfeval.proofs.Vocabulary.{has, bit_letters}
use Rattle.rpm_qfeval.proofs.Steps.{drop_all, drop_at}
use Rattle.rpm_qfeval.proofs.flags.letters.Goals.{then-has, else-has}
use Rattle.rpm_qfeval.proofs.flags.letters.Goals as goal

with_letter : (bit letter n : ℕ) (rest : List (ℕ × ℕ)) → has bit n ≡ true → bit_letters ((bit, letter) ∷ rest) n ≡ letter ∷ bit_letters rest n
with_letter bit letter n rest h = rw h refl

without : (bit letter n : ℕ) (rest : List (ℕ × ℕ)) → has bit n ≡ false → bit_letters ((bit, letter) ∷ rest) n ≡ bit_letters rest n
without bit letter n rest h = rw h refl

pub loop-bit-init : goal.loop-bit-init
loop-bit-init c = record {
  few = omega (arith, ap length c.new-letters.ensures);
  whole = ap (λ (x : List ℕ). x ++ bit_letters c.args.rows.now c.args.number) c.new-letters.ensures;
}

pub loop-bit-preserved : goal.loop-bit-preserved
loop-bit-preserved c =
    let row = get_or c.args.rows.now c.loop-bit.bit-index (0, 0) in
    let rest = drop (c.loop-bit.bit-index + 1) c.args.rows.now in
    let at : drop c.loop-bit.bit-index c.args.rows.now ≡ row ∷ rest = drop_at c.args.rows.now c.loop-bit.bit-index (0, 0) c.loop-bit-test.true in
    elim c.if-has.branch [
      | then-has w ↦
          let set : has row.0 c.args.number ≡ true = sym c.has.ensures ∙ w.if-has.true in
          let items : c.if-has.letters.items ≡ c.loop-bit.letters.items ++ row.1 ∷ [] = ap (λ v. v.items) w.letters-is ∙ w.push.ensures.items in
          record {
            few = omega (arith, ap length items, length-append c.loop-bit.letters.items (row.1 ∷ []), c.loop-bit.invariant.few);
            whole = ap (λ (x : List ℕ). x ++ bit_letters rest c.args.number) items
                ∙ append_assoc c.loop-bit.letters.items (row.1 ∷ []) (bit_letters rest c.args.number)
                ∙ ap (λ (x : List ℕ). c.loop-bit.letters.items ++ x)
                (sym (ap (λ rows. bit_letters rows c.args.number) at ∙ with_letter row.0 row.1 c.args.number rest set)) ∙ c.loop-bit.invariant.whole;
          }
      | else-has w ↦
          let unset : has row.0 c.args.number ≡ false = sym c.has.ensures ∙ w.if-has.false in
          let items : c.if-has.letters.items ≡ c.loop-bit.letters.items = ap (λ v. v.items) w.letters-is in
          record {
            few = omega (arith, ap length items, c.loop-bit.invariant.few);
            whole = ap (λ (x : List ℕ). x ++ bit_letters rest c.args.number) items
                ∙ ap (λ (x : List ℕ). c.loop-bit.letters.items ++ x)
                (sym (ap (λ rows. bit_letters rows c.args.number) at ∙ without row.0 row.1 c.args.number rest unset)) ∙ c.loop-bit.invariant.whole;
          }
    ]

pub returns : goal.returns
returns c =
    let none : drop c.loop-bit.bit-index c.args.rows.now ≡ [] = drop_all c.args.rows.now c.loop-bit.bit-index c.loop-bit-test.false in
    sym (append-nil c.loop-bit.letters.items) ∙ ap (λ (x : List ℕ). c.loop-bit.letters.items ++ x)
    (sym (ap (λ rows. bit_letters rows c.args.number) none)) ∙ c.loop-bit.invariant.whole
