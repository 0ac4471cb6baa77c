use Rattle.std.proofs.Common.{◌≡◌, ℕ, List, ◌++◌, codes, if◌then◌else◌, is_ok, Result, Ok, Err, IfOk, ap, ◌∙◌, append_assoc}
use Rattle.rpm_effects.proofs.Vocabulary.{file_text, header_text}
use Rattle.rpm_effects.proofs.faults.push_file_text.Goals as goal

pushed : {T E : Type 0} (r : Result T E) (old new front : List ℕ) → new ≡ (if is_ok r then old ++ front else old) → IfOk r (λ done. new ≡ old ++ front)
pushed (Ok t) old new front is = is
pushed (Err e) old new front is = tt

pushed_more : {T E : Type 0} (r : Result T E) (old mid new front back : List ℕ) → mid ≡ old ++ front → IfOk r (λ done. new ≡ mid ++ back)
    → IfOk r (λ done. new ≡ old ++ (front ++ back))
pushed_more (Ok t) old mid new front back first last = last ∙ ap (λ (l : List ℕ). l ++ back) first ∙ append_assoc old front back
pushed_more (Err e) old mid new front back first last = tt

pub returns-in_ok-extend_from_slice-in-Signature : goal.returns-in_ok-extend_from_slice-in-Signature
unfolding file_text
returns-in_ok-extend_from_slice-in-Signature c =
    rw c.in-Signature.is (pushed_more c.push_header_text.result c.args.text.now.items c.extend_from_slice-in-Signature.new.self.items
    c.push_header_text.new.text.items (codes "signature header: ") (header_text c.in-Signature.of)
    c.in_ok-extend_from_slice-in-Signature.ensures.items c.push_header_text.ensures)

pub returns-in-TooLarge : goal.returns-in-TooLarge
unfolding file_text
returns-in-TooLarge c =
    rw c.in-TooLarge.is (pushed c.extend_from_slice-in-TooLarge.result c.args.text.now.items c.extend_from_slice-in-TooLarge.new.self.items
    (codes "header too large") c.extend_from_slice-in-TooLarge.ensures.items)
