use Rattle.std.proofs.Common.{◌≡◌, ℕ, ◌+◌, ◌-◌, ◌≤◌, Bool, true, false, cond, ◌==◌, List, length, take, drop, Some, None, refl, sym, arith, length-drop}
use Rattle.std.proofs.lemmas.List.{take_all}
use Rattle.std.proofs.lemmas.Bool.{leb-false}
use Rattle.std.proofs.lemmas.List.Quantifiers.{position-Some}
use Rattle.std.proofs.lemmas.List.Sums.{fails_before_first}
use Rattle.rpm_qfeval.proofs.Vocabulary.{position_or_len}
use Rattle.rpm_qfeval.proofs.Encodings.{run_is, plain_is}
use Rattle.rpm_qfeval.proofs.pieces.cut_at_quote.Goals as goal

whole : (text : List ℕ) (n : ℕ) → n ≤ length text → take (length text - n) (drop n text) ≡ drop n text
whole text n h = take_all (length text - n) (drop n text) (omega (arith, length-drop n text))

pub returns-in-Some : goal.returns-in-Some
returns-in-Some c =
    let found = position-Some (λ b. b == 39) c.args.text.now c.in-Some.at 0 (sym c.in-Some.ensures.value) in
    let all = whole c.args.text.now (c.in-Some.at + 1) (omega (arith, found.0)) in
    record {
      cut = rw all (run_is c.args.text.now c.in-Some.at found.0 found.1 found.2);
      shorter = rw all (omega (arith, found.0, length-drop (c.in-Some.at + 1) c.args.text.now));
      whole = tt;
    }

none_is : (b : Bool) (n : ℕ) → None ≡ cond b (Some n) None → b ≡ false
none_is true n e = absurd cc
none_is false n e = refl

pub returns-in-None-clause-whole : goal.returns-in-None-clause-whole
returns-in-None-clause-whole c =
    let past = leb-false _ _ (none_is _ (position_or_len (λ b. b == 39) c.args.text.now) c.in-None.ensures.value) in
    plain_is c.args.text.now (λ k h. fails_before_first (λ b. b == 39) c.args.text.now k 0 (omega arith))
