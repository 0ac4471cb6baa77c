use Rattle.std.proofs.Common.{◌≡◌, ◌≢◌, true, false, sym, ◌∙◌, arith}
use Rattle.rpm_version.proofs.Vocabulary.{is_ascii_alphabetic, is_ascii_digit}
use Rattle.std.proofs.lemmas.List.{nil_from_length}
use Rattle.rpm_version.proofs.Cuts.{segments-nil, segments-digits, segments-letters, segments-tilde, segments-caret, segments-separator}
use Rattle.rpm_version.proofs.segment.next_piece.Goals as goal

pub returns-then-is_ascii_digit-clause-first : goal.returns-then-is_ascii_digit-clause-first
returns-then-is_ascii_digit-clause-first c =
    let yes : is_ascii_digit c.in-Some.byte.now ≡ true = sym c.is_ascii_digit.ensures.value ∙ c.if-is_ascii_digit.true in
    let s = segments-digits _ _ c.in-Some.byte.now c.in-Some.ensures.cases.0 yes in
    cc

pub returns-then-is_ascii_alphabetic-clause-first : goal.returns-then-is_ascii_alphabetic-clause-first
returns-then-is_ascii_alphabetic-clause-first c =
    let yes : is_ascii_alphabetic c.in-Some.byte.now ≡ true = sym c.is_ascii_alphabetic.ensures.value ∙ c.if-is_ascii_alphabetic.true in
    let s = segments-letters _ _ c.in-Some.byte.now c.in-Some.ensures.cases.0 yes in
    cc

pub returns-in-126-clause-first : goal.returns-in-126-clause-first
returns-in-126-clause-first c = cc (segments-tilde c.in-Some.others.now, c.in-Some.ensures.cases.0)

pub returns-in-94-clause-first : goal.returns-in-94-clause-first
returns-in-94-clause-first c = cc (segments-caret c.in-Some.others.now, c.in-Some.ensures.cases.0)

pub loop-byte-preserved : goal.loop-byte-preserved
loop-byte-preserved c =
    let digit : is_ascii_digit c.in-Some.byte.now ≡ false = sym c.is_ascii_digit.ensures.value ∙ c.if-is_ascii_digit.false in
    let letter : is_ascii_alphabetic c.in-Some.byte.now ≡ false = sym c.is_ascii_alphabetic.ensures.value ∙ c.if-is_ascii_alphabetic.false in
    let tilde : c.in-Some.byte.now ≢ 126 = omega arith in
    let caret : c.in-Some.byte.now ≢ 94 = omega arith in
    let s = segments-separator _ c.in-Some.others.now digit letter tilde caret in
    (cc (c.in-Some.ensures.cases.0), omega (arith, c.in-Some.ensures.cases.1))

pub returns-clause-first : goal.returns-clause-first
returns-clause-first c =
    let empty = nil_from_length c.loop-byte.rest.now (c.in_default.ensures.cases) in
    cc segments-nil
