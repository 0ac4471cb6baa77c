-- What is left to read is shorter.
use Rattle.std.proofs.Common.{ℕ, ◌+◌, ◌≤◌, List, [], length, drop, Bool, true, false, cond, Option, Some, None, Result, Ok, Err, arith, nat_lt, ◌==◌, if◌then◌else◌}
use Rattle.rpm_qfparse.proofs.Vocabulary.{after_number, asked_tag, BarExpected, begins, BraceExpected, close, Count, digit_count, Element, Faulty, First}
use Rattle.rpm_qfparse.proofs.Vocabulary.{formatter, MissingClose, MissingOpen, name_and_show, named_tag, number_of, ok_or, QuestionExpected, Reading, Role}
use Rattle.rpm_qfparse.proofs.Vocabulary.{role, second_follows, show_of, side, split_once, tag_inside, tag_of, tag_part, UnknownFormatter, width_in}
use Rattle.rpm_qfparse.proofs.Vocabulary.{WidthTooLarge}
use Rattle.rpm_qfparse.proofs.Within.{FaultWithin, RestWithin, Within, bind_within, drop_within, fault_bind, fault_if, fault_of, fault_or, ok_within, or_ok, split_within, wider, within_if}

pub side_within : (s : List ℕ) → length (side s).1 ≤ length s
side_within s = elim (begins 45 s) as (λ v. length (cond {A = Bool × List ℕ} v (true, drop 1 s) (false, s)).1 ≤ length s)
    [ true ↦ drop_within 1 s | false ↦ omega arith ]

pub role_within : (s : List ℕ) → length (role s).1 ≤ length s
role_within s =
    elim (begins 61 s) as (λ v. length (cond {A = Role × List ℕ} v (First, drop 1 s) (cond (begins 35 s) (Count, drop 1 s) (Element, s))).1 ≤ length s) [
      | true ↦ drop_within 1 s
      | false ↦ elim (begins 35 s) as (λ v. length (cond {A = Role × List ℕ} v (Count, drop 1 s) (Element, s)).1 ≤ length s)
          [ true ↦ drop_within 1 s | false ↦ omega arith ]
    ]

pub width_within : (s : List ℕ) → Within (length s) (width_in s)
unfolding after_number
width_within s =
    elim (nat_lt 4096 (number_of s)) as (λ v. Within (length s) (cond v (Err (WidthTooLarge, s)) (Ok (number_of s, after_number s))))
    [ true ↦ omega arith | false ↦ drop_within (digit_count s) s ]

pub named_within : (name place : List ℕ) → FaultWithin (length place) (named_tag name place)
named_within name place = fault_if (length place) (length name == 0) _ _ (omega arith) (fault_or (length place) (tag_of name) _ (omega arith))

formatter_within : (n : ℕ) (name : Option (List ℕ)) (far : ℕ) (place : List ℕ) → length place ≤ n → FaultWithin n (formatter name far place)
formatter_within n None far place le = tt
formatter_within n (Some name) far place le = fault_or n (show_of name) (UnknownFormatter, drop far place) (omega (arith, drop_within far place))

pub inside_within : (n : ℕ) (left : Bool) (size : ℕ) (r : Role) (inside place : List ℕ) → length place ≤ n → FaultWithin n (tag_inside left size r inside place)
inside_within n left size r inside place le =
    fault_bind n (named_tag (name_and_show inside).0 place) _ (raise _ n _ le (named_within (name_and_show inside).0 place)) (λ tag.
    fault_bind n (formatter (name_and_show inside).1 (length (name_and_show inside).0 + 1) place) _ (formatter_within n (name_and_show inside).1 _
    place le) (λ f. tt))
  where
    raise : {X : Type 0} (m n : ℕ) (x : Result X Faulty) → m ≤ n → FaultWithin m x → FaultWithin n x
    raise m n (Ok a) le h = tt
    raise m n (Err e) le h = omega arith

pub tag_part_within : (s : List ℕ) → Within (length s) (tag_part s)
unfolding tag_part
tag_part_within s =
    let w : Within (length s) (width_in (side s).1) = wider (length (side s).1) (length s) (width_in (side s).1) (side_within s) (width_within (side s).1) in
    bind_within (length s) (width_in (side s).1) _ (fault_of (length s) (width_in (side s).1) w) (λ size e.
    let a : length size.1 ≤ length s = ok_within (length s) (width_in (side s).1) size w e in
    let x : Reading Role = cond (begins 123 size.1) (Ok (role (drop 1 size.1))) (Err (MissingOpen, size.1)) in
    let y : Within (length s) x = within_if (length s) (begins 123 size.1) (Ok (role (drop 1 size.1))) (Err (MissingOpen, size.1))
    (λ _. omega (arith, role_within (drop 1 size.1), drop_within 1 size.1)) a in
    bind_within (length s) x _ (fault_of (length s) x y) (λ inner f.
    let b : length inner.1 ≤ length s = ok_within (length s) x inner y f in
    bind_within (length s) (ok_or (split_once 125 inner.1) (MissingClose, [])) _ (fault_or (length s) (split_once 125 inner.1) (MissingClose, [])
    (omega arith)) (λ cut g.
    let c : length cut.0 + length cut.1 + 1 ≤ length inner.1 = split_within 125 inner.1 cut (or_ok (split_once 125 inner.1) (MissingClose, []) cut g) in
    bind_within (length s) (tag_inside (side s).0 size.0 inner.0 cut.0 inner.1) _ (inside_within (length s) (side s).0 size.0 inner.0 cut.0 inner.1 b)
    (λ part h. omega arith))))

pub asked_within : (s : List ℕ) → Within (length s) (asked_tag s)
asked_within s =
    bind_within (length s) (ok_or (split_once 63 s) (QuestionExpected, [])) _ (fault_or (length s) (split_once 63 s) (QuestionExpected, [])
    (omega arith)) (λ cut e.
    let a : length cut.0 + length cut.1 + 1 ≤ length s = split_within 63 s cut (or_ok (split_once 63 s) (QuestionExpected, []) cut e) in
    bind_within (length s) (named_tag cut.0 s) _ (named_within cut.0 s) (λ tag f.
    within_if (length s) (begins 123 cut.1) (Ok (tag, drop 1 cut.1)) (Err (BraceExpected, cut.1)) (λ _. omega (arith, drop_within 1 cut.1)) (omega arith)))

pub second_within : (s : List ℕ) → Within (length s) (second_follows s)
second_within s =
    within_if (length s) (begins 124 s) (Ok (false, drop 1 s)) _ (λ _. drop_within 1 s)
    (within_if (length s) (begins 58 s) (if begins 123 (drop 1 s) then Ok (true, drop 1 (drop 1 s)) else Err (BraceExpected, drop 1 s)) (Err (BarExpected, s))
    (λ _. within_if (length s) (begins 123 (drop 1 s)) (Ok (true, drop 1 (drop 1 s))) (Err (BraceExpected, drop 1 s))
    (λ _. omega (arith, drop_within 1 (drop 1 s), drop_within 1 s)) (drop_within 1 s))
    (omega arith))

pub close_within : (s : List ℕ) → RestWithin (length s) (close s)
close_within s = elim (begins 124 s) as (λ v. RestWithin (length s) (cond v (Ok (drop 1 s)) (Err (BarExpected, s)))) [
  | true ↦ drop_within 1 s
  | false
      ↦ omega arith
]
