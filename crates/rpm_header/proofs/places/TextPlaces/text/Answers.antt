use Rattle.std.proofs.Common.{◌≡◌, ◌+◌, ◌<◌, ℕ, List, length, Some, arith, ap, sym, ◌∙◌, refl}
use Rattle.std.specs.Prelude.{slice_get, is_some}
use Rattle.rpm_header.proofs.Vocabulary.{after_first, before_first, is_zero, position, texts}
use Rattle.rpm_header.proofs.Counted.{zeros_enough}
use Rattle.rpm_header.proofs.Skipped.{text_behind, skip_one_more, ended_behind}
use Rattle.rpm_header.proofs.Whole.{length-texts}
use Rattle.rpm_header.proofs.places.TextPlaces.text.Goals as goal

-- a place of the texts is below their count
below_count : (i count : ℕ) (bytes : List ℕ) (seen : List (List ℕ)) → texts count bytes ≡ seen → i < length seen → i < count
below_count i count bytes seen is lt = omega (arith, length-texts count bytes, ap (λ (ts : List (List ℕ)). length ts) is)

pub behind-from-requires-clause-counted : goal.behind-from-requires-clause-counted
behind-from-requires-clause-counted c = c.self.invariant.counted

pub behind-from-requires-clause-ended : goal.behind-from-requires-clause-ended
behind-from-requires-clause-ended c =
    omega (
      arith,
      below_count c.args.i c.self.inside.count c.self.inside.bytes.now _ c.self.view_is c.requires,
      zeros_enough c.self.inside.count c.self.inside.bytes.now c.self.invariant.ended,
    )

pub next_text-requires : goal.next_text-requires
next_text-requires c =
    let bytes = c.self.inside.bytes.now in
    let below = below_count c.args.i c.self.inside.count bytes _ c.self.view_is c.requires in
    ap (λ (s : List ℕ). is_some (position is_zero s)) c.behind-from.ensures ∙ ended_behind c.self.inside.count c.args.i bytes below c.self.invariant.ended

pub returns-then-has_end_near : goal.returns-then-has_end_near
returns-then-has_end_near c =
    let bytes = c.self.inside.bytes.now in
    let below = below_count c.args.i c.self.inside.count bytes _ c.self.view_is c.requires in
    ap (λ (ts : List (List ℕ)). slice_get ts c.args.i) (sym c.self.view_is)
    ∙ text_behind c.self.inside.count c.args.i bytes below
    ∙ ap (λ (s : List ℕ). Some (before_first is_zero s)) (sym c.behind-from.ensures)
    ∙ ap (λ (s : List ℕ). Some s) (sym c.next_text.ensures.text)

pub overflow_add-i : goal.overflow_add-i
overflow_add-i c = omega (arith, below_count c.args.i c.self.inside.count c.self.inside.bytes.now _ c.self.view_is c.requires)

pub behind-others-requires-clause-counted : goal.behind-others-requires-clause-counted
behind-others-requires-clause-counted c = c.self.invariant.counted

pub behind-others-requires-clause-ended : goal.behind-others-requires-clause-ended
behind-others-requires-clause-ended c =
    omega (
      arith,
      below_count c.args.i c.self.inside.count c.self.inside.bytes.now _ c.self.view_is c.requires,
      zeros_enough c.self.inside.count c.self.inside.bytes.now c.self.invariant.ended,
    )

pub in_front-requires-clause-ended : goal.in_front-requires-clause-ended
in_front-requires-clause-ended c =
    let bytes = c.self.inside.bytes.now in
    let below = below_count c.args.i c.self.inside.count bytes _ c.self.view_is c.requires in
    ap (λ (s : List ℕ). is_some (position is_zero s)) c.behind-from.ensures ∙ ended_behind c.self.inside.count c.args.i bytes below c.self.invariant.ended

pub in_front-requires-clause-others : goal.in_front-requires-clause-others
in_front-requires-clause-others c =
    c.behind-others.ensures
    ∙ skip_one_more c.args.i (c.args.i + 1) c.self.inside.bytes.now refl
    ∙ ap (λ (s : List ℕ). after_first is_zero s) (sym c.behind-from.ensures)

pub returns : goal.returns
returns c =
    let bytes = c.self.inside.bytes.now in
    let below = below_count c.args.i c.self.inside.count bytes _ c.self.view_is c.requires in
    ap (λ (ts : List (List ℕ)). slice_get ts c.args.i) (sym c.self.view_is)
    ∙ text_behind c.self.inside.count c.args.i bytes below
    ∙ ap (λ (s : List ℕ). Some (before_first is_zero s)) (sym c.behind-from.ensures)
    ∙ ap (λ (s : List ℕ). Some s) (sym c.in_front.ensures)
