use Rattle.std.proofs.Common.{◌≡◌, ◌≤◌, ℕ, ◌+◌, ◌-◌, ◌*◌, ◌++◌, [], inl, inr, List, length, get_or, take, drop, sym, ◌∙◌, ap, refl, arith, length-append, length-drop}
use Rattle.std.proofs.lemmas.List.{length-take, take_all}
use Rattle.std.proofs.lemmas.Slice.{take-put_mid, put_mid-paste}
use borrow.Rule.Slice.PartMut.{put_mid}
use Rattle.std.proofs.lemmas.List.{get_or_default, get_or_past}
use Rattle.std.proofs.lemmas.Bool.{cases_lt}
use Rattle.rpm_outside.proofs.Vocabulary.{blank, bytes_of, bytes_of_more, units_of, units_of-bytes_of}
use Rattle.rpm_outside.proofs.steps.copy_units.Goals as goal

length-put_mid : (a k : ℕ) (xs ys : List ℕ) → a + k ≤ length xs → length ys ≡ k → length (put_mid a k xs ys) ≡ length xs
length-put_mid a k xs ys fits is =
    ap length (put_mid-paste a k xs ys ys k refl refl (sym is))
    ∙ omega (
      arith,
      length-append (take a xs ++ take k ys) (drop (a + k) xs),
      length-append (take a xs) (take k ys),
      length-take a xs,
      length-take k ys,
      length-drop (a + k) xs,
    )

pub loop-k-preserved : goal.loop-k-preserved
loop-k-preserved c =
    let k = c.loop-k.k in
    let unit = c.copy_from_slice.new.self in
    let units = c.args.units.now in
    let into = c.loop-k.into in
    let w : (16 * k + 16) - 16 * k ≡ 16 = omega arith in
    let long : length into ≡ 16 * length units = c.loop-k.invariant.size in
    let is : unit ≡ get_or units k [] = c.copy_from_slice.ensures.after in
    let sixteen : length unit ≡ 16 = ap length is ∙ c.told-units k c.loop-k-test.true in
    record {
      size = length-put_mid (16 * k) (16 * k + 16 - 16 * k) into unit (omega arith) (sixteen ∙ sym w) ∙ long;
      done = take-put_mid (16 * k) (16 * k + 16 - 16 * k) into unit (16 * (k + 1)) (omega arith) (omega arith)
          ∙ ap (λ (bs : List ℕ). bs ++ unit) c.loop-k.invariant.done
          ∙ ap (λ (u : List ℕ). bytes_of (take k units) ++ u) is
          ∙ sym (bytes_of_more units k [] c.loop-k-test.true);
    }

length-blank : length blank ≡ 16
unfolding blank
length-blank = refl

pub returns : goal.returns
returns c =
    let units = c.args.units.now in
    let into = c.loop-k.into in
    let all : c.loop-k.k ≡ length units = omega arith in
    let whole : take (16 * c.loop-k.k) into ≡ into = take_all (16 * c.loop-k.k) into (omega (arith, c.loop-k.invariant.size)) in
    let bytes : into ≡ bytes_of units = sym whole ∙ c.loop-k.invariant.done ∙ ap (λ (k : ℕ). bytes_of (take k units)) all ∙ ap bytes_of
    (take_all (length units) units (omega arith)) in
    ap units_of bytes ∙ units_of-bytes_of units (λ k.
    elim (cases_lt k (length units)) [
      | inl inside ↦ (let e : get_or units k blank ≡ get_or units k [] = get_or_default units k blank [] inside in ap length e ∙ c.told-units k inside)
      | inr past ↦ (let e : get_or units k blank ≡ blank = get_or_past units k blank past in ap length e ∙ length-blank)
    ])
