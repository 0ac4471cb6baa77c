use Rattle.std.proofs.Common.{◌≡◌, ℕ, ◌*◌, ◌+◌, ◌-◌, ◌^◌, ◌++◌, List, length, ap, sym, ◌∙◌, arith, append_assoc, length-append}
use Rattle.std.proofs.lemmas.List.{length-replicate}
use Rattle.std.specs.Prelude.{OnOk, Result, Ok, Err}
use Rattle.rpm_hindex.proofs.Vocabulary.{bytes_of, bytes_of-cut_up, key_units, key_padding, record_of, unit_of_words}
use Rattle.rpm_hindex.proofs.records.push_record.Goals as goal

on_ok : {T E : Type 0} (r : Result T E) (P Q : Type 0) → (P → Q) → OnOk r P → OnOk r Q
on_ok (Ok t) P Q f p = f p
on_ok (Err e) P Q f p = tt

laid : (old new key : List ℕ) (next kind number place : ℕ) → new ≡ old ++ unit_of_words next (kind * 2 ^ 28 + length key) number place ++ key
    ++ key_padding (length key) → new ≡ old ++ bytes_of (record_of next kind key number place)
unfolding record_of
laid old new key next kind number place e =
    let unit : List ℕ = unit_of_words next (kind * 2 ^ 28 + length key) number place in
    let long : length (key ++ key_padding (length key)) ≡ 16 * key_units (length key) = omega (
      arith,
      length-append key (key_padding (length key)),
      length-replicate {A = ℕ} (16 * key_units (length key) - length key) 0,
    ) in
    e ∙ append_assoc (old ++ unit) key (key_padding (length key)) ∙ append_assoc old unit (key ++ key_padding (length key))
    ∙ ap (λ (bs : List ℕ). old ++ (unit ++ bs)) (sym (bytes_of-cut_up (key_units (length key)) (key ++ key_padding (length key)) long))

pub returns : goal.returns
returns c = on_ok c.push_key.result _ _ (λ e. laid c.args.bytes.now.items c.push_key.new.bytes.items c.args.row.key.now c.args.next c.args.row.kind
    c.args.row.number c.args.row.place (e ∙ ap (λ (bs : List ℕ). bs ++ c.args.row.key.now ++ key_padding (length c.args.row.key.now))
    (c.in_ok-extend_from_slice.ensures.items ∙ ap (λ (bs : List ℕ). bs ++ c.unit_of_words-head.result) c.in_ok-reserve.ensures.items
    ∙ ap (λ (bs : List ℕ). c.args.bytes.now.items ++ bs) c.unit_of_words-head.ensures))) c.push_key.ensures
