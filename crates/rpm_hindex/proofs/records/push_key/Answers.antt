use Rattle.std.proofs.Common.{◌≡◌, ℕ, ◌-◌, ◌%◌, ◌<◌, ◌++◌, List, length, take, drop, replicate, ap, ◌∙◌, arith}
use Rattle.std.proofs.lemmas.List.{take-replicate, drop-replicate}
use Rattle.rpm_hindex.proofs.Vocabulary.{key_padding}
use Rattle.rpm_hindex.proofs.records.push_key.Goals as goal

zeros : (n past : ℕ) → past ≡ n % 16 → 0 < past → take (16 - past) (drop past (replicate 16 0)) ≡ key_padding n
zeros n past is some =
    ap (take (16 - past)) (drop-replicate past 16 0)
    ∙ take-replicate (16 - past) (16 - past) 0 (omega arith)
    ∙ ap (λ (k : ℕ). replicate k 0) (omega arith)

pub returns-in_ok-extend_from_slice-2 : goal.returns-in_ok-extend_from_slice-2
returns-in_ok-extend_from_slice-2 c =
    let z = zeros (length c.args.key.now) (length c.args.key.now % 16) (omega arith) c.if-past-gt0.true in
    c.in_ok-extend_from_slice-2.ensures.items
    ∙ ap (λ (bs : List ℕ). bs ++ take (16 - length c.args.key.now % 16) (drop (length c.args.key.now % 16) (replicate 16 0)))
    c.in_ok-extend_from_slice.ensures.items
    ∙ ap (λ (bs : List ℕ). c.args.bytes.now.items ++ c.args.key.now ++ bs) z
