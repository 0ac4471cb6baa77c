use Rattle.std.proofs.Common.{◌≡◌, ℕ, ◌+◌, ◌*◌, ◌++◌, ◌∙◌, sym, ap, append_assoc}
use Rattle.rpm_pkgdb.proofs.Sums.{sums-append, adler_is}
use Rattle.rpm_pkgdb.proofs.Vocabulary.{sums}
use Rattle.rpm_pkgdb.proofs.new_blob.adler.Goals as goal

pub returns : goal.returns
returns c =
    let head = c.args.head.now in
    let blob = c.args.blob.now in
    let zeros = c.args.zeros.now in
    let second : c.sums-c.result ≡ sums 1 0 (head ++ blob) =
    c.sums-c.ensures.sums ∙ ap (λ (s : ℕ × ℕ). sums s.0 s.1 blob) c.sums-a.ensures.sums ∙ sym (sums-append 1 0 head blob) in
    let third : c.sums-low.result ≡ sums 1 0 ((head ++ blob) ++ zeros) =
    c.sums-low.ensures.sums ∙ ap (λ (s : ℕ × ℕ). sums s.0 s.1 zeros) second ∙ sym (sums-append 1 0 (head ++ blob) zeros) in
    let all = third ∙ ap (sums 1 0) (append_assoc head blob zeros) in
    ap (λ (s : ℕ × ℕ). s.1 * 65536 + s.0) all ∙ adler_is (head ++ (blob ++ zeros))
