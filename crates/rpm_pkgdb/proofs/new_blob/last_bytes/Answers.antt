use Rattle.std.proofs.Common.{◌≡◌, ℕ, ◌+◌, ◌-◌, ◌≤◌, ◌++◌, List, length, take, drop, ◌∙◌, ap, arith, length-append, length-drop}
use Rattle.std.proofs.lemmas.List.{take-replicate, drop-replicate, length-replicate}
use Rattle.std.proofs.lemmas.Slice.{take-put_mid}
use Rattle.std.proofs.Math.Seq.{take-append-add}
use Rattle.rpm_pkgdb.proofs.Zeros.{zeros}
use Rattle.rpm_pkgdb.proofs.new_blob.last_bytes.Goals as goal

front : (end : ℕ) (rest copied : List ℕ) → length rest + 12 ≤ end → end ≤ 32 → copied ≡ rest
    → take (end - 12) (copied ++ drop (length rest) (zeros 32)) ≡ rest ++ zeros (end - 12 - length rest)
front end rest copied room le is =
    let n = end - 12 - length rest in
    let e : end - 12 ≡ length rest + n = omega arith in
    ap (λ (x : List ℕ). take (end - 12) (x ++ drop (length rest) (zeros 32))) is
    ∙ ap (λ (k : ℕ). take k (rest ++ drop (length rest) (zeros 32))) e
    ∙ take-append-add rest (drop (length rest) (zeros 32)) n
    ∙ ap (λ (x : List ℕ). rest ++ take n x) (drop-replicate (length rest) 32 0)
    ∙ ap (λ (x : List ℕ). rest ++ x) (take-replicate n (32 - length rest) 0 (omega arith))

pub returns : goal.returns
returns c =
    let end = c.args.end in
    let rest = c.args.rest.now in
    let copied = c.copy_from_slice.new.self in
    let tail = c.copy_from_slice-2.new.self in
    let xs = copied ++ drop (length rest) (zeros 32) in
    let is : copied ≡ rest = c.copy_from_slice.ensures.after in
    let also : tail ≡ c.args.tail.now = c.copy_from_slice-2.ensures.after in
    let twelve : length tail ≡ 12 = ap length also ∙ c.told-tail in
    let room = c.requires.room in
    let long : length xs ≡ 32 =
    omega (
      arith,
      length-append copied (drop (length rest) (zeros 32)),
      length-drop (length rest) (zeros 32),
      length-replicate {A = ℕ} 32 0,
      ap length is,
      c.requires.end,
    ) in
    take-put_mid (end - 12) (end - (end - 12)) xs tail end (omega arith) (omega (arith, c.requires.end))
    ∙ ap (λ (x : List ℕ). x ++ tail) (front end rest copied room c.requires.end is) ∙ ap (λ (x : List ℕ). (rest ++ zeros (end - 12 - length rest)) ++ x) also
