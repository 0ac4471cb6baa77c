use Rattle.std.proofs.Common.{◌≡◌, ℕ, ◌+◌, ◌*◌, ◌/◌, ◌≤◌, ◌++◌, List, length, take, drop, zero, suc, [], ◌∷◌, refl, sym, ap, ◌∙◌, arith}
use Rattle.std.proofs.lemmas.List.{take-append-le}
use Rattle.rpm_hindex.proofs.Vocabulary.{bytes_of, Units}
use Rattle.rpm_hindex.proofs.Runs.{run_is}
use Rattle.rpm_hindex.proofs.reads.read_key_into.Goals as goal

take_fewer : (n m : ℕ) (bs : List ℕ) → n ≤ m → take n (take m bs) ≡ take n bs
take_fewer zero m bs le = refl
take_fewer (suc n) zero bs le = absurd (omega arith)
take_fewer (suc n) (suc m) [] le = refl
take_fewer (suc n) (suc m) (b ∷ bs) le = ap (λ (cs : List ℕ). b ∷ cs) (take_fewer n m bs (omega arith))

pub returns-clause-bytes : goal.returns-clause-bytes
returns-clause-bytes g c = λ told.
    let file : Units = (g.D.Disk.files c.args.disk.now).idx in
    let size = c.args.size in
    let long = 16 * ((size + 15) / 16) in
    let held = c.lengthen.new.buffer in
    let into = c.read_front.new.into in
    let whole : length into ≡ length held.items = c.read_front.auto.into ∙ ap length c.deref_mut.ensures.value in
    let enough : size ≤ length into = omega (arith, whole, c.in_ok-lengthen.ensures.long) in
    let within : size ≤ held.len = omega (arith, whole, enough, c.deref_mut.ensures.len, ap length c.deref_mut.ensures.value) in
    let units : long / 16 ≡ (size + 15) / 16 = omega arith in
    take_fewer size held.len (into ++ drop (length into) held.items) within
    ∙ take-append-le size into (drop (length into) held.items) enough
    ∙ sym (take_fewer size long into (omega arith))
    ∙ ap (take size) (c.in-Ok.ensures.bytes told)
    ∙ ap (λ (n : ℕ). take size (bytes_of (take n (drop c.args.at file)))) units
    ∙ ap (λ (us : Units). take size (bytes_of us)) (run_is file c.args.at ((size + 15) / 16) (c.requires.within told))
