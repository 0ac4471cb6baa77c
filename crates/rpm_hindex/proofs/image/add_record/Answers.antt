use Rattle.std.proofs.Common.{◌≡◌, ℕ, ◌+◌, ◌*◌, ◌/◌, ◌%◌, ◌++◌, ◌∷◌, [], List, length, take, drop, ap, ◌∙◌, arith, length-append, subst, sym}
use Rattle.std.proofs.lemmas.List.{take_at}
use Rattle.rpm_hindex.proofs.Vocabulary.{bytes_of, bytes_of_word, hash_of, IsDraft, record_of, Row, word}
use Rattle.rpm_hindex.proofs.Made.{length-bytes}
use Rattle.rpm_hindex.proofs.Orders.{few, Few}
use Rattle.rpm_hindex.proofs.Drafting.{draft_more}
use Rattle.rpm_hindex.proofs.image.add_record.Goals as goal

pub bucket_of-requires : goal.bucket_of-requires
bucket_of-requires c =
    let f : Few c.args.buckets = few c.args.buckets c.requires.count in
    omega (arith, f.some)

pub returns-clause-long : goal.returns-clause-long
returns-clause-long c =
    let pushed = c.push_record.new.bytes.items in
    let set = c.set_word.new.bytes in
    let many : length set ≡ c.push_record.new.bytes.len = c.set_word.auto.bytes ∙ ap length c.deref_mut.ensures.value ∙ sym c.push_record.new.bytes.ok.0 in
    ap length (take_at set (drop (length set) pushed) c.push_record.new.bytes.len many)
    ∙ c.set_word.auto.bytes ∙ ap length c.deref_mut.ensures.value
    ∙ ap length c.in_ok-push_record.ensures
    ∙ length-append c.args.bytes.now.items _
    ∙ ap (λ (n : ℕ). length c.args.bytes.now.items + n) (length-bytes c.word-next.result c.args.row.kind c.args.row.key.now c.args.row.number
    c.args.row.place)

pub returns-clause-rows : goal.returns-clause-rows
returns-clause-rows c rows draft =
    let buckets = c.args.buckets in
    let old = c.args.bytes.now.items in
    let pushed = c.push_record.new.bytes.items in
    let set = c.set_word.new.bytes in
    let bucket = hash_of c.args.row.kind c.args.row.key.now % buckets in
    let at : c.bucket_of.result ≡ bucket = c.bucket_of.ensures.bucket in
    let n : 1 + c.len.result / 16 ≡ 1 + length old / 16 = omega (arith, c.len.ensures) in
    let made : ℕ → List ℕ = λ next. bytes_of (record_of next c.args.row.kind c.args.row.key.now c.args.row.number c.args.row.place) in
    let read : c.word-next.result ≡ word (4 + bucket) old = c.word-next.ensures ∙ ap (word (4 + c.bucket_of.result)) c.deref.ensures.value
    ∙ ap (λ (b : ℕ). word (4 + b) old) at in
    let is : pushed ≡ old ++ made (word (4 + bucket) old) = c.in_ok-push_record.ensures ∙ ap (λ (m : ℕ). old ++ made m) read in
    let long = ap length is ∙ length-append old (made (word (4 + bucket) old))
    ∙ ap (λ (m : ℕ). length old + m) (length-bytes (word (4 + bucket) old) c.args.row.kind c.args.row.key.now c.args.row.number c.args.row.place) in
    let written : ℕ → ℕ → List ℕ → List ℕ = λ b m bs. take (4 * (4 + b)) bs ++ bytes_of_word m ++ drop (4 * (4 + b) + 4) bs in
    let set' : set ≡ written bucket (1 + length old / 16) pushed = c.set_word.ensures
    ∙ ap (written c.bucket_of.result (1 + c.len.result / 16)) c.deref_mut.ensures.value
    ∙ ap (λ (m : ℕ). written c.bucket_of.result m pushed) n
    ∙ ap (λ (b : ℕ). written b (1 + length old / 16) pushed) at in
    let many : length set ≡ c.push_record.new.bytes.len = c.set_word.auto.bytes ∙ ap length c.deref_mut.ensures.value ∙ sym c.push_record.new.bytes.ok.0 in
    let row : Row = record { kind = c.args.row.kind; key = c.args.row.key.now; number = c.args.row.number; place = c.args.row.place } in
    subst (IsDraft (rows ++ row ∷ []) buckets) (sym (take_at set (drop (length set) pushed) c.push_record.new.bytes.len many))
    (draft_more rows buckets old pushed set c.args.row.kind c.args.row.key.now c.args.row.number c.args.row.place draft c.requires.count c.requires.front
    c.requires.room c.requires.kind c.requires.key (omega (arith, c.ranges.row)) (omega (arith, c.ranges.row)) is long set')
