use Rattle.std.proofs.Common.{◌≡◌, ℕ, ◌/◌, ◌%◌, ◌^◌, ◌≤◌, List, length, take, ap, sym, ◌∙◌, refl, arith}
use Rattle.std.proofs.lemmas.List.{length-take-le}
use Rattle.rpm_hindex.proofs.Vocabulary.{Files, has_key, hash_of, Index, index_in, key_at, Row, word}
use Rattle.rpm_hindex.proofs.Chains.{follow_bad, unsound_bucket, sound_from, placed_parts}
use Rattle.rpm_hindex.proofs.AsRead.{key_read, row_read}
use Rattle.rpm_hindex.proofs.heads.meets_key.Goals as goal

pub read_key_into-requires-clause-within : goal.read_key_into-requires-clause-within
read_key_into-requires-clause-within g c = λ told.
    let x : Index = index_in c.args.extent.buckets (g.D.Disk.files c.args.disk.now).idx in
    let placed = placed_parts x c.args.head.at (c.requires.placed told) in
    let sized = ap (λ (n : ℕ). n % 2 ^ 28) (c.requires.head told).packed in
    let open' = c.requires.open.is_open told in
    omega (arith, placed.ends, open'.used, open'.within, sized)

-- the bucket of what was read
bucket_same : (unit : ℕ → List ℕ) (at buckets word1 : ℕ) (key : List ℕ) → word1 ≡ word 1 (unit at) → key ≡ key_at unit at
    → hash_of (word1 / 2 ^ 28) key % buckets ≡ hash_of (word 1 (unit at) / 2 ^ 28) (key_at unit at) % buckets
bucket_same unit at buckets word1 key w k =
    ap (λ (n : ℕ). hash_of (n / 2 ^ 28) key % buckets) w ∙ ap (λ (bs : List ℕ). hash_of (word 1 (unit at) / 2 ^ 28) bs % buckets) k

pub returns-then-not-is_of_bucket-clause-fault : goal.returns-then-not-is_of_bucket-clause-fault
returns-then-not-is_of_bucket-clause-fault g c = λ told.
    let file : Files = g.D.Disk.files c.args.disk.now in
    let x : Index = index_in c.args.extent.buckets file.idx in
    let at = c.args.head.at in
    let size = sym (c.requires.head told).packed in
    let found = take (c.args.head.size % 268435456) c.deref.result.now in
    let key = key_read file file at c.args.head.size found refl size
    (ap (take (c.args.head.size % 268435456)) c.deref.ensures.value ∙ c.in_ok-read_key_into.ensures.bytes told) in
    let bucket = bucket_same x.unit at c.args.extent.buckets c.args.head.size found size key in
    follow_bad x c.args.bucket at at c.requires.some_at (omega arith) (unsound_bucket x c.args.bucket at
    (λ e. c.is_of_bucket.ensures.no c.if-not-is_of_bucket.true (bucket ∙ e)))

pub returns-clause-sound : goal.returns-clause-sound
returns-clause-sound g c = λ told.
    let file : Files = g.D.Disk.files c.args.disk.now in
    let x : Index = index_in c.args.extent.buckets file.idx in
    let at = c.args.head.at in
    let size = sym (c.requires.head told).packed in
    let found = take (c.args.head.size % 268435456) c.deref.result.now in
    let key = key_read file file at c.args.head.size found refl size
    (ap (take (c.args.head.size % 268435456)) c.deref.ensures.value ∙ c.in_ok-read_key_into.ensures.bytes told) in
    let bucket = bucket_same x.unit at c.args.extent.buckets c.args.head.size found size key in
    sound_from x c.args.bucket at (c.requires.placed told) (sym bucket ∙ c.is_of_bucket.ensures.yes c.if-not-is_of_bucket.false)

pub returns-clause-same : goal.returns-clause-same
returns-clause-same g c = λ told.
    let file : Files = g.D.Disk.files c.args.disk.now in
    let x : Index = index_in c.args.extent.buckets file.idx in
    let at = c.args.head.at in
    let size = sym (c.requires.head told).packed in
    let found = take (c.args.head.size % 268435456) c.deref.result.now in
    let key = key_read file file at c.args.head.size found refl size
    (ap (take (c.args.head.size % 268435456)) c.deref.ensures.value ∙ c.in_ok-read_key_into.ensures.bytes told) in
    let number : ℕ = word 2 (x.unit at) in
    let place : ℕ = word 3 (x.unit at) in
    c.is_key-is_wanted.ensures.same number place ∙ ap (has_key c.args.kind c.args.key.now) (sym (row_read x.unit at c.args.head.size number place found size key refl refl))

pub returns-clause-long : goal.returns-clause-long
returns-clause-long g c = λ told.
    let file : Files = g.D.Disk.files c.args.disk.now in
    let x : Index = index_in c.args.extent.buckets file.idx in
    let at = c.args.head.at in
    let size = sym (c.requires.head told).packed in
    let long = c.args.head.size % 268435456 in
    let found = take long c.deref.result.now in
    let key = key_read file file at c.args.head.size found refl size
    (ap (take long) c.deref.ensures.value ∙ c.in_ok-read_key_into.ensures.bytes told) in
    let row = row_read x.unit at c.args.head.size (word 2 (x.unit at)) (word 3 (x.unit at)) found size key refl refl in
    let enough : long ≤ length c.deref.result.now = omega (arith, c.in_ok-read_key_into.ensures.long, ap length c.deref.ensures.value) in
    ap (λ (r : Row). length r.key) row ∙ length-take-le long c.deref.result.now enough ∙ ap (λ (n : ℕ). n % 2 ^ 28) size
