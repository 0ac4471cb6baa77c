use Rattle.std.proofs.Common.{◌≡◌, ℕ, ◌/◌, ◌%◌, ◌^◌, ◌++◌, ◌∷◌, [], List, take, ap, sym, ◌∙◌, refl, arith}
use Rattle.std.proofs.lemmas.Bool.{cond-true}
use Rattle.rpm_hindex.proofs.Vocabulary.{Files, hash_of, Index, index_in, key_at, Row, row_at, word}
use Rattle.rpm_hindex.proofs.Chains.{follow_bad, unsound_bucket, sound_from, placed_parts}
use Rattle.rpm_hindex.proofs.AsRead.{key_read, row_read}
use Rattle.rpm_hindex.proofs.kept_rows.push_row.Goals as goal

pub read_key_into-requires-clause-within : goal.read_key_into-requires-clause-within
read_key_into-requires-clause-within g c = λ told.
    let x : Index = index_in c.args.extent.buckets (g.D.Disk.files c.args.disk.now).idx in
    let placed = placed_parts x c.args.head.at (c.requires.placed told) in
    let sized = ap (λ (n : ℕ). n % 2 ^ 28) (c.requires.head told).packed in
    let open' = c.requires.open.is_open told in
    omega (arith, placed.ends, open'.used, open'.within, sized)

-- the bucket of what was read
bucket_read : (unit : ℕ → List ℕ) (at buckets word1 result : ℕ) (key : List ℕ) → word1 ≡ word 1 (unit at) → key ≡ key_at unit at → result
    ≡ hash_of (word1 / 2 ^ 28) key % buckets → result ≡ hash_of (word 1 (unit at) / 2 ^ 28) (key_at unit at) % buckets
bucket_read unit at buckets word1 result key w k e =
    e ∙ ap (λ (n : ℕ). hash_of (n / 2 ^ 28) key % buckets) w ∙ ap (λ (bs : List ℕ). hash_of (word 1 (unit at) / 2 ^ 28) bs % buckets) k

pub returns-then-bucket_of-bucket-clause-fault : goal.returns-then-bucket_of-bucket-clause-fault
returns-then-bucket_of-bucket-clause-fault g c = λ told.
    let file : Files = g.D.Disk.files c.args.disk.now in
    let x : Index = index_in c.args.extent.buckets file.idx in
    let at = c.args.head.at in
    let size = sym (c.requires.head told).packed in
    let found = take (c.args.head.size % 268435456) c.deref.result.now in
    let key = key_read file file at c.args.head.size found refl size
    (ap (take (c.args.head.size % 268435456)) c.deref.ensures.value ∙ c.in_ok-read_key_into.ensures.bytes told) in
    let bucket = bucket_read x.unit at c.args.extent.buckets c.args.head.size c.bucket_of.result found size key c.bucket_of.ensures.bucket in
    follow_bad x c.args.bucket at at c.requires.some_at (omega arith) (unsound_bucket x c.args.bucket at (λ e. c.if-bucket_of-bucket.true (bucket ∙ e)))

pub returns-then-not-is_kept-clause-sound : goal.returns-then-not-is_kept-clause-sound
returns-then-not-is_kept-clause-sound g c = λ told.
    let file : Files = g.D.Disk.files c.args.disk.now in
    let x : Index = index_in c.args.extent.buckets file.idx in
    let at = c.args.head.at in
    let size = sym (c.requires.head told).packed in
    let found = take (c.args.head.size % 268435456) c.deref.result.now in
    let key = key_read file file at c.args.head.size found refl size
    (ap (take (c.args.head.size % 268435456)) c.deref.ensures.value ∙ c.in_ok-read_key_into.ensures.bytes told) in
    let bucket = bucket_read x.unit at c.args.extent.buckets c.args.head.size c.bucket_of.result found size key c.bucket_of.ensures.bucket in
    sound_from x c.args.bucket at (c.requires.placed told) (sym bucket ∙ c.if-bucket_of-bucket.false)

pub returns-clause-sound : goal.returns-clause-sound
returns-clause-sound g c = λ told.
    let file : Files = g.D.Disk.files c.args.disk.now in
    let x : Index = index_in c.args.extent.buckets file.idx in
    let at = c.args.head.at in
    let size = sym (c.requires.head told).packed in
    let found = take (c.args.head.size % 268435456) c.deref.result.now in
    let key = key_read file file at c.args.head.size found refl size
    (ap (take (c.args.head.size % 268435456)) c.deref.ensures.value ∙ c.in_ok-read_key_into.ensures.bytes told) in
    let bucket = bucket_read x.unit at c.args.extent.buckets c.args.head.size c.bucket_of.result found size key c.bucket_of.ensures.bucket in
    sound_from x c.args.bucket at (c.requires.placed told) (sym bucket ∙ c.if-bucket_of-bucket.false)

pub returns-clause-row : goal.returns-clause-row
returns-clause-row g c = λ told.
    let file : Files = g.D.Disk.files c.args.disk.now in
    let unit : ℕ → List ℕ = (index_in c.args.extent.buckets file.idx).unit in
    let at = c.args.head.at in
    let head = c.requires.head told in
    let size = sym head.packed in
    let found = take (c.args.head.size % 268435456) c.deref.result.now in
    let key = key_read file file at c.args.head.size found refl size
    (ap (take (c.args.head.size % 268435456)) c.deref.ensures.value ∙ c.in_ok-read_key_into.ensures.bytes told) in
    let row = row_read unit at c.args.head.size c.args.head.number c.args.head.place found size key (sym head.number) (sym head.«in») in
    c.in-Ok.ensures.ok
    ∙ ap (λ (r : Row). c.args.rows.now ++ r ∷ []) (sym row)
    ∙ sym (cond-true c.args.is_kept (c.args.rows.now ++ row_at unit at ∷ []) c.args.rows.now c.if-not-is_kept.false)
