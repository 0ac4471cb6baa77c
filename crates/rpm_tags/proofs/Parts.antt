-- A text in parts, one more of them.
use Rattle.std.proofs.Common.{◌≡◌, ℕ, ◌+◌, ◌≤◌, ◌<◌, List, [], ◌∷◌, ◌++◌, length, get_or, map, Some, sym, ap, ◌∙◌, arith, length-append, length-set, append-nil, set}
use Rattle.std.specs.Prelude.{slice_get}
use Rattle.rpm_tags.proofs.Vocabulary.{bytes_of_parts, concat, IsInParts, IsPart, parts_of, TextPart}
use Rattle.std.proofs.lemmas.List.{map-set, take_more_set, length-map, length-take-le, get_or-take, get_or-map}
use Rattle.std.proofs.lemmas.List.Elements.{All-set}
use Rattle.std.proofs.lemmas.List.Folds.{concat-append}
use Rattle.std.proofs.lemmas.Option.{slice_get-get_or}

pub length_parts : (count : ℕ) (parts : List TextPart) → length parts ≡ 9 → count ≤ 9 → length (parts_of count parts) ≡ count
length_parts count parts nine room = length-take-le count (map bytes_of_parts parts) (omega (arith, length-map parts bytes_of_parts))

pub part_here : (count k : ℕ) (parts : List TextPart) (p d : TextPart) (v : List (List ℕ)) → parts_of count parts ≡ v → length parts ≡ 9
    → count ≤ 9 → k < count → get_or parts k d ≡ p → Some (bytes_of_parts p) ≡ slice_get v k
part_here count k parts p d v view nine room within is =
    let below : k < length (parts_of count parts) = omega (arith, length_parts count parts nine room) in
    rw (← view, ← is) (sym (slice_get-get_or (parts_of count parts) k (bytes_of_parts d) below
    ∙ ap Some (get_or-take count (map bytes_of_parts parts) k (bytes_of_parts d) within
    ∙ get_or-map bytes_of_parts parts k d (bytes_of_parts d) (omega arith))))

pub pushed : (count : ℕ) (parts : List TextPart) (p : TextPart) (text : List ℕ) → length parts ≡ 9 → count < 9 → bytes_of_parts p ≡ text
    → parts_of (count + 1) (set parts count p) ≡ parts_of count parts ++ text ∷ []
pushed count parts p text nine room is =
    rw (map-set bytes_of_parts parts count p, ← is)
    (take_more_set (map bytes_of_parts parts) count (bytes_of_parts p) (omega (arith, length-map parts bytes_of_parts)))

concat_one : (text : List ℕ) → concat (text ∷ []) ≡ text
concat_one text = append-nil text

pushed_length : (ps : List (List ℕ)) (text : List ℕ) (len : ℕ) → len ≡ length (concat ps) → len + length text ≡ length (concat (ps ++ text ∷ []))
pushed_length ps text len e = rw (concat-append ps (text ∷ []), length-append (concat ps) (concat (text ∷ [])), concat_one text, e)

pub is_pushed : (count len : ℕ) (parts : List TextPart) (p : TextPart) (text : List ℕ) → length parts ≡ 9 → count < 9 → bytes_of_parts p ≡ text → IsPart p
    → length text ≤ 67108864 → IsInParts count len parts → IsInParts (count + 1) (len + length text) (set parts count p)
is_pushed count len parts p text nine room is part short joined = record {
  nine = length-set parts count p ∙ nine;
  fit = All-set IsPart parts count p part joined.fit;
  room = omega arith;
  total = rw (pushed count parts p text nine room is) (pushed_length (parts_of count parts) text len joined.total);
  short = omega (arith, joined.short);
}

pub has_room : (count len : ℕ) (parts : List TextPart) (v : List (List ℕ)) → parts_of count parts ≡ v → IsInParts count len parts → length v < 9 → count < 9
has_room count len parts v view joined room = omega (arith, length_parts count parts joined.nine joined.room, ap length view)
