-- An index that is sealed.
use Rattle.std.proofs.Common.{◌≡◌, ℕ, ◌<◌, ◌^◌, ◌∷◌, [], refl, ap, ◌∙◌, arith}
use Rattle.std.proofs.lemmas.Bool.{cond-true}
use Rattle.rpm_hindex.proofs.Vocabulary.{buckets_of, is_headed, IsSealed, IsWellFormed, index_magic, with_units, put_inside, seal_unit, sealed_generation, unit_at, Units, word}
use Rattle.rpm_hindex.proofs.Vocabulary.{word_2, word_3}
use Rattle.rpm_hindex.proofs.UnitWords.{headed}
use Rattle.rpm_hindex.proofs.Seals.{front_behind, whole_behind, records_behind}

-- a file that gets the unit of a seal in front
pub sealed_file : (g buckets : ℕ) (old : Units) → g < 2 ^ 32 → buckets < 2 ^ 32 → IsWellFormed buckets old
    → IsSealed g buckets old (with_units 0 (seal_unit g buckets ∷ []) old)
sealed_file g buckets old glt blt whole =
    let unit = seal_unit g buckets in
    let new = with_units 0 (unit ∷ []) old in
    let front : unit_at new 0 ≡ unit = put_inside 0 (unit ∷ []) old 0 (omega arith) in
    let behind = front_behind unit old new refl in
    record {
      generation_is = ap sealed_generation front ∙ cond-true (is_headed unit) (word 2 unit) 0 (headed g buckets) ∙ word_2 index_magic 2 g buckets glt;
      buckets_are = ap buckets_of front ∙ word_3 index_magic 2 g buckets blt;
      whole = whole_behind buckets old new behind whole;
      records_are = records_behind buckets old new behind whole;
    }
