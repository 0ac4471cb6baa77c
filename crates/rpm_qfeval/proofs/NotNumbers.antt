-- Formatters of numbers, of a text or of a blob.
use Rattle.std.proofs.Common.{◌≡◌, ℕ, List, codes, refl}
use Rattle.rpm_qfeval.proofs.Vocabulary.{blob_text, Show, text_text}
use Rattle.rpm_qfparse.specs.declared.tree.Show.TheVariants as show

pub of_text : (f : Show) (count : ℕ) (text : List ℕ) → ¬ (f ≡ show.Plain) → ¬ (f ≡ show.Shescape) → ¬ (f ≡ show.Base64) → ¬ (f ≡ show.Arraysize)
    → text_text f count text ≡ codes "(not a number)"
of_text show.Plain count text a b c d = absurd (a refl)
of_text show.Shescape count text a b c d = absurd (b refl)
of_text show.Base64 count text a b c d = absurd (c refl)
of_text show.Arraysize count text a b c d = absurd (d refl)
of_text _ count text a b c d = refl

pub of_blob : (f : Show) (bytes : List ℕ) → ¬ (f ≡ show.Plain) → ¬ (f ≡ show.Shescape) → ¬ (f ≡ show.Base64) → ¬ (f ≡ show.Arraysize) → blob_text f
    bytes ≡ codes "(not a number)"
of_blob show.Plain bytes a b c d = absurd (a refl)
of_blob show.Shescape bytes a b c d = absurd (b refl)
of_blob show.Base64 bytes a b c d = absurd (c refl)
of_blob show.Arraysize bytes a b c d = absurd (d refl)
of_blob _ bytes a b c d = refl
