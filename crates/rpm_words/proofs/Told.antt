-- The first of seven rules.
use Rattle.std.proofs.Common.{◌≡◌, [], ◌∷◌, Option, Some, None, refl}
use Rattle.rpm_words.proofs.Vocabulary.{first_told, option_or, WordsFault}

pub told : (a b c d e f g : Option WordsFault) →
    option_or (option_or (option_or (option_or (option_or (option_or a b) c) d) e) f) g ≡ first_told (a ∷ b ∷ c ∷ d ∷ e ∷ f ∷ g ∷ [])
told (Some x) b c d e f g = refl
told None (Some x) c d e f g = refl
told None None (Some x) d e f g = refl
told None None None (Some x) e f g = refl
told None None None None (Some x) f g = refl
told None None None None None (Some x) g = refl
told None None None None None None (Some x) = refl
told None None None None None None None = refl

pub told_by : (a b c d e f g p q r s t u : Option WordsFault) → p ≡ option_or a b → q ≡ option_or p c → r ≡ option_or q d → s ≡ option_or r e →
    t ≡ option_or s f → u ≡ option_or t g → u ≡ first_told (a ∷ b ∷ c ∷ d ∷ e ∷ f ∷ g ∷ [])
told_by a b c d e f g p q r s t u h i j k l m = cc (told a b c d e f g)
