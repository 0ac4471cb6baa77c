-- What holds of each of several rules holds of the first.
use Rattle.std.proofs.Common.{◌≡◌, ℕ, List, [], ◌∷◌, Option, Some, None, Bool, true, false, cond}
use Rattle.rpm_words.proofs.Vocabulary.{best_of, cons_option, earliest, fault, command_word, is_before, NoMemory, option_map, WordsFault, WordsKind}

abbrev IsRule : WordsFault → Type 0
IsRule f = f.kind ≡ NoMemory → ⊥

abbrev pub AreRules : Option WordsFault → Type 0
AreRules None = Unit {0}
AreRules (Some f) = IsRule f

pub test : (b : Bool) (f : WordsFault) (o : Option WordsFault) → IsRule f → AreRules o → AreRules (cond b (Some f) o)
test true f o h k = h
test false f o h k = k

pub mapped : (kind : WordsKind) (o : Option ℕ) → (kind ≡ NoMemory → ⊥) → AreRules (option_map (fault kind) o)
mapped kind None h = tt
mapped kind (Some word) h = h

better : (b : Bool) (f g : WordsFault) → IsRule f → IsRule g → IsRule (cond b g f)
better true f g h k = k
better false f g h k = h

abbrev pub AllRules : List WordsFault → Type 0
AllRules [] = Unit {0}
AllRules (f ∷ fs) = IsRule f × AllRules fs

pub rules_cons : (o : Option WordsFault) (fs : List WordsFault) → AreRules o → AllRules fs → AllRules (cons_option o fs)
rules_cons None fs h k = k
rules_cons (Some f) fs h k = (h, k)

best_rule : (f : WordsFault) (fs : List WordsFault) → IsRule f → AllRules fs → IsRule (best_of is_before f fs)
best_rule f [] h k = h
best_rule f (g ∷ fs) h k = best_rule (cond (is_before g f) g f) fs (better (is_before g f) f g h k.0) k.1

pub earliest_rule : (fs : List WordsFault) → AllRules fs → AreRules (earliest fs)
earliest_rule [] k = tt
earliest_rule (f ∷ fs) k = best_rule f fs k.0 k.1

pub head_rule : (fs : List WordsFault) → AllRules fs → AreRules (command_word fs)
head_rule [] k = tt
head_rule (f ∷ fs) k = k.0
