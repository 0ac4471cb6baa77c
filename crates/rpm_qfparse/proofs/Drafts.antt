-- A draft that grows.
use Rattle.std.proofs.Common.{◌≡◌, ℕ, ◌<◌, List, [], ◌∷◌, ◌++◌, length, refl, sym, ◌∙◌, ap, arith, Ok, Err}
use Rattle.rpm_qfparse.proofs.Vocabulary.{BeginsApart, behind_part, Bracket, Condition, End, in_front, IsNoText, onto, Part, Reading, Tagged, Text, Tree}
use Rattle.rpm_qfparse.proofs.Vocabulary.{with_byte, with_draft_text}
use Rattle.rpm_qfparse.specs.declared.tree.Part.TheVariants as part

pub with_text_push : (text : List ℕ) (b : ℕ) (rest : Tree) → with_draft_text (text ++ b ∷ []) rest ≡ with_draft_text text (with_byte b rest)
with_text_push [] b rest = refl
with_text_push (c ∷ text) b rest = ap (with_byte c) (with_text_push text b rest)

pub onto-append : (ps qs : List Part) (rest : Tree) → onto (ps ++ qs) rest ≡ onto ps (onto qs rest)
onto-append [] qs rest = refl
onto-append (part.Text b ∷ ps) qs rest = ap (Text b) (onto-append ps qs rest)
onto-append (part.Tag t ∷ ps) qs rest = ap (Tagged t) (onto-append ps qs rest)
onto-append (part.Bracket i ∷ ps) qs rest = ap (Bracket i) (onto-append ps qs rest)
onto-append (part.Condition t a b ∷ ps) qs rest = ap (Condition t a b) (onto-append ps qs rest)

begins_run : (b : ℕ) (rest : Tree) → BeginsApart rest → with_byte b rest ≡ Text (b ∷ []) rest
begins_run b (Text c rest) h = absurd h
begins_run b End h = refl
begins_run b (Tagged t rest) h = refl
begins_run b (Bracket i rest) h = refl
begins_run b (Condition t x y rest) h = refl

pub run : (b : ℕ) (bytes : List ℕ) (rest : Tree) → BeginsApart rest → with_draft_text (b ∷ bytes) rest ≡ Text (b ∷ bytes) rest
run b [] rest h = begins_run b rest h
run b (c ∷ bytes) rest h = ap (with_byte b) (run c bytes rest h)

pub flushed : (ps qs : List Part) (text bytes : List ℕ) (rest : Tree) → 0 < length text → bytes ≡ [] → qs ≡ ps ++ part.Text text ∷ [] → BeginsApart
    rest → onto qs (with_draft_text bytes rest) ≡ onto ps (with_draft_text text rest)
flushed ps qs [] bytes rest some e f h = absurd (omega arith)
flushed ps qs (b ∷ text) bytes rest some e f h =
    ap (λ t. onto qs (with_draft_text t rest)) e ∙ ap (λ q. onto q rest) f ∙ onto-append ps (part.Text (b ∷ text) ∷ []) rest
    ∙ ap (onto ps) (sym (run b text rest h))

pub apart : (p : Part) (rest : Tree) → IsNoText p → BeginsApart (in_front p rest)
apart (part.Text b) rest h = absurd h
apart (part.Tag t) rest h = tt
apart (part.Bracket i) rest h = tt
apart (part.Condition t x y) rest h = tt

pub behind_behind : (f g k : Tree → Tree) → ((t : Tree) → k (g t) ≡ f t) → (a : Reading Tree) → behind_part k (behind_part g a) ≡ behind_part f a
behind_behind f g k e (Ok x) = ap (λ t. Ok (t, x.1)) (e x.0)
behind_behind f g k e (Err x) = refl

pub behind_same : (f : Tree → Tree) → ((t : Tree) → f t ≡ t) → (a : Reading Tree) → behind_part f a ≡ a
behind_same f e (Ok x) = ap (λ t. Ok (t, x.1)) (e x.0)
behind_same f e (Err x) = refl

pub pushed : (ps qs : List Part) (text : List ℕ) (p : Part) (rest : Tree) → text ≡ [] → qs ≡ ps ++ p ∷ [] → onto qs (with_draft_text text rest)
    ≡ onto ps (with_draft_text text (in_front p rest))
pushed ps qs text p rest e f =
    ap (λ t. onto qs (with_draft_text t rest)) e ∙ ap (λ q. onto q rest) f ∙ onto-append ps (p ∷ []) rest
    ∙ sym (ap (λ t. onto ps (with_draft_text t (in_front p rest))) e)
