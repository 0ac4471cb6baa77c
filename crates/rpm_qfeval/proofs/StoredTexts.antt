-- The texts of a stored tag are its value.
use Rattle.std.proofs.Common.{◌≡◌, ℕ, List, Option, None, Some, sym, ap, ◌∙◌}
use Rattle.std.specs.Prelude.{IfSome}
use Rattle.rpm_qfeval.proofs.Classes.{if_texts}
use Rattle.rpm_qfeval.proofs.Vocabulary.{Elements, Header, NumberList, OneBlob, Stored, Tag, TextList, texts_in, value}

by_texts : (v : Elements) (ts : List (List ℕ)) → Some ts ≡ if_texts (Some v) → v ≡ TextList ts
by_texts (TextList us) ts e = let same : ts ≡ us = cc in ap TextList (sym same)
by_texts (NumberList ns) ts e = absurd cc
by_texts (OneBlob b) ts e = absurd cc

pub stored_texts : (h : Header) (number tag : ℕ) (asked : Tag) (found : Option Elements) (v : Elements) (o : Option (List (List ℕ)))
    → found ≡ value h number asked → asked ≡ Stored tag → found ≡ Some v → o ≡ texts_in h tag → IfSome o (λ ts. v ≡ TextList ts)
unfolding texts_in
stored_texts h number tag asked found v None told is some e = tt
stored_texts h number tag asked found v (Some ts) told is some e =
    by_texts v ts (e ∙ ap if_texts (ap (value h number) (sym is) ∙ sym told ∙ some))
