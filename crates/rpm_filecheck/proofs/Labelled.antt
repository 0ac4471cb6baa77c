-- The map of labels, and what is read of a blob.
use Rattle.std.proofs.Common.{◌≡◌, ℕ, List, [], Option, Ok, unwrap_or, Some, ap, ◌∙◌}
use Rattle.std.specs.Prelude.{Vec, Result}
use Rattle.rpm_filecheck.proofs.Vocabulary.{find, GatheredFiles, Global, Header, header, header-own, HeaderFault, insert_entry, is_at, Labels, lookup, nat_cmp}
use Rattle.rpm_filecheck.proofs.Vocabulary.{option_map, package_of, put, read_as, with_header, with_package, with_read}
use Rattle.rpm_filecheck.proofs.Placing.{seen_as, seen-insert_entry, lookup-seen}

-- what contracts see of a map from numbers to texts
abbrev pub seen : List (ℕ × Vec ℕ Global) → Labels
seen es = seen_as nat_cmp (λ (n : ℕ). n) (λ (v : Vec ℕ Global). v.items) es

pub seen-put : (n : ℕ) (text : Vec ℕ Global) (es : List (ℕ × Vec ℕ Global)) → seen (insert_entry nat_cmp es n text) ≡ put nat_cmp n text.items (seen es)
seen-put n text es = seen-insert_entry nat_cmp (λ (n : ℕ). n) (λ (v : Vec ℕ Global). v.items) n text es

pub text_of : (n : ℕ) (o : Option (Vec ℕ Global)) (es : List (ℕ × Vec ℕ Global)) (view : Labels) → o ≡ lookup (is_at (nat_cmp n)) es → seen es ≡ view
    → unwrap_or (option_map (λ v. v.items) o) [] ≡ unwrap_or (find nat_cmp n view) []
text_of n o es view is same =
    ap (λ (w : Option (Vec ℕ Global)). unwrap_or (option_map (λ v. v.items) w) []) is
    ∙ ap (λ (w : Option (List ℕ)). unwrap_or w []) (lookup-seen nat_cmp (λ (n : ℕ). n) (λ (v : Vec ℕ Global). v.items) n es
    ∙ ap (find nat_cmp n) same)

-- a header that is read from a blob is read again from its own bytes
pub with-own : (n : ℕ) (blob : List ℕ) (h : Header) (f : GatheredFiles) → header blob ≡ Ok h → with_package n (package_of (Some blob)) f ≡ with_header n h f
with-own n blob h f is =
    ap (λ (r : Result Header HeaderFault). with_package n (read_as r) f) is
    ∙ ap (λ (r : Result Header HeaderFault). with_read n r f) (header-own blob h is)
