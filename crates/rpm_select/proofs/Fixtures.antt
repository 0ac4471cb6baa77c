-- The definitions, computed on small globs and labels: what they say doesn't come from the code.
use Rattle.std.specs.Prelude.{◌≡◌, [], ◌∷◌, codes, Some, true, false, refl}
use Rattle.rpm_select.proofs.Vocabulary.{glob, is_dash, is_dash_or_dot, names_in, piece_at, pieces_behind, with_name, without_bytes}

ends : (glob (codes "*a") (codes "ba") ≡ true) × (glob (codes "*a") (codes "ab") ≡ false) × (glob (codes "a?c") (codes "abc") ≡ true)
    × (glob (codes "?") [] ≡ false)
unfolding glob pieces_behind piece_at
ends = (refl, refl, refl, refl)

sets : (glob (codes "[]a]") (codes "]") ≡ true) × (glob (codes "[!]a]") (codes "]") ≡ false) × (glob (codes "[a-]") (codes "-") ≡ true)
    × (glob (codes "[-a]") (codes "b") ≡ false) × (glob (codes "[a-c]") (codes "b") ≡ true) × (glob (codes "[z-a]") (codes "m") ≡ false)
unfolding glob pieces_behind piece_at
sets = (refl, refl, refl, refl, refl, refl)

selves : (glob (codes "[a") (codes "[a") ≡ true) × (glob (codes "[]") (codes "[]") ≡ true) × (glob (codes "\\") (codes "\\") ≡ true)
    × (glob (codes "[\\]") (codes "\\") ≡ true) × (glob (codes "\\*") (codes "a") ≡ false)
unfolding glob pieces_behind piece_at
selves = (refl, refl, refl, refl, refl)

six : with_name (without_bytes is_dash_or_dot (Some (codes "x"))) (Some (codes "n-m")) (without_bytes is_dash (Some (codes "1")))
    (without_bytes is_dash (Some (codes "2"))) ≡ codes "n-m" ∷ codes "n-m.x" ∷ codes "n-m-1" ∷ codes "n-m-1.x" ∷ codes "n-m-1-2" ∷ codes "n-m-1-2.x" ∷ []
six = refl

few : with_name (without_bytes is_dash_or_dot (Some (codes "x.y"))) (Some (codes "n")) (without_bytes is_dash (Some (codes "1-1")))
    (without_bytes is_dash (Some (codes "2"))) ≡ codes "n" ∷ []
few = refl

names : names_in (codes "n-m-1-2.x") ≡ codes "n-m-1-2.x" ∷ codes "n-m-1-2" ∷ codes "n-m-1" ∷ codes "n-m" ∷ []
names = refl

short_names : (names_in (codes "n-1") ≡ codes "n-1" ∷ codes "n" ∷ []) × (names_in (codes "n") ≡ codes "n" ∷ [])
short_names = (refl, refl)
