-- How a glob is gone through: only the last star is tried again.
use Rattle.std.proofs.Common.{◌≡◌, ◌≢◌, ℕ, List, [], ◌∷◌, Bool, true, false, ◌&&◌, ◌||◌, Option, Some, None, refl, sym, ap, ◌∙◌, inl, inr}
use Rattle.std.proofs.lemmas.Bool.{cases_Bool}
use Rattle.rpm_select.proofs.Vocabulary.{Byte, Piece, Question, Set, stands_for, Star, takes_byte}

-- ---- what a star stands for

-- the text after a star's first byte
abbrev pub later : List Piece → List ℕ → Bool
later ps [] = false
later ps (b ∷ text) = stands_for (Star ∷ ps) text

pub star_first : (ps : List Piece) (text : List ℕ) → stands_for (Star ∷ ps) text ≡ (stands_for ps text || later ps text)
star_first ps [] = sym (or_false (stands_for ps []))
  where
    or_false : (x : Bool) → (x || false) ≡ x
    or_false true = refl
    or_false false = refl
star_first ps (b ∷ text) = refl

or_true : (x : Bool) → (x || true) ≡ true
or_true true = refl
or_true false = refl

here_or_later : (x y : Bool) {P : Type 0} → (x ≡ true → P) → (y ≡ true → P) → (x || y) ≡ true → P
here_or_later true y first second is = first refl
here_or_later false y first second is = second is

star_longer : (ps : List Piece) (b : ℕ) (text : List ℕ) → stands_for (Star ∷ ps) text ≡ true → stands_for (Star ∷ ps) (b ∷ text) ≡ true
star_longer ps b text is = rw is (or_true (stands_for ps (b ∷ text)))

star_here : (ps : List Piece) (text : List ℕ) → stands_for ps text ≡ true → stands_for (Star ∷ ps) text ≡ true
star_here ps text is = star_first ps text ∙ ap (λ (x : Bool). x || later ps text) is

-- two stars are one
star_star : (ps : List Piece) (text : List ℕ) → stands_for (Star ∷ Star ∷ ps) text ≡ true → stands_for (Star ∷ ps) text ≡ true
star_star ps [] is = is
star_star ps (b ∷ text) is =
    here_or_later (stands_for (Star ∷ ps) (b ∷ text)) (stands_for (Star ∷ Star ∷ ps) text) (λ here. here)
    (λ more. star_longer ps b text (star_star ps text more)) is

-- a piece that takes one byte
none_taken : (p : Piece) (ps : List Piece) → p ≢ Star → stands_for (p ∷ ps) [] ≡ false
none_taken Star ps other = absurd (other refl)
none_taken Question ps other = refl
none_taken (Byte x) ps other = refl
none_taken (Set turned members) ps other = refl

one_taken : (p : Piece) (ps : List Piece) (b : ℕ) (text : List ℕ) → p ≢ Star → stands_for (p ∷ ps) (b ∷ text) ≡ (takes_byte p b && stands_for ps text)
one_taken Star ps b text other = absurd (other refl)
one_taken Question ps b text other = refl
one_taken (Byte x) ps b text other = refl
one_taken (Set turned members) ps b text other = refl

and_second : (x y : Bool) → (x && y) ≡ true → y ≡ true
and_second true y is = is
and_second false y is = absurd cc

none_at_end : (p : Piece) (ps : List Piece) → p ≢ Star → stands_for (Star ∷ p ∷ ps) [] ≡ true → ⊥
none_at_end p ps other is = let fails = sym is ∙ none_taken p ps other in absurd cc

behind_one : (p : Piece) (ps : List Piece) (b : ℕ) (text : List ℕ) → p ≢ Star → stands_for (Star ∷ p ∷ ps) (b ∷ text) ≡ true
    → stands_for (Star ∷ ps) text ≡ true
behind_one p ps b [] other is =
    here_or_later (stands_for (p ∷ ps) (b ∷ [])) (stands_for (Star ∷ p ∷ ps) [])
    (λ here. star_here ps [] (and_second (takes_byte p b) (stands_for ps []) (sym (one_taken p ps b [] other) ∙ here)))
    (λ more. absurd (none_at_end p ps other more)) is
behind_one p ps b (c ∷ text) other is =
    here_or_later (stands_for (p ∷ ps) (b ∷ c ∷ text)) (stands_for (Star ∷ p ∷ ps) (c ∷ text))
    (λ here. star_here ps (c ∷ text) (and_second (takes_byte p b) (stands_for ps (c ∷ text)) (sym (one_taken p ps b (c ∷ text) other) ∙ here)))
    (λ more. star_longer ps c text (behind_one p ps c text other more)) is

-- ---- the last star

-- what is tried when the pieces stop standing for the text: the last star takes one byte more
abbrev pub again : Option (List Piece × List ℕ) → Bool
again None = false
again (Some (ps, text)) = later ps text

-- what stands for the text by the last star one byte on also does so by a star here
pub record Goes (r : Bool) (ps : List Piece) (text : List ℕ) (back : Option (List Piece × List ℕ)) : Type 0 where
  pub answer : r ≡ (stands_for ps text || again back)
  pub enough : again back ≡ true → stands_for (Star ∷ ps) text ≡ true

pub start : (ps : List Piece) (text : List ℕ) → Goes (stands_for ps text) ps text None
start ps text = record { answer = sym (or_none (stands_for ps text)); enough = λ fails. absurd cc }
  where
    or_none : (x : Bool) → (x || false) ≡ x
    or_none true = refl
    or_none false = refl

absorbed : (x y z : Bool) → (z ≡ true → (x || y) ≡ true) → ((x || y) || z) ≡ (x || y)
absorbed true y z enough = refl
absorbed false true z enough = refl
absorbed false false true enough = sym (enough refl)
absorbed false false false enough = refl

pub starred : (r : Bool) (all ps : List Piece) (text : List ℕ) (back : Option (List Piece × List ℕ)) → all ≡ Star ∷ ps → Goes r all text back
    → Goes r ps text (Some (ps, text))
starred r all ps text back is goes =
    let is_star : stands_for all text ≡ (stands_for ps text || later ps text) = ap (λ (qs : List Piece). stands_for qs text) is ∙ star_first ps text in
    record {
      answer = goes.answer ∙ ap (λ (x : Bool). x || again back) is_star
          ∙ absorbed (stands_for ps text) (later ps text) (again back) (λ before. sym (star_first ps text) ∙ star_star ps text (rw is at (goes.enough before)));
      enough = λ more. star_first ps text ∙ ap (λ (x : Bool). stands_for ps text || x) more ∙ or_true (stands_for ps text);
    }

pub taken : (r : Bool) (all : List Piece) (p : Piece) (ps : List Piece) (whole : List ℕ) (b : ℕ) (text : List ℕ) (back : Option (List Piece × List ℕ))
    → p ≢ Star → takes_byte p b ≡ true → all ≡ p ∷ ps → whole ≡ b ∷ text → Goes r all whole back → Goes r ps text back
taken r all p ps whole b text back other takes_it is cut goes =
    let here : stands_for all whole ≡ stands_for ps text = rw (is, cut) (one_taken p ps b text other ∙ ap (λ (x : Bool). x && stands_for ps text) takes_it) in
    record {
      answer = goes.answer ∙ ap (λ (x : Bool). x || again back) here;
      enough = λ before. behind_one p ps b text other (rw (is, cut) at (goes.enough before));
    }

pub stuck : (r : Bool) (all ps : List Piece) (whole : List ℕ) (b : ℕ) (text : List ℕ) → stands_for all whole ≡ false
    → Goes r all whole (Some (ps, b ∷ text)) → Goes r ps text (Some (ps, text))
stuck r all ps whole b text fails goes =
    record {
      answer = goes.answer ∙ ap (λ (x : Bool). x || stands_for (Star ∷ ps) text) fails ∙ star_first ps text;
      enough = λ more. star_first ps text ∙ ap (λ (x : Bool). stands_for ps text || x) more ∙ or_true (stands_for ps text);
    }

pub ended : (r : Bool) (all : List Piece) (whole : List ℕ) (back : Option (List Piece × List ℕ)) → stands_for all whole ≡ false → again back ≡ false
    → Goes r all whole back → false ≡ r
ended r all whole back fails none goes = sym (goes.answer ∙ ap (λ (x : Bool). x || again back) fails ∙ none)

pub done : (r : Bool) (all : List Piece) (whole : List ℕ) (back : Option (List Piece × List ℕ)) → stands_for all whole ≡ true → Goes r all whole back → true ≡ r
done r all whole back holds goes = sym (goes.answer ∙ ap (λ (x : Bool). x || again back) holds)

pub short : (r : Bool) (all : List Piece) (p : Piece) (ps : List Piece) (whole : List ℕ) (back : Option (List Piece × List ℕ)) → p ≢ Star → all ≡ p ∷ ps
    → whole ≡ [] → Goes r all whole back → false ≡ r
short r all p ps whole back other is cut goes =
    ended r all whole back (rw (is, cut) (none_taken p ps other)) (elim (cases_Bool (again back)) [
      | inl more ↦ absurd (none_at_end p ps other (rw (is, cut) at (goes.enough more)))
      | inr none ↦ none
    ]) goes
