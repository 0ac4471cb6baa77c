-- The slots of one unit more.
use Rattle.std.proofs.Common.{◌≡◌, ℕ, suc, ◌+◌, ◌<◌, List, [], ◌∷◌, ◌++◌, length, take, Option, Some, None, refl, sym, ap, ◌∙◌, append_assoc}
use Rattle.rpm_pkgdb.proofs.Vocabulary.{blank, option_or, Slot, slot_of, slots_in, unit_at, Units}
use Rattle.std.proofs.lemmas.List.{take_more}

pub length-slots_in : (us : Units) → length (slots_in us) ≡ length us
unfolding slots_in
length-slots_in [] = refl
length-slots_in (u ∷ us) = ap suc (length-slots_in us)

pub slots_in-append : (us vs : Units) → slots_in (us ++ vs) ≡ slots_in us ++ slots_in vs
unfolding slots_in
slots_in-append [] vs = refl
slots_in-append (u ∷ us) vs = ap (λ (ss : List Slot). slot_of u ∷ ss) (slots_in-append us vs)

pub slots_in-one : (u : List ℕ) → slots_in (u ∷ []) ≡ slot_of u ∷ []
unfolding slots_in
slots_in-one u = refl

pub or_else_none : {X : Type 0} (a : Option X) → option_or a None ≡ a
or_else_none None = refl
or_else_none (Some x) = refl

module _ (earlier now : List Slot) (us : Units) (k : ℕ) (unit : List ℕ) (below : k < length us) (slots : now ≡ earlier ++ slots_in (take k us))
    (is : unit ≡ unit_at us k) where
  front : take (k + 1) us ≡ take k us ++ unit ∷ []
  front = take_more us k blank below ∙ ap (λ (u : List ℕ). take k us ++ u ∷ []) (sym is)

  pub slots_more : (after : List Slot) → after ≡ now ++ slot_of unit ∷ [] → after ≡ earlier ++ slots_in (take (k + 1) us)
  slots_more after e =
      e ∙ ap (λ (ss : List Slot). ss ++ slot_of unit ∷ []) slots
      ∙ append_assoc earlier (slots_in (take k us)) (slot_of unit ∷ [])
      ∙ ap (λ (ss : List Slot). earlier ++ (slots_in (take k us) ++ ss)) (sym (slots_in-one unit))
      ∙ ap (λ (ss : List Slot). earlier ++ ss) (sym (slots_in-append (take k us) (unit ∷ [])))
      ∙ ap (λ (xs : Units). earlier ++ slots_in xs) (sym front)

pub slots_in-none : slots_in [] ≡ []
unfolding slots_in
slots_in-none = refl
