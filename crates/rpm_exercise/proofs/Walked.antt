-- Going through the packages that are picked, and through lines.
use Rattle.std.proofs.Common.{◌≡◌, ℕ, ◌+◌, ◌-◌, ◌<◌, ◌≤◌, List, [], ◌∷◌, ◌++◌, length, length-append, refl, sym, ap, ◌∙◌, subst, append_assoc, arith}
use Rattle.std.proofs.lemmas.List.{append-nil, flat_map_more}
use Rattle.rpm_exercise.proofs.Vocabulary.{above, Bad, entry_in, exported_bytes, flat_map, Good, Holds256, nat_cmp, next_picked, number_in, Package, Picked, picks}
use Rattle.rpm_exercise.proofs.Vocabulary.{range_with_len, Selection, Sha256}
use Rattle.std.specs.FinMap as finite
use Rattle.rpm_exercise.proofs.Parts.{each_next, each_none}

-- up to a number all were gone over: so many, and what an export of them writes was fed
pub record Walked (all : List (ℕ × Package)) (n count : ℕ) (hasher : Sha256) : Type 0 where
  pub done : List (ℕ × Package)
  pub all_is : done ++ above n all ≡ all
  pub counted : count ≡ length done
  pub fed : Holds256 hasher (flat_map exported_bytes done)

number_of_entry : (p : Picked) → (entry_in p).0 ≡ number_in p
number_of_entry (Good number blob) = refl
number_of_entry (Bad number) = refl

pub walked_more : (map : finite.FinMap nat_cmp Package) (sel : Selection) (n count : ℕ) (p : Picked) (rest : List (ℕ × Package)) {old new : Sha256}
    → above n (picks map sel) ≡ entry_in p ∷ rest → (w : Walked (picks map sel) n count old)
    → Holds256 new (flat_map exported_bytes w.done ++ exported_bytes (entry_in p)) → Walked (picks map sel) (number_in p) (count + 1) new
walked_more map sel n count p rest {new = new} is w fed =
    let next : above n (picks map sel) ≡ entry_in p ∷ above (number_in p) (picks map sel) =
    rw (← number_of_entry p) (next_picked map sel n (entry_in p) rest is) in
    record {
      done = w.done ++ entry_in p ∷ [];
      all_is = append_assoc w.done (entry_in p ∷ []) (above (number_in p) (picks map sel))
          ∙ ap (λ (l : List (ℕ × Package)). w.done ++ l) (sym next) ∙ w.all_is;
      counted = omega (arith, w.counted, length-append w.done (entry_in p ∷ []));
      fed = subst (Holds256 new) (flat_map_more exported_bytes [] w.done (entry_in p)) fed;
    }

pub walked_all : (all : List (ℕ × Package)) (n count : ℕ) (hasher : Sha256) → above n all ≡ [] → (w : Walked all n count hasher) → w.done ≡ all
walked_all all n count hasher none w = sym (append-nil w.done) ∙ ap (λ (l : List (ℕ × Package)). w.done ++ l) (sym none) ∙ w.all_is

-- ---- lines

pub lines_more : (line : ℕ → List ℕ) (text next all : List ℕ) (c n : ℕ) → c < n → next ≡ text ++ line c
    → text ++ flat_map line (range_with_len c (n - c)) ≡ all → next ++ flat_map line (range_with_len (c + 1) (n - (c + 1))) ≡ all
lines_more line text next all c n below is so =
    ap (λ (t : List ℕ). t ++ flat_map line (range_with_len (c + 1) (n - (c + 1)))) is
    ∙ append_assoc text (line c) (flat_map line (range_with_len (c + 1) (n - (c + 1))))
    ∙ ap (λ (t : List ℕ). text ++ t) (sym (each_next line c n c below)) ∙ so

pub lines_end : (line : ℕ → List ℕ) (text all : List ℕ) (c n : ℕ) → n ≤ c → text ++ flat_map line (range_with_len c (n - c)) ≡ all → text ≡ all
lines_end line text all c n past so =
    sym (append-nil text) ∙ ap (λ (t : List ℕ). text ++ t) (sym (each_none line c n c past)) ∙ so
