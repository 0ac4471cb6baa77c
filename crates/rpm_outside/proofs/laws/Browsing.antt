-- How a run of reads of a shelf goes on.
use Rattle.std.specs.Prelude.{◌≡◌, ℕ, List, [], ◌++◌, Option, Some, None, is_some}
use Rattle.std.proofs.Common.{refl, sym, ap, ◌∙◌, append_assoc, arith}
use Rattle.rpm_outside.specs.declared.shelf.Shelf as shelf
use Rattle.rpm_outside.specs.Shelves.{TakesFront}
use Rattle.rpm_outside.specs.Browses.{bytes_left, Takes, Browses}

pub takes_then : (a b c : Option (List ℕ)) (xs ys : List ℕ) → Takes a b xs → Takes b c ys → Takes a c (xs ++ ys)
takes_then a b c xs ys first second = record {
  front = first.front ∙ ap (λ (zs : List ℕ). xs ++ zs) second.front ∙ sym (append_assoc xs ys (bytes_left c));
  opened = second.opened ∙ first.opened;
}

-- where no byte was taken, nothing was left
pub record TakesOne (old new : Option (List ℕ)) (taken : List ℕ) : Type 0 where
  pub takes : Takes old new taken
  pub ended : taken ≡ [] → bytes_left old ≡ []

pub reads_one : (old new : Option (List ℕ)) (taken : List ℕ) → TakesFront old new taken → TakesOne old new taken
reads_one None new taken r =
    let none : taken ≡ [] = r.1 in
    let same : new ≡ None = r.0 in
    record {
      takes = record {
        front = sym (ap (λ (xs : List ℕ). xs ++ bytes_left new) none ∙ ap bytes_left same);
        opened = ap is_some same;
      };
      ended = λ e. refl;
    }
reads_one (Some bytes) None taken r = absurd r
reads_one (Some bytes) (Some rest) taken r = record { takes = record { front = r.0; opened = refl }; ended = r.1 }

module _ {S : Type 0} (s : shelf.Ghosts S) where
  pub browses_then : (a b c : S) → Browses s a b → Browses s b c → Browses s a c
  browses_then a b c first second = record {
    paths_stay = λ told. second.paths_stay told ∙ first.paths_stay told;
    taken = λ told.
        let f = first.taken told in
        let g = second.taken told in
        (f.0 ++ g.0, takes_then (s.rest a) (s.rest b) (s.rest c) f.0 g.0 f.1 g.1);
    absences_stay = second.absences_stay ∙ first.absences_stay;
    later = omega (arith, first.later, second.later);
  }
