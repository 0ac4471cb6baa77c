-- A listing that has listed nothing.
use Rattle.std.proofs.Common.{◌≡◌, ℕ, false, List, [], zero, suc, length, get_or, replicate, refl, sym, ap, subst, ◌∙◌, arith}
use Rattle.std.proofs.lemmas.List.{length-replicate, length-map}
use Rattle.rpm_graph.proofs.Vocabulary.{IsEdge, IsBegun, IsUnderway, listed_at, Listing}
use Rattle.rpm_graph.proofs.Rowing.{no_goes}

at_replicate : {A : Type 0} (n v : ℕ) (x : A) → get_or (replicate n x) v x ≡ x
at_replicate zero v x = refl
at_replicate (suc n) zero x = refl
at_replicate (suc n) (suc v) x = at_replicate n v x

pub none_listed : (n c : ℕ) → listed_at (replicate n false) c ≡ false
none_listed n c = at_replicate n c false

pub begun : (ends : List (List ℕ)) (leasts : List ℕ) (s : Listing) (count : ℕ) → length ends ≡ count → IsBegun count s → IsUnderway ends leasts s
begun ends leasts s count is b =
    let zero_at : (c : ℕ) → get_or s.checked.items c 0 ≡ 0 = λ c. ap (λ l. get_or l c 0) b.checked ∙ at_replicate count c 0 in
    record {
      checked_long = ap length b.checked ∙ length-replicate count 0 ∙ sym is;
      waiting_long = sym (length-map s.waiting.items (λ r. r.items)) ∙ ap length b.waiting ∙ length-replicate count [] ∙ sym is;
      listed_long = ap length b.listed ∙ length-replicate count false ∙ sym is;
      checked_in = λ c. omega (arith, zero_at c);
      checked = λ c i lt. absurd (omega (arith, zero_at c, lt));
      waits = λ d c goes. absurd (no_goes count d c (subst (λ l. IsEdge l d c) b.waiting goes));
      ready = λ n c has. absurd (omega (arith, has.1, ap length b.ready));
    }
