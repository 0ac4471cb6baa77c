use Rattle.std.proofs.Common.{◌≡◌, ℕ, List, ◌∷◌, [], ◌++◌, Bool, true, false, not, refl, ap, sym, ◌∙◌}
use Rattle.rpm_hindex.proofs.Vocabulary.{Hit}
use Rattle.rpm_hindex.proofs.Counts.{adds_none, adds_one}
use Rattle.rpm_hindex.proofs.chain.push_hit.Goals as goal

is_false : (t : Bool) → not t ≡ true → t ≡ false
is_false true e = sym e
is_false false e = refl

is_true : (t : Bool) → not t ≡ false → t ≡ true
is_true true e = refl
is_true false e = sym e

pub returns-then-not-met-clause-hits : goal.returns-then-not-met-clause-hits
returns-then-not-met-clause-hits c = λ kind key row same number place.
    adds_none kind key row (sym same ∙ is_false c.args.met.is_wanted c.if-not-met.true) c.args.hits.now.items

pub returns-clause-hits : goal.returns-clause-hits
returns-clause-hits c = λ kind key row same number place.
    let old : List Hit = c.args.hits.now.items in
    let first = ap (λ (n : ℕ). old ++ (record { number = n; place = c.args.met.head.place }) ∷ []) (sym number) in
    let second = ap (λ (n : ℕ). old ++ (record { number = row.number; place = n }) ∷ []) (sym place) in
    adds_one kind key row (sym same ∙ is_true c.args.met.is_wanted c.if-not-met.false) old c.push.new.self.items (c.in-Ok.ensures.items ∙ first ∙ second)
