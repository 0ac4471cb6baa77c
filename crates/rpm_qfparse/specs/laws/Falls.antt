-- A tree is larger than the trees in it.
use Rattle.std.specs.Prelude.{◌≡◌, ℕ, zero, suc, ◌+◌, ◌≤◌, ◌<◌, List, [], ◌∷◌, refl, Some, slice_get}
use Rattle.std.proofs.Common.{arith, ap, sym, ◌∙◌}
use denote.Param.Weighed.{most}
use Rattle.rpm_qfparse.specs.Tree.{Tree, End, Text, Tagged, Bracket, Condition, weight}
use Rattle.rpm_qfparse.specs.Shape.{tree_of, parts_of_tree, load}
use Rattle.rpm_qfparse.specs.declared.tree.Part.{Part}
use Rattle.rpm_qfparse.specs.declared.tree.Part.TheVariants as part
use Rattle.rpm_qfparse.specs.declared.tree.Parts.TheDeep.{deep-Part}

pub tree_falls : (ps : List Part) → most deep-Part ps ≤ weight (tree_of ps)
tree_falls [] = omega arith
tree_falls (part.Text b ∷ ps) = let h : most deep-Part ps ≤ weight (tree_of ps) = tree_falls ps in omega arith
tree_falls (part.Tag t ∷ ps) = let h : most deep-Part ps ≤ weight (tree_of ps) = tree_falls ps in omega arith
tree_falls (part.Bracket i ∷ ps) = let h : most deep-Part ps ≤ weight (tree_of ps) = tree_falls ps in omega arith
tree_falls (part.Condition t a b ∷ ps) = let h : most deep-Part ps ≤ weight (tree_of ps) = tree_falls ps in omega arith

pub same_parts : (ps : List Part) → parts_of_tree (tree_of ps) ≡ ps
same_parts [] = refl
same_parts (part.Text b ∷ ps) = ap (λ r. part.Text b ∷ r) (same_parts ps)
same_parts (part.Tag t ∷ ps) = ap (λ r. part.Tag t ∷ r) (same_parts ps)
same_parts (part.Bracket i ∷ ps) = ap (λ r. part.Bracket i ∷ r) (same_parts ps)
same_parts (part.Condition t a b ∷ ps) = ap (λ r. part.Condition t a b ∷ r) (same_parts ps)

pub seen_parts : (ps : List Part) (t : _) → tree_of ps ≡ t → parts_of_tree t ≡ ps
seen_parts ps t e = ap parts_of_tree (sym e) ∙ same_parts ps

some_weight : (t : Tree) → 0 < weight t
some_weight End = omega arith
some_weight (Text b r) = omega (arith, some_weight r)
some_weight (Tagged p r) = omega (arith, some_weight r)
some_weight (Bracket a r) = omega (arith, some_weight r)
some_weight (Condition t a b r) = omega (arith, some_weight r)

pub lighter : (t : Tree) (i : ℕ) (p : Part) → slice_get (parts_of_tree t) i ≡ Some p → load p < weight t
lighter End i p e = absurd cc
lighter (Text b r) zero p e =
    let f : part.Text b ≡ p = cc in let g : 1 ≡ load p = ap load f in omega (arith, some_weight r)
lighter (Tagged t r) zero p e =
    let f : part.Tag t ≡ p = cc in let g : 1 ≡ load p = ap load f in omega (arith, some_weight r)
lighter (Bracket a r) zero p e =
    let f : part.Bracket a ≡ p = cc in let g : 1 + weight a ≡ load p = ap load f in omega (arith, some_weight r)
lighter (Condition t a b r) zero p e =
    let f : part.Condition t a b ≡ p = cc in let g : 1 + weight a + weight b ≡ load p = ap load f in omega
    (arith, some_weight r)
lighter (Text b r) (suc i) p e = let h : load p < weight r = lighter r i p e in omega arith
lighter (Tagged t r) (suc i) p e = let h : load p < weight r = lighter r i p e in omega arith
lighter (Bracket a r) (suc i) p e = let h : load p < weight r = lighter r i p e in omega arith
lighter (Condition t a b r) (suc i) p e = let h : load p < weight r = lighter r i p e in omega arith

pub whole_tree : (t : Tree) → tree_of (parts_of_tree t) ≡ t
whole_tree End = refl
whole_tree (Text b r) = ap (Text b) (whole_tree r)
whole_tree (Tagged p r) = ap (Tagged p) (whole_tree r)
whole_tree (Bracket a r) = ap (Bracket a) (whole_tree r)
whole_tree (Condition t a b r) = ap (Condition t a b) (whole_tree r)
