-- What the parts of a format say, from a place on.
use Rattle.std.proofs.Common.{◌≡◌, ℕ, suc, ◌+◌, ◌-◌, ◌<◌, ◌≤◌, List, [], ◌∷◌, ◌++◌, length, drop, map, Option, Some, None, refl, sym, ap, ◌∙◌, arith}
use Rattle.std.specs.Prelude.{slice_get}
use Rattle.rpm_qfeval.proofs.Vocabulary.{bytes, concat, End, Header, option_or, Part, part_bytes, part_sizes, parts_of_tree, range_with_len, sizes, Tree, tree_of}
use Rattle.rpm_qfeval.proofs.Vocabulary.{whole_tree}
use Rattle.rpm_qfparse.specs.declared.tree.Part.TheVariants as part
use Rattle.rpm_qfeval.proofs.Steps.{drop_here, drop_all}

module _ (h : Header) (number : ℕ) where
  bytes_front : (i : ℕ) (p : Part) (ps : List Part) → bytes h number i (tree_of (p ∷ ps)) ≡ part_bytes h number i p ++ bytes h number i (tree_of ps)
  unfolding bytes
  bytes_front i (part.Text b) ps = refl
  bytes_front i (part.Tag t) ps = refl
  bytes_front i (part.Bracket a) ps = refl
  bytes_front i (part.Condition t a b) ps = refl

  pub bytes_here : (i k : ℕ) (t : Tree) (p : Part) → slice_get (parts_of_tree t) k ≡ Some p → bytes h number i (tree_of (drop k (parts_of_tree t))) ≡ part_bytes
      h number i p ++ bytes h number i (tree_of (drop (k + 1) (parts_of_tree t)))
  bytes_here i k t p at = ap (λ ps. bytes h number i (tree_of ps)) (drop_here (parts_of_tree t) k p at) ∙ bytes_front i p (drop (k + 1) (parts_of_tree t))

  pub bytes_start : (i : ℕ) (t : Tree) → bytes h number i t ≡ bytes h number i (tree_of (drop 0 (parts_of_tree t)))
  bytes_start i t = ap (bytes h number i) (sym (whole_tree t))

  bytes_none : (i : ℕ) → bytes h number i End ≡ []
  unfolding bytes
  bytes_none i = refl

  pub bytes_end : (i k : ℕ) (t : Tree) → length (parts_of_tree t) ≤ k → bytes h number i (tree_of (drop k (parts_of_tree t))) ≡ []
  bytes_end i k t le = ap (λ ps. bytes h number i (tree_of ps)) (drop_all (parts_of_tree t) k le) ∙ bytes_none i

  sizes_front : (p : Part) (ps : List Part) → sizes h number (tree_of (p ∷ ps)) ≡ option_or (part_sizes h number p) (sizes h number (tree_of ps))
  unfolding sizes
  sizes_front (part.Text b) ps = refl
  sizes_front (part.Tag t) ps = refl
  sizes_front (part.Bracket a) ps = refl
  sizes_front (part.Condition t a b) ps = refl

  sizes_here : (k : ℕ) (t : Tree) (p : Part) (o : Option (ℕ × ℕ)) → slice_get (parts_of_tree t) k ≡ Some p → o ≡ part_sizes h number p → sizes h number
      (tree_of (drop k (parts_of_tree t))) ≡ option_or o (sizes h number (tree_of (drop (k + 1) (parts_of_tree t))))
  sizes_here k t p o at e = ap (λ ps. sizes h number (tree_of ps)) (drop_here (parts_of_tree t) k p at) ∙ sizes_front p (drop (k + 1) (parts_of_tree t))
      ∙ sym (ap (λ o. option_or o (sizes h number (tree_of (drop (k + 1) (parts_of_tree t))))) e)

  pub sizes_next : (k : ℕ) (t : Tree) (p : Part) → slice_get (parts_of_tree t) k ≡ Some p → None ≡ part_sizes h number p → sizes h number
      (tree_of (drop k (parts_of_tree t))) ≡ sizes h number t → sizes h number (tree_of (drop (k + 1) (parts_of_tree t))) ≡ sizes h number t
  sizes_next k t p at e f = sym (sizes_here k t p None at e) ∙ f

  pub sizes_found : (k : ℕ) (t : Tree) (p : Part) (s : ℕ × ℕ) → slice_get (parts_of_tree t) k ≡ Some p → Some s ≡ part_sizes h number p → sizes h number
      (tree_of (drop k (parts_of_tree t))) ≡ sizes h number t → Some s ≡ sizes h number t
  sizes_found k t p s at e f = sym (sizes_here k t p (Some s) at e) ∙ f

  pub sizes_start : (t : Tree) → sizes h number (tree_of (drop 0 (parts_of_tree t))) ≡ sizes h number t
  sizes_start t = ap (sizes h number) (whole_tree t)

  sizes_none : sizes h number End ≡ None
  unfolding sizes
  sizes_none = refl

  pub sizes_end : (k : ℕ) (t : Tree) → length (parts_of_tree t) ≤ k → sizes h number (tree_of (drop k (parts_of_tree t))) ≡ sizes h number t
      → None ≡ sizes h number t
  sizes_end k t le f = sym sizes_none ∙ sym (ap (λ ps. sizes h number (tree_of ps)) (drop_all (parts_of_tree t) k le)) ∙ f

-- the rounds from one on
module _ (f : ℕ → List ℕ) where
  pub round_here : (n j : ℕ) → j < n → concat (map f (range_with_len j (n - j))) ≡ f j ++ concat (map f (range_with_len (j + 1) (n - (j + 1))))
  round_here n j lt = let e : n - j ≡ suc (n - (j + 1)) = omega arith in ap (λ k. concat (map f (range_with_len j k))) e

  pub round_start : (n : ℕ) → concat (map f (range_with_len 0 n)) ≡ concat (map f (range_with_len 0 (n - 0)))
  round_start n = let e : n ≡ n - 0 = omega arith in ap (λ k. concat (map f (range_with_len 0 k))) e

  pub round_end : (n j : ℕ) → n ≤ j → concat (map f (range_with_len j (n - j))) ≡ []
  round_end n j le = let e : n - j ≡ 0 = omega arith in ap (λ k. concat (map f (range_with_len j k))) e
