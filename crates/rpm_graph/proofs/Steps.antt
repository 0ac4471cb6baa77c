-- What the last root and the last waiting edge say.
use Rattle.std.proofs.Common.{◌≡◌, ℕ, ◌-◌, ◌≤◌, ◌<◌, ◌++◌, ◌⊎◌, List, Vec, [], ◌∷◌, length, get_or, set, refl, sym, ap, ◌∙◌, inl, inr, arith}
use Rattle.rpm_graph.proofs.Vocabulary.{Contains, IsEdge, IsLastRoot, IsOnPath, IsSearch, KeepsSeen, Leads, Link, link, link_at, row_lists}
use Rattle.std.proofs.lemmas.Bool.{cases_lt, cases_eq}
use Rattle.std.proofs.lemmas.List.{get_or_default, get_or_push, length_push, get_or-map, get_or-set_same, get_or-set_other, get_or_past}
use Rattle.rpm_graph.proofs.Walks.{leads_edge, leads_on}

module _ (rows : List (List ℕ)) (ranks path roots : List ℕ) (pending : List Link) (closed : ℕ) (s : IsSearch rows ranks path roots pending closed)
    (root : ℕ) (is_last : IsLastRoot roots root) where
  -- no root is above the last
  pub below_last : (r : ℕ) → Contains roots r → r ≤ root
  below_last r (i, lt, is) =
      let at : get_or roots i 0 ≡ r = get_or_default roots i 0 r lt ∙ is in
      elim (cases_lt i (length roots - 1)) [
        | inl less ↦ omega (arith, s.roots_rise i (length roots - 1) less (omega arith), at, is_last.last)
        | inr end ↦ let here : i ≡ length roots - 1 = omega arith in omega (arith, ap (λ j. get_or roots j 0) here, at, is_last.last)
      ]

  -- where the last edge that waits doesn't begin on the last level, none does
  pub none_waits : (length pending ≡ 0) ⊎ ((0 < length pending) × (get_or ranks (link_at pending (length pending - 1)).from 0 ≤ root))
      → (i : ℕ) → i < length pending → get_or ranks (link_at pending i).from 0 ≤ root
  none_waits none i lt = elim none [
    | inl empty ↦ absurd (omega (arith, empty))
    | inr last ↦ omega (arith, s.pending_rises i (length pending - 1) (omega arith) (omega arith), last.1)
  ]

  module _ (kept : List Link) (from to : ℕ) (split : pending ≡ kept ++ link from to ∷ []) (over : root < get_or ranks from 0) where
    last_at : link_at pending (length kept) ≡ link from to
    last_at = ap (λ l. link_at l (length kept)) split ∙ get_or_push kept (link from to) (link 0 0) (length kept) refl

    last_in : length kept < length pending
    last_in = omega (arith, ap length split, length_push kept (link from to))

    pub from_open : IsOnPath (length rows) ranks from
    from_open = rw (ap (λ (l : Link). l.from) (sym last_at)) (s.pending_open (length kept) last_in).0

    pub goes : IsEdge rows from to
    goes = rw (ap (λ (l : Link). l.from) (sym last_at), ap (λ (l : Link). l.to) (sym last_at)) (s.pending_open (length kept) last_in).1

    pub roots_below : (r : ℕ) → Contains roots r → r < get_or ranks from 0
    roots_below r has = omega (arith, below_last r has, over)

    -- so the whole path leads to where the edge ends
    pub path_leads : (x : ℕ) → IsOnPath (length rows) ranks x → Leads (IsEdge rows) x to
    path_leads x o =
        leads_on (IsEdge rows) x from to (s.walks x from o from_open (λ r has below. roots_below r has)) (leads_edge (IsEdge rows) from to to goes ([], refl))

pub last_root : (roots : List ℕ) (root : ℕ) → IsLastRoot roots root → Contains roots root
last_root roots root is_last =
    let lt : (length roots - 1) < length roots = omega (arith, is_last.some) in
    (length roots - 1, lt, get_or_default roots (length roots - 1) root 0 lt ∙ is_last.last)

-- a row that was read
pub row_read : {A : Type 0} (rows : List (Vec ℕ A)) (v : ℕ) (row : Vec ℕ A) → v < length rows → row ≡ get_or rows v row
    → row.items ≡ get_or (row_lists rows) v []
row_read rows v row lt is = ap (λ (r : Vec ℕ _). r.items) is ∙ sym (get_or-map (λ r. r.items) rows v row [] lt)

pub set_keeps : (ranks : List ℕ) (v x : ℕ) → 1 ≤ x → KeepsSeen ranks (set ranks v x)
set_keeps ranks v x some u seen = elim (cases_eq u v) [
  | inl is ↦ elim (cases_lt v (length ranks)) [
    | inl lt ↦ omega (arith, some, ap (λ y. get_or (set ranks v x) y 0) is, get_or-set_same ranks v x 0 lt)
    | inr past ↦ omega (arith, seen, ap (λ y. get_or ranks y 0) is, get_or_past ranks v 0 past)
  ]
  | inr differs ↦ omega (arith, seen, get_or-set_other ranks v u x 0 differs)
]
