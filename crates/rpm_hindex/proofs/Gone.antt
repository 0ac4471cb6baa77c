-- The rows that a change has dropped, and what unit 1 counts of them.
use Rattle.std.proofs.Common.{◌≡◌, ℕ, ◌+◌, ◌<◌, ◌≤◌, List, [], ◌∷◌, ◌++◌, length, drop, Bool, true, false, not, cond, refl, sym, ap, ◌∙◌, arith, subst, inl, inr, length-append}
use Rattle.std.specs.Prelude.{is_ok, IsOk, ◌⊎◌}
use Rattle.rpm_hindex.proofs.Vocabulary.{all_places, BadIndex, chain, Change, Contains, contains, CountsLess, DiskFault, DropOfOne, DropsMore, HasGone, if_kept}
use Rattle.rpm_hindex.proofs.Vocabulary.{Index, index_in, IndexFull, is_kept, IsBadFor, IsChainFault, IsDropFault, IsFreshChange, IsShort, kept_in, live-append}
use Rattle.rpm_hindex.proofs.Vocabulary.{live_of, nat_cmp, NoMemory, places_of, PrepareFault, record_units, Row, row_at, same_row, sum_by, times}
use Rattle.rpm_hindex.proofs.Vocabulary.{times-append, times_none, times_one, Units}
use Rattle.std.proofs.lemmas.Bool.{false≢true}
use Rattle.std.proofs.lemmas.List.Sums.{sum_by-take-drop}
use Rattle.rpm_hindex.proofs.Tallies.{tally}
use Rattle.rpm_hindex.proofs.Drafting.{live_push}
use Rattle.rpm_hindex.proofs.Takes.{live_none}
use Rattle.rpm_hindex.proofs.Keeping.{times_kept, kept_less_one, kept_all}
use Rattle.rpm_hindex.proofs.Honest.{kept_least}
use Rattle.rpm_hindex.proofs.Wholes.{HasChains, all_in}

live_one : (row : Row) → live_of (row ∷ []) ≡ record_units (length row.key)
live_one row =
    let is : live_of (row ∷ []) ≡ live_of [] + record_units (length row.key) = live_push [] row in
    omega (arith, is, live_none)

-- ---- one row

module _ (x : Index) (has : HasChains x (places_of x)) (row : Row) (c : Change) (b p : ℕ) (below : b < x.buckets)
    (in' : Contains (places_of x b) p) (is : row ≡ row_at x.unit p) (stays : is_kept (λ q. contains nat_cmp c.dropped q) p ≡ true) where
  abbrev kept : ℕ → Bool
  kept = is_kept (λ q. contains nat_cmp c.dropped q)

  one : (r : Row) → tally x.unit r p ≡ times r (row ∷ [])
  one r = ap (λ (q : Row). cond (same_row r q) 1 0) (sym is) ∙ sym (times_one r row)

  held_one : (r : Row) → times r (row ∷ []) ≤ times r (kept_in x c)
  held_one r =
      let all : times r (kept_in x c) ≡ sum_by (if_kept kept (tally x.unit r)) (all_places x) = times_kept x kept r in
      let least : tally x.unit r p ≤ sum_by (if_kept kept (tally x.unit r)) (all_places x) =
      kept_least kept (tally x.unit r) p (all_places x) (all_in x (places_of x) has p b below in') stays in
      omega (arith, all, least, one r)

  -- a change that counts none, or too few units
  pub counts_one : (n : ℕ) → n ≡ record_units (length row.key) → (c.records ≡ 0) ⊎ (c.live < n) → CountsLess (row ∷ []) c x
  counts_one n long why = record {
    gone = row ∷ [];
    dropped = λ r. omega arith;
    held = held_one;
    more = elim why [ inl zeros ↦ inl (omega (arith, zeros)) | inr less ↦ inr (omega (arith, less, long, live_one row)) ];
  }

  pub gone_one : (d : Change) → DropOfOne (λ q. contains nat_cmp c.dropped q) (λ q. contains nat_cmp d.dropped q) p → d.records + 1 ≡ c.records
      → d.live + record_units (length row.key) ≡ c.live → HasGone (row ∷ []) c d x
  gone_one d put count units =
      let later : ℕ → Bool = is_kept (λ q. contains nat_cmp d.dropped q) in
      let lost : later p ≡ false = ap not put.here in
      let others : (q : ℕ) → (q ≡ p → ⊥) → later q ≡ kept q = λ q other. ap not (put.others q other) in
      record {
        gone = row ∷ [];
        dropped = λ r. omega arith;
        held = λ r. omega (arith, kept_less_one x has b p below in' kept later stays lost others r, one r);
        records = omega (arith, count);
        live = omega (arith, units, live_one row);
      }

-- ---- several

pub gone_none : (drops : List Row) (c : Change) (x : Index) → HasGone drops c c x
gone_none drops c x = record {
  gone = [];
  dropped = λ r. omega (arith, times_none r);
  held = λ r. omega (arith, times_none r);
  records = omega arith;
  live = omega (arith, live_none);
}

-- one row more
pub gone_before : (row : Row) (drops : List Row) (first mid last : Change) (x : Index) → HasGone drops first mid x → HasGone (row ∷ []) mid last x
    → HasGone (row ∷ drops) first last x
gone_before row drops first mid last x a b = record {
  gone = b.gone ++ a.gone;
  dropped = λ r. omega (arith, times-append r b.gone a.gone, times-append r (row ∷ []) drops, a.dropped r, b.dropped r);
  held = λ r. omega (arith, times-append r b.gone a.gone, a.held r, b.held r);
  records = omega (arith, length-append b.gone a.gone, a.records, b.records);
  live = omega (arith, live-append b.gone a.gone, a.live, b.live);
}

counts_before : (row : Row) (drops rows : List Row) (first mid : Change) (x : Index) → ((r : Row) → times r (row ∷ drops) ≤ times r rows)
    → HasGone drops first mid x → CountsLess (row ∷ []) mid x → CountsLess rows first x
counts_before row drops rows first mid x among a b = record {
  gone = b.gone ++ a.gone;
  dropped = λ r. omega (arith, times-append r b.gone a.gone, times-append r (row ∷ []) drops, a.dropped r, b.dropped r, among r);
  held = λ r. omega (arith, times-append r b.gone a.gone, a.held r, b.held r);
  more = elim b.more [
    | inl few ↦ inl (omega (arith, few, length-append b.gone a.gone, a.records))
    | inr few ↦ inr (omega (arith, few, live-append b.gone a.gone, a.live))
  ];
}

pub short_before : (row : Row) (drops rows : List Row) (first mid : Change) (x : Index) → ((r : Row) → times r (row ∷ drops) ≤ times r rows)
    → HasGone drops first mid x → (e : PrepareFault) → IsShort (row ∷ []) mid x e → IsShort rows first x e
short_before row drops rows first mid x among a (BadIndex unit) is = counts_before row drops rows first mid x among a is
short_before row drops rows first mid x among a (IndexFull needed) is = tt
short_before row drops rows first mid x among a DiskFault is = tt
short_before row drops rows first mid x among a NoMemory is = tt

pub times_drop : (r : Row) (rows : List Row) (i : ℕ) → times r (drop i rows) ≤ times r rows
unfolding times
times_drop r rows i = omega (arith, sum_by-take-drop (λ (x : Row). cond (same_row r x) 1 0) rows i)

-- ---- faults

-- no chain has one
pub short_chain : (drops : List Row) (c : Change) (x : Index) (b : ℕ) (e : PrepareFault) → IsOk (chain x b) → IsChainFault (chain x b) e
    → IsShort drops c x e
short_chain drops c x b (BadIndex unit) ok is = absurd (false≢true (ap is_ok (sym is) ∙ ok))
short_chain drops c x b (IndexFull needed) ok is = tt
short_chain drops c x b DiskFault ok is = tt
short_chain drops c x b NoMemory ok is = tt

drops_counted : (drops : List Row) (c : Change) (file : Units) → IsFreshChange c file → CountsLess drops c (index_in c.extent.buckets file)
    → DropsMore drops c.extent.buckets file
drops_counted drops c file fresh less = record {
  gone = less.gone;
  dropped = less.dropped;
  held = λ r. omega (arith, less.held r, kept_all (index_in c.extent.buckets file) (is_kept (λ p. contains nat_cmp c.dropped p)) r fresh.kept);
  more = elim less.more [ inl few ↦ inl (omega (arith, few, fresh.records)) | inr few ↦ inr (omega (arith, few, fresh.live)) ];
}

-- unit 1 counts too little
pub bad_for : (drops : List Row) (c : Change) (file : Units) (e : PrepareFault) → e ≡ BadIndex 1 → IsFreshChange c file
    → IsShort drops c (index_in c.extent.buckets file) e → IsBadFor drops c.extent.buckets file e
bad_for drops c file e is fresh short = subst (IsBadFor drops c.extent.buckets file) (sym is)
    (inr (refl, drops_counted drops c file fresh (subst (IsShort drops c (index_in c.extent.buckets file)) is short)))

-- a fault for want of memory names no unit
pub drop_memory : (file : Units) (drops : List Row) (c : Change) (e : PrepareFault) → e ≡ NoMemory → IsDropFault file drops c e
drop_memory file drops c e is = subst (IsDropFault file drops c) (sym is) (record { short = λ none. tt; bad = λ honest. tt })
