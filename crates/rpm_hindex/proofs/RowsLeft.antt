-- What is left when a change has dropped its rows, and what that cost.
use Rattle.std.proofs.Common.{◌≡◌, ℕ, ◌+◌, ◌-◌, ◌%◌, ◌^◌, ◌≤◌, List, length, true, sym, ap, ◌∙◌, subst, inr, Vec, Global}
use Rattle.rpm_hindex.proofs.Vocabulary.{AddsPadded, BadIndex, chains_bytes, Change, index_after, Contains, contains, DiskFault, Extent, HasLess, Index}
use Rattle.rpm_hindex.proofs.Vocabulary.{index_in, IndexFull, is_kept, IsWithoutDropped, HasBuckets, IsOther, IsTooLargeFor, IsWellFormed, kept_of, nat_cmp, NoMemory}
use Rattle.rpm_hindex.proofs.Vocabulary.{places_of, PrepareFault, records, Row, rows_of, times, Units}
use Rattle.rpm_hindex.proofs.Cuts.{rows_cut}
use Rattle.rpm_hindex.proofs.Cutting.{but}
use Rattle.rpm_hindex.proofs.Dropping.{filter_in}
use Rattle.rpm_hindex.proofs.Wholes.{has_chains, in_all, all_in}
use Rattle.rpm_hindex.proofs.Padding.{past_same}
use Rattle.rpm_hindex.proofs.Keeping.{kept_all}

-- the rows of the records that a change hasn't dropped
abbrev pub rows_kept_by : ℕ → Units → Change → List Row
rows_kept_by buckets file change = kept_of (index_in buckets file) (is_kept (λ p. contains nat_cmp change.dropped p))

-- those that it hasn't dropped are the file's but for these
pub rows_less : (B : ℕ) (file : Units) (drops : List Row) (first mid : Change) → first.extent.buckets ≡ B
    → ((p : ℕ) → is_kept (λ q. contains nat_cmp first.dropped q) p ≡ true)
    → (IsWellFormed first.extent.buckets file → HasLess drops (rows_kept_by first.extent.buckets file first) (rows_kept_by first.extent.buckets file mid))
    → IsWellFormed B file → HasLess drops (records B file) (rows_kept_by B file mid)
rows_less B file drops first mid first_is all_kept less whole r =
    subst (λ (n : ℕ). IsWellFormed n file → HasLess drops (rows_kept_by n file first) (rows_kept_by n file mid)) first_is less whole r
    ∙ ap (λ (n : ℕ). n - times r drops) (kept_all (index_in B file) (is_kept (λ p. contains nat_cmp first.dropped p)) r all_kept)

-- the records that it hasn't dropped have the bytes after their keys that they had
cut_padded : (c : Change) (file : Units) → IsWellFormed c.extent.buckets file → IsWithoutDropped c file
    → AddsPadded (index_in c.extent.buckets file) (index_after c file)
cut_padded c file well cut p m =
    let x : Index = index_in c.extent.buckets file in
    let y : Index = index_after c file in
    let i = in_all y (places_of y) (has_chains y cut.whole.chains) p m in
    let left = subst (λ (qs : List ℕ). Contains qs p) (cut.chains i.0 i.1) i.2 in
    let stood = (filter_in (is_kept (λ q. contains nat_cmp c.dropped q)) (places_of x i.0) p left).0 in
    let old = all_in x (places_of x) (has_chains x well.chains) p i.0 i.1 stood in
    let s = cut.stays p old in
    inr (record { stood = old; row = (but x y p s).row; past = past_same x.unit y.unit p (ap (λ (n : ℕ). n % 2 ^ 28) s.size) s.key })

-- a change that has dropped its rows and added none yet
pub record HasDropped (B : ℕ) (file : Units) (drops : List Row) (mid : Change) : Type 0 where
  pub buckets : mid.extent.buckets ≡ B
  pub open' : HasBuckets mid.extent file
  pub cut : IsWithoutDropped mid file
  pub rows' : HasLess drops (records B file) (rows_of (index_after mid file))
  pub padded : AddsPadded (index_in B file) (index_after mid file)

pub has_dropped : (B : ℕ) (file : Units) (drops : List Row) (first mid : Change) → first.extent.buckets ≡ B → mid.extent ≡ first.extent
    → mid.tail ≡ first.tail → length first.tail.items ≡ 0 → HasBuckets first.extent file → IsWithoutDropped first file
    → (IsWellFormed first.extent.buckets file → length first.tail.items ≡ 0 → IsWithoutDropped first file → IsWithoutDropped mid file)
    → HasLess drops (records B file) (rows_kept_by B file mid) → IsWellFormed B file → HasDropped B file drops mid
has_dropped B file drops first mid first_is extent_is tail_is empty opens begin cuts less whole =
    let mid_is = ap (λ (e : Extent). e.buckets) extent_is ∙ first_is in
    let open_mid = subst (λ (e : Extent). HasBuckets e file) (sym extent_is) opens in
    let cut = cuts (subst (λ (n : ℕ). IsWellFormed n file) (sym first_is) whole) empty begin in
    let none = ap (λ (t : Vec ℕ Global). length t.items) tail_is ∙ empty in
    let well = subst (λ (n : ℕ). IsWellFormed n file) (sym mid_is) whole in
    record {
      buckets = mid_is;
      open' = open_mid;
      cut = cut;
      rows' = λ r. rows_cut mid file none open_mid well cut r
          ∙ ap (λ (n : ℕ). times r (rows_kept_by n file mid)) mid_is
          ∙ less r;
      padded = subst (λ (n : ℕ). AddsPadded (index_in n file) (index_after mid file)) mid_is (cut_padded mid file well cut);
    }

-- what dropping cost, in the words of the value
pub drops_cost : (drops : List Row) (file : Units) (n buckets old new : ℕ) → n ≡ buckets → IsWellFormed buckets file
    → (IsWellFormed n file → new ≤ old + chains_bytes (index_in n file) drops)
    → new ≤ old + chains_bytes (index_in buckets file) drops
drops_cost drops file n buckets old new is whole cost = subst (λ (m : ℕ). IsWellFormed m file → new ≤ old + chains_bytes (index_in m file) drops) is cost whole

-- a fault of another kind doesn't say that the index is full
pub other_large : (drops adds old : List Row) (e : PrepareFault) → IsOther e → IsTooLargeFor drops adds old e
other_large drops adds old (BadIndex unit) other = tt
other_large drops adds old (IndexFull needed) other = absurd other
other_large drops adds old DiskFault other = tt
other_large drops adds old NoMemory other = tt
