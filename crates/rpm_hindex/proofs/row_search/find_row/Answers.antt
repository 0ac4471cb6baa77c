use Rattle.std.proofs.Common.{◌≡◌, ℕ, List, Bool, true, Ok, refl, sym, ap, ◌∙◌, subst, rules}
use Rattle.std.specs.Prelude.{Some}
use Rattle.rpm_hindex.proofs.Vocabulary.{chain, contains, Files, FindFault, get, Idx, Index, index_in, is_kept, is_link, IsFoundFrom, IsOutsideIndex, IsPath}
use Rattle.rpm_hindex.proofs.Vocabulary.{IsSoundSpot, IsStart, looks_at_from, looks_at_then, nat_cmp, Row, Start}
use Rattle.rpm_hindex.specs.declared.faults.FindFault.TheVariants.{BadIndex}
use Rattle.rpm_hindex.proofs.Paths.{follow_path, path_follow, chain_cost}
use Rattle.rpm_hindex.proofs.Ways.{chain_is}
use Rattle.rpm_hindex.proofs.row_search.find_row.Goals as goal

-- what a way through a chain says, in the words of the first disk
of_chain : (B b at : ℕ) (file later : Files) (P : Index → List ℕ → Type 0) → later ≡ file → at ≡ (index_in B file.idx).head b
    → is_link (index_in B file.idx) at ≡ true → ((places : List ℕ) → IsPath (index_in B later.idx) b at places 0 → P (index_in B later.idx) places)
    → (places : List ℕ) → chain (index_in B file.idx) b ≡ Ok places → P (index_in B file.idx) places
of_chain B b at file later P same word link said places e =
    subst (λ (f : Files). (ps : List ℕ) → IsPath (index_in B f.idx) b at ps 0 → P (index_in B f.idx) ps) same said places
    (follow_path (index_in B file.idx) b at places (sym (chain_is (index_in B file.idx) b at word link) ∙ e))

pub returns-in-Ok-clause-found : goal.returns-in-Ok-clause-found
returns-in-Ok-clause-found g c = record {
  words = c.in_ok-head.ensures.words;
  within = c.in-Ok.ensures.found.within;
  linked = c.in-Ok.ensures.found.linked;
  sound = λ told.
      subst (λ (f : Files). IsSoundSpot (index_in c.args.extent.buckets f.idx) c.args.bucket c.in-Ok.spot)
      ((c.in_ok-head.ensures.reads.looks.untouched told).same) (c.in-Ok.ensures.found.sound told);
  found = λ told.
      let B = c.args.extent.buckets in
      let b = c.args.bucket in
      let file : Files = g.D.Disk.files c.args.disk.now in
      let at = c.in_ok-head.head.at in
      let word = c.in_ok-head.ensures.word told in
      let kept : ℕ → Bool = is_kept (λ p. contains nat_cmp c.args.dropped.now p) in
      let row : Row = record { kind = c.args.row.kind; key = c.args.row.key.now; number = c.args.row.number; place = c.args.row.place } in
      let x : Index = index_in B file.idx in
      record {
        link = ap (is_link x) (sym word.0) ∙ word.1;
        found = λ places e. subst (λ (n : ℕ). IsFoundFrom x b n 0 kept row c.in-Ok.spot) word.0
            (of_chain B b at file (g.D.Disk.files c.read_bucket.new.disk) (λ (y : Index) (ps : List ℕ). IsFoundFrom y b at 0 kept row c.in-Ok.spot)
            ((c.in_ok-head.ensures.reads.looks.untouched told).same) word.0 word.1 (c.in-Ok.ensures.found.found told) places e);
      };
}

pub returns-in-Ok-clause-cost : goal.returns-in-Ok-clause-cost
returns-in-Ok-clause-cost g c = λ told.
    let B = c.args.extent.buckets in
    let file : Files = g.D.Disk.files c.args.disk.now in
    let at = c.in_ok-head.head.at in
    let word = c.in_ok-head.ensures.word told in
    chain_cost B c.args.bucket at file (g.D.Disk.files c.read_bucket.new.disk) _ _ _ ((c.in_ok-head.ensures.reads.looks.untouched told).same)
    (chain_is (index_in B file.idx) c.args.bucket at word.0 word.1) c.in_ok-head.ensures.reads.looks.reads.idx (c.find_from.ensures.cost told)

pub returns-in-Err-clause-cost : goal.returns-in-Err-clause-cost
returns-in-Err-clause-cost g c = λ told.
    let B = c.args.extent.buckets in
    let file : Files = g.D.Disk.files c.args.disk.now in
    let at = c.in_ok-head.head.at in
    let word = c.in_ok-head.ensures.word told in
    chain_cost B c.args.bucket at file (g.D.Disk.files c.read_bucket.new.disk) _ _ _ ((c.in_ok-head.ensures.reads.looks.untouched told).same)
    (chain_is (index_in B file.idx) c.args.bucket at word.0 word.1) c.in_ok-head.ensures.reads.looks.reads.idx (c.find_from.ensures.cost told)

-- a fault that is met on the way says that the chain isn't well formed
bad_chain : (B b at : ℕ) (file mid later : Files) (fault : FindFault) (unit : ℕ) → fault ≡ BadIndex unit → mid ≡ file → later ≡ mid
    → at ≡ (index_in B file.idx).head b
    → is_link (index_in B file.idx) at ≡ true
    → ((places : List ℕ) → IsPath (index_in B mid.idx) b at places 0 → IsOutsideIndex fault)
    → (places : List ℕ) → chain (index_in B later.idx) b ≡ Ok places → ⊥
bad_chain B b at file mid later fault unit is same after word link said places e =
    let first = subst (λ (f : Files). chain (index_in B f.idx) b ≡ Ok places) (after ∙ same) e in
    of_chain B b at file mid (λ (y : Index) (ps : List ℕ). ⊥) same word link (λ ps ok. subst IsOutsideIndex is (said ps ok)) places first

pub first_fault-requires-clause-bad : goal.first_fault-requires-clause-bad
first_fault-requires-clause-bad g c = λ told.
    let word = c.in_ok-head.ensures.word told in
    bad_chain c.args.extent.buckets c.args.bucket c.in_ok-head.head.at (g.D.Disk.files c.args.disk.now) (g.D.Disk.files c.read_bucket.new.disk)
    (g.D.Disk.files c.find_from.new.disk) c.in-Err-BadIndex.field-0 c.in-Err-BadIndex.unit c.in-Err-BadIndex.field-0-is
    ((c.in_ok-head.ensures.reads.looks.untouched told).same)
    ((c.in-Err-BadIndex.ensures.reads.looks.untouched told).same) word.0 word.1 (c.in-Err-BadIndex.ensures.fault told)

pub returns-in-Err-BadIndex-clause-cost : goal.returns-in-Err-BadIndex-clause-cost
returns-in-Err-BadIndex-clause-cost g c = λ told places e.
    let word = c.in_ok-head.ensures.word told in
    let file : Files = g.D.Disk.files c.args.disk.now in
    absurd (bad_chain c.args.extent.buckets c.args.bucket c.in_ok-head.head.at file (g.D.Disk.files c.read_bucket.new.disk)
    (g.D.Disk.files c.read_bucket.new.disk)
    c.in-Err-BadIndex.field-0 c.in-Err-BadIndex.unit c.in-Err-BadIndex.field-0-is
    ((c.in_ok-head.ensures.reads.looks.untouched told).same) refl word.0 word.1 (c.in-Err-BadIndex.ensures.fault told) places
    (ap (λ (f : Files). chain (index_in c.args.extent.buckets f.idx) c.args.bucket) ((c.in_ok-head.ensures.reads.looks.untouched told).same) ∙ e))

pub returns-in-Err-BadIndex-clause-reads : goal.returns-in-Err-BadIndex-clause-reads
returns-in-Err-BadIndex-clause-reads g c = record {
  looks =
      let first = looks_at_from _ Idx 16 c.args.disk.now c.read_bucket.new.disk c.in_ok-head.ensures.reads.looks in
      let more = looks_at_then _ Idx g.met.D.Disk.follows_trans c.args.disk.now c.read_bucket.new.disk c.find_from.new.disk first
      c.in-Err-BadIndex.ensures.reads.looks in
      looks_at_then _ Idx g.met.D.Disk.follows_trans c.args.disk.now c.find_from.new.disk c.first_fault.new.disk more
      c.first_fault.ensures.reads.looks;
  cause = search rules;
}

pub find_from-requires-clause-stand : goal.find_from-requires-clause-stand
find_from-requires-clause-stand g c = c.requires.starts.stand

pub find_from-requires-clause-starts : goal.find_from-requires-clause-starts
find_from-requires-clause-starts g c = λ told.
    let B = c.args.extent.buckets in
    let b = c.args.bucket in
    let file : Files = g.D.Disk.files c.args.disk.now in
    let x : Index = index_in B file.idx in
    let at = c.in_ok-head.head.at in
    let word = c.in_ok-head.ensures.word told in
    let kept : ℕ → Bool = is_kept (λ p. contains nat_cmp c.args.dropped.now p) in
    let here : (places : List ℕ) → IsPath x b at places 0 → (s : Start) → get nat_cmp c.args.starts.now b ≡ Some s → IsStart x b at kept s =
    λ places path s is. subst (λ (n : ℕ). IsStart x b n kept s) (sym word.0) (c.requires.starts.chained told b s is places
    (chain_is x b at word.0 word.1 ∙ path_follow x b at places path)) in
    subst (λ (f : Files). (places : List ℕ) → IsPath (index_in B f.idx) b at places 0 → (s : Start) → get nat_cmp c.args.starts.now b ≡ Some s
    → IsStart (index_in B f.idx) b at kept s) (sym ((c.in_ok-head.ensures.reads.looks.untouched told).same)) here
