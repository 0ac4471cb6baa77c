use Rattle.std.proofs.Common.{◌≡◌, ℕ, ◌+◌, ◌*◌, ◌%◌, ◌≤◌, List, [], ◌∷◌, ◌++◌, map, true, Vec, Global, refl, sym, ap, ◌∙◌, arith, subst, inl}
use Rattle.std.proofs.lemmas.Result.{err_from_is_err_and}
use Rattle.std.proofs.lemmas.List.{map-append}
use Rattle.std.proofs.lemmas.List.Sums.{sum_by_push}
use Rattle.rpm_hindex.proofs.Vocabulary.{AddsHit, AsOften, Files, follow, has_key, hash_of, Hit, Idx, index_in, is_sound, IsFaultOf, IsMet, looks_at_none}
use Rattle.rpm_hindex.proofs.Vocabulary.{looks_at_then, Row, row_at, unit_at, units_at, word}
use Rattle.rpm_hindex.proofs.Counts.{often_none, often_more}
use Rattle.rpm_hindex.proofs.Steps.{moved, number_at, place_at}
use Rattle.rpm_hindex.proofs.Collects.{one_more, at_fault, at_end, cost_more, cost_all}
use Rattle.rpm_hindex.proofs.chain.collect.Goals as goal

pub loop-at-init : goal.loop-at-init
loop-at-init g c = record {
  within = c.requires.within;
  looks = looks_at_none _ Idx g.met.D.Disk.follows_refl c.args.disk.now;
  faults = omega arith;
  so_far = λ told. ([], rw c.new-hits.ensures.items (often_none c.args.kind c.args.key.now), refl, omega arith);
}

pub returns-in_err-met-clause-told : goal.returns-in_err-met-clause-told
returns-in_err-met-clause-told g c = λ told.
    let l = c.loop-at in
    let B = c.args.extent.buckets in
    let b = hash_of c.args.kind c.args.key.now % B in
    let same = (l.invariant.looks.untouched told).same in
    let here = subst (λ (f : Files). IsFaultOf (follow (index_in B f.idx) c.bucket_of-bucket.result l.at l.at) c.in_err-met.field-0.0) same
    (c.in_err-met.ensures.fault told) in
    let fault = subst (λ (k : ℕ). IsFaultOf (follow (index_in B (g.D.Disk.files c.args.disk.now).idx) k l.at l.at) c.in_err-met.field-0.0)
    c.bucket_of-bucket.ensures.bucket here in
    let s = l.invariant.so_far told in
    let left = err_from_is_err_and c.from_residual.result c.from_residual.ensures.1 in
    rw (left.1, left.2) (at_fault (index_in B (g.D.Disk.files c.args.disk.now).idx) b c.args.from s.0 l.at s.2 c.in_err-met.field-0.0 fault)

-- what reading a record cost, in the words of the first disk
cost_here : (B b k at : ℕ) (file later : Files) (old new : ℕ) → later ≡ file → k ≡ b → (is_sound (index_in B later.idx) k at ≡ true → new ≤ old + 16 *
    units_at (unit_at later.idx) at) → is_sound (index_in B file.idx) b at ≡ true → new ≤ old + 16 * units_at (unit_at file.idx) at
cost_here B b k at file later old new same is cost sound =
    let c1 = subst (λ (f : Files). is_sound (index_in B f.idx) k at ≡ true → new ≤ old + 16 * units_at (unit_at f.idx) at) same cost in
    subst (λ (j : ℕ). is_sound (index_in B file.idx) j at ≡ true → new ≤ old + 16 * units_at (unit_at file.idx) at) is c1 sound

pub returns-in_err-met-clause-cost : goal.returns-in_err-met-clause-cost
returns-in_err-met-clause-cost g c = λ told places e.
    let l = c.loop-at in
    let B = c.args.extent.buckets in
    let b = hash_of c.args.kind c.args.key.now % B in
    let file : Files = g.D.Disk.files c.args.disk.now in
    let s = l.invariant.so_far told in
    let more = cost_more (index_in B file.idx) b c.args.from s.0 l.at s.2 (units_at (unit_at file.idx)) places (omega (arith, c.loop-at-test.true)) e in
    let here = cost_here B b c.bucket_of-bucket.result l.at file (g.D.Disk.files l.disk) _ _ ((l.invariant.looks.untouched told).same)
    c.bucket_of-bucket.ensures.bucket (c.in_err-met.ensures.cost told) more.0 in
    omega (arith, here, more.1, s.3)

pub returns-in_err-push_hit-clause-cost : goal.returns-in_err-push_hit-clause-cost
returns-in_err-push_hit-clause-cost g c = λ told places e.
    let l = c.loop-at in
    let B = c.args.extent.buckets in
    let b = hash_of c.args.kind c.args.key.now % B in
    let file : Files = g.D.Disk.files c.args.disk.now in
    let s = l.invariant.so_far told in
    let more = cost_more (index_in B file.idx) b c.args.from s.0 l.at s.2 (units_at (unit_at file.idx)) places (omega (arith, c.loop-at-test.true)) e in
    let here = cost_here B b c.bucket_of-bucket.result l.at file (g.D.Disk.files l.disk) _ _ ((l.invariant.looks.untouched told).same)
    c.bucket_of-bucket.ensures.bucket (c.in_ok-met.ensures.cost told) more.0 in
    omega (arith, here, more.1, s.3)

often_here : (unit : ℕ → List ℕ) (kind : ℕ) (key : List ℕ) (done : List ℕ) (at : ℕ) (row : Row) (old new : List Hit) → AsOften kind key
    (map (row_at unit) done) old → row_at unit at ≡ row → AddsHit kind key row old new → AsOften kind key (map (row_at unit) (done ++ at ∷ [])) new
often_here unit kind key done at row old new often is adds =
    let all : map (row_at unit) (done ++ at ∷ []) ≡ map (row_at unit) done ++ row ∷ [] = map-append (row_at unit) done (at ∷ [])
    ∙ ap (λ (r : Row). map (row_at unit) done ++ r ∷ []) is in
    subst (λ (rows : List Row). AsOften kind key rows new) (sym all) (often_more kind key (map (row_at unit) done) row old new often adds)

pub loop-at-preserved : goal.loop-at-preserved
loop-at-preserved g c =
    let l = c.loop-at in
    let B = c.args.extent.buckets in
    let b = hash_of c.args.kind c.args.key.now % B in
    let file : Files = g.D.Disk.files c.args.disk.now in
    record {
      within = λ some. (c.in_ok-met.ensures.next.linked some).1;
      looks = looks_at_then _ Idx g.met.D.Disk.follows_trans c.args.disk.now l.disk c.meet.new.disk l.invariant.looks
          c.meet.ensures.reads.looks;
      faults = omega (arith, l.invariant.faults, c.meet.ensures.reads.cause.later);
      so_far = λ told.
          let same = (l.invariant.looks.untouched told).same in
          let s = l.invariant.so_far told in
          let unit = unit_at file.idx in
          let sound = moved (λ (f : Files) (k : ℕ). is_sound (index_in B f.idx) k l.at ≡ true) (g.D.Disk.files l.disk) file c.bucket_of-bucket.result b same
          c.bucket_of-bucket.ensures.bucket (c.in_ok-met.ensures.sound told (inl refl)) in
          let r = subst (λ (f : Files). IsMet (index_in B f.idx) l.at (has_key c.args.kind c.args.key.now) c.in_ok-met.met) same
          (c.in_ok-met.ensures.met told) in
          let at = c.in_ok-met.ensures.here in
          let here = cost_here B b c.bucket_of-bucket.result l.at file (g.D.Disk.files l.disk) _ _ same c.bucket_of-bucket.ensures.bucket
          (c.in_ok-met.ensures.cost told) sound in (
            s.0 ++ l.at ∷ [],
            often_here (unit_at file.idx) c.args.kind c.args.key.now s.0 l.at _ l.hits.items c.push_hit.new.hits.items s.1 refl
                (c.in_ok-push_hit.ensures.hits c.args.kind c.args.key.now (row_at unit l.at) r.same
                (number_at unit l.at ∙ ap (λ (q : ℕ). word 2 (unit q)) (sym at) ∙ r.head.number)
                (place_at unit l.at ∙ ap (λ (q : ℕ). word 3 (unit q)) (sym at) ∙ r.head.«in»)),
            one_more (index_in B file.idx) b c.args.from s.0 l.at s.2 c.in_ok-met.met.next (omega (arith, c.loop-at-test.true)) sound r.next,
            omega (arith, here, s.3, sum_by_push (units_at (unit_at file.idx)) s.0 l.at),
          );
    }

pub returns-clause-told : goal.returns-clause-told
returns-clause-told g c = λ told.
    let l = c.loop-at in
    let B = c.args.extent.buckets in
    let b = hash_of c.args.kind c.args.key.now % B in
    let file : Files = g.D.Disk.files c.args.disk.now in
    let s = l.invariant.so_far told in
    at_end (index_in B file.idx) b c.args.from s.0 l.at s.2 (λ (places : List ℕ) (hits : Vec Hit Global). AsOften c.args.kind c.args.key.now
    (map (row_at (unit_at file.idx)) places) hits.items) l.hits c.loop-at-test.false s.1

pub returns-clause-cost : goal.returns-clause-cost
returns-clause-cost g c = λ told places e.
    let l = c.loop-at in
    let B = c.args.extent.buckets in
    let b = hash_of c.args.kind c.args.key.now % B in
    let file : Files = g.D.Disk.files c.args.disk.now in
    let s = l.invariant.so_far told in
    omega (arith, s.3, cost_all (index_in B file.idx) b c.args.from s.0 l.at s.2 (units_at (unit_at file.idx)) places e)
