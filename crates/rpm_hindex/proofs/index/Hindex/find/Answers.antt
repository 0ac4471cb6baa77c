use Rattle.std.proofs.Common.{ℕ, ◌%◌, ◌<◌, List, map, Result, Ok, Err, Vec, Global, sym, ap, ◌∙◌, arith, subst}
use Rattle.std.specs.Prelude.{IsOk}
use Rattle.rpm_hindex.proofs.Vocabulary.{AsOften, buckets_of, chain, Extent, Files, hash_of, Hit, HitsAre, Index, index_in, HasBuckets, places_in, row_at}
use Rattle.rpm_hindex.proofs.Vocabulary.{unit_at}
use Rattle.rpm_hindex.proofs.Wholes.{ok_places}
use Rattle.rpm_hindex.proofs.Orders.{few, open_from, order_parts, ordered_parts, Few}
use Rattle.rpm_hindex.proofs.Founds.{often_in_all}
use Rattle.rpm_hindex.proofs.index.Hindex.find.Goals as goal

pub gather-requires-clause-some : goal.gather-requires-clause-some
gather-requires-clause-some g c =
    let s = c.args.self.now in
    let f : Few (buckets_of s.first) = few (buckets_of s.first) (ordered_parts (buckets_of s.first) s.second s.units
    (order_parts s c.requires.order).1).count in
    omega (arith, f.some, ap (λ (e : Extent). e.buckets) c.extent.ensures)

pub gather-requires-clause-open : goal.gather-requires-clause-open
gather-requires-clause-open g c =
    let s = c.args.self.now in
    let f : Few (buckets_of s.first) = few (buckets_of s.first) (ordered_parts (buckets_of s.first) s.second s.units
    (order_parts s c.requires.order).1).count in
    let file : Files = g.D.Disk.files c.args.disk.now in
    record {
      few = omega (arith, f.most, ap (λ (e : Extent). e.buckets) c.extent.ensures);
      is_open = λ told. subst (λ (e : Extent). HasBuckets e file.idx) (sym c.extent.ensures) (open_from s file.idx c.requires.order (c.requires.keeps told));
    }

-- the hits of the chain, in the words of the value
chained : {H : Type 0} (P : List ℕ → H → Type 0) (said : Result (List ℕ) ℕ) (hits : H) → IsOk said → HitsAre P said hits → P (places_in said) hits
chained P (Ok places) hits isok h = h
chained P (Err unit) hits isok h = absurd h

pub returns-clause-rows : goal.returns-clause-rows
returns-clause-rows g c = λ told whole.
    let s = c.args.self.now in
    let B = buckets_of s.first in
    let file : Files = g.D.Disk.files c.args.disk.now in
    let x : Index = index_in B file.idx in
    let b = hash_of c.args.kind c.args.key.now % B in
    let f : Few B = few B (ordered_parts B s.second s.units (order_parts s c.requires.order).1).count in
    let below : b < B = omega (arith, f.some) in
    let P : List ℕ → Vec Hit Global → Type 0 = λ places hits. AsOften c.args.kind c.args.key.now (map (row_at (unit_at file.idx)) places) hits.items in
    let here = subst (λ (e : Extent). HitsAre P (chain (index_in e.buckets file.idx) (hash_of c.args.kind c.args.key.now % e.buckets)) c.in_ok-hits.hits)
    c.extent.ensures (c.in_ok-hits.ensures.told told) in
    let often = chained P (chain x b) c.in_ok-hits.hits (whole.chains b below) here in
    let all = often_in_all _ _ c.args.kind c.args.key.now x (places_in (chain x b)) c.in_ok-hits.hits.items whole below
    (ok_places (chain x b) (whole.chains b below)) often in
    record { rising = c.sorted.ensures.rising; each = λ h. c.sorted.ensures.same h ∙ all h }
