use Rattle.std.proofs.Common.{◌≡◌, ℕ, ◌-◌, ◌<◌, ◌∷◌, [], refl, ◌∙◌, arith, subst, inl, inr}
use Rattle.std.specs.Prelude.{Option, ◌⊎◌}
use Rattle.rpm_hindex.proofs.Vocabulary.{Change, contains, Files, get, Index, index_in, is_kept, IsRowFound, IsLinked, IsSoundSpot, IsWithin, nat_cmp, places_of}
use Rattle.rpm_hindex.proofs.Vocabulary.{Row, row_at, same_is, Spot, StandsWithin, Start}
use Rattle.rpm_hindex.proofs.Paths.{path_follow}
use Rattle.rpm_hindex.proofs.Starts.{puts_each, loses, starts_next}
use Rattle.rpm_hindex.proofs.Chains.{chain_from}
use Rattle.rpm_hindex.proofs.Costing.{chain_are}
use Rattle.rpm_hindex.proofs.Going.{go_on}
use Rattle.rpm_hindex.proofs.Dropping.{drops_none, drops_one, spot_in, spot_units}
use Rattle.rpm_hindex.proofs.Wholes.{has_chains}
use Rattle.rpm_hindex.proofs.Gone.{gone_none, gone_one, counts_one, short_chain, drop_memory}
use Rattle.rpm_hindex.proofs.Cuts.{drop_cuts}
use Rattle.rpm_hindex.proofs.Honest.{fault_so_far, drops_more, drops_honest}
use Rattle.rpm_hindex.proofs.Results.{handed_on, on_ok, ok_of, if_err}
use Rattle.rpm_hindex.proofs.change.Change.drop_row.Goals as goal
use Rattle.rpm_hindex.proofs.change.Change.drop_row.Goals.{then-self-eq0-via-then-self-eq0, then-self-eq0-via-else-self-eq0+then-self-units}

pub find_row-requires-clause-starts : goal.find_row-requires-clause-starts
find_row-requires-clause-starts g c = c.requires.starts

pub returns-clause-keeps : goal.returns-clause-keeps
returns-clause-keeps g c =
    let s = c.args.self.now in
    let go = c.requires.go in
    let d : Change = record {
      extent = s.extent;
      units = c.unlink.new.units;
      dropped = c.put_dropped.new.dropped;
      tail = s.tail;
      records = s.records - 1;
      live = s.live - c.record_units-units.result;
    } in
    ok_of c.put_dropped.result _ (record {
      go = go_on s d go refl c.in_ok-unlink.ensures.puts go.whole go.room (omega (arith, go.live)) (omega (arith, go.records));
      extent = refl;
      tail = refl;
    })

pub returns-in-None-clause-keeps : goal.returns-in-None-clause-keeps
returns-in-None-clause-keeps g c = record { go = c.requires.go; extent = refl; tail = refl }

pub returns-in-None-clause-starts : goal.returns-in-None-clause-starts
returns-in-None-clause-starts g c = c.requires.starts

pub returns-in-None-clause-dropped : goal.returns-in-None-clause-dropped
returns-in-None-clause-dropped g c = λ told.
    let s = c.args.self.now in
    let x : Index = index_in s.extent.buckets (g.D.Disk.files c.args.disk.now).idx in
    let b = c.bucket_of-bucket.result in
    let row : Row = record { kind = c.args.row.kind; key = c.args.row.key.now; number = c.args.row.number; place = c.args.row.place } in
    let f = subst (λ (o : Option Spot). IsRowFound x b (is_kept (λ p. contains nat_cmp s.dropped p)) row o) c.in-None.is (c.in-Ok.ensures.found.found told) in
    record {
      less = λ whole.
          let found = f.found (places_of x b) (chain_are x b (whole.chains b c.bucket_of-bucket.ensures.within)) in
          drops_none x _ _ whole row (λ p. contains nat_cmp s.dropped p) b c.bucket_of-bucket.ensures.within c.bucket_of-bucket.ensures.bucket found.places
          (chain_from x b f.link ∙ path_follow x b (x.head b) found.places found.path) found.none;
      cuts = λ whole none cut. cut;
      honest = λ honest. honest;
      gone = λ none. gone_none (row ∷ []) s x;
    }

pub returns-clause-dropped : goal.returns-clause-dropped
returns-clause-dropped g c = on_ok c.put_dropped.result _ _ (λ put told.
    let s = c.args.self.now in
    let file : Files = g.D.Disk.files c.args.disk.now in
    let x : Index = index_in s.extent.buckets file.idx in
    let b = c.bucket_of-bucket.result in
    let below = c.bucket_of-bucket.ensures.within in
    let row : Row = record { kind = c.args.row.kind; key = c.args.row.key.now; number = c.args.row.number; place = c.args.row.place } in
    let f = subst (λ (o : Option Spot). IsRowFound x b (is_kept (λ p. contains nat_cmp s.dropped p)) row o) c.in-Some.is (c.in-Ok.ensures.found.found told) in
    let linked = subst (IsLinked s.extent.buckets s.extent.used) c.in-Some.is c.in-Ok.ensures.found.linked in
    let sets = c.in_ok-unlink.ensures.sets file.idx (c.in-Ok.ensures.found.words told) in
    record {
      less = λ whole. drops_one x _ _ whole row (λ p. contains nat_cmp s.dropped p) b below c.bucket_of-bucket.ensures.bucket c.in-Some.spot _
          f.link (f.found (places_of x b) (chain_are x b (whole.chains b below))) put;
      cuts = λ whole none cut.
          let found = f.found (places_of x b) (chain_are x b (whole.chains b below)) in
          drop_cuts s file.idx c.requires.go none (c.requires.open told) whole cut c.unlink.new.units c.put_dropped.new.dropped c.record_units-units.result
          b below row c.in-Some.spot f.link found sets
          (spot_units x b (x.head b) _ row c.in-Some.spot found c.record_units-units.result c.record_units-units.ensures) put;
      honest = λ honest. drops_honest s file.idx c.requires.go (c.requires.open told) b below row c.in-Some.spot f.link
          (λ none. f.found (places_of x b) (chain_are x b (none b below))) linked honest
          c.unlink.new.units c.put_dropped.new.dropped c.record_units-units.result sets
          c.record_units-units.ensures put (omega (arith, c.if-self-eq0.false)) (omega (arith, c.if-self-units.false));
      gone = λ none.
          let said = chain_are x b (none b below) in
          let found = f.found (places_of x b) said in
          let d : Change = record {
            extent = s.extent;
            units = c.unlink.new.units;
            dropped = c.put_dropped.new.dropped;
            tail = s.tail;
            records = s.records - 1;
            live = s.live - c.record_units-units.result;
          } in
          gone_one x (has_chains x none) row s b c.in-Some.spot.at below
          (spot_in x b (is_kept (λ p. contains nat_cmp s.dropped p)) row c.in-Some.spot f.link said found)
          (same_is row (row_at x.unit c.in-Some.spot.at) found.same) found.stays d put (omega (arith, c.if-self-eq0.false))
          (omega (arith, c.record_units-units.ensures, c.if-self-units.false));
    }) c.put_dropped.ensures.put

pub returns-in-Err-clause-refused : goal.returns-in-Err-clause-refused
returns-in-Err-clause-refused g c = λ told.
    let s = c.args.self.now in
    let file : Files = g.D.Disk.files c.args.disk.now in
    let b = c.bucket_of-bucket.result in
    let below = c.bucket_of-bucket.ensures.within in
    let row : Row = record { kind = c.args.row.kind; key = c.args.row.key.now; number = c.args.row.number; place = c.args.row.place } in
    let fault = c.prepare_fault.ensures.fault _ (c.in-Err.ensures.fault told) in
    record {
      short = λ none. short_chain (row ∷ []) s (index_in s.extent.buckets file.idx) b c.prepare_fault.result (none b below) fault;
      bad = λ honest. fault_so_far s.extent.buckets file.idx c.prepare_fault.result b below fault;
    }

pub returns-then-self-eq0-clause-refused : goal.returns-then-self-eq0-clause-refused
returns-then-self-eq0-clause-refused g c = λ told.
    let s = c.args.self.now in
    let file : Files = g.D.Disk.files c.args.disk.now in
    let x : Index = index_in s.extent.buckets file.idx in
    let b = c.bucket_of-bucket.result in
    let below = c.bucket_of-bucket.ensures.within in
    let row : Row = record { kind = c.args.row.kind; key = c.args.row.key.now; number = c.args.row.number; place = c.args.row.place } in
    let f = subst (λ (o : Option Spot). IsRowFound x b (is_kept (λ p. contains nat_cmp s.dropped p)) row o) c.in-Some.is (c.in-Ok.ensures.found.found told) in
    let linked = subst (IsLinked s.extent.buckets s.extent.used) c.in-Some.is c.in-Ok.ensures.found.linked in
    let fewer : (s.records ≡ 0) ⊎ (s.live < c.record_units-units.result) =
    elim c.then-self-eq0.branch [
      | then-self-eq0-via-then-self-eq0 w ↦ inl (omega (arith, w.if-self-eq0))
      | then-self-eq0-via-else-self-eq0+then-self-units w ↦ inr (omega (arith, w.if-self-units))
    ] in
    record {
      short = λ none.
          let said = chain_are x b (none b below) in
          let found = f.found (places_of x b) said in
          counts_one x (has_chains x none) row s b c.in-Some.spot.at below
          (spot_in x b (is_kept (λ p. contains nat_cmp s.dropped p)) row c.in-Some.spot f.link said found)
          (same_is row (row_at x.unit c.in-Some.spot.at) found.same) found.stays c.record_units-units.result c.record_units-units.ensures fewer;
      bad = λ honest. inr (
        refl,
        drops_more s file.idx c.requires.go (c.requires.open told) b below row c.in-Some.spot f.link
            (λ none. f.found (places_of x b) (chain_are x b (none b below))) linked honest
            c.record_units-units.result c.record_units-units.ensures fewer,
      );
    }

pub returns-in_err-unlink-clause-refused : goal.returns-in_err-unlink-clause-refused
returns-in_err-unlink-clause-refused g c =
    handed_on c.from_residual.result c.in_err-unlink.field-0.0 _ c.from_residual.ensures.1 (λ told.
    let row : Row = record { kind = c.args.row.kind; key = c.args.row.key.now; number = c.args.row.number; place = c.args.row.place } in
    drop_memory (g.D.Disk.files c.args.disk.now).idx (row ∷ []) c.args.self.now c.in_err-unlink.field-0.0 c.in_err-unlink.ensures.memory)

pub returns-in_err-put_start-clause-refused : goal.returns-in_err-put_start-clause-refused
returns-in_err-put_start-clause-refused g c =
    handed_on c.from_residual-in_err-put_start.result c.in_err-put_start.field-0.0 _ c.from_residual-in_err-put_start.ensures.1 (λ told.
    let row : Row = record { kind = c.args.row.kind; key = c.args.row.key.now; number = c.args.row.number; place = c.args.row.place } in
    drop_memory (g.D.Disk.files c.args.disk.now).idx (row ∷ []) c.args.self.now c.in_err-put_start.field-0.0 c.in_err-put_start.ensures.memory)

pub returns-clause-refused : goal.returns-clause-refused
returns-clause-refused g c = if_err c.put_dropped.result _ _ (λ e is told.
    let row : Row = record { kind = c.args.row.kind; key = c.args.row.key.now; number = c.args.row.number; place = c.args.row.place } in
    drop_memory (g.D.Disk.files c.args.disk.now).idx (row ∷ []) c.args.self.now e is) c.put_dropped.ensures.memory

pub returns-clause-starts : goal.returns-clause-starts
returns-clause-starts g c = on_ok c.put_dropped.result _ _ (λ put.
    let s = c.args.self.now in
    let b = c.bucket_of-bucket.result in
    let linked = subst (IsLinked s.extent.buckets s.extent.used) c.in-Some.is c.in-Ok.ensures.found.linked in
    let within = subst (IsWithin s.extent.used) c.in-Some.is c.in-Ok.ensures.found.within in
    record {
      stand = puts_each (λ (a : ℕ) (t : Start). StandsWithin s.extent.buckets s.extent.used t) (λ a. get nat_cmp c.args.starts.now a)
          (λ a. get nat_cmp c.put_start.new.starts a) b (record { before = c.in-Some.spot.before; at = c.in-Some.spot.behind })
          c.in_ok-put_start.ensures.put (record { linked = linked.0; within = within; front = linked.1 })
          (λ a t other is. c.requires.starts.stand a t is);
      chained = λ told.
          let x : Index = index_in s.extent.buckets (g.D.Disk.files c.args.disk.now).idx in
          let row : Row = record { kind = c.args.row.kind; key = c.args.row.key.now; number = c.args.row.number; place = c.args.row.place } in
          let f = subst (λ (o : Option Spot). IsRowFound x b (is_kept (λ p. contains nat_cmp s.dropped p)) row o) c.in-Some.is
          (c.in-Ok.ensures.found.found told) in
          starts_next x b (is_kept (λ p. contains nat_cmp s.dropped p)) (is_kept (λ p. contains nat_cmp c.put_dropped.new.dropped p)) row c.in-Some.spot
          (λ a. get nat_cmp c.args.starts.now a) (λ a. get nat_cmp c.put_start.new.starts a)
          (loses (λ p. contains nat_cmp s.dropped p) (λ p. contains nat_cmp c.put_dropped.new.dropped p) c.in-Some.spot.at put)
          (subst (IsSoundSpot x b) c.in-Some.is (c.in-Ok.ensures.found.sound told)) f.found c.in_ok-put_start.ensures.put (c.requires.starts.chained told);
    }) c.put_dropped.ensures.put
