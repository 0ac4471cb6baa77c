use Rattle.std.proofs.Common.{◌++◌, sym, subst, ap, ◌∙◌}
use Rattle.rpm_outside.proofs.Vocabulary.{IsPrefix, handed, held_bytes, inner}
use Rattle.rpm_outside.proofs.Buffering.{write_grows, more_held, all_held, wrote_past}
use Rattle.rpm_outside.proofs.puts.BufferedSink.write.Goals as goal

pub returns-then-keep-clause-follows : goal.returns-then-keep-clause-follows
returns-then-keep-clause-follows g c =
    let old = c.args.self.now in
    let new = c.keep.new.self in (
      subst (g.O.Sink.follows (inner old)) (sym c.keep.ensures.inner) (g.met.O.Sink.follows_refl (inner old)),
      λ told. more_held (g.O.Sink.taken (inner old)) (g.O.Sink.taken (inner new)) (held_bytes old) (held_bytes new) c.args.bytes.now
          (ap g.O.Sink.taken c.keep.ensures.inner) (c.keep.ensures.kept c.if-keep.true),
    )

pub returns-in_err-flush-clause-follows : goal.returns-in_err-flush-clause-follows
returns-in_err-flush-clause-follows g c =
    let old = c.args.self.now in
    let mid = c.keep.new.self in
    let new = c.flush.new.self in
    let taken = g.O.Sink.taken in (
      subst (λ (o : _). g.O.Sink.follows o (inner new)) c.keep.ensures.inner c.flush.ensures.goes_on,
      λ told. all_held (taken (inner old)) (taken (inner new)) (held_bytes old) (held_bytes new)
          (handed g.O.Sink.tells (taken (inner mid)) (taken (inner new)) c.flush.ensures.out (held_bytes mid) (held_bytes new) c.flush.ensures.gained
          c.flush.ensures.whole told
          ∙ ap (λ (y : _). taken y ++ held_bytes mid) c.keep.ensures.inner ∙ ap (λ (y : _). taken (inner old) ++ y) (c.keep.ensures.same c.if-keep.false)),
    )

pub returns-clause-follows : goal.returns-clause-follows
returns-clause-follows g c =
    let old = c.args.self.now in
    let mid = c.keep.new.self in
    let out = c.flush.new.self in
    let last = c.keep-2.new.self in
    let taken = g.O.Sink.taken in
    let flushed = subst (λ (o : _). g.O.Sink.follows o (inner out)) c.keep.ensures.inner c.flush.ensures.goes_on in
    let wrote = subst (λ (o : _). g.O.Sink.follows o c.write.new.self) c.keep-2.ensures.inner c.write.ensures.follows in (
      g.met.O.Sink.follows_trans (inner old) (inner out) c.write.new.self flushed wrote,
      λ told. wrote_past (taken (inner old)) (taken (inner out)) (taken c.write.new.self) (held_bytes old) (held_bytes out) (held_bytes last)
          (handed g.O.Sink.tells (taken (inner mid)) (taken (inner out)) c.flush.ensures.out (held_bytes mid) (held_bytes out) c.flush.ensures.gained
          c.flush.ensures.whole told
          ∙ ap (λ (y : _). taken y ++ held_bytes mid) c.keep.ensures.inner ∙ ap (λ (y : _). taken (inner old) ++ y) (c.keep.ensures.same c.if-keep.false))
          c.in_ok-flush.ensures.none (c.keep-2.ensures.same c.if-keep-2.false ∙ c.in_ok-flush.ensures.none)
          (subst (λ (y : _). IsPrefix (taken y) (taken c.write.new.self)) c.keep-2.ensures.inner (write_grows g.O.Sink.tells (taken (inner last))
          (taken c.write.new.self) c.args.bytes.now c.write.result c.write.ensures.taken c.write.ensures.nothing told)),
    )
