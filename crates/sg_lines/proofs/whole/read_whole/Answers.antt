use Rattle.std.proofs.Common.{arith, ◌≡◌, ◌<◌, ◌++◌, length, take}
use Rattle.sg_lines.specs.Counting.{no_line}
use Rattle.sg_lines.proofs.Counted.{fits-whole, after-then, nearer}
use Rattle.sg_lines.proofs.Taking.{took-all, none-left, took-more, some-taken, large}
use Rattle.sg_lines.proofs.whole.read_whole.Goals as goal

pub returns-in-Ok-eq0-clause-whole : goal.returns-in-Ok-eq0-clause-whole
returns-in-Ok-eq0-clause-whole g c =
    let room : 0 < length c.loop-bytes.piece = omega (arith, c.loop-bytes.invariant.room) in
    record {
      told = took-all _ _ _ _ _ _ _ c.in-Ok-eq0.field-0-test room c.loop-bytes.invariant.taken c.in-Ok-eq0.ensures.gives;
      at_end = none-left _ _ _ _ _ c.in-Ok-eq0.field-0-test room c.in-Ok-eq0.ensures.gives;
      fits = fits-whole _ _ c.loop-bytes.invariant.counted;
    }

pub returns-in-None-clause-unread : goal.returns-in-None-clause-unread
returns-in-None-clause-unread g c =
    large _ _ _ c.loop-bytes.count _ c.in-Ok.n c.loop-bytes.bytes.items _ c.loop-bytes.invariant.taken c.in-Ok.ensures.gives (omega (arith, c.in-Ok.ensures.within, c.loop-bytes.invariant.room))
    c.loop-bytes.invariant.counted c.in-None.ensures.none

pub loop-bytes-smaller : goal.loop-bytes-smaller
loop-bytes-smaller g c =
    let items : c.extend_from_slice.new.self.items ≡ c.loop-bytes.bytes.items ++ take c.in-Ok.n c.read.new.buf = c.in_ok-extend_from_slice-in-Ok.ensures.items in
    nearer c.loop-bytes.bytes.items (take c.in-Ok.n c.read.new.buf) _ c.in-Some.more items (some-taken c.in-Ok.n _ (omega (arith, c.in-Ok.ensures.within, c.read.auto.buf)) c.in-Ok.n-test.1)
    (rw items (after-then no_line c.loop-bytes.count c.in-Some.more c.loop-bytes.bytes.items _ c.loop-bytes.invariant.counted c.in-Some.ensures.some))

pub loop-bytes-preserved : goal.loop-bytes-preserved
loop-bytes-preserved g c =
    let items : c.extend_from_slice.new.self.items ≡ c.loop-bytes.bytes.items ++ take c.in-Ok.n c.read.new.buf = c.in_ok-extend_from_slice-in-Ok.ensures.items in
    record {
      counted = rw items (after-then no_line c.loop-bytes.count c.in-Some.more c.loop-bytes.bytes.items _ c.loop-bytes.invariant.counted c.in-Some.ensures.some);
      taken = rw items (took-more _ _ _ _ c.loop-bytes.bytes.items _ c.loop-bytes.invariant.taken c.in-Ok.ensures.gives);
      room = omega (arith, c.read.auto.buf, c.loop-bytes.invariant.room);
      faults = omega (arith, c.loop-bytes.invariant.faults, c.in-Ok.ensures.count);
    }
