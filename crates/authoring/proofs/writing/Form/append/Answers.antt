use Rattle.std.proofs.Common.{◌+◌, ◌≤◌, length, take, vec_items, ap, arith}
use Rattle.std.proofs.lemmas.List.{length-append, length-take}
use Rattle.events.specs.Entry.{entry_of}
use Rattle.writer.specs.Written.{written}
use Rattle.authoring.proofs.Parts.{part, one_more, all}
use Rattle.authoring.proofs.Steps.{written_whole}
use Rattle.authoring.proofs.writing.Form.append.Goals as goal

pub slice_bounds-part-end : goal.slice_bounds-part-end
slice_bounds-part-end g c =
    let w = written c.args.self.now.end (g.N.Numbering.text c.args.number) (entry_of c.args.event.now) in
    let p = part g.N.Numbering.GREATEST c.args.number w (vec_items c.args.stream.now) (vec_items c.loop-count.stream) c.loop-count.part c.write_numbered.new.out c.loop-count.from c.in-Some.count c.loop-count.invariant c.in-Some.ensures.count c.in-Some.ensures.out in
    omega (arith, p.fill, p.room)

pub slice_bounds-extend_from_slice-end : goal.slice_bounds-extend_from_slice-end
slice_bounds-extend_from_slice-end g c =
    let w = written c.args.self.now.end (g.N.Numbering.text c.args.number) (entry_of c.args.event.now) in
    let p = part g.N.Numbering.GREATEST c.args.number w (vec_items c.args.stream.now) (vec_items c.loop-count.stream) c.loop-count.part c.write_numbered.new.out c.loop-count.from c.in-Some.count c.loop-count.invariant c.in-Some.ensures.count c.in-Some.ensures.out in
    omega (arith, p.fill, p.room, length-take c.in-Some.count c.write_numbered.new.out)

pub returns-then-count-lt-PART : goal.returns-then-count-lt-PART
returns-then-count-lt-PART g c =
    let w = written c.args.self.now.end (g.N.Numbering.text c.args.number) (entry_of c.args.event.now) in
    let p = part g.N.Numbering.GREATEST c.args.number w (vec_items c.args.stream.now) (vec_items c.loop-count.stream) c.loop-count.part c.write_numbered.new.out c.loop-count.from c.in-Some.count c.loop-count.invariant c.in-Some.ensures.count c.in-Some.ensures.out in
    let all = all g.N.Numbering.GREATEST c.args.number w (vec_items c.args.stream.now) (vec_items c.loop-count.stream) c.loop-count.part c.write_numbered.new.out c.loop-count.from c.in-Some.count c.loop-count.invariant (vec_items c.extend_from_slice.new.self) p c.if-count-lt-PART.true c.in_ok-extend_from_slice.ensures.items in
    written_whole g.N.Numbering.GREATEST g.N.Numbering.text c.args.self.now.end c.args.number (entry_of c.args.event.now) (vec_items c.args.stream.now) (vec_items c.extend_from_slice.new.self) p.yes (omega arith) all

pub loop-count-smaller : goal.loop-count-smaller
loop-count-smaller g c =
    let w = written c.args.self.now.end (g.N.Numbering.text c.args.number) (entry_of c.args.event.now) in
    let p = part g.N.Numbering.GREATEST c.args.number w (vec_items c.args.stream.now) (vec_items c.loop-count.stream) c.loop-count.part c.write_numbered.new.out c.loop-count.from c.in-Some.count c.loop-count.invariant c.in-Some.ensures.count c.in-Some.ensures.out in
    omega (arith, p.fill, c.if-count-lt-PART.false)

pub loop-count-preserved : goal.loop-count-preserved
loop-count-preserved g c =
    let w = written c.args.self.now.end (g.N.Numbering.text c.args.number) (entry_of c.args.event.now) in
    let p = part g.N.Numbering.GREATEST c.args.number w (vec_items c.args.stream.now) (vec_items c.loop-count.stream) c.loop-count.part c.write_numbered.new.out c.loop-count.from c.in-Some.count c.loop-count.invariant c.in-Some.ensures.count c.in-Some.ensures.out in
    one_more g.N.Numbering.GREATEST c.args.number w (vec_items c.args.stream.now) (vec_items c.loop-count.stream) c.loop-count.part c.write_numbered.new.out c.loop-count.from c.in-Some.count c.loop-count.invariant (vec_items c.extend_from_slice.new.self) p c.if-count-lt-PART.false c.in_ok-extend_from_slice.ensures.items

pub overflow_add-from : goal.overflow_add-from
overflow_add-from g c =
    let w = written c.args.self.now.end (g.N.Numbering.text c.args.number) (entry_of c.args.event.now) in
    let p = part g.N.Numbering.GREATEST c.args.number w (vec_items c.args.stream.now) (vec_items c.loop-count.stream) c.loop-count.part c.write_numbered.new.out c.loop-count.from c.in-Some.count c.loop-count.invariant c.in-Some.ensures.count c.in-Some.ensures.out in
    let k = one_more g.N.Numbering.GREATEST c.args.number w (vec_items c.args.stream.now) (vec_items c.loop-count.stream) c.loop-count.part c.write_numbered.new.out c.loop-count.from c.in-Some.count c.loop-count.invariant (vec_items c.extend_from_slice.new.self) p c.if-count-lt-PART.false c.in_ok-extend_from_slice.ensures.items in
    let len : c.loop-count.from + c.in-Some.count ≤ length (vec_items c.extend_from_slice.new.self) = omega (arith, ap length k.stands, length-append (vec_items c.args.stream.now) (take (c.loop-count.from + c.in-Some.count) w), length-take (c.loop-count.from + c.in-Some.count) w, k.within) in
    omega (arith, len, c.extend_from_slice.new.self.ok.0, c.extend_from_slice.new.self.ok.1, c.extend_from_slice.new.self.small)
