use Rattle.std.proofs.Common.{◌≡◌, sym, ap, ◌∙◌, arith}
use Rattle.device.specs.Format.{count, needs}
use Rattle.section.proofs.Numbered.{at_place, how_many}
use Rattle.section.proofs.Subsections.{below-needed, below_other, has_room}
use Rattle.section.proofs.Writers.{with_bytes-with_bytes, writes}
use Rattle.section.proofs.writing.put_subsections.Goals as goal
use Rattle.section.proofs.writing.put_subsections.Goals.{then-needs, else-needs}

pub put_subsection-requires-clause-room : goal.put_subsection-requires-clause-room
put_subsection-requires-clause-room g c =
    let f = g.D.Movable.format in
    let s = g.D.Device.meaning c.args.device.now in
    let here = at_place g.D.Movable.numbered _ (count f) c.subsections-all.ensures (omega arith) c.subsection-item.is in
    let needed = sym (ap (needs f s) here.0) ∙ sym c.needs.ensures ∙ c.if-needs.true in
    let room = has_room f s c.loop-subsection.subsection-index (count f) here.1 needed in
    rw here.0 (grind (arith, writes, room))

pub loop-subsection-preserved : goal.loop-subsection-preserved
loop-subsection-preserved g c =
    let f = g.D.Movable.format in
    let s = g.D.Device.meaning c.args.device.now in
    let k = c.loop-subsection.subsection-index in
    let here = at_place g.D.Movable.numbered _ (count f) c.subsections-all.ensures (omega arith) c.subsection-item.is in
    let before = c.loop-subsection.invariant.0 in
    elim c.if-needs.branch [
      | then-needs w ↦
          let needed = sym (ap (needs f s) here.0) ∙ sym w.if-needs.ensures in
          let wrote = rw here.0 at w.put_subsection.ensures in
          (simp (w.writer-is, wrote, before, with_bytes-with_bytes, below-needed f s k needed), omega arith)
      | else-needs w ↦
          let other = sym (ap (needs f s) here.0) ∙ sym w.if-needs.ensures in
          (simp (w.writer-is, before, below_other f s k other), omega arith)
    ]

pub returns : goal.returns
returns g c =
    let f = g.D.Movable.format in
    let many = how_many g.D.Movable.numbered _ (count f) c.subsections-all.ensures in
    let end : c.loop-subsection.subsection-index ≡ count f = omega arith in
    rw (← end) c.loop-subsection.invariant.0
