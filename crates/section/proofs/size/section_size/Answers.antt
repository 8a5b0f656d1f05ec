use Rattle.std.proofs.Common.{◌≡◌, length, sym, ap, ◌∙◌, arith}
use Rattle.std.proofs.lemmas.List.{length-append}
use Rattle.device.specs.Format.{count, title, needs, sub_size}
use Rattle.section.specs.Layout.{subsections}
use Rattle.section.proofs.Numbered.{at_place, how_many}
use Rattle.section.proofs.Subsections.{one, below, below-needed, below_other, length-one}
use Rattle.section.proofs.size.section_size.Goals as goal
use Rattle.section.proofs.size.section_size.Goals.{then-needs, else-needs}

pub loop-subsection-preserved : goal.loop-subsection-preserved
loop-subsection-preserved g c =
    let f = g.D.Movable.format in
    let s = g.D.Device.meaning c.args.device.now in
    let k = c.loop-subsection.subsection-index in
    let items = c.subsections-subsection-items in
    let here = at_place g.D.Movable.numbered _ (count f) items.ensures (omega arith) c.subsection-item.is in
    elim c.if-needs.branch [
      | then-needs w ↦
          let own = c.lawful.ensures.formed in
          let name = ap length (w.title.ensures ∙ ap (title f) here.0) in
          let bytes = w.subsection_size.ensures ∙ ap (sub_size f) here.0 in
          let needed = sym (ap (needs f s) here.0) ∙ sym w.if-needs.ensures in
          let more = ap length (below-needed f s k needed) in
          let parts = length-append (below f s k) (subsections f (one f s k)) in
          let size = length-one f s k in
          let body = own.sub-size k s here.1 (g.met.D.Device.sound c.args.device.now) in
          let small = own.sub_small k here.1 in
          let short = own.title-length k here.1 in
          (omega (arith, w.n-is), omega (arith, w.n-is), omega arith)
      | else-needs w ↦
          let other = sym (ap (needs f s) here.0) ∙ sym w.if-needs.ensures in
          let same = ap length (below_other f s k other) in
          (omega (arith, w.n-is), omega (arith, w.n-is), omega arith)
    ]

pub returns : goal.returns
returns g c =
    let f = g.D.Movable.format in
    let s = g.D.Device.meaning c.args.device.now in
    let own = c.lawful.ensures.formed in
    let items = c.subsections-subsection-items in
    let many = how_many g.D.Movable.numbered _ (count f) items.ensures in
    let end : c.loop-subsection.subsection-index ≡ count f = omega arith in
    let all = ap (λ n. length (below f s n)) end in
    record { value = omega arith; bound = omega (arith, own.few) }
