use Rattle.std.proofs.Common.{◌++◌, length, refl, ap, ◌∙◌, append_assoc, arith}
use Rattle.std.proofs.lemmas.List.{length-append, length-take, length-drop}
use Rattle.section.proofs.Writes.{start, step}
use Rattle.tree.specs.Stream.{names, written, layout}
use Rattle.tree.proofs.Sections.{length-names}
use Rattle.tree.proofs.bus.BusNode.write_sections.Goals as goal

pub write_sections-requires : goal.write_sections-requires
write_sections-requires g c =
    let l = g.L.Node.model in
    let before = c.args.before.now in
    let named = ap length c.write_sections-n.ensures.names in
    record {
      few = omega (arith, length-append before (names l), length-names l);
      room = simp (length-take, length-drop) (omega arith);
    }
