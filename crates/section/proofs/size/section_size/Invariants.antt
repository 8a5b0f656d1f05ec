use Rattle.std.proofs.Common.{◌≡◌, ◌+◌, ◌*◌, ◌≤◌, length}
use Rattle.device.specs.Format.{count}
use Rattle.section.proofs.Subsections.{below}
use Rattle.section.proofs.size.section_size.Given as goal

abbrev pub invariant-loop-subsection : goal.invariant-loop-subsection
invariant-loop-subsection g l =
    let f = g.D.Movable.format in
    let s = g.D.Device.meaning l.device in
    let body = f.body (f.edition l.edition).writes s in
    (l.n ≡ 19 + length g.D.Device.kind.name + length body + length (below f s l.subsection-index))
    × (l.n ≤ 1059 + 1062 * l.subsection-index)
    × (l.subsection-index ≤ count f)
