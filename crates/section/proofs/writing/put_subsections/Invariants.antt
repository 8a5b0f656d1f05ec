use Rattle.std.proofs.Common.{◌≡◌, ◌≤◌}
use Rattle.device.specs.Format.{count}
use Rattle.section.specs.Writer.{with_bytes}
use Rattle.section.proofs.Subsections.{below}
use Rattle.section.proofs.writing.put_subsections.Given as goal

abbrev pub invariant-loop-subsection : goal.invariant-loop-subsection
invariant-loop-subsection g l =
    (l.writer ≡ with_bytes l.initial.writer (below g.D.Movable.format (g.D.Device.meaning l.device) l.subsection-index))
    × (l.subsection-index ≤ count g.D.Movable.format)
