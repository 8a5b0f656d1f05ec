use Rattle.std.proofs.Common.{append_assoc, arith}
use Rattle.std.proofs.lemmas.List.{append-nil}
use Rattle.section.proofs.Writers.{with_bytes-with_bytes, writes}
use Rattle.section.proofs.writing.put_subsection.Goals as goal

pub put_subsection_body-requires-after_bounds : goal.put_subsection_body-requires-after_bounds
put_subsection_body-requires-after_bounds g c =
    grind (arith, writes, c.title-title.ensures, c.lawful.ensures.formed.sub-size, g.met.D.Device.sound)

pub returns : goal.returns
returns g c =
    let ends = rw c.put_number.ensures at c.put_subsection_body.ensures in
    simp (ends, c.put-2.ensures, c.put.ensures, c.title-title.ensures, with_bytes-with_bytes, append_assoc, append-nil)
