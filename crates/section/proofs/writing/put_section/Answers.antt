use Rattle.std.proofs.Common.{◌≡◌, arith}
use Rattle.device.specs.Format.{section_by}
use Rattle.section.specs.Layout.{laid}
use Rattle.section.specs.Writer.{with_bytes}
use Rattle.section.proofs.Sizes.{length-identity, length-laid}
use Rattle.section.proofs.Writers.{then, writes}
use Rattle.section.proofs.writing.put_section.Goals as goal

pub put_body-requires-after_bounds : goal.put_body-requires-after_bounds
put_body-requires-after_bounds g c =
    grind (arith, writes, length-identity, c.lawful.ensures.formed.body-size, g.met.D.Device.sound)

pub put_subsections-requires-after_bounds : goal.put_subsections-requires-after_bounds
put_subsections-requires-after_bounds g c =
    grind (arith, writes, length-identity, c.lawful.ensures.formed.body-size, g.met.D.Device.sound)

pub returns : goal.returns
returns g c =
    let f = g.D.Movable.format in
    let x = section_by f c.args.edition (g.D.Device.meaning c.args.device.now) in
    let size = length-laid g.D.Device.kind f c.args.before.now x in
    let id = rw c.name.ensures at c.put_identity.ensures in
    let version = rw c.writes-version.ensures at c.put_number.ensures in
    let body = rw c.writes-version.ensures at c.put_body.ensures in
    let end = then _ _ _ c.put_subsections.ensures (then _ _ _ c.put-2.ensures c.put_leaf_number.ensures) in
    let whole : c.put_leaf_number.new.self ≡ with_bytes c.new-writer.result (laid g.D.Device.kind f c.args.before.now x) =
    then _ _ _ c.put.ensures (then _ _ _ id (then _ _ _ version (then _ _ _ body end))) in
    grind (arith, writes, whole, size, c.new-writer.ensures)
