use Rattle.std.proofs.Common.{◌≡◌, true, false, Some, sym, ap, ◌∙◌, arith, rules, tests}
use Rattle.std.proofs.lemmas.Iterator.{YieldsList-from_slice}
use Rattle.std.proofs.lemmas.Iterator.Search.{find_from_yields_List}
use Rattle.device.specs.Format.{count, needs}
use Rattle.section.proofs.Unknown.{bars, find-unknown}
use Rattle.section.proofs.carrying.first_unknown.Goals as goal

pub returns : goal.returns
returns g c =
    let f = g.D.Movable.format in
    let s = g.D.Device.meaning c.args.device.now in
    let e = c.args.edition in
    let n = g.D.Movable.numbered in
    let found = find_from_yields_List (bars f e s n) _ _ c.find.result c.find.ensures.ran (YieldsList-from_slice c.subsections.result.now cc) (λ x b q k. search (rules, tests)) in
    let all = find-unknown f e s n 0 (count f) c.subsections.result.now c.subsections.ensures in
    search (rules, tests)
