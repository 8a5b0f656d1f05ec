use Rattle.std.proofs.Common.{◌∙◌, ap, map, rules, tests}
use Rattle.std.proofs.lemmas.Iterator.{YieldsList-from_slice}
use Rattle.std.proofs.lemmas.Iterator.Consumers.{count_from_yields_List, YieldsList-from_filter}
use Rattle.std.proofs.lemmas.List.Sums.{length-filter}
use Rattle.device.specs.Bytes.{same}
use Rattle.section.specs.Layout.{times}
use Rattle.section.proofs.Counting.{times-counted}
use Rattle.section.proofs.names.NamesBefore.instance.Goals as goal

pub returns : goal.returns
returns c =
    let name = c.args.name.now in
    let names = c.as_slice-names.result.now in
    count_from_yields_List c.filter.result _ c.count.ensures.ran
    (YieldsList-from_filter _ (λ known. same name known.now) (YieldsList-from_slice names cc) c.filter.ensures.closure (λ x b q k. search (rules, tests)))
    ∙ length-filter (λ known. same name known.now) names ∙ times-counted name names ∙ ap (λ ns. times name (map (λ n. n.now) ns)) c.as_slice-names.ensures.value
    ∙ ap (times name) c.self.view_is
