use Rattle.std.proofs.Common.{◌≡◌, drop, None, sym, ◌∙◌, rules, tests}
use Rattle.std.proofs.lemmas.Iterator.{YieldsList-from_slice}
use Rattle.std.proofs.lemmas.Iterator.Adapters.{YieldsList-from_skip}
use Rattle.std.proofs.lemmas.Iterator.Search.{position_from_yields_List}
use Rattle.uart.specs.Stream.{zeros}
use Rattle.uart.proofs.Fields.{zeros-place}
use Rattle.uart.proofs.port.stream.check.nonzero.Goals as goal

pub returns-in_err-place : goal.returns-in_err-place
returns-in_err-place c =
    let none : None ≡ zeros c.args.from (drop c.args.from c.args.fields.now) =
    zeros-place c.args.from (drop c.args.from c.args.fields.now) _
    (sym c.in_err-place.was
    ∙ position_from_yields_List _ _ _ c.position.result c.position.ensures.ran
    (YieldsList-from_skip c.args.from (YieldsList-from_slice c.args.fields.now cc) cc) (λ x b q k. search (rules, tests))) in
    cc

pub returns : goal.returns
returns c =
    zeros-place c.args.from (drop c.args.from c.args.fields.now) _
    (sym c.in_ok-place.was
    ∙ position_from_yields_List _ _ _ c.position.result c.position.ensures.ran
    (YieldsList-from_skip c.args.from (YieldsList-from_slice c.args.fields.now cc) cc) (λ x b q k. search (rules, tests)))
