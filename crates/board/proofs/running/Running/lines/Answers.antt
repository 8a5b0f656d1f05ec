use Rattle.std.proofs.Common.{◌∙◌}
use Rattle.tree.proofs.Lines as lines
use Rattle.board.proofs.running.Running.lines.Goals as goal

pub returns-clause-all : goal.returns-clause-all
returns-clause-all g c =
    let board = c.args.self.now in
    λ few. c.lines.ensures ∙ lines.all_shown g.T.Node.model (g.T.Node.state board.tree) few
