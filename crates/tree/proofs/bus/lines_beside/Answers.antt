use Rattle.std.proofs.Common.{◌∙◌, arith}
use Rattle.tree.specs.Tree.{leaves, lines}
use Rattle.tree.proofs.Lines.{joined, left_alone}
use Rattle.tree.proofs.bus.lines_beside.Goals as goal

pub returns-then-below-ge16 : goal.returns-then-below-ge16
returns-then-below-ge16 g c =
    c.lines.ensures
    ∙ left_alone (lines g.L.Node.model (g.L.Node.state c.args.left.now)) (lines g.R.Node.model (g.R.Node.state c.args.right.now))
    (leaves g.L.Node.model) c.leaves-below.result c.leaves-below.ensures c.if-below-ge16.true

pub returns : goal.returns
returns g c =
    let l = lines g.L.Node.model (g.L.Node.state c.args.left.now) in
    let r = lines g.R.Node.model (g.R.Node.state c.args.right.now) in
    let left = c.lines-2.ensures in
    let right = c.lines-3.ensures in
    let both = joined l r (leaves g.L.Node.model) c.leaves-below.result c.leaves-below.ensures (omega (arith, c.if-below-ge16.false)) in
    cc
