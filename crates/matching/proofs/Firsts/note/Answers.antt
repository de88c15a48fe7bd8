use Rattle.std.proofs.Common.{sym, ◌∙◌}
use Rattle.matching.proofs.Making.{noted-before, noted-now}
use Rattle.matching.proofs.Firsts.note.Goals as goal

pub returns-then-has : goal.returns-then-has
returns-then-has c =
    λ ls m e. noted-before c.args.self.now ls c.args.input c.args.cell m (sym c.has.ensures ∙ c.if-has.true)

pub returns : goal.returns
returns c =
    λ ls m e. noted-now c.args.self.now ls c.args.input c.args.cell m c.requires.0 c.requires.1 c.with.result c.args.place (sym c.has.ensures ∙ c.if-has.false) c.with.ensures.bits e
