use Rattle.std.proofs.Common.{ap, subst}
use Rattle.words.specs.declared.read.Kind.{Kind}
use Rattle.switch.specs.Respond.{Verdict, by_kind}
use Rattle.switch.specs.Taking.{Takes}
use Rattle.switch.proofs.take.Goals as goal

pub returns-in_default-Settings : goal.returns-in_default-Settings
returns-in_default-Settings g c st h =
    subst (λ (v : Verdict). Takes g.S.Switch.shows g.S.Switch.lent (g.S.Switch.width c.args.switch.now) st c.args.switch.now c.take_settings.new.switch c.take_settings.result c.args.answer.now c.take_settings.new.answer v)
    (ap (λ (k : Kind). by_kind st k c.args.word.now) c.in_default-Settings.ensures) (c.take_settings.ensures st)
