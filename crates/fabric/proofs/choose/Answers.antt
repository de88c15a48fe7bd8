use Rattle.std.proofs.Common.{ℕ, ◌≤◌, sym, subst, arith}
use Rattle.matching.specs.Table.{Ties, Finds}
use Rattle.matching.proofs.Making.{table_alike, table_ties}
use Rattle.fabric.proofs.Lists.{all_lists}
use Rattle.fabric.proofs.choose.Goals as goal

pub find-requires : goal.find-requires
find-requires c =
    let few : c.args.real.now.lines ≤ 32 = omega (arith, c.lines.ensures.lines, c.lines.ensures.few) in
    let b = c.requires.tied.0 in
    let t = c.requires.tied.1 in (
      c.lines.ensures.few,
      (
        b,
        subst (λ (n : ℕ). Ties c.tabulate.new.firsts n b) (sym c.lines.ensures.lines) (table_ties c.tabulate.new.firsts c.args.real.now.lines b few t.placed t.order (table_alike _ _ _ (all_lists c.args.real.now b t) c.tabulate.ensures)),
      ),
    )

pub returns : goal.returns
returns c =
    λ b t.
    let few : c.args.real.now.lines ≤ 32 = omega (arith, c.lines.ensures.lines, c.lines.ensures.few) in
    let ties = table_ties c.tabulate.new.firsts c.args.real.now.lines b few t.placed t.order (table_alike _ _ _ (all_lists c.args.real.now b t) c.tabulate.ensures) in
    subst (λ (n : ℕ). Finds c.find.result n b) c.lines.ensures.lines (c.find.ensures b (subst (λ (n : ℕ). Ties c.tabulate.new.firsts n b) (sym c.lines.ensures.lines) ties))
