use Rattle.std.proofs.Common.{sym, ◌∷◌, ◌∙◌}
use Rattle.frames.proofs.Reading.{on-blank, on-high, on-low, on-other, comes_wrong}
use Rattle.frames.proofs.hex.read_on.Goals as goal

pub returns-then-is_blank-clause-comes : goal.returns-then-is_blank-clause-comes
returns-then-is_blank-clause-comes c = λ cs. on-blank _ _ cs _ (sym c.if-is_blank.ensures)

pub returns-in_default-clause-comes : goal.returns-in_default-clause-comes
returns-in_default-clause-comes c =
    λ cs. on-other _ _ cs _ (sym c.if-is_blank.ensures) (sym c.in_default.ensures.value)

pub returns-in-Whole-clause-comes : goal.returns-in-Whole-clause-comes
returns-in-Whole-clause-comes c =
    λ cs. rw c.in-Whole.is (on-high _ cs _ _ (sym c.if-is_blank.ensures) (sym c.in-Some.ensures.value))

pub returns-in-Half-clause-comes : goal.returns-in-Half-clause-comes
returns-in-Half-clause-comes c =
    λ cs. rw (c.in-Half.is, c.push_reserved.ensures.items)
    (on-low _ cs _ _ _ (sym c.if-is_blank.ensures) (sym c.in-Some.ensures.value))

pub returns-in-Wrong-clause-comes : goal.returns-in-Wrong-clause-comes
returns-in-Wrong-clause-comes c = λ cs. rw c.in-Wrong.is (comes_wrong _ cs ∙ sym (comes_wrong _ (c.args.c ∷ cs)))
