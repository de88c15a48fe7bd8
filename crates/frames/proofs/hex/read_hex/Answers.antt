use Rattle.std.proofs.Common.{vec_items, refl, ap, ◌∙◌, arith}
use Rattle.frames.specs.declared.hex.Reading.TheVariants.{Whole}
use Rattle.frames.specs.Reading.{comes_to}
use Rattle.frames.proofs.Reading.{comes_start, spells, spells-none}
use Rattle.frames.proofs.hex.read_hex.Goals as goal

pub loop-c-init : goal.loop-c-init
loop-c-init c =
    let line = c.args.line.now in
    let empty = c.reserve.ensures.items ∙ c.clear.ensures.items in
    (ap (λ z. comes_to Whole z line) empty ∙ comes_start line, tt, omega arith, refl)

pub returns-in-Whole-clause-value : goal.returns-in-Whole-clause-value
returns-in-Whole-clause-value c =
    let some = spells (vec_items c.loop-c.word) c.args.line.now c.loop-c.c-index c.loop-c-test.false (rw c.in-Whole.is at c.loop-c.invariant.0) in
    grind arith

pub returns-in-Whole-clause-items : goal.returns-in-Whole-clause-items
returns-in-Whole-clause-items c =
    let some = spells (vec_items c.loop-c.word) c.args.line.now c.loop-c.c-index c.loop-c-test.false (rw c.in-Whole.is at c.loop-c.invariant.0) in
    grind arith

pub returns-in-Half : goal.returns-in-Half
returns-in-Half c =
    let none =
    spells-none (vec_items c.loop-c.word) c.args.line.now c.loop-c.c-index c.loop-c-test.false c.loop-c.reading c.in-Half.is
    c.loop-c.invariant.0 in
    record { value = grind arith; items = grind arith; succeeds = λ _. refl }
