-- Laws of `same` and `earlier`: one cell or two, and their order.
use Rattle.std.proofs.Common.{◌≡◌, ℕ, ◌<◌, true, false, ap, ◌∙◌, arith}
use Rattle.std.proofs.lemmas.Bool.Decides.{nat_tests}
use Rattle.crossbox.specs.declared.Cell.{Cell}
use Rattle.crossbox.specs.Cells.{earlier, same}

abbrev cell : ℕ → ℕ → ℕ → Cell
cell t i o = record { slot = t; input = i; output = o }

pub cell_eq : (c d : Cell) → c.slot ≡ d.slot → c.input ≡ d.input → c.output ≡ d.output → c ≡ d
cell_eq c d p q r =
    ap (λ t. cell t c.input c.output) p ∙ (ap (λ i. cell d.slot i c.output) q ∙ ap (λ o. cell d.slot d.input o) r)

pub same_eq : (c d : Cell) → same c d ≡ true → c ≡ d
unfolding same
same_eq c d h = cell_eq c d (grind (arith, nat_tests)) (grind (arith, nat_tests)) (grind (arith, nat_tests))

pub same_refl : (c : Cell) → same c c ≡ true
unfolding same
same_refl c = grind (arith, nat_tests)

pub same_sym : (c d : Cell) → same c d ≡ same d c
unfolding same
same_sym c d = grind (arith, nat_tests)

pub same_output : (c d : Cell) → same c d ≡ true → c.output ≡ d.output
unfolding same
same_output c d h = grind (arith, nat_tests)

pub same_input : (c d : Cell) → same c d ≡ true → c.input ≡ d.input
unfolding same
same_input c d h = grind (arith, nat_tests)

pub same_slot : (c d : Cell) → same c d ≡ true → c.slot ≡ d.slot
unfolding same
same_slot c d h = grind (arith, nat_tests)

pub earlier_self : (c : Cell) → earlier c c ≡ false
unfolding earlier
earlier_self c = grind (arith, nat_tests)

pub earlier-not : (c d : Cell) → earlier c d ≡ true → earlier d c ≡ false
unfolding earlier
earlier-not c d h = grind (arith, nat_tests)

pub earlier_trans : (c d e : Cell) → earlier c d ≡ true → earlier d e ≡ true → earlier c e ≡ true
unfolding earlier
earlier_trans c d e h k = grind (arith, nat_tests)

pub earlier_slot : (c d : Cell) → c.slot < d.slot → earlier c d ≡ true
unfolding earlier
earlier_slot c d h = grind (arith, nat_tests)

-- of two cells for one output that are not one, the one is earlier or the other
pub earlier_other : (c d : Cell) → c.output ≡ d.output → same c d ≡ false → earlier c d ≡ false → earlier d c ≡ true
unfolding earlier same
earlier_other c d p h k = grind (arith, nat_tests)

-- two cells of which one is earlier are not one
pub earlier_differs : (c d : Cell) → earlier c d ≡ true → same c d ≡ false
unfolding earlier same
earlier_differs c d h = grind (arith, nat_tests)
