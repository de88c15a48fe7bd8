-- What is read of memory that spells a box is of the box.
use Rattle.std.proofs.Common.{◌≡◌, ℕ, ◌+◌, ◌<◌, true, List, [], ◌∷◌, sym, subst, arith}
use Rattle.std.specs.List.{AllByRecursion}
use Rattle.crossbox.specs.declared.Cell.{Cell}
use Rattle.crossbox.specs.Cells.{is_in}
use Rattle.crossbox.specs.Box.{Box}
use Rattle.crossbox.proofs.Cells.{same_refl}
use Rattle.crossbox.proofs.Shape.{Directed}
use Rattle.buffer.specs.Memory.{Mem}
use Rattle.cioq.specs.State.{State, Good, Aimed}
use Rattle.cioq.specs.Spells.{Spells, box_of}
use Rattle.cioq.proofs.Lists.{spelled-cells}

-- lists and stores are those of the box
pub spelled_list : (bytes : Cell → List ℕ) (n : ℕ) (m : Mem) (b : Box) → Spells bytes n m b → (i : ℕ) → i < n → (box_of n m).waiting i ≡ b.waiting i
spelled_list bytes n m b sp i h = spelled-cells bytes m i (b.waiting i) (sp.lists i h)

pub spelled_store : (bytes : Cell → List ℕ) (n : ℕ) (m : Mem) (b : Box) → Spells bytes n m b → (o : ℕ) → o < n → (box_of n m).store o ≡ b.store o
spelled_store bytes n m b sp o h = spelled-cells bytes m (n + o) (b.store o) (sp.stores o h)

aims : (l : List Cell) → ((c : Cell) → is_in c l ≡ true → c.output < 32) → AllByRecursion (λ (c : Cell). c.output < 32) l
unfolding is_in
aims [] f = tt
aims (c ∷ l) f = (f c (let s = same_refl c in grind (arith, s)), aims l (λ d h. f d (grind arith)))

-- waiting cells of a box that is spelled are for outputs that are there
pub spelled_aimed : (bytes : Cell → List ℕ) (s : State) (b : Box) → Good s → Spells bytes s.lines s.mem b → Directed s.lines b → Aimed s
spelled_aimed bytes s b g sp d i h =
    subst (λ (l : List Cell). AllByRecursion (λ (c : Cell). c.output < 32) l) (sym (spelled_list bytes s.lines s.mem b sp i h))
    (aims (b.waiting i) (λ c l. let f = d i c l in omega (arith, g.few)))
